-- How a call for the faces of columns ends, from what was checked and made.
use Rattle.std.proofs.Common.{◌≡◌, ◌∙◌, ◌⊎◌, inl, inr, ℕ, ◌≤◌, List, length, map, refl, sym, ap, arith, subst}
use Rattle.std.proofs.Math.Logic.{∥∥₁_map}
use Rattle.std.specs.Prelude.{Result, Ok, Err, IfOk, MatchResult, Vec}
use Rattle.std.proofs.lemmas.List.{length-map}
use Rattle.geom.specs.declared.fault.Fault.TheVariants.{LayerLong, Syntax, NumberRange, RingShort, RingOpen, TooManySegments, BadTile, BadWorkers, TooManyTiles, NotNoded, Memory, Write}
use Rattle.geom.specs.declared.fault.NoMemory.{NoMemory}
use Rattle.geom.specs.declared.point.Pt.{Pt}
use Rattle.grid.specs.Tiles.{most_tiles}
use Rattle.columns.specs.declared.layout.Columns.{Columns}
use Rattle.cover_law.specs.Cover.{Bordered, bordered}
use Rattle.rows.specs.RowColumns.{AreRowColumns}
use Rattle.rows.specs.Made.{row_of}
use Rattle.engine.specs.declared.bounded_rows.BoundedRows.{BoundedRows}
use Rattle.layers.specs.declared.column_layers.CheckedColumnLayers.{CheckedColumnLayers}
use Rattle.layers.specs.declared.plan.Plan.{Plan}
use Rattle.engine.specs.declared.faces_columns.FacesColumns.{FacesColumns}
use Rattle.layers.specs.declared.columns_refused.FacesColumnsRefused.{FacesColumnsRefused}
use Rattle.layers.specs.declared.columns_refused.FacesColumnsRefused.TheVariants.{Layer, Run}
use Rattle.layers.specs.declared.faces_fault.FacesFault.{FacesFault}
use Rattle.layers.specs.declared.faces_fault.FacesPart.TheVariants.{Run as OfRun}
use Rattle.layers.specs.declared.faces_fault.FacesRefusal.{FacesRefusal}
use Rattle.layers.specs.declared.faces_fault.FacesRefusal.TheVariants.{Usual, TooManyIds}
use Rattle.layers.specs.declared.faces_limits.FacesLimits.{FacesLimits}
use Rattle.engine.specs.declared.faces_run.FaceBorders.{FaceBorders}
use Rattle.layers.specs.declared.feature_segments.LayerSize.{LayerSize}
use Rattle.engine.specs.BoundedRows.{AreBoundedRows, HaveManyIds, TellsManyIds}
use Rattle.layers.specs.ColumnLayers.{IsCheckOfColumns, features_in}
use Rattle.engine.specs.FaceBorders.{borders_in}
use Rattle.engine.specs.FaceColumns.{AreColumnsOfBorders, AreFaceColumnsMade, DeclinesFaceColumns}
use Rattle.layers.specs.FaceColumnsRefusals.{IsFaceColumnsRefused, bad_layer, bad_tile, bad_workers, too_many, too_many_ids, too_many_tiles}
use Rattle.engine.specs.Faces.{AreBordersOf}
use Rattle.layers.specs.FeatureSegments.{all_features}
use Rattle.engine.specs.Rounds.{IsRemade}
use Rattle.engine.proofs.FacesOf.{faces_are, have_ids, owners_below}

-- ---- refusals
module _ (limits : FacesLimits) (plan : Plan) (layers : List Columns) where
  never_memory : (f : FacesColumnsRefused) → IsFaceColumnsRefused limits plan layers f → f ≡ Run (Usual Memory) → ⊥
  never_memory f (bad_tile n) e = cc
  never_memory f (bad_workers s n) e = cc
  never_memory f (bad_layer p b) e = cc
  never_memory f (too_many p a k) e = cc
  never_memory f (too_many_tiles p a k g o m) e = cc
  never_memory f (too_many_ids g r i m) e = cc

  pub refused_declines : (f : FacesColumnsRefused) → IsFaceColumnsRefused limits plan layers f → DeclinesFaceColumns limits plan layers f
  refused_declines (Layer n f) r = r
  refused_declines (Run (TooManyIds ids)) r = r
  refused_declines (Run (Usual Memory)) r = absurd (never_memory (Run (Usual Memory)) r refl)
  refused_declines (Run (Usual LayerLong)) r = r
  refused_declines (Run (Usual (Syntax o))) r = r
  refused_declines (Run (Usual (NumberRange o))) r = r
  refused_declines (Run (Usual (RingShort o))) r = r
  refused_declines (Run (Usual (RingOpen o))) r = r
  refused_declines (Run (Usual (TooManySegments n))) r = r
  refused_declines (Run (Usual BadTile)) r = r
  refused_declines (Run (Usual BadWorkers)) r = r
  refused_declines (Run (Usual (TooManyTiles n))) r = r
  refused_declines (Run (Usual (NotNoded e f))) r = r
  refused_declines (Run (Usual Write)) r = r

-- ---- by the borders of layers that were checked
module _ (layers : List Columns) (c : CheckedColumnLayers) (ready : IsCheckOfColumns layers c) where
  pub memory_declines : (f : FacesFault) → (f.at ≡ OfRun) × (f.refusal ≡ Usual Memory) → DeclinesFaceColumns c.limits c.plan layers (Run f.refusal)
  memory_declines f h = subst (λ (x : FacesRefusal). DeclinesFaceColumns c.limits c.plan layers (Run x)) (sym h.1) (c.grid, ready)

  module _ {M : Type 0} (b : FaceBorders M) (of : AreBordersOf (features_in layers) c.grid b) where
    abbrev fs : List (List (List Pt))
    fs = all_features (features_in layers)

    pub tiles_are_few : length b.rounded.tiles.items ≤ most_tiles
    tiles_are_few =
        let each = of.tiles_are.one_each in
        let few = ready.few_tiles in
        omega (arith, each, few)

    pub rows_decline : (f : FacesFault) → TellsManyIds c.limits.ids (length fs) (borders_in b.rounded) f → DeclinesFaceColumns c.limits c.plan layers (Run f.refusal)
    rows_decline f h = by h.why
      where
        by : (f.refusal ≡ Usual Memory) ⊎ HaveManyIds c.limits.ids (length fs) (borders_in b.rounded) f → DeclinesFaceColumns c.limits c.plan layers (Run f.refusal)
        by (inl is) = memory_declines f (h.at, is)
        by (inr many) = subst (λ (x : FacesRefusal). DeclinesFaceColumns c.limits c.plan layers (Run x)) (sym many.refusal)
            (refused_declines c.limits c.plan layers (Run (TooManyIds many.ids))
            (too_many_ids c.grid ready (have_ids fs of.segments of.owners of.are_segments of.in_limit b.rounded of.rounded many.ids many.number) many.many))

    pub columns_made : (rows : BoundedRows M) (made : FacesColumns M) → AreBoundedRows c.limits.ids (length fs) (borders_in b.rounded) rows → AreColumnsOfBorders b rows made
        → AreFaceColumnsMade c.limits c.plan layers made.columns made.report
    columns_made rows made bounded is = record {
      grid = c.grid;
      ready = ready;
      faces = ∥∥₁_map of.rounded.borders (λ k.
          let e = k (length fs) (owners_below fs of.segments of.owners of.are_segments) in
          record {
            face_rows = map row_of rows.rows.items;
            are_faces = faces_are fs of.segments of.owners of.are_segments of.in_limit b.rounded of.rounded e.0 e.1 e.2 (map row_of rows.rows.items) bounded.rows;
            in_limit = of.in_limit;
            are_columns = subst (λ (counts : List ℕ). AreRowColumns counts (map row_of rows.rows.items) made.columns) of.features_are is.columns;
            edges = is.edges ∙ sym (length-map b.rounded.borders.items (bordered b.rounded.features.items)) ∙ ap (λ (bs : List Bordered). length bs) e.2;
            rows = is.count ∙ sym (length-map rows.rows.items row_of);
            ids = is.ids ∙ bounded.ids;
            tiles = b.rounded.tiles.items;
            tiles_are = of.tiles_are;
            told = is.told;
          });
      segments = ap (λ (zs : Vec LayerSize M). map (λ (z : LayerSize). z.segments) zs.items) is.layers ∙ of.segments_are;
      features = ap (λ (zs : Vec LayerSize M). map (λ (z : LayerSize). z.features) zs.items) is.layers ∙ of.features_are;
      few_ids = subst (λ (n : ℕ). n ≤ c.limits.ids) (sym is.ids) bounded.few;
      remade = subst IsRemade (sym is.remade) of.remade;
    }

    pub ends : (rows : BoundedRows M) (made : Result (FacesColumns M) NoMemory) (answer : Result (FacesColumns M) FacesFault) → AreBoundedRows c.limits.ids (length fs) (borders_in b.rounded) rows
        → IfOk made (AreColumnsOfBorders b rows) → MatchResult answer (λ m. made ≡ Ok m) (λ f. (f.at ≡ OfRun) × (f.refusal ≡ Usual Memory))
        → MatchResult answer (λ m. AreFaceColumnsMade c.limits c.plan layers m.columns m.report) (λ f. DeclinesFaceColumns c.limits c.plan layers (Run f.refusal))
    ends rows made (Ok m) bounded h is = columns_made rows m bounded (subst (λ (t : Result (FacesColumns M) NoMemory). IfOk t (AreColumnsOfBorders b rows)) is h)
    ends rows made (Err f) bounded h is = memory_declines f is

-- ---- what was checked is what was given
module _ {M : Type 0} (limits checked : FacesLimits) (plan other : Plan) (layers : List Columns) (p : other ≡ plan) (l : checked ≡ limits) where
  pub made_as_given : (m : FacesColumns M) → AreFaceColumnsMade checked other layers m.columns m.report → AreFaceColumnsMade limits plan layers m.columns m.report
  made_as_given m h = subst (λ (x : Plan). AreFaceColumnsMade limits x layers m.columns m.report) p (subst (λ (x : FacesLimits). AreFaceColumnsMade x other layers m.columns m.report) l h)

pub declined_as_given : (limits checked : FacesLimits) (plan other : Plan) (layers : List Columns) (f : FacesColumnsRefused) → other ≡ plan → checked ≡ limits → DeclinesFaceColumns checked other layers f → DeclinesFaceColumns limits plan layers f
declined_as_given limits checked plan other layers f p l h = subst (λ (x : Plan). DeclinesFaceColumns limits x layers f) p (subst (λ (x : FacesLimits). DeclinesFaceColumns x other layers f) l h)
