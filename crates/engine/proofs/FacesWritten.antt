-- What is told of the faces of layers, from the borders of their features and the rows over these.
use Rattle.std.proofs.Common.{◌≡◌, ◌∙◌, ◌⊎◌, inl, inr, ℕ, ◌<◌, ◌≤◌, true, List, length, map, sym, ap, arith, subst}
use Rattle.std.proofs.Math.Logic.{∥∥₁_map}
use Rattle.std.specs.List.{All, AllPairs}
use Rattle.std.specs.Prelude.{IfOk, Ok, Result, Vec, sum}
use Rattle.std.proofs.lemmas.List.{length-map}
use Rattle.std.proofs.lemmas.Result.{IfOk-at_ok}
use Rattle.geom.specs.declared.point.Pt.{Pt}
use Rattle.geom.specs.declared.fault.Fault.TheVariants.{Memory}
use Rattle.grid.specs.Tiles.{Tiling, most_tiles}
use Rattle.cover_law.specs.declared.border.Border.{Border}
use Rattle.cover_law.specs.Changing.{has_some}
use Rattle.cover_law.specs.Cover.{AreBorders, Bordered, bordered}
use Rattle.cover_law.specs.Rows.{AreRows, Row}
use Rattle.faces_text.specs.Text.{rows_text}
use Rattle.rows.specs.Made.{ids_in, row_of}
use Rattle.rows.specs.RowEdges.{AreEdgesOfRows}
use Rattle.rows.specs.declared.edges.RowEdge.{RowEdge}
use Rattle.rows.specs.declared.runs.RowSet.{RowSet}
use Rattle.rows.specs.declared.parts.Row as made
use Rattle.layers.specs.declared.plan.Plan.{Plan}
use Rattle.layers.specs.declared.faces_fault.FacesFault.{FacesFault}
use Rattle.layers.specs.declared.faces_fault.FacesPart.{FacesPart}
use Rattle.layers.specs.declared.faces_fault.FacesPart.TheVariants.{Run}
use Rattle.layers.specs.declared.faces_fault.FacesRefusal.{FacesRefusal}
use Rattle.layers.specs.declared.faces_fault.FacesRefusal.TheVariants.{Usual, TooManyIds}
use Rattle.layers.specs.declared.faces_limits.FacesLimits.{FacesLimits}
use Rattle.engine.specs.declared.faces_report.FacesReport.{FacesReport}
use Rattle.engine.specs.declared.faces_run.FaceBorders.{FaceBorders}
use Rattle.layers.specs.declared.feature_segments.LayerSize.{LayerSize}
use Rattle.engine.specs.BoundedRows.{HaveManyIds, TellsManyIds}
use Rattle.engine.specs.FaceBorders.{borders_in}
use Rattle.engine.specs.FaceRows.{AreFaceSets}
use Rattle.layers.specs.FacesRefusals.{IsFacesRefusedAt, IsNumberOfIds, too_many_ids}
use Rattle.engine.specs.Faces.{AreBordersOver, AreFacesWritten, DeclinesFaces}
use Rattle.layers.specs.FeatureSegments.{all_features}
use Rattle.layers.specs.FeatureLayers.{AreCheckedLayers, MayRound}
use Rattle.engine.specs.Rounds.{IsRemade, TellsTiles}
use Rattle.engine.proofs.BordersOf.{ascend_in_rows, below_all, below_limit, borders_hold, edges_over, sizes_fit, some_hold}
use Rattle.engine.proofs.FacesOf.{faces_are, have_ids, owners_below}
use Rattle.engine.proofs.FacesRunning.{memory_declines, refused_declines}
use Rattle.engine.proofs.LayersKnown.{layers_ready}

module _ {M : Type 0} (limits : FacesLimits) (plan : Plan) (texts : List (List ℕ)) (n : ℕ) (g : Tiling) (known : ∥ AreCheckedLayers limits.segments plan texts n g ∥₁) (b : FaceBorders M) (over : AreBordersOver texts g b) where
  abbrev fs : List (List (List Pt))
  fs = all_features over.layers

  pub may : MayRound limits.segments plan texts
  may = (over.layers, g, layers_ready limits.segments plan texts n g known over.layers over.stand)

  -- what the borders have to be for the cover sets, and the rows for their text
  pub over_borders : AreBorders (borders_in b.rounded)
  over_borders = borders_hold over.layers g b over.of

  pub some_over : All (λ (c : Bordered). has_some c.features ≡ true) (borders_in b.rounded)
  some_over = some_hold over.layers g b over.of

  pub all_below : All (λ (f : ℕ). f < length fs) b.rounded.features.items
  all_below = below_all over.layers g b over.of

  pub below_most : All (λ (f : ℕ). f < 2147483647) b.rounded.features.items
  below_most = below_limit over.layers g b over.of

  pub counts_fit : sum (map (λ (z : LayerSize). z.features) b.sizes.items) ≤ 4294967295
  counts_fit = sizes_fit over.layers g b over.of

  pub sets_ascend : {N : Type 0} (rows : List (made.Row N)) → AreRows (length fs) (borders_in b.rounded) (map row_of rows) → All (λ (r : made.Row N). AllPairs (λ (f g : ℕ). f < g) r.features.items) rows
  sets_ascend rows h = ascend_in_rows over.layers g b over.of rows h

  pub few_tiles : length b.rounded.tiles.items ≤ most_tiles
  few_tiles =
      let each = over.of.tiles_are.one_each in
      let few = (layers_ready limits.segments plan texts n g known over.layers over.stand).few_tiles in
      omega (arith, each, few)

  -- the directed edges of rows that were found are those over the borders
  pub edges_of : (sets : List (List ℕ)) (edges : List RowEdge) (row_sets : List RowSet) (features : List ℕ) (borders : List Border) → features ≡ b.rounded.features.items → borders ≡ b.rounded.borders.items
      → AreFaceSets features (map (bordered features) borders) sets edges row_sets → AreEdgesOfRows (length fs) (borders_in b.rounded) sets edges
  edges_of sets edges row_sets features borders fs_are bs_are h = edges_over b.rounded (length fs) sets edges row_sets features borders all_below fs_are bs_are h

  -- too many features in all rows
  pub many_ids : (ids : ℕ) → IsNumberOfIds (length fs) (borders_in b.rounded) ids → limits.ids < ids → IsFacesRefusedAt limits plan texts Run (TooManyIds ids)
  many_ids ids number many = too_many_ids over.layers g (layers_ready limits.segments plan texts n g known over.layers over.stand)
      (have_ids fs over.of.segments over.of.owners over.of.are_segments over.of.in_limit b.rounded over.of.rounded ids number) many

  pub ids_refused : (f : FacesFault) (ids : ℕ) → IsNumberOfIds (length fs) (borders_in b.rounded) ids → (f.at ≡ Run) × (f.refusal ≡ TooManyIds ids) × (limits.ids < ids) → DeclinesFaces limits plan texts f.at f.refusal
  ids_refused f ids number h = refused_declines limits plan texts f.at f.refusal
      (subst (λ (p : FacesPart). IsFacesRefusedAt limits plan texts p f.refusal) (sym h.0) (subst (λ (x : FacesRefusal). IsFacesRefusedAt limits plan texts Run x) (sym h.1) (many_ids ids number h.2)))

  -- rows that were not made
  pub bounded_declines : (f : FacesFault) → TellsManyIds limits.ids (length fs) (borders_in b.rounded) f → DeclinesFaces limits plan texts f.at f.refusal
  bounded_declines f h = by h.why
    where
      by : (f.refusal ≡ Usual Memory) ⊎ HaveManyIds limits.ids (length fs) (borders_in b.rounded) f → DeclinesFaces limits plan texts f.at f.refusal
      by (inl is) = memory_declines limits plan texts f.at f.refusal may (h.at, is)
      by (inr many) = ids_refused f many.ids many.number (h.at, many.refusal, many.many)

  -- the answer
  pub written : {N : Type 0} (rows : List Row) (text : List ℕ) (report : FacesReport N) → AreRows (length fs) (borders_in b.rounded) rows → text ≡ rows_text (map (λ (z : LayerSize). z.features) b.sizes.items) rows
      → report.layers.items ≡ b.sizes.items → report.edges ≡ length b.rounded.borders.items → report.rows ≡ length rows → report.ids ≡ ids_in rows → report.ids ≤ limits.ids
      → TellsTiles b.rounded.tiles.items report.hot report.records report.tiles.items → report.remade ≡ b.rounded.remade → AreFacesWritten limits plan texts text report
  written rows text report are is layers edges many ids few told remade = record {
    layers = over.layers;
    grid = g;
    ready = layers_ready limits.segments plan texts n g known over.layers over.stand;
    faces = ∥∥₁_map over.of.rounded.borders (λ c.
        let e = c (length fs) (owners_below fs over.of.segments over.of.owners over.of.are_segments) in
        record {
          is_text = record {
            rows = rows;
            are_faces = faces_are fs over.of.segments over.of.owners over.of.are_segments over.of.in_limit b.rounded over.of.rounded e.0 e.1 e.2 rows are;
            text_is = is ∙ ap (λ (counts : List ℕ). rows_text counts rows) over.of.features_are;
          };
          edges = edges ∙ sym (length-map b.rounded.borders.items (bordered b.rounded.features.items)) ∙ ap (λ (bs : List Bordered). length bs) e.2;
          rows = many;
          ids = ids;
          tiles = b.rounded.tiles.items;
          tiles_are = over.of.tiles_are;
          told = told;
        });
    segments = ap (λ (zs : List LayerSize). map (λ (z : LayerSize). z.segments) zs) layers ∙ over.of.segments_are;
    features = ap (λ (zs : List LayerSize). map (λ (z : LayerSize). z.features) zs) layers ∙ over.of.features_are;
    few_ids = few;
    remade = subst IsRemade (sym remade) over.of.remade;
  }

  -- by what each step of the call answered
  pub made_written : {E F G : Type 0} (sets : List (List ℕ)) (edges : List RowEdge) (row_sets : List RowSet) (features : List ℕ) (borders : List Border) (sizes : List LayerSize) (given told : List (made.Row M)) (ids counted : ℕ)
      (rows_made : Result (Vec (made.Row M) M) E) (rows : Vec (made.Row M) M) (text_made : Result (List ℕ) F) (text : List ℕ) (report_made : Result (FacesReport M) G) (report : FacesReport M)
      → features ≡ b.rounded.features.items → borders ≡ b.rounded.borders.items → sizes ≡ b.sizes.items → given ≡ rows.items → told ≡ rows.items
      → AreFaceSets features (map (bordered features) borders) sets edges row_sets
      → ((count : ℕ) (es : List Bordered) (rs : List Row) → AreEdgesOfRows count es sets edges → AreRows count es rs → ids ≡ ids_in rs) → (counted ≡ ids) × (ids ≤ limits.ids)
      → rows_made ≡ Ok rows → ((count : ℕ) (es : List Bordered) → AreBorders es → AreEdgesOfRows count es sets edges → IfOk rows_made (λ v. AreRows count es (map row_of v.items)))
      → text_made ≡ Ok text → IfOk text_made (λ t. t ≡ rows_text (map (λ (z : LayerSize). z.features) sizes) (map row_of given))
      → report_made ≡ Ok report → IfOk report_made (λ r. r.layers ≡ b.sizes) → IfOk report_made (λ r. r.edges ≡ length b.rounded.borders.items) → IfOk report_made (λ r. (r.rows ≡ length told) × (r.ids ≡ counted))
      → IfOk report_made (λ r. TellsTiles b.rounded.tiles.items r.hot r.records r.tiles.items) → IfOk report_made (λ r. r.remade ≡ b.rounded.remade) → AreFacesWritten limits plan texts text report
  made_written sets edges row_sets features borders sizes given told ids counted rows_made rows text_made text report_made report fs_are bs_are zs_are given_are told_are of_sets ids_are few made_is of_rows text_is of_text report_is layers_are edges_are rows_are tiles_are remade_is =
      written (map row_of rows.items) text report of_made
      (IfOk-at_ok (λ t. t ≡ rows_text (map (λ (z : LayerSize). z.features) sizes) (map row_of given)) text_is of_text
      ∙ ap (λ (zs : List LayerSize). rows_text (map (λ (z : LayerSize). z.features) zs) (map row_of given)) zs_are
      ∙ ap (λ (rs : List (made.Row M)). rows_text (map (λ (z : LayerSize). z.features) b.sizes.items) (map row_of rs)) given_are)
      (ap (λ (v : Vec LayerSize M). v.items) (IfOk-at_ok (λ r. r.layers ≡ b.sizes) report_is layers_are))
      (IfOk-at_ok (λ r. r.edges ≡ length b.rounded.borders.items) report_is edges_are)
      (numbers.0 ∙ ap (λ (rs : List (made.Row M)). length rs) told_are ∙ sym (length-map rows.items row_of))
      (same_ids ∙ ids_are (length fs) (borders_in b.rounded) (map row_of rows.items) of_edges of_made)
      (subst (λ (n : ℕ). n ≤ limits.ids) (sym same_ids) few.1)
      (IfOk-at_ok (λ r. TellsTiles b.rounded.tiles.items r.hot r.records r.tiles.items) report_is tiles_are)
      (IfOk-at_ok (λ r. r.remade ≡ b.rounded.remade) report_is remade_is)
    where
      of_edges : AreEdgesOfRows (length fs) (borders_in b.rounded) sets edges
      of_edges = edges_of sets edges row_sets features borders fs_are bs_are of_sets

      of_made : AreRows (length fs) (borders_in b.rounded) (map row_of rows.items)
      of_made = IfOk-at_ok (λ v. AreRows (length fs) (borders_in b.rounded) (map row_of v.items)) made_is (of_rows (length fs) (borders_in b.rounded) over_borders of_edges)

      numbers : (report.rows ≡ length told) × (report.ids ≡ counted)
      numbers = IfOk-at_ok (λ r. (r.rows ≡ length told) × (r.ids ≡ counted)) report_is rows_are

      same_ids : report.ids ≡ ids
      same_ids = numbers.1 ∙ few.0
