-- Layers have one list of columns of their faces, whose rows are those of a text of the same features; and they are refused for one reason.
use Rattle.std.proofs.Common.{◌≡◌, ◌∙◌, ℕ, zero, suc, ◌<◌, ◌≤◌, List, [], ◌∷◌, length, map, take, get_or, refl, sym, ap, subst, arith}
use Rattle.std.proofs.Math.Logic.{∥∥₁_elim, ∥∥₁_map}
use Rattle.std.proofs.Props.{props}
use Rattle.std.specs.Prelude.{None, Some}
use Rattle.std.proofs.lemmas.Option.{get_or_from_slice_get, slice_get_within}
use Rattle.geom.specs.declared.fault.Fault.TheVariants.{TooManyTiles}
use Rattle.geom.specs.declared.point.Pt.{Pt}
use Rattle.grid.specs.Tiles.{Tiling, most_tiles, tile_count}
use Rattle.columns.specs.declared.fault.ColumnsFault.{ColumnsFault}
use Rattle.columns.specs.declared.layout.Columns.{Columns}
use Rattle.columns.specs.Refusals.{AreAccepted, AreRefused}
use Rattle.cover_law.specs.Rows.{Row}
use Rattle.cover_law.proofs.FaceLaws.{faces_are_one}
use Rattle.faces_text.specs.Text.{IsFacesText}
use Rattle.rows.specs.RowColumns.{AreRowColumns}
use Rattle.rows.specs.declared.row_columns.RowColumns.{RowColumns}
use Rattle.layers.specs.declared.plan.Plan.{Plan}
use Rattle.layers.specs.declared.columns_refused.FacesColumnsRefused.{FacesColumnsRefused}
use Rattle.layers.specs.declared.columns_refused.FacesColumnsRefused.TheVariants.{Layer, Run}
use Rattle.layers.specs.declared.faces_fault.FacesRefusal.TheVariants.{Usual, TooManyIds}
use Rattle.layers.specs.declared.faces_limits.FacesLimits.{FacesLimits}
use Rattle.engine.specs.declared.faces_report.FacesReport.{FacesReport}
use Rattle.layers.specs.ColumnLayers.{AllAccepted, IsBadColumns, MayRoundColumns, features_in}
use Rattle.engine.specs.FaceColumns.{AreFaceColumnsMade, AreFaceColumnsTold}
use Rattle.layers.specs.FaceColumnsRefusals.{IsFaceColumnsRefused, bad_layer, bad_tile, bad_workers, too_many, too_many_ids, too_many_tiles}
use Rattle.engine.specs.FaceColumnsLaws.{AreOfOneRows, AreOneRowColumns, FaceColumnsAreOne, FaceColumnsRefusalIsOne, FacesAreByColumns, RefusedFaceColumnsAreNotMade, RefusedMayNotRoundColumns}
use Rattle.engine.specs.Faces.{AreFacesWritten}
use Rattle.layers.specs.FacesRefusals.{HaveIds}
use Rattle.layers.specs.FeatureSegments.{all_features, all_steps}
use Rattle.layers.specs.FeatureLayers.{IsGridOverLayers, StandForLayers}
use Rattle.engine.proofs.FaceIds.{ids_of_rows, one_ids}
use Rattle.engine.proofs.LayersKnown.{one_list}
use Rattle.engine.proofs.OneRefusal.{grid_same}

-- ---- one list of rows
of_one_rows : {M : Type 0} (layers : List (List (List (List Pt)))) (text : List ℕ) (columns : RowColumns M) (is : IsFacesText layers text) (rows : List Row) → is.rows ≡ rows
    → AreRowColumns (map (λ (features : List (List (List Pt))). length features) layers) rows columns → AreOfOneRows layers text columns
of_one_rows layers text columns is rows e are = record {
  face_rows = is.rows;
  are_faces = is.are_faces;
  is_text = is.text_is;
  are_columns = subst (λ (rs : List Row). AreRowColumns (map (λ (features : List (List (List Pt))). length features) layers) rs columns) (sym e) are;
}

by_columns : (M N : Type 0) (limits other_limits : FacesLimits) (plan other : Plan) (texts : List (List ℕ)) (layers : List Columns) (text : List ℕ) (report : FacesReport M) (columns : RowColumns N) (told : FacesReport N)
    → StandForLayers texts (features_in layers) → AreFacesWritten limits plan texts text report → AreFaceColumnsMade other_limits other layers columns told → ∥ AreOfOneRows (features_in layers) text columns ∥₁
by_columns M N limits other_limits plan other texts layers text report columns told stand w made =
    let same : w.layers ≡ features_in layers = one_list texts w.layers (features_in layers) w.ready.stand stand in
    ∥∥₁_elim w.faces trunc (λ t. ∥∥₁_map made.faces (λ k.
    let is = subst (λ (ls : List (List (List (List Pt)))). IsFacesText ls text) same t.is_text in
    of_one_rows (features_in layers) text columns is k.face_rows (faces_are_one (all_features (features_in layers)) is.rows k.face_rows is.are_faces k.are_faces) k.are_columns))
  where
    trunc : IsProp ∥ AreOfOneRows (features_in layers) text columns ∥₁
    trunc = hlevel props

pub faces_are_by_columns : (M N : Type 0) → FacesAreByColumns M N
faces_are_by_columns M N = by_columns M N

-- ---- one list of columns
columns_prop : {M N : Type 0} (c : RowColumns M) (d : RowColumns N) → IsProp (AreOneRowColumns c d)
columns_prop c d = hlevel props

columns_of_one : {M N : Type 0} (counts : List ℕ) (rows : List Row) (c : RowColumns M) (d : RowColumns N) → AreRowColumns counts rows c → AreRowColumns counts rows d → AreOneRowColumns c d
columns_of_one counts rows c d h k = record {
  areas = h.areas ∙ sym k.areas;
  numbers = h.features.numbers ∙ sym k.features.numbers;
  offsets = h.features.offsets ∙ sym k.features.offsets;
  coordinates = h.polygons.have.points ∙ sym k.polygons.have.points;
  rings = h.polygons.have.offsets ∙ sym k.polygons.have.offsets;
  polygons = h.polygons.offsets ∙ sym k.polygons.offsets;
  begin = h.begin ∙ sym k.begin;
}

told_one : {M N : Type 0} (layers : List (List (List (List Pt)))) (g f : Tiling) (c : RowColumns M) (d : RowColumns N) (report : FacesReport M) (report' : FacesReport N)
    → AreFaceColumnsTold layers g c report → AreFaceColumnsTold layers f d report' → AreOneRowColumns c d
told_one layers g f c d report report' h k =
    let counts : List ℕ = map (λ (features : List (List (List Pt))). length features) layers in
    columns_of_one counts k.face_rows c d (subst (λ (rs : List Row). AreRowColumns counts rs c) (faces_are_one (all_features layers) h.face_rows k.face_rows h.are_faces k.are_faces) h.are_columns) k.are_columns

one_columns : (M N : Type 0) (limits other_limits : FacesLimits) (plan other : Plan) (layers others : List Columns) (c : RowColumns M) (d : RowColumns N) (report : FacesReport M) (report' : FacesReport N)
    → features_in layers ≡ features_in others → AreFaceColumnsMade limits plan layers c report → AreFaceColumnsMade other_limits other others d report' → AreOneRowColumns c d
one_columns M N limits other_limits plan other layers others c d report report' e h k =
    ∥∥₁_elim h.faces (columns_prop c d) (λ a. ∥∥₁_elim k.faces (columns_prop c d) (λ b.
    told_one (features_in others) h.grid k.grid c d report report' (subst (λ (ls : List (List (List (List Pt)))). AreFaceColumnsTold ls h.grid c report) e a) b))

pub face_columns_are_one : (M N : Type 0) → FaceColumnsAreOne M N
face_columns_are_one M N = one_columns M N

-- ---- one reason
some_fault : (c : Columns) (f g : ColumnsFault) → AreRefused c f → AreRefused c g → f ≡ g
some_fault c f g h k = let e : Some f ≡ Some g = sym h ∙ k in cc

not_both : (c : Columns) (f : ColumnsFault) → AreRefused c f → AreAccepted c → ⊥
not_both c f h k = absurd (let e : Some f ≡ None = sym h ∙ k in cc)

accepted_below : (layers : List Columns) (n : ℕ) → AllAccepted (take n layers) → (m : ℕ) → m < n → m < length layers → (d : Columns) → AreAccepted (get_or layers m d)
accepted_below [] n h m l k d = absurd (omega (arith, k))
accepted_below (c ∷ cs) zero h m l k d = absurd (omega (arith, l))
accepted_below (c ∷ cs) (suc n) h zero l k d = h.0
accepted_below (c ∷ cs) (suc n) h (suc m) l k d = accepted_below cs n h.1 m (omega (arith, l)) (omega (arith, k)) d

accepted_there : (layers : List Columns) → AllAccepted layers → (m : ℕ) → m < length layers → (d : Columns) → AreAccepted (get_or layers m d)
accepted_there [] h m k d = absurd (omega (arith, k))
accepted_there (c ∷ cs) h zero k d = h.0
accepted_there (c ∷ cs) h (suc m) k d = accepted_there cs h.1 m (omega (arith, k)) d

module _ (layers : List Columns) where
  there : (n : ℕ) (f : ColumnsFault) → IsBadColumns layers n f → n < length layers
  there n f b = slice_get_within layers n b.layer b.is_at

  layer_at : (n : ℕ) (f : ColumnsFault) (b : IsBadColumns layers n f) (d : Columns) → get_or layers n d ≡ b.layer
  layer_at n f b d = get_or_from_slice_get layers n b.layer d b.is_at

  bad_accepted : (n : ℕ) (f : ColumnsFault) → IsBadColumns layers n f → AllAccepted layers → ⊥
  bad_accepted n f b h = not_both b.layer f b.refused (subst AreAccepted (layer_at n f b b.layer) (accepted_there layers h n (there n f b) b.layer))

  not_before : (m n : ℕ) (f g : ColumnsFault) → IsBadColumns layers m f → IsBadColumns layers n g → m < n → ⊥
  not_before m n f g b c l = not_both b.layer f b.refused (subst AreAccepted (layer_at m f b b.layer) (accepted_below layers n c.accepted m l (there m f b) b.layer))

  same_layer : (m n : ℕ) (f g : ColumnsFault) → IsBadColumns layers m f → IsBadColumns layers n g → m ≡ n
  same_layer m n f g b c =
      let below = not_before m n f g b c in
      let above = not_before n m g f c b in
      omega (arith, below, above)

  same_fault : (m n : ℕ) (f g : ColumnsFault) → IsBadColumns layers m f → IsBadColumns layers n g → f ≡ g
  same_fault m n f g b c =
      let same : b.layer ≡ c.layer = sym (layer_at m f b b.layer) ∙ ap (λ (k : ℕ). get_or layers k b.layer) (same_layer m n f g b c) ∙ layer_at n g c b.layer in
      some_fault c.layer f g (subst (λ (x : Columns). AreRefused x f) same b.refused) c.refused

  one_layer : (m n : ℕ) (f g : ColumnsFault) → IsBadColumns layers m f → IsBadColumns layers n g → Layer m f ≡ Layer n g
  one_layer m n f g b c = ap (λ (k : ℕ). Layer k f) (same_layer m n f g b c) ∙ ap (λ (x : ColumnsFault). Layer n x) (same_fault m n f g b c)

none_prop : IsProp ⊥
none_prop = hlevel props

number_prop : (m n : ℕ) → IsProp (m ≡ n)
number_prop m n = hlevel props

above : (most m n : ℕ) → most < m → n ≤ most → m ≡ n → ⊥
above most m n h k e = omega (arith, h, k, e)

module _ (limits : FacesLimits) (plan : Plan) (layers : List Columns) where
  tiled : (g f : Tiling) → IsGridOverLayers (features_in layers) plan.side g → IsGridOverLayers (features_in layers) plan.side f → tile_count g ≡ tile_count f
  tiled g f o p = grid_same o.bounds p.bounds plan.side g f (all_steps (features_in layers)) o.are_bounds p.are_bounds o.is_grid p.is_grid

  ids_same : (m n : ℕ) → ∥ HaveIds (all_features (features_in layers)) m ∥₁ → ∥ HaveIds (all_features (features_in layers)) n ∥₁ → m ≡ n
  ids_same m n a b = ∥∥₁_elim a (number_prop m n) (λ p. ∥∥₁_elim b (number_prop m n) (λ q. one_ids (all_features (features_in layers)) m n p q))

  one : (f g : FacesColumnsRefused) → IsFaceColumnsRefused limits plan layers f → IsFaceColumnsRefused limits plan layers g → f ≡ g
  one f g (bad_tile n) (bad_tile m) = refl
  one f g (bad_tile n) (bad_workers s m) = absurd (n s)
  one f g (bad_tile n) (bad_layer s c) = absurd (n s.side)
  one f g (bad_tile n) (too_many s a l) = absurd (n s.side)
  one f g (bad_tile n) (too_many_tiles s a l t o u) = absurd (n s.side)
  one f g (bad_tile n) (too_many_ids t r i l) = absurd (n r.planned.side)
  one f g (bad_workers s n) (bad_tile m) = absurd (m s)
  one f g (bad_workers s n) (bad_workers t m) = refl
  one f g (bad_workers s n) (bad_layer t c) = absurd (n t.workers)
  one f g (bad_workers s n) (too_many t a l) = absurd (n t.workers)
  one f g (bad_workers s n) (too_many_tiles t a l i o u) = absurd (n t.workers)
  one f g (bad_workers s n) (too_many_ids t r i l) = absurd (n r.planned.workers)
  one f g (bad_layer s b) (bad_tile m) = absurd (m s.side)
  one f g (bad_layer s b) (bad_workers t m) = absurd (m s.workers)
  one f g (bad_layer s b) (bad_layer t c) = one_layer layers _ _ _ _ b c
  one f g (bad_layer s b) (too_many t a l) = absurd (bad_accepted layers _ _ b a)
  one f g (bad_layer s b) (too_many_tiles t a l i o u) = absurd (bad_accepted layers _ _ b a)
  one f g (bad_layer s b) (too_many_ids t r i l) = absurd (bad_accepted layers _ _ b r.accepted)
  one f g (too_many s h l) (bad_tile m) = absurd (m s.side)
  one f g (too_many s h l) (bad_workers t m) = absurd (m s.workers)
  one f g (too_many s h l) (bad_layer t c) = absurd (bad_accepted layers _ _ c h)
  one f g (too_many s h l) (too_many t a m) = refl
  one f g (too_many s h l) (too_many_tiles t a m c o u) = absurd (above limits.segments _ _ l m refl)
  one f g (too_many s h l) (too_many_ids t r i m) = absurd (above limits.segments _ _ l r.few refl)
  one f g (too_many_tiles s h l c o u) (bad_tile m) = absurd (m s.side)
  one f g (too_many_tiles s h l c o u) (bad_workers t m) = absurd (m s.workers)
  one f g (too_many_tiles s h l c o u) (bad_layer t b) = absurd (bad_accepted layers _ _ b h)
  one f g (too_many_tiles s h l c o u) (too_many t a m) = absurd (above limits.segments _ _ m l refl)
  one f g (too_many_tiles s h l c o u) (too_many_tiles t a m d z j) = ap (λ (n : ℕ). Run (Usual (TooManyTiles n))) (tiled c d o z)
  one f g (too_many_tiles s h l c o u) (too_many_ids t r i m) = absurd (above most_tiles _ _ u r.few_tiles (tiled c t o r.is_grid))
  one f g (too_many_ids c r i l) (bad_tile m) = absurd (m r.planned.side)
  one f g (too_many_ids c r i l) (bad_workers t m) = absurd (m r.planned.workers)
  one f g (too_many_ids c r i l) (bad_layer t b) = absurd (bad_accepted layers _ _ b r.accepted)
  one f g (too_many_ids c r i l) (too_many t a m) = absurd (above limits.segments _ _ m r.few refl)
  one f g (too_many_ids c r i l) (too_many_tiles t a m d o u) = absurd (above most_tiles _ _ u r.few_tiles (tiled d c o r.is_grid))
  one f g (too_many_ids c r i l) (too_many_ids d t j m) = ap (λ (n : ℕ). Run (TooManyIds n)) (ids_same _ _ i j)

  not_rounded : (f : FacesColumnsRefused) → IsFaceColumnsRefused limits plan layers f → MayRoundColumns limits.segments plan layers → (ids : ℕ) × (f ≡ Run (TooManyIds ids))
  not_rounded f (bad_tile n) (g, r) = absurd (n r.planned.side)
  not_rounded f (bad_workers s n) (g, r) = absurd (n r.planned.workers)
  not_rounded f (bad_layer s b) (g, r) = absurd (bad_accepted layers _ _ b r.accepted)
  not_rounded f (too_many s h l) (g, r) = absurd (above limits.segments _ _ l r.few refl)
  not_rounded f (too_many_tiles s h l c o u) (g, r) = absurd (above most_tiles _ _ u r.few_tiles (tiled c g o r.is_grid))
  not_rounded f (too_many_ids c r i l) may = (_, refl)

  module _ {M : Type 0} (columns : RowColumns M) (report : FacesReport M) (w : AreFaceColumnsMade limits plan layers columns report) where
    few : (ids : ℕ) → HaveIds (all_features (features_in layers)) ids → AreFaceColumnsTold (features_in layers) w.grid columns report → limits.ids < ids → ⊥
    few ids i t l = above limits.ids ids report.ids l w.few_ids (ids_of_rows (all_features (features_in layers)) ids t.face_rows i t.are_faces t.in_limit ∙ sym t.ids)

    not_made : (f : FacesColumnsRefused) → IsFaceColumnsRefused limits plan layers f → ⊥
    not_made f (bad_tile n) = n w.ready.planned.side
    not_made f (bad_workers s n) = n w.ready.planned.workers
    not_made f (bad_layer s b) = bad_accepted layers _ _ b w.ready.accepted
    not_made f (too_many s h l) = above limits.segments _ _ l w.ready.few refl
    not_made f (too_many_tiles s h l c o u) = above most_tiles _ _ u w.ready.few_tiles (tiled c w.grid o w.ready.is_grid)
    not_made f (too_many_ids c r i l) = ∥∥₁_elim i none_prop (λ j. ∥∥₁_elim w.faces none_prop (λ t. few _ j t l))

pub face_columns_refusal_is_one : FaceColumnsRefusalIsOne
face_columns_refusal_is_one = one

pub refused_may_not_round_columns : RefusedMayNotRoundColumns
refused_may_not_round_columns = not_rounded

pub refused_face_columns_are_not_made : (M : Type 0) → RefusedFaceColumnsAreNotMade M
refused_face_columns_are_not_made M limits plan layers f columns report r w = not_made limits plan layers columns report w f r
