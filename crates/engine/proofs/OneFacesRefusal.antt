-- A plan and layers are refused for one reason, and not where they are answered.
use Rattle.std.proofs.Common.{◌≡◌, ◌∙◌, ℕ, zero, suc, ◌<◌, ◌≤◌, List, [], ◌∷◌, length, take, get_or, refl, sym, ap, subst, arith}
use Rattle.std.proofs.Math.Logic.{∥∥₁_elim}
use Rattle.std.proofs.Props.{props}
use Rattle.std.proofs.lemmas.Int.{clamps}
use Rattle.std.proofs.lemmas.List.{get_or-take, length-take}
use Rattle.std.proofs.lemmas.Option.{get_or_from_slice_get, slice_get_within}
use Rattle.geom.specs.declared.fault.Fault.{Fault}
use Rattle.geom.specs.declared.fault.Fault.TheVariants.{TooManySegments, TooManyTiles}
use Rattle.geom.specs.declared.point.Pt.{Pt}
use Rattle.grid.specs.Tiles.{Tiling, most_tiles, tile_count}
use Rattle.wkt.specs.Features.{StandsForFeatures, all_rings}
use Rattle.wkt.specs.Refusals.{IsRefusedWithin}
use Rattle.wkt.proofs.Cuts.{stands_joined}
use Rattle.wkt.proofs.Exclusive.{not_both, same_refusal}
use Rattle.layers.specs.declared.plan.Plan.{Plan}
use Rattle.layers.specs.declared.faces_fault.FacesPart.{FacesPart}
use Rattle.layers.specs.declared.faces_fault.FacesPart.TheVariants.{Layer, Run}
use Rattle.layers.specs.declared.faces_fault.FacesRefusal.{FacesRefusal}
use Rattle.layers.specs.declared.faces_fault.FacesRefusal.TheVariants.{Usual, TooManyIds}
use Rattle.layers.specs.declared.faces_limits.FacesLimits.{FacesLimits}
use Rattle.engine.specs.declared.faces_report.FacesReport.{FacesReport}
use Rattle.layers.specs.FeatureSegments.{all_features, all_steps}
use Rattle.engine.specs.Faces.{AreFacesTold, AreFacesWritten, FacesRefusalIsOne, RefusedAreNotWritten, RefusedMayNotRound}
use Rattle.layers.specs.FacesRefusals.{HaveIds, IsFacesRefusedAt, bad_layer, bad_tile, bad_workers, too_many, too_many_ids, too_many_tiles}
use Rattle.layers.specs.FeatureLayers.{AreReady, IsBadLayer, IsGridOverLayers, MayRound, StandForLayers, StandWithin}
use Rattle.layers.specs.Grids.{AreBoundsOf}
use Rattle.layers.specs.Refusals.{text_limit}
use Rattle.engine.proofs.FaceIds.{ids_of_rows, one_ids}
use Rattle.engine.proofs.LayersInLimit.{layers_in_limit}
use Rattle.engine.proofs.LayersKnown.{one_list}
use Rattle.engine.proofs.OneRefusal.{grid_same}

-- ---- one layer at fault

-- each of the first texts stands for features
stands_below : (texts : List (List ℕ)) (n : ℕ) (layers : List (List (List (List Pt)))) → StandForLayers (take n texts) layers → (m : ℕ) → m < n → m < length texts
    → (features : List (List (List Pt))) × StandsForFeatures (get_or texts m []) features
stands_below [] n layers h m l k = absurd (omega (arith, k))
stands_below (t ∷ ts) zero layers h m l k = absurd (omega (arith, l))
stands_below (t ∷ ts) (suc n) [] h m l k = absurd h
stands_below (t ∷ ts) (suc n) (x ∷ xs) h zero l k = (x, h.0)
stands_below (t ∷ ts) (suc n) (x ∷ xs) h (suc m) l k = stands_below ts n xs h.1 m (omega (arith, l)) (omega (arith, k))

stands_at : (texts : List (List ℕ)) (layers : List (List (List (List Pt)))) → StandForLayers texts layers → (m : ℕ) → m < length texts → (features : List (List (List Pt))) × StandsForFeatures (get_or texts m []) features
stands_at [] layers h m k = absurd (omega (arith, k))
stands_at (t ∷ ts) [] h m k = absurd h
stands_at (t ∷ ts) (x ∷ xs) h zero k = (x, h.0)
stands_at (t ∷ ts) (x ∷ xs) h (suc m) k = stands_at ts xs h.1 m (omega (arith, k))

refused_stands : (limit : ℕ) (text : List ℕ) (f : Fault) (features : List (List (List Pt))) → IsRefusedWithin limit text f → length text ≤ limit → StandsForFeatures text features → ⊥
refused_stands limit text f features r short h = not_both limit text (all_rings features) f short (stands_joined text features h) r

module _ (limit : ℕ) (texts : List (List ℕ)) where
  text_at : (number : ℕ) (f : Fault) (b : IsBadLayer limit texts number f) → get_or texts number [] ≡ b.text
  text_at number f b = get_or_from_slice_get texts number b.text [] b.is_at

  there : (number : ℕ) (f : Fault) → IsBadLayer limit texts number f → number < length texts
  there number f b = slice_get_within texts number b.text b.is_at

  bad_stands : (number : ℕ) (f : Fault) (b : IsBadLayer limit texts number f) → length (get_or texts number []) ≤ limit → (features : List (List (List Pt))) × StandsForFeatures (get_or texts number []) features → ⊥
  bad_stands number f b short (features, h) =
      let same = text_at number f b in
      refused_stands limit b.text f features b.refused (subst (λ (t : List ℕ). length t ≤ limit) same short) (subst (λ (t : List ℕ). StandsForFeatures t features) same h)

  bad_accepted : (number : ℕ) (f : Fault) → IsBadLayer limit texts number f → (layers : List (List (List (List Pt)))) → StandWithin limit texts layers → ⊥
  bad_accepted number f b layers h = let here = there number f b in bad_stands number f b (h.short number [] here) (stands_at texts layers h.stand number here)

  not_before : (m n : ℕ) (f g : Fault) → IsBadLayer limit texts m f → IsBadLayer limit texts n g → m < n → ⊥
  not_before m n f g b c l =
      let here = there m f b in
      let first : m < length (take n texts) = omega (arith, clamps, length-take n texts, l, here) in
      let same : get_or (take n texts) m [] ≡ get_or texts m [] = get_or-take n texts m [] l in
      bad_stands m f b (subst (λ (t : List ℕ). length t ≤ limit) same (c.accepted.short m [] first)) (stands_below texts n c.before c.accepted.stand m l here)

  same_layer : (m n : ℕ) (f g : Fault) → IsBadLayer limit texts m f → IsBadLayer limit texts n g → m ≡ n
  same_layer m n f g b c =
      let below = not_before m n f g b c in
      let above = not_before n m g f c b in
      omega (arith, below, above)

  same_fault : (m n : ℕ) (f g : Fault) → IsBadLayer limit texts m f → IsBadLayer limit texts n g → f ≡ g
  same_fault m n f g b c =
      let same : b.text ≡ c.text = sym (text_at m f b) ∙ ap (λ (k : ℕ). get_or texts k []) (same_layer m n f g b c) ∙ text_at n g c in
      same_refusal limit c.text f g (subst (λ (t : List ℕ). IsRefusedWithin limit t f) same b.refused) c.refused

-- ---- one refusal
number_prop : (m n : ℕ) → IsProp (m ≡ n)
number_prop m n = hlevel props

none_prop : IsProp ⊥
none_prop = hlevel props

module _ (limits : FacesLimits) (plan : Plan) (texts : List (List ℕ)) where
  within : {layers : List (List (List (List Pt)))} {grid : Tiling} → AreReady limits.segments plan texts layers grid → StandWithin (text_limit limits.segments) texts layers
  within r = record { short = r.short; stand = r.stand }

  counted : (x y : List (List (List (List Pt)))) → StandForLayers texts x → StandForLayers texts y → length (all_steps x) ≡ length (all_steps y)
  counted x y h k = ap (λ (ls : List (List (List (List Pt)))). length (all_steps ls)) (one_list texts x y h k)

  tiled : (x y : List (List (List (List Pt)))) → StandForLayers texts x → StandForLayers texts y → (g f : Tiling) → IsGridOverLayers x plan.side g → IsGridOverLayers y plan.side f → tile_count g ≡ tile_count f
  tiled x y h k g f o p = grid_same o.bounds p.bounds plan.side g f (all_steps y)
      (subst (λ (ls : List (List (List (List Pt)))). AreBoundsOf (all_steps ls) o.bounds) (one_list texts x y h k) o.are_bounds) p.are_bounds o.is_grid p.is_grid

  ids_same : (x y : List (List (List (List Pt)))) → StandForLayers texts x → StandForLayers texts y → (m n : ℕ) → ∥ HaveIds (all_features x) m ∥₁ → ∥ HaveIds (all_features y) n ∥₁ → m ≡ n
  ids_same x y h k m n a b = ∥∥₁_elim a (number_prop m n) (λ p. ∥∥₁_elim b (number_prop m n) (λ q.
      one_ids (all_features y) m n (subst (λ (ls : List (List (List (List Pt)))). HaveIds (all_features ls) m) (one_list texts x y h k) p) q))

  above : (most m n : ℕ) → most < m → n ≤ most → m ≡ n → ⊥
  above most m n h k e = omega (arith, h, k, e)

  one : (p q : FacesPart) (f g : FacesRefusal) → IsFacesRefusedAt limits plan texts p f → IsFacesRefusedAt limits plan texts q g → (p ≡ q) × (f ≡ g)
  one p q f g (bad_tile n) (bad_tile m) = (refl, refl)
  one p q f g (bad_tile n) (bad_workers s m) = absurd (n s)
  one p q f g (bad_tile n) (bad_layer s c) = absurd (n s.side)
  one p q f g (bad_tile n) (too_many s y k l) = absurd (n s.side)
  one p q f g (bad_tile n) (too_many_tiles s y k l t o u) = absurd (n s.side)
  one p q f g (bad_tile n) (too_many_ids y t r i l) = absurd (n r.planned.side)
  one p q f g (bad_workers s n) (bad_tile m) = absurd (m s)
  one p q f g (bad_workers s n) (bad_workers t m) = (refl, refl)
  one p q f g (bad_workers s n) (bad_layer t c) = absurd (n t.workers)
  one p q f g (bad_workers s n) (too_many t y k l) = absurd (n t.workers)
  one p q f g (bad_workers s n) (too_many_tiles t y k l i o u) = absurd (n t.workers)
  one p q f g (bad_workers s n) (too_many_ids y t r i l) = absurd (n r.planned.workers)
  one p q f g (bad_layer s b) (bad_tile m) = absurd (m s.side)
  one p q f g (bad_layer s b) (bad_workers t m) = absurd (m s.workers)
  one p q f g (bad_layer s b) (bad_layer t c) = (ap (λ (n : ℕ). Layer n) (same_layer (text_limit limits.segments) texts _ _ _ _ b c), ap (λ (x : Fault). Usual x) (same_fault (text_limit limits.segments) texts _ _ _ _ b c))
  one p q f g (bad_layer s b) (too_many t y k l) = absurd (bad_accepted (text_limit limits.segments) texts _ _ b y k)
  one p q f g (bad_layer s b) (too_many_tiles t y k l i o u) = absurd (bad_accepted (text_limit limits.segments) texts _ _ b y k)
  one p q f g (bad_layer s b) (too_many_ids y t r i l) = absurd (bad_accepted (text_limit limits.segments) texts _ _ b y (within r))
  one p q f g (too_many s x h l) (bad_tile m) = absurd (m s.side)
  one p q f g (too_many s x h l) (bad_workers t m) = absurd (m s.workers)
  one p q f g (too_many s x h l) (bad_layer t c) = absurd (bad_accepted (text_limit limits.segments) texts _ _ c x h)
  one p q f g (too_many s x h l) (too_many t y k m) = (refl, ap (λ (n : ℕ). Usual (TooManySegments n)) (counted x y h.stand k.stand))
  one p q f g (too_many s x h l) (too_many_tiles t y k m c o u) = absurd (above limits.segments _ _ l m (counted x y h.stand k.stand))
  one p q f g (too_many s x h l) (too_many_ids y t r i m) = absurd (above limits.segments _ _ l r.few (counted x y h.stand r.stand))
  one p q f g (too_many_tiles s x h l c o u) (bad_tile m) = absurd (m s.side)
  one p q f g (too_many_tiles s x h l c o u) (bad_workers t m) = absurd (m s.workers)
  one p q f g (too_many_tiles s x h l c o u) (bad_layer t b) = absurd (bad_accepted (text_limit limits.segments) texts _ _ b x h)
  one p q f g (too_many_tiles s x h l c o u) (too_many t y k m) = absurd (above limits.segments _ _ m l (counted y x k.stand h.stand))
  one p q f g (too_many_tiles s x h l c o u) (too_many_tiles t y k m d z j) = (refl, ap (λ (n : ℕ). Usual (TooManyTiles n)) (tiled x y h.stand k.stand c d o z))
  one p q f g (too_many_tiles s x h l c o u) (too_many_ids y t r i m) = absurd (above most_tiles _ _ u r.few_tiles (tiled x y h.stand r.stand c t o r.is_grid))
  one p q f g (too_many_ids x c r i l) (bad_tile m) = absurd (m r.planned.side)
  one p q f g (too_many_ids x c r i l) (bad_workers t m) = absurd (m r.planned.workers)
  one p q f g (too_many_ids x c r i l) (bad_layer t b) = absurd (bad_accepted (text_limit limits.segments) texts _ _ b x (within r))
  one p q f g (too_many_ids x c r i l) (too_many t y k m) = absurd (above limits.segments _ _ m r.few (counted y x k.stand r.stand))
  one p q f g (too_many_ids x c r i l) (too_many_tiles t y k m d o u) = absurd (above most_tiles _ _ u r.few_tiles (tiled y x k.stand r.stand d c o r.is_grid))
  one p q f g (too_many_ids x c r i l) (too_many_ids y d t j m) = (refl, ap (λ (n : ℕ). TooManyIds n) (ids_same x y r.stand t.stand _ _ i j))

  not_rounded : (p : FacesPart) (f : FacesRefusal) → IsFacesRefusedAt limits plan texts p f → MayRound limits.segments plan texts → (ids : ℕ) × (p ≡ Run) × (f ≡ TooManyIds ids)
  not_rounded p f (bad_tile n) (y, g, r) = absurd (n r.planned.side)
  not_rounded p f (bad_workers s n) (y, g, r) = absurd (n r.planned.workers)
  not_rounded p f (bad_layer s b) (y, g, r) = absurd (bad_accepted (text_limit limits.segments) texts _ _ b y (within r))
  not_rounded p f (too_many s x h l) (y, g, r) = absurd (above limits.segments _ _ l r.few (counted x y h.stand r.stand))
  not_rounded p f (too_many_tiles s x h l c o u) (y, g, r) = absurd (above most_tiles _ _ u r.few_tiles (tiled x y h.stand r.stand c g o r.is_grid))
  not_rounded p f (too_many_ids x c r i l) may = (_, refl, refl)

  module _ {M : Type 0} (text : List ℕ) (report : FacesReport M) (w : AreFacesWritten limits plan texts text report) where
    few : (x : List (List (List (List Pt)))) → StandForLayers texts x → (ids : ℕ) → HaveIds (all_features x) ids → AreFacesTold w.layers w.grid text report → limits.ids < ids → ⊥
    few x h ids i t l =
        let faces = t.is_text.are_faces in
        let in_limit = layers_in_limit limits.segments plan texts w.layers w.grid faces.segments faces.owners w.ready faces.are_segments in
        let own = subst (λ (ls : List (List (List (List Pt)))). HaveIds (all_features ls) ids) (one_list texts x w.layers h w.ready.stand) i in
        above limits.ids ids report.ids l w.few_ids (ids_of_rows (all_features w.layers) ids t.is_text.rows own faces in_limit ∙ sym t.ids)

    no_text : (p : FacesPart) (f : FacesRefusal) → IsFacesRefusedAt limits plan texts p f → ⊥
    no_text p f (bad_tile n) = n w.ready.planned.side
    no_text p f (bad_workers s n) = n w.ready.planned.workers
    no_text p f (bad_layer s b) = bad_accepted (text_limit limits.segments) texts _ _ b w.layers (within w.ready)
    no_text p f (too_many s x h l) = above limits.segments _ _ l w.ready.few (counted x w.layers h.stand w.ready.stand)
    no_text p f (too_many_tiles s x h l c o u) = above most_tiles _ _ u w.ready.few_tiles (tiled x w.layers h.stand w.ready.stand c w.grid o w.ready.is_grid)
    no_text p f (too_many_ids x c r i l) = ∥∥₁_elim i none_prop (λ j. ∥∥₁_elim w.faces none_prop (λ t. few x r.stand _ j t l))

pub faces_refusal_is_one : FacesRefusalIsOne
faces_refusal_is_one = one

pub refused_are_not_written : (M : Type 0) → RefusedAreNotWritten M
refused_are_not_written M limits plan texts part f text report r w = no_text limits plan texts text report w part f r

pub refused_may_not_round : RefusedMayNotRound
refused_may_not_round = not_rounded
