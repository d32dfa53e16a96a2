-- The numbers of tiles over kept segments with copies are those over all segments.
use Rattle.std.proofs.Common.{◌≡◌, ◌⊎◌, inl, inr, ℕ, zero, suc, ◌+◌, ◌*◌, List, [], ◌∷◌, ◌++◌, Bool, true, false, map, length, refl, sym, ap, subst, ◌∙◌, arith, ⊎_elim, length-append}
use Rattle.std.proofs.Math.IntN.{ℤ, ◌-ℤ◌}
use Rattle.std.proofs.Math.Logic.{∥∥₁_map}
use Rattle.std.specs.Prelude.{◌<ℤ◌, ◌≤ℤ◌, ◌↔◌, AllPairs, Contains, Some, filter, if◌then◌else◌, slice_get, sum_by}
use Rattle.std.proofs.lemmas.Int.{ints, by_lt_z}
use Rattle.std.proofs.lemmas.List.{length-map}
use Rattle.std.proofs.lemmas.List.Kept.{AllPairs-filter}
use Rattle.std.proofs.lemmas.List.Sums.{sum_by-append, sum_by-cons}
use Rattle.std.proofs.lemmas.Option.{none-some, same_Some}
use Rattle.geom.specs.declared.point.Pt.{Pt}
use Rattle.geom.specs.declared.segment.Source.{Source}
use Rattle.geom.specs.declared.segment.Source.TheVariants.{A, B}
use Rattle.geom.specs.declared.segment.Seg.{Seg}
use Rattle.geom.specs.Hot.{IsHot}
use Rattle.geom.specs.Order.{IsBefore}
use Rattle.geom.specs.Route.{Meets, IsEarlier}
use Rattle.geom.specs.Segments.{same_source}
use Rattle.geom.proofs.Along.{Between, PassesCorners, PassesTest, meets_passes, passes_meets}
use Rattle.geom.proofs.Integers.{linear}
use Rattle.geom.proofs.Lists.{Distinct, In, contains_in, in_contains, in_append, in_back, in_front, in_map, map_in}
use Rattle.geom.proofs.Orders.{before_itself}
use Rattle.geom.proofs.Pixels.{meets_in, meets_out, piece, piece_proper}
use Rattle.grid.specs.Tiles.{Owns, Tiling}
use Rattle.hot_region.proofs.HotLaws.{met_line}
use Rattle.hot_region.proofs.ListLaws.{in_filter}
use Rattle.distinct.specs.declared.copies.Copies.{Copies}
use Rattle.distinct.specs.Copies.{AreCopies, IsOfEnds, all_copies, sum_in, sum_of_copies}
use Rattle.distinct.proofs.CopyLaws.{copies_hot, ends_sym}
use Rattle.routing.specs.declared.record.Record.{Record}
use Rattle.routing.specs.Pieces.{IsAlong, IsPieceOf, IsRecord}
use Rattle.routing.specs.Steps.{steps_to}
use Rattle.linking.specs.declared.rounded.TileNumbers.{TileNumbers}
use Rattle.linking.specs.Gathered.{AreTileNumbers, AreTileNumbersBy}
use Rattle.linking.specs.Links.{times_at}
use Rattle.linking.proofs.Parts.{distinct_append, distinct_from, same_length, same_sum, sum_of_ones}
use Rattle.linking.proofs.Ordering.{Piece, piece_of}

-- ---- whether a segment meets a pixel
abbrev Decided : Type 0 → Type 0
Decided P = P ⊎ ¬ P

both : {P Q : Type 0} → Decided P → Decided Q → Decided (P × Q)
both (inl p) (inl q) = inl (p, q)
both (inl p) (inr n) = inr (λ h. n h.1)
both (inr n) d = inr (λ h. n h.0)

all_three : {P Q R : Type 0} → Decided P → Decided Q → Decided R → Decided (P × Q × R)
all_three (inl p) (inl q) (inl r) = inl (p, q, r)
all_three (inl p) (inl q) (inr n) = inr (λ h. n h.2)
all_three (inl p) (inr n) d = inr (λ h. n h.1)
all_three (inr n) d e = inr (λ h. n h.0)

either : {P Q : Type 0} → Decided P → Decided Q → Decided (P ⊎ Q)
either (inl p) d = inl (inl p)
either (inr n) (inl q) = inl (inr q)
either (inr n) (inr m) = inr (⊎_elim n m)

below : (a b : ℤ) → Decided (a <ℤ b)
below a b = by_lt_z a b (λ l. inl l) (λ l. inr (λ m. omega (arith, ints)))

up_to : (a b : ℤ) → Decided (a ≤ℤ b)
up_to a b = by_lt_z b a (λ l. inr (λ m. omega (arith, ints))) (λ l. inl l)

level : (a b : ℤ) → Decided (a ≡ b)
level a b = by_lt_z a b (λ l. inr (λ e. omega (arith, ints))) (λ l. by_lt_z b a (λ m. inr (λ e. omega (arith, ints))) (λ m. inl (omega (arith, ints))))

between : (a b c : ℤ) → Decided (Between a b c)
between a b c = either (both (up_to a c) (up_to c b)) (both (up_to b c) (up_to c a))

corners : (d e i j : ℤ) → Decided (PassesCorners d e i j)
corners d e i j = either (both (below _ _) (below _ _)) (either (all_three (level _ _) (below _ _) (below _ _)) (all_three (level _ _) (below _ _) (below _ _)))

meets : (s : Seg) (c : Pt) → Decided (Meets s c)
meets s c = told (between s.a.x s.b.x c.x) (between s.a.y s.b.y c.y) (corners _ _ _ _)
  where
    test : Meets s c → PassesTest (piece s) c
    test m = meets_passes (piece s) c (piece_proper s) (meets_in s c m)

    told : Decided (Between s.a.x s.b.x c.x) → Decided (Between s.a.y s.b.y c.y) → Decided (PassesCorners (s.b.x -ℤ s.a.x) (s.b.y -ℤ s.a.y) (c.x -ℤ s.a.x) (c.y -ℤ s.a.y)) → Decided (Meets s c)
    told (inl x) (inl y) (inl p) = inl (meets_out s c (passes_meets (piece s) c (piece_proper s) (record { x_between = x; y_between = y; corners = p })))
    told (inl x) (inl y) (inr n) = inr (λ m. n (test m).corners)
    told (inl x) (inr n) d = inr (λ m. n (test m).y_between)
    told (inr n) d e = inr (λ m. n (test m).x_between)

abbrev holds : {P : Type 0} → Decided P → Bool
holds (inl p) = true
holds (inr n) = false

yes : {P : Type 0} (d : Decided P) → holds d ≡ true → P
yes (inl p) e = p
yes (inr n) e = absurd (no_true e)
  where
    no_true : false ≡ true → ⊥
    no_true h = cc

sure : {P : Type 0} (d : Decided P) → P → holds d ≡ true
sure (inl p) h = refl
sure (inr n) h = absurd (n h)

distinct_map : {X Y : Type 0} (f : X → Y) → ((x z : X) → f x ≡ f z → x ≡ z) → (xs : List X) → Distinct xs → Distinct (map f xs)
distinct_map f same [] d = tt
distinct_map f same (x ∷ xs) d = (λ i. let q = in_map f xs (f x) i in d.0 (subst (λ u. In u xs) (same q.0 x q.2) q.1), distinct_map f same xs d.1)

-- ---- the records of segments at some pixels
abbrev row : ℕ → Seg → Pt → Record
row i s p = record { segment = i; steps = steps_to s p; pixel = p }

module _ (pixels : List Pt) (ascending : AllPairs IsBefore pixels) where
  -- those that s meets
  abbrev met : Seg → List Pt
  met s = filter (λ p. holds (meets s p)) pixels

  met_is : (s : Seg) (c : Pt) → In c (met s) ↔ (In c pixels × Meets s c)
  met_is s c =
      let e = in_filter (λ p. holds (meets s p)) pixels c in (
        (λ i. let h = e.0 (in_contains (met s) c i) in (contains_in pixels c h.0, yes (meets s c) h.1)),
        (λ h. contains_in (met s) c (e.1 (in_contains pixels c h.0, sure (meets s c) h.1))),
      )

  met_distinct : (s : Seg) → Distinct (met s)
  met_distinct s = distinct_from IsBefore (met s) (AllPairs-filter IsBefore (λ p. holds (meets s p)) pixels ascending) (λ c i h. before_itself c h)

  abbrev number : Seg → ℕ
  number s = length (met s)

  of_ends : IsOfEnds number
  of_ends s t e = same_length (met s) (met t) (met_distinct s) (met_distinct t)
      (λ c i. let h = (met_is s c).0 i in (met_is t c).1 (h.0, met_line s t c e h.1))
      (λ c i. let h = (met_is t c).0 i in (met_is s c).1 (h.0, met_line t s c (ends_sym s t e) h.1))

  -- from number i on
  abbrev rows : ℕ → List Seg → List Record
  rows i [] = []
  rows i (s ∷ ss) = map (row i s) (met s) ++ rows (suc i) ss

  record IsRow (i : ℕ) (ss : List Seg) (r : Record) : Type 0 where
    k : ℕ
    number_is : r.segment ≡ i + k
    s : Seg
    is_at : slice_get ss k ≡ Some s
    among : In r.pixel (met s)
    steps_are : r.steps ≡ steps_to s r.pixel

  rows_are : (i : ℕ) (ss : List Seg) (r : Record) → In r (rows i ss) → IsRow i ss r
  rows_are i [] r h = absurd h
  rows_are i (s ∷ ss) r h = ⊎_elim first (λ j. later (rows_are (suc i) ss r j)) (in_append (map (row i s) (met s)) (rows (suc i) ss) r h)
    where
      first : In r (map (row i s) (met s)) → IsRow i (s ∷ ss) r
      first j =
          let q = in_map (row i s) (met s) r j in
          record {
            k = 0;
            number_is = (let e = ap (λ (t : Record). t.segment) q.2 in omega arith);
            s = s;
            is_at = refl;
            among = subst (λ (t : Record). In t.pixel (met s)) q.2 q.1;
            steps_are = subst (λ (t : Record). t.steps ≡ steps_to s t.pixel) q.2 refl;
          }

      later : IsRow (suc i) ss r → IsRow i (s ∷ ss) r
      later q = record { k = suc q.k; number_is = (let e = q.number_is in omega arith); s = q.s; is_at = q.is_at; among = q.among; steps_are = q.steps_are }

  are_rows : (i : ℕ) (ss : List Seg) (r : Record) (k : ℕ) (s : Seg) → r.segment ≡ i + k → slice_get ss k ≡ Some s → In r.pixel (met s) → r.steps ≡ steps_to s r.pixel → In r (rows i ss)
  are_rows i [] r k s n at m e = absurd (none-some s at)
  are_rows i (t ∷ ss) r zero s n at m e =
      let same : t ≡ s = same_Some t s at in
      let here : r.segment ≡ i = omega arith in
      let steps : r.steps ≡ steps_to t r.pixel = e ∙ ap (λ (u : Seg). steps_to u r.pixel) (sym same) in
      let whole : row i t r.pixel ≡ r = λ j. record { segment = sym here j; steps = sym steps j; pixel = r.pixel } in
      in_front (map (row i t) (met t)) (rows (suc i) ss) r (subst (λ (q : Record). In q (map (row i t) (met t))) whole (map_in (row i t) (met t) r.pixel (subst (λ (u : Seg). In r.pixel (met u)) (sym same) m)))
  are_rows i (t ∷ ss) r (suc k) s n at m e = in_back (map (row i t) (met t)) (rows (suc i) ss) r (are_rows (suc i) ss r k s (omega arith) at m e)

  rows_distinct : (i : ℕ) (ss : List Seg) → Distinct (rows i ss)
  rows_distinct i [] = tt
  rows_distinct i (s ∷ ss) = distinct_append (map (row i s) (met s)) (rows (suc i) ss)
      (distinct_map (row i s) (λ p q e. ap (λ (r : Record). r.pixel) e) (met s) (met_distinct s))
      (rows_distinct (suc i) ss)
      (λ r a b.
      let p = in_map (row i s) (met s) r a in
      let e = ap (λ (t : Record). t.segment) p.2 in
      let l = (rows_are (suc i) ss r b).number_is in
      omega arith)

  -- ---- and how many there are
  length_rows : (i : ℕ) (ss : List Seg) → length (rows i ss) ≡ sum_in A number ss + sum_in B number ss
  length_rows i [] = refl
  length_rows i (s ∷ ss) =
      let a = length-append (map (row i s) (met s)) (rows (suc i) ss) in
      let b = length-map (met s) (row i s) in
      let h = length_rows (suc i) ss in
      let c = sum_by-cons (λ (t : Seg). if same_source t.layer A then number t else 0) s ss in
      let d = sum_by-cons (λ (t : Seg). if same_source t.layer B then number t else 0) s ss in
      let e = by_layer s.layer (number s) in
      omega arith
    where
      by_layer : (l : Source) (n : ℕ) → n ≡ (if same_source l A then n else 0) + (if same_source l B then n else 0)
      by_layer A n = omega arith
      by_layer B n = omega arith

  -- of each segment as many as its pixels, each as often as g says
  sum_row : (g : ℕ → ℕ) (i : ℕ) (s : Seg) (ps : List Pt) → sum_by (λ (r : Record). g r.segment) (map (row i s) ps) ≡ length ps * g i
  sum_row g i s [] = omega arith
  sum_row g i s (p ∷ ps) = sum_by-cons (λ (r : Record). g r.segment) (row i s p) (map (row i s) ps) ∙ one_more (g i) (length ps) (sum_row g i s ps)
    where
      one_more : (w n : ℕ) {m : ℕ} → m ≡ n * w → w + m ≡ suc n * w
      one_more w n {m} e = omega arith

  sum_rows : (g : ℕ → ℕ) (i : ℕ) (ss : List Seg) (cs : List Copies) → length cs ≡ length ss → ((k : ℕ) → g (i + k) ≡ times_at all_copies cs k)
      → sum_by (λ (r : Record). g r.segment) (rows i ss) ≡ sum_of_copies A number ss cs + sum_of_copies B number ss cs
  sum_rows g i [] cs l h = refl
  sum_rows g i (s ∷ ss) [] l h = absurd (omega arith)
  sum_rows g i (s ∷ ss) (c ∷ cs) l h =
      sum_by-append (λ (r : Record). g r.segment) (map (row i s) (met s)) (rows (suc i) ss)
      ∙ joined (number s) _ _ _ _ (sum_row g i s (met s)) (ap g (nothing i) ∙ h 0) (sum_rows g (suc i) ss cs (omega arith) (λ k. ap g (next i k) ∙ h (suc k)))
    where
      nothing : (i : ℕ) → i ≡ i + 0
      nothing i = omega arith

      next : (i k : ℕ) → suc i + k ≡ i + suc k
      next i k = omega arith

      joined : (n a b u v : ℕ) {x w y : ℕ} → x ≡ n * w → w ≡ a + b → y ≡ u + v → x + y ≡ (a * n + u) + (b * n + v)
      joined n a b u v {x} {w} {y} e f k = spread
        where
          weighed : x ≡ n * (a + b)
          weighed = e ∙ ap (λ (z : ℕ). n * z) f

          spread : x + y ≡ (a * n + u) + (b * n + v)
          spread = omega (arith, weighed, k)

  -- ---- the records of all segments in a region are their rows at its hot pixels
  module _ (Owned : Pt → Type 0) (ss : List Seg) (exact : (c : Pt) → Contains pixels c ↔ (IsHot ss c × Owned c)) where
    to_record : (r : Record) → In r (rows 0 ss) → IsRecord ss r × Owned r.pixel
    to_record r i =
        let q = rows_are 0 ss r i in
        let m = (met_is q.s r.pixel).0 q.among in
        let h = (exact r.pixel).0 (in_contains pixels r.pixel m.0) in
        let n : q.k ≡ r.segment = (let e = q.number_is in omega arith) in (
          record { s = q.s; is_at = subst (λ (k : ℕ). slice_get ss k ≡ Some q.s) n q.is_at; hot = h.0; met = m.1; steps_are = q.steps_are },
          h.1,
        )

    from_record : (r : Record) → IsRecord ss r → Owned r.pixel → In r (rows 0 ss)
    from_record r h o = are_rows 0 ss r r.segment h.s (omega arith) h.is_at ((met_is h.s r.pixel).1 (contains_in pixels r.pixel ((exact r.pixel).1 (h.hot, o)), h.met)) h.steps_are

-- ---- the numbers of a tile
never_earlier : (s : Seg) (c : Pt) → Meets s c → IsEarlier s c c → ⊥
never_earlier s c (z, (m, n, at), is) h = let l = h z z m n m n at is at is in omega (arith, linear)

never_along : (segments : List Seg) (r : Record) → IsRecord segments r → IsAlong segments r r → ⊥
never_along segments r h (inl l) = omega (arith, l)
never_along segments r h (inr (e, l)) = never_earlier h.s r.pixel h.met (l h.s h.is_at)

-- a region's records over all segments are as many as those over the kept ones, each as often as its segment has copies
module _ (segments kept : List Seg) (copies : List Copies) (are : AreCopies segments kept copies) (Owned : Pt → Type 0) (hot count : ℕ) where
  all_of_kept : (records : List Record) → IsPieceOf Owned kept hot records → count ≡ sum_by (λ r. times_at all_copies copies r.segment) records → (list : List Record) × IsPieceOf Owned segments hot list × (count ≡ length list)
  all_of_kept records p count_is = (piece.records, piece.is_piece, counted)
    where
      pixels : List Pt
      pixels = p.pixels

      up : AllPairs IsBefore pixels
      up = p.are_hot.ascending

      kept_hot : (c : Pt) → Contains pixels c ↔ (IsHot kept c × Owned c)
      kept_hot = p.are_hot.exact

      all_hot : (c : Pt) → Contains pixels c ↔ (IsHot segments c × Owned c)
      all_hot c = let e = copies_hot segments kept copies are c in ((λ m. let h = (kept_hot c).0 m in (e.1 h.0, h.1)), (λ h. (kept_hot c).1 (e.0 h.0, h.1)))

      known : (r : Record) → In r records → IsRecord kept r × Owned r.pixel
      known r i = (p.exact r).0 (in_contains records r i)

      same : sum_by (λ r. times_at all_copies copies r.segment) records ≡ sum_by (λ r. times_at all_copies copies r.segment) (rows pixels up 0 kept)
      same = same_sum (λ r. times_at all_copies copies r.segment) records (rows pixels up 0 kept)
          (distinct_from (IsAlong kept) records p.ordered (λ r i. never_along kept r (known r i).0))
          (rows_distinct pixels up 0 kept)
          (λ r i. let h = known r i in from_record pixels up Owned kept kept_hot r h.0 h.1)
          (λ r i. contains_in records r ((p.exact r).1 (to_record pixels up Owned kept kept_hot r i)))

      number_is : count ≡ length (rows pixels up 0 segments)
      number_is =
          let a = sum_rows pixels up (λ k. times_at all_copies copies k) 0 kept copies are.one_each (λ k. ap (λ (n : ℕ). times_at all_copies copies n) (plain k)) in
          let b = are.as_many A (number pixels up) (of_ends pixels up) in
          let c = are.as_many B (number pixels up) (of_ends pixels up) in
          let d = length_rows pixels up 0 segments in
          count_is ∙ same ∙ omega (arith, a, b, c, d)
        where
          plain : (k : ℕ) → 0 + k ≡ k
          plain k = omega arith

      those : List Record
      those = rows pixels up 0 segments

      piece : Piece segments Owned hot those
      piece = piece_of segments Owned hot count
          (record {
            those = pixels;
            distinct = distinct_from IsBefore pixels up (λ c i h. before_itself c h);
            is = λ c i. ((all_hot c).0 (in_contains pixels c i)).0;
            owned = λ c i. ((all_hot c).0 (in_contains pixels c i)).1;
            all = λ c h o. contains_in pixels c ((all_hot c).1 (h, o));
            number_is = p.hot_is;
          })
          (record {
            those = those;
            distinct = rows_distinct pixels up 0 segments;
            is = λ r i. (to_record pixels up Owned segments all_hot r i).0;
            owned = λ r i. (to_record pixels up Owned segments all_hot r i).1;
            all = from_record pixels up Owned segments all_hot;
            number_is = number_is;
          })

      counted : count ≡ length piece.records
      counted = number_is ∙ sym (sum_of_ones (λ r. 1) those (λ r i. refl)) ∙ piece.sum_is (λ r. 1) ∙ sum_of_ones (λ r. 1) piece.records (λ r i. refl)

pub numbers_of_copies : (g : Tiling) (segments kept : List Seg) (copies : List Copies) → AreCopies segments kept copies → (limit : ℕ) (tiles : List TileNumbers) → AreTileNumbersBy all_copies g kept copies limit tiles → AreTileNumbers g segments limit tiles
numbers_of_copies g segments kept copies are limit tiles h = record {
  one_each = h.one_each;
  each = λ k n at. ∥∥₁_map (h.each k n at) (λ t. all_of_kept segments kept copies are (Owns g k) n.hot n.records t.0 t.1 t.2);
}
