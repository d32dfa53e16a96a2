-- The order of places in the text.
use Rattle.std.proofs.Common.{◌≡◌, ◌⊎◌, ℕ, suc, ◌<◌, ◌≤◌, Bool, true, false, List, [], ◌∷◌, length, get_or, refl, sym, ◌∙◌, subst, inl, inr, arith, Ordering, Less, Equal, Greater}
use Rattle.std.specs.Prelude.{AllPairs}
use Rattle.std.specs.Cmp.{IsTotalOrder, bool_cmp_total}
use Rattle.std.specs.List.Sorted.{IsSortedByKey}
use Rattle.std.specs.Ordering.{MatchOrdering, bool_cmp, is_lt, nat_cmp, ordering_then}
use Rattle.std.proofs.lemmas.Cmp.{nat_cmp_total, on_total, ranked, then_total}
use Rattle.std.proofs.lemmas.List.Sorted.{ranks_by, sorted_far}
use Rattle.geom.proofs.Lists.{In}
use Rattle.polygonize.specs.declared.written.Opening.{Opening}
use Rattle.polygonize.specs.declared.written.Place.{Place}
use Rattle.polygonize.proofs.Sorted.{Ascend}

abbrev pub OpeningLess : Opening → Opening → Type 0
OpeningLess o p = (o.first < p.first) ⊎ ((o.first ≡ p.first) × (o.second < p.second))

-- a shell goes before its holes
abbrev pub HoleLess : Bool → Bool → Type 0
HoleLess a b = (a ≡ false) × (b ≡ true)

-- by the shell of the polygon, the shell itself first, then by the opening
abbrev pub PlaceLess : Place → Place → Type 0
PlaceLess p q = OpeningLess p.shell q.shell ⊎ ((p.shell ≡ q.shell) × (HoleLess p.is_hole q.is_hole ⊎ ((p.is_hole ≡ q.is_hole) × OpeningLess p.opening q.opening)))

-- what the derived orders compute
abbrev pub opening_cmp : Opening → Opening → Ordering
opening_cmp o p = ordering_then (nat_cmp o.first p.first) (nat_cmp o.second p.second)

abbrev pub place_cmp : Place → Place → Ordering
place_cmp p q = ordering_then (opening_cmp p.shell q.shell) (ordering_then (bool_cmp p.is_hole q.is_hole) (opening_cmp p.opening q.opening))

opening_total : IsTotalOrder opening_cmp
opening_total = then_total (on_total (λ (o : Opening). o.first) nat_cmp_total) (on_total (λ (o : Opening). o.second) nat_cmp_total)

place_total : IsTotalOrder place_cmp
place_total = then_total (on_total (λ (p : Place). p.shell) opening_total) (then_total (on_total (λ (p : Place). p.is_hole) bool_cmp_total) (on_total (λ (p : Place). p.opening) opening_total))

opening_ranks : (o p : Opening) → MatchOrdering (opening_cmp o p) (OpeningLess o p) (o ≡ p) (OpeningLess p o)
opening_ranks o p = parts (nat_cmp o.first p.first) (nat_cmp o.second p.second) (ranked o.first p.first _ refl) (ranked o.second p.second _ refl)
  where
    parts : (s t : Ordering) → MatchOrdering s (o.first < p.first) (o.first ≡ p.first) (p.first < o.first) → MatchOrdering t (o.second < p.second) (o.second ≡ p.second) (p.second < o.second) → MatchOrdering (ordering_then s t) (OpeningLess o p) (o ≡ p) (OpeningLess p o)
    parts Less t h k = inl h
    parts Greater t h k = inl h
    parts Equal Less h k = inr (h, k)
    parts Equal Equal h k = λ i. record { first = h i; second = k i }
    parts Equal Greater h k = inr (sym h, k)

hole_ranks : (a b : Bool) → MatchOrdering (bool_cmp a b) (HoleLess a b) (a ≡ b) (HoleLess b a)
hole_ranks false false = refl
hole_ranks false true = (refl, refl)
hole_ranks true false = (refl, refl)
hole_ranks true true = refl

place_ranks : (p q : Place) → MatchOrdering (place_cmp p q) (PlaceLess p q) (p ≡ q) (PlaceLess q p)
place_ranks p q = parts (opening_cmp p.shell q.shell) (bool_cmp p.is_hole q.is_hole) (opening_cmp p.opening q.opening) (opening_ranks p.shell q.shell) (hole_ranks p.is_hole q.is_hole) (opening_ranks p.opening q.opening)
  where
    parts : (s t u : Ordering) → MatchOrdering s (OpeningLess p.shell q.shell) (p.shell ≡ q.shell) (OpeningLess q.shell p.shell) → MatchOrdering t (HoleLess p.is_hole q.is_hole) (p.is_hole ≡ q.is_hole) (HoleLess q.is_hole p.is_hole)
        → MatchOrdering u (OpeningLess p.opening q.opening) (p.opening ≡ q.opening) (OpeningLess q.opening p.opening) → MatchOrdering (ordering_then s (ordering_then t u)) (PlaceLess p q) (p ≡ q) (PlaceLess q p)
    parts Less t u h k l = inl h
    parts Greater t u h k l = inl h
    parts Equal Less u h k l = inr (h, inl k)
    parts Equal Greater u h k l = inr (sym h, inl k)
    parts Equal Equal Less h k l = inr (h, inr (k, l))
    parts Equal Equal Equal h k l = λ i. record { shell = h i; is_hole = k i; opening = l i }
    parts Equal Equal Greater h k l = inr (sym h, inr (sym k, l))

-- ---- the orders are strict
pub opening_one_way : (o p : Opening) → OpeningLess o p → OpeningLess p o → ⊥
opening_one_way o p (inl h) (inl k) = omega arith
opening_one_way o p (inl h) (inr k) = let e = k.0 in omega arith
opening_one_way o p (inr h) (inl k) = let e = h.0 in omega arith
opening_one_way o p (inr h) (inr k) = let a = h.1 in let b = k.1 in omega arith

pub opening_itself : (o p : Opening) → OpeningLess o p → o ≡ p → ⊥
opening_itself o p h e = let P : Opening → Type 0 = λ t. OpeningLess t p in let r = subst P e h in opening_one_way p p r r

pub place_one_way : (p q : Place) → PlaceLess p q → PlaceLess q p → ⊥
place_one_way p q (inl h) (inl k) = opening_one_way p.shell q.shell h k
place_one_way p q (inl h) (inr k) = opening_itself p.shell q.shell h (sym k.0)
place_one_way p q (inr h) (inl k) = opening_itself q.shell p.shell k (sym h.0)
place_one_way p q (inr h) (inr k) = rest h.1 k.1
  where
    rest : HoleLess p.is_hole q.is_hole ⊎ ((p.is_hole ≡ q.is_hole) × OpeningLess p.opening q.opening) → HoleLess q.is_hole p.is_hole ⊎ ((q.is_hole ≡ p.is_hole) × OpeningLess q.opening p.opening) → ⊥
    rest (inl a) (inl b) = let x = a.0 in let y = b.1 in let z : false ≡ true = sym x ∙ y in cc
    rest (inl a) (inr b) = let z : false ≡ true = sym a.0 ∙ sym b.0 ∙ a.1 in cc
    rest (inr a) (inl b) = let z : false ≡ true = sym b.0 ∙ sym a.0 ∙ b.1 in cc
    rest (inr a) (inr b) = opening_one_way p.opening q.opening a.1 b.1

-- ---- what a sort by place gives
pub pairs_ascend : {X : Type 0} (R : X → X → Type 0) (xs : List X) → AllPairs R xs → Ascend R xs
pairs_ascend R [] a = tt
pairs_ascend {X} R (x ∷ xs) a = (
  (λ y i. let c = stands xs y i in let P : X → Type 0 = R x in subst P c.2 (a 0 (suc c.0) y (omega arith) (let l = c.1 in omega arith))),
  pairs_ascend R xs (λ i j d h k. a (suc i) (suc j) d (omega (arith, h)) (omega (arith, k))),
)
  where
    stands : (xs : List X) (y : X) → In y xs → (k : ℕ) × (k < length xs) × (get_or xs k y ≡ y)
    stands [] y i = absurd i
    stands (z ∷ xs) y (inl e) = (0, omega arith, e)
    stands (z ∷ xs) y (inr i) = let c = stands xs y i in (suc c.0, (let l = c.1 in omega arith), c.2)

not_after : (p q : Place) → is_lt (place_cmp q p) ≡ false → (p ≡ q) ⊎ PlaceLess p q
not_after p q h = by (place_cmp q p) h (place_ranks q p)
  where
    by : (o : Ordering) → is_lt o ≡ false → MatchOrdering o (PlaceLess q p) (q ≡ p) (PlaceLess p q) → (p ≡ q) ⊎ PlaceLess p q
    by Less h k = absurd (let z : true ≡ false = h in cc)
    by Equal h k = inl (sym k)
    by Greater h k = inr k

pub sorted_places : {W : Type 0} (place : W → Place) (ws : List W) → IsSortedByKey place place_cmp ws → Ascend (λ v w. (place v ≡ place w) ⊎ PlaceLess (place v) (place w)) ws
sorted_places {W} place ws s = pairs_ascend (λ v w. (place v ≡ place w) ⊎ PlaceLess (place v) (place w)) ws
    (λ i j d h k. not_after (place (get_or ws i d)) (place (get_or ws j d)) (sorted_far (λ v w. is_lt (place_cmp (place v) (place w))) (ranks_by place_total place) ws s i j d (weak h) k))
  where
    weak : {i j : ℕ} → i < j → i ≤ j
    weak h = omega arith
