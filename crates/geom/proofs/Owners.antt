-- Every ring has an owner, and that is one of the rings.
use Rattle.std.proofs.Common.{◌≡◌, ◌⊎◌, inl, inr, List, [], ◌∷◌, ◌++◌, refl, sym, subst, ⊎_elim, arith}
use Rattle.std.specs.Prelude.{All, AllPairs, Contains, flat_map}
use Rattle.std.proofs.lemmas.Int.{by_lt_z}
use Rattle.std.proofs.lemmas.List.Elements.{All-contains, Contains-get_or}
use lib.IntN.{ℤ, pos}
use lib.Signed.{◌<ℤ◌, ◌≤ℤ◌}
use Rattle.geom.specs.declared.point.Pt.{Pt}
use Rattle.geom.specs.declared.directed.DirectedEdge.{DirectedEdge}
use Rattle.geom.specs.Order.{IsBefore}
use Rattle.geom.specs.Determinant.{side}
use Rattle.geom.specs.Directed.{from_to}
use Rattle.geom.specs.ListOrder.{IsListBefore, IsLeastRotation}
use Rattle.geom.specs.Rings.{along, ring_edges, Corner, ring_corners, AreRings}
use Rattle.geom.specs.Holes.{left_of, IsHole, IsShell, IsLeastVertex, IsNearestBelow, IsOwner, AreGrounded}
use Rattle.geom.specs.Holes.IsOwner.{itself, below}
use Rattle.geom.proofs.Edges.{PtOrder, pt_order}
use Rattle.geom.proofs.Edges.PtOrder.{before, equal, after}
use Rattle.geom.proofs.Integers.{linear}
use Rattle.geom.proofs.Lists.{In, contains_in, in_contains}
use Rattle.geom.proofs.Orders.{before_itself, before_trans}
use Rattle.geom.proofs.ListOrder.{list_before_itself, list_before_trans, pairs_head, pairs_tail}
use Rattle.geom.proofs.OneRing.{one_least_vertex}
use Rattle.geom.proofs.RingEdges.{in_permutation, flat_in}
use Rattle.geom.proofs.SameRings.{split_at}

-- ---- a ring is a hole or a shell
-- one of the elements passes, or none does
some_or_none : {X : Type 0} (P : X → Type 0) → ((x : X) → P x ⊎ (¬ (P x))) → (xs : List X) → ((x : X) × In x xs × P x) ⊎ ((x : X) → In x xs → ¬ (P x))
some_or_none P decide [] = inr (λ x i h. i)
some_or_none {X} P decide (x ∷ xs) = first (decide x) (some_or_none P decide xs)
  where
    first : P x ⊎ (¬ (P x)) → ((y : X) × In y xs × P y) ⊎ ((y : X) → In y xs → ¬ (P y)) → ((y : X) × In y (x ∷ xs) × P y) ⊎ ((y : X) → In y (x ∷ xs) → ¬ (P y))
    first (inl p) o = inl (x, inl refl, p)
    first (inr n) (inl f) = inl (f.0, inr f.1, f.2)
    first (inr n) (inr m) = inr none
      where
        none : (y : X) → In y (x ∷ xs) → ¬ (P y)
        none y (inl e) p = n (subst P (sym e) p)
        none y (inr i) p = m y i p

one_or_other : (p v : Pt) → (p ≡ v) ⊎ (¬ (p ≡ v))
one_or_other p v = by_order (pt_order p v)
  where
    by_order : PtOrder p v → (p ≡ v) ⊎ (¬ (p ≡ v))
    by_order (before h) = inr (λ e. before_itself p (subst (IsBefore p) (sym e) h))
    by_order (equal e) = inl e
    by_order (after h) = inr (λ e. before_itself v (subst (IsBefore v) e h))

before_or_not : (p v : Pt) → IsBefore p v ⊎ (¬ (IsBefore p v))
before_or_not p v = by_order (pt_order p v)
  where
    by_order : PtOrder p v → IsBefore p v ⊎ (¬ (IsBefore p v))
    by_order (before h) = inl h
    by_order (equal e) = inr (λ h. before_itself p (subst (IsBefore p) (sym e) h))
    by_order (after h) = inr (λ k. before_itself v (before_trans v p v h k))

positive_or_not : (a : ℤ) → (pos 0 <ℤ a) ⊎ (¬ (pos 0 <ℤ a))
positive_or_not a = by_lt_z (pos 0) a (λ h. inl h) (λ h. inr (λ k. never a h k))
  where
    never : (a : ℤ) → a ≤ℤ pos 0 → pos 0 <ℤ a → ⊥
    never a h k = omega (arith, linear)

pub all_in : {X : Type 0} (P : X → Type 0) (xs : List X) → ((x : X) → In x xs → P x) → All P xs
all_in P xs f k d l = f _ (contains_in xs _ (Contains-get_or xs k d l))

least_or_not : (ring : List Pt) (v : Pt) → IsLeastVertex ring v ⊎ (¬ (IsLeastVertex ring v))
least_or_not ring v = by_cases (some_or_none (λ (p : Pt). p ≡ v) (λ p. one_or_other p v) ring) (some_or_none (λ (p : Pt). IsBefore p v) (λ p. before_or_not p v) ring)
  where
    by_cases : ((p : Pt) × In p ring × (p ≡ v)) ⊎ ((p : Pt) → In p ring → ¬ (p ≡ v)) → ((p : Pt) × In p ring × IsBefore p v) ⊎ ((p : Pt) → In p ring → ¬ (IsBefore p v)) → IsLeastVertex ring v ⊎ (¬ (IsLeastVertex ring v))
    by_cases (inr n) o = inr (λ l. n v (contains_in ring v l.on) refl)
    by_cases (inl f) (inl g) = inr (λ l. All-contains (λ (p : Pt). ¬ (IsBefore p v)) ring g.0 l.least (in_contains ring g.0 g.1) g.2)
    by_cases (inl f) (inr n) = inl (record { on = subst (Contains ring) f.2 (in_contains ring f.0 f.1); least = all_in (λ (p : Pt). ¬ (IsBefore p v)) ring n })

pub hole_or_shell : (ring : List Pt) → IsHole ring ⊎ IsShell ring
hole_or_shell ring = ⊎_elim
    (λ f. inl (record { at = f.0; on = in_contains (ring_corners ring) f.0 f.1; least = f.2.0; turns = f.2.1 }))
    (λ n. inr (λ h. n h.at (contains_in (ring_corners ring) h.at h.on) (h.least, h.turns)))
    (some_or_none TurnsRight turns_right (ring_corners ring))
  where
    TurnsRight : Corner → Type 0
    TurnsRight c = IsLeastVertex ring c.comes.to × (pos 0 <ℤ side c.comes.to c.comes.from c.goes.to)

    turns_right : (c : Corner) → TurnsRight c ⊎ (¬ (TurnsRight c))
    turns_right c = both (least_or_not ring c.comes.to) (positive_or_not (side c.comes.to c.comes.from c.goes.to))
      where
        both : {A B : Type 0} → A ⊎ (¬ A) → B ⊎ (¬ B) → (A × B) ⊎ (¬ (A × B))
        both (inl a) (inl b) = inl (a, b)
        both (inl a) (inr n) = inr (λ p. n p.1)
        both (inr n) o = inr (λ p. n p.0)

-- ---- a ring that is its own least rotation begins at its least vertex
begins_least : (x : Pt) (xs : List Pt) → IsLeastRotation (x ∷ xs) (x ∷ xs) → IsLeastVertex (x ∷ xs) x
begins_least x xs l = record { on = in_contains (x ∷ xs) x (inl refl); least = all_in (λ (p : Pt). ¬ (IsBefore p x)) (x ∷ xs) none }
  where
    none : (p : Pt) → In p (x ∷ xs) → ¬ (IsBefore p x)
    none p i h = let s = split_at p (x ∷ xs) i in l.none_less ((p ∷ s.back) ++ s.front) (record { front = s.front; back = p ∷ s.back; was = s.is; is = refl }) (inl h)

-- where a vertex of s is before the least one of r, s is before r
earlier : (r s : List Pt) → IsLeastRotation r r → IsLeastRotation s s → (v u : Pt) → IsLeastVertex r v → In u s → IsBefore u v → IsListBefore s r
earlier [] s l m v u lv i h = absurd (contains_in [] v lv.on)
earlier (x ∷ xs) [] l m v u lv i h = absurd i
earlier (x ∷ xs) (y ∷ ys) l m v u lv i h = inl (subst (IsBefore y) (one_least_vertex (x ∷ xs) v x lv (begins_least x xs l)) (by_order (pt_order y u)))
  where
    by_order : PtOrder y u → IsBefore y v
    by_order (before k) = before_trans y u v k h
    by_order (equal e) = subst (λ (p : Pt). IsBefore p v) (sym e) h
    by_order (after k) = absurd (All-contains (λ (p : Pt). ¬ (IsBefore p y)) (y ∷ ys) u (begins_least y ys m).least (in_contains (y ∷ ys) u i) k)

-- the ends of a ring's edge are on the ring
from_along : (x : Pt) (ys : List Pt) (z : Pt) (d : DirectedEdge) → In d (along from_to x ys z) → In d.from (x ∷ ys)
from_along x [] z d (inl e) = inl (subst (λ (c : DirectedEdge). x ≡ c.from) e refl)
from_along x [] z d (inr i) = absurd i
from_along x (y ∷ ys) z d (inl e) = inl (subst (λ (c : DirectedEdge). x ≡ c.from) e refl)
from_along x (y ∷ ys) z d (inr i) = inr (from_along y ys z d i)

to_along : (x : Pt) (ys : List Pt) (z : Pt) (d : DirectedEdge) → In d (along from_to x ys z) → In d.to ys ⊎ (z ≡ d.to)
to_along x [] z d (inl e) = inr (subst (λ (c : DirectedEdge). z ≡ c.to) e refl)
to_along x [] z d (inr i) = absurd i
to_along x (y ∷ ys) z d (inl e) = inl (inl (subst (λ (c : DirectedEdge). y ≡ c.to) e refl))
to_along x (y ∷ ys) z d (inr i) = ⊎_elim (λ j. inl (inr j)) (λ q. inr q) (to_along y ys z d i)

pub starts_on : (ring : List Pt) (d : DirectedEdge) → In d (ring_edges ring) → In d.from ring
starts_on [] d i = absurd i
starts_on (x ∷ xs) d i = from_along x xs x d i

pub ends_on : (ring : List Pt) (d : DirectedEdge) → In d (ring_edges ring) → In d.to ring
ends_on [] d i = absurd i
ends_on (x ∷ xs) d i = ⊎_elim (λ j. inr j) (λ e. inl e) (to_along x xs x d i)

-- ---- owners
module _ (directed : List DirectedEdge) (rings : List (List Pt)) where
  pub owner_inside : (r s : List Pt) → IsOwner directed rings r s → Contains rings s × IsShell s
  owner_inside r s o = inside o
    where
      inside : {a b : List Pt} → IsOwner directed rings a b → Contains rings b × IsShell b
      inside (itself i k) = (i, k)
      inside (below v d ring i k m n x y o) = inside o

  module _ (are : AreRings directed rings) (grounded : AreGrounded directed rings) where
    abbrev Owned : List Pt → Type 0
    Owned r = (s : List Pt) × IsOwner directed rings r s

    own_rotation : (r : List Pt) → Contains rings r → IsLeastRotation r r
    own_rotation r i = All-contains (λ (ring : List Pt). IsLeastRotation ring ring) rings r are.least i

    -- the ring of the nearest edge below a hole comes earlier
    below_first : (r : List Pt) → Contains rings r → IsHole r → ((s : List Pt) → Contains rings s → IsListBefore s r → Owned s) → Owned r
    below_first r i h again = by_owner (again on.0 (in_contains rings on.0 on.1) sooner)
      where
        v : Pt
        v = h.at.comes.to

        edge : (d : DirectedEdge) × IsNearestBelow directed (left_of v) d × (IsBefore d.from v ⊎ IsBefore d.to v)
        edge = grounded r i h v h.least

        on : (s : List Pt) × In s rings × In edge.0 (ring_edges s)
        on = flat_in ring_edges rings edge.0 (in_permutation directed (flat_map ring_edges rings) edge.0 are.together (contains_in directed edge.0 edge.1.inside))

        sooner : IsListBefore on.0 r
        sooner = ⊎_elim
            (λ k. earlier r on.0 (own_rotation r i) (own_rotation on.0 (in_contains rings on.0 on.1)) v edge.0.from h.least (starts_on on.0 edge.0 on.2) k)
            (λ k. earlier r on.0 (own_rotation r i) (own_rotation on.0 (in_contains rings on.0 on.1)) v edge.0.to h.least (ends_on on.0 edge.0 on.2) k)
            edge.2

        by_owner : Owned on.0 → Owned r
        by_owner (s, o) = (s, below v edge.0 on.0 i h h.least edge.1 (in_contains rings on.0 on.1) (in_contains (ring_edges on.0) edge.0 on.2) o)

    owned_now : (r : List Pt) (rest : List (List Pt)) → AllPairs IsListBefore (r ∷ rest) → Contains rings r → ((s : List Pt) → Contains rings s → Owned s ⊎ In s (r ∷ rest)) → Owned r
    owned_now r rest asc i known = ⊎_elim (λ h. below_first r i h again) (λ k. (r, itself i k)) (hole_or_shell r)
      where
        not_later : (s : List Pt) → IsListBefore s r → Owned s ⊎ In s (r ∷ rest) → Owned s
        not_later s h (inl o) = o
        not_later s h (inr (inl e)) = absurd (list_before_itself r (subst (λ (t : List Pt). IsListBefore t r) (sym e) h))
        not_later s h (inr (inr j)) = absurd (list_before_itself r (list_before_trans r s r (pairs_head IsListBefore r rest asc s j) h))

        again : (s : List Pt) → Contains rings s → IsListBefore s r → Owned s
        again s j h = not_later s h (known s j)

    each_owned : (rest : List (List Pt)) → AllPairs IsListBefore rest → ((s : List Pt) → In s rest → Contains rings s) → ((s : List Pt) → Contains rings s → Owned s ⊎ In s rest) → (s : List Pt) → Contains rings s → Owned s
    each_owned [] asc inside known = λ s i. ⊎_elim (λ o. o) (λ j. absurd j) (known s i)
    each_owned (r ∷ rest) asc inside known = each_owned rest (pairs_tail IsListBefore r rest asc) (λ s j. inside s (inr j)) (λ s i. later s (known s i))
      where
        later : (s : List Pt) → Owned s ⊎ In s (r ∷ rest) → Owned s ⊎ In s rest
        later s (inl o) = inl o
        later s (inr (inl e)) = inl (subst Owned e (owned_now r rest asc (inside r (inl refl)) known))
        later s (inr (inr j)) = inr j

    pub has_owner : (r : List Pt) → Contains rings r → (s : List Pt) × IsOwner directed rings r s
    has_owner = each_owned rings are.ascending (λ s i. in_contains rings s i) (λ s i. inr (contains_in rings s i))
