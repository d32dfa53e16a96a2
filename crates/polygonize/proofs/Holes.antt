-- A ring begun at its least vertex is a hole where it turns to the right at a visit of that vertex.
use Rattle.std.proofs.Common.{◌≡◌, ℕ, ◌<◌, ◌≤◌, List, length, get_or, sym, ◌∙◌, ap, subst, inl, inr, arith, true, false}
use Rattle.std.proofs.lemmas.Int.{ints}
use lib.Signed.{lt_z}
use Rattle.std.specs.Prelude.{All, Contains, ℤ, pos, ◌<ℤ◌}
use Rattle.std.proofs.lemmas.Bool.{cases_lt}
use Rattle.std.proofs.lemmas.List.Elements.{All-map, Contains-get_or}
use Rattle.geom.specs.declared.point.Pt.{Pt}
use Rattle.geom.specs.declared.directed.DirectedEdge.{DirectedEdge}
use Rattle.geom.specs.Order.{IsBefore}
use Rattle.geom.specs.Determinant.{side}
use Rattle.geom.specs.Directed.{AreDirected, from_to}
use Rattle.geom.specs.Rings.{Corner, corner, ring_corners}
use Rattle.geom.specs.Holes.{IsHole, IsLeastVertex}
use Rattle.geom.proofs.Edges.{before_strict}
use Rattle.geom.proofs.Orders.{before_itself}
use Rattle.polygonize.specs.Next.{edge_at, nothing, ring_of}
use Rattle.polygonize.specs.Number.{IsVertex}
use Rattle.polygonize.proofs.Least.{vertex_order}
use Rattle.polygonize.proofs.RingPieces.Neighbours.{place_after, after_inside, vertex_at, point_at, length-ring, length-around, corner_round}

-- ---- the least vertex
none_less : (ds : List DirectedEdge) → AreDirected ds → (j k : ℕ) → IsVertex ds k → j ≤ k → ¬ (IsBefore (edge_at ds k).from (edge_at ds j).from)
none_less ds a j k w l b = elim (cases_lt j k) [
  | inl h ↦ before_strict (edge_at ds j).from (edge_at ds k).from (vertex_order ds a j k w h) b
  | inr h ↦ (let e : k ≡ j = omega arith in before_itself (edge_at ds j).from (let P : ℕ → Type 0 = λ t. IsBefore (edge_at ds t).from (edge_at ds j).from in subst P e b))
]

pub least_point : (ds : List DirectedEdge) → AreDirected ds → (ring : List ℕ) → All (IsVertex ds) ring → All (λ k. get_or ring 0 0 ≤ k) ring → 0 < length ring → IsLeastVertex (ring_of ds ring) (vertex_at ds ring 0)
least_point ds a ring v l h = record {
  on = let P : Pt → Type 0 = Contains (ring_of ds ring) in subst P (point_at ds ring 0 nothing.from h) (Contains-get_or (ring_of ds ring) 0 nothing.from (let e = length-ring ds ring in omega arith));
  least = All-map (λ p. ¬ (IsBefore p (vertex_at ds ring 0))) (λ k. (edge_at ds k).from) ring (λ i d k. none_less ds a (get_or ring 0 0) (get_or ring i d) (v i d k) (l i d k));
}

-- only the first number is that of the least vertex
pub least_number : (ds : List DirectedEdge) → AreDirected ds → (ring : List ℕ) → All (IsVertex ds) ring → All (λ k. get_or ring 0 0 ≤ k) ring → (i : ℕ) → i < length ring → IsLeastVertex (ring_of ds ring) (vertex_at ds ring i) → get_or ring i 0 ≡ get_or ring 0 0
least_number ds a ring v l i h w = elim (cases_lt (get_or ring 0 0) (get_or ring i 0)) [
  | inl k ↦ absurd (w.least 0 nothing.from (let e = length-ring ds ring in omega arith)
      (let P : Pt → Type 0 = λ t. IsBefore t (vertex_at ds ring i) in subst P (sym (point_at ds ring 0 nothing.from (omega arith))) (vertex_order ds a (get_or ring 0 0) (get_or ring i 0) (v i 0 h) k)))
  | inr k ↦ same (l i 0 h) k
]
  where
    same : {m n : ℕ} → m ≤ n → n ≤ m → n ≡ m
    same h k = omega arith

-- ---- turns
-- the vertex after the place i is the first one, and the ring turns to the right there
pub record TurnsRight (ds : List DirectedEdge) (ring : List ℕ) (i : ℕ) : Type 0 where
  pub first : get_or ring (place_after (length ring) i) 0 ≡ get_or ring 0 0
  pub right : pos 0 <ℤ side (vertex_at ds ring (place_after (length ring) i)) (vertex_at ds ring i) (vertex_at ds ring (place_after (length ring) (place_after (length ring) i)))

count : (ds : List DirectedEdge) (ring : List ℕ) → length (ring_corners (ring_of ds ring)) ≡ length ring
count ds ring = length-around corner _ ∙ length-around from_to (ring_of ds ring) ∙ length-ring ds ring

pub hole_here : (ds : List DirectedEdge) → AreDirected ds → (ring : List ℕ) → All (IsVertex ds) ring → All (λ k. get_or ring 0 0 ≤ k) ring → (i : ℕ) → i < length ring → TurnsRight ds ring i → IsHole (ring_of ds ring)
hole_here ds a ring v l i h t = record {
  at = there;
  on = let P : Corner → Type 0 = Contains (ring_corners (ring_of ds ring)) in subst P (corner_round ds ring i there h) (Contains-get_or (ring_corners (ring_of ds ring)) i there (let e = count ds ring in omega arith));
  least = let P : ℕ → Type 0 = λ k. IsLeastVertex (ring_of ds ring) (edge_at ds k).from in subst P (sym t.first) (least_point ds a ring v l (omega arith));
  turns = t.right;
}
  where
    there : Corner
    there = corner (from_to (vertex_at ds ring i) (vertex_at ds ring (place_after (length ring) i))) (from_to (vertex_at ds ring (place_after (length ring) i)) (vertex_at ds ring (place_after (length ring) (place_after (length ring) i))))

pub no_hole : (ds : List DirectedEdge) → AreDirected ds → (ring : List ℕ) → All (IsVertex ds) ring → All (λ k. get_or ring 0 0 ≤ k) ring → ((i : ℕ) → i < length ring → ¬ (TurnsRight ds ring i)) → ¬ (IsHole (ring_of ds ring))
no_hole ds a ring v l n h = n h.on.0 inside (record {
  first = least_number ds a ring v l (place_after (length ring) h.on.0) (after_inside (length ring) h.on.0 inside) facts.0;
  right = facts.1;
})
  where
    inside : h.on.0 < length ring
    inside = let e = count ds ring in let k = h.on.1 in omega arith

    facts : IsLeastVertex (ring_of ds ring) (vertex_at ds ring (place_after (length ring) h.on.0)) × (pos 0 <ℤ side (vertex_at ds ring (place_after (length ring) h.on.0)) (vertex_at ds ring h.on.0) (vertex_at ds ring (place_after (length ring) (place_after (length ring) h.on.0))))
    facts = let P : Corner → Type 0 = λ c. IsLeastVertex (ring_of ds ring) c.comes.to × (pos 0 <ℤ side c.comes.to c.comes.from c.goes.to) in
        subst P (sym h.on.2 ∙ corner_round ds ring h.on.0 h.at inside) (h.least, h.turns)

-- ---- what the loop tests
is_above : (a : ℤ) → true ≡ lt_z (pos 0) a → pos 0 <ℤ a
is_above a h = omega (arith, ints)

not_above : (a : ℤ) → false ≡ lt_z (pos 0) a → ¬ (pos 0 <ℤ a)
not_above a h k = omega (arith, ints)

-- the value that the loop tests at the place i
abbrev pub turn_there : List DirectedEdge → List ℕ → ℕ → ℕ → ℕ → ℤ
turn_there ds ring i at after = side (vertex_at ds ring at) (vertex_at ds ring i) (vertex_at ds ring after)

turn_is : (ds : List DirectedEdge) (ring : List ℕ) (i at after : ℕ) → at ≡ place_after (length ring) i → after ≡ place_after (length ring) at → turn_there ds ring i at after ≡ turn_there ds ring i (place_after (length ring) i) (place_after (length ring) (place_after (length ring) i))
turn_is ds ring i at after e f = ap (turn_there ds ring i at) f ∙ ap (λ t. turn_there ds ring i t (place_after (length ring) t)) e

pub turns_here : (ds : List DirectedEdge) (ring : List ℕ) (i at after : ℕ) → at ≡ place_after (length ring) i → after ≡ place_after (length ring) at → get_or ring at 0 ≡ get_or ring 0 0 → true ≡ lt_z (pos 0) (turn_there ds ring i at after) → TurnsRight ds ring i
turns_here ds ring i at after e f s t = record {
  first = ap (λ k. get_or ring k 0) (sym e) ∙ s;
  right = let P : ℤ → Type 0 = λ n. pos 0 <ℤ n in subst P (turn_is ds ring i at after e f) (is_above (turn_there ds ring i at after) t);
}

pub turned_there : (ds : List DirectedEdge) (ring : List ℕ) (i at after m : ℕ) → at ≡ place_after (length ring) i → after ≡ place_after (length ring) at → m ≡ i → TurnsRight ds ring m → (get_or ring at 0 ≡ get_or ring 0 0) × ¬ (false ≡ lt_z (pos 0) (turn_there ds ring i at after))
turned_there ds ring i at after m e f q t = (
  ap (λ k. get_or ring k 0) e ∙ now.first,
  λ h. not_above (turn_there ds ring i at after) h (let P : ℤ → Type 0 = λ n. pos 0 <ℤ n in subst P (sym (turn_is ds ring i at after e f)) now.right),
)
  where
    now : TurnsRight ds ring i
    now = let P : ℕ → Type 0 = TurnsRight ds ring in subst P q t
