-- Neighbours round a list by their places, and the corners of a ring of vertices.
use Rattle.std.proofs.Common.{◌≡◌, ◌⊎◌, ℕ, zero, suc, ◌+◌, ◌<◌, ◌≤◌, List, [], ◌∷◌, ◌++◌, length, get_or, refl, sym, ◌∙◌, ap, inl, inr, arith, if◌then◌else◌, nat_lt}
use Rattle.std.proofs.lemmas.List.{get_or-map, length-map}
use Rattle.std.proofs.lemmas.Bool.Decides.{nat_tests}
use Rattle.std.proofs.lemmas.Bool.{cases_lt}
use Rattle.std.proofs.Math.Seq.{get_or-append_seam}
use Rattle.std.proofs.Math.ListN.{get_or-append}
use Rattle.geom.specs.declared.point.Pt.{Pt}
use Rattle.geom.specs.declared.directed.DirectedEdge.{DirectedEdge}
use Rattle.geom.specs.Directed.{from_to}
use Rattle.geom.specs.Rings.{along, around, ring_edges, Corner, corner, ring_corners}
use Rattle.polygonize.specs.Next.{nothing, edge_at, ring_of}

-- the place after i among n places in a circle
abbrev pub place_after : ℕ → ℕ → ℕ
place_after n i = if nat_lt (i + 1) n then i + 1 else 0

after_cases : (n i j : ℕ) → j ≡ place_after n i → ((i + 1 < n) × (j ≡ suc i)) ⊎ ((n ≤ i + 1) × (j ≡ 0))
after_cases n i j e = elim (cases_lt (i + 1) n) [
  | inl l ↦ inl (l, grind (arith, nat_tests))
  | inr l ↦ inr (l, grind (arith, nat_tests))
]

pub after_inside : (n i : ℕ) → i < n → place_after n i < n
after_inside n i h = elim (after_cases n i (place_after n i) refl) [
  | inl c ↦ (let l = c.0 in let q = c.1 in omega arith)
  | inr c ↦ (let q = c.1 in omega arith)
]

along_at : {X Y : Type 0} (f : X → X → Y) (x : X) (ys : List X) (z : X) (i : ℕ) (d : Y) (e : X) → i ≤ length ys → get_or (along f x ys z) i d ≡ f (get_or (x ∷ ys) i e) (get_or (ys ++ z ∷ []) i e)
along_at f x [] z zero d e h = refl
along_at f x [] z (suc i) d e h = absurd (omega arith)
along_at f x (y ∷ ys) z zero d e h = refl
along_at f x (y ∷ ys) z (suc i) d e h = along_at f y ys z i d e (omega arith)

after_at : {X : Type 0} (x : X) (ys : List X) (i : ℕ) (e : X) → i ≤ length ys → get_or (ys ++ x ∷ []) i e ≡ get_or (x ∷ ys) (place_after (suc (length ys)) i) e
after_at x ys i e h = elim (after_cases (suc (length ys)) i (place_after (suc (length ys)) i) refl) [
  | inl c ↦ get_or-append ys (x ∷ []) e i (let l = c.0 in omega arith) ∙ ap (λ t. get_or (x ∷ ys) t e) (sym c.1)
  | inr c ↦ ap (λ t. get_or (ys ++ x ∷ []) t e) (let l = c.0 in omega arith) ∙ get_or-append_seam ys x [] e ∙ ap (λ t. get_or (x ∷ ys) t e) (sym c.1)
]

-- the pair at a place round a list is of the elements there and at the next place
pub around_at : {X Y : Type 0} (f : X → X → Y) (xs : List X) (i : ℕ) (d : Y) (e : X) → i < length xs → get_or (around f xs) i d ≡ f (get_or xs i e) (get_or xs (place_after (length xs) i) e)
around_at f [] i d e h = absurd (omega arith)
around_at f (x ∷ ys) i d e h = along_at f x ys x i d e (omega arith) ∙ ap (f (get_or (x ∷ ys) i e)) (after_at x ys i e (omega arith))

length-along : {X Y : Type 0} (f : X → X → Y) (x : X) (ys : List X) (z : X) → length (along f x ys z) ≡ suc (length ys)
length-along f x [] z = refl
length-along f x (y ∷ ys) z = ap suc (length-along f y ys z)

pub length-around : {X Y : Type 0} (f : X → X → Y) (xs : List X) → length (around f xs) ≡ length xs
length-around f [] = refl
length-around f (x ∷ ys) = length-along f x ys x

-- ---- the ring of vertices
abbrev pub vertex_at : List DirectedEdge → List ℕ → ℕ → Pt
vertex_at ds ring i = (edge_at ds (get_or ring i 0)).from

pub point_at : (ds : List DirectedEdge) (ring : List ℕ) (i : ℕ) (d : Pt) → i < length ring → get_or (ring_of ds ring) i d ≡ vertex_at ds ring i
point_at ds ring i d h = get_or-map (λ k. (edge_at ds k).from) ring i 0 d h

pub length-ring : (ds : List DirectedEdge) (ring : List ℕ) → length (ring_of ds ring) ≡ length ring
length-ring ds ring = length-map ring (λ k. (edge_at ds k).from)

pub edge_round : (ds : List DirectedEdge) (ring : List ℕ) (i : ℕ) (d : DirectedEdge) → i < length ring → get_or (ring_edges (ring_of ds ring)) i d ≡ from_to (vertex_at ds ring i) (vertex_at ds ring (place_after (length ring) i))
edge_round ds ring i d h = around_at from_to (ring_of ds ring) i d nothing.from (let e = length-ring ds ring in omega arith)
    ∙ ap (λ t. from_to t (get_or (ring_of ds ring) (place_after (length (ring_of ds ring)) i) nothing.from)) (point_at ds ring i nothing.from h)
    ∙ ap (λ n. from_to (vertex_at ds ring i) (get_or (ring_of ds ring) (place_after n i) nothing.from)) (length-ring ds ring)
    ∙ ap (from_to (vertex_at ds ring i)) (point_at ds ring (place_after (length ring) i) nothing.from (after_inside (length ring) i h))

pub corner_round : (ds : List DirectedEdge) (ring : List ℕ) (i : ℕ) (d : Corner) → i < length ring
    → get_or (ring_corners (ring_of ds ring)) i d ≡ corner (from_to (vertex_at ds ring i) (vertex_at ds ring (place_after (length ring) i))) (from_to (vertex_at ds ring (place_after (length ring) i)) (vertex_at ds ring (place_after (length ring) (place_after (length ring) i))))
corner_round ds ring i d h = around_at corner (ring_edges (ring_of ds ring)) i d nothing (let e = count in omega arith)
    ∙ ap (λ t. corner t (get_or (ring_edges (ring_of ds ring)) (place_after (length (ring_edges (ring_of ds ring))) i) nothing)) (edge_round ds ring i nothing h)
    ∙ ap (λ n. corner (from_to (vertex_at ds ring i) (vertex_at ds ring (place_after (length ring) i))) (get_or (ring_edges (ring_of ds ring)) (place_after n i) nothing)) count
    ∙ ap (corner (from_to (vertex_at ds ring i) (vertex_at ds ring (place_after (length ring) i)))) (edge_round ds ring (place_after (length ring) i) nothing (after_inside (length ring) i h))
  where
    count : length (ring_edges (ring_of ds ring)) ≡ length ring
    count = length-around from_to (ring_of ds ring) ∙ length-ring ds ring
