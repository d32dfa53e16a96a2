-- A ring that visits no vertex twice, begun at its least vertex, is its own least rotation.
use Rattle.std.proofs.Common.{◌≡◌, ◌⊎◌, ℕ, suc, ◌<◌, ◌≤◌, List, [], ◌∷◌, ◌++◌, length, get_or, map, refl, sym, ◌∙◌, ap, subst, inl, inr, arith}
use Rattle.std.specs.Prelude.{All}
use Rattle.std.proofs.lemmas.List.{append-nil, get_or-map, length-map}
use Rattle.std.proofs.lemmas.List.Elements.{All-map, All-weaker}
use Rattle.std.proofs.Math.Seq.{get_or-append_seam}
use Rattle.geom.specs.declared.point.Pt.{Pt}
use Rattle.geom.specs.declared.directed.DirectedEdge.{DirectedEdge}
use Rattle.geom.specs.Order.{IsBefore}
use Rattle.geom.specs.ListOrder.{IsListBefore, IsLeastRotation}
use Rattle.geom.specs.Rings.{IsSimple}
use Rattle.geom.specs.Directed.{AreDirected}
use Rattle.geom.proofs.Edges.{before_strict}
use Rattle.polygonize.specs.Next.{edge_at, ring_of}
use Rattle.polygonize.specs.Number.{IsVertex}
use Rattle.polygonize.specs.Clockwise.{less}
use Rattle.geom.specs.Canonical.{Shape, written_rings}
use Rattle.polygonize.specs.Written.{AreSimple, IsCanonical, IsSound}
use Rattle.polygonize.proofs.NextEdge.Turns.{less_is, neither_less}
use Rattle.polygonize.proofs.CycleRings.{less_apart, list_irreflexive}
use Rattle.polygonize.proofs.NextEdge.Sooner.{by_test, not_less}
use Rattle.polygonize.proofs.Numbers.{same_vertex, start_order}
use Rattle.polygonize.proofs.RingPieces.Mapping.{simple_map}

-- numbers are ordered as points are
pub vertex_order : (ds : List DirectedEdge) → AreDirected ds → (j k : ℕ) → IsVertex ds k → j < k → IsBefore (edge_at ds j).from (edge_at ds k).from
vertex_order ds a j k w l = by_test (less (edge_at ds j).from (edge_at ds k).from) (λ h. less_is (edge_at ds j).from (edge_at ds k).from h)
    (λ h. absurd (w.first j l (neither_less (edge_at ds j).from (edge_at ds k).from h (not_less (edge_at ds k).from (edge_at ds j).from (start_order ds a j k l w.inside)))))

-- the first point is before the others
first_before : (ds : List DirectedEdge) → AreDirected ds → (ring : List ℕ) → IsSound ds ring → All (λ k. get_or ring 0 0 ≤ k) ring → (i : ℕ) → 0 < i → i < length ring → IsBefore (edge_at ds (get_or ring 0 0)).from (edge_at ds (get_or ring i 0)).from
first_before ds a ring s l i h k = vertex_order ds a (get_or ring 0 0) (get_or ring i 0) (s.vertices i 0 k) (less_of (l i 0 k) (s.simple 0 i 0 h k))
  where
    less_of : {x y : ℕ} → x ≤ y → ¬ (x ≡ y) → x < y
    less_of h n = omega arith

point_at : (ds : List DirectedEdge) (ring : List ℕ) (i : ℕ) (d : Pt) → i < length ring → get_or (ring_of ds ring) i d ≡ (edge_at ds (get_or ring i 0)).from
point_at ds ring i d h = get_or-map (λ k. (edge_at ds k).from) ring i 0 d h

none_before : (ds : List DirectedEdge) → AreDirected ds → (ring : List ℕ) → IsSound ds ring → All (λ k. get_or ring 0 0 ≤ k) ring → (front back : List Pt) → ring_of ds ring ≡ front ++ back → ¬ (IsListBefore (back ++ front) (ring_of ds ring))
none_before ds a ring s l [] back e h = list_irreflexive (ring_of ds ring) (let P : List Pt → Type 0 = λ t. IsListBefore t (ring_of ds ring) in subst P (append-nil back ∙ sym e) h)
none_before ds a ring s l (p ∷ ps) [] e h = list_irreflexive (ring_of ds ring) (let P : List Pt → Type 0 = λ t. IsListBefore t (ring_of ds ring) in subst P (sym (append-nil (p ∷ ps)) ∙ sym e) h)
none_before ds a ring s l (p ∷ ps) (q ∷ qs) e h = by_kind (let P : List Pt → Type 0 = λ t. IsListBefore (q ∷ qs ++ p ∷ ps) t in subst P e h)
  where
    count : length (ring_of ds ring) ≡ length ring
    count = length-map ring (λ k. (edge_at ds k).from)

    long : (xs ys : List Pt) (y : Pt) → suc (length xs) < length (y ∷ (xs ++ q ∷ ys))
    long [] ys y = omega arith
    long (x ∷ xs) ys y = further (long xs ys x)
      where
        further : {m n : ℕ} → suc m < suc n → suc (suc m) < suc (suc n)
        further h = omega arith

    inside : suc (length ps) < length ring
    inside = let P : ℕ → Type 0 = λ n. suc (length ps) < n in subst P (sym (ap length e) ∙ count) (long ps qs p)

    some : 0 < length ring
    some = omega (arith, inside)

    p_is : (edge_at ds (get_or ring 0 0)).from ≡ p
    p_is = sym (point_at ds ring 0 p some) ∙ ap (λ t. get_or t 0 p) e

    q_is : (edge_at ds (get_or ring (suc (length ps)) 0)).from ≡ q
    q_is = sym (point_at ds ring (suc (length ps)) q inside) ∙ ap (λ t. get_or t (suc (length ps)) q) e ∙ get_or-append_seam (p ∷ ps) q qs q

    before : IsBefore p q
    before = let P : Pt → Type 0 = λ t. IsBefore t q in subst P p_is (let Q : Pt → Type 0 = IsBefore (edge_at ds (get_or ring 0 0)).from in subst Q q_is (first_before ds a ring s l (suc (length ps)) (omega arith) inside))

    by_kind : IsBefore q p ⊎ ((q ≡ p) × IsListBefore (qs ++ p ∷ ps) (ps ++ q ∷ qs)) → ⊥
    by_kind (inl b) = before_strict p q before b
    by_kind (inr b) = less_apart p q before (sym b.0)

pub own_least : (ds : List DirectedEdge) → AreDirected ds → (ring : List ℕ) → IsSound ds ring → All (λ k. get_or ring 0 0 ≤ k) ring → IsLeastRotation (ring_of ds ring) (ring_of ds ring)
own_least ds a ring s l = record {
  rotation = record { front = []; back = ring_of ds ring; was = refl; is = sym (append-nil (ring_of ds ring)) };
  none_less = λ turned r h. none_before ds a ring s l r.front r.back r.was (let P : List Pt → Type 0 = λ t. IsListBefore t (ring_of ds ring) in subst P r.is h);
}

pub least_rings : {W : Type 0} (f : W → List ℕ) (ds : List DirectedEdge) → AreDirected ds → (vs : List W) (shapes : List Shape) → All (λ w. IsCanonical ds (f w)) vs → written_rings shapes ≡ map (λ w. ring_of ds (f w)) vs → All (λ ring. IsLeastRotation ring ring) (written_rings shapes)
least_rings f ds a vs shapes h e = let P : List (List Pt) → Type 0 = All (λ ring. IsLeastRotation ring ring) in subst P (sym e)
    (All-map (λ ring. IsLeastRotation ring ring) (λ w. ring_of ds (f w)) vs (All-weaker (λ w. IsCanonical ds (f w)) (λ w. IsLeastRotation (ring_of ds (f w)) (ring_of ds (f w))) (λ w k. own_least ds a (f w) k.sound k.least) vs h))

simple_points : (ds : List DirectedEdge) (ring : List ℕ) → IsSound ds ring → (3 ≤ length (ring_of ds ring)) × IsSimple (ring_of ds ring)
simple_points ds ring s = (
  let P : ℕ → Type 0 = λ n. 3 ≤ n in subst P (sym (length-map ring (λ k. (edge_at ds k).from))) s.long,
  simple_map (IsVertex ds) (λ k. (edge_at ds k).from) (same_vertex ds) ring s.vertices s.simple,
)

pub simple_rings : {W : Type 0} (f : W → List ℕ) (ds : List DirectedEdge) (vs : List W) (shapes : List Shape) → All (λ w. IsSound ds (f w)) vs → written_rings shapes ≡ map (λ w. ring_of ds (f w)) vs → AreSimple (written_rings shapes)
simple_rings f ds vs shapes h e = let P : List (List Pt) → Type 0 = AreSimple in subst P (sym e)
    (All-map (λ ring. (3 ≤ length ring) × IsSimple ring) (λ w. ring_of ds (f w)) vs (All-weaker (λ w. IsSound ds (f w)) (λ w. (3 ≤ length (ring_of ds (f w))) × IsSimple (ring_of ds (f w))) (λ w k. simple_points ds (f w) k) vs h))
