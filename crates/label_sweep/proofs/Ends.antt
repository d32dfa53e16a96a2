-- The vertices, and the edges that begin at one.
use Rattle.std.proofs.Common.{◌≡◌, ◌⊎◌, inl, inr, ⊎_elim, ℕ, zero, suc, false, ◌==◌, ◌+◌, ◌<◌, ◌≤◌, List, length, get_or, refl, sym, ap, ◌∙◌, subst, arith}
use Rattle.std.specs.List.{All, AllWithin, AllPairs, Contains}
use Rattle.std.proofs.lemmas.Bool.{cases_eq}
use Rattle.std.proofs.lemmas.List.{get_or_default}
use Rattle.std.proofs.lemmas.List.Elements.{All-contains, All-contains_itself}
use Rattle.geom.specs.declared.point.Pt.{Pt}
use Rattle.geom.specs.declared.edge.Edge.{Edge}
use Rattle.geom.specs.declared.edge.Counted.{Counted}
use Rattle.geom.specs.EdgeOrder.{IsEdgeBefore}
use Rattle.geom.specs.Order.{IsBefore, IsUpTo}
use Rattle.geom.specs.Rounded.{edges_of}
use Rattle.geom.proofs.Lists.{contains_in, in_contains, in_map, map_in}
use Rattle.geom.proofs.Orders.{IsSortedOnce, before_trans, points_ascending, pt_cmp}
use Rattle.label_sweep.specs.Status.{AreEnds, AreVertices, IsVertexOf}

pub starts_upto : (e f : Edge) → IsEdgeBefore e f → IsUpTo e.p f.p
starts_upto e f (inl b) = inr b
starts_upto e f (inr h) = inl h.0

pub after_upto : (v p q : Pt) → IsBefore v p → IsUpTo p q → IsBefore v q
after_upto v p q b (inl e) = let P : Pt → Type 0 = λ t. IsBefore v t in subst P e b
after_upto v p q b (inr c) = before_trans v p q b c

pub le_cases : (i j : ℕ) → i ≤ j → (i < j) ⊎ (i ≡ j)
le_cases i j h = elim (cases_eq i j) [ inl e ↦ inr e | inr n ↦ inl (omega arith) ]

-- from the first that begins after v on all do
pub all_past : (cs : List Counted) → AllPairs (λ c d. IsEdgeBefore c.edge d.edge) cs → (v : Pt) (n : ℕ) (r : Counted) → n < length cs → IsBefore v (get_or cs n r).edge.p
    → AllWithin (λ c. IsBefore v c.edge.p) cs n (length cs)
all_past cs a v n r h b k d l m = ⊎_elim
    (λ s. after_upto v (get_or cs n d).edge.p (get_or cs k d).edge.p (here d) (starts_upto (get_or cs n d).edge (get_or cs k d).edge (a n k d s m)))
    (λ e. let P : ℕ → Type 0 = λ t. IsBefore v (get_or cs t d).edge.p in subst P e (here d))
    (le_cases n k l)
  where
    here : (d : Counted) → IsBefore v (get_or cs n d).edge.p
    here d = let P : Counted → Type 0 = λ t. IsBefore v t.edge.p in subst P (get_or_default cs n r d h) b

-- ---- the vertices
pub are_vertices : (es : List Edge) (ends vs : List Pt) → AreEnds es ends → IsSortedOnce pt_cmp ends vs → AreVertices es vs
are_vertices es ends vs are s = record {
  ascending = points_ascending vs s.ascending;
  exact = λ v. ((λ c. (are v).0 ((s.same v).0 c)), (λ x. (s.same v).1 ((are v).1 x)));
}

pub edge_among : (cs : List Counted) (c : Counted) → Contains cs c → Contains (edges_of cs) c.edge
edge_among cs c h = in_contains (edges_of cs) c.edge (map_in (λ (t : Counted). t.edge) cs c (contains_in cs c h))

first_is_vertex : (cs : List Counted) (c : Counted) → Contains cs c → IsVertexOf (edges_of cs) c.edge.p
first_is_vertex cs c h = record { edge = c.edge; inside = edge_among cs c h; ends = inl refl }

second_is_vertex : (cs : List Counted) (c : Counted) → Contains cs c → IsVertexOf (edges_of cs) c.edge.q
second_is_vertex cs c h = record { edge = c.edge; inside = edge_among cs c h; ends = inr refl }

-- a list of vertices with one more vertex, perhaps
pub vertices_more : (cs : List Counted) (ends more : List Pt) (v : Pt) → IsVertexOf (edges_of cs) v → All (IsVertexOf (edges_of cs)) ends → ((w : Pt) → Contains more w → Contains ends w ⊎ (w ≡ v)) → All (IsVertexOf (edges_of cs)) more
vertices_more cs ends more v is all only k d l = ⊎_elim
    (λ h. All-contains (IsVertexOf (edges_of cs)) ends (get_or more k d) all h)
    (λ e. let P : Pt → Type 0 = IsVertexOf (edges_of cs) in subst P (sym e) is)
    (only (get_or more k d) (All-contains_itself more k d l))

pub firsts_more : (cs : List Counted) (ends more : List Pt) (n : ℕ) (c : Counted) → n < length cs → c ≡ get_or cs n c → All (IsVertexOf (edges_of cs)) ends → ((w : Pt) → Contains more w → Contains ends w ⊎ (w ≡ c.edge.p)) → All (IsVertexOf (edges_of cs)) more
firsts_more cs ends more n c h is = vertices_more cs ends more c.edge.p (first_is_vertex cs c (n, h, sym is))

pub seconds_more : (cs : List Counted) (ends more : List Pt) (n : ℕ) (c : Counted) → n < length cs → c ≡ get_or cs n c → All (IsVertexOf (edges_of cs)) ends → ((w : Pt) → Contains more w → Contains ends w ⊎ (w ≡ c.edge.q)) → All (IsVertexOf (edges_of cs)) more
seconds_more cs ends more n c h is = vertices_more cs ends more c.edge.q (second_is_vertex cs c (n, h, sym is))

-- a list that has all first ends, all second ends and nothing but vertices has the ends
pub are_ends : (cs : List Counted) (ends : List Pt) → All (λ c. Contains ends c.edge.p) cs → All (λ c. Contains ends c.edge.q) cs → All (IsVertexOf (edges_of cs)) ends → AreEnds (edges_of cs) ends
are_ends cs ends firsts seconds only v = (
  (λ h. All-contains (IsVertexOf (edges_of cs)) ends v only h),
  (λ x. there x),
)
  where
    there : IsVertexOf (edges_of cs) v → Contains ends v
    there x =
        let k = in_map (λ (t : Counted). t.edge) cs x.edge (contains_in (edges_of cs) x.edge x.inside) in
        let c : Contains cs k.0 = in_contains cs k.0 k.1 in
        let P : Pt → Type 0 = Contains ends in
        ⊎_elim
        (λ e. subst P (ap (λ (t : Edge). t.p) k.2 ∙ sym e) (All-contains (λ (t : Counted). Contains ends t.edge.p) cs k.0 firsts c))
        (λ e. subst P (ap (λ (t : Edge). t.q) k.2 ∙ sym e) (All-contains (λ (t : Counted). Contains ends t.edge.q) cs k.0 seconds c))
        x.ends

pub none_ends : (cs : List Counted) (ends : List Pt) → length cs ≡ 0 → All (IsVertexOf (edges_of cs)) ends → AreEnds (edges_of cs) ends
none_ends cs ends e only = are_ends cs ends (λ k d l. absurd (omega (arith, e, l))) (λ k d l. absurd (omega (arith, e, l))) only

-- the table still holds listed ends
pub held_more : (ends more held next : List Pt) (v : Pt) → ((w : Pt) → Contains ends w → Contains more w) → All (Contains ends) held → Contains ends v → ((w : Pt) → Contains next w → Contains held w ⊎ (w ≡ v)) → All (Contains more) next
held_more ends more held next v kept all is only k d l = ⊎_elim
    (λ h. kept (get_or next k d) (All-contains (Contains ends) held (get_or next k d) all h))
    (λ e. let P : Pt → Type 0 = Contains more in subst P (sym e) (kept v is))
    (only (get_or next k d) (All-contains_itself next k d l))

-- and one before
pub from_before : {X : Type 0} (P : X → Type 0) (xs : List X) (n m : ℕ) (x : X) → n + 1 ≡ m → n < length xs → x ≡ get_or xs n x → P x → AllWithin P xs m (length xs) → AllWithin P xs n (length xs)
from_before P xs n m x e h is p later k d l u = ⊎_elim
    (λ s. later k d (omega (arith, e, s)) u)
    (λ s. let Q : ℕ → Type 0 = λ t. P (get_or xs t d) in subst Q s (subst P (is ∙ get_or_default xs n x d h) p))
    (le_cases n k l)

pub some_are : (n : ℕ) → false ≡ (n == 0) → 0 < n
some_are zero e = absurd (cc)
some_are (suc n) e = omega arith
