-- The listed directed edges are those of the result.
use Rattle.std.proofs.Common.{◌≡◌, ◌⊎◌, inl, inr, ℕ, suc, ◌+◌, ◌<◌, Bool, true, false, cond, List, [], ◌∷◌, ◌++◌, map, length, get_or, take, refl, sym, ◌∙◌, ap, subst, arith, add-one, append_assoc, zero, filter}
use Rattle.std.specs.Prelude.{◌&&◌, not}
use Rattle.std.proofs.lemmas.List.{append-nil, map-append}
use Rattle.std.proofs.lemmas.List.Elements.{filter-append}
use Rattle.std.proofs.Math.Seq.{take-suc}
use Rattle.geom.specs.declared.point.Pt.{Pt}
use Rattle.geom.specs.declared.op.Op.{Op}
use Rattle.geom.specs.declared.segment.Source.{Source}
use Rattle.geom.specs.declared.segment.Source.TheVariants.{A, B}
use Rattle.geom.specs.declared.edge.Edge.{Edge}
use Rattle.geom.specs.declared.edge.Counted.{Counted}
use Rattle.geom.specs.declared.directed.DirectedEdge.{DirectedEdge}
use Rattle.geom.specs.ResultEdges.{left_side, is_result_edge, holds_at}
use Rattle.geom.specs.Rounded.{edges_of, odd_edges}
use Rattle.geom.specs.Directed.{from_to, AreDirected, IsResultEdge, AreResultEdges}
use Rattle.geom.proofs.Lists.{In, contains_in, in_contains, in_append, in_front, in_back}
use Rattle.geom.specs.Label.{OddLayers, both_ways, bounds, counts_odd, ways, ways_of}
use Rattle.geom.proofs.Doubling.{right_is_left}
use Rattle.geom.proofs.Orders.{IsSortedOnce, directed_cmp, directed_ascending}

abbrev pub layers_of : List Counted → OddLayers
layers_of counted = record { a = odd_edges A counted; b = odd_edges B counted }

abbrev pub labels_of : Op → List Counted → List Counted → List (Bool × Bool)
labels_of op counted cs = map (λ c. both_ways op (layers_of counted) c.edge) cs

in_if : (t : Bool) (d e : DirectedEdge) → In d (cond t (e ∷ []) []) → (t ≡ true) × (d ≡ e)
in_if true d e (inl h) = (refl, sym h)
in_if true d e (inr i) = absurd i
in_if false d e i = absurd i

if_in : (t : Bool) (d e : DirectedEdge) → t ≡ true → d ≡ e → In d (cond t (e ∷ []) [])
if_in true d e t h = inl (sym h)
if_in false d e t h = absurd (let k = t in cc)

-- ---- one edge
pub way_is : (op : Op) (counted : List Counted) (e : Edge) (d : DirectedEdge) → In e (edges_of counted) → In d (ways e (both_ways op (layers_of counted) e)) → IsResultEdge op counted d
way_is op counted e d i j = elim (in_append (cond (bounds op (layers_of counted) e.p e.q) (from_to e.p e.q ∷ []) []) (cond (bounds op (layers_of counted) e.q e.p) (from_to e.q e.p ∷ []) []) d j) [
  | inl k ↦ (let h = in_if (bounds op (layers_of counted) e.p e.q) d (from_to e.p e.q) k in record { edge = e; rounded = in_contains (edges_of counted) e i; runs = inl h.1; bounds = (let P : DirectedEdge → Type 0 = λ t. is_result_edge op counted t.from t.to ≡ true in subst P (sym h.1) h.0) })
  | inr k ↦ (let h = in_if (bounds op (layers_of counted) e.q e.p) d (from_to e.q e.p) k in record { edge = e; rounded = in_contains (edges_of counted) e i; runs = inr h.1; bounds = (let P : DirectedEdge → Type 0 = λ t. is_result_edge op counted t.from t.to ≡ true in subst P (sym h.1) h.0) })
]

pub is_way : (op : Op) (counted : List Counted) (e : Edge) (d : DirectedEdge) → (d ≡ from_to e.p e.q) ⊎ (d ≡ from_to e.q e.p) → is_result_edge op counted d.from d.to ≡ true → In d (ways e (both_ways op (layers_of counted) e))
is_way op counted e d (inl h) b = in_front (cond (bounds op (layers_of counted) e.p e.q) (from_to e.p e.q ∷ []) []) (cond (bounds op (layers_of counted) e.q e.p) (from_to e.q e.p ∷ []) []) d (if_in (bounds op (layers_of counted) e.p e.q) d (from_to e.p e.q) (let P : DirectedEdge → Type 0 = λ t. is_result_edge op counted t.from t.to ≡ true in subst P h b) h)
is_way op counted e d (inr h) b = in_back (cond (bounds op (layers_of counted) e.p e.q) (from_to e.p e.q ∷ []) []) (cond (bounds op (layers_of counted) e.q e.p) (from_to e.q e.p ∷ []) []) d (if_in (bounds op (layers_of counted) e.q e.p) d (from_to e.q e.p) (let P : DirectedEdge → Type 0 = λ t. is_result_edge op counted t.from t.to ≡ true in subst P h b) h)

-- ---- all edges
listed_is : (op : Op) (counted cs : List Counted) → ((e : Edge) → In e (edges_of cs) → In e (edges_of counted)) → (d : DirectedEdge) → In d (ways_of cs (labels_of op counted cs)) → IsResultEdge op counted d
listed_is op counted [] f d i = absurd i
listed_is op counted (c ∷ cs) f d i = elim (in_append (ways c.edge (both_ways op (layers_of counted) c.edge)) (ways_of cs (labels_of op counted cs)) d i) [
  | inl j ↦ way_is op counted c.edge d (f c.edge (inl refl)) j
  | inr j ↦ listed_is op counted cs (λ e k. f e (inr k)) d j
]

is_listed : (op : Op) (counted cs : List Counted) (e : Edge) (d : DirectedEdge) → In e (edges_of cs) → (d ≡ from_to e.p e.q) ⊎ (d ≡ from_to e.q e.p) → is_result_edge op counted d.from d.to ≡ true → In d (ways_of cs (labels_of op counted cs))
is_listed op counted [] e d i r b = absurd i
is_listed op counted (c ∷ cs) e d (inl h) r b = in_front (ways c.edge (both_ways op (layers_of counted) c.edge)) (ways_of cs (labels_of op counted cs)) d (is_way op counted c.edge d (let P : Edge → Type 0 = λ t. (d ≡ from_to t.p t.q) ⊎ (d ≡ from_to t.q t.p) in subst P (sym h) r) b)
is_listed op counted (c ∷ cs) e d (inr i) r b = in_back (ways c.edge (both_ways op (layers_of counted) c.edge)) (ways_of cs (labels_of op counted cs)) d (is_listed op counted cs e d i r b)

pub result_edges : (op : Op) (counted : List Counted) (ds : List DirectedEdge) → IsSortedOnce directed_cmp (ways_of counted (labels_of op counted counted)) ds → AreResultEdges op counted ds
result_edges op counted ds s = record {
  ascending = directed_ascending ds s.ascending;
  exact = λ d. (
    (λ h. listed_is op counted counted (λ e i. i) d (contains_in (ways_of counted (labels_of op counted counted)) d ((s.same d).0 h))),
    (λ r. (s.same d).1 (in_contains (ways_of counted (labels_of op counted counted)) d (is_listed op counted counted r.edge d (contains_in (edges_of counted) r.edge r.rounded) r.runs r.bounds))),
  );
}

-- ---- no edge in both directions
not_both : (l r : Bool) → l && not r ≡ true → r && not l ≡ true → ⊥
not_both true true h k = cc
not_both true false h k = cc
not_both false r h k = cc

pub one_way : (op : Op) (counted : List Counted) (u v : Pt) → is_result_edge op counted u v ≡ true → is_result_edge op counted v u ≡ true → ⊥
one_way op counted u v h k = not_both (holds_at op counted (left_side u v)) (holds_at op counted (left_side v u))
    (let P : Bool → Type 0 = λ t. holds_at op counted (left_side u v) && not t ≡ true in subst P (ap (holds_at op counted) (right_is_left u v)) h)
    (let P : Bool → Type 0 = λ t. holds_at op counted (left_side v u) && not t ≡ true in subst P (ap (holds_at op counted) (right_is_left v u)) k)

pub are_directed : (op : Op) (counted : List Counted) (ds : List DirectedEdge) → AreResultEdges op counted ds → AreDirected ds
are_directed op counted ds a = record { ascending = a.ascending; one_way = λ u v i j. one_way op counted u v ((a.exact (from_to u v)).0 i).bounds ((a.exact (from_to v u)).0 j).bounds }

-- ---- the loop
one_longer : (cs : List Counted) (ls : List (Bool × Bool)) (i : ℕ) (c : Counted) (l : Bool × Bool) → i < length cs → i < length ls → get_or cs i c ≡ c → get_or ls i l ≡ l → ways_of (take i cs) (take i ls) ++ ways c.edge l ≡ ways_of (take (suc i) cs) (take (suc i) ls)
one_longer [] ls i c l h k e f = absurd (omega arith)
one_longer (x ∷ cs) [] i c l h k e f = absurd (omega arith)
one_longer (x ∷ cs) (y ∷ ls) zero c l h k e f = (λ i. ways (sym e i).edge (sym f i)) ∙ sym (append-nil (ways x.edge y))
one_longer (x ∷ cs) (y ∷ ls) (suc i) c l h k e f = append_assoc (ways x.edge y) (ways_of (take i cs) (take i ls)) (ways c.edge l) ∙ ap (λ t. ways x.edge y ++ t) (one_longer cs ls i c l (omega arith) (omega arith) e f)

pub one_more : (cs : List Counted) (ls : List (Bool × Bool)) (i : ℕ) (c : Counted) (l : Bool × Bool) → i < length cs → i < length ls → get_or cs i c ≡ c → get_or ls i l ≡ l → ways_of (take i cs) (take i ls) ++ ways c.edge l ≡ ways_of (take (i + 1) cs) (take (i + 1) ls)
one_more cs ls i c l h k e f = rw add-one (one_longer cs ls i c l h k e f)

odd_one : (layer : Source) (c : Counted) → odd_edges layer (c ∷ []) ≡ cond (counts_odd layer c) (c.edge ∷ []) []
odd_one A c = edge_if (counts_odd A c)
  where
    edge_if : (t : Bool) → edges_of (cond t (c ∷ []) []) ≡ cond t (c.edge ∷ []) []
    edge_if true = refl
    edge_if false = refl
odd_one B c = edge_if (counts_odd B c)
  where
    edge_if : (t : Bool) → edges_of (cond t (c ∷ []) []) ≡ cond t (c.edge ∷ []) []
    edge_if true = refl
    edge_if false = refl

odd_append : (layer : Source) (xs ys : List Counted) → odd_edges layer (xs ++ ys) ≡ odd_edges layer xs ++ odd_edges layer ys
odd_append A xs ys = ap edges_of (filter-append (λ c. counts_odd A c) xs ys) ∙ map-append (λ c. c.edge) (filter (λ c. counts_odd A c) xs) (filter (λ c. counts_odd A c) ys)
odd_append B xs ys = ap edges_of (filter-append (λ c. counts_odd B c) xs ys) ∙ map-append (λ c. c.edge) (filter (λ c. counts_odd B c) xs) (filter (λ c. counts_odd B c) ys)

pub odd_more : (layer : Source) (cs : List Counted) (i : ℕ) (c : Counted) (old new : List Edge) → i < length cs → get_or cs i c ≡ c → old ≡ odd_edges layer (take i cs) → new ≡ old ++ cond (counts_odd layer c) (c.edge ∷ []) [] → new ≡ odd_edges layer (take (i + 1) cs)
odd_more layer cs i c old new h e p q = q ∙ ap (λ t. t ++ cond (counts_odd layer c) (c.edge ∷ []) []) p ∙ ap (λ t. odd_edges layer (take i cs) ++ t) (sym (odd_one layer c)) ∙ sym (odd_append layer (take i cs) (c ∷ []))
    ∙ ap (odd_edges layer) (ap (λ t. take i cs ++ t ∷ []) (sym e) ∙ sym (take-suc cs i c h) ∙ rw add-one refl)
