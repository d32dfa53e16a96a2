-- The edges that change a parity are layers, and bound the result of all edges.
use Rattle.std.proofs.Common.{◌≡◌, inl, inr, ⊎_elim, Bool, true, false, cond, List, [], ◌∷◌, filter, refl, sym, ap, ◌∙◌, subst}
use Rattle.std.specs.List.{Contains}
use Rattle.std.specs.Prelude.{◌&&◌, ◌||◌, not}
use Rattle.std.proofs.lemmas.List.Elements.{All-contains, All-contains_itself, All-filter}
use Rattle.std.proofs.lemmas.List.Kept.{AllPairs-filter}
use Rattle.geom.specs.declared.op.Op.{Op}
use Rattle.geom.specs.declared.point.Pt.{Pt}
use Rattle.geom.specs.declared.segment.Source.{Source}
use Rattle.geom.specs.declared.segment.Source.TheVariants.{A, B}
use Rattle.geom.specs.declared.edge.Edge.{Edge}
use Rattle.geom.specs.declared.edge.Counted.{Counted}
use Rattle.geom.specs.declared.directed.DirectedEdge.{DirectedEdge}
use Rattle.geom.specs.Directed.{IsResultEdge, RunsAlong}
use Rattle.geom.specs.Limit.{AreInLimit}
use Rattle.geom.specs.Operations.{holds}
use Rattle.geom.specs.Parity.{parity}
use Rattle.geom.specs.Pixel.{Point}
use Rattle.geom.specs.ResultEdges.{holds_at, is_result_edge, left_side, right_side}
use Rattle.geom.specs.Rounded.{HasEvenDegrees, IsEdgeBefore, edges_of, is_odd, odd_edges}
use Rattle.geom.proofs.Lists.{In, contains_in, in_contains, in_map, map_in}
use Rattle.geom.proofs.Owners.{all_in}
use Rattle.points_law.specs.Law.{AreLayers}
use Rattle.geom.proofs.Doubling.{right_is_left}
use Rattle.label_sweep.specs.declared.parities.Parities.{Parities}
use Rattle.label_sweep.specs.Changing.{ChangingAreLayers, ChangingBound, changes}
use Rattle.label_sweep.specs.Labels.{beyond, holds_of, parities_at, xor}
use Rattle.label_sweep.proofs.Words.{right_is_beyond}

-- ---- parts of lists
-- a part of what passes a weaker test
stay_step : {X : Type 0} (p : X → Bool) (x : X) (inner rest : List X) → filter p inner ≡ rest → (s : Bool) → (p x ≡ true → s ≡ true) → filter p (cond s (x ∷ inner) inner) ≡ cond (p x) (x ∷ rest) rest
stay_step {X} p x inner rest e true i = ap (λ (ys : List X). cond (p x) (x ∷ ys) ys) e
stay_step {X} p x inner rest e false i = passed (p x) i
  where
    passed : (t : Bool) → (t ≡ true → false ≡ true) → filter p inner ≡ cond t (x ∷ rest) rest
    passed true i = absurd (let e = i refl in cc)
    passed false i = e

filter_stays : {X : Type 0} (p q : X → Bool) → ((x : X) → p x ≡ true → q x ≡ true) → (xs : List X) → filter p (filter q xs) ≡ filter p xs
filter_stays p q h [] = refl
filter_stays p q h (x ∷ xs) = stay_step p x (filter q xs) (filter p xs) (filter_stays p q h xs) (q x) (h x)

in_all : {X : Type 0} (p : X → Bool) (xs : List X) (x : X) → In x (filter p xs) → In x xs
in_all p xs x i = contains_in xs x (All-contains (Contains xs) (filter p xs) x (All-filter p (Contains xs) xs (All-contains_itself xs)) (in_contains (filter p xs) x i))

in_one : {X : Type 0} (x y : X) (xs : List X) (t : Bool) → In x xs → In x (cond t (y ∷ xs) xs)
in_one x y xs true i = inr i
in_one x y xs false i = i

in_part : {X : Type 0} (p : X → Bool) (xs : List X) (x : X) → In x xs → p x ≡ true → In x (filter p xs)
in_part p [] x i h = i
in_part p (y ∷ xs) x (inl e) h = subst (λ (t : Bool). In x (cond t (y ∷ filter p xs) (filter p xs))) (sym (ap p e ∙ h)) (inl e)
in_part p (y ∷ xs) x (inr i) h = in_one x y (filter p xs) (p y) (in_part p xs x i h)

abbrev edge_of : Counted → Edge
edge_of c = c.edge

-- their edges are edges of all
edge_in_all : (cs : List Counted) (e : Edge) → Contains (edges_of (filter changes cs)) e → Contains (edges_of cs) e
edge_in_all cs e i = let c = in_map edge_of (filter changes cs) e (contains_in (edges_of (filter changes cs)) e i) in
    in_contains (edges_of cs) e (subst (λ (f : Edge). In f (edges_of cs)) c.2 (map_in edge_of cs c.0 (in_all changes cs c.0 c.1)))

-- ---- the odd edges are the same
or_left : (s t : Bool) → s ≡ true → s || t ≡ true
or_left true t h = refl
or_left false t h = absurd (let e = h in cc)

or_right : (s t : Bool) → t ≡ true → s || t ≡ true
or_right true t h = refl
or_right false t h = h

odd_same : (layer : Source) (cs : List Counted) → odd_edges layer (filter changes cs) ≡ odd_edges layer cs
odd_same A cs = ap edges_of (filter_stays (λ c. is_odd c.in_a) changes (λ c h. or_left (is_odd c.in_a) (is_odd c.in_b) h) cs)
odd_same B cs = ap edges_of (filter_stays (λ c. is_odd c.in_b) changes (λ c h. or_right (is_odd c.in_a) (is_odd c.in_b) h) cs)

pub changing_are_layers : ChangingAreLayers
changing_are_layers cs h = record {
  ascending = AllPairs-filter (λ c d. IsEdgeBefore c.edge d.edge) changes cs h.ascending;
  in_limit = all_in (λ (e : Edge). AreInLimit e.p e.q) (edges_of (filter changes cs))
      (λ e i. All-contains (λ (f : Edge). AreInLimit f.p f.q) (edges_of cs) e h.in_limit (edge_in_all cs e (in_contains (edges_of (filter changes cs)) e i)));
  noded = λ e f i j n. h.noded e f (edge_in_all cs e i) (edge_in_all cs f j) n;
  even_a = subst HasEvenDegrees (sym (odd_same A cs)) h.even_a;
  even_b = subst HasEvenDegrees (sym (odd_same B cs)) h.even_b;
}

-- so the operation holds of the same points
holds_same : (op : Op) (cs : List Counted) (z : Point) → holds_at op (filter changes cs) z ≡ holds_at op cs z
holds_same op cs z = λ i. holds op (parity (odd_same A cs i) z) (parity (odd_same B cs i) z)

bounds_same : (op : Op) (cs : List Counted) (u v : Pt) → is_result_edge op (filter changes cs) u v ≡ is_result_edge op cs u v
bounds_same op cs u v = λ i. holds_same op cs (left_side u v) i && not (holds_same op cs (right_side u v) i)

-- ---- what bounds the result changes a parity
none_left : (s t : Bool) → s || t ≡ false → s ≡ false
none_left true t h = absurd (let e = h in cc)
none_left false t h = refl

none_right : (s t : Bool) → s || t ≡ false → t ≡ false
none_right true t h = absurd (let e = h in cc)
none_right false t h = h

xor_none : (s t : Bool) → t ≡ false → xor s t ≡ s
xor_none true t h = ap not h
xor_none false t h = h

beyond_none : (at : Parities) (c : Counted) → changes c ≡ false → beyond at c ≡ at
beyond_none at c h = λ i. record { a = xor_none at.a (is_odd c.in_a) (none_left (is_odd c.in_a) (is_odd c.in_b) h) i; b = xor_none at.b (is_odd c.in_b) (none_right (is_odd c.in_a) (is_odd c.in_b) h) i }

not_alike : (l r : Bool) → r ≡ l → l && not r ≡ true → ⊥
not_alike true true e h = cc
not_alike true false e h = cc
not_alike false r e h = cc

module _ (op : Op) (cs : List Counted) (layers : AreLayers cs) where
  bounding_changes : (c : Counted) → Contains cs c → (d : DirectedEdge) → RunsAlong d c.edge → is_result_edge op cs d.from d.to ≡ true → changes c ≡ true
  bounding_changes c i d runs bounds = known (changes c) refl
    where
      p : Pt
      p = c.edge.p

      q : Pt
      q = c.edge.q

      Bounds : DirectedEdge → Type 0
      Bounds t = is_result_edge op cs t.from t.to ≡ true

      same_sides : changes c ≡ false → holds_at op cs (right_side p q) ≡ holds_at op cs (left_side p q)
      same_sides h = ap (holds_of op) (right_is_beyond cs layers c i ∙ beyond_none (parities_at cs (left_side p q)) c h)

      same_back : changes c ≡ false → holds_at op cs (right_side q p) ≡ holds_at op cs (left_side q p)
      same_back h = ap (holds_at op cs) (right_is_left q p) ∙ sym (same_sides h) ∙ ap (holds_at op cs) (right_is_left p q)

      known : (t : Bool) → changes c ≡ t → changes c ≡ true
      known true h = h
      known false h = absurd (⊎_elim
          (λ e. not_alike (holds_at op cs (left_side p q)) (holds_at op cs (right_side p q)) (same_sides h) (subst Bounds e bounds))
          (λ e. not_alike (holds_at op cs (left_side q p)) (holds_at op cs (right_side q p)) (same_back h) (subst Bounds e bounds))
          runs)

  wider : (d : DirectedEdge) → IsResultEdge op (filter changes cs) d → IsResultEdge op cs d
  wider d r = record { edge = r.edge; rounded = edge_in_all cs r.edge r.rounded; runs = r.runs; bounds = sym (bounds_same op cs d.from d.to) ∙ r.bounds }

  narrower : (d : DirectedEdge) → IsResultEdge op cs d → IsResultEdge op (filter changes cs) d
  narrower d r = let c = in_map edge_of cs r.edge (contains_in (edges_of cs) r.edge r.rounded) in record {
    edge = r.edge;
    rounded = in_contains (edges_of (filter changes cs)) r.edge (subst (λ (e : Edge). In e (edges_of (filter changes cs))) c.2
        (map_in edge_of (filter changes cs) c.0 (in_part changes cs c.0 c.1 (bounding_changes c.0 (in_contains cs c.0 c.1) d (subst (RunsAlong d) (sym c.2) r.runs) r.bounds))));
    runs = r.runs;
    bounds = bounds_same op cs d.from d.to ∙ r.bounds;
  }

pub changing_bound : ChangingBound
changing_bound op cs h ds a = record {
  ascending = a.ascending;
  exact = λ d. ((λ i. wider op cs h d ((a.exact d).0 i)), (λ r. (a.exact d).1 (narrower op cs h d r)));
}
