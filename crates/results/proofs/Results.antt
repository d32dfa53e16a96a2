-- The edges of a result, by those of two rounded layers, and the polygons along them.
use Rattle.std.proofs.Common.{◌≡◌, ◌⊎◌, inl, inr, List, sym, ap, subst}
use Rattle.std.specs.Prelude.{All, AllPairs, Contains, Err, IfOk, Ok, Result, Vec}
use Rattle.std.proofs.Math.Logic.{∥∥₁_elim}
use Rattle.std.proofs.Props.{props}
use Rattle.std.proofs.lemmas.List.Elements.{All-contains, All-contains_itself, All-weaker}
use Rattle.geom.specs.declared.op.Op.{Op}
use Rattle.geom.specs.declared.edge.Edge.{Edge}
use Rattle.geom.specs.declared.edge.Counted.{Counted}
use Rattle.geom.specs.declared.directed.DirectedEdge.{DirectedEdge}
use Rattle.geom.specs.Canonical.{ArePolygons, HaveEachEdge, Shape, written_rings}
use Rattle.geom.specs.Directed.{AreResultEdges, IsResultEdge, RunsAlong}
use Rattle.geom.specs.Holes.{HasGroundedRings}
use Rattle.geom.specs.Limit.{AreInLimit}
use Rattle.geom.specs.ListOrder.{IsLeastRotation}
use Rattle.geom.specs.Noded.{IsNoded}
use Rattle.geom.specs.NodedEdges.{AreNodedEdges}
use Rattle.geom.specs.Order.{IsBefore}
use Rattle.geom.specs.Rounded.{IsEdgeBefore, edges_of}
use Rattle.geom.proofs.Edges.{IsBefore-prop, one_run}
use Rattle.points_law.specs.Law.{AreLayers}
use Rattle.points_law.proofs.RoundVertex.{grounded}
use Rattle.points_law.proofs.TextParity.{text_has_parity}
use Rattle.polygonize.specs.Written.{AreSimple}
use Rattle.polygonize.proofs.CycleRings.{less_apart}
use Rattle.results.specs.Results.{IsResult}

run_in : (d : DirectedEdge) (e : Edge) → RunsAlong d e → AreInLimit e.p e.q → AreInLimit d.from d.to
run_in d e (inl h) l = let P : DirectedEdge → Type 0 = λ t. AreInLimit t.from t.to in subst P (sym h) l
run_in d e (inr h) l = let P : DirectedEdge → Type 0 = λ t. AreInLimit t.from t.to in subst P (sym h) (record { a_in = l.b_in; b_in = l.a_in })

-- the edges of a result run along rounded edges
pub directed_in : (op : Op) (counted : List Counted) (directed : List DirectedEdge) → All (λ e. AreInLimit e.p e.q) (edges_of counted) → AreResultEdges op counted directed
    → All (λ d. AreInLimit d.from d.to) directed
directed_in op counted directed l r = All-weaker (Contains directed) (λ d. AreInLimit d.from d.to)
    (λ d h. let e : IsResultEdge op counted d = (r.exact d).0 h in run_in d e.edge e.runs (All-contains (λ e. AreInLimit e.p e.q) (edges_of counted) e.edge l e.rounded))
    directed (All-contains_itself directed)

-- and so they meet only at ends, as those do
pub noded_edges : (op : Op) (counted : List Counted) (directed : List DirectedEdge) → IsNoded (edges_of counted) → AreResultEdges op counted directed → AreNodedEdges directed
noded_edges op counted directed n r = λ c d e f i j x y a. n e f (rounded c e i x) (rounded d f j y) a
  where
    rounded : (c : DirectedEdge) (e : Edge) → Contains directed c → RunsAlong c e → Contains (edges_of counted) e
    rounded c e i x = let b : IsResultEdge op counted c = (r.exact c).0 i in let P : Edge → Type 0 = Contains (edges_of counted) in subst P (one_run c b.edge e b.runs x) b.rounded

-- ---- the polygons of directed edges are the result's, where the edges bound it
pub result_along : {M E : Type 0} (directed : List DirectedEdge) (made : Result (Vec Shape M) E)
    → (AreNodedEdges directed → HasGroundedRings directed → IfOk made (λ v. ArePolygons directed v.items)) → IfOk made (λ v. HaveEachEdge directed v.items)
    → IfOk made (λ v. AreSimple (written_rings v.items)) → IfOk made (λ v. All (λ ring. IsLeastRotation ring ring) (written_rings v.items))
    → IfOk made (λ v. (op : Op) (counted : List Counted) → AreLayers counted → AreResultEdges op counted directed → IsResult op counted v.items)
result_along directed (Ok v) polygons each simple least = λ op counted layers are. record {
  directed = directed;
  bound = are;
  are_polygons = polygons (noded_edges op counted directed layers.noded are) (λ rings r. grounded op counted layers directed are rings r);
  each_edge = each;
  simple = simple;
  least = least;
  points = text_has_parity op counted layers directed are v.items each;
}
result_along directed (Err e) polygons each simple least = tt

-- ---- a layer is one in at most one way

either_prop : {A B : Type 0} → IsProp A → IsProp B → (A → B → ⊥) → IsProp (A ⊎ B)
either_prop {A} {B} p q n (inl x) (inl y) = let f : A → A ⊎ B = λ a. inl a in ap f (p x y)
either_prop p q n (inl x) (inr y) = absurd (n x y)
either_prop p q n (inr x) (inl y) = absurd (n y x)
either_prop {A} {B} p q n (inr x) (inr y) = let f : B → A ⊎ B = λ b. inr b in ap f (q x y)

tied_prop : (e f : Edge) → IsProp ((e.p ≡ f.p) × IsBefore e.q f.q)
tied_prop e f = hlevel props

edge_before_prop : (e f : Edge) → IsProp (IsEdgeBefore e f)
edge_before_prop e f = either_prop (IsBefore-prop e.p f.p) (tied_prop e f) (λ b t. less_apart e.p f.p b t.0)

pairs_prop : {X : Type 0} (R : X → X → Type 0) → ((x y : X) → IsProp (R x y)) → (xs : List X) → IsProp (AllPairs R xs)
pairs_prop R h xs = hlevel h

ascending_prop : (counted : List Counted) → IsProp (AllPairs (λ c d. IsEdgeBefore c.edge d.edge) counted)
ascending_prop counted = pairs_prop (λ c d. IsEdgeBefore c.edge d.edge) (λ c d. edge_before_prop c.edge d.edge) counted

layers_prop : (counted : List Counted) → IsProp (AreLayers counted)
layers_prop counted = hlevel (props, ascending_prop counted)

pub layers_known : (counted : List Counted) → ∥ AreLayers counted ∥₁ → AreLayers counted
layers_known counted h = ∥∥₁_elim h (layers_prop counted) (λ l. l)
