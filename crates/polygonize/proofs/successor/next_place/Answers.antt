use Rattle.std.proofs.Common.{◌≡◌, Contains, List, subst, sym}
use Rattle.std.specs.Prelude.{IfSome}
use Rattle.std.proofs.lemmas.List.Elements.{Contains-get_or}
use Rattle.polygonize.specs.declared.leaving.LeavingEdge.{LeavingEdge}
use Rattle.polygonize.specs.Leaving.{AreLeaving, IsFirstMet}
use Rattle.polygonize.specs.Next.{nothing, edge_at}
use Rattle.polygonize.proofs.ClosesOnce.{closes_of}
use Rattle.polygonize.proofs.NextEdge.Looking.{is_next, starts_inside}
use Rattle.polygonize.proofs.NextEdge.RoundVertex.{next_place, some_leaves}
use Rattle.polygonize.proofs.successor.next_place.Goals as goal

pub is_crowded-requires : goal.is_crowded-requires
is_crowded-requires g c = starts_inside c.args.edges.list.now (closes_of c.args.edges.closes) c.args.place c.first_at-first.result c.requires.inside c.first_at-first.ensures

pub first_by_walk-requires-clause-inside : goal.first_by_walk-requires-clause-inside
first_by_walk-requires-clause-inside g c = starts_inside c.args.edges.list.now (closes_of c.args.edges.closes) c.args.place c.first_at-first.result c.requires.inside c.first_at-first.ensures

pub first_by_halves-requires-clause-some : goal.first_by_halves-requires-clause-some
first_by_halves-requires-clause-some g c =
    let edges = c.args.edges.list.now in
    let edge = edge_at edges c.args.place in
    let all : AreLeaving edges c.in-Some.leaving.items = subst (λ o. IfSome o (λ leaving. AreLeaving edges leaving.items)) c.in-Some.is c.requires.listed in
    subst (λ (listed : List LeavingEdge). (s : LeavingEdge) × Contains listed s × (s.at ≡ edge.to)) (sym c.deref.ensures.value)
    (some_leaves edges c.in-Some.leaving.items (closes_of c.args.edges.closes) all edge.from edge.to (Contains-get_or edges c.args.place nothing c.requires.inside))

pub returns-in-Some : goal.returns-in-Some
returns-in-Some g c =
    let edges = c.args.edges.list.now in
    let edge = edge_at edges c.args.place in
    let all : AreLeaving edges c.in-Some.leaving.items = subst (λ o. IfSome o (λ leaving. AreLeaving edges leaving.items)) c.in-Some.is c.requires.listed in
    next_place edges c.in-Some.leaving.items c.args.place c.first_by_halves.result (closes_of c.args.edges.closes) all c.requires.inside
    (subst (λ (listed : List LeavingEdge). IsFirstMet listed edge.to edge.from c.first_by_halves.result) c.deref.ensures.value c.first_by_halves.ensures)

pub returns-in_default : goal.returns-in_default
returns-in_default g c = is_next c.args.edges.list.now (closes_of c.args.edges.closes) c.args.place c.first_at-first.result c.requires.inside c.first_at-first.ensures c.first_by_walk.result c.first_by_walk.ensures
