use Rattle.std.proofs.Common.{◌≡◌, map, rules}
use Rattle.std.specs.Prelude.{All}
use Rattle.std.proofs.lemmas.List.Elements.{All-weaker}
use Rattle.std.proofs.lemmas.List.Sorted.{All-permutation}
use Rattle.std.proofs.lemmas.Result.{IfOk-weaker}
use Rattle.geom.specs.Canonical.{ArePolygons, HaveEachEdge, written_rings}
use Rattle.geom.specs.ListOrder.{IsLeastRotation}
use Rattle.polygonize.specs.Grouped.{AreGrouped}
use Rattle.polygonize.specs.Written.{AreSimple, IsCanonical, IsSound}
use Rattle.polygonize.specs.Placed.{points, stands_as_hole}
use Rattle.polygonize.proofs.ClosesOnce.{closes_of}
use Rattle.polygonize.proofs.TextOrder.Ordered.{grouped_polygons, shell_first}
use Rattle.polygonize.proofs.TextOrder.PlacedRings.{sorted_by}
use Rattle.polygonize.proofs.TextOrder.Places.{place_cmp}
use Rattle.polygonize.proofs.Least.{least_rings, simple_rings}
use Rattle.polygonize.proofs.WrittenRings.Writing.{text_has_each, unmapped}
use Rattle.polygonize.proofs.polygon.polygons_of.Goals as goal

pub grouped-requires : goal.grouped-requires
grouped-requires g c = record {
  sound = rw c.deref.ensures.value
      (All-permutation (λ w. IsSound c.args.edges.list.now w.ring) c.args.written.items c.sort_unstable_by_key.new.self.items c.sort_unstable_by_key.ensures.permutation
      (All-weaker (λ w. IsCanonical c.args.edges.list.now w.ring) (λ w. IsSound c.args.edges.list.now w.ring) (λ w k. k.sound) c.args.written.items
      (unmapped (IsCanonical c.args.edges.list.now) (λ w. w.ring) c.args.written.items c.requires.sound)));
}

pub returns-clause-polygons : goal.returns-clause-polygons
returns-clause-polygons g c = λ noded grounded.
    let written = c.requires.written in
    let sorted = sorted_by (λ w. w.place) place_cmp c.sort_unstable_by_key.new.self.items c.sort_unstable_by_key.ensures.sorted (λ a r q k. search rules) in
    let groups = rw c.deref.ensures.value at c.grouped.ensures.groups in
    IfOk-weaker c.grouped.result
    (λ found. AreGrouped stands_as_hole (points c.args.edges.list.now) c.sort_unstable_by_key.new.self.items found.items)
    (λ found. ArePolygons c.args.edges.list.now found.items)
    (λ found h. grouped_polygons c.args.edges.list.now (closes_of c.args.edges.closes).are_directed noded c.args.written.items c.sort_unstable_by_key.new.self.items found.items
    (written noded grounded) c.sort_unstable_by_key.ensures.permutation sorted h)
    (groups (shell_first c.args.edges.list.now (closes_of c.args.edges.closes).are_directed noded c.args.written.items c.sort_unstable_by_key.new.self.items (written noded grounded) c.sort_unstable_by_key.ensures.permutation sorted))

pub returns-clause-each_edge : goal.returns-clause-each_edge
returns-clause-each_edge g c = IfOk-weaker c.grouped.result
    (λ found. written_rings found.items ≡ map (points c.args.edges.list.now) c.sort_unstable_by_key.new.self.items)
    (λ found. HaveEachEdge c.args.edges.list.now found.items)
    (λ found h. text_has_each (λ w. w.ring) c.args.edges.list.now c.args.written.items c.sort_unstable_by_key.new.self.items found.items c.requires.edges c.sort_unstable_by_key.ensures.permutation h)
    (rw c.deref.ensures.value at c.grouped.ensures.rings)

pub returns-clause-least : goal.returns-clause-least
returns-clause-least g c = IfOk-weaker c.grouped.result
    (λ found. written_rings found.items ≡ map (points c.args.edges.list.now) c.sort_unstable_by_key.new.self.items)
    (λ found. All (λ ring. IsLeastRotation ring ring) (written_rings found.items))
    (λ found h. least_rings (λ w. w.ring) c.args.edges.list.now (closes_of c.args.edges.closes).are_directed c.sort_unstable_by_key.new.self.items found.items
    (All-permutation (λ w. IsCanonical c.args.edges.list.now w.ring) c.args.written.items c.sort_unstable_by_key.new.self.items c.sort_unstable_by_key.ensures.permutation
    (unmapped (IsCanonical c.args.edges.list.now) (λ w. w.ring) c.args.written.items c.requires.sound)) h)
    (rw c.deref.ensures.value at c.grouped.ensures.rings)

pub returns-clause-simple : goal.returns-clause-simple
returns-clause-simple g c = IfOk-weaker c.grouped.result
    (λ found. written_rings found.items ≡ map (points c.args.edges.list.now) c.sort_unstable_by_key.new.self.items)
    (λ found. AreSimple (written_rings found.items))
    (λ found h. simple_rings (λ w. w.ring) c.args.edges.list.now c.sort_unstable_by_key.new.self.items found.items
    (All-permutation (λ w. IsSound c.args.edges.list.now w.ring) c.args.written.items c.sort_unstable_by_key.new.self.items c.sort_unstable_by_key.ensures.permutation
    (All-weaker (λ w. IsCanonical c.args.edges.list.now w.ring) (λ w. IsSound c.args.edges.list.now w.ring) (λ w k. k.sound) c.args.written.items
    (unmapped (IsCanonical c.args.edges.list.now) (λ w. w.ring) c.args.written.items c.requires.sound))) h)
    (rw c.deref.ensures.value at c.grouped.ensures.rings)
