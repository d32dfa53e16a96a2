use Rattle.std.proofs.Common.{List, Some, subst, sym}
use Rattle.std.proofs.lemmas.List.Elements.{All-contains}
use Rattle.geom.specs.declared.segment.Seg.{Seg}
use Rattle.geom.specs.Box.{IsInBox}
use Rattle.geom.specs.Limit.{AreInLimit}
use Rattle.linking.specs.Gathered.{HaveTiles}
use Rattle.linking.proofs.Covering.{have_tiles}
use Rattle.chain_gather_tests.proofs.gathering.gathered_with.Goals as goal

pub gather-requires-clause-covered : goal.gather-requires-clause-covered
gather-requires-clause-covered g c =
    let r = c.args.bounds.now in
    let segments = c.in_ok-segments.segments.items in
    subst (λ (ss : List Seg). HaveTiles c.args.grid.now ss) (sym c.deref-2.ensures.value) (have_tiles (Some r) c.args.grid.now segments c.requires (λ s h.
    let p = All-contains (λ (t : Seg). AreInLimit t.a t.b × IsInBox r.lo r.hi t.a × IsInBox r.lo r.hi t.b) segments s c.in_ok-segments.ensures h in
    (p.1, p.2)))
