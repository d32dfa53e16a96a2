use Rattle.std.proofs.Common.{◌∙◌, arith, length, ap, sym}
use Rattle.std.proofs.lemmas.List.{with_items_is}
use Rattle.polygonize.proofs.ClosesOnce.{closes_of}
use Rattle.polygonize.proofs.LoneWalk.{all_lone, lone_canonical, lone_closed, lone_length, none_lone, one_more_lone, seen_lone}
use Rattle.polygonize.proofs.lone_shells.shells_apart.Goals as goal
use Rattle.polygonize.proofs.lone_shells.shells_apart.Goals.{then-not-index+in_ok-walk+in_ok-polygon+in-Some+in_ok-push, else-not-index}

pub loop-start-init : goal.loop-start-init
loop-start-init g c = rw (c.in_ok-polygons.ensures.items, c.in_ok-seen.ensures.items_if_clones_equal (λ y h. h)) (none_lone c.args.edges.list.now)

pub index-requires : goal.index-requires
index-requires g c =
    let e = lone_length c.args.edges.list.now (closes_of c.args.edges.closes) c.requires c.loop-start.seen.items c.loop-start.start c.loop-start.polygons.items c.loop-start.invariant in
    omega (arith, e, c.loop-start.seen.ok.0)

pub walk-requires-clause-same_length : goal.walk-requires-clause-same_length
walk-requires-clause-same_length g c = rw c.deref_mut.ensures.value
    (lone_length c.args.edges.list.now (closes_of c.args.edges.closes) c.requires c.loop-start.seen.items c.loop-start.start c.loop-start.polygons.items c.loop-start.invariant)

pub walk-requires-clause-closed : goal.walk-requires-clause-closed
walk-requires-clause-closed g c = rw c.deref_mut.ensures.value
    (lone_closed c.args.edges.list.now (closes_of c.args.edges.closes) c.requires c.loop-start.seen.items c.loop-start.start c.loop-start.polygons.items c.loop-start.invariant)

pub shell_of-requires : goal.shell_of-requires
shell_of-requires g c = rw c.deref.ensures.value
    (lone_canonical c.args.edges.list.now (closes_of c.args.edges.closes) c.requires c.loop-start.seen.items c.loop-start.start c.loop-start.polygons.items c.loop-start.invariant
    c.walk.new.seen c.walk.new.cycle.items (rw c.deref_mut.ensures.value at c.in_ok-walk.ensures))

pub loop-start-preserved : goal.loop-start-preserved
loop-start-preserved g c = elim c.if-not-index.branch [
  | then-not-index+in_ok-walk+in_ok-polygon+in-Some+in_ok-push w ↦ (let n = w.walk.auto.seen ∙ ap length w.deref_mut.ensures.value in let e = ap (λ v. v.items) w.seen-is ∙ with_items_is c.loop-start.seen w.walk.new.seen (n ∙ sym c.loop-start.seen.ok.0) in
      let shell = rw (w.in-Some.is, w.deref.ensures.value) at w.in_ok-polygon.ensures in
      rw (e, w.polygons-is, w.in_ok-push.ensures.items, shell.is_polygon)
      (one_more_lone c.args.edges.list.now (closes_of c.args.edges.closes) c.requires c.loop-start.seen.items c.loop-start.start c.loop-start.polygons.items c.loop-start.invariant
      w.walk.new.seen w.walk.new.cycle.items n (rw w.deref_mut.ensures.value at w.in_ok-walk.ensures) shell.canonical shell.shell))
  | else-not-index w ↦ rw (w.seen-is, w.polygons-is) (seen_lone c.args.edges.list.now (closes_of c.args.edges.closes) c.requires c.loop-start.seen.items c.loop-start.start c.loop-start.polygons.items c.loop-start.invariant
      c.index.result.now c.loop-start-test.true c.index.ensures w.if-not-index.false)
]

pub returns : goal.returns
returns g c = all_lone c.args.edges.list.now (closes_of c.args.edges.closes) c.requires c.loop-start.seen.items c.loop-start.start c.loop-start.polygons.items c.loop-start.invariant c.loop-start-test.false
