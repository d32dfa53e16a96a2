use Rattle.std.proofs.Common.{map, sym, ◌∙◌}
use Rattle.std.proofs.lemmas.List.{length-map}
use Rattle.cover_law.specs.Cover.{bordered}
use Rattle.cover_sets.proofs.AllVisited.{are_covers, beside_there, beside_visited, one_beside, one_more}
use Rattle.cover_sets.proofs.swept_covers.covers.Goals as goal

pub pass-requires-clause-swept : goal.pass-requires-clause-swept
pass-requires-clause-swept g c =
    one_beside c.args.features.now (map (bordered c.args.features.now) c.args.borders.now) c.args.swept.now c.requires.swept c.loop-one.one-index c.one-item.result c.loop-one-test.true c.one-item.is

pub pass-requires-clause-there : goal.pass-requires-clause-there
pass-requires-clause-there g c =
    beside_there c.args.features.now (map (bordered c.args.features.now) c.args.borders.now) c.args.swept.now c.requires.swept c.loop-one.one-index c.one-item.result c.loop-one-test.true c.one-item.is

pub pass-requires-clause-beside : goal.pass-requires-clause-beside
pass-requires-clause-beside g c =
    beside_visited c.args.features.now (map (bordered c.args.features.now) c.args.borders.now) c.args.swept.now c.requires.swept c.loop-one.one-index c.one-item.result c.loop-one-test.true c.one-item.is
    c.loop-one.covers.sets c.loop-one.covers.left.items c.loop-one.covers.right.items c.loop-one.invariant.visited

pub loop-one-preserved : goal.loop-one-preserved
loop-one-preserved g c = record {
  sets = c.in_ok-last.ensures.sets;
  left = c.in_ok-last.ensures.left;
  right = c.in_ok-last.ensures.right;
  visited =
      one_more c.args.features.now (map (bordered c.args.features.now) c.args.borders.now) c.args.swept.now c.requires.swept c.loop-one.one-index c.one-item.result c.loop-one-test.true c.one-item.is
      c.loop-one.covers.sets c.pass.new.self.sets c.loop-one.covers.left.items c.loop-one.covers.right.items c.pass.new.self.left.items c.pass.new.self.right.items
      c.loop-one.invariant.visited c.in_ok-last.ensures.kept c.in_ok-last.ensures.visited;
}

pub returns : goal.returns
returns g c =
    let all = length-map c.args.borders.now (bordered c.args.features.now) in
    are_covers c.args.features.now (map (bordered c.args.features.now) c.args.borders.now) c.args.swept.now c.requires.swept
    c.loop-one.covers.sets c.loop-one.covers.left.items c.loop-one.covers.right.items c.loop-one.one-index c.loop-one-test.false c.loop-one.invariant.visited
    c.loop-one.invariant.sets (c.loop-one.invariant.left ∙ sym all) (c.loop-one.invariant.right ∙ sym all)
