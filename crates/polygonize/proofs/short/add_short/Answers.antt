use Rattle.std.proofs.Common.{◌≡◌, ◌<◌, length, arith}
use Rattle.std.proofs.lemmas.List.Elements.{All-push}
use Rattle.polygonize.proofs.EdgesBelow.Short.{none_taken, one_left, one_taken}
use Rattle.polygonize.proofs.EdgesBelow.Searching.{written_back}
use Rattle.polygonize.proofs.short.add_short.Goals as goal
use Rattle.polygonize.proofs.short.add_short.Goals.{in-Some, in-None+in_ok-push-in-None}

pub loop-number-init : goal.loop-number-init
loop-number-init g c =
    rw c.new-left.ensures.items (λ k d h. absurd (omega (arith, h)), none_taken c.args.edges.list.now c.args.vertices.now c.args.best.now c.requires.known, c.in_ok-floors.ensures)

pub loop-number-preserved : goal.loop-number-preserved
loop-number-preserved g c =
    let edges = c.args.edges.list.now in
    let vertices = c.args.vertices.now in
    let n = c.loop-number.number in
    let left = c.loop-number.left.items in
    let best = c.loop-number.best in
    let floors = c.loop-number.floors in
    let inside = c.loop-number.invariant.0 in
    let taken = c.loop-number.invariant.1 in
    let are = c.loop-number.invariant.2 in
    elim c.match-places_over.branch [
      | in-Some w ↦ (
          let added = w.add_edge.ensures in
          let new = w.add_edge.new.floors in
          let like : length new ≡ length floors.items = let a = are.room in let b = added.nearer.same_length in let d = added.floors.room in omega (arith, a, b, d) in
          let back = written_back floors.len floors.items new (let a = floors.ok.0 in omega (arith, a, like)) like in
          rw (w.left-is, w.best-is, w.floors-is, back) (inside, one_taken edges vertices n left c.args.best.now best taken _ _ _ w.in-Some.ensures added.nearer, added.floors))
      | in-None+in_ok-push-in-None w ↦ rw (w.left-is, w.best-is, w.floors-is, w.in_ok-push-in-None.ensures.items)
          (All-push (λ k. k < length edges) left n inside c.loop-number-test.true, one_left edges vertices n left c.args.best.now best taken, are)
    ]

pub returns-clause-taken : goal.returns-clause-taken
returns-clause-taken g c =
    let taken = c.loop-number.invariant.1 in
    record { same_length = taken.same_length; known = taken.known; each = λ k h. taken.each k (let l = c.loop-number-test.false in omega (arith, l, h)) }
