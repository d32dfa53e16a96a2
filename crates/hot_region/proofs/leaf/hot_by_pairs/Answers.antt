use Rattle.std.proofs.Common.{◌≤◌, ◌∙◌, inr, List, [], subst, sym, ap, arith, length, take}
use Rattle.std.specs.Prelude.{Contains}
use Rattle.std.proofs.lemmas.List.{drop-map, length-map, take_rest}
use Rattle.geom.specs.declared.point.Pt.{Pt}
use Rattle.geom.specs.declared.edge.Edge.{Edge}
use Rattle.hot_region.specs.declared.lines.Line.{Line}
use Rattle.hot_region.specs.Halving.{edges_of, IsEndOf}
use Rattle.hot_region.specs.Lines.{HasBothCrossed}
use Rattle.hot_region.proofs.CarrierLaws.{all_crossed, end_among}
use Rattle.hot_region.proofs.HalvingLaws.{found_all, one_found}
use Rattle.hot_region.proofs.ListLaws.{none_in}
use Rattle.hot_region.proofs.PairLaws.{ends_behind, firsts_all, firsts_more, firsts_none}
use Rattle.hot_region.proofs.CrossingLaws.{all_none}
use Rattle.hot_region.proofs.leaf.hot_by_pairs.Goals as goal

pub returns-then-is_found : goal.returns-then-is_found
returns-then-is_found g c =
    let rect = c.args.rect.now in
    let edges = edges_of c.args.lines.now in
    let mid = c.add_ends.new.found.items in
    let crossed = one_found rect [] mid mid edges (λ p h. subst (λ (ps : List Pt). Contains ps p) c.deref.ensures.value (c.is_found.ensures p c.if-is_found.true h)) (λ e h. absurd (none_in e h)) (all_none rect mid) in
    rw c.in_ok-found.ensures.items at (found_all rect edges c.in_ok-found.found.items mid mid c.in_ok-add_ends.ensures crossed)

pub loop-from-init : goal.loop-from-init
loop-from-init g c = (omega arith, (c.add_ends.new.found.items, rw c.in_ok-found.ensures.items at c.in_ok-add_ends.ensures, firsts_none c.args.rect.now (edges_of c.left_of-left.result.now) c.add_ends.new.found.items))

pub cross_first-requires : goal.cross_first-requires
cross_first-requires g c = λ p k t.
    let rect = c.args.rect.now in
    let lines = c.args.lines.now in
    let left = c.left_of-left.result.now in
    let keeps = c.left_of-left.ensures rect c.in_ok-some.ensures in
    let inv = c.loop-from.invariant.1 in
    inv.2.kept p ((inv.1.same p).1 (inr (end_among rect lines left keeps p (ends_behind left c.loop-from.from p (subst (λ (ls : List Line). IsEndOf (edges_of ls) p) (take_rest left c.loop-from.from) k)), t)))

pub loop-from-preserved : goal.loop-from-preserved
loop-from-preserved g c =
    let rect = c.args.rect.now in
    let left = c.left_of-left.result.now in
    let from = c.loop-from.from in
    let past = c.min-from.result in
    let inv = c.loop-from.invariant.1 in
    let n = length-map left (λ (l : Line). l.edge) in
    let within : past ≤ length left = omega (arith, c.min-from.ensures) in
    let h = subst (λ (es : List Edge). HasBothCrossed rect (take 32 es) es c.loop-from.found.items c.cross_first.new.found.items) (ap edges_of (take_rest left from) ∙ sym (drop-map (λ (l : Line). l.edge) from left)) c.in_ok-cross_first.ensures in
    (within, (inv.0, inv.1, firsts_more rect (edges_of left) from past inv.0 c.loop-from.found.items c.cross_first.new.found.items (omega (arith, n, c.loop-from.invariant.0)) (λ some. omega (arith, n, c.min-from.ensures)) (λ rest. omega (arith, n, c.min-from.ensures)) inv.2 h))

pub returns : goal.returns
returns g c =
    let rect = c.args.rect.now in
    let lines = c.args.lines.now in
    let left = c.left_of-left.result.now in
    let keeps = c.left_of-left.ensures rect c.in_ok-some.ensures in
    let inv = c.loop-from.invariant.1 in
    let n = length-map left (λ (l : Line). l.edge) in
    let crossed = all_crossed rect lines left keeps inv.0 c.loop-from.found.items (firsts_all rect (edges_of left) c.loop-from.from inv.0 c.loop-from.found.items (omega arith) inv.2) in
    found_all rect (edges_of lines) [] inv.0 c.loop-from.found.items inv.1 crossed
