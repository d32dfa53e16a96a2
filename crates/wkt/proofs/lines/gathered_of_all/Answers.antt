use Rattle.std.proofs.Common.{◌∙◌, refl, sym, arith}
use Rattle.std.proofs.lemmas.List.{append-nil, nil_from_length}
use Rattle.wkt.proofs.WholeLines.{outline_more}
use Rattle.wkt.proofs.lines.gathered_of_all.Goals as goal

pub loop-next-preserved : goal.loop-next-preserved
loop-next-preserved g c =
    let all = rw c.in-Some.ensures.steps.0 at c.loop-next.invariant in
    rw c.in_ok-push.ensures.items (outline_more c.loop-next.lists.items (c.in-Some.next, c.in-Some.rings) c.next.new.self.rest.items _ c.loop-next.outline c.in-Some-joined.both all.0 all.1 all.2 c.in-Some-joined.ensures)

pub loop-next-init : goal.loop-next-init
loop-next-init g c = rw (c.in_ok-lists.ensures.items, c.into_iter-next-iterator.ensures.into_iter_gives.0) (c.of_none-outline.ensures, c.requires, refl)

pub returns : goal.returns
returns g c =
    let rest = c.loop-next.next-iterator.rest in
    let none = nil_from_length rest.items (omega (arith, c.in-None.ensures.steps.0, rest.ok.0)) in
    let all = rw none at c.loop-next.invariant in
    (rw c.in_ok-joined.ensures all.0, c.in_ok-joined.ensures ∙ sym (append-nil _) ∙ all.2)
