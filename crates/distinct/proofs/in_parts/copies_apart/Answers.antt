use Rattle.std.proofs.Common.{◌∙◌, ◌≡◌, ◌+◌, ◌<◌, ◌++◌, ◌∷◌, [], List, ap, arith, get_or, length, subst, sym, take}
use Rattle.std.proofs.lemmas.List.{take_more}
use Rattle.geom.specs.declared.segment.Seg.{Seg}
use Rattle.distinct.specs.declared.copies.Copies.{Copies}
use Rattle.distinct.specs.Copies.{AreCopies}
use Rattle.distinct.proofs.KeptLaws.{copies_push}
use Rattle.distinct.proofs.in_parts.copies_apart.Goals as goal

pub loop-place-preserved : goal.loop-place-preserved
loop-place-preserved g c =
    let all = c.args.segments.now in
    let place = c.loop-place.place in
    let before = take place all in
    let one = c.index-segments-place-in-loop-place.result in
    let s = get_or all place one in
    let within : place < length all = omega (arith, c.loop-place-test.true) in
    let one_more : take (place + 1) all ≡ before ++ s ∷ [] = take_more all place one within in
    let pushed = copies_push s before before c.loop-place.copies.items c.one.result c.one.ensures.in_a c.one.ensures.in_b c.loop-place.invariant in
    subst (λ (x : List Seg × List Copies). AreCopies x.0 x.0 x.1) (λ i. (sym one_more i, sym (c.in_ok-push.ensures.items) i)) pushed
