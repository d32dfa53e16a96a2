use Rattle.std.proofs.Common.{◌∙◌, ◌≡◌, ◌<◌, arith, get_or, length, sym, take}
use Rattle.std.proofs.lemmas.List.{get_or-take, length-take-le}
use Rattle.distinct.specs.Copies.{HaveSameEnds}
use Rattle.distinct.proofs.KeptLaws.{copies_add}
use Rattle.distinct.proofs.keeping.add_copy.Goals as goal

pub returns-clause-added : goal.returns-clause-added
returns-clause-added c = λ is before h.
    let copies = c.args.copies.now in
    let kept = take (length copies) c.args.segments.now in
    let place = c.args.place in
    let k = c.index-segments-place.result in
    let counted : place < length copies = c.if-place-copies.false in
    let within : place < length kept = let l = length-take-le (length copies) c.args.segments.now c.requires in omega arith in
    let at : k ≡ get_or kept place k = c.index-segments-place.is ∙ sym (get_or-take (length copies) c.args.segments.now place k counted) in
    let same : HaveSameEnds k c.args.s.now = c.have_same_ends.ensures c.if-not-have_same_ends.false in
    copies_add c.args.s.now before kept copies place k c.index-copies-place.result c.in-Some.more within at c.index-copies-place.is same c.in-Some.ensures.0 c.in-Some.ensures.1 h
