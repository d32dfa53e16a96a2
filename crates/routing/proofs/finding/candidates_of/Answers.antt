use Rattle.std.proofs.Common.{◌≡◌, ◌∙◌, ◌++◌, ◌∷◌, [], ℕ, List, refl, sym, ap, subst, length, get_or, Some}
use Rattle.std.specs.Prelude.{slice_get}
use Rattle.std.proofs.lemmas.List.{get_or_default, take_all}
use Rattle.std.proofs.lemmas.Option.{slice_get_read}
use Rattle.routing.specs.declared.record.Candidate.{Candidate}
use Rattle.routing.specs.Pieces.{candidates_of}
use Rattle.routing.proofs.PieceLaws.{candidates_more}
use Rattle.routing.proofs.finding.candidates_of.Goals as goal

pub loop-number-preserved : goal.loop-number-preserved
loop-number-preserved g c =
    let segments = c.args.segments.now in
    let numbers = c.args.numbers.now in
    let i = c.loop-number.number-index in
    let k = get_or numbers i 0 in
    let s = c.index-segments-number.result in
    let at : slice_get segments k ≡ Some s = slice_get_read segments (length segments) k s refl (c.requires i 0 c.loop-number-test.true) c.index-segments-number.is in
    let x : Candidate = record { number = k; segment = s } in
    c.in_ok-push.ensures.items ∙ ap (λ (cs : List Candidate). cs ++ x ∷ []) c.loop-number.invariant ∙ sym (candidates_more segments numbers i k s c.loop-number-test.true (get_or_default numbers i 0 k c.loop-number-test.true) at)

pub returns : goal.returns
returns g c = subst (λ (ns : List ℕ). c.loop-number.candidates.items ≡ candidates_of c.args.segments.now ns) (take_all c.loop-number.number-index c.args.numbers.now c.loop-number-test.false) c.loop-number.invariant
