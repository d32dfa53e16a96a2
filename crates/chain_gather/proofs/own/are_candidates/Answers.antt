use Rattle.std.proofs.Common.{◌≡◌, ◌∙◌, ap, refl, sym, arith, get_or, length, Some}
use Rattle.std.specs.Prelude.{slice_get}
use Rattle.std.proofs.lemmas.List.{get_or_default}
use Rattle.std.proofs.lemmas.Option.{slice_get_read}
use Rattle.routing.specs.Pieces.{candidate_at}
use Rattle.chain_gather.proofs.Chosen.{all_pick, chosen_differs, chosen_more}
use Rattle.chain_gather.proofs.Picked.{length_picked}
use Rattle.chain_gather.proofs.own.are_candidates.Goals as goal

pub returns-then-candidates-numbers : goal.returns-then-candidates-numbers
returns-then-candidates-numbers c = (
  (λ h. absurd (cc)),
  (λ e. absurd (c.if-candidates-numbers.true (ap length e ∙ length_picked (candidate_at c.args.segments.now) c.args.numbers.now (all_pick c.args.segments.now c.args.numbers.now c.requires)))),
)

pub returns-then-not-is_candidate : goal.returns-then-not-is_candidate
returns-then-not-is_candidate c =
    let segments = c.args.segments.now in
    let numbers = c.args.numbers.now in
    let i = c.loop-i.i in
    let n = get_or numbers i 0 in
    let s = c.index-segments-number.result in
    let low = c.loop-i-test.true in
    let at : slice_get segments n ≡ Some s = slice_get_read segments (length segments) n s refl (c.requires i 0 low) c.index-segments-number.is in (
      (λ h. absurd (cc)),
      (λ e. absurd (chosen_differs segments numbers c.args.candidates.now i n s c.index-candidates-i.result low (omega arith) (get_or_default numbers i 0 n low) at c.index-candidates-i.is c.requires (sym c.is_candidate.ensures ∙ c.if-not-is_candidate.true) e)),
    )

pub loop-i-preserved : goal.loop-i-preserved
loop-i-preserved c =
    let segments = c.args.segments.now in
    let numbers = c.args.numbers.now in
    let i = c.loop-i.i in
    let n = get_or numbers i 0 in
    let s = c.index-segments-number.result in
    let low = c.loop-i-test.true in
    let at : slice_get segments n ≡ Some s = slice_get_read segments (length segments) n s refl (c.requires i 0 low) c.index-segments-number.is in
    chosen_more segments numbers c.args.candidates.now i n s c.index-candidates-i.result low (omega arith) (get_or_default numbers i 0 n low) at c.index-candidates-i.is (sym c.is_candidate.ensures ∙ c.if-not-is_candidate.false) c.loop-i.invariant
