-- From what was made and put to what a call on a strip says.
use Rattle.std.proofs.Common.{◌≡◌, ◌+◌, inl, inr, ℕ, List, map, subst, sym}
use Rattle.std.proofs.Math.IntN.{ℤ}
use Rattle.geom.specs.declared.edge.Counted.{Counted}
use Rattle.strips_law.specs.declared.line.Carried.{Carried}
use Rattle.strips_law.specs.declared.line.Line.{Line}
use Rattle.strips_law.specs.declared.line.Open.{Open}
use Rattle.strips_law.specs.Strips.{AreAcross, AreCarried, AreOrdered, IsRoundedStrip}
use Rattle.overlay_c.specs.declared.strip_answer.OverlayStripAnswer.{OverlayStripAnswer}
use Rattle.overlay_c.specs.declared.strip_items.OverlayCarried.{OverlayCarried}
use Rattle.overlay_c.specs.declared.strip_items.OverlayCounted.{OverlayCounted}
use Rattle.overlay_c.specs.declared.strip_items.OverlayOpen.{OverlayOpen}
use Rattle.overlay_c.specs.Strips.{AreBridgedLists, AreKept, DoBordersAgree, Fills, IsPutOrSmall, Lists, filled, none_filled, small, told_carried, told_counted, told_open, two_lists}

module _ {X Y Z : Type 0} (AreLists : Lists X Y Z → Type 0) (IsFailure : OverlayStripAnswer → Type 0) (before after : Lists X Y Z) where
  -- lists that were made
  pub put_fills : (lists : Lists X Y Z) (answer : OverlayStripAnswer) → AreLists lists → IsPutOrSmall lists before after answer → Fills AreLists IsFailure before after answer
  put_fills lists answer are (inl (h, told)) = subst (λ (w : OverlayStripAnswer). Fills AreLists IsFailure before after w) (sym told) (filled lists are h)
  put_fills lists answer are (inr (long, kept, told)) = subst (λ (w : OverlayStripAnswer). Fills AreLists IsFailure before after w) (sym told) (small lists are long kept)

  -- a failure
  pub none_fills : (answer told : OverlayStripAnswer) → answer ≡ told → IsFailure told → AreKept before after → Fills AreLists IsFailure before after answer
  none_fills answer told is fails kept = subst (λ (w : OverlayStripAnswer). Fills AreLists IsFailure before after w) (sym is) (none_filled fails kept)

-- the lists of a border, as they are told
pub bridged_lists : (passed_left passed_right : List OverlayOpen) (passed : List OverlayCarried) → DoBordersAgree passed_left passed_right passed → (left right : List Open) (carried : List Carried) (across : List Counted) (next : List Carried)
    → ((cuts : List ℤ) (strip : ℕ) (lines : List Line) (inner : List Counted) → AreOrdered lines → ∥ IsRoundedStrip cuts strip lines inner left right ∥₁ → ∥ AreCarried cuts (strip + 1) lines carried ∥₁
    → ∥ AreAcross cuts strip lines across × AreCarried cuts strip lines next ∥₁)
    → passed_left ≡ map told_open left → passed_right ≡ map told_open right → passed ≡ map told_carried carried
    → (told_across : List OverlayCounted) (told_next : List OverlayCarried) → told_across ≡ map told_counted across → told_next ≡ map told_carried next
    → AreBridgedLists passed_left passed_right passed (two_lists told_across told_next)
bridged_lists passed_left passed_right passed sound left right carried across next bridged left_is right_is carried_is told_across told_next across_is next_is = record {
  sound = sound;
  left = left;
  left_is = left_is;
  right = right;
  right_is = right_is;
  carried = carried;
  carried_is = carried_is;
  across = across;
  across_is = across_is;
  next = next;
  next_is = next_is;
  bridged = bridged;
}
