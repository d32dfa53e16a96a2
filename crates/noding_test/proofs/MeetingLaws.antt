-- What the test of a pair of edges decides.
use Rattle.std.proofs.Common.{◌≡◌, ◌⊎◌, inl, inr, ⊎_elim, Bool, true, false, refl, ◌↔◌}
use Rattle.std.specs.Bool.{IsTrue, OnFalse, MatchBool}
use Rattle.std.proofs.Math.Logic.{∥∥₁_elim}
use Rattle.std.proofs.Props.{props}
use lib.IntN.{pos}
use Rattle.geom.specs.declared.edge.Edge.{Edge}
use Rattle.geom.specs.Order.{IsBefore, IsUpTo}
use Rattle.geom.specs.Determinant.{side}
use Rattle.geom.specs.Noded.{IsBad, MeetOnlyAtEnds}
use Rattle.noding_test.proofs.CommonPoints.{AreOnOneSide, ShareInner, beside, lone_end, one_line, following, overlapping, crossing_inner, exchanged}

bad : (e f : Edge) → ShareInner e.p e.q f.p f.q → IsBad e f
bad e f h = (
  h.z,
  h.on_first,
  h.on_second,
  λ ends. ⊎_elim
      (λ n. ∥∥₁_elim ends.0 (hlevel props) (λ w. n w))
      (λ n. ∥∥₁_elim ends.1 (hlevel props) (λ w. n w))
      h.inner,
)

-- the answer true says that the edges meet only at ends, the answer false that they share another point
pub record Decides (e f : Edge) (answer : Bool) : Type 0 where
  pub clean : answer ≡ true → MeetOnlyAtEnds e f
  pub bad : answer ≡ false → IsBad e f

pub exact : (e f : Edge) (answer : Bool) → Decides e f answer → IsTrue answer ↔ MeetOnlyAtEnds e f
exact e f true d = (λ t. d.clean refl, λ m. refl)
exact e f false d = (λ t. absurd (cc), λ m. absurd (let b = d.bad refl in b.3 (m b.0 b.1 b.2)))

pub bad_if_false : (e f : Edge) (answer : Bool) → Decides e f answer → OnFalse answer (IsBad e f)
bad_if_false e f true d = tt
bad_if_false e f false d = d.bad refl

pub said_clean : (e f : Edge) → MeetOnlyAtEnds e f → Decides e f true
said_clean e f m = record { clean = λ t. m; bad = λ t. absurd (cc) }

pub said_bad : (e f : Edge) → IsBad e f → Decides e f false
said_bad e f b = record { clean = λ t. absurd (cc); bad = λ t. b }

module _ (e f : Edge) where
  pub follows : IsUpTo e.q f.p ⊎ IsUpTo f.q e.p → MeetOnlyAtEnds e f
  follows (inl h) z o o' = let w = following e.p e.q f.p f.q z e.ordered f.ordered h o o' in (∣ inr w.0 ∣₁, ∣ inl w.1 ∣₁)
  follows (inr h) z o o' = let w = following f.p f.q e.p e.q z f.ordered e.ordered h o' o in (∣ inl w.1 ∣₁, ∣ inr w.0 ∣₁)

  pub on_one_line : (side e.p e.q f.p ≡ pos 0) × (side e.p e.q f.q ≡ pos 0) → (answer : Bool) → MatchBool answer (IsUpTo e.q f.p ⊎ IsUpTo f.q e.p) (IsBefore f.p e.q × IsBefore e.p f.q) → Decides e f answer
  on_one_line z true h = said_clean e f (follows h)
  on_one_line z false h = said_bad e f (bad e f (overlapping e.p e.q f.p f.q e.ordered f.ordered z h.0 h.1))

  pub beside_first : AreOnOneSide (side e.p e.q f.p) (side e.p e.q f.q) → MeetOnlyAtEnds e f
  beside_first h z o o' = absurd (beside e.p e.q f.p f.q z h o o')

  pub beside_second : AreOnOneSide (side f.p f.q e.p) (side f.p f.q e.q) → MeetOnlyAtEnds e f
  beside_second h z o o' = absurd (beside f.p f.q e.p e.q z h o' o)

  pub at_ends : ¬ ((side e.p e.q f.p ≡ pos 0) × (side e.p e.q f.q ≡ pos 0)) → (side e.p e.q f.p ≡ pos 0) ⊎ (side e.p e.q f.q ≡ pos 0) → (side f.p f.q e.p ≡ pos 0) ⊎ (side f.p f.q e.q ≡ pos 0) → MeetOnlyAtEnds e f
  at_ends n h k z o o' = (
    ∣ lone_end f.p f.q e.p e.q z k (λ w. n (one_line e.p e.q f.p f.q h w)) o' o ∣₁,
    ∣ lone_end e.p e.q f.p f.q z h n o o' ∣₁,
  )

  pub crossing_first : ¬ ((side e.p e.q f.p ≡ pos 0) ⊎ (side e.p e.q f.q ≡ pos 0)) → ¬ (AreOnOneSide (side e.p e.q f.p) (side e.p e.q f.q)) → ¬ (AreOnOneSide (side f.p f.q e.p) (side f.p f.q e.q)) → IsBad e f
  crossing_first n s t = bad e f (crossing_inner e.p e.q f.p f.q f.ordered n s t)

  pub crossing_second : ¬ ((side f.p f.q e.p ≡ pos 0) ⊎ (side f.p f.q e.q ≡ pos 0)) → ¬ (AreOnOneSide (side e.p e.q f.p) (side e.p e.q f.q)) → ¬ (AreOnOneSide (side f.p f.q e.p) (side f.p f.q e.q)) → IsBad e f
  crossing_second n s t = bad e f (exchanged f.p f.q e.p e.q (crossing_inner f.p f.q e.p e.q e.ordered n t s))
