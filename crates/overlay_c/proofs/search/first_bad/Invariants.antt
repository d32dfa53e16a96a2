use Rattle.std.proofs.Common.{◌<◌, ℕ, true}
use Rattle.overlay_c.specs.Strips.{IsInPlace}
use Rattle.overlay_c.proofs.search.first_bad.Given as goal

-- those before this place are in place
abbrev pub invariant-loop-place : goal.invariant-loop-place
invariant-loop-place g l = (k : ℕ) → k < l.place → IsInPlace (λ x. goal.F-post g l.fn.is_item x true) (λ x y. goal.B-post g l.fn.is_before x y true) l.items k
