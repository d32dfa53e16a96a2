use Rattle.std.proofs.Common.{rules}
use Rattle.overlay_c.specs.StripWrite.{IsOffset, IsOffsetBefore}
use Rattle.overlay_c.proofs.StripSearch.{told_bad}
use Rattle.overlay_c.proofs.strip_write.bad_offset.Goals as goal

pub returns : goal.returns
returns c = told_bad (IsOffset c.args.count) _ _ IsOffsetBefore _ _ (λ x p. search rules) (λ x p q. search rules) (λ x y p. search rules) (λ x y p q. search rules) c.args.offsets.now 0 c.first_bad.result c.first_bad.ensures
