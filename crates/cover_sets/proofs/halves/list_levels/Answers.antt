-- The first and the last feature agree where all do, and differ above no bit.
use Rattle.std.proofs.Common.{◌≡◌, ℕ, zero, suc, ◌-◌, ◌/◌, ◌^◌, ◌<◌, sym, ◌∙◌, arith, length, get_or}
use Rattle.cover_sets.proofs.ListHalves.{ends_block}
use Rattle.cover_sets.proofs.halves.list_levels.Goals as goal

pub common_levels-requires-clause-common : goal.common_levels-requires-clause-common
common_levels-requires-clause-common c = c.requires.block.1 0 0 (let m = c.requires.many in omega arith) ∙ sym (c.requires.block.1 (length c.args.features.now - 1) 0 (let m = c.requires.many in omega arith))

differ : (f g r : ℕ) → f < g → f / 2 ^ r ≡ g / 2 ^ r → 0 < r
differ f g zero l e = absurd (omega arith)
differ f g (suc r) l e = omega arith

pub returns-clause-some : goal.returns-clause-some
returns-clause-some c = differ (get_or c.args.features.now 0 0) (get_or c.args.features.now (length c.args.features.now - 1) 0) c.common_levels.result
    (c.requires.ascending 0 (length c.args.features.now - 1) 0 (let m = c.requires.many in omega arith) (let m = c.requires.many in omega arith)) c.common_levels.ensures.common

pub returns-clause-block : goal.returns-clause-block
returns-clause-block c = (_, ends_block c.args.features.now c.common_levels.result 0 (let m = c.requires.many in omega arith) c.requires.ascending c.common_levels.ensures.common)
