-- The list lies in the block of its first feature, since its last one does, and the set in that of a feature of its own.
use Rattle.std.proofs.Common.{ℕ, ◌-◌, ◌/◌, ◌^◌, sym, subst, arith, length, get_or}
use Rattle.cover_sets.specs.Blocks.{InBlock}
use Rattle.cover_sets.specs.Sets.{set_of}
use Rattle.cover_sets.proofs.Blocks.{block_more}
use Rattle.cover_sets.proofs.ListHalves.{ends_block}
use Rattle.cover_sets.proofs.Numbers.{coarser}
use Rattle.cover_sets.proofs.sets.Sets.shared_levels.Goals as goal

pub common_levels-own-requires-clause-least : goal.common_levels-own-requires-clause-least
common_levels-own-requires-clause-least g c = c.head-head.ensures.least c.args.most (c.requires.block.0, c.requires.block.1)

pub returns-clause-block : goal.returns-clause-block
returns-clause-block g c =
    let own = c.common_levels-own.result in
    let r = c.common_levels.result in
    let head = c.head-head.result in
    let s = set_of c.args.self.now c.args.set in
    let fs = c.args.features.now in
    let first = get_or fs 0 0 in
    let last = get_or fs (length fs - 1) 0 in (
      first / 2 ^ r,
      subst (λ (q : ℕ). InBlock r q s) (sym c.common_levels.ensures.common) (block_more head.levels r s head.member (let l = c.common_levels-own.ensures.least in let m = c.common_levels.ensures.least in omega arith) c.head-head.ensures.block),
      ends_block fs r 0 c.requires.some c.requires.ascending (coarser own r first last c.common_levels.ensures.least c.common_levels-own.ensures.common),
    )
