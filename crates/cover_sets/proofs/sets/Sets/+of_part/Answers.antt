-- Both halves of a list are listed one after the other.
use Rattle.std.proofs.Common.{◌≡◌, ℕ, ◌+◌, ◌-◌, ◌*◌, ◌<◌, ◌++◌, List, sym, subst, arith}
use Rattle.std.specs.List.{All}
use Rattle.std.proofs.lemmas.Result.{IfOk-weaker}
use Rattle.cover_sets.specs.Blocks.{InBlock}
use Rattle.cover_sets.specs.Sets.{IsListed, set_of}
use Rattle.cover_sets.proofs.Lists.{Ascend}
use Rattle.cover_sets.proofs.ListHalves.{after_lists, all_back, all_front, ascend_back, ascend_front, lists_split}
use Rattle.cover_sets.proofs.Numbered.{keeps_then}
use Rattle.cover_sets.proofs.sets.Sets.+of_part.Goals as goal

up : (n : ℕ) → 0 < n → n ≡ n - 1 + 1
up n h = omega arith

above : (n p : ℕ) (xs : List ℕ) → 0 < n → InBlock n p xs → InBlock (n - 1 + 1) p xs
above n p xs h k = subst (λ (m : ℕ). InBlock m p xs) (up n h) k

pub of_part-requires : goal.of_part-requires
of_part-requires g t c κs within =
    let all = c.list_levels-level.ensures in
    let both = c.halves.ensures.both in
    let front = c.halves.result.0.now in
    let back = c.halves.result.1.now in (
      (let l = all.within in let s = all.some in omega arith),
      (
        within,
        (
          ascend_front front back (subst Ascend (sym both) c.requires.ascending),
          (
            all_front (λ (f : ℕ). f < 2147483647) front back (subst (All (λ (f : ℕ). f < 2147483647)) (sym both) c.requires.below),
            (
              (let l = all.within in let m = c.requires.most in omega arith),
              (2 * all.block.0, c.halves.ensures.low all.block.0 (above c.list_levels-level.result all.block.0 c.args.features.now all.some all.block.1)),
            ),
          ),
        ),
      ),
    )

pub of_part-requires-2 : goal.of_part-requires-2
of_part-requires-2 g t c κs within =
    let all = c.list_levels-level.ensures in
    let both = c.halves.ensures.both in
    let front = c.halves.result.0.now in
    let back = c.halves.result.1.now in (
      (let l = all.within in let s = all.some in omega arith),
      (
        within,
        (
          ascend_back front back (subst Ascend (sym both) c.requires.ascending),
          (
            all_back (λ (f : ℕ). f < 2147483647) front back (subst (All (λ (f : ℕ). f < 2147483647)) (sym both) c.requires.below),
            (
              (let l = all.within in let m = c.requires.most in omega arith),
              (2 * all.block.0 + 1, c.halves.ensures.high all.block.0 (above c.list_levels-level.result all.block.0 c.args.features.now all.some all.block.1)),
            ),
          ),
        ),
      ),
    )

pub returns-in_err-high-clause-keeps : goal.returns-in_err-high-clause-keeps
returns-in_err-high-clause-keeps g t c = keeps_then c.args.self.now c.of_part.new.self c.of_part-2.new.self c.in_ok-low.ensures.keeps c.in_err-high.ensures.keeps

pub joined-requires-clause-splits : goal.joined-requires-clause-splits
joined-requires-clause-splits g t c =
    let all = c.list_levels-level.ensures in
    let own = above c.list_levels-level.result all.block.0 c.args.features.now all.some all.block.1 in
    lists_split c.of_part.new.self c.of_part-2.new.self c.halves.result.0.now c.halves.result.1.now c.in_ok-low.low c.in_ok-high.high (c.list_levels-level.result - 1) all.block.0
    (c.halves.ensures.low all.block.0 own) (c.halves.ensures.high all.block.0 own) c.in_ok-high.ensures.keeps c.in_ok-low.ensures.set c.in_ok-high.ensures.set

pub returns-clause-keeps : goal.returns-clause-keeps
returns-clause-keeps g t c = keeps_then c.args.self.now c.of_part-2.new.self c.joined.new.self (keeps_then c.args.self.now c.of_part.new.self c.of_part-2.new.self c.in_ok-low.ensures.keeps c.in_ok-high.ensures.keeps) c.joined.ensures.keeps

pub returns-clause-set : goal.returns-clause-set
returns-clause-set g t c =
    let all = c.list_levels-level.ensures in
    let own = above c.list_levels-level.result all.block.0 c.args.features.now all.some all.block.1 in
    IfOk-weaker c.joined.result (IsListed c.joined.new.self (set_of c.of_part-2.new.self c.in_ok-low.low ++ set_of c.of_part-2.new.self c.in_ok-high.high)) (IsListed c.joined.new.self c.args.features.now)
    (after_lists c.of_part.new.self c.of_part-2.new.self c.halves.result.0.now c.halves.result.1.now c.in_ok-low.low c.in_ok-high.high (c.list_levels-level.result - 1) all.block.0
    (c.halves.ensures.low all.block.0 own) (c.halves.ensures.high all.block.0 own) c.in_ok-high.ensures.keeps c.in_ok-low.ensures.set c.in_ok-high.ensures.set c.args.features.now c.halves.ensures.both c.joined.new.self)
    c.joined.ensures.set
