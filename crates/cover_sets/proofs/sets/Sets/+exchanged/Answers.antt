-- Both halves of a block are exchanged one after the other.
use Rattle.std.proofs.Common.{◌≡◌, ℕ, ◌+◌, ◌-◌, ◌*◌, ◌<◌, ◌++◌, List, sym, subst, arith}
use Rattle.std.specs.List.{All}
use Rattle.std.proofs.lemmas.Result.{IfOk-weaker}
use Rattle.cover_sets.specs.Blocks.{InBlock}
use Rattle.cover_sets.specs.Exchange.{IsExchanged}
use Rattle.cover_sets.specs.Sets.{IsListed, set_of}
use Rattle.cover_sets.proofs.Lists.{Ascend}
use Rattle.cover_sets.proofs.ListHalves.{all_back, all_front, ascend_back, ascend_front}
use Rattle.cover_sets.proofs.Numbered.{keeps_then}
use Rattle.cover_sets.proofs.ExchangeSteps.{after_halves, halves_split}
use Rattle.cover_sets.proofs.sets.Sets.+exchanged.Goals as goal

up : (n : ℕ) → 0 < n → n ≡ n - 1 + 1
up n h = omega arith

-- a block of one bit more than that of the halves
above : (xs : List ℕ) (n p : ℕ) → 0 < n → InBlock n p xs → InBlock (n - 1 + 1) p xs
above xs n p h k = subst (λ (m : ℕ). InBlock m p xs) (up n h) k

pub exchanged-requires : goal.exchanged-requires
exchanged-requires g t c κs within =
    let all = c.shared_levels-level.ensures in
    let p = all.block.0 in
    let both = c.halves.ensures.both in
    let front = c.halves.result.0.now in
    let back = c.halves.result.1.now in (
      (let l = all.within in let s = all.some in omega arith),
      (
        within,
        (
          c.parts-low.ensures.low,
          (
            ascend_front front back (subst Ascend (sym both) c.requires.ascending),
            (
              all_front (λ (f : ℕ). f < 2147483647) front back (subst (All (λ (f : ℕ). f < 2147483647)) (sym both) c.requires.below),
              (
                (let l = all.within in let m = c.requires.most in omega arith),
                (
                  2 * p,
                  c.parts-low.ensures.low_block p (above (set_of c.args.self.now c.args.set) c.shared_levels-level.result p all.some all.block.1),
                  c.halves.ensures.low p (above c.args.features.now c.shared_levels-level.result p all.some all.block.2),
                ),
              ),
            ),
          ),
        ),
      ),
    )

pub exchanged-requires-2 : goal.exchanged-requires-2
exchanged-requires-2 g t c κs within =
    let all = c.shared_levels-level.ensures in
    let p = all.block.0 in
    let level = c.shared_levels-level.result - 1 in
    let both = c.halves.ensures.both in
    let front = c.halves.result.0.now in
    let back = c.halves.result.1.now in
    let a = c.in_ok-low.ensures.keeps c.parts-low.result.1 c.parts-low.ensures.high in (
      (let l = all.within in let s = all.some in omega arith),
      (
        within,
        (
          a.0,
          (
            ascend_back front back (subst Ascend (sym both) c.requires.ascending),
            (
              all_back (λ (f : ℕ). f < 2147483647) front back (subst (All (λ (f : ℕ). f < 2147483647)) (sym both) c.requires.below),
              (
                (let l = all.within in let m = c.requires.most in omega arith),
                (
                  2 * p + 1,
                  subst (InBlock level (2 * p + 1)) (sym a.1) (c.parts-low.ensures.high_block p (above (set_of c.args.self.now c.args.set) c.shared_levels-level.result p all.some all.block.1)),
                  c.halves.ensures.high p (above c.args.features.now c.shared_levels-level.result p all.some all.block.2),
                ),
              ),
            ),
          ),
        ),
      ),
    )

pub returns-in_err-high-clause-keeps : goal.returns-in_err-high-clause-keeps
returns-in_err-high-clause-keeps g t c = keeps_then c.args.self.now c.exchanged.new.self c.exchanged-2.new.self c.in_ok-low.ensures.keeps c.in_err-high.ensures.keeps

pub joined-requires-clause-splits : goal.joined-requires-clause-splits
joined-requires-clause-splits g t c =
    let all = c.shared_levels-level.ensures in
    let p = all.block.0 in
    let in_a = above (set_of c.args.self.now c.args.set) c.shared_levels-level.result p all.some all.block.1 in
    let in_f = above c.args.features.now c.shared_levels-level.result p all.some all.block.2 in
    halves_split c.args.self.now c.exchanged.new.self c.exchanged-2.new.self c.args.set c.parts-low.result.0 c.parts-low.result.1 c.in_ok-low.low c.in_ok-high.high (c.shared_levels-level.result - 1) p
    c.args.features.now c.halves.result.0.now c.halves.result.1.now
    c.parts-low.ensures.both c.halves.ensures.both (c.parts-low.ensures.low_block p in_a) (c.parts-low.ensures.high_block p in_a) (c.halves.ensures.low p in_f) (c.halves.ensures.high p in_f)
    c.parts-low.ensures.high c.in_ok-low.ensures.keeps c.in_ok-high.ensures.keeps c.in_ok-low.ensures.set c.in_ok-high.ensures.set

pub returns-clause-keeps : goal.returns-clause-keeps
returns-clause-keeps g t c = keeps_then c.args.self.now c.exchanged-2.new.self c.joined.new.self (keeps_then c.args.self.now c.exchanged.new.self c.exchanged-2.new.self c.in_ok-low.ensures.keeps c.in_ok-high.ensures.keeps) c.joined.ensures.keeps

pub returns-clause-set : goal.returns-clause-set
returns-clause-set g t c =
    let all = c.shared_levels-level.ensures in
    let p = all.block.0 in
    let in_a = above (set_of c.args.self.now c.args.set) c.shared_levels-level.result p all.some all.block.1 in
    let in_f = above c.args.features.now c.shared_levels-level.result p all.some all.block.2 in
    IfOk-weaker c.joined.result (IsListed c.joined.new.self (set_of c.exchanged-2.new.self c.in_ok-low.low ++ set_of c.exchanged-2.new.self c.in_ok-high.high)) (IsExchanged c.args.self.now c.args.set c.args.features.now c.joined.new.self)
    (after_halves c.args.self.now c.exchanged.new.self c.exchanged-2.new.self c.args.set c.parts-low.result.0 c.parts-low.result.1 c.in_ok-low.low c.in_ok-high.high (c.shared_levels-level.result - 1) p
    c.args.features.now c.halves.result.0.now c.halves.result.1.now
    c.parts-low.ensures.both c.halves.ensures.both (c.parts-low.ensures.low_block p in_a) (c.parts-low.ensures.high_block p in_a) (c.halves.ensures.low p in_f) (c.halves.ensures.high p in_f)
    c.parts-low.ensures.high c.in_ok-low.ensures.keeps c.in_ok-high.ensures.keeps c.in_ok-low.ensures.set c.in_ok-high.ensures.set c.joined.new.self)
    c.joined.ensures.set
