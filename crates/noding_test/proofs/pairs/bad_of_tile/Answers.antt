use Rattle.noding_test.proofs.OwnVerdicts.{own_verdict_is}
use Rattle.noding_test.proofs.pairs.bad_of_tile.Goals as goal

pub own_verdict-requires-clause-below : goal.own_verdict-requires-clause-below
own_verdict-requires-clause-below g c = c.requires.near.below

pub returns-in-Some : goal.returns-in-Some
returns-in-Some g c = own_verdict_is c.args.grid.now c.args.tile c.args.counted.now c.args.numbers.now c.in-Some.held.now c.requires.near c.in-Some.ensures.1

pub returns : goal.returns
returns g c = ∣ c.in_ok-made.ensures.bad ∣₁
