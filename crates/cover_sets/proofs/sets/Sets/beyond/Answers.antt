-- All features lie in the one block of 31 bits.
use Rattle.std.specs.HashMap.{get}
use Rattle.std.specs.Prelude.{nat_eq}
use Rattle.std.proofs.lemmas.Result.{IfOk-weaker}
use Rattle.cover_sets.specs.Exchange.{IsExchanged}
use Rattle.cover_sets.specs.Sets.{IsBeyond}
use Rattle.cover_sets.proofs.Exchanges.{exchange_is_beyond}
use Rattle.cover_sets.proofs.Kept.{read_sets}
use Rattle.cover_sets.proofs.Blocks.{all_in_one}
use Rattle.cover_sets.proofs.sets.Sets.beyond.Goals as goal

pub exchanged-requires-clause-block : goal.exchanged-requires-clause-block
exchanged-requires-clause-block g c =
    let sets = read_sets c.self.inside.trees.items (get nat_eq c.self.inside.table) c.args.self.now c.self.invariant c.self.view_is in
    (0, all_in_one _ (sets.below c.args.set c.requires.set), all_in_one _ c.requires.below)

pub returns-clause-beyond : goal.returns-clause-beyond
returns-clause-beyond g c =
    IfOk-weaker c.exchanged.result (IsExchanged c.args.self.now c.args.set c.args.features.now c.exchanged.new.self) (IsBeyond c.args.self.now c.args.set c.args.features.now c.exchanged.new.self)
    (λ n h. (h.0, λ count a b. exchange_is_beyond count _ _ _ (c.exchanged.ensures.sets.ascending n h.0) h.1 a b)) c.exchanged.ensures.set
