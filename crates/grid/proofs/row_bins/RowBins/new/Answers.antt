use Rattle.std.proofs.Common.{◌≡◌, ℕ, zero, suc, List, [], ◌∷◌, ◌++◌, Vec, ap, arith, get_or, length, refl}
use Rattle.std.proofs.lemmas.List.{length_push}
use Rattle.grid.specs.Bins.{lists_of}
use Rattle.grid.proofs.Rows.{none_given}
use Rattle.grid.proofs.row_bins.RowBins.new.Goals as goal

none_pushed : {A : Type 0} (bins : List (Vec ℕ A)) (bin : Vec ℕ A) → bin.items ≡ [] → ((k : ℕ) → get_or (lists_of bins) k [] ≡ []) → (k : ℕ) → get_or (lists_of (bins ++ bin ∷ [])) k [] ≡ []
none_pushed [] bin e none zero = e
none_pushed [] bin e none (suc k) = refl
none_pushed (b ∷ bins) bin e none zero = none 0
none_pushed (b ∷ bins) bin e none (suc k) = none_pushed bins bin e (λ j. none (suc j)) k

pub loop-tile-preserved : goal.loop-tile-preserved
loop-tile-preserved g c = record {
  length = (let p = ap length c.in_ok-push.ensures.items in let q = length_push c.loop-tile.bins.items c.new.result in let l = c.loop-tile.invariant.length in omega (arith, p, q, l));
  empty = λ k. rw c.in_ok-push.ensures.items (none_pushed c.loop-tile.bins.items c.new.result c.new.ensures.items c.loop-tile.invariant.empty k);
}

pub returns-clause-bins : goal.returns-clause-bins
returns-clause-bins g c = none_given c.args.grid.now c.args.from c.args.past (lists_of c.loop-tile.bins.items) c.loop-tile.invariant.empty
