-- Both halves of a block exchanged one after the other, and joined.
use Rattle.std.proofs.Common.{◌≡◌, ℕ, ◌+◌, ◌*◌, List, ◌++◌, refl, sym, subst}
use Rattle.cover_sets.specs.Blocks.{InBlock, Splits}
use Rattle.cover_sets.specs.Exchange.{IsExchange, IsExchanged}
use Rattle.cover_sets.specs.Sets.{IsListed, IsNumber, Keeps, set_of}
use Rattle.cover_sets.proofs.Exchanges.{exchange_block, exchange_both}

module _ (S T U : List (List ℕ)) (a a_low a_high low high level p : ℕ) (fs front back : List ℕ)
    (a_is : set_of S a_low ++ set_of S a_high ≡ set_of S a) (fs_is : front ++ back ≡ fs)
    (in_a_low : InBlock level (2 * p) (set_of S a_low)) (in_a_high : InBlock level (2 * p + 1) (set_of S a_high))
    (in_front : InBlock level (2 * p) front) (in_back : InBlock level (2 * p + 1) back)
    (is_a : IsNumber S a_high)
    (first : Keeps S T) (second : Keeps T U)
    (h : IsExchanged S a_low front T low) (k : IsExchanged T a_high back U high) where
  low_again : IsExchange (set_of S a_low) front (set_of U low)
  low_again = subst (IsExchange (set_of S a_low) front) (sym (second low h.0).1) h.1

  high_again : IsExchange (set_of S a_high) back (set_of U high)
  high_again = subst (λ (s : List ℕ). IsExchange s back (set_of U high)) (first a_high is_a).1 k.1

  pub halves_split : Splits (level + 1) (set_of U low) (set_of U high)
  halves_split = record {
    level = level;
    levels_is = refl;
    prefix = p;
    low_in = exchange_block level (2 * p) (set_of S a_low) front (set_of U low) low_again in_a_low in_front;
    high_in = exchange_block level (2 * p + 1) (set_of S a_high) back (set_of U high) high_again in_a_high in_back;
  }

  pub after_halves : (V : List (List ℕ)) (n : ℕ) → IsListed V (set_of U low ++ set_of U high) n → IsExchanged S a fs V n
  after_halves V n l = (
    l.0,
    subst (IsExchange (set_of S a) fs) (sym l.1)
        (subst (λ (s : List ℕ). IsExchange s fs (set_of U low ++ set_of U high)) a_is (subst (λ (t : List ℕ). IsExchange (set_of S a_low ++ set_of S a_high) t (set_of U low ++ set_of U high)) fs_is
        (exchange_both level p (set_of S a_low) (set_of S a_high) front back (set_of U low) (set_of U high) in_a_low in_a_high in_front in_back low_again high_again))),
  )
