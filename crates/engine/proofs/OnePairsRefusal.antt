-- Two layers whose features are to be paired are refused for one reason, and not where they are answered.
use Rattle.std.proofs.Common.{◌≡◌, ℕ, ap, refl}
use Rattle.columns.specs.declared.fault.ColumnsFault.{ColumnsFault}
use Rattle.columns.specs.declared.layout.Columns.{Columns}
use Rattle.layers.specs.declared.columns_refused.ColumnsRefused.TheVariants.{A, B}
use Rattle.engine.specs.declared.columns_pairs.PairsRefused.{PairsRefused}
use Rattle.engine.specs.declared.columns_pairs.PairsRefused.TheVariants.{Layers}
use Rattle.engine.specs.ColumnsPairs.{ArePairsRefused, MayRunPairs, PairsRefusalIsOne, RefusedPairsMayNotRun, bad_a, bad_b, too_many, unpaired}
use Rattle.engine.proofs.OneColumnsRefusal.{above, one_fault, taken}

module _ (limit : ℕ) (a b : Columns) where
  one : (f g : PairsRefused) → ArePairsRefused limit a b f → ArePairsRefused limit a b g → f ≡ g
  one f g (bad_a {f = p} r) (bad_a {f = q} i) = ap (λ (x : ColumnsFault). Layers (A x)) (one_fault a p q r i)
  one f g (bad_a {f = p} r) (bad_b h i) = absurd (taken a p h r)
  one f g (bad_a {f = p} r) (unpaired h n) = absurd (taken a p h.first r)
  one f g (bad_a {f = p} r) (too_many h e k) = absurd (taken a p h.first r)
  one f g (bad_b h r) (bad_a {f = q} i) = absurd (taken a q h i)
  one f g (bad_b {f = p} h r) (bad_b {f = q} k i) = ap (λ (x : ColumnsFault). Layers (B x)) (one_fault b p q r i)
  one f g (bad_b {f = p} h r) (unpaired k n) = absurd (taken b p k.second r)
  one f g (bad_b {f = p} h r) (too_many k e l) = absurd (taken b p k.second r)
  one f g (unpaired h n) (bad_a {f = q} i) = absurd (taken a q h.first i)
  one f g (unpaired h n) (bad_b {f = q} k i) = absurd (taken b q h.second i)
  one f g (unpaired h n) (unpaired k m) = refl
  one f g (unpaired h n) (too_many k e l) = absurd (n e)
  one f g (too_many h e k) (bad_a {f = q} i) = absurd (taken a q h.first i)
  one f g (too_many h e k) (bad_b {f = q} l i) = absurd (taken b q h.second i)
  one f g (too_many h e k) (unpaired l n) = absurd (n e)
  one f g (too_many h e k) (too_many l d m) = refl

  no_run : (f : PairsRefused) → ArePairsRefused limit a b f → MayRunPairs limit a b → ⊥
  no_run f (bad_a {f = p} r) may = taken a p may.accepted.first r
  no_run f (bad_b {f = p} h r) may = taken b p may.accepted.second r
  no_run f (unpaired h n) may = n may.paired
  no_run f (too_many h e k) may = above limit _ k may.few

pub pairs_refusal_is_one : PairsRefusalIsOne
pairs_refusal_is_one = one

pub refused_pairs_may_not_run : RefusedPairsMayNotRun
refused_pairs_may_not_run = no_run
