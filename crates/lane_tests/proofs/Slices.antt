-- Columns that are read as slices.
use Rattle.std.proofs.Common.{◌≡◌, List, ℤ}
use Rattle.lane_tests.specs.Above.{AreEnds}

pub read : (ls bs rs ts ls' bs' rs' ts' : List ℤ) → AreEnds ls bs rs ts → ls' ≡ ls → bs' ≡ bs → rs' ≡ rs → ts' ≡ ts → AreEnds ls' bs' rs' ts'
read ls bs rs ts ls' bs' rs' ts' h p q r s = rw (p, q, r, s) h
