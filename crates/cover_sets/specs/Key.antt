-- Two parts as one number.
use Rattle.std.specs.Prelude.{◌+◌, ◌*◌, ℕ}

abbrev pub key_of : ℕ → ℕ → ℕ
key_of low high = low * 4294967296 + high
