-- What is kept of a list's front, while the list is gone through (own).
use Rattle.std.specs.Prelude.{◌≡◌, ℕ, ◌≤◌, List, drop, length, take}
use Rattle.geom.specs.declared.segment.Seg.{Seg}
use Rattle.distinct.specs.Copies.{AreCopies}
use Rattle.distinct.specs.declared.copies.Copies.{Copies}

-- of the segments before a place those that are kept stand in the first places, with their copies; from the place on all stand as they did
pub record AreKeptOf (all : List Seg) (place : ℕ) (segments : List Seg) (copies : List Copies) : Type 0 where
  pub few : length copies ≤ place
  pub kept : AreCopies (take place all) (take (length copies) segments) copies
  pub rest : drop place segments ≡ drop place all
