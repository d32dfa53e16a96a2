-- What stands, kept by the numbers of its slots (own).
use Rattle.std.specs.Prelude.{ℕ, Bool, ◌≡◌, ◌<◌, ◌≤◌, ◌++◌, pos, false, List, All, AllPairs, Contains, drop, get_or, length, map}
use Rattle.std.specs.List.{AllWithin}
use lib.Signed.{le_z_yes}
use native.Mathlib.Omega.{arith}
use borrow.Author.Differences.{ints}
use Rattle.geom.specs.declared.point.Pt.{Pt}
use Rattle.geom.specs.Order.{IsUpTo}
use Rattle.label_sweep.specs.declared.standing.StandingEdge.{StandingEdge}
use Rattle.label_sweep.specs.declared.status.Place.{Place}
use Rattle.label_sweep.specs.declared.status.Status.{Status}
use Rattle.label_sweep.specs.Chunks.{AreChunks, IsPlace, joined, number_of, opens}

abbrev zero : Pt
zero = record { x = pos 0; y = pos 0 }

abbrev one : Pt
one = record { x = pos 1; y = pos 0 }

-- an edge for a number that no slot has
abbrev pub nowhere : StandingEdge
nowhere = record {
  spoke = record {
    one = record { edge = record { p = zero; q = one; ordered = record { column = le_z_yes tt; row = λ e. absurd (omega (arith, ints, e)) } }; in_a = 0; in_b = 0 };
    in_limit = record {
      a_in = record { x_in = record { low = le_z_yes tt; high = le_z_yes tt }; y_in = record { low = le_z_yes tt; high = le_z_yes tt } };
      b_in = record { x_in = record { low = le_z_yes tt; high = le_z_yes tt }; y_in = record { low = le_z_yes tt; high = le_z_yes tt } };
    };
  };
  under = record { a = false; b = false };
}

-- whether a number's slot has an edge that passes
abbrev pub passes : (StandingEdge → Bool) → List StandingEdge → ℕ → Bool
passes test slots number = opens test (drop number slots)

-- the edge in the slot with a number
abbrev pub in_slot : List StandingEdge → ℕ → StandingEdge
in_slot slots number = get_or slots number nowhere

-- the numbers of the slots of the edges that stand
abbrev pub numbers : {A : Type 0} → Status A → List ℕ
numbers status = joined status.chunks.items

-- the edges that stand
abbrev pub all_standing : {A : Type 0} → Status A → List StandingEdge
all_standing status = map (in_slot status.slots.items) (numbers status)

-- each slot is free or has one edge that stands
pub record IsKept {A : Type 0} (status : Status A) : Type 0 where
  pub chunked : AreChunks status.chunks.items
  pub inside : All (λ i. i < length status.slots.items) (numbers status ++ status.free.items)
  pub apart : AllPairs (λ i j. ¬ (i ≡ j)) (numbers status ++ status.free.items)
  pub all : (i : ℕ) → i < length status.slots.items → Contains (numbers status ++ status.free.items) i

-- the edges that free slots had end at v or before
abbrev pub HaveEnded : {A : Type 0} → Pt → Status A → Type 0
HaveEnded v status = All (λ i. IsUpTo (in_slot status.slots.items i).spoke.one.edge.q v) status.free.items

-- a place behind edges of which one thing holds, and before others, of which another thing does
pub record IsPlaceBetween {A : Type 0} (Before Behind : StandingEdge → Type 0) (status : Status A) (at : Place) : Type 0 where
  pub place : IsPlace status.chunks.items at
  pub within : number_of status.chunks.items at ≤ length (all_standing status)
  pub before : AllWithin Before (all_standing status) 0 (number_of status.chunks.items at)
  pub behind : AllWithin Behind (all_standing status) (number_of status.chunks.items at) (length (all_standing status))
