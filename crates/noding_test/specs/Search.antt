-- The search for the least bad pair among ascending edges, by places.
use Rattle.std.specs.Prelude.{◌≡◌, ℕ, ◌<◌, List, MatchOption, Option, Some, length, slice_get}
use Rattle.geom.specs.declared.point.Pt.{Pt}
use Rattle.geom.specs.declared.edge.Edge.{Edge}
use Rattle.geom.specs.Noded.{IsBad}
use Rattle.noding_test.specs.Verdicts.{common_corner}

-- no edge after place i, and before limit, makes an owned bad pair with the edge at i
abbrev pub NoneBadTo : (Pt → Type 0) → List Edge → ℕ → ℕ → Type 0
NoneBadTo Owned edges i limit = (j : ℕ) (e f : Edge) → i < j → j < limit → slice_get edges i ≡ Some e → slice_get edges j ≡ Some f → ¬ (IsBad e f × Owned (common_corner e f))

-- f stands at the first place after i that makes an owned bad pair with the edge at i
pub record IsPartner (Owned : Pt → Type 0) (edges : List Edge) (i : ℕ) (f : Edge) : Type 0 where
  pub place : ℕ
  pub after : i < place
  pub is_at : slice_get edges place ≡ Some f
  pub bad : (e : Edge) → slice_get edges i ≡ Some e → IsBad e f × Owned (common_corner e f)
  pub first : NoneBadTo Owned edges i place

abbrev pub IsFirstPartner : (Pt → Type 0) → List Edge → ℕ → Option Edge → Type 0
IsFirstPartner Owned edges i found = MatchOption found (NoneBadTo Owned edges i (length edges)) (IsPartner Owned edges i)
