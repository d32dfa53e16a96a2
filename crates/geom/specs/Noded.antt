-- Noded edges (Hobby 1999, in this project's own statement): no two different ones share a point but a common end.
use Rattle.std.specs.Prelude.{◌≡◌, ◌≢◌, ◌⊎◌, List, Contains}
use Rattle.geom.specs.declared.edge.Edge.{Edge}
use Rattle.geom.specs.Pixel.{Point, Coincides}
use Rattle.geom.specs.OnSegment.{IsOn}
use Rattle.geom.specs.EdgeOrder.{IsEdgeBefore}

-- z is an end of e
abbrev pub IsEnd : Edge → Point → Type 0
IsEnd e z = ∥ Coincides e.p z ⊎ Coincides e.q z ∥₁

-- every common point of e and f is an end of both
abbrev pub MeetOnlyAtEnds : Edge → Edge → Type 0
MeetOnlyAtEnds e f = (z : Point) → IsOn e.p e.q z → IsOn f.p f.q z → IsEnd e z × IsEnd f z

-- any two different edges meet only at ends
abbrev pub IsNoded : List Edge → Type 0
IsNoded edges = (e f : Edge) → Contains edges e → Contains edges f → e ≢ f → MeetOnlyAtEnds e f

-- some common point of e and f is not an end of both
abbrev pub IsBad : Edge → Edge → Type 0
IsBad e f = (z : Point) × IsOn e.p e.q z × IsOn f.p f.q z × (¬ (IsEnd e z × IsEnd f z))

-- (e, f) comes before (g, h): by the first edge, then by the second
abbrev pub IsPairBefore : Edge → Edge → Edge → Edge → Type 0
IsPairBefore e f g h = IsEdgeBefore e g ⊎ ((e ≡ g) × IsEdgeBefore f h)

-- (e, f), the lesser edge first, is the first of the bad pairs
pub record IsLeastBad (edges : List Edge) (e f : Edge) : Type 0 where
  pub e_in : Contains edges e
  pub f_in : Contains edges f
  pub ordered : IsEdgeBefore e f
  pub bad : IsBad e f
  pub least : (g h : Edge) → Contains edges g → Contains edges h → IsEdgeBefore g h → IsBad g h → ¬ (IsPairBefore g h e f)
