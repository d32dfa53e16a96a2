-- The theorem for a list of edges and two choices among them.
use mathlib.Core.Bool.{Bool, false}
use mathlib.Core.List.{List}
use mathlib.Core.Path.{◌≡◌}
use Rattle.geom.specs.declared.edge.Edge.{Edge}
use Rattle.geom.specs.Pixel.{Point}
use Rattle.geom.proofs.Lists.{In, Distinct}
use Rattle.points_law.proofs.Choices.{Ordered, Small, Noded, Even, parity, in_result}

pub record Edges (es : List Edge) : Type 0 where
  pub distinct : Distinct es
  pub ordered : (e : Edge) → In e es → Ordered e
  pub small : (e : Edge) → In e es → Small e
  pub noded : Noded es

abbrev pub ResultParity : Type 0
ResultParity = (es : List Edge) → Edges es → (op : Bool → Bool → Bool) → op false false ≡ false → (a b : Edge → Bool) → Even a es → Even b es → (z : Point)
    → parity (in_result op a b es) es z ≡ op (parity a es z) (parity b es z)
