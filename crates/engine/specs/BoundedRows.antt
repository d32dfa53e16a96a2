-- Rows over the borders of features, with a limit for the features of all of them (own).
use Rattle.std.specs.Prelude.{◌≡◌, ◌⊎◌, ◌<◌, ◌≤◌, ℕ, List, map}
use Rattle.geom.specs.declared.fault.Fault.TheVariants.{Memory}
use Rattle.cover_law.specs.Cover.{Bordered}
use Rattle.cover_law.specs.Rows.{AreRows}
use Rattle.rows.specs.Made.{ids_in, row_of}
use Rattle.engine.specs.declared.bounded_rows.BoundedRows.{BoundedRows}
use Rattle.layers.specs.declared.faces_fault.FacesFault.{FacesFault}
use Rattle.layers.specs.declared.faces_fault.FacesPart.TheVariants.{Run}
use Rattle.layers.specs.declared.faces_fault.FacesRefusal.TheVariants.{Usual, TooManyIds}
use Rattle.layers.specs.FacesRefusals.{IsNumberOfIds}

-- the rows over these borders, which have together at most so many features
pub record AreBoundedRows {M : Type 0} (limit count : ℕ) (borders : List Bordered) (r : BoundedRows M) : Type 0 where
  pub rows : AreRows count borders (map row_of r.rows.items)
  pub ids : r.ids ≡ ids_in (map row_of r.rows.items)
  pub few : r.ids ≤ limit

-- the rows over them have more
pub record HaveManyIds (limit count : ℕ) (borders : List Bordered) (f : FacesFault) : Type 0 where
  pub ids : ℕ
  pub refusal : f.refusal ≡ TooManyIds ids
  pub number : IsNumberOfIds count borders ids
  pub many : limit < ids

-- memory, or too many features
pub record TellsManyIds (limit count : ℕ) (borders : List Bordered) (f : FacesFault) : Type 0 where
  pub at : f.at ≡ Run
  pub why : (f.refusal ≡ Usual Memory) ⊎ HaveManyIds limit count borders f
