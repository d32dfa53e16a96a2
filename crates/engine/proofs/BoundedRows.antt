-- Why rows over borders are not made.
use Rattle.std.proofs.Common.{◌≡◌, inl, inr, ℕ, ◌<◌, List}
use Rattle.geom.specs.declared.fault.Fault.TheVariants.{Memory}
use Rattle.cover_law.specs.Cover.{Bordered}
use Rattle.layers.specs.declared.faces_fault.FacesFault.{FacesFault}
use Rattle.layers.specs.declared.faces_fault.FacesPart.TheVariants.{Run}
use Rattle.layers.specs.declared.faces_fault.FacesRefusal.TheVariants.{Usual, TooManyIds}
use Rattle.engine.specs.BoundedRows.{TellsManyIds}
use Rattle.layers.specs.FacesRefusals.{IsNumberOfIds}

module _ (limit count : ℕ) (borders : List Bordered) (f : FacesFault) where
  pub wants_memory : (f.at ≡ Run) × (f.refusal ≡ Usual Memory) → TellsManyIds limit count borders f
  wants_memory h = record { at = h.0; why = inl h.1 }

  pub has_many : (ids : ℕ) → IsNumberOfIds count borders ids → (f.at ≡ Run) × (f.refusal ≡ TooManyIds ids) × (limit < ids) → TellsManyIds limit count borders f
  has_many ids number h = record { at = h.0; why = inr (record { ids = ids; refusal = h.1; number = number; many = h.2 }) }
