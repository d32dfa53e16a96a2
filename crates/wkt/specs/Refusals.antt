-- The refusals of a layer text (own), in their order: too long, no layer, a number outside the limit, a ring at fault.
use Rattle.std.specs.Prelude.{◌≡◌, ◌≤◌, ◌<◌, ◌-◌, ℕ, Bool, true, nat_lt, if◌then◌else◌, List, [], ◌∷◌, length, take, map, unsigned_abs, Option, Some, None}
use Rattle.std.specs.List.{flat_map}
use Rattle.geom.specs.declared.point.Pt.{Pt}
use Rattle.geom.specs.declared.fault.Fault.{Fault}
use Rattle.geom.specs.declared.fault.Fault.TheVariants.{LayerLong, Syntax, NumberRange, RingShort, RingOpen}
use Rattle.geom.specs.Limit.{coordinate_limit}
use Rattle.geom.specs.Segments.{same_point}
use Rattle.wkt.specs.LayerText.{Number, Point, Ring, IsLayer, IsBroken}
use Rattle.wkt.specs.declared.check.TheConstants.{LENGTH_LIMIT}

-- the greatest number of bytes of a layer text, where no limit is given
abbrev pub length_limit : ℕ
length_limit = LENGTH_LIMIT

-- ---- numbers

abbrev pub numbers : List Point → List Number
numbers [] = []
numbers (p ∷ ps) = p.x ∷ p.y ∷ numbers ps

abbrev pub all_numbers : List Ring → List Number
all_numbers rings = flat_map (λ r. numbers r.points) rings

-- the offset of the first number outside the coordinate limit
abbrev pub first_outside : List Number → Option ℕ
first_outside [] = None
first_outside (x ∷ xs) = if nat_lt coordinate_limit (unsigned_abs x.value) then Some x.at else first_outside xs

-- ---- rings

abbrev pub place_of : Point → Pt
place_of p = record { x = p.x.value; y = p.y.value }

abbrev pub last_of : Pt → List Pt → Pt
last_of p [] = p
last_of p (q ∷ qs) = last_of q qs

-- the last point is the first
abbrev pub is_closed : List Pt → Bool
is_closed [] = true
is_closed (p ∷ ps) = same_point p (last_of p ps)

-- the fault of the ring whose `(` is at this offset, if it has one: too few points goes before open
abbrev pub fault_at : ℕ → List Pt → Option Fault
fault_at at ps = if nat_lt (length ps) 4 then Some (RingShort at) else (if is_closed ps then None else Some (RingOpen at))

abbrev pub or_else : Option Fault → Option Fault → Option Fault
or_else None r = r
or_else (Some f) r = Some f

-- the fault of the first ring that has one
abbrev pub first_fault : List Ring → Option Fault
first_fault [] = None
first_fault (r ∷ rs) = or_else (fault_at r.at (map place_of r.points)) (first_fault rs)

-- ---- a text

-- the text is a layer whose rings have these points, as they are written
abbrev pub IsLayerOf : List ℕ → List (List Pt) → Type 0
IsLayerOf text rings = (written : List Ring) × IsLayer text written × (map (λ r. map place_of r.points) written ≡ rings)

-- the text is a layer with these rings as they are written, and nothing is wrong with them
pub record IsAccepted (text : List ℕ) (written : List Ring) : Type 0 where
  pub layer : IsLayer text written
  pub inside : first_outside (all_numbers written) ≡ None
  pub sound : first_fault written ≡ None

-- and it has no more bytes than the limit
pub record IsAcceptedWithin (limit : ℕ) (text : List ℕ) (written : List Ring) : Type 0 where
  pub short : length text ≤ limit
  pub accepted : IsAccepted text written

-- the points of the rings, without the last of each, which is its first again
abbrev pub plain : List Ring → List (List Pt)
plain written = map (λ r. take (length r.points - 1) (map place_of r.points)) written

-- the text is accepted, and stands for these rings, whose first points are not repeated
abbrev pub StandsFor : List ℕ → List (List Pt) → Type 0
StandsFor text rings = (written : List Ring) × IsAccepted text written × (plain written ≡ rings)

-- a number of the text is outside the coordinate limit, the first one at this offset
abbrev pub HasOutside : List ℕ → ℕ → Type 0
HasOutside text o = (written : List Ring) × IsLayer text written × (first_outside (all_numbers written) ≡ Some o)

-- all numbers are within the coordinate limit, and the first ring at fault has this fault
abbrev pub HasFault : List ℕ → Fault → Type 0
HasFault text f = (written : List Ring) × IsLayer text written × (first_outside (all_numbers written) ≡ None) × (first_fault written ≡ Some f)

-- the fault that the text is refused for, within a limit of bytes
abbrev pub IsRefusedWithin : ℕ → List ℕ → Fault → Type 0
IsRefusedWithin limit text LayerLong = limit < length text
IsRefusedWithin limit text (Syntax o) = (length text ≤ limit) × IsBroken text o
IsRefusedWithin limit text (NumberRange o) = (length text ≤ limit) × HasOutside text o
IsRefusedWithin limit text (RingShort o) = (length text ≤ limit) × HasFault text (RingShort o)
IsRefusedWithin limit text (RingOpen o) = (length text ≤ limit) × HasFault text (RingOpen o)
IsRefusedWithin limit text _ = ⊥

-- the same where no limit is given
abbrev pub IsRefused : List ℕ → Fault → Type 0
IsRefused text fault = IsRefusedWithin length_limit text fault
