-- The lines that the program prints for faults, and its exit statuses (own).
use Rattle.std.specs.Prelude.{ℕ, suc, List, [], ◌∷◌, ◌++◌, codes, ◌+◌, nat_lt, if◌then◌else◌}
use Rattle.std.specs.Fmt.{decimal}
use Rattle.geom.specs.Fault.{fault_words}
use Rattle.geom.specs.declared.fault.Fault.{Fault}
use Rattle.geom.specs.declared.fault.Fault.TheVariants.{Memory, Write}
use Rattle.geom.specs.declared.fault.Part.{Part}
use Rattle.geom.specs.declared.fault.Part.TheVariants.{A, B, Run as OfRun}
use Rattle.geom.specs.declared.fault.RunFault.{RunFault}
use Rattle.layers.specs.declared.faces_fault.FacesFault.{FacesFault}
use Rattle.layers.specs.declared.faces_fault.FacesPart.{FacesPart}
use Rattle.layers.specs.declared.faces_fault.FacesPart.TheVariants.{Layer, Run}
use Rattle.layers.specs.declared.faces_fault.FacesRefusal.{FacesRefusal}
use Rattle.layers.specs.declared.faces_fault.FacesRefusal.TheVariants.{Usual, TooManyIds}

-- the exit status: 1 where memory or the sink failed, otherwise 3
abbrev pub status_of_fault : Fault → ℕ
status_of_fault Memory = 1
status_of_fault Write = 1
status_of_fault _ = 3

-- that of a run
abbrev pub status_of : RunFault → ℕ
status_of f = status_of_fault f.fault

-- the layer at fault; of the run nothing
abbrev pub place_words : Part → List ℕ
place_words A = codes "A: "
place_words B = codes "B: "
place_words OfRun = []

-- the line of a fault, with its LF
abbrev pub line_of : RunFault → List ℕ
line_of f = codes "overlay: " ++ (place_words f.at ++ (fault_words f.fault ++ 10 ∷ []))

-- ---- faces

-- the exit status of a refusal
abbrev pub faces_status_of : FacesRefusal → ℕ
faces_status_of (Usual fault) = status_of_fault fault
faces_status_of (TooManyIds ids) = 3

-- the name of the layer of this number: `A` to `Z`, and then the number from 1
abbrev pub layer_name : ℕ → List ℕ
layer_name n = if nat_lt n 26 then (65 + n) ∷ [] else decimal (suc n)

-- the layer at fault; of the run nothing
abbrev pub faces_place_words : FacesPart → List ℕ
faces_place_words (Layer n) = layer_name n ++ codes ": "
faces_place_words Run = []

-- the number and the words of a refusal
abbrev pub refusal_words : FacesRefusal → List ℕ
refusal_words (Usual fault) = fault_words fault
refusal_words (TooManyIds ids) = codes "12 too many ids: " ++ decimal ids

-- the line of a fault, with its LF
abbrev pub faces_line_of : FacesFault → List ℕ
faces_line_of f = codes "overlay: " ++ (faces_place_words f.at ++ (refusal_words f.refusal ++ 10 ∷ []))
