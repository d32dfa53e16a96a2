-- Why a command line of `faces` gives no request.
use Rattle.std.proofs.Common.{◌≡◌, List, [], inl, inr, None, Some}
use Rattle.clap.specs.Words.{Row, Text}
use Rattle.program.specs.CommandLine.{IsRefusalBy}
use Rattle.program.specs.FacesLine.{IsFacesRefusalOf, IsManyLayers, faces_faults, faces_held}
use Rattle.program.specs.declared.asked.CliFault.{CliFault}
use Rattle.program.specs.declared.asked.CliFault.TheVariants.{Unknown, CoveredEdges, AreasElsewhere, Help, Refused, Memory}

-- `clap` doesn't take the words
pub not_taken : (words : List Text) (fault : CliFault) → ((rows : List Row) → IsRefusalBy (faces_faults words) rows fault) → IsFacesRefusalOf words fault
not_taken words Unknown h =
    let none : None ≡ Some (h []).1.0 = (h []).1.1 in
    cc
not_taken words CoveredEdges h =
    let none : None ≡ Some (h []).1.0 = (h []).1.1 in
    cc
not_taken words AreasElsewhere h =
    let none : None ≡ Some (h []).1.0 = (h []).1.1 in
    cc
not_taken words (Help text) h = h []
not_taken words (Refused text) h = inl (h [])
not_taken words Memory h = tt

-- `clap` takes them, and they name too many layers
pub too_many : (words : List Text) (fault : CliFault) → faces_faults words ≡ [] → IsManyLayers (faces_held words) fault → IsFacesRefusalOf words fault
too_many words Unknown none h = h
too_many words CoveredEdges none h = absurd h
too_many words AreasElsewhere none h = absurd h
too_many words (Help text) none h = absurd h
too_many words (Refused text) none h = inr (none, h)
too_many words Memory none h = tt
