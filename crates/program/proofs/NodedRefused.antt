-- Why a command line of `noded` gives no request.
use Rattle.std.proofs.Common.{◌≡◌, List, [], None, Some}
use Rattle.clap.specs.Words.{Row, Text}
use Rattle.program.specs.CommandLine.{IsRefusalBy}
use Rattle.program.specs.NodedLine.{IsNodedRefusalOf, noded_faults}
use Rattle.program.specs.declared.asked.CliFault.{CliFault}
use Rattle.program.specs.declared.asked.CliFault.TheVariants.{Unknown, CoveredEdges, AreasElsewhere, Help, Refused, Memory}

-- `clap` doesn't take the words
pub not_taken : (words : List Text) (fault : CliFault) → ((rows : List Row) → IsRefusalBy (noded_faults words) rows fault) → IsNodedRefusalOf words fault
not_taken words Unknown h =
    let none : None ≡ Some (h []).1.0 = (h []).1.1 in
    cc
not_taken words CoveredEdges h =
    let none : None ≡ Some (h []).1.0 = (h []).1.1 in
    cc
not_taken words AreasElsewhere h =
    let none : None ≡ Some (h []).1.0 = (h []).1.1 in
    cc
not_taken words (Help text) h = h []
not_taken words (Refused text) h = h []
not_taken words Memory h = tt
