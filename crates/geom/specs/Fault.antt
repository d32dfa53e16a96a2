-- The refusals (own): their numbers, what each is about, and the words that are printed.
use Rattle.std.specs.Prelude.{ℕ, Bool, not, nat_eq, nat_lt, ◌&&◌, List, ◌++◌, codes}
use Rattle.std.specs.Fmt.{decimal}
use Rattle.geom.specs.declared.fault.Fault.{Fault}
use Rattle.geom.specs.declared.fault.Fault.TheVariants.{LayerLong, Syntax, NumberRange, RingShort, RingOpen, TooManySegments, BadTile, BadWorkers, TooManyTiles, NotNoded, Memory, Write}
use Rattle.geom.specs.declared.fault.Part.{Part}
use Rattle.geom.specs.declared.fault.Part.TheVariants.{A, B, Run}
use Rattle.geom.specs.Words.{edge_words}

abbrev pub number_of : Fault → ℕ
number_of LayerLong = 0
number_of (Syntax offset) = 1
number_of (NumberRange offset) = 2
number_of (RingShort offset) = 3
number_of (RingOpen offset) = 4
number_of (TooManySegments count) = 5
number_of BadTile = 6
number_of BadWorkers = 7
number_of (TooManyTiles count) = 8
number_of (NotNoded e f) = 9
number_of Memory = 10
number_of Write = 11

-- the refusals of a text, 0 to 4, are about a layer; the others are about the run, but for 9, which no run answers
abbrev pub belongs : Part → Fault → Bool
belongs A f = nat_lt (number_of f) 5
belongs B f = nat_lt (number_of f) 5
belongs Run f = not (nat_lt (number_of f) 5) && not (nat_eq (number_of f) 9)

abbrev pub fault_words : Fault → List ℕ
fault_words LayerLong = codes "0 layer too long"
fault_words (Syntax offset) = codes "1 syntax at " ++ decimal offset
fault_words (NumberRange offset) = codes "2 number out of range at " ++ decimal offset
fault_words (RingShort offset) = codes "3 short ring at " ++ decimal offset
fault_words (RingOpen offset) = codes "4 open ring at " ++ decimal offset
fault_words (TooManySegments count) = codes "5 too many segments: " ++ decimal count
fault_words BadTile = codes "6 bad tile side"
fault_words BadWorkers = codes "7 bad number of workers"
fault_words (TooManyTiles count) = codes "8 too many tiles: " ++ decimal count
fault_words (NotNoded e f) = codes "9 edges cross: " ++ (edge_words e ++ (codes ", " ++ edge_words f))
fault_words Memory = codes "10 out of memory"
fault_words Write = codes "11 write failed"
