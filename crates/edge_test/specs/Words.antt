-- The words of why a text of edges doesn't pass, and the program's exit status (own).
use Rattle.std.specs.Prelude.{ℕ, List, ◌++◌, codes}
use Rattle.std.specs.Fmt.{decimal}
use Rattle.geom.specs.Words.{edge_words}
use Rattle.edge_lines.specs.declared.fault.LineFault.TheVariants.{Syntax, Range, OnePoint}
use Rattle.edge_test.specs.declared.fault.TextFault.{TextFault}
use Rattle.edge_test.specs.declared.fault.TextFault.TheVariants.{BadWorkers, TooLong, Line, NotNoded, Memory}

abbrev pub status_of : TextFault → ℕ
status_of Memory = 1
status_of _ = 3

abbrev pub text_fault_words : TextFault → List ℕ
text_fault_words BadWorkers = codes "7 bad number of workers"
text_fault_words TooLong = codes "EDGES: 0 text too long"
text_fault_words (Line number Syntax) = codes "EDGES: 1 syntax in line " ++ decimal number
text_fault_words (Line number Range) = codes "EDGES: 2 number out of range in line " ++ decimal number
text_fault_words (Line number OnePoint) = codes "EDGES: 20 edge of one point in line " ++ decimal number
text_fault_words (NotNoded e f) = codes "9 edges cross: " ++ (edge_words e ++ (codes ", " ++ edge_words f))
text_fault_words Memory = codes "10 out of memory"
