use Rattle.std.proofs.Common.{map, take}
use Rattle.program.specs.Loading.{AreLoadedInTurn}
use Rattle.program.proofs.faces_program.load_all.Given as goal

abbrev pub invariant-loop-number : goal.invariant-loop-number
invariant-loop-number g l = AreLoadedInTurn (g.F.Files.loads l.longest) l.fn.files (take l.number (map (λ n. n.now) l.names)) (map (λ t. t.items) l.texts.items) l.files
