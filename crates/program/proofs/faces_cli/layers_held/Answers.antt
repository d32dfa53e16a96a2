use Rattle.std.proofs.Common.{List, Some, ap, codes, map, sym}
use Rattle.std.specs.Borrow.{Bor}
use Rattle.std.proofs.lemmas.Result.{IfOk-weaker}
use Rattle.clap.specs.Words.{Text, found_of}
use Rattle.clap.proofs.WalkLemmas.{raw_values-rows}
use Rattle.program.proofs.faces_cli.layers_held.Goals as goal

pub returns : goal.returns
returns c =
    IfOk-weaker c.from_slice.result _ _ (λ v same. rw (← raw_values-rows (found_of c.args.matches.now) (codes "layers"), ← c.get_strs.ensures, c.in-Some.is)
    (ap (λ (names : List (Bor Text)). Some (map (λ n. n.now) names)) (sym same))) c.from_slice.ensures.items
