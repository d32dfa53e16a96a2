use Rattle.std.proofs.Common.{◌≡◌, take}
use Rattle.results.specs.Texts.{edges_text_of}
use Rattle.results.proofs.text.edges_text.Given as goal

abbrev pub invariant-loop-counted : goal.invariant-loop-counted
invariant-loop-counted g l = l.text.items ≡ edges_text_of (take l.counted-index l.edges)
