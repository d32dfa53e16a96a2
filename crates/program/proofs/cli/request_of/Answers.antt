use Rattle.std.proofs.Common.{rules, ◌≡◌, ◌≢◌, ◌⊎◌, ◌∙◌, List, Some, codes, false, inl, inr, refl, sym, true}
use Rattle.clap.specs.Words.{Row, Text, first_of, found_of, one_of, rows_of}
use Rattle.program.specs.CommandLine.{AreAreasElsewhere, command_of, is_set}
use Rattle.program.specs.declared.asked.Command.{Command}
use Rattle.program.specs.declared.asked.Command.TheVariants.{Edges, Apply}
use Rattle.program.proofs.cli.request_of.Goals.{then-covered-2, else-covered-2, else-covered-via-then-covered+else-eq, else-covered-via-else-covered}
use Rattle.program.proofs.cli.request_of.Goals as goal

-- by the command that the word names
elsewhere : (rows : List Row) (word : Text) (command : Command) → first_of (codes "command") rows ≡ Some word → command_of word ≡ Some command → is_set (one_of (codes "areas") rows) ≡ true
    → ((command ≡ Edges) × (is_set (one_of (codes "covered") rows) ≡ false)) ⊎ ((command ≢ Edges) × (is_set (one_of (codes "covered") rows) ≡ true)) → AreAreasElsewhere rows
elsewhere rows word Edges first named areas (inl h) = (word, first, areas, inl (named, h.1))
elsewhere rows word (Apply op) first named areas (inl h) = let bad : Apply op ≡ Edges = h.0 in cc
elsewhere rows word Edges first named areas (inr h) = absurd (h.0 refl)
elsewhere rows word (Apply op) first named areas (inr h) = (word, first, areas, inr (op, named, h.1))

pub returns-then-eq-2 : goal.returns-then-eq-2
returns-then-eq-2 c =
    let rows = rows_of (found_of c.args.matches.now) in
    elsewhere rows c.word_held-word.result.now c.in-Some.command c.word_held-word.ensures (sym c.command_named.ensures ∙ c.in-Some.is) (sym c.flag_held-areas.ensures ∙ c.if-areas.true)
    (elim c.if-covered-2.branch [
      | then-covered-2 w ↦ inr (elim c.else-covered.branch [ else-covered-via-then-covered+else-eq v ↦ search rules | else-covered-via-else-covered v ↦ let bad : true ≡ false = sym w.if-covered-2.true ∙ v.if-covered.false in cc ], sym c.flag_held-covered.ensures ∙ w.if-covered-2.true)
      | else-covered-2 w ↦ inl (search rules, sym c.flag_held-covered.ensures ∙ w.if-covered-2.false)
    ])
