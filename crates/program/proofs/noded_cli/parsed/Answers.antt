use Rattle.std.proofs.Common.{◌≡◌, ◌∙◌, refl, ap, true, map, subst}
use Rattle.std.proofs.lemmas.Result.{IfOk-weaker}
use Rattle.clap.specs.Words.{App, Kinds, FailsBy, fault_of, is_simple, is_simple_and_free, matches_of}
use Rattle.clap.proofs.OnLiterals.{clap_on_literals}
use Rattle.program.specs.NodedLine.{noded_app, noded_held, noded_faults}
use Rattle.program.proofs.NodedPresence.{noded_words_there}
use Rattle.program.proofs.noded_cli.parsed.Goals as goal

simple : is_simple noded_app ≡ true
unfolding noded_app clap_on_literals
simple = refl

free : is_simple_and_free noded_app ≡ true
unfolding noded_app clap_on_literals
free = refl

pub returns-clause-held : goal.returns-clause-held
unfolding noded_held
returns-clause-held g c =
    let app_is = c.in_ok-command.ensures.shape in
    IfOk-weaker c.try_get_matches_from.result _ _ (λ m h. (h (ap is_simple app_is ∙ simple)).0 ∙ ap (λ (a : App). matches_of a (map g.S.AsStr.text c.args.words.now)) app_is) c.try_get_matches_from.ensures.matches

pub returns-clause-faults : goal.returns-clause-faults
unfolding noded_faults
returns-clause-faults g c =
    let app_is = c.in_ok-command.ensures.shape in
    subst (λ (k : Kinds). FailsBy k c.try_get_matches_from.result) (ap (λ (a : App). fault_of a (map g.S.AsStr.text c.args.words.now)) app_is) (c.try_get_matches_from.ensures.kinds (ap is_simple_and_free app_is ∙ free))

pub returns-clause-words : goal.returns-clause-words
returns-clause-words g c =
    IfOk-weaker c.try_get_matches_from.result _ _ (λ m p. noded_words_there c.in_ok-command.command c.in_ok-command.ensures.chain m p) c.try_get_matches_from.ensures.parsed
