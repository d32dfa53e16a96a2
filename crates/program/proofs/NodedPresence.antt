-- The file of a command line of `noded` that was accepted is there.
use Rattle.std.proofs.Common.{◌≡◌, ◌∙◌, ◌<◌, ℕ, suc, zero, true, List, [], ◌∷◌, sym, ap, subst, arith, slice_index, is_some, codes}
use Rattle.std.specs.List.{All, slice_index_or}
use Rattle.std.specs.Prelude.{if◌then◌else◌, ◌==◌, pos}
use Rattle.std.proofs.lemmas.Slice.Eq.{bytes_eq-Decides}
use Rattle.clap.specs.Words.{IsParsedFrom, first_value, found_of, Text}
use Rattle.clap.specs.Built.{FitsChain, HasDistinctIds}
use Rattle.clap.specs.declared.builder.arg.Arg.{Arg}
use Rattle.clap.specs.declared.builder.command.Command.{Command}
use Rattle.clap.specs.declared.builder.value_parser.ValueParser.TheVariants.{Signed}
use Rattle.clap.specs.declared.parser.matches.ArgMatches.{ArgMatches}
use Rattle.clap.proofs.CallerLemmas.{required_in_chain}
use Rattle.program.specs.NodedLine.{HasNodedWords, IsNodedCommand}
use Rattle.program.proofs.Defaults.{IsReadOr, number_in_chain}
use Rattle.program.proofs.Presence.{number_there, own_id}

-- the place of an argument, by the first letter of its id
abbrev place : ℕ → ℕ
place n = if n == 99 then 0 else if n == 101 then 1 else 2

abbrev list_of : (c : Command) → IsNodedCommand c → List Arg
list_of c h = h.word ∷ h.edges ∷ h.workers ∷ []

spot : (c : Command) (h : IsNodedCommand c) (j : ℕ) (e : Arg) → j < 3 → place (slice_index (slice_index_or (list_of c h) j e).id.now 0) ≡ j
spot c h zero e lt = ap (λ (u : Text). place (slice_index u 0)) h.is_word.own.id_is
spot c h (suc zero) e lt = ap (λ (u : Text). place (slice_index u 0)) h.is_edges.own.id_is
spot c h (suc (suc zero)) e lt = ap (λ (u : Text). place (slice_index u 0)) h.is_workers.own.id_is
spot c h (suc (suc (suc j))) e lt = absurd (omega arith)

distinct : (c : Command) (h : IsNodedCommand c) → HasDistinctIds (list_of c h)
distinct c h j k d e lt lt2 same =
    sym (spot c h j e lt) ∙ ap (λ (u : Text). place (slice_index u 0)) ((bytes_eq-Decides (slice_index_or (list_of c h) j e).id.now (slice_index_or (list_of c h) k d).id.now).0 same) ∙ spot c h k d lt2

fits : (c : Command) (h : IsNodedCommand c) → All FitsChain (list_of c h)
fits c h zero d lt = own_id _ _ h.is_word.own (omega arith) (λ e. absurd (omega arith)) (λ e. absurd (omega arith))
fits c h (suc zero) d lt = own_id _ _ h.is_edges.own (omega arith) (λ e. absurd (omega arith)) (λ e. absurd (omega arith))
fits c h (suc (suc zero)) d lt = own_id _ _ h.is_workers.own (omega arith) (λ e. absurd (omega arith)) (λ e. absurd (omega arith))
fits c h (suc (suc (suc j))) d lt = absurd (omega arith)

pub noded_words_there : (c : Command) (h : IsNodedCommand c) (m : ArgMatches) → IsParsedFrom c m → HasNodedWords (found_of m)
noded_words_there c h m p =
    let n = h.is_workers in
    record {
      edges = subst (λ (t : Text). is_some (first_value (found_of m) t) ≡ true) h.is_edges.own.id_is
          (required_in_chain h.start c (list_of c h) 1 h.word m h.chain h.no_args h.no_groups h.no_globals h.no_negation (fits c h) (distinct c h) (omega arith) h.is_edges.takes_value p);
      workers = number_there (found_of m) (codes "workers") h.workers 0 h.workers_default
          (subst (λ (t : Text). IsReadOr (found_of m) h.workers t (Signed (pos 0) (pos 4294967295))) n.own.id_is
          (number_in_chain h.start c (list_of c h) 2 h.word m h.chain h.no_args h.no_groups h.no_globals h.no_negation (fits c h) (distinct c h) (omega arith)
          n.set n.no_delimiter n.one_value (Signed (pos 0) (pos 4294967295)) n.parser p));
    }
