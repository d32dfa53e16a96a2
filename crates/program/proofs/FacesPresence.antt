-- The layers of a command line of `faces` that was accepted are there.
use Rattle.std.proofs.Common.{◌≡◌, ◌∙◌, ◌<◌, ℕ, suc, zero, true, List, [], ◌∷◌, sym, ap, subst, arith, slice_index, is_some, codes}
use Rattle.std.specs.List.{All, slice_index_or}
use Rattle.std.specs.Prelude.{if◌then◌else◌, ◌==◌, pos}
use Rattle.std.proofs.lemmas.Slice.Eq.{bytes_eq-Decides}
use Rattle.clap.specs.Words.{IsParsedFrom, found_of, Text}
use Rattle.clap.specs.Built.{FitsChain, HasDistinctIds}
use Rattle.clap.specs.Matches.{matched_of}
use Rattle.clap.specs.declared.builder.arg.Arg.{Arg}
use Rattle.clap.specs.declared.builder.command.Command.{Command}
use Rattle.clap.specs.declared.builder.value_parser.ValueParser.TheVariants.{Signed}
use Rattle.clap.specs.declared.parser.matches.ArgMatches.{ArgMatches}
use Rattle.program.specs.Arguments.{IsNumberArg}
use Rattle.program.specs.FacesLine.{HasFacesWords, IsFacesCommand}
use Rattle.program.proofs.Defaults.{IsReadOr, number_in_chain, present_in_chain}
use Rattle.program.proofs.Presence.{number_given, number_there, own_id}

-- the place of an argument, by the first letter of its id
abbrev place : ℕ → ℕ
place n = if n == 99 then 0 else if n == 108 then 1 else if n == 116 then 2 else if n == 119 then 3 else if n == 115 then 4 else 5

abbrev list_of : (c : Command) → IsFacesCommand c → List Arg
list_of c h = h.word ∷ h.layers ∷ h.tile ∷ h.workers ∷ h.segments ∷ h.report ∷ []

spot : (c : Command) (h : IsFacesCommand c) (j : ℕ) (e : Arg) → j < 6 → place (slice_index (slice_index_or (list_of c h) j e).id.now 0) ≡ j
spot c h zero e lt = ap (λ (u : Text). place (slice_index u 0)) h.is_word.own.id_is
spot c h (suc zero) e lt = ap (λ (u : Text). place (slice_index u 0)) h.are_layers.own.id_is
spot c h (suc (suc zero)) e lt = ap (λ (u : Text). place (slice_index u 0)) h.is_tile.own.id_is
spot c h (suc (suc (suc zero))) e lt = ap (λ (u : Text). place (slice_index u 0)) h.is_workers.own.id_is
spot c h (suc (suc (suc (suc zero)))) e lt = ap (λ (u : Text). place (slice_index u 0)) h.is_segments.own.id_is
spot c h (suc (suc (suc (suc (suc zero))))) e lt = ap (λ (u : Text). place (slice_index u 0)) h.is_report.id_is
spot c h (suc (suc (suc (suc (suc (suc j)))))) e lt = absurd (omega arith)

distinct : (c : Command) (h : IsFacesCommand c) → HasDistinctIds (list_of c h)
distinct c h j k d e lt lt2 same =
    sym (spot c h j e lt) ∙ ap (λ (u : Text). place (slice_index u 0)) ((bytes_eq-Decides (slice_index_or (list_of c h) j e).id.now (slice_index_or (list_of c h) k d).id.now).0 same) ∙ spot c h k d lt2

fits : (c : Command) (h : IsFacesCommand c) → All FitsChain (list_of c h)
fits c h zero d lt = own_id _ _ h.is_word.own (omega arith) (λ e. absurd (omega arith)) (λ e. absurd (omega arith))
fits c h (suc zero) d lt = own_id _ _ h.are_layers.own (omega arith) (λ e. absurd (omega arith)) (λ e. absurd (omega arith))
fits c h (suc (suc zero)) d lt = own_id _ _ h.is_tile.own (omega arith) (λ e. absurd (omega arith)) (λ e. absurd (omega arith))
fits c h (suc (suc (suc zero))) d lt = own_id _ _ h.is_workers.own (omega arith) (λ e. absurd (omega arith)) (λ e. absurd (omega arith))
fits c h (suc (suc (suc (suc zero)))) d lt = own_id _ _ h.is_segments.own (omega arith) (λ e. absurd (omega arith)) (λ e. absurd (omega arith))
fits c h (suc (suc (suc (suc (suc zero))))) d lt = own_id _ _ h.is_report (omega arith) (λ e. absurd (omega arith)) (λ e. absurd (omega arith))
fits c h (suc (suc (suc (suc (suc (suc j)))))) d lt = absurd (omega arith)

number_at : (c : Command) (h : IsFacesCommand c) (m : ArgMatches) → IsParsedFrom c m → (k : ℕ) → k < 6 → (least : ℕ) (id : Text)
    → IsNumberArg least id (slice_index_or (list_of c h) k h.word)
    → IsReadOr (found_of m) (slice_index_or (list_of c h) k h.word) id (Signed (pos least) (pos 4294967295))
number_at c h m p k lt least id n =
    subst (λ (t : Text). IsReadOr (found_of m) (slice_index_or (list_of c h) k h.word) t (Signed (pos least) (pos 4294967295))) n.own.id_is
    (number_in_chain h.start c (list_of c h) k h.word m h.chain h.no_args h.no_groups h.no_globals h.no_negation (fits c h) (distinct c h) lt
    n.set n.no_delimiter n.one_value (Signed (pos least) (pos 4294967295)) n.parser p)

pub faces_words_there : (c : Command) (h : IsFacesCommand c) (m : ArgMatches) → IsParsedFrom c m → HasFacesWords (found_of m)
faces_words_there c h m p = record {
  layers = subst (λ (t : Text). is_some (matched_of (found_of m) t) ≡ true) h.are_layers.own.id_is
      (present_in_chain h.start c (list_of c h) 1 h.word m h.chain h.no_args h.no_groups h.no_globals h.no_negation (fits c h) (omega arith) h.are_layers.required p);
  tile = number_given (found_of m) (codes "tile") h.tile 0 (number_at c h m p 2 (omega arith) 0 (codes "tile") h.is_tile);
  workers = number_there (found_of m) (codes "workers") h.workers 0 h.workers_default (number_at c h m p 3 (omega arith) 0 (codes "workers") h.is_workers);
  segments = number_given (found_of m) (codes "segments") h.segments 1 (number_at c h m p 4 (omega arith) 1 (codes "segments") h.is_segments);
}
