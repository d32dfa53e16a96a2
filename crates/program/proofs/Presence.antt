-- The required words of a command line that was accepted are there.
use Rattle.std.proofs.Common.{◌≡◌, ◌≢◌, ◌∙◌, ◌<◌, ℕ, suc, zero, true, List, [], ◌∷◌, sym, ap, subst, inl, inr, arith, slice_index, is_some, codes}
use Rattle.std.specs.List.{All, slice_index_or}
use Rattle.std.specs.Prelude.{if◌then◌else◌, ◌==◌}
use Rattle.std.proofs.lemmas.Slice.Eq.{bytes_eq-Decides}
use Rattle.clap.specs.Words.{IsParsedFrom, first_value, found_of, Text}
use Rattle.clap.specs.Built.{FitsChain, HasDistinctIds}
use Rattle.clap.specs.declared.builder.arg.Arg.{Arg}
use Rattle.clap.specs.Facts.{WantsDefault}
use Rattle.clap.specs.declared.parser.matches.Found.{Found}
use Rattle.clap.specs.declared.builder.command.Command.{Command}
use Rattle.clap.specs.declared.parser.matches.ArgMatches.{ArgMatches}
use Rattle.clap.proofs.CallerLemmas.{required_in_chain}
use Rattle.program.specs.Arguments.{HasNumber, HasWords, IsNumberArg, IsOwnArg, IsOverlayCommand, MayHaveNumber}
use Rattle.program.proofs.Defaults.{IsReadOr, number_in_chain}
use Rattle.clap.specs.declared.builder.value_parser.ValueParser.TheVariants.{Signed}
use Rattle.std.specs.Prelude.{pos}

-- the place of an argument, by the third letter of its id where that is `v` or `e`, and otherwise by the first
abbrev place : Text → ℕ
place id =
    let n = slice_index id 0 in
    if slice_index id 2 == 118 then 7 else if slice_index id 2 == 101 then 8 else if n == 99 then 0 else if n == 97 then 1 else if n == 98 then 2 else if n == 116 then 3 else if n == 119 then 4 else if n == 115 then 5 else 6

pub letter : (x : Text) (t : Text) → x ≡ t → slice_index x 0 ≡ slice_index t 0
letter x t e = ap (λ (u : Text). slice_index u 0) e

-- a letter that begins neither `help` nor `version`
pub own_id : (id : Text) (a : Arg) → IsOwnArg id a → 0 < slice_index id 0 → slice_index id 0 ≢ 104 → slice_index id 0 ≢ 118 → FitsChain a
own_id id a own some no_h no_v = (
  own.plain,
  own.local,
  (λ e. let bad : slice_index id 0 ≡ 0 = letter id [] (sym own.id_is ∙ e) in absurd (omega arith)),
  (λ auto. elim auto [
    | inl h ↦ absurd (no_h (letter id (codes "help") (sym own.id_is ∙ h)))
    | inr h ↦ absurd (no_v (letter id (codes "version") (sym own.id_is ∙ h)))
  ]),
)

abbrev list_of : (c : Command) → IsOverlayCommand c → List Arg
list_of c h = h.word ∷ h.a ∷ h.b ∷ h.tile ∷ h.workers ∷ h.segments ∷ h.report ∷ h.covered ∷ h.areas ∷ []

spot : (c : Command) (h : IsOverlayCommand c) (j : ℕ) (e : Arg) → j < 9 → place (slice_index_or (list_of c h) j e).id.now ≡ j
spot c h zero e lt = ap place h.is_word.own.id_is
spot c h (suc zero) e lt = ap place h.is_a.own.id_is
spot c h (suc (suc zero)) e lt = ap place h.is_b.own.id_is
spot c h (suc (suc (suc zero))) e lt = ap place h.is_tile.own.id_is
spot c h (suc (suc (suc (suc zero)))) e lt = ap place h.is_workers.own.id_is
spot c h (suc (suc (suc (suc (suc zero))))) e lt = ap place h.is_segments.own.id_is
spot c h (suc (suc (suc (suc (suc (suc zero)))))) e lt = ap place h.is_report.id_is
spot c h (suc (suc (suc (suc (suc (suc (suc zero))))))) e lt = ap place h.is_covered.id_is
spot c h (suc (suc (suc (suc (suc (suc (suc (suc zero)))))))) e lt = ap place h.is_areas.id_is
spot c h (suc (suc (suc (suc (suc (suc (suc (suc (suc j))))))))) e lt = absurd (omega arith)

distinct : (c : Command) (h : IsOverlayCommand c) → HasDistinctIds (list_of c h)
distinct c h j k d e lt lt2 same =
    sym (spot c h j e lt) ∙ ap place ((bytes_eq-Decides (slice_index_or (list_of c h) j e).id.now (slice_index_or (list_of c h) k d).id.now).0 same) ∙ spot c h k d lt2

fits : (c : Command) (h : IsOverlayCommand c) → All FitsChain (list_of c h)
fits c h zero d lt = own_id _ _ h.is_word.own (omega arith) (λ e. absurd (omega arith)) (λ e. absurd (omega arith))
fits c h (suc zero) d lt = own_id _ _ h.is_a.own (omega arith) (λ e. absurd (omega arith)) (λ e. absurd (omega arith))
fits c h (suc (suc zero)) d lt = own_id _ _ h.is_b.own (omega arith) (λ e. absurd (omega arith)) (λ e. absurd (omega arith))
fits c h (suc (suc (suc zero))) d lt = own_id _ _ h.is_tile.own (omega arith) (λ e. absurd (omega arith)) (λ e. absurd (omega arith))
fits c h (suc (suc (suc (suc zero)))) d lt = own_id _ _ h.is_workers.own (omega arith) (λ e. absurd (omega arith)) (λ e. absurd (omega arith))
fits c h (suc (suc (suc (suc (suc zero))))) d lt = own_id _ _ h.is_segments.own (omega arith) (λ e. absurd (omega arith)) (λ e. absurd (omega arith))
fits c h (suc (suc (suc (suc (suc (suc zero)))))) d lt = own_id _ _ h.is_report (omega arith) (λ e. absurd (omega arith)) (λ e. absurd (omega arith))
fits c h (suc (suc (suc (suc (suc (suc (suc zero))))))) d lt = own_id _ _ h.is_covered (omega arith) (λ e. absurd (omega arith)) (λ e. absurd (omega arith))
fits c h (suc (suc (suc (suc (suc (suc (suc (suc zero)))))))) d lt = own_id _ _ h.is_areas (omega arith) (λ e. absurd (omega arith)) (λ e. absurd (omega arith))
fits c h (suc (suc (suc (suc (suc (suc (suc (suc (suc j))))))))) d lt = absurd (omega arith)

number_at : (c : Command) (h : IsOverlayCommand c) (m : ArgMatches) → IsParsedFrom c m → (k : ℕ) → k < 9 → (least : ℕ) (id : Text)
    → IsNumberArg least id (slice_index_or (list_of c h) k h.word)
    → IsReadOr (found_of m) (slice_index_or (list_of c h) k h.word) id (Signed (pos least) (pos 4294967295))
number_at c h m p k lt least id n =
    subst (λ (t : Text). IsReadOr (found_of m) (slice_index_or (list_of c h) k h.word) t (Signed (pos least) (pos 4294967295))) n.own.id_is
    (number_in_chain h.start c (list_of c h) k h.word m h.chain h.no_args h.no_groups h.no_globals h.no_negation (fits c h) (distinct c h) lt
    n.set n.no_delimiter n.one_value (Signed (pos least) (pos 4294967295)) n.parser p)

pub number_given : (f : Found) (id : Text) (a : Arg) (least : ℕ) → IsReadOr f a id (Signed (pos least) (pos 4294967295)) → MayHaveNumber f id
number_given f id a least read = elim read [ inl none ↦ inl none.1 | inr got ↦ inr (least, got.0, got.1, got.2.1) ]

pub number_there : (f : Found) (id : Text) (a : Arg) (least : ℕ) → WantsDefault a → IsReadOr f a id (Signed (pos least) (pos 4294967295)) → HasNumber f id
number_there f id a least wants read = elim read [ inl none ↦ absurd (none.0 wants) | inr got ↦ (least, got.0, got.1, got.2.1) ]

pub words_there : (c : Command) (h : IsOverlayCommand c) (m : ArgMatches) → IsParsedFrom c m → HasWords (found_of m)
words_there c h m p =
    let has = λ (k : ℕ). λ (lt : k < 9). required_in_chain h.start c (list_of c h) k h.word m h.chain h.no_args h.no_groups h.no_globals h.no_negation (fits c h) (distinct c h) lt in
    record {
      word = subst (λ (t : Text). is_some (first_value (found_of m) t) ≡ true) h.is_word.own.id_is (has 0 (omega arith) h.is_word.takes_value p);
      a = subst (λ (t : Text). is_some (first_value (found_of m) t) ≡ true) h.is_a.own.id_is (has 1 (omega arith) h.is_a.takes_value p);
      b = subst (λ (t : Text). is_some (first_value (found_of m) t) ≡ true) h.is_b.own.id_is (has 2 (omega arith) h.is_b.takes_value p);
      tile = number_given (found_of m) (codes "tile") h.tile 0 (number_at c h m p 3 (omega arith) 0 (codes "tile") h.is_tile);
      workers = number_there (found_of m) (codes "workers") h.workers 0 h.workers_default (number_at c h m p 4 (omega arith) 0 (codes "workers") h.is_workers);
      segments = number_given (found_of m) (codes "segments") h.segments 1 (number_at c h m p 5 (omega arith) 1 (codes "segments") h.is_segments);
    }
