-- How many places of a book were empty, counted while its pieces are taken out in the order of their numbers.
use Rattle.std.proofs.Common.{◌≡◌, ⊎_elim, ℕ, zero, suc, ◌+◌, ◌<◌, ◌≤◌, List, [], ◌∷◌, ◌++◌, length, refl, sym, ap, ◌∙◌, subst, arith, length-set, get_or-set_same, get_or-set_other}
use Rattle.std.proofs.lemmas.List.{get_or_default, get_or_past}
use Rattle.std.specs.Prelude.{Option, Some, None, IsSome, slice_get, slice_index_or, slice_set}
use Rattle.tile_book.specs.Books.{KeepsHeld, one_if_some, pieces}
use Rattle.std.proofs.lemmas.Bool.{cases_lt}
use Rattle.tile_book.proofs.Completed.{IsPartWay, part_way_more}
use mathlib.Core.Logic.{dite}
use native.Mathlib.Decide.{ℕ_discrete}

-- of the places of `first` those below n were emptied, the others are as they were; what was held stands at its place, and `remade` of those below n were empty
pub record AreEmptied {P : Type 0} (first held : List (Option P)) (made : List P) (n remade : ℕ) : Type 0 where
  pub length_is : length held ≡ length first
  pub left : (k : ℕ) → n ≤ k → slice_index_or held k None ≡ slice_index_or first k None
  pub taken : (k : ℕ) → k < n → slice_index_or held k None ≡ None
  pub kept : (k : ℕ) (p : P) → k < n → slice_index_or first k None ≡ Some p → slice_get made k ≡ Some p
  pub counted : remade + pieces first ≡ n + pieces held

pub emptied_none : {P : Type 0} (first : List (Option P)) → AreEmptied first first [] 0 0
emptied_none first = record {
  length_is = refl;
  left = λ k l. refl;
  taken = λ k l. absurd (omega arith);
  kept = λ k p l e. absurd (omega arith);
  counted = refl;
}

-- a place that is emptied takes its piece from the count
pub pieces_taken : {P : Type 0} (held : List (Option P)) (n : ℕ) → n < length held → pieces (slice_set held n None) + one_if_some (slice_index_or held n None) ≡ pieces held
pieces_taken [] n l = absurd (omega arith)
pieces_taken (None ∷ os) zero l = omega arith
pieces_taken (Some p ∷ os) zero l = omega arith
pieces_taken (o ∷ os) (suc n) l = omega (arith, pieces_taken os n (omega arith))

got_before : {P : Type 0} (xs : List P) (y p : P) (k : ℕ) → slice_get xs k ≡ Some p → slice_get (xs ++ y ∷ []) k ≡ Some p
got_before [] y p k e = absurd (cc)
got_before (x ∷ xs) y p zero e = e
got_before (x ∷ xs) y p (suc k) e = got_before xs y p k e

got_last : {P : Type 0} (xs : List P) (y : P) (k : ℕ) → k ≡ length xs → slice_get (xs ++ y ∷ []) k ≡ Some y
got_last [] y k e = rw e refl
got_last (x ∷ xs) y zero e = absurd (omega arith)
got_last (x ∷ xs) y (suc k) e = got_last xs y k (omega arith)

-- one place more is emptied, whatever it held
emptied_next : {P : Type 0} (first held : List (Option P)) (made : List P) (n remade more : ℕ) (piece : P) → AreEmptied first held made n remade → n < length held → length made ≡ n
    → ((p : P) → slice_index_or held n None ≡ Some p → p ≡ piece) → more + one_if_some (slice_index_or held n None) ≡ remade + 1
    → AreEmptied first (slice_set held n None) (made ++ piece ∷ []) (n + 1) more
emptied_next {P} first held made n remade more piece h l m is c = record {
  length_is = length-set held n None ∙ h.length_is;
  left = λ k low. get_or-set_other held n k None None (λ e. omega (arith, e)) ∙ h.left k (omega arith);
  taken = λ k low. dite (ℕ_discrete k n) (λ e. subst (λ (j : ℕ). slice_index_or (slice_set held n None) j None ≡ None) (sym e) (get_or-set_same held n None None l))
      (λ ne. get_or-set_other held n k None None ne ∙ h.taken k (omega (arith, ne)));
  kept = λ k p low e. dite (ℕ_discrete k n)
      (λ same. got_last made piece k (same ∙ sym m) ∙ ap Some (sym (is p (h.left n (omega arith) ∙ subst (λ (j : ℕ). slice_index_or first j None ≡ Some p) same e))))
      (λ ne. got_before made piece p k (h.kept k p (omega (arith, ne)) e));
  counted = omega (arith, c, h.counted, pieces_taken held n l);
}

same_piece : {P : Type 0} (q p : P) → Some q ≡ Some p → q ≡ p
same_piece q p e = cc

-- a piece that was held
pub emptied_held : {P : Type 0} (first held : List (Option P)) (made : List P) (n remade : ℕ) (piece : P) → AreEmptied first held made n remade → n < length held → length made ≡ n
    → slice_index_or held n None ≡ Some piece → AreEmptied first (slice_set held n None) (made ++ piece ∷ []) (n + 1) remade
emptied_held {P} first held made n remade piece h l m is = emptied_next first held made n remade remade piece h l m (λ q e. same_piece q piece (sym e ∙ is)) (omega (arith, ap one_if_some is))

-- a new piece at an empty place
pub emptied_new : {P : Type 0} (first held : List (Option P)) (made : List P) (n remade : ℕ) (piece : P) → AreEmptied first held made n remade → n < length held → length made ≡ n
    → slice_index_or held n None ≡ None → AreEmptied first (slice_set held n None) (made ++ piece ∷ []) (n + 1) (remade + 1)
emptied_new {P} first held made n remade piece h l m is = emptied_next first held made n remade (remade + 1) piece h l m (λ p e. absurd (cc)) (omega (arith, ap one_if_some is))

-- the pieces below n + 1, and what was emptied for them
abbrev pub IsNext : {P : Type 0} → (P → ℕ) → ℕ → List (Option P) → List (Option P) → List P → ℕ → ℕ → Type 0
IsNext number limit first held made n remade = IsPartWay number limit (n + 1) held made × AreEmptied first held made (n + 1) remade

moved : {P : Type 0} (number : P → ℕ) (limit : ℕ) (first held : List (Option P)) (made pushed : List P) (n remade : ℕ) (new : Option P) (piece : P) → new ≡ None → pushed ≡ made ++ piece ∷ []
    → IsNext number limit first (slice_set held n None) (made ++ piece ∷ []) n remade → IsNext number limit first (slice_set held n new) pushed n remade
moved {P} number limit first held made pushed n remade new piece e f h =
    subst (λ (o : Option P). IsNext number limit first (slice_set held n o) pushed n remade) (sym e) (subst (λ (ps : List P). IsNext number limit first (slice_set held n None) ps n remade) (sym f) h)

-- o was read from place n, and held the piece
pub next_held : {P : Type 0} (number : P → ℕ) (limit : ℕ) (first held : List (Option P)) (made pushed : List P) (n remade : ℕ) (o new : Option P) (piece : P)
    → IsPartWay number limit n held made → AreEmptied first held made n remade → n < limit → o ≡ slice_index_or held n o → new ≡ None → pushed ≡ made ++ piece ∷ [] → o ≡ Some piece
    → IsNext number limit first (slice_set held n new) pushed n remade
next_held {P} number limit first held made pushed n remade o new piece i h l read e f is =
    moved number limit first held made pushed n remade new piece e f
    (part_way_more number limit n held made None piece i l (i.left n piece (omega arith) low at), emptied_held first held made n remade piece h low i.made at)
  where
    low : n < length held
    low = omega (arith, l, i.places)

    at : slice_index_or held n None ≡ Some piece
    at = get_or_default held n None o low ∙ sym read ∙ is

-- o was read from place n, which was empty
pub next_made : {P : Type 0} (number : P → ℕ) (limit : ℕ) (first held : List (Option P)) (made pushed : List P) (n remade : ℕ) (o new : Option P) (piece : P)
    → IsPartWay number limit n held made → AreEmptied first held made n remade → n < limit → o ≡ slice_index_or held n o → new ≡ None → pushed ≡ made ++ piece ∷ [] → o ≡ None → number piece ≡ n
    → IsNext number limit first (slice_set held n new) pushed n (remade + 1)
next_made {P} number limit first held made pushed n remade o new piece i h l read e f is own =
    moved number limit first held made pushed n (remade + 1) new piece e f
    (part_way_more number limit n held made None piece i l own, emptied_new first held made n remade piece h low i.made (get_or_default held n None o low ∙ sym read ∙ is))
  where
    low : n < length held
    low = omega (arith, l, i.places)

none_held : {P : Type 0} (held : List (Option P)) → ((k : ℕ) → k < length held → slice_index_or held k None ≡ None) → pieces held ≡ 0
none_held [] h = refl
none_held (None ∷ os) h = omega (arith, none_held os (λ k l. h (suc k) (omega arith)))
none_held (Some p ∷ os) h = absurd (let e = h 0 (omega arith) in cc)

all_held : {P : Type 0} (held : List (Option P)) → ((k : ℕ) → k < length held → IsSome (slice_index_or held k None)) → pieces held ≡ length held
all_held [] h = refl
all_held (None ∷ os) h = absurd (let e = h 0 (omega arith) in cc)
all_held (Some p ∷ os) h = omega (arith, all_held os (λ k l. h (suc k) (omega arith)))

-- all places are emptied
pub emptied_all : {P : Type 0} (first held : List (Option P)) (made : List P) (n remade : ℕ) → AreEmptied first held made n remade → length first ≡ n
    → KeepsHeld first made × (remade + pieces first ≡ n)
emptied_all {P} first held made n remade h e =
    (λ k p is. ⊎_elim (λ low. h.kept k p low is) (λ high. absurd (let past = get_or_past first k None (omega (arith, e, high)) in cc)) (cases_lt k n), omega (arith, h.counted, none_held held (λ k l. h.taken k (omega (arith, l, h.length_is, e)))))

-- nothing is made anew for a full book
pub full_none : {P : Type 0} (first : List (Option P)) (n remade : ℕ) → length first ≡ n → remade + pieces first ≡ n → ((k : ℕ) → k < n → IsSome (slice_index_or first k None)) → remade ≡ 0
full_none first n remade e c h = omega (arith, c, e, all_held first (λ k l. h k (omega (arith, l, e))))
