-- Files loaded one after another.
use Rattle.std.proofs.Common.{◌≡◌, ◌∙◌, ap, ◌<◌, ◌+◌, inl, inr, ℕ, suc, zero, List, [], ◌∷◌, ◌++◌, Ok, Err, take, length, map, refl, arith, subst, sym, slice_index_or}
use Rattle.std.specs.Borrow.{Bor}
use Rattle.std.proofs.lemmas.List.{get_or-map, length-map, take_all}
use Rattle.clap.specs.Words.{Text}
use Rattle.program.specs.Loading.{AreLoadedInTurn, AreNotAllLoaded, AreSomeLoaded, IsFirstUnread, IsLoadedNext, IsNotLoadedNext, Loads}
use Rattle.program.specs.declared.files.LoadFault.{LoadFault}

one_more : {F : Type 0} (loads : Loads F) (files between files' : F) (names : List Text) (number : ℕ) (d : Text) (texts : List (List ℕ)) (text : List ℕ) → number < length names
    → AreLoadedInTurn loads files (take number names) texts between → loads between (slice_index_or names number d) (Ok text) files' → AreLoadedInTurn loads files (take (suc number) names) (texts ++ text ∷ []) files'
one_more loads files between files' [] number d texts text lt before next = absurd (omega arith)
one_more loads files between files' (name ∷ names) zero d [] text lt before next = (files', subst (λ at. loads at name (Ok text) files') before next, refl)
one_more loads files between files' (name ∷ names) zero d (t ∷ texts) text lt before next = absurd before
one_more loads files between files' (name ∷ names) (suc number) d [] text lt before next = absurd before
one_more loads files between files' (name ∷ names) (suc number) d (t ∷ texts) text lt before next =
    (before.0, before.1, one_more loads before.0 between files' names number d texts text (omega arith) before.2 next)

one_behind : {F : Type 0} (loads : Loads F) (files between files' : F) (names : List Text) (number : ℕ) (d : Text) (texts : List (List ℕ)) (text : List ℕ) → number < length names
    → AreLoadedInTurn loads files (take number names) texts between → loads between (slice_index_or names number d) (Ok text) files' → AreLoadedInTurn loads files (take (number + 1) names) (texts ++ text ∷ []) files'
one_behind loads files between files' names number d texts text lt before next =
    let same : suc number ≡ number + 1 = omega arith in
    subst (λ n. AreLoadedInTurn loads files (take n names) (texts ++ text ∷ []) files') same (one_more loads files between files' names number d texts text lt before next)

first_unread : {F : Type 0} (loads : Loads F) (files between files' : F) (names : List Text) (number : ℕ) (d : Text) (texts : List (List ℕ)) (fault : LoadFault) → number < length names
    → AreLoadedInTurn loads files (take number names) texts between → loads between (slice_index_or names number d) (Err fault) files' → IsFirstUnread loads files names number fault files'
first_unread loads files between files' [] number d texts fault lt before next = absurd (omega arith)
first_unread loads files between files' (name ∷ names) zero d [] fault lt before next = subst (λ at. loads at name (Err fault) files') before next
first_unread loads files between files' (name ∷ names) zero d (t ∷ texts) fault lt before next = absurd before
first_unread loads files between files' (name ∷ names) (suc number) d [] fault lt before next = absurd before
first_unread loads files between files' (name ∷ names) (suc number) d (t ∷ texts) fault lt before next =
    (t, before.0, before.1, first_unread loads before.0 between files' names number d texts fault (omega arith) before.2 next)

name_at : (lent : List (Bor Text)) (number : ℕ) (d : Bor Text) → number < length lent → slice_index_or (map (λ (n : Bor Text). n.now) lent) number [] ≡ (slice_index_or lent number d).now
name_at lent number d lt = get_or-map (λ (n : Bor Text). n.now) lent number d [] lt

short : (lent : List (Bor Text)) (number : ℕ) → number < length lent → number < length (map (λ (n : Bor Text). n.now) lent)
short lent number lt = rw (length-map lent (λ (n : Bor Text). n.now)) lt

pub next_loaded : {F : Type 0} (loads : Loads F) (files between files' : F) (lent : List (Bor Text)) (number : ℕ) (d : Bor Text) (texts texts' : List (List ℕ)) → number < length lent
    → AreLoadedInTurn loads files (take number (map (λ n. n.now) lent)) texts between → IsLoadedNext loads between (slice_index_or lent number d).now texts texts' files'
    → AreLoadedInTurn loads files (take (number + 1) (map (λ n. n.now) lent)) texts' files'
next_loaded loads files between files' lent number d texts texts' lt before next =
    rw (next.2) (one_behind loads files between files' (map (λ (n : Bor Text). n.now) lent) number [] texts next.0 (short lent number lt) before
    (subst (λ name. loads between name (Ok next.0) files') (sym (name_at lent number d lt)) next.1))

pub next_not_loaded : {F : Type 0} (loads : Loads F) (files between files' : F) (lent : List (Bor Text)) (number : ℕ) (d : Bor Text) (texts : List (List ℕ)) (fault : LoadFault) → number < length lent
    → AreLoadedInTurn loads files (take number (map (λ n. n.now) lent)) texts between → IsNotLoadedNext loads between (slice_index_or lent number d).now fault files'
    → AreNotAllLoaded loads files (map (λ n. n.now) lent) number fault files'
next_not_loaded loads files between files' lent number d texts fault lt before (inl unread) =
    inl (first_unread loads files between files' (map (λ (n : Bor Text). n.now) lent) number [] texts fault (short lent number lt) before
    (subst (λ name. loads between name (Err fault) files') (sym (name_at lent number d lt)) unread))
next_not_loaded loads files between files' lent number d texts fault lt before (inr full) =
    inr (
      full.0,
      (
        number + 1,
        texts ++ full.1 ∷ [],
        one_behind loads files between files' (map (λ (n : Bor Text). n.now) lent) number [] texts full.1 (short lent number lt) before
            (subst (λ name. loads between name (Ok full.1) files') (sym (name_at lent number d lt)) full.2),
      ),
    )

pub all_loaded : {F : Type 0} (loads : Loads F) (files files' : F) (names : List Text) (texts : List (List ℕ)) → AreLoadedInTurn loads files names texts files' → AreSomeLoaded loads files names files'
all_loaded loads files files' names texts h = (length names, texts, subst (λ these. AreLoadedInTurn loads files these texts files') (sym (take_all (length names) names (omega arith))) h)

counted : {F : Type 0} (loads : Loads F) (files files' : F) (names : List Text) (texts : List (List ℕ)) → AreLoadedInTurn loads files names texts files' → length texts ≡ length names
counted loads files files' [] [] h = refl
counted loads files files' [] (text ∷ texts) h = absurd h
counted loads files files' (name ∷ names) [] h = absurd h
counted loads files files' (name ∷ names) (text ∷ texts) h = ap suc (counted loads h.0 files' names texts h.2)

pub as_many_lent : {F : Type 0} (loads : Loads F) (files files' : F) (lent : List (Bor Text)) (layers : List (Bor (List ℕ))) (texts : List (List ℕ))
    → AreLoadedInTurn loads files (map (λ n. n.now) lent) texts files' → map (λ t. t.now) layers ≡ texts → length layers ≡ length lent
as_many_lent loads files files' lent layers texts h same =
    sym (length-map layers (λ (t : Bor (List ℕ)). t.now)) ∙ ap length same ∙ counted loads files files' (map (λ (n : Bor Text). n.now) lent) texts h ∙ length-map lent (λ (n : Bor Text). n.now)
