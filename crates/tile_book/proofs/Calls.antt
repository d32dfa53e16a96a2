-- The calls of threads go on with legal histories.
use Rattle.std.proofs.Common.{◌≡◌, ℕ, zero, suc, ◌+◌, ◌<◌, ◌≤◌, ◌==◌, nat_lt, Bool, true, false, ◌||◌, List, [], ◌∷◌, ◌++◌, Option, Some, None, Result, Ok, Err, refl, sym, ap, ◌∙◌, subst, arith, true≢false, append_assoc}
use Rattle.std.proofs.lemmas.Bool.Decides.{nat_tests}
use Rattle.std.proofs.lemmas.List.{append-nil}
use Rattle.std.specs.Prelude.{slice_index_or, MatchOption, MatchResult, IsSome}
use Rattle.tile_book.specs.declared.book.Returned.{Returned}
use Rattle.tile_book.specs.declared.book.Returned.TheVariants.{Stranger, Double}
use Rattle.tile_book.specs.declared.desk_core.Event.{Event}
use Rattle.tile_book.specs.declared.desk_core.Event.TheVariants.{Post}
use Rattle.tile_book.specs.declared.desk_core.Reply.{Reply}
use Rattle.tile_book.specs.declared.desk_core.Reply.TheVariants as reply
use Rattle.tile_book.specs.Counts.{times}
use Rattle.tile_book.specs.History.{accepted_in, is_in, has_ended, one_if, IsLegal}
use Rattle.tile_book.specs.Books.{BookView, HoldsAt, IsReplay, with_piece}
use Rattle.tile_book.specs.Replies.{ComesBack, SentBack}
use Rattle.tile_book.specs.Calls.{post_told, DrawsLegally, PostsLegally, HasLegalPost, posted_by_one, HasHistory}
use Rattle.tile_book.proofs.Accepted.{times_snoc, not_in, is_there}
use Rattle.tile_book.proofs.Steps.{live, not_live}
use Rattle.tile_book.proofs.Totals.{it_is}

lt_true : (h n : ℕ) → h < n → nat_lt h n ≡ true
lt_true h n lt = grind (arith, nat_tests)

le_false : (h n : ℕ) → n ≤ h → nat_lt h n ≡ false
le_false h n le = grind (arith, nat_tests)

same_number : (h : ℕ) → (h == h) ≡ true
same_number h = grind (arith, nat_tests)

-- a live draw that finds a number
pub draws_number : (n word : ℕ) → word < n → DrawsLegally n word (word + 1) false false (reply.Number word)
draws_number n word lt = λ hands h before known legal count off. (
  (rw (lt_true h hands known, off, count, lt_true word n lt) refl, legal),
  omega (arith, count, ap one_if (live hands before h (lt_true h hands known) off)),
  off,
)

-- a live draw that finds the end
pub draws_end : (n word : ℕ) → n ≤ word → DrawsLegally n word (word + 1) false true reply.None
draws_end n word le = λ hands h before known legal count off. (
  (rw (lt_true h hands known, off, count, le_false word n le) refl, legal),
  omega (arith, count, ap one_if (live hands before h (lt_true h hands known) off)),
  ap (λ b. b || has_ended h before) (same_number h),
)

-- a draw of a spent hand
pub draws_nothing : (n word : ℕ) → DrawsLegally n word word true true reply.None
draws_nothing n word = λ hands h before known legal count on. (
  (rw (lt_true h hands known, on) refl, legal),
  omega (arith, count, ap one_if (not_live hands before h on)),
  ap (λ b. b || has_ended h before) (same_number h),
)

once_if_some : {P : Type 0} (o : Option P) (B : P → Type 0) (n : ℕ) → IsSome o → MatchOption o (n ≡ 0) (λ p. B p × (n ≡ 1)) → n ≡ 1
once_if_some None B n some h = absurd (true≢false (sym some))
once_if_some (Some p) B n some h = h.1

module _ {P : Type 0} (number : P → ℕ) (b : BookView P) (k : ℕ) where
  pub posts_new : IsReplay number b → k < b.limit → slice_index_or b.held k None ≡ None → PostsLegally b.limit b.accepted (b.accepted ++ k ∷ []) k reply.Ok
  posts_new h lt free = λ hands hand before known legal same.
      let never : times k b.accepted ≡ 0 = subst (HoldsAt number b.accepted k) free (h.held k lt) in
      let out : is_in k (accepted_in before) ≡ false = not_in k (accepted_in before) (ap (times k) same ∙ never) in
      ((rw (lt_true hand hands known, lt_true k b.limit lt, out) refl, legal), ap (λ l. l ++ k ∷ []) same)

  pub posts_stranger : b.limit ≤ k → PostsLegally b.limit b.accepted b.accepted k reply.Stranger
  posts_stranger le = λ hands hand before known legal same.
      ((rw (lt_true hand hands known, le_false k b.limit le) refl, legal), append-nil (accepted_in before) ∙ same)

  pub posts_double : IsReplay number b → k < b.limit → IsSome (slice_index_or b.held k None) → PostsLegally b.limit b.accepted b.accepted k reply.Double
  posts_double h lt some = λ hands hand before known legal same.
      let once : times k b.accepted ≡ 1 = once_if_some (slice_index_or b.held k None) (λ p. number p ≡ k) (times k b.accepted) some (h.held k lt) in
      let there : is_in k (accepted_in before) ≡ true = is_there k (accepted_in before) (ap (times k) same ∙ once) in
      ((rw (lt_true hand hands known, lt_true k b.limit lt, there) refl, legal), append-nil (accepted_in before) ∙ same)

module _ {A P : Type 0} (number : P → ℕ) (n : ℕ) (p : P) where
  has_legal_post : (told : Result A (Returned P)) → MatchResult told (λ _. number p < n) (λ r. SentBack number n p r) → HasLegalPost n (number p) (post_told told)
  has_legal_post (Ok a) lt = λ hands h known. ([], (rw (lt_true h hands known, lt_true (number p) n lt) refl, tt))
  has_legal_post (Err (Stranger q)) back = λ hands h known. ([], (rw (lt_true h hands known, le_false (number p) n back.1) refl, tt))
  has_legal_post (Err (Double q)) back = λ hands h known.
      let k = number p in
      ((Post h k, reply.Ok) ∷ [], (rw (lt_true h hands known, lt_true k n back.1, same_number k) refl, (rw (lt_true h hands known, lt_true k n back.1) refl, tt)))

  sent : (b b' : BookView P) (share share' : ℕ) (told : Result A (Returned P)) → b.limit ≡ n
      → MatchResult told (λ _. (number p < b.limit) × (slice_index_or b.held (number p) None ≡ None) × (b' ≡ with_piece b (number p) p) × (share' ≡ share + 1)) (λ r. ComesBack number b p r × (b' ≡ b) × (share' ≡ share))
      → MatchResult told (λ _. number p < n) (λ r. SentBack number n p r)
  sent b b' share share' (Ok a) is h = omega (arith, h.0)
  sent b b' share share' (Err (Stranger q)) is h = (h.0.0, omega (arith, h.0.1))
  sent b b' share share' (Err (Double q)) is h = (h.0.0, omega (arith, h.0.1))

  -- the answer of a desk is one that a legal history can have
  pub told_by_desk : (b b' : BookView P) (share share' : ℕ) (told : Result A (Returned P)) → b.limit ≡ n
      → MatchResult told (λ _. (number p < b.limit) × (slice_index_or b.held (number p) None ≡ None) × (b' ≡ with_piece b (number p) p) × (share' ≡ share + 1)) (λ r. ComesBack number b p r × (b' ≡ b) × (share' ≡ share))
      → HasLegalPost n (number p) (post_told told)
  told_by_desk b b' share share' told is h = has_legal_post told (sent b b' share share' told is h)

-- posts of new numbers go on with a legal history
posts_all : (n hands h : ℕ) → h < hands → (before : List (Event × Reply)) → IsLegal n hands before → (ks : List ℕ)
    → ((x : ℕ) → times x (accepted_in before) + times x ks ≤ 1) → ((x : ℕ) → 0 < times x ks → x < n)
    → IsLegal n hands (posted_by_one h before ks) × (accepted_in (posted_by_one h before ks) ≡ accepted_in before ++ ks)
posts_all n hands h known before legal [] once low = (legal, sym (append-nil (accepted_in before)))
posts_all n hands h known before legal (k ∷ ks) once low =
    let lt : k < n = low k (omega (arith, it_is k)) in
    let out : is_in k (accepted_in before) ≡ false = not_in k (accepted_in before) (omega (arith, once k, it_is k)) in
    let longer : List (Event × Reply) = (Post h k, reply.Ok) ∷ before in
    let rest = posts_all n hands h known longer (rw (lt_true h hands known, lt_true k n lt, out) refl, legal) ks (λ x. omega (arith, once x, times_snoc x (accepted_in before) k)) (λ x some. low x (omega arith)) in
    (rest.0, rest.1 ∙ append_assoc (accepted_in before) (k ∷ []) ks)

once_or_never : {P : Type 0} (o : Option P) (B : P → Type 0) (n : ℕ) → MatchOption o (n ≡ 0) (λ p. B p × (n ≡ 1)) → n ≤ 1
once_or_never None B n h = omega arith
once_or_never (Some p) B n h = omega (arith, h.1)

not_below : (x n : ℕ) → nat_lt x n ≡ false → n ≤ x
not_below x n e = grind (arith, nat_tests)

is_below : (x n : ℕ) → nat_lt x n ≡ true → x < n
is_below x n e = grind (arith, nat_tests)

at_most_once : (x n m : ℕ) → n ≤ x → (0 < m → x < n) → m ≤ 1
at_most_once x n zero le low = omega arith
at_most_once x n (suc m) le low = absurd (omega (arith, low (omega arith)))

-- the accepted numbers of a book have a history
pub has_history : {P : Type 0} (number : P → ℕ) (b : BookView P) → IsReplay number b → HasHistory b.limit b.accepted
has_history number b h = λ hands hand known. posts_all b.limit hands hand known [] tt b.accepted once h.below
  where
    cases : (x : ℕ) (t : Bool) → nat_lt x b.limit ≡ t → times x b.accepted ≤ 1
    cases x true is = once_or_never (slice_index_or b.held x None) (λ p. number p ≡ x) (times x b.accepted) (h.held x (is_below x b.limit is))
    cases x false is = at_most_once x b.limit (times x b.accepted) (not_below x b.limit is) (h.below x)

    once : (x : ℕ) → 0 + times x b.accepted ≤ 1
    once x = omega (arith, cases x (nat_lt x b.limit) refl)
