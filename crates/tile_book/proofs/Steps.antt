-- Each step goes on with a legal history.
use Rattle.std.proofs.Common.{◌≡◌, ◌≢◌, ℕ, ◌+◌, ◌<◌, ◌==◌, Bool, true, false, ◌||◌, ◌&&◌, List, [], ◌∷◌, ◌++◌, length, refl, sym, ap, ◌∙◌, subst, arith, length-set, get_or-set_same, get_or-set_other}
use Rattle.std.proofs.lemmas.Bool.Decides.{nat_tests}
use Rattle.std.proofs.lemmas.List.{append-nil}
use mathlib.Core.Logic.{dite}
use native.Mathlib.Decide.{ℕ_discrete}
use Rattle.std.specs.Prelude.{slice_index_or, slice_set, nat_lt}
use Rattle.tile_book.specs.declared.desk_core.Event.{Event}
use Rattle.tile_book.specs.declared.desk_core.Event.TheVariants.{Draw, Post, Stop}
use Rattle.tile_book.specs.declared.desk_core.Reply.{Reply}
use Rattle.tile_book.specs.declared.desk_core.Reply.TheVariants.{Stranger, Double, NoHand}
use Rattle.tile_book.specs.History.{has_ended, is_live, live_draws, accepted_in, posted_by, one_if, expected, IsLegal, followed_by}
use Rattle.tile_book.specs.Machine.{CoreView, IsSound, Agrees, reply_of, after, replies_of, after_all, draw_reply, post_reply}
use Rattle.tile_book.proofs.Trues.{trues_set, trues_more, posts}

below : (h n : ℕ) → nat_lt h n ≡ true → h < n
below h n e = grind (arith, nat_tests)

-- what the machine replies is what is expected after the history
pub replies : (c : CoreView) (before : List (Event × Reply)) (e : Event) → IsSound c → Agrees c before → reply_of c e ≡ expected c.limit (length c.spent) before e
replies c before (Draw h) sound a = cases (nat_lt h (length c.spent)) refl
  where
    cases : (b : Bool) → nat_lt h (length c.spent) ≡ b → draw_reply c h ≡ expected c.limit (length c.spent) before (Draw h)
    cases true is = let same = a.spent h (below h (length c.spent) is) in rw (is, ← a.word, same) refl
    cases false is = rw is refl
replies c before (Post h k) sound a = cases (nat_lt k c.limit) refl
  where
    cases : (b : Bool) → nat_lt k c.limit ≡ b → post_reply c h k ≡ expected c.limit (length c.spent) before (Post h k)
    cases true is = let same = sound.held k (below k c.limit is) in rw (is, ← a.accepted, same) refl
    cases false is = rw is refl
replies c before (Stop h) sound a = refl

pub live : (hands : ℕ) (before : List (Event × Reply)) (h : ℕ) → nat_lt h hands ≡ true → has_ended h before ≡ false → is_live hands before (Draw h) ≡ true
live hands before h known here = rw (known, here) refl

pub not_live : (hands : ℕ) (before : List (Event × Reply)) (h : ℕ) → has_ended h before ≡ true → is_live hands before (Draw h) ≡ false
not_live hands before h spent = rw spent (off (nat_lt h hands))
  where
    off : (b : Bool) → (b && false) ≡ false
    off true = refl
    off false = refl

unknown : (hands : ℕ) (before : List (Event × Reply)) (h : ℕ) → nat_lt h hands ≡ false → is_live hands before (Draw h) ≡ false
unknown hands before h e = rw e refl

-- setting one test
at_set : (bs : List Bool) (h j : ℕ) → h < length bs → slice_index_or (slice_set bs h true) j false ≡ ((h == j) || slice_index_or bs j false)
at_set bs h j lt = dite (ℕ_discrete j h) (λ same. here same) (λ apart. there apart)
  where
    here : j ≡ h → slice_index_or (slice_set bs h true) j false ≡ ((h == j) || slice_index_or bs j false)
    here same =
        let at : slice_index_or (slice_set bs h true) h false ≡ true = rw get_or-set_same refl in
        let eq : (h == j) ≡ true = grind (arith, nat_tests) in
        subst (λ i. slice_index_or (slice_set bs h true) i false ≡ true) (sym same) at ∙ sym (ap (λ b. b || slice_index_or bs j false) eq)

    there : j ≢ h → slice_index_or (slice_set bs h true) j false ≡ ((h == j) || slice_index_or bs j false)
    there apart =
        let at : slice_index_or (slice_set bs h true) j false ≡ slice_index_or bs j false = rw get_or-set_other refl in
        let ne : (h == j) ≡ false = grind (arith, nat_tests) in
        at ∙ sym (ap (λ b. b || slice_index_or bs j false) ne)

-- the machine stands where the longer history leaves it
pub follows : (c : CoreView) (before : List (Event × Reply)) (e : Event) → IsSound c → Agrees c before → Agrees (after c e) ((e, reply_of c e) ∷ before)
follows c before (Stop h) sound a = cases (nat_lt h (length c.spent)) refl
  where
    cases : (b : Bool) → nat_lt h (length c.spent) ≡ b → Agrees (after c (Stop h)) ((Stop h, reply_of c (Stop h)) ∷ before)
    cases true is = rw is (record {
      word = omega (arith, a.word ∙ ap (λ n. live_draws n before) (sym (length-set c.spent h true)));
      spent = λ j lt. at_set c.spent h j (below h _ is) ∙ ap (λ b. (h == j) || b) (a.spent j (omega (arith, length-set c.spent h true)));
      accepted = a.accepted ∙ sym (append-nil _);
    })
    cases false is = rw is (record {
      word = omega (arith, a.word);
      spent = λ j lt. let ne : (h == j) ≡ false = grind (arith, nat_tests) in a.spent j lt ∙ sym (ap (λ b. b || has_ended j before) ne);
      accepted = a.accepted ∙ sym (append-nil _);
    })
follows c before (Post h k) sound a = cases (nat_lt h (length c.spent)) (nat_lt k c.limit) (slice_index_or c.held k false) refl refl refl
  where
    same : (r : Reply) → posted_by k r ≡ [] → Agrees c ((Post h k, r) ∷ before)
    same r e = record { word = omega (arith, a.word); spent = λ j lt. a.spent j lt; accepted = a.accepted ∙ sym (ap (λ l. accepted_in before ++ l) e ∙ append-nil _) }

    cases : (b d f : Bool) → nat_lt h (length c.spent) ≡ b → nat_lt k c.limit ≡ d → slice_index_or c.held k false ≡ f → Agrees (after c (Post h k)) ((Post h k, reply_of c (Post h k)) ∷ before)
    cases false d f known small held = rw known (same NoHand refl)
    cases true false f known small held = rw (known, small) (same Stranger refl)
    cases true true true known small held = rw (known, small, held) (same Double refl)
    cases true true false known small held = rw (known, small, held) (record { word = omega (arith, a.word); spent = λ j lt. a.spent j lt; accepted = ap (λ l. l ++ k ∷ []) a.accepted })
follows c before (Draw h) sound a = cases (nat_lt h (length c.spent)) (slice_index_or c.spent h false) (nat_lt c.word c.limit) refl refl refl
  where
    cases : (b d f : Bool) → nat_lt h (length c.spent) ≡ b → slice_index_or c.spent h false ≡ d → nat_lt c.word c.limit ≡ f → Agrees (after c (Draw h)) ((Draw h, reply_of c (Draw h)) ∷ before)
    cases false d f known spent more = rw known (record {
      word = omega (arith, a.word, ap one_if (unknown (length c.spent) before h known));
      spent = λ j lt. a.spent j lt;
      accepted = a.accepted ∙ sym (append-nil _);
    })
    cases true true f known spent more = rw (known, spent) (record {
      word = omega (arith, a.word, ap one_if (not_live (length c.spent) before h (sym (a.spent h (below h _ known)) ∙ spent)));
      spent = λ j lt. again j lt (h == j) refl;
      accepted = a.accepted ∙ sym (append-nil _);
    })
      where
        again : (j : ℕ) → j < length c.spent → (b : Bool) → (h == j) ≡ b → slice_index_or c.spent j false ≡ ((h == j) || has_ended j before)
        again j lt true e = let same : h ≡ j = grind (arith, nat_tests) in rw e (subst (λ i. slice_index_or c.spent i false ≡ true) same spent)
        again j lt false e = rw e (a.spent j lt)
    cases true false true known spent more = rw (known, spent, more) (record {
      word = omega (arith, a.word, ap one_if (live (length c.spent) before h known (sym (a.spent h (below h _ known)) ∙ spent)));
      spent = λ j lt. a.spent j lt;
      accepted = a.accepted ∙ sym (append-nil _);
    })
    cases true false false known spent more = rw (known, spent, more) (record {
      word =
          let main : c.word + 1 ≡ one_if (is_live (length c.spent) before (Draw h)) + live_draws (length c.spent) before = omega (arith, a.word, ap one_if (live (length c.spent) before h known (sym (a.spent h (below h _ known)) ∙ spent))) in
          main ∙ ap (λ n. one_if (is_live n before (Draw h)) + live_draws n before) (sym (length-set c.spent h true));
      spent = λ j lt. at_set c.spent h j (below h _ known) ∙ ap (λ b. (h == j) || b) (a.spent j (omega (arith, length-set c.spent h true)));
      accepted = a.accepted ∙ sym (append-nil _);
    })

-- a legal history stays legal
pub goes_on : (c : CoreView) (before : List (Event × Reply)) (e : Event) → IsSound c → IsLegal c.limit (length c.spent) before → Agrees c before
    → IsLegal c.limit (length c.spent) ((e, reply_of c e) ∷ before) × Agrees (after c e) ((e, reply_of c e) ∷ before)
goes_on c before e sound legal a = ((replies c before e sound a, legal), follows c before e sound a)

-- the machine stays sound, and of its size
pub stays_sound : (c : CoreView) (e : Event) → IsSound c → IsSound (after c e) × ((after c e).limit ≡ c.limit) × (length (after c e).spent ≡ length c.spent)
stays_sound c (Stop h) s = cases (nat_lt h (length c.spent)) refl
  where
    cases : (b : Bool) → nat_lt h (length c.spent) ≡ b → IsSound (after c (Stop h)) × ((after c (Stop h)).limit ≡ c.limit) × (length (after c (Stop h)).spent ≡ length c.spent)
    cases false is = rw is (s, refl, refl)
    cases true is = rw is (
      record {
        limit = s.limit;
        hands = omega (arith, s.hands, length-set c.spent h true);
        word = omega (arith, s.word, trues_more c.spent h);
        places = s.places;
        held = s.held;
        count = s.count;
      },
      refl,
      length-set c.spent h true,
    )
stays_sound c (Post h k) s = cases (nat_lt h (length c.spent)) (nat_lt k c.limit) (slice_index_or c.held k false) refl refl refl
  where
    cases : (b d f : Bool) → nat_lt h (length c.spent) ≡ b → nat_lt k c.limit ≡ d → slice_index_or c.held k false ≡ f
        → IsSound (after c (Post h k)) × ((after c (Post h k)).limit ≡ c.limit) × (length (after c (Post h k)).spent ≡ length c.spent)
    cases false d f known small held = rw known (s, refl, refl)
    cases true false f known small held = rw (known, small) (s, refl, refl)
    cases true true true known small held = rw (known, small, held) (s, refl, refl)
    cases true true false known small held = rw (known, small, held) (posts c k s (below k c.limit small) held, refl, refl)
stays_sound c (Draw h) s = cases (nat_lt h (length c.spent)) (slice_index_or c.spent h false) (nat_lt c.word c.limit) refl refl refl
  where
    cases : (b d f : Bool) → nat_lt h (length c.spent) ≡ b → slice_index_or c.spent h false ≡ d → nat_lt c.word c.limit ≡ f
        → IsSound (after c (Draw h)) × ((after c (Draw h)).limit ≡ c.limit) × (length (after c (Draw h)).spent ≡ length c.spent)
    cases false d f known spent more = rw known (s, refl, refl)
    cases true true f known spent more = rw (known, spent) (s, refl, refl)
    cases true false true known spent more = rw (known, spent, more) (
      record { limit = s.limit; hands = s.hands; word = let lt = below c.word c.limit more in omega arith; places = s.places; held = s.held; count = s.count },
      refl,
      refl,
    )
    cases true false false known spent more = rw (known, spent, more) (
      record {
        limit = s.limit;
        hands = omega (arith, s.hands, length-set c.spent h true);
        word = omega (arith, s.word, trues_set c.spent h (below h (length c.spent) known) spent);
        places = s.places;
        held = s.held;
        count = s.count;
      },
      refl,
      length-set c.spent h true,
    )

-- the replies to a whole list go on with a legal history
pub all_go_on : (c : CoreView) (before : List (Event × Reply)) (es : List Event) → IsSound c → IsLegal c.limit (length c.spent) before → Agrees c before
    → IsLegal c.limit (length c.spent) (followed_by before es (replies_of c es)) × Agrees (after_all c es) (followed_by before es (replies_of c es))
all_go_on c before [] sound legal agrees = (legal, agrees)
all_go_on c before (e ∷ es) sound legal agrees =
    let now = goes_on c before e sound legal agrees in
    let kept = stays_sound c e sound in
    let longer = (e, reply_of c e) ∷ before in
    let next = after c e in
    let rest = all_go_on next longer es kept.0 (subst (λ (p : ℕ × ℕ). IsLegal p.0 p.1 longer) (λ i. (sym kept.1 i, sym kept.2 i)) now.0) now.1 in
    (subst (λ (p : ℕ × ℕ). IsLegal p.0 p.1 (followed_by longer es (replies_of next es))) (λ i. (kept.1 i, kept.2 i)) rest.0, rest.1)
