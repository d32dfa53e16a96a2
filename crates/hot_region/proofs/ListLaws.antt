-- Members of lists.
use Rattle.std.proofs.Common.{map, ◌≡◌, ◌⊎◌, inl, inr, ℕ, zero, suc, ◌+◌, ◌-◌, ◌<◌, ◌≤◌, List, [], ◌∷◌, ◌++◌, Bool, true, false, cond, refl, sym, ◌∙◌, ap, arith, subst, length, get_or, take, drop, ◌↔◌, ⊎_elim}
use Rattle.std.specs.Prelude.{AllPairs, Contains, filter, slice_range}
use Rattle.std.proofs.Math.Seq.{take-append-add}
use Rattle.std.proofs.lemmas.List.Elements.{All-contains, All-filter, All-contains_itself, filter_passes, Contains-push, Contains-push_cases, Contains-append_left, Contains-get_or}
use Rattle.std.proofs.lemmas.List.{length-take-le, take_more, take-append-drop}

module _ {X : Type 0} where
  pub in_cons : (x : X) (xs : List X) (c : X) → Contains xs c → Contains (x ∷ xs) c
  in_cons x xs c h = (suc h.0, omega (arith, h.1), h.2)

  pub from_cons : (x : X) (xs : List X) (c : X) → Contains (x ∷ xs) c → (x ≡ c) ⊎ Contains xs c
  from_cons x xs c (zero, a, e) = inl e
  from_cons x xs c (suc k, a, e) = inr (k, omega arith, e)

  pub here : (x : X) (xs : List X) → Contains (x ∷ xs) x
  here x xs = (0, omega arith, refl)

  pub none_in : (c : X) → Contains [] c → ⊥
  none_in c (k, a, e) = omega arith

  into_filter : (p : X → Bool) (xs : List X) (c : X) → p c ≡ true → Contains xs c → Contains (filter p xs) c
  into_filter p [] c e h = h
  into_filter p (x ∷ xs) c e h = ⊎_elim
      (λ f. let g : p x ≡ true = ap p f ∙ e in subst (λ (v : Bool). Contains (cond v (x ∷ filter p xs) (filter p xs)) c) (sym g) (subst (λ (v : X). Contains (x ∷ filter p xs) v) f (here x (filter p xs))))
      (λ k. rest (p x) (into_filter p xs c e k))
      (from_cons x xs c h)
    where
      rest : (b : Bool) → Contains (filter p xs) c → Contains (cond b (x ∷ filter p xs) (filter p xs)) c
      rest true k = in_cons x (filter p xs) c k
      rest false k = k

  pub in_filter : (p : X → Bool) (xs : List X) (c : X) → Contains (filter p xs) c ↔ (Contains xs c × (p c ≡ true))
  in_filter p xs c = (
    (λ h. (All-contains (Contains xs) (filter p xs) c (All-filter p (Contains xs) xs (All-contains_itself xs)) h, All-contains (λ x. p x ≡ true) (filter p xs) c (filter_passes p xs) h)),
    (λ h. into_filter p xs c h.1 h.0),
  )

  pub in_push : (xs : List X) (x y : X) → Contains xs x → Contains (xs ++ y ∷ []) x
  in_push xs x y c = Contains-append_left xs (y ∷ []) x c

  -- one more item of a list that is read in order
  pub in_take_more : (xs : List X) (i : ℕ) (x : X) → i < length xs → x ≡ get_or xs i x → (c : X) → Contains (take (i + 1) xs) c ↔ (Contains (take i xs) c ⊎ (x ≡ c))
  in_take_more xs i x l e c =
      let f : take (i + 1) xs ≡ take i xs ++ x ∷ [] = take_more xs i x l ∙ ap (λ (y : X). take i xs ++ y ∷ []) (sym e) in (
        (λ h. Contains-push_cases (take i xs) x c (subst (λ (ys : List X). Contains ys c) f h)),
        (λ h. subst (λ (ys : List X). Contains ys c) (sym f) (⊎_elim (λ k. in_push (take i xs) c x k) (λ g. subst (λ (y : X). Contains (take i xs ++ x ∷ []) y) g (Contains-push (take i xs) x)) h)),
      )

  -- the first items, and those behind them up to another place
  pub take_parts : (xs : List X) (from past : ℕ) → from ≤ past → from ≤ length xs → take past xs ≡ take from xs ++ slice_range xs from past
  take_parts xs from past l within =
      let first = take from xs in
      let rest = drop from xs in
      ap (λ (t : List X). take past t) (sym (take-append-drop from xs)) ∙ ap (λ n. take n (first ++ rest)) (let e = length-take-le from xs within in omega arith) ∙ take-append-add first rest (past - from)

module _ {X Y : Type 0} (f : X → Y) where
  pub in_map : (xs : List X) (y : Y) → Contains (map f xs) y ↔ ((x : X) × Contains xs x × (f x ≡ y))
  in_map xs y = (to xs, λ (x, h, e). from xs x h e)
    where
      to : (xs : List X) → Contains (map f xs) y → (x : X) × Contains xs x × (f x ≡ y)
      to [] h = absurd (none_in y h)
      to (x ∷ xs) h = ⊎_elim (λ e. (x, here x xs, e)) (λ k. let r = to xs k in (r.0, in_cons x xs r.0 r.1, r.2)) (from_cons (f x) (map f xs) y h)

      from : (xs : List X) (x : X) → Contains xs x → f x ≡ y → Contains (map f xs) y
      from [] x h e = absurd (none_in x h)
      from (z ∷ xs) x h e = ⊎_elim (λ g. subst (λ (w : Y). Contains (f z ∷ map f xs) w) (ap f g ∙ e) (here (f z) (map f xs))) (λ k. in_cons (f z) (map f xs) y (from xs x k e)) (from_cons z xs x h)

module _ {X : Type 0} (R : X → X → Type 0) where
  pub head_pair : (x : X) (xs : List X) (c : X) → AllPairs R (x ∷ xs) → Contains xs c → R x c
  head_pair x xs c p h = subst (λ (y : X). R x y) h.2 (p 0 (suc h.0) c (omega arith) (omega (arith, h.1)))

  pub tail_pairs : (x : X) (xs : List X) → AllPairs R (x ∷ xs) → AllPairs R xs
  tail_pairs x xs p = λ i j d a b. p (suc i) (suc j) d (omega arith) (omega arith)

  pub pairs_cons : (x : X) (xs : List X) → ((c : X) → Contains xs c → R x c) → AllPairs R xs → AllPairs R (x ∷ xs)
  pairs_cons x xs h p zero (suc j) d a b = h (get_or xs j d) (Contains-get_or xs j d (omega arith))
  pairs_cons x xs h p (suc i) (suc j) d a b = p i j d (omega arith) (omega arith)
  pairs_cons x xs h p zero zero d a b = absurd (omega arith)
  pairs_cons x xs h p (suc i) zero d a b = absurd (omega arith)

-- the same pairs under a map, from what is known of members
pub pairs_map : {X Y : Type 0} (R : X → X → Type 0) (S : Y → Y → Type 0) (f : X → Y) (xs : List X) → AllPairs R xs → ((x z : X) → Contains xs x → Contains xs z → R x z → S (f x) (f z)) → AllPairs S (map f xs)
pairs_map R S f [] p h = λ i j d a b. absurd (omega arith)
pairs_map R S f (x ∷ xs) p h = pairs_cons S (f x) (map f xs)
    (λ y k. let r = (in_map f xs y).0 k in subst (λ w. S (f x) w) r.2 (h x r.0 (here x xs) (in_cons x xs r.0 r.1) (head_pair R x xs r.0 p r.1)))
    (pairs_map R S f xs (tail_pairs R x xs p) (λ u v a b. h u v (in_cons x xs u a) (in_cons x xs v b)))

pub filter_none : {X : Type 0} (p : X → Bool) (xs : List X) → ((x : X) → Contains xs x → p x ≡ false) → filter p xs ≡ []
filter_none p [] h = refl
filter_none p (x ∷ xs) h = rw (h x (here x xs)) (filter_none p xs (λ y k. h y (in_cons x xs y k)))

pub filter_all : {X : Type 0} (p : X → Bool) (xs : List X) → ((x : X) → Contains xs x → p x ≡ true) → filter p xs ≡ xs
filter_all p [] h = refl
filter_all p (x ∷ xs) h = rw (h x (here x xs)) (ap (λ ys. x ∷ ys) (filter_all p xs (λ y k. h y (in_cons x xs y k))))

pub no_one : (b : Bool) → b ≡ false → cond {A = ℕ} b 1 0 ≡ 0
no_one b h = rw h refl

pub no_true : (b : Bool) → (b ≡ true → ⊥) → b ≡ false
no_true true h = absurd (h refl)
no_true false h = refl
