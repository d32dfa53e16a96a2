-- What is picked for each of some numbers, against a list.
use Rattle.std.proofs.Common.{◌≡◌, ℕ, zero, suc, ◌+◌, ◌<◌, List, [], ◌∷◌, ◌++◌, Option, Some, refl, sym, ◌∙◌, ap, arith, subst, length, get_or, take}
use Rattle.std.specs.Prelude.{All, slice_get}
use Rattle.std.specs.List.{filter_map}
use Rattle.std.proofs.lemmas.List.{take_more}
use Rattle.std.proofs.lemmas.List.Elements.{filter_map-append}
use Rattle.std.proofs.lemmas.Option.{slice_get_read}

module _ {Y : Type 0} (pick : ℕ → Option Y) where
  -- something is picked for each number
  abbrev pub AllPick : List ℕ → Type 0
  AllPick numbers = All (λ n. (y : Y) × (pick n ≡ Some y)) numbers

  first_picked : (n : ℕ) (ns : List ℕ) (y : Y) → pick n ≡ Some y → filter_map pick (n ∷ ns) ≡ y ∷ filter_map pick ns
  first_picked n ns y e = rw e refl

  rest_pick : (n : ℕ) (ns : List ℕ) → AllPick (n ∷ ns) → AllPick ns
  rest_pick n ns h = λ k d l. h (suc k) d (omega arith)

  -- as many as numbers
  pub length_picked : (numbers : List ℕ) → AllPick numbers → length (filter_map pick numbers) ≡ length numbers
  length_picked [] h = refl
  length_picked (n ∷ ns) h = let (y, e) = h 0 n (omega arith) in ap length (first_picked n ns y e) ∙ ap suc (length_picked ns (rest_pick n ns h))

  -- that of each number
  picked_listed : (numbers : List ℕ) → AllPick numbers → (i n : ℕ) (y : Y) → i < length numbers → n ≡ get_or numbers i n → pick n ≡ Some y → slice_get (filter_map pick numbers) i ≡ Some y
  picked_listed [] h i n y l e at = absurd (omega arith)
  picked_listed (m ∷ ms) h zero n y l e at = ap (λ (ys : List Y). slice_get ys 0) (first_picked m ms y (subst (λ (k : ℕ). pick k ≡ Some y) e at))
  picked_listed (m ∷ ms) h (suc i) n y l e at =
      let (z, f) = h 0 m (omega arith) in
      ap (λ (ys : List Y). slice_get ys (suc i)) (first_picked m ms z f) ∙ picked_listed ms (rest_pick m ms h) i n y (omega arith) e at

  -- ---- one number after another
  module _ (numbers : List ℕ) (list : List Y) (i n : ℕ) (y x : Y) (low : i < length numbers) (high : i < length list) (number_is : n ≡ get_or numbers i n) (at : pick n ≡ Some y) (item_is : x ≡ get_or list i x) where
    pub picked_more : x ≡ y → take i list ≡ filter_map pick (take i numbers) → take (i + 1) list ≡ filter_map pick (take (i + 1) numbers)
    picked_more e same =
        let front : take (i + 1) numbers ≡ take i numbers ++ n ∷ [] = take_more numbers i n low ∙ ap (λ (k : ℕ). take i numbers ++ k ∷ []) (sym number_is) in
        take_more list i x high ∙ ap (λ (z : Y). take i list ++ z ∷ []) (sym item_is ∙ e) ∙ ap (λ (ys : List Y). ys ++ y ∷ []) same
        ∙ ap (λ (ys : List Y). filter_map pick (take i numbers) ++ ys) (sym (first_picked n [] y at)) ∙ sym (filter_map-append pick (take i numbers) (n ∷ [])) ∙ ap (filter_map pick) (sym front)

    pub picked_differs : AllPick numbers → (x ≡ y → ⊥) → list ≡ filter_map pick numbers → ⊥
    picked_differs all fails same =
        let a : slice_get list i ≡ Some x = slice_get_read list (length list) i x refl high item_is in
        let b : slice_get list i ≡ Some y = ap (λ (ys : List Y). slice_get ys i) same ∙ picked_listed numbers all i n y low number_is at in
        fails (some_same (sym a ∙ b))
      where
        some_same : Some x ≡ Some y → x ≡ y
        some_same e = cc
