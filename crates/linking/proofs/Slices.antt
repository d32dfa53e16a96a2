-- Parts of a list, one behind another.
use Rattle.std.proofs.Common.{◌≡◌, ℕ, ◌+◌, ◌-◌, ◌<◌, ◌≤◌, List, [], ◌∷◌, ◌++◌, get_or, length, take, drop, flat_map, refl, sym, ap, ◌∙◌, subst, arith, append_assoc}
use Rattle.std.proofs.lemmas.Grind.{flat_map-append}
use Rattle.std.proofs.lemmas.List.{append-nil, drop_all, get_or-drop, get_or-take, length-drop, length-take, take-append-drop}
use Rattle.std.proofs.lemmas.List.Elements.{All-contains, Contains-get_or}
use Rattle.std.proofs.lemmas.List.Folds.{drop_split}
use Rattle.std.specs.List.{AllWithin}
use Rattle.std.specs.Prelude.{All, AllPairs, Contains, slice_range}
use Rattle.hands.specs.declared.part.Part.{Part}
use Rattle.hands.specs.Consecutive.{ArePartsOf}
use Rattle.linking.proofs.RecordParts.{pairs_back, pairs_front}
use Rattle.linking.proofs.ShareLaws.{in_flat, to_flat}

module _ {X : Type 0} (xs : List X) where
  abbrev pub slice : Part → List X
  slice p = slice_range xs p.from p.past

  slices_from : (from past : ℕ) (ps : List Part) → ArePartsOf from past ps → flat_map slice ps ++ drop past xs ≡ drop from xs
  unfolding ArePartsOf
  slices_from from past [] h = ap (λ (n : ℕ). drop n xs) (sym h)
  slices_from from past (p ∷ ps) h =
      append_assoc (slice p) (flat_map slice ps) (drop past xs) ∙ ap (λ t. slice p ++ t) (slices_from p.past past ps h.2)
      ∙ ap (λ (n : ℕ). slice_range xs n p.past ++ drop p.past xs) h.0 ∙ sym (drop_split xs from p.past h.1)

  -- the parts of all places have all items
  slices_whole : (ps : List Part) → ArePartsOf 0 (length xs) ps → flat_map slice ps ≡ xs
  slices_whole ps h = sym (append-nil (flat_map slice ps)) ∙ ap (λ t. flat_map slice ps ++ t) (sym (drop_all (length xs) xs (omega arith))) ∙ slices_from 0 (length xs) ps h

  pub slice_pairs : (R : X → X → Type 0) (a b : ℕ) → AllPairs R xs → AllPairs R (slice_range xs a b)
  slice_pairs R a b h = pairs_front R (take (b - a) (drop a xs)) (drop (b - a) (drop a xs)) (subst (AllPairs R) (sym (take-append-drop (b - a) (drop a xs)))
      (pairs_back R (take a xs) (drop a xs) (subst (AllPairs R) (sym (take-append-drop a xs)) h)))

  module _ (a b : ℕ) (within : b ≤ length xs) where
    slice_at : (k : ℕ) (d : X) → k < length (slice_range xs a b) → (get_or (slice_range xs a b) k d ≡ get_or xs (a + k) d) × (a + k < b)
    slice_at k d l =
        let n = length-take (b - a) (drop a xs) in
        let m = length-drop a xs in
        (get_or-take (b - a) (drop a xs) k d (omega (arith, l, n, m)) ∙ get_or-drop a xs k d, omega (arith, l, n, m, within))

    pub slice_all : (P : X → Type 0) → AllWithin P xs a b → All P (slice_range xs a b)
    slice_all P h k d l = let (e, m) = slice_at k d l in subst P (sym e) (h (a + k) d (omega arith) m)

    pub slice_has : (x : X) → Contains (slice_range xs a b) x → Contains xs x
    slice_has x (k, l, e) = let (f, m) = slice_at k x l in (a + k, omega (arith, m, within), sym f ∙ e)

-- ---- what the items of parts have
module _ {X Y : Type 0} (f : X → List Y) where
  flat_cut : (i : ℕ) (xs : List X) → flat_map f (take i xs) ++ flat_map f (drop i xs) ≡ flat_map f xs
  flat_cut i xs = sym (flat_map-append f (take i xs) (drop i xs)) ∙ ap (flat_map f) (take-append-drop i xs)

  pub flat_front_pairs : (R : Y → Y → Type 0) (i : ℕ) (xs : List X) → AllPairs R (flat_map f xs) → AllPairs R (flat_map f (take i xs))
  flat_front_pairs R i xs h = pairs_front R (flat_map f (take i xs)) (flat_map f (drop i xs)) (subst (AllPairs R) (sym (flat_cut i xs)) h)

  module _ (xs : List X) where
    pub flat_slice_pairs : (R : Y → Y → Type 0) (a b : ℕ) → AllPairs R (flat_map f xs) → AllPairs R (flat_map f (slice_range xs a b))
    flat_slice_pairs R a b h = flat_front_pairs R (b - a) (drop a xs) (pairs_back R (flat_map f (take a xs)) (flat_map f (drop a xs)) (subst (AllPairs R) (sym (flat_cut a xs)) h))

    pub flat_all : (P : Y → Type 0) (x : X) → Contains xs x → All P (flat_map f xs) → All P (f x)
    flat_all P x among h k d l = All-contains P (flat_map f xs) (get_or (f x) k d) h (to_flat f xs x (get_or (f x) k d) among (Contains-get_or (f x) k d l))

    pub flat_slice_all : (P : Y → Type 0) (a b : ℕ) → b ≤ length xs → All P (flat_map f xs) → All P (flat_map f (slice_range xs a b))
    flat_slice_all P a b within h k d l =
        let part = flat_map f (slice_range xs a b) in
        let (x, among, has) = in_flat f (slice_range xs a b) (get_or part k d) (Contains-get_or part k d l) in
        All-contains P (flat_map f xs) (get_or part k d) h (to_flat f xs x (get_or part k d) (slice_has xs a b within x among) has)

    flat_slices : (ps : List Part) → flat_map (λ p. flat_map f (slice xs p)) ps ≡ flat_map f (flat_map (slice xs) ps)
    flat_slices [] = refl
    flat_slices (p ∷ ps) = ap (λ t. flat_map f (slice xs p) ++ t) (flat_slices ps) ∙ sym (flat_map-append f (slice xs p) (flat_map (slice xs) ps))

    pub flat_slices_whole : (ps : List Part) → ArePartsOf 0 (length xs) ps → flat_map (λ p. flat_map f (slice xs p)) ps ≡ flat_map f xs
    flat_slices_whole ps h = flat_slices ps ∙ ap (flat_map f) (slices_whole xs ps h)
