-- Lists joined from chunks: the place of an index, what a search by the first elements of the chunks finds, and edits.
use Rattle.std.proofs.Common.{◌≡◌, ◌≢◌, ◌⊎◌, inl, inr, ⊎_elim, ℕ, zero, suc, ◌+◌, ◌-◌, ◌<◌, ◌≤◌, Bool, true, false, List, [], ◌∷◌, ◌++◌, length, get_or, min, set, take, drop, refl, sym, ap, ◌∙◌, subst, arith, append_assoc}
use Rattle.std.specs.List.{All, AllWithin, HoldsAt, flat_map}
use Rattle.std.specs.List.Sorted.{IsPartitionedBy}
use Rattle.label_sweep.specs.Chunks.{opens}
use Rattle.std.specs.Prelude.{slice_range}
use Rattle.std.proofs.Math.Seq.{take-add, take-append-add, drop-append-add, take-suc-set}
use Rattle.std.proofs.lemmas.Bool.{cases_lt}
use Rattle.std.proofs.lemmas.List.{append-nil, drop-append-le, drop-drop, drop-set-lt, length-append, length-drop, take-append-le, take_all}
use Rattle.std.proofs.lemmas.List.Concat.{flat_map-append, get_or-flat_map}
use Rattle.std.proofs.lemmas.List.Elements.{All-append, All-cons, All-drop, All-nil, All-set, All-take}
use Rattle.std.proofs.lemmas.List.Folds.{length-flat_map-take}
use Rattle.points_law.proofs.Even.{not_true}
use Rattle.label_sweep.proofs.Members.{some_item}

positive : (n : ℕ) → (n ≡ 0 → ⊥) → 0 < n
positive zero h = absurd (h refl)
positive (suc n) h = omega arith

not_both : (b : Bool) → b ≡ true → b ≡ false → ⊥
not_both true h k = absurd (let t = k in cc)
not_both false h k = absurd (let t = h in cc)

opens_first : {X : Type 0} (p : X → Bool) (xs : List X) (d : X) → 0 < length xs → opens p xs ≡ p (get_or xs 0 d)
opens_first p [] d h = absurd (omega arith)
opens_first p (x ∷ xs) d h = refl

opens_some : {X : Type 0} (p : X → Bool) (xs : List X) → opens p xs ≡ true → X
opens_some p [] e = absurd (let t = e in cc)
opens_some p (x ∷ xs) e = x

module _ {X Y : Type 0} (f : Y → List X) where
  -- the number of elements before a chunk
  abbrev pub before : List Y → ℕ → ℕ
  before cs k = length (flat_map f (take k cs))

  pub take_joined : (cs : List Y) (k n : ℕ) (d : Y) → k < length cs → n ≤ length (f (get_or cs k d)) → take (before cs k + n) (flat_map f cs) ≡ flat_map f (take k cs) ++ take n (f (get_or cs k d))
  take_joined [] k n d h l = absurd (omega arith)
  take_joined (c ∷ cs) zero n d h l = let at : 0 + n ≡ n = omega arith in ap (λ m. take m (f c ++ flat_map f cs)) at ∙ take-append-le n (f c) (flat_map f cs) l
  take_joined (c ∷ cs) (suc k) n d h l =
      let long = length-append (f c) (flat_map f (take k cs)) in
      let at : length (f c ++ flat_map f (take k cs)) + n ≡ length (f c) + (length (flat_map f (take k cs)) + n) = omega arith in
      ap (λ m. take m (f c ++ flat_map f cs)) at ∙ take-append-add (f c) (flat_map f cs) (before cs k + n) ∙ ap (λ t. f c ++ t) (take_joined cs k n d (omega arith) l)
      ∙ sym (append_assoc (f c) (flat_map f (take k cs)) (take n (f (get_or cs k d))))

  pub drop_joined : (cs : List Y) (k n : ℕ) (d : Y) → k < length cs → n ≤ length (f (get_or cs k d)) → drop (before cs k + n) (flat_map f cs) ≡ drop n (f (get_or cs k d)) ++ flat_map f (drop (suc k) cs)
  drop_joined [] k n d h l = absurd (omega arith)
  drop_joined (c ∷ cs) zero n d h l = let at : 0 + n ≡ n = omega arith in ap (λ m. drop m (f c ++ flat_map f cs)) at ∙ drop-append-le n (f c) (flat_map f cs) l
  drop_joined (c ∷ cs) (suc k) n d h l =
      let long = length-append (f c) (flat_map f (take k cs)) in
      let at : length (f c ++ flat_map f (take k cs)) + n ≡ length (f c) + (length (flat_map f (take k cs)) + n) = omega arith in
      ap (λ m. drop m (f c ++ flat_map f cs)) at ∙ drop-append-add (f c) (flat_map f cs) (before cs k + n) ∙ drop_joined cs k n d (omega arith) l

  pub before_more : (cs : List Y) (k : ℕ) (d : Y) → k < length cs → before cs (suc k) ≡ before cs k + length (f (get_or cs k d))
  before_more [] k d h = absurd (omega arith)
  before_more (c ∷ cs) zero d h = let long = length-append (f c) [] in omega arith
  before_more (c ∷ cs) (suc k) d h = let l = length-append (f c) (flat_map f (take k cs)) in let m = length-append (f c) (flat_map f (take (suc k) cs)) in let e = before_more cs k d (omega arith) in omega arith

  pub before_all : (cs : List Y) (k : ℕ) → length cs ≤ k → before cs k ≡ length (flat_map f cs)
  before_all cs k h = ap (λ t. length (flat_map f t)) (take_all k cs h)

  pub before_order : (cs : List Y) (i j : ℕ) → i ≤ j → before cs i ≤ before cs j
  before_order [] zero j l = omega arith
  before_order [] (suc i) zero l = absurd (omega arith)
  before_order [] (suc i) (suc j) l = omega arith
  before_order (c ∷ cs) zero j l = omega arith
  before_order (c ∷ cs) (suc i) zero l = absurd (omega arith)
  before_order (c ∷ cs) (suc i) (suc j) l = let a = length-append (f c) (flat_map f (take i cs)) in let b = length-append (f c) (flat_map f (take j cs)) in let e = before_order cs i j (omega arith) in omega arith

  pub filled_at : (cs : List Y) → All (λ c. 0 < length (f c)) (drop 1 cs) → (k : ℕ) (d : Y) → suc k < length cs → 0 < length (f (get_or cs (suc k) d))
  filled_at [] a k d h = absurd (omega arith)
  filled_at (c ∷ cs) a k d h = a k d (omega arith)

  after_one : (cs : List Y) (k : ℕ) (d : Y) → get_or (drop 1 cs) k d ≡ get_or cs (suc k) d
  after_one [] k d = refl
  after_one (c ∷ cs) k d = refl

  -- ---- a search by first elements
  module _ (p : X → Bool) where
    less_one : (cs : List Y) (k : ℕ) → k < length (drop 1 cs) → suc k < length cs
    less_one [] k h = absurd (omega arith)
    less_one (c ∷ cs) k h = omega arith

    first_opens : (cs : List Y) (k : ℕ) (d : Y) (x : X) → k < length cs → 0 < length (f (get_or cs k d)) → opens p (f (get_or cs k d)) ≡ p (get_or (flat_map f cs) (before cs k + 0) x)
    first_opens cs k d x h l = opens_first p (f (get_or cs k d)) x l ∙ ap p (sym (get_or-flat_map f cs k 0 d x h l))

    module _ (cs : List Y) (parted : IsPartitionedBy p (flat_map f cs)) (filled : All (λ c. 0 < length (f c)) (drop 1 cs)) where
      pub chunks_parted : IsPartitionedBy (λ c. opens p (f c)) (drop 1 cs)
      chunks_parted i j d l h e =
          let n : suc j < length cs = less_one cs j h in
          let m : suc i < length cs = omega arith in
          let P : Y → Type 0 = λ c. opens p (f c) ≡ true in
          let there : opens p (f (get_or cs (suc j) d)) ≡ true = subst P (after_one cs j d) e in
          let x : X = opens_some p (f (get_or cs (suc j) d)) there in
          let inside = length-flat_map-take f cs (suc j) d n in
          let some = filled_at cs filled j d n in
          let order = before_order cs (suc i) (suc j) (omega arith) in
          subst P (sym (after_one cs i d)) (first_opens cs (suc i) d x m (filled_at cs filled i d m)
          ∙ parted (before cs (suc i) + 0) (before cs (suc j) + 0) x (omega (arith, order)) (omega (arith, inside, some)) (sym (first_opens cs (suc j) d x n some) ∙ there))

      module _ (k : ℕ) (c : Y) (h : k < length cs) (is : c ≡ get_or cs k c) where
        at : (n : ℕ) (x : X) → n < length (f c) → get_or (flat_map f cs) (before cs k + n) x ≡ get_or (f c) n x
        at n x l = let P : Y → Type 0 = λ y. n < length (f y) in get_or-flat_map f cs k n c x h (subst P is l) ∙ ap (λ y. get_or (f y) n x) (sym is)

        pub inside : before cs k + length (f c) ≤ length (flat_map f cs)
        inside = let P : Y → Type 0 = λ y. before cs k + length (f y) ≤ length (flat_map f cs) in subst P (sym is) (length-flat_map-take f cs k c h)

        pub within_parted : IsPartitionedBy p (f c)
        within_parted i j x l m e = let r = inside in
            ap p (sym (at i x (omega (arith, l, m)))) ∙ parted (before cs k + i) (before cs k + j) x (omega (arith, l)) (omega (arith, m, r)) (ap p (at j x m) ∙ e)

        -- what passes before a number of the chunk, and in the chunk up to another
        pub passed_before : (m w : ℕ) → AllWithin (λ x. p x ≡ true) (flat_map f cs) 0 (before cs k + m) → w ≤ length (f c) → AllWithin (λ x. p x ≡ true) (f c) m w → AllWithin (λ x. p x ≡ true) (flat_map f cs) 0 (before cs k + w)
        passed_before m w low w_in here i x l h = ⊎_elim (λ a. low i x l a) (λ b. there b) (cases_lt i (before cs k + m))
          where
            there : before cs k + m ≤ i → p (get_or (flat_map f cs) i x) ≡ true
            there b =
                let j = i - before cs k in
                let e : before cs k + j ≡ i = omega (arith, b) in
                let P : ℕ → Type 0 = λ t. p (get_or (flat_map f cs) t x) ≡ true in
                subst P e (ap p (at j x (omega (arith, b, h, w_in))) ∙ here j x (omega (arith, b)) (omega (arith, b, h)))

        -- from the first that doesn't pass none does
        pub none_after : (w : ℕ) → w < length (f c) → HoldsAt (λ x. p x ≡ false) (f c) w → AllWithin (λ x. p x ≡ false) (flat_map f cs) (before cs k + w) (length (flat_map f cs))
        none_after w n past i x l m = not_true (p (get_or (flat_map f cs) i x)) (λ t. not_both (p (get_or (f c) w x)) (ap p (sym (at w x n)) ∙ parted (before cs k + w) i x l m t) (past x))

        module _ (low : AllWithin (λ c. opens p (f c) ≡ true) (drop 1 cs) 0 k) (high : AllWithin (λ c. opens p (f c) ≡ false) (drop 1 cs) k (length (drop 1 cs)))
            (w : ℕ) (w_in : w ≤ length (f c)) (steep : AllWithin (λ x. p x ≡ true) (f c) 0 w) (flat : AllWithin (λ x. p x ≡ false) (f c) w (length (f c))) where
          opened : (j : ℕ) → k ≡ suc j → w ≡ 0 → ⊥
          opened j e z =
              let n : suc j < length cs = omega (arith, e, h) in
              let same : get_or cs (suc j) c ≡ c = ap (λ i. get_or cs i c) (sym e) ∙ sym is in
              let P : Y → Type 0 = λ y. 0 < length (f y) in
              let some : 0 < length (f c) = subst P same (filled_at cs filled j c n) in
              let x : X = some_item (f c) 0 some in
              not_both (p (get_or (f c) 0 x)) (sym (opens_first p (f c) x some) ∙ ap (λ y. opens p (f y)) (sym same ∙ sym (after_one cs j c)) ∙ low j c (omega arith) (omega (arith, e)))
              (flat 0 x (omega (arith, z)) some)

          pub behind : 0 < k → 0 < w
          behind l = positive w (λ z. opened (k - 1) (omega (arith, l)) z)

          some_before : (i : ℕ) → i < before cs k + w → 0 < w
          some_before i l = ⊎_elim (λ m. behind m) (λ m. none k m l) (cases_lt 0 k)
            where
              none : (j : ℕ) → j ≤ 0 → i < before cs j + w → 0 < w
              none zero m l = omega (arith, l)
              none (suc j) m l = absurd (omega (arith, m))

          pub all_before : AllWithin (λ x. p x ≡ true) (flat_map f cs) 0 (before cs k + w)
          all_before i x m l = let b = some_before i l in let r = inside in
              parted i (before cs k + (w - 1)) x (omega (arith, l, b)) (omega (arith, r, b, w_in)) (ap p (at (w - 1) x (omega (arith, b, w_in))) ∙ steep (w - 1) x (omega arith) (omega (arith, b)))

          next_opens : (i : ℕ) (x : X) → length (f c) ≤ w → before cs k + w ≤ i → i < length (flat_map f cs) → p (get_or (flat_map f cs) i x) ≡ true → suc k < length cs → ⊥
          next_opens i x z l m e n =
              let some = filled_at cs filled k c n in
              let more = before_more cs k c h in
              let same = ap (λ y. length (f y)) is in
              not_both (p (get_or (flat_map f cs) (before cs (suc k) + 0) x)) (parted (before cs (suc k) + 0) i x (omega (arith, more, same, z, w_in, l)) m e)
              (sym (first_opens cs (suc k) c x n some) ∙ ap (λ y. opens p (f y)) (sym (after_one cs k c)) ∙ high k c (omega arith) (rest_less k n))
            where
              rest_less : (k : ℕ) → suc k < length cs → k < length (drop 1 cs)
              rest_less k n = one cs n
                where
                  one : (cs : List Y) → suc k < length cs → k < length (drop 1 cs)
                  one [] n = absurd (omega arith)
                  one (c ∷ cs) n = omega arith

          later : (i : ℕ) (x : X) → before cs k + w ≤ i → i < length (flat_map f cs) → p (get_or (flat_map f cs) i x) ≡ true → ⊥
          later i x l m e = ⊎_elim
              (λ n. not_both (p (get_or (f c) w x)) (ap p (sym (at w x n)) ∙ parted (before cs k + w) i x l m e) (flat w x (omega arith) n))
              (λ z. ⊎_elim (λ n. next_opens i x z l m e n)
              (λ n. let all = before_all cs (suc k) n in let more = before_more cs k c h in let same = ap (λ y. length (f y)) is in absurd (omega (arith, all, more, same, z, w_in, l, m)))
              (cases_lt (suc k) (length cs)))
              (cases_lt w (length (f c)))

          pub all_after : AllWithin (λ x. p x ≡ false) (flat_map f cs) (before cs k + w) (length (flat_map f cs))
          all_after i x l m = not_true (p (get_or (flat_map f cs) i x)) (λ e. later i x l m e)

-- the size of the chunk with a number
abbrev pub size_at : {Y : Type 0} → (Y → ℕ) → List Y → ℕ → ℕ
size_at n [] k = 0
size_at n (c ∷ cs) zero = n c
size_at n (c ∷ cs) (suc k) = size_at n cs k

pub size_is : {Y : Type 0} (n : Y → ℕ) (cs : List Y) (k : ℕ) (d : Y) → k < length cs → size_at n cs k ≡ n (get_or cs k d)
size_is n [] k d h = absurd (omega arith)
size_is n (c ∷ cs) zero d h = refl
size_is n (c ∷ cs) (suc k) d h = size_is n cs k d (omega arith)

-- a slice from a number on
pub slice_from : {X : Type 0} (k : ℕ) (xs : List X) → take (length xs - k) (drop k xs) ≡ drop k xs
slice_from k xs = let l = length-drop k xs in take_all (length xs - k) (drop k xs) (omega (arith, l))

-- ---- edits
module _ {X Y : Type 0} (f : Y → List X) where
  -- one chunk changed, and those after it up to another left out
  pub exchanged : (cs : List Y) (j k n m : ℕ) (y d g : Y) (fresh : List X) → j ≤ k → k < length cs → n ≤ length (f (get_or cs j d)) → m ≤ length (f (get_or cs k g))
      → f y ≡ take n (f (get_or cs j d)) ++ fresh ++ drop m (f (get_or cs k g))
      → flat_map f (take (suc j) (set cs j y) ++ drop (suc k) (set cs j y)) ≡ take (before f cs j + n) (flat_map f cs) ++ fresh ++ drop (before f cs k + m) (flat_map f cs)
  exchanged cs j k n m y d g fresh o h l r e =
      let a : List X = flat_map f (take j cs) in
      let b : List X = flat_map f (drop (suc k) cs) in
      let s : List X = take n (f (get_or cs j d)) in
      let t : List X = drop m (f (get_or cs k g)) in
      ap (λ xs. flat_map f (xs ++ drop (suc k) (set cs j y))) (take-suc-set cs j y (omega arith))
      ∙ ap (λ xs. flat_map f ((take j cs ++ (y ∷ [])) ++ xs)) (drop-set-lt (suc k) cs j y (omega arith))
      ∙ flat_map-append f (take j cs ++ (y ∷ [])) (drop (suc k) cs)
      ∙ ap (λ xs. xs ++ b) (flat_map-append f (take j cs) (y ∷ []) ∙ ap (λ xs. a ++ xs) (append-nil (f y) ∙ e))
      ∙ ap (λ xs. xs ++ b) (sym (append_assoc a (s ++ fresh) t) ∙ ap (λ xs. xs ++ t) (sym (append_assoc a s fresh)))
      ∙ append_assoc ((a ++ s) ++ fresh) t b
      ∙ ap (λ xs. xs ++ fresh ++ (t ++ b)) (sym (take_joined f cs j n d (omega arith) l))
      ∙ ap (λ xs. (take (before f cs j + n) (flat_map f cs) ++ fresh) ++ xs) (sym (drop_joined f cs k m g h r))

  -- of the chunks but the first none is empty after that
  pub exchanged_filled : (P : Y → Type 0) (cs : List Y) (j k : ℕ) (y : Y) → j ≤ k → (0 < j → P y) → All P (drop 1 cs) → All P (drop 1 (take (suc j) (set cs j y) ++ drop (suc k) (set cs j y)))
  exchanged_filled P [] zero k y o p a = All-nil P
  exchanged_filled P [] (suc j) k y o p a = All-nil P
  exchanged_filled P (c ∷ cs) zero k y o p a = All-drop P k cs a
  exchanged_filled P (c ∷ cs) (suc j) k y o p a = let s = All-set P cs j y (p (omega arith)) a in All-append P (take (suc j) (set cs j y)) (drop k (set cs j y)) (All-take P (suc j) (set cs j y) s) (All-drop P k (set cs j y) s)

  -- a chunk cut in two
  pub cut_joined : (cs : List Y) (j : ℕ) (y z d : Y) → j < length cs → f y ++ f z ≡ f (get_or cs j d) → flat_map f (take (suc j) (set cs j y) ++ (z ∷ drop (suc j) (set cs j y))) ≡ flat_map f cs
  cut_joined [] j y z d h e = absurd (omega arith)
  cut_joined (c ∷ cs) zero y z d h e = sym (append_assoc (f y) (f z) (flat_map f cs)) ∙ ap (λ t. t ++ flat_map f cs) e
  cut_joined (c ∷ cs) (suc j) y z d h e = ap (λ t. f c ++ t) (cut_joined cs j y z d (omega arith) e)

  pub cut_filled : (P : Y → Type 0) (cs : List Y) (j : ℕ) (y z : Y) → j < length cs → P y → P z → All P (drop 1 cs) → All P (drop 1 (take (suc j) (set cs j y) ++ (z ∷ drop (suc j) (set cs j y))))
  cut_filled P [] j y z h p q a = absurd (omega arith)
  cut_filled P (c ∷ cs) zero y z h p q a = All-cons P z cs q a
  cut_filled P (c ∷ cs) (suc j) y z h p q a = let s = All-set P cs j y p a in
      All-append P (take (suc j) (set cs j y)) (z ∷ drop (suc j) (set cs j y)) (All-take P (suc j) (set cs j y) s) (All-cons P z (drop (suc j) (set cs j y)) q (All-drop P (suc j) (set cs j y) s))

  -- a chunk stays the first one
  pub exchanged_some : (cs : List Y) (j k : ℕ) (y : Y) → 0 < length cs → 0 < length (take (suc j) (set cs j y) ++ drop (suc k) (set cs j y))
  exchanged_some [] j k y h = absurd (omega arith)
  exchanged_some (c ∷ cs) zero k y h = omega arith
  exchanged_some (c ∷ cs) (suc j) k y h = omega arith

  pub cut_some : (cs : List Y) (j : ℕ) (y z : Y) → 0 < length cs → 0 < length (take (suc j) (set cs j y) ++ (z ∷ drop (suc j) (set cs j y)))
  cut_some [] j y z h = absurd (omega arith)
  cut_some (c ∷ cs) zero y z h = omega arith
  cut_some (c ∷ cs) (suc j) y z h = omega arith

-- ---- parts of a list, and of its chunks
part_joins : {X : Type 0} (xs : List X) (a b c : ℕ) → a ≤ b → b ≤ c → slice_range xs a b ++ slice_range xs b c ≡ slice_range xs a c
part_joins xs a b c l m =
    let n : ℕ = b - a in
    let k : ℕ = c - b in
    let to : b ≡ a + n = omega arith in
    let all : n + k ≡ c - a = omega arith in
    ap (λ i. take n (drop a xs) ++ take k (drop i xs)) to ∙ ap (λ t. take n (drop a xs) ++ take k t) (sym (drop-drop n a xs)) ∙ sym (take-add n k (drop a xs)) ∙ ap (λ i. take i (drop a xs)) all

part_empty : {X : Type 0} (xs : List X) (a b : ℕ) → b ≤ a → slice_range xs a b ≡ []
part_empty xs a b l = let none : b - a ≡ 0 = omega arith in ap (λ i. take i (drop a xs)) none

module _ {X Y : Type 0} (f : Y → List X) where
  part_joined : (cs : List Y) (k a b : ℕ) (c : Y) → k < length cs → c ≡ get_or cs k c → a ≤ b → b ≤ length (f c) → slice_range (f c) a b ≡ slice_range (flat_map f cs) (before f cs k + a) (before f cs k + b)
  part_joined cs k a b c h is l m =
      let P : Y → Type 0 = λ y. a ≤ length (f y) in
      let left = length-drop a (f c) in
      let far : b - a ≡ (before f cs k + b) - (before f cs k + a) = omega arith in
      let rest : List X = flat_map f (drop (suc k) cs) in
      sym (take-append-le (b - a) (drop a (f c)) rest (omega (arith, left, m)))
      ∙ ap (λ y. take (b - a) (drop a (f y) ++ rest)) is
      ∙ ap (take (b - a)) (sym (drop_joined f cs k a c h (subst P is (omega (arith, l, m)))))
      ∙ ap (λ i. take i (drop (before f cs k + a) (flat_map f cs))) far

  -- from an item of chunk i up to one of chunk j
  module _ (cs : List Y) (i m j n : ℕ) (o : i ≤ j) (h : j < length cs) (first : HoldsAt (λ c. m ≤ length (f c)) cs i) (last : HoldsAt (λ c. n ≤ length (f c)) cs j) (order : before f cs i + m ≤ before f cs j + n) where
    -- what is listed of the chunks before one
    abbrev pub listed : ℕ → List X
    listed k = slice_range (flat_map f cs) (before f cs i + m) (min (before f cs k) (before f cs j + n))

    pub listed_all : (k : ℕ) → k ≡ j + 1 → listed k ≡ slice_range (flat_map f cs) (before f cs i + m) (before f cs j + n)
    listed_all k e =
        let d : Y = some_item cs j h in
        let past : before f cs k ≡ before f cs (suc j) = (let s : k ≡ suc j = omega (arith, e) in ap (before f cs) s) in
        let more = before_more f cs j d h in
        let inside = last d in
        let to : min (before f cs k) (before f cs j + n) ≡ before f cs j + n = omega (arith, past, more, inside) in
        ap (slice_range (flat_map f cs) (before f cs i + m)) to

    module _ (k : ℕ) (c : Y) (from : i ≤ k) (to : k ≤ j) (is : c ≡ get_or cs k c) (a b : ℕ) (starts : ((k ≡ i) × (a ≡ m)) ⊎ ((k ≢ i) × (a ≡ 0))) (ends : ((k ≡ j) × (b ≡ n)) ⊎ ((k ≢ j) × (b ≡ length (f c)))) where
      in_chunk : b ≤ length (f c)
      in_chunk = elim ends [
        | inl e ↦ (let P : Y → Type 0 = λ y. n ≤ length (f y) in let Q : ℕ → Type 0 = λ t. n ≤ length (f (get_or cs t c)) in let l = subst P (sym is) (subst Q (sym e.0) (last c)) in omega (arith, l, e.1))
        | inr e ↦ omega (arith, e.1)
      ]

      -- where chunk k is listed to
      reach : min (before f cs (k + 1)) (before f cs j + n) ≡ before f cs k + b
      reach =
          let next : before f cs (k + 1) ≡ before f cs (suc k) = (let s : k + 1 ≡ suc k = omega arith in ap (before f cs) s) in
          let more = before_more f cs k c (omega (arith, to, h)) in
          let size : length (f (get_or cs k c)) ≡ length (f c) = ap (λ y. length (f y)) (sym is) in
          elim ends [
            | inl e ↦ (let same = ap (before f cs) e.0 in let l = in_chunk in omega (arith, next, more, size, same, e.1, l))
            | inr e ↦ (let later = before_order f cs (suc k) j (omega (arith, to, e.0)) in omega (arith, next, more, size, later, e.1))
          ]

      pub listed_more : listed k ++ slice_range (f c) (min a b) b ≡ listed (k + 1)
      listed_more = elim starts [ inl e ↦ here e.0 e.1 | inr e ↦ there e.0 e.1 ]
        where
          size : length (f (get_or cs k c)) ≡ length (f c)
          size = ap (λ y. length (f y)) (sym is)

          whole : List X
          whole = flat_map f cs

          here : k ≡ i → a ≡ m → listed k ++ slice_range (f c) (min a b) b ≡ listed (k + 1)
          here e g =
              let same = ap (before f cs) e in
              let r = reach in
              let up = in_order e in
              let at : min a b ≡ m = omega (arith, g, up) in
              let start : before f cs k + m ≡ before f cs i + m = omega (arith, same) in
              ap (λ t. t ++ slice_range (f c) (min a b) b) (part_empty whole (before f cs i + m) (min (before f cs k) (before f cs j + n)) (omega (arith, same)))
              ∙ ap (λ t. slice_range (f c) t b) at ∙ part_joined cs k m b c (omega (arith, to, h)) is up in_chunk
              ∙ ap (λ t. slice_range whole t (before f cs k + b)) start ∙ ap (slice_range whole (before f cs i + m)) (sym r)
            where
              in_order : k ≡ i → m ≤ b
              in_order e =
                  let P : Y → Type 0 = λ y. m ≤ length (f y) in
                  let Q : ℕ → Type 0 = λ t. m ≤ length (f (get_or cs t c)) in
                  let l = subst P (sym is) (subst Q (sym e) (first c)) in
                  let same = ap (before f cs) e in
                  elim ends [
                    | inl g ↦ (let to_last = ap (before f cs) g.0 in omega (arith, order, same, to_last, g.1))
                    | inr g ↦ omega (arith, l, g.1)
                  ]

          there : k ≢ i → a ≡ 0 → listed k ++ slice_range (f c) (min a b) b ≡ listed (k + 1)
          there ne g =
              let d : Y = some_item cs j h in
              let first_more = before_more f cs i d (omega (arith, o, h)) in
              let in_first = first d in
              let earlier = before_order f cs (suc i) k (omega (arith, from, ne)) in
              let later = before_order f cs k j to in
              let r = reach in
              let at : min a b ≡ 0 = omega (arith, g) in
              let begin : min (before f cs k) (before f cs j + n) ≡ before f cs k = omega (arith, later) in
              let zero_more : before f cs k + 0 ≡ before f cs k = omega arith in
              ap (λ t. slice_range whole (before f cs i + m) t ++ slice_range (f c) (min a b) b) begin
              ∙ ap (λ t. slice_range whole (before f cs i + m) (before f cs k) ++ t) (ap (λ t. slice_range (f c) t b) at ∙ part_joined cs k 0 b c (omega (arith, to, h)) is (omega arith) in_chunk ∙ ap (λ t. slice_range whole t (before f cs k + b)) zero_more)
              ∙ part_joins whole (before f cs i + m) (before f cs k) (before f cs k + b) (omega (arith, first_more, in_first, earlier)) (omega arith) ∙ ap (slice_range whole (before f cs i + m)) (sym r)
