-- One tree more: its set is of no number that was there, and the table finds it.
use Rattle.std.proofs.Common.{◌≡◌, ◌≢◌, ◌⊎◌, inl, inr, ℕ, zero, suc, ◌+◌, ◌*◌, ◌/◌, ◌^◌, ◌-◌, ◌<◌, ◌≤◌, List, [], ◌∷◌, ◌++◌, Bool, true, cond, refl, sym, ap, ◌∙◌, arith, subst, ⊎_elim, length, get_or, length-append, eqb}
use Rattle.std.specs.List.{All, Contains}
use Rattle.std.specs.Prelude.{None, Option, Some}
use Rattle.std.proofs.lemmas.List.{get_or_append_left, get_or_push, length_push}
use Rattle.std.proofs.lemmas.List.Elements.{All-append, Contains-append_left}
use Rattle.std.proofs.lemmas.Nat.{same_from_place}
use Rattle.geom.proofs.Lists.{in_back, in_front}
use Rattle.cover_sets.specs.declared.tree.Tree.{Tree}
use Rattle.cover_sets.specs.Blocks.{InBlock, Splits}
use Rattle.cover_sets.specs.Key.{key_of}
use Rattle.cover_sets.specs.Sets.{AreSets, IsListed, IsNumber, set_of}
use Rattle.cover_sets.specs.Trees.{AreTrees, IsPart, IsTree, sets_of}
use Rattle.cover_sets.proofs.Numbers.{below_by_block, less_or}
use Rattle.cover_sets.proofs.Lists.{Ascend, ascend_both, few_ascend, of_all, one_split}
use Rattle.cover_sets.proofs.Numbered.{kind_of, number_added, of_alone, of_empty, old_or_new, other_than, set_added, set_stays}
use Rattle.cover_sets.proofs.Blocks.{at_block, no_less, whole}
use Rattle.cover_sets.proofs.TreeLaws.{length_of, length_some, part_is_number, sets_push, some_first, tree_set}

-- ---- two splits of one list are one
module _ (l m : ℕ) (xs ys us vs : List ℕ) (s : Splits l xs ys) (t : Splits m us vs) (e : xs ++ ys ≡ us ++ vs) (some_x : xs ≢ []) (some_y : ys ≢ []) (some_u : us ≢ []) (some_v : vs ≢ []) where
  one_less : l ≤ m
  one_less =
      let f = some_first xs some_x in
      let g = some_first ys some_y in
      let all : InBlock m t.prefix (xs ++ ys) = subst (InBlock m t.prefix) (sym e) (whole m us vs t) in
      no_less l xs ys s f.0 g.0 m t.prefix f.1 g.1 (at_block m t.prefix (xs ++ ys) all f.0 (in_front xs ys f.0 f.1)) (at_block m t.prefix (xs ++ ys) all g.0 (in_back xs ys g.0 g.1))

  other_less : m ≤ l
  other_less =
      let f = some_first us some_u in
      let g = some_first vs some_v in
      let all : InBlock l s.prefix (us ++ vs) = subst (InBlock l s.prefix) e (whole l xs ys s) in
      no_less m us vs t f.0 g.0 l s.prefix f.1 g.1 (at_block l s.prefix (us ++ vs) all f.0 (in_front us vs f.0 f.1)) (at_block l s.prefix (us ++ vs) all g.0 (in_back us vs g.0 g.1))

  same_level : s.level ≡ t.level
  same_level = let a = one_less in let b = other_less in let c = s.levels_is in let d = t.levels_is in omega arith

  same_prefix : s.prefix ≡ t.prefix
  same_prefix =
      let f = some_first xs some_x in
      let own = at_block l s.prefix (xs ++ ys) (whole l xs ys s) f.0 (in_front xs ys f.0 f.1) in
      let all : InBlock m t.prefix (xs ++ ys) = subst (InBlock m t.prefix) (sym e) (whole m us vs t) in
      let one : l ≡ m = (let a = one_less in let b = other_less in omega arith) in
      sym own ∙ subst (λ (n : ℕ). f.0 / 2 ^ n ≡ t.prefix) (sym one) (at_block m t.prefix (xs ++ ys) all f.0 (in_front xs ys f.0 f.1))

  pub same_parts : (xs ≡ us) × (ys ≡ vs)
  same_parts = one_split (λ f. f / 2 ^ s.level ≡ 2 * s.prefix) (λ f. f / 2 ^ s.level ≡ 2 * s.prefix + 1) (λ f h k. never (f / 2 ^ s.level) s.prefix h k) xs ys us vs e
      (λ f i. at_block s.level (2 * s.prefix) xs s.low_in f i) (λ f i. at_block s.level (2 * s.prefix + 1) ys s.high_in f i)
      (λ f i. subst (λ (n : ℕ). f / 2 ^ n ≡ 2 * s.prefix) (sym same_level) (at_block t.level (2 * t.prefix) us t.low_in f i ∙ ap (λ (n : ℕ). 2 * n) (sym same_prefix)))
      (λ f i. subst (λ (n : ℕ). f / 2 ^ n ≡ 2 * s.prefix + 1) (sym same_level) (at_block t.level (2 * t.prefix + 1) vs t.high_in f i ∙ ap (λ (n : ℕ). 2 * n + 1) (sym same_prefix)))
    where
      never : (q p : ℕ) → q ≡ 2 * p → q ≡ 2 * p + 1 → ⊥
      never q p h k = omega arith

-- ---- keys
pub key_parts : (a b c d : ℕ) → b < 4294967296 → d < 4294967296 → key_of a b ≡ key_of c d → (a ≡ c) × (b ≡ d)
key_parts a b c d l m e = same_from_place a b c d 4294967296 l m e

part_below : (place n : ℕ) → place ≤ 2147483648 → IsPart place n → n < 4294967296
part_below place n l (inl h) = omega arith
part_below place n l (inr h) = let a = h.1 in omega arith

number_below : (S : List (List ℕ)) (n : ℕ) → IsNumber S n → n < 4294967296
number_below S n (inl h) = let a = h.0 in omega arith
number_below S n (inr h) = let a = h.1 in omega arith

some_not_none : {X : Type 0} (o : Option X) (x : X) → o ≡ Some x → o ≡ None → ⊥
some_not_none o x h k = absurd (cc)

some_is : {X : Type 0} (o : Option X) (x y : X) → o ≡ Some x → o ≡ Some y → x ≡ y
some_is o x y h k = cc

-- a number that isn't that of the empty set has a set with features
pub has_features : (trees : List Tree) (found : ℕ → Option ℕ) → AreTrees trees found → (n : ℕ) → IsNumber (sets_of trees) n → n < 4294967295 → set_of (sets_of trees) n ≢ []
has_features trees found h n (inl i) l e =
    let at : n < length trees = (let q = length_of trees found h in let a = i.1 in omega arith) in
    let d : Tree = record { low = 0; high = 0; levels = 0; member = 0; size = 0 } in
    let t = h.each n d at in
    t.some_low (front_empty (set_of (sets_of trees) (get_or trees n d).low) (set_of (sets_of trees) (get_or trees n d).high) (sym (tree_set (sets_of trees) n (get_or trees n d) t i.0) ∙ e))
  where
    front_empty : (xs ys : List ℕ) → xs ++ ys ≡ [] → xs ≡ []
    front_empty [] ys q = refl
    front_empty (x ∷ xs) ys q = absurd (cc)
has_features trees found h n (inr i) l e = absurd (let k = sym (of_alone (sets_of trees) n i.0 l) ∙ e in cc)

-- ---- the tree that is added
module _ (trees : List Tree) (found next : ℕ → Option ℕ) (t : Tree) (h : AreTrees trees found)
    (few : length trees < 2147483648) (low : IsNumber (sets_of trees) t.low) (high : IsNumber (sets_of trees) t.high) (some_low : t.low < 4294967295) (some_high : t.high < 4294967295)
    (levels : t.levels ≤ 31) (splits : Splits t.levels (set_of (sets_of trees) t.low) (set_of (sets_of trees) t.high))
    (member : Contains (set_of (sets_of trees) t.low) t.member)
    (size : t.size ≡ length (set_of (sets_of trees) t.low) + length (set_of (sets_of trees) t.high))
    (absent : found (key_of t.low t.high) ≡ None)
    (updates : (q : ℕ) → next q ≡ cond (eqb (key_of t.low t.high) q) (Some (length trees)) (found q)) where
  S : List (List ℕ)
  S = sets_of trees

  abbrev L : List ℕ
  L = set_of (sets_of trees) t.low ++ set_of (sets_of trees) t.high

  abbrev T : List (List ℕ)
  T = sets_of trees ++ (set_of (sets_of trees) t.low ++ set_of (sets_of trees) t.high) ∷ []

  low_features : set_of (sets_of trees) t.low ≢ []
  low_features = has_features trees found h t.low low some_low

  high_features : set_of (sets_of trees) t.high ≢ []
  high_features = has_features trees found h t.high high some_high

  count : length (sets_of trees) ≡ length trees
  count = length_of trees found h

  room : length (sets_of trees) < 2147483648
  room = let e = count in omega arith

  pub next_sets : sets_of (trees ++ t ∷ []) ≡ T
  next_sets = sets_push [] trees t

  -- no number that was there has this set
  two_more : (xs ys : List ℕ) (f : ℕ) → xs ≢ [] → ys ≢ [] → f ∷ [] ≡ xs ++ ys → ⊥
  two_more xs ys f a b e = let k = ap (λ (l : List ℕ). length l) e ∙ length-append xs ys in let p = length_some xs a in let q = length_some ys b in let one : length (f ∷ []) ≡ 1 = refl in omega arith

  pub is_new : (n : ℕ) → IsNumber (sets_of trees) n → set_of (sets_of trees) n ≡ L → ⊥
  is_new n i e = by (kind_of (sets_of trees) n i)
    where
      by : ((n < 2147483648) × (n < length (sets_of trees))) ⊎ (((2147483648 ≤ n) × (n < 4294967295)) ⊎ (n ≡ 4294967295)) → ⊥
      by (inl k) =
          let at : n < length trees = (let q = count in let a = k.1 in omega arith) in
          let u = get_or trees n t in
          let is = h.each n t at in
          let same = same_parts u.levels t.levels (set_of (sets_of trees) u.low) (set_of (sets_of trees) u.high) (set_of (sets_of trees) t.low) (set_of (sets_of trees) t.high) is.splits splits
          (sym (tree_set (sets_of trees) n u is k.0) ∙ e) is.some_low is.some_high low_features high_features in
          let a : u.low ≡ t.low = h.sets.apart u.low t.low (part_is_number (sets_of trees) n u.low k.1 k.0 is.low) low same.0 in
          let b : u.high ≡ t.high = h.sets.apart u.high t.high (part_is_number (sets_of trees) n u.high k.1 k.0 is.high) high same.1 in
          some_not_none (found (key_of t.low t.high)) n (subst (λ (m : ℕ). found (key_of t.low m) ≡ Some n) b (subst (λ (m : ℕ). found (key_of m u.high) ≡ Some n) a (h.is_found n t at))) absent
      by (inr (inl k)) = two_more (set_of (sets_of trees) t.low) (set_of (sets_of trees) t.high) (n - 2147483648) low_features high_features (sym (of_alone (sets_of trees) n k.0 k.1) ∙ e)
      by (inr (inr k)) = low_features (front_empty (set_of (sets_of trees) t.low) (set_of (sets_of trees) t.high) (sym e ∙ of_empty (sets_of trees) n k))
        where
          front_empty : (xs ys : List ℕ) → xs ++ ys ≡ [] → xs ≡ []
          front_empty [] ys q = refl
          front_empty (x ∷ xs) ys q = absurd (cc)

  -- ---- the sets
  pub ascends : Ascend L
  ascends = ascend_both (set_of (sets_of trees) t.low) (set_of (sets_of trees) t.high) (h.sets.ascending t.low low) (h.sets.ascending t.high high)
      (λ x y i j. below_by_block splits.level x y (less (x / 2 ^ splits.level) (y / 2 ^ splits.level) splits.prefix (at_block splits.level (2 * splits.prefix) (set_of (sets_of trees) t.low) splits.low_in x i) (at_block splits.level (2 * splits.prefix + 1) (set_of (sets_of trees) t.high) splits.high_in y j)))
    where
      less : (a b p : ℕ) → a ≡ 2 * p → b ≡ 2 * p + 1 → a < b
      less a b p k l = omega arith

  all_below : All (λ f. f < 2147483647) L
  all_below = All-append (λ (f : ℕ). f < 2147483647) (set_of (sets_of trees) t.low) (set_of (sets_of trees) t.high) (h.sets.below t.low low) (h.sets.below t.high high)

  at_new : (n : ℕ) → n ≡ length (sets_of trees) → set_of T n ≡ L
  at_new n e = subst (λ (m : ℕ). set_of T m ≡ L) (sym e) (set_added (sets_of trees) L room)

  are_apart : (m n : ℕ) → IsNumber (sets_of trees) m ⊎ (m ≡ length (sets_of trees)) → IsNumber (sets_of trees) n ⊎ (n ≡ length (sets_of trees)) → set_of T m ≡ set_of T n → m ≡ n
  are_apart m n (inl i) (inl j) e = h.sets.apart m n i j (sym (set_stays (sets_of trees) L m i) ∙ e ∙ set_stays (sets_of trees) L n j)
  are_apart m n (inl i) (inr j) e = absurd (is_new m i (sym (set_stays (sets_of trees) L m i) ∙ e ∙ at_new n j))
  are_apart m n (inr i) (inl j) e = absurd (is_new n j (sym (set_stays (sets_of trees) L n j) ∙ sym e ∙ at_new m i))
  are_apart m n (inr i) (inr j) e = i ∙ sym j

  are_sets : AreSets T
  are_sets = record {
    ascending = λ n i. ⊎_elim (λ j. subst Ascend (sym (set_stays (sets_of trees) L n j)) (h.sets.ascending n j)) (λ e. subst Ascend (sym (at_new n e)) ascends) (old_or_new (sets_of trees) L n i);
    below = λ n i. ⊎_elim (λ j. subst (All (λ f. f < 2147483647)) (sym (set_stays (sets_of trees) L n j)) (h.sets.below n j)) (λ e. subst (All (λ f. f < 2147483647)) (sym (at_new n e)) all_below) (old_or_new (sets_of trees) L n i);
    apart = λ m n i j e. are_apart m n (old_or_new (sets_of trees) L m i) (old_or_new (sets_of trees) L n j) e;
  }

  -- ---- the trees
  stays : (place n : ℕ) → place < length trees → IsPart place n → set_of T n ≡ set_of (sets_of trees) n
  stays place n l i = set_stays (sets_of trees) L n (part_is_number (sets_of trees) place n (let e = count in omega arith) (omega arith) i)

  old_set : (place : ℕ) → place < length trees → get_or T place [] ≡ get_or (sets_of trees) place []
  old_set place l = get_or_append_left (sets_of trees) (L ∷ []) [] place (let e = count in omega arith)

  old_tree : (place : ℕ) (u : Tree) → place < length trees → IsTree (sets_of trees) place u → IsTree T place u
  old_tree place u l i = record {
    low = i.low;
    high = i.high;
    parts = old_set place l ∙ i.parts ∙ ap (λ (xs : List ℕ). xs ++ set_of (sets_of trees) u.high) (sym (stays place u.low l i.low)) ∙ ap (λ (xs : List ℕ). set_of T u.low ++ xs) (sym (stays place u.high l i.high));
    levels = i.levels;
    splits = subst (λ (xs : List ℕ). Splits u.levels xs (set_of T u.high)) (sym (stays place u.low l i.low)) (subst (λ (xs : List ℕ). Splits u.levels (set_of (sets_of trees) u.low) xs) (sym (stays place u.high l i.high)) i.splits);
    some_low = subst (λ (xs : List ℕ). xs ≢ []) (sym (stays place u.low l i.low)) i.some_low;
    some_high = subst (λ (xs : List ℕ). xs ≢ []) (sym (stays place u.high l i.high)) i.some_high;
    member = subst (λ (xs : List ℕ). Contains xs u.member) (sym (old_set place l)) i.member;
    size = i.size ∙ ap (λ (xs : List ℕ). length xs) (sym (old_set place l));
  }

  is_part : (n : ℕ) → IsNumber (sets_of trees) n → n < 4294967295 → IsPart (length trees) n
  is_part n (inl i) l = inl (let e = count in let a = i.1 in omega arith)
  is_part n (inr i) l = inr (i.0, l)

  new_set : get_or T (length trees) [] ≡ L
  new_set = get_or_push (sets_of trees) L [] (length trees) count

  new_tree : IsTree T (length trees) t
  new_tree = record {
    low = is_part t.low low some_low;
    high = is_part t.high high some_high;
    parts = new_set ∙ ap (λ (xs : List ℕ). xs ++ set_of (sets_of trees) t.high) (sym (set_stays (sets_of trees) L t.low low)) ∙ ap (λ (xs : List ℕ). set_of T t.low ++ xs) (sym (set_stays (sets_of trees) L t.high high));
    levels = levels;
    splits = subst (λ (xs : List ℕ). Splits t.levels xs (set_of T t.high)) (sym (set_stays (sets_of trees) L t.low low)) (subst (λ (xs : List ℕ). Splits t.levels (set_of (sets_of trees) t.low) xs) (sym (set_stays (sets_of trees) L t.high high)) splits);
    some_low = subst (λ (xs : List ℕ). xs ≢ []) (sym (set_stays (sets_of trees) L t.low low)) low_features;
    some_high = subst (λ (xs : List ℕ). xs ≢ []) (sym (set_stays (sets_of trees) L t.high high)) high_features;
    member = subst (λ (xs : List ℕ). Contains xs t.member) (sym new_set) (Contains-append_left (set_of (sets_of trees) t.low) (set_of (sets_of trees) t.high) t.member member);
    size = size ∙ sym (length-append (set_of (sets_of trees) t.low) (set_of (sets_of trees) t.high)) ∙ ap (λ (xs : List ℕ). length xs) (sym new_set);
  }

  each_tree : (place : ℕ) (d : Tree) → place < length (trees ++ t ∷ []) → IsTree T place (get_or (trees ++ t ∷ []) place d)
  each_tree place d l = ⊎_elim
      (λ k. subst (IsTree T place) (sym (get_or_append_left trees (t ∷ []) d place k)) (old_tree place (get_or trees place d) k (h.each place d k)))
      (λ k. let e : length trees ≡ place = (let a = length_push trees t in omega arith) in
      subst (IsTree T place) (sym (get_or_push trees t d place e)) (subst (λ (n : ℕ). IsTree T n t) e new_tree))
      (less_or place (length trees))

  -- ---- the table
  found_there : (q : ℕ) → q ≡ key_of t.low t.high → next q ≡ Some (length trees)
  found_there q e = updates q ∙ ap (λ (b : Bool). cond b (Some (length trees)) (found q)) (same (key_of t.low t.high) q (sym e))
    where
      same : (m n : ℕ) → m ≡ n → eqb m n ≡ true
      same m n k = grind arith

  found_elsewhere : (q : ℕ) → ¬ (key_of t.low t.high ≡ q) → next q ≡ found q
  found_elsewhere q n = updates q ∙ ap (λ (b : Bool). cond b (Some (length trees)) (found q)) (other_than (key_of t.low t.high) q n)

  same_or_not : (m n : ℕ) → (m ≡ n) ⊎ (¬ (m ≡ n))
  same_or_not zero zero = inl refl
  same_or_not zero (suc n) = inr (λ e. omega arith)
  same_or_not (suc m) zero = inr (λ e. omega arith)
  same_or_not (suc m) (suc n) = ⊎_elim (λ e. inl (ap suc e)) (λ d. inr (λ e. d (omega arith))) (same_or_not m n)

  key_at : ℕ → Tree → ℕ
  key_at place d = key_of (get_or (trees ++ t ∷ []) place d).low (get_or (trees ++ t ∷ []) place d).high

  old_key : (place : ℕ) (d : Tree) → place < length trees → key_of (get_or (trees ++ t ∷ []) place d).low (get_or (trees ++ t ∷ []) place d).high ≡ key_of (get_or trees place d).low (get_or trees place d).high
  old_key place d l = ap (λ (u : Tree). key_of u.low u.high) (get_or_append_left trees (t ∷ []) d place l)

  new_key : (place : ℕ) (d : Tree) → length trees ≡ place → key_of (get_or (trees ++ t ∷ []) place d).low (get_or (trees ++ t ∷ []) place d).high ≡ key_of t.low t.high
  new_key place d e = ap (λ (u : Tree). key_of u.low u.high) (get_or_push trees t d place e)

  found_each : (place : ℕ) (d : Tree) → place < length (trees ++ t ∷ []) → next (key_of (get_or (trees ++ t ∷ []) place d).low (get_or (trees ++ t ∷ []) place d).high) ≡ Some place
  found_each place d l = ⊎_elim
      (λ k. subst (λ (q : ℕ). next q ≡ Some place) (sym (old_key place d k)) (found_elsewhere (key_of (get_or trees place d).low (get_or trees place d).high)
      (λ e. some_not_none (found (key_of t.low t.high)) place (subst (λ (q : ℕ). found q ≡ Some place) (sym e) (h.is_found place d k)) absent) ∙ h.is_found place d k))
      (λ k. let e : length trees ≡ place = (let a = length_push trees t in omega arith) in
      found_there (key_of (get_or (trees ++ t ∷ []) place d).low (get_or (trees ++ t ∷ []) place d).high) (new_key place d e) ∙ ap (λ (n : ℕ). Some n) e)
      (less_or place (length trees))

  there_each : (key place : ℕ) → next key ≡ Some place → (place < length (trees ++ t ∷ [])) × ((d : Tree) → key ≡ key_of (get_or (trees ++ t ∷ []) place d).low (get_or (trees ++ t ∷ []) place d).high)
  there_each key place e = ⊎_elim
      (λ k. let p : length trees ≡ place = some_is (next key) (length trees) place (found_there key (sym k)) e in
      ((let a = length_push trees t in omega arith), λ d. sym k ∙ sym (new_key place d p)))
      (λ n. let r = h.is_there key place (sym (found_elsewhere key n) ∙ e) in
      ((let a = length_push trees t in let b = r.0 in omega arith), λ d. r.1 d ∙ sym (old_key place d r.0)))
      (same_or_not (key_of t.low t.high) key)

  pub next_trees : AreTrees (trees ++ t ∷ []) next
  next_trees = record {
    few = (let a = length_push trees t in omega arith);
    sets = subst AreSets (sym next_sets) are_sets;
    each = λ place d l. subst (λ (U : List (List ℕ)). IsTree U place (get_or (trees ++ t ∷ []) place d)) (sym next_sets) (each_tree place d l);
    is_found = found_each;
    is_there = there_each;
  }

-- ---- both parts, where the table has their tree or not
less_block : (a b p : ℕ) → a ≡ 2 * p → b ≡ 2 * p + 1 → a < b
less_block a b p h k = omega arith

module _ (V : List (List ℕ)) (sets : AreSets V) (low high : ℕ) (is_low : IsNumber V low) (is_high : IsNumber V high) (levels : ℕ) (s : Splits levels (set_of V low) (set_of V high)) where
  both_ascend : Ascend (set_of V low ++ set_of V high)
  both_ascend = ascend_both (set_of V low) (set_of V high) (sets.ascending low is_low) (sets.ascending high is_high)
      (λ x y i j. below_by_block s.level x y (less_block (x / 2 ^ s.level) (y / 2 ^ s.level) s.prefix (at_block s.level (2 * s.prefix) (set_of V low) s.low_in x i) (at_block s.level (2 * s.prefix + 1) (set_of V high) s.high_in y j)))

  both_below : All (λ f. f < 2147483647) (set_of V low ++ set_of V high)
  both_below = All-append (λ (f : ℕ). f < 2147483647) (set_of V low) (set_of V high) (sets.below low is_low) (sets.below high is_high)

  -- a set's size fits 32 bits
  pub both_few : length (set_of V low) + length (set_of V high) ≤ 2147483647
  both_few =
      let e = length-append (set_of V low) (set_of V high) in
      let k = few_ascend 0 2147483647 (set_of V low ++ set_of V high) both_ascend (λ x i. (omega arith, of_all (λ (f : ℕ). f < 2147483647) (set_of V low ++ set_of V high) both_below x i)) (omega arith) in
      omega arith

module _ (trees : List Tree) (found : ℕ → Option ℕ) (V : List (List ℕ)) (h : AreTrees trees found) (v : sets_of trees ≡ V) (low high : ℕ) (is_low : IsNumber V low) (is_high : IsNumber V high) where
  -- what the table finds is the set of both parts
  pub found_both : (k : ℕ) → found (key_of low high) ≡ Some k → IsNumber V k × (set_of V k ≡ set_of V low ++ set_of V high)
  found_both k e =
      let d : Tree = record { low = 0; high = 0; levels = 0; member = 0; size = 0 } in
      let r = h.is_there (key_of low high) k e in
      let t = get_or trees k d in
      let is : IsTree V k t = subst (λ (U : List (List ℕ)). IsTree U k t) v (h.each k d r.0) in
      let few = h.few in
      let size : length V ≡ length trees = ap (λ (xs : List (List ℕ)). length xs) (sym v) ∙ length_of trees found h in
      let small : k < 2147483648 = (let a = r.0 in omega arith) in
      let same = key_parts low high t.low t.high (number_below V high is_high) (part_below k t.high (omega arith) is.high) (r.1 d) in (
        inl (small, (let a = r.0 in omega arith)),
        tree_set V k t is small ∙ ap (λ (n : ℕ). set_of V n ++ set_of V t.high) (sym same.0) ∙ ap (λ (n : ℕ). set_of V low ++ set_of V n) (sym same.1),
      )

-- the tree that is added otherwise
module _ (trees : List Tree) (found next : ℕ → Option ℕ) (V : List (List ℕ)) (t : Tree) (h : AreTrees trees found) (v : sets_of trees ≡ V)
    (few : length trees < 2147483648) (low : IsNumber V t.low) (high : IsNumber V t.high) (some_low : t.low < 4294967295) (some_high : t.high < 4294967295)
    (levels : t.levels ≤ 31) (splits : Splits t.levels (set_of V t.low) (set_of V t.high)) (member : Contains (set_of V t.low) t.member)
    (size : t.size ≡ length (set_of V t.low) + length (set_of V t.high)) (absent : found (key_of t.low t.high) ≡ None)
    (updates : (q : ℕ) → next q ≡ cond (eqb (key_of t.low t.high) q) (Some (length trees)) (found q)) where
  pub added_trees : AreTrees (trees ++ t ∷ []) next
  added_trees = next_trees trees found next t h few
      (subst (λ (U : List (List ℕ)). IsNumber U t.low) (sym v) low)
      (subst (λ (U : List (List ℕ)). IsNumber U t.high) (sym v) high)
      some_low some_high levels
      (subst (λ (U : List (List ℕ)). Splits t.levels (set_of U t.low) (set_of U t.high)) (sym v) splits)
      (subst (λ (U : List (List ℕ)). Contains (set_of U t.low) t.member) (sym v) member)
      (subst (λ (U : List (List ℕ)). t.size ≡ length (set_of U t.low) + length (set_of U t.high)) (sym v) size)
      absent updates

-- its set comes behind the others, and has the next number
pub sets_added : (trees : List Tree) (V : List (List ℕ)) (t : Tree) → sets_of trees ≡ V → sets_of (trees ++ t ∷ []) ≡ V ++ (set_of V t.low ++ set_of V t.high) ∷ []
sets_added trees V t v = subst (λ (U : List (List ℕ)). sets_of (trees ++ t ∷ []) ≡ U ++ (set_of U t.low ++ set_of U t.high) ∷ []) v (sets_push [] trees t)

pub number_of_added : (trees : List Tree) (found : ℕ → Option ℕ) (V : List (List ℕ)) (both : List ℕ) → AreTrees trees found → sets_of trees ≡ V → length trees < 2147483648 → (n : ℕ) → n ≡ length trees → IsListed (V ++ both ∷ []) both n
number_of_added trees found V both h v few n e =
    let size : length V ≡ length trees = ap (λ (xs : List (List ℕ)). length xs) (sym v) ∙ length_of trees found h in
    let small : length V < 2147483648 = omega arith in
    let same : length V ≡ n = size ∙ sym e in
    subst (IsListed (V ++ both ∷ []) both) same (number_added V both small, set_added V both small)
