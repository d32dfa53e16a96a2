-- The trees of sets: what a tree tells of its set.
use Rattle.std.proofs.Common.{◌≡◌, ◌≢◌, inl, inr, ℕ, ◌+◌, ◌*◌, ◌/◌, ◌^◌, ◌<◌, ◌≤◌, List, [], ◌∷◌, ◌++◌, refl, sym, ap, ◌∙◌, arith, subst, length, get_or, length-append}
use Rattle.std.specs.List.{Contains}
use Rattle.std.specs.Prelude.{Option}
use Rattle.std.proofs.lemmas.List.{length_push}
use Rattle.geom.proofs.Lists.{In, contains_in, in_back, in_front}
use Rattle.cover_sets.specs.declared.tree.Tree.{Tree}
use Rattle.cover_sets.specs.Blocks.{InBlock, IsInBlock}
use Rattle.cover_sets.specs.Sets.{IsNumber, set_of}
use Rattle.cover_sets.specs.Trees.{AreTrees, IsPart, IsTree, sets_after, sets_of}
use Rattle.cover_sets.proofs.Blocks.{at_block, block_of, no_less, whole}
use Rattle.cover_sets.proofs.Numbered.{of_tree}

-- ---- the sets of trees
pub length_sets : (S : List (List ℕ)) (ts : List Tree) → length (sets_after S ts) ≡ length S + length ts
length_sets S [] = omega arith
length_sets S (t ∷ ts) = let e = length_sets (S ++ (set_of S t.low ++ set_of S t.high) ∷ []) ts in let k = length_push S (set_of S t.low ++ set_of S t.high) in omega arith

pub sets_push : (S : List (List ℕ)) (ts : List Tree) (t : Tree) → sets_after S (ts ++ t ∷ []) ≡ sets_after S ts ++ (set_of (sets_after S ts) t.low ++ set_of (sets_after S ts) t.high) ∷ []
sets_push S [] t = refl
sets_push S (u ∷ us) t = sets_push (S ++ (set_of S u.low ++ set_of S u.high) ∷ []) us t

pub some_first : (xs : List ℕ) → xs ≢ [] → (f : ℕ) × In f xs
some_first [] n = absurd (n refl)
some_first (x ∷ xs) n = (x, inl refl)

pub length_some : (xs : List ℕ) → xs ≢ [] → 0 < length xs
length_some [] n = absurd (n refl)
length_some (x ∷ xs) n = omega arith

-- ---- a tree's parts are numbers
pub part_is_number : (S : List (List ℕ)) (place n : ℕ) → place < length S → place < 2147483648 → IsPart place n → IsNumber S n
part_is_number S place n l b (inl h) = inl (omega arith, omega arith)
part_is_number S place n l b (inr h) = inr (h.0, (let a = h.1 in omega arith))

module _ (S : List (List ℕ)) (place : ℕ) (t : Tree) (h : IsTree S place t) (b : place < 2147483648) where
  pub tree_set : set_of S place ≡ set_of S t.low ++ set_of S t.high
  tree_set = of_tree S place b ∙ h.parts

  pub tree_member : Contains (set_of S place) t.member
  tree_member = subst (λ (xs : List ℕ). Contains xs t.member) (sym (of_tree S place b)) h.member

  pub tree_size : t.size ≡ length (set_of S place)
  tree_size = h.size ∙ ap (λ (xs : List ℕ). length xs) (sym (of_tree S place b))

  pub tree_block : InBlock t.levels (t.member / 2 ^ t.levels) (set_of S place)
  tree_block = block_of t.levels t.levels h.splits.prefix (set_of S place) t.member (omega arith)
      (subst (λ (xs : List ℕ). InBlock t.levels h.splits.prefix xs) (sym tree_set) (whole t.levels (set_of S t.low) (set_of S t.high) h.splits))
      (contains_in (set_of S place) t.member tree_member)

  pub tree_least : (l : ℕ) → IsInBlock l (set_of S place) → t.levels ≤ l
  tree_least l k =
      let f = some_first (set_of S t.low) h.some_low in
      let g = some_first (set_of S t.high) h.some_high in
      let own : InBlock l k.0 (set_of S t.low ++ set_of S t.high) = subst (λ (xs : List ℕ). InBlock l k.0 xs) tree_set k.1 in
      no_less t.levels (set_of S t.low) (set_of S t.high) h.splits f.0 g.0 l k.0 f.1 g.1
      (at_block l k.0 (set_of S t.low ++ set_of S t.high) own f.0 (in_front (set_of S t.low) (set_of S t.high) f.0 f.1))
      (at_block l k.0 (set_of S t.low ++ set_of S t.high) own g.0 (in_back (set_of S t.low) (set_of S t.high) g.0 g.1))

  -- the parts are the halves of the block
  pub tree_halves : (level p : ℕ) → t.levels ≡ level + 1 → InBlock (level + 1) p (set_of S place) → InBlock level (2 * p) (set_of S t.low) × InBlock level (2 * p + 1) (set_of S t.high)
  tree_halves level p e k = (
    subst (λ (n : ℕ). InBlock n (2 * p) (set_of S t.low)) same (subst (λ (q : ℕ). InBlock h.splits.level (2 * q) (set_of S t.low)) prefix h.splits.low_in),
    subst (λ (n : ℕ). InBlock n (2 * p + 1) (set_of S t.high)) same (subst (λ (q : ℕ). InBlock h.splits.level (2 * q + 1) (set_of S t.high)) prefix h.splits.high_in),
  )
    where
      same : h.splits.level ≡ level
      same = let l = h.splits.levels_is in omega arith

      f : (x : ℕ) × In x (set_of S t.low)
      f = some_first (set_of S t.low) h.some_low

      prefix : h.splits.prefix ≡ p
      prefix =
          let i = in_front (set_of S t.low) (set_of S t.high) f.0 f.1 in
          let own = at_block t.levels h.splits.prefix (set_of S t.low ++ set_of S t.high) (whole t.levels (set_of S t.low) (set_of S t.high) h.splits) f.0 i in
          let all : InBlock (level + 1) p (set_of S t.low ++ set_of S t.high) = subst (λ (xs : List ℕ). InBlock (level + 1) p xs) tree_set k in
          sym own ∙ ap (λ (n : ℕ). f.0 / 2 ^ n) e ∙ at_block (level + 1) p (set_of S t.low ++ set_of S t.high) all f.0 i

  pub tree_some_levels : 0 < t.levels
  tree_some_levels = let e = h.splits.levels_is in omega arith

  pub tree_low_shorter : length (set_of S t.low) < length (set_of S place)
  tree_low_shorter = let e = ap (λ (xs : List ℕ). length xs) tree_set ∙ length-append (set_of S t.low) (set_of S t.high) in let s = length_some (set_of S t.high) h.some_high in omega arith

  pub tree_high_shorter : length (set_of S t.high) < length (set_of S place)
  tree_high_shorter = let e = ap (λ (xs : List ℕ). length xs) tree_set ∙ length-append (set_of S t.low) (set_of S t.high) in let s = length_some (set_of S t.low) h.some_low in omega arith

  pub tree_many : 2 ≤ length (set_of S place)
  tree_many = let e = ap (λ (xs : List ℕ). length xs) tree_set ∙ length-append (set_of S t.low) (set_of S t.high) in let s = length_some (set_of S t.high) h.some_high in let r = length_some (set_of S t.low) h.some_low in omega arith

-- ---- trees that are kept
module _ (trees : List Tree) (found : ℕ → Option ℕ) (h : AreTrees trees found) where
  pub length_of : length (sets_of trees) ≡ length trees
  length_of = let e = length_sets [] trees in omega arith

  pub tree_at : (place : ℕ) (d : Tree) → place < length trees → IsTree (sets_of trees) place (get_or trees place d)
  tree_at place d l = h.each place d l
