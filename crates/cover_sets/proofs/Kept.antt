-- What the fields of sets tell of their numbers.
use Rattle.std.proofs.Common.{◌≡◌, inl, inr, ℕ, ◌<◌, List, sym, ap, ◌∙◌, arith, subst, length, get_or}
use Rattle.std.specs.Prelude.{Option}
use Rattle.cover_sets.specs.declared.tree.Tree.{Tree}
use Rattle.cover_sets.specs.Sets.{AreSets, IsNumber}
use Rattle.cover_sets.specs.Trees.{AreTrees, IsTree, sets_of}
use Rattle.cover_sets.proofs.TreeLaws.{length_of}

module _ (trees : List Tree) (found : ℕ → Option ℕ) (V : List (List ℕ)) (h : AreTrees trees found) (v : sets_of trees ≡ V) where
  pub read_sets : AreSets V
  read_sets = subst AreSets v h.sets

  pub read_length : length V ≡ length trees
  read_length = ap (λ (xs : List (List ℕ)). length xs) (sym v) ∙ length_of trees found h

  pub read_small : (n : ℕ) → n < length V → n < 2147483648
  read_small n l = let e = read_length in let f = h.few in omega arith

  pub read_within : (n : ℕ) → IsNumber V n → n < 2147483648 → n < length trees
  read_within n (inl i) b = let e = read_length in let a = i.1 in omega arith
  read_within n (inr i) b = absurd (let a = i.0 in omega arith)

  pub read_tree : (n : ℕ) (d : Tree) → n < length trees → IsTree V n (get_or trees n d)
  read_tree n d l = subst (λ (U : List (List ℕ)). IsTree U n (get_or trees n d)) v (h.each n d l)
