-- What loops that read a list in order keep of it.
use Rattle.std.proofs.Common.{◌≡◌, ℕ, ◌+◌, ◌<◌, List, [], ◌∷◌, ◌++◌, Bool, true, false, cond, sym, ap, ◌∙◌, append-nil, length, get_or, take}
use Rattle.std.specs.Prelude.{filter}
use Rattle.std.proofs.lemmas.List.{take_more}
use Rattle.std.proofs.lemmas.List.Elements.{filter-append}

module _ {X : Type 0} (xs : List X) (i : ℕ) (x : X) (inside : i < length xs) (is : x ≡ get_or xs i x) where
  -- one item more is read
  pub read_more : take (i + 1) xs ≡ take i xs ++ x ∷ []
  read_more = take_more xs i x inside ∙ ap (λ (y : X). take i xs ++ y ∷ []) (sym is)

  module _ (p : X → Bool) (list : List X) (known : list ≡ filter p (take i xs)) where
    passed : (b : Bool) → p x ≡ b → filter p (take (i + 1) xs) ≡ list ++ cond b (x ∷ []) []
    passed b e = ap (filter p) read_more ∙ filter-append p (take i xs) (x ∷ []) ∙ ap (λ (ys : List X). ys ++ cond (p x) (x ∷ []) []) (sym known) ∙ ap (λ (c : Bool). list ++ cond c (x ∷ []) []) e

    pub kept : true ≡ p x → list ++ x ∷ [] ≡ filter p (take (i + 1) xs)
    kept e = sym (passed true (sym e))

    pub left_out : false ≡ p x → list ≡ filter p (take (i + 1) xs)
    left_out e = sym (passed false (sym e) ∙ append-nil list)
