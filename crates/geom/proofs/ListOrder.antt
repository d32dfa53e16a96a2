-- The order of lists of points is strict and total; a strict order has one ascending list of the same elements.
use Rattle.std.proofs.Common.{◌≡◌, ◌⊎◌, inl, inr, suc, List, [], ◌∷◌, refl, sym, ◌∙◌, ap, subst, ⊎_elim, arith}
use Rattle.std.specs.Prelude.{AllPairs, Contains}
use Rattle.geom.specs.declared.point.Pt.{Pt}
use Rattle.geom.specs.Order.{IsBefore}
use Rattle.geom.specs.ListOrder.{IsListBefore}
use Rattle.geom.proofs.Edges.{PtOrder, pt_order}
use Rattle.geom.proofs.Edges.PtOrder.{before, equal, after}
use Rattle.geom.proofs.Lists.{In, contains_in, in_contains}
use Rattle.geom.proofs.Orders.{before_trans, before_itself}

-- ---- of two lists one is before the other, or they are one
pub list_before_itself : (xs : List Pt) → IsListBefore xs xs → ⊥
list_before_itself [] h = h
list_before_itself (x ∷ xs) (inl h) = before_itself x h
list_before_itself (x ∷ xs) (inr (e, h)) = list_before_itself xs h

pub list_before_trans : (xs ys zs : List Pt) → IsListBefore xs ys → IsListBefore ys zs → IsListBefore xs zs
list_before_trans [] [] zs h k = absurd h
list_before_trans [] (y ∷ ys) [] h k = absurd k
list_before_trans [] (y ∷ ys) (z ∷ zs) h k = tt
list_before_trans (x ∷ xs) [] zs h k = absurd h
list_before_trans (x ∷ xs) (y ∷ ys) [] h k = absurd k
list_before_trans (x ∷ xs) (y ∷ ys) (z ∷ zs) (inl h) (inl k) = inl (before_trans x y z h k)
list_before_trans (x ∷ xs) (y ∷ ys) (z ∷ zs) (inl h) (inr (f, k)) = inl (subst (λ (p : Pt). IsBefore x p) f h)
list_before_trans (x ∷ xs) (y ∷ ys) (z ∷ zs) (inr (e, h)) (inl k) = inl (subst (λ (p : Pt). IsBefore p z) (sym e) k)
list_before_trans (x ∷ xs) (y ∷ ys) (z ∷ zs) (inr (e, h)) (inr (f, k)) = inr (e ∙ f, list_before_trans xs ys zs h k)

pub list_order : (xs ys : List Pt) → (xs ≡ ys) ⊎ (IsListBefore xs ys ⊎ IsListBefore ys xs)
list_order [] [] = inl refl
list_order [] (y ∷ ys) = inr (inl tt)
list_order (x ∷ xs) [] = inr (inr tt)
list_order (x ∷ xs) (y ∷ ys) = heads (pt_order x y) (list_order xs ys)
  where
    heads : PtOrder x y → (xs ≡ ys) ⊎ (IsListBefore xs ys ⊎ IsListBefore ys xs) → (x ∷ xs ≡ y ∷ ys) ⊎ (IsListBefore (x ∷ xs) (y ∷ ys) ⊎ IsListBefore (y ∷ ys) (x ∷ xs))
    heads (before h) o = inr (inl (inl h))
    heads (after h) o = inr (inr (inl h))
    heads (equal e) (inl q) = inl (cc)
    heads (equal e) (inr (inl h)) = inr (inl (inr (e, h)))
    heads (equal e) (inr (inr h)) = inr (inr (inr (sym e, h)))

pub neither_list_before : (xs ys : List Pt) → ¬ (IsListBefore xs ys) → ¬ (IsListBefore ys xs) → xs ≡ ys
neither_list_before xs ys n m = ⊎_elim (λ e. e) (λ o. absurd (⊎_elim n m o)) (list_order xs ys)

-- ---- one ascending list
pub pairs_head : {X : Type 0} (R : X → X → Type 0) (x : X) (xs : List X) → AllPairs R (x ∷ xs) → (y : X) → In y xs → R x y
pairs_head R x xs h y i = at (in_contains xs y i)
  where
    at : Contains xs y → R x y
    at (k, l, e) = subst (R x) e (h 0 (suc k) y (omega arith) (omega arith))

pub pairs_tail : {X : Type 0} (R : X → X → Type 0) (x : X) (xs : List X) → AllPairs R (x ∷ xs) → AllPairs R xs
pairs_tail R x xs h i j d l k = h (suc i) (suc j) d (omega arith) (omega arith)

module _ {X : Type 0} (Before : X → X → Type 0) (never : (x : X) → Before x x → ⊥) (trans : (x y z : X) → Before x y → Before y z → Before x z) where
  first_same : (x y : X) (xs ys : List X) → AllPairs Before (x ∷ xs) → AllPairs Before (y ∷ ys) → In x (y ∷ ys) → In y (x ∷ xs) → x ≡ y
  first_same x y xs ys h k (inl e) j = sym e
  first_same x y xs ys h k (inr i) (inl e) = e
  first_same x y xs ys h k (inr i) (inr j) = absurd (never x (trans x y x (pairs_head Before x xs h y j) (pairs_head Before y ys k x i)))

  rest_in : (x y : X) (xs ys : List X) → AllPairs Before (x ∷ xs) → x ≡ y → ((z : X) → In z (x ∷ xs) → In z (y ∷ ys)) → (z : X) → In z xs → In z ys
  rest_in x y xs ys h e f z i = ⊎_elim (λ q. absurd (never x (subst (Before x) (sym (e ∙ q)) (pairs_head Before x xs h z i)))) (λ j. j) (f z (inr i))

  same_ascending_in : (xs ys : List X) → AllPairs Before xs → AllPairs Before ys → ((x : X) → In x xs → In x ys) → ((x : X) → In x ys → In x xs) → xs ≡ ys
  same_ascending_in [] [] h k f g = refl
  same_ascending_in [] (y ∷ ys) h k f g = absurd (g y (inl refl))
  same_ascending_in (x ∷ xs) [] h k f g = absurd (f x (inl refl))
  same_ascending_in (x ∷ xs) (y ∷ ys) h k f g =
      let e : x ≡ y = first_same x y xs ys h k (f x (inl refl)) (g y (inl refl)) in
      let q : xs ≡ ys = same_ascending_in xs ys (pairs_tail Before x xs h) (pairs_tail Before y ys k) (rest_in x y xs ys h e f) (rest_in y x ys xs k (sym e) g) in
      ap (λ z. z ∷ xs) e ∙ ap (λ zs. y ∷ zs) q

  -- two lists ascending in one strict order, with the same elements, are one list
  pub same_ascending : (xs ys : List X) → AllPairs Before xs → AllPairs Before ys → ((x : X) → Contains xs x → Contains ys x) → ((x : X) → Contains ys x → Contains xs x) → xs ≡ ys
  same_ascending xs ys h k f g = same_ascending_in xs ys h k (λ x i. contains_in ys x (f x (in_contains xs x i))) (λ x i. contains_in xs x (g x (in_contains ys x i)))
