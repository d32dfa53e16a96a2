-- A ring is cut in one way.
use Rattle.std.proofs.Common.{◌≡◌, ◌⊎◌, inl, inr, List, [], ◌∷◌, ◌++◌, refl, sym, ◌∙◌, ap, subst, ⊎_elim}
use Rattle.geom.specs.Rings.{IsSimple, IsCut}
use Rattle.geom.specs.Rings.IsCut.{whole, taken}
use Rattle.geom.proofs.Lists.{In, Distinct}
use Rattle.geom.proofs.ListOrder.{pairs_head, pairs_tail}

pub simple_distinct : {X : Type 0} (xs : List X) → IsSimple xs → Distinct xs
simple_distinct [] s = tt
simple_distinct {X} (x ∷ xs) s = ((λ i. pairs_head (λ (p q : X). ¬ (p ≡ q)) x xs s x i refl), simple_distinct xs (pairs_tail (λ (p q : X). ¬ (p ≡ q)) x xs s))

pub in_middle : {X : Type 0} (front : List X) (v : X) (back : List X) → In v (front ++ v ∷ back)
in_middle [] v back = inl refl
in_middle (x ∷ front) v back = inr (in_middle front v back)

-- the first place whose element stood earlier, where those before it are different
record Same {X : Type 0} (a b : List X) (v w : X) (xs ys : List X) : Type 0 where
  before : a ≡ b
  here : v ≡ w
  after : xs ≡ ys

same_more : {X : Type 0} (x y : X) (a b : List X) (v w : X) (xs ys : List X) → x ≡ y → Same a b v w xs ys → Same (x ∷ a) (y ∷ b) v w xs ys
same_more x y a b v w xs ys e s = record { before = (let p : a ≡ b = s.before in cc); here = s.here; after = s.after }

first_place : {X : Type 0} (Earlier : X → Type 0) (a b : List X) (v w : X) (xs ys : List X) → a ++ v ∷ xs ≡ b ++ w ∷ ys → Earlier v ⊎ In v a → Earlier w ⊎ In w b → Distinct a → Distinct b
    → ((x : X) → In x a → ¬ (Earlier x)) → ((x : X) → In x b → ¬ (Earlier x)) → Same a b v w xs ys
first_place Earlier [] [] v w xs ys e i j da db fa fb = record { before = refl; here = cc; after = cc }
first_place Earlier [] (y ∷ b) v w xs ys e (inl s) j da db fa fb = absurd (fb y (inl refl) (let q : v ≡ y = cc in subst Earlier q s))
first_place Earlier [] (y ∷ b) v w xs ys e (inr i) j da db fa fb = absurd i
first_place Earlier (x ∷ a) [] v w xs ys e i (inl s) da db fa fb = absurd (fa x (inl refl) (let q : w ≡ x = cc in subst Earlier q s))
first_place Earlier (x ∷ a) [] v w xs ys e i (inr j) da db fa fb = absurd j
first_place {X} Earlier (x ∷ a) (y ∷ b) v w xs ys e i j da db fa fb =
    same_more x y a b v w xs ys same (first_place (λ z. Earlier z ⊎ (x ≡ z)) a b v w xs ys (cc) (now v a x i) (now_2 j) da.1 db.1
    (λ z k. ⊎_elim (fa z (inr k)) (λ q. da.0 (subst (λ t. In t a) (sym q) k)))
    (λ z k. ⊎_elim (fb z (inr k)) (λ q. db.0 (subst (λ t. In t b) (sym (sym same ∙ q)) k))))
  where
    same : x ≡ y
    same = cc

    now : (u : X) (l : List X) (h : X) → Earlier u ⊎ In u (h ∷ l) → (Earlier u ⊎ (h ≡ u)) ⊎ In u l
    now u l h (inl s) = inl (inl s)
    now u l h (inr (inl q)) = inl (inr q)
    now u l h (inr (inr k)) = inr k

    now_2 : Earlier w ⊎ In w (y ∷ b) → (Earlier w ⊎ (x ≡ w)) ⊎ In w b
    now_2 (inl s) = inl (inl s)
    now_2 (inr (inl q)) = inl (inr (same ∙ q))
    now_2 (inr (inr k)) = inr k

-- where it stood
record SameMiddle {X : Type 0} (f g xs ys : List X) : Type 0 where
  front : f ≡ g
  rest : xs ≡ ys

middle_more : {X : Type 0} (x y : X) (f g xs ys : List X) → x ≡ y → SameMiddle f g xs ys → SameMiddle (x ∷ f) (y ∷ g) xs ys
middle_more x y f g xs ys e s = record { front = (let p : f ≡ g = s.front in cc); rest = s.rest }

earlier_place : {X : Type 0} (f g : List X) (v w : X) (xs ys : List X) → v ≡ w → f ++ v ∷ xs ≡ g ++ w ∷ ys → Distinct (f ++ v ∷ xs) → SameMiddle f g xs ys
earlier_place [] [] v w xs ys q e d = record { front = refl; rest = cc }
earlier_place {X} [] (y ∷ g) v w xs ys q e d = absurd (d.0 (subst (λ l. In v l) (sym rest) (subst (λ t. In t (g ++ w ∷ ys)) (sym q) (in_middle g w ys))))
  where
    rest : xs ≡ g ++ w ∷ ys
    rest = cc
earlier_place {X} (x ∷ f) [] v w xs ys q e d = absurd (d.0 (subst (λ t. In t (f ++ v ∷ xs)) (sym same) (in_middle f v xs)))
  where
    first : x ≡ w
    first = cc

    same : x ≡ v
    same = first ∙ sym q
earlier_place (x ∷ f) (y ∷ g) v w xs ys q e d = middle_more x y f g xs ys (cc) (earlier_place f g v w xs ys q (cc) d.1)

-- ---- the cut
twice : {X : Type 0} (a : List X) (v : X) (back : List X) → In v a → ¬ (Distinct (a ++ v ∷ back))
twice [] v back i d = i
twice (x ∷ a) v back (inl e) d = d.0 (subst (λ t. In t (a ++ v ∷ back)) (sym e) (in_middle a v back))
twice (x ∷ a) v back (inr i) d = twice a v back i d.1

not_whole : {X : Type 0} (ring front : List X) (v : X) (mid back : List X) → ring ≡ (front ++ v ∷ mid) ++ v ∷ back → ¬ (IsSimple ring)
not_whole {X} ring front v mid back e s = twice (front ++ v ∷ mid) v back (in_middle front v mid) (subst Distinct e (simple_distinct ring s))

same_cut : {X : Type 0} {x y : List X} {ps qs : List (List X)} → IsCut x ps → IsCut y qs → x ≡ y → ps ≡ qs
same_cut (whole {ring = x} s) (whole {ring = y} t) e = ap (λ z. z ∷ []) e
same_cut (whole {ring = x} s) (taken {ring = y} {pieces = qs} front v mid back q t c) e = absurd (not_whole x front v mid back (e ∙ q) s)
same_cut (taken {ring = x} {pieces = ps} front v mid back p t c) (whole {ring = y} s) e = absurd (not_whole y front v mid back (sym e ∙ p) s)
same_cut (taken {ring = x} {pieces = ps} f v m b p s c) (taken {ring = y} {pieces = qs} g w n k q t d) e = one_more (λ r. same_cut c d r)
  where
    parts : Same (f ++ v ∷ m) (g ++ w ∷ n) v w b k
    parts = first_place (λ z. ⊥) (f ++ v ∷ m) (g ++ w ∷ n) v w b k (sym p ∙ e ∙ q) (inr (in_middle f v m)) (inr (in_middle g w n)) (simple_distinct (f ++ v ∷ m) s) (simple_distinct (g ++ w ∷ n) t) (λ z i h. h) (λ z i h. h)

    inner : SameMiddle f g m n
    inner = earlier_place f g v w m n parts.here parts.before (simple_distinct (f ++ v ∷ m) s)

    joined : v ≡ w → m ≡ n → ps ≡ qs → (v ∷ m) ∷ ps ≡ (w ∷ n) ∷ qs
    joined ev em er = cc

    same_rest : v ≡ w → f ≡ g → b ≡ k → f ++ v ∷ b ≡ g ++ w ∷ k
    same_rest ev ef eb = cc

    one_more : (f ++ v ∷ b ≡ g ++ w ∷ k → ps ≡ qs) → (v ∷ m) ∷ ps ≡ (w ∷ n) ∷ qs
    one_more again = joined parts.here inner.rest (again (same_rest parts.here inner.front parts.after))

pub one_cut : {X : Type 0} {ring : List X} {ps qs : List (List X)} → IsCut ring ps → IsCut ring qs → ps ≡ qs
one_cut c d = same_cut c d refl
