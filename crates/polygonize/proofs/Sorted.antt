-- Lists in strict order, and the groups of one.
use Rattle.std.proofs.Common.{◌≡◌, ◌⊎◌, zero, suc, List, [], ◌∷◌, ◌++◌, map, get_or, refl, sym, ◌∙◌, ap, subst, inl, inr, arith}
use Rattle.std.specs.Prelude.{AllPairs}
use Rattle.std.proofs.lemmas.List.Elements.{Contains-get_or}
use Rattle.geom.proofs.Lists.{In, contains_in, in_append, in_map, in_front, in_back}
use Rattle.polygonize.specs.Grouped.{Group, members}

-- each element stands in the relation to every later one
abbrev pub Ascend : {X : Type 0} → (X → X → Type 0) → List X → Type 0
Ascend R [] = Unit {0}
Ascend {X} R (x ∷ xs) = ((y : X) → In y xs → R x y) × Ascend R xs

pub ascend_pairs : {X : Type 0} (R : X → X → Type 0) (xs : List X) → Ascend R xs → AllPairs R xs
ascend_pairs R [] a i j d h k = absurd (omega arith)
ascend_pairs R (x ∷ xs) a zero zero d h k = absurd (omega arith)
ascend_pairs R (x ∷ xs) a zero (suc j) d h k = a.0 (get_or xs j d) (contains_in xs (get_or xs j d) (Contains-get_or xs j d (omega (arith, k))))
ascend_pairs R (x ∷ xs) a (suc i) zero d h k = absurd (omega arith)
ascend_pairs R (x ∷ xs) a (suc i) (suc j) d h k = ascend_pairs R xs a.1 i j d (omega (arith, h)) (omega (arith, k))

-- the images of elements in order
pub ascend_map : {X Y : Type 0} (R : X → X → Type 0) (S : Y → Y → Type 0) (f : X → Y) (xs : List X) → ((x y : X) → In x xs → In y xs → R x y → S (f x) (f y)) → Ascend R xs → Ascend S (map f xs)
ascend_map R S f [] h a = tt
ascend_map {X} {Y} R S f (x ∷ xs) h a = (
  (λ y i. let m = in_map f xs y i in let P : Y → Type 0 = λ t. S (f x) t in subst P m.2 (h x m.0 (inl refl) (inr m.1) (a.0 m.0 m.1))),
  ascend_map R S f xs (λ y z i j r. h y z (inr i) (inr j) r) a.1,
)

pub ascend_left : {X : Type 0} (R : X → X → Type 0) (xs ys : List X) → Ascend R (xs ++ ys) → Ascend R xs
ascend_left R [] ys a = tt
ascend_left R (x ∷ xs) ys a = ((λ y i. a.0 y (in_front xs ys y i)), ascend_left R xs ys a.1)

pub ascend_right : {X : Type 0} (R : X → X → Type 0) (xs ys : List X) → Ascend R (xs ++ ys) → Ascend R ys
ascend_right R [] ys a = a
ascend_right R (x ∷ xs) ys a = ascend_right R xs ys a.1

-- what stands in the front comes before what stands in the back
pub ascend_across : {X : Type 0} (R : X → X → Type 0) (xs ys : List X) → Ascend R (xs ++ ys) → (x y : X) → In x xs → In y ys → R x y
ascend_across R [] ys a x y i j = absurd i
ascend_across {X} R (z ∷ xs) ys a x y (inl e) j = let P : X → Type 0 = λ t. R t y in subst P e (a.0 y (in_back xs ys y j))
ascend_across R (z ∷ xs) ys a x y (inr i) j = ascend_across R xs ys a.1 x y i j

-- two elements are one, or one comes before the other
pub compare : {X : Type 0} (R : X → X → Type 0) (xs : List X) → Ascend R xs → (x y : X) → In x xs → In y xs → (x ≡ y) ⊎ (R x y ⊎ R y x)
compare R [] a x y i j = absurd i
compare R (z ∷ xs) a x y (inl e) (inl f) = inl (sym e ∙ f)
compare {X} R (z ∷ xs) a x y (inl e) (inr j) = inr (inl (let P : X → Type 0 = λ t. R t y in subst P e (a.0 y j)))
compare {X} R (z ∷ xs) a x y (inr i) (inl f) = inr (inr (let P : X → Type 0 = λ t. R t x in subst P f (a.0 x i)))
compare R (z ∷ xs) a x y (inr i) (inr j) = compare R xs a.1 x y i j

-- ---- groups
-- never both ways
abbrev pub IsOneWay : {X : Type 0} → (X → X → Type 0) → Type 0
IsOneWay {X} R = (x y : X) → R x y → R y x → ⊥

pub in_members : {W : Type 0} (gs : List (Group W)) (g : Group W) (w : W) → In g gs → In w (g.shell ∷ g.holes) → In w (members gs)
in_members [] g w i j = absurd i
in_members {W} (k ∷ gs) g w (inl e) j = in_front (k.shell ∷ k.holes) (members gs) w (let P : Group W → Type 0 = λ t. In w (t.shell ∷ t.holes) in subst P (sym e) j)
in_members (k ∷ gs) g w (inr i) j = in_back (k.shell ∷ k.holes) (members gs) w (in_members gs g w i j)

pub of_members : {W : Type 0} (gs : List (Group W)) (w : W) → In w (members gs) → (g : Group W) × In g gs × In w (g.shell ∷ g.holes)
of_members [] w i = absurd i
of_members {W} (k ∷ gs) w i = elim (in_append (k.shell ∷ k.holes) (members gs) w i) [
  | inl j ↦ (k, inl refl, j)
  | inr j ↦ let m = of_members gs w j in (m.0, inr m.1, m.2)
]

-- what comes after a shell and before one of its holes is one of its holes
pub between : {W : Type 0} (R : W → W → Type 0) → IsOneWay R → (gs : List (Group W)) → Ascend R (members gs) → (g : Group W) (h s : W) → In g gs → In h g.holes → In s (members gs) → R g.shell s → R s h → In s g.holes
between R o [] a g h s i j k l m = absurd i
between {W} R o (q ∷ gs) a g h s (inl e) j k l m = let P : Group W → Type 0 = λ t. In h t.holes → R t.shell s → In s t.holes in subst P e here j l
  where
    here : In h q.holes → R q.shell s → In s q.holes
    here j l = elim (in_append (q.shell ∷ q.holes) (members gs) s k) [
      | inl n ↦ elim n [ inl f ↦ absurd (let P : W → Type 0 = λ t. R t s in let r = subst P f l in o s s r r) | inr n ↦ n ]
      | inr n ↦ absurd (o s h m (ascend_across R (q.shell ∷ q.holes) (members gs) a h s (inr j) n))
    ]
between R o (q ∷ gs) a g h s (inr i) j k l m = elim (in_append (q.shell ∷ q.holes) (members gs) s k) [
  | inl n ↦ absurd (o s g.shell (ascend_across R (q.shell ∷ q.holes) (members gs) a s g.shell n (in_members gs g g.shell i (inl refl))) l)
  | inr n ↦ between R o gs (ascend_right R (q.shell ∷ q.holes) (members gs) a) g h s i j n l m
]

-- a group is told by its shell
pub one_group : {W : Type 0} (R : W → W → Type 0) → IsOneWay R → (gs : List (Group W)) → Ascend R (members gs) → (g k : Group W) → In g gs → In k gs → g.shell ≡ k.shell → g ≡ k
one_group R o [] a g k i j e = absurd i
one_group R o (q ∷ gs) a g k (inl f) (inl h) e = sym f ∙ h
one_group {W} R o (q ∷ gs) a g k (inl f) (inr j) e = absurd (let P : W → Type 0 = λ t. R t k.shell in let r = subst P (ap (λ t. t.shell) f ∙ e) (ascend_across R (q.shell ∷ q.holes) (members gs) a q.shell k.shell (inl refl) (in_members gs k k.shell j (inl refl))) in o k.shell k.shell r r)
one_group {W} R o (q ∷ gs) a g k (inr i) (inl h) e = absurd (let P : W → Type 0 = λ t. R t g.shell in let r = subst P (ap (λ t. t.shell) h ∙ sym e) (ascend_across R (q.shell ∷ q.holes) (members gs) a q.shell g.shell (inl refl) (in_members gs g g.shell i (inl refl))) in o g.shell g.shell r r)
one_group R o (q ∷ gs) a g k (inr i) (inr j) e = one_group R o gs (ascend_right R (q.shell ∷ q.holes) (members gs) a) g k i j e

-- the shells come in order
pub shells_ascend : {W : Type 0} (R : W → W → Type 0) (gs : List (Group W)) → Ascend R (members gs) → Ascend (λ g k. R g.shell k.shell) gs
shells_ascend R [] a = tt
shells_ascend R (q ∷ gs) a = (
  (λ k i. ascend_across R (q.shell ∷ q.holes) (members gs) a q.shell k.shell (inl refl) (in_members gs k k.shell i (inl refl))),
  shells_ascend R gs (ascend_right R (q.shell ∷ q.holes) (members gs) a),
)

-- and so does each group
pub group_ascends : {W : Type 0} (R : W → W → Type 0) (gs : List (Group W)) → Ascend R (members gs) → (g : Group W) → In g gs → Ascend R (g.shell ∷ g.holes)
group_ascends R [] a g i = absurd i
group_ascends {W} R (q ∷ gs) a g (inl e) = let P : Group W → Type 0 = λ t. Ascend R (t.shell ∷ t.holes) in subst P e (ascend_left R (q.shell ∷ q.holes) (members gs) a)
group_ascends R (q ∷ gs) a g (inr i) = group_ascends R gs (ascend_right R (q.shell ∷ q.holes) (members gs) a) g i
