-- The same in other words: counts, lists of chosen edges, sides of edges turned round.
use mathlib.Core.Path.{◌≡◌, refl, sym, ◌∙◌, ap}
use mathlib.Core.Bool.{Bool, true, false, cond}
use mathlib.Core.List.{List, [], ◌∷◌}
use Prim.Native.Nat.{ℕ, ◌+◌, ◌%◌}
use native.Mathlib.Omega.{arith}
use lib.Dec.{eqb}
use lib.IntN.{ℤ, pos, ◌+ℤ◌, ◌-ℤ◌, ◌*ℤ◌}
use lib.Signed.{lt_z, le_z}
use borrow.Author.Differences.{ints}
use Rattle.std.specs.List.{filter, count_by}
use Rattle.std.proofs.lemmas.List.Sums.{sum_by-cons}
use Rattle.std.proofs.lemmas.Bool.Decides.{nat_tests}
use Rattle.geom.specs.declared.point.Pt.{Pt}
use Rattle.geom.specs.declared.edge.Edge.{Edge}
use Rattle.geom.specs.Pixel.{Point}
use Rattle.geom.specs.ResultEdges.{left_side, right_side}
use Rattle.points_law.proofs.Choices.{◌⊕◌, ◌∧∧◌, par, run, rise, K, Even, parity, holds_at, in_result}
use Rattle.points_law.proofs.ResultOfChoices.{Edges}
use Rattle.points_law.proofs.Result.{result_parity}

-- whether the number is odd
one_more : (b : Bool) (n : ℕ) (t : Bool) → t ≡ eqb (n % 2) 1 → b ⊕ t ≡ eqb ((cond b 1 0 + n) % 2) 1
one_more b n t h = grind (arith, nat_tests)

pub par_is_odd : {X : Type 0} (p : X → Bool) (xs : List X) → par p xs ≡ eqb (count_by p xs % 2) 1
par_is_odd p [] = refl
par_is_odd p (x ∷ xs) = one_more (p x) (count_by p xs) (par p xs) (par_is_odd p xs) ∙ ap (λ (n : ℕ). eqb (n % 2) 1) (sym (sum_by-cons (λ y. cond (p y) 1 0) x xs))

-- over the list of the chosen
by_choice : {X : Type 0} (a p : X → Bool) (x : X) (xs : List X) (t : Bool) → a x ≡ t → par p (filter a xs) ≡ par (λ y. a y ∧∧ p y) xs → par p (cond t (x ∷ filter a xs) (filter a xs)) ≡ (t ∧∧ p x) ⊕ par (λ y. a y ∧∧ p y) xs
by_choice a p x xs true e h = ap (λ (t : Bool). p x ⊕ t) h
by_choice a p x xs false e h = h

pub par_filter : {X : Type 0} (a p : X → Bool) (xs : List X) → par p (filter a xs) ≡ par (λ y. a y ∧∧ p y) xs
par_filter a p [] = refl
par_filter a p (x ∷ xs) = by_choice a p x xs (a x) refl (par_filter a p xs)

-- ---- directed edges
abbrev parity_at : (Edge → Bool) → List Edge → ℤ → ℤ → Bool
parity_at a es X Y = par (λ e. a e ∧∧ ((le_z (pos 36893488147419103232 *ℤ e.p.x) X ∧∧ lt_z X (pos 36893488147419103232 *ℤ e.q.x)) ∧∧ lt_z (run e *ℤ (Y -ℤ pos 36893488147419103232 *ℤ e.p.y)) (rise e *ℤ (X -ℤ pos 36893488147419103232 *ℤ e.p.x)))) es

turned_minus : (p q r s : ℤ) → K *ℤ (q +ℤ p) -ℤ pos 2 *ℤ (r -ℤ s) ≡ K *ℤ (p +ℤ q) +ℤ pos 2 *ℤ (s -ℤ r)
turned_minus p q r s = omega (arith, ints)

turned_plus : (p q r s : ℤ) → K *ℤ (q +ℤ p) +ℤ pos 2 *ℤ (r -ℤ s) ≡ K *ℤ (p +ℤ q) -ℤ pos 2 *ℤ (s -ℤ r)
turned_plus p q r s = omega (arith, ints)

pub left_turned : (a : Edge → Bool) (es : List Edge) (u v : Pt) → parity a es (left_side v u) ≡ parity a es (right_side u v)
left_turned a es u v = ap (λ (t : ℤ). parity_at a es t (K *ℤ (v.y +ℤ u.y) +ℤ pos 2 *ℤ (u.x -ℤ v.x))) (turned_minus u.x v.x u.y v.y)
    ∙ ap (λ (t : ℤ). parity_at a es (K *ℤ (u.x +ℤ v.x) +ℤ pos 2 *ℤ (v.y -ℤ u.y)) t) (turned_plus u.y v.y u.x v.x)

pub right_turned : (a : Edge → Bool) (es : List Edge) (u v : Pt) → parity a es (right_side v u) ≡ parity a es (left_side u v)
right_turned a es u v = sym (left_turned a es v u)

pub left_back : (op : Bool → Bool → Bool) (a b : Edge → Bool) (es : List Edge) (u v : Pt) → holds_at op a b es (left_side v u) ≡ holds_at op a b es (right_side u v)
left_back op a b es u v = ap (λ (t : Bool). op t (parity b es (left_side v u))) (left_turned a es u v) ∙ ap (λ (t : Bool). op (parity a es (right_side u v)) t) (left_turned b es u v)

pub right_back : (op : Bool → Bool → Bool) (a b : Edge → Bool) (es : List Edge) (u v : Pt) → holds_at op a b es (right_side v u) ≡ holds_at op a b es (left_side u v)
right_back op a b es u v = ap (λ (t : Bool). op t (parity b es (right_side v u))) (right_turned a es u v) ∙ ap (λ (t : Bool). op (parity a es (left_side u v)) t) (right_turned b es u v)

-- the operation at a point is the parity over the result edges: what is proved of an even choice holds of the result
pub holds_is : (es : List Edge) → Edges es → (op : Bool → Bool → Bool) → op false false ≡ false → (a b : Edge → Bool) → Even a es → Even b es → (z : Point)
    → holds_at op a b es z ≡ parity (in_result op a b es) es z
holds_is es h op o a b ea eb z = sym (result_parity es h op o a b ea eb z)
