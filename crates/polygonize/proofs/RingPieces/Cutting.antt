-- What the loop of the cut keeps: the stack and the rest of the ring are cut as the ring is, after the pieces so far.
use Rattle.std.proofs.Common.{◌≡◌, ℕ, suc, ◌+◌, ◌<◌, ◌≤◌, List, [], ◌∷◌, ◌++◌, length, get_or, take, drop, set, sym, ◌∙◌, ap, subst, arith, append_assoc, add-one}
use Rattle.std.proofs.lemmas.List.{get_or_default, take-append-drop, append-nil}
use Rattle.std.proofs.Math.Seq.{drop-cons}
use Rattle.std.proofs.Math.ListN.{drop_of_length-le}
use Rattle.geom.specs.Rings.{IsSimple, IsCut}
use Rattle.geom.specs.Rings.IsCut.{whole, taken}
use Rattle.polygonize.specs.Stack.{AreStacked}
use Rattle.polygonize.proofs.RingPieces.Stacks.{IsFree, none_stacked, stack_push, stack_take, taken_off}

pub simple_stack : (stack place : List ℕ) → AreStacked stack place → IsSimple stack
simple_stack stack place s i j d h k e = below (sym (s.found i first) ∙ ap (λ t. get_or place t 0) (get_or_default stack i 0 d first ∙ e ∙ get_or_default stack j d 0 k) ∙ s.found j k)
  where
    first : i < length stack
    first = omega arith

    below : i ≡ j → ⊥
    below q = omega arith

pub record Cutting (ring : List ℕ) (i : ℕ) (stack place : List ℕ) (pieces : List (List ℕ)) : Type 0 where
  pub stacked : AreStacked stack place
  pub goes : (qs : List (List ℕ)) → IsCut (stack ++ drop i ring) qs → IsCut ring (pieces ++ qs)

pub cutting_none : (ring place : List ℕ) → Cutting ring 0 [] place []
cutting_none ring place = record { stacked = none_stacked place; goes = λ qs c. c }

-- a vertex that isn't on the stack
pub cutting_push : (ring : List ℕ) (i : ℕ) (stack place : List ℕ) (pieces : List (List ℕ)) (v : ℕ) → i < length ring → v ≡ get_or ring i v → v < length place → IsFree stack v
    → Cutting ring i stack place pieces → Cutting ring (i + 1) (stack ++ v ∷ []) (set place v (length stack)) pieces
cutting_push ring i stack place pieces v h is inside free c = record {
  stacked = stack_push stack place v inside free c.stacked;
  goes = λ qs d. c.goes qs (let P : List ℕ → Type 0 = λ t. IsCut t qs in subst P same d);
}
  where
    here : drop i ring ≡ v ∷ drop (suc i) ring
    here = drop-cons ring i v h ∙ ap (λ t. t ∷ drop (suc i) ring) (sym is)

    same : (stack ++ v ∷ []) ++ drop (i + 1) ring ≡ stack ++ drop i ring
    same = rw add-one (append_assoc stack (v ∷ []) (drop (suc i) ring) ∙ ap (λ t. stack ++ t) (sym here))

-- a vertex that stands on the stack at k
pub cutting_take : (ring : List ℕ) (i : ℕ) (stack place : List ℕ) (pieces : List (List ℕ)) (v k : ℕ) → i < length ring → v ≡ get_or ring i v → (k < length stack) × (get_or stack k 0 ≡ v)
    → Cutting ring i stack place pieces → Cutting ring i (take k stack) place (pieces ++ drop k stack ∷ [])
cutting_take ring i stack place pieces v k h is there c = record {
  stacked = stack_take stack place k (let l : k < length stack = there.0 in omega (arith, l)) c.stacked;
  goes = λ qs d. let P : List (List ℕ) → Type 0 = IsCut ring in subst P (sym (append_assoc pieces (drop k stack ∷ []) qs)) (c.goes (drop k stack ∷ qs) (cut_here qs d));
}
  where
    here : drop i ring ≡ v ∷ drop (suc i) ring
    here = drop-cons ring i v h ∙ ap (λ t. t ∷ drop (suc i) ring) (sym is)

    piece : drop k stack ≡ v ∷ drop (suc k) stack
    piece = drop-cons stack k 0 there.0 ∙ ap (λ t. t ∷ drop (suc k) stack) there.1

    parts : stack ≡ take k stack ++ v ∷ drop (suc k) stack
    parts = sym (take-append-drop k stack) ∙ ap (λ t. take k stack ++ t) piece

    cut_here : (qs : List (List ℕ)) → IsCut (take k stack ++ drop i ring) qs → IsCut (stack ++ drop i ring) (drop k stack ∷ qs)
    cut_here qs d = let P : List ℕ → Type 0 = λ t. IsCut (stack ++ drop i ring) (t ∷ qs) in subst P (sym piece)
        (taken (take k stack) v (drop (suc k) stack) (drop (suc i) ring) (ap (λ t. t ++ drop i ring) parts ∙ ap (λ t. (take k stack ++ v ∷ drop (suc k) stack) ++ t) here)
        (let Q : List ℕ → Type 0 = IsSimple in subst Q parts (simple_stack stack place c.stacked))
        (let R : List ℕ → Type 0 = λ t. IsCut (take k stack ++ t) qs in subst R here d))

-- the end
pub cutting_all : (ring : List ℕ) (i : ℕ) (stack place : List ℕ) (pieces : List (List ℕ)) → length ring ≤ i → Cutting ring i stack place pieces → IsCut ring (pieces ++ stack ∷ [])
cutting_all ring i stack place pieces h c = c.goes (stack ∷ []) (let P : List ℕ → Type 0 = λ t. IsCut t (stack ∷ []) in subst P (sym (ap (λ t. stack ++ t) (drop_of_length-le ring h) ∙ append-nil stack)) (whole (simple_stack stack place c.stacked)))

-- ---- the two ways through the loop's body
pub record Ready (ring : List ℕ) (i : ℕ) (stack place : List ℕ) (pieces : List (List ℕ)) (v : ℕ) : Type 0 where
  pub cutting : Cutting ring i stack place pieces
  pub free : IsFree stack v

pub after_take : (ring : List ℕ) (i : ℕ) (stack left place : List ℕ) (pieces more : List (List ℕ)) (p : List ℕ) (v k : ℕ) → i < length ring → v ≡ get_or ring i v → (k < length stack) × (get_or stack k 0 ≡ v)
    → left ≡ take k stack → p ≡ drop k stack → more ≡ pieces ++ p ∷ [] → Cutting ring i stack place pieces → Ready ring i left place more v
after_take ring i stack left place pieces more p v k h is there l d m c = record {
  cutting = rw (l, m, d) (cutting_take ring i stack place pieces v k h is there c);
  free = rw l (taken_off stack place v k c.stacked there.0 there.1);
}
