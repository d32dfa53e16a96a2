-- What the loops over a forest keep.
use Rattle.std.proofs.Common.{◌≡◌, ◌≢◌, ◌⊎◌, ℕ, ◌+◌, ◌<◌, ◌≤◌, max, min, List, length, length-set, get_or, set, refl, sym, ◌∙◌, ap, subst, inl, inr, arith}
use Rattle.std.proofs.lemmas.Bool.{cases_eq, cases_lt}
use Rattle.std.proofs.lemmas.Grind.{get_or-set_at}
use Rattle.std.proofs.lemmas.List.{get_or-set_other}
use Rattle.strip_polygons.specs.Classes.{IsForest, IsJoined, IsRoot, itself, further}
use Rattle.strip_polygons.proofs.Roots.{put_below, put_beside, put_forest, root_above, root_of_own, root_own, same_back, skip_one, some_root}

-- ---- the way to a root
-- on the way up from a number no root has changed, and what the way has come to has the number's root
pub record Climbs (old above : List ℕ) (number at : ℕ) : Type 0 where
  pub forest : IsForest above
  pub inside : at < length above
  pub same_roots : (k r : ℕ) → IsRoot old k r → IsRoot above k r
  pub same_root : (r : ℕ) → IsRoot old number r → IsRoot above at r

-- a step up that leaves one number out
pub climb_on : (old above : List ℕ) (number at : ℕ) → get_or above at 0 ≢ at → Climbs old above number at
    → Climbs old (set above at (get_or above (get_or above at 0) 0)) number (get_or above (get_or above at 0) 0)
climb_on old above number at away w = record {
  forest = put_forest above at next w.forest w.inside (omega (arith, lower));
  inside = omega (arith, lower, w.inside, length-set above at next);
  same_roots = λ k r h. skip_one above at w.forest w.inside away k r (w.same_roots k r h);
  same_root = λ r h. (let P : ℕ → Type 0 = λ j. IsRoot (set above at next) j r in subst P (get_or-set_at above at at next 0 refl w.inside)
      (root_above (set above at next) at r (skip_one above at w.forest w.inside away at r (w.same_root r h))));
}
  where
    next : ℕ
    next = get_or above (get_or above at 0) 0

    lower : next < at
    lower = omega (arith, w.forest (get_or above at 0), w.forest at, away)

-- at its end
pub climbed : (old above : List ℕ) (number at : ℕ) → IsForest old → get_or above at 0 ≡ at → Climbs old above number at → IsRoot old number at
climbed old above number at f own w = let top = some_root old f number in
    let P : ℕ → Type 0 = IsRoot old number in subst P (root_of_own above at top.0 (w.same_root top.0 top.1) own) top.1

-- ---- two roots
-- the greater and the lesser of two numbers are these
pub greater_and_lesser : (f s : ℕ) → ((max f s ≡ f) × (min f s ≡ s)) ⊎ ((max f s ≡ s) × (min f s ≡ f))
greater_and_lesser f s = elim (cases_lt f s) [ inl h ↦ inr (omega (arith, h), omega (arith, h)) | inr h ↦ inl (omega (arith, h), omega (arith, h)) ]

-- the greater one of two roots is put below the lesser one
pub roots_joined : (old between above : List ℕ) (first second f s g h : ℕ) → IsForest old → ((k r : ℕ) → IsRoot old k r → IsRoot between k r)
    → ((k r : ℕ) → IsRoot between k r → IsRoot above k r) → IsRoot old first f → IsRoot between second s
    → ((g ≡ f) × (h ≡ s)) ⊎ ((g ≡ s) × (h ≡ f)) → h ≤ g → g < length above → IsJoined old (set above g h) first second
roots_joined old between above first second f s g h forest same more at_first at_second which less inside = record {
  greater = g;
  lesser = h;
  ends = elim which as (λ _. (IsRoot old first g × IsRoot old second h) ⊎ (IsRoot old first h × IsRoot old second g)) [
    | inl e ↦ inl (rw e.0 at_first, rw e.1 second_old)
    | inr e ↦ inr (rw e.1 at_first, rw e.0 second_old)
  ];
  joined = λ k r. put_below above g h inside less lesser_own k g (more k g (same k g r)) refl;
  others = λ k r o i. put_beside above g h greater_own k r o (more k r (same k r i));
}
  where
    second_old : IsRoot old second s
    second_old = same_back old between forest same second s at_second

    first_own : get_or above f 0 ≡ f
    first_own = root_own above first f (more first f (same first f at_first))

    second_own : get_or above s 0 ≡ s
    second_own = root_own above second s (more second s at_second)

    greater_own : get_or above g 0 ≡ g
    greater_own = elim which [ inl e ↦ rw e.0 first_own | inr e ↦ rw e.0 second_own ]

    lesser_own : get_or above h 0 ≡ h
    lesser_own = elim which [ inl e ↦ rw e.1 second_own | inr e ↦ rw e.1 first_own ]

-- ---- all roots
-- the numbers before one have their roots, and the others what was above them
pub record AreRootsBefore (old roots : List ℕ) (n : ℕ) : Type 0 where
  pub same_length : length roots ≡ length old
  pub before : (k : ℕ) → k < n → IsRoot old k (get_or roots k 0)
  pub behind : (k : ℕ) → n ≤ k → get_or roots k 0 ≡ get_or old k 0

-- one more of them takes the root of what is above it
pub one_more_root : (old roots : List ℕ) (n : ℕ) → IsForest old → n < length old → AreRootsBefore old roots n
    → AreRootsBefore old (set roots n (get_or roots (get_or roots n 0) 0)) (n + 1)
one_more_root old roots n f inside w = record {
  same_length = length-set roots n v ∙ w.same_length;
  before = λ k h. elim (cases_eq k n) [
    | inl e ↦ rw (get_or-set_at roots n k v 0 e (omega (arith, inside, w.same_length)), e) here
    | inr o ↦ rw (get_or-set_other roots n k v 0 o) (w.before k (omega (arith, h, o)))
  ];
  behind = λ k h. get_or-set_other roots n k v 0 (λ e. absurd (omega (arith, e, h))) ∙ w.behind k (omega (arith, h));
}
  where
    v : ℕ
    v = get_or roots (get_or roots n 0) 0

    was : get_or roots n 0 ≡ get_or old n 0
    was = w.behind n (omega arith)

    here : IsRoot old n v
    here = elim (cases_eq (get_or old n 0) n) [
      | inl e ↦ (let P : ℕ → Type 0 = IsRoot old n in subst P (sym (ap (λ j. get_or roots j 0) (was ∙ e) ∙ was ∙ e)) (itself e))
      | inr o ↦ further (omega (arith, o, f n)) (rw was (w.before (get_or old n 0) (omega (arith, o, f n))))
    ]
