-- The least feature of a set tells whether some of them is below a number, and the greatest whether some isn't.
use Rattle.std.proofs.Common.{◌≡◌, ℕ, ◌<◌, ◌≤◌, List, [], Bool, true, false, ap, arith, rules, tests, ltb, leb}
use Rattle.std.proofs.lemmas.List.Elements.{All-contains}
use Rattle.geom.proofs.Lists.{contains_in, in_contains}
use Rattle.points_law.proofs.Even.{not_true}
use Rattle.cover_sets.specs.Ends.{IsGreatest, IsLeast}
use Rattle.covered.specs.Covered.{has_of_a, has_of_b}
use Rattle.covered.proofs.Coverage.{any_in, in_any}

same_when : (a b : Bool) → (b ≡ true → a ≡ true) → (b ≡ false → a ≡ false) → a ≡ b
same_when a b h k = grind arith

below : (f split : ℕ) → ltb f split ≡ true → f < split
below f split h = search (rules, tests)

not_below : (f split : ℕ) → ltb f split ≡ false → split ≤ f
not_below f split h = search (rules, tests)

from : (f split : ℕ) → leb split f ≡ true → split ≤ f
from f split h = search (rules, tests)

not_from : (f split : ℕ) → leb split f ≡ false → f < split
not_from f split h = search (rules, tests)

pub by_least : (split : ℕ) (set : List ℕ) (f : ℕ) → IsLeast set f → has_of_a split set ≡ ltb f split
by_least split set f h = same_when (has_of_a split set) (ltb f split)
    (λ t. in_any (λ g. ltb g split) set f (contains_in set f h.0) t)
    (λ n. not_true (has_of_a split set) (λ t.
    let r = any_in (λ g. ltb g split) set t in
    let l : f ≤ r.0 = All-contains (λ g. f ≤ g) set r.0 h.1 (in_contains set r.0 r.1) in
    let a = below r.0 split r.2 in
    let b = not_below f split n in
    absurd (omega arith)))

pub by_greatest : (split : ℕ) (set : List ℕ) (f : ℕ) → IsGreatest set f → has_of_b split set ≡ leb split f
by_greatest split set f h = same_when (has_of_b split set) (leb split f)
    (λ t. in_any (λ g. leb split g) set f (contains_in set f h.0) t)
    (λ n. not_true (has_of_b split set) (λ t.
    let r = any_in (λ g. leb split g) set t in
    let l : r.0 ≤ f = All-contains (λ g. g ≤ f) set r.0 h.1 (in_contains set r.0 r.1) in
    let a = from r.0 split r.2 in
    let b = not_from f split n in
    absurd (omega arith)))
