-- All cycles, one behind another in one list, and the number of each number's cycle.
use Rattle.std.proofs.Common.{◌≡◌, ◌≢◌, ◌==◌, ℕ, zero, suc, ◌+◌, ◌-◌, ◌<◌, ◌≤◌, Bool, false, not, List, [], ◌∷◌, ◌++◌, length, get_or, replicate, take, drop, refl, sym, ◌∙◌, ap, subst, arith, add-one}
use Rattle.std.specs.Prelude.{All, Contains, slice_range}
use Rattle.std.proofs.lemmas.Bool.Decides.{nat_tests}
use Rattle.std.proofs.lemmas.List.{drop-append-le, get_or_default, length-append, length-drop, length-map, map-append, take-append-le, take_all}
use Rattle.std.proofs.lemmas.List.Elements.{All-contains, All-head, All-nil, All-push, All-tail, All-weaker}
use Rattle.std.proofs.Math.Seq.{drop-append_seam}
use Rattle.geom.proofs.Lists.{contains_in}
use Rattle.hands.specs.declared.part.Part.{Part}
use Rattle.polygonize.specs.Cycle.{AreCycles, IsPartOf, IsSeen, lists_in, seen_of}
use Rattle.polygonize.specs.RingNumbers.{AreRingNumbers, IsNumbered, IsNumberedWalk}
use Rattle.polygonize.proofs.Cycles.{Found, all_found, in_member, none_found, one_more_found, seen_already}
use Rattle.polygonize.proofs.NumberedWalk.{number_of_unseen, seen_by_number, seen_length}
use Rattle.polygonize.proofs.RingNumbers.{RingsNumbered, all_numbered, none_numbered, one_more_numbered}

-- ---- lists in a longer list
part_still : (numbers more : List ℕ) (part : Part) → IsPartOf numbers part → slice_range (numbers ++ more) part.from part.past ≡ slice_range numbers part.from part.past
part_still numbers more part h = ap (take (part.past - part.from)) (drop-append-le part.from numbers more low) ∙ take-append-le (part.past - part.from) (drop part.from numbers) more high
  where
    low : part.from ≤ length numbers
    low = let a = h.0 in let b = h.1 in omega (arith, a, b)

    high : part.past - part.from ≤ length (drop part.from numbers)
    high = let a = h.0 in let b = h.1 in let e = length-drop part.from numbers in omega (arith, a, b, e)

lists_still : (numbers more : List ℕ) (parts : List Part) → All (IsPartOf numbers) parts → lists_in (numbers ++ more) parts ≡ lists_in numbers parts
lists_still numbers more [] h = refl
lists_still numbers more (p ∷ ps) h = ap (λ t. t ∷ lists_in (numbers ++ more) ps) (part_still numbers more p (All-head (IsPartOf numbers) p ps h))
    ∙ ap (λ t. slice_range numbers p.from p.past ∷ t) (lists_still numbers more ps (All-tail (IsPartOf numbers) p ps h))

-- what a longer list has more than a list
abbrev pub part_behind : List ℕ → List ℕ → Part
part_behind numbers longer = record { from = length numbers; past = length longer }

last_part : (numbers more : List ℕ) → slice_range (numbers ++ more) (length numbers) (length (numbers ++ more)) ≡ more
last_part numbers more = ap (take (length (numbers ++ more) - length numbers)) (drop-append_seam numbers more) ∙ take_all (length (numbers ++ more) - length numbers) more (let e = length-append numbers more in omega (arith, e))

one_more_list : (numbers more : List ℕ) (parts : List Part) → All (IsPartOf numbers) parts → lists_in (numbers ++ more) (parts ++ part_behind numbers (numbers ++ more) ∷ []) ≡ lists_in numbers parts ++ more ∷ []
one_more_list numbers more parts h = map-append (λ p. slice_range (numbers ++ more) p.from p.past) parts (part_behind numbers (numbers ++ more) ∷ [])
    ∙ ap (λ t. t ++ slice_range (numbers ++ more) (length numbers) (length (numbers ++ more)) ∷ []) (lists_still numbers more parts h)
    ∙ ap (λ t. lists_in numbers parts ++ t ∷ []) (last_part numbers more)

lists_length : (numbers : List ℕ) (parts : List Part) → length (lists_in numbers parts) ≡ length parts
lists_length numbers parts = length-map parts (λ p. slice_range numbers p.from p.past)

-- ---- what the loop keeps
pub record CyclesSoFar (next cycle_at : List ℕ) (start : ℕ) (numbers : List ℕ) (parts : List Part) : Type 0 where
  pub inside : All (IsPartOf numbers) parts
  pub few : length parts ≤ start
  pub found : Found next (seen_of (length next) cycle_at) start (lists_in numbers parts)
  pub numbered : RingsNumbered (lists_in numbers parts) (length next) cycle_at

pub none_so_far : (next : List ℕ) → CyclesSoFar next (replicate (length next) (length next)) 0 [] []
none_so_far next = record {
  inside = All-nil (IsPartOf []);
  few = omega arith;
  found = subst (λ (seen : List Bool). Found next seen 0 []) (sym (all_unseen (length next) (length next))) (none_found next);
  numbered = none_numbered (length next) (length next);
}
  where
    is_unseen : (none : ℕ) → not (none == none) ≡ false
    is_unseen none = grind (arith, nat_tests)

    all_unseen : (none n : ℕ) → seen_of none (replicate n none) ≡ replicate n false
    all_unseen none zero = refl
    all_unseen none (suc n) = ap (λ b. b ∷ seen_of none (replicate n none)) (is_unseen none) ∙ ap (λ t. false ∷ t) (all_unseen none n)

module _ (next cycle_at : List ℕ) (start : ℕ) (numbers : List ℕ) (parts : List Part) (f : CyclesSoFar next cycle_at start numbers parts) where
  so_far_length : length cycle_at ≡ length next
  so_far_length = sym (seen_length (length next) cycle_at) ∙ f.found.same_length

  -- the number that was read is another one than that for none
  pub so_far_seen : (number none : ℕ) → start < length next → number ≡ get_or cycle_at start number → none ≡ length next → number ≢ none → CyclesSoFar next cycle_at (start + 1) numbers parts
  so_far_seen number none h read is away = record {
    inside = f.inside;
    few = (let e = f.few in omega (arith, e));
    found = rw add-one (seen_already next (seen_of (length next) cycle_at) start (lists_in numbers parts) seen f.found);
    numbered = f.numbered;
  }
    where
      inside : start < length cycle_at
      inside = let l = so_far_length in omega (arith, h, l)

      seen : IsSeen (seen_of (length next) cycle_at) start
      seen = seen_by_number (length next) cycle_at start inside (λ e. away (read ∙ get_or_default cycle_at start number 0 inside ∙ e ∙ sym is))

  pub one_more_so_far : (new longer : List ℕ) → start < length next → length new ≡ length cycle_at → IsNumberedWalk next cycle_at new start (length parts) numbers longer → CyclesSoFar next new (start + 1) longer (parts ++ part_behind numbers longer ∷ [])
  one_more_so_far new longer h len w = subst (λ (list : List ℕ). CyclesSoFar next new (start + 1) list (parts ++ part_behind numbers list ∷ [])) (sym w.behind) (record {
    inside = All-push (IsPartOf (numbers ++ w.cycle)) parts (part_behind numbers (numbers ++ w.cycle))
        (All-weaker (IsPartOf numbers) (IsPartOf (numbers ++ w.cycle)) (λ p q. (q.0, (let b = q.1 in omega (arith, b, longer_is)))) parts f.inside) (omega (arith, longer_is), omega arith);
    few = (let e = f.few in let l = length-append parts (part_behind numbers (numbers ++ w.cycle) ∷ []) in omega (arith, e, l));
    found = subst (Found next (seen_of (length next) new) (start + 1)) (sym (one_more_list numbers w.cycle parts f.inside))
        (one_more_found next (seen_of (length next) cycle_at) (seen_of (length next) new) start (lists_in numbers parts) w.cycle (seen_length (length next) new ∙ len ∙ sym (seen_length (length next) cycle_at)) f.found w.walked);
    numbered = subst (λ (lists : List (List ℕ)). RingsNumbered lists (length next) new) (sym (one_more_list numbers w.cycle parts f.inside))
        (one_more_numbered (lists_in numbers parts) w.cycle (length next) cycle_at new len (let e = f.few in let l = lists_length numbers parts in omega (arith, e, l, h)) fresh
        (subst (λ (n : ℕ). IsNumbered w.cycle n cycle_at new) (sym (lists_length numbers parts)) w.numbered) f.numbered);
  })
    where
      longer_is : length (numbers ++ w.cycle) ≡ length numbers + length w.cycle
      longer_is = length-append numbers w.cycle

      fresh : (k : ℕ) → Contains w.cycle k → get_or cycle_at k 0 ≡ length next
      fresh k c = number_of_unseen (length next) cycle_at k (let i = All-contains (λ i. i < length next) w.cycle k w.walked.is_cycle.inside c in let l = so_far_length in omega (arith, i, l)) (w.walked.fresh k (in_member w.cycle k (contains_in w.cycle k c)))

  pub so_far_cycles : length next ≤ start → AreCycles next (lists_in numbers parts)
  so_far_cycles h = all_found next (seen_of (length next) cycle_at) start (lists_in numbers parts) h f.found

  pub so_far_numbers : start ≤ length next → AreRingNumbers (length next) (lists_in numbers parts) cycle_at
  so_far_numbers h = all_numbered (lists_in numbers parts) (length next) cycle_at (let e = f.few in let l = lists_length numbers parts in omega (arith, e, l, h)) so_far_length f.numbered
