-- Candidates against the segments of some numbers.
use Rattle.std.proofs.Common.{◌≡◌, true, false, ℕ, ◌+◌, ◌<◌, List, refl, sym, ap, arith, subst, length, get_or, take, ⊎_elim}
use Rattle.std.specs.Option.{option_map}
use Rattle.std.specs.Prelude.{All, Some, slice_get}
use Rattle.std.proofs.lemmas.Bool.{eqb-true, eq-eqb}
use Rattle.std.proofs.lemmas.Option.{slice_get_cases}
use Rattle.geom.specs.declared.segment.Seg.{Seg}
use Rattle.geom.specs.declared.segment.Source.{Source}
use Rattle.geom.specs.declared.segment.Source.TheVariants.{A, B}
use Rattle.geom.specs.Segments.{same_source}
use Rattle.geom.proofs.Points.{and_both, both_and, same_point_true, same_point_refl}
use Rattle.points_law.proofs.OneResult.{segment_path}
use Rattle.routing.specs.declared.record.Candidate.{Candidate}
use Rattle.routing.specs.Pieces.{candidate_at, candidates_of}
use Rattle.chain_gather.specs.Gathered.{is_candidate}
use Rattle.chain_gather.proofs.Picked.{AllPick, picked_differs, picked_more}

same_source_true : (l m : Source) → same_source l m ≡ true → l ≡ m
same_source_true A A h = refl
same_source_true A B h = absurd (cc)
same_source_true B A h = absurd (cc)
same_source_true B B h = refl

same_source_refl : (l : Source) → same_source l l ≡ true
same_source_refl A = refl
same_source_refl B = refl

pub candidate_true : (c : Candidate) (n : ℕ) (s : Seg) → is_candidate c n s ≡ true → c ≡ record { number = n; segment = s }
candidate_true c n s h =
    let u = and_both _ _ h in
    let v = and_both _ _ u.0 in
    let w = and_both _ _ v.0 in
    let e = eqb-true c.number n w.0 in
    let f = segment_path c.segment s (same_point_true c.segment.a s.a w.1) (same_point_true c.segment.b s.b v.1) (same_source_true c.segment.layer s.layer u.1) in
    λ i. record { number = e i; segment = f i }

pub candidate_refl : (n : ℕ) (s : Seg) → is_candidate (record { number = n; segment = s }) n s ≡ true
candidate_refl n s = both_and _ _ (both_and _ _ (both_and _ _ (eq-eqb n n refl) (same_point_refl s.a)) (same_point_refl s.b)) (same_source_refl s.layer)

-- ---- the list
-- the candidate of a number
candidate_is : (segments : List Seg) (n : ℕ) (s : Seg) → slice_get segments n ≡ Some s → candidate_at segments n ≡ Some (record { number = n; segment = s })
candidate_is segments n s e = ap (option_map (λ (t : Seg). record { number = n; segment = t })) e

pub all_pick : (segments : List Seg) (numbers : List ℕ) → All (λ k. k < length segments) numbers → AllPick (candidate_at segments) numbers
all_pick segments numbers h = λ k d l. let n = get_or numbers k d in ⊎_elim (λ p. (record { number = n; segment = p.0 }, candidate_is segments n p.0 p.2)) (λ p. absurd (let m = h k d l in let q = p.0 in omega arith)) (slice_get_cases segments n).1

-- ---- one candidate after another
module _ (segments : List Seg) (numbers : List ℕ) (candidates : List Candidate) (i n : ℕ) (s : Seg) (x : Candidate) (low : i < length numbers) (high : i < length candidates) (number_is : n ≡ get_or numbers i n) (at : slice_get segments n ≡ Some s) (item_is : x ≡ get_or candidates i x) where
  pub chosen_more : is_candidate x n s ≡ true → take i candidates ≡ candidates_of segments (take i numbers) → take (i + 1) candidates ≡ candidates_of segments (take (i + 1) numbers)
  chosen_more holds = picked_more (candidate_at segments) numbers candidates i n _ x low high number_is (candidate_is segments n s at) item_is (candidate_true x n s holds)

  pub chosen_differs : All (λ k. k < length segments) numbers → is_candidate x n s ≡ false → candidates ≡ candidates_of segments numbers → ⊥
  chosen_differs below fails = picked_differs (candidate_at segments) numbers candidates i n _ x low high number_is (candidate_is segments n s at) item_is (all_pick segments numbers below)
      (λ e. let f : is_candidate x n s ≡ true = subst (λ (c : Candidate). is_candidate c n s ≡ true) (sym e) (candidate_refl n s) in cc)
