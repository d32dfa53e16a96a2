-- The parts of a list, one behind another, and the ends of the edges of two parts.
use Rattle.std.proofs.Common.{◌≡◌, ⊎_elim, ℕ, zero, suc, ◌+◌, ◌-◌, ◌≤◌, List, [], ◌∷◌, ◌++◌, length, take, drop, refl, sym, ap, ◌∙◌, subst, arith}
use Rattle.std.specs.List.{Contains}
use Rattle.std.specs.Prelude.{slice_range}
use Rattle.std.proofs.lemmas.List.{map-append, take_all}
use Rattle.std.proofs.lemmas.List.Elements.{Contains-append_cases, Contains-append_left, Contains-append_right}
use Rattle.geom.specs.declared.point.Pt.{Pt}
use Rattle.geom.specs.declared.edge.Edge.{Edge}
use Rattle.geom.specs.declared.edge.Counted.{Counted}
use Rattle.geom.specs.Rounded.{edges_of}
use Rattle.label_sweep.specs.Status.{AreEnds, IsVertexOf}

-- ---- slices
module _ {X : Type 0} where
  take_behind : (n m k : ℕ) (xs : List X) → k ≡ n + m → take k xs ≡ take n xs ++ take m (drop n xs)
  take_behind zero m k xs e = ap (λ n. take n xs) (omega (arith, e))
  take_behind (suc n) m zero xs e = absurd (omega (arith, e))
  take_behind (suc n) zero (suc k) [] e = refl
  take_behind (suc n) (suc m) (suc k) [] e = refl
  take_behind (suc n) m (suc k) (x ∷ xs) e = ap (λ t. x ∷ t) (take_behind n m k xs (omega (arith, e)))

  drop_behind : (n m k : ℕ) (xs : List X) → k ≡ n + m → drop k xs ≡ drop m (drop n xs)
  drop_behind zero m k xs e = ap (λ n. drop n xs) (omega (arith, e))
  drop_behind (suc n) m zero xs e = absurd (omega (arith, e))
  drop_behind (suc n) zero (suc k) [] e = refl
  drop_behind (suc n) (suc m) (suc k) [] e = refl
  drop_behind (suc n) m (suc k) (x ∷ xs) e = drop_behind n m k xs (omega (arith, e))

  pub slice_behind : (xs : List X) (a b c : ℕ) → a ≤ b → b ≤ c → slice_range xs a c ≡ slice_range xs a b ++ slice_range xs b c
  slice_behind xs a b c low high = take_behind (b - a) (c - b) (c - a) (drop a xs) (omega (arith, low, high))
      ∙ ap (λ t. slice_range xs a b ++ take (c - b) t) (sym (drop_behind a (b - a) b xs (omega (arith, low))))

  pub none_sliced : (xs : List X) (a : ℕ) → slice_range xs a a ≡ []
  none_sliced xs a = ap (λ n. take n (drop a xs)) (nothing a)
    where
      nothing : (a : ℕ) → a - a ≡ 0
      nothing a = omega arith

  pub all_sliced : (xs : List X) (n : ℕ) → n ≡ length xs → slice_range xs 0 n ≡ xs
  all_sliced xs n e = take_all (n - 0) xs (omega (arith, e))

-- ---- the ends of two parts of the edges
pub more_ends : (cs ds : List Counted) (vs ws : List Pt) → AreEnds (edges_of cs) vs → AreEnds (edges_of ds) ws → AreEnds (edges_of (cs ++ ds)) (vs ++ ws)
more_ends cs ds vs ws a b v = (
  (λ h. ⊎_elim (λ i. of_front ((a v).0 i)) (λ i. of_back ((b v).0 i)) (Contains-append_cases vs ws v h)),
  (λ x. ⊎_elim
      (λ i. Contains-append_left vs ws v ((a v).1 (record { edge = x.edge; inside = i; ends = x.ends })))
      (λ i. Contains-append_right vs ws v ((b v).1 (record { edge = x.edge; inside = i; ends = x.ends })))
      (Contains-append_cases (edges_of cs) (edges_of ds) x.edge (subst (λ (es : List Edge). Contains es x.edge) parts x.inside))),
)
  where
    parts : edges_of (cs ++ ds) ≡ edges_of cs ++ edges_of ds
    parts = map-append (λ c. c.edge) cs ds

    of_front : IsVertexOf (edges_of cs) v → IsVertexOf (edges_of (cs ++ ds)) v
    of_front x = record { edge = x.edge; inside = subst (λ (es : List Edge). Contains es x.edge) (sym parts) (Contains-append_left (edges_of cs) (edges_of ds) x.edge x.inside); ends = x.ends }

    of_back : IsVertexOf (edges_of ds) v → IsVertexOf (edges_of (cs ++ ds)) v
    of_back x = record { edge = x.edge; inside = subst (λ (es : List Edge). Contains es x.edge) (sym parts) (Contains-append_right (edges_of cs) (edges_of ds) x.edge x.inside); ends = x.ends }
