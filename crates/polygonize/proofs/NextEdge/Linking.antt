-- The next edge of each: that which is met first among those that leave its end.
use Rattle.std.proofs.Common.{◌≡◌, ℕ, ◌+◌, ◌-◌, ◌<◌, List, [], ◌∷◌, ◌++◌, length, get_or, sym, ◌∙◌, subst, inl, inr, arith, length-append}
use Rattle.std.specs.Prelude.{All, Contains}
use Rattle.std.proofs.lemmas.Bool.{cases_eq, cases_lt}
use Rattle.std.proofs.Math.Seq.{get_or-append_right}
use Rattle.std.proofs.lemmas.List.{get_or_append_left, get_or_push}
use Rattle.std.proofs.lemmas.List.Elements.{All-from_get_or, Contains-get_or}
use Rattle.geom.specs.declared.point.Pt.{Pt}
use Rattle.geom.specs.declared.directed.DirectedEdge.{DirectedEdge}
use Rattle.geom.specs.Directed.{from_to, AreDirected}
use Rattle.geom.specs.Rings.{IsNext}
use Rattle.polygonize.specs.Cycle.{IsOneToOne}
use Rattle.polygonize.specs.Next.{nothing, edge_at, AreNext}
use Rattle.polygonize.specs.Leaving.{AreNextPlaces, IsNextPlace}
use Rattle.polygonize.proofs.NextEdge.Sooner.{one_before, place_same}

pub none_linked : (ds : List DirectedEdge) (from : ℕ) → AreNextPlaces ds from from []
none_linked ds from = record { reaches = omega arith; each = λ k h. absurd (omega arith) }

-- one place more
pub more_linked : (ds : List DirectedEdge) (from n : ℕ) (next : List ℕ) (m : ℕ) → IsNextPlace ds n m → AreNextPlaces ds from n next → AreNextPlaces ds from (n + 1) (next ++ m ∷ [])
more_linked ds from n next m here l = record { reaches = (let a = length-append next (m ∷ []) in let b = l.reaches in omega (arith, a, b)); each = each }
  where
    each : (k : ℕ) → k < length (next ++ m ∷ []) → IsNextPlace ds (from + k) (get_or (next ++ m ∷ []) k 0)
    each k h = elim (cases_eq k (length next)) [
      | inl e ↦ (let b = l.reaches in let at : from + k ≡ n = omega (arith, b, e) in let P : ℕ → Type 0 = λ j. IsNextPlace ds j (get_or (next ++ m ∷ []) k 0) in subst P (sym at)
          (let Q : ℕ → Type 0 = IsNextPlace ds n in subst Q (sym (get_or_push next m 0 k (sym e))) here))
      | inr o ↦ (let a = length-append next (m ∷ []) in let inside : k < length next = omega (arith, a, h, o) in
          let Q : ℕ → Type 0 = IsNextPlace ds (from + k) in subst Q (sym (get_or_append_left next (m ∷ []) 0 k inside)) (l.each k inside))
    ]

-- the places of two parts
pub both_linked : (ds : List DirectedEdge) (from middle past : ℕ) (next more : List ℕ) → AreNextPlaces ds from middle next → AreNextPlaces ds middle past more → AreNextPlaces ds from past (next ++ more)
both_linked ds from middle past next more l r = record { reaches = (let a = length-append next more in let b = l.reaches in let d = r.reaches in omega (arith, a, b, d)); each = each }
  where
    each : (k : ℕ) → k < length (next ++ more) → IsNextPlace ds (from + k) (get_or (next ++ more) k 0)
    each k h = elim (cases_lt k (length next)) [
      | inl inside ↦ (let Q : ℕ → Type 0 = IsNextPlace ds (from + k) in subst Q (sym (get_or_append_left next more 0 k inside)) (l.each k inside))
      | inr past ↦ (let a = length-append next more in let b = l.reaches in let j = k - length next in let is : middle + j ≡ from + k = omega (arith, b, past) in
          let within : j < length more = omega (arith, a, h, past) in
          let Q : ℕ → Type 0 = IsNextPlace ds (from + k) in subst Q (sym (get_or-append_right next more k 0 past))
          (let P : ℕ → Type 0 = λ i. IsNextPlace ds i (get_or more j 0) in subst P is (r.each j within)))
    ]

-- ---- all places
module _ (ds : List DirectedEdge) (next : List ℕ) (all : AreNextPlaces ds 0 (length ds) next) where
  same_length : length next ≡ length ds
  same_length = let a = all.reaches in omega (arith, a)

  good : (k : ℕ) → k < length ds → IsNextPlace ds k (get_or next k 0)
  good k h = let a = all.reaches in let P : ℕ → Type 0 = λ j. IsNextPlace ds j (get_or next k 0) in subst P (omega arith) (all.each k (omega (arith, a, h)))

  pub are_next : AreNext ds next
  are_next = record {
    same_length = same_length;
    inside = let P : ℕ → Type 0 = λ n. All (λ k. k < n) next in subst P (sym same_length) (All-from_get_or (λ k. k < length ds) next 0 (λ i h. (let e = same_length in good i (omega (arith, h, e))).inside));
    joins = λ i h. (good i h).joins;
    follows = λ i h. (good i h).follows;
  }

  pub one_to_one : AreDirected ds → IsOneToOne next
  one_to_one d i j hi hj e = place_same ds d i j bi bj (λ t. record { from = from_same t; to = to_same t })
    where
      bi : i < length ds
      bi = let l = same_length in omega (arith, hi, l)

      bj : j < length ds
      bj = let l = same_length in omega (arith, hj, l)

      gi : IsNextPlace ds i (get_or next i 0)
      gi = good i bi

      gj : IsNextPlace ds j (get_or next i 0)
      gj = let P : ℕ → Type 0 = IsNextPlace ds j in subst P (sym e) (good j bj)

      to_same : (edge_at ds i).to ≡ (edge_at ds j).to
      to_same = sym gi.joins ∙ gj.joins

      from_same : (edge_at ds i).from ≡ (edge_at ds j).from
      from_same = one_before ds (edge_at ds i).from (edge_at ds j).from (edge_at ds j).to (edge_at ds (get_or next i 0)).to
          (let P : Pt → Type 0 = λ t. Contains ds (from_to (edge_at ds i).from t) in subst P to_same (Contains-get_or ds i nothing bi)) (Contains-get_or ds j nothing bj)
          (let P : Pt → Type 0 = λ t. IsNext ds (edge_at ds i).from t (edge_at ds (get_or next i 0)).to in subst P to_same gi.follows) gj.follows
