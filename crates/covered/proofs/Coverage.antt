-- Whether a layer covers a point, and whether an operation holds of it, are told by edges of even degrees.
use Rattle.std.proofs.Common.{◌≡◌, inl, inr, ℕ, ◌<◌, ◌≤◌, List, [], ◌∷◌, Bool, true, false, cond, refl, sym, arith, subst, ltb, leb, rules, tests}
use Rattle.std.specs.List.{filter, list_any}
use Rattle.std.specs.Prelude.{◌||◌}
use Rattle.geom.specs.declared.op.Op.{Op}
use Rattle.geom.specs.declared.op.Op.TheVariants.{Union, Intersection, Difference, SymDifference}
use Rattle.geom.specs.Operations.{holds}
use Rattle.geom.specs.Parity as geom
use Rattle.geom.specs.Pixel.{Point}
use Rattle.geom.proofs.Lists.{In, contains_in, in_contains}
use Rattle.points_law.proofs.Choices.{◌∧∧◌}
use Rattle.points_law.proofs.Even.{by_test}
use Rattle.cover_law.specs.Cover.{AreBorders, Bordered, border, cover, edges_in, numbers_from}
use Rattle.cover_law.proofs.Covers.{cover_is_exact}
use Rattle.cover_law.proofs.Projected.{all_edges}
use Rattle.cover_law.proofs.Told.{Told, everywhere, feature, retold, together}
use Rattle.covered.specs.Covered.{holds_covered}
use Rattle.covered.specs.Laws.{CoverageIsExact}

-- ---- some feature among those that cover a point
kept_any : (p : ℕ → Bool) (t : Bool) (f : ℕ) (r : List ℕ) → list_any p (cond t (f ∷ r) r) ≡ (t ∧∧ p f) || list_any p r
kept_any p true f r = refl
kept_any p false f r = refl

pub some_covers : (p : ℕ → Bool) (bs : List Bordered) → AreBorders bs → (fs : List ℕ) → Told (edges_in bs) false (λ z. list_any p (filter (λ f. geom.parity (border f bs) z) fs))
some_covers p bs h [] = everywhere (edges_in bs) false
some_covers p bs h (f ∷ fs) = retold (λ z. list_any p (filter (λ k. geom.parity (border k bs) z) (f ∷ fs)))
    (together (edges_in bs) (all_edges bs h) (λ t r. (t ∧∧ p f) || r) (feature bs h f) (some_covers p bs h fs))
    (λ z. kept_any p (geom.parity (border f bs) z) f (filter (λ k. geom.parity (border k bs) z) fs))

-- ---- no operation holds far from all edges
far : (op : Op) → holds op false false ≡ false
far Union = refl
far Intersection = refl
far Difference = refl
far SymDifference = refl

pub holding : (op : Op) (split count : ℕ) (bs : List Bordered) → AreBorders bs → Told (edges_in bs) false (holds_covered op split count bs)
holding op split count bs h = subst (λ (v : Bool). Told (edges_in bs) v (holds_covered op split count bs)) (far op)
    (together (edges_in bs) (all_edges bs h) (holds op) (some_covers (λ f. ltb f split) bs h (numbers_from 0 count)) (some_covers (λ f. leb split f) bs h (numbers_from 0 count)))

-- ---- just where a feature does
either : (a b : Bool) → a || b ≡ true → (a ≡ false) → b ≡ true
either a b h k = grind arith

pub any_in : (p : ℕ → Bool) (fs : List ℕ) → list_any p fs ≡ true → (f : ℕ) × In f fs × (p f ≡ true)
any_in p [] h = absurd (let k = h in cc)
any_in p (f ∷ fs) h = by_test (p f) _ (λ t. (f, inl refl, t)) (λ n. let r = any_in p fs (either (p f) (list_any p fs) h n) in (r.0, inr r.1, r.2))

or_first : (a b : Bool) → a ≡ true → a || b ≡ true
or_first a b h = grind arith

or_second : (a b : Bool) → b ≡ true → a || b ≡ true
or_second a b h = grind arith

pub in_any : (p : ℕ → Bool) (fs : List ℕ) (f : ℕ) → In f fs → p f ≡ true → list_any p fs ≡ true
in_any p [] f i h = absurd i
in_any p (g ∷ gs) f (inl e) h = or_first (p g) (list_any p gs) (subst (λ (k : ℕ). p k ≡ true) (sym e) h)
in_any p (g ∷ gs) f (inr i) h = or_second (p g) (list_any p gs) (in_any p gs f i h)

module _ (count : ℕ) (bs : List Bordered) (z : Point) (p : ℕ → Bool) (P : ℕ → Type 0) (told : (f : ℕ) → p f ≡ true → P f) (tells : (f : ℕ) → P f → p f ≡ true) where
  to_feature : list_any p (cover count bs z) ≡ true → (f : ℕ) × (f < count) × P f × (geom.parity (border f bs) z ≡ true)
  to_feature h =
      let r = any_in p (cover count bs z) h in
      let c = ((cover_is_exact count bs z).1 r.0).0 (in_contains (cover count bs z) r.0 r.1) in
      (r.0, c.0, told r.0 r.2, c.1)

  from_feature : ((f : ℕ) × (f < count) × P f × (geom.parity (border f bs) z ≡ true)) → list_any p (cover count bs z) ≡ true
  from_feature r = in_any p (cover count bs z) r.0 (contains_in (cover count bs z) r.0 (((cover_is_exact count bs z).1 r.0).1 (r.1, r.3))) (tells r.0 r.2)

below_told : (split f : ℕ) → ltb f split ≡ true → f < split
below_told split f h = search (rules, tests)

below_tells : (split f : ℕ) → f < split → ltb f split ≡ true
below_tells split f h = search (rules, tests)

from_told : (split f : ℕ) → leb split f ≡ true → split ≤ f
from_told split f h = search (rules, tests)

from_tells : (split f : ℕ) → split ≤ f → leb split f ≡ true
from_tells split f h = search (rules, tests)

pub coverage_is_exact : CoverageIsExact
coverage_is_exact split count bs z = record {
  in_a = (to_feature count bs z (λ f. ltb f split) (λ f. f < split) (below_told split) (below_tells split), from_feature count bs z (λ f. ltb f split) (λ f. f < split) (below_told split) (below_tells split));
  in_b = (to_feature count bs z (λ f. leb split f) (λ f. split ≤ f) (from_told split) (from_tells split), from_feature count bs z (λ f. leb split f) (λ f. split ≤ f) (from_told split) (from_tells split));
}
