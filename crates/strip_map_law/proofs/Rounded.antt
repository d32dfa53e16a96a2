-- The strips from the last one to the first have the rounded edges of all lines.
use Rattle.std.proofs.Common.{◌≡◌, ◌+◌, ◌<◌, ◌∷◌, [], ℕ, zero, suc, List, arith, length, refl, slice_get, Some, subst}
use Rattle.std.proofs.Math.IntN.{ℤ}
use Rattle.std.proofs.Math.Logic.{∥∥₁_elim, ∥∥₁_map}
use Rattle.std.proofs.Props.{props}
use Rattle.geom.specs.declared.edge.Counted.{Counted}
use Rattle.geom.proofs.Lists.{some_same}
use Rattle.strips_law.specs.declared.line.Carried.{Carried}
use Rattle.strips_law.specs.declared.line.Line.{Line}
use Rattle.strips_law.specs.Strips.{AreCarried, AreEdgesOf, AreOrdered, IsRoundedStrip, lines_in}
use Rattle.strips_law.proofs.Last.{last_strip}
use Rattle.strips_law.proofs.Local.{strip_local}
use Rattle.strip_map_law.specs.Whole.{AreStripsRounded, IsStripRounded, Part, lines_for}
use Rattle.strip_map_law.specs.Whole.AreStripsRounded.{none_rounded, one_rounded}

-- what is known of the strips from this one on
pub record AreFrom (cuts : List ℤ) (lines : List Line) (strip : ℕ) (carried : List Carried) (strips : List (List Counted)) : Type 0 where
  pub one_each : length strips + strip ≡ length cuts + 1
  pub each : (k : ℕ) (edges : List Counted) → slice_get strips k ≡ Some edges → AreEdgesOf cuts (strip + k) lines edges
  pub carried_are : AreCarried cuts strip lines carried

module _ (cuts : List ℤ) (lines : List Line) where
  each_more : (strip : ℕ) (edges : List Counted) (behind : List (List Counted)) → AreEdgesOf cuts strip lines edges
      → ((k : ℕ) (es : List Counted) → slice_get behind k ≡ Some es → AreEdgesOf cuts (strip + 1 + k) lines es)
      → (k : ℕ) (es : List Counted) → slice_get (edges ∷ behind) k ≡ Some es → AreEdgesOf cuts (strip + k) lines es
  each_more strip edges behind here rest zero es h =
      let same : edges ≡ es = some_same refl h in
      let e : strip ≡ strip + 0 = omega arith in
      subst (λ (n : ℕ). AreEdgesOf cuts n lines es) e (subst (λ (xs : List Counted). AreEdgesOf cuts strip lines xs) same here)
  each_more strip edges behind here rest (suc k) es h =
      let e : strip + 1 + k ≡ strip + suc k = omega arith in
      subst (λ (n : ℕ). AreEdgesOf cuts n lines es) e (rest k es h)

  none_more : AreFrom cuts lines (length cuts + 1) [] []
  none_more = record { one_each = omega arith; each = λ k edges h. absurd (let q = h in cc); carried_are = last_strip cuts lines }

  module _ (ordered : AreOrdered lines) (ps : List Part) (handed : (strip : ℕ) → strip < length cuts + 1 → lines_for strip ps ≡ lines_in cuts strip lines) where
    one_more : (strip : ℕ) (carried next : List Carried) (edges : List Counted) (behind : List (List Counted)) → AreFrom cuts lines (strip + 1) carried behind
        → IsStripRounded cuts strip (lines_for strip ps) carried next edges → ∥ AreFrom cuts lines strip next (edges ∷ behind) ∥₁
    one_more strip carried next edges behind t d =
        let count = t.one_each in
        let inside : strip < length cuts + 1 = omega (arith, count) in
        let rounded : ∥ IsRoundedStrip cuts strip lines d.inner d.left d.right ∥₁ = ∥∥₁_map d.rounded (λ x. strip_local cuts strip lines d.inner d.left d.right ordered
        (subst (λ (ls : List Line). IsRoundedStrip cuts strip ls d.inner d.left d.right) (handed strip inside) x)) in
        let bridged = d.bridged lines ordered rounded (∣ t.carried_are ∣₁) in
        let here = d.merged lines ordered rounded (∥∥₁_map bridged (λ x. x.0)) in
        ∥∥₁_elim bridged (hlevel props) (λ x. ∥∥₁_map here (λ y. record {
          one_each = omega (arith, count);
          each = each_more strip edges behind y t.each;
          carried_are = x.1;
        }))

    pub all_rounded : {strip : ℕ} {next : List Carried} {strips : List (List Counted)} → AreStripsRounded cuts ps strip next strips → ∥ AreFrom cuts lines strip next strips ∥₁
    all_rounded none_rounded = ∣ none_more ∣₁
    all_rounded (one_rounded before d) = ∥∥₁_elim (all_rounded before) (hlevel props) (λ t. one_more _ _ _ _ _ t d)
