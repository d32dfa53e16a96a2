-- The calls for all strips, from the last one to the first, tell the rounded edges.
use Rattle.std.proofs.Common.{◌≡◌, ◌+◌, ◌++◌, ◌∷◌, ◌∙◌, [], ℕ, List, ap, flat_map, map, refl, subst, sym}
use Rattle.std.proofs.Math.IntN.{ℤ}
use Rattle.std.proofs.Math.Logic.{∥∥₁_elim, ∥∥₁_map}
use Rattle.std.proofs.Props.{props}
use Rattle.std.specs.Prelude.{reverse}
use Rattle.std.proofs.lemmas.List.{map-append, reverse-append}
use Rattle.geom.specs.declared.edge.Counted.{Counted}
use Rattle.strips_law.specs.declared.line.Carried.{Carried}
use Rattle.strips_law.specs.declared.line.Line.{Line}
use Rattle.strips_law.specs.declared.line.Open.{Open}
use Rattle.strips_law.specs.Strips.{AreAcross, AreCarried, AreOrdered, IsRoundedStrip, lines_in}
use Rattle.strips_law.proofs.Local.{strip_local}
use Rattle.strips_law.proofs.Rounded.{lines_ordered}
use Rattle.phases.specs.Merged.{AreFound}
use Rattle.phases.proofs.Turns.{all_found, found_more, none_found}
use Rattle.overlay_c.specs.declared.strip_items.OverlayCarried.{OverlayCarried}
use Rattle.overlay_c.specs.declared.strip_items.OverlayCounted.{OverlayCounted}
use Rattle.overlay_c.specs.Strips.{AreStripsDone, IsStripDone, StripsAreRounded, told_carried, told_counted}
use Rattle.overlay_c.specs.Strips.AreStripsDone.{none_done, one_done}
use Rattle.overlay_c.proofs.StripOnce.{carried_once, counted_once, lines_once, opens_once}

-- what was told of the strips from this one on
record IsTold (cuts : List ℤ) (lines : List Line) (strip : ℕ) (next : List OverlayCarried) (all : List OverlayCounted) : Type 0 where
  lists : List (List Counted)
  carried : List Carried
  next_is : next ≡ map told_carried carried
  all_is : all ≡ map told_counted (flat_map (λ l. l) (reverse lists))
  found : AreFound cuts lines strip lists carried

all_more : (edges behind : List OverlayCounted) (es : List Counted) (lists : List (List Counted)) → edges ≡ map told_counted es → behind ≡ map told_counted (flat_map (λ l. l) (reverse lists))
    → edges ++ behind ≡ map told_counted (flat_map (λ l. l) (reverse (lists ++ es ∷ [])))
all_more edges behind es lists h k =
    ap (λ (xs : List OverlayCounted). xs ++ behind) h ∙ ap (λ (ys : List OverlayCounted). map told_counted es ++ ys) k ∙ sym (map-append told_counted es (flat_map (λ l. l) (reverse lists)))
    ∙ ap (λ (ls : List (List Counted)). map told_counted (flat_map (λ l. l) ls)) (sym (reverse-append lists (es ∷ [])))

module _ (cuts : List ℤ) (lines : List Line) (ordered : AreOrdered lines) where
  one_more : (strip : ℕ) (carried next : List OverlayCarried) (edges behind : List OverlayCounted) → IsTold cuts lines (strip + 1) carried behind → IsStripDone cuts strip lines carried next edges
      → ∥ IsTold cuts lines strip next (edges ++ behind) ∥₁
  one_more strip carried next edges behind t d =
      let r = d.rounded in
      let b = d.bridged in
      let m = d.merged in
      let near : r.lines ≡ lines_in cuts strip lines = sym (lines_once (lines_in cuts strip lines) r.lines r.lines_are) in
      let left : r.left ≡ b.left = opens_once r.left b.left (sym r.left_is ∙ b.left_is) in
      let right : r.right ≡ b.right = opens_once r.right b.right (sym r.right_is ∙ b.right_is) in
      let inner : r.inner ≡ m.inner = counted_once r.inner m.inner (sym r.inner_is ∙ m.inner_is) in
      let across : b.across ≡ m.across = counted_once b.across m.across (sym b.across_is ∙ m.across_is) in
      let over : t.carried ≡ b.carried = carried_once t.carried b.carried (sym t.next_is ∙ b.carried_is) in
      let rounded : ∥ IsRoundedStrip cuts strip lines r.inner r.left r.right ∥₁ = ∥∥₁_map r.rounded (λ x. strip_local cuts strip lines r.inner r.left r.right ordered (subst (λ (ls : List Line). IsRoundedStrip cuts strip ls r.inner r.left r.right) near x)) in
      let bridged = b.bridged cuts strip lines r.inner ordered
      (subst (λ (ls : List Open). ∥ IsRoundedStrip cuts strip lines r.inner ls b.right ∥₁) left (subst (λ (rs : List Open). ∥ IsRoundedStrip cuts strip lines r.inner r.left rs ∥₁) right rounded))
      (∣ subst (λ (cs : List Carried). AreCarried cuts (strip + 1) lines cs) over t.found.carried_are ∣₁) in
      let here = m.merged cuts strip lines r.left r.right ordered (subst (λ (es : List Counted). ∥ IsRoundedStrip cuts strip lines es r.left r.right ∥₁) inner rounded)
      (∥∥₁_map bridged (λ x. subst (λ (es : List Counted). AreAcross cuts strip lines es) across x.0)) in
      ∥∥₁_elim bridged (hlevel props) (λ x. ∥∥₁_map here (λ y. record {
        lists = t.lists ++ m.edges ∷ [];
        carried = b.next;
        next_is = b.next_is;
        all_is = all_more edges behind m.edges t.lists m.edges_are t.all_is;
        found = found_more cuts lines strip t.lists t.carried b.next m.edges t.found y x.1;
      }))

  told : {strip : ℕ} {next : List OverlayCarried} {all : List OverlayCounted} → AreStripsDone cuts lines strip next all → ∥ IsTold cuts lines strip next all ∥₁
  told none_done = ∣ record { lists = []; carried = []; next_is = refl; all_is = refl; found = none_found cuts lines } ∣₁
  told (one_done before d) = ∥∥₁_elim (told before) (hlevel props) (λ t. one_more _ _ _ _ _ t d)

pub strips_told : StripsAreRounded
strips_told cuts segments lines next all are done = ∥∥₁_map (told cuts lines (lines_ordered 0 segments lines are) done) (λ t. (flat_map (λ l. l) (reverse t.lists), t.all_is, all_found cuts segments lines t.lists t.carried are t.found))
