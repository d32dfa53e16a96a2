-- Behind ranges of strips the edges that are left, and behind the range of all strips none.
use Rattle.std.proofs.Common.{◌⊎◌, ◌+◌, ◌++◌, ◌<◌, ◌≤◌, inl, inr, ℕ, List, ⊎_elim, arith, length}
use Rattle.std.specs.Prelude.{◌↔◌, ℤ, Contains}
use Rattle.std.proofs.lemmas.Bool.{cases_lt}
use Rattle.std.proofs.lemmas.List.Elements.{Contains-append_cases}
use Rattle.geom.specs.declared.directed.DirectedEdge.{DirectedEdge}
use Rattle.geom.specs.Canonical.{Shape}
use Rattle.strips_law.specs.Strips.{strip_at}
use Rattle.strips_law.proofs.Columns.{strip_by_before}
use Rattle.parts_law.specs.Bounds.{AreBounds}
use Rattle.parts_law.specs.Ties.{AreComing, AreKnown, ComesInto, GoesOver, HasColumn}
use Rattle.strip_polygons.specs.Ranges.{AreOfBoth, AreRangesTold, RangesHavePolygons, one_strip, two_ranges}
use Rattle.strip_polygons.specs.Strips.{AreCompletedBy}
use Rattle.strip_polygons.proofs.RangesLeft.{AreBehind, told_behind}
use Rattle.strip_polygons.proofs.StripsLeft.{edge_along, strip_within}
use Rattle.strip_polygons.proofs.StripsPolygons.{all_found, all_together, later_together, middle}

-- the first of the strips is before the one past them
in_order : {cuts : List ℤ} {directed : List DirectedEdge} {from past : ℕ} {open_ones : List DirectedEdge} {found : List Shape}
    → AreRangesTold cuts directed from past open_ones found → from < past
in_order (one_strip k t) = omega arith
in_order (two_ranges first second c b t) =
    let m = in_order first in
    let n = in_order second in
    omega arith

-- two lists hold the same of the edges that have a column of the strips
abbrev AreSameThere : List ℤ → ℕ → ℕ → List DirectedEdge → List DirectedEdge → Type 0
AreSameThere cuts from past directed others = (d : DirectedEdge) → HasColumn cuts from past d → Contains directed d ↔ Contains others d

-- and so of fewer strips
fewer_same : (cuts : List ℤ) (from past other_from other_past : ℕ) (directed others : List DirectedEdge) → other_from ≤ from → past ≤ other_past
    → AreSameThere cuts other_from other_past directed others → AreSameThere cuts from past directed others
fewer_same cuts from past other_from other_past directed others low high same d h = same d (record {
  edge = h.edge;
  runs = h.runs;
  begins = (let b = h.begins in omega arith);
  ends = (let e = h.ends in omega arith);
})

-- then what is known of the one is known of the other
same_known : (cuts : List ℤ) (from past : ℕ) (directed others known : List DirectedEdge) → AreSameThere cuts from past directed others
    → AreKnown cuts from past directed known → AreKnown cuts from past others known
same_known cuts from past directed others known same k = record {
  ascending = k.ascending;
  exact = λ d. (
    (λ i. let h = (k.exact d).0 i in ((same d h.1).0 h.0, h.1)),
    (λ h. (k.exact d).1 ((same d h.1).1 h.0, h.1)),
  );
}

coming_column : (cuts : List ℤ) (from past : ℕ) → from < past → (d : DirectedEdge) → ComesInto cuts from d → HasColumn cuts from past d
coming_column cuts from past order d c = record { edge = c.edge; runs = c.runs; begins = (let b = c.before in omega arith); ends = c.into }

same_coming : (cuts : List ℤ) (from past : ℕ) (directed others coming : List DirectedEdge) → from < past → AreSameThere cuts from past directed others
    → AreComing cuts from directed coming → AreComing cuts from others coming
same_coming cuts from past directed others coming order same c d = (
  (λ i. let h = (c d).0 i in ((same d (coming_column cuts from past order d h.1)).0 h.0, h.1)),
  (λ h. (c d).1 ((same d (coming_column cuts from past order d h.1)).1 h.0, h.1)),
)

-- what completes what is left of what was left completes both
both_completed : (directed left last : List DirectedEdge) (before found : List Shape) → AreCompletedBy directed before left
    → AreCompletedBy left found last → AreCompletedBy directed (before ++ found) last
both_completed directed left last before found first second rest all are together =
    first (middle before found rest all together) all
    (second rest (middle before found rest all together) are (later_together before found rest all together))
    (all_together before found rest all together)

-- ---- two ranges that touch
module _ (cuts : List ℤ) (from border past : ℕ) (low : from < border) (high : border < past) (directed first second : List DirectedEdge)
    (found_first found_second : List Shape) (b : AreBehind cuts from border directed first found_first)
    (c : AreBehind cuts border past b.left second found_second) where
  -- an edge that goes over their borders is left
  over_both : (d : DirectedEdge) → Contains directed d → GoesOver cuts from past d → Contains c.left d
  over_both d i g = c.over d
      (b.over d i (record {
        edge = g.edge;
        runs = g.runs;
        over = ⊎_elim (λ (h : strip_at cuts g.edge.p < from). inl h) (λ (h : past ≤ strip_at cuts g.edge.q). inr (omega arith)) g.over;
      }))
      (record {
        edge = g.edge;
        runs = g.runs;
        over = ⊎_elim (λ (h : strip_at cuts g.edge.p < from). inl (omega arith)) (λ (h : past ≤ strip_at cuts g.edge.q). inr h) g.over;
      })

  module _ (coming known : List DirectedEdge) (comes : AreComing cuts from directed coming) (both : AreOfBoth coming first second known) where
    -- what comes into the first range, and what is open in either, is left and has a column there
    KnownLeft : DirectedEdge → Type 0
    KnownLeft d = Contains c.left d × HasColumn cuts from past d

    coming_left : (d : DirectedEdge) → Contains coming d → KnownLeft d
    unfolding KnownLeft
    coming_left d i =
        let h = (comes d).0 i in (
          over_both d h.0 (record { edge = h.1.edge; runs = h.1.runs; over = inl h.1.before }),
          coming_column cuts from past (omega arith) d h.1,
        )

    first_left : (d : DirectedEdge) → Contains first d → KnownLeft d
    unfolding KnownLeft
    first_left d i =
        let o = (b.open_is d).0 i in
        let h = o.1 in (
          c.over d o.0 (record { edge = h.edge; runs = h.runs; over = inl h.begins }),
          record { edge = h.edge; runs = h.runs; begins = (let l = h.begins in omega arith); ends = h.ends },
        )

    second_left : (d : DirectedEdge) → Contains second d → KnownLeft d
    unfolding KnownLeft
    second_left d i =
        let o = (c.open_is d).0 i in
        let h = o.1 in
        (o.0, record { edge = h.edge; runs = h.runs; begins = h.begins; ends = (let l = h.ends in omega arith) })

    -- and all that is left there, by the strip of the lesser end
    by_strip : (d : DirectedEdge) → KnownLeft d → Contains coming d ⊎ (Contains first d ⊎ Contains second d)
    unfolding KnownLeft
    by_strip d (i, h) = at (cases_lt (strip_at cuts h.edge.p) from) (cases_lt (strip_at cuts h.edge.p) border)
      where
        at : (strip_at cuts h.edge.p < from) ⊎ (from ≤ strip_at cuts h.edge.p) → (strip_at cuts h.edge.p < border) ⊎ (border ≤ strip_at cuts h.edge.p)
            → Contains coming d ⊎ (Contains first d ⊎ Contains second d)
        at (inl l) _ = inl ((comes d).1 (b.within d (c.within d i), record { edge = h.edge; runs = h.runs; before = l; into = h.ends }))
        at (inr r) (inl l) = inr (inl ((b.open_is d).1 (
          c.within d i,
          record { edge = h.edge; runs = h.runs; begins = l; ends = h.ends },
          record { edge = h.edge; runs = h.runs; begins = r },
        )))
        at (inr _) (inr r) =
            let grows = strip_by_before cuts h.edge.p h.edge.q h.edge.ordered in
            inr (inr ((c.open_is d).1 (
              i,
              record { edge = h.edge; runs = h.runs; begins = h.begins; ends = omega arith },
              record { edge = h.edge; runs = h.runs; begins = r },
            )))

    -- so it is what the range of both knows of what is left
    known_of_both : AreKnown cuts from past c.left known
    unfolding KnownLeft
    known_of_both = record {
      ascending = both.ascending;
      exact = λ d. (
        (λ i. ⊎_elim (coming_left d) (λ o. ⊎_elim (first_left d) (second_left d) o) ((both.exact d).0 i)),
        (λ h. (both.exact d).1 (by_strip d h)),
      );
    }

    -- and what is left behind that range is left of all
    joined_behind : (open_ones : List DirectedEdge) (found : List Shape) → AreBehind cuts from past c.left open_ones found
        → AreBehind cuts from past directed open_ones (found_first ++ (found_second ++ found))
    joined_behind open_ones found l = record {
      left = l.left;
      bounds = l.bounds;
      within = λ d i. b.within d (c.within d (l.within d i));
      over = λ d i g. l.over d (over_both d i g) g;
      open_is = l.open_is;
      open_leads = l.open_leads;
      completed = both_completed directed b.left l.left found_first (found_second ++ found) b.completed
          (both_completed b.left c.left l.left found_second found c.completed l.completed);
      each = λ p i. ⊎_elim (λ (h : Contains found_first p). b.each p h)
          (λ (h : Contains (found_second ++ found) p). ⊎_elim (λ (j : Contains found_second p). c.each p j) (λ (j : Contains found p). l.each p j)
          (Contains-append_cases found_second found p h))
          (Contains-append_cases found_first (found_second ++ found) p i);
    }

-- the first range leaves the edges that have a column of the second one
same_behind : (cuts : List ℤ) (from border past : ℕ) → from < border → (directed first : List DirectedEdge) (found : List Shape)
    → (b : AreBehind cuts from border directed first found) → AreSameThere cuts border past directed b.left
same_behind cuts from border past low directed first found b d h =
    ((λ i. b.over d i (record { edge = h.edge; runs = h.runs; over = inr h.ends })), b.within d)

-- ---- all that was told
both_same : (cuts : List ℤ) (from past : ℕ) (directed others left : List DirectedEdge) → AreSameThere cuts from past directed others
    → AreSameThere cuts from past others left → AreSameThere cuts from past directed left
both_same cuts from past directed others left s t d h = ((λ i. (t d h).0 ((s d h).0 i)), (λ i. (s d h).1 ((t d h).1 i)))

module _ (cuts : List ℤ) (directed : List DirectedEdge) where
  -- what was told of directed edges holds of others that are the same there
  told_of_others : {from past : ℕ} {open_ones : List DirectedEdge} {found : List Shape} → AreRangesTold cuts directed from past open_ones found
      → (others : List DirectedEdge) → AreBounds others → AreSameThere cuts from past directed others
      → AreBehind cuts from past others open_ones found
  told_of_others (one_strip {strip = strip} {known = known} {open_ones = open_ones} {found = found} k t) others bounds same =
      told_behind cuts strip (strip + 1) others known bounds (same_known cuts strip (strip + 1) directed others known same k) open_ones found t
  told_of_others
      (two_ranges {from = from} {middle = border} {past = past} {coming = coming} {first = first} {second = second} {known = known}
      {open_ones = open_ones} {found_first = found_first} {found_second = found_second} {found = found} r s c o t) others bounds same =
      let low : from < border = in_order r in
      let high : border < past = in_order s in
      let b = told_of_others r others bounds (fewer_same cuts from border from past directed others (omega arith) (omega arith) same) in
      let l = told_of_others s b.left b.bounds (both_same cuts border past directed others b.left
      (fewer_same cuts border past from past directed others (omega arith) (omega arith) same)
      (same_behind cuts from border past low others first found_first b)) in
      let comes = same_coming cuts from past directed others coming (omega arith) same c in
      joined_behind cuts from border past low high others first second found_first found_second b l coming known comes o open_ones found
      (told_behind cuts from past l.left known l.bounds
      (known_of_both cuts from border past low high others first second found_first found_second b l coming known comes o) open_ones found t)

-- ---- all strips
-- no edge goes over their borders, so that none is left
none_left : (cuts : List ℤ) (directed open_ones : List DirectedEdge) (found : List Shape)
    → (b : AreBehind cuts 0 (length cuts + 1) directed open_ones found) → (d : DirectedEdge) → ¬ (Contains b.left d)
none_left cuts directed open_ones found b d i = over (b.open_leads d is_open)
  where
    is_open : Contains open_ones d
    is_open =
        let a = edge_along b.left b.bounds.closes.are_directed d i in
        let w = strip_within cuts a.0.p in
        (b.open_is d).1 (
          i,
          record { edge = a.0; runs = a.1; begins = omega arith; ends = omega arith },
          record { edge = a.0; runs = a.1; begins = omega arith },
        )

    over : (e : DirectedEdge) × GoesOver cuts 0 (length cuts + 1) e → ⊥
    over (e, g) = ⊎_elim (λ (h : strip_at cuts g.edge.p < 0). omega arith)
        (λ (h : length cuts + 1 ≤ strip_at cuts g.edge.q). let w = strip_within cuts g.edge.q in omega arith) g.over

-- what is left behind them, and what was found
pub all_behind : (cuts : List ℤ) (directed open_ones : List DirectedEdge) (found : List Shape) → AreBounds directed
    → AreRangesTold cuts directed 0 (length cuts + 1) open_ones found → AreBehind cuts 0 (length cuts + 1) directed open_ones found
all_behind cuts directed open_ones found bounds told = told_of_others cuts directed told directed bounds (λ d h. ((λ i. i), (λ i. i)))

pub ranges_have_polygons : RangesHavePolygons
ranges_have_polygons cuts directed open_ones found all bounds told order =
    let b = all_behind cuts directed open_ones found bounds told in
    all_found directed b.left found (none_left cuts directed open_ones found b) b.completed all order
