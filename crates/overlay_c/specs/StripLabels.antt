-- What the calls for C answer for the labels of a map by strips (own).
use Rattle.std.specs.Prelude.{◌≡◌, ◌<◌, ◌≤◌, ◌<ℤ◌, ◌+◌, ◌++◌, ◌↔◌, [], ℕ, ℤ, List, None, Some, AllPairs, Contains, get_or, length, map}
use Rattle.geom.specs.declared.op.Op.{Op}
use Rattle.geom.specs.declared.edge.Counted.{Counted}
use Rattle.geom.specs.declared.directed.DirectedEdge.{DirectedEdge}
use Rattle.geom.specs.Directed.{IsDirectedBefore, IsResultEdge}
use Rattle.geom.specs.Limit.{AreInLimit}
use Rattle.points_law.specs.Law.{AreLayers}
use Rattle.label_sweep.specs.StripLabels.{AreResultEdgesAlong}
use Rattle.strips_law.specs.Strips.{strip_at}
use Rattle.phases.specs.Labels.{ComeInto, TellLabels}
use Rattle.overlay_c.specs.declared.strip_answer.OverlayStripAnswer.{OverlayStripAnswer}
use Rattle.overlay_c.specs.declared.strip_items.OverlayCounted.{OverlayCounted}
use Rattle.overlay_c.specs.declared.strip_items.OverlayDirected.{OverlayDirected}
use Rattle.overlay_c.specs.Columns.{op_from}
use Rattle.overlay_c.specs.Strips.{AnyOrder, AreInPlace, IsCounted, IsCountedBefore, IsCut, IsCutBefore, IsFirstBad, Lists, counted_end, counted_start, one_list, told_counted, told_of_strip}

-- a directed edge, as C sees it
abbrev pub told_directed : DirectedEdge → OverlayDirected
told_directed d = record { ax = d.from.x; ay = d.from.y; bx = d.to.x; by = d.to.y }

-- ---- labels

-- an edge with its lesser end first, within the limit
pub record IsLimited (c : OverlayCounted) : Type 0 where
  pub ordered : IsCounted c
  pub in_limit : AreInLimit (counted_start c) (counted_end c)

-- both lists are in place
pub record AreLimitedLists (crossing own : List OverlayCounted) : Type 0 where
  pub crossing_in : AreInPlace IsLimited IsCountedBefore crossing
  pub own_in : AreInPlace IsLimited IsCountedBefore own

-- it begins on the left of each edge of the list
abbrev pub BeginsLeft : List OverlayCounted → OverlayCounted → Type 0
BeginsLeft own c = (k : ℕ) (d : OverlayCounted) → k < length own → c.px <ℤ (get_or own k d).px

-- and each edge that comes into the strip begins on the left of its own
pub record AreLabelLists (crossing own : List OverlayCounted) : Type 0 where
  pub in_place : AreLimitedLists crossing own
  pub left : AreInPlace (BeginsLeft own) AnyOrder crossing

-- the directed edges of the result of an operation along a strip's own edges, wherever the lists are those of a strip; they ascend even where they are not
pub record AreLabelsOf (op : Op) (passed_crossing passed_own : List OverlayCounted) (lists : Lists OverlayDirected ℕ ℕ) : Type 0 where
  pub sound : AreLabelLists passed_crossing passed_own
  pub crossing : List Counted
  pub crossing_is : passed_crossing ≡ map told_counted crossing
  pub own : List Counted
  pub own_is : passed_own ≡ map told_counted own
  pub edges : List DirectedEdge
  pub edges_are : lists.first ≡ map told_directed edges
  pub ascending : AllPairs IsDirectedBefore edges
  pub along : (counted : List Counted) (cuts : List ℤ) (strip : ℕ) → TellLabels counted cuts strip crossing own → AreResultEdgesAlong op counted own edges

-- the operation that the number of a call asks for
abbrev pub AreLabelsTold : ℕ → List OverlayCounted → List OverlayCounted → Lists OverlayDirected ℕ ℕ → Type 0
AreLabelsTold call crossing own lists = (op : Op) × (op_from call ≡ Some op) × AreLabelsOf op crossing own lists

-- why two lists have no labels: one is out of place, they contradict each other, or memory ran out
pub data FailsLists (crossing own : List OverlayCounted) : OverlayStripAnswer → Type 0 where
  bad_crossing : (place : ℕ) → IsFirstBad IsLimited IsCountedBefore crossing place → FailsLists crossing own (told_of_strip 3 18 0 place)
  bad_own : AreInPlace IsLimited IsCountedBefore crossing → (place : ℕ) → IsFirstBad IsLimited IsCountedBefore own place → FailsLists crossing own (told_of_strip 3 18 1 place)
  late : AreLimitedLists crossing own → (place : ℕ) → IsFirstBad (BeginsLeft own) AnyOrder crossing place → FailsLists crossing own (told_of_strip 3 19 0 place)
  no_memory : AreLabelLists crossing own → FailsLists crossing own (told_of_strip 1 10 0 0)

-- or no operation has the number
pub data FailsLabels (call : ℕ) (crossing own : List OverlayCounted) : OverlayStripAnswer → Type 0 where
  no_operation : op_from call ≡ None → FailsLabels call crossing own (told_of_strip 2 0 0 0)
  no_labels : (op : Op) → op_from call ≡ Some op → {answer : OverlayStripAnswer} → FailsLists crossing own answer → FailsLabels call crossing own answer

-- ---- going on

-- its lesser end lies in an earlier strip, and its greater one in this one or a later one
pub record CrossesInto (cuts : List ℤ) (strip : ℕ) (c : OverlayCounted) : Type 0 where
  pub begins : strip_at cuts (counted_start c) < strip
  pub ends : strip ≤ strip_at cuts (counted_end c)

-- such an edge, with its lesser end first
pub record ComesIn (cuts : List ℤ) (strip : ℕ) (c : OverlayCounted) : Type 0 where
  pub ordered : IsCounted c
  pub crosses : CrossesInto cuts strip c

-- an edge whose lesser end lies in the strip, and stands first
pub record IsOwn (cuts : List ℤ) (strip : ℕ) (c : OverlayCounted) : Type 0 where
  pub ordered : IsCounted c
  pub begins : strip_at cuts (counted_start c) ≡ strip

-- the cuts ascend, the strip is one of those between them, and both lists are in place
pub record AreGoingLists (cuts : List ℤ) (strip : ℕ) (crossing own : List OverlayCounted) : Type 0 where
  pub is_strip : strip ≤ length cuts
  pub ascending : AreInPlace IsCut IsCutBefore cuts
  pub crossing_in : AreInPlace (ComesIn cuts strip) IsCountedBefore crossing
  pub own_in : AreInPlace (IsOwn cuts strip) IsCountedBefore own

-- the edges that come into the next strip, wherever the lists are those of a strip
pub record AreGoingOn (cuts : List ℤ) (strip : ℕ) (passed_crossing passed_own : List OverlayCounted) (lists : Lists OverlayCounted ℕ ℕ) : Type 0 where
  pub sound : AreGoingLists cuts strip passed_crossing passed_own
  pub crossing : List Counted
  pub crossing_is : passed_crossing ≡ map told_counted crossing
  pub own : List Counted
  pub own_is : passed_own ≡ map told_counted own
  pub going : List Counted
  pub going_is : lists.first ≡ map told_counted going
  pub go : (counted : List Counted) → TellLabels counted cuts strip crossing own → ComeInto cuts (strip + 1) counted going

-- why there are none: no such strip, a cut or an edge out of place, or memory ran out
pub data FailsGoing (cuts : List ℤ) (strip : ℕ) (crossing own : List OverlayCounted) : OverlayStripAnswer → Type 0 where
  no_strip : length cuts < strip → FailsGoing cuts strip crossing own (told_of_strip 2 0 0 0)
  bad_cut : strip ≤ length cuts → (place : ℕ) → IsFirstBad IsCut IsCutBefore cuts place → FailsGoing cuts strip crossing own (told_of_strip 3 18 3 place)
  bad_crossing : strip ≤ length cuts → AreInPlace IsCut IsCutBefore cuts → (place : ℕ) → IsFirstBad (ComesIn cuts strip) IsCountedBefore crossing place → FailsGoing cuts strip crossing own (told_of_strip 3 18 0 place)
  bad_own : strip ≤ length cuts → AreInPlace IsCut IsCutBefore cuts → AreInPlace (ComesIn cuts strip) IsCountedBefore crossing → (place : ℕ) → IsFirstBad (IsOwn cuts strip) IsCountedBefore own place
      → FailsGoing cuts strip crossing own (told_of_strip 3 18 1 place)
  no_memory : AreGoingLists cuts strip crossing own → FailsGoing cuts strip crossing own (told_of_strip 1 10 0 0)

-- ---- all strips

-- The calls were made for each strip from this one on, the first one first: with the edges that come into it and its own. What was told of all of
-- them, one strip behind another, and their own edges likewise.
pub data AreStripsLabelled (call : ℕ) (cuts : List ℤ) : ℕ → List OverlayCounted → List OverlayCounted → List OverlayDirected → Type 0 where
  none_labelled : {crossing : List OverlayCounted} → AreStripsLabelled call cuts (length cuts + 1) crossing [] []
  one_labelled : {strip : ℕ} {crossing own next behind : List OverlayCounted} {along rest : List OverlayDirected} → AreLabelsTold call crossing own (one_list along) → AreGoingOn cuts strip crossing own (one_list next)
      → AreStripsLabelled call cuts (strip + 1) next behind rest → AreStripsLabelled call cuts strip crossing (own ++ behind) (along ++ rest)

-- where they were made for all strips of layers, and nothing came into the first one, what was told are the directed edges of the operation's result
abbrev pub StripsAreLabelled : Type 0
StripsAreLabelled = (call : ℕ) (op : Op) → op_from call ≡ Some op → (cuts : List ℤ) (counted : List Counted) → AreLayers counted → (told : List OverlayDirected)
    → AreStripsLabelled call cuts 0 [] (map told_counted counted) told → (d : DirectedEdge) → Contains told (told_directed d) ↔ IsResultEdge op counted d
