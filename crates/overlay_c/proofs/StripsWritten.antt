-- What the calls tell of ranges, and what they write strip by strip, are the polygons of a result.
use Rattle.std.proofs.Common.{◌≡◌, ◌<◌, ◌+◌, ◌-◌, ◌∷◌, ◌++◌, ◌∙◌, [], ℕ, suc, zero, List, ap, arith, get_or, length, map, refl, set, subst, sym}
use Rattle.std.proofs.Math.IntN.{ℤ}
use Rattle.std.specs.Prelude.{◌↔◌, AllPairs, Contains, flat_map}
use Rattle.std.specs.List.{AllZip, swap}
use Rattle.std.specs.List.Sorted.{IsPermutation}
use Rattle.std.proofs.lemmas.List.{get_or-map, length-append, length-map, map-set, take_at}
use Rattle.std.proofs.lemmas.List.Sorted.{Contains-permutation, IsPermutation-keeps, IsPermutation-refl, IsPermutation-swap, IsPermutation-sym, IsPermutation-trans}
use Rattle.geom.specs.declared.directed.DirectedEdge.{DirectedEdge}
use Rattle.geom.specs.declared.point.Pt.{Pt}
use Rattle.geom.specs.Canonical.{ArePolygons, Shape}
use Rattle.geom.specs.Directed.{AreDirected}
use Rattle.geom.specs.ListOrder.{IsListBefore}
use Rattle.geom.specs.NodedEdges.{AreNodedEdges}
use Rattle.geom.proofs.SamePolygons.{same_polygons}
use Rattle.wkt.specs.Canonical.{closed}
use Rattle.columns.specs.Answers.{closed_rings, coordinates_of, offsets_from}
use Rattle.columns.specs.Layout.{cut, joined, pairs, plain_ring}
use Rattle.columns.proofs.Written.{cut_back, pairs_of}
use Rattle.points_law.proofs.OneResult.{one_directed}
use Rattle.parts_law.specs.Bounds.{AreBounds}
use Rattle.parts_law.specs.Ties.{AreParted}
use Rattle.parts_law.proofs.Bounds.{bounds_are_grounded}
use Rattle.parts_law.proofs.ResultBounds.{result_edges_are_bounds}
use Rattle.polygon_order.specs.Order.{polygons_of, shell_in}
use Rattle.strip_polygons.specs.Ranges.{AreOfStrip, AreRangesTold, BeginsWithin, IsRangeTold, StripsHavePolygons}
use Rattle.strip_polygons.specs.Ranges.AreRangesTold.{one_strip as one_told, two_ranges as two_told}
use Rattle.overlay_c.specs.declared.strip_items.OverlayDirected.{OverlayDirected}
use Rattle.overlay_c.specs.Columns.{AreListsOf, Lists}
use Rattle.overlay_c.specs.Polygons.{ArePolygonColumns, directed_edges}
use Rattle.overlay_c.specs.StripLabels.{told_directed}
use Rattle.overlay_c.specs.StripWrite.{AreRangesAnswered, IsRangeAnswered, IsStripWritten, StripsAreWritten}
use Rattle.overlay_c.specs.StripWrite.AreRangesAnswered.{one_strip, two_ranges}
use Rattle.overlay_c.proofs.StripLists.{unmapped_pairs}

-- ---- directed edges, as they are told
told_back : (ds : List DirectedEdge) → directed_edges (map told_directed ds) ≡ ds
told_back [] = refl
told_back (d ∷ ds) = ap (λ t. d ∷ t) (told_back ds)

-- what is told of two lists alike is told of one
once : (ds es : List DirectedEdge) → map told_directed ds ≡ map told_directed es → ds ≡ es
once ds es h = sym (told_back ds) ∙ ap (λ items. directed_edges items) h ∙ told_back es

-- ---- ranges
-- the polygons that were told along edges which bound a part of the plane
polygons_told : (closed : List DirectedEdge) (items : List OverlayDirected) (lists : Lists) (h : ArePolygonColumns items lists) → directed_edges items ≡ closed
    → AreBounds closed → ArePolygons closed h.along.shapes
polygons_told closed items lists h same bounds =
    let b = subst AreBounds (sym same) bounds in
    subst (λ (ds : List DirectedEdge). ArePolygons ds h.along.shapes) same (h.along.are_polygons b.noded (bounds_are_grounded (directed_edges items) b))

module _ (cuts : List ℤ) (from past : ℕ) (known : List DirectedEdge) (waiting : List OverlayDirected) (found : List Shape)
    (r : IsRangeAnswered cuts from past (map told_directed known) waiting found) where
  -- the lists of a range that C sees are told by what it knows
  range_told : IsRangeTold cuts from past known r.parted.open_ones found
  range_told = record {
    closed = r.parted.closed;
    parted = subst (λ (ds : List DirectedEdge). AreDirected ds → AreNodedEdges ds → AreParted cuts from past ds r.parted.closed r.parted.open_ones)
        (told_back known) r.parted.parted;
    polygons = λ bounds. subst (λ (ps : List Shape). ArePolygons r.parted.closed ps) (sym r.found_are)
        (polygons_told r.parted.closed r.closed r.lists r.columns (ap (λ items. directed_edges items) r.parted.closed_are ∙ told_back r.parted.closed) bounds);
  }

-- what waits is told of directed edges, with which the ranges are told
record AreToldWith (cuts : List ℤ) (directed : List DirectedEdge) (from past : ℕ) (waiting : List OverlayDirected) (found : List Shape) : Type 0 where
  open_ones : List DirectedEdge
  waiting_are : waiting ≡ map told_directed open_ones
  told : AreRangesTold cuts directed from past open_ones found

module _ (cuts : List ℤ) (directed : List DirectedEdge) where
  -- these are the ones that are known to wait
  with_ones : (from past : ℕ) (ones : List DirectedEdge) (found : List Shape) → AreToldWith cuts directed from past (map told_directed ones) found
      → AreRangesTold cuts directed from past ones found
  with_ones from past ones found w =
      subst (λ (ds : List DirectedEdge). AreRangesTold cuts directed from past ds found) (once w.open_ones ones (sym w.waiting_are)) w.told

  ranges_told : {from past : ℕ} {waiting : List OverlayDirected} {found : List Shape} → AreRangesAnswered cuts directed from past waiting found
      → AreToldWith cuts directed from past waiting found
  ranges_told (one_strip {strip = strip} {known = known} {waiting = waiting} {found = found} are r) = record {
    open_ones = r.parted.open_ones;
    waiting_are = r.parted.open_are;
    told = one_told are (range_told cuts strip (strip + 1) known waiting found r);
  }
  ranges_told (two_ranges {from = from} {middle = middle} {past = past} {first = first} {second = second} {known = known} {waiting = waiting}
      {found_first = found_first} {found_second = found_second} {found = found} left right coming both r) = record {
        open_ones = r.parted.open_ones;
        waiting_are = r.parted.open_are;
        told = two_told (with_ones from middle first found_first (ranges_told left)) (with_ones middle past second found_second (ranges_told right))
            coming both (range_told cuts from past known waiting found r);
      }

-- ---- polygons as they are written
-- a ring closed, without its last point
plain_closed : (ring : List Pt) → plain_ring (closed ring) ≡ ring
plain_closed [] = refl
plain_closed (p ∷ ps) = let long = length-append ps (p ∷ []) in take_at (p ∷ ps) (p ∷ []) (length (p ∷ (ps ++ p ∷ [])) - 1) (omega (arith, long))

shell_closed : (p : Shape) → shell_in (closed_rings p) ≡ p.shell
shell_closed p = plain_closed p.shell

-- columns that are read back
read_back : (shapes : List Shape) (given : Lists) → AreListsOf shapes given → polygons_of given.coordinates given.rings given.polygons ≡ map closed_rings shapes
read_back shapes given h =
    let rings = joined (map closed_rings shapes) in
    ap (λ t. cut given.polygons (cut given.rings (pairs t))) h.points
    ∙ ap (λ t. cut given.polygons (cut given.rings t)) (pairs_of (joined rings))
    ∙ ap (λ t. cut given.polygons (cut t (joined rings))) h.rings
    ∙ ap (λ t. cut given.polygons t) (cut_back 0 rings [] (joined rings) refl refl)
    ∙ ap (λ t. cut t rings) h.polygons
    ∙ cut_back 0 (map closed_rings shapes) [] rings refl refl

-- ---- the same items in another order
module _ {X Y : Type 0} (f : X → Y) where
  swap_map : (xs : List X) (i j : ℕ) → i < length xs → j < length xs → swap (map f xs) i j ≡ map f (swap xs i j)
  swap_map [] i j h k = refl
  swap_map (x ∷ xs) i j h k =
      let l = x ∷ xs in
      ap (λ y. set (set (map f l) i y) j (get_or (map f l) i (f x))) (get_or-map f l j x (f x) k)
      ∙ ap (λ y. set (set (map f l) i (f (get_or l j x))) j y) (get_or-map f l i x (f x) h)
      ∙ ap (λ ys. set ys j (f (get_or l i x))) (sym (map-set f l i (get_or l j x)))
      ∙ sym (map-set f (set l i (get_or l j x)) j (get_or l i x))

  -- a list in another order, and what is made of it
  record IsMapOfPermutation (xs : List X) (ys : List Y) : Type 0 where
    items : List X
    are : ys ≡ map f items
    permutation : IsPermutation xs items

  swapped : (xs : List X) (ys : List Y) (i j : ℕ) → i < length ys → j < length ys → IsMapOfPermutation xs ys → IsMapOfPermutation xs (swap ys i j)
  swapped xs ys i j h k m =
      let long : length ys ≡ length m.items = ap (λ l. length l) m.are ∙ length-map m.items f in
      let first : i < length m.items = omega (arith, h, long) in
      let second : j < length m.items = omega (arith, k, long) in
      record {
        items = swap m.items i j;
        are = ap (λ l. swap l i j) m.are ∙ swap_map m.items i j first second;
        permutation = IsPermutation-trans xs m.items (swap m.items i j) m.permutation (IsPermutation-swap m.items (swap m.items i j) i j first second refl);
      }

  -- what is made of a list, in another order, is made of it in another order
  map_permuted : (xs : List X) (ys : List Y) → IsPermutation (map f xs) ys → IsMapOfPermutation xs ys
  map_permuted xs ys h = IsPermutation-keeps (map f xs) (λ l. IsMapOfPermutation xs l)
      (record { items = xs; are = refl; permutation = IsPermutation-refl xs }) (λ l i j. swapped xs l i j) ys h

-- ---- strips
-- the polygons of a strip, and their columns
record IsStripOf (cuts : List ℤ) (found : List Shape) (strip : ℕ) (lists : Lists) : Type 0 where
  written : List Shape
  are : AreOfStrip cuts found strip written
  columns : AreListsOf written lists

module _ (cuts : List ℤ) (found : List Shape) (strip : ℕ) (lists : Lists) (w : IsStripWritten cuts found strip lists) where
  -- the polygons that begin in the strip, in the order in which they are told
  in_order : IsMapOfPermutation closed_rings w.begin w.written.all
  in_order = map_permuted closed_rings w.begin w.written.all
      (subst (λ (ps : List (List (List Pt))). IsPermutation ps w.written.all) (read_back w.begin w.given w.given_are) w.written.by_shell.permutation)

  abbrev mine : List Shape
  mine = in_order.items

  shells_ascend : AllPairs (λ p q. IsListBefore p.shell q.shell) mine
  shells_ascend i j d less inside =
      let h = unmapped_pairs closed_rings mine (λ p q. IsListBefore (shell_in p) (shell_in q))
      (subst (λ (ps : List (List (List Pt))). AllPairs (λ p q. IsListBefore (shell_in p) (shell_in q)) ps) in_order.are w.written.by_shell.ascending) i j d less inside in
      subst (λ (s : List Pt). IsListBefore s (get_or mine j d).shell) (shell_closed (get_or mine i d))
      (subst (λ (s : List Pt). IsListBefore (shell_in (closed_rings (get_or mine i d))) s) (shell_closed (get_or mine j d)) h)

  these : (p : Shape) → Contains mine p ↔ (Contains found p × BeginsWithin cuts strip p)
  these p = (
    (λ i. (w.exact p).0 (Contains-permutation mine w.begin p (IsPermutation-sym w.begin mine in_order.permutation) i)),
    (λ h. Contains-permutation w.begin mine p in_order.permutation ((w.exact p).1 h)),
  )

  strip_of : IsStripOf cuts found strip lists
  strip_of = record {
    written = mine;
    are = record { ascending = shells_ascend; exact = these };
    columns = record {
      points = w.written.points ∙ ap (λ ps. coordinates_of (joined (joined ps))) in_order.are;
      rings = w.written.rings ∙ ap (λ ps. offsets_from 0 (joined ps)) in_order.are;
      polygons = w.written.polygons ∙ ap (λ ps. offsets_from 0 ps) in_order.are;
    };
  }

-- the polygons of each strip from this one on, and their columns
record AreStripsFrom (cuts : List ℤ) (found : List Shape) (first : ℕ) (told : List Lists) : Type 0 where
  written : List (List Shape)
  long : length written ≡ length told
  each : (k : ℕ) → k < length written → AreOfStrip cuts found (first + k) (get_or written k [])
  columns : AllZip AreListsOf written told

module _ (cuts : List ℤ) (found : List Shape) where
  more_strips : (first : ℕ) (lists : Lists) (told : List Lists) → IsStripOf cuts found first lists → AreStripsFrom cuts found (first + 1) told
      → AreStripsFrom cuts found first (lists ∷ told)
  more_strips first lists told s r = record {
    written = s.written ∷ r.written;
    long = ap suc r.long;
    each = each;
    columns = (s.columns, r.columns);
  }
    where
      each : (k : ℕ) → k < length (s.written ∷ r.written) → AreOfStrip cuts found (first + k) (get_or (s.written ∷ r.written) k [])
      each zero inside = let e : first ≡ first + 0 = omega arith in subst (λ (n : ℕ). AreOfStrip cuts found n s.written) e s.are
      each (suc k) inside = let e : first + 1 + k ≡ first + suc k = omega arith in
          subst (λ (n : ℕ). AreOfStrip cuts found n (get_or r.written k [])) e (r.each k (omega (arith, inside)))

  strips_from : (told : List Lists) (first : ℕ) → ((k : ℕ) (d : Lists) → k < length told → IsStripWritten cuts found (first + k) (get_or told k d))
      → AreStripsFrom cuts found first told
  strips_from [] first each = record { written = []; long = refl; each = λ k inside. absurd (omega (arith, inside)); columns = tt }
  strips_from (lists ∷ told) first each =
      let here : first + 0 ≡ first = omega arith in
      let later : (k : ℕ) → first + suc k ≡ first + 1 + k = λ k. omega arith in
      more_strips first lists told
      (strip_of cuts found first lists (subst (λ (n : ℕ). IsStripWritten cuts found n lists) here (each 0 lists (omega arith))))
      (strips_from told (first + 1) (λ k d inside. subst (λ (n : ℕ). IsStripWritten cuts found n (get_or told k d)) (later k) (each (suc k) d (omega (arith, inside)))))

-- all strips have the result's polygons
pub strips_written : StripsHavePolygons → StripsAreWritten
strips_written have op counted directed layers are cuts waiting found ranges told strips polygons result =
    let r = ranges_told cuts directed ranges in
    let begin : (k : ℕ) → k ≡ 0 + k = λ k. omega arith in
    let w = strips_from cuts found told 0 (λ k d inside. subst (λ (n : ℕ). IsStripWritten cuts found n (get_or told k d)) (begin k) (strips.each k d inside)) in
    let p = have cuts directed r.open_ones found w.written (result_edges_are_bounds op counted directed layers are) r.told
    (record {
      strips = w.long ∙ strips.strips;
      each = λ k inside. subst (λ (n : ℕ). AreOfStrip cuts found n (get_or w.written k [])) (sym (begin k)) (w.each k inside);
    }) in
    record {
      written = w.written;
      columns = w.columns;
      together = same_polygons directed are.ascending polygons (flat_map (λ ps. ps) w.written)
          (subst (λ (ds : List DirectedEdge). ArePolygons ds polygons) (one_directed op counted result.directed directed result.bound are) result.are_polygons) p;
    }
