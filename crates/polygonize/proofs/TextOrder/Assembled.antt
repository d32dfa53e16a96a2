-- The groups of the written rings, in the order of the text, are the polygons.
use Rattle.std.proofs.Common.{◌≡◌, ◌≢◌, ℕ, ◌≤◌, Bool, true, false, List, [], ◌∷◌, ◌++◌, length, map, refl, sym, ◌∙◌, ap, subst, inl, inr, arith}
use Rattle.std.specs.Prelude.{All, Contains, flat_map}
use Rattle.std.proofs.lemmas.List.Elements.{All-contains}
use Rattle.std.proofs.lemmas.List.Sorted.{IsPermutation-sym}
use Rattle.geom.specs.declared.point.Pt.{Pt}
use Rattle.geom.specs.declared.directed.DirectedEdge.{DirectedEdge}
use Rattle.geom.specs.Canonical.{Shape, IsPieceOf, IsPolygon, IsShellsPolygon, ArePolygons}
use Rattle.geom.specs.Directed.{AreDirected}
use Rattle.geom.specs.Holes.{IsOwner, IsShell}
use Rattle.geom.specs.Holes.IsOwner.{itself}
use Rattle.geom.specs.ListOrder.{IsListBefore, IsLeastRotation}
use Rattle.geom.specs.Rings.{ring_edges, AreRings}
use Rattle.geom.specs.Rings.IsCut.{whole}
use Rattle.geom.specs.NodedEdges.{AreNodedEdges}
use Rattle.geom.proofs.OneCut.{one_cut}
use Rattle.geom.proofs.OneOwner.{one_owner}
use Rattle.geom.proofs.OneRing.{one_ring, one_first as one_first_piece}
use Rattle.geom.proofs.OneRotation.{one_rotation}
use Rattle.geom.proofs.Lists.{In, contains_in, in_contains, in_map, map_in}
use Rattle.geom.proofs.RingEdges.{in_flat, in_permutation}
use Rattle.polygonize.specs.Grouped.{Group, members, shape_of, AreGrouped}
use Rattle.polygonize.specs.Next.{ring_of}
use Rattle.polygonize.specs.Placed.{PlacedRing, opening_of, IsPlaced, IsWrittenAmong, points}
use Rattle.polygonize.proofs.TextOrder.Entries.{AreOne, AreEntries, IsEntry, entry, one_shell, one_under, one_whole, owner_inside, owner_of, owner_shell, same_first, same_shell, written_edge}
use Rattle.polygonize.proofs.TextOrder.Openings.{opening_before, same_numbers}
use Rattle.polygonize.proofs.TextOrder.Places.{OpeningLess, PlaceLess, opening_itself, opening_one_way, place_one_way}
use Rattle.polygonize.proofs.Sorted.{ascend_map, ascend_pairs, between, compare, group_ascends, in_members, of_members, one_group, shells_ascend}

-- places by the opening of the shell alone
shells_meet : (t g h : PlacedRing) → PlaceLess t.place g.place → PlaceLess g.place h.place → t.place.shell ≡ h.place.shell → h.place.shell ≡ g.place.shell
shells_meet t g h (inr k) m e = sym e ∙ k.0
shells_meet t g h (inl k) (inr m) e = sym m.0
shells_meet t g h (inl k) (inl m) e = absurd (opening_one_way t.place.shell g.place.shell k (let P : _ → Type 0 = λ s. OpeningLess g.place.shell s in subst P (sym e) m))

no_rotation : (turned : List Pt) → IsLeastRotation [] turned → turned ≡ []
no_rotation turned l = parts l.rotation.front l.rotation.back l.rotation.was l.rotation.is
  where
    parts : (front back : List Pt) → [] ≡ front ++ back → turned ≡ back ++ front → turned ≡ []
    parts [] [] e f = f
    parts [] (p ∷ ps) e f = absurd (cc)
    parts (p ∷ ps) back e f = absurd (cc)

no_points : (ds : List DirectedEdge) (ring : List ℕ) → 3 ≤ length ring → ring_of ds ring ≡ [] → ⊥
no_points ds [] h e = omega arith
no_points ds (x ∷ xs) h e = cc

module _ (ds : List DirectedEdge) (a : AreDirected ds) (rings : List (List Pt)) (are_rings : AreRings ds rings) (one : AreOne ds rings) (gs : List (Group PlacedRing)) (written : AreEntries ds rings (members gs))
    (shells : (g : Group PlacedRing) → In g gs → g.shell.place.is_hole ≡ false) (holes : (g : Group PlacedRing) → In g gs → (h : PlacedRing) → In h g.holes → h.place.is_hole ≡ true) where
  abbrev Less : PlacedRing → PlacedRing → Type 0
  Less v w = PlaceLess v.place w.place

  one_way : (v w : PlacedRing) → Less v w → Less w v → ⊥
  one_way v w k m = place_one_way v.place w.place k m

  shell_in : (g : Group PlacedRing) → In g gs → In g.shell (members gs)
  shell_in g i = in_members gs g g.shell i (inl refl)

  hole_in : (g : Group PlacedRing) → In g gs → (h : PlacedRing) → In h g.holes → In h (members gs)
  hole_in g i h j = in_members gs g h i (inr j)

  not_both : {X : Type 0} (b : Bool) → b ≡ false → b ≡ true → X
  not_both b h k = absurd (let f : false ≡ true = sym h ∙ k in cc)

  -- the holes of a group are under its shell
  under_group : (g : Group PlacedRing) → In g gs → (h : PlacedRing) → In h g.holes → h.place.shell ≡ g.shell.place.shell
  under_group g i h j = elim (compare Less (members gs) written.sorted g.shell t.0 (shell_in g i) t.1.inside) [
    | inl e ↦ sym under ∙ ap (λ s. s.place.shell) (sym e)
    | inr l ↦ elim l [
      | inl m ↦ not_both t.0.place.is_hole t.1.is_shell (holes g i t.0 (between Less one_way gs written.sorted g h t.0 i j t.1.inside m before))
      | inr m ↦ shells_meet t.0 g.shell h m ((group_ascends Less gs written.sorted g i).0 h j) under
    ]
  ]
    where
      p : IsPlaced ds rings h
      p = written.placed h (hole_in g i h j)

      t : (s : PlacedRing) × IsEntry ds rings one (members gs) p.first s
      t = entry ds rings one (members gs) written p.shell (owner_inside p.is_piece.owner) (owner_shell p.is_piece.owner) p.first p.is_first

      under : t.0.place.shell ≡ h.place.shell
      under = t.1.under ∙ sym p.under

      before : Less t.0 h
      before = inr (under, inl (t.1.is_shell, holes g i h j))

  -- and all holes under it are in the group
  in_group : (g : Group PlacedRing) → In g gs → (h : PlacedRing) → In h (members gs) → h.place.is_hole ≡ true → h.place.shell ≡ g.shell.place.shell → In h g.holes
  in_group g i h j k e = by m.2
    where
      m : (q : Group PlacedRing) × In q gs × In h (q.shell ∷ q.holes)
      m = of_members gs h j

      by : In h (m.0.shell ∷ m.0.holes) → In h g.holes
      by (inl f) = not_both h.place.is_hole (ap (λ s. s.place.is_hole) (sym f) ∙ shells m.0 m.1) k
      by (inr n) = let P : Group PlacedRing → Type 0 = λ q. In h q.holes in
          subst P (one_group Less one_way gs written.sorted m.0 g m.1 i (one_shell ds rings one (members gs) written m.0.shell g.shell (shell_in m.0 m.1) (shell_in g i) (shells m.0 m.1) (shells g i) (sym (under_group m.0 m.1 h n) ∙ e))) n

  sound_before : (v w : PlacedRing) → In v (members gs) → In w (members gs) → OpeningLess v.place.opening w.place.opening → IsListBefore (points ds v) (points ds w)
  sound_before v w i j l = opening_before ds a v.ring w.ring (written.canonical v i).sound (written.canonical w j).sound
      (let P : _ → Type 0 = λ o. OpeningLess o (opening_of w.ring) in subst P (written.placed v i).opening (let Q : _ → Type 0 = λ o. OpeningLess v.place.opening o in subst Q (written.placed w j).opening l))

  holes_before : (g : Group PlacedRing) → In g gs → (h k : PlacedRing) → In h g.holes → In k g.holes → Less h k → IsListBefore (points ds h) (points ds k)
  holes_before g i h k m n (inl l) = absurd (opening_itself h.place.shell k.place.shell l (under_group g i h m ∙ sym (under_group g i k n)))
  holes_before g i h k m n (inr (e, inl l)) = not_both h.place.is_hole l.0 (holes g i h m)
  holes_before g i h k m n (inr (e, inr l)) = sound_before h k (hole_in g i h m) (hole_in g i k n) l.1

  shells_before : (g k : Group PlacedRing) → In g gs → In k gs → Less g.shell k.shell → IsListBefore (points ds g.shell) (points ds k.shell)
  shells_before g k i j (inl l) = sound_before g.shell k.shell (shell_in g i) (shell_in k j) (let P : _ → Type 0 = λ o. OpeningLess o k.shell.place.opening in subst P (own g i) (let Q : _ → Type 0 = λ o. OpeningLess g.shell.place.shell o in subst Q (own k j) l))
    where
      own : (g : Group PlacedRing) → In g gs → g.shell.place.shell ≡ g.shell.place.opening
      own g i = let q = written.placed g.shell (shell_in g i) in q.under ∙ ap opening_of (sym (q.hole.0 (shells g i))) ∙ sym q.opening
  shells_before g k i j (inr (e, inl l)) = not_both k.shell.place.is_hole (shells k j) l.1
  shells_before g k i j (inr (e, inr l)) = sound_before g.shell k.shell (shell_in g i) (shell_in k j) l.1

  -- ---- the polygon of a group
  piece_of : (g : Group PlacedRing) → In g gs → (p : IsPlaced ds rings g.shell) → (h : PlacedRing) → In h g.holes → IsPieceOf ds rings p.shell (points ds h) × (points ds h ≢ points ds g.shell)
  piece_of g i p h j = (
    (let P : List Pt → Type 0 = λ t. IsPieceOf ds rings t (points ds h) in subst P (same_shell ds rings one (members gs) written h g.shell (hole_in g i h j) (shell_in g i) q p (under_group g i h j)) q.is_piece),
    λ e. not_both h.place.is_hole (q.hole.1 (same_numbers ds h.ring g.shell.ring (written.canonical h (hole_in g i h j)).sound.vertices (written.canonical g.shell (shell_in g i)).sound.vertices e
        ∙ p.hole.0 (shells g i) ∙ sym (same_first ds rings one (members gs) written h g.shell (hole_in g i h j) (shell_in g i) q p (under_group g i h j)))) (holes g i h j),
  )
    where
      q : IsPlaced ds rings h
      q = written.placed h (hole_in g i h j)

  hole_of : (g : Group PlacedRing) → In g gs → (p : IsPlaced ds rings g.shell) → (w : List Pt) → IsPieceOf ds rings p.shell w → w ≢ points ds g.shell → In w (map (points ds) g.holes)
  hole_of g i p w c n = let P : List Pt → Type 0 = λ t. In t (map (points ds) g.holes) in subst P same (map_in (points ds) g.holes h (in_group g i h inside (is_hole h.place.is_hole refl) under))
    where
      found : IsWrittenAmong ds (members gs) c.piece
      found = written.each c.ring p.shell c.owner c.pieces c.cut c.piece c.one

      h : PlacedRing
      h = found.placed

      inside : In h (members gs)
      inside = contains_in (members gs) h found.inside

      same : points ds h ≡ w
      same = one.rotation c.piece (points ds h) w found.least c.least

      q : IsPlaced ds rings h
      q = written.placed h inside

      ring_is : q.is_piece.ring ≡ c.ring
      ring_is = one_whole ds rings one q.is_piece.ring c.ring (owner_of q.is_piece.owner) (owner_of c.owner) q.is_piece.pieces c.pieces q.is_piece.cut c.cut q.is_piece.piece c.piece q.is_piece.one c.one h.ring (written.canonical h inside).sound.long q.is_piece.least found.least

      shell_is : q.shell ≡ p.shell
      shell_is = one.owner c.ring q.shell p.shell (let P : List Pt → Type 0 = λ t. IsOwner ds rings t q.shell in subst P ring_is q.is_piece.owner) c.owner

      firsts : q.first ≡ p.first
      firsts = one_under ds rings one (members gs) written h g.shell q p shell_is

      under : h.place.shell ≡ g.shell.place.shell
      under = q.under ∙ ap opening_of firsts ∙ sym p.under

      is_hole : (b : Bool) → h.place.is_hole ≡ b → h.place.is_hole ≡ true
      is_hole true e = e
      is_hole false e = absurd (n (sym same ∙ ap (ring_of ds) (q.hole.0 e ∙ firsts ∙ sym (p.hole.0 (shells g i)))))

  polygon : (g : Group PlacedRing) → In g gs → (p : IsPlaced ds rings g.shell) → IsPolygon ds rings p.shell (shape_of (points ds) g)
  polygon g i p = record {
    pieces = p.is_first.pieces;
    cut = p.is_first.cut;
    piece = p.is_first.piece;
    one = p.is_first.one;
    first = p.is_first.is_first;
    least = let P : List ℕ → Type 0 = λ t. IsLeastRotation p.is_first.piece (ring_of ds t) in subst P (sym (p.hole.0 (shells g i))) p.is_first.least;
    ascending = ascend_pairs IsListBefore (map (points ds) g.holes) (ascend_map Less IsListBefore (points ds) g.holes (λ h k m n l. holes_before g i h k m n l) (group_ascends Less gs written.sorted g i).1);
    holes = λ w. (
      (λ c. let m = in_map (points ds) g.holes w (contains_in (map (points ds) g.holes) w c) in let P : List Pt → Type 0 = λ t. IsPieceOf ds rings p.shell t × (t ≢ points ds g.shell) in subst P m.2 (piece_of g i p m.0 m.1)),
      (λ c. in_contains (map (points ds) g.holes) w (hole_of g i p w c.0 c.1)),
    );
  }

  -- ---- each shell has one
  first_of : (p : Pt) (ps : List Pt) → (d : DirectedEdge) × Contains (ring_edges (p ∷ ps)) d
  first_of p [] = (_, in_contains (ring_edges (p ∷ [])) _ (inl refl))
  first_of p (q ∷ qs) = (_, in_contains (ring_edges (p ∷ q ∷ qs)) _ (inl refl))

  some_ring : (ring : List Pt) → Contains rings ring → IsShell ring → (d : DirectedEdge) × Contains (ring_edges ring) d
  some_ring [] c h = absurd (no_points ds found.placed.ring (written.canonical found.placed (contains_in (members gs) found.placed found.inside)).sound.long (no_rotation (points ds found.placed) found.least))
    where
      found : IsWrittenAmong ds (members gs) []
      found = written.each [] [] (itself c h) ([] ∷ []) (whole (λ i j d k l. absurd (omega arith))) [] (in_contains ([] ∷ []) [] (inl refl))
  some_ring (p ∷ ps) c h = first_of p ps

  of_shell : (ring : List Pt) → Contains rings ring → IsShell ring → (g : Group PlacedRing) × In g gs × IsPolygon ds rings ring (shape_of (points ds) g)
  of_shell ring c h = by m.2
    where
      d : (d : DirectedEdge) × Contains (ring_edges ring) d
      d = some_ring ring c h

      in_ds : Contains ds d.0
      in_ds = in_contains ds d.0 (in_permutation (flat_map ring_edges rings) ds d.0 (IsPermutation-sym _ _ are_rings.together) (in_flat ring_edges rings ring d.0 (contains_in rings ring c) (contains_in (ring_edges ring) d.0 d.1)))

      w : (w : PlacedRing) × In w (members gs) × In d.0 (ring_edges (points ds w))
      w = written.has_edge d.0 in_ds

      q : IsPlaced ds rings w.0
      q = written.placed w.0 w.1

      ring_is : q.is_piece.ring ≡ ring
      ring_is = one.ring q.is_piece.ring ring d.0 (owner_of q.is_piece.owner) c (written_edge q.is_piece.ring q.is_piece.pieces q.is_piece.piece (points ds w.0) q.is_piece.cut q.is_piece.one q.is_piece.least d.0 w.2) d.1

      shell_is : q.shell ≡ ring
      shell_is = one.owner ring q.shell ring (let P : List Pt → Type 0 = λ t. IsOwner ds rings t q.shell in subst P ring_is q.is_piece.owner) (itself c h)

      s : (s : PlacedRing) × IsEntry ds rings one (members gs) q.first s
      s = entry ds rings one (members gs) written q.shell (owner_inside q.is_piece.owner) (owner_shell q.is_piece.owner) q.first q.is_first

      m : (g : Group PlacedRing) × In g gs × In s.0 (g.shell ∷ g.holes)
      m = of_members gs s.0 s.1.inside

      by : In s.0 (m.0.shell ∷ m.0.holes) → (g : Group PlacedRing) × In g gs × IsPolygon ds rings ring (shape_of (points ds) g)
      by (inr n) = not_both s.0.place.is_hole s.1.is_shell (holes m.0 m.1 s.0 n)
      by (inl e) = (m.0, m.1, (let P : List Pt → Type 0 = λ t. IsPolygon ds rings t (shape_of (points ds) m.0) in subst P (same_shell ds rings one (members gs) written m.0.shell w.0 (shell_in m.0 m.1) w.1 p q (ap (λ t. t.place.shell) e ∙ s.1.under ∙ sym q.under) ∙ shell_is) (polygon m.0 m.1 p)))
        where
          p : IsPlaced ds rings m.0.shell
          p = written.placed m.0.shell (shell_in m.0 m.1)

  pub polygons_of_groups : ArePolygons ds (map (shape_of (points ds)) gs)
  polygons_of_groups = record {
    rings = rings;
    are_rings = are_rings;
    ascending = ascend_pairs (λ p q. IsListBefore p.shell q.shell) (map (shape_of (points ds)) gs) (ascend_map (λ g k. Less g.shell k.shell) (λ p q. IsListBefore p.shell q.shell) (shape_of (points ds)) gs (λ g k i j l. shells_before g k i j l) (shells_ascend Less gs written.sorted));
    only = λ p c. let m = in_map (shape_of (points ds)) gs p (contains_in (map (shape_of (points ds)) gs) p c) in let P : Shape → Type 0 = IsShellsPolygon ds rings in subst P m.2 (shells_polygon m.0 m.1);
    each = λ ring c h. let g = of_shell ring c h in (shape_of (points ds) g.0, in_contains (map (shape_of (points ds)) gs) (shape_of (points ds) g.0) (map_in (shape_of (points ds)) gs g.0 g.1), g.2);
  }
    where
      shells_polygon : (g : Group PlacedRing) → In g gs → IsShellsPolygon ds rings (shape_of (points ds) g)
      shells_polygon g i = let p = written.placed g.shell (shell_in g i) in record { ring = p.shell; inside = owner_inside p.is_piece.owner; is_shell = owner_shell p.is_piece.owner; polygon_of = polygon g i p }

-- where the shapes are the groups of the sorted rings, they are the polygons
pub assembled : (ds : List DirectedEdge) → AreDirected ds → (rings : List (List Pt)) → AreRings ds rings → AreOne ds rings → (ws : List PlacedRing) → AreEntries ds rings ws → (shapes : List Shape) → AreGrouped (λ w. w.place.is_hole) (points ds) ws shapes → ArePolygons ds shapes
assembled ds a rings r one ws e shapes g = let P : List Shape → Type 0 = ArePolygons ds in subst P (sym g.are_shapes) (polygons_of_groups ds a rings r one g.groups (let Q : List PlacedRing → Type 0 = AreEntries ds rings in subst Q (sym g.together) e)
    (λ k i. All-contains (λ k. k.shell.place.is_hole ≡ false) g.groups k g.shells (in_contains g.groups k i))
    (λ k i h j. All-contains (λ w. w.place.is_hole ≡ true) k.holes h (All-contains (λ k. All (λ w. w.place.is_hole ≡ true) k.holes) g.groups k g.holes (in_contains g.groups k i)) (in_contains k.holes h j)))

-- ---- the values are one
pub are_one : (ds : List DirectedEdge) (rings : List (List Pt)) → AreDirected ds → AreNodedEdges ds → AreRings ds rings → AreOne ds rings
are_one ds rings a n r = record {
  ring = one_ring ds rings a r;
  cut = λ x ps qs c d. one_cut c d;
  rotation = one_rotation;
  first = λ x c pieces k p q i j l m. one_first_piece ds rings a r x c pieces k p q i j l m;
  owner = one_owner ds rings a n r;
}
