-- What is written as columns, and that it reads back.
use Rattle.std.proofs.Common.{◌≡◌, ◌∙◌, ℕ, ◌+◌, ◌-◌, ◌*◌, ◌/◌, ◌≤◌, List, [], ◌∷◌, ◌++◌, append_assoc, length, get_or, map, take, drop, refl, sym, ap, subst, arith, ℤ}
use Rattle.std.specs.Prelude.{slice_range}
use Rattle.std.proofs.lemmas.Grind.{flat_map-append}
use Rattle.std.proofs.lemmas.List.{append-nil, drop_at, length-append, map-append, take_at}
use Rattle.geom.specs.declared.point.Pt.{Pt}
use Rattle.geom.specs.Canonical.{Shape}
use Rattle.wkt.specs.Canonical.{closed}
use Rattle.columns.specs.declared.answer.OwnedColumns.{OwnedColumns}
use Rattle.columns.specs.Layout.{cut, joined, pairs}
use Rattle.columns.specs.Answers.{AreColumnsOf, HaveRings, ReadBackAs, closed_rings, coordinates_of, offsets_from}

-- ---- coordinates

pub pairs_of : (ps : List Pt) → pairs (coordinates_of ps) ≡ ps
pairs_of [] = refl
pairs_of (p ∷ ps) = ap (λ t. p ∷ t) (pairs_of ps)

pub length_coordinates : (ps : List Pt) → length (coordinates_of ps) ≡ 2 * length ps
length_coordinates [] = refl
length_coordinates (p ∷ ps) = let e = length_coordinates ps in omega (arith, e)

pub coordinates_more : (ps qs : List Pt) → coordinates_of (ps ++ qs) ≡ coordinates_of ps ++ coordinates_of qs
coordinates_more ps qs = flat_map-append (λ p. p.x ∷ p.y ∷ []) ps qs

-- ---- offsets

pub one_list : {X : Type 0} (k m : ℕ) (lists : List (List X)) (list : List X) → m ≡ k + (length (joined lists) + length list) → offsets_from k (lists ++ list ∷ []) ≡ offsets_from k lists ++ m ∷ []
one_list k m [] list e =
    let f : k + length list ≡ m = omega (arith, e) in
    ap (λ n. k ∷ n ∷ []) f
one_list k m (l ∷ ls) list e =
    let long = length-append l (joined ls) in
    ap (λ t. k ∷ t) (one_list (k + length l) m ls list (omega (arith, e, long)))

pub joined_more : {X : Type 0} (lists : List (List X)) (list : List X) → joined (lists ++ list ∷ []) ≡ joined lists ++ list
joined_more lists list = flat_map-append (λ xs. xs) lists (list ∷ []) ∙ ap (λ t. joined lists ++ t) (append-nil list)

pub length_offsets : {X : Type 0} (k : ℕ) (lists : List (List X)) → length (offsets_from k lists) ≡ length lists + 1
length_offsets k [] = refl
length_offsets k (l ∷ ls) = let e = length_offsets (k + length l) ls in omega (arith, e)

-- ---- cut again

first_cut : {X : Type 0} (front list rest : List X) (k : ℕ) → length front ≡ k → slice_range (front ++ (list ++ rest)) k (k + length list) ≡ list
first_cut front list rest k e =
    let n : k + length list - k ≡ length list = omega arith in
    ap (λ m. take m (drop k (front ++ (list ++ rest)))) n
    ∙ ap (λ t. take (length list) t) (drop_at front (list ++ rest) k e)
    ∙ take_at list rest (length list) refl

-- the first offset, and those behind it
first_offset : {X : Type 0} (n : ℕ) (lists : List (List X)) → (rest : List ℕ) × (offsets_from n lists ≡ n ∷ rest)
first_offset n [] = ([], refl)
first_offset n (l ∷ ls) = (offsets_from (n + length l) ls, refl)

next_cut : {X : Type 0} (k n : ℕ) (os : List ℕ) (items list : List X) (lists : List (List X)) → ((rest : List ℕ) × (os ≡ (k + n) ∷ rest)) → slice_range items k (k + n) ≡ list → cut os items ≡ lists → cut (k ∷ os) items ≡ list ∷ lists
next_cut k n os items list lists (rest, e) f h =
    ap (λ t. cut (k ∷ t) items) e
    ∙ ap (λ t. t ∷ cut ((k + n) ∷ rest) items) f
    ∙ ap (λ t. list ∷ t) (sym (ap (λ t. cut t items) e) ∙ h)

pub cut_back : {X : Type 0} (k : ℕ) (lists : List (List X)) (front items : List X) → length front ≡ k → items ≡ front ++ joined lists → cut (offsets_from k lists) items ≡ lists
cut_back k [] front items e is = refl
cut_back k (l ∷ ls) front items e is =
    next_cut k (length l) (offsets_from (k + length l) ls) items l ls (first_offset (k + length l) ls) (ap (λ t. slice_range t k (k + length l)) is ∙ first_cut front l (joined ls) k e)
    (cut_back (k + length l) ls (front ++ l) items (length-append front l ∙ ap (λ n. n + length l) e) (is ∙ sym (append_assoc front l (joined ls))))

pub reads_back : {M : Type 0} (polygons : List Shape) (c : OwnedColumns M) → AreColumnsOf polygons c → ReadBackAs polygons c
reads_back polygons c h =
    let rings = joined (map closed_rings polygons) in
    ap (λ t. cut c.polygons.items (cut c.rings.items (pairs t))) h.have.points
    ∙ ap (λ t. cut c.polygons.items (cut c.rings.items t)) (pairs_of (joined rings))
    ∙ ap (λ t. cut c.polygons.items (cut t (joined rings))) h.have.offsets
    ∙ ap (λ t. cut c.polygons.items t) (cut_back 0 rings [] (joined rings) refl refl)
    ∙ ap (λ t. cut t rings) h.offsets
    ∙ cut_back 0 (map closed_rings polygons) [] rings refl refl

-- ---- rings, one after another

pub one_ring : {M : Type 0} (rings : List (List Pt)) (ring : List Pt) (old new : OwnedColumns M) (past : ℕ) → HaveRings rings old → new.coordinates.items ≡ old.coordinates.items ++ coordinates_of ring
    → new.rings.items ≡ old.rings.items ++ past ∷ [] → past ≡ length new.coordinates.items / 2 → HaveRings (rings ++ ring ∷ []) new
one_ring rings ring old new past h added offset at =
    let all = added ∙ ap (λ t. t ++ coordinates_of ring) h.points ∙ sym (coordinates_more (joined rings) ring) ∙ ap coordinates_of (sym (joined_more rings ring)) in
    let long = ap length all ∙ length_coordinates (joined (rings ++ ring ∷ [])) in
    let parts = ap length (joined_more rings ring) ∙ length-append (joined rings) ring in
    record {
      points = all;
      offsets = offset ∙ ap (λ t. t ++ past ∷ []) h.offsets ∙ sym (one_list 0 past rings ring (omega (arith, at, long, parts)));
    }

-- ---- polygons, one after another

pub holes_more : {M : Type 0} (rings : List (List Pt)) (shell : List Pt) (holes : List (List Pt)) (hole : List Pt) (c : OwnedColumns M) → HaveRings ((rings ++ map closed (shell ∷ holes)) ++ closed hole ∷ []) c → HaveRings (rings ++ map closed (shell ∷ (holes ++ hole ∷ []))) c
holes_more rings shell holes hole c h =
    subst (λ t. HaveRings t c) (append_assoc rings (map closed (shell ∷ holes)) (closed hole ∷ []) ∙ ap (λ t. rings ++ t) (sym (map-append closed (shell ∷ holes) (hole ∷ [])))) h

pub one_polygon : {M : Type 0} (polygons : List Shape) (polygon : Shape) (old new : OwnedColumns M) (past : ℕ) → AreColumnsOf polygons old → HaveRings (joined (map closed_rings polygons) ++ closed_rings polygon) new
    → new.polygons.items ≡ old.polygons.items ++ past ∷ [] → past ≡ length new.rings.items - 1 → AreColumnsOf (polygons ++ polygon ∷ []) new
one_polygon polygons polygon old new past h rings offset at =
    let shapes = map closed_rings polygons in
    let more = map-append closed_rings polygons (polygon ∷ []) in
    let all = joined_more shapes (closed_rings polygon) in
    let long = ap length rings.offsets ∙ length_offsets 0 (joined shapes ++ closed_rings polygon) in
    let parts = length-append (joined shapes) (closed_rings polygon) in
    record {
      have = subst (λ t. HaveRings t new) (sym (ap joined more ∙ all)) rings;
      offsets = offset ∙ ap (λ t. t ++ past ∷ []) h.offsets ∙ sym (one_list 0 past shapes (closed_rings polygon) (omega (arith, at, long, parts))) ∙ ap (offsets_from 0) (sym more);
    }

-- ---- the points of a ring, and its first again

closed_is : (ring : List Pt) (d : Pt) → 1 ≤ length ring → closed ring ≡ ring ++ get_or ring 0 d ∷ []
closed_is [] d h = absurd (omega (arith, h))
closed_is (p ∷ ps) d h = refl

pub ring_added : (old mid new : List ℤ) (ring : List Pt) (p : Pt) → 1 ≤ length ring → p ≡ get_or ring 0 p → mid ≡ old ++ coordinates_of ring → new ≡ mid ++ p.x ∷ p.y ∷ [] → new ≡ old ++ coordinates_of (closed ring)
ring_added old mid new ring p some first e f =
    f ∙ ap (λ t. t ++ p.x ∷ p.y ∷ []) e ∙ append_assoc old (coordinates_of ring) (p.x ∷ p.y ∷ [])
    ∙ ap (λ t. old ++ t) (sym (coordinates_more ring (p ∷ [])) ∙ ap (λ q. coordinates_of (ring ++ q ∷ [])) first ∙ ap coordinates_of (sym (closed_is ring p some)))
