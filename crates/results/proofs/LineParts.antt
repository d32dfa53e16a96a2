-- The line in parts is the canonical line of the polygons that the rings are of.
use Rattle.std.proofs.Common.{◌≡◌, ℕ, ◌+◌, ◌-◌, ◌<◌, ◌≤◌, Bool, true, false, List, [], ◌∷◌, ◌++◌, map, length, take, drop, refl, sym, ap, subst, ◌∙◌, append_assoc, arith}
use Rattle.std.specs.Prelude.{All, codes, slice_range, slice_index_or}
use Rattle.std.proofs.lemmas.Grind.{flat_map-append}
use Rattle.std.proofs.lemmas.List.{append-nil, drop-drop, get_or-drop, length-drop, map-append, take_all, take_more}
use Rattle.std.proofs.Math.Seq.{take-add}
use Rattle.std.proofs.lemmas.List.Elements.{All-append, All-cons, All-map, All-nil}
use Rattle.std.specs.Prelude.{Vec, flat_map}
use Rattle.std.specs.List.{AllZip}
use Rattle.hands.specs.declared.part.Part.{Part}
use Rattle.hands.specs.Consecutive.{ArePartsOf}
use Rattle.hands.proofs.Consecutive.{behind_one_another, each_part}
use Rattle.geom.specs.declared.point.Pt.{Pt}
use Rattle.geom.specs.Canonical.{Shape, written_rings}
use Rattle.polygonize.specs.Told.{told, told_at}
use Rattle.wkt.specs.Canonical.{first_ring, line_end, more_of, multi_text, next_ring, polygon_text, ring_text}
use Rattle.wkt.specs.Readable.{IsReadable}
use Rattle.results.specs.LineParts.{IsLine, IsPartOfLine, next_rings}

-- ---- the text

holes_text : (holes : List (List Pt)) → next_rings (map (λ (h : List Pt). (true, h)) holes) ≡ more_of ring_text holes
holes_text [] = refl
holes_text (h ∷ holes) = ap (λ (t : List ℕ). 44 ∷ 32 ∷ (ring_text h ++ t)) (holes_text holes)

polygon_told : (p : Shape) (rest : List (Bool × List Pt)) → next_rings (map (λ (h : List Pt). (true, h)) p.holes ++ rest) ≡ more_of ring_text p.holes ++ next_rings rest
polygon_told p rest =
    flat_map-append (λ r. next_ring r.0 r.1) (map (λ (h : List Pt). (true, h)) p.holes) rest
    ∙ ap (λ (t : List ℕ). t ++ next_rings rest) (holes_text p.holes)

-- polygons behind another one: what ends that one stands before them, or behind them what ends the last
polygons_text : (ps : List Shape) → next_rings (told ps) ++ 41 ∷ [] ≡ 41 ∷ more_of polygon_text ps
polygons_text [] = refl
polygons_text (p ∷ ps) =
    let shell = ring_text p.shell in
    let holes = more_of ring_text p.holes in
    ap (λ (t : List ℕ). 41 ∷ 44 ∷ 32 ∷ 40 ∷ ((shell ++ t) ++ 41 ∷ [])) (polygon_told p (told ps))
    ∙ ap (λ (t : List ℕ). 41 ∷ 44 ∷ 32 ∷ 40 ∷ t)
    (append_assoc shell (holes ++ next_rings (told ps)) (41 ∷ [])
    ∙ ap (λ (t : List ℕ). shell ++ t) (append_assoc holes (next_rings (told ps)) (41 ∷ []) ∙ ap (λ (t : List ℕ). holes ++ t) (polygons_text ps) ∙ sym (append_assoc holes (41 ∷ []) (more_of polygon_text ps)))
    ∙ sym (append_assoc shell (holes ++ 41 ∷ []) (more_of polygon_text ps)))

first_and_more : (p : Shape) (ps : List Shape) → (first_ring p.shell ++ next_rings (map (λ (h : List Pt). (true, h)) p.holes ++ told ps)) ++ line_end ≡ multi_text (p ∷ ps)
first_and_more p ps =
    let shell = ring_text p.shell in
    let holes = more_of ring_text p.holes in
    let more = more_of polygon_text ps in
    let front : List ℕ = codes "MULTIPOLYGON ((" in
    ap (λ (t : List ℕ). ((front ++ shell) ++ t) ++ line_end) (polygon_told p (told ps))
    ∙ append_assoc (front ++ shell) (holes ++ next_rings (told ps)) line_end
    ∙ append_assoc front shell ((holes ++ next_rings (told ps)) ++ line_end)
    ∙ ap (λ (t : List ℕ). front ++ t)
    (ap (λ (t : List ℕ). shell ++ t)
    (append_assoc holes (next_rings (told ps)) line_end
    ∙ ap (λ (t : List ℕ). holes ++ t) (sym (append_assoc (next_rings (told ps)) (41 ∷ []) (41 ∷ 10 ∷ [])) ∙ ap (λ (t : List ℕ). t ++ 41 ∷ 10 ∷ []) (polygons_text ps))
    ∙ sym (append_assoc holes (41 ∷ []) (more ++ 41 ∷ 10 ∷ [])))
    ∙ sym (append_assoc shell (holes ++ 41 ∷ []) (more ++ 41 ∷ 10 ∷ [])))
    ∙ ap (λ (t : List ℕ). codes "MULTIPOLYGON (" ++ (polygon_text p ++ t)) (sym (append_assoc more (41 ∷ []) (10 ∷ [])))
    ∙ ap (λ (t : List ℕ). codes "MULTIPOLYGON (" ++ t) (sym (append_assoc (polygon_text p) (more ++ 41 ∷ []) (10 ∷ [])))

-- ---- the rings between two numbers

pub one_more : {X : Type 0} (xs : List X) (from at : ℕ) (d : X) → from ≤ at → at < length xs → slice_range xs from (at + 1) ≡ slice_range xs from at ++ slice_index_or xs at d ∷ []
one_more xs from at d order inside =
    let many : (at + 1) - from ≡ (at - from) + 1 = omega (arith, order) in
    let back : from + (at - from) ≡ at = omega (arith, order) in
    ap (λ (n : ℕ). take n (drop from xs)) many
    ∙ take_more (drop from xs) (at - from) d (omega (arith, order, inside, length-drop from xs))
    ∙ ap (λ (x : _). take (at - from) (drop from xs) ++ x ∷ []) (get_or-drop from xs (at - from) d ∙ ap (λ (n : ℕ). slice_index_or xs n d) back)

pub both_ranges : {X : Type 0} (xs : List X) (from middle past : ℕ) → from ≤ middle → middle ≤ past → slice_range xs from past ≡ slice_range xs from middle ++ slice_range xs middle past
both_ranges xs from middle past first second =
    let many : past - from ≡ (middle - from) + (past - middle) = omega (arith, first, second) in
    let there : from + (middle - from) ≡ middle = omega (arith, first) in
    ap (λ (n : ℕ). take n (drop from xs)) many
    ∙ take-add (middle - from) (past - middle) (drop from xs)
    ∙ ap (λ (ys : List _). take (middle - from) (drop from xs) ++ take (past - middle) ys) (drop-drop (middle - from) from xs ∙ ap (λ (n : ℕ). drop n xs) there)

pub none_between : {X : Type 0} (xs : List X) (from : ℕ) → slice_range xs from from ≡ []
none_between xs from =
    let none : from - from ≡ 0 = omega arith in
    ap (λ (n : ℕ). take n (drop from xs)) none

behind_first : {X : Type 0} (x : X) (xs : List X) → slice_range (x ∷ xs) 1 (length (x ∷ xs)) ≡ xs
behind_first x xs =
    let others : length (x ∷ xs) - 1 ≡ length xs = omega arith in
    ap (λ (n : ℕ). take n xs) others ∙ take_all (length xs) xs (omega arith)

abbrev Told : Type 0
Told = Bool × List Pt

abbrev CanBeRead : Told → Type 0
CanBeRead r = IsReadable r.1

pub no_part : (rings : List Told) (from : ℕ) (text : List ℕ) → text ≡ [] → IsPartOfLine rings from from text
no_part rings from text e = record {
  is_text = e ∙ ap next_rings (sym (none_between rings from));
  readable = subst (All CanBeRead) (sym (none_between rings from)) (All-nil CanBeRead);
}

pub part_more : (rings : List Told) (from at : ℕ) (old new : List ℕ) (is_hole : Bool) (ring : List Pt) → from ≤ at → at < length rings
    → is_hole ≡ (told_at rings at).0 → ring ≡ (told_at rings at).1 → IsPartOfLine rings from at old → new ≡ old ++ next_ring is_hole ring → IsReadable ring
    → IsPartOfLine rings from (at + 1) new
part_more rings from at old new is_hole ring order inside h r part e readable =
    let one = told_at rings at in
    let are = one_more rings from at (false, []) order inside in
    record {
      is_text = e ∙ ap (λ (t : List ℕ). t ++ next_ring is_hole ring) part.is_text
          ∙ ap (λ (b : Bool). next_rings (slice_range rings from at) ++ next_ring b ring) h
          ∙ ap (λ (ps : List Pt). next_rings (slice_range rings from at) ++ next_ring one.0 ps) r
          ∙ ap (λ (t : List ℕ). next_rings (slice_range rings from at) ++ t) (sym (append-nil (next_ring one.0 one.1)))
          ∙ sym (flat_map-append (λ q. next_ring q.0 q.1) (slice_range rings from at) (one ∷ []))
          ∙ ap next_rings (sym are);
      readable = subst (All CanBeRead) (sym are) (All-append CanBeRead (slice_range rings from at) (one ∷ []) part.readable
          (All-cons CanBeRead one [] (subst IsReadable r readable) (All-nil CanBeRead)));
    }

pub both_parts : (rings : List Told) (from middle past : ℕ) (text rest : List ℕ) → from ≤ middle → middle ≤ past → IsPartOfLine rings from middle text → IsPartOfLine rings middle past rest
    → IsPartOfLine rings from past (text ++ rest)
both_parts rings from middle past text rest first second p q =
    let are = both_ranges rings from middle past first second in
    record {
      is_text = ap (λ (t : List ℕ). t ++ rest) p.is_text ∙ ap (λ (t : List ℕ). next_rings (slice_range rings from middle) ++ t) q.is_text
          ∙ sym (flat_map-append (λ r. next_ring r.0 r.1) (slice_range rings from middle) (slice_range rings middle past))
          ∙ ap next_rings (sym are);
      readable = subst (All CanBeRead) (sym are) (All-append CanBeRead (slice_range rings from middle) (slice_range rings middle past) p.readable q.readable);
    }

-- parts of all rings behind the first one lie inside
pub may_write : {X : Type 0} (rings : List X) (ps : List Part) → 0 < length rings → ArePartsOf 0 (length rings - 1) ps → All (λ (p : Part). (p.from ≤ p.past) × (p.past + 1 ≤ length rings)) ps
may_write rings ps some parts = each_part (λ (p : Part). (p.from ≤ p.past) × (p.past + 1 ≤ length rings)) 0 (length rings - 1) ps parts (λ p low order high. (order, omega (arith, some, high)))

-- the texts of parts of all rings behind the first one
pub all_parts : {M : Type 0} (rings : List Told) (ps : List Part) (texts : List (Vec ℕ M)) → 0 < length rings → ArePartsOf 0 (length rings - 1) ps
    → AllZip (λ (p : Part) v. IsPartOfLine rings (p.from + 1) (p.past + 1) v.items) ps texts → IsPartOfLine rings 1 (length rings) (flat_map (λ v. v.items) texts)
all_parts rings ps texts some parts each =
    subst (λ n. IsPartOfLine rings 1 n (flat_map (λ v. v.items) texts)) (omega (arith, some))
    (behind_one_another (λ v. v.items) (λ a b text. IsPartOfLine rings (a + 1) (b + 1) text) (λ a. no_part rings (a + 1) [] refl)
    (λ a b c text rest first second p q. both_parts rings (a + 1) (b + 1) (c + 1) text rest (omega (arith, first)) (omega (arith, second)) p q)
    0 (length rings - 1) ps texts parts each)

pub no_line : (rings : List Told) (text : List ℕ) → length rings ≡ 0 → text ≡ multi_text [] → IsLine rings text
no_line [] text none is = record { is_text = is; readable = All-nil CanBeRead }
no_line (r ∷ rs) text none is = absurd (omega (arith, none))

pub whole_line : (rings : List Told) (first rest end text : List ℕ) → 0 < length rings → first ≡ first_ring (told_at rings 0).1 → IsReadable (told_at rings 0).1
    → IsPartOfLine rings 1 (length rings) rest → end ≡ line_end → text ≡ (first ++ rest) ++ end → IsLine rings text
whole_line [] first rest end text some f readable part e is = absurd (omega (arith, some))
whole_line (r ∷ rs) first rest end text some f readable part e is =
    let others : slice_range (r ∷ rs) 1 (length (r ∷ rs)) ≡ rs = behind_first r rs in
    record {
      is_text = is ∙ ap (λ (t : List ℕ). (t ++ rest) ++ end) f ∙ ap (λ (t : List ℕ). (first_ring r.1 ++ t) ++ end) (part.is_text ∙ ap next_rings others)
          ∙ ap (λ (t : List ℕ). (first_ring r.1 ++ next_rings rs) ++ t) e;
      readable = All-cons CanBeRead r rs readable (subst (All CanBeRead) others part.readable);
    }

-- ---- the line of polygons

rings_told : (p : Shape) (rest : List Shape) → map (λ (r : Told). r.1) (map (λ (h : List Pt). (true, h)) p.holes ++ told rest) ≡ p.holes ++ map (λ (r : Told). r.1) (told rest)
rings_told p rest = map-append (λ (r : Told). r.1) (map (λ (h : List Pt). (true, h)) p.holes) (told rest) ∙ ap (λ (t : List (List Pt)). t ++ map (λ (r : Told). r.1) (told rest)) (same p.holes)
  where
    same : (hs : List (List Pt)) → map (λ (r : Told). r.1) (map (λ (h : List Pt). (true, h)) hs) ≡ hs
    same [] = refl
    same (h ∷ hs) = ap (λ (t : List (List Pt)). h ∷ t) (same hs)

are_rings : (ps : List Shape) → map (λ (r : Told). r.1) (told ps) ≡ written_rings ps
are_rings [] = refl
are_rings (p ∷ ps) = ap (λ (t : List (List Pt)). p.shell ∷ t) (rings_told p ps ∙ ap (λ (t : List (List Pt)). p.holes ++ t) (are_rings ps))

pub all_readable : (ps : List Shape) → All CanBeRead (told ps) → All IsReadable (written_rings ps)
all_readable ps h = subst (All IsReadable) (are_rings ps) (All-map IsReadable (λ (r : Told). r.1) (told ps) h)

line_of : (ps : List Shape) (text : List ℕ) → IsLine (told ps) text → text ≡ multi_text ps
line_of [] text l = l.is_text
line_of (p ∷ ps) text l = l.is_text ∙ first_and_more p ps

pub is_line : (ps : List Shape) (rings : List Told) (text : List ℕ) → told ps ≡ rings → IsLine rings text → (text ≡ multi_text ps) × All IsReadable (written_rings ps)
is_line ps rings text e l =
    let line = subst (λ (rs : List Told). IsLine rs text) (sym e) l in
    (line_of ps text line, all_readable ps line.readable)
