-- The canonical line, ring after ring.
use Rattle.std.proofs.Common.{◌≡◌, ℕ, ◌+◌, ◌<◌, true, List, [], ◌∷◌, ◌++◌, length, take, refl, sym, ap, ◌∙◌, append_assoc}
use Rattle.std.specs.Prelude.{codes, slice_index_or, flat_map}
use Rattle.std.proofs.lemmas.Grind.{flat_map-append}
use Rattle.std.proofs.lemmas.List.{append-nil, take_more}
use Rattle.geom.specs.declared.point.Pt.{Pt}
use Rattle.geom.specs.Canonical.{Shape}
use Rattle.wkt.specs.Canonical.{first_ring, line_end, more_of, multi_text, polygon_text, ring_text}
use Rattle.faces_text.specs.Line.{holes_text, polygons_text}

are_holes : (holes : List (List Pt)) → holes_text holes ≡ more_of ring_text holes
are_holes [] = refl
are_holes (h ∷ holes) = ap (λ (t : List ℕ). 44 ∷ 32 ∷ (ring_text h ++ t)) (are_holes holes)

-- what ends a polygon stands before the next one, or behind it what ends the last
are_polygons : (ps : List Shape) (t : List ℕ) → polygons_text ps ++ (41 ∷ t) ≡ 41 ∷ (more_of polygon_text ps ++ t)
are_polygons [] t = refl
are_polygons (p ∷ ps) t =
    let shell = ring_text p.shell in
    let holes = more_of ring_text p.holes in
    ap (λ (h : List ℕ). 41 ∷ 44 ∷ 32 ∷ 40 ∷ (((shell ++ h) ++ polygons_text ps) ++ (41 ∷ t))) (are_holes p.holes)
    ∙ ap (λ (u : List ℕ). 41 ∷ 44 ∷ 32 ∷ 40 ∷ u)
    (append_assoc (shell ++ holes) (polygons_text ps) (41 ∷ t)
    ∙ append_assoc shell holes (polygons_text ps ++ (41 ∷ t))
    ∙ ap (λ (u : List ℕ). shell ++ (holes ++ u)) (are_polygons ps t)
    ∙ ap (λ (u : List ℕ). shell ++ u) (sym (append_assoc holes (41 ∷ []) (more_of polygon_text ps ++ t)))
    ∙ sym (append_assoc shell (holes ++ 41 ∷ []) (more_of polygon_text ps ++ t))
    ∙ sym (append_assoc (shell ++ (holes ++ 41 ∷ [])) (more_of polygon_text ps) t))

pub whole : (p : Shape) (ps : List Shape) → first_ring p.shell ++ (holes_text p.holes ++ (polygons_text ps ++ line_end)) ≡ multi_text (p ∷ ps)
whole p ps =
    let shell = ring_text p.shell in
    let holes = more_of ring_text p.holes in
    let more = more_of polygon_text ps in
    let front : List ℕ = codes "MULTIPOLYGON ((" in
    ap (λ (h : List ℕ). first_ring p.shell ++ (h ++ (polygons_text ps ++ line_end))) (are_holes p.holes)
    ∙ ap (λ (u : List ℕ). first_ring p.shell ++ (holes ++ u)) (are_polygons ps (41 ∷ 10 ∷ []))
    ∙ append_assoc front shell (holes ++ (41 ∷ (more ++ 41 ∷ 10 ∷ [])))
    ∙ ap (λ (u : List ℕ). front ++ u)
    (ap (λ (u : List ℕ). shell ++ u) (sym (append_assoc holes (41 ∷ []) (more ++ 41 ∷ 10 ∷ [])))
    ∙ sym (append_assoc shell (holes ++ 41 ∷ []) (more ++ 41 ∷ 10 ∷ [])))
    ∙ ap (λ (t : List ℕ). codes "MULTIPOLYGON (" ++ (polygon_text p ++ t)) (sym (append_assoc more (41 ∷ []) (10 ∷ [])))
    ∙ ap (λ (t : List ℕ). codes "MULTIPOLYGON (" ++ t) (sym (append_assoc (polygon_text p) (more ++ 41 ∷ []) (10 ∷ [])))

-- one item more
pub one_more : {X : Type 0} (f : X → List ℕ) (xs : List X) (i : ℕ) (d : X) → i < length xs → flat_map f (take (i + 1) xs) ≡ flat_map f (take i xs) ++ f (slice_index_or xs i d)
one_more f xs i d h = ap (flat_map f) (take_more xs i d h) ∙ flat_map-append f (take i xs) (slice_index_or xs i d ∷ []) ∙ ap (λ (t : List ℕ). flat_map f (take i xs) ++ t) (append-nil (f (slice_index_or xs i d)))

-- ring after ring behind a text
pub line_of : (p : Shape) (ps all : List Shape) (text first holes more end : List ℕ) → all ≡ p ∷ ps → first ≡ text ++ first_ring p.shell → holes ≡ first ++ holes_text p.holes → more ≡ holes ++ polygons_text ps → end ≡ more ++ line_end
    → end ≡ text ++ multi_text all
line_of p ps all text first holes more end e f h m l =
    l ∙ ap (λ (t : List ℕ). t ++ line_end) (m ∙ ap (λ (t : List ℕ). t ++ polygons_text ps) (h ∙ ap (λ (t : List ℕ). t ++ holes_text p.holes) f))
    ∙ append_assoc ((text ++ first_ring p.shell) ++ holes_text p.holes) (polygons_text ps) line_end
    ∙ append_assoc (text ++ first_ring p.shell) (holes_text p.holes) (polygons_text ps ++ line_end)
    ∙ append_assoc text (first_ring p.shell) (holes_text p.holes ++ (polygons_text ps ++ line_end))
    ∙ ap (λ (t : List ℕ). text ++ t) (whole p ps ∙ ap multi_text (sym e))
