-- The canonical text of polygons (OGC 06-103r4; the spelling is own): upper case, one space behind the keyword, `, `
-- between, the shell before the holes, each ring's first point again at its end, plain decimals, LF at the end.
use Rattle.std.specs.Prelude.{ℕ, Bool, true, false, List, [], ◌∷◌, ◌++◌, codes}
use Rattle.std.specs.List.{flat_map}
use Rattle.geom.specs.Canonical.{Shape}
use Rattle.geom.specs.Words.{pt_words}
use Rattle.geom.specs.declared.point.Pt.{Pt}

-- `, ` before each item
abbrev pub more_of : {X : Type 0} → (X → List ℕ) → List X → List ℕ
more_of f xs = flat_map (λ x. 44 ∷ 32 ∷ f x) xs

-- `(`, the items with `, ` between them, `)`
abbrev pub listed : {X : Type 0} → (X → List ℕ) → X → List X → List ℕ
listed f x xs = 40 ∷ (f x ++ (more_of f xs ++ 41 ∷ []))

-- a ring's points, and the first again
abbrev pub ring_text : List Pt → List ℕ
ring_text [] = []
ring_text (p ∷ ps) = listed pt_words p (ps ++ p ∷ [])

-- a ring's points as they are written, the first again at the end
abbrev pub closed : List Pt → List Pt
closed [] = []
closed (p ∷ ps) = p ∷ (ps ++ p ∷ [])

-- the shell, then the holes
abbrev pub polygon_text : Shape → List ℕ
polygon_text p = listed ring_text p.shell p.holes

-- the canonical line of polygons
abbrev pub multi_text : List Shape → List ℕ
multi_text [] = codes "MULTIPOLYGON EMPTY" ++ 10 ∷ []
multi_text (p ∷ ps) = codes "MULTIPOLYGON " ++ (listed polygon_text p ps ++ 10 ∷ [])

-- the first ring of a line, and what stands before it
abbrev pub first_ring : List Pt → List ℕ
first_ring ring = codes "MULTIPOLYGON ((" ++ ring_text ring

-- what stands between a ring and the next one: a hole is of the same polygon, a shell begins another one
abbrev pub between : Bool → List ℕ
between true = codes ", "
between false = codes "), ("

-- a ring that comes behind another one, and what stands between them
abbrev pub next_ring : Bool → List Pt → List ℕ
next_ring is_hole ring = between is_hole ++ ring_text ring

-- what ends the line behind its last ring
abbrev pub line_end : List ℕ
line_end = codes "))" ++ 10 ∷ []
