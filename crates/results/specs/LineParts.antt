-- The canonical line of rings one after another, in parts (OGC 06-103r4; the spelling is own).
use Rattle.std.specs.Prelude.{◌≡◌, ℕ, Bool, List, [], ◌∷◌, ◌++◌, All, flat_map, slice_range}
use Rattle.geom.specs.declared.point.Pt.{Pt}
use Rattle.wkt.specs.Canonical.{first_ring, line_end, multi_text, next_ring}
use Rattle.wkt.specs.Readable.{IsReadable}

-- the texts of rings that come behind another one
abbrev pub next_rings : List (Bool × List Pt) → List ℕ
next_rings rings = flat_map (λ r. next_ring r.0 r.1) rings

-- the text of the rings from one number to before another one, all of which can be read
pub record IsPartOfLine (rings : List (Bool × List Pt)) (from past : ℕ) (text : List ℕ) : Type 0 where
  pub is_text : text ≡ next_rings (slice_range rings from past)
  pub readable : All (λ r. IsReadable r.1) (slice_range rings from past)

-- the line of rings
abbrev pub line_text : List (Bool × List Pt) → List ℕ
line_text [] = multi_text []
line_text (r ∷ rs) = (first_ring r.1 ++ next_rings rs) ++ line_end

-- the line of rings, all of which can be read
pub record IsLine (rings : List (Bool × List Pt)) (text : List ℕ) : Type 0 where
  pub is_text : text ≡ line_text rings
  pub readable : All (λ r. IsReadable r.1) rings
