-- Lines of edges `x1 y1 x2 y2` (own).
use Rattle.std.specs.Prelude.{◌≡◌, ◌⊎◌, ℕ, ◌+◌, ◌==◌, ◌||◌, Bool, List, [], ◌∷◌, ◌++◌, Option, Some, None, Result, Ok, Err, ℤ, filter, length, nat_lt}
use Rattle.std.specs.List.{slice_split}
use Rattle.std.specs.Str.Parse.{IsNumeral, signed_digits_value, without_leading_sign}
use Rattle.geom.specs.Limit.{IsWithin, coordinate_limit}
use Rattle.geom.specs.declared.point.Pt.{Pt}
use Rattle.geom.specs.declared.edge.Edge.{Edge}
use Rattle.edge_lines.specs.declared.fault.LineFault.{LineFault}
use Rattle.edge_lines.specs.declared.fault.LineFault.TheVariants.{Syntax, Range, OnePoint}
use Rattle.edge_lines.specs.declared.fault.ReadFault.{ReadFault}
use Rattle.edge_lines.specs.declared.fault.ReadFault.TheVariants.{Line, Memory}

-- ---- lines and words

-- what stands between line feeds; behind the last one there may be nothing
abbrev pub lines_of : List ℕ → List (List ℕ)
lines_of text = slice_split (λ b. b == 10) text

-- space, tab and carriage return
abbrev pub is_blank : ℕ → Bool
is_blank b = b == 32 || b == 9 || b == 13

-- what stands between blanks
abbrev pub words_of : List ℕ → List (List ℕ)
words_of line = filter (λ word. nat_lt 0 (length word)) (slice_split is_blank line)

-- ---- what words say

-- a coordinate is a sign or none, and digits, of a number within the limit
abbrev pub IsCoordinate : List ℕ → Result ℤ LineFault → Type 0
IsCoordinate word (Ok x) = IsNumeral 10 (without_leading_sign word) × (x ≡ signed_digits_value 10 word) × IsWithin coordinate_limit x
IsCoordinate word (Err Syntax) = ¬ IsNumeral 10 (without_leading_sign word)
IsCoordinate word (Err Range) = IsNumeral 10 (without_leading_sign word) × ¬ IsWithin coordinate_limit (signed_digits_value 10 word)
IsCoordinate word (Err OnePoint) = ⊥

-- two coordinates are a point's; or the first one that is none says why
abbrev pub IsPointBy : List ℕ → List ℕ → Result Pt LineFault → Type 0
IsPointBy x y (Ok p) = IsCoordinate x (Ok p.x) × IsCoordinate y (Ok p.y)
IsPointBy x y (Err fault) = IsCoordinate x (Err fault) ⊎ ((n : ℤ) × IsCoordinate x (Ok n) × IsCoordinate y (Err fault))

-- an edge lies between two points, whichever is the lesser one
abbrev pub LiesBetween : Pt → Pt → Edge → Type 0
LiesBetween p q e = ((e.p ≡ p) × (e.q ≡ q)) ⊎ ((e.p ≡ q) × (e.q ≡ p))

-- four coordinates are those of an edge's ends; or the first one that is none says why; or they are those of one point, twice
abbrev pub IsEdgeBy : List ℕ → List ℕ → List ℕ → List ℕ → Result Edge LineFault → Type 0
IsEdgeBy a b c d (Ok e) = (p q : Pt) × IsPointBy a b (Ok p) × IsPointBy c d (Ok q) × LiesBetween p q e
IsEdgeBy a b c d (Err fault) = IsPointBy a b (Err fault)
    ⊎ ((p : Pt) × IsPointBy a b (Ok p) × (IsPointBy c d (Err fault) ⊎ (IsPointBy c d (Ok p) × (fault ≡ OnePoint))))

-- what words say: nothing where there are none, and else by the first four what edge it is, or why there is none
abbrev pub IsSaid : List (List ℕ) → Result (Option Edge) LineFault → Type 0
IsSaid [] said = said ≡ Ok None
IsSaid (a ∷ b ∷ c ∷ d ∷ more) (Ok None) = ⊥
IsSaid (a ∷ b ∷ c ∷ d ∷ more) (Ok (Some e)) = IsEdgeBy a b c d (Ok e)
IsSaid (a ∷ b ∷ c ∷ d ∷ more) (Err fault) = IsEdgeBy a b c d (Err fault)
IsSaid few said = said ≡ Err Syntax

abbrev pub IsLine : List ℕ → Result (Option Edge) LineFault → Type 0
IsLine line said = IsSaid (words_of line) said

-- ---- what a text has

-- the edges of lines, in their order
abbrev pub AreEdges : List (List ℕ) → List Edge → Type 0
AreEdges [] edges = edges ≡ []
AreEdges (line ∷ lines) edges = (IsLine line (Ok None) × AreEdges lines edges)
    ⊎ ((e : Edge) × (others : List Edge) × IsLine line (Ok (Some e)) × AreEdges lines others × (edges ≡ e ∷ others))

-- the line of this number, from 1, is the first one that has no edge and isn't blank
pub record IsFirstBad (lines : List (List ℕ)) (number : ℕ) (fault : LineFault) : Type 0 where
  pub before : List (List ℕ)
  pub line : List ℕ
  pub after : List (List ℕ)
  pub parted : lines ≡ before ++ line ∷ after
  pub number_is : number ≡ length before + 1
  pub edges : List Edge
  pub good : AreEdges before edges
  pub bad : IsLine line (Err fault)

-- a line's edge is added to others, or it is blank
abbrev pub IsAdded : List ℕ → List Edge → List Edge → Type 0
IsAdded line old new = (IsLine line (Ok None) × (new ≡ old)) ⊎ ((e : Edge) × IsLine line (Ok (Some e)) × (new ≡ old ++ e ∷ []))

-- why the line of this number has no edge; or memory is wanted
abbrev pub IsLineFault : ℕ → List ℕ → ReadFault → Type 0
IsLineFault number line (Line n fault) = (n ≡ number) × IsLine line (Err fault)
IsLineFault number line Memory = Unit {0}

-- why lines give no edges: the first bad one; or memory is wanted
abbrev pub AreLinesRefused : List (List ℕ) → ReadFault → Type 0
AreLinesRefused lines (Line number fault) = IsFirstBad lines number fault
AreLinesRefused lines Memory = Unit {0}

-- why a text gives no edges
abbrev pub IsReadFault : List ℕ → ReadFault → Type 0
IsReadFault text fault = AreLinesRefused (lines_of text) fault
