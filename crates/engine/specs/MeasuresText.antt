-- The text of measures (own).
use Rattle.std.specs.Prelude.{ℕ, List, [], ◌∷◌, ◌++◌, codes}
use Rattle.std.specs.Fmt.{decimal, signed_decimal}
use Rattle.engine.specs.declared.measures.Measures.{Measures}

-- the line of the areas: twice that of each layer, and of the result
abbrev pub areas_line : Measures → List ℕ
areas_line m = codes "area2 " ++ (signed_decimal m.a.twice_area ++ 32 ∷ (signed_decimal m.b.twice_area ++ 32 ∷ (signed_decimal m.twice_area ++ 10 ∷ [])))

-- the line of the steps of each layer's routes
abbrev pub steps_line : Measures → List ℕ
steps_line m = codes "steps " ++ (decimal m.a.steps ++ 32 ∷ (decimal m.b.steps ++ 10 ∷ []))

-- a line each for areas and steps
abbrev pub measures_text_of : Measures → List ℕ
measures_text_of m = areas_line m ++ steps_line m
