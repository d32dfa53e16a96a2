-- Points and edges as they are printed (own): plain decimals, one space between.
use Rattle.std.specs.Prelude.{ℕ, List, ◌∷◌, ◌++◌}
use Rattle.std.specs.Fmt.{signed_decimal}
use Rattle.geom.specs.declared.point.Pt.{Pt}
use Rattle.geom.specs.declared.edge.Edge.{Edge}

abbrev pub pt_words : Pt → List ℕ
pt_words p = signed_decimal p.x ++ 32 ∷ signed_decimal p.y

abbrev pub edge_words : Edge → List ℕ
edge_words e = pt_words e.p ++ 32 ∷ pt_words e.q
