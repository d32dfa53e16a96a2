-- The order of edges (own).
use Rattle.std.specs.Prelude.{◌≡◌, ◌⊎◌}
use Rattle.geom.specs.declared.edge.Edge.{Edge}
use Rattle.geom.specs.Order.{IsBefore}

-- e is less than f: by the lesser end, then by the greater one
abbrev pub IsEdgeBefore : Edge → Edge → Type 0
IsEdgeBefore e f = IsBefore e.p f.p ⊎ ((e.p ≡ f.p) × IsBefore e.q f.q)
