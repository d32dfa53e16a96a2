-- Borders without counts are two layers with nothing in them, over the same edges.
use Rattle.std.proofs.Common.{◌≡◌, ◌∙◌, ℕ, List, [], ◌∷◌, Bool, false, map, refl, sym, ap, subst}
use Rattle.geom.specs.declared.edge.Edge.{Edge}
use Rattle.geom.specs.declared.edge.Counted.{Counted}
use Rattle.geom.specs.Rounded.{edges_of}
use Rattle.points_law.specs.Law.{AreLayers}
use Rattle.points_law.proofs.Choices.{Even}
use Rattle.points_law.proofs.Sums.{par_none}
use Rattle.cover_law.specs.declared.border.Border.{Border}
use Rattle.cover_law.specs.Cover.{AreBorders, bordered, edges_in}
use Rattle.cover_law.proofs.Projected.{project, project_edges, project_layers}
use Rattle.engine.specs.FaceRows.{uncounted}

abbrev none : Edge → Bool
none e = false

none_even : (es : List Edge) → Even none es
none_even es v = par_none es

projected : (features : List ℕ) (borders : List Border) → project none (map (bordered features) borders) ≡ map uncounted borders
projected features [] = refl
projected features (b ∷ bs) = ap (λ (cs : List Counted). uncounted b ∷ cs) (projected features bs)

pub uncounted_layers : (features : List ℕ) (borders : List Border) → AreBorders (map (bordered features) borders) → AreLayers (map uncounted borders)
uncounted_layers features borders h = subst (λ (cs : List Counted). AreLayers cs) (projected features borders) (project_layers none (map (bordered features) borders) h (none_even (edges_in (map (bordered features) borders))))

pub uncounted_edges : (features : List ℕ) (borders : List Border) → edges_of (map uncounted borders) ≡ edges_in (map (bordered features) borders)
uncounted_edges features borders = ap (λ (cs : List Counted). edges_of cs) (sym (projected features borders)) ∙ project_edges none (map (bordered features) borders)
