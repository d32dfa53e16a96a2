use Rattle.std.proofs.Common.{List, map, subst}
use Rattle.cover_law.specs.Cover.{bordered}
use Rattle.rows.specs.declared.edges.RowEdge.{RowEdge}
use Rattle.rows.specs.RowSets.{AreRowSets}
use Rattle.rows.proofs.Making.{all_ready}
use Rattle.rows.proofs.grouped.row_edges.Goals as goal

pub row_sets-requires : goal.row_sets-requires
row_sets-requires g c = rw c.deref.ensures.value c.in_ok-edges.ensures.ascending

pub returns-clause-ready : goal.returns-clause-ready
returns-clause-ready g c count features sets h =
    all_ready count (map (bordered features) c.args.borders.now) sets c.in_ok-edges.edges.items c.in_ok-sets.sets.items h.are_borders h.covers.are_sets (c.in_ok-edges.ensures.edges count features sets h)
    (subst (λ (es : List RowEdge). AreRowSets es c.in_ok-sets.sets.items) c.deref.ensures.value c.in_ok-sets.ensures)
