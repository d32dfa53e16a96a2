use Rattle.std.proofs.Common.{◌≡◌, ◌≤◌, Bool, take, length}
use Rattle.std.specs.Prelude.{count_by}
use Rattle.geom.specs.declared.edge.Edge.{Edge}
use Rattle.linking.specs.Links.{PassLinks, makes, passes_at, record_pairs}
use Rattle.linking.proofs.neighbours.neighbour_links.Given as goal

abbrev pub invariant-loop-i : goal.invariant-loop-i
invariant-loop-i g l =
    (length l.list.items ≤ l.i) × (length l.list.items ≤ length l.records)
    × ((e : Edge) (wanted : g.row.M.Denot → Bool) (test : g.row.L.Denot → Bool) → PassLinks g.M.MakesLinks.link_of e wanted test → count_by test l.list.items ≡ count_by (makes (passes_at wanted l.makers) e) (record_pairs (take l.i l.records)))
