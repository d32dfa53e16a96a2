use Rattle.polygonize.proofs.polygon.polygons.Goals as goal

pub returns-clause-polygons : goal.returns-clause-polygons
returns-clause-polygons g c = rw c.edges.ensures.value at c.polygons_along.ensures.polygons

pub returns-clause-each_edge : goal.returns-clause-each_edge
returns-clause-each_edge g c = rw c.edges.ensures.value at c.polygons_along.ensures.each_edge
