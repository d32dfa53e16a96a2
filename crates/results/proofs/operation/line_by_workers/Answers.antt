use Rattle.std.proofs.Common.{◌∙◌, List}
use Rattle.geom.specs.Directed.{AreResultEdges}
use Rattle.geom.specs.declared.edge.Counted.{Counted}
use Rattle.geom.specs.declared.op.Op.{Op}
use Rattle.std.proofs.lemmas.Result.{IfOk-weaker}
use Rattle.points_law.specs.Law.{AreLayers}
use Rattle.points_law.proofs.RoundVertex.{grounded}
use Rattle.points_law.proofs.TextParity.{text_has_parity}
use Rattle.wkt.proofs.Written.{reads}
use Rattle.results.specs.LineParts.{IsLine}
use Rattle.results.specs.Results.{IsResultText}
use Rattle.results.proofs.LineParts.{is_line}
use Rattle.results.proofs.Results.{noded_edges}
use Rattle.results.proofs.operation.line_by_workers.Goals as goal

pub returns : goal.returns
returns g c =
    let directed = c.args.directed in
    let rings = c.in_ok-rings.rings in
    IfOk-weaker c.line_in_parts.result (λ text. IsLine rings text) (λ text. (op : Op) (counted : List Counted) → AreLayers counted → AreResultEdges op counted directed → IsResultText op counted text)
    (λ text l op counted layers are.
    let told = c.in_ok-rings.ensures (noded_edges op counted directed layers.noded are) (λ cycles r. grounded op counted layers directed are cycles r) in
    let line = is_line told.polygons rings text told.are_told l in
    let back = reads told.polygons line.1 in
    record {
      polygons = told.polygons;
      result = record {
        directed = directed;
        bound = are;
        are_polygons = told.are_polygons;
        each_edge = told.each_edge;
        simple = told.simple;
        least = told.least;
        points = text_has_parity op counted layers directed are told.polygons told.each_edge;
      };
      written = line.0;
      reads = (back.0, line.0 ∙ back.1, back.2);
    })
    c.line_in_parts.ensures
