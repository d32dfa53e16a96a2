use Rattle.std.proofs.Common.{◌∙◌, List, ap, map, subst}
use Rattle.geom.specs.Canonical.{Shape, written_rings}
use Rattle.wkt.specs.Canonical.{closed, multi_text}
use Rattle.wkt.specs.Refusals.{IsLayerOf}
use Rattle.results.proofs.Answering.{if_both}
use Rattle.results.proofs.operation.line_along.Goals as goal

pub returns : goal.returns
returns g c = if_both c.write_multi.result _ _ _
    (λ text h back op counted layers are. record {
      polygons = c.in_ok-polygons.polygons.items;
      result = c.in_ok-polygons.ensures op counted layers are;
      written = h ∙ ap multi_text c.as_slice.ensures.value;
      reads = (back.0, back.1, subst (λ (ps : List Shape). IsLayerOf back.0 (map closed (written_rings ps))) c.as_slice.ensures.value back.2);
    })
    c.write_multi.ensures.text c.write_multi.ensures.reads
