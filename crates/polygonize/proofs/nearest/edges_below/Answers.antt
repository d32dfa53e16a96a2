use Rattle.std.proofs.Common.{◌≡◌, map, subst, sym, ◌∙◌, ap}
use Rattle.std.proofs.lemmas.Result.{IfOk-weaker}
use Rattle.polygonize.specs.Below.{AreEdgesBelow, place_of}
use Rattle.polygonize.proofs.PlacesBelow.{places_below}
use Rattle.polygonize.proofs.nearest.edges_below.Goals as goal

pub returns : goal.returns
returns g c =
    let edges = c.args.edges.now in
    let vertices = c.args.vertices.now in
    IfOk-weaker c.places_of.result (λ places. places.items ≡ map place_of c.deref.result.now) (λ places. AreEdgesBelow edges vertices places.items)
    (λ places h. subst (AreEdgesBelow edges vertices) (sym (h ∙ ap (map place_of) c.deref.ensures.value)) (places_below edges vertices c.in_ok-gaps.gaps.items c.in_ok-gaps.ensures)) c.places_of.ensures
