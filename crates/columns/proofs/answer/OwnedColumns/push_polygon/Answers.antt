use Rattle.std.proofs.Common.{◌≡◌, ◌∙◌, ◌++◌, ◌∷◌, ◌-◌, ◌+◌, ◌<◌, [], List, length, get_or, map, take, sym, ap, subst, arith, rules}
use Rattle.std.proofs.lemmas.List.{take_all, take_more}
use Rattle.geom.specs.declared.point.Pt.{Pt}
use Rattle.wkt.specs.Canonical.{closed}
use Rattle.columns.specs.Layout.{joined}
use Rattle.columns.specs.Answers.{HaveRings, closed_rings}
use Rattle.columns.proofs.Written.{holes_more, one_polygon}
use Rattle.columns.proofs.answer.OwnedColumns.push_polygon.Goals as goal

pub loop-hole-preserved : goal.loop-hole-preserved
loop-hole-preserved g c =
    let polygon = c.args.polygon.now in
    let i = c.loop-hole.hole-index in
    let hole = c.hole-item.result in
    let holes : c.holes-hole-items.result.now ≡ polygon.holes = c.holes-hole-items.ensures in
    let below : i < length polygon.holes = omega (arith, c.loop-hole-test.true, ap (λ (t : List (List Pt)). length t) holes) in
    let is : hole ≡ get_or polygon.holes i hole = c.hole-item.is ∙ ap (λ (t : List (List Pt)). get_or t i hole) holes in
    let next : take i polygon.holes ++ hole ∷ [] ≡ take (i + 1) polygon.holes = ap (λ (t : List Pt). take i polygon.holes ++ t ∷ []) is ∙ sym (take_more polygon.holes i hole below) in
    record {
      rings = λ rings h. subst (λ (t : List (List Pt)). HaveRings (rings ++ closed polygon.shell ∷ map closed t) c.push_ring-in-loop-hole.new.self) next
          (holes_more rings polygon.shell (take i polygon.holes) hole c.push_ring-in-loop-hole.new.self
          (c.in_ok-push_ring-2.ensures.rings (rings ++ closed polygon.shell ∷ map closed (take i polygon.holes)) (c.loop-hole.invariant.rings rings h)));
      polygons = c.push_ring-in-loop-hole.ensures.polygons ∙ c.loop-hole.invariant.polygons;
    }

pub returns : goal.returns
returns g c = λ polygons h.
    let polygon = c.args.polygon.now in
    let i = c.loop-hole.hole-index in
    let now = c.loop-hole.self in
    let holes : c.holes-hole-items.result.now ≡ polygon.holes = c.holes-hole-items.ensures in
    let whole : take i polygon.holes ≡ polygon.holes = take_all i polygon.holes (omega (arith, c.loop-hole-test.false, ap (λ (t : List (List Pt)). length t) holes)) in
    let before = joined (map closed_rings polygons) in
    let have = subst (λ (t : List (List Pt)). HaveRings (before ++ closed polygon.shell ∷ map closed t) now) whole (c.loop-hole.invariant.rings before h.have) in
    let past = c.in_ok-map_err.field-0 in
    let value : past ≡ c.saturating_sub-rings.result = search rules in
    let long : c.saturating_sub-rings.result ≡ length now.rings.items - 1 = omega (arith, c.saturating_sub-rings.ensures, c.len.ensures, now.rings.ok) in
    one_polygon polygons polygon c.args.self.now _ past h (record { points = have.points; offsets = have.offsets })
    (c.in_ok-push.ensures.items ∙ ap (λ v. v.items ++ past ∷ []) c.loop-hole.invariant.polygons) (value ∙ long)
