use Rattle.std.proofs.Common.{ℕ, ◌≡◌, ◌∙◌, ◌++◌, ◌∷◌, ◌-◌, ◌+◌, [], List, length, get_or, refl, sym, ap, subst, arith, rules}
use Rattle.geom.specs.declared.point.Pt.{Pt}
use Rattle.columns.specs.Answers.{HaveRings}
use Rattle.columns.specs.Layout.{joined}
use Rattle.polygon_order.specs.Order.{polygons_of, rings_of}
use Rattle.polygon_order.proofs.Copied.{polygon_behind}
use Rattle.polygon_order.proofs.Cuts.{cut_at}
use Rattle.polygon_order.proofs.copying.push_polygon.Goals as goal

pub returns : goal.returns
returns g c = λ done h.
    let columns = c.args.columns in
    let number = c.args.number in
    let rings = rings_of columns.coordinates.now columns.rings.now in
    let now = c.push_rings.new.made in
    let polygon = get_or (polygons_of columns.coordinates.now columns.rings.now columns.polygons.now) number [] in
    let is = cut_at columns.polygons.now rings number (number + 1) [] refl (omega (arith, c.requires.inside)) in
    let have = subst (λ (t : List (List Pt)). HaveRings (joined done ++ t) now) (sym is) (c.in_ok-push_rings.ensures.rings (joined done) h.have) in
    let past = c.in_ok-map_err.field-0 in
    let value : past ≡ c.saturating_sub-rings.result = search rules in
    let long : c.saturating_sub-rings.result ≡ length now.rings.items - 1 = omega (arith, c.saturating_sub-rings.ensures, c.len.ensures, now.rings.ok) in
    let before : now.polygons.items ≡ c.args.made.now.polygons.items = ap (λ v. v.items) c.push_rings.ensures.polygons in
    let offset = subst (λ (t : List ℕ). c.push.new.self.items ≡ t ++ past ∷ []) before c.in_ok-push.ensures.items in
    polygon_behind done polygon c.args.made.now _ past h (record { points = have.points; offsets = have.offsets }) offset (value ∙ long)
