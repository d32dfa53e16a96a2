use Rattle.std.proofs.Common.{◌≡◌, ◌∙◌, ◌++◌, ◌∷◌, ◌/◌, ◌≤◌, [], List, length, get_or, take, ap, arith, rules}
use Rattle.std.proofs.Math.IntN.{pos}
use Rattle.std.proofs.lemmas.List.{get_or_default, take_all}
use Rattle.geom.specs.declared.point.Pt.{Pt}
use Rattle.wkt.specs.Canonical.{closed}
use Rattle.columns.specs.Answers.{coordinates_of}
use Rattle.columns.proofs.Written.{one_ring, ring_added}
use Rattle.columns.proofs.answer.OwnedColumns.push_ring.Goals as goal

abbrev blank : Pt
blank = record { x = pos 0; y = pos 0 }

pub returns-clause-rings : goal.returns-clause-rings
returns-clause-rings g c = λ rings h.
    let ring = c.args.ring.now in
    let old = c.args.self.now in
    let ps = c.points-points.result.now in
    let inv = c.loop-point.invariant in
    let points : ps ≡ ring = c.points-points.ensures.points in
    let whole : take c.loop-point.point-index ps ≡ ring = take_all c.loop-point.point-index ps c.loop-point-test.false ∙ points in
    let mid : c.loop-point.self.coordinates.items ≡ old.coordinates.items ++ coordinates_of ring = inv.added ∙ ap (λ (t : List Pt). old.coordinates.items ++ coordinates_of t) whole in
    let p : Pt = get_or ps 0 blank in
    let some : 1 ≤ length ring = omega (arith, c.points-points.ensures.enough, ap (λ (t : List Pt). length t) points) in
    let first : p ≡ get_or ring 0 p = ap (λ (t : List Pt). get_or t 0 blank) points ∙ get_or_default ring 0 blank p some in
    let past = c.in_ok-map_err.field-0 in
    let value : past ≡ c.len-past.result / 2 = search rules in
    let long : c.len-past.result ≡ length c.push_point-2.new.self.coordinates.items = omega (arith, c.len-past.ensures, c.push_point-2.new.self.coordinates.ok) in
    one_ring rings (closed ring) old _ past h
    (ring_added old.coordinates.items c.loop-point.self.coordinates.items c.push_point-2.new.self.coordinates.items ring p some first mid c.in_ok-push_point-2.ensures.added)
    (c.in_ok-push.ensures.items ∙ ap (λ v. v.items ++ past ∷ []) (c.push_point-2.ensures.rings ∙ inv.rings))
    (value ∙ ap (λ n. n / 2) long)
