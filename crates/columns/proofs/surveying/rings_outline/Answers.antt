use Rattle.std.proofs.Common.{◌≡◌, ◌∙◌, ◌+◌, ◌-◌, ◌++◌, ◌∷◌, [], List, Option, refl, sym, ap, subst, arith}
use Rattle.std.specs.Prelude.{slice_range}
use Rattle.std.proofs.lemmas.List.{map-append}
use Rattle.geom.specs.declared.point.Pt.{Pt}
use Rattle.wkt.specs.Outlines.{IsOutline}
use Rattle.columns.specs.declared.fault.ColumnsFault.{ColumnsFault}
use Rattle.columns.specs.Layout.{plain, plain_ring, points_of, rings_in}
use Rattle.columns.specs.Reach.{cut_from, rings_between}
use Rattle.columns.specs.Refusals.{first_ring_fault, or_else}
use Rattle.columns.proofs.Reached.{points_known, range_known, range_order, range_rings, ring_order, rings_next}
use Rattle.columns.proofs.Sound.{here_fault, outline_inside, ring_sound, rings_inside}
use Rattle.columns.proofs.surveying.rings_outline.Goals as goal

pub ring_fault-requires-clause-order : goal.ring_fault-requires-clause-order
ring_fault-requires-clause-order c =
    let C = c.args.columns.now in
    let known = range_known C c.requires.well c.args.rings c.requires.rings in
    ring_order C c.requires.well c.loop-ring.ring c.offset_at-from.result c.offset_at-past.result (omega (arith, known)) c.offset_at-from.ensures.value c.offset_at-past.ensures.value

pub ring_fault-requires-clause-inside : goal.ring_fault-requires-clause-inside
ring_fault-requires-clause-inside c = omega (arith, points_known c.args.columns.now c.requires.well (c.loop-ring.ring + 1), c.offset_at-past.ensures.value)

pub returns-in-Some-clause-answer : goal.returns-in-Some-clause-answer
returns-in-Some-clause-answer c =
    let C = c.args.columns.now in
    let ring = c.loop-ring.ring in
    let rest : Option ColumnsFault = first_ring_fault (ring + 1) (rings_between C (ring + 1) c.args.rings.past) in
    ap (first_ring_fault c.args.rings.first) (range_rings C c.requires.well c.args.rings c.requires.rings)
    ∙ sym c.loop-ring.invariant.fault
    ∙ here_fault C ring (ring + 1) c.args.rings.past c.offset_at-from.result c.offset_at-past.result c.ring_fault.result c.loop-ring-test.true refl c.offset_at-from.ensures.value c.offset_at-past.ensures.value c.ring_fault.ensures
    ∙ ap (λ o. or_else o rest) c.in-Some.is

pub with_ring-outline-requires-clause-inside : goal.with_ring-outline-requires-clause-inside
with_ring-outline-requires-clause-inside c = omega (arith, points_known c.args.columns.now c.requires.well (c.loop-ring.ring + 1), c.offset_at-past.ensures.value)

pub with_ring-outline-requires-clause-sound : goal.with_ring-outline-requires-clause-sound
with_ring-outline-requires-clause-sound c =
    ring_sound c.args.columns.now c.requires.well c.requires.in_range c.args.rings c.requires.rings c.loop-ring.ring c.offset_at-from.result c.offset_at-past.result (omega arith) c.loop-ring-test.true
    c.offset_at-from.ensures.value c.offset_at-past.ensures.value (sym c.ring_fault.ensures ∙ c.in_default.is)

pub loop-ring-preserved : goal.loop-ring-preserved
loop-ring-preserved c =
    let C = c.args.columns.now in
    let ring = c.loop-ring.ring in
    let first = c.args.rings.first in
    let here : List Pt = slice_range (points_of C.points) c.offset_at-from.result c.offset_at-past.result in
    let rest : Option ColumnsFault = first_ring_fault (ring + 1) (rings_between C (ring + 1) c.args.rings.past) in
    let more : plain (rings_between C first (ring + 1)) ≡ plain (rings_between C first ring) ++ plain_ring here ∷ [] =
    ap plain (rings_next C first ring (ring + 1) c.offset_at-from.result c.offset_at-past.result (omega arith) refl c.offset_at-from.ensures.value c.offset_at-past.ensures.value)
    ∙ map-append plain_ring (rings_between C first ring) (here ∷ []) in
    record {
      outline = subst (λ (rs : List (List Pt)). IsOutline rs c.with_ring-outline.result) (sym more) (c.with_ring-outline.ensures.outline (plain (rings_between C first ring)) c.loop-ring.invariant.outline);
      fault =
          sym (here_fault C ring (ring + 1) c.args.rings.past c.offset_at-from.result c.offset_at-past.result c.ring_fault.result c.loop-ring-test.true refl c.offset_at-from.ensures.value c.offset_at-past.ensures.value c.ring_fault.ensures
          ∙ ap (λ o. or_else o rest) c.in_default.is)
          ∙ c.loop-ring.invariant.fault;
      few =
          let order = ring_order C c.requires.well ring c.offset_at-from.result c.offset_at-past.result (omega (arith, range_known C c.requires.well c.args.rings c.requires.rings)) c.offset_at-from.ensures.value c.offset_at-past.ensures.value in
          omega (arith, order, c.with_ring-outline.ensures.few, c.loop-ring.invariant.few, c.offset_at-from.ensures.value, c.offset_at-past.ensures.value);
    }

pub returns-clause-answer : goal.returns-clause-answer
returns-clause-answer c =
    let C = c.args.columns.now in
    let all = range_rings C c.requires.well c.args.rings c.requires.rings in
    let last : c.loop-ring.ring ≡ c.args.rings.past = omega (arith, range_order C c.requires.well c.args.rings c.requires.rings) in
    let none : c.args.rings.past - c.loop-ring.ring ≡ 0 = omega (arith, last) in (
      ap (first_ring_fault c.args.rings.first) all
          ∙ sym c.loop-ring.invariant.fault
          ∙ ap (λ n. first_ring_fault c.loop-ring.ring (cut_from C.rings.now (points_of C.points) c.loop-ring.ring n)) none,
      subst (λ (rs : List (List Pt)). IsOutline (plain rs) c.loop-ring.outline) (ap (rings_between C c.args.rings.first) last ∙ sym all) c.loop-ring.invariant.outline,
    )

pub returns-clause-in_limit : goal.returns-clause-in_limit
returns-clause-in_limit c =
    let C = c.args.columns.now in
    let all = range_rings C c.requires.well c.args.rings c.requires.rings in
    let last : c.loop-ring.ring ≡ c.args.rings.past = omega (arith, range_order C c.requires.well c.args.rings c.requires.rings) in
    outline_inside (plain (rings_in C)) c.loop-ring.outline (rings_inside C c.requires.in_range)
    (subst (λ (rs : List (List Pt)). IsOutline (plain rs) c.loop-ring.outline) (ap (rings_between C c.args.rings.first) last ∙ sym all) c.loop-ring.invariant.outline)
