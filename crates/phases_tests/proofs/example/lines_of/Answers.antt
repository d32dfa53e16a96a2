use Rattle.std.proofs.Common.{◌≡◌, ◌∙◌, ◌<◌, ◌∷◌, [], List, ap, arith, length, subst, sym}
use Rattle.std.proofs.Math.IntN.{ℤ, pos}
use Rattle.std.proofs.lemmas.List.{get_or-map, length-map}
use Rattle.std.specs.Prelude.{All}
use Rattle.geom.specs.declared.segment.Seg.{Seg}
use Rattle.geom.specs.Limit.{AreInLimit}
use Rattle.strips_law.specs.declared.line.Line.{Line}
use Rattle.strips_law.specs.Strips.{AreOrdered, lines_in}
use Rattle.strips_law.proofs.Rounded.{lines_ordered}
use Rattle.phases.proofs.Turns.{lines_limited, near_limited, near_ordered}
use Rattle.phases_tests.proofs.example.lines_of.Goals as goal

abbrev cuts : List ℤ
cuts = pos 4 ∷ pos 6 ∷ pos 8 ∷ []

pub returns-clause-ordered : goal.returns-clause-ordered
returns-clause-ordered c =
    let strip = c.args.strip in
    let lists = c.in_ok-lists.lists.items in
    let (all, are, by_strip) = c.in_ok-lists.ensures in
    let size = length-map lists (λ v. v.items) in
    let one = by_strip.one_each in
    let r = c.requires in
    let inside : strip < length lists = omega (arith, size, one, r) in
    let is : c.swap_remove.result.items ≡ lines_in cuts strip all = ap (λ v. v.items) c.swap_remove.ensures.value ∙ sym (get_or-map (λ v. v.items) lists strip c.swap_remove.result [] inside) ∙ by_strip.each strip (omega (arith, inside, size)) in
    subst (λ (ls : List Line). AreOrdered ls) (sym is) (near_ordered cuts strip all (lines_ordered 0 c.deref.result.now all are))

pub returns-clause-limits : goal.returns-clause-limits
returns-clause-limits c =
    let strip = c.args.strip in
    let lists = c.in_ok-lists.lists.items in
    let (all, are, by_strip) = c.in_ok-lists.ensures in
    let size = length-map lists (λ v. v.items) in
    let one = by_strip.one_each in
    let r = c.requires in
    let inside : strip < length lists = omega (arith, size, one, r) in
    let is : c.swap_remove.result.items ≡ lines_in cuts strip all = ap (λ v. v.items) c.swap_remove.ensures.value ∙ sym (get_or-map (λ v. v.items) lists strip c.swap_remove.result [] inside) ∙ by_strip.each strip (omega (arith, inside, size)) in
    subst (λ (ls : List Line). All (λ l. AreInLimit l.segment.a l.segment.b) ls) (sym is) (near_limited cuts strip all (lines_limited 0 c.deref.result.now all are (subst (λ (ss : List Seg). All (λ s. AreInLimit s.a s.b) ss) (sym c.deref.ensures.value) c.in_ok-segments.ensures)))
