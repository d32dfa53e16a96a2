use Rattle.std.proofs.Common.{◌<◌, ◌∙◌, ℕ, List, ap, length, map, subst, sym}
use Rattle.std.specs.Prelude.{All, slice_get}
use Rattle.face_label.proofs.Striping.{fill_chosen, fill_in_range, grown}
use Rattle.face_label.proofs.strip.edges_by_strip.Goals as goal

pub of-requires-clause-in_range : goal.of-requires-clause-in_range
of-requires-clause-in_range g c =
    let P : List ℕ → Type 0 = All (λ k. k < length c.args.edges.now) in
    subst P (sym c.deref.ensures.value) (fill_in_range c.args.edges.now c.args.strips.now.items c.requires.indexed c.args.strips.now c.loop-strip.strip c.fill.new.out.items (c.in_ok-fill.ensures.ok c.requires.indexed.boxes c.requires.indexed.indexed))

pub loop-strip-preserved : goal.loop-strip-preserved
loop-strip-preserved g c = grown c.args.edges.now c.args.strips.now c.loop-strip.found.items c.push.new.self.items c.loop-strip.strip c.in_ok-of.field-0 c.in_ok-push.ensures.items c.loop-strip.invariant.0
    (fill_chosen c.args.edges.now c.args.strips.now.items c.requires.indexed c.args.strips.now c.loop-strip.strip c.fill.new.out.items c.in_ok-of.field-0 (c.in_ok-fill.ensures.ok c.requires.indexed.boxes c.requires.indexed.indexed) (c.in_ok-of.ensures ∙ ap (map (slice_get c.args.edges.now)) c.deref.ensures.value))
    c.loop-strip.invariant.1
