use Rattle.std.proofs.Common.{◌≡◌, ◌+◌, ◌∙◌, ℕ, List, ap, arith, length, subst, sym}
use Rattle.std.proofs.Math.Logic.{∥∥₁_map}
use Rattle.std.proofs.lemmas.List.{length-map}
use Rattle.std.proofs.lemmas.Result.{IfOk-weaker}
use Rattle.std.specs.Prelude.{All}
use Rattle.geom.specs.Limit.{AreInLimit}
use Rattle.strips_law.specs.declared.line.Line.{Line}
use Rattle.strips_law.specs.Strips.{AreOrdered, lines_in}
use Rattle.strips_law.proofs.Rounded.{lines_ordered}
use Rattle.phases.specs.Merged.{AreFound, lists_of}
use Rattle.phases.proofs.Turns.{all_found, last_lines, lines_limited, near_limited, near_ordered, none_found, rest_lines}
use Rattle.phases.proofs.in_turn.edges_in_strips.Goals as goal

pub loop-lines-init : goal.loop-lines-init
loop-lines-init g c =
    let cuts = c.args.cuts.now in
    let (all, are, by_strip) = c.in_ok-lists.ensures in
    let size : length c.in_ok-lists.lists.items ≡ length cuts + 1 = sym (length-map c.in_ok-lists.lists.items (λ v. v.items)) ∙ by_strip.one_each in (
      omega (arith, size),
      (
        all,
        are,
        (λ k l. by_strip.each k (let s = length-map c.in_ok-lists.lists.items (λ v. v.items) in omega (arith, l, s))),
        rw (c.new.ensures.items, c.new-2.ensures.items, size) (∣ none_found cuts all ∣₁),
      ),
    )

pub add_strip-requires-clause-ordered : goal.add_strip-requires-clause-ordered
add_strip-requires-clause-ordered g c =
    let cuts = c.args.cuts.now in
    let (all, are, each, found) = c.loop-lines.invariant.1 in
    let rest = c.pop.new.self.items in
    subst (λ (ls : List Line). AreOrdered ls) (sym (c.deref.ensures.value ∙ last_lines cuts all c.loop-lines.lists.items rest c.in-Some.lines c.in-Some.ensures.items each)) (near_ordered cuts (length rest) all (lines_ordered 0 c.args.segments.now all are))

pub add_strip-requires-clause-limits : goal.add_strip-requires-clause-limits
add_strip-requires-clause-limits g c =
    let cuts = c.args.cuts.now in
    let (all, are, each, found) = c.loop-lines.invariant.1 in
    let rest = c.pop.new.self.items in
    subst (λ (ls : List Line). All (λ l. AreInLimit l.segment.a l.segment.b) ls) (sym (c.deref.ensures.value ∙ last_lines cuts all c.loop-lines.lists.items rest c.in-Some.lines c.in-Some.ensures.items each)) (near_limited cuts (length rest) all (lines_limited 0 c.args.segments.now all are c.requires.limits))

pub loop-lines-preserved : goal.loop-lines-preserved
loop-lines-preserved g c =
    let cuts = c.args.cuts.now in
    let (all, are, each, found) = c.loop-lines.invariant.1 in
    let lists = c.loop-lines.lists.items in
    let rest = c.pop.new.self.items in
    let last = c.in-Some.lines in
    let is = c.in-Some.ensures.items in
    let place : c.len.result ≡ length rest = c.len.ensures ∙ c.pop.new.self.ok.0 in
    let longer : length lists ≡ length rest + 1 = sym c.loop-lines.lists.ok.0 ∙ sym c.in-Some.ensures.len ∙ ap (λ (n : ℕ). n + 1) c.pop.new.self.ok.0 in
    let near : c.deref.result.now ≡ lines_in cuts c.len.result all = c.deref.ensures.value ∙ last_lines cuts all lists rest last is each ∙ ap (λ (n : ℕ). lines_in cuts n all) (sym place) in
    let before = subst (λ (n : ℕ). ∥ AreFound cuts all n (lists_of c.loop-lines.found.edges.items) c.loop-lines.found.carried.items ∥₁) (longer ∙ ap (λ (n : ℕ). n + 1) (sym place)) found in (
      let b = c.loop-lines.invariant.0 in omega (arith, b, longer),
      (
        all,
        are,
        rest_lines cuts all lists rest last is each,
        subst (λ (n : ℕ). ∥ AreFound cuts all n (lists_of c.add_strip.new.found.edges.items) c.add_strip.new.found.carried.items ∥₁) place (c.in_ok-add_strip.ensures all (lines_ordered 0 c.args.segments.now all are) near before),
      ),
    )

pub returns : goal.returns
returns g c =
    let (all, are, each, found) = c.loop-lines.invariant.1 in
    let lists = lists_of c.loop-lines.found.edges.items in
    let none : length c.loop-lines.lists.items ≡ 0 = sym c.loop-lines.lists.ok.0 ∙ c.in_default.ensures.cases.0 in
    IfOk-weaker c.from_last.result _ _ (λ v h. rw h (∥∥₁_map found (λ f. all_found c.args.cuts.now c.args.segments.now all lists c.loop-lines.found.carried.items are (subst (λ (n : ℕ). AreFound c.args.cuts.now all n lists c.loop-lines.found.carried.items) none f)))) c.from_last.ensures
