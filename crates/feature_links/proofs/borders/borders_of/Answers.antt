-- A run of links is one group more.
use Rattle.std.proofs.Common.{◌≡◌, ℕ, ◌∷◌, ◌++◌, [], ◌≤◌, arith, length, List, map, take, sym, ap, ◌∙◌, subst, get_or}
use Rattle.std.specs.Prelude.{All}
use Rattle.std.proofs.lemmas.List.Elements.{All-push}
use Rattle.std.proofs.lemmas.List.{get_or_default, map-append}
use Rattle.geom.specs.declared.edge.Edge.{Edge}
use Rattle.cover_law.specs.Cover.{Bordered}
use Rattle.cover_law.specs.declared.border.Border.{Border}
use Rattle.feature_links.specs.Groups.{AreGroups, bordered_by}
use Rattle.feature_links.proofs.GroupSteps.{next_behind, next_groups}
use Rattle.feature_links.proofs.borders.borders_of.Goals as goal

added_to : (before after : List Border) (edge : Edge) (from past to : ℕ) → after ≡ before ++ record { edge = edge; from = from; to = past } ∷ [] → past ≡ to → after ≡ before ++ record { edge = edge; from = from; to = to } ∷ []
added_to before after edge from past to h e = subst (λ (n : ℕ). after ≡ before ++ record { edge = edge; from = from; to = n } ∷ []) e h

pub loop-from-preserved : goal.loop-from-preserved
loop-from-preserved g c =
    let links = c.args.links.now in
    let from = c.loop-from.from in
    let to = c.end_of_run-to.result in
    let x = get_or links from c.index-links-from.result in
    let is : x ≡ get_or links from x = get_or_default links from c.index-links-from.result x c.loop-from-test.true in
    let run = c.end_of_run-to.ensures in
    let inv = c.loop-from.invariant in
    let b : Border = record { edge = x.edge; from = from; to = to } in
    let pushed = added_to c.loop-from.list.items c.push.new.self.items x.edge from _ to c.in_ok-push.ensures.items (omega arith) in (
      run.within,
      subst (λ (bs : List Bordered). AreGroups (take to links) bs) (sym (ap (map (bordered_by links)) pushed ∙ map-append (bordered_by links) c.loop-from.list.items (b ∷ [])))
          (next_groups links from to x c.requires run.after run.within is run.run run.past inv.2 (map (bordered_by links) c.loop-from.list.items) inv.1),
      next_behind links from to x c.requires run.after run.within is run.run run.past inv.2,
      subst (λ (bs : List Border). All (λ (b : Border). (b.from ≤ b.to) × (b.to ≤ length links)) bs) (sym pushed) (All-push (λ (b : Border). (b.from ≤ b.to) × (b.to ≤ length links)) c.loop-from.list.items b inv.3 (omega arith, run.within)),
    )
