use Rattle.std.proofs.Common.{◌≡◌, ℕ, List, map, sym, ◌∙◌, ap, subst}
use Rattle.std.proofs.lemmas.List.Sorted.{IsPermutation-map}
use Rattle.std.proofs.lemmas.Result.{IfOk-weaker}
use Rattle.polygonize.specs.Ladder.{AreSpanning}
use Rattle.polygonize.specs.declared.ladder.Rung.{Rung}
use Rattle.polygonize.proofs.EdgesBelow.Ladders.{spanning_sorted}
use Rattle.polygonize.proofs.ladder.spanning.Goals as goal

pub returns : goal.returns
returns g c =
    let number : Rung → ℕ = λ r. r.number in
    let sorted = spanning_sorted c.args.edges.list.now c.args.columns c.args.numbers.now (map number c.in_ok-rungs.rungs.items) (map number c.sort_unstable_by_key.new.self.items) (IsPermutation-map number c.in_ok-rungs.rungs.items c.sort_unstable_by_key.new.self.items c.sort_unstable_by_key.ensures.permutation) c.in_ok-rungs.ensures in
    IfOk-weaker c.numbers_of.result (λ found. found.items ≡ map number c.deref.result.now) (λ found. AreSpanning c.args.edges.list.now c.args.columns c.args.numbers.now found.items)
    (λ found h. subst (λ (t : List ℕ). AreSpanning c.args.edges.list.now c.args.columns c.args.numbers.now t) (sym (h ∙ ap (map number) c.deref.ensures.value)) sorted) c.numbers_of.ensures
