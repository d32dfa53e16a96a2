use Rattle.std.proofs.Common.{◌≡◌, ◌<◌, ◌∙◌, ◌^◌, ◌∷◌, ℕ, ap, arith, refl, subst, sym}
use Rattle.std.specs.List.{AllZip}
use Rattle.grid.specs.Bins.{TileRows}
use Rattle.grid.specs.Tiles.{Tiling}
use Rattle.hands.specs.declared.part.Part.{Part}
use Rattle.hands.specs.Consecutive.{ArePartsOf}
use Rattle.engine.specs.Rounds.{AreCellRows}
use Rattle.engine.proofs.Binned.{bins_of_all, rows_behind}
use Rattle.results.proofs.Folds.{folded, inside, next_part, one_on}
use Rattle.engine.proofs.cell_parts.bins_in_parts.Goals as goal

pub map_parts-requires-after_bounds : goal.map_parts-requires-after_bounds
map_parts-requires-after_bounds g c κs within =
    let ps = c.deref.result.now in
    let counted : ArePartsOf 0 c.rows.result ps = rw c.deref.ensures.value c.in_ok-parts.ensures in
    let parts : ArePartsOf 0 c.args.cells.now.rows ps = subst (λ (n : ℕ). ArePartsOf 0 n ps) c.rows.ensures counted in
    let few : c.args.cells.now.rows < 2 ^ 32 = subst (λ (n : ℕ). n < 2 ^ 32) c.rows.ensures c.rows.type_inv in
    λ k d below. let each = inside c.args.cells.now.rows ps parts k d below in (c.requires, each.0, each.1, few)

pub loop-next-init : goal.loop-next-init
loop-next-init g c =
    let cells = c.args.cells.now in
    let segments = c.args.segments.now in
    let ps = c.deref.result.now in
    let all = c.in-Some.all in
    let rest = c.next.new.self.rest.items in
    let counted : ArePartsOf 0 c.rows.result ps = rw c.deref.ensures.value c.in_ok-parts.ensures in
    let parts : ArePartsOf 0 cells.rows ps = subst (λ (n : ℕ). ArePartsOf 0 n ps) c.rows.ensures counted in
    let are : c.in_ok-map_parts.field-0.items ≡ all ∷ rest = sym c.into_iter-rows.ensures.rest ∙ c.in-Some.ensures.items in
    let gave : AllZip (λ (p : Part) (bins : TileRows). AreCellRows cells p.from p.past segments bins) ps (all ∷ rest) = rw (← are) c.in_ok-map_parts.ensures in
    rw c.into_iter-next-iterator.ensures.into_iter_gives (one_on (λ at. at ≡ 0) (λ p bins. AreCellRows cells p.from p.past segments bins) cells.rows (λ at. AreCellRows cells 0 at segments all) all rest
    (λ at p begins order within zero own. subst (λ (n : ℕ). AreCellRows cells n p.past segments all) (begins ∙ zero) own)
    (record { at = 0; known = refl; parts = ps; are_parts = parts; gave = gave }))

pub joined-requires-clause-grid : goal.joined-requires-clause-grid
joined-requires-clause-grid g c =
    let cells = c.args.cells.now in
    let segments = c.args.segments.now in
    let n = next_part (λ at. AreCellRows cells 0 at segments c.loop-next.all) (λ p bins. AreCellRows cells p.from p.past segments bins) cells.rows c.in-Some-next.next c.next-in-loop-next.new.self.rest.items (rw c.in-Some-next.ensures.steps.0 at c.loop-next.invariant) in
    n.2.grid_is ∙ sym n.1.grid_is

pub joined-requires-clause-next : goal.joined-requires-clause-next
joined-requires-clause-next g c =
    let cells = c.args.cells.now in
    let segments = c.args.segments.now in
    let n = next_part (λ at. AreCellRows cells 0 at segments c.loop-next.all) (λ p bins. AreCellRows cells p.from p.past segments bins) cells.rows c.in-Some-next.next c.next-in-loop-next.new.self.rest.items (rw c.in-Some-next.ensures.steps.0 at c.loop-next.invariant) in
    n.2.from_is ∙ sym n.1.past_is

pub loop-next-preserved : goal.loop-next-preserved
loop-next-preserved g c =
    let cells = c.args.cells.now in
    let segments = c.args.segments.now in
    let next = c.in-Some-next.next in
    let both = c.in_ok-all.ensures in
    one_on (λ at. AreCellRows cells 0 at segments c.loop-next.all) (λ p bins. AreCellRows cells p.from p.past segments bins) cells.rows (λ at. AreCellRows cells 0 at segments c.in_ok-all.all) next c.next-in-loop-next.new.self.rest.items
    (λ at p begins order within old own. rows_behind cells 0 at p.past segments c.loop-next.all next c.in_ok-all.all old (subst (λ (n : ℕ). AreCellRows cells n p.past segments next) begins own) both.grid both.from both.past both.bins)
    (rw c.in-Some-next.ensures.steps.0 at c.loop-next.invariant)

pub of_rows-requires-clause-past : goal.of_rows-requires-clause-past
of_rows-requires-clause-past g c =
    let cells = c.args.cells.now in
    let segments = c.args.segments.now in
    let all = folded (λ at. AreCellRows cells 0 at segments c.loop-next.all) (λ p bins. AreCellRows cells p.from p.past segments bins) cells.rows c.loop-next.next-iterator.rest.items (omega (arith, c.in-None.ensures.steps.0, c.loop-next.next-iterator.rest.ok.0)) c.loop-next.invariant in
    all.past_is ∙ sym (ap (λ (t : Tiling). t.rows) all.grid_is)

pub returns : goal.returns
returns g c =
    let cells = c.args.cells.now in
    let segments = c.args.segments.now in
    let all = folded (λ at. AreCellRows cells 0 at segments c.loop-next.all) (λ p bins. AreCellRows cells p.from p.past segments bins) cells.rows c.loop-next.next-iterator.rest.items (omega (arith, c.in-None.ensures.steps.0, c.loop-next.next-iterator.rest.ok.0)) c.loop-next.invariant in
    ∣ bins_of_all cells 0 cells.rows segments c.loop-next.all c.of_rows.result all c.of_rows.ensures.grid c.of_rows.ensures.bins ∣₁
