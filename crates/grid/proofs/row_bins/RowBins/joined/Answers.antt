use Rattle.std.proofs.Common.{◌≡◌, ◌≤◌, ◌-◌, ◌*◌, ◌+ℤ◌, ◌∙◌, FitsSigned, ap, arith, length, pos, rules, sym, subst, to_z-of_z, w64, ℕ}
use Rattle.std.proofs.lemmas.List.{length-append}
use Rattle.grid.specs.Bins.{TileRows}
use Rattle.grid.specs.Tiles.{Tiling}
use Rattle.grid.proofs.Rows.{parts_length, put_behind}
use Rattle.grid.proofs.row_bins.RowBins.joined.Goals as goal

pub invariant_of-result : goal.invariant_of-result
invariant_of-result g c =
    let from_is : c.next.inside.from ≡ c.self.inside.past = ap (λ (t : TileRows). t.from) c.next.view_is ∙ c.requires.next ∙ sym (ap (λ (t : TileRows). t.past) c.self.view_is) in
    let grid_is : c.next.inside.grid ≡ c.self.inside.grid = ap (λ (t : TileRows). t.grid) c.next.view_is ∙ c.requires.grid ∙ sym (ap (λ (t : TileRows). t.grid) c.self.view_is) in
    let first = c.self.invariant.0 in
    let second : c.self.inside.past ≤ c.next.inside.past = subst (λ (n : ℕ). n ≤ c.next.inside.past) from_is c.next.invariant.0 in
    let low_fits : FitsSigned w64 c.self.inside.low = search rules in
    let high_fits : FitsSigned w64 c.next.inside.high = search rules in (
      omega (arith, first, second),
      subst (λ (t : Tiling). c.next.inside.past ≤ t.rows) grid_is c.next.invariant.1,
      ap length c.in_ok-append.ensures.items
          ∙ length-append c.self.inside.bins.items c.next.inside.bins.items
          ∙ parts_length c.self.inside.grid.columns c.self.inside.from c.self.inside.past c.next.inside.past first second _ _ c.self.invariant.2 (c.next.invariant.2 ∙ (λ i. (c.next.inside.past - from_is i) * (grid_is i).columns)),
      c.self.invariant.3,
      to_z-of_z low_fits ∙ c.self.invariant.4,
      to_z-of_z high_fits ∙ c.next.invariant.5 ∙ ap (λ (t : Tiling). t.bottom +ℤ pos (c.next.inside.past * t.side)) grid_is,
    )

pub returns-clause-bins : goal.returns-clause-bins
returns-clause-bins g c =
    put_behind c.self.inside.grid c.next.inside.grid c.self.inside.from c.self.inside.past c.next.inside.from c.next.inside.past c.self.inside.count c.next.inside.count c.self.inside.bins.items c.next.inside.bins.items c.append.new.self.items c.args.self c.args.next
    c.self.view_is c.next.view_is c.requires.grid c.requires.next c.self.invariant.0 c.next.invariant.0 c.self.invariant.2 c.in_ok-append.ensures.items
