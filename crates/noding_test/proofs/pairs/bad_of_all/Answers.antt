use Rattle.std.proofs.Common.{◌≡◌, ℕ, arith, subst}
use Rattle.std.proofs.Math.Logic.{∥∥₁_elim, ∥∥₁_map}
use Rattle.std.proofs.Props.{props}
use Rattle.geom.specs.Rounded.{edges_of}
use Rattle.grid.specs.Tiles.{tile_count}
use Rattle.noding_test.specs.Verdicts.{IsLeastPair}
use Rattle.noding_test.specs.Passes.{IsBadBelow}
use Rattle.noding_test.proofs.EdgeBins.{near_by_bin}
use Rattle.noding_test.proofs.Least.{bad_below_none, least_more}
use Rattle.noding_test.proofs.pairs.bad_of_all.Goals as goal

pub loop-tile-init : goal.loop-tile-init
loop-tile-init g c = ∣ bad_below_none c.args.grid.now (edges_of c.args.counted.now) ∣₁

pub bad_of_tile-requires-clause-near : goal.bad_of_tile-requires-clause-near
bad_of_tile-requires-clause-near g c = near_by_bin c.args.grid.now c.args.counted.now c.args.bins.now c.loop-tile.tile c.bin.new.out.items c.deref.result.now c.requires.bins c.in_ok-bin.ensures.ok c.deref.ensures.value

pub loop-tile-preserved : goal.loop-tile-preserved
loop-tile-preserved g c =
    ∥∥₁_elim c.loop-tile.invariant (hlevel props) (λ a. ∥∥₁_map c.in_ok-found.ensures (λ b.
    least_more c.args.grid.now (edges_of c.args.counted.now) c.loop-tile.tile c.loop-tile.bad c.in_ok-found.found c.lesser-bad.result c.lesser-bad.ensures a b))

pub returns : goal.returns
returns g c =
    let e : c.loop-tile.tile ≡ tile_count c.args.grid.now = let a = c.loop-tile.auto.tile-end in let b = c.loop-tile-test.false in let v = c.tiles-tile-end.ensures.value in omega arith in
    subst (λ (k : ℕ). ∥ IsLeastPair (IsBadBelow c.args.grid.now k (edges_of c.args.counted.now)) c.loop-tile.bad ∥₁) e c.loop-tile.invariant
