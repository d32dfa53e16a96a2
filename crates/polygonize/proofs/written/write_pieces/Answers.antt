use Rattle.std.proofs.Common.{◌∙◌, ◌||◌, ◌==◌, ◌≤◌, List, ap, arith, length, not, refl, ℕ}
use Rattle.std.specs.Prelude.{is_some}
use Rattle.polygonize.specs.Placed.{opening_of, rings_in}
use Rattle.polygonize.proofs.WrittenRings.Turning.{none_added, step_added}
use Rattle.polygonize.proofs.WrittenRings.PiecesWritten.{all_pieces, none_entered, shell_itself, step_entered}
use Rattle.polygonize.proofs.WrittenRings.Writing.{last_of, rest_of, two_points}
use Rattle.polygonize.proofs.written.write_pieces.Goals as goal

pub loop-piece-init : goal.loop-piece-init
loop-piece-init g c = (c.requires.long, none_added c.args.ring.pieces.items (rings_in c.args.written.now.items), none_entered _ _ _ _ _)

pub turned-ring-requires : goal.turned-ring-requires
turned-ring-requires g c =
    let long : 3 ≤ length c.in-Some.piece = last_of (λ (p : List ℕ). 3 ≤ length p) c.loop-piece.pieces.items c.pop.new.self.items c.in-Some.piece c.in-Some.ensures.items c.loop-piece.invariant.0 in
    omega (arith, long)

pub of-requires : goal.of-requires
of-requires g c = rw c.numbers-in-Some.ensures (two_points c.in-Some.piece c.turned-ring.result (last_of (λ (p : List ℕ). 3 ≤ length p) c.loop-piece.pieces.items c.pop.new.self.items c.in-Some.piece c.in-Some.ensures.items c.loop-piece.invariant.0) c.turned-ring.ensures)

pub loop-piece-preserved : goal.loop-piece-preserved
loop-piece-preserved g c = (
  rest_of (λ (p : List ℕ). 3 ≤ length p) c.loop-piece.pieces.items c.pop.new.self.items c.in-Some.piece c.in-Some.ensures.items c.loop-piece.invariant.0,
  step_added c.args.ring.pieces.items c.loop-piece.pieces.items c.pop.new.self.items c.in-Some.piece (rings_in c.args.written.now.items) c.loop-piece.written.items c.add_ring.new.written.items _ c.in-Some.ensures.items c.in_ok-add_ring.ensures c.turned-ring.ensures c.loop-piece.invariant.1,
  step_entered c.shell_of_pieces-shell.result (is_some c.args.owner) c.args.ring.first c.args.ring.pieces.items c.loop-piece.pieces.items c.pop.new.self.items
      c.args.written.now.items c.loop-piece.written.items c.add_ring.new.written.items c.in-Some.piece _ c.in-Some.ensures.items c.in_ok-add_ring.ensures
      (record {
        turned = c.turned-ring.ensures;
        under = refl;
        opening = c.of.ensures ∙ ap opening_of c.numbers-in-Some.ensures;
        hole = shell_itself (is_some c.args.owner) _ c.args.ring.first _ (c.is_written_as_hole.ensures ∙ ap (λ n. is_some c.args.owner || not (n == c.args.ring.first)) (omega (arith, c.len.ensures, c.pop.new.self.ok.0)));
      }) c.loop-piece.invariant.2,
)

pub returns-clause-pieces : goal.returns-clause-pieces
returns-clause-pieces g c = all_pieces c.args.ring.pieces.items c.loop-piece.pieces.items c.args.owner c.shell_of_pieces-shell.result c.args.ring.first _ _ c.index.result.now c.numbers.result.now
    c.requires.inside c.index.ensures c.numbers.ensures c.shell_of_pieces-shell.ensures (omega (arith, c.in_default.ensures.cases.0, c.loop-piece.pieces.ok.0)) c.loop-piece.invariant.2
