use Rattle.std.proofs.Common.{◌≡◌, ◌++◌, [], ◌∷◌, ◌∙◌, ap}
use Rattle.std.proofs.Math.Logic.{∥∥₁_elim}
use Rattle.std.proofs.Props.{props}
use Rattle.geom.specs.Rounded.{edges_of}
use Rattle.label_sweep.specs.Labels.{edge_beside}
use Rattle.label_sweep.specs.Swept.{besides_from}
use Rattle.label_sweep.proofs.Beside.{more_swept}
use Rattle.label_sweep.proofs.KeptOnce.{kept_prop}
use Rattle.label_sweep.proofs.Passing.{range_in_limit, vertex_in_limit}
use Rattle.label_sweep.proofs.pass.SweepLine.pass_beside.Goals as goal

pub turn-requires : goal.turn-requires
turn-requires g c = record {
  v_in = ∥∥₁_elim c.requires.here (hlevel props) (λ h. vertex_in_limit h.0 h.1.layers c.args.v h.1.vertex);
  own_in = ∥∥₁_elim c.requires.here (hlevel props) (λ h. range_in_limit h.0 c.args.own.now h.1.layers c.args.v c.args.from c.args.next h.1.begin);
  order = ∥∥₁_elim c.requires.here (hlevel props) (λ h. h.1.begin.order);
  within = ∥∥₁_elim c.requires.here (hlevel props) (λ h. h.1.begin.within);
  some = c.requires.kept.chunked.some;
}

pub returns-clause-kept : goal.returns-clause-kept
returns-clause-kept g c = ∥∥₁_elim c.requires.here (kept_prop _) (λ h. c.in_ok-lowest.ensures.kept h.0 (record { at = h.1; kept = c.requires.kept }))

pub returns-clause-swept : goal.returns-clause-swept
returns-clause-swept g c all h = c.in_ok-lowest.ensures.swept all (record { at = h; kept = c.requires.kept })

pub returns-clause-besides : goal.returns-clause-besides
returns-clause-besides g c all h =
    let t = c.in_ok-lowest.ensures in
    let ss = c.turn.new.self.spokes.items in
    let old = c.args.swept.now.items in
    let beside = edge_beside c.in_ok-lowest.lowest in
    let now : c.list_beside.new.swept.items ≡ old ++ besides_from beside ss =
    c.in_ok-list_beside.ensures ∙ ap (λ b. old ++ besides_from b c.deref.result.now) c.edge_beside.ensures ∙ ap (λ ks. old ++ besides_from beside ks) c.deref.ensures.value in
    λ points order before. rw now (more_swept (edges_of all) points (c.args.v ∷ []) old (besides_from beside ss) order before (t.besides all (record { at = h; kept = c.requires.kept })))
