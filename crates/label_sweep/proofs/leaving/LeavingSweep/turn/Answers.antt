use Rattle.std.proofs.Common.{◌≡◌, ◌++◌, [], ◌∙◌, List, ap, map}
use Rattle.std.proofs.Math.Logic.{∥∥₁_elim}
use Rattle.std.proofs.Props.{props}
use Rattle.label_sweep.specs.declared.standing.LabelledEdge.{LabelledEdge}
use Rattle.label_sweep.specs.declared.standing.StandingEdge.{StandingEdge}
use Rattle.label_sweep.specs.Labels.{labelled_of, labels_from, parities_beside}
use Rattle.label_sweep.proofs.Passing.{range_in_limit, vertex_in_limit}
use Rattle.label_sweep.proofs.Plain.{around_turned, begun_listed, ended_before, upright_turned}
use Rattle.label_sweep.proofs.leaving.LeavingSweep.turn.Goals as goal

pub turn-requires : goal.turn-requires
turn-requires g c = record {
  v_in = ∥∥₁_elim c.requires.here (hlevel props) (λ h. vertex_in_limit h.0 h.1.at.at.layers c.args.v h.1.at.at.vertex);
  own_in = ∥∥₁_elim c.requires.here (hlevel props) (λ h. range_in_limit h.0 c.args.own.now h.1.at.at.layers c.args.v c.args.from c.args.next h.1.at.at.begin);
  order = ∥∥₁_elim c.requires.here (hlevel props) (λ h. h.1.at.at.begin.order);
  within = ∥∥₁_elim c.requires.here (hlevel props) (λ h. h.1.at.at.begin.within);
  some = ∥∥₁_elim c.requires.here (hlevel props) (λ h. h.1.at.kept.chunked.some);
}

-- behind those of the edges that end there
all_listed : (none one two three old began : List LabelledEdge) (listed ended : List StandingEdge) (upright fresh : List LabelledEdge) → none ≡ [] → one ≡ none ++ map labelled_of listed → listed ≡ ended → two ≡ one ++ upright → upright ≡ old
    → three ≡ two ++ fresh → fresh ≡ began → three ≡ map labelled_of ended ++ old ++ began
all_listed none one two three old began listed ended upright fresh h i j k l m n =
    let first : one ≡ map labelled_of ended = i ∙ ap (λ t. t ++ map labelled_of listed) h ∙ ap (map labelled_of) j in
    let second : two ≡ map labelled_of ended ++ old = k ∙ ap (λ t. t ++ upright) first ∙ ap (λ t. map labelled_of ended ++ t) l in
    m ∙ ap (λ t. t ++ fresh) second ∙ ap (λ t. map labelled_of ended ++ old ++ t) n

pub returns-clause-past : goal.returns-clause-past
returns-clause-past g c all r =
    let t = c.in_ok-lowest.ensures in
    let ss = c.turn.new.self.spokes.items in
    let left = parities_beside c.in_ok-lowest.lowest in
    let now = begun_listed c.clear-2.new.self.items c.label.new.labelled.items c.parities_beside.result left c.deref-3.result.now ss c.clear-2.ensures.items c.in_ok-label.ensures c.parities_beside.ensures c.deref-3.ensures.value in
    record {
      swept = t.swept all r.at;
      kept = t.kept all r.at;
      free = t.free all r.at (ended_before c.args.v c.args.self.now.line.standing r.free);
      upright = rw now (upright_turned all c.args.v left ss (t.spokes all r.at) (t.labels all r.at));
    }

pub returns-clause-around : goal.returns-clause-around
returns-clause-around g c all r =
    let t = c.in_ok-lowest.ensures in
    let ss = c.turn.new.self.spokes.items in
    let left = parities_beside c.in_ok-lowest.lowest in
    let ended = c.turn.new.self.ended.items in
    let old = c.args.self.now.began.items in
    let began = begun_listed c.clear-2.new.self.items c.label.new.labelled.items c.parities_beside.result left c.deref-3.result.now ss c.clear-2.ensures.items c.in_ok-label.ensures c.parities_beside.ensures c.deref-3.ensures.value in
    let now = all_listed c.clear.new.self.items c.add_labels.new.labelled.items c.extend_from_slice.new.self.items c.extend_from_slice-2.new.self.items old (labels_from left ss) c.deref.result.now ended c.deref-2.result.now c.deref-4.result.now
    c.clear.ensures.items c.in_ok-add_labels.ensures c.deref.ensures.value c.in_ok-extend_from_slice.ensures.items c.deref-2.ensures.value c.in_ok-extend_from_slice-2.ensures.items (c.deref-4.ensures.value ∙ began) in
    rw now (around_turned all c.args.v left ss (t.spokes all r.at) (t.labels all r.at) r.at.at.layers ended (t.ended all r.at) old r.upright)
