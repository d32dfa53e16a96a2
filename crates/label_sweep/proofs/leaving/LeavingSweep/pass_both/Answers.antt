use Rattle.std.proofs.Common.{◌≡◌, ◌+◌, ◌++◌, ◌∷◌, [], ◌∙◌, List, ap, arith, reverse, sym}
use Rattle.std.proofs.Math.Logic.{∥∥₁_elim}
use Rattle.std.proofs.Props.{props}
use Rattle.label_sweep.specs.declared.parities.Parities.{Parities}
use Rattle.label_sweep.specs.declared.standing.LabelledEdge.{LabelledEdge}
use Rattle.label_sweep.specs.declared.standing.Spoke.{Spoke}
use Rattle.label_sweep.specs.declared.standing.StandingEdge.{StandingEdge}
use Rattle.label_sweep.specs.Labels.{labelled_of, labels_from, stands_from}
use Rattle.label_sweep.proofs.Passing.{range_in_limit}
use Rattle.label_sweep.proofs.PairOfEdges.{around_both, past_both, two_items}
use Rattle.label_sweep.proofs.Plain.{begun_listed}
use Rattle.label_sweep.proofs.leaving.LeavingSweep.pass_both.Goals as goal

pub by_turn-requires-clause-in_limit : goal.by_turn-requires-clause-in_limit
by_turn-requires-clause-in_limit g c = ∥∥₁_elim c.requires.here (hlevel props) (λ h. range_in_limit h.0 c.args.own.now h.1.at.at.layers c.args.v c.args.from (c.args.from + 2) h.1.at.at.begin)

pub by_turn-requires-clause-within : goal.by_turn-requires-clause-within
by_turn-requires-clause-within g c = ∥∥₁_elim c.requires.here (hlevel props) (λ h. h.1.at.at.begin.within)

pub overflow_add-from : goal.overflow_add-from
overflow_add-from g c = let l = by_turn-requires-clause-within g c in let w = c.well_formed in omega (arith, l, w)

-- behind those of the two edges that end there
all_listed : (none one two three began : List LabelledEdge) (e f : LabelledEdge) (lower upper : StandingEdge) (fresh : List LabelledEdge) → none ≡ [] → one ≡ none ++ (e ∷ []) → e ≡ labelled_of lower
    → two ≡ one ++ (f ∷ []) → f ≡ labelled_of upper → three ≡ two ++ fresh → fresh ≡ began → three ≡ labelled_of lower ∷ (labelled_of upper ∷ began)
all_listed none one two three began e f lower upper fresh h i j k l m n =
    let first : one ≡ labelled_of lower ∷ [] = i ∙ ap (λ t. t ++ (e ∷ [])) h ∙ ap (λ t. t ∷ []) j in
    let second : two ≡ labelled_of lower ∷ (labelled_of upper ∷ []) = k ∙ ap (λ t. t ++ (f ∷ [])) first ∙ ap (λ t. labelled_of lower ∷ (t ∷ [])) l in
    m ∙ ap (λ t. t ++ fresh) second ∙ ap (λ t. labelled_of lower ∷ (labelled_of upper ∷ t)) n

-- the edges that stand from there on
stand_listed : (now : List StandingEdge) (at left : Parities) (ks ss : List Spoke) → now ≡ reverse (stands_from at ks) → at ≡ left → ks ≡ ss → reverse (stands_from left ss) ≡ now
stand_listed now at left ks ss h i j = sym (h ∙ ap (λ t. reverse (stands_from t ks)) i ∙ ap (λ t. reverse (stands_from left t)) j)

pub returns-clause-past : goal.returns-clause-past
returns-clause-past g c all r twice done =
    let low = c.in-Some.low in
    let high = c.in-Some.high in
    let ss = c.by_turn.new.spokes.items in
    let left = (labelled_of high.one).left in
    let now = begun_listed c.clear.new.self.items c.label.new.labelled.items c.labelled.result.left left c.deref-2.result.now ss c.clear.ensures.items c.in_ok-label.ensures (ap (λ l. l.left) c.labelled.ensures) c.deref-2.ensures.value in
    rw now
    (past_both all c.args.own.now c.args.v c.args.from c.args.self.now.line.standing c.args.self.now.began.items r twice low high
    (c.ended_pair.ensures.lower low high c.in-Some.is) (c.ended_pair.ensures.upper low high c.in-Some.is) (c.ended_pair.ensures.order low high c.in-Some.is)
    ss (c.in_ok-by_turn.ensures.spokes all r.at.at.layers r.at.at.begin) c.in_ok-by_turn.ensures.inside
    c.pass_on.new.self c.pass_on-2.new.self c.index.result.now c.index-2.result.now
    (stand_listed c.stand.new.fresh.items c.labelled.result.left left c.deref.result.now ss c.in_ok-stand.ensures (ap (λ l. l.left) c.labelled.ensures) c.deref.ensures.value
    ∙ two_items c.stand.new.fresh.items c.index.result.now c.index-2.result.now (sym c.stand.new.fresh.ok.0 ∙ sym c.len.ensures ∙ c.if-len-ne2.false) (sym c.index.ensures) (sym c.index-2.ensures))
    c.pass_on.ensures.chunks c.pass_on.ensures.free c.pass_on.ensures.slots c.pass_on-2.ensures.chunks c.pass_on-2.ensures.free c.pass_on-2.ensures.slots)

pub returns-clause-around : goal.returns-clause-around
returns-clause-around g c all r twice done =
    let low = c.in-Some.low in
    let high = c.in-Some.high in
    let ss = c.by_turn.new.spokes.items in
    let left = (labelled_of high.one).left in
    let began = begun_listed c.clear.new.self.items c.label.new.labelled.items c.labelled.result.left left c.deref-2.result.now ss c.clear.ensures.items c.in_ok-label.ensures (ap (λ l. l.left) c.labelled.ensures) c.deref-2.ensures.value in
    let now = all_listed c.clear-2.new.self.items c.push.new.self.items c.push-2.new.self.items c.extend_from_slice.new.self.items (labels_from left ss) c.labelled-2.result c.labelled-3.result low.one high.one c.deref-3.result.now
    c.clear-2.ensures.items c.in_ok-push.ensures.items c.labelled-2.ensures c.in_ok-push-2.ensures.items c.labelled-3.ensures c.in_ok-extend_from_slice.ensures.items (c.deref-3.ensures.value ∙ began) in
    rw now
    (around_both all c.args.own.now c.args.v c.args.from c.args.self.now.line.standing c.args.self.now.began.items r twice low high
    (c.ended_pair.ensures.lower low high c.in-Some.is) (c.ended_pair.ensures.upper low high c.in-Some.is) (c.ended_pair.ensures.order low high c.in-Some.is)
    ss (c.in_ok-by_turn.ensures.spokes all r.at.at.layers r.at.at.begin) c.in_ok-by_turn.ensures.inside)
