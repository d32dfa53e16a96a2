use Rattle.std.proofs.Common.{◌≡◌, ◌<◌, ◌++◌, ◌∷◌, [], ◌∙◌, Bool, List, ap, arith, false, length, not, of_z, refl, sym, true, w32}
use Rattle.std.proofs.Math.Logic.{∥∥₁_elim}
use Rattle.std.proofs.Props.{props}
use Rattle.geom.specs.declared.edge.Counted.{Counted}
use Rattle.geom.specs.declared.point.Pt.{Pt}
use Rattle.geom.specs.Limit.{AreInLimit}
use Rattle.geom.specs.Rounded.{edges_of}
use Rattle.geom.specs.Segments.{same_point}
use Rattle.geom.proofs.Lists.{contains_in}
use Rattle.geom.proofs.Points.{same_point_true}
use Rattle.label_sweep.specs.declared.parities.Parities.{Parities}
use Rattle.label_sweep.specs.declared.standing.LabelledEdge.{LabelledEdge}
use Rattle.label_sweep.specs.declared.standing.StandingEdge.{StandingEdge}
use Rattle.label_sweep.specs.Labels.{beyond, labelled_of}
use Rattle.label_sweep.specs.Slots.{in_slot}
use Rattle.label_sweep.proofs.Members.{in_of_all}
use Rattle.label_sweep.proofs.Plain.{around_plain, begins_in, begun_after, past_plain}
use Rattle.label_sweep.proofs.leaving.LeavingSweep.pass_on.Goals as goal

pub bounds-own-from : goal.bounds-own-from
bounds-own-from g c = ∥∥₁_elim c.requires.here (hlevel props) (λ h. let l = h.1.at.at.begin.within in omega (arith, l))

pub offset_bounds-own-from : goal.offset_bounds-own-from
offset_bounds-own-from g c = let l = bounds-own-from g c in omega (arith, l)

pub invariant_of-spoke : goal.invariant_of-spoke
invariant_of-spoke g c = record {
  in_limit = ∥∥₁_elim c.requires.here (hlevel props) (λ h.
      let d = c.index-own-from.result in
      in_of_all (λ e. AreInLimit e.p e.q) (edges_of h.0) h.1.at.at.layers.in_limit d.edge
      (contains_in (edges_of h.0) d.edge (begins_in h.0 c.args.own.now c.args.v c.args.from h.1.at.at.begin d (sym c.index-own-from.is))));
}

-- the tested point is the same
same_end : (p v : Pt) (b : Bool) → b ≡ not (same_point p v) → b ≡ false → p ≡ v
same_end p v b h k = same_point_true p v (by_not (same_point p v) (sym h ∙ k))
  where
    by_not : (t : Bool) → not t ≡ false → t ≡ true
    by_not true e = refl
    by_not false e = sym e

pub returns-clause-past : goal.returns-clause-past
returns-clause-past g c all r once done =
    let old = c.args.self.now.line.standing in
    let d = c.index-own-from.result in
    let n = c.slots-number.result.last in
    let s = c.in-Some.old in
    let at : (n < length old.slots.items) × (in_slot old.slots.items n ≡ s) = c.slot.ensures.some s c.in-Some.is in
    rw c.clear.ensures.items
    (past_plain all c.args.own.now c.args.v c.args.from old c.args.self.now.began.items r once d (sym c.index-own-from.is) (λ e. c.if-one.false (ap (λ x. of_z w32 x) e)) n at.0 s at.1
    (same_end s.spoke.one.edge.q c.args.v c.ne.result c.ne.ensures c.if-ne.false) c.pass_on.new.self _ c.pass_on.ensures.chunks c.pass_on.ensures.free c.pass_on.ensures.slots (λ i. d)
    (c.beyond-under.ensures ∙ ap (λ l. beyond l.left d) c.labelled-ended.ensures))

-- the labels of both edges are listed
both_listed : (s : StandingEdge) (d : Counted) (e : LabelledEdge) (under : Parities) (none one two : List LabelledEdge) → none ≡ [] → one ≡ none ++ (e ∷ [])
    → two ≡ one ++ (record { edge = d.edge; left = e.left; right = under } ∷ []) → e ≡ labelled_of s → under ≡ beyond e.left d → two ≡ labelled_of s ∷ (begun_after s d ∷ [])
both_listed s d e under none one two h i j k l = j
    ∙ ap (λ t. t ++ (record { edge = d.edge; left = e.left; right = under } ∷ [])) (i ∙ ap (λ t. t ++ (e ∷ [])) h)
    ∙ ap (λ u. e ∷ (record { edge = d.edge; left = e.left; right = u } ∷ [])) l
    ∙ ap (λ (e : LabelledEdge). e ∷ (record { edge = d.edge; left = e.left; right = beyond e.left d } ∷ [])) k

pub returns-clause-around : goal.returns-clause-around
returns-clause-around g c all r once done =
    let old = c.args.self.now.line.standing in
    let d = c.index-own-from.result in
    let n = c.slots-number.result.last in
    let s = c.in-Some.old in
    let at : (n < length old.slots.items) × (in_slot old.slots.items n ≡ s) = c.slot.ensures.some s c.in-Some.is in
    let now = both_listed s d c.labelled-ended.result c.beyond-under.result c.clear-2.new.self.items c.push.new.self.items c.push-2.new.self.items
    c.clear-2.ensures.items c.in_ok-push.ensures.items c.in_ok-push-2.ensures.items c.labelled-ended.ensures c.beyond-under.ensures in
    rw now
    (around_plain all c.args.own.now c.args.v c.args.from old c.args.self.now.began.items r once d (sym c.index-own-from.is) (λ e. c.if-one.false (ap (λ x. of_z w32 x) e)) n at.0 s at.1
    (same_end s.spoke.one.edge.q c.args.v c.ne.result c.ne.ensures c.if-ne.false))
