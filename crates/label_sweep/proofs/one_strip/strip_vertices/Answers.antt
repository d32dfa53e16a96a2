use Rattle.std.proofs.Common.{◌≡◌, ◌++◌, ◌∙◌, Bool, List, rules, subst, sym}
use Rattle.std.specs.List.{All, filter}
use Rattle.std.proofs.lemmas.List.Elements.{All-filter, All-nil}
use Rattle.std.proofs.lemmas.Result.{IfOk-weaker}
use Rattle.geom.specs.declared.point.Pt.{Pt}
use Rattle.geom.specs.Rounded.{edges_of}
use Rattle.geom.proofs.Lists.{in_contains}
use Rattle.label_sweep.specs.Column.{IsStripOf}
use Rattle.label_sweep.specs.Status.{AreVertices, IsVertexOf}
use Rattle.label_sweep.specs.StripLabels.{lies_in}
use Rattle.label_sweep.proofs.Ends.{some_are}
use Rattle.label_sweep.proofs.Members.{all_of_in}
use Rattle.label_sweep.proofs.StripVertices.{no_edges, strip_is}
use Rattle.label_sweep.proofs.one_strip.strip_vertices.Goals as goal

pub returns-then-is_empty-clause-ends : goal.returns-then-is_empty-clause-ends
returns-then-is_empty-clause-ends g c = rw c.new.ensures.items (All-nil (IsVertexOf (edges_of (c.args.crossing.now ++ c.args.own.now))))

pub returns-then-is_empty-clause-strip : goal.returns-then-is_empty-clause-strip
returns-then-is_empty-clause-strip g c = λ all h. rw c.new.ensures.items (no_edges all c.args.crossing.now c.args.own.now h (search rules))

pub returns-clause-ends : goal.returns-clause-ends
returns-clause-ends g c =
    let vs = c.deref.result.now in
    let es = edges_of (c.args.crossing.now ++ c.args.own.now) in
    let P : List Pt → Type 0 = AreVertices es in
    let are = subst P (sym c.deref.ensures.value) c.in_ok-vertices.ensures in
    let test : Pt → Bool = lies_in c.begin_of.result.x c.begin_of-2.result.x in
    IfOk-weaker c.between.result (λ v. v.items ≡ filter test vs) (λ v. All (IsVertexOf es) v.items)
    (λ v e. rw e (All-filter test (IsVertexOf es) vs (all_of_in (IsVertexOf es) vs (λ p i. (are.exact p).0 (in_contains vs p i))))) c.between.ensures

pub returns-clause-strip : goal.returns-clause-strip
returns-clause-strip g c = λ all h.
    let crossing = c.args.crossing.now in
    let own = c.args.own.now in
    let first = c.index-own-0.result in
    let last = c.index-own-own.result in
    let vs = c.deref.result.now in
    let P : List Pt → Type 0 = AreVertices (edges_of (crossing ++ own)) in
    let are = subst P (sym c.deref.ensures.value) c.in_ok-vertices.ensures in
    IfOk-weaker c.between.result (λ v. v.items ≡ filter (lies_in c.begin_of.result.x c.begin_of-2.result.x) vs) (λ v. IsStripOf all crossing own v.items)
    (λ v e. strip_is all crossing own h vs are (some_are _ c.if-is_empty.ensures) first last c.index-own-0.is c.index-own-own.is v.items
    (e ∙ (λ i. filter (lies_in (c.begin_of.ensures i).x (c.begin_of-2.ensures i).x) vs))) c.between.ensures
