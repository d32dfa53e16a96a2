use Rattle.std.proofs.Common.{◌+◌, ◌∷◌, [], List, ap, subst, sym, ◌∙◌}
use Rattle.std.proofs.Math.Logic.{∥∥₁_elim, ∥∥₁_map}
use Rattle.std.proofs.Props.{props}
use Rattle.std.proofs.lemmas.List.{map-append}
use Rattle.geom.specs.declared.edge.Counted.{Counted}
use Rattle.strips_law.specs.declared.line.Line.{Line}
use Rattle.strips_law.specs.declared.line.Carried.{Carried}
use Rattle.strips_law.specs.Strips.{AreAcross, AreCarried, IsRoundedStrip}
use Rattle.strips_law.proofs.Local.{strip_local}
use Rattle.phases.specs.Merged.{lists_of}
use Rattle.phases.proofs.Turns.{found_more}
use Rattle.phases.proofs.in_turn.add_strip.Goals as goal

pub returns : goal.returns
returns g c all ordered near found =
    let cuts = c.args.cuts.now in
    let strip = c.args.strip in
    let inner = c.in_ok-rounded.rounded.inner.items in
    let left = c.in_ok-rounded.rounded.left.items in
    let right = c.in_ok-rounded.rounded.right.items in
    let across = c.in_ok-across.field-0.across.items in
    let next = c.in_ok-across.field-0.carried.items in
    let old = c.args.found.now.edges.items in
    let rounded = ∥∥₁_map c.in_ok-rounded.ensures (λ r. strip_local cuts strip all inner left right ordered (subst (λ (ls : List Line). IsRoundedStrip cuts strip ls inner left right) near r)) in
    let bridged = c.in_ok-across.ensures cuts strip all inner ordered (rw (c.deref.ensures.value, c.deref-2.ensures.value) rounded) (∥∥₁_map found (λ f. subst (λ (cs : List Carried). AreCarried cuts (strip + 1) all cs) (sym c.deref-3.ensures.value) f.carried_are)) in
    let here = c.in_ok-here.ensures cuts strip all left right ordered (rw c.deref-4.ensures.value rounded) (∥∥₁_map bridged (λ b. subst (λ (es : List Counted). AreAcross cuts strip all es) (sym c.deref-5.ensures.value) b.0)) in
    let lists = ap lists_of c.in_ok-push.ensures.items ∙ map-append (λ v. v.items) old (c.in_ok-here.here ∷ []) in
    ∥∥₁_elim found (hlevel props) (λ f. ∥∥₁_elim bridged (hlevel props) (λ b. ∥∥₁_map here (λ e. rw lists (found_more cuts all strip (lists_of old) c.args.found.now.carried.items next c.in_ok-here.here.items f e b.1))))
