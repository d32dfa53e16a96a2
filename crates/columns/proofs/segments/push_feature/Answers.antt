use Rattle.std.proofs.Common.{◌≡◌, ◌∙◌, ◌+◌, ◌<◌, suc, [], List, get_or, sym, ap, subst, arith}
use Rattle.std.specs.List.{flat_map}
use Rattle.std.proofs.lemmas.Option.{get_or_from_slice_get}
use Rattle.std.proofs.lemmas.Result.{on_ok_weaker}
use Rattle.geom.specs.Segments.{ring_steps}
use Rattle.geom.specs.declared.point.Pt.{Pt}
use Rattle.columns.specs.Layout.{feature_rings_in, plain}
use Rattle.columns.specs.Reach.{first_ring_of, rings_between}
use Rattle.columns.specs.Refusals.{list_count}
use Rattle.columns.specs.Segments.{HasSteps}
use Rattle.columns.proofs.Reached.{count_features, feature_rings_are, rings_in_order}
use Rattle.columns.proofs.Sound.{checked, sound_rings}
use Rattle.columns.proofs.segments.push_feature.Goals as goal

pub feature_rings-requires : goal.feature_rings-requires
feature_rings-requires g c = omega (arith, count_features c.args.columns.now, c.requires.feature)

pub push_rings-requires-clause-order : goal.push_rings-requires-clause-order
push_rings-requires-clause-order g c =
    let C = c.args.columns.now in
    let known : c.args.feature < list_count C.features.now = omega (arith, count_features C, c.requires.feature) in
    let order = rings_in_order C (checked C c.requires.accepted).well c.args.feature (c.args.feature + 1) (omega arith) (omega (arith, known)) in
    omega (arith, order, c.feature_rings.ensures.first, c.feature_rings.ensures.past)

pub push_rings-requires-clause-sound : goal.push_rings-requires-clause-sound
push_rings-requires-clause-sound g c = λ ring low high.
    let C = c.args.columns.now in
    let f = c.args.feature in
    let well = (checked C c.requires.accepted).well in
    let known : f < list_count C.features.now = omega (arith, count_features C, c.requires.feature) in
    let before = rings_in_order C well 0 f (omega arith) (omega (arith, known)) in
    let behind = rings_in_order C well (f + 1) (list_count C.features.now) (omega (arith, known)) (omega arith) in
    let first = c.feature_rings.ensures.first in
    let past = c.feature_rings.ensures.past in
    sound_rings C c.requires.accepted ring (omega (arith, low, before, first)) (omega (arith, high, behind, past))

pub returns-clause-added : goal.returns-clause-added
returns-clause-added g c = λ rings e.
    let C = c.args.columns.now in
    let f = c.args.feature in
    let known : f < list_count C.features.now = omega (arith, count_features C, c.requires.feature) in
    let next : suc f ≡ f + 1 = omega arith in
    let found : get_or (feature_rings_in C) f [] ≡ rings = get_or_from_slice_get (feature_rings_in C) f rings [] e in
    let are : rings_between C c.feature_rings.result.first c.feature_rings.result.past ≡ rings =
    ap (λ n. rings_between C n c.feature_rings.result.past) c.feature_rings.ensures.first
    ∙ ap (λ n. rings_between C (first_ring_of C f) n) (c.feature_rings.ensures.past ∙ ap (first_ring_of C) (sym next))
    ∙ sym (feature_rings_are C (checked C c.requires.accepted).well f [] known)
    ∙ found in
    on_ok_weaker c.push_rings.result (λ h. subst (λ (rs : List (List Pt)). HasSteps c.args.layer (flat_map ring_steps (plain rs)) c.args.segments.now.items c.push_rings.new.segments.items) are h) c.push_rings.ensures.added
