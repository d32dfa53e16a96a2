use Rattle.std.proofs.Common.{◌≡◌, ◌∙◌, ◌+◌, ◌++◌, arith, ap, length, map, refl}
use Rattle.wkt.proofs.FeatureParts.{features_in, so_far_all, so_far_more, so_far_none}
use Rattle.wkt.proofs.feature_lines.features_of_all.Goals as goal

pub loop-next-init : goal.loop-next-init
loop-next-init g c =
    so_far_none c.in_ok-lists.lists.items c.new-starts.result.items c.of_none-outline.result c.into_iter-next-iterator.result.rest.items c.args.parts.items c.in_ok-lists.ensures.items c.new-starts.ensures.items (cc) c.of_none-outline.ensures c.requires

pub loop-next-preserved : goal.loop-next-preserved
loop-next-preserved g c =
    let all = rw c.in-Some.ensures.steps.0 at c.loop-next.invariant in
    let before = c.loop-next.before in
    let starts = c.loop-next.starts.items in
    let rings = c.into_parts-rings.result.0 in
    let own = c.into_parts-rings.result.1 in
    let behind : c.in-Some-checked_add.behind ≡ before + length rings.items = omega (arith, c.in-Some-checked_add.ensures, c.len-in-loop-next.ensures) in
    let shifted = c.in_ok-push_shifted.ensures ∙ ap (λ x. starts ++ map (λ s. s + before) x) c.deref.ensures.value in
    rw (c.in_ok-push.ensures.items, behind) (so_far_more c.loop-next.lists.items rings c.in-Some.next c.in-Some.features c.next.new.self.rest.items (features_in c.args.parts.items) starts own.items c.push_shifted.new.starts.items before c.loop-next.outline c.in-Some-joined.both
    all c.into_parts-rings.ensures shifted c.in-Some-joined.ensures)

pub new-requires : goal.new-requires
new-requires g c =
    let none : length c.loop-next.next-iterator.rest.items ≡ 0 = omega (arith, c.in-None.ensures.steps.0, c.loop-next.next-iterator.rest.ok.0) in
    let done = so_far_all c.loop-next.lists.items c.in_ok-joined.field-0.items c.loop-next.starts.items c.loop-next.before c.loop-next.outline c.loop-next.next-iterator.rest.items (features_in c.args.parts.items) c.loop-next.invariant none c.in_ok-joined.ensures in
    rw done.2 done.0

pub returns : goal.returns
returns g c =
    let none : length c.loop-next.next-iterator.rest.items ≡ 0 = omega (arith, c.in-None.ensures.steps.0, c.loop-next.next-iterator.rest.ok.0) in
    let done = so_far_all c.loop-next.lists.items c.in_ok-joined.field-0.items c.loop-next.starts.items c.loop-next.before c.loop-next.outline c.loop-next.next-iterator.rest.items (features_in c.args.parts.items) c.loop-next.invariant none c.in_ok-joined.ensures in
    rw (c.new.ensures, done.2) (done.1, refl)
