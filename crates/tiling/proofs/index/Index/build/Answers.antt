use Rattle.std.proofs.Common.{arith, rules, ◌∙◌, ap, get_or, pos, FitsSigned, w32, to_z-of_z}
use Rattle.std.specs.Int.{int_max}
use Rattle.std.proofs.lemmas.List.{get_or_default}
use Rattle.tiling.proofs.Indexing.{built_indexed, built_kept, built_more, key_within, lent_keys, lent_order}
use Rattle.tiling.proofs.index.Index.build.Goals as goal

pub get-rect-requires : goal.get-rect-requires
get-rect-requires g c = key_within c.args.boxes.now c.in_ok-keys.keys.items c.deref-key-items.result.now c.deref-key-items.ensures.value c.in_ok-keys.ensures.permutation c.loop-key.key-index (omega arith)

pub loop-key-preserved : goal.loop-key-preserved
loop-key-preserved g c =
    let f : FitsSigned w32 c.max-right.result = search rules in
    let b : FitsSigned w32 c.get-rect.result.hi.x = search rules in
    let key = get_or c.deref-key-items.result.now c.loop-key.key-index (pos 0, 0) in
    built_more c.args.boxes.now c.deref-key-items.result.now c.loop-key.key-index c.loop-key.sorted _ c.loop-key.numbers.items _ c.loop-key.greatest.items _ _ _ key c.get-rect.result
    c.loop-key.invariant (omega arith) (get_or_default c.deref-key-items.result.now c.loop-key.key-index _ _ (omega arith)) c.get-rect.ensures (to_z-of_z f ∙ c.max-right.ensures.value ∙ ap (int_max _) (to_z-of_z b))
    c.in_ok-push.ensures.ok c.in_ok-push-2.ensures.items c.in_ok-push-3.ensures.items

pub invariant_of-result : goal.invariant_of-result
invariant_of-result g c =
    built_kept c.args.boxes.now c.deref-key-items.result.now
    (lent_keys c.args.boxes.now c.in_ok-keys.keys.items _ c.deref-key-items.ensures.value c.in_ok-keys.ensures.permutation)
    (lent_order c.in_ok-keys.keys.items _ c.deref-key-items.ensures.value c.in_ok-keys.ensures.sorted)
    _ _ _ _ c.loop-key.key-index (omega arith) c.loop-key.invariant c.in_ok-keys.ensures.few

pub returns : goal.returns
returns g c =
    built_indexed c.args.boxes.now c.deref-key-items.result.now
    (lent_keys c.args.boxes.now c.in_ok-keys.keys.items _ c.deref-key-items.ensures.value c.in_ok-keys.ensures.permutation)
    (lent_order c.in_ok-keys.keys.items _ c.deref-key-items.ensures.value c.in_ok-keys.ensures.sorted)
    _ _ _ _ c.loop-key.key-index (omega arith) c.loop-key.invariant
