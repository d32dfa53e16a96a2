use Rattle.std.proofs.Common.{◌≡◌, List, Option, sym, ◌∙◌, ap, subst, length, arith}
use Rattle.polygonize.specs.Below.{AreKnown}
use Rattle.polygonize.specs.declared.below.Gap.{Gap}
use Rattle.polygonize.proofs.EdgesBelow.Searching.{found_all, none_known, none_of, written_back}
use Rattle.polygonize.proofs.nearest.gaps_below.Goals as goal

pub add_short-requires-clause-known : goal.add_short-requires-clause-known
add_short-requires-clause-known g c = let e = c.in_ok-best.ensures.items_if_clones_equal (none_of _ (λ z k. k)) in
    subst (λ (t : List (Option Gap)). AreKnown c.args.edges.list.now c.args.vertices.now t) (sym (c.deref_mut.ensures.value ∙ e)) (none_known c.args.edges.list.now c.args.vertices.now _)

pub add-requires-clause-known : goal.add-requires-clause-known
add-requires-clause-known g c =
    let n = c.in_ok-best.best.len in
    let old = c.in_ok-best.best.items in
    let short = c.add_short.new.best in
    let taken = c.in_ok-left.ensures.taken in
    let same : length short ≡ length old = taken.same_length ∙ ap length c.deref_mut.ensures.value in
    let a = c.in_ok-best.best.ok.0 in
    subst (λ (t : List (Option Gap)). AreKnown c.args.edges.list.now c.args.vertices.now t) (sym (c.deref_mut-2.ensures.value ∙ written_back n old short (omega (arith, a, same)) same)) taken.known

pub returns : goal.returns
returns g c =
    let n = c.in_ok-best.best.len in
    let old = c.in_ok-best.best.items in
    let short = c.add_short.new.best in
    let new = c.add.new.best in
    let left = c.in_ok-left.left.items in
    let asked = c.in_ok-asked.asked.items in
    let taken = c.in_ok-left.ensures.taken in
    let a = c.in_ok-best.best.ok.0 in
    let b = c.in_ok-best.ensures.len in
    let same : length short ≡ length old = taken.same_length ∙ ap length c.deref_mut.ensures.value in
    let first = written_back n old short (omega (arith, a, same)) same in
    let held : c.deref_mut-2.result.now ≡ short = c.deref_mut-2.ensures.value ∙ first in
    let like : length new ≡ length short = c.in_ok-add.ensures.same_length ∙ ap length held in
    let second = written_back n short new (omega (arith, a, same, like)) like in
    let nearer = rw (c.deref.ensures.value, c.deref-2.ensures.value, held) at c.in_ok-add.ensures in
    rw (first, second) (record {
      same_length = omega (arith, same, like, a, b);
      each = found_all c.args.edges.list.now c.args.vertices.now asked left c.deref_mut.result.now short new c.in_ok-asked.ensures.complete taken nearer;
    })
