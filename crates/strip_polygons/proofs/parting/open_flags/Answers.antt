use Rattle.std.proofs.Common.{◌≡◌, false, map, slice_index_or, subst, sym}
use Rattle.std.proofs.lemmas.Result.{IfOk-weaker}
use Rattle.strip_polygons.specs.Parting.{TellOpen}
use Rattle.strip_polygons.proofs.OpenClasses.{classes_tell}
use Rattle.strip_polygons.proofs.parting.open_flags.Goals as goal

pub returns-clause-open : goal.returns-clause-open
returns-clause-open g c = λ are noded. (
    let cuts = c.args.cuts.now in
    let known = c.args.known.now in
    let roots = c.in_ok-roots.roots.items in
    let flags = c.in_ok-flags.flags.items in
    let tell = classes_tell cuts c.args.from c.args.past known c.in_ok-links.links.items (c.in_ok-links.ensures.ties are noded) roots
    (rw c.deref.ensures.value at c.in_ok-roots.ensures) flags (rw c.deref-2.ensures.value at c.in_ok-flags.ensures) in
    IfOk-weaker c.flags_of_roots.result (λ told. told.items ≡ map (λ r. slice_index_or c.deref-3.result.now r false) c.deref-4.result.now)
    (λ told. TellOpen cuts c.args.from c.args.past known told.items)
    (λ told h. subst (TellOpen cuts c.args.from c.args.past known) (sym (rw (c.deref-3.ensures.value, c.deref-4.ensures.value) at h)) tell)
    c.flags_of_roots.ensures)
