use Rattle.std.proofs.Common.{◌∙◌, ap, subst, sym}
use Rattle.std.specs.List.{AllZip}
use Rattle.rayon.proofs.ListFacts.{IfOk-then}
use Rattle.rayon.proofs.ToStd.{slice-AllZip}
use Rattle.hands.specs.Idle.{IsAnswer}
use Rattle.hands.proofs.Answering.{answers_of_parts, fits_at}
use Rattle.hands.proofs.Oks.{all_given}
use Rattle.hands.specs.contracts.parts.mapped.F-Fn.{words}
use Rattle.hands.proofs.parts.mapped.Goals as goal

pub returns : goal.returns
returns g c =
    let post = (words g.row.R g.row.A g.row.P g.row.X g.row.E g.row.F g.F.Fn).post c.args.f in
    let slice = ap (λ it. it.slice.now) c.filter_map.ensures.base ∙ c.par_iter.ensures in
    IfOk-then c.collect.result _ _ c.collect.ensures (λ v h.
    let chain = rw (c.with_min_len.ensures.base) at h.1 in
    let places = slice-AllZip chain.0 c.args.places.now (chain.2 ∙ slice) (IsAnswer post) chain.1 (rw (c.filter_map.ensures.f) at chain.3) in
    let answers = subst (λ l. AllZip post c.args.parts.now l) (sym chain.4) (answers_of_parts post c.args.parts.now chain.1 (subst (λ l. AllZip (IsAnswer post) l chain.1) c.requires.places places)) in
    all_given post (λ w. w.items) _ c.args.parts.now h.0 v answers h.2)

pub collect-requires-clause-ready : goal.collect-requires-clause-ready
collect-requires-clause-ready g c κs within =
    let slice = ap (λ it. it.base.slice.now) c.with_min_len.ensures.base ∙ ap (λ it. it.slice.now) c.filter_map.ensures.base ∙ c.par_iter.ensures ∙ c.requires.places in
    λ k d low x same. (fits_at _ c.args.parts.now _ slice (rw (c.with_min_len.ensures.base, c.filter_map.ensures.f) c.requires.parts) k d x.now low same, λ y h. tt)
