use Rattle.std.proofs.Common.{Bor, List, [], ◌∷◌, ◌∙◌, ap, map, rules, subst, ℕ}
use Rattle.std.proofs.lemmas.Result.{err_from_is_err_and}
use Rattle.engine.specs.CoveredRuns.{covered_limits}
use Rattle.layers.specs.declared.faces_limits.FacesLimits.{FacesLimits}
use Rattle.layers.specs.FacesRefusals.{IsFacesRefusedAt}
use Rattle.layers.specs.FeatureLayers.{MayRound, TellsBadLayer}
use Rattle.layers.specs.Refusals.{IsPlan, text_limit}
use Rattle.engine.proofs.CoveredRunning.{ends}
use Rattle.engine.proofs.FacesRunning.{plan_declines, refused_declines}
use Rattle.layers.proofs.LayersRefused.{layer_refused}
use Rattle.engine.proofs.covered_run.made_covered.Goals as goal

pub returns-in-Some : goal.returns-in-Some
returns-in-Some g c = plan_declines (covered_limits c.args.limits.segments) c.args.plan (c.args.a.now ∷ c.args.b.now ∷ []) c.of_run.result c.in-Some.fault c.of_run.ensures.at c.of_run.ensures.refusal c.in-Some.ensures

pub returns-in_err-read : goal.returns-in_err-read
returns-in_err-read g c =
    let p = err_from_is_err_and c.from_residual.result c.from_residual.ensures.1 in
    let f = c.in_err-read.field-0.0 in
    let limits = covered_limits c.args.limits.segments in
    let texts : List (List ℕ) = c.args.a.now ∷ c.args.b.now ∷ [] in
    let planned : IsPlan c.args.plan = search rules in
    rw (p.1, p.2) (refused_declines limits c.args.plan texts f.at f.refusal (layer_refused limits c.args.plan texts f planned (subst (λ (l : FacesLimits). TellsBadLayer (text_limit l.segments) texts f) c.limits_of-limits.ensures c.in_err-read.ensures)))

pub returns-in-Err : goal.returns-in-Err
returns-in-Err g c =
    let f = c.in-Err.fault in
    let texts : List (List ℕ) = c.args.a.now ∷ c.args.b.now ∷ [] in
    refused_declines (covered_limits c.args.limits.segments) c.args.plan texts f.at f.refusal
    (subst (λ (l : FacesLimits). IsFacesRefusedAt l c.args.plan texts f.at f.refusal) c.limits_of-limits.ensures c.in-Err.ensures.answer)

pub returns : goal.returns
returns g c =
    let now = c.in-Ok.checked in
    let same = c.in-Ok.ensures.same in
    let texts : List (List ℕ) = c.args.a.now ∷ c.args.b.now ∷ [] in
    ends c.args.limits.segments c.args.op c.args.plan c.args.a.now c.args.b.now (λ m. m.text) (λ m. m.report) now.limits now.plan (map (λ t. t.now) now.layers.now) (same.1 ∙ c.limits_of-limits.ensures) same.0
    (ap (λ (ts : List (Bor (List ℕ))). map (λ t. t.now) ts) same.2)
    (subst (λ (l : FacesLimits). MayRound l.segments c.args.plan texts) c.limits_of-limits.ensures c.in-Ok.ensures.answer)
    c.covered_by_borders.result c.covered_by_borders.ensures c.or_want-2.result c.or_want-2.ensures
