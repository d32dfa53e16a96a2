use Rattle.std.proofs.Common.{Bor, List, [], ◌∷◌, ◌∙◌, ap, map, rules, subst, sym, ℕ}
use Rattle.std.proofs.lemmas.Result.{err_from_is_err_and}
use Rattle.engine.specs.CoveredRuns.{covered_limits}
use Rattle.engine.specs.Runs.{alone}
use Rattle.layers.specs.declared.faces_limits.FacesLimits.{FacesLimits}
use Rattle.layers.specs.FacesRefusals.{IsFacesRefusedAt}
use Rattle.layers.specs.FeatureLayers.{HaveKept, MayRound, TellsBadLayer}
use Rattle.layers.specs.Refusals.{IsPlan, text_limit}
use Rattle.engine.proofs.CoveredRunning.{ends}
use Rattle.engine.proofs.FacesRunning.{memory_declines, plan_declines, refused_declines}
use Rattle.layers.proofs.LayersRefused.{layer_refused}
use Rattle.engine.proofs.alone_covered.run_covered_alone_within.Goals as goal

pub returns-in-Some-clause-answer : goal.returns-in-Some-clause-answer
returns-in-Some-clause-answer g c = plan_declines (covered_limits c.args.limits.segments) (alone c.args.side) (c.args.a.now ∷ c.args.b.now ∷ []) c.of_run.result c.in-Some.fault c.of_run.ensures.at c.of_run.ensures.refusal c.in-Some.ensures

pub returns-in_err-read-clause-answer : goal.returns-in_err-read-clause-answer
returns-in_err-read-clause-answer g c =
    let p = err_from_is_err_and c.from_residual.result c.from_residual.ensures.1 in
    let f = c.in_err-read.field-0.0 in
    let limits = covered_limits c.args.limits.segments in
    let texts : List (List ℕ) = c.args.a.now ∷ c.args.b.now ∷ [] in
    let planned : IsPlan (alone c.args.side) = search rules in
    rw (p.1, p.2) (refused_declines limits (alone c.args.side) texts f.at f.refusal (layer_refused limits (alone c.args.side) texts f planned (subst (λ (l : FacesLimits). TellsBadLayer (text_limit l.segments) texts f) c.limits_of-limits.ensures c.in_err-read.ensures)))

pub returns-in-Err-clause-answer : goal.returns-in-Err-clause-answer
returns-in-Err-clause-answer g c =
    let f = c.in-Err.fault in
    let texts : List (List ℕ) = c.args.a.now ∷ c.args.b.now ∷ [] in
    refused_declines (covered_limits c.args.limits.segments) (alone c.args.side) texts f.at f.refusal
    (subst (λ (l : FacesLimits). IsFacesRefusedAt l (alone c.args.side) texts f.at f.refusal) c.limits_of-limits.ensures c.in-Err.ensures.answer)

pub returns-in_err-borders-clause-answer : goal.returns-in_err-borders-clause-answer
returns-in_err-borders-clause-answer g c =
    let p = err_from_is_err_and c.from_residual-in_err-borders.result c.from_residual-in_err-borders.ensures.1 in
    let f = c.in_err-borders.field-0.0 in
    let texts : List (List ℕ) = c.args.a.now ∷ c.args.b.now ∷ [] in
    rw (p.1, p.2) (memory_declines (covered_limits c.args.limits.segments) (alone c.args.side) texts f.at f.refusal
    (subst (λ (l : FacesLimits). MayRound l.segments (alone c.args.side) texts) c.limits_of-limits.ensures c.in-Ok.ensures.answer) c.in_err-borders.ensures)

pub borders_alone-requires : goal.borders_alone-requires
borders_alone-requires g c =
    subst (λ (ts : List (Bor (List ℕ))). HaveKept (map (λ t. t.now) ts) c.in_ok-read.read.kept) (sym c.in-Ok.ensures.same.2) c.in_ok-read.ensures.kept

pub returns-clause-answer : goal.returns-clause-answer
returns-clause-answer g c =
    let now = c.in-Ok.checked in
    let same = c.in-Ok.ensures.same in
    let texts : List (List ℕ) = c.args.a.now ∷ c.args.b.now ∷ [] in
    ends c.args.limits.segments c.args.op (alone c.args.side) c.args.a.now c.args.b.now (λ m. m.text.items) (λ m. m.report) now.limits now.plan (map (λ t. t.now) now.layers.now) (same.1 ∙ c.limits_of-limits.ensures) same.0
    (ap (λ (ts : List (Bor (List ℕ))). map (λ t. t.now) ts) same.2)
    (subst (λ (l : FacesLimits). MayRound l.segments (alone c.args.side) texts) c.limits_of-limits.ensures c.in-Ok.ensures.answer)
    c.covered_by_one.result c.covered_by_one.ensures.answer c.or_want-2.result c.or_want-2.ensures
