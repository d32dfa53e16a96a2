use Rattle.std.proofs.Common.{Bor, List, ap, map, rules, subst, sym, ℕ}
use Rattle.std.proofs.lemmas.Result.{err_from_is_err_and}
use Rattle.layers.specs.FeatureLayers.{HaveKept}
use Rattle.layers.specs.Refusals.{IsPlan}
use Rattle.engine.specs.Runs.{alone}
use Rattle.engine.proofs.FacesRunning.{checked_ends, memory_declines, plan_declines, refused_declines}
use Rattle.layers.proofs.LayersRefused.{layer_refused}
use Rattle.engine.proofs.alone_faces.faces_alone.Goals as goal

pub returns-in-Some-clause-answer : goal.returns-in-Some-clause-answer
returns-in-Some-clause-answer g c = plan_declines c.args.limits (alone c.args.side) (map (λ t. t.now) c.args.layers.now) c.of_run.result c.in-Some.fault c.of_run.ensures.at c.of_run.ensures.refusal c.in-Some.ensures

pub returns-in_err-read-clause-answer : goal.returns-in_err-read-clause-answer
returns-in_err-read-clause-answer g c =
    let p = err_from_is_err_and c.from_residual.result c.from_residual.ensures.1 in
    let f = c.in_err-read.field-0.0 in
    let texts = map (λ t. t.now) c.args.layers.now in
    let planned : IsPlan (alone c.args.side) = search rules in
    rw (p.1, p.2) (refused_declines c.args.limits (alone c.args.side) texts f.at f.refusal (layer_refused c.args.limits (alone c.args.side) texts f planned c.in_err-read.ensures))

pub returns-in-Err-clause-answer : goal.returns-in-Err-clause-answer
returns-in-Err-clause-answer g c =
    let f = c.in-Err.fault in
    refused_declines c.args.limits (alone c.args.side) (map (λ t. t.now) c.args.layers.now) f.at f.refusal c.in-Err.ensures.answer

pub returns-in_err-borders-clause-answer : goal.returns-in_err-borders-clause-answer
returns-in_err-borders-clause-answer g c =
    let p = err_from_is_err_and c.from_residual-in_err-borders.result c.from_residual-in_err-borders.ensures.1 in
    let f = c.in_err-borders.field-0.0 in
    rw (p.1, p.2) (memory_declines c.args.limits (alone c.args.side) (map (λ t. t.now) c.args.layers.now) f.at f.refusal c.in-Ok.ensures.answer c.in_err-borders.ensures)

pub borders_alone-requires : goal.borders_alone-requires
borders_alone-requires g c =
    subst (λ (ts : List (Bor (List ℕ))). HaveKept (map (λ t. t.now) ts) c.in_ok-read.read.kept) (sym c.in-Ok.ensures.same.2) c.in_ok-read.ensures.kept

pub returns-clause-answer : goal.returns-clause-answer
returns-clause-answer g c =
    let now = c.in-Ok.checked in
    let same = c.in-Ok.ensures.same in
    checked_ends (λ m. m.text.items) (λ m. m.report) c.args.limits now.limits (alone c.args.side) now.plan (map (λ t. t.now) c.args.layers.now) (map (λ t. t.now) now.layers.now) c.by_borders_alone.result same.0 same.1
    (ap (λ (ts : List (Bor (List ℕ))). map (λ t. t.now) ts) same.2) c.by_borders_alone.ensures.answer
