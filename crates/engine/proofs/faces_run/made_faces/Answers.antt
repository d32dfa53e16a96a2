use Rattle.std.proofs.Common.{Bor, List, ap, map, rules, subst, sym, ℕ}
use Rattle.std.proofs.lemmas.Result.{err_from_is_err_and}
use Rattle.layers.specs.FeatureLayers.{HaveKept}
use Rattle.layers.specs.Refusals.{IsPlan}
use Rattle.engine.proofs.FacesRunning.{checked_ends, memory_declines, plan_declines, refused_declines}
use Rattle.layers.proofs.LayersRefused.{layer_refused}
use Rattle.engine.proofs.faces_run.made_faces.Goals as goal

pub returns-in-Some : goal.returns-in-Some
returns-in-Some g c = plan_declines c.args.limits c.args.plan (map (λ t. t.now) c.args.layers.now) c.of_run.result c.in-Some.fault c.of_run.ensures.at c.of_run.ensures.refusal c.in-Some.ensures

pub returns-in_err-read : goal.returns-in_err-read
returns-in_err-read g c =
    let p = err_from_is_err_and c.from_residual.result c.from_residual.ensures.1 in
    let f = c.in_err-read.field-0.0 in
    let texts = map (λ t. t.now) c.args.layers.now in
    let planned : IsPlan c.args.plan = search rules in
    rw (p.1, p.2) (refused_declines c.args.limits c.args.plan texts f.at f.refusal (layer_refused c.args.limits c.args.plan texts f planned c.in_err-read.ensures))

pub returns-in-Err : goal.returns-in-Err
returns-in-Err g c =
    let f = c.in-Err.fault in
    refused_declines c.args.limits c.args.plan (map (λ t. t.now) c.args.layers.now) f.at f.refusal c.in-Err.ensures.answer

pub returns-in_err-borders : goal.returns-in_err-borders
returns-in_err-borders g c =
    let p = err_from_is_err_and c.from_residual-in_err-borders.result c.from_residual-in_err-borders.ensures.1 in
    let f = c.in_err-borders.field-0.0 in
    rw (p.1, p.2) (memory_declines c.args.limits c.args.plan (map (λ t. t.now) c.args.layers.now) f.at f.refusal c.in-Ok.ensures.answer c.in_err-borders.ensures)

pub face_borders-requires-after_bounds : goal.face_borders-requires-after_bounds
face_borders-requires-after_bounds g c κs within =
    subst (λ (ts : List (Bor (List ℕ))). HaveKept (map (λ t. t.now) ts) c.in_ok-read.read.kept) (sym c.in-Ok.ensures.same.2) c.in_ok-read.ensures.kept

pub returns : goal.returns
returns g c =
    let now = c.in-Ok.checked in
    let same = c.in-Ok.ensures.same in
    checked_ends (λ m. m.text) (λ m. m.report) c.args.limits now.limits c.args.plan now.plan (map (λ t. t.now) c.args.layers.now) (map (λ t. t.now) now.layers.now) c.by_borders.result same.0 same.1
    (ap (λ (ts : List (Bor (List ℕ))). map (λ t. t.now) ts) same.2) c.by_borders.ensures
