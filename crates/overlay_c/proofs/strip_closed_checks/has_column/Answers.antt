use Rattle.std.proofs.Common.{◌<◌, ◌≤◌, ℕ, subst, sym}
use Rattle.std.proofs.lemmas.Bool.{cases_from_iff, le-leb, leb-true}
use Rattle.parts_law.specs.Ties.{HasColumn}
use Rattle.overlay_c.proofs.StripClosed.{column_tells, runs_along}
use Rattle.overlay_c.proofs.strip_closed_checks.has_column.Goals as goal

pub returns-then-strip_at-past : goal.returns-then-strip_at-past
returns-then-strip_at-past c =
    let cuts = c.args.cuts.now in
    let first = c.args.first in
    let past = c.args.past in
    let edge = c.args.edge in
    let along = c.in-Some.along in
    cases_from_iff {P = HasColumn cuts first past edge} (
      λ e. record {
        edge = along;
        runs = runs_along edge along c.in-Some.ensures;
        begins = subst (λ (n : ℕ). n < past) c.strip_at.ensures.value c.if-strip_at-past.true;
        ends = subst (λ (n : ℕ). first ≤ n) c.strip_at-then-strip_at-past.ensures.value (leb-true first c.strip_at-then-strip_at-past.result e);
      },
      λ h. le-leb first c.strip_at-then-strip_at-past.result (subst (λ (n : ℕ). first ≤ n) (sym c.strip_at-then-strip_at-past.ensures.value) (column_tells cuts first past edge along c.in-Some.ensures h).1),
    )
