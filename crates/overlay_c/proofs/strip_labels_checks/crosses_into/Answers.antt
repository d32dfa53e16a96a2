use Rattle.std.proofs.Common.{◌≡◌, ◌<◌, ◌≤◌, ◌∙◌, ℕ, ap, subst, sym}
use Rattle.std.proofs.lemmas.Bool.{cases_from_iff, le-leb, leb-true}
use Rattle.geom.specs.declared.point.Pt.{Pt}
use Rattle.strips_law.specs.Strips.{strip_at}
use Rattle.overlay_c.specs.Strips.{counted_end, counted_start}
use Rattle.overlay_c.specs.StripLabels.{CrossesInto}
use Rattle.overlay_c.proofs.strip_labels_checks.crosses_into.Goals as goal

pub returns-then-strip_at-strip : goal.returns-then-strip_at-strip
returns-then-strip_at-strip c =
    let cuts = c.args.cuts.now in
    let strip = c.args.strip in
    let first : c.strip_at.result ≡ strip_at cuts (counted_start c.args.item) = c.strip_at.ensures.value ∙ ap (λ (p : Pt). strip_at cuts p) c.start.ensures in
    let last : c.strip_at-then-strip_at-strip.result ≡ strip_at cuts (counted_end c.args.item) = c.strip_at-then-strip_at-strip.ensures.value ∙ ap (λ (p : Pt). strip_at cuts p) c.end.ensures in
    cases_from_iff {P = CrossesInto cuts strip c.args.item} (
      λ e. record {
        begins = subst (λ (n : ℕ). n < strip) first c.if-strip_at-strip.true;
        ends = subst (λ (n : ℕ). strip ≤ n) last (leb-true strip c.strip_at-then-strip_at-strip.result e);
      },
      λ w. le-leb strip c.strip_at-then-strip_at-strip.result (subst (λ (n : ℕ). strip ≤ n) (sym last) w.ends),
    )
