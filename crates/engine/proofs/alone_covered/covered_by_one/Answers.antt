use Rattle.std.proofs.Common.{Bor, List, arith, length, map, subst, sym, ℕ, ◌<◌}
use Rattle.std.specs.List.{All}
use Rattle.std.proofs.lemmas.List.{length-map}
use Rattle.cover_law.specs.declared.border.Border.{Border}
use Rattle.cover_law.specs.Cover.{bordered}
use Rattle.engine.specs.CoveredResults.{IsCoveredText}
use Rattle.engine.specs.Faces.{AreBordersOver}
use Rattle.layers.specs.FeatureLayers.{AreCheckedLayers}
use Rattle.engine.proofs.CoveredWritten.{below_all, below_count, borders_over, covered_written, fs, size_each, tiles_few}
use Rattle.engine.proofs.alone_covered.covered_by_one.Goals as goal

pub index-requires : goal.index-requires
index-requires g c =
    let now = c.args.checked.now in
    let texts : List (List ℕ) = map (λ (t : Bor (List ℕ)). t.now) now.layers.now in
    let each = size_each now.limits.segments now.plan texts now.segments now.grid now.are_checked c.args.borders c.requires.borders in
    omega (arith, each, length-map now.layers.now (λ (t : Bor (List ℕ)). t.now), c.requires.two, c.args.borders.sizes.ok.0)

pub index-requires-2 : goal.index-requires-2
index-requires-2 g c =
    let now = c.args.checked.now in
    let texts : List (List ℕ) = map (λ (t : Bor (List ℕ)). t.now) now.layers.now in
    let each = size_each now.limits.segments now.plan texts now.segments now.grid now.are_checked c.args.borders c.requires.borders in
    omega (arith, each, length-map now.layers.now (λ (t : Bor (List ℕ)). t.now), c.requires.two, c.args.borders.sizes.ok.0)

pub covered_text_alone-requires-clause-borders : goal.covered_text_alone-requires-clause-borders
covered_text_alone-requires-clause-borders g c =
    let now = c.args.checked.now in
    rw (c.deref.ensures.value, c.deref-2.ensures.value) (borders_over now.limits.segments now.plan (map (λ t. t.now) now.layers.now) now.segments now.grid now.are_checked c.args.borders c.requires.borders)

pub covered_text_alone-requires-clause-below : goal.covered_text_alone-requires-clause-below
covered_text_alone-requires-clause-below g c =
    let now = c.args.checked.now in
    rw c.deref-2.ensures.value (below_all now.limits.segments now.plan (map (λ t. t.now) now.layers.now) now.segments now.grid now.are_checked c.args.borders c.requires.borders)

pub covered_report-requires : goal.covered_report-requires
covered_report-requires g c =
    let now = c.args.checked.now in
    tiles_few now.limits.segments now.plan (map (λ t. t.now) now.layers.now) now.segments now.grid now.are_checked c.args.borders c.requires.borders

pub returns-clause-answer : goal.returns-clause-answer
returns-clause-answer g c = λ a b e.
    let now = c.args.checked.now in
    let borders = c.args.borders in
    let op = c.args.op in
    let first = c.index.result.now in
    let text = c.in_ok-text.text.items in
    let known = subst (λ (ts : List (List ℕ)). ∥ AreCheckedLayers now.limits.segments now.plan ts now.segments now.grid ∥₁) e now.are_checked in
    let over = subst (λ (ts : List (List ℕ)). AreBordersOver ts now.grid borders) e c.requires.borders in
    let count = length (fs now.limits.segments op now.plan a b now.segments now.grid known borders over) in
    let below = below_count now.limits.segments op now.plan a b now.segments now.grid known borders over in
    let all = subst (λ (list : List ℕ). All (λ f. f < count) list) (sym c.deref-2.ensures.value) below in
    let told = c.in_ok-text.ensures count all in
    let is = subst (λ (bs : List Border). IsCoveredText op first.features count (map (bordered borders.rounded.features.items) bs) text) c.deref.ensures.value
    (subst (λ (list : List ℕ). IsCoveredText op first.features count (map (bordered list) c.deref.result.now) text) c.deref-2.ensures.value told) in
    let report = c.in_ok-report.ensures in
    covered_written now.limits.segments op now.plan a b now.segments now.grid known borders over first c.index-2.result.now text c.in_ok-report.report c.index.ensures c.index-2.ensures is
    report.layers report.edges report.tiles report.remade
