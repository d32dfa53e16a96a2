use Rattle.std.proofs.Common.{◌∙◌, ℕ, List, ap, map}
use Rattle.std.specs.Prelude.{sum_by}
use Rattle.linking.specs.declared.rounded.TileNumbers.{TileNumbers}
use Rattle.engine.proofs.covered_run.covered_report.Goals as goal

pub returns-clause-tiles : goal.returns-clause-tiles
returns-clause-tiles g c = record {
  told_is = c.in_ok-tiles.ensures ∙ ap (λ (ts : List TileNumbers). map {B = ℕ × ℕ} (λ t. (t.hot, t.records)) ts) c.deref.ensures.value;
  hot_is = c.all_hot.ensures ∙ ap (λ (ts : List TileNumbers). sum_by (λ t. t.hot) ts) c.deref-2.ensures.value;
  records_is = c.all_records.ensures ∙ ap (λ (ts : List TileNumbers). sum_by (λ t. t.records) ts) c.deref-3.ensures.value;
}
