-- One feature over all edges is a layer.
use Rattle.std.proofs.Common.{sym, ◌∙◌}
use Rattle.cover_law.specs.Laws.{FeatureIsLayer}
use Rattle.cover_law.proofs.Owned.{owned, owned_even, owned_parity}
use Rattle.cover_law.proofs.Projected.{all_edges, chosen_parity, project, project_edges, project_layers}

pub feature_is_layer : FeatureIsLayer
feature_is_layer bs h f =
    let apart = (all_edges bs h).distinct in (
      project (owned f bs) bs,
      record {
        layers = project_layers (owned f bs) bs h (owned_even f bs apart (h.even f));
        edges_are = project_edges (owned f bs) bs;
        points = λ z. chosen_parity (owned f bs) bs z ∙ sym (owned_parity f bs apart z);
      },
    )
