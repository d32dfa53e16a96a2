use Rattle.std.proofs.Common.{refl, List, [], ◌∷◌}
use Rattle.std.proofs.Math.IntN.{pos, negsuc}
use Rattle.std.proofs.lemmas.Result.{IfOk-weaker}
use Rattle.geom.specs.declared.point.Pt.{Pt}
use Rattle.points_law.specs.Law.{AreLayers}
use Rattle.phases_tests.proofs.Triangles.{layers, limited}
use Rattle.phases_tests.proofs.labelled.rounded.Goals as goal

-- the triangles, the first one with its spike
abbrev first : List Pt
first = record { x = pos 0; y = pos 0 } ∷ record { x = pos 9; y = pos 1 } ∷ record { x = pos 12; y = pos 1 } ∷ record { x = pos 9; y = pos 1 } ∷ record { x = pos 4; y = pos 8 } ∷ []

abbrev second : List Pt
second = record { x = pos 3; y = negsuc 1 } ∷ record { x = pos 8; y = pos 6 } ∷ record { x = pos 1; y = pos 5 } ∷ []

pub edges_in_strips-requires-clause-limits : goal.edges_in_strips-requires-clause-limits
edges_in_strips-requires-clause-limits c = limited (_ ∷ _ ∷ _ ∷ _ ∷ _ ∷ _ ∷ _ ∷ _ ∷ []) refl

pub returns : goal.returns
returns c = IfOk-weaker c.edges_in_strips.result _ (λ v. AreLayers v.items) (λ v r. layers (first ∷ []) (second ∷ []) _ v.items refl refl r) c.edges_in_strips.ensures
