-- The points of the features of an accepted text are in the limit.
use Rattle.std.proofs.Common.{List, [], ◌∷◌, ◌++◌, ℕ}
use Rattle.std.specs.Prelude.{All}
use Rattle.std.specs.List.{AllByRecursion}
use Rattle.geom.specs.declared.point.Pt.{Pt}
use Rattle.geom.specs.Limit.{InLimit}
use Rattle.wkt.specs.Features.{StandsForFeatures, all_rings}
use Rattle.wkt.proofs.Cuts.{stands_joined}
use Rattle.wkt.proofs.Inside.{all_of, of_all, stands_in}

abbrev IsIn : List Pt → Type 0
IsIn ring = All InLimit ring

front : (f rest : List (List Pt)) → AllByRecursion IsIn (f ++ rest) → AllByRecursion IsIn f
front [] rest h = tt
front (r ∷ f) rest h = (h.0, front f rest h.1)

behind : (f rest : List (List Pt)) → AllByRecursion IsIn (f ++ rest) → AllByRecursion IsIn rest
behind [] rest h = h
behind (r ∷ f) rest h = behind f rest h.1

apart : (fs : List (List (List Pt))) → AllByRecursion IsIn (all_rings fs) → AllByRecursion (λ f. All IsIn f) fs
apart [] h = tt
apart (f ∷ fs) h = (all_of IsIn f (front f (all_rings fs) h), apart fs (behind f (all_rings fs) h))

pub features_in : (text : List ℕ) (features : List (List (List Pt))) → StandsForFeatures text features → All (λ f. All IsIn f) features
features_in text features h = all_of (λ f. All IsIn f) features (apart features (of_all IsIn (all_rings features) (stands_in text (all_rings features) (stands_joined text features h))))
