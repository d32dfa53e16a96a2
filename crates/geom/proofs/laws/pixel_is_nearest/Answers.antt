use Rattle.geom.proofs.Meaning.{pixel_is_nearest, pixel_of_any_fraction, pixel_of_grid_point}
use Rattle.geom.proofs.laws.pixel_is_nearest.Goals as goal

pub returns-clause-nearest : goal.returns-clause-nearest
returns-clause-nearest c = pixel_is_nearest

pub returns-clause-of_any_fraction : goal.returns-clause-of_any_fraction
returns-clause-of_any_fraction c = pixel_of_any_fraction

pub returns-clause-of_grid_point : goal.returns-clause-of_grid_point
returns-clause-of_grid_point c = pixel_of_grid_point
