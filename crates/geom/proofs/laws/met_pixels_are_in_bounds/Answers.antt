use Rattle.geom.proofs.Meaning.{met_pixels_are_in_bounds}
use Rattle.geom.proofs.laws.met_pixels_are_in_bounds.Goals as goal

pub returns : goal.returns
returns c = met_pixels_are_in_bounds
