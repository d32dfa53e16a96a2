use Rattle.std.proofs.Common.{rules, Fits, w64}
use Rattle.box_lanes.proofs.PlaceLaws.{first_place, rest_places, rest_fewer}
use Rattle.box_lanes.proofs.places.split_first.Goals as goal

pub returns-clause-first : goal.returns-clause-first
returns-clause-first c = let f : Fits w64 c.args.places = search rules in first_place c.args.places c.requires f.fits

pub returns-clause-others : goal.returns-clause-others
returns-clause-others c = let f : Fits w64 c.args.places = search rules in rest_places c.args.places c.requires f.fits

pub returns-clause-fewer : goal.returns-clause-fewer
returns-clause-fewer c = let f : Fits w64 c.args.places = search rules in rest_fewer c.args.places c.requires f.fits
