use Rattle.std.proofs.Common.{refl, length}
use Rattle.std.proofs.lemmas.Option.{slice_get_read}
use Rattle.routing.proofs.record.record_at.Goals as goal

pub returns : goal.returns
returns c =
    let segments = c.args.segments.now in
    let s = c.index-segments-number.result in
    record {
      s = s;
      is_at = slice_get_read segments (length segments) c.args.number s refl c.requires.number_in c.index-segments-number.is;
      numbered = refl;
      steps_are = c.steps_to-steps.ensures;
      pixel_is = refl;
    }
