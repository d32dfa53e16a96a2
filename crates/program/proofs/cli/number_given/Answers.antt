use Rattle.std.specs.Str.Parse.{ParsesUnsigned, ExplainsUnsignedError, HasUnsignedDigitsIfOk}
use Rattle.clap.specs.Words.{found_of}
use Rattle.program.proofs.Reading.{number_given_read}
use Rattle.program.proofs.cli.number_given.Goals as goal

pub returns : goal.returns
returns c =
    number_given_read (λ bs r. ParsesUnsigned 32 10 bs r × ExplainsUnsignedError 10 bs r × HasUnsignedDigitsIfOk bs r)
    (found_of c.args.matches.now) c.args.id.now c.get_one.result (λ t x h. h.0) c.get_one.ensures.none c.get_one.ensures.value c.requires
