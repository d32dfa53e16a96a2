use Rattle.std.proofs.Common.{◌≡◌, Some, None, arith}
use Rattle.std.specs.Str.Parse.{ParsesUnsigned, ExplainsUnsignedError, HasUnsignedDigitsIfOk}
use Rattle.clap.specs.Words.{found_of, without_minus}
use Rattle.clap.proofs.CallerReads.{signed_reads}
use Rattle.program.proofs.Reading.{number_read}
use Rattle.program.proofs.cli.number_held.Goals as goal

pub returns : goal.returns
returns c =
    number_read (λ bs r. ParsesUnsigned 32 10 bs r × ExplainsUnsignedError 10 bs r × HasUnsignedDigitsIfOk bs r)
    (found_of c.args.matches.now) c.args.id.now (Some c.in-Some.number) (λ t x h. h.0) c.in-Some.ensures.none c.in-Some.ensures.value

pub unreachable-requires : goal.unreachable-requires
unreachable-requires c =
    let h = c.requires in
    let got = signed_reads _ (λ bs r. ParsesUnsigned 32 10 bs r × ExplainsUnsignedError 10 bs r × HasUnsignedDigitsIfOk bs r) 32 h.0 4294967295 h.1 None
    (c.in-None.ensures.value (without_minus h.1) h.2) (λ u x g. g.0) (omega arith) h.3 in
    let bad : None ≡ Some got.0 = got.1 in
    cc
