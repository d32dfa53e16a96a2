use Rattle.std.proofs.Common.{map}
use Rattle.program.proofs.Loading.{next_loaded, next_not_loaded}
use Rattle.program.proofs.faces_program.load_all.Goals as goal

pub returns-in-Err : goal.returns-in-Err
returns-in-Err g c =
    next_not_loaded (g.F.Files.loads c.args.longest) c.args.files.now c.loop-number.files c.load_next.new.files c.args.names.now c.loop-number.number _ (map (λ t. t.items) c.loop-number.texts.items) c.in-Err.fault
    c.loop-number-test.true c.loop-number.invariant c.in-Err.ensures

pub loop-number-preserved : goal.loop-number-preserved
loop-number-preserved g c =
    next_loaded (g.F.Files.loads c.args.longest) c.args.files.now c.loop-number.files c.load_next.new.files c.args.names.now c.loop-number.number _ (map (λ t. t.items) c.loop-number.texts.items)
    (map (λ t. t.items) c.load_next.new.texts.items) c.loop-number-test.true c.loop-number.invariant c.in_default.ensures
