use Rattle.edge_test.proofs.Alike.{told}
use Rattle.edge_test.proofs.tested.fault_of.Goals as goal

pub returns-in-NotNoded : goal.returns-in-NotNoded
returns-in-NotNoded c = λ edges h. told edges c.args.fault c.in-NotNoded.e c.in-NotNoded.f h c.in-NotNoded.is
