use Rattle.edge_lines.proofs.Reading.{bad_line, next_line}
use Rattle.edge_lines.proofs.text.edges_of.Goals as goal

pub returns-in-Err : goal.returns-in-Err
returns-in-Err g c = bad_line c.args.lines.now c.loop-i.i _ c.loop-i.edges.items c.in-Err.fault c.loop-i-test.true c.loop-i.invariant c.in-Err.ensures

pub loop-i-preserved : goal.loop-i-preserved
loop-i-preserved g c = next_line c.args.lines.now c.loop-i.i _ c.loop-i.edges.items c.add_line.new.edges.items c.loop-i-test.true c.loop-i.invariant c.in_default.ensures
