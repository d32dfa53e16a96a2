-- What is done with two layers, by how they are to be read.
use Rattle.std.proofs.Common.{◌≡◌, ℕ, List, Option, Some, None, subst, sym}
use Rattle.std.specs.Prelude.{MatchOption}
use Rattle.geom.specs.declared.op.Op.{Op}
use Rattle.results.specs.Sinks.{SinkState}
use Rattle.program.specs.CommandLine.{operation_covered, operation_measured}
use Rattle.program.specs.Program.{DoesByParity, DoesCovered, DoesMeasured, DoesOn, DoesUnmeasured}
use Rattle.program.specs.declared.asked.Request.{Request}

-- an operation on layers that are read as covered is asked for, and done
pub done_as_covered : {O E : Type 0} (out_state : O → SinkState) (err_state : E → SinkState) (out out' : O) (err err' : E) (request : Request) (a b : List ℕ) (op : Op) (status : ℕ)
    → operation_covered request.command request.covered ≡ Some op → DoesCovered out_state err_state out out' err err' request a b op status
    → DoesOn out_state err_state out out' err err' request a b status
done_as_covered out_state err_state out out' err err' request a b op status e done =
    subst (λ (o : Option Op). MatchOption o (DoesByParity out_state err_state out out' err err' request a b status)
    (λ op'. DoesCovered out_state err_state out out' err err' request a b op' status)) (sym e) done

-- none is asked for, and both layers are run by parity
pub done_by_parity : {O E : Type 0} (out_state : O → SinkState) (err_state : E → SinkState) (out out' : O) (err err' : E) (request : Request) (a b : List ℕ) (status : ℕ)
    → operation_covered request.command request.covered ≡ None → DoesByParity out_state err_state out out' err err' request a b status
    → DoesOn out_state err_state out out' err err' request a b status
done_by_parity out_state err_state out out' err err' request a b status e done =
    subst (λ (o : Option Op). MatchOption o (DoesByParity out_state err_state out out' err err' request a b status)
    (λ op'. DoesCovered out_state err_state out out' err err' request a b op' status)) (sym e) done

-- an operation is asked for with its areas, and done so
pub done_with_areas : {O E : Type 0} (out_state : O → SinkState) (err_state : E → SinkState) (out out' : O) (err err' : E) (request : Request) (a b : List ℕ) (op : Op) (status : ℕ)
    → operation_measured request.command request.areas ≡ Some op → DoesMeasured out_state err_state out out' err err' request a b op status
    → DoesByParity out_state err_state out out' err err' request a b status
done_with_areas out_state err_state out out' err err' request a b op status e done =
    subst (λ (o : Option Op). MatchOption o (DoesUnmeasured out_state err_state out out' err err' request a b status)
    (λ op'. DoesMeasured out_state err_state out out' err err' request a b op' status)) (sym e) done

-- no areas are asked for
pub done_without_areas : {O E : Type 0} (out_state : O → SinkState) (err_state : E → SinkState) (out out' : O) (err err' : E) (request : Request) (a b : List ℕ) (status : ℕ)
    → operation_measured request.command request.areas ≡ None → DoesUnmeasured out_state err_state out out' err err' request a b status
    → DoesByParity out_state err_state out out' err err' request a b status
done_without_areas out_state err_state out out' err err' request a b status e done =
    subst (λ (o : Option Op). MatchOption o (DoesUnmeasured out_state err_state out out' err err' request a b status)
    (λ op'. DoesMeasured out_state err_state out out' err err' request a b op' status)) (sym e) done
