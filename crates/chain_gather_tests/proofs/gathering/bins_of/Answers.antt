use Rattle.std.specs.Prelude.{Result, Ok, Err, IfOk}
use Rattle.chain_gather_tests.proofs.gathering.bins_of.Goals as goal

if_ok_both : {T E : Type 0} (r : Result T E) (P Q R : T → Type 0) → IfOk r P → IfOk r Q → ((x : T) → P x → Q x → R x) → IfOk r R
if_ok_both (Ok x) P Q R p q f = f x p q
if_ok_both (Err e) P Q R p q f = tt

pub returns : goal.returns
returns g c = if_ok_both c.build.result _ _ _ c.build.ensures.grid c.build.ensures.items (λ bins e i. record { grid_is = e; boxes = c.in_ok-boxes.boxes; are_boxes = c.in_ok-boxes.ensures; indexed = i })
