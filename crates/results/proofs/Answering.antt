-- What answers tell, where both or all of what is known of them hold.
use Rattle.std.specs.Prelude.{Err, IfOk, Ok, Result}

pub if_both : {T E : Type 0} (r : Result T E) (P Q S : T → Type 0) → ((x : T) → P x → Q x → S x) → IfOk r P → IfOk r Q → IfOk r S
if_both (Ok x) P Q S f p q = f x p q
if_both (Err e) P Q S f p q = tt

pub if_five : {T E : Type 0} (r : Result T E) (P Q R S U V : T → Type 0) → ((x : T) → P x → Q x → R x → S x → U x → V x) → IfOk r P → IfOk r Q → IfOk r R → IfOk r S → IfOk r U → IfOk r V
if_five (Ok x) P Q R S U V f p q s t u = f x p q s t u
if_five (Err e) P Q R S U V f p q s t u = tt
