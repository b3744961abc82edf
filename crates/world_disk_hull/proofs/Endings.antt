-- what is so of a call, by how it ends
use Rattle.std.proofs.Common.{Result, Ok, Err, IfOk, OnOk, OnErr}

pub both_ok : {T E : Type 0} (P : T → Type 0) (Q : Type 0) (R : T → Type 0) (result : Result T E) → IfOk result P → OnOk result Q
    → ((value : T) → P value → Q → R value) → IfOk result R
both_ok P Q R (Ok value) is also then = then value is also
both_ok P Q R (Err error) is also then = tt

pub then_err : {T E : Type 0} (P Q : Type 0) (result : Result T E) → OnErr result P → (P → Q) → OnErr result Q
then_err P Q (Ok value) is then = tt
then_err P Q (Err error) is then = then is
