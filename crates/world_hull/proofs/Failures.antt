-- what holds of a call that fails
use Rattle.std.proofs.Common.{Result, Ok, Err, OnErr}

pub on_err : {T E : Type 0} (P : Type 0) (result : Result T E) → P → OnErr result P
on_err P (Ok value) is = tt
on_err P (Err error) is = is
