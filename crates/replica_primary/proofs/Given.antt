-- what is passed on of a call's result
use Rattle.std.proofs.Common.{Result, Ok, Err}
use Rattle.std.specs.Result.{IfOk, OnOk}

pub if_so : {A E : Type 0} (P Q : A → Type 0) (r : Result A E) → IfOk r P → ((a : A) → P a → Q a) → IfOk r Q
if_so P Q (Ok a) of all = all a of
if_so P Q (Err e) of all = of

pub on_so : {A E : Type 0} (P : A → Type 0) (Q : Type 0) (r : Result A E) → IfOk r P → ((a : A) → P a → Q) → OnOk r Q
on_so P Q (Ok a) of all = all a of
on_so P Q (Err e) of all = of
