-- how fields are read from left to right: a field is a value and the bytes after it, or the first fault
use Rattle.std.specs.Prelude.{◌≡◌, ◌≢◌, ℕ, Bool, List, Result, Ok, Err, if◌then◌else◌}
use Rattle.xt_fields.specs.declared.fault.FieldErr.{FieldErr}
use Rattle.xt_fields.specs.declared.fault.FieldErr.TheVariants as fault

-- what reads a field from the front of bytes
abbrev pub Field : Type 0 → Type 0
Field A = List ℕ → Result (A × List ℕ) FieldErr

infixl 10 ◌>>=◌
abbrev pub ◌>>=◌ : {A B : Type 0} → Result A FieldErr → (A → Result B FieldErr) → Result B FieldErr
(Ok x) >>= f = f x
(Err e) >>= f = Err e

-- one field and then another
infixl 30 ◌&◌
abbrev pub ◌&◌ : {A B : Type 0} → Field A → Field B → Field (A × B)
(a & b) bytes = do
  first ← a bytes
  second ← b first.1
  Ok ((first.0, second.0), second.1)

-- what is made of a field
abbrev pub made : {A B : Type 0} → (A → B) → Field A → Field B
made make field bytes = do
  read ← field bytes
  Ok (make read.0, read.1)

-- a field that passes a test
abbrev pub fit : {A : Type 0} → (A → Bool) → Field A → Field A
fit test field bytes = do
  read ← field bytes
  if test read.0 then Ok read else Err fault.Unfit

-- A call failed as reading does, unless memory ran out.
abbrev pub Fails : {Y : Type 0} → FieldErr → Result Y FieldErr → Type 0
Fails fault.OutOfMemory read = Unit {0}
Fails fault.Short read = read ≡ Err fault.Short
Fails fault.Over read = read ≡ Err fault.Over
Fails fault.NotText read = read ≡ Err fault.NotText
Fails fault.Unfit read = read ≡ Err fault.Unfit

-- What a call gave and the bytes that it left are what reading gives, unless memory ran out.
abbrev pub Gives : {A : Type 0} → Result A FieldErr → List ℕ → Result (A × List ℕ) FieldErr → Type 0
Gives (Ok x) left read = read ≡ Ok (x, left)
Gives (Err e) left read = Fails e read

-- The same of a call that leaves the bytes as they were where it fails.
abbrev pub Tries : {A : Type 0} → Result A FieldErr → List ℕ → List ℕ → Result (A × List ℕ) FieldErr → Type 0
Tries (Ok x) bytes left read = read ≡ Ok (x, left)
Tries (Err e) bytes left read = Fails e read × (left ≡ bytes)

-- The same of a call that never runs out of memory.
abbrev pub Takes : {A : Type 0} → Result A FieldErr → List ℕ → List ℕ → Result (A × List ℕ) FieldErr → Type 0
Takes (Ok x) bytes left read = read ≡ Ok (x, left)
Takes (Err e) bytes left read = (read ≡ Err e) × (left ≡ bytes) × (e ≢ fault.OutOfMemory)
