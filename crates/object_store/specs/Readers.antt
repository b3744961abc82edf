-- What somebody knows of a store who has read some bodies of it.
use Rattle.std.specs.Prelude.{ℕ, ◌≡◌, ◌≢◌, ◌==◌, if◌then◌else◌, Bool, true, false, IsTrue, Option, Some, None, List, length, map}
use Rattle.std.specs.Option.{option_map}
use Rattle.std.specs.List.{All, fold}
use Rattle.std.proofs.Props.{props}
use Rattle.xt_base.specs.FieldLimits.{AreBytes}
use Rattle.xt_messages.specs.declared.record.Record.{Record}
use Rattle.xt_protocol.specs.Folds.{body_put, body_kept}
use Rattle.replica_records.specs.Known.{Sees}
use Rattle.replica_records.specs.declared.places.BodyKey.{BodyKey}
use Rattle.object_store.specs.declared.read_body.ReadBody.{ReadBody}
use Rattle.object_store.specs.Bare.{with_body}
use Rattle.object_store.specs.FitProps.{all_fit_prop}

-- what these records keep as that body
abbrev pub kept_as : List Record → BodyKey → Option (List ℕ)
kept_as records key = body_kept records key.file key.object key.version

-- they keep a body as it was read
abbrev pub IsKeptIn : List Record → ReadBody → Type 0
IsKeptIn records read = kept_as records read.key ≡ Some read.bytes

-- These records agree with what was read: this much is known of them, and they keep each body as it was read.
pub record Agrees (told : Bool) (known : List Record) (read : List ReadBody) (records : List Record) : Type 0 where
  pub sees : Sees told known records
  pub keeps : All (IsKeptIn records) read

-- Bytes that may be read as a body that wasn't read yet: as many as it has, and that very body where contracts know it.
pub record MayBeRead (told : Bool) (known : List Record) (read : List ReadBody) (key : BodyKey) (bytes : List ℕ) : Type 0 where
  pub fresh : All (λ r. r.key ≢ key) read
  pub size : option_map length (kept_as known key) ≡ Some (length bytes)
  pub value : IsTrue told → kept_as known key ≡ Some bytes
  pub all : AreBytes bytes

-- ---- records that agree

-- bytes in place of others of the same number
abbrev pub over : List ℕ → Record → Option (List ℕ) → Record
over bytes rec None = rec
over bytes rec (Some old) = if length old == length bytes then with_body bytes rec else rec

-- a record with the body that was read, if it puts that one and with as many bytes
abbrev pub with_read : ReadBody → Record → Record
with_read read rec = over read.bytes rec (body_put read.key.file read.key.object read.key.version rec)

abbrev pub all_with_read : List Record → ReadBody → List Record
all_with_read records read = map (with_read read) records

-- Those that are known, where that is all of them; else those that are known with the bodies that were read.
abbrev pub seen_of : Bool → List Record → List ReadBody → List Record
seen_of true known read = known
seen_of false known read = fold all_with_read known read

sees_prop : (told : Bool) (known records : List Record) → IsProp (Sees told known records)
sees_prop told known records = hlevel (props, all_fit_prop)

pub agrees_prop : (told : Bool) (known : List Record) (read : List ReadBody) (records : List Record) → IsProp (Agrees told known read records)
agrees_prop told known read records = hlevel (props, sees_prop)
