-- what a scrub finds of each body: one item after the other
use Rattle.std.specs.Prelude.{ℕ, Bool, true, false, if◌then◌else◌, Option, Some, None, List, [], ◌∷◌, ◌++◌, map}
use Rattle.std.specs.Str.{bytes_eq}
use Rattle.sha2.specs.Sha256.{sha256}
use Rattle.xt_messages.specs.declared.record.Record.{Record}
use Rattle.xt_messages.specs.declared.record.Record.TheVariants as kept
use Rattle.xt_protocol.specs.SeenBodies.{body_by}
use Rattle.scrub.specs.declared.listing.Item.{Item}
use Rattle.scrub.specs.declared.found.Found.{Found}
use Rattle.scrub.specs.declared.found.Found.TheVariants as found

-- New with the digest where none was kept, Good where it is the one that was kept, else Damaged
abbrev pub found_by : Option (List ℕ) → List ℕ → Found
found_by None digest = found.New digest
found_by (Some seal) digest = if bytes_eq digest seal then found.Good else found.Damaged

-- what is found of an item whose body is these bytes
abbrev pub found_of : Item → List ℕ → Found
found_of item bytes = found_by item.seal (sha256 bytes)

-- the body of an item, as these records keep it
abbrev pub body_of_item : List Record → Item → List ℕ
body_of_item records item = body_by records item.file item.object item.version

-- What a scrub of these items finds, whose bodies these records keep: of one item after the other.
abbrev pub report_of : List Record → List Item → List Found
report_of records items = map (λ item. found_of item (body_of_item records item)) items

-- ---- how many of each

abbrev pub is_new : Found → Bool
is_new (found.New digest) = true
is_new found.Good = false
is_new found.Damaged = false

abbrev pub is_good : Found → Bool
is_good (found.New digest) = false
is_good found.Good = true
is_good found.Damaged = false

abbrev pub is_damaged : Found → Bool
is_damaged (found.New digest) = false
is_damaged found.Good = false
is_damaged found.Damaged = true

-- ---- what is kept of it

-- the digest of a body of which none was kept
abbrev pub seals_for : Item → Found → List Record
seals_for item (found.New digest) = kept.Seal item.file item.object item.version digest ∷ []
seals_for item found.Good = []
seals_for item found.Damaged = []

-- those of items of which this is the report, in order
abbrev pub seals_of : List Item → List Found → List Record
seals_of [] report = []
seals_of (item ∷ items) [] = []
seals_of (item ∷ items) (found ∷ report) = seals_for item found ++ seals_of items report

-- whether the digest of these bytes is the one that was kept
abbrev pub is_sealed_by : Option (List ℕ) → List ℕ → Bool
is_sealed_by None bytes = false
is_sealed_by (Some seal) bytes = bytes_eq (sha256 bytes) seal

-- The record that puts these bytes in place of a damaged body, exactly when their digest is the one that was kept.
abbrev pub mend_of : Item → List ℕ → Option Record
mend_of item bytes = if is_sealed_by item.seal bytes then Some (kept.Stage item.file item.object item.version bytes) else None
