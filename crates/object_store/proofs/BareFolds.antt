-- What records say without their bodies is what they say.
use Rattle.std.proofs.Common.{◌≡◌, ℕ, Bool, true, false, List, [], ◌∷◌, length, replicate, refl, ap}
use Rattle.std.specs.List.{fold}
use Rattle.xt_messages.specs.declared.record.Folded.{Folded}
use Rattle.xt_messages.specs.declared.record.Record.{Record}
use Rattle.xt_protocol.specs.Folds.{boot_after, folded_after, nothing_kept, fold_of, logged_of}
use Rattle.replica_records.specs.Known.{known_of, without_body}
use Rattle.replica_records.specs.Bare.{body_in}
use Rattle.replica_records.proofs.BodyLaws.{boot_set, fold_map, folded_set, requests_of, set_set}
use Rattle.replica_records.proofs.Known.{known_told}
use Rattle.object_store.specs.Bare.{bare, bare_of}

-- any fold that doesn't look at bodies
pub fold_of_bare : {A : Type 0} (after : A → Record → A) → ((a : A) (rec : Record) → after a (bare rec) ≡ after a rec) → (a : A) (records : List Record)
    → fold after a (bare_of records) ≡ fold after a records
fold_of_bare after same a records = fold_map after bare same a records

pub folded_bare : (folded : Folded) (rec : Record) → folded_after folded (bare rec) ≡ folded_after folded rec
folded_bare folded rec = folded_set folded [] rec

pub fold_bare : (records : List Record) → fold_of (bare_of records) ≡ fold_of records
unfolding fold_of
fold_bare records = fold_of_bare folded_after folded_bare nothing_kept records

pub boot_bare : (boot : ℕ) (rec : Record) → boot_after boot (bare rec) ≡ boot_after boot rec
boot_bare boot rec = boot_set boot [] rec

pub logged_bare : (records : List Record) → logged_of (bare_of records) ≡ logged_of records
unfolding logged_of
logged_bare records = requests_of (λ rec. []) records

-- the bytes of bodies don't matter to it
bare_without : (rec : Record) → bare (without_body rec) ≡ bare rec
bare_without rec = set_set [] (replicate (length (body_in rec)) 0) rec

bare_of_without : (records : List Record) → bare_of (known_of false records) ≡ bare_of records
bare_of_without [] = refl
bare_of_without (r ∷ records) = λ i. bare_without r i ∷ bare_of_without records i

pub bare_of_known : (told : Bool) (records : List Record) → bare_of (known_of told records) ≡ bare_of records
bare_of_known true records = ap bare_of (known_told records)
bare_of_known false records = bare_of_without records
