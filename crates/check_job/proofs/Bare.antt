-- What a store has of its records in memory, without their bodies, is reported as they are.
use Rattle.std.proofs.Common.{◌≡◌, ◌∙◌, ◌+◌, ◌++◌, ◌≤◌, ◌<◌, ℕ, Bool, true, false, List, [], ◌∷◌, length, codes, cond, refl, sym, ap, arith, length-append}
use Rattle.std.specs.Prelude.{nat_lt, if◌then◌else◌}
use Rattle.std.specs.Str.{bytes_eq}
use Rattle.std.proofs.lemmas.Bool.Decides.{nat_tests}
use Rattle.std.proofs.lemmas.List.Sums.{sum_by-cons}
use Rattle.xt_base.specs.Faults.{counted}
use Rattle.xt_base.specs.declared.ids.Boot.{Boot}
use Rattle.xt_fields.specs.BasicFields.{byte_bytes, long_bytes}
use Rattle.xt_fields.proofs.BasicLaws.{long-length}
use Rattle.xt_messages.specs.declared.record.Record.{Record}
use Rattle.xt_messages.specs.declared.record.Record.TheVariants as kept
use Rattle.xt_messages.specs.declared.status.Status.{Status}
use Rattle.xt_messages.specs.declared.status.Status.TheVariants as status
use Rattle.replica_records.proofs.BodyLaws.{unseen}
use Rattle.object_store.specs.Bare.{bare, bare_of}
use Rattle.replica_records.specs.RecordText.{record_text}
use Rattle.store_loading.specs.Boots.{next_boot}
use Rattle.store_loading.proofs.Bare.{stored_bare}
use Rattle.check_job.specs.Reports.{kind_word, count_of, counted_line, kind_lines, line_text, replica_kinds, request_kinds, old_kinds, report_lines, need_at, status_at}

kind_same : (rec : Record) → kind_word (bare rec) ≡ kind_word rec
kind_same =
    unseen (λ r s. kind_word r ≡ kind_word s) (λ file update body. refl) (λ file object version bytes body. refl)
    (λ file update body. refl) (λ file object version bytes body. refl) (λ r. refl) []

abbrev is_of : List ℕ → Record → ℕ
is_of word rec = cond (bytes_eq (kind_word rec) word) 1 0

count_same : (word : List ℕ) (records : List Record) → count_of word (bare_of records) ≡ count_of word records
count_same word [] = refl
count_same word (rec ∷ records) =
    sum_by-cons (is_of word) (bare rec) (bare_of records)
    ∙ ap (λ (w : List ℕ). cond (bytes_eq w word) 1 0 + count_of word (bare_of records)) (kind_same rec)
    ∙ ap (λ (n : ℕ). is_of word rec + n) (count_same word records)
    ∙ sym (sum_by-cons (is_of word) rec records)

lines_same : (records : List Record) (words : List (List ℕ)) → kind_lines (bare_of records) words ≡ kind_lines records words
lines_same records [] = refl
lines_same records (word ∷ words) = λ i. counted_line word (count_same word records i) ++ lines_same records words i

pub report_same : (records : List Record) (long limit compacted : ℕ) → report_lines (bare_of records) long limit compacted ≡ report_lines records long limit compacted
report_same records long limit compacted = λ i.
    line_text (codes "boot") (stored_bare records i)
    ++ lines_same records replica_kinds i
    ++ lines_same records request_kinds i
    ++ lines_same records old_kinds i
    ++ line_text (codes "length") long
    ++ line_text (codes "limit") limit
    ++ line_text (codes "compacted") compacted

-- ---- the record of the next boot

pub boot_length : (boot : Boot) → length (record_text (kept.Boot boot)) ≡ 9
boot_length boot = length-append (byte_bytes 1) (long_bytes boot.0) ∙ ap (λ (n : ℕ). 1 + n) (long-length boot.0)

abbrev pub status_by : ℕ → ℕ → Status
status_by need limit = if nat_lt limit need then status.JournalFull need limit else status.Done

pub need_is : (records : List Record) (long : ℕ) → need_at records long ≡ counted (long + 14)
need_is records long = ap (λ (n : ℕ). counted (long + (5 + n))) (boot_length (next_boot records))

pub status_is : (records : List Record) (long limit : ℕ) → status_at records long limit ≡ status_by (counted (long + 14)) limit
status_is records long limit = ap (λ (need : ℕ). status_by need limit) (need_is records long)

pub status_same : (records : List Record) (long limit : ℕ) → status_at (bare_of records) long limit ≡ status_at records long limit
status_same records long limit = status_is (bare_of records) long limit ∙ sym (status_is records long limit)

full_case : (need limit : ℕ) (b : Bool) → nat_lt limit need ≡ b → limit < need → status.JournalFull need limit ≡ cond b (status.JournalFull need limit) status.Done
full_case need limit true is over = refl
full_case need limit false is over = absurd (grind (arith, nat_tests))

room_case : (need limit : ℕ) (b : Bool) → nat_lt limit need ≡ b → need ≤ limit → status.Done ≡ cond b (status.JournalFull need limit) status.Done
room_case need limit false is under = refl
room_case need limit true is under = absurd (grind (arith, nat_tests))

pub is_full : (records : List Record) (long limit need : ℕ) → need ≡ counted (long + 14) → limit < need → status.JournalFull need limit ≡ status_at records long limit
is_full records long limit need is over = full_case need limit (nat_lt limit need) refl over ∙ ap (λ (n : ℕ). status_by n limit) is ∙ sym (status_is records long limit)

pub has_room : (records : List Record) (long limit need : ℕ) → need ≡ counted (long + 14) → need ≤ limit → status.Done ≡ status_at records long limit
has_room records long limit need is under = room_case need limit (nat_lt limit need) refl under ∙ ap (λ (n : ℕ). status_by n limit) is ∙ sym (status_is records long limit)
