-- what is put of the records of a store
use Rattle.std.specs.Prelude.{ℕ, ◌+◌, ◌==◌, nat_lt, if◌then◌else◌, List, [], ◌∷◌, ◌++◌, length, codes}
use Rattle.std.specs.List.{count_by, flat_map}
use Rattle.std.specs.Fmt.{decimal}
use Rattle.std.specs.Str.{bytes_eq}
use Rattle.xt_base.specs.Faults.{counted}
use Rattle.xt_messages.specs.declared.record.Record.{Record}
use Rattle.xt_messages.specs.declared.record.Record.TheVariants as kept
use Rattle.xt_messages.specs.declared.status.Status.{Status}
use Rattle.xt_messages.specs.declared.status.Status.TheVariants as status
use Rattle.xt_protocol.specs.Folds.{fold_of}
use Rattle.xt_protocol.specs.Forgetting.{rewritten}
use Rattle.replica_records.specs.Heads.{heads_of}
use Rattle.replica_records.specs.RecordText.{record_text}
use Rattle.object_store.specs.declared.copied.Copied.{Copied}
use Rattle.object_store.specs.Swaps.{size_of}
use Rattle.object_store.specs.Swapping.{before_body}
use Rattle.store_loading.specs.Boots.{stored_boot, boot_record}

-- ---- records by kind

-- the word for a record's kind
abbrev pub kind_word : Record → List ℕ
kind_word (kept.Boot boot) = codes "boot"
kind_word (kept.Promise file epoch) = codes "promise"
kind_word (kept.Update file update) = codes "update"
kind_word (kept.Stage file object version bytes) = codes "stage"
kind_word (kept.Head file head) = codes "head"
kind_word (kept.View file location) = codes "view"
kind_word (kept.Meta from number now nodes request) = codes "meta"
kind_word (kept.Close file version) = codes "close"
kind_word (kept.Install file location head) = codes "install"
kind_word (kept.Choice file location head source) = codes "choice"
kind_word (kept.Listed file version) = codes "listed"
kind_word (kept.Seal file object version digest) = codes "seal"
kind_word (kept.Forget file) = codes "forget"
kind_word (kept.OldUpdate file update) = codes "oldupdate"
kind_word (kept.OldStage file object version bytes) = codes "oldstage"
kind_word (kept.OldHead file head) = codes "oldhead"
kind_word (kept.OldInstall file location head) = codes "oldinstall"
kind_word (kept.OldChoice file location head source) = codes "oldchoice"

abbrev pub replica_kinds : List (List ℕ)
replica_kinds = codes "boot" ∷ codes "promise" ∷ codes "update" ∷ codes "stage" ∷ codes "head" ∷ codes "view" ∷ []

abbrev pub request_kinds : List (List ℕ)
request_kinds = codes "meta" ∷ codes "close" ∷ codes "install" ∷ codes "choice" ∷ codes "listed" ∷ codes "seal" ∷ codes "forget" ∷ []

abbrev pub old_kinds : List (List ℕ)
old_kinds = codes "oldupdate" ∷ codes "oldstage" ∷ codes "oldhead" ∷ codes "oldinstall" ∷ codes "oldchoice" ∷ []

-- how many records are of the kind with this word
abbrev pub count_of : List ℕ → List Record → ℕ
count_of word records = count_by (λ rec. bytes_eq (kind_word rec) word) records

-- ---- lines

abbrev pub line_text : List ℕ → ℕ → List ℕ
line_text word number = word ++ 32 ∷ decimal number ++ 10 ∷ []

-- a kind of which there is no record has no line
abbrev pub counted_line : List ℕ → ℕ → List ℕ
counted_line word count = if count == 0 then [] else codes "record " ++ line_text word count

abbrev pub kind_lines : List Record → List (List ℕ) → List ℕ
kind_lines records words = flat_map (λ word. counted_line word (count_of word records)) words

-- the last boot, the records by kind, how long the journal is, its limit, and how long an area would be to which a compaction moves them
abbrev pub report_lines : List Record → ℕ → ℕ → ℕ → List ℕ
report_lines records long limit compacted =
    line_text (codes "boot") (stored_boot records)
    ++ kind_lines records replica_kinds
    ++ kind_lines records request_kinds
    ++ kind_lines records old_kinds
    ++ line_text (codes "length") long
    ++ line_text (codes "limit") limit
    ++ line_text (codes "compacted") compacted

-- ---- a store

-- what a record with this front and body takes of an area: its gate, its length and its payload
abbrev pub area_part : Copied → ℕ
area_part copied = before_body copied + copied.body.len

-- the records that were loaded, how many bytes their journal has, the gate of the next record among them, and how many it may have
pub record Found : Type 0 where
  pub records : List Record
  pub long : ℕ
  pub limit : ℕ

-- An area of the records without the bodies that no head names. A node that has just started needs no others.
abbrev pub compacted_size : List Record → ℕ
compacted_size records = counted (size_of (rewritten (heads_of (fold_of records)) records))

abbrev pub report_text : Found → List ℕ
report_text found = report_lines found.records found.long found.limit (compacted_size found.records)

-- how many bytes the journal has once the next start has put its boot
abbrev pub need_at : List Record → ℕ → ℕ
need_at records long = counted (long + (5 + length (record_text (boot_record records))))

-- the next start puts its boot, or finds the journal full
abbrev pub status_at : List Record → ℕ → ℕ → Status
status_at records long limit =
    if nat_lt limit (need_at records long) then status.JournalFull (need_at records long) limit else status.Done

abbrev pub status_of : Found → Status
status_of found = status_at found.records found.long found.limit
