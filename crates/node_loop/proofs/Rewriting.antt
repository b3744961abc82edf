-- records that are rewritten, of which something is known
use Rattle.std.proofs.Common.{ℕ, ◌≡◌, ◌-◌, refl, sym, ◌∙◌, ap, subst, Bool, Some, None, List, [], ◌∷◌, length, length-append, arith}
use Rattle.std.specs.Prelude.{IsTrue}
use Rattle.disk_model.specs.declared.disk.Disk.{Ghosts}
use Rattle.disk_model.specs.Disk.{LeavesOnly}
use Rattle.xt_messages.specs.declared.record.KeepBody.{KeepBody}
use Rattle.xt_messages.specs.declared.record.Record.{Record}
use Rattle.xt_protocol.specs.Forgetting.{rewritten}
use Rattle.journal_areas.specs.Format as format
use Rattle.journal_areas.specs.Sites.{moved, need_for}
use Rattle.journal_areas.proofs.Records.{length-record}
use Rattle.journal_moves.specs.Answers.{full_need}
use Rattle.journal_moves.specs.Moves.{IsEither}
use Rattle.replica_records.specs.Known.{as_known, known_of}
use Rattle.replica_records.specs.RecordText.{record_text}
use Rattle.replica_records.proofs.Known.{text_known}
use Rattle.object_store.specs.declared.store.Store.{Store}
use Rattle.object_store.specs.Access.{disk_of, records_of}
use Rattle.object_store.specs.Swaps.{IsSwapped, IsSwapFull, size_of}
use Rattle.object_store.specs.Texts.{texts_of}
use Rattle.object_store.proofs.Stored.{known_there}
use Rattle.node_runs.specs.Keeping.{KeepsOn}
use Rattle.node_runs.specs.Runs.{JournalAt, lacks, moved_to}
use Rattle.node_runs.proofs.Keeping.{changes_one}
use Rattle.node_loop.specs.declared.compacting.Rewritten.TheVariants.{Done, NoRoom}
use Rattle.node_loop.specs.Stores.{IsRewritten, journal_at}

-- they take as many bytes as what is known of them
bytes_known : (told : Bool) (records : List Record)
    → length (format.records (texts_of (known_of told records))) ≡ length (format.records (texts_of records))
bytes_known told [] = refl
bytes_known told (rec ∷ records) =
    let known = record_text (as_known told rec) in
    let text = record_text rec in
    omega (
      arith,
      length-append (format.record_of known) (format.records (texts_of (known_of told records))),
      length-append (format.record_of text) (format.records (texts_of records)),
      length-record known,
      length-record text,
      text_known told rec,
      bytes_known told records,
    )

size_known : (told : Bool) (records : List Record) → size_of (known_of told records) ≡ size_of records
size_known told records = omega (arith, bytes_known told records)

module _ {D : Type 0} {g : Ghosts D} (old : Store D g) (keep : List KeepBody) (made : List Record)
    (known : known_of g.is_told made ≡ rewritten keep (records_of old)) where
  same_size : size_of made ≡ size_of (rewritten keep (records_of old))
  same_size = sym (size_known g.is_told made) ∙ ap size_of known

  abbrev at : JournalAt
  at = journal_at old

  pub is_rewritten : (new : Store D g) → IsSwapped old made new → IsRewritten keep old (Done new)
  is_rewritten new is =
      let there : journal_at new ≡ moved_to at made = λ i. record { superblock = is.superblock i; end = is.place i; limit = is.limit i } in
      let same : moved_to at made ≡ moved_to at (rewritten keep (records_of old)) =
      ap (λ (n : ℕ). record at { superblock = Some (moved at.superblock at.end n); end = need_for at.superblock at.end n - 1 }) same_size in
      let room : lacks at (rewritten keep (records_of old)) ≡ None = sym (ap (λ (n : ℕ). full_need at.superblock at.end n at.limit) same_size) ∙ is.room in
      (is.records ∙ known, there ∙ same, room)

  pub has_no_area : (new : Store D g) (need limit : ℕ) → IsSwapFull old made new need limit → IsRewritten keep old (NoRoom new)
  has_no_area new need limit is =
      let there : journal_at new ≡ at = λ i. record { superblock = is.superblock i; end = is.place i; limit = is.limit i } in
      let lacking : lacks at (rewritten keep (records_of old)) ≡ Some need = sym (ap (λ (n : ℕ). full_need at.superblock at.end n at.limit) same_size) ∙ is.needed in
      (is.records, there, (need, lacking))

  -- a crash leaves the old records or the rewritten ones
  pub rewrites_one : (after : D)
      → (IsTrue g.is_told → LeavesOnly g.moment g.left_since (disk_of old) after (IsEither (texts_of (records_of old)) (texts_of made)))
      → KeepsOn g.is_told g.moment g.left_since (disk_of old) after (records_of old ∷ rewritten keep (records_of old) ∷ [])
  rewrites_one after run =
      changes_one g.is_told g.kept g.moment g.left_since (disk_of old) after (records_of old) (rewritten keep (records_of old)) (λ told.
      let same : made ≡ rewritten keep (records_of old) = sym (known_there g.is_told made told) ∙ known in
      subst (λ (rs : List Record). LeavesOnly g.moment g.left_since (disk_of old) after (IsEither (texts_of (records_of old)) (texts_of rs))) same (run told))
