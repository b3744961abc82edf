use Rattle.std.proofs.Common.{ℕ, List, Option, ◌≡◌, ◌∙◌, ap, refl, subst, sym}
use Rattle.disk_model.specs.Changes.{Memory, memory_kept}
use Rattle.journal_areas.specs.declared.superblock.Superblock.{Superblock}
use Rattle.journal_moves.specs.declared.extent.Extent.{Extent}
use Rattle.xt_journal.specs.Access as journal
use Rattle.xt_journal.specs.Format.{StandsIn}
use Rattle.xt_journal.specs.Placed.{AreWithin}
use Rattle.xt_journal.specs.Reading.{payloads_on}
use Rattle.object_store.specs.Access.{records_of}
use Rattle.object_store.specs.Loading.{ArePlaced}
use Rattle.object_store.specs.Texts.{IsFirstBad, texts_of}
use Rattle.object_store.proofs.Callers.{loaded_told}
use Rattle.world_disk.specs.Ends.{IsLoadedWith}
use Rattle.world_disk.proofs.StoredRecords.{are_on, none_bad, short_payloads}
use Rattle.world_disk.proofs.node_store.store_on.Goals as goal

pub load-requires-clause-placed : goal.load-requires-clause-placed
load-requires-clause-placed c = λ told. subst (λ (es : List Extent). ArePlaced c.in_ok-journal.journal es) (sym c.as_slice.ensures.value) c.in_ok-journal.ensures.placed

pub load-requires-clause-within : goal.load-requires-clause-within
load-requires-clause-within c = subst (AreWithin (journal.place_of c.in_ok-journal.journal)) (sym c.as_slice.ensures.value) c.in_ok-journal.ensures.within

pub returns-in-Ok-clause-reads : goal.returns-in-Ok-clause-reads
returns-in-Ok-clause-reads c =
    let from = c.in_ok-journal.journal in
    let read = (memory_kept c.args.disk).read in
    let is = c.in-Ok.ensures.3 in
    let payloads = payloads_on read c.in_ok-journal.extents.items in
    let texts : texts_of (records_of c.in-Ok.store) ≡ payloads =
    ap texts_of (loaded_told from c.in-Ok.ensures.0 c.in-Ok.store is refl) ∙ is.texts ∙ c.in-Ok.ensures.2 refl
    ∙ ap (payloads_on (memory_kept (journal.disk_of from)).read) c.as_slice.ensures.value ∙ c.in_ok-journal.ensures.stays in
    are_on read (journal.superblock_of from) payloads (records_of c.in-Ok.store) c.in_ok-journal.ensures.reads texts c.in-Ok.store.sound
    (short_payloads read (journal.superblock_of from) payloads c.requires.stands c.in_ok-journal.ensures.reads)

pub returns-in-Ok-clause-superblock : goal.returns-in-Ok-clause-superblock
returns-in-Ok-clause-superblock c =
    let from = c.in_ok-journal.journal in
    let read = (memory_kept c.args.disk).read in
    let is = c.in-Ok.ensures.3 in
    let texts : texts_of (records_of c.in-Ok.store) ≡ payloads_on read c.in_ok-journal.extents.items =
    ap texts_of (loaded_told from c.in-Ok.ensures.0 c.in-Ok.store is refl) ∙ is.texts ∙ c.in-Ok.ensures.2 refl
    ∙ ap (payloads_on (memory_kept (journal.disk_of from)).read) c.as_slice.ensures.value ∙ c.in_ok-journal.ensures.stays in
    subst (λ (super : Option Superblock). StandsIn super read (texts_of (records_of c.in-Ok.store))) (sym (ap journal.superblock_of is.journal_is))
    (subst (λ (ps : List (List ℕ)). StandsIn (journal.superblock_of from) read ps) (sym texts) c.in_ok-journal.ensures.reads)

pub returns-in-Ok-clause-loaded : goal.returns-in-Ok-clause-loaded
returns-in-Ok-clause-loaded c =
    subst (λ (disk : Memory). IsLoadedWith c.args.disk.first disk) (sym (ap journal.disk_of c.in-Ok.ensures.3.journal_is)) c.in_ok-journal.ensures.loaded

pub unreachable-requires : goal.unreachable-requires
unreachable-requires c =
    let told = rw c.in-Err-BadRecord.field-0-is at c.in-Err-BadRecord.ensures in
    let from = c.in_ok-journal.journal in
    let read = (memory_kept c.args.disk).read in
    let same : told.0 ≡ payloads_on read c.in_ok-journal.extents.items =
    told.2 refl ∙ ap (payloads_on (memory_kept (journal.disk_of from)).read) c.as_slice.ensures.value ∙ c.in_ok-journal.ensures.stays in
    none_bad read (journal.superblock_of from) (payloads_on read c.in_ok-journal.extents.items) c.in-Err-BadRecord.field-0-0 c.requires.stands c.in_ok-journal.ensures.reads
    (subst (λ (ps : List (List ℕ)). IsFirstBad ps c.in-Err-BadRecord.field-0-0) same told.3.1)

pub unreachable-requires-in-Err-Broken : goal.unreachable-requires-in-Err-Broken
unreachable-requires-in-Err-Broken c =
    let told = rw c.in-Err-Broken.field-0-is at c.in-Err-Broken.ensures in
    told.3.untold refl
