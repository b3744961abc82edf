use Rattle.std.proofs.Common.{List, ◌∙◌, ap, sym, subst}
use Rattle.xt_protocol.specs.Folds.{fold_of}
use Rattle.replica_records.specs.Heads.{heads_of}
use Rattle.journal_moves.specs.declared.extent.Extent.{Extent}
use Rattle.xt_journal.specs.Access.{place_of}
use Rattle.xt_journal.specs.Placed.{AreWithin}
use Rattle.object_store.specs.Access.{records_of}
use Rattle.object_store.specs.Loading.{ArePlaced}
use Rattle.object_store.specs.Texts.{AreRecords}
use Rattle.object_store.proofs.BareFolds.{fold_bare}
use Rattle.object_store.proofs.Callers.{are_placed}
use Rattle.object_store.proofs.Stores.{known_are}
use Rattle.store_compact.proofs.Heads.{may_compact}
use Rattle.compaction_tests.proofs.compactions.compacted.Goals as goal

pub load-requires-2-clause-placed : goal.load-requires-2-clause-placed
load-requires-2-clause-placed g c told =
    subst (λ (es : List Extent). ArePlaced c.in-Ok.journal es) (sym c.as_slice.ensures.value)
    (are_placed c.in-Ok.journal (g.D.Disk.kept c.args.disk).read c.in-Ok.extents.items (c.in-Ok.ensures.keeps told) (c.in-Ok.ensures.reads told) (c.in-Ok.ensures.superblock told)
    (c.in-Ok.ensures.stays told))

pub load-requires-2-clause-within : goal.load-requires-2-clause-within
load-requires-2-clause-within g c = subst (λ (es : List Extent). AreWithin (place_of c.in-Ok.journal) es) (sym c.as_slice.ensures.value) c.in-Ok.ensures.within

pub compact-requires : goal.compact-requires
compact-requires g c =
    may_compact c.heads_name_what_must_stay.ensures c.rewritten_records_may_be_kept.ensures (records_of c.in-Ok-load.store) c.in-Ok-heads.keep
    (subst AreRecords (sym c.in-Ok-load.ensures.3.known) (known_are g.D.Disk.is_told c.in-Ok-load.ensures.3.records c.in-Ok-load.ensures.3.are))
    (c.in-Ok-heads.ensures ∙ ap heads_of (c.in-Ok-fold.ensures ∙ ap fold_of c.records.ensures ∙ fold_bare (records_of c.in-Ok-load.store)))
