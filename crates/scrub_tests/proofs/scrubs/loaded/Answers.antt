use Rattle.std.proofs.Common.{List, sym, subst}
use Rattle.journal_moves.specs.declared.extent.Extent.{Extent}
use Rattle.xt_journal.specs.Access.{place_of}
use Rattle.xt_journal.specs.Placed.{AreWithin}
use Rattle.object_store.specs.Loading.{ArePlaced}
use Rattle.object_store.proofs.Callers.{are_placed}
use Rattle.scrub_tests.proofs.scrubs.loaded.Goals as goal

pub load-requires-2-clause-placed : goal.load-requires-2-clause-placed
load-requires-2-clause-placed g c told =
    subst (λ (es : List Extent). ArePlaced c.in-Ok.journal es) (sym c.as_slice.ensures.value)
    (are_placed c.in-Ok.journal (g.D.Disk.kept c.args.disk).read c.in-Ok.extents.items (c.in-Ok.ensures.keeps told) (c.in-Ok.ensures.reads told) (c.in-Ok.ensures.superblock told)
    (c.in-Ok.ensures.stays told))

pub load-requires-2-clause-within : goal.load-requires-2-clause-within
load-requires-2-clause-within g c = subst (λ (es : List Extent). AreWithin (place_of c.in-Ok.journal) es) (sym c.as_slice.ensures.value) c.in-Ok.ensures.within
