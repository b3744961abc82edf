use Rattle.std.proofs.Common.{◌≡◌, ◌≤◌, ◌+◌, ◌∙◌, length, sym, ap, subst, arith}
use Rattle.object_store.specs.Access.{records_of}
use Rattle.object_store.specs.Texts.{texts_of}
use Rattle.object_store.proofs.Stored.{is_here, places_known}
use Rattle.object_store.proofs.store.Store.look.Goals as goal

pub look-requires : goal.look-requires
look-requires G c = λ told.
    let D = G.D.Disk in
    let store = c.args.self.now in
    let place = c.args.place in
    let read = (D.kept store.journal.disk).read in
    let here = is_here {g = D} store.journal (texts_of (records_of {g = D} store)) told (store.keeps told) in
    let fact : place.at + place.len ≤ length read =
    places_known read store.journal.superblock store.journal.end (records_of {g = D} store) store.log (omega (arith, store.journal.located.small)) (store.laid told) here place c.requires in
    let size : length c.as_mut_slice.result.now ≡ place.len = ap length c.as_mut_slice.ensures.value ∙ c.in_ok-bytes.ensures in
    subst (λ d. place.at + length c.as_mut_slice.result.now ≤ length (D.kept d).read) (sym c.disk.ensures) (omega (arith, fact, size))
