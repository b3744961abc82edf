use Rattle.std.proofs.Common.{sym, ◌∙◌, ap, subst}
use Rattle.xt_protocol.specs.Forgetting.{rewritten}
use Rattle.replica_records.specs.Known.{known_of}
use Rattle.object_store.specs.Access.{records_of}
use Rattle.object_store.specs.Texts.{AreRecords}
use Rattle.object_store.proofs.Callers.{store_known}
use Rattle.object_store.proofs.Swapped.{not_tried}
use Rattle.store_compact.specs.Adding.{all_copied_of}
use Rattle.store_compact.proofs.Compacted.{rewritten_same}
use Rattle.store_compact.proofs.compacting.compact.Goals as goal

pub returns-in_default : goal.returns-in_default
returns-in_default g c =
    let D = g.D.Disk in
    let store = c.args.store in
    let made = rewritten c.args.keep.now (records_of {g = D} store) in
    record {
      made = made;
      known = rewritten_same D.is_told c.args.keep.now (records_of {g = D} store) (store_known {g = D} store);
      swaps = not_tried {g = D} store made (λ image told left. g.met.D.Disk.only_now store.journal.disk image told left);
    }

pub swap-requires : goal.swap-requires
swap-requires g c = record { there = c.in-Ok.ensures.of; are = subst AreRecords (sym c.in-Ok.ensures.are) c.requires }

pub returns : goal.returns
returns g c =
    let D = g.D.Disk in
    let store = c.args.store in
    let facts = c.in-Ok.ensures in
    record {
      made = all_copied_of {g = D} store c.in-Ok.made.items;
      known = ap (known_of D.is_told) facts.are ∙ rewritten_same D.is_told c.args.keep.now (records_of {g = D} store) (store_known {g = D} store);
      swaps = c.swap.ensures;
    }
