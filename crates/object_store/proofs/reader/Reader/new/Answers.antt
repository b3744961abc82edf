use Rattle.std.proofs.Common.{List, sym, subst}
use Rattle.object_store.specs.declared.read_body.ReadBody.{ReadBody}
use Rattle.object_store.specs.Access.{records_of}
use Rattle.object_store.specs.Readers.{Agrees, seen_of}
use Rattle.object_store.proofs.Seeing.{none_read, sees_agrees}
use Rattle.object_store.proofs.Stored.{known_in}
use Rattle.object_store.proofs.reader.Reader.new.Goals as goal

pub invariant_of-result : goal.invariant_of-result
invariant_of-result g c =
    let D = g.D.Disk in
    let store = c.args.store.now in
    let known = records_of {g = D} store in
    record {
      seen =
          subst (λ (read : List ReadBody). Agrees D.is_told known read (seen_of D.is_told known read)) (sym c.new.ensures.items)
          (none_read D.is_told known (known_in D.is_told (D.kept store.journal.disk).read store.log) store.sound);
    }

pub returns-clause-agrees : goal.returns-clause-agrees
returns-clause-agrees g c = λ records sees.
    let D = g.D.Disk in
    let known = records_of {g = D} c.args.store.now in
    subst (λ (read : List ReadBody). Agrees D.is_told known read records) (sym c.new.ensures.items) (sees_agrees D.is_told known records sees)
