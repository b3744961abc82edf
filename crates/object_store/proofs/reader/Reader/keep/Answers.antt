use Rattle.std.proofs.Common.{List, sym, subst}
use Rattle.std.specs.Prelude.{is_ok}
use Rattle.object_store.specs.declared.read_body.ReadBody.{ReadBody}
use Rattle.object_store.specs.Access.{records_of}
use Rattle.object_store.specs.Readers.{Agrees, seen_of}
use Rattle.object_store.proofs.Seeing.{read_if}
use Rattle.object_store.proofs.reader.Reader.keep.Goals as goal

pub invariant_of-self : goal.invariant_of-self
invariant_of-self g c =
    let D = g.D.Disk in
    let reader = c.args.self.now in
    let known = records_of {g = D} reader.store.now in
    record {
      seen =
          subst (λ (read : List ReadBody). Agrees D.is_told known read (seen_of D.is_told known read)) (sym c.push.ensures.items)
          (read_if D.is_told known reader.read.items (record { key = c.args.key; bytes = c.args.bytes }) c.requires reader.seen (is_ok c.push.result));
    }
