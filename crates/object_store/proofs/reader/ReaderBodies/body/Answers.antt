use Rattle.std.proofs.Common.{Err, refl, ◌∙◌, ap, subst}
use Rattle.replica_records.specs.Known.{Sees}
use Rattle.object_store.specs.Access.{records_of}
use Rattle.object_store.specs.declared.store.Store.{Store}
use Rattle.object_store.proofs.Seeing.{none_known, none_seen}
use Rattle.object_store.proofs.reader.ReaderBodies.body.Goals as goal

pub returns-in-Err-clause-missing : goal.returns-in-Err-clause-missing
returns-in-Err-clause-missing g c = λ records agrees.
    let D = g.D.Disk in
    let sees = subst (λ (s : Store g.row.D.Denot D). Sees D.is_told (records_of s) records) c.keep.ensures.store agrees.sees in (
      λ is. absurd cc,
      λ none.
          absurd
          (let gone = c.find.ensures.missing.1 (none_known D.is_told (records_of {g = D} c.args.self.now.store.now) records
          (record { file = c.args.file.now; object = c.args.object; version = c.args.version.now }) sees none) in cc (gone, c.in-Ok.is)),
    )

pub returns-in-Err-NoSuchVersion-clause-missing : goal.returns-in-Err-NoSuchVersion-clause-missing
returns-in-Err-NoSuchVersion-clause-missing g c = λ records agrees.
    let D = g.D.Disk in (
      λ is.
          none_seen D.is_told (records_of {g = D} c.args.self.now.store.now) records (record { file = c.args.file.now; object = c.args.object; version = c.args.version.now })
          agrees.sees (c.find.ensures.missing.0 (c.in-Err-NoSuchVersion.is ∙ ap Err c.in-Err-NoSuchVersion.field-0-is)),
      λ none. refl,
    )

pub returns-in-Err-OutOfMemory-clause-missing : goal.returns-in-Err-OutOfMemory-clause-missing
returns-in-Err-OutOfMemory-clause-missing g c = λ records agrees.
    let D = g.D.Disk in (
      λ is. absurd cc,
      λ none.
          absurd
          (let gone = c.find.ensures.missing.1 (none_known D.is_told (records_of {g = D} c.args.self.now.store.now) records
          (record { file = c.args.file.now; object = c.args.object; version = c.args.version.now }) agrees.sees none) in
          cc (gone, c.in-Err-OutOfMemory.is, c.in-Err-OutOfMemory.field-0-is)),
    )

pub returns-in-Err-Failed-clause-missing : goal.returns-in-Err-Failed-clause-missing
returns-in-Err-Failed-clause-missing g c = λ records agrees.
    let D = g.D.Disk in (
      λ is. absurd cc,
      λ none.
          absurd
          (let gone = c.find.ensures.missing.1 (none_known D.is_told (records_of {g = D} c.args.self.now.store.now) records
          (record { file = c.args.file.now; object = c.args.object; version = c.args.version.now }) agrees.sees none) in
          cc (gone, c.in-Err-Failed.is, c.in-Err-Failed.field-0-is)),
    )
