use Rattle.std.proofs.Common.{sym, ◌∙◌, ap, subst, List, ℕ, refl}
use Rattle.std.proofs.lemmas.List.{length-map}
use Rattle.xt_journal.specs.Access as access
use Rattle.xt_journal.specs.Format.{KeepsJournal}
use Rattle.xt_journal.specs.Placed.{Placed}
use Rattle.xt_journal.specs.Reading.{payloads_of, placed_in}
use Rattle.object_store.proofs.Stores.{made_known, made_kept}
use Rattle.object_store.proofs.store.Store.load.Goals as goal

pub invariant_of-result : goal.invariant_of-result
invariant_of-result g c =
    let D = g.D.Disk in
    let placed = c.in-Ok.ensures.read.0 in
    let from = c.in-Ok.ensures.read.1.from in
    let is = c.in-Ok.ensures.read.2 in
    let journal = c.args.journal in
    let kept =
    made_kept {g = D} journal c.in-Ok.log is.records placed is.bare is.places (sym is.texts)
    (λ told. subst (λ (ps : List (List ℕ)). KeepsJournal (D.kept (access.disk_of journal)) ps) (ap payloads_of (sym (from told)) ∙ sym is.texts) (c.requires.placed told).keeps)
    (λ told. from told ∙ (c.requires.placed told).places ∙ ap (placed_in (access.superblock_of journal)) (ap payloads_of (sym (from told)) ∙ sym is.texts)) is.are in
    record { keeps = kept.keeps; laid = kept.laid; sound = kept.sound }

pub returns-in-Ok : goal.returns-in-Ok
returns-in-Ok g c =
    let D = g.D.Disk in
    let placed = c.in-Ok.ensures.read.0 in
    let from = c.in-Ok.ensures.read.1.from in
    let is = c.in-Ok.ensures.read.2 in
    let journal = c.args.journal in (
      payloads_of placed,
      length-map placed (λ (p : Placed). p.bytes) ∙ c.in-Ok.ensures.read.1.size,
      λ told. ap payloads_of (from told),
      record {
        journal_is = refl;
        records = is.records;
        texts = is.texts;
        are = is.are;
        known =
            made_known {g = D} journal c.in-Ok.log is.records placed is.bare is.places (sym is.texts)
            (λ told. subst (λ (ps : List (List ℕ)). KeepsJournal (D.kept (access.disk_of journal)) ps) (ap payloads_of (sym (from told)) ∙ sym is.texts) (c.requires.placed told).keeps)
            (λ told. from told ∙ (c.requires.placed told).places ∙ ap (placed_in (access.superblock_of journal)) (ap payloads_of (sym (from told)) ∙ sym is.texts)) is.are;
      },
    )
