use Rattle.std.proofs.Common.{◌++◌, ◌∷◌, [], ℕ, List, Option, take, sym, subst, ◌∙◌, ap}
use Rattle.std.proofs.lemmas.List.{take_more}
use Rattle.xt_base.specs.declared.ids.FileId.{FileId}
use Rattle.orphan_sweep.specs.Fates.{AreKnownIn}
use Rattle.orphan_sweep.proofs.Judged.{none_known, one_known}
use Rattle.orphan_sweep.proofs.judging.MadeFiles.of.Goals as goal

pub loop-file-init : goal.loop-file-init
loop-file-init c = none_known (record { files = c.new.result }) c.new.ensures.empty

pub loop-file-preserved : goal.loop-file-preserved
loop-file-preserved c =
    let files = c.args.files.now in
    let i = c.loop-file.file-index in
    let entry = c.loop-file-item.result in
    subst (λ (es : List (FileId × Option ℕ)). AreKnownIn (record { files = c.insert.new.self }) es)
    (sym (take_more files i entry c.loop-file-test.true ∙ ap (λ (e : FileId × Option ℕ). take i files ++ e ∷ []) (sym c.loop-file-item.is)))
    (one_known c.loop-file.made (record { files = c.insert.new.self }) (take i files) entry.0 entry.1 c.loop-file.invariant c.in_ok-insert.ensures.updates.0)
