use Rattle.std.proofs.Common.{◌≡◌, ◌∙◌, ap, subst, Bool, List}
use Rattle.std.specs.Prelude.{not}
use Rattle.std.specs.Bool.{OnFalse}
use Rattle.xt_messages.specs.declared.file.ObjectVersion.{ObjectVersion}
use Rattle.xt_protocol.specs.Stamps.{has_version, with_held}
use Rattle.object_versions.proofs.HeldSets.{has_key, with_key}
use Rattle.osd_files.proofs.Held.{held_back}
use Rattle.osd_files.proofs.noting.hold_once.Goals as goal

pub returns-clause-held : goal.returns-clause-held
returns-clause-held c =
    c.in_ok-insert.ensures.keys ∙ with_key c.held.inside.versions.keys c.args.version
    ∙ ap (λ (vs : List ObjectVersion). with_held vs c.args.version) c.held.view_is

pub returns-clause-back : goal.returns-clause-back
returns-clause-back c =
    let v = c.args.version in
    held_back c.args.held.now c.insert.new.self.keys v c.in_ok-insert.field-0
    (c.in_ok-insert.ensures.added ∙ ap not (has_key c.held.inside.versions v ∙ ap (λ (vs : List ObjectVersion). has_version vs v) c.held.view_is))
    (λ old. subst (λ (b : Bool). OnFalse b (c.insert.new.self.keys ≡ c.held.inside.versions.keys)) old c.in_ok-insert.ensures.unchanged ∙ c.held.view_is)
    (c.in_ok-insert.ensures.keys ∙ with_key c.held.inside.versions.keys v ∙ ap (λ (vs : List ObjectVersion). with_held vs v) c.held.view_is)
