use Rattle.std.proofs.Common.{◌≡◌, List, Option, Some, None, cond, nat_cmp, ap, sym, ◌∙◌}
use Rattle.std.specs.BTreeMap.{is_at}
use Rattle.world_spec.specs.declared.PlacedFile.{PlacedFile}
use Rattle.world_spec.specs.World.{file_in}
use Rattle.world_tables.proofs.Places.{key_is, file_in_push}
use Rattle.world_tables.proofs.files.DeclaredFiles.declare.Goals as goal

pub invariant_of-self-in-Ok : goal.invariant_of-self-in-Ok
invariant_of-self-in-Ok c =
    let old : List PlacedFile = c.self.inside.list.items in
    let file : PlacedFile = c.args.file.now in
    let none : file_in old file.file.number ≡ None = ap (λ fs. file_in fs file.file.number) c.self.view_is ∙ c.requires in
    λ number.
    c.in-Ok.ensures.updates.0 number
    ∙ ap (λ (o : Option PlacedFile). cond (is_at (nat_cmp file.file.number) number) (Some file) o) (c.self.invariant number)
    ∙ key_is file.file.number number (Some file) (file_in old number)
    ∙ sym (file_in_push old file number none)
    ∙ ap (λ fs. file_in fs number) (sym c.in_ok-push.ensures.items)
