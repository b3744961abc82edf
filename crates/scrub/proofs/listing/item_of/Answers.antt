use Rattle.std.proofs.Common.{ℕ, List, Option, ◌∙◌, ap}
use Rattle.xt_base.specs.declared.ids.FileId.{FileId}
use Rattle.xt_messages.specs.declared.file.ObjectVersion.{ObjectVersion}
use Rattle.scrub.specs.declared.listing.Item.{Item}
use Rattle.scrub.specs.Items.{last_of}
use Rattle.scrub.proofs.listing.item_of.Goals as goal

abbrev sealed_item : FileId → ObjectVersion → Option (List ℕ) → Item
sealed_item file v seal = record { file = file; object = v.object; version = v.version; seal = seal }

pub returns : goal.returns
returns c = λ records are.
    let file = c.args.file.now in
    let v = c.args.version.now in
    ap (sealed_item file v)
    (c.copied-seal.ensures ∙ c.last.ensures.value ∙ ap last_of (c.of_version.ensures ∙ are.each file v.object v.version))
