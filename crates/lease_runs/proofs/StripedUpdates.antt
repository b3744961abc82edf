-- the update of a write on a striped file is the next one, under no primary's epoch
use Rattle.std.proofs.Common.{◌≡◌, ℕ, ◌+◌, List, ap, sym, Option, Some, None}
use Rattle.xt_base.specs.declared.ids.OpId.{OpId}
use Rattle.xt_base.specs.declared.ids.Stamp.{Stamp}
use Rattle.xt_messages.specs.declared.file.Capability.{Capability}
use Rattle.xt_messages.specs.declared.file.FileHead.{FileHead}
use Rattle.xt_messages.specs.declared.file.Op.{Op}
use Rattle.xt_messages.specs.declared.file.Op.TheVariants as op
use Rattle.xt_messages.specs.declared.file.Update.{Update}
use Rattle.xt_messages.specs.declared.record.FileRow.{FileRow}
use Rattle.xt_protocol.specs.FileStates.{Site}
use Rattle.xt_protocol.specs.Heads.{plain_stamp}
use Rattle.xt_protocol.specs.Writes.{written, truncated, update_of}
use Rattle.osd_invariants.proofs.StripedAsks.{KeepsUpdate}

the_update : (a b : Update) → Some a ≡ Some b → a ≡ b
the_update a b e = cc e

-- an update has the stamp under which it is made
made_under : (stripe : ℕ) (body : ℕ → Stamp → List ℕ) (head : FileHead) (stamp : Stamp) (id : OpId) (epoch : ℕ) (asked : Op) (update : Update)
    → update_of stripe body head stamp id epoch asked ≡ Some update → update.stamp ≡ stamp
made_under stripe body head stamp id epoch (op.Read object at len) update e = absurd (cc e)
made_under stripe body head stamp id epoch (op.Write object at bytes) update e =
    ap (λ (u : Update). u.stamp) (sym (the_update (written stripe body head stamp id object at bytes) update e))
made_under stripe body head stamp id epoch (op.Truncate size) update e =
    ap (λ (u : Update). u.stamp) (sym (the_update (truncated stripe body head stamp id epoch size) update e))

pub next_stamp : (site : Site) (row : FileRow) (id : OpId) (capability : Capability) (asked : Op) (update : Update) → KeepsUpdate site row id capability asked update
    → update.stamp ≡ plain_stamp (row.head.stamp.count + 1)
next_stamp site row id capability asked update keeps =
    made_under capability.location.stripe (site.body row.file) row.head (plain_stamp (row.head.stamp.count + 1)) id capability.epoch asked update keeps.made
