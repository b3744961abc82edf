-- a later epoch's Gather changes a replica's head, and leaves its primary
use Rattle.std.proofs.Common.{◌≡◌, refl, ap, ◌∙◌, Bool, true, false}
use Rattle.std.specs.Prelude.{cond}
use Rattle.xt_base.specs.declared.ids.NodeId.{NodeId}
use Rattle.xt_base.specs.declared.ids.FileId.{FileId}
use Rattle.xt_base.specs.declared.ids.Epoch.{Epoch}
use Rattle.xt_messages.specs.declared.message.Payload.TheVariants as payload
use Rattle.xt_messages.specs.declared.record.Record.TheVariants as kept
use Rattle.xt_protocol.specs.declared.states.Acted.{Acted}
use Rattle.xt_protocol.specs.Stamps.{is_earlier}
use Rattle.xt_protocol.specs.ReplicaRows.{gathered, kept_after, refused, after_record, only}
use Rattle.xt_protocol.specs.FileStates.{FileState, Site}
use Rattle.osd_invariants.specs.Promises.{PromisesOver}

row_promises : (s : FileState) (epoch : Epoch) → is_earlier epoch s.kept.head.promised ≡ false → is_earlier s.kept.head.promised epoch ≡ true
    → gathered s.kept.file s.kept.head epoch ≡ after_record (kept.Promise s.kept.file epoch) (payload.Status s.kept.file epoch (record s.kept.head { promised = epoch }))
unfolding gathered
row_promises s epoch first second =
    let new = after_record (kept.Promise s.kept.file epoch) (payload.Status s.kept.file epoch (record s.kept.head { promised = epoch })) in
    let old = only (payload.Status s.kept.file epoch s.kept.head) in
    ap (λ (b : Bool). cond b (refused s.kept.file s.kept.head epoch) (cond (is_earlier s.kept.head.promised epoch) new old)) first
    ∙ ap (λ (b : Bool). cond b new old) second

pub promises_over : (site : Site) (s : FileState) (from : NodeId) (file : FileId) (epoch : Epoch)
    → is_earlier epoch s.kept.head.promised ≡ false → is_earlier s.kept.head.promised epoch ≡ true → PromisesOver site s from file epoch
promises_over site s from file epoch first second =
    record { primary = refl; promised = ap (λ (a : Acted). (kept_after s.kept a.rec).head.promised) (row_promises s epoch first second) }
