-- a member of a striped file records updates alone
use Rattle.std.proofs.Common.{◌≡◌, ℕ, Bool, true, false, List, sym, subst}
use Rattle.std.specs.Prelude.{Option, Some, None, cond, ◌*◌, length}
use Rattle.xt_base.specs.declared.ids.OpId.{OpId}
use Rattle.xt_base.specs.declared.ids.Stamp.{Stamp}
use Rattle.xt_base.specs.declared.TheConstants.{OBJECTS}
use Rattle.xt_messages.specs.declared.file.Location.{Location}
use Rattle.xt_messages.specs.declared.file.Op.{Op}
use Rattle.xt_messages.specs.declared.file.Op.TheVariants as op
use Rattle.xt_messages.specs.declared.file.Update.{Update}
use Rattle.xt_messages.specs.declared.reply.Denial.{Denial}
use Rattle.xt_protocol.specs.declared.states.PlainActed.{PlainActed}
use Rattle.xt_protocol.specs.Heads.{head_after}
use Rattle.xt_protocol.specs.ReplicaRows.{head_fits}
use Rattle.xt_protocol.specs.Writes.{WriteStanding, repeated, older, turned_away, fresh, standing}
use Rattle.xt_protocol.specs.PlainRows.{PlainFile, plain_refusal, next_update, write_kept, write_stands, served, refused_or, plain_step}
use Rattle.osd_plain.specs.Records.{IsUpdateIfAny}

of_two : (b : Bool) (x y : PlainActed) → IsUpdateIfAny x.rec → IsUpdateIfAny y.rec → IsUpdateIfAny (cond b x y).rec
of_two true x y p q = p
of_two false x y p q = q

of_update : (p : PlainFile) (o : Option Update) → IsUpdateIfAny (write_kept p o).rec
of_update p None = tt
of_update p (Some update) = of_two (head_fits (head_after p.head update)) _ _ tt tt

of_standing : (p : PlainFile) (stripe : ℕ) (body : ℕ → Stamp → List ℕ) (id : OpId) (epoch : ℕ) (asked : Op) (how : WriteStanding) → IsUpdateIfAny (write_stands p stripe body id epoch asked how).rec
of_standing p stripe body id epoch asked (repeated count) = tt
of_standing p stripe body id epoch asked older = tt
of_standing p stripe body id epoch asked (turned_away answer) = tt
of_standing p stripe body id epoch asked fresh = of_update p (next_update stripe body p.head id epoch asked)

of_op : (p : PlainFile) (body : ℕ → Stamp → List ℕ) (id : OpId) (epoch : ℕ) (location : Location) (asked : Op) → IsUpdateIfAny (served p body id epoch location asked).rec
of_op p body id epoch location (op.Read object at len) = tt
of_op p body id epoch location (op.Write object at bytes) =
    of_standing p location.stripe body id epoch (op.Write object at bytes)
    (standing (OBJECTS * length location.members) location.stripe p.head id epoch (op.Write object at bytes))
of_op p body id epoch location (op.Truncate size) =
    of_standing p location.stripe body id epoch (op.Truncate size)
    (standing (OBJECTS * length location.members) location.stripe p.head id epoch (op.Truncate size))

of_refusal : (o : Option Denial) (row : PlainActed) → IsUpdateIfAny row.rec → IsUpdateIfAny (refused_or o row).rec
of_refusal None row is = is
of_refusal (Some why) row is = tt

updates_alone : (p : PlainFile) (body : ℕ → Stamp → List ℕ) (id : OpId) (epoch : ℕ) (location : Location) (asked : Op) → IsUpdateIfAny (plain_step p body id epoch location asked).rec
unfolding plain_step
updates_alone p body id epoch location asked =
    of_refusal (plain_refusal location.members p.node asked) (served p body id epoch location asked) (of_op p body id epoch location asked)

pub updated_alone : (p : PlainFile) (body : ℕ → Stamp → List ℕ) (id : OpId) (epoch : ℕ) (location : Location) (asked : Op) (acted : PlainActed)
    → acted ≡ plain_step p body id epoch location asked → IsUpdateIfAny acted.rec
updated_alone p body id epoch location asked acted is =
    subst (λ (a : PlainActed). IsUpdateIfAny a.rec) (sym is) (updates_alone p body id epoch location asked)
