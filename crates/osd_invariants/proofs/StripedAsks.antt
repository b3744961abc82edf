-- what comes of an ask on a striped file, case by case
use Rattle.std.proofs.Common.{◌≡◌, ℕ, refl, Bool, true, false}
use Rattle.std.specs.Prelude.{Option, Some, None, cond, ◌+◌, ◌*◌, [], length, nat_lt}
use Rattle.xt_base.specs.declared.ids.OpId.{OpId}
use Rattle.xt_base.specs.declared.TheConstants.{OBJECTS, COUNTS}
use Rattle.xt_messages.specs.declared.file.Location.{Location}
use Rattle.xt_messages.specs.declared.file.Capability.{Capability}
use Rattle.xt_messages.specs.declared.file.Op.{Op}
use Rattle.xt_messages.specs.declared.file.Op.TheVariants as op
use Rattle.xt_messages.specs.declared.file.Update.{Update}
use Rattle.xt_messages.specs.declared.reply.Denial.{Denial}
use Rattle.xt_messages.specs.declared.reply.Denial.TheVariants as denial
use Rattle.xt_messages.specs.declared.reply.Reply.{Reply}
use Rattle.xt_messages.specs.declared.reply.Reply.TheVariants as reply
use Rattle.xt_messages.specs.declared.message.Payload.TheVariants as payload
use Rattle.xt_messages.specs.declared.record.FileRow.{FileRow}
use Rattle.xt_messages.specs.declared.record.Record.TheVariants as kept
use Rattle.xt_protocol.specs.declared.states.Acted.{Acted}
use Rattle.xt_protocol.specs.FileStates.{Site}
use Rattle.xt_protocol.specs.Heads.{head_after, plain_stamp}
use Rattle.xt_protocol.specs.ReplicaRows.{head_fits, unanswered, only, after_record}
use Rattle.xt_protocol.specs.Writes.{WriteStanding, repeated, older, turned_away, fresh, standing, update_of}
use Rattle.xt_protocol.specs.AskRows.{capability_refused, leaves_object}
use Rattle.xt_protocol.specs.PlainRows.{plain_refusal, serve_read, write_stands, write_kept, refused_or, served, plain_step}
use Rattle.xt_protocol.specs.StripedRows.{capability_range_list, range_and_list, unless_stored, member_acts, to_client, striped_refusal, handle_striped}

-- the client is sent a reply, and nothing is kept
abbrev pub tells_client : FileRow → OpId → Reply → Acted
tells_client row id answer = only (payload.Reply id.number row.file answer)

-- an update is kept, and answered Ok
abbrev pub keeps_update : FileRow → OpId → Update → Acted
keeps_update row id update =
    after_record (kept.Update row.file update) (payload.Reply id.number row.file (reply.Ok update.stamp.count update.mark []))

-- how the operation stands to the head that is kept
abbrev pub striped_standing : FileRow → OpId → Capability → Op → WriteStanding
striped_standing row id capability asked =
    standing (OBJECTS * length capability.location.members) capability.location.stripe row.head id capability.epoch asked

-- an ask that goes by the rows of a member
pub record GoesToMember (site : Site) (row : FileRow) (capability : Capability) (asked : Op) : Type 0 where
  pub sealed : capability_refused site capability asked ≡ None
  pub inside : leaves_object capability.location.stripe asked ≡ false
  pub unlisted : row.location ≡ None
  pub own : plain_refusal capability.location.members site.node asked ≡ None

-- this update is kept
pub record KeepsUpdate (site : Site) (row : FileRow) (id : OpId) (capability : Capability) (asked : Op) (update : Update) : Type 0 where
  pub goes : GoesToMember site row capability asked
  pub stands : striped_standing row id capability asked ≡ fresh
  pub left : nat_lt (row.head.stamp.count + 1) COUNTS ≡ true
  pub made : update_of capability.location.stripe (site.body row.file) row.head (plain_stamp (row.head.stamp.count + 1)) id capability.epoch asked ≡ Some update
  pub fits : head_fits (head_after row.head update) ≡ true

-- This holds in each case: nothing comes of it; it is denied; a read is served; a write is repeated; it is turned away by the head; or
-- an update is kept.
pub record InEachCase (P : Acted → Type 0) (site : Site) (row : FileRow) (id : OpId) (capability : Capability) (asked : Op) : Type 0 where
  pub nothing : P unanswered
  pub denied : (why : Denial) → P (tells_client row id (reply.Denied why))
  pub read : (object at len : ℕ) → asked ≡ op.Read object at len → GoesToMember site row capability asked
      → P (tells_client row id (serve_read (site.body row.file) row.head object at len))
  pub again : (count : ℕ) → striped_standing row id capability asked ≡ repeated count → P (tells_client row id (reply.Ok count row.head.mark []))
  pub turned : (answer : Reply) → striped_standing row id capability asked ≡ turned_away answer → P (tells_client row id answer)
  pub keeps : (update : Update) → KeepsUpdate site row id capability asked update → P (keeps_update row id update)

module _ (P : Acted → Type 0) (site : Site) (row : FileRow) (id : OpId) (capability : Capability) where
  kept_so : (asked : Op) → InEachCase P site row id capability asked → GoesToMember site row capability asked → striped_standing row id capability asked ≡ fresh
      → (left : Bool) → nat_lt (row.head.stamp.count + 1) COUNTS ≡ left
      → (made : Option Update) → update_of capability.location.stripe (site.body row.file) row.head (plain_stamp (row.head.stamp.count + 1)) id capability.epoch asked ≡ made
      → P (to_client row.file id (write_kept (record { file = row.file; node = site.node; head = row.head }) (cond left made None)))
  kept_so asked c goes stands false is made so = c.nothing
  kept_so asked c goes stands true is None so = c.nothing
  kept_so asked c goes stands true is (Some update) so = at (head_fits (head_after row.head update)) refl
    where
      at : (b : Bool) → head_fits (head_after row.head update) ≡ b
          → P (to_client row.file id (cond b (record { rec = Some (kept.Update row.file update); reply = Some (reply.Ok update.stamp.count update.mark []) }) (record { rec = None; reply = None })))
      at true fit = c.keeps update (record { goes = goes; stands = stands; left = is; made = so; fits = fit })
      at false fit = c.nothing

  write_so : (asked : Op) → InEachCase P site row id capability asked → GoesToMember site row capability asked → (st : WriteStanding) → striped_standing row id capability asked ≡ st
      → P (to_client row.file id (write_stands (record { file = row.file; node = site.node; head = row.head }) capability.location.stripe (site.body row.file) id capability.epoch asked st))
  write_so asked c goes (repeated count) is = c.again count is
  write_so asked c goes older is = c.nothing
  write_so asked c goes (turned_away answer) is = c.turned answer is
  write_so asked c goes fresh is =
      kept_so asked c goes is (nat_lt (row.head.stamp.count + 1) COUNTS) refl
      (update_of capability.location.stripe (site.body row.file) row.head (plain_stamp (row.head.stamp.count + 1)) id capability.epoch asked) refl

  served_so : (asked : Op) → InEachCase P site row id capability asked → GoesToMember site row capability asked
      → P (to_client row.file id (served (record { file = row.file; node = site.node; head = row.head }) (site.body row.file) id capability.epoch capability.location asked))
  served_so (op.Read object at len) c goes = c.read object at len refl goes
  served_so (op.Write object at bytes) c goes = write_so (op.Write object at bytes) c goes (striped_standing row id capability (op.Write object at bytes)) refl
  served_so (op.Truncate size) c goes = write_so (op.Truncate size) c goes (striped_standing row id capability (op.Truncate size)) refl

-- What holds in each case holds of what comes of the ask.
pub striped_cases : (P : Acted → Type 0) (site : Site) (row : FileRow) (id : OpId) (capability : Capability) (asked : Op) → InEachCase P site row id capability asked
    → P (handle_striped site row id capability asked)
unfolding handle_striped striped_refusal plain_step
striped_cases P site row id capability asked c = by_capability (capability_refused site capability asked) refl
  where
    So : Option Reply → Type 0
    So o = P (to_client row.file id (member_acts site row id capability asked o))

    by_owner : capability_refused site capability asked ≡ None → leaves_object capability.location.stripe asked ≡ false → row.location ≡ None
        → (o : Option Denial) → plain_refusal capability.location.members site.node asked ≡ o
        → P (to_client row.file id (refused_or o (served (record { file = row.file; node = site.node; head = row.head }) (site.body row.file) id capability.epoch capability.location asked)))
    by_owner sealed inside unlisted (Some why) is = c.denied why
    by_owner sealed inside unlisted None is =
        served_so P site row id capability asked c (record { sealed = sealed; inside = inside; unlisted = unlisted; own = is })

    by_list : capability_refused site capability asked ≡ None → leaves_object capability.location.stripe asked ≡ false
        → (stored : Option Location) → row.location ≡ stored → So (unless_stored stored)
    by_list sealed inside (Some stored) is = c.denied denial.List
    by_list sealed inside None is = by_owner sealed inside is (plain_refusal capability.location.members site.node asked) refl

    by_range : capability_refused site capability asked ≡ None → (b : Bool) → leaves_object capability.location.stripe asked ≡ b
        → So (range_and_list row.location (cond b (Some (reply.Denied denial.Range)) None))
    by_range sealed true is = c.denied denial.Range
    by_range sealed false is = by_list sealed is row.location refl

    by_capability : (o : Option Denial) → capability_refused site capability asked ≡ o → So (capability_range_list row.location capability asked o)
    by_capability (Some why) is = c.denied why
    by_capability None is = by_range is (leaves_object capability.location.stripe asked) refl

-- Three cases, for what doesn't ask which answer it is.
pub record InThreeCases (P : Acted → Type 0) (site : Site) (row : FileRow) (id : OpId) (capability : Capability) (asked : Op) : Type 0 where
  pub nothing : P unanswered
  pub tells : (answer : Reply) → P (tells_client row id answer)
  pub keeps : (update : Update) → KeepsUpdate site row id capability asked update → P (keeps_update row id update)

pub striped_outcome : (P : Acted → Type 0) (site : Site) (row : FileRow) (id : OpId) (capability : Capability) (asked : Op) → InThreeCases P site row id capability asked
    → P (handle_striped site row id capability asked)
striped_outcome P site row id capability asked c =
    striped_cases P site row id capability asked
    (record {
      nothing = c.nothing;
      denied = λ why. c.tells (reply.Denied why);
      read = λ object at len is goes. c.tells (serve_read (site.body row.file) row.head object at len);
      again = λ count is. c.tells (reply.Ok count row.head.mark []);
      turned = λ answer is. c.tells answer;
      keeps = c.keeps;
    })
