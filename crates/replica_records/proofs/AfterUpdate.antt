-- a head's lists after an update
use Rattle.std.proofs.Common.{◌≡◌, ◌↔◌, ◌⊎◌, inl, inr, ◌==◌, ◌+◌, ℕ, true, List, ap, ◌∙◌, arith}
use Rattle.std.proofs.lemmas.Bool.Decides.{nat_tests}
use Rattle.std.specs.List.{AllByRecursion}
use Rattle.xt_messages.specs.Limits.{rise, FitsUpdate, FitsStamp, FitsOpId, FitsMark, IsObject, IsObjectOrNone, FitsVersion, FitsSession, FitsHead, is_at_most}
use Rattle.xt_base.specs.declared.ids.Epoch.{Epoch}
use Rattle.xt_messages.specs.declared.file.ObjectVersion.{ObjectVersion}
use Rattle.xt_messages.specs.declared.file.Session.{Session}
use Rattle.xt_messages.specs.declared.file.FileHead.{FileHead}
use Rattle.xt_messages.specs.declared.file.Update.{Update}
use Rattle.xt_base.specs.declared.TheConstants.{NO_OBJECT}
use Rattle.xt_protocol.specs.Heads.{first_epoch, versions_below, head_after}
use Rattle.xt_protocol.specs.Folds.{FollowsHead}
use Rattle.object_versions.proofs.HeadLimits.{when, objects_of, below_all, version_all, below_still_rise, versions_still_rise, session_all, sessions_still_rise}
use Rattle.replica_records.specs.Sound.{HasRoomFor, FitsLists}

-- ---- the limits

first_first : (epoch : Epoch) → is_at_most first_epoch epoch ≡ true
first_first epoch = grind (arith, nat_tests)

number_of : (object : ℕ) → IsObjectOrNone object → IsObject object
number_of object (inl less) = omega arith
number_of object (inr none) = omega arith

itself : (epoch : Epoch) → is_at_most epoch epoch ≡ true
itself epoch = grind (arith, nat_tests)

module _ (head : FileHead) (update : Update) (lists : FitsLists head) (place : FitsStamp update.stamp) (operation : FitsOpId update.id) (gets : IsObject update.object) where
  abbrev left : Session
  left = record { client = update.id.client; number = update.id.number; count = update.stamp.count }

  abbrev below : List ObjectVersion
  below = versions_below head.versions update.drop_from

  below_each : AllByRecursion FitsVersion below
  below_each = below_all FitsVersion head.versions update.drop_from lists.objects

  below_up : rise (objects_of below) ≡ true
  below_up = below_still_rise head.versions update.drop_from lists.rising.versions

  each_version : AllByRecursion FitsVersion (head_after head update).versions
  each_version =
      when (AllByRecursion FitsVersion) (update.object == NO_OBJECT) _ _ (λ none. below_each)
      (λ differs. version_all FitsVersion below update.object update.stamp below_each
      (record { which = gets; write = place }))

  versions_up : rise (objects_of (head_after head update).versions) ≡ true
  versions_up =
      when (λ (vs : List ObjectVersion). rise (objects_of vs) ≡ true) (update.object == NO_OBJECT) _ _ (λ none. below_up)
      (λ differs. versions_still_rise below update.object update.stamp below_up)

  promised : (update.stamp.epoch ≡ head.promised) ⊎ (update.stamp.epoch ≡ first_epoch) → is_at_most update.stamp.epoch head.promised ≡ true
  promised (inl same) = ap (λ e. is_at_most e head.promised) same ∙ itself head.promised
  promised (inr first) = ap (λ e. is_at_most e head.promised) first ∙ first_first head.promised

  -- an update within its limits leaves the lists within theirs
  pub lists_after : FitsLists (head_after head update)
  lists_after = record {
    promise = lists.promise;
    objects = each_version;
    clients = session_all FitsSession head.sessions left lists.clients (record { who = operation.who; operation = operation.operation; writes = place.writes });
    rising = record { versions = versions_up; sessions = sessions_still_rise head.sessions left lists.rising.sessions };
  }

  fits_after : FitsMark update.mark → (update.stamp.epoch ≡ head.promised) ⊎ (update.stamp.epoch ≡ first_epoch) → HasRoomFor head update
      → FitsHead (head_after head update)
  fits_after mark known room = record {
    promise = lists.promise;
    place = place;
    operation = operation;
    after = mark;
    objects = record { few = room.0; each = lists_after.objects; rising = lists_after.rising.versions };
    clients = record { few = room.1; each = lists_after.clients; rising = lists_after.rising.sessions };
    kept = promised known;
  }

-- where an update within its limits is the next one, it may follow exactly where there is room
pub follows : (head : FileHead) (update : Update) → FitsLists head → FitsUpdate update
    → ((update.stamp.epoch ≡ head.promised) ⊎ (update.stamp.epoch ≡ first_epoch)) × (update.stamp.count ≡ head.stamp.count + 1)
    → HasRoomFor head update ↔ FollowsHead head update
follows head update lists fits next = (
  λ room. (next.0, next.1, fits_after head update lists fits.place fits.operation (number_of update.object fits.gets) fits.after next.0 room),
  λ is. (is.2.objects.few, is.2.clients.few),
)
