-- a replica: what it keeps is within the limits and in its place, and so is what it answers
use Rattle.std.proofs.Common.{◌≡◌, ◌==◌, ◌&&◌, ◌≤◌, ◌+◌, inl, ℕ, nat_lt, nat_le, List, [], ◌∷◌, length, refl, sym, Option, Some, None, Bool, true, false, arith}
use Rattle.std.specs.Prelude.{cond, not, Contains}
use Rattle.std.specs.Option.{IfSome}
use Rattle.std.specs.List.{AllByRecursion}
use Rattle.std.proofs.lemmas.Bool.{and_parts, eqb-true}
use Rattle.std.proofs.lemmas.Bool.Decides.{nat_tests}
use Rattle.std.proofs.lemmas.List.Elements.{All-from_recursion}
use Rattle.xt_base.specs.declared.TheConstants.{OBJECTS, CLIENTS, COUNTS}
use Rattle.xt_base.specs.declared.ids.Epoch.{Epoch}
use Rattle.xt_base.specs.declared.ids.FileId.{FileId}
use Rattle.xt_base.specs.declared.ids.Stamp.{Stamp}
use Rattle.xt_messages.specs.declared.file.FileHead.{FileHead}
use Rattle.xt_messages.specs.declared.file.ObjectVersion.{ObjectVersion}
use Rattle.xt_messages.specs.declared.file.Update.{Update}
use Rattle.xt_messages.specs.declared.message.Payload.TheVariants as payload
use Rattle.xt_messages.specs.declared.record.FileRow.{FileRow}
use Rattle.xt_messages.specs.declared.record.Record.{Record}
use Rattle.xt_messages.specs.declared.record.Record.TheVariants as kept
use Rattle.xt_base.specs.FieldLimits.{FitsBytes}
use Rattle.xt_messages.specs.Limits.{FitsEpoch, FitsFile, FitsStamp, FitsHead, FitsUpdate, FitsVersion, FitsPayload, IsObject, is_at_most}
use Rattle.xt_protocol.specs.Folds.{new_row, body_of, row_after}
use Rattle.xt_protocol.specs.Heads.{new_head, head_installed, head_after}
use Rattle.xt_protocol.specs.Stamps.{is_epoch, is_earlier, is_below, has_version}
use Rattle.xt_protocol.specs.declared.states.Acted.{Acted}
use Rattle.xt_protocol.specs.ReplicaRows.{only, refused, behind, as_promised, gathered, fetched_from, stage_record, staged, head_taken, first_missing, head_offered, headed, head_fits, next_update, update_offered, updated, kept_after}
use Rattle.replica_records.specs.Sound.{HasRoomFor, FitsLists}
use Rattle.replica_records.proofs.AfterUpdate.{follows}
use Rattle.replica_records.proofs.Held.{is_among}
use Rattle.replica_safety.proofs.Orders.{is_one}
use Rattle.object_versions.proofs.HeadLimits.{either, when}
use Rattle.world_limits.specs.States.{RowIs, RecordIs, NextIs, AreBodies}

-- ---- epochs

pub earlier_at_most : (a b : Epoch) → is_earlier a b ≡ true → is_at_most a b ≡ true
earlier_at_most a b is = grind (arith, nat_tests)

at_most_along : (a b c : Epoch) → is_at_most a b ≡ true → is_at_most b c ≡ true → is_at_most a c ≡ true
at_most_along a b c first second = grind (arith, nat_tests)

itself : (a : Epoch) → is_at_most a a ≡ true
itself a = grind (arith, nat_tests)

the_other : (a b : Epoch) → is_at_most a b ≡ false → is_at_most b a ≡ true
the_other a b is = grind (arith, nat_tests)

-- ---- heads and rows

-- a head under a later promise
pub promised_is : (head : FileHead) (epoch : Epoch) → FitsHead head → FitsEpoch epoch → is_at_most head.promised epoch ≡ true → FitsHead (record head { promised = epoch })
promised_is head epoch is fits above = record {
  promise = fits;
  place = is.place;
  operation = is.operation;
  after = is.after;
  objects = is.objects;
  clients = is.clients;
  kept = at_most_along head.stamp.epoch head.promised epoch is.kept above;
}

-- the head that a list begins with, under the later one of two promises
installed_is : (own head : FileHead) → FitsHead own → FitsHead head → FitsHead (head_installed own head)
installed_is own head is whole = at (is_at_most own.promised head.promised) refl
  where
    at : (later : Bool) → is_at_most own.promised head.promised ≡ later → FitsHead (record head { promised = cond later head.promised own.promised })
    at true later = promised_is head head.promised whole whole.promise (itself head.promised)
    at false earlier = promised_is head own.promised whole is.promise (the_other own.promised head.promised earlier)

-- what a file begins as
new_head_is : FitsHead new_head
new_head_is = record {
  promise = record { place = omega arith; primary = omega arith };
  place = record { tenure = record { place = omega arith; primary = omega arith }; writes = omega arith };
  operation = record { who = omega arith; operation = omega arith };
  after = record { truncation = omega arith; bytes = omega arith };
  objects = record { few = omega arith; each = tt; rising = refl };
  clients = record { few = omega arith; each = tt; rising = refl };
  kept = refl;
}

pub new_row_is : (file : FileId) → FitsFile file → RowIs (new_row file)
new_row_is file which = record { which = which; stands = new_head_is; place = tt }

pub lists_of : (head : FileHead) → FitsHead head → FitsLists head
lists_of head is = record { promise = is.promise; objects = is.objects.each; clients = is.clients.each; rising = record { versions = is.objects.rising; sessions = is.clients.rising } }

-- a row after a record in its place
pub row_is : (row : FileRow) (rec : Record) → RowIs row → RecordIs row rec → RowIs (row_after row rec)
row_is row (kept.Promise file epoch) is next = record { which = is.which; stands = promised_is row.head epoch is.stands next.limits.1 next.place; place = is.place }
row_is row (kept.Update file update) is next = record { which = is.which; stands = next.place.2; place = is.place }
row_is row (kept.OldUpdate file update) is next = record { which = is.which; stands = next.place.2; place = is.place }
row_is row (kept.Head file head) is next = record { which = is.which; stands = next.limits.1; place = is.place }
row_is row (kept.OldHead file head) is next = record { which = is.which; stands = next.limits.1.fits; place = is.place }
row_is row (kept.View file location) is next = record { which = is.which; stands = is.stands; place = next.limits.1 }
row_is row (kept.Install file location head) is next = record { which = is.which; stands = installed_is row.head head is.stands next.limits.2; place = next.limits.1 }
row_is row (kept.OldInstall file location head) is next = record { which = is.which; stands = installed_is row.head head is.stands next.limits.2.fits; place = next.limits.1 }
row_is row (kept.Forget file) is next = new_row_is row.file is.which
row_is row _ is next = record { which = is.which; stands = is.stands; place = is.place }

pub kept_is : (row : FileRow) (rec : Option Record) → RowIs row → NextIs row rec → RowIs (kept_after row rec)
kept_is row None is next = is
kept_is row (Some rec) is next = row_is row rec is next

-- ---- what a row of a replica gives

pub record ActedIs (row : FileRow) (acted : Acted) : Type 0 where
  pub next : NextIs row acted.rec
  pub answer : IfSome acted.answer FitsPayload

-- versions of which none is missing are held
none_missing : (held vs : List ObjectVersion) → first_missing held vs ≡ None → AllByRecursion (Contains held) vs
none_missing held [] none = tt
none_missing held (v ∷ vs) none = at (has_version held v) refl none (none_missing held vs)
  where
    at : (b : Bool) → has_version held v ≡ b → cond (not b) (Some v) (first_missing held vs) ≡ None → (first_missing held vs ≡ None → AllByRecursion (Contains held) vs) → Contains held v × AllByRecursion (Contains held) vs
    at true is rest later = ((is_among held v true (sym is)).0 refl, later rest)
    at false is rest later = absurd cc

pub room_of : (head : FileHead) (update : Update) → head_fits (head_after head update) ≡ true → HasRoomFor head update
room_of head update fits =
    let after = head_after head update in
    let parts = and_parts (nat_le (length after.versions) OBJECTS && nat_le (length after.sessions) CLIENTS) (nat_lt after.stamp.count COUNTS) fits in
    let lists = and_parts (nat_le (length after.versions) OBJECTS) (nat_le (length after.sessions) CLIENTS) parts.0 in
    (at_most (length after.versions) OBJECTS lists.0, at_most (length after.sessions) CLIENTS lists.1)
  where
    at_most : (a b : ℕ) → nat_le a b ≡ true → a ≤ b
    at_most a b le = grind (arith, nat_tests)

module _ (row : FileRow) (is : RowIs row) where
  abbrev Acts : Acted → Type 0
  Acts acted = ActedIs row acted

  as_promised_is : (epoch : Epoch) (acted : Acted) → FitsEpoch epoch → (is_earlier epoch row.head.promised ≡ false → is_earlier row.head.promised epoch ≡ false → Acts acted) → Acts (as_promised row.file row.head epoch acted)
  as_promised_is epoch acted fits then =
      when Acts (is_earlier epoch row.head.promised) (refused row.file row.head epoch) (cond (is_earlier row.head.promised epoch) (behind row.file row.head epoch) acted)
      (λ low. record { next = tt; answer = (is.which, fits, is.stands.promise) })
      (λ early. when Acts (is_earlier row.head.promised epoch) (behind row.file row.head epoch) acted
      (λ late. record { next = tt; answer = (is.which, fits, is.stands.place) }) (λ late. then early late))

  pub gathers : (epoch : Epoch) → FitsEpoch epoch → Acts (gathered row.file row.head epoch)
  unfolding gathered
  gathers epoch fits =
      either Acts (is_earlier epoch row.head.promised) _ _
      (record { next = tt; answer = (is.which, fits, is.stands.promise) })
      (when Acts (is_earlier row.head.promised epoch) _ _
      (λ later.
      let above = earlier_at_most row.head.promised epoch later in
      record {
        next = record { limits = (is.which, fits); own = refl; place = above };
        answer = (is.which, fits, promised_is row.head epoch is.stands fits above);
      })
      (λ same. record { next = tt; answer = (is.which, fits, is.stands) }))

  pub fetches_from : (body : ℕ → Stamp → List ℕ) (epoch : Epoch) (object : ℕ) (version : Stamp) → AreBodies body → FitsEpoch epoch → IsObject object → FitsStamp version
      → FitsPayload (fetched_from row.file row.held body epoch object version)
  unfolding fetched_from
  fetches_from body epoch object version bodies fits small place =
      either FitsPayload (has_version row.held (body_of object version)) (payload.Object row.file epoch object version (body object version)) (payload.Missing row.file epoch object version)
      (is.which, fits, small, place, bodies object version) (is.which, fits, small, place)

  pub stages : (epoch : Epoch) (object : ℕ) (version : Stamp) (bytes : List ℕ) → FitsEpoch epoch → IsObject object → FitsStamp version → FitsBytes bytes
      → Acts (staged row.file row.head row.held epoch object version bytes)
  unfolding staged
  stages epoch object version bytes fits small place few =
      as_promised_is epoch (record { rec = stage_record row.file row.held object version bytes; answer = Some (payload.Staged row.file epoch object version) }) fits
      (λ early late. record {
        next = either (NextIs row) (has_version row.held (body_of object version)) None (Some (kept.Stage row.file object version bytes)) tt
            (record { limits = (is.which, small, place, few); own = refl; place = tt });
        answer = (is.which, fits, small, place);
      })

  takes : (epoch : Epoch) (head : FileHead) (o : Option ObjectVersion) → first_missing row.held head.versions ≡ o → IfSome o FitsVersion → FitsEpoch epoch → FitsHead head → Acts (head_taken row.file epoch head o)
  takes epoch head None none lacks fits whole = record {
    next = record { limits = (is.which, whole); own = refl; place = All-from_recursion (Contains row.held) head.versions (none_missing row.held head.versions none) };
    answer = (is.which, whole.place);
  }
  takes epoch head (Some v) none lacks fits whole = record { next = tt; answer = (is.which, fits, lacks.which, lacks.write) }

  missing_is : (vs : List ObjectVersion) → AllByRecursion FitsVersion vs → IfSome (first_missing row.held vs) FitsVersion
  missing_is [] all = tt
  missing_is (v ∷ vs) all = either (λ o. IfSome o FitsVersion) (not (has_version row.held v)) (Some v) (first_missing row.held vs) all.0 (missing_is vs all.1)

  pub takes_head : (epoch : Epoch) (head : FileHead) → FitsEpoch epoch → FitsHead head → Acts (headed row.file row.head row.held epoch head)
  unfolding headed
  takes_head epoch head fits whole =
      either Acts (is_epoch head.promised epoch && is_epoch head.stamp.epoch epoch) _ _
      (as_promised_is epoch (head_offered row.file row.head row.held epoch head) fits
      (λ early late. either Acts (is_below row.head.stamp head.stamp) (head_taken row.file epoch head (first_missing row.held head.versions)) (only (payload.Ack row.file head.stamp))
      (takes epoch head (first_missing row.held head.versions) refl (missing_is head.versions whole.objects.each) fits whole)
      (record { next = tt; answer = (is.which, whole.place) })))
      (record { next = tt; answer = tt })

  same_count : (a b : ℕ) → (a == b) ≡ true → a ≡ b
  same_count a b same = eqb-true a b same

  next_is : (update : Update) → FitsUpdate update → update.stamp.epoch ≡ row.head.promised → update.stamp.count ≡ row.head.stamp.count + 1 → Acts (next_update row.file row.head update)
  next_is update fits epoch count =
      when Acts (head_fits (head_after row.head update)) _ _
      (λ room. record {
        next = record {
          limits = (is.which, fits);
          own = refl;
          place = (follows row.head update (lists_of row.head is.stands) fits (inl epoch, count)).0 (room_of row.head update room);
        };
        answer = (is.which, fits.place);
      })
      (λ full. record { next = tt; answer = tt })

  pub takes_update : (update : Update) → FitsUpdate update → Acts (updated row.file row.head update)
  unfolding updated
  takes_update update fits =
      as_promised_is update.stamp.epoch (update_offered row.file row.head update) fits.place.tenure
      (λ early late.
      either Acts (not (is_epoch row.head.stamp.epoch update.stamp.epoch)) _ _ lags
      (either Acts (nat_le update.stamp.count row.head.stamp.count) _ _ (record { next = tt; answer = (is.which, fits.place) })
      (when Acts (update.stamp.count == row.head.stamp.count + 1) _ _
      (λ same. next_is update fits (is_one update.stamp.epoch row.head.promised early late) (same_count update.stamp.count (row.head.stamp.count + 1) same))
      (λ other. lags))))
    where
      lags : Acts (behind row.file row.head update.stamp.epoch)
      lags = record { next = tt; answer = (is.which, fits.place.tenure, is.stands.place) }
