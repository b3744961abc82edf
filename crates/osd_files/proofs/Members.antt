-- an ask on a striped file: what the replica takes is within its limits, and the step is the row's
use Rattle.std.proofs.Common.{◌≡◌, ◌∙◌, ◌<◌, ◌≤◌, ◌^◌, ◌-◌, inl, inr, ℕ, Bool, true, false, refl, ap, sym, subst, List, length, arith, nat_lt, nat_le, cond, max}
use Rattle.std.specs.Prelude.{Option, Some, None, IfSome, ◌+◌, ◌*◌, ◌/◌, ◌&&◌, if◌then◌else◌}
use Rattle.std.proofs.Math.Nat.{mul-le-mul, div-le_of_le-mul}
use Rattle.std.proofs.lemmas.Bool.{and_parts}
use Rattle.std.proofs.lemmas.Bool.Decides.{nat_tests}
use Rattle.xt_base.specs.MemberList.{are_distinct}
use Rattle.xt_base.specs.FieldLimits.{IsCount}
use Rattle.xt_base.specs.declared.ids.Epoch.{Epoch}
use Rattle.xt_base.specs.declared.ids.Stamp.{Stamp}
use Rattle.xt_base.specs.declared.ids.OpId.{OpId}
use Rattle.xt_base.specs.declared.TheConstants.{OBJECTS, COUNTS, NO_OBJECT}
use Rattle.xt_messages.specs.Limits.{FitsHead, FitsOpId, FitsOp, FitsCapability, FitsLocation, FitsStamp, IsObjectOrNone, is_at_most}
use Rattle.xt_messages.specs.declared.file.Location.{Location}
use Rattle.xt_messages.specs.declared.file.Capability.{Capability}
use Rattle.xt_messages.specs.declared.file.FileHead.{FileHead}
use Rattle.xt_messages.specs.declared.file.Update.{Update}
use Rattle.xt_messages.specs.declared.file.Op.{Op}
use Rattle.xt_messages.specs.declared.file.Op.TheVariants as op
use Rattle.xt_messages.specs.declared.reply.Denial.{Denial}
use Rattle.xt_messages.specs.declared.reply.Denial.TheVariants as denial
use Rattle.xt_messages.specs.declared.reply.Reply.{Reply}
use Rattle.xt_messages.specs.declared.reply.Reply.TheVariants as reply
use Rattle.xt_messages.specs.declared.record.FileRow.{FileRow}
use Rattle.xt_protocol.specs.declared.states.Acted.{Acted}
use Rattle.xt_protocol.specs.AskRows.{capability_refused, leaves_object}
use Rattle.xt_protocol.specs.FileStates.{Site}
use Rattle.xt_protocol.specs.Heads.{plain_stamp, first_epoch, version_of, head_after}
use Rattle.xt_protocol.specs.Objects.{present_body}
use Rattle.xt_protocol.specs.StripedRows.{capability_range_list, range_and_list, striped_refusal, member_acts, to_client, handle_striped}
use Rattle.xt_protocol.specs.PlainRows.{only, plain_step}
use Rattle.xt_protocol.specs.Writes.{too_far, cuts_body, update_of}
use Rattle.osd_decisions.proofs.Near.{near_object, standing_near}
use Rattle.replica_state.specs.Kept.{IsNotable}
use Rattle.replica_state.proofs.HeadFits.{FitsInHead, taken_fits}
use Rattle.osd_invariants.proofs.StripedAsks.{KeepsUpdate, striped_outcome}
use Rattle.osd_files.proofs.Owned.{either}

-- ---- let in

-- an ask that is let in stays in its object
pub stays_inside : (site : Site) (stored : Option Location) (capability : Capability) (asked : Op) → striped_refusal site stored capability asked ≡ None
    → leaves_object capability.location.stripe asked ≡ false
unfolding striped_refusal
stays_inside site stored capability asked none = by_capability (capability_refused site capability asked) none
  where
    at : (b : Bool) → leaves_object capability.location.stripe asked ≡ b → range_and_list stored (cond b (Some (reply.Denied denial.Range)) None) ≡ None
        → leaves_object capability.location.stripe asked ≡ false
    at true is none = absurd cc
    at false is none = is

    by_capability : (o : Option Denial) → capability_range_list stored capability asked o ≡ None → leaves_object capability.location.stripe asked ≡ false
    by_capability (Some why) none = absurd cc
    by_capability None none = at (leaves_object capability.location.stripe asked) refl none

-- ---- the update that it makes

near_size : (most stripe size : ℕ) → (if nat_lt most size then Some (size / stripe) else None) ≡ None → size ≤ most
near_size most stripe size near = at (nat_lt most size) refl near
  where
    at : (b : Bool) → nat_lt most size ≡ b → (if b then Some (size / stripe) else None) ≡ None → size ≤ most
    at true is none = absurd cc
    at false is none = grind (arith, nat_tests)

-- the size after a write is one of 64 bits
size_fits : (size objects object stripe end : ℕ) → size < 2 ^ 64 → object < objects → objects ≤ 147456 → stripe ≤ 131072 → end ≤ 131072 → max size (object * stripe + end) < 2 ^ 64
size_fits size objects object stripe end old below few short inside =
    let low : object ≤ 147456 = omega arith in
    let product : object * stripe ≤ 147456 * 131072 = mul-le-mul low short in
    omega (arith, product)

-- what the update is made from
record Makes (objects stripe : ℕ) (head : FileHead) (stamp : Stamp) (id : OpId) (epoch : ℕ) (asked : Op) : Type 0 where
  few : objects ≤ 147456
  short : stripe ≤ 131072
  whole : FitsHead head
  place : FitsStamp stamp
  who : FitsOpId id
  truncation : IsCount epoch
  limits : FitsOp asked
  inside : leaves_object stripe asked ≡ false
  near : too_far objects stripe asked ≡ None

abbrev IsTakenAt : Stamp → Update → Type 0
IsTakenAt stamp update = FitsInHead update × (update.stamp ≡ stamp)

stays_short : (stripe end : ℕ) → nat_lt stripe end ≡ false → stripe ≤ 131072 → end ≤ 131072
stays_short stripe end within short = grind (arith, nat_tests)

taken_at : (objects stripe : ℕ) (body : ℕ → Stamp → List ℕ) (head : FileHead) (stamp : Stamp) (id : OpId) (epoch : ℕ) (asked : Op) → Makes objects stripe head stamp id epoch asked
    → IfSome (update_of stripe body head stamp id epoch asked) (IsTakenAt stamp)
taken_at objects stripe body head stamp id epoch (op.Read object at len) is = tt
taken_at objects stripe body head stamp id epoch (op.Write object at bytes) is =
    let below : object < objects = near_object objects object is.near in
    let inside : at + length bytes ≤ 131072 = stays_short stripe (at + length bytes) is.inside is.short in
    let size : max head.mark.size (object * stripe + (at + length bytes)) < 2 ^ 64 =
    size_fits head.mark.size objects object stripe (at + length bytes) is.whole.after.bytes below is.few is.short inside in (
      record {
        place = is.place;
        operation = is.who;
        after = record { truncation = is.whole.after.truncation; bytes = summed head.mark.size (object * stripe) at (length bytes) size };
        gets = inl (let few : objects ≤ 147456 = is.few in omega (arith, below, few));
      },
      refl,
    )
  where
    summed : (size place at len : ℕ) → max size (place + (at + len)) < 2 ^ 64 → max size (place + at + len) < 2 ^ 64
    summed size place at len less = omega arith
taken_at objects stripe body head stamp id epoch (op.Truncate size) is =
    let last = size / stripe in
    let old = present_body body (version_of head.versions last) last in
    let most : size ≤ objects * stripe = near_size (objects * stripe) stripe size is.near in (
      record {
        place = is.place;
        operation = is.who;
        after = record { truncation = is.truncation; bytes = is.limits };
        gets = either IsObjectOrNone (cuts_body stripe size old) last NO_OBJECT (inl (below size most is.few)) (inr refl);
      },
      refl,
    )
  where
    below : (size : ℕ) → size ≤ objects * stripe → objects ≤ 147456 → size / stripe < 2 ^ 64 - 1
    below size most few =
        let least : size / stripe ≤ objects = div-le_of_le-mul stripe (swapped size objects stripe most) in
        omega (arith, least, few)
      where
        swapped : (size a b : ℕ) → size ≤ a * b → size ≤ b * a
        swapped size a b le = grind (arith)

-- no primary's epoch is above any that was promised
first_at_most : (e : Epoch) → is_at_most first_epoch e ≡ true
first_at_most e = grind (arith, nat_tests)

few_members : (location : Location) → FitsLocation location → length location.members ≤ 9
few_members location fits =
    let members = location.members in
    let lengths = and_parts (nat_le 1 (length members) && nat_le (length members) 9) (are_distinct members) fits.nodes.different in
    let few : nat_le (length members) 9 ≡ true = (and_parts (nat_le 1 (length members)) (nat_le (length members) 9) lengths.0).1 in
    grind (arith, nat_tests, few)

-- The replica, which has the head that is kept, may take what is recorded.
pub notable : (site : Site) (own row : FileRow) (id : OpId) (capability : Capability) (asked : Op) → row.head ≡ own.head → FitsHead row.head → FitsOpId id → FitsCapability capability
    → FitsOp asked → IfSome (handle_striped site row id capability asked).rec (IsNotable own)
notable site own row id capability asked same whole who seal limits =
    striped_outcome (λ (acted : Acted). IfSome acted.rec (IsNotable own)) site row id capability asked
    (record {
      nothing = tt;
      tells = λ answer. tt;
      keeps = λ update is. subst (λ (head : FileHead). FitsHead (head_after head update)) same (keeps update is);
    })
  where
    keeps : (update : Update) → KeepsUpdate site row id capability asked update → FitsHead (head_after row.head update)
    keeps update is =
        let stamp = plain_stamp (row.head.stamp.count + 1) in
        let members = few_members capability.location seal.place in
        let taken : IsTakenAt stamp update =
        subst (λ (o : Option Update). IfSome o (IsTakenAt stamp)) is.made
        (taken_at (OBJECTS * length capability.location.members) capability.location.stripe (site.body row.file) row.head stamp id capability.epoch asked
        (record {
          few = few_objects (length capability.location.members) members;
          short = seal.place.size.most;
          whole = whole;
          place = record { tenure = record { place = omega arith; primary = omega arith }; writes = left (row.head.stamp.count + 1) is.left };
          who = who;
          truncation = seal.truncation;
          limits = limits;
          inside = is.goes.inside;
          near = standing_near (OBJECTS * length capability.location.members) capability.location.stripe row.head capability.epoch asked id is.stands;
        }))
        in
        taken_fits row.head update whole taken.0
        (ap (λ (s : Stamp). is_at_most s.epoch row.head.promised) taken.1 ∙ first_at_most row.head.promised) is.fits
      where
        few_objects : (n : ℕ) → n ≤ 9 → OBJECTS * n ≤ 147456
        few_objects n few = omega arith

        left : (n : ℕ) → nat_lt n COUNTS ≡ true → IsCount n
        left n is = grind (arith, nat_tests)

-- ---- what comes of an ask

pub refused_row : (site : Site) (row : FileRow) (id : OpId) (capability : Capability) (asked : Op) (answer : Reply) → striped_refusal site row.location capability asked ≡ Some answer
    → to_client row.file id (only answer) ≡ handle_striped site row id capability asked
unfolding handle_striped
refused_row site row id capability asked answer is = ap (λ (o : Option Reply). to_client row.file id (member_acts site row id capability asked o)) (sym is)

pub let_in_row : (site : Site) (row : FileRow) (id : OpId) (capability : Capability) (asked : Op) → striped_refusal site row.location capability asked ≡ None
    → to_client row.file id (plain_step (record { file = row.file; node = site.node; head = row.head }) (site.body row.file) id capability.epoch capability.location asked)
    ≡ handle_striped site row id capability asked
unfolding handle_striped
let_in_row site row id capability asked is = ap (λ (o : Option Reply). to_client row.file id (member_acts site row id capability asked o)) (sym is)
