-- what a read shows, what a write is answered, and the update that it makes: all of it is within the limits
use Rattle.std.proofs.Common.{◌≡◌, ◌==◌, ◌&&◌, ◌<◌, ◌≤◌, ◌+◌, ◌*◌, ◌^◌, ◌-◌, max, inl, inr, ℕ, nat_lt, List, [], ◌∷◌, length, take, drop, refl, sym, ◌∙◌, Option, Some, None, Bool, true, false, if◌then◌else◌, arith}
use Rattle.std.specs.Prelude.{cond, ◌/◌, ◌%◌}
use Rattle.std.specs.Option.{IfSome}
use Rattle.std.specs.List.{AllByRecursion}
use Rattle.std.proofs.Math.Nat.{mul-le-mul}
use Rattle.std.proofs.lemmas.Bool.{and_parts}
use Rattle.std.proofs.lemmas.Bool.Decides.{nat_tests}
use Rattle.std.proofs.lemmas.List.{length-take}
use Rattle.std.proofs.lemmas.Nat.{div_below}
use Rattle.xt_base.specs.declared.TheConstants.{CLIENTS, NO_OBJECT}
use Rattle.xt_base.specs.declared.ids.OpId.{OpId}
use Rattle.xt_base.specs.declared.ids.Stamp.{Stamp}
use Rattle.xt_messages.specs.declared.file.FileHead.{FileHead}
use Rattle.xt_messages.specs.declared.file.Op.{Op}
use Rattle.xt_messages.specs.declared.file.Op.TheVariants as op
use Rattle.xt_messages.specs.declared.file.Session.{Session}
use Rattle.xt_messages.specs.declared.reply.Reply.TheVariants as reply
use Rattle.xt_base.specs.FieldLimits.{FitsBytes, IsCount}
use Rattle.xt_messages.specs.Limits.{FitsHead, FitsStamp, FitsOpId, FitsOp, FitsUpdate, FitsSession, FitsReply, IsObjectOrNone}
use Rattle.xt_base.specs.Overlay.{overlay, cut_or_filled}
use Rattle.xt_protocol.specs.Heads.{version_of, session_of}
use Rattle.xt_protocol.specs.Objects.{present_body, readable}
use Rattle.xt_protocol.specs.Writes.{bytes_shown, WriteStanding, repeated, older, turned_away, fresh, is_old_epoch, too_far, room_for_client, reach, judged, by_session, standing, written, objects_of, cuts_body, truncated, update_of}
use Rattle.object_versions.proofs.HeadLimits.{either}
use Rattle.client_limits.proofs.Bytes.{each_byte, are_bytes, each-take}
use Rattle.world_limits.proofs.Bytes.{each-drop, each-overlay, each-filled, length-filled, length-overlay}
use Rattle.world_limits.specs.States.{AreBodies, IsInside}

pub no_bytes : FitsBytes []
no_bytes = record { all = λ i. omega arith; few = omega arith }

pub present_is : (body : ℕ → Stamp → List ℕ) (version : Option Stamp) (object : ℕ) → AreBodies body → FitsBytes (present_body body version object)
present_is body None object bodies = no_bytes
present_is body (Some version) object bodies = bodies object version

-- ---- reads

pub filled_is : (bytes : List ℕ) (size : ℕ) → FitsBytes bytes → size ≤ 131072 → (at : ℕ) → FitsBytes (cut_or_filled (drop at bytes) size)
filled_is bytes size is short at = record {
  all = are_bytes _ (each-filled (drop at bytes) size (each-drop at bytes (each_byte bytes is.all)));
  few = omega (arith, length-filled (drop at bytes) size);
}

readable_is : (size stripe object at len : ℕ) → len ≤ 131072 → readable size stripe object at len ≤ 131072
readable_is size stripe object at len short = omega arith

pub shown_is : (stripe : ℕ) (body : ℕ → Stamp → List ℕ) (head : FileHead) (asked : Op) → AreBodies body → FitsOp asked → FitsBytes (bytes_shown stripe body head asked)
shown_is stripe body head (op.Read object at len) bodies fits =
    filled_is (present_body body (version_of head.versions object) object) (readable head.mark.size stripe object at len)
    (present_is body (version_of head.versions object) object bodies) (readable_is head.mark.size stripe object at len fits.3) at
shown_is stripe body head (op.Write object at bytes) bodies fits = no_bytes
shown_is stripe body head (op.Truncate size) bodies fits = no_bytes

-- ---- how a write stands

-- what is known of a write by how it stands, for a file of so many objects of this size
abbrev pub StandingIs : ℕ → ℕ → Op → WriteStanding → Type 0
StandingIs objects stripe asked (repeated count) = IsCount count
StandingIs objects stripe asked older = Unit {0}
StandingIs objects stripe asked (turned_away why) = FitsReply why
StandingIs objects stripe asked fresh = too_far objects stripe asked ≡ None

div_le : (size stripe : ℕ) → 1 ≤ stripe → size < 2 ^ 64 → size / stripe < 2 ^ 64
div_le size stripe some below = div_below size stripe (2 ^ 64) (omega arith) (at_least (2 ^ 64) stripe size some below)
  where
    at_least : (m k n : ℕ) → 1 ≤ k → n < m → n < m * k
    at_least m k n some below = (let more : m * 1 ≤ m * k = mul-le-mul (omega arith) some in omega (arith, more))

far_is : (objects stripe : ℕ) (asked : Op) → 1 ≤ stripe → FitsOp asked → IfSome (too_far objects stripe asked) (λ object. object < 2 ^ 64)
far_is objects stripe (op.Read object at len) some fits = tt
far_is objects stripe (op.Write object at bytes) some fits = either (λ o. IfSome o (λ n. n < 2 ^ 64)) (nat_lt object objects) None (Some object) tt fits.0
far_is objects stripe (op.Truncate size) some fits = either (λ o. IfSome o (λ n. n < 2 ^ 64)) (nat_lt (objects * stripe) size) (Some (size / stripe)) None (div_le size stripe some fits) tt

session_is : (sessions : List Session) (client : ℕ) → AllByRecursion FitsSession sessions → IfSome (session_of sessions client) FitsSession
session_is [] client all = tt
session_is (s ∷ ss) client all = either (λ o. IfSome o FitsSession) (s.client.0 == client) (Some s) (session_of ss client) all.0 (session_is ss client all.1)

module _ (objects stripe : ℕ) (head : FileHead) (epoch : ℕ) (asked : Op) (some : 1 ≤ stripe) (is : FitsHead head) (fits : FitsOp asked) where
  room_is : (o : Option Session) → too_far objects stripe asked ≡ None → StandingIs objects stripe asked (room_for_client head o)
  room_is (Some s) near = near
  room_is None near = either (StandingIs objects stripe asked) (nat_lt (length head.sessions) CLIENTS) fresh (turned_away reply.ClientsFull) near tt

  reach_is : (o : Option Session) (far : Option ℕ) → too_far objects stripe asked ≡ far → IfSome far (λ object. object < 2 ^ 64) → StandingIs objects stripe asked (reach head o far)
  reach_is o (Some object) is_far small = small
  reach_is o None is_far small = room_is o is_far

  judged_is : (o : Option Session) → StandingIs objects stripe asked (judged objects stripe head o epoch asked)
  judged_is o =
      either (StandingIs objects stripe asked) (is_old_epoch head.mark epoch asked) (turned_away (reply.OldEpoch head.mark.epoch)) (reach head o (too_far objects stripe asked))
      is.after.truncation (reach_is o (too_far objects stripe asked) refl (far_is objects stripe asked some fits))

  by_session_is : (o : Option Session) (number : ℕ) → IfSome o FitsSession → StandingIs objects stripe asked (by_session objects stripe head o number epoch asked)
  by_session_is None number known = judged_is None
  by_session_is (Some s) number known =
      either (StandingIs objects stripe asked) (number == s.number) (repeated s.count) (cond (nat_lt number s.number) older (judged objects stripe head (Some s) epoch asked)) known.writes
      (either (StandingIs objects stripe asked) (nat_lt number s.number) older (judged objects stripe head (Some s) epoch asked) tt (judged_is (Some s)))

  pub standing_is : (id : OpId) → StandingIs objects stripe asked (standing objects stripe head id epoch asked)
  unfolding standing
  standing_is id = by_session_is (session_of head.sessions id.client.0) id.number (session_is head.sessions id.client.0 is.clients.each)

-- ---- updates

-- the size after a write is small
size_is : (size object stripe at len : ℕ) → size < 2 ^ 64 → object < 147456 → stripe ≤ 131072 → at < 2 ^ 32 → len ≤ 131072 → max size (object * stripe + at + len) < 2 ^ 64
size_is size object stripe at len old few short place more =
    let low : object ≤ 147456 = omega arith in
    let product : object * stripe ≤ 147456 * 131072 = mul-le-mul low short in
    omega (arith, product)

near_object : (objects object : ℕ) → (if nat_lt object objects then None else Some object) ≡ None → object < objects
near_object objects object near = at (nat_lt object objects) refl near
  where
    at : (b : Bool) → nat_lt object objects ≡ b → (if b then None else Some object) ≡ None → object < objects
    at true is none = grind (arith, nat_tests)
    at false is none = absurd cc

near_size : (objects stripe size : ℕ) → (if nat_lt (objects * stripe) size then Some (size / stripe) else None) ≡ None → size ≤ objects * stripe
near_size objects stripe size near = at (objects * stripe) (nat_lt (objects * stripe) size) refl near
  where
    at : (most : ℕ) (b : Bool) → nat_lt most size ≡ b → (if b then Some (size / stripe) else None) ≡ None → size ≤ most
    at most true is none = absurd cc
    at most false is none = grind (arith, nat_tests)

not_empty : (bytes : List ℕ) → 1 ≤ length bytes → (length bytes == 0) ≡ false
not_empty bytes some = grind (arith, nat_tests)

real_object : (object : ℕ) → object ≤ 147456 → (object == NO_OBJECT) ≡ false
real_object object small = grind (arith, nat_tests)

-- what an update is made from; a striped file has as many objects as its members have, at most nine
pub record MakesUpdate (objects stripe : ℕ) (body : ℕ → Stamp → List ℕ) (head : FileHead) (stamp : Stamp) (id : OpId) (epoch : ℕ) (asked : Op) : Type 0 where
  pub few : objects ≤ 147456
  pub least : 1 ≤ stripe
  pub most : stripe ≤ 131072
  pub bodies : AreBodies body
  pub whole : FitsHead head
  pub place : FitsStamp stamp
  pub who : FitsOpId id
  pub truncation : IsCount epoch
  pub limits : FitsOp asked
  pub inside : IsInside asked
  pub near : too_far objects stripe asked ≡ None

written_is : (objects stripe : ℕ) (body : ℕ → Stamp → List ℕ) (head : FileHead) (stamp : Stamp) (id : OpId) (epoch object at : ℕ) (bytes : List ℕ)
    → MakesUpdate objects stripe body head stamp id epoch (op.Write object at bytes) → FitsUpdate (written stripe body head stamp id object at bytes)
written_is objects stripe body head stamp id epoch object at bytes is =
    let old = present_body body (version_of head.versions object) object in
    let held : FitsBytes old = present_is body (version_of head.versions object) object is.bodies in
    let few : length old ≤ 131072 = held.few in
    let inside : at + length bytes ≤ 131072 = is.inside in
    let size = length-overlay old at bytes 131072 few inside in
    let least : 1 ≤ length bytes = is.limits.3 in
    let most : length bytes ≤ length (overlay old at bytes) = size.0 in
    let near : object < objects = near_object objects object is.near in
    let below : object < 147456 = (let few : objects ≤ 147456 = is.few in omega (arith, near, few)) in
    record {
      place = is.place;
      operation = is.who;
      after = record { truncation = is.whole.after.truncation; bytes = size_is head.mark.size object stripe at (length bytes) is.whole.after.bytes below is.most is.limits.1 is.limits.2.few };
      drops = inr refl;
      gets = inl (omega arith);
      bytes = record { all = are_bytes _ (each-overlay old at bytes (each_byte old held.all) (each_byte bytes is.limits.2.all)); few = size.1 };
      empty = not_empty (overlay old at bytes) (omega (arith, least, most)) ∙ sym (real_object object (omega arith));
    }

-- the objects of a file that isn't too large
div_few : (objects size stripe : ℕ) → 1 ≤ stripe → objects ≤ 147456 → size ≤ objects * stripe → size / stripe ≤ 147456
div_few objects size stripe some few low =
    let product : objects * stripe ≤ 147456 * stripe = mul-le-mul few (omega arith) in
    let below : size / stripe < 147457 = div_below size stripe 147457 (omega arith) (omega (arith, low, product)) in
    omega arith

objects_few : (size stripe : ℕ) → size / stripe ≤ 147456 → objects_of stripe size < 2 ^ 64 - 1
objects_few size stripe few = either (λ n. n < 2 ^ 64 - 1) (size % stripe == 0) (size / stripe) (size / stripe + 1) (omega arith) (omega arith)

taken_some : (n : ℕ) (old : List ℕ) → (nat_lt 0 n && nat_lt n (length old)) ≡ true → 1 ≤ length (take n old)
taken_some n old cuts =
    let parts = and_parts (nat_lt 0 n) (nat_lt n (length old)) cuts in
    let some : 1 ≤ n = over 0 n parts.0 in
    let more : n + 1 ≤ length old = over n (length old) parts.1 in
    omega (arith, length-take n old, some, more)
  where
    over : (a b : ℕ) → nat_lt a b ≡ true → a + 1 ≤ b
    over a b less = grind (arith, nat_tests)

cut_empty : (cut : Bool) (taken : List ℕ) (last : ℕ) → (cut ≡ true → 1 ≤ length taken) → last ≤ 147456
    → (length (if cut then taken else []) == 0) ≡ ((if cut then last else NO_OBJECT) == NO_OBJECT)
cut_empty true taken last some few = not_empty taken (some refl) ∙ sym (real_object last few)
cut_empty false taken last some few = refl

truncated_is : (objects stripe : ℕ) (body : ℕ → Stamp → List ℕ) (head : FileHead) (stamp : Stamp) (id : OpId) (epoch size : ℕ)
    → MakesUpdate objects stripe body head stamp id epoch (op.Truncate size) → FitsUpdate (truncated stripe body head stamp id epoch size)
truncated_is objects stripe body head stamp id epoch size is =
    let last = size / stripe in
    let old = present_body body (version_of head.versions last) last in
    let held : FitsBytes old = present_is body (version_of head.versions last) last is.bodies in
    let cut = cuts_body stripe size old in
    let few : last ≤ 147456 = div_few objects size stripe is.least is.few (near_size objects stripe size is.near) in
    let part : FitsBytes (take (size % stripe) old) = taken_is (size % stripe) old held in
    record {
      place = is.place;
      operation = is.who;
      after = record { truncation = is.truncation; bytes = is.limits };
      drops = inl (objects_few size stripe few);
      gets = either IsObjectOrNone cut last NO_OBJECT (inl (omega arith)) (inr refl);
      bytes = either FitsBytes cut (take (size % stripe) old) [] part no_bytes;
      empty = cut_empty cut (take (size % stripe) old) last (taken_some (size % stripe) old) few;
    }
  where
    taken_is : (n : ℕ) (old : List ℕ) → FitsBytes old → FitsBytes (take n old)
    taken_is n old held = record { all = are_bytes _ (each-take n old (each_byte old held.all)); few = (let few : length old ≤ 131072 = held.few in omega (arith, length-take n old, few)) }

pub update_is : (objects stripe : ℕ) (body : ℕ → Stamp → List ℕ) (head : FileHead) (stamp : Stamp) (id : OpId) (epoch : ℕ) (asked : Op)
    → MakesUpdate objects stripe body head stamp id epoch asked → IfSome (update_of stripe body head stamp id epoch asked) FitsUpdate
update_is objects stripe body head stamp id epoch (op.Read object at len) is = tt
update_is objects stripe body head stamp id epoch (op.Write object at bytes) is = written_is objects stripe body head stamp id epoch object at bytes is
update_is objects stripe body head stamp id epoch (op.Truncate size) is = truncated_is objects stripe body head stamp id epoch size is
