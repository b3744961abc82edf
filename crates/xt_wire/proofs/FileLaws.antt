-- locations, capabilities, operations, updates and heads
use Rattle.std.proofs.Common.{◌≡◌, ◌≢◌, ℕ, zero, suc, eq-eqb, ◌^◌, ◌<◌, ◌≤◌, ◌%◌, ◌&&◌, Bool, true, false, cond, not, eqb, ltb, leb, List, ◌++◌, length, map, Ok, refl, sym, ap, subst, ◌∙◌, arith, inl, inr, lit<}
use Rattle.xt_base.specs.declared.ids.NodeId.{NodeId}
use Rattle.xt_messages.specs.declared.file.Kind.{Kind}
use Rattle.xt_messages.specs.declared.file.Location.{Location}
use Rattle.xt_messages.specs.declared.file.Capability.{Capability}
use Rattle.xt_messages.specs.declared.file.Op.{Op}
use Rattle.xt_messages.specs.declared.file.Update.{Update}
use Rattle.xt_messages.specs.declared.file.ObjectVersion.{ObjectVersion}
use Rattle.xt_messages.specs.declared.file.Session.{Session}
use Rattle.xt_messages.specs.declared.file.FileHead.{FileHead}
use Rattle.xt_messages.specs.declared.file.Kind.TheVariants.{Replicated, Striped}
use Rattle.xt_messages.specs.declared.file.Op.TheVariants as op
use Rattle.std.proofs.lemmas.Bool.{eqb-true, ne_eqb, eqb-false, leb-true, lt-ltb, ltb-true}
use Rattle.std.proofs.Math.Dec.{eqb-suc-zero}
use Rattle.xt_base.specs.MemberList.{are_members, are_distinct}
use Rattle.xt_base.specs.declared.TheConstants.{NO_OBJECT}
use Rattle.xt_base.specs.FieldLimits.{FitsBytes}
use Rattle.xt_messages.specs.Limits.{rise, is_at_most, IsObjectOrNone, FitsMembers, FitsStripe, FitsLocation, FitsCapability, FitsOp, FitsUpdate, FitsVersion, FitsSession, FitsVersions, FitsSessions, FitsHead}
use Rattle.xt_fields.specs.BasicFields.{word_bytes, long_bytes, octets_bytes, byte_at, long_at, tagged}
use Rattle.xt_wire.specs.FileFields.{kind_bytes, kind_arms, kind_at, version_at, stripe_at, members_bytes, members_at, location_bytes, location_at, capability_bytes, capability_at, op_bytes, read_op_at, some_octets_at, write_op_at, truncate_op_at, op_arms, op_at, update_bytes, has_its_body, update_at, object_version_bytes, object_version_at, session_bytes, session_at, versions_bytes, versions_at, sessions_bytes, sessions_at, head_bytes, head_at}
use Rattle.xt_fields.specs.OneSpelling.{IsField, Taken}
use Rattle.xt_fields.proofs.Laws.{IsArm, AreArms, both, made_field, fit_field, as_field, arm, lone_arm, arm_again, no_more, or_arm, bind_ok, ok_is, and_is}
use Rattle.xt_fields.proofs.BasicLaws.{byte_field, word_field, long_field, count_field, body_field, tag_field, within_byte, within_word, counted_field, tagged_field}
use Rattle.xt_wire.proofs.IdLaws.{node_field, file_field, epoch_field, stamp_field, op_id_field, mark_field}

abbrev Fits_any : Kind → Type 0
Fits_any kind = Unit {0}

pub kind_arms_take : AreArms kind_bytes Fits_any kind_arms
unfolding kind_arms
kind_arms_take = or_arm 1 (lone_arm 1 Replicated refl tt) (or_arm 2 (lone_arm 2 Striped refl tt) no_more)

kind_again : (b : Kind) (rest : List ℕ) → Fits_any b → tagged kind_arms (kind_bytes b ++ rest) ≡ Ok (b, rest)
unfolding byte_at kind_arms
kind_again Replicated rest h = refl
kind_again Striped rest h = refl

pub kind_field : IsField kind_bytes Fits_any kind_at
unfolding kind_at
kind_field = tagged_field kind_arms_take kind_again

pub version_field : IsField word_bytes (λ n. n < 2 ^ 31) version_at
unfolding version_at
version_field = as_field (λ n h. ltb-true _ _ h.1) (λ n h. (omega arith, lt-ltb _ _ h)) (fit_field (λ n. ltb n (2 ^ 31)) word_field)

pub stripe_field : IsField word_bytes FitsStripe stripe_at
unfolding stripe_at
stripe_field = as_field
    (λ n h. record { least = h.0.0; most = h.0.1; step = eqb-true _ _ h.1 })
    (λ n h. ((h.least, h.most), eq-eqb _ _ h.step))
    (fit_field (λ n. eqb (n % 1024) 0) (within_word 1024 131072 (lit< tt)))

pub members_few : (nodes : List NodeId) → are_members nodes ≡ true → length nodes ≤ 9
members_few nodes h =
    let few = and_is (leb 1 (length nodes) && leb (length nodes) 9) (are_distinct nodes) h in
    leb-true _ _ (and_is (leb 1 (length nodes)) (leb (length nodes) 9) few.0).1

pub members_field : IsField members_bytes FitsMembers members_at
unfolding members_at
members_field = as_field
    (λ nodes h. record { different = h.1; each = h.0.each })
    (λ nodes h. (record { few = members_few nodes h.different; each = h.each }, h.different))
    (fit_field are_members (counted_field 9 (2 ^ 8) (lit< tt) byte_field node_field))

pub location_field : IsField location_bytes FitsLocation location_at
unfolding location_at
location_field = as_field
    (λ l h. record { changes = h.0.0.0; size = h.0.1; nodes = h.1 })
    (λ l h. (((h.changes, tt), h.size), h.nodes))
    (made_field (λ l. record { version = l.0.0.0; kind = l.0.0.1; stripe = l.0.1; members = l.1 }) (λ (l : Location). (((l.version, l.kind), l.stripe), l.members)) (λ a. refl) (λ b. refl)
    (both (both (both version_field kind_field) stripe_field) members_field))

pub capability_field : IsField capability_bytes FitsCapability capability_at
unfolding capability_at
capability_field = as_field
    (λ c h. record { subject = h.0.0.0.0.0; low = h.0.0.0.0.1.0; high = h.0.0.0.0.1.1; clock = h.0.0.0.1; truncation = h.0.0.1; place = h.0.1; seal = h.1 })
    (λ c h. (((((h.subject, (h.low, h.high)), h.clock), h.truncation), h.place), h.seal))
    (made_field (λ c. record { file = c.0.0.0.0.0; mode = c.0.0.0.0.1; expiry = c.0.0.0.1; epoch = c.0.0.1; location = c.0.1; tag = c.1 })
    (λ (c : Capability). (((((c.file, c.mode), c.expiry), c.epoch), c.location), c.tag)) (λ a. refl) (λ b. refl)
    (both (both (both (both (both file_field (within_byte 1 2 (lit< tt))) long_field) count_field) location_field) tag_field))

-- ---- operations

pub record FitsSome (bytes : List ℕ) : Type 0 where
  pub all : FitsBytes bytes
  pub least : 1 ≤ length bytes

not_none : (n : ℕ) → not (eqb n 0) ≡ true → 1 ≤ n
not_none zero h = absurd cc
not_none (suc n) h = omega arith

some_not : (n : ℕ) → 1 ≤ n → not (eqb n 0) ≡ true
some_not zero h = absurd (omega arith)
some_not (suc n) h = rw eqb-suc-zero refl

some_octets_field : IsField octets_bytes FitsSome some_octets_at
unfolding some_octets_at
some_octets_field = as_field
    (λ b h. record { all = h.0; least = not_none (length b) h.1 })
    (λ b h. (h.all, some_not (length b) h.least))
    (fit_field (λ bytes. not (eqb (length bytes) 0)) body_field)

read_op_arm : IsArm op_bytes FitsOp 1 read_op_at
unfolding read_op_at
read_op_arm = arm 1 (both (both long_field word_field) (within_word 1 131072 (lit< tt))) (λ f. op.Read f.0.0 f.0.1 f.1) (λ a. refl) (λ a h. assumption)

write_op_arm : IsArm op_bytes FitsOp 2 write_op_at
unfolding write_op_at
write_op_arm = arm 2 (both (both long_field word_field) some_octets_field) (λ f. op.Write f.0.0 f.0.1 f.1) (λ a. refl) (λ a h. assumption)

truncate_op_arm : IsArm op_bytes FitsOp 3 truncate_op_at
unfolding truncate_op_at
truncate_op_arm = arm 3 long_field op.Truncate (λ a. refl) (λ a h. assumption)

pub op_arms_take : AreArms op_bytes FitsOp op_arms
unfolding op_arms
op_arms_take = or_arm 1 read_op_arm (or_arm 2 write_op_arm (or_arm 3 truncate_op_arm no_more))

op_again : (b : Op) (rest : List ℕ) → FitsOp b → tagged op_arms (op_bytes b ++ rest) ≡ Ok (b, rest)
unfolding byte_at op_arms read_op_at write_op_at truncate_op_at
op_again (op.Read object at len) rest h = arm_again (both (both long_field word_field) (within_word 1 131072 (lit< tt))) (λ f. op.Read f.0.0 f.0.1 f.1) ((object, at), len) rest assumption
op_again (op.Write object at bytes) rest h = arm_again (both (both long_field word_field) some_octets_field) (λ f. op.Write f.0.0 f.0.1 f.1) ((object, at), bytes) rest assumption
op_again (op.Truncate size) rest h = arm_again long_field op.Truncate size rest assumption

pub op_field : IsField op_bytes FitsOp op_at
unfolding op_at
op_field = tagged_field op_arms_take op_again

-- ---- updates

-- each number of 64 bits is an object, or the one that stands for none
meant : (n : ℕ) (same : Bool) → eqb n NO_OBJECT ≡ same → n < 2 ^ 64 → IsObjectOrNone n
meant n true e lt = inr (eqb-true n NO_OBJECT e)
meant n false e lt = inl (let other : n ≢ NO_OBJECT = eqb-false _ _ e in omega arith)

short : (n : ℕ) → IsObjectOrNone n → n < 2 ^ 64
short n (inl lt) = omega arith
short n (inr none) = omega arith

pub slot_field : IsField long_bytes IsObjectOrNone long_at
slot_field = as_field (λ n h. meant n (eqb n NO_OBJECT) refl h) short long_field

agree : (a b : Bool) → cond a b (not b) ≡ true → a ≡ b
agree true b h = sym h
agree false true h = absurd cc
agree false false h = refl

agreed : (a b : Bool) → a ≡ b → cond a b (not b) ≡ true
agreed true b h = sym h
agreed false true h = absurd cc
agreed false false h = refl

pub update_field : IsField update_bytes FitsUpdate update_at
unfolding update_at
update_field = as_field
    (λ u h. record { place = h.0.0.0.0.0.0; operation = h.0.0.0.0.0.1; after = h.0.0.0.0.1; drops = h.0.0.0.1; gets = h.0.0.1; bytes = h.0.1; empty = agree (eqb (length u.body) 0) (eqb u.object NO_OBJECT) h.1 })
    (λ u h. ((((((h.place, h.operation), h.after), h.drops), h.gets), h.bytes), agreed (eqb (length u.body) 0) (eqb u.object NO_OBJECT) h.empty))
    (fit_field has_its_body
    (made_field (λ u. record { stamp = u.0.0.0.0.0; id = u.0.0.0.0.1; mark = u.0.0.0.1; drop_from = u.0.0.1; object = u.0.1; body = u.1 })
    (λ (u : Update). (((((u.stamp, u.id), u.mark), u.drop_from), u.object), u.body)) (λ a. refl) (λ b. refl)
    (both (both (both (both (both stamp_field op_id_field) mark_field) slot_field) slot_field) body_field)))

-- ---- heads

pub object_version_field : IsField object_version_bytes FitsVersion object_version_at
unfolding object_version_at
object_version_field = as_field (λ v h. assumption) (λ v h. assumption)
    (made_field (λ v. record { object = v.0; version = v.1 }) (λ (v : ObjectVersion). (v.object, v.version)) (λ a. refl) (λ b. refl) (both long_field stamp_field))

pub session_field : IsField session_bytes FitsSession session_at
unfolding session_at
session_field = as_field
    (λ s h. record { who = h.0.0; operation = h.0.1; writes = h.1 })
    (λ s h. ((h.who, h.operation), h.writes))
    (made_field (λ s. record { client = s.0.0; number = s.0.1; count = s.1 }) (λ (s : Session). ((s.client, s.number), s.count)) (λ a. refl) (λ b. refl) (both (both node_field count_field) count_field))

pub versions_field : IsField versions_bytes FitsVersions versions_at
unfolding versions_at
versions_field = as_field
    (λ vs h. record { few = h.0.few; each = h.0.each; rising = h.1 })
    (λ vs h. (record { few = h.few; each = h.each }, h.rising))
    (fit_field (λ versions. rise (map (λ v. v.object) versions)) (counted_field 16384 (2 ^ 32) (lit< tt) word_field object_version_field))

pub sessions_field : IsField sessions_bytes FitsSessions sessions_at
unfolding sessions_at
sessions_field = as_field
    (λ ss h. record { few = h.0.few; each = h.0.each; rising = h.1 })
    (λ ss h. (record { few = h.few; each = h.each }, h.rising))
    (fit_field (λ sessions. rise (map (λ s. s.client.0) sessions)) (counted_field 256 (2 ^ 32) (lit< tt) word_field session_field))

pub head_field : IsField head_bytes FitsHead head_at
unfolding head_at
head_field = as_field
    (λ d h. record { promise = h.0.0.0.0.0.0; place = h.0.0.0.0.0.1; operation = h.0.0.0.0.1; after = h.0.0.0.1; objects = h.0.0.1; clients = h.0.1; kept = h.1 })
    (λ d h. ((((((h.promise, h.place), h.operation), h.after), h.objects), h.clients), h.kept))
    (fit_field (λ h. is_at_most h.stamp.epoch h.promised)
    (made_field (λ h. record { promised = h.0.0.0.0.0; stamp = h.0.0.0.0.1; last = h.0.0.0.1; mark = h.0.0.1; versions = h.0.1; sessions = h.1 })
    (λ (h : FileHead). (((((h.promised, h.stamp), h.last), h.mark), h.versions), h.sessions)) (λ a. refl) (λ b. refl)
    (both (both (both (both (both epoch_field stamp_field) op_id_field) mark_field) versions_field) sessions_field)))
