-- what a member does with an ask, as a few cases
use Rattle.std.proofs.Common.{◌≡◌, ℕ, zero, suc, ◌+◌, ◌*◌, ◌%◌, ◌<◌, ◌≤◌, ◌⊎◌, inl, inr, Bool, true, false, List, [], ◌∷◌, length, drop, refl, ap, sym, ◌∙◌, subst, arith, ◌==◌, ◌&&◌, ◌||◌, cond, Option, Some, None}
use Rattle.std.specs.Prelude.{nat_lt, nat_le, not, slice_get, unwrap_or}
use Rattle.std.proofs.lemmas.Bool.Decides.{nat_tests}
use Rattle.std.proofs.lemmas.Bool.{eqb-true, eq-eqb, leb-true}
use Rattle.xt_base.specs.declared.ids.NodeId.{NodeId}
use Rattle.xt_base.specs.declared.ids.OpId.{OpId}
use Rattle.xt_base.specs.declared.ids.SizeMark.{SizeMark}
use Rattle.xt_base.specs.declared.TheConstants.{OBJECTS, CLIENTS, COUNTS}
use Rattle.xt_base.specs.Overlay.{cut_or_filled}
use Rattle.xt_base.specs.MemberList.{has_node, are_distinct, are_members}
use Rattle.xt_messages.specs.declared.file.FileHead.{FileHead}
use Rattle.xt_messages.specs.declared.file.Op.{Op}
use Rattle.xt_messages.specs.declared.file.Op.TheVariants as op
use Rattle.xt_messages.specs.declared.file.Session.{Session}
use Rattle.xt_messages.specs.declared.file.Update.{Update}
use Rattle.xt_messages.specs.declared.reply.Reply.{Reply}
use Rattle.xt_messages.specs.declared.reply.Reply.TheVariants as reply
use Rattle.xt_messages.specs.declared.reply.Denial.TheVariants as denial
use Rattle.xt_messages.specs.declared.record.Record.TheVariants as kept
use Rattle.xt_protocol.specs.Heads.{plain_stamp, head_after, session_of}
use Rattle.xt_protocol.specs.ReplicaRows.{head_fits}
use Rattle.xt_protocol.specs.Writes.{WriteStanding, repeated, older, turned_away, fresh, is_old_epoch, too_far, room_for_client, reach, judged, by_session, standing, update_of}
use Rattle.xt_protocol.specs.declared.states.PlainActed.{PlainActed}
use Rattle.xt_protocol.specs.PlainRows.{PlainFile, nothing, only, owns, is_node, serve_read, next_update, write_kept, write_stands, serve_plain_write, refused_or, plain_step}
use Rattle.striped_safety.specs.Members.{Member, plain_of, has_of, number_in, number_of}
use Rattle.striped_safety.specs.StripedWorld.{Setting, Asked, width_of, stripe_of, node_at, id_of, Affects, NotOk}

-- ---- how a write stands

-- what a fresh write has passed
pub record Passed (objects stripe : ℕ) (head : FileHead) (session : Option Session) (number epoch : ℕ) (asked : Op) : Type 0 where
  pub later : number_in session < number
  pub near : too_far objects stripe asked ≡ None
  pub newer : is_old_epoch head.mark epoch asked ≡ false

abbrev StandIs : ℕ → ℕ → FileHead → Option Session → ℕ → ℕ → Op → WriteStanding → Type 0
StandIs objects stripe head session number epoch asked (repeated count) = number ≡ number_in session
StandIs objects stripe head session number epoch asked older = Unit {0}
StandIs objects stripe head session number epoch asked (turned_away answer) = NotOk answer
StandIs objects stripe head session number epoch asked fresh = Passed objects stripe head session number epoch asked

judged_is : (objects stripe : ℕ) (head : FileHead) (session : Option Session) (number epoch : ℕ) (asked : Op) → number_in session < number
    → StandIs objects stripe head session number epoch asked (judged objects stripe head session epoch asked)
judged_is objects stripe head session number epoch asked later = go (is_old_epoch head.mark epoch asked) refl (too_far objects stripe asked) refl
  where
    room : (known : Option Session) → is_old_epoch head.mark epoch asked ≡ false → too_far objects stripe asked ≡ None → StandIs objects stripe head session number epoch asked (room_for_client head known)
    room (Some k) newer near = record { later = later; near = near; newer = newer }
    room None newer near = in_room (nat_lt (length head.sessions) CLIENTS)
      where
        in_room : (b : Bool) → StandIs objects stripe head session number epoch asked (cond b fresh (turned_away reply.ClientsFull))
        in_room true = record { later = later; near = near; newer = newer }
        in_room false = tt

    go : (b : Bool) → is_old_epoch head.mark epoch asked ≡ b → (far : Option ℕ) → too_far objects stripe asked ≡ far
        → StandIs objects stripe head session number epoch asked (cond b (turned_away (reply.OldEpoch head.mark.epoch)) (reach head session far))
    go true is far at = tt
    go false is (Some object) at = tt
    go false is None at = room session is at

by_is : (objects stripe : ℕ) (head : FileHead) (session : Option Session) (number epoch : ℕ) (asked : Op) → 1 ≤ number
    → StandIs objects stripe head session number epoch asked (by_session objects stripe head session number epoch asked)
by_is objects stripe head None number epoch asked some = judged_is objects stripe head None number epoch asked (omega (arith, some))
by_is objects stripe head (Some s) number epoch asked some = go (number == s.number) refl (nat_lt number s.number) refl
  where
    go : (a : Bool) → (number == s.number) ≡ a → (b : Bool) → nat_lt number s.number ≡ b
        → StandIs objects stripe head (Some s) number epoch asked (cond a (repeated s.count) (cond b older (judged objects stripe head (Some s) epoch asked)))
    go true is b at = eqb-true number s.number is
    go false is true at = tt
    go false is false at = judged_is objects stripe head (Some s) number epoch asked above
      where
        above : s.number < number
        above = grind (arith, nat_tests)

stands_is : (objects stripe : ℕ) (head : FileHead) (id : OpId) (epoch : ℕ) (asked : Op) → 1 ≤ id.number
    → StandIs objects stripe head (session_of head.sessions id.client.0) id.number epoch asked (standing objects stripe head id epoch asked)
unfolding standing
stands_is objects stripe head id epoch asked some = by_is objects stripe head (session_of head.sessions id.client.0) id.number epoch asked some

-- ---- what comes of an ask

-- the most objects of a file
abbrev pub limit_of : Setting → ℕ
limit_of s = OBJECTS * width_of s

-- an Ok that comes with no record: of a repeated one, or of a read
abbrev pub OkSays : Setting → Member → Asked → SizeMark → List ℕ → Op → Type 0
OkSays s m a size bytes (op.Read object at len) = (size ≡ m.head.mark) × (bytes ≡ cut_or_filled (drop at (has_of m object)) len)
OkSays s m a size bytes _ = (size ≡ m.head.mark) × (a.number ≡ number_of m s.client.0)

abbrev pub Says : Setting → Member → Asked → Option Reply → Type 0
Says s m a None = Unit {0}
Says s m a (Some (reply.Ok count size bytes)) = OkSays s m a size bytes a.op
Says s m a (Some _) = Unit {0}

-- the update that is kept
pub record Takes (s : Setting) (place : ℕ) (m : Member) (a : Asked) (acted : PlainActed) : Type 0 where
  pub update : Update
  pub keeps : acted.rec ≡ Some (kept.Update s.file update)
  pub replies : acted.reply ≡ Some (reply.Ok update.stamp.count update.mark [])
  pub makes : update_of (stripe_of s) m.body m.head (plain_stamp (m.head.stamp.count + 1)) (id_of s a) a.epoch a.op ≡ Some update
  pub passed : Passed (limit_of s) (stripe_of s) m.head (session_of m.head.sessions s.client.0) a.number a.epoch a.op
  pub owned : Affects (width_of s) place a.op

-- nothing is kept, or this
abbrev pub Does : Setting → ℕ → Member → Asked → PlainActed → Type 0
Does s place m a acted = ((acted.rec ≡ None) × Says s m a acted.reply) ⊎ Takes s place m a acted

not_ok : (s : Setting) (m : Member) (a : Asked) (answer : Reply) → NotOk answer → Says s m a (Some answer)
not_ok s m a (reply.Ok count size bytes) h = absurd h
not_ok s m a (reply.NoLease end) h = tt
not_ok s m a (reply.NoMajority have need) h = tt
not_ok s m a (reply.Elsewhere node end) h = tt
not_ok s m a (reply.Denied rule) h = tt
not_ok s m a (reply.OldList version) h = tt
not_ok s m a (reply.OldEpoch epoch) h = tt
not_ok s m a (reply.TooFar object) h = tt
not_ok s m a reply.ClientsFull h = tt

-- ---- places

both : (a b : Bool) → (not a && b) ≡ true → (a ≡ false) × (b ≡ true)
both true b h = absurd (cc)
both false b h = (refl, h)

pub has_got : (nodes : List NodeId) (i : ℕ) (node : NodeId) (v : ℕ) → slice_get nodes i ≡ Some node → node.0 ≡ v → has_node nodes v ≡ true
has_got [] i node v h e = absurd (cc)
has_got (n ∷ ns) zero node v h e = (let is : n ≡ node = cc in rw (eq-eqb n.0 v (ap (λ (x : NodeId). x.0) is ∙ e)) refl)
has_got (n ∷ ns) (suc i) node v h e = or_true (n.0 == v) (has_got ns i node v h e) where
  or_true : (b : Bool) → has_node ns v ≡ true → (b || has_node ns v) ≡ true
  or_true true h = refl
  or_true false h = h

pub got_once : (nodes : List NodeId) (i j : ℕ) (a b : NodeId) → are_distinct nodes ≡ true → slice_get nodes i ≡ Some a → slice_get nodes j ≡ Some b → a.0 ≡ b.0 → i ≡ j
got_once [] i j a b differ p q e = absurd (cc)
got_once (n ∷ ns) zero zero a b differ p q e = refl
got_once (n ∷ ns) zero (suc j) a b differ p q e =
    (let parts = both (has_node ns n.0) (are_distinct ns) differ in let is : n ≡ a = cc in
    let there = has_got ns j b n.0 q (sym (ap (λ (x : NodeId). x.0) is ∙ e)) in absurd (cc))
got_once (n ∷ ns) (suc i) zero a b differ p q e =
    (let parts = both (has_node ns n.0) (are_distinct ns) differ in let is : n ≡ b = cc in
    let there = has_got ns i a n.0 p (e ∙ sym (ap (λ (x : NodeId). x.0) is)) in absurd (cc))
got_once (n ∷ ns) (suc i) (suc j) a b differ p q e = ap suc (got_once ns i j a b (both (has_node ns n.0) (are_distinct ns) differ).1 p q e)

pub got : (nodes : List NodeId) (i : ℕ) → i < length nodes → slice_get nodes i ≡ Some (unwrap_or (slice_get nodes i) (record { 0 = 0 }))
got [] i low = absurd (omega (arith, low))
got (n ∷ ns) zero low = refl
got (n ∷ ns) (suc i) low = got ns i (omega (arith, low))

-- who owns an object stands at its place
owner_at : (nodes : List NodeId) (place object : ℕ) (owner : Option NodeId) → are_distinct nodes ≡ true → place < length nodes → slice_get nodes (object % length nodes) ≡ owner
    → is_node (unwrap_or (slice_get nodes place) (record { 0 = 0 })) owner ≡ true → object % length nodes ≡ place
owner_at nodes place object None differ low is owns = absurd (cc)
owner_at nodes place object (Some owner) differ low is owns =
    got_once nodes (object % length nodes) place owner (unwrap_or (slice_get nodes place) (record { 0 = 0 })) differ is (got nodes place low) (eqb-true owner.0 (unwrap_or (slice_get nodes place) (record { 0 = 0 })).0 owns)

pub distinct_of : (nodes : List NodeId) → are_members nodes ≡ true → are_distinct nodes ≡ true
distinct_of nodes is = last (nat_le 1 (length nodes)) (nat_le (length nodes) 9) (are_distinct nodes) is where
  last : (a b c : Bool) → (a && b && c) ≡ true → c ≡ true
  last true true c h = h
  last true false c h = absurd (cc)
  last false true c h = absurd (cc)
  last false false c h = absurd (cc)

pub some_of : (nodes : List NodeId) → are_members nodes ≡ true → 0 < length nodes
some_of nodes is = leb-true 1 (length nodes) (first (nat_le 1 (length nodes)) (nat_le (length nodes) 9) (are_distinct nodes) is) where
  first : (a b c : Bool) → (a && b && c) ≡ true → a ≡ true
  first true b c h = refl
  first false true c h = absurd (cc)
  first false false c h = absurd (cc)

pub few_of : (nodes : List NodeId) → are_members nodes ≡ true → length nodes ≤ 9
few_of nodes is = leb-true (length nodes) 9 (second (nat_le 1 (length nodes)) (nat_le (length nodes) 9) (are_distinct nodes) is) where
  second : (a b c : Bool) → (a && b && c) ≡ true → b ≡ true
  second true true c h = refl
  second true false c h = absurd (cc)
  second false true c h = absurd (cc)
  second false false c h = absurd (cc)

-- ---- the step

module _ (s : Setting) (place : ℕ) (m : Member) (a : Asked) (members : are_members s.location.members ≡ true) (here : place < width_of s) (some : 1 ≤ a.number) where
  abbrev node : NodeId
  node = node_at s place

  abbrev p : PlainFile
  p = plain_of s.file node m

  keeps_or_rests : (update : Option Update) → update_of (stripe_of s) m.body m.head (plain_stamp (m.head.stamp.count + 1)) (id_of s a) a.epoch a.op ≡ update
      → Passed (limit_of s) (stripe_of s) m.head (session_of m.head.sessions s.client.0) a.number a.epoch a.op → Affects (width_of s) place a.op → Does s place m a (write_kept p update)
  keeps_or_rests None makes passed owned = inl (refl, tt)
  keeps_or_rests (Some u) makes passed owned = go (head_fits (head_after m.head u)) where
    go : (b : Bool) → Does s place m a (cond b (record { rec = Some (kept.Update s.file u); reply = Some (reply.Ok u.stamp.count u.mark []) }) nothing)
    go true = inr (record { update = u; keeps = refl; replies = refl; makes = makes; passed = passed; owned = owned })
    go false = inl (refl, tt)

  next_or_none : Passed (limit_of s) (stripe_of s) m.head (session_of m.head.sessions s.client.0) a.number a.epoch a.op → Affects (width_of s) place a.op
      → Does s place m a (write_kept p (next_update (stripe_of s) m.body m.head (id_of s a) a.epoch a.op))
  next_or_none passed owned = go (nat_lt (m.head.stamp.count + 1) COUNTS) where
    go : (b : Bool) → Does s place m a (write_kept p (cond b (update_of (stripe_of s) m.body m.head (plain_stamp (m.head.stamp.count + 1)) (id_of s a) a.epoch a.op) None))
    go true = keeps_or_rests (update_of (stripe_of s) m.body m.head (plain_stamp (m.head.stamp.count + 1)) (id_of s a) a.epoch a.op) refl passed owned
    go false = inl (refl, tt)

  -- a write or a truncation
  change_does : Affects (width_of s) place a.op → (OkSays s m a m.head.mark [] a.op ≡ ((m.head.mark ≡ m.head.mark) × (a.number ≡ number_of m s.client.0)))
      → Does s place m a (serve_plain_write p m.body (id_of s a) a.epoch s.location a.op)
  change_does owned says =
      go (standing (limit_of s) (stripe_of s) m.head (id_of s a) a.epoch a.op) (stands_is (limit_of s) (stripe_of s) m.head (id_of s a) a.epoch a.op some)
    where
      go : (st : WriteStanding) → StandIs (limit_of s) (stripe_of s) m.head (session_of m.head.sessions s.client.0) a.number a.epoch a.op st
          → Does s place m a (write_stands p (stripe_of s) m.body (id_of s a) a.epoch a.op st)
      go (repeated count) is = inl (refl, subst (λ (T : Type 0). T) (sym says) (refl, is))
      go older is = inl (refl, tt)
      go (turned_away answer) is = inl (refl, not_ok s m a answer is)
      go fresh is = next_or_none is owned

not_false : (b : Bool) → not b ≡ false → b ≡ true
not_false true h = refl
not_false false h = absurd (cc)

unless_refused : (s : Setting) (place : ℕ) (m : Member) (a : Asked) (there other : Bool) (row : PlainActed) → (other ≡ false → Does s place m a row)
    → Does s place m a (refused_or (cond (not there) (Some denial.List) (cond other (Some denial.Range) None)) row)
unless_refused s place m a false other row does = inl (refl, tt)
unless_refused s place m a true true row does = inl (refl, tt)
unless_refused s place m a true false row does = does refl

does_op : (s : Setting) (place : ℕ) (m : Member) (number epoch : ℕ) (asked : Op) → are_members s.location.members ≡ true → place < width_of s → 1 ≤ number →
    let a : Asked = record { number = number; epoch = epoch; op = asked } in
    Does s place m a (plain_step (plain_of s.file (node_at s place) m) m.body (id_of s a) epoch s.location asked)
unfolding plain_step
does_op s place m number epoch (op.Read object at len) members here some =
    let a : Asked = record { number = number; epoch = epoch; op = op.Read object at len } in
    unless_refused s place m a (has_node s.location.members (node_at s place).0) (not (owns s.location.members (node_at s place) object)) (only (serve_read m.body m.head object at len))
    (λ is. inl (refl, (refl, refl)))
does_op s place m number epoch (op.Write object at bytes) members here some =
    let a : Asked = record { number = number; epoch = epoch; op = op.Write object at bytes } in
    unless_refused s place m a (has_node s.location.members (node_at s place).0) (not (owns s.location.members (node_at s place) object))
    (serve_plain_write (plain_of s.file (node_at s place) m) m.body (id_of s a) epoch s.location (op.Write object at bytes))
    (λ is. change_does s place m a members here some
    (owner_at s.location.members place object (slice_get s.location.members (object % width_of s)) (distinct_of s.location.members members) here refl (not_false (owns s.location.members (node_at s place) object) is)) refl)
does_op s place m number epoch (op.Truncate size) members here some =
    let a : Asked = record { number = number; epoch = epoch; op = op.Truncate size } in
    unless_refused s place m a (has_node s.location.members (node_at s place).0) false
    (serve_plain_write (plain_of s.file (node_at s place) m) m.body (id_of s a) epoch s.location (op.Truncate size))
    (λ is. change_does s place m a members here some tt refl)

-- A member's step on an ask: nothing is kept, and an Ok is of the operation that it did last or of a read; or the update of a new one
-- is kept, and answered.
pub does : (s : Setting) (place : ℕ) (m : Member) (a : Asked) → are_members s.location.members ≡ true → place < width_of s → 1 ≤ a.number
    → Does s place m a (plain_step (plain_of s.file (node_at s place) m) m.body (id_of s a) a.epoch s.location a.op)
does s place m a members here some = does_op s place m a.number a.epoch a.op members here some
