-- What a primary issues by its committed head is new, the next one, and made for the writes of that head.
use Rattle.std.proofs.Common.{◌≡◌, ℕ, suc, ◌+◌, ◌*◌, ◌/◌, ◌%◌, ◌<◌, ◌≤◌, ◌⊎◌, Bool, true, false, List, [], ◌∷◌, length, take, refl, sym, ap, ◌∙◌, subst, inl, inr, arith, if◌then◌else◌, ◌&&◌, ◌==◌, Option, Some, None}
use Rattle.std.specs.Prelude.{max, nat_lt, map, cond}
use Rattle.std.proofs.lemmas.Bool.Decides.{nat_tests}
use Rattle.xt_base.specs.declared.ids.Epoch.{Epoch}
use Rattle.xt_base.specs.declared.ids.OpId.{OpId}
use Rattle.xt_base.specs.declared.ids.Stamp.{Stamp}
use Rattle.xt_messages.specs.declared.file.FileHead.{FileHead}
use Rattle.xt_messages.specs.declared.file.Op.{Op}
use Rattle.xt_messages.specs.declared.file.Op.TheVariants as op
use Rattle.xt_messages.specs.declared.file.Session.{Session}
use Rattle.xt_messages.specs.declared.file.Update.{Update}
use Rattle.xt_messages.specs.declared.reply.Reply.{Reply}
use Rattle.xt_messages.specs.declared.reply.Reply.TheVariants as reply
use Rattle.xt_base.specs.declared.TheConstants.{NO_OBJECT, OBJECTS}
use Rattle.xt_base.specs.Overlay.{overlay}
use Rattle.xt_protocol.specs.Heads.{new_head, head_after, version_of, session_of}
use Rattle.xt_protocol.specs.Objects.{present_body}
use Rattle.xt_protocol.specs.Writes.{repeated, older, turned_away, fresh, reach, judged, is_old_epoch, too_far, known_client, by_session, standing, written, cuts_body, truncated, update_of}
use Rattle.replica_safety.specs.Epochs.{name}
use Rattle.replica_safety.specs.Lists.{Has}
use Rattle.replica_runs.specs.FileHeads.{folded, head_of, versions_of}
use Rattle.replica_runs.specs.HeadSteps.{IsAllowed}
use Rattle.replica_runs.specs.Made.{bodies_of, size_from, size_of, MadeByWrite, MadeByTruncation, IsMadeBy, IsNext, IsMade}
use Rattle.replica_runs.specs.Marks.{AreMade}
use Rattle.replica_runs.proofs.Content.{by_less, objects_up_to}
use Rattle.replica_runs.proofs.Sessions.{sessions_of, IsSession, sessions_show}
use Rattle.replica_runs.proofs.Tools.{by_node, by_test, both_true, true_false}
use Rattle.replica_runs.proofs.Versions.{IsNamed, versions_named}

-- the mark is that of the last write
pub mark_size : (head : FileHead) (us : List Update) → (folded head us).mark.size ≡ size_from head.mark.size us
mark_size head [] = refl
mark_size head (u ∷ us) = mark_size (head_after head u) us

-- what is read of a version is its body
pub record Reads (body : ℕ → Stamp → List ℕ) (ws : List Update) : Type 0 where
  pub right : (o : ℕ) (v : Stamp) → o < NO_OBJECT → version_of (versions_of ws) o ≡ Some v → body o v ≡ bodies_of ws o

present : (body : ℕ → Stamp → List ℕ) (ws : List Update) (o : ℕ) → o < NO_OBJECT → Reads body ws → present_body body (version_of (versions_of ws) o) o ≡ bodies_of ws o
present body ws o low reads = at (version_of (versions_of ws) o) refl (versions_named ws o (λ e. absurd (omega (arith, low, e))))
  where
    at : (v : Option Stamp) → version_of (versions_of ws) o ≡ v → IsNamed ws (bodies_of ws) o v → present_body body v o ≡ bodies_of ws o
    at None e n = sym n
    at (Some v) e n = reads.right o v low e

-- ---- what a fresh write has passed

-- its number is above the one of its client's last write
abbrev pub PassesSession : Option Session → ℕ → Type 0
PassesSession None number = Unit {0}
PassesSession (Some s) number = s.number < number

-- what a fresh write has passed: its client's session, and the limit on objects
pub record Passed (objects stripe : ℕ) (session : Option Session) (number : ℕ) (asked : Op) : Type 0 where
  pub session_too : PassesSession session number
  pub near : too_far objects stripe asked ≡ None

not_fresh : (why : Reply) → turned_away why ≡ fresh → ⊥
not_fresh why e = cc e

reached : (head : FileHead) (session : Option Session) (far : Option ℕ) → reach head session far ≡ fresh → far ≡ None
reached head session None e = refl
reached head session (Some o) e = absurd (not_fresh (reply.TooFar o) e)

judged_near : (objects stripe : ℕ) (head : FileHead) (session : Option Session) (epoch : ℕ) (asked : Op) → judged objects stripe head session epoch asked ≡ fresh → too_far objects stripe asked ≡ None
judged_near objects stripe head session epoch asked =
    by_test (λ b. cond b (turned_away (reply.OldEpoch head.mark.epoch)) (reach head session (too_far objects stripe asked)) ≡ fresh → too_far objects stripe asked ≡ None) (is_old_epoch head.mark epoch asked)
    (λ _ e. absurd (not_fresh (reply.OldEpoch head.mark.epoch) e)) (λ _ e. reached head session (too_far objects stripe asked) e)

known_passes : (objects stripe : ℕ) (head : FileHead) (s : Session) (number epoch : ℕ) (asked : Op) → known_client objects stripe head s number epoch asked ≡ fresh
    → Passed objects stripe (Some s) number asked
known_passes objects stripe head s number epoch asked = one_of (number == s.number) (nat_lt number s.number) refl refl
  where
    above : (a b : ℕ) → (a == b) ≡ false → nat_lt a b ≡ false → b < a
    above a b p q = grind (arith, nat_tests)

    repeats : (n : ℕ) → repeated n ≡ fresh → ⊥
    repeats n e = cc e

    old : older ≡ fresh → ⊥
    old e = cc e

    one_of : (a b : Bool) → (number == s.number) ≡ a → nat_lt number s.number ≡ b
        → cond a (repeated s.count) (cond b older (judged objects stripe head (Some s) epoch asked)) ≡ fresh → Passed objects stripe (Some s) number asked
    one_of true b p q e = absurd (repeats s.count e)
    one_of false true p q e = absurd (old e)
    one_of false false p q e = record { session_too = above number s.number p q; near = judged_near objects stripe head (Some s) epoch asked e }

by_client : (objects stripe : ℕ) (head : FileHead) (s : Option Session) (number epoch : ℕ) (asked : Op) → by_session objects stripe head s number epoch asked ≡ fresh
    → Passed objects stripe s number asked
by_client objects stripe head None number epoch asked e = record { session_too = tt; near = judged_near objects stripe head None epoch asked e }
by_client objects stripe head (Some s) number epoch asked e = known_passes objects stripe head s number epoch asked e

pub fresh_passes : (objects stripe : ℕ) (head : FileHead) (id : OpId) (epoch : ℕ) (asked : Op) → standing objects stripe head id epoch asked ≡ fresh
    → Passed objects stripe (session_of head.sessions id.client.0) id.number asked
unfolding standing
fresh_passes objects stripe head id epoch asked e = by_client objects stripe head (session_of head.sessions id.client.0) id.number epoch asked e

passes : (ws : List Update) (s : Option Session) (c number : ℕ) → IsSession ws c s → PassesSession s number → (w : Update) → Has w ws → w.id.client.0 ≡ c → w.id.number < number
passes ws None c number is pass w has same = absurd (is w has same)
passes ws (Some s) c number is pass w has same = omega (arith, is.last w has same, pass)

-- ---- the update

some_update : {u v : Update} → Some u ≡ Some v → u ≡ v
some_update p = cc

-- it has the id and the stamp that it was made with
pub record Named (t : Stamp) (id : OpId) (u : Update) : Type 0 where
  pub is_id : u.id ≡ id
  pub is_stamp : u.stamp ≡ t

pub made_named : (stripe : ℕ) (body : ℕ → Stamp → List ℕ) (c : FileHead) (t : Stamp) (id : OpId) (epoch : ℕ) (asked : Op) (u : Update)
    → update_of stripe body c t id epoch asked ≡ Some u → Named t id u
made_named stripe body c t id epoch (op.Read object at len) u e = absurd cc
made_named stripe body c t id epoch (op.Write object at bytes) u e =
    record { is_id = ap (λ (v : Update). v.id) (sym (some_update e)); is_stamp = ap (λ (v : Update). v.stamp) (sym (some_update e)) }
made_named stripe body c t id epoch (op.Truncate size) u e =
    record { is_id = ap (λ (v : Update). v.id) (sym (some_update e)); is_stamp = ap (λ (v : Update). v.stamp) (sym (some_update e)) }

lower : (a b : ℕ) → nat_lt a b ≡ true → a < b
lower a b h = grind (arith, nat_tests)

not_lower : (a b : ℕ) → nat_lt a b ≡ false → b ≤ a
not_lower a b h = grind (arith, nat_tests)

module _ (stripe : ℕ) (ops : ℕ × ℕ → Op) (ws : List Update) (made : AreMade (IsMade stripe ops) ws) where
  -- an update by a number above the session is the next one
  pub is_next : (u : Update) → u.stamp.count ≡ suc (length ws) → PassesSession (session_of (sessions_of ws) u.id.client.0) u.id.number → IsNext ws u
  is_next u place pass = record {
    place = place;
    above = λ w has same. passes ws (session_of (sessions_of ws) u.id.client.0) u.id.client.0 u.id.number (sessions_show stripe ops ws u.id.client.0 made) pass w has same;
  }

  -- and new
  not_named : (vs : List Update) (u : Update) → ((w : Update) → Has w vs → w.id.client.0 ≡ u.id.client.0 → w.id.number < u.id.number) → Has (name u) (map name vs) → ⊥
  not_named [] u above h = h
  not_named (v ∷ vs) u above (inl p) = absurd (omega (arith, above v (inl refl) (ap (λ (i : ℕ × ℕ). i.0) (sym p)), ap (λ (i : ℕ × ℕ). i.1) p))
  not_named (v ∷ vs) u above (inr h) = not_named vs u (λ w has same. above w (inr has) same) h

  pub is_new : (u : Update) → IsNext ws u → Has (name u) (map name ws) → ⊥
  is_new u next h = not_named ws u next.above h

  module _ (body : ℕ → Stamp → List ℕ) (reads : Reads body ws) (promised d : Epoch) (t : Stamp) (id : OpId) where
    c : FileHead
    c = head_of promised d ws

    write_made : (object at : ℕ) (bytes : List ℕ) → at + length bytes ≤ stripe → 0 < length bytes → object < OBJECTS →
        MadeByWrite stripe (bodies_of ws) (size_of ws) (written stripe body c t id object at bytes) object at bytes
    unfolding c
    write_made object at bytes fits some low = record {
      fits = fits;
      some = some;
      low = low;
      is_object = refl;
      drops = refl;
      is_body = ap (λ b. overlay b at bytes) (present body ws object (omega arith) reads);
      is_size = ap (λ n. max n (object * stripe + at + length bytes)) (mark_size new_head ws);
    }

    truncation_made : (epoch size : ℕ) → 0 < stripe → size ≤ OBJECTS * stripe → MadeByTruncation stripe (bodies_of ws) (truncated stripe body c t id epoch size) size
    unfolding c
    truncation_made epoch size some low = record {
      last = last;
      rest = rest;
      splits = splits;
      less = less;
      low = low;
      is_size = refl;
      drops = by_node (λ b. ((rest ≡ 0) × ((if b then last else last + 1) ≡ last)) ⊎ ((0 < rest) × ((if b then last else last + 1) ≡ last + 1))) rest 0
          (λ z. inl (z, refl)) (λ nz. inr (positive rest nz, refl));
      cuts = by_test (λ b. cuts_body stripe size here ≡ b → Cuts (if b then last else NO_OBJECT) (if b then take rest here else [])) (cuts_body stripe size here)
          (λ _ cut. let p = both_true (nat_lt 0 rest) (nat_lt rest (length here)) cut in
          inl (lower 0 rest p.0, subst (λ b. rest < length b) pres (lower rest (length here) p.1), refl, ap (take rest) pres))
          (λ _ whole. inr (subst (λ b. (rest ≡ 0) ⊎ (length b ≤ rest)) pres (short whole), refl, refl)) refl;
    }
      where
        last : ℕ
        last = size / stripe

        rest : ℕ
        rest = size % stripe

        here : List ℕ
        here = present_body body (version_of (versions_of ws) last) last

        Cuts : ℕ → List ℕ → Type 0
        Cuts o b = ((0 < rest) × (rest < length (bodies_of ws last)) × (o ≡ last) × (b ≡ take rest (bodies_of ws last)))
            ⊎ (((rest ≡ 0) ⊎ (length (bodies_of ws last) ≤ rest)) × (o ≡ NO_OBJECT) × (b ≡ []))

        positive : (k : ℕ) → (k ≡ 0 → ⊥) → 0 < k
        positive k nz = by_less (λ b. 0 < k) 0 k (λ l. l) (λ n. absurd (nz (omega arith)))

        splits : last * stripe + rest ≡ size
        splits = omega arith

        less : rest < stripe
        less = omega arith

        pres : here ≡ bodies_of ws last
        pres = present body ws last (omega (arith, objects_up_to last stripe rest size splits low less)) reads

        short : (nat_lt 0 rest && nat_lt rest (length here)) ≡ false → (rest ≡ 0) ⊎ (length here ≤ rest)
        short = by_less (λ a. (a && nat_lt rest (length here)) ≡ false → (rest ≡ 0) ⊎ (length here ≤ rest)) 0 rest
            (λ _. by_less (λ b. b ≡ false → (rest ≡ 0) ⊎ (length here ≤ rest)) rest (length here) (λ _ h. true_false refl h) (λ l _. inr l))
            (λ l _. inl (omega arith))

    made_by : (epoch : ℕ) (asked : Op) (u : Update) → 0 < stripe → IsAllowed stripe asked → too_far OBJECTS stripe asked ≡ None
        → update_of stripe body c t id epoch asked ≡ Some u → IsMadeBy stripe (bodies_of ws) (size_of ws) u asked
    unfolding c
    made_by epoch (op.Read object at len) u some allowed near e = absurd cc
    made_by epoch (op.Write object at bytes) u some allowed near e =
        subst (λ v. MadeByWrite stripe (bodies_of ws) (size_of ws) v object at bytes) (some_update e)
        (write_made object at bytes (not_lower stripe (at + length bytes) allowed.inside) (omega (arith, allowed.fits.3)) (far (nat_lt object OBJECTS) refl near))
      where
        far : (b : Bool) → nat_lt object OBJECTS ≡ b → (if b then None else Some object) ≡ None → object < OBJECTS
        far true p q = lower object OBJECTS p
        far false p q = absurd cc
    made_by epoch (op.Truncate size) u some allowed near e =
        subst (λ v. MadeByTruncation stripe (bodies_of ws) v size) (some_update e) (truncation_made epoch size some (far (nat_lt (OBJECTS * stripe) size) refl near))
      where
        far : (b : Bool) → nat_lt (OBJECTS * stripe) size ≡ b → (if b then Some (size / stripe) else None) ≡ None → size ≤ OBJECTS * stripe
        far true p q = absurd cc
        far false p q = not_lower (OBJECTS * stripe) size p

    -- what an operation makes over the head of these writes is made for them
    pub made_over : (epoch : ℕ) (u : Update) → 0 < stripe → t.count ≡ suc (length ws) → IsAllowed stripe (ops (id.client.0, id.number))
        → standing OBJECTS stripe (head_of promised d ws) id epoch (ops (id.client.0, id.number)) ≡ fresh
        → update_of stripe body (head_of promised d ws) t id epoch (ops (id.client.0, id.number)) ≡ Some u → IsMade stripe ops ws u
    unfolding c
    made_over epoch u some place allowed is_fresh e =
        let named = made_named stripe body (head_of promised d ws) t id epoch (ops (id.client.0, id.number)) u e in
        let pass = fresh_passes OBJECTS stripe (head_of promised d ws) id epoch (ops (id.client.0, id.number)) is_fresh in (
          is_next u (ap (λ (s : Stamp). s.count) named.is_stamp ∙ place)
              (subst (λ (i : OpId). PassesSession (session_of (sessions_of ws) i.client.0) i.number) (sym named.is_id) pass.session_too),
          subst (λ (i : OpId). IsMadeBy stripe (bodies_of ws) (size_of ws) u (ops (i.client.0, i.number))) (sym named.is_id)
              (made_by epoch (ops (id.client.0, id.number)) u some allowed pass.near e),
        )
