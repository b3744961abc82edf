-- a write that stands isn't too far
use Rattle.std.proofs.Common.{◌≡◌, ◌<◌, ◌^◌, ℕ, Bool, true, false, cond, refl, arith}
use Rattle.std.specs.Prelude.{Option, Some, None, nat_lt, ◌==◌, if◌then◌else◌}
use Rattle.std.proofs.lemmas.Bool.Decides.{nat_tests}
use Rattle.xt_base.specs.declared.ids.OpId.{OpId}
use Rattle.xt_messages.specs.declared.file.Session.{Session}
use Rattle.xt_messages.specs.declared.file.FileHead.{FileHead}
use Rattle.xt_messages.specs.declared.file.Op.{Op}
use Rattle.xt_messages.specs.declared.file.Op.TheVariants as op
use Rattle.xt_messages.specs.declared.reply.Reply.TheVariants as reply
use Rattle.xt_protocol.specs.Heads.{session_of}
use Rattle.xt_protocol.specs.Writes.{WriteStanding, repeated, older, turned_away, fresh, is_old_epoch, too_far, reach, judged, by_session, standing}
use Rattle.osd_decisions.specs.Near.{IsNear}
use Rattle.osd_decisions.specs.Shown.{shown_standing}
use Rattle.osd_decisions.specs.declared.judging.WriteStanding.TheVariants as shown

module _ (objects stripe : ℕ) (head : FileHead) (epoch : ℕ) (asked : Op) where
  abbrev IsReached : WriteStanding → Type 0
  IsReached how = how ≡ fresh → too_far objects stripe asked ≡ None

  of_two : (b : Bool) (x y : WriteStanding) → IsReached x → IsReached y → IsReached (cond b x y)
  of_two true x y one other = one
  of_two false x y one other = other

  reached : (o : Option Session) (far : Option ℕ) → too_far objects stripe asked ≡ far → IsReached (reach head o far)
  reached o (Some object) is so = absurd cc
  reached o None is so = is

  judged_near : (o : Option Session) → IsReached (judged objects stripe head o epoch asked)
  judged_near o =
      of_two (is_old_epoch head.mark epoch asked) (turned_away (reply.OldEpoch head.mark.epoch)) (reach head o (too_far objects stripe asked)) (λ so. absurd cc)
      (reached o (too_far objects stripe asked) refl)

  by_session_near : (o : Option Session) (number : ℕ) → IsReached (by_session objects stripe head o number epoch asked)
  by_session_near None number = judged_near None
  by_session_near (Some s) number =
      of_two (number == s.number) (repeated s.count) (cond (nat_lt number s.number) older (judged objects stripe head (Some s) epoch asked)) (λ so. absurd cc)
      (of_two (nat_lt number s.number) older (judged objects stripe head (Some s) epoch asked) (λ so. absurd cc) (judged_near (Some s)))

  -- what stands isn't too far
  pub standing_near : (id : OpId) → IsReached (standing objects stripe head id epoch asked)
  unfolding standing
  standing_near id = by_session_near (session_of head.sessions id.client.0) id.number

-- a write that isn't too far is to one of so many objects
pub near_object : (objects object : ℕ) → (if nat_lt object objects then None else Some object) ≡ None → object < objects
near_object objects object near = at (nat_lt object objects) refl near
  where
    at : (b : Bool) → nat_lt object objects ≡ b → (if b then None else Some object) ≡ None → object < objects
    at true is none = grind (arith, nat_tests)
    at false is none = absurd cc

not_far : (objects stripe : ℕ) (asked : Op) → objects < 2 ^ 32 → too_far objects stripe asked ≡ None → IsNear asked
not_far objects stripe (op.Read object at len) few none = tt
not_far objects stripe (op.Write object at bytes) few none =
    let below : object < objects = near_object objects object none in
    omega (arith, below, few)
not_far objects stripe (op.Truncate size) few none = tt

-- the code reports what stands, and nothing else, as fresh
shown_fresh : (how : WriteStanding) → shown_standing how ≡ shown.Fresh → how ≡ fresh
shown_fresh (repeated count) is = absurd cc
shown_fresh older is = absurd cc
shown_fresh (turned_away answer) is = absurd cc
shown_fresh fresh is = refl

pub fresh_near : (objects stripe : ℕ) (head : FileHead) (id : OpId) (epoch : ℕ) (asked : Op) → objects < 2 ^ 32
    → shown_standing (standing objects stripe head id epoch asked) ≡ shown.Fresh → IsNear asked
fresh_near objects stripe head id epoch asked few is =
    not_far objects stripe asked few (standing_near objects stripe head epoch asked id (shown_fresh (standing objects stripe head id epoch asked) is))
