-- a line that breaks no rule, before its first step
use Rattle.std.proofs.Common.{◌≡◌, ℕ, ◌≤◌, Bool, true, false, is_some, Option, Some, None, Result, Ok, List, [], length, refl, ap, sym, ◌∙◌, subst, arith}
use Rattle.std.specs.Prelude.{not, nat_le, ◌&&◌}
use Rattle.std.specs.Option.{option_or}
use Rattle.std.proofs.lemmas.Bool.Decides.{nat_tests}
use Rattle.xt_base.specs.declared.ids.NodeId.{NodeId}
use Rattle.xt_messages.specs.declared.file.Location.{Location}
use Rattle.xt_messages.specs.declared.event.Call.{Call}
use Rattle.xt_messages.specs.declared.event.Event.TheVariants as event
use Rattle.xt_messages.specs.declared.status.Rule.{Rule}
use Rattle.world_spec.specs.declared.Sent.{Sent}
use Rattle.time_line.specs.declared.line.Line.{Line}
use Rattle.time_line.specs.declared.line.Line.TheVariants as line
use Rattle.world_spec.specs.World.{World, node_in, file_in}
use Rattle.world_spec.specs.Rules.{refusal, if_so, no_client, node_twice, drifts_inside, file_twice, first_stranger, clock_ends, no_message, no_called_file, busy, no_call}
use Rattle.client_rows.specs.Called.{called_file}
use Rattle.world_spec.specs.NodeSteps.{Room, Cause, Doing, event_comes}
use Rattle.world_spec.specs.Lines.{calls, calls_again, declares, delivers, never_started, no_longer_pending, first_step}
use Rattle.world_spec.specs.declared.Role.TheVariants as role
use Rattle.xt_base.specs.declared.TheConstants.{DIR_NODE, MRC_NODE}
use Rattle.world_hull.specs.declared.errors.WorldErr.{WorldErr}
use Rattle.world_step.specs.Steps.{Working, IsStepped}

pub not_so : (broken : Bool) (rule : Rule) → if_so broken rule ≡ None → broken ≡ false
not_so true rule is = absurd (cc)
not_so false rule is = refl

none_there : {A : Type 0} (o : Option A) → is_some o ≡ false → o ≡ None
none_there None is = refl
none_there (Some x) is = absurd (cc)

either_none : (a b : Option Rule) → option_or a b ≡ None → (a ≡ None) × (b ≡ None)
either_none None b is = (refl, is)
either_none (Some a) b is = absurd (cc)

-- the rule is that of the line
pub legal_so : (w : World) (l known : Line) → l ≡ known → refusal w l ≡ None → refusal w known ≡ None
legal_so w l known is legal = sym (ap (refusal w) is) ∙ legal

pub osd_own : (w : World) (id : NodeId) → refusal w (line.Osd id) ≡ None → node_in w.nodes id.0 ≡ None
unfolding refusal
osd_own w id legal = none_there _ (not_so _ _ legal)

pub mrc_own : (w : World) → refusal w line.Mrc ≡ None → node_in w.nodes MRC_NODE.0 ≡ None
unfolding refusal
mrc_own w legal = none_there _ (not_so _ _ legal)

pub dir_own : (w : World) → refusal w line.Dir ≡ None → node_in w.nodes DIR_NODE.0 ≡ None
unfolding refusal
dir_own w legal = none_there _ (not_so _ _ legal)

pub client_own : (w : World) (id : NodeId) (clock : ℕ) → refusal w (line.Client id clock) ≡ None → node_in w.nodes id.0 ≡ None
unfolding refusal
client_own w id clock legal = none_there _ (not_so _ _ (either_none (node_twice w.nodes id) (drifts_inside w id clock) legal).0)

pub file_own : (w : World) (number : ℕ) (location : Location) → refusal w (line.File number location) ≡ None → file_in w.files number ≡ None
unfolding refusal
file_own w number location legal = none_there _ (not_so _ _ (either_none (file_twice w.files number) (first_stranger w.nodes location.members) legal).0)

pub tick_ends : (w : World) (count : ℕ) → refusal w (line.Tick count) ≡ None → clock_ends count w.nodes ≡ None
unfolding refusal
tick_ends w count legal = legal

pub call_usable : (w : World) (id : NodeId) (c : Call) → refusal w (line.Call id c) ≡ None → no_called_file w id (called_file c) ≡ None
unfolding refusal
call_usable w id c legal =
    (either_none (no_called_file w id (called_file c)) (busy w.nodes id) (either_none (no_client w.nodes id) (option_or (no_called_file w id (called_file c)) (busy w.nodes id)) legal).1).0

pub call_free : (w : World) (id : NodeId) (c : Call) → refusal w (line.Call id c) ≡ None → busy w.nodes id ≡ None
unfolding refusal
call_free w id c legal =
    (either_none (no_called_file w id (called_file c)) (busy w.nodes id) (either_none (no_client w.nodes id) (option_or (no_called_file w id (called_file c)) (busy w.nodes id)) legal).1).1

pub again_free : (w : World) (id : NodeId) → refusal w (line.Again id) ≡ None → busy w.nodes id ≡ None
unfolding refusal
again_free w id legal = (either_none (busy w.nodes id) (no_call w.nodes id) (either_none (no_client w.nodes id) (option_or (busy w.nodes id) (no_call w.nodes id)) legal).1).0

pub again_may : (w : World) (id : NodeId) → refusal w (line.Again id) ≡ None → no_call w.nodes id ≡ None
unfolding refusal
again_may w id legal = (either_none (busy w.nodes id) (no_call w.nodes id) (either_none (no_client w.nodes id) (option_or (busy w.nodes id) (no_call w.nodes id)) legal).1).1

least : (count number : ℕ) → no_message count number ≡ None → 1 ≤ number
least count number is = (let sent = both _ _ (not_so _ _ is) in from 1 number sent)
  where
    both : (a b : Bool) → not (a && b) ≡ false → a ≡ true
    both true b e = refl
    both false b e = absurd (cc)

    from : (a b : ℕ) → nat_le a b ≡ true → a ≤ b
    from a b e = grind (arith, nat_tests)

pub deliver_number : (w : World) (number : ℕ) → refusal w (line.Deliver number) ≡ None → 1 ≤ number
unfolding refusal
deliver_number w number legal = least (length w.sent) number legal

pub drop_number : (w : World) (number : ℕ) → refusal w (line.Drop number) ≡ None → 1 ≤ number
unfolding refusal
drop_number w number legal = least (length w.sent) number legal

-- ---- first steps that are other steps

pub osd_first : (room : Room) (d : Doing) (id : NodeId) → first_step room d (line.Osd id) ≡ declares d (never_started id role.Osd) []
unfolding first_step
osd_first room d id = refl

pub mrc_first : (room : Room) (d : Doing) → first_step room d line.Mrc ≡ declares d (never_started MRC_NODE role.Mrc) []
unfolding first_step
mrc_first room d = refl

pub dir_first : (room : Room) (d : Doing) → first_step room d line.Dir ≡ declares d (never_started DIR_NODE role.Dir) []
unfolding first_step
dir_first room d = refl

pub wake_first : (room : Room) (d : Doing) (id : NodeId) → first_step room d (line.Wake id) ≡ event_comes room d id event.Wake
unfolding first_step
wake_first room d id = refl

pub call_first : (room : Room) (d : Doing) (id : NodeId) (c : Call) → first_step room d (line.Call id c) ≡ calls room d (node_in d.world.nodes id.0) c
unfolding first_step
call_first room d id c = refl

pub again_first : (room : Room) (d : Doing) (id : NodeId) → first_step room d (line.Again id) ≡ calls_again room d (node_in d.world.nodes id.0)
unfolding first_step
again_first room d id = refl

pub deliver_first : (room : Room) (d : Doing) (number : ℕ) → first_step room d (line.Deliver number) ≡ delivers room d number
unfolding first_step
deliver_first room d number = refl

pub drop_first : (room : Room) (d : Doing) (number : ℕ) (sent : List Sent) → sent ≡ no_longer_pending d.world.sent number → first_step room d (line.Drop number) ≡ Ok (record d { world = record d.world { sent = sent } })
unfolding first_step
drop_first room d number sent is = ap (λ (ss : List Sent). Ok (record d { world = record d.world { sent = ss } })) (sym is)

pub settle_first : (room : Room) (d : Doing) (count : ℕ) → first_step room d (line.Settle count) ≡ Ok d
unfolding first_step
settle_first room d count = refl

pub steps_as : (T : Type 0) (room : Room) (s new : Working) (l known : Line) (k : Result Doing Cause) (r : Result T WorldErr) → l ≡ known → first_step room s.doing known ≡ k → IsStepped {T = T} s k new r
    → IsStepped {T = T} s (first_step room s.doing l) new r
steps_as T room s new l known k r is so steps = subst (λ (x : Result Doing Cause). IsStepped {T = T} s x new r) (sym (ap (first_step room s.doing) is ∙ so)) steps
