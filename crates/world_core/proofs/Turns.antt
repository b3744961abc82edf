-- steps, one after the other
use Rattle.std.proofs.Common.{Bool, false, Some, ◌≡◌, ℕ, zero, suc, ◌+◌, ◌-◌, ◌<◌, ◌≤◌, Result, Ok, Err, List, [], ◌∷◌, refl, ap, sym, ◌∙◌, subst, arith, zero-add}
use Rattle.xt_messages.specs.declared.message.Msg.{Msg}
use Rattle.xt_messages.specs.declared.event.Event.TheVariants as event
use Rattle.world_limits.specs.Fits.{FitsWorld, FitsAt}
use Rattle.world_hull.specs.declared.errors.WorldErr.{WorldErr}
use Rattle.world_hull.specs.declared.errors.WorldErr.TheVariants as error
use Rattle.world_step.specs.Steps.{Working, WentOn, IsUntold, Tells, IsStepped, cause_of}
use Rattle.world_core.specs.RunStates.{IsLeftIn, TellsEnd, IsTurned, HasEnded, AllFit}
use Rattle.world_spec.specs.World.{World}
use Rattle.world_spec.specs.NodeSteps.{Room, Cause, came_to, has_no_room, Doing, event_comes}
use Rattle.world_spec.specs.Lines.{Next, finished, opens, goes_on, ends, went, settles, works_on, next_step, steps, so_far}

pub stays_finished : (k : ℕ) (room : Room) (w : World) → steps k room (finished w) ≡ finished w
unfolding steps
stays_finished zero room w = refl
stays_finished (suc k) room w = refl

pub stays_ended : (k : ℕ) (room : Room) (cause : Cause) (w : World) → steps k room (ends cause w) ≡ ends cause w
unfolding steps
stays_ended zero room cause w = refl
stays_ended (suc k) room cause w = refl

-- first so many steps, and then others
pub steps-add : (a b : ℕ) (room : Room) (next : Next) → steps (a + b) room next ≡ steps b room (steps a room next)
unfolding steps
steps-add zero b room next = ap (λ (n : ℕ). steps n room next) (zero-add b)
steps-add (suc a) b room next = ap (λ (n : ℕ). steps n room next) (more a b) ∙ at next (λ x. steps-add a b room x)
  where
    more : (a b : ℕ) → suc a + b ≡ suc (a + b)
    more a b = omega arith

    at : (next : Next) → ((x : Next) → steps (a + b) room x ≡ steps b room (steps a room x)) → steps (suc (a + b)) room next ≡ steps b room (steps (suc a) room next)
    at (finished w) rest = sym (stays_finished b room w)
    at (ends cause w) rest = sym (stays_ended b room cause w)
    at (opens l w) rest = rest (next_step room (opens l w))
    at (goes_on d) rest = rest (next_step room (goes_on d))

-- one step of a line at work
pub step_is : (room : Room) (d : Doing) → steps 1 room (goes_on d) ≡ next_step room (goes_on d)
unfolding steps
step_is room d = refl

-- a line that is done or has ended stays so after more steps
pub done_longer : (k j : ℕ) (room : Room) (next : Next) (w : World) → steps k room next ≡ finished w → k ≤ j → steps j room next ≡ finished w
done_longer k j room next w is le =
    let split : j ≡ k + (j - k) = omega arith in
    ap (λ (n : ℕ). steps n room next) split ∙ steps-add k (j - k) room next ∙ ap (steps (j - k) room) is ∙ stays_finished (j - k) room w

pub ended_longer : (k j : ℕ) (room : Room) (next : Next) (cause : Cause) (w : World) → steps k room next ≡ ends cause w → k ≤ j → steps j room next ≡ ends cause w
ended_longer k j room next cause w is le =
    let split : j ≡ k + (j - k) = omega arith in
    ap (λ (n : ℕ). steps n room next) split ∙ steps-add k (j - k) room next ∙ ap (steps (j - k) room) is ∙ stays_ended (j - k) room cause w

-- a step more of a line at work
pub one_more : (k : ℕ) (room : Room) (next after : Next) (d : Doing) → steps k room next ≡ goes_on d → next_step room (goes_on d) ≡ after → steps (k + 1) room next ≡ after
one_more k room next after d so then = steps-add k 1 room next ∙ ap (steps 1 room) so ∙ step_is room d ∙ then

-- ---- one step of a line at work

next_is_own : (room : Room) (d : Doing) (m : Msg) (rest : List Msg) → d.own ≡ m ∷ rest
    → next_step room (goes_on d) ≡ went d.world (event_comes room (record d { own = rest }) m.to (event.Deliver m))
unfolding next_step
next_is_own room d m rest is = ap (works_on room d) is

next_is_settle : (room : Room) (d : Doing) → d.own ≡ [] → next_step room (goes_on d) ≡ settles room d d.left
unfolding next_step
next_is_settle room d is = ap (works_on room d) is

pub turn_settles : (room : Room) (was self now new : Working) (r : Result Bool WorldErr) → was ≡ self → was.doing.own ≡ [] → now ≡ was → IsTurned now (settles room now.doing now.doing.left) new r
    → IsTurned self (next_step room (goes_on self.doing)) new r
turn_settles room was self now new r is idle same so =
    subst (λ (x : Working). IsTurned x (next_step room (goes_on x.doing)) new r) is
    (subst (λ (n : Next). IsTurned was n new r) (sym (next_is_settle room was.doing idle)) (subst (λ (x : Working). IsTurned x (settles room x.doing x.doing.left) new r) same so))

ended_so : (w : World) (k : Result Doing Cause) (cause : Cause) → cause_of k ≡ Some cause → went w k ≡ ends cause w
ended_so w (Ok d) cause is = absurd (cc)
ended_so w (Err c) cause is = (let same : c ≡ cause = cc in ap (λ (x : Cause). ends x w) same)

tells_end : (w : World) (k : Result Doing Cause) (e : WorldErr) → Tells (cause_of k) e → TellsEnd (went w k) w e
tells_end w k (error.Illegal rule) is = is
tells_end w k (error.Limit what limit) is = (ended_so w k (came_to what) is.0, is.1)
tells_end w k (error.Full need limit) is = ended_so w k (has_no_room (record { need = need; limit = limit })) is
tells_end w k error.OutOfMemory is = tt

-- the node handles a message to itself
pub turn_err : (T : Type 0) (room : Room) (was self new : Working) (m : Msg) (rest : List Msg) (e : WorldErr) → was ≡ self → was.doing.own ≡ m ∷ rest
    → (let popped : Working = record was { doing = record was.doing { own = rest } } in IsStepped {T = T} popped (event_comes room popped.doing m.to (event.Deliver m)) new (Err e))
    → IsTurned self (next_step room (goes_on self.doing)) new (Err e)
turn_err T room was self new m rest e is own so =
    subst (λ (x : Working). IsTurned x (next_step room (goes_on x.doing)) new (Err e)) is (
      subst (λ (n : Next). TellsEnd n was.doing.world e) (sym (next_is_own room was.doing m rest own)) (tells_end was.doing.world (event_comes room (record was.doing { own = rest }) m.to (event.Deliver m)) e so.0),
      record { entries = so.1.entries; lines = so.1.lines; begun = so.1.begun; ended = so.1.ended },
    )

pub turn_ok : (T : Type 0) (room : Room) (was self new : Working) (m : Msg) (rest : List Msg) (value : T) → was ≡ self → was.doing.own ≡ m ∷ rest
    → (let popped : Working = record was { doing = record was.doing { own = rest } } in IsStepped {T = T} popped (event_comes room popped.doing m.to (event.Deliver m)) new (Ok value))
    → IsTurned self (next_step room (goes_on self.doing)) new (Ok false)
turn_ok T room was self new m rest value is own so =
    subst (λ (x : Working). IsTurned x (next_step room (goes_on x.doing)) new (Ok false)) is (
      next_is_own room was.doing m rest own ∙ ap (went was.doing.world) so.0,
      record { rest = so.1.rest; lines = so.1.lines; ended = so.1.ended },
    )

-- ---- so many steps

pub none_yet : (room : Room) (next : Next) → steps 0 room next ≡ next
unfolding steps
none_yet room next = refl

pub went_further : (a b c : Working) → WentOn a b → WentOn b c → WentOn a c
went_further a b c one two = record {
  rest = two.rest ∙ ap (λ (x : Working). record x { doing = c.doing }) one.rest;
  lines = two.lines ∙ one.lines;
  ended = two.ended ∙ one.ended;
}

pub fits_at : (room : Room) (next : Next) (k : ℕ) (d : Doing) → AllFit room next → steps k room next ≡ goes_on d → FitsWorld d.world d.own
fits_at room next k d fits is = subst FitsAt is (fits k)

-- a step ends the line after so many others
pub has_ended : (room : Room) (old now new : Working) (next : Next) (k count : ℕ) (e : WorldErr) → k < count → steps k room next ≡ goes_on now.doing → WentOn old now
    → TellsEnd (next_step room (goes_on now.doing)) now.doing.world e × IsUntold now new → HasEnded room old count next new e
has_ended room old now new next k count e lt came went_on so = at e so.0
  where
    left : IsLeftIn old new now.doing.world
    left = record {
      entries = so.1.entries;
      lines = so.1.lines ∙ went_on.lines;
      begun = so.1.begun ∙ ap (λ (x : Working). x.begun) went_on.rest;
      ended = so.1.ended ∙ went_on.ended;
    }

    ends_so : (cause : Cause) → next_step room (goes_on now.doing) ≡ ends cause now.doing.world → steps count room next ≡ ends cause now.doing.world
    ends_so cause is = ended_longer (k + 1) count room next cause now.doing.world (one_more k room next (ends cause now.doing.world) now.doing came is) (omega arith)

    at : (e : WorldErr) → TellsEnd (next_step room (goes_on now.doing)) now.doing.world e → HasEnded room old count next new e
    at (error.Illegal rule) is = is
    at (error.Limit what limit) is = (now.doing.world, ends_so (came_to what) is.0, is.1, left)
    at (error.Full need limit) is = (now.doing.world, ends_so (has_no_room (record { need = need; limit = limit })) is, left)
    at error.OutOfMemory is = (
      k,
      omega arith,
      record {
        entries = left.entries ∙ ap (λ (n : Next). (so_far n).entries) (sym came);
        lines = left.lines;
        begun = left.begun;
        ended = left.ended;
      },
    )
