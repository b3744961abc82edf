-- why the moves of a call end, and that a rest follows only an end after which the call may be made again
use Rattle.std.proofs.Common.{ℕ, ◌≡◌, ◌≤◌, ◌<◌, ◌^◌, ◌+◌, ◌-◌, ◌/◌, ◌⊎◌, ◌&&◌, not, inl, inr, ◌∙◌, ap, refl, sym, subst, Bool, true, false, nat_lt, nat_le, min, Option, Some, None, is_some, if◌then◌else◌, ltb-true, leb-false, Result, Ok, Err, IfOk, arith}
use Rattle.std.proofs.lemmas.Bool.{true≢false}
use Rattle.xt_base.specs.TimeSettings.{TimeSettings}
use Rattle.xt_base.specs.declared.ids.NodeId.{NodeId}
use Rattle.xt_messages.specs.declared.message.Msg.{Msg}
use Rattle.xt_messages.specs.declared.event.Event.{Event}
use Rattle.xt_messages.specs.declared.event.Event.TheVariants as event
use Rattle.node_runs.specs.Hearing.{hears}
use Rattle.node_runs.specs.Runs.{next_due}
use Rattle.client_rows.specs.declared.requests.MadeCall.{MadeCall}
use Rattle.client_rows.specs.declared.requests.Stage.{Stage}
use Rattle.client_rows.specs.declared.requests.Stage.TheVariants as stage
use Rattle.client_rows.specs.Rows as rows
use Rattle.client_rows.specs.Rows.{WholeClient}
use Rattle.client_core.specs.Views.{ClientView}
use Rattle.client_loop.specs.declared.course.Course.{Course}
use Rattle.client_loop.specs.declared.course.Handed.{Handed}
use Rattle.client_loop.specs.declared.course.Handed.TheVariants as handed
use Rattle.client_loop.specs.Listening.{Look, late, came, looks, told_by, heard_as, MayLook, FitsListened}
use Rattle.client_loop.specs.Carrying.{Task, Around, HasCalled, called_at, Driven, period_of, stop_of, or_end_of, late_by, handed_by, brings, course_after, settled, hands, tries_after, Nears, RestsRightly}

-- as `settled` does, where it is known whether a try is left
abbrev settles : TimeSettings → ℕ → Course → Bool → Bool → Course
settles times now c more b = if more && b && not (is_some c.rest) then record c { left = c.left - 1; rest = Some (now + times.lease / 2) } else c

keeps : (times : TimeSettings) (now due left : ℕ) (rest : Option ℕ) (more b : Bool) → nat_lt 0 left ≡ more
    → ((settles times now (record { due = due; left = left; rest = rest }) more b).due ≡ due)
    × (tries_after (settles times now (record { due = due; left = left; rest = rest }) more b) ≡ tries_after (record { due = due; left = left; rest = rest }))
keeps times now due left rest false b e = (refl, refl)
keeps times now due left rest true false e = (refl, refl)
keeps times now due left (Some until) true true e = (refl, refl)
keeps times now due left None true true e = (refl, let some : 0 < left = ltb-true 0 left e in omega arith)

-- a course that is settled is due as it was, and has as many tries
settled_keeps : (times : TimeSettings) (now due left : ℕ) (rest : Option ℕ) (b : Bool)
    → ((settled times now (record { due = due; left = left; rest = rest }) b).due ≡ due)
    × (tries_after (settled times now (record { due = due; left = left; rest = rest }) b) ≡ tries_after (record { due = due; left = left; rest = rest }))
settled_keeps times now due left rest b = keeps times now due left rest (nat_lt 0 left) b refl

-- it rests where the try may be made again, or where it rested
begins_rest : (times : TimeSettings) (now : ℕ) (c : Course) (more b : Bool) → is_some (settles times now c more b).rest ≡ true
    → (b ≡ true) ⊎ (is_some c.rest ≡ true)
begins_rest times now c false b e = inr e
begins_rest times now c true false e = inr e
begins_rest times now c true true e = inl refl

-- ---- each move comes nearer to the end

module _ (times : TimeSettings) (now due left spent : ℕ) (next : Course) (b : Bool) (within : due < 2 ^ 62 + 2 ^ 40) where
  heard_nears : (rest : Option ℕ) → next ≡ settled times now (record { due = due; left = left; rest = rest }) b
      → Nears spent (record { due = due; left = left; rest = rest }) (spent + 1) next
  heard_nears rest e =
      let k = settled_keeps times now due left rest b in
      let same : next.due ≡ due = ap (λ (c : Course). c.due) e ∙ k.0 in
      let tries : tries_after next ≡ tries_after (record { due = due; left = left; rest = rest }) = ap tries_after e ∙ k.1 in
      record { nearer = omega arith; within = omega arith }

  again_nears : (until : ℕ) → next ≡ settled times now (record { due = due; left = left; rest = None }) b
      → Nears spent (record { due = due; left = left; rest = Some until }) spent next
  again_nears until e =
      let k = settled_keeps times now due left None b in
      let same : next.due ≡ due = ap (λ (c : Course). c.due) e ∙ k.0 in
      let tries : tries_after next ≡ left = ap tries_after e ∙ k.1 in
      record { nearer = omega arith; within = omega arith }

  wake_nears : (rest : Option ℕ) → next ≡ settled times now (record { due = next_due (period_of times) now due; left = left; rest = rest }) b
      → (due < next.due) × (next.due < 2 ^ 62 + 2 ^ 40) → Nears spent (record { due = due; left = left; rest = rest }) spent next
  wake_nears rest e later =
      let k = settled_keeps times now (next_due (period_of times) now due) left rest b in
      let more : due < next.due = later.0 in
      let tries : tries_after next ≡ tries_after (record { due = due; left = left; rest = rest }) = ap tries_after e ∙ k.1 in
      record { nearer = omega arith; within = later.1 }

  late_nears : (rest : Option ℕ) (reading : ℕ) (h : Handed) → or_end_of rest due ≤ reading → reading < 2 ^ 62 → h ≡ late_by rest reading
      → next ≡ settled times now (course_after times now (record { due = due; left = left; rest = rest }) h) b
      → (h ≡ handed.Event event.Wake → due < 2 ^ 62 → (due < next.due) × (next.due < 2 ^ 62 + 2 ^ 40))
      → Nears spent (record { due = due; left = left; rest = rest }) spent next
  late_nears None reading h is_late time is e wakes =
      wake_nears None (e ∙ ap (λ x. settled times now (course_after times now (record { due = due; left = left; rest = None }) x) b) is)
      (wakes is (let at : due ≤ reading = is_late in omega arith))
  late_nears (Some until) reading h is_late time is e wakes = by (nat_le until reading) refl
    where
      handing : (x : Handed) → h ≡ x → next ≡ settled times now (course_after times now (record { due = due; left = left; rest = Some until }) x) b
      handing x same = e ∙ ap (λ x. settled times now (course_after times now (record { due = due; left = left; rest = Some until }) x) b) same

      by : (t : Bool) → nat_le until reading ≡ t → Nears spent (record { due = due; left = left; rest = Some until }) spent next
      by true rested = again_nears until (handing handed.Again (is ∙ ap (λ t. if t then handed.Again else handed.Event event.Wake) rested))
      by false rests =
          let wake : h ≡ handed.Event event.Wake = is ∙ ap (λ t. if t then handed.Again else handed.Event event.Wake) rests in
          let early : reading < until = leb-false until reading rests in
          let at : min until due ≤ reading = is_late in
          wake_nears (Some until) (handing (handed.Event event.Wake) wake) (wakes wake (omega arith))

or_that : Handed → Option Handed → Handed
or_that h None = h
or_that h (Some x) = x

pub nears : (s : Driven) (look : Look) (h : Handed) (times : TimeSettings) (now spent : ℕ) (next : Course) (b : Bool)
    → MayLook (stop_of s.course) s.driver.listener look → brings s look ≡ Some h → FitsListened (told_by s.driver.listener look)
    → next ≡ settled times now (course_after times now s.course h) b
    → (h ≡ handed.Event event.Wake → s.course.due < 2 ^ 62 → (s.course.due < next.due) × (next.due < 2 ^ 62 + 2 ^ 40))
    → spent ≡ (looks s.driver.listener look).spent → s.course.due < 2 ^ 62 + 2 ^ 40
    → Nears s.driver.listener.spent s.course spent next
unfolding or_that
nears s (late reading) h times now spent next b may some time e wakes same within =
    subst (λ n. Nears s.driver.listener.spent s.course n next) (sym same)
    (late_nears times now s.course.due s.course.left s.driver.listener.spent next b within s.course.rest reading h may time
    (sym (ap (or_that h) some)) e wakes)
nears s (came reading None) h times now spent next b may some time e wakes same within =
    absurd (let wrong : None ≡ Some h = some in cc)
nears s (came reading (Some datagram)) h times now spent next b may some time e wakes same within =
    by (hears s.driver.listener.node s.driver.listener.ears datagram).message some
  where
    by : (message : Option Msg) → handed_by s.course.rest (heard_as message) ≡ Some h → Nears s.driver.listener.spent s.course spent next
    by None none = absurd (let wrong : None ≡ Some h = none in cc)
    by (Some msg) heard =
        let is : h ≡ handed.Event (event.Deliver msg) = sym (ap (or_that h) heard) in
        subst (λ n. Nears s.driver.listener.spent s.course n next) (sym same)
        (heard_nears times now s.course.due s.course.left s.driver.listener.spent next b within s.course.rest
        (e ∙ ap (λ x. settled times now (course_after times now s.course x) b) is))

-- ---- rests

-- A client whose call may be made again keeps it as it stands.
keeps_made : (node : NodeId) (times : TimeSettings) (client : WholeClient) (reading : ℕ) (happens : Event) (made : Option MadeCall) → made ≡ client.made
    → rows.may_repeat made ≡ true → (rows.goes_on_with node times client reading happens made).state.made ≡ made
keeps_made node times client reading happens None same may = absurd (true≢false (sym may))
keeps_made node times client reading happens (Some made) same may = by made.stage may
  where
    by : (s : Stage) → rows.is_retry (rows.result_of s) ≡ true → (rows.goes_on node times client reading happens made s).state.made ≡ Some made
    by stage.OnReplicas none = absurd (true≢false (sym none))
    by (stage.Waiting target deadline) none = absurd (true≢false (sym none))
    by (stage.Ended how) is = sym same

stays_repeatable : (c : ClientView) (now : ℕ) (happens : Event) → rows.may_repeat c.state.made ≡ true
    → rows.may_repeat (rows.stepped c.node c.times c.state now happens).state.made ≡ true
unfolding rows.stepped
stays_repeatable c now happens may = ap rows.may_repeat (keeps_made c.node c.times c.state now happens c.state.made refl may) ∙ may

pub rests_rightly : (s new : Driven) (now : ℕ) (h : Handed) → RestsRightly s.course s.client → new ≡ hands s now h → RestsRightly new.course new.client
rests_rightly s new now h right is = subst (λ (x : Driven). RestsRightly x.course x.client) (sym is) (by h)
  where
    by : (h : Handed) → RestsRightly (hands s now h).course (hands s now h).client
    by handed.Again e = which (begins_rest s.driver.times now (record s.course { rest = None }) (nat_lt 0 s.course.left) _ e)
      where
        which : (rows.may_repeat (hands s now handed.Again).client.state.made ≡ true) ⊎ (false ≡ true) → rows.may_repeat (hands s now handed.Again).client.state.made ≡ true
        which (inl again) = again
        which (inr never) = absurd (true≢false (sym never))
    by (handed.Event happens) e = also happens (begins_rest s.driver.times now (course_after s.driver.times now s.course (handed.Event happens)) _ _ e)
      where
        kept : (happens : Event) → is_some s.course.rest ≡ true → rows.may_repeat (rows.stepped s.client.node s.client.times s.client.state now happens).state.made ≡ true
        kept happens rests = stays_repeatable s.client now happens (right rests)

        also : (happens : Event) → (rows.may_repeat (rows.stepped s.client.node s.client.times s.client.state now happens).state.made ≡ true) ⊎ (is_some (course_after s.driver.times now s.course (handed.Event happens)).rest ≡ true) → rows.may_repeat (rows.stepped s.client.node s.client.times s.client.state now happens).state.made ≡ true
        also happens (inl again) = again
        also event.Wake (inr rests) = kept event.Wake rests
        also (event.Deliver msg) (inr rests) = kept (event.Deliver msg) rests
        also (event.Call call) (inr rests) = kept (event.Call call) rests

-- ---- the start

module _ (task : Task) (before after : Around) (new : Driven) (called : HasCalled task before after new) where
  pub called_rightly : RestsRightly new.course new.client
  called_rightly = subst (λ (x : Driven). RestsRightly x.course x.client) (sym called.is) by
    where
      which : (rows.may_repeat (called_at task called.now).client.state.made ≡ true) ⊎ (false ≡ true) → rows.may_repeat (called_at task called.now).client.state.made ≡ true
      which (inl again) = again
      which (inr never) = absurd (true≢false (sym never))

      by : RestsRightly (called_at task called.now).course (called_at task called.now).client
      by e = which (begins_rest task.driver.times called.now (record { due = called.now + period_of task.driver.times; left = task.tries - 1; rest = None }) (nat_lt 0 (task.tries - 1)) _ e)

  -- fewer tries are left than may be made
  pub called_tries : tries_after new.course ≤ task.tries
  called_tries =
      let k = settled_keeps task.driver.times called.now (called.now + period_of task.driver.times) (task.tries - 1) None (rows.may_repeat (called_at task called.now).client.state.made) in
      let is : tries_after new.course ≡ task.tries - 1 = ap (λ (x : Driven). tries_after x.course) called.is ∙ k.1 in
      omega arith

pub both_ok : {A E : Type 0} (P Q : A → Type 0) (r : Result A E) → IfOk r P → IfOk r Q → IfOk r (λ x. P x × Q x)
both_ok P Q (Ok x) p q = (p, q)
both_ok P Q (Err e) p q = tt
