-- how a client carries out a call over a link, by its clock: its moves, what they send, and why they end
use Rattle.std.specs.Prelude.{ℕ, ◌≡◌, ◌≤◌, ◌<◌, ◌^◌, ◌⊎◌, ◌+◌, ◌-◌, ◌/◌, ◌&&◌, not, nat_lt, nat_le, min, max, take, is_some, if◌then◌else◌, Bool, true, false, Option, Some, None, List, [], ◌∷◌, ◌++◌}
use Rattle.xt_base.specs.TimeSettings.{TimeSettings}
use Rattle.xt_messages.specs.declared.event.Event.TheVariants as event
use Rattle.xt_messages.specs.declared.event.Call.{Call}
use Rattle.xt_messages.specs.declared.message.Msg.{Msg}
use Rattle.xt_messages.specs.Limits.{FitsEvent}
use Rattle.client_rows.specs.Steps.{Step}
use Rattle.node_links.specs.declared.link.Datagram.{Datagram}
use Rattle.node_links.specs.Streams.{Takes}
use Rattle.node_runs.specs.Links.{Reads, Sends}
use Rattle.node_runs.specs.Posting.{Posted, none_posted}
use Rattle.node_runs.specs.Runs.{next_due}
use Rattle.client_rows.specs.Rows as rows
use Rattle.client_rows.specs.Rows.{WholeClient}
use Rattle.client_core.specs.Views.{ClientView}
use Rattle.client_loop.specs.declared.errors.DriveErr.{DriveErr}
use Rattle.client_loop.specs.declared.errors.DriveErr.TheVariants as error
use Rattle.client_loop.specs.declared.listening.Listened.{Listened}
use Rattle.client_loop.specs.declared.listening.Listened.TheVariants as listened
use Rattle.client_loop.specs.declared.course.Course.{Course}
use Rattle.client_loop.specs.declared.course.Handed.{Handed}
use Rattle.client_loop.specs.declared.course.Handed.TheVariants as handed
use Rattle.client_loop.specs.Listening.{DriverView, Traffic, Look, reading_of, datagrams_of, looks, told_by, MayLook, GaveIn, EndsLook}
use Rattle.client_loop.specs.Mailing.{mailed}

-- What is known of a link and a clock: the datagrams that are to come, those that were sent, how many were lost, and the readings to
-- come.
pub record Around : Type 0 where
  pub to_come : Option (List Datagram)
  pub sent : Option (List Datagram)
  pub losses : ℕ
  pub to_read : Option (List ℕ)

-- this passed between a client and what is around it
pub record Passes (before after : Around) (traffic : Traffic) : Type 0 where
  pub reads : Reads before.to_read after.to_read traffic.readings
  pub receives : Takes before.to_come after.to_come traffic.received
  pub sends : Sends before.sent after.sent before.losses after.losses traffic.sent

abbrev pub both : Traffic → Traffic → Traffic
both first second = record {
  readings = first.readings ++ second.readings;
  received = first.received ++ second.received;
  sent = first.sent ++ second.sent;
}

-- a call that is to be carried out: who makes it, by which end of a link, and how often at most
pub record Task : Type 0 where
  pub driver : DriverView
  pub client : ClientView
  pub call : Call
  pub tries : ℕ

-- how far it is
pub record Driven : Type 0 where
  pub driver : DriverView
  pub client : ClientView
  pub course : Course

-- ---- times

-- a Wake comes each eighth of a lease, and at most each millisecond
abbrev pub period_of : TimeSettings → ℕ
period_of times = max 1 (times.lease / 8)

abbrev pub or_end_of : Option ℕ → ℕ → ℕ
or_end_of None due = due
or_end_of (Some until) due = min until due

-- until when is listened: to the next Wake, or to the end of a rest
abbrev pub stop_of : Course → ℕ
stop_of course = or_end_of course.rest course.due

-- ---- what is handed to the client

-- whether a rest is over at this reading
abbrev pub has_rested : Option ℕ → ℕ → Bool
has_rested None reading = false
has_rested (Some until) reading = nat_le until reading

-- What a clock that is late brings: the end of a rest is the next try, and else it is a Wake.
abbrev pub late_by : Option ℕ → ℕ → Handed
late_by rest reading = if has_rested rest reading then handed.Again else handed.Event event.Wake

abbrev pub handed_by : Option ℕ → Listened → Option Handed
handed_by rest (listened.Late reading) = Some (late_by rest reading)
handed_by rest listened.Nothing = None
handed_by rest (listened.Heard msg) = Some (handed.Event (event.Deliver msg))

abbrev pub step_of : ClientView → ℕ → Handed → Step WholeClient
step_of c now handed.Again = rows.called_again c.node c.times c.state now
step_of c now (handed.Event happens) = rows.stepped c.node c.times c.state now happens

-- A Wake moves the next one on, on a grid; the next try ends a rest.
abbrev pub course_after : TimeSettings → ℕ → Course → Handed → Course
course_after times now course handed.Again = record course { rest = None }
course_after times now course (handed.Event event.Wake) = record course { due = next_due (period_of times) now course.due }
course_after times now course (handed.Event happens) = course

-- A try that ended as one that may be made again is followed by a rest of half a lease, where a try is left.
abbrev pub settled : TimeSettings → ℕ → Course → Bool → Course
settled times now course repeats =
    if nat_lt 0 course.left && repeats && not (is_some course.rest) then record course { left = course.left - 1; rest = Some (now + times.lease / 2) }
    else course

-- ---- moves

-- what a step of a client sends
abbrev pub mails : DriverView → List Msg → Posted
mails d outs = mailed d.sender.node d.sender.boot d.listener.ears.book (none_posted d.sender.count) outs

-- the client takes this step at this clock, where the call is so far; its messages are sent
abbrev pub takes_step : DriverView → ClientView → Course → ℕ → Step WholeClient → Driven
takes_step d c course now step = record {
  driver = record d { sender = record d.sender { count = (mails d step.turned.outs).count } };
  client = record c { state = step.state };
  course = settled d.times now course (rows.may_repeat step.state.made);
}

-- this is handed to the client
abbrev pub hands : Driven → ℕ → Handed → Driven
hands s now h = takes_step s.driver s.client (course_after s.driver.times now s.course h) now (step_of s.client now h)

-- what a look leaves
abbrev pub looked : Driven → Look → Driven
looked s look = record s { driver = record s.driver { listener = looks s.driver.listener look } }

-- and what it brings
abbrev pub brings : Driven → Look → Option Handed
brings s look = handed_by s.course.rest (told_by s.driver.listener look)

-- A move: a look that brings nothing; or one that brings something, which is handed to the client at a further reading.
pub data Move : Type 0 where
  passes : Look → Move
  acts : Look → ℕ → Handed → Move

abbrev pub after_move : Driven → Move → Driven
after_move s (passes look) = looked s look
after_move s (acts look now h) = hands (looked s look) now h

abbrev pub look_in : Move → Look
look_in (passes look) = look
look_in (acts look now h) = look

abbrev pub looking : Look → Traffic
looking look = record { readings = reading_of look ∷ []; received = datagrams_of look; sent = [] }

-- a further reading, and these messages
abbrev pub telling : ℕ → List Datagram → Traffic
telling now datagrams = record { readings = now ∷ []; received = []; sent = datagrams }

abbrev pub handing : Driven → ℕ → Handed → Traffic
handing s now h = telling now (mails s.driver (step_of s.client now h).turned.outs).datagrams

abbrev pub traffic_of : Driven → Move → Traffic
traffic_of s (passes look) = looking look
traffic_of s (acts look now h) = both (looking look) (handing (looked s look) now h)

-- what a move hands over is what its look brings
abbrev pub IsBrought : Driven → Move → Type 0
IsBrought s (passes look) = brings s look ≡ None
IsBrought s (acts look now h) = brings s look ≡ Some h

-- the call is over: its last try has ended, and no rest follows it
abbrev pub is_over : Driven → Bool
is_over s = not (is_some s.course.rest) && is_some (rows.result_in s.client.state.made)

-- what a move may be, where the call goes on
pub record May (to_come left : Option (List Datagram)) (s : Driven) (move : Move) : Type 0 where
  pub goes_on : is_over s ≡ false
  pub look : MayLook (stop_of s.course) s.driver.listener (look_in move)
  pub gave : GaveIn to_come left (look_in move)
  pub brought : IsBrought s move

-- ---- the call from its start

abbrev pub call_step : Task → ℕ → Step WholeClient
call_step task now = rows.called task.client.node task.client.times task.client.state now task.call

abbrev pub calling : Task → ℕ → Traffic
calling task now = telling now (mails task.driver (call_step task now).turned.outs).datagrams

-- the call is made at this reading; the first Wake is due a period later
abbrev pub called_at : Task → ℕ → Driven
called_at task now =
    takes_step task.driver task.client (record { due = now + period_of task.driver.times; left = task.tries - 1; rest = None }) now (call_step task now)

-- The call is made, and has come so far by moves: what is to come then, what passed, and how far it is.
pub data Comes (task : Task) (to_come : Option (List Datagram)) : Option (List Datagram) → Traffic → Driven → Type 0 where
  begun : (now : ℕ) → Comes task to_come to_come (calling task now) (called_at task now)
  moved : (between left : Option (List Datagram)) (so_far : Traffic) (s : Driven) (move : Move)
      → Comes task to_come between so_far s → May between left s move
      → Comes task to_come left (both so_far (traffic_of s move)) (after_move s move)

-- so far it has come, and this is around it
pub record HasCome (task : Task) (before now : Around) (s : Driven) : Type 0 where
  pub traffic : Traffic
  pub comes : Comes task before.to_come now.to_come traffic s
  pub passes : Passes before now traffic

-- the call is carried out
pub record HasCarried (task : Task) (before after : Around) (driver : DriverView) (client : ClientView) : Type 0 where
  pub course : Course
  pub come : HasCome task before after (record { driver = driver; client = client; course = course })
  pub over : is_over (record { driver = driver; client = client; course = course }) ≡ true

-- ---- where it isn't

-- Memory runs out over a step: the client didn't take it, and nothing was sent; or it took it, and a front of its messages was sent.
abbrev pub CutsStep : DriverView → ClientView → Step WholeClient → List Datagram → ClientView → Type 0
CutsStep d c step sent client =
    ((client ≡ c) × (sent ≡ []))
    ⊎ ((client ≡ record c { state = step.state }) × ((front : ℕ) × (sent ≡ (mails d (take front step.turned.outs)).datagrams)))

-- Why nothing is handed over: the clock fails, or memory runs out.
abbrev pub CannotHand : Driven → Handed → Traffic → ClientView → DriveErr → Type 0
CannotHand s h undone client (error.Clock count) =
    (client ≡ s.client) × (undone ≡ record { readings = []; received = []; sent = [] })
CannotHand s h undone client error.OutOfMemory =
    (now : ℕ) × (undone ≡ telling now undone.sent) × CutsStep s.driver s.client (step_of s.client now h) undone.sent client
CannotHand s h undone client _ = ⊥

-- Why a move isn't made: its look ends the call, or what it brings isn't handed over.
pub data EndsMove (s : Driven) (client : ClientView) (why : DriveErr) : Traffic → Type 0 where
  in_look : (undone : Traffic) → EndsLook (stop_of s.course) s.driver.listener undone why → undone.sent ≡ [] → client ≡ s.client → EndsMove s client why undone
  in_handing : (look : Look) (h : Handed) (undone : Traffic) → MayLook (stop_of s.course) s.driver.listener look → brings s look ≡ Some h
      → CannotHand (looked s look) h undone client why → EndsMove s client why (both (looking look) undone)

-- the call was made, has come so far, and then a move wasn't made
pub record StopsShort (task : Task) (before after : Around) (client : ClientView) (why : DriveErr) : Type 0 where
  pub between : Option (List Datagram)
  pub so_far : Traffic
  pub last : Driven
  pub comes : Comes task before.to_come between so_far last
  pub goes_on : is_over last ≡ false
  pub undone : Traffic
  pub ends : EndsMove last client why undone
  pub passes : Passes before after (both so_far undone)

-- Why a call isn't made: no number is left, and nothing happens; the clock fails; or memory runs out.
abbrev pub CannotCall : Task → Around → Around → DriverView → ClientView → DriveErr → Type 0
CannotCall task before after driver client error.NumbersSpent =
    (2 ^ 62 ≤ task.client.state.replicas.next) × (after ≡ before) × (driver ≡ task.driver) × (client ≡ task.client)
CannotCall task before after driver client (error.Clock count) = (after ≡ before) × (driver ≡ task.driver) × (client ≡ task.client)
CannotCall task before after driver client error.OutOfMemory =
    (now : ℕ) × (sent : List Datagram) × Passes before after (telling now sent) × CutsStep task.driver task.client (call_step task now) sent client
CannotCall task before after driver client _ = ⊥

-- a call isn't carried out: it isn't made, or stops short
abbrev pub CannotCarry : Task → Around → Around → DriverView → ClientView → DriveErr → Type 0
CannotCarry task before after driver client why =
    CannotCall task before after driver client why ⊎ StopsShort task before after client why

-- what is handed over is within its limits
abbrev pub FitsHanded : Handed → Type 0
FitsHanded (handed.Event happens) = FitsEvent happens
FitsHanded handed.Again = Unit {0}

-- ---- what each step of the code does

-- a step of the client was taken where a call is so far, at this clock
pub record HasTaken (d : DriverView) (c : ClientView) (course : ℕ → Course) (step : ℕ → Step WholeClient) (before after : Around) (new : Driven) : Type 0 where
  pub now : ℕ
  pub time : now < 2 ^ 62
  pub is : new ≡ takes_step d c (course now) now (step now)
  pub passes : Passes before after (telling now (mails d (step now).turned.outs).datagrams)

-- something was handed to the client
abbrev pub HasHanded : Driven → Handed → Around → Around → Driven → Type 0
HasHanded s h before after new =
    HasTaken s.driver s.client (λ now. course_after s.driver.times now s.course h) (λ now. step_of s.client now h) before after new

-- nothing was
pub record HasNotHanded (s : Driven) (h : Handed) (before after : Around) (client : ClientView) (why : DriveErr) : Type 0 where
  pub undone : Traffic
  pub ends : CannotHand s h undone client why
  pub passes : Passes before after undone

-- a move was made
pub record HasMoved (old : Driven) (before after : Around) (new : Driven) : Type 0 where
  pub move : Move
  pub may : May before.to_come after.to_come old move
  pub is : new ≡ after_move old move
  pub passes : Passes before after (traffic_of old move)

-- a move wasn't
pub record HasNotMoved (old : Driven) (before after : Around) (client : ClientView) (why : DriveErr) : Type 0 where
  pub undone : Traffic
  pub ends : EndsMove old client why undone
  pub passes : Passes before after undone

-- the call was made
abbrev pub HasCalled : Task → Around → Around → Driven → Type 0
HasCalled task before after new =
    HasTaken task.driver task.client
    (λ now. record { due = now + period_of task.driver.times; left = task.tries - 1; rest = None })
    (λ now. call_step task now) before after new

-- ---- why the moves end

-- how many tries are still to be made after the one that runs
abbrev pub tries_after : Course → ℕ
tries_after course = if is_some course.rest then course.left + 1 else course.left

-- Each move makes a receive, or moves the next Wake on, or begins a try; and a Wake is due before the end of all times.
pub record Nears (old_spent : ℕ) (old : Course) (spent : ℕ) (new : Course) : Type 0 where
  pub nearer : old_spent + old.due + tries_after new < spent + new.due + tries_after old
  pub within : new.due < 2 ^ 62 + 2 ^ 40

-- in a rest the call stands at an end after which it may be made again
abbrev pub RestsRightly : Course → ClientView → Type 0
RestsRightly course c = is_some course.rest ≡ true → rows.may_repeat c.state.made ≡ true
