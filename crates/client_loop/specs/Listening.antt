-- what a client hears over a link until a time, by its clock
use Rattle.std.specs.Prelude.{ℕ, ◌≡◌, ◌≤◌, ◌<◌, ◌+◌, ◌^◌, Option, Some, None, List, [], ◌∷◌}
use Rattle.std.specs.Option.{IfSome}
use Rattle.xt_base.specs.Faults.{Rose}
use Rattle.xt_base.specs.TimeSettings.{TimeSettings}
use Rattle.node_mail.specs.declared.posting.Sender.{Sender}
use Rattle.xt_messages.specs.declared.message.Msg.{Msg}
use Rattle.xt_messages.specs.Limits.{FitsMessage}
use Rattle.node_links.specs.declared.link.Datagram.{Datagram}
use Rattle.node_links.specs.Streams.{Takes}
use Rattle.node_runs.specs.Hearing.{hears}
use Rattle.node_runs.specs.Links.{Reads}
use Rattle.client_loop.specs.declared.listening.Listener.{Listener}
use Rattle.client_loop.specs.declared.listening.Listened.{Listened}
use Rattle.client_loop.specs.declared.listening.Listened.TheVariants as listened
use Rattle.client_loop.specs.declared.errors.DriveErr.{DriveErr}
use Rattle.client_loop.specs.declared.errors.DriveErr.TheVariants as error

-- the driver of a client, as contracts see it: what it sends by, its times, and what it hears by
pub record DriverView : Type 0 where
  pub sender : Sender
  pub times : TimeSettings
  pub listener : Listener

-- One look for messages: the clock is read, and if it isn't late, the link is asked, which gives a datagram or has none.
pub data Look : Type 0 where
  late : ℕ → Look
  came : ℕ → Option Datagram → Look

abbrev pub reading_of : Look → ℕ
reading_of (late reading) = reading
reading_of (came reading datagram) = reading

abbrev pub datagrams_of : Look → List Datagram
datagrams_of (came reading (Some datagram)) = datagram ∷ []
datagrams_of _ = []

-- what a receive does: it is counted, and what came is heard
abbrev pub receives : Listener → Option Datagram → Listener
receives l None = record l { spent = l.spent + 1 }
receives l (Some datagram) = record l { spent = l.spent + 1; ears = (hears l.node l.ears datagram).ears }

abbrev pub heard_as : Option Msg → Listened
heard_as None = listened.Nothing
heard_as (Some msg) = listened.Heard msg

-- what is made of it
abbrev pub received_as : Listener → Option Datagram → Listened
received_as l None = listened.Nothing
received_as l (Some datagram) = heard_as (hears l.node l.ears datagram).message

abbrev pub looks : Listener → Look → Listener
looks l (late reading) = l
looks l (came reading datagram) = receives l datagram

abbrev pub told_by : Listener → Look → Listened
told_by l (late reading) = listened.Late reading
told_by l (came reading datagram) = received_as l datagram

-- a look until this time: it is late where the clock reads that or more, and else one more receive is left
abbrev pub MayLook : ℕ → Listener → Look → Type 0
MayLook until l (late reading) = until ≤ reading
MayLook until l (came reading datagram) = (reading < until) × (l.spent < l.turns)

-- what a link gave: a datagram, or nothing, where there was none to give as far as that is known
abbrev pub Gave : Option (List Datagram) → Option (List Datagram) → Option Datagram → Type 0
Gave before after None = (after ≡ before) × IfSome before (λ datagrams. datagrams ≡ [])
Gave before after (Some datagram) = Takes before after (datagram ∷ [])

abbrev pub GaveIn : Option (List Datagram) → Option (List Datagram) → Look → Type 0
GaveIn before after (late reading) = after ≡ before
GaveIn before after (came reading datagram) = Gave before after datagram

-- a receive that went well
pub record HasReceived (l : Listener) (before after : Option (List Datagram)) (new : Listener) (made : Listened) : Type 0 where
  pub datagram : Option Datagram
  pub gave : Gave before after datagram
  pub is : new ≡ receives l datagram
  pub told : made ≡ received_as l datagram

-- a receive that didn't: it failed, or memory ran out after it
abbrev pub CannotReceive : Option (List Datagram) → Option (List Datagram) → DriveErr → Type 0
CannotReceive before after (error.Link count) = after ≡ before
CannotReceive before after error.OutOfMemory = (datagram : Datagram) × Takes before after (datagram ∷ [])
CannotReceive before after _ = ⊥

-- a look that went well
pub record HasLooked (until : ℕ) (l : Listener) (before after : Option (List Datagram)) (unread read : Option (List ℕ))
    (new : Listener) (made : Listened) : Type 0 where
  pub look : Look
  pub may : MayLook until l look
  pub gave : GaveIn before after look
  pub reads : Reads unread read (reading_of look ∷ [])
  pub is : new ≡ looks l look
  pub told : made ≡ told_by l look

-- What was taken from a clock and a link, and handed to the link: readings, and datagrams that were received and sent.
pub record Traffic : Type 0 where
  pub readings : List ℕ
  pub received : List Datagram
  pub sent : List Datagram

abbrev pub no_traffic : Traffic
no_traffic = record { readings = []; received = []; sent = [] }

-- Why a look ends the client: the receive failed; the clock failed; all receives were made and another one was due; memory ran out
-- over what was received.
abbrev pub EndsLook : ℕ → Listener → Traffic → DriveErr → Type 0
EndsLook until l undone (error.Link count) =
    (reading : ℕ) × (reading < until) × (l.spent < l.turns) × (undone ≡ record { readings = reading ∷ []; received = []; sent = [] })
EndsLook until l undone (error.Clock count) = undone ≡ no_traffic
EndsLook until l undone (error.TurnsSpent turns) =
    (reading : ℕ) × (reading < until) × (l.spent ≡ l.turns) × (turns ≡ l.turns) × (undone ≡ record { readings = reading ∷ []; received = []; sent = [] })
EndsLook until l undone error.OutOfMemory =
    (reading : ℕ) × (datagram : Datagram) × (reading < until) × (l.spent < l.turns)
    × (undone ≡ record { readings = reading ∷ []; received = datagram ∷ []; sent = [] })
EndsLook until l undone error.NumbersSpent = ⊥

pub record CannotLook (until : ℕ) (l : Listener) (before after : Option (List Datagram)) (unread read : Option (List ℕ)) (why : DriveErr) : Type 0 where
  pub undone : Traffic
  pub received : Takes before after undone.received
  pub reads : Reads unread read undone.readings
  pub silent : undone.sent ≡ []
  pub ends : EndsLook until l undone why

-- the counts of faults of the link and the clock rose exactly where the error reports it
abbrev pub HasDriveCause : ℕ → ℕ → ℕ → ℕ → DriveErr → Type 0
HasDriveCause link_before link_after clock_before clock_after (error.Link count) =
    Rose link_before link_after × (count ≡ link_after) × (clock_after ≡ clock_before)
HasDriveCause link_before link_after clock_before clock_after (error.Clock count) =
    Rose clock_before clock_after × (count ≡ clock_after) × (link_after ≡ link_before)
HasDriveCause link_before link_after clock_before clock_after _ =
    (link_after ≡ link_before) × (clock_after ≡ clock_before)

-- a message that is heard is within its limits, and a reading is a time
abbrev pub FitsListened : Listened → Type 0
FitsListened (listened.Late reading) = reading < 2 ^ 62
FitsListened listened.Nothing = Unit {0}
FitsListened (listened.Heard msg) = FitsMessage msg
