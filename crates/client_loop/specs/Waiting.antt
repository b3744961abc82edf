-- a client that waits for a message, or hears what comes until a time
use Rattle.std.specs.Prelude.{ℕ, ◌≡◌, ◌≤◌, Bool, true, false, Option, Some, None, List, [], ◌∷◌, ◌++◌}
use Rattle.xt_messages.specs.declared.message.Msg.{Msg}
use Rattle.node_links.specs.declared.link.Datagram.{Datagram}
use Rattle.node_links.specs.Streams.{Takes}
use Rattle.node_runs.specs.Links.{Reads}
use Rattle.client_loop.specs.declared.errors.DriveErr.{DriveErr}
use Rattle.client_loop.specs.declared.listening.Listener.{Listener}
use Rattle.client_loop.specs.declared.listening.Listened.{Listened}
use Rattle.client_loop.specs.declared.listening.Listened.TheVariants as listened
use Rattle.client_loop.specs.Listening.{Look, came, reading_of, datagrams_of, receives, looks, told_by, MayLook, Gave, GaveIn, HasLooked, CannotLook}

-- It has looked so often, and no message was whole: what is to come then, what was received and read, and what it hears by.
pub data Waits (until : ℕ) (to_come : Option (List Datagram)) (start : Listener)
    : Option (List Datagram) → List Datagram → List ℕ → Listener → Type 0 where
  begun : Waits until to_come start to_come [] [] start
  passed : (between left : Option (List Datagram)) (received : List Datagram) (read : List ℕ) (l : Listener) (look : Look)
      → Waits until to_come start between received read l → MayLook until l look → GaveIn between left look → told_by l look ≡ listened.Nothing
      → Waits until to_come start left (received ++ datagrams_of look) (read ++ reading_of look ∷ []) (looks l look)

-- the wait so far
pub record HasPassed (until : ℕ) (start : Listener) (before after : Option (List Datagram)) (unread read : Option (List ℕ)) (now : Listener) : Type 0 where
  pub received : List Datagram
  pub readings : List ℕ
  pub waits : Waits until before start after received readings now
  pub receives : Takes before after received
  pub reads : Reads unread read readings

-- what the last look gives: a message, or none where it is late
abbrev pub IsHeard : Listened → Option Msg → Type 0
IsHeard (listened.Late reading) None = Unit {0}
IsHeard (listened.Heard msg) (Some told) = told ≡ msg
IsHeard _ _ = ⊥

-- a wait that went well
pub record HasWaited (until : ℕ) (start : Listener) (before after : Option (List Datagram)) (unread read : Option (List ℕ)) (new : Listener)
    (message : Option Msg) : Type 0 where
  pub to_come : Option (List Datagram)
  pub to_read : Option (List ℕ)
  pub now : Listener
  pub waits : HasPassed until start before to_come unread to_read now
  pub made : Listened
  pub last : HasLooked until now to_come after to_read read new made
  pub heard : IsHeard made message

-- and one that didn't
pub record CannotWait (until : ℕ) (start : Listener) (before after : Option (List Datagram)) (unread read : Option (List ℕ)) (why : DriveErr) : Type 0 where
  pub to_come : Option (List Datagram)
  pub to_read : Option (List ℕ)
  pub now : Listener
  pub waits : HasPassed until start before to_come unread to_read now
  pub last : CannotLook until now to_come after to_read read why

-- ---- hearing what comes

abbrev pub is_late : Listened → Bool
is_late (listened.Late reading) = true
is_late _ = false

-- one look, and whether it was late
abbrev pub HearsOnce : ℕ → Listener → Option (List Datagram) → Option (List Datagram) → Option (List ℕ) → Option (List ℕ) → Listener → Bool → Type 0
HearsOnce until l before after unread read new late =
    (made : Listened) × HasLooked until l before after unread read new made × (late ≡ is_late made)

-- It has received so often, each time before its clock read that: what is to come then, what was received and read, and what it hears by.
-- A message that was whole does nothing else.
pub data Listens (until : ℕ) (to_come : Option (List Datagram)) (start : Listener)
    : Option (List Datagram) → List Datagram → List ℕ → Listener → Type 0 where
  silent : Listens until to_come start to_come [] [] start
  received : (between left : Option (List Datagram)) (taken : List Datagram) (read : List ℕ) (l : Listener) (reading : ℕ) (datagram : Option Datagram)
      → Listens until to_come start between taken read l → MayLook until l (came reading datagram) → Gave between left datagram
      → Listens until to_come start left (taken ++ datagrams_of (came reading datagram)) (read ++ reading ∷ []) (receives l datagram)

-- so far it has listened
pub record HasHeard (until : ℕ) (start : Listener) (before after : Option (List Datagram)) (unread read : Option (List ℕ)) (now : Listener) : Type 0 where
  pub taken : List Datagram
  pub readings : List ℕ
  pub listens : Listens until before start after taken readings now
  pub receives : Takes before after taken
  pub reads : Reads unread read readings

-- So it went until a reading of this time or more.
pub record HasListened (until : ℕ) (start : Listener) (before after : Option (List Datagram)) (unread read : Option (List ℕ)) (new : Listener) : Type 0 where
  pub to_read : Option (List ℕ)
  pub heard : HasHeard until start before after unread to_read new
  pub last : ℕ
  pub late : until ≤ last
  pub reads : Reads to_read read (last ∷ [])

-- So it went until a look that ended it.
pub record CannotListen (until : ℕ) (start : Listener) (before after : Option (List Datagram)) (unread read : Option (List ℕ)) (why : DriveErr) : Type 0 where
  pub to_come : Option (List Datagram)
  pub to_read : Option (List ℕ)
  pub now : Listener
  pub heard : HasHeard until start before to_come unread to_read now
  pub last : CannotLook until now to_come after to_read read why
