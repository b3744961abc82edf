-- a turn of a served node, an event in it, and a look at the records after a Wake
use Rattle.std.specs.Prelude.{ℕ, Bool, ◌⊎◌, ◌≡◌, ◌≤◌, ◌<◌, Option, List, [], ◌∷◌, length, take}
use Rattle.std.specs.Option.{IfSome}
use Rattle.xt_base.specs.declared.ids.Boot.{Boot}
use Rattle.xt_messages.specs.declared.message.Msg.{Msg}
use Rattle.xt_messages.specs.declared.event.Event.{Event}
use Rattle.xt_messages.specs.declared.record.KeepBody.{KeepBody}
use Rattle.xt_messages.specs.declared.record.Record.{Record}
use Rattle.xt_messages.specs.declared.status.Status.{Status}
use Rattle.xt_messages.specs.declared.status.Status.TheVariants as status
use Rattle.replica_records.specs.Known.{Sees}
use Rattle.node_links.specs.declared.link.Datagram.{Datagram}
use Rattle.node_links.specs.Streams.{Takes}
use Rattle.node_runs.specs.Links.{Reads}
use Rattle.node_runs.specs.Hearing.{Ears}
use Rattle.node_runs.specs.Runs.{Role, Served, JournalAt, Turn, woke, idle, came, Begins, Rewrites, handles, mails, datagrams_in, readings_in}
use Rattle.node_runs.specs.BatchEnds.{Doing, nothing, rewriting}
use Rattle.node_loop.specs.declared.opening.Opening.{Opening}
use Rattle.node_loop.specs.declared.opening.Opening.TheVariants as opening

-- the node as the loop holds it
abbrev pub standing : {S : Type 0} → S → List Record → JournalAt → List Msg → Ears → ℕ → ℕ → ℕ → Bool → Served S
standing state kept journal own ears clock due count woken =
    record { state = state; kept = kept; own = own; ears = ears; clock = clock; due = due; count = count; journal = journal; woken = woken }

-- how a receive went, where so much time was left
abbrev pub Opened : ℕ → Option (List Datagram) → Option (List Datagram) → List ℕ → Opening → Type 0
Opened left before after buf opening.NoTimeLeft = (left ≡ 0) × (after ≡ before)
Opened left before after buf opening.NothingCame = (0 < left) × IfSome before (λ datagrams. datagrams ≡ []) × (after ≡ before)
Opened left before after buf (opening.Piece from len) =
    (0 < left) × (len ≤ length buf) × Takes before after (record { peer = from; bytes = take len buf } ∷ [])

-- the turn that begins so
abbrev pub turn_of : List ℕ → Opening → ℕ → Turn
turn_of buf opening.NoTimeLeft reading = woke reading
turn_of buf opening.NothingCame reading = idle reading
turn_of buf (opening.Piece from len) reading = came (record { peer = from; bytes = take len buf }) reading

abbrev pub IsWithin : List ℕ → Opening → Type 0
IsWithin buf (opening.Piece from len) = len ≤ length buf
IsWithin buf _ = Unit {0}

-- a turn was begun: its datagram was received, and after that the clock was read
pub record HasBegun (left : ℕ) (before after : Option (List Datagram)) (unread read : Option (List ℕ)) (turn : Turn) : Type 0 where
  pub begins : Begins before left turn
  pub received : Takes before after (datagrams_in (turn ∷ []))
  pub reads : Reads unread read (readings_in (turn ∷ []))

-- A turn could not be begun: the receive failed, or the clock after it.
abbrev pub CannotBegin : ℕ → Option (List Datagram) → Option (List Datagram) → Option (List ℕ) → Option (List ℕ) → Status → Type 0
CannotBegin left before after unread read (status.LinkFault count) = (0 < left) × (after ≡ before) × (read ≡ unread)
CannotBegin left before after unread read (status.ClockFault count) =
    (turn : Turn) × Begins before left turn × Takes before after (datagrams_in (turn ∷ [])) × (read ≡ unread)
CannotBegin left before after unread read _ = ⊥

-- A rewriting of the records with these bodies that ends the node: the disk failed, or memory ran out. `leaves` says what was being done to them.
abbrev pub EndsRewriting : List KeepBody → (Doing → Type 0) → Status → Type 0
EndsRewriting keep leaves (status.DiskFault count) = leaves (rewriting keep)
EndsRewriting keep leaves status.OutOfMemory = leaves (rewriting keep)
EndsRewriting keep leaves _ = ⊥

-- the same where they were to be rewritten with the bodies that the node needs
abbrev pub RewritingEnds : {S : Type 0} → Role S → Boot → ℕ → Served S → (Doing → Type 0) → Type 0
RewritingEnds role boot period s leaves = (keep : List KeepBody) × Rewrites role boot period s keep × leaves (rewriting keep)

-- A look at the records after a Wake that ends the node: memory ran out before they were to be rewritten; or it, or the disk, failed then.
abbrev pub EndsSettling : {S : Type 0} → Role S → Boot → ℕ → Served S → (Doing → Type 0) → Status → Type 0
EndsSettling role boot period s leaves (status.DiskFault count) = RewritingEnds role boot period s leaves
EndsSettling role boot period s leaves status.OutOfMemory = leaves nothing ⊎ RewritingEnds role boot period s leaves
EndsSettling role boot period s leaves _ = ⊥

-- an event was handled, on what the node sees of its records
pub record HasActed {S : Type 0} (told : Bool) (role : Role S) (boot : Boot) (old : Served S) (happens : Event) (new : Served S)
    (mailed : List Datagram → Type 0) : Type 0 where
  pub seen : List Record
  pub sees : Sees told old.kept seen
  pub is : new ≡ handles told role boot 0 old seen happens
  pub mails_are : mailed (mails role boot 0 old seen happens)
