-- A node that is served: the run of its core on what comes, with its records, its messages to itself and what it posts.
use Rattle.std.specs.Prelude.{ℕ, ◌≡◌, ◌<◌, ◌⊎◌, ◌+◌, ◌-◌, ◌*◌, max, nat_le, if◌then◌else◌, Bool, true, false, Option, Some, None, List, [], ◌∷◌, ◌++◌, length}
use Rattle.std.specs.Option.{IfSome, option_map}
use Rattle.xt_base.specs.Faults.{counted}
use Rattle.xt_base.specs.declared.ids.NodeId.{NodeId}
use Rattle.xt_base.specs.declared.ids.Boot.{Boot}
use Rattle.xt_messages.specs.declared.message.Msg.{Msg}
use Rattle.xt_messages.specs.declared.event.Event.{Event}
use Rattle.xt_messages.specs.declared.event.Event.TheVariants as event
use Rattle.xt_messages.specs.declared.record.KeepBody.{KeepBody}
use Rattle.xt_messages.specs.declared.record.Record.{Record}
use Rattle.xt_protocol.specs.Forgetting.{rewritten}
use Rattle.journal_areas.specs.declared.superblock.Superblock.{Superblock}
use Rattle.journal_areas.specs.declared.site.Area.{Area}
use Rattle.journal_areas.specs.Areas.{end_in}
use Rattle.journal_areas.specs.Sites.{area_of, moved, need_for}
use Rattle.journal_moves.specs.Answers.{full_need}
use Rattle.replica_records.specs.Known.{as_known, Sees}
use Rattle.replica_records.specs.RecordText.{record_text}
use Rattle.object_store.specs.Swaps.{size_of}
use Rattle.client_rows.specs.Steps.{Step}
use Rattle.world_spec.specs.NodeSteps.{to_itself, one_more}
use Rattle.node_links.specs.declared.link.Datagram.{Datagram}
use Rattle.node_links.specs.Streams.{Takes}
use Rattle.node_runs.specs.Hearing.{Ears, hears}
use Rattle.node_runs.specs.Posting.{Posted, posted, none_posted}

-- The core of a node: its step on what it sees of its records, at a clock, on an event; which message ends it; and which bodies it
-- needs, where its records can be rewritten with them, and what it is without the others. A node that holds no bodies never rewrites.
pub record Role (S : Type 0) : Type 0 where
  pub node : NodeId
  pub step : List Record → S → ℕ → Event → Step S
  pub stops : Msg → Bool
  pub keeps : S → Option (List KeepBody)
  pub without : List KeepBody → S → S

-- A turn of a served node, and what the clock read in it: a Wake, since no time was left to it, or since the link had nothing to
-- give; or a datagram.
pub data Turn : Type 0 where
  woke : ℕ → Turn
  idle : ℕ → Turn
  came : Datagram → ℕ → Turn

-- the datagrams of turns, and what the clock read in them
abbrev pub datagrams_in : List Turn → List Datagram
datagrams_in [] = []
datagrams_in (woke reading ∷ turns) = datagrams_in turns
datagrams_in (idle reading ∷ turns) = datagrams_in turns
datagrams_in (came datagram reading ∷ turns) = datagram ∷ datagrams_in turns

abbrev pub reading_in : Turn → ℕ
reading_in (woke reading) = reading
reading_in (idle reading) = reading
reading_in (came datagram reading) = reading

abbrev pub readings_in : List Turn → List ℕ
readings_in [] = []
readings_in (turn ∷ turns) = reading_in turn ∷ readings_in turns

-- Where the records are on the disk: in a journal with this superblock, or with none, whose next record goes to this gate, and whose
-- limit is so many bytes.
pub record JournalAt : Type 0 where
  pub superblock : Option Superblock
  pub end : ℕ
  pub limit : ℕ

-- the same of a journal of these payloads
abbrev pub journal_with : Option Superblock → List (List ℕ) → ℕ → JournalAt
journal_with super payloads limit = record { superblock = super; end = end_in super payloads; limit = limit }

-- its area that counts
abbrev pub area_at : JournalAt → Area
area_at journal = area_of journal.superblock journal.end

-- one record more: its payload and its length come after the gate, and then the next gate
abbrev pub grown : JournalAt → Option Record → JournalAt
grown journal None = journal
grown journal (Some rec) = record journal { end = journal.end + (5 + length (record_text rec)) }

-- how many bytes the journal needs for a record more
abbrev pub needed_in : JournalAt → Record → ℕ
needed_in journal rec = journal.end + (6 + length (record_text rec))

-- these records in an area of their own
abbrev pub moved_to : JournalAt → List Record → JournalAt
moved_to journal records = record journal {
  superblock = Some (moved journal.superblock journal.end (size_of records));
  end = need_for journal.superblock journal.end (size_of records) - 1;
}

-- What the journal would need that has no room for such an area, or its limit, where the numbers of areas are spent; None where it has room.
abbrev pub lacks : JournalAt → List Record → Option ℕ
lacks journal records = full_need journal.superblock journal.end (size_of records) journal.limit

-- how many bytes records take before they are rewritten for the first time
abbrev pub least_area : ℕ
least_area = 1048576

-- The records of an area have grown so much that they are to be rewritten: they take the least number of bytes, and twice what they took
-- when they were rewritten last, which is 0 where they never were.
abbrev pub is_due : Area → Bool
is_due area = nat_le (least_area + 2 * area.first) area.length

-- A served node: its state, what it keeps, and where that is on its disk; its messages to itself that it hasn't handled, what it keeps of
-- its link, the clock that it used last, when its next Wake is due, how many messages it posted; and whether a Wake has come, after which it
-- hasn't seen yet whether its records are to be rewritten.
pub record Served (S : Type 0) : Type 0 where
  pub state : S
  pub kept : List Record
  pub own : List Msg
  pub ears : Ears
  pub clock : ℕ
  pub due : ℕ
  pub count : ℕ
  pub journal : JournalAt
  pub woken : Bool

-- The next Wake is due a period after this one was due, or, where that has passed, a period after now.
abbrev pub next_due : ℕ → ℕ → ℕ → ℕ
next_due period now due = if nat_le (counted (due + period)) now then now + period else counted (due + period)

-- how a turn begins, where so much time is left to the next Wake: with none left no receive is made
abbrev pub Begins : Option (List Datagram) → ℕ → Turn → Type 0
Begins to_come left (woke reading) = left ≡ 0
Begins to_come left (idle reading) = (0 < left) × IfSome to_come (λ datagrams. datagrams ≡ [])
Begins to_come left (came datagram reading) = 0 < left

abbrev pub delivered : Option Msg → Option Event
delivered None = None
delivered (Some msg) = Some (event.Deliver msg)

-- what doesn't depend on whether the disk's contents are known
module _ {S : Type 0} (role : Role S) (boot : Boot) (period : ℕ) where
  -- what the step of an event posts
  abbrev pub posts : Served S → Step S → Posted
  posts s step = posted role.node boot s.ears.book (none_posted s.count) step.turned.outs

  -- the step of an event, where the node sees these records
  abbrev pub step_at : Served S → List Record → Event → Step S
  step_at s seen happens = role.step seen s.state s.clock happens

  abbrev pub mails : Served S → List Record → Event → List Datagram
  mails s seen happens = (posts s (step_at s seen happens)).datagrams

  -- no event is used at an earlier clock than the one before
  abbrev pub at_reading : Served S → ℕ → Served S
  at_reading s reading = record s { clock = max reading s.clock }

  abbrev pub wakes_at : Served S → ℕ → Served S
  wakes_at s now = record s { clock = now; due = next_due period now s.due; woken = true }

  -- the node at the clock of a turn, with what it heard in it, and what happens then
  abbrev pub meets : Served S → Turn → Served S
  meets s (woke reading) = wakes_at s (max reading s.clock)
  meets s (idle reading) = wakes_at s (max reading s.clock)
  meets s (came datagram reading) = record (at_reading s reading) { ears = (hears role.node s.ears datagram).ears }

  abbrev pub event_in : Served S → Turn → Option Event
  event_in s (woke reading) = Some event.Wake
  event_in s (idle reading) = Some event.Wake
  event_in s (came datagram reading) = delivered (hears role.node s.ears datagram).message

  abbrev pub mails_in : Served S → List Record → Option Event → List Datagram
  mails_in s seen None = []
  mails_in s seen (Some happens) = mails s seen happens

  -- what is posted in a turn
  abbrev pub posts_in : Served S → List Record → Turn → List Datagram
  posts_in s seen turn = mails_in (meets s turn) seen (event_in s turn)

  -- whether an event ends the node
  abbrev pub ends_event : Option Event → Bool
  ends_event (Some (event.Deliver msg)) = role.stops msg
  ends_event _ = false

  -- The node has come to this event: all before it is done, and nothing of the event. The list has the turn of the event, if it is of one.
  pub data Meets (to_come : Option (List Datagram)) (s : Served S) : Event → Served S → List Turn → Type 0 where
    in_turn : (turn : Turn) (happens : Event) → s.own ≡ [] → s.woken ≡ false → Begins to_come (s.due - s.clock) turn → event_in s turn ≡ Some happens
        → Meets to_come s happens (meets s turn) (turn ∷ [])
    of_itself : (msg : Msg) (rest : List Msg) → s.own ≡ msg ∷ rest → Meets to_come s (event.Deliver msg) (record s { own = rest }) []

  -- ---- records are rewritten

  -- A Wake was handled, with all messages to itself that came of it: the node sees whether its records are to be rewritten.
  abbrev pub HasWoken : Served S → Type 0
  HasWoken s = (s.own ≡ []) × (s.woken ≡ true)

  -- they are, with these bodies
  pub record Rewrites (s : Served S) (keep : List KeepBody) : Type 0 where
    pub woken : HasWoken s
    pub due : is_due (area_at s.journal) ≡ true
    pub needs : role.keeps s.state ≡ Some keep

  -- they aren't: they haven't grown enough, or the node never rewrites
  pub record Rests (s : Served S) : Type 0 where
    pub woken : HasWoken s
    pub why : (is_due (area_at s.journal) ≡ false) ⊎ (role.keeps s.state ≡ None)

  abbrev pub rewrites_with : Served S → List KeepBody → Served S
  rewrites_with s keep = record s {
    state = role.without keep s.state;
    kept = rewritten keep s.kept;
    journal = moved_to s.journal (rewritten keep s.kept);
    woken = false;
  }

-- ---- passes

-- A step is made on what the node sees of its records: these, where the disk's contents are known (`told`); elsewhere bodies are what the
-- disk gave. Of the records that it keeps there is what is known.
module _ {S : Type 0} (told : Bool) (role : Role S) (boot : Boot) (period : ℕ) where
  -- Its record is kept, its messages to itself wait after the others, and its other messages are posted.
  abbrev pub stepped : Served S → Step S → Served S
  stepped s step = record s {
    state = step.state;
    kept = one_more s.kept (option_map (as_known told) step.turned.rec);
    own = s.own ++ to_itself role.node step.turned.outs;
    count = (posts role boot period s step).count;
    journal = grown s.journal step.turned.rec;
  }

  -- an event is handled
  abbrev pub handles : Served S → List Record → Event → Served S
  handles s seen happens = stepped s (step_at role boot period s seen happens)

  abbrev pub goes_through : Served S → List Record → Option Event → Served S
  goes_through s seen None = s
  goes_through s seen (Some happens) = handles s seen happens

  -- a turn
  abbrev pub takes : Served S → List Record → Turn → Served S
  takes s seen turn = goes_through (meets role boot period s turn) seen (event_in role boot period s turn)

  -- One turn, or one message of the node to itself, and what it posts. Messages to itself come before the next turn, first in
  -- first out, at the clock of the turn that they follow. After a Wake, once none is left, the records are rewritten where they have
  -- grown so much and the journal has room for them; only where it lacks room all stays. Nothing is posted then.
  pub data Passes (to_come : Option (List Datagram)) (s : Served S) : List Turn → List Datagram → Served S → Type 0 where
    by_turn : (turn : Turn) (seen : List Record) → Sees told s.kept seen → s.own ≡ [] → s.woken ≡ false → Begins to_come (s.due - s.clock) turn
        → ends_event role boot period (event_in role boot period s turn) ≡ false
        → Passes to_come s (turn ∷ []) (posts_in role boot period s seen turn) (takes s seen turn)
    by_own : (msg : Msg) (rest : List Msg) (seen : List Record) → Sees told s.kept seen → s.own ≡ msg ∷ rest
        → Passes to_come s [] (mails role boot period (record s { own = rest }) seen (event.Deliver msg)) (handles (record s { own = rest }) seen (event.Deliver msg))
    by_rewriting : (keep : List KeepBody) → Rewrites role boot period s keep → lacks s.journal (rewritten keep s.kept) ≡ None
        → Passes to_come s [] [] (rewrites_with role boot period s keep)
    by_no_room : (keep : List KeepBody) (need : ℕ) → Rewrites role boot period s keep → lacks s.journal (rewritten keep s.kept) ≡ Some need
        → Passes to_come s [] [] (record s { woken = false })
    by_rest : Rests role boot period s → Passes to_come s [] [] (record s { woken = false })

  -- The node has come so far from its start by these turns, and posted these datagrams; and what is to come then.
  pub data Comes (to_come : Option (List Datagram)) (start : Served S)
      : Option (List Datagram) → List Turn → List Datagram → Served S → Type 0 where
    begun : Comes to_come start to_come [] [] start
    passed : (left after : Option (List Datagram)) (turns more : List Turn) (before mailed : List Datagram) (s next : Served S)
        → Comes to_come start left turns before s → Passes left s more mailed next → Takes left after (datagrams_in more)
        → Comes to_come start after (turns ++ more) (before ++ mailed) next
