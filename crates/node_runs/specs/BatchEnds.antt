-- What serving a node in batches does to its link and its clock, and why it ends.
use Rattle.std.specs.Prelude.{ℕ, ◌≡◌, ◌≢◌, ◌≤◌, ◌<◌, ◌+◌, ◌-◌, ◌⊎◌, Bool, true, IsTrue, Option, Some, None, List, [], ◌∷◌, ◌++◌, length}
use Rattle.std.specs.Option.{IfSome, option_map}
use Rattle.disk_model.specs.Disk.{Kept, IsImage}
use Rattle.xt_base.specs.declared.ids.Boot.{Boot}
use Rattle.xt_base.specs.Faults.{Rose}
use Rattle.xt_messages.specs.declared.record.KeepBody.{KeepBody}
use Rattle.xt_messages.specs.declared.record.Record.{Record}
use Rattle.xt_messages.specs.declared.status.Status.{Status}
use Rattle.xt_messages.specs.declared.status.Status.TheVariants as status
use Rattle.xt_protocol.specs.Forgetting.{rewritten}
use Rattle.replica_records.specs.Known.{as_known}
use Rattle.node_links.specs.declared.link.Datagram.{Datagram}
use Rattle.node_links.specs.Streams.{Takes}
use Rattle.node_runs.specs.Links.{Sends, Reads}
use Rattle.node_runs.specs.Runs.{Role, JournalAt, Turn, Served, Begins, Rewrites, needed_in, event_in, ends_event, datagrams_in, readings_in}
use Rattle.node_runs.specs.Serving.{IsIn, record_in, front_in, IsBetween, MayTurn, IsOver, HasServeCause}
use Rattle.node_runs.specs.Keeping.{StandsForOne, KeepsOn, KeptInTurn}
use Rattle.node_runs.specs.Batches.{IsBatch, Goes}

-- What was being done to the records on the disk of a node when it ended.
pub data Doing : Type 0 where
  -- nothing: they are as they were
  nothing : Doing
  -- these were being put after them, all at once: all of them are there, or none is
  putting : List Record → Doing
  -- These were to be put after them; memory ran out before that, and nothing was done: they are as they were.
  refused : List Record → Doing
  -- these were put after them, and all of them are there
  has_put : List Record → Doing
  -- they were being rewritten with these bodies: they are, or they are as they were
  rewriting : List KeepBody → Doing

-- the records once that were done
abbrev pub done_by : List Record → Doing → List Record
done_by kept nothing = kept
done_by kept (putting puts) = kept ++ puts
done_by kept (refused puts) = kept ++ puts
done_by kept (has_put puts) = kept ++ puts
done_by kept (rewriting keep) = rewritten keep kept

-- the lists of records of which a crash leaves one, once the node has ended
abbrev pub left_by : List Record → Doing → List (List Record)
left_by kept nothing = kept ∷ []
left_by kept (putting puts) = kept ∷ (kept ++ puts) ∷ []
left_by kept (refused puts) = kept ∷ []
left_by kept (has_put puts) = (kept ++ puts) ∷ []
left_by kept (rewriting keep) = kept ∷ rewritten keep kept ∷ []

-- What a node left undone: the turns of the batch that it was in, with the turn that it was in; a datagram that was received, where the
-- clock failed after it; what was being done to its records; and what it posted of the batch.
pub record Unfinished : Type 0 where
  pub turns : List Turn
  pub unread : List Datagram
  pub doing : Doing
  pub more : List Datagram

abbrev pub all_done : Unfinished
all_done = record { turns = []; unread = []; doing = nothing; more = [] }

abbrev pub listed : Option Record → List Record
listed None = []
listed (Some rec) = rec ∷ []

-- a record fits into the journal, if there is one
abbrev pub FitsIn : JournalAt → Option Record → Type 0
FitsIn journal rec = IfSome rec (λ rec. needed_in journal rec ≤ journal.limit)

module _ {S : Type 0} (told : Bool) (role : Role S) (boot : Boot) (period : ℕ) where
  -- The node was in a batch, of which nothing was put on the disk before, and nothing posted.
  pub record IsInBatch (to_come : Option (List Datagram)) (s : Served S) : Type 0 where
    pub after : Option (List Datagram)
    pub turns : List Turn
    pub posts : List Datagram
    pub next : Served S
    pub batch : IsBatch told role boot period to_come s after turns posts next

  -- what is known of the record of an event, if it has one
  abbrev pub puts_in : (to_come : Option (List Datagram)) (s : Served S) → IsIn told role boot period to_come s → List Record
  puts_in to_come s it = listed (option_map (as_known told) (record_in told role boot period to_come s it))

  -- at most one turn more, which may begin there
  abbrev pub BeginsOne : ℕ → ℕ → Option (List Datagram) → Served S → List Turn → Type 0
  BeginsOne limit spent to_come s [] = Unit {0}
  BeginsOne limit spent to_come s (turn ∷ []) = MayTurn told role boot period limit spent s × Begins to_come (s.due - s.clock) turn
  BeginsOne limit spent to_come s _ = ⊥

  -- Where a node stopped that had come so far, by this many turns of those that are allowed: the turn that it had begun there; a datagram
  -- that it had received there, where the clock failed after it; and the record, if any, that was to be put of the event that it was in.
  pub data Stops (limit spent : ℕ) (to_come : Option (List Datagram)) (s : Served S) : List Turn → List Datagram → List Record → Type 0 where
    between : Stops limit spent to_come s [] [] []
    in_turn : (turn : Turn) → MayTurn told role boot period limit spent s → Begins to_come (s.due - s.clock) turn → Stops limit spent to_come s (turn ∷ []) [] []
    unclocked : (turn : Turn) → MayTurn told role boot period limit spent s → Begins to_come (s.due - s.clock) turn
        → Stops limit spent to_come s [] (datagrams_in (turn ∷ [])) []
    in_event : (it : IsIn told role boot period to_come s) → FitsIn it.met.journal (record_in told role boot period to_come s it)
        → Stops limit spent to_come s it.turn [] (puts_in to_come s it)

  -- The node was in a batch, and stopped after it. The records of both, of which there are some, weren't put: `done` says of them what was
  -- done. Nothing was posted.
  pub record IsNotPut (limit spent : ℕ) (to_come : Option (List Datagram)) (s : Served S) (left : Unfinished) (done : List Record → Doing) : Type 0 where
    pub within : IsInBatch to_come s
    pub turns : List Turn
    pub unread : List Datagram
    pub puts : List Record
    pub stops : Stops limit (spent + length within.turns) within.after within.next turns unread puts
    pub some : within.batch.puts ++ puts ≢ []
    pub is : left ≡ record { turns = within.turns ++ turns; unread = unread; doing = done (within.batch.puts ++ puts); more = [] }

  -- a body couldn't be read in an event, before which nothing waited: nothing of it was put or posted
  abbrev pub FailsToRead : Option (List Datagram) → Served S → Unfinished → Type 0
  FailsToRead to_come s left = (it : IsIn told role boot period to_come s) × (left ≡ record all_done { turns = it.turn })

  -- the disk failed as the records were rewritten, or memory ran out then
  abbrev pub FailsToRewrite : Served S → Unfinished → Type 0
  FailsToRewrite s left = (keep : List KeepBody) × Rewrites role boot period s keep × (left ≡ record all_done { doing = rewriting keep })

  -- Memory ran out before anything was done of an event, or of the records that were to be rewritten.
  abbrev pub RunsOutBefore : ℕ → ℕ → Option (List Datagram) → Served S → Unfinished → Type 0
  RunsOutBefore limit spent to_come s left =
      (turns : List Turn) × BeginsOne limit spent to_come s turns × (left ≡ record all_done { turns = turns })

  -- Memory ran out as an event's messages were encoded: its record and those of the batch before it were put at once, and after that the
  -- messages of the batch and a prefix of the event's own were posted.
  abbrev pub RunsOutAfterPut : Option (List Datagram) → Served S → Unfinished → Type 0
  RunsOutAfterPut to_come s left =
      (b : IsInBatch to_come s) × ((it : IsIn told role boot period b.after b.next) × FitsIn it.met.journal (record_in told role boot period b.after b.next it)
      × ((count : ℕ) × (left ≡ record {
        turns = b.turns ++ it.turn;
        unread = [];
        doing = has_put (b.batch.puts ++ puts_in b.after b.next it);
        more = b.posts ++ front_in told role boot period b.after b.next it count;
      })))

  -- Why serving ends, where the node has come so far by batches, by this many turns of those that are allowed; all of these batches were put
  -- and posted.
  abbrev pub EndsBatches : ℕ → ℕ → Option (List Datagram) → Served S → Unfinished → Status → Type 0
  -- a good Stop came
  EndsBatches limit spent to_come s left status.Done =
      MayTurn told role boot period limit spent s
      × ((turn : Turn) × Begins to_come (s.due - s.clock) turn × (left ≡ record all_done { turns = turn ∷ [] })
      × (ends_event role boot period (event_in role boot period s turn) ≡ true))
  -- all turns were taken, and the last one ended
  EndsBatches limit spent to_come s left (status.TurnsSpent turns) = IsBetween told role boot period s × (spent ≡ limit) × (turns ≡ limit) × (left ≡ all_done)
  -- a receive failed
  EndsBatches limit spent to_come s left (status.LinkFault count) = MayTurn told role boot period limit spent s × (s.clock < s.due) × (left ≡ all_done)
  -- The clock failed in a turn: its datagram was received, and isn't handled.
  EndsBatches limit spent to_come s left (status.ClockFault count) =
      MayTurn told role boot period limit spent s
      × ((turn : Turn) × Begins to_come (s.due - s.clock) turn × (left ≡ record all_done { unread = datagrams_in (turn ∷ []) }))
  -- The disk failed as the records of a batch were put, as a body was read, or as the records were rewritten.
  EndsBatches limit spent to_come s left (status.DiskFault count) =
      IsNotPut limit spent to_come s left putting ⊎ (FailsToRead to_come s left ⊎ FailsToRewrite s left)
  -- the record of an event has no room: the journal would need more bytes than its limit
  EndsBatches limit spent to_come s left (status.JournalFull need most) =
      (it : IsIn told role boot period to_come s) × (left ≡ record all_done { turns = it.turn })
      × ((rec : Record) × (record_in told role boot period to_come s it ≡ Some rec) × IsOver it.met.journal.limit (needed_in it.met.journal rec) need most)
  -- Memory ran out: before anything was done; before the records of a batch were put, so that nothing was done to the disk; as the messages
  -- of an event were encoded, whose record was put; or as the records were rewritten.
  EndsBatches limit spent to_come s left status.OutOfMemory =
      RunsOutBefore limit spent to_come s left
      ⊎ (IsNotPut limit spent to_come s left refused ⊎ (RunsOutAfterPut to_come s left ⊎ FailsToRewrite s left))
  EndsBatches limit spent to_come s left _ = ⊥

  -- A served node: the turns that it took, what was received, read and posted, and why it ended. It began at a reading of the clock.
  pub record IsServedInBatches (start : Served S) (limit : ℕ)
      (given_before given_after sent_before sent_after : Option (List Datagram)) (losses_before losses_after : ℕ)
      (readings_before readings_after : Option (List ℕ)) (said : Status) : Type 0 where
    pub turns : List Turn
    pub posts : List Datagram
    pub end : Served S
    pub to_come : Option (List Datagram)
    pub left : Unfinished
    pub goes : Goes told role boot period given_before start to_come turns posts end
    -- the datagrams of the turns, and of those that were left undone
    pub received : Takes given_before given_after (datagrams_in turns ++ (datagrams_in left.turns ++ left.unread))
    -- one reading a turn
    pub read : Reads readings_before readings_after (readings_in turns ++ readings_in left.turns)
    -- no message goes out before the records of its step and of all steps before it are kept
    pub sends : Sends sent_before sent_after losses_before losses_after (posts ++ left.more)
    pub ending : EndsBatches limit (length turns) to_come end left said

-- the counts of faults of the link and the clock stay, or one of them rose
abbrev pub RoseOnce : ℕ → ℕ → ℕ → ℕ → Type 0
RoseOnce link_before link_after clock_before clock_after =
    ((link_after ≡ link_before) × (clock_after ≡ clock_before))
    ⊎ ((Rose link_before link_after × (clock_after ≡ clock_before)) ⊎ (Rose clock_before clock_after × (link_after ≡ link_before)))

-- They rose exactly where the status reports it; but where the link or the clock failed, and then the disk or memory as the records that
-- waited were put, it reports that.
abbrev pub HasBatchCause : ℕ → ℕ → ℕ → ℕ → Status → Type 0
HasBatchCause link_before link_after clock_before clock_after (status.DiskFault count) = RoseOnce link_before link_after clock_before clock_after
HasBatchCause link_before link_after clock_before clock_after status.OutOfMemory = RoseOnce link_before link_after clock_before clock_after
HasBatchCause link_before link_after clock_before clock_after said = HasServeCause link_before link_after clock_before clock_after said

-- while that is done, a crash leaves the records as they were, or as they are once it is done
abbrev pub KeepsDoing : {D : Type 0} → Bool → (D → ℕ) → (D → ℕ → List ℕ → Type 0) → D → D → List Record → Doing → Type 0
KeepsDoing is_told moment left_since before after kept doing = KeepsOn is_told moment left_since before after (kept ∷ done_by kept doing ∷ [])

-- from the end of a node on, a crash leaves one of the lists that what was being done leaves
abbrev pub LeavesDoing : {D : Type 0} → Bool → (D → Kept) → D → List Record → Doing → Type 0
LeavesDoing is_told kept after records doing = IsTrue is_told → (image : List ℕ) → IsImage (kept after) image → StandsForOne (left_by records doing) image

-- The disk of a node served in batches, which kept these lists of records in turn, each after the one before, until what ended the node.
pub record KeepsBatches {D S : Type 0} (is_told : Bool) (kept : D → Kept) (moment : D → ℕ) (left_since : D → ℕ → List ℕ → Type 0)
    (before after : D) (start : Served S) (lists : List (List Record)) (end : Served S) (left : Unfinished) : Type 0 where
  -- the disk as the node left it before what ended it
  pub until : D
  pub in_turn : IsTrue is_told → KeptInTurn moment left_since before start.kept lists end.kept until
  pub ending : KeepsDoing is_told moment left_since until after end.kept left.doing
  pub last : LeavesDoing is_told kept after end.kept left.doing
