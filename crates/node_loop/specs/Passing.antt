-- one pass of the loop of a served node, and how it ends the node
use Rattle.std.specs.Prelude.{ℕ, Bool, true, false, ◌⊎◌, ◌≡◌, ◌≢◌, ◌+◌, Option, None, List, [], ◌∷◌, ◌++◌, length, IsTrue}
use Rattle.disk_model.specs.Disk.{Kept}
use Rattle.xt_base.specs.declared.ids.Boot.{Boot}
use Rattle.xt_messages.specs.declared.record.KeepBody.{KeepBody}
use Rattle.xt_messages.specs.declared.record.Record.{Record}
use Rattle.xt_messages.specs.declared.message.Msg.{Msg}
use Rattle.xt_messages.specs.declared.status.Status.{Status}
use Rattle.xt_messages.specs.declared.status.Status.TheVariants as status
use Rattle.xt_protocol.specs.Forgetting.{rewritten}
use Rattle.node_links.specs.declared.link.Datagram.{Datagram}
use Rattle.node_links.specs.Streams.{Takes}
use Rattle.node_runs.specs.Links.{Sends, Reads}
use Rattle.node_runs.specs.Runs.{Role, Served, Turn, Passes, Rewrites, rewrites_with, lacks, datagrams_in, readings_in}
use Rattle.node_runs.specs.Serving.{IsIn, record_in, front_in}
use Rattle.node_runs.specs.Keeping.{KeepsOn, KeepsNow}
use Rattle.node_runs.specs.BatchEnds.{Doing, putting, refused, has_put, Unfinished, all_done, FitsIn, puts_in, Stops, EndsBatches, KeepsDoing, LeavesDoing}
use Rattle.node_loop.specs.declared.event.Stop.{Stop}
use Rattle.node_loop.specs.declared.event.Stop.TheVariants as stop
use Rattle.node_loop.specs.declared.turn.Next.{Next}
use Rattle.node_loop.specs.declared.turn.Next.TheVariants as next
use Rattle.node_loop.specs.Batched.{Held, HasMailed}

-- the status with which a node ends, where its disk has counted this many faults
abbrev pub status_of : ℕ → Stop → Status
status_of count (stop.With said) = said
status_of count stop.Unread = status.DiskFault count

-- a reason that isn't one of the disk, but that a body couldn't be read
abbrev pub IsReason : Stop → Type 0
IsReason (stop.With (status.DiskFault count)) = ⊥
IsReason _ = Unit {0}

-- One pass: a turn, or a message of the node to itself. Nothing was done to its disk.
pub record HasPassed {S : Type 0} (told : Bool) (role : Role S) (boot : Boot) (period : ℕ) (old new : Held S) (spent now_spent : ℕ)
    (before after sent_before sent_after : Option (List Datagram)) (losses_before losses_after : ℕ) (unread read : Option (List ℕ)) : Type 0 where
  pub turns : List Turn
  pub mailed : List Datagram
  pub passes : Passes told role boot period before old.now turns mailed new.now
  pub received : Takes before after (datagrams_in turns)
  pub reads : Reads unread read (readings_in turns)
  pub mails : HasMailed new.puts old.posts new.posts sent_before sent_after losses_before losses_after mailed
  pub spends : now_spent ≡ spent + length turns

module _ {S : Type 0} (told : Bool) (role : Role S) (boot : Boot) (period limit spent : ℕ) (old : Held S) (puts : List Record) (posts : List Datagram)
    (before after sent_before sent_after : Option (List Datagram)) (losses_before losses_after : ℕ) (unread read : Option (List ℕ)) (why : Stop) where
  -- The node stopped there, and waits as it did: nothing was done of the event that it may have been in.
  pub record WaitsAsBefore (turns : List Turn) (unheard : List Datagram) : Type 0 where
    pub same_puts : puts ≡ old.puts
    pub same_posts : posts ≡ old.posts
    pub quiet : Sends sent_before sent_after losses_before losses_after []
    pub stops : Stops told role boot period limit spent before old.now turns unheard []
    pub ends : (count : ℕ) → EndsBatches told role boot period limit spent before old.now (record all_done { turns = turns; unread = unheard }) (status_of count why)

  -- Memory ran out in an event whose record waits with the others, if it has one. A prefix of its messages waits too, or was sent.
  pub record WaitsWithRecord (turns : List Turn) (unheard : List Datagram) : Type 0 where
    pub why_is : why ≡ stop.With status.OutOfMemory
    pub it : IsIn told role boot period before old.now
    pub turns_are : turns ≡ it.turn
    pub unheard_is : unheard ≡ []
    pub fits : FitsIn it.met.journal (record_in told role boot period before old.now it)
    pub puts_are : puts ≡ old.puts ++ puts_in told role boot period before old.now it
    pub count : ℕ
    pub mails : HasMailed puts old.posts posts sent_before sent_after losses_before losses_after (front_in told role boot period before old.now it count)

  -- A pass that ends the node, with these records and datagrams waiting. Nothing was done to its disk.
  pub record HasStopped : Type 0 where
    pub turns : List Turn
    pub unheard : List Datagram
    pub received : Takes before after (datagrams_in turns ++ unheard)
    pub reads : Reads unread read (readings_in turns)
    pub reason : IsReason why
    pub how : WaitsAsBefore turns unheard ⊎ WaitsWithRecord turns unheard

-- No pass was made: the node is as it was, and nothing was received, read or sent.
pub record IsIdle {S : Type 0} (old new : Held S) (spent now_spent : ℕ)
    (before after sent_before sent_after : Option (List Datagram)) (losses_before losses_after : ℕ) (unread read : Option (List ℕ)) : Type 0 where
  pub same : new ≡ old
  pub received : after ≡ before
  pub reads : read ≡ unread
  pub quiet : Sends sent_before sent_after losses_before losses_after []
  pub spends : now_spent ≡ spent

-- what holds by what the node does next: after a pass; where what waits is put and sent; where it looks at its records
abbrev pub WentOn : Type 0 → Type 0 → Type 0 → Next → Type 0
WentOn passed idle looks next.Pass = passed
WentOn passed idle looks next.Commit = idle
WentOn passed idle looks next.Look = looks

-- The node may look at its records: a Wake and all messages of the node to itself are handled, and nothing waits.
pub record Looks (own : List Msg) (woken : Bool) (waiting : List Record) (posts : List Datagram) : Type 0 where
  pub handled : own ≡ []
  pub after_wake : woken ≡ true
  pub nothing_waits : (waiting ≡ []) × (posts ≡ [])

-- Why the records that wait aren't put, and what was being done to the disk: it failed as they were put, or memory ran out before that.
abbrev pub EndsCommit : (Doing → Type 0) → List Record → Status → Type 0
EndsCommit leaves puts (status.DiskFault count) = leaves (putting puts)
EndsCommit leaves puts status.OutOfMemory = leaves (refused puts)
EndsCommit leaves puts _ = ⊥

-- A look at the records after a Wake: they stay, or they are rewritten.
pub data Settles {S : Type 0} (told : Bool) (role : Role S) (boot : Boot) (period : ℕ) (s : Served S) : Served S → Type 0 where
  stays : ((to_come : Option (List Datagram)) → Passes told role boot period to_come s [] [] (record s { woken = false })) → Settles told role boot period s (record s { woken = false })
  rewrites : (keep : List KeepBody) → Rewrites role boot period s keep → lacks s.journal (rewritten keep s.kept) ≡ None → Settles told role boot period s (rewrites_with role boot period s keep)

-- ---- with the disk

-- From one disk to another a crash leaves the first records or the second ones; from then on the second ones.
pub record Changes {D : Type 0} (told : Bool) (moment : D → ℕ) (left_since : D → ℕ → List ℕ → Type 0) (before after : D) (records next : List Record) : Type 0 where
  pub on : KeepsOn told moment left_since before after (records ∷ next ∷ [])
  pub now : IsTrue told → KeepsNow moment left_since after next

-- From one disk to another this is done to these records: a crash leaves them or what they are once it is done; and in the end one of those lists
-- that it leaves.
abbrev pub IsDoing : {D : Type 0} → Bool → (D → Kept) → (D → ℕ) → (D → ℕ → List ℕ → Type 0) → D → D → List Record → Doing → Type 0
IsDoing told kept moment left_since before after records doing =
    KeepsDoing told moment left_since before after records doing × LeavesDoing told kept after records doing

module _ {D : Type 0} (told : Bool) (kept : D → Kept) (moment : D → ℕ) (left_since : D → ℕ → List ℕ → Type 0) (before after : D) (records : List Record) where
  -- A node ended for this reason, on a disk that kept these records, and counts this many faults in the end: the records that waited were put
  -- before that, and the datagrams that waited were sent; or that failed, and nothing was sent.
  pub data HasFinished (puts : List Record) (posts : List Datagram) (sent_before sent_after : Option (List Datagram)) (losses_before losses_after count : ℕ) (why : Stop)
      : Status → Type 0 where
    all_put : (between : D) → Changes told moment left_since before between records (records ++ puts)
        → Changes told moment left_since between after (records ++ puts) (records ++ puts)
        → ((said : Status) → why ≡ stop.With said → after ≡ between)
        → Sends sent_before sent_after losses_before losses_after posts
        → HasFinished puts posts sent_before sent_after losses_before losses_after count why (status_of count why)
    none_put : (said : Status) → puts ≢ [] → Sends sent_before sent_after losses_before losses_after []
        → EndsCommit (IsDoing told kept moment left_since before after records) puts said
        → HasFinished puts posts sent_before sent_after losses_before losses_after count why said

module _ {D S : Type 0} (told : Bool) (role : Role S) (boot : Boot) (period : ℕ) (kept : D → Kept) (moment : D → ℕ) (left_since : D → ℕ → List ℕ → Type 0)
    (old : Held S) (records : List Record) (before after : D) (spent : ℕ)
    (given_before given_after sent_before sent_after : Option (List Datagram)) (losses_before losses_after : ℕ) (unread read : Option (List ℕ)) where
  -- The loop went on: by a pass; by a commit of what waited; or, where nothing waits, by a look at the records after a Wake.
  pub data Advances (new : Held S) (next : List Record) (now_spent : ℕ) : Type 0 where
    by_pass : HasPassed told role boot period old new spent now_spent given_before given_after sent_before sent_after losses_before losses_after unread read
        → new.now.journal.superblock ≡ old.now.journal.superblock → next ≡ records → after ≡ before → Advances new next now_spent
    by_commit : new ≡ record { now = old.now; puts = []; posts = [] } → Changes told moment left_since before after records next → now_spent ≡ spent
        → given_after ≡ given_before → read ≡ unread → Sends sent_before sent_after losses_before losses_after old.posts → Advances new next now_spent
    by_look : old.puts ≡ [] → old.posts ≡ [] → new.puts ≡ [] → new.posts ≡ [] → Settles told role boot period old.now new.now
        → Changes told moment left_since before after records next → now_spent ≡ spent
        → given_after ≡ given_before → read ≡ unread → Sends sent_before sent_after losses_before losses_after [] → Advances new next now_spent

  -- The node ended: after a commit of what waited; as that was to be put; or in an event whose record was put with it.
  pub data HasEnded (limit : ℕ) : Status → Type 0 where
    after_commit : (said : Status) (left : Unfinished) (between : D) → Changes told moment left_since before between records old.now.kept
        → Takes given_before given_after (datagrams_in left.turns ++ left.unread) → Reads unread read (readings_in left.turns)
        → Sends sent_before sent_after losses_before losses_after (old.posts ++ left.more)
        → EndsBatches told role boot period limit spent given_before old.now left said
        → IsDoing told kept moment left_since between after old.now.kept left.doing
        → HasEnded limit said
    not_put : (said : Status) (turns : List Turn) (unheard : List Datagram) (puts : List Record)
        → Stops told role boot period limit spent given_before old.now turns unheard puts
        → Takes given_before given_after (datagrams_in turns ++ unheard) → Reads unread read (readings_in turns)
        → Sends sent_before sent_after losses_before losses_after [] → old.puts ++ puts ≢ []
        → EndsCommit (IsDoing told kept moment left_since before after records) (old.puts ++ puts) said
        → HasEnded limit said
    after_put : (it : IsIn told role boot period given_before old.now) (count : ℕ) → FitsIn it.met.journal (record_in told role boot period given_before old.now it)
        → Takes given_before given_after (datagrams_in it.turn ++ []) → Reads unread read (readings_in it.turn)
        → Sends sent_before sent_after losses_before losses_after (old.posts ++ front_in told role boot period given_before old.now it count)
        → IsDoing told kept moment left_since before after records (has_put (old.puts ++ puts_in told role boot period given_before old.now it))
        → HasEnded limit status.OutOfMemory
