-- what an event does to a served node
use Rattle.std.specs.Prelude.{ℕ, Bool, ◌≡◌, ◌⊎◌, Option, Some, None, List, []}
use Rattle.std.specs.Option.{IfSome, option_map}
use Rattle.std.specs.List.{All}
use Rattle.xt_base.specs.Faults.{Rose}
use Rattle.xt_base.specs.declared.ids.NodeId.{NodeId}
use Rattle.xt_base.specs.declared.ids.Boot.{Boot}
use Rattle.xt_messages.specs.declared.message.Msg.{Msg}
use Rattle.xt_messages.specs.declared.record.Record.{Record}
use Rattle.xt_messages.specs.declared.status.Status.{Status}
use Rattle.xt_messages.specs.declared.status.Status.TheVariants as status
use Rattle.xt_messages.specs.Limits.{FitsMessage, FitsRecord}
use Rattle.xt_protocol.specs.Folds.{fold_of, IsInPlace}
use Rattle.xt_protocol.specs.declared.turned.Turned.{Turned}
use Rattle.replica_records.specs.Known.{as_known, Sees}
use Rattle.client_rows.specs.Steps.{Step}
use Rattle.world_spec.specs.NodeSteps.{one_more}
use Rattle.node_links.specs.declared.link.Datagram.{Datagram}
use Rattle.node_runs.specs.Hearing.{Book}
use Rattle.node_runs.specs.Runs.{JournalAt, grown, needed_in}
use Rattle.node_runs.specs.Serving.{IsOver}
use Rattle.node_runs.specs.Posting.{posted, none_posted, HasPosted, HasSentFront}
use Rattle.node_loop.specs.declared.event.Stop.{Stop}
use Rattle.node_loop.specs.declared.event.Stop.TheVariants as stop

-- its record can be put after these, and its messages can be sent
pub record Fits (records : List Record) (turned : Turned) : Type 0 where
  pub record_next : IfSome turned.rec (λ rec. FitsRecord rec × IsInPlace (fold_of records) rec)
  pub messages : All FitsMessage turned.outs

-- This holds of what a node sees of these records.
abbrev pub Seeing : Bool → List Record → (List Record → Type 0) → Type 0
Seeing told records holds = (seen : List Record) × Sees told records seen × holds seen

-- The node is in the state of the step; its record is kept or waits, and its messages were sent or wait. What is known of that record is kept.
pub record HasStepped {S : Type 0} (told : Bool) (step : Step S) (node : NodeId) (boot : Boot) (book : Book) (before : ℕ) (records : List Record) (journal : JournalAt)
    (state : S) (kept : List Record) (stands : JournalAt) (outs : List Msg) (count : ℕ) (handed : List Datagram → Type 0) : Type 0 where
  pub state_is : state ≡ step.state
  pub kept_is : kept ≡ one_more records (option_map (as_known told) step.turned.rec)
  pub journal_is : stands ≡ grown journal step.turned.rec
  pub outs_are : outs ≡ step.turned.outs
  pub sent : HasPosted (posted node boot book (none_posted before) step.turned.outs) count handed

-- A fault of the disk is reported only where its count rose in the call, and with that count; whatever else ends a node, no call to the disk
-- had failed. A body that can't be read, or that no record put, is counted by the disk too.
abbrev pub HasDiskCause : ℕ → ℕ → Status → Type 0
HasDiskCause before after (status.DiskFault count) = Rose before after × (count ≡ after)
HasDiskCause before after _ = after ≡ before

-- Why a record isn't staged, where the journal would need this many bytes for it within this limit: it has no room, or memory ran out.
abbrev pub EndsStage : ℕ → ℕ → Stop → Type 0
EndsStage limit needed (stop.With (status.JournalFull need most)) = IsOver limit needed need most
EndsStage limit needed (stop.With status.OutOfMemory) = Unit {0}
EndsStage limit needed _ = ⊥

-- An event that ends the node: `staged` says of a record that it waits, and no other; `mailed` of messages that they wait or were sent. Nothing of
-- the event waits and nothing was sent; but where memory runs out after its record was staged, that waits, and a prefix of its messages.
abbrev pub EndsEvent : {S : Type 0} → Step S → NodeId → Boot → Book → ℕ → JournalAt → (List Datagram → Type 0) → (Option Record → Type 0) → Stop
    → Type 0
EndsEvent step node boot book before journal mailed staged stop.Unread = mailed [] × staged None
EndsEvent step node boot book before journal mailed staged (stop.With (status.JournalFull need limit)) =
    mailed [] × staged None × ((rec : Record) × (step.turned.rec ≡ Some rec) × IsOver journal.limit (needed_in journal rec) need limit)
EndsEvent step node boot book before journal mailed staged (stop.With status.OutOfMemory) =
    (mailed [] × staged None) ⊎ (HasSentFront node boot book before step.turned.outs mailed × staged step.turned.rec)
EndsEvent step node boot book before journal mailed staged _ = ⊥
