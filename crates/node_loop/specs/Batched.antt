-- what a served node has handled that its disk and its link don't have yet
use Rattle.std.specs.Prelude.{ℕ, ◌≡◌, ◌⊎◌, Bool, Option, List, [], ◌++◌}
use Rattle.std.specs.Option.{option_map}
use Rattle.disk_model.specs.declared.disk.Disk.{Ghosts}
use Rattle.xt_messages.specs.declared.record.Record.{Record}
use Rattle.replica_records.specs.Known.{as_known, known_of}
use Rattle.object_store.specs.declared.store.Store.{Store}
use Rattle.object_store.specs.Waits.{recs_of, records_with, end_with}
use Rattle.node_links.specs.declared.link.Datagram.{Datagram}
use Rattle.node_mail.specs.Posts.{datagrams_of_all}
use Rattle.node_mail.specs.declared.packed.Post.{Post}
use Rattle.node_runs.specs.Links.{Sends}
use Rattle.node_runs.specs.Runs.{JournalAt, Served}
use Rattle.node_runs.specs.BatchEnds.{FitsIn, listed}
use Rattle.node_loop.specs.declared.batch.Batch.{Batch}
use Rattle.node_loop.specs.declared.site.Site.{Site}
use Rattle.node_loop.specs.Stores.{journal_at}
use Rattle.node_loop.specs.Turns.{standing}

-- A served node with its batch: the node; what is known of the records that wait to be put; and the datagrams that wait for these.
pub record Held (S : Type 0) : Type 0 where
  pub now : Served S
  pub puts : List Record
  pub posts : List Datagram

-- the datagrams that wait
abbrev pub posts_of : Batch → List Datagram
posts_of batch = datagrams_of_all batch.posts.items

-- what is known of the records that wait
abbrev pub puts_of : Bool → Batch → List Record
puts_of told batch = known_of told (recs_of batch.records)

module _ {D : Type 0} {g : Ghosts D} where
  -- the records of a node: those on its disk, and those that wait
  abbrev pub kept_of : Store D g → Batch → List Record
  kept_of store batch = records_with store (recs_of batch.records)

  -- its journal, once the records that wait are put
  abbrev pub journal_then : Store D g → Batch → JournalAt
  journal_then store batch = record (journal_at store) { end = end_with store (recs_of batch.records) }

  -- the node as the loop holds it, with its records in this store and in this batch
  abbrev pub held_of : {N S : Type 0} → (N → S) → Site N → Store D g → Batch → Held S
  held_of state site store batch = record {
    now = standing (state site.node) (kept_of store batch) (journal_then store batch) site.own site.ears site.clock site.due site.sender.count site.woken;
    puts = puts_of g.is_told batch;
    posts = posts_of batch;
  }

-- Messages went so, where these records wait, and these datagrams waited before them and wait now: they wait after the others; or
-- nothing waits, and they were sent.
abbrev pub HasMailed : List Record → List Datagram → List Datagram → Option (List Datagram) → Option (List Datagram) → ℕ → ℕ → List Datagram → Type 0
HasMailed puts waited wait sent_before sent_after losses_before losses_after mailed =
    ((wait ≡ waited ++ mailed) × Sends sent_before sent_after losses_before losses_after [])
    ⊎ ((puts ≡ []) × (waited ≡ []) × (wait ≡ []) × Sends sent_before sent_after losses_before losses_after mailed)

-- the record of an event waits after the others, if it has one, and fits into the journal
abbrev pub HasStaged : Bool → JournalAt → List Record → List Record → Option Record → Type 0
HasStaged told journal waited wait rec = (wait ≡ waited ++ listed (option_map (as_known told) rec)) × FitsIn journal rec

-- these datagrams wait after those that waited
abbrev pub WaitsAfter : List Post → List Post → List Datagram → Type 0
WaitsAfter waited wait mailed = datagrams_of_all wait ≡ datagrams_of_all waited ++ mailed
