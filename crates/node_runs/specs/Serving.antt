-- where a served node stands, in an event or between two turns; and the faults that its link and its clock counted
use Rattle.std.specs.Prelude.{ℕ, ◌≡◌, ◌<◌, Bool, false, Option, List, [], take}
use Rattle.xt_base.specs.declared.ids.Boot.{Boot}
use Rattle.xt_messages.specs.declared.event.Event.{Event}
use Rattle.xt_messages.specs.declared.record.Record.{Record}
use Rattle.xt_messages.specs.declared.status.Status.{Status}
use Rattle.xt_messages.specs.declared.status.Status.TheVariants as status
use Rattle.xt_base.specs.Faults.{Rose, counted}
use Rattle.replica_records.specs.Known.{Sees}
use Rattle.node_links.specs.declared.link.Datagram.{Datagram}
use Rattle.node_runs.specs.Posting.{posted, none_posted}
use Rattle.node_runs.specs.Runs.{Role, Turn, Served, Meets, step_at}

-- so many bytes pass a limit, and both are reported
abbrev pub IsOver : ℕ → ℕ → ℕ → ℕ → Type 0
IsOver limit needed need most = (limit < needed) × (need ≡ counted needed) × (most ≡ limit)

module _ {S : Type 0} (told : Bool) (role : Role S) (boot : Boot) (period : ℕ) where
  -- The node is in an event, of a turn or of a message to itself, and has done nothing of it. Its step is made on what it sees of its
  -- records: these, where the disk's contents are known (`told`); elsewhere bodies are what the disk gave.
  pub record IsIn (to_come : Option (List Datagram)) (s : Served S) : Type 0 where
    pub happens : Event
    pub met : Served S
    pub turn : List Turn
    pub is_met : Meets role boot period to_come s happens met turn
    pub seen : List Record
    pub sees : Sees told met.kept seen

  -- the record of the event, and its datagrams where so many of its messages were posted
  abbrev pub record_in : (to_come : Option (List Datagram)) (s : Served S) → IsIn to_come s → Option Record
  record_in to_come s it = (step_at role boot period it.met it.seen it.happens).turned.rec

  abbrev pub front_in : (to_come : Option (List Datagram)) (s : Served S) → IsIn to_come s → ℕ → List Datagram
  front_in to_come s it count =
      (posted role.node boot it.met.ears.book (none_posted it.met.count) (take count (step_at role boot period it.met it.seen it.happens).turned.outs)).datagrams

  -- a turn ended: no message to itself is left, and the records needn't be looked at
  abbrev pub IsBetween : Served S → Type 0
  IsBetween s = (s.own ≡ []) × (s.woken ≡ false)

  -- A turn is to begin: the one before has ended, and not all turns were taken.
  abbrev pub MayTurn : ℕ → ℕ → Served S → Type 0
  MayTurn limit spent s = IsBetween s × (spent < limit)

-- the counts of faults of the link and the clock rose exactly where the status reports them
abbrev pub HasServeCause : ℕ → ℕ → ℕ → ℕ → Status → Type 0
HasServeCause link_before link_after clock_before clock_after (status.LinkFault count) =
    Rose link_before link_after × (count ≡ link_after) × (clock_after ≡ clock_before)
HasServeCause link_before link_after clock_before clock_after (status.ClockFault count) =
    Rose clock_before clock_after × (count ≡ clock_after) × (link_after ≡ link_before)
HasServeCause link_before link_after clock_before clock_after _ =
    (link_after ≡ link_before) × (clock_after ≡ clock_before)
