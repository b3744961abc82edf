-- the state of one file at an OSD
use Rattle.std.specs.Prelude.{ℕ, Bool, Option, Some, None, List, []}
use Rattle.xt_base.specs.TimeSettings.{TimeSettings}
use Rattle.xt_base.specs.declared.ids.NodeId.{NodeId}
use Rattle.xt_base.specs.declared.ids.FileId.{FileId}
use Rattle.xt_base.specs.declared.ids.Stamp.{Stamp}
use Rattle.xt_messages.specs.declared.file.Location.{Location}
use Rattle.xt_messages.specs.declared.file.Capability.{Capability}
use Rattle.xt_messages.specs.declared.file.ObjectVersion.{ObjectVersion}
use Rattle.xt_messages.specs.declared.record.FileRow.{FileRow}
use Rattle.xt_messages.specs.declared.record.Record.{Record}
use Rattle.xt_messages.specs.declared.record.Record.TheVariants as kept
use Rattle.xt_protocol.specs.Folds.{body_of}
use Rattle.xt_protocol.specs.Stamps.{with_held}
use Rattle.xt_protocol.specs.declared.turned.Turned.{Turned}
use Rattle.xt_protocol.specs.Register.{Acceptor, new_acceptor}
use Rattle.xt_protocol.specs.LeaseRows.{Awake, LeaseState, free, new_proposer}
use Rattle.xt_protocol.specs.declared.states.PrimaryState.{PrimaryState}
use Rattle.xt_protocol.specs.declared.states.Asks.{Asks}
use Rattle.xt_protocol.specs.Turns.{quiet, joined}
use Rattle.xt_protocol.specs.ReplicaRows.{kept_after}
use Rattle.xt_protocol.specs.Primaries.{Ground, new_primary}
use Rattle.xt_protocol.specs.Asks.{no_asks, Served}

-- The state of a file: what the records say of it, the bodies that were staged since its last head or update, its register, its
-- lease, the end of a lease that was met last, the clock at which it was asked for last, its primary, and the asks that aren't
-- answered. A stop loses all but the first.
pub record FileState : Type 0 where
  pub kept : FileRow
  pub staged : List ObjectVersion
  pub acceptor : Acceptor
  pub lease : LeaseState
  pub last_end : ℕ
  pub used : ℕ
  pub primary : PrimaryState
  pub asks : Asks

-- A node at a moment: its times, the clock, whose capabilities are sealed, and what a body is.
pub record Site : Type 0 where
  pub node : NodeId
  pub times : TimeSettings
  pub now : ℕ
  pub sealed : Capability → Bool
  pub body : FileId → ℕ → Stamp → List ℕ

-- a file's state after a step, and what the step gives
pub record FileStep : Type 0 where
  pub state : FileState
  pub turned : Turned

-- a file at a node that has just started
abbrev pub file_from : Awake → FileRow → FileState
file_from awake row =
    record {
      kept = row;
      staged = [];
      acceptor = new_acceptor awake.boot;
      lease = free (new_proposer awake);
      last_end = 0;
      used = 0;
      primary = new_primary;
      asks = no_asks;
    }

-- nothing comes of an event
abbrev pub nothing : FileState → FileStep
nothing s = record { state = s; turned = quiet }

-- the bodies that were staged since the last head, install or update, after a record
abbrev pub staged_after : List ObjectVersion → Option Record → List ObjectVersion
staged_after staged (Some (kept.Stage file object version bytes)) = with_held staged (body_of object version)
staged_after staged (Some (kept.Update file update)) = []
staged_after staged (Some (kept.Head file head)) = []
staged_after staged (Some (kept.Install file location head)) = []
staged_after staged _ = staged

-- a step that leaves the file in this state; its record changes what is kept
abbrev pub steps_to : FileState → Turned → FileStep
steps_to s turned =
    record {
      state = record s { kept = kept_after s.kept turned.rec; staged = staged_after s.staged turned.rec };
      turned = turned;
    }

-- a step, and then these rows on the state that it leaves
abbrev pub and_then : FileStep → (FileState → FileStep) → FileStep
and_then first rows =
    let rest = rows first.state in
    record { state = rest.state; turned = joined first.turned rest.turned }

-- a step of the primary and the asks
abbrev pub serves_to : FileState → Served → FileStep
serves_to s served = steps_to (record s { primary = served.primary; asks = served.asks }) served.turned

-- the members of a file's list, and the size of its objects; a lease and a primary are there only where there is a list
abbrev pub members_of : Option Location → List NodeId
members_of None = []
members_of (Some location) = location.members

abbrev pub stripe_of : Option Location → ℕ
stripe_of None = 0
stripe_of (Some location) = location.stripe

-- what the file's primary may look at besides its tenure
abbrev pub ground_of : Site → FileState → Ground
ground_of site s =
    record {
      place = record { node = site.node; file = s.kept.file; stripe = stripe_of s.kept.location };
      own = s.kept.head;
      held = s.kept.held;
      body = site.body s.kept.file;
    }
