-- a line at work, and what a step makes of it
use Rattle.std.specs.Prelude.{ℕ, Bool, ◌≡◌, ◌-◌, List, Option, Some, None, Result, Ok, Err}
use Rattle.xt_base.specs.declared.TheConstants.{COUNTS}
use Rattle.xt_messages.specs.declared.status.Limited.{Limited}
use Rattle.xt_messages.specs.declared.status.Limited.TheVariants as limited
use Rattle.time_line.specs.declared.TheConstants.{LINES, LINE_BYTES}
use Rattle.time_line.specs.declared.line.Line.{Line}
use Rattle.world_spec.specs.declared.TheConstants.{MESSAGES, MESSAGE_BYTES, NODES}
use Rattle.world_spec.specs.declared.PlacedFile.{PlacedFile}
use Rattle.world_spec.specs.NodeSteps.{Cause, came_to, has_no_room, Doing}
use Rattle.world_hull.specs.declared.errors.WorldErr.{WorldErr}
use Rattle.world_hull.specs.declared.errors.WorldErr.TheVariants as error
use Rattle.world_step.specs.declared.stepper.Stepper.{Stepper}

-- a line at work, and that line where it isn't among the world's lines yet
pub record Working : Type 0 where
  pub doing : Doing
  pub begun : List Line

-- what the steps of nodes leave as it is, in a world and in the line at work
pub record Around : Type 0 where
  pub files : List PlacedFile
  pub lines : List Line
  pub left : ℕ
  pub begun : List Line
  pub ended : Bool

-- the line at work, with what its steps change
abbrev pub working : {C H : Type 0} → Around → Stepper C H → Working
working around s =
    record {
      doing = record {
        world = record { times = s.nodes.times; nodes = s.nodes.nodes; files = around.files; made = s.made.items; sent = s.sent; entries = s.entries.items; lines = around.lines; ended = around.ended };
        own = s.own;
        left = around.left;
      };
      begun = around.begun;
    }

-- the value that a limited count may not pass
abbrev pub limit_of : Limited → ℕ
limit_of limited.Lines = LINES
limit_of limited.Line = LINE_BYTES
limit_of limited.Nodes = NODES
limit_of limited.Messages = MESSAGES
limit_of limited.Bytes = MESSAGE_BYTES
limit_of limited.Boots = COUNTS - 1
limit_of limited.Numbers = COUNTS - 1

-- ---- how steps end

-- the entries and the lines are as before
pub record IsUntold (old new : Working) : Type 0 where
  pub entries : new.doing.world.entries ≡ old.doing.world.entries
  pub lines : new.doing.world.lines ≡ old.doing.world.lines
  pub begun : new.begun ≡ old.begun
  pub ended : new.doing.world.ended ≡ old.doing.world.ended

-- an error reports this cause; out of memory can happen whatever the cause is, and no rule is broken within a line
abbrev pub Tells : Option Cause → WorldErr → Type 0
Tells cause (error.Illegal rule) = ⊥
Tells cause (error.Limit what limit) = (cause ≡ Some (came_to what)) × (limit ≡ limit_of what)
Tells cause (error.Full need limit) = cause ≡ Some (has_no_room (record { need = need; limit = limit }))
Tells cause error.OutOfMemory = Unit {0}

-- why a step isn't finished, if it isn't
abbrev pub cause_of : Result Doing Cause → Option Cause
cause_of (Ok d) = None
cause_of (Err cause) = Some cause

-- the line at work went on, and nothing else changed
pub record WentOn (old new : Working) : Type 0 where
  pub rest : new ≡ record old { doing = new.doing }
  pub lines : new.doing.world.lines ≡ old.doing.world.lines
  pub ended : new.doing.world.ended ≡ old.doing.world.ended

-- The step is done; or it isn't finished, and nothing is reported of it.
abbrev pub IsStepped : {T : Type 0} → Working → Result Doing Cause → Working → Result T WorldErr → Type 0
IsStepped old stepped new (Ok value) = (stepped ≡ Ok new.doing) × WentOn old new
IsStepped old stepped new (Err e) = Tells (cause_of stepped) e × IsUntold old new
