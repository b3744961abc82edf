-- how an append ends, and what the nodes keep after it
use Rattle.std.specs.Prelude.{ℕ, ◌≡◌, ◌==◌, ◌≤◌, false, List, [], ◌∷◌, ◌++◌, Option, Some, None, if◌then◌else◌}
use Rattle.disk_model.specs.declared.plan.Stop.{Stop}
use Rattle.xt_base.specs.declared.ids.NodeId.{NodeId}
use Rattle.xt_messages.specs.declared.record.Record.{Record}
use Rattle.world_spec.specs.NodeSteps.{keeps_record}
use Rattle.world_spec.specs.World.{Deed, puts}
use Rattle.world_hull.specs.declared.hull.Kept.{Kept}
use Rattle.world_hull.specs.declared.hull.Kept.TheVariants.{Done, StoppedKept, StoppedLost}

-- what a hull has of the nodes, by their numbers: the records that each keeps, and what was done to them
abbrev pub Logs : Type 0
Logs = (ℕ → List Record) × (ℕ → List Deed)

-- a stop is in one of the four device calls of an append
abbrev pub IsInAppend : Option Stop → Type 0
IsInAppend None = Unit {0}
IsInAppend (Some stop) = (1 ≤ stop.call) × (stop.call ≤ 4)

-- an append is done unless there is a stop, which leaves its record or loses it
abbrev pub kept_by : Option Stop → Kept
kept_by None = Done
kept_by (Some stop) = if keeps_record stop then StoppedKept else StoppedLost

-- the records of each node, with one more of this node
abbrev pub with_record : (ℕ → List Record) → NodeId → Record → ℕ → List Record
with_record records node rec n = if n == node.0 then records n ++ rec ∷ [] else records n

-- what was done to the records of each node, with one deed more at this node
abbrev pub with_deed : (ℕ → List Deed) → NodeId → Deed → ℕ → List Deed
with_deed past node deed n = if n == node.0 then past n ++ deed ∷ [] else past n

-- what each node keeps after an append that ended so
abbrev pub records_after : (ℕ → List Record) → NodeId → Record → Kept → ℕ → List Record
records_after records node rec Done = with_record records node rec
records_after records node rec StoppedKept = with_record records node rec
records_after records node rec StoppedLost = records

-- what was done to the records of each node after an append that ended so: the record was put where it is kept
abbrev pub past_after : (ℕ → List Deed) → NodeId → Record → Kept → ℕ → List Deed
past_after past node rec Done = with_deed past node (puts rec)
past_after past node rec StoppedKept = with_deed past node (puts rec)
past_after past node rec StoppedLost = past

-- The append of this node's record ended as its stop has it: the record was put after the node's old ones, or was lost,
-- and every other node keeps what it kept.
abbrev pub IsAppended : Logs → Logs → NodeId → Record → Option Stop → Kept → Type 0
IsAppended old new node rec stop end =
    (end ≡ kept_by stop) × (new.0 ≡ records_after old.0 node rec end) × (new.1 ≡ past_after old.1 node rec end)

-- nothing was done to the records of any node
abbrev pub AreAllSame : Logs → Logs → Type 0
AreAllSame old new = (new.0 ≡ old.0) × (new.1 ≡ old.1)

-- every other node keeps what it kept, and nothing was done to it
abbrev pub AreOthersSame : Logs → Logs → NodeId → Type 0
AreOthersSame old new node = (n : ℕ) → (n == node.0) ≡ false → (new.0 n ≡ old.0 n) × (new.1 n ≡ old.1 n)
