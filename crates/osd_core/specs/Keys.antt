-- what the key of an OSD decides: whose capabilities pass, and which message ends it
use Rattle.std.specs.Prelude.{ℕ, ◌≤◌, Bool, true, false, Option, Some, None, List, length}
use Rattle.xt_messages.specs.declared.file.Capability.{Capability}
use Rattle.xt_messages.specs.declared.message.Payload.{Payload}
use Rattle.xt_messages.specs.declared.record.Record.{Record}
use Rattle.xt_protocol.specs.SeenBodies.{body_by}
use Rattle.capabilities.specs.Tags.{is_sealed}
use Rattle.capabilities.specs.Stops.{is_stop}
use Rattle.xt_protocol.specs.OsdSteps.{Outside}

-- a key has 1 to 64 bytes
pub record FitsKey (key : List ℕ) : Type 0 where
  pub some : 1 ≤ length key
  pub short : length key ≤ 64

-- whose capabilities are sealed: without a key all are
abbrev pub sealed_by : Option (List ℕ) → Capability → Bool
sealed_by None capability = true
sealed_by (Some key) capability = is_sealed key capability

-- which message ends an OSD: without a key none does
abbrev pub stops_by : Option (List ℕ) → Payload → Bool
stops_by None content = false
stops_by (Some key) content = is_stop key content

-- what is outside an OSD that has this key, and keeps these records
abbrev pub outside_of : Option (List ℕ) → List Record → Outside
outside_of key records = record { sealed = sealed_by key; body = body_by records }
