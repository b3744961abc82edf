-- which use of a capability is denied, and why
use Rattle.std.specs.Prelude.{◌≡◌, ℕ, Bool, ◌&&◌, ◌==◌, nat_lt, not, if◌then◌else◌, Option, Some, None, List, Result, Ok, Err}
use Rattle.xt_base.specs.declared.ids.FileId.{FileId}
use Rattle.xt_messages.specs.declared.file.Capability.{Capability}
use Rattle.xt_messages.specs.declared.reply.Denial.{Denial}
use Rattle.xt_messages.specs.declared.reply.Denial.TheVariants as denial
use Rattle.xt_protocol.specs.FileIds.{is_file}
use Rattle.capabilities.specs.Tags.{is_sealed}
use Rattle.capabilities.specs.declared.CapErr.{CapErr}
use Rattle.capabilities.specs.declared.CapErr.TheVariants as fault

-- The first of these that fails: the tag is the one under the key; the file is the asked one; the time isn't over, and at
-- the expiry itself it isn't; a write is allowed.
abbrev pub denial_of : List ℕ → Capability → FileId → ℕ → Bool → Option Denial
denial_of key capability file now write =
    if not (is_sealed key capability) then Some denial.Tag
    else if not (is_file capability.file file) then Some denial.File
    else if nat_lt capability.expiry now then Some denial.Expired
    else if write && capability.mode == 1 then Some denial.Mode
    else None

-- A call judges so, unless memory ran out.
abbrev pub Judges : Result (Unit {0}) CapErr → Option Denial → Type 0
Judges (Ok passed) verdict = verdict ≡ None
Judges (Err (fault.Denied rule)) verdict = verdict ≡ Some rule
Judges (Err fault.OutOfMemory) verdict = Unit {0}
