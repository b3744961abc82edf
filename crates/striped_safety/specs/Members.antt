-- members of a striped file, and what they show of its content
use Rattle.std.specs.Prelude.{◌≡◌, ℕ, ◌+◌, ◌*◌, ◌<◌, ◌≤◌, List, length, Option, Some, None, slice_index}
use Rattle.xt_base.specs.declared.ids.FileId.{FileId}
use Rattle.xt_base.specs.declared.ids.Stamp.{Stamp}
use Rattle.xt_messages.specs.declared.file.FileHead.{FileHead}
use Rattle.xt_messages.specs.declared.file.Session.{Session}
use Rattle.xt_messages.specs.declared.record.Record.{Record}
use Rattle.xt_protocol.specs.Heads.{version_of, session_of}
use Rattle.xt_protocol.specs.Objects.{present_body}
use Rattle.xt_protocol.specs.PrimaryRows.{body_beyond}
use Rattle.xt_protocol.specs.PlainRows.{PlainFile, plain_after}
use Rattle.xt_base.specs.declared.ids.NodeId.{NodeId}

-- a member: its head, and what the bodies are that it keeps
pub record Member : Type 0 where
  pub head : FileHead
  pub body : ℕ → Stamp → List ℕ

abbrev pub plain_of : FileId → NodeId → Member → PlainFile
plain_of file node m = record { file = file; node = node; head = m.head }

-- the member, once it keeps this record
abbrev pub beyond : FileId → NodeId → Member → Option Record → Member
beyond file node m rec = record { head = (plain_after (plain_of file node m) rec).head; body = body_beyond file rec m.body }

-- what it has of an object
abbrev pub has_of : Member → ℕ → List ℕ
has_of m object = present_body m.body (version_of m.head.versions object) object

-- the number of a client's last write or truncation at the member: 0 before the first
abbrev pub number_in : Option Session → ℕ
number_in None = 0
number_in (Some s) = s.number

abbrev pub number_of : Member → ℕ → ℕ
number_of m client = number_in (session_of m.head.sessions client)

-- an object's bytes lie in the content at their place, with zeros after them
pub record Lies (stripe : ℕ) (content : List ℕ) (object : ℕ) (body : List ℕ) : Type 0 where
  pub small : length body ≤ stripe
  pub bytes : (i : ℕ) → i < stripe → slice_index content (object * stripe + i) ≡ slice_index body i
