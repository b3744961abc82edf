-- a world of one striped file and the one client that uses it: its members, the asks and replies that were ever sent, and how far the
-- client is
use Rattle.std.specs.Prelude.{◌≡◌, ℕ, suc, ◌%◌, ◌<◌, ◌≤◌, Bool, true, false, Option, Some, None, List, [], ◌∷◌, ◌++◌, length, map, take, slice_get, unwrap_or}
use Rattle.xt_base.specs.MemberList.{are_members}
use Rattle.xt_base.specs.declared.ids.FileId.{FileId}
use Rattle.xt_base.specs.declared.ids.NodeId.{NodeId}
use Rattle.xt_base.specs.declared.ids.OpId.{OpId}
use Rattle.xt_base.specs.declared.ids.SizeMark.{SizeMark}
use Rattle.xt_base.specs.declared.ids.Stamp.{Stamp}
use Rattle.xt_messages.specs.declared.file.Location.{Location}
use Rattle.xt_messages.specs.declared.file.Op.{Op}
use Rattle.xt_messages.specs.declared.file.Op.TheVariants.{Read, Write, Truncate}
use Rattle.xt_messages.specs.declared.reply.Reply.{Reply}
use Rattle.xt_messages.specs.declared.reply.Reply.TheVariants as reply
use Rattle.xt_protocol.specs.Objects.{readable}
use Rattle.xt_protocol.specs.Heads.{new_head}
use Rattle.time_line.specs.Content.{place_of, content_of, range_of}
use Rattle.truncate_epochs.specs.SizeMarks.{merged}
use Rattle.replica_safety.specs.Epochs.{at_node}
use Rattle.replica_safety.specs.Lists.{Has}
use Rattle.xt_messages.specs.Limits.{FitsOp}
use Rattle.xt_protocol.specs.AskRows.{leaves_object}
use Rattle.xt_protocol.specs.declared.states.PlainActed.{PlainActed}
use Rattle.xt_protocol.specs.PlainRows.{plain_step}
use Rattle.striped_safety.specs.Members.{Member, plain_of, beyond, has_of}

-- the file, where it is, and its client
pub record Setting : Type 0 where
  pub file : FileId
  pub location : Location
  pub client : NodeId

abbrev pub width_of : Setting → ℕ
width_of s = length s.location.members

abbrev pub stripe_of : Setting → ℕ
stripe_of s = s.location.stripe

-- the member at a place in the list, from 0
abbrev pub node_at : Setting → ℕ → NodeId
node_at s place = unwrap_or (slice_get s.location.members place) (record { 0 = 0 })

-- an operation, under its number and the truncate epoch of its capability
pub record Asked : Type 0 where
  pub number : ℕ
  pub epoch : ℕ
  pub op : Op

-- a reply of the member at a place
pub record Replied : Type 0 where
  pub place : ℕ
  pub number : ℕ
  pub answer : Reply

-- what a read showed, after these operations
pub record ReadShown : Type 0 where
  pub before : List Op
  pub object : ℕ
  pub at : ℕ
  pub len : ℕ
  pub bytes : List ℕ

pub record StripedWorld : Type 0 where
  pub members : ℕ → Member
  -- what was ever sent: a member may get any of it, at any time and as often as it comes
  pub asks : List Asked
  pub replies : List Replied
  -- the operation that runs, and the places whose Ok has counted
  pub runs : Option Asked
  pub told : ℕ → Bool
  -- the operations that ended well, in the order in which they began
  pub done : List Asked
  -- all numbers that were used are below this one
  pub next : ℕ
  -- the client's mark of the file
  pub mark : SizeMark
  pub reads : List ReadShown

abbrev pub ops_of : List Asked → List Op
ops_of xs = map (λ x. x.op) xs

-- an operation changes what a member keeps: a write does at the owner, a truncation at all
abbrev pub Affects : ℕ → ℕ → Op → Type 0
Affects width place (Read object at len) = ⊥
Affects width place (Write object at bytes) = object % width ≡ place
Affects width place (Truncate size) = Unit {0}

-- the members whose Ok an operation needs: the owner's, and for a truncation all
abbrev pub Needs : ℕ → ℕ → Op → Type 0
Needs width place (Read object at len) = object % width ≡ place
Needs width place (Write object at bytes) = object % width ≡ place
Needs width place (Truncate size) = place < width

-- How a member's step ends: all comes of it; it stops after its record, with no reply; or it stops and the record is lost.
pub data StepEnd : Type 0 where
  whole : StepEnd
  kept_alone : StepEnd
  lost : StepEnd

pub data Move : Type 0 where
  begins : (asked : Asked) → Move
  acts : (place : ℕ) → (asked : Asked) → (how : StepEnd) → Move
  -- another reply than Ok
  refuses : (place : ℕ) → (asked : Asked) → (answer : Reply) → Move
  -- members keep other bodies
  forgets : (bodies : ℕ → ℕ → Stamp → List ℕ) → Move
  hears : (place number count : ℕ) → (size : SizeMark) → (bytes : List ℕ) → Move
  ends : Move

-- no Ok
abbrev pub NotOk : Reply → Type 0
NotOk (reply.Ok count size bytes) = ⊥
NotOk _ = Unit {0}

-- an operation that stays in its object
abbrev pub StaysIn : Setting → Op → Type 0
StaysIn s asked = leaves_object (stripe_of s) asked ≡ false

-- what the member at a place does with an ask
abbrev pub id_of : Setting → Asked → OpId
id_of s a = record { client = s.client; number = a.number }

abbrev pub acted_at : Setting → StripedWorld → ℕ → Asked → PlainActed
acted_at s w place a =
    let m = w.members place in plain_step (plain_of s.file (node_at s place) m) m.body (id_of s a) a.epoch s.location a.op

abbrev pub member_after : Setting → StripedWorld → ℕ → Asked → Member
member_after s w place a = beyond s.file (node_at s place) (w.members place) (acted_at s w place a).rec

abbrev pub replied : ℕ → ℕ → Option Reply → List Replied
replied place number None = []
replied place number (Some answer) = record { place = place; number = number; answer = answer } ∷ []

-- what a read shows by an Ok, under the mark that is joined
abbrev pub shown_by : ℕ → List Op → SizeMark → List ℕ → Op → List ReadShown
shown_by stripe before all bytes (Read object at len) =
    record { before = before; object = object; at = at; len = len; bytes = take (readable all.size stripe object at len) bytes } ∷ []
shown_by stripe before all bytes _ = []

abbrev pub shown_of : Setting → StripedWorld → SizeMark → List ℕ → Option Asked → List ReadShown
shown_of s w all bytes None = []
shown_of s w all bytes (Some a) = shown_by (stripe_of s) (ops_of w.done) all bytes a.op

abbrev pub done_with : List Asked → Option Asked → List Asked
done_with xs None = xs
done_with xs (Some a) = xs ++ a ∷ []

-- a member with other bodies
abbrev pub with_bodies : (ℕ → Stamp → List ℕ) → Member → Member
with_bodies body m = record { head = m.head; body = body }

abbrev pub after : Setting → StripedWorld → Move → StripedWorld
after s w (begins a) = record w { asks = a ∷ w.asks; runs = Some a; told = λ p. false; next = suc a.number }
after s w (acts place a whole) =
    record w {
      members = at_node place (member_after s w place a) w.members;
      replies = replied place a.number (acted_at s w place a).reply ++ w.replies;
    }
after s w (acts place a kept_alone) = record w { members = at_node place (member_after s w place a) w.members }
after s w (acts place a lost) = w
after s w (refuses place a answer) = record w { replies = record { place = place; number = a.number; answer = answer } ∷ w.replies }
after s w (forgets bodies) = record w { members = λ place. with_bodies (bodies place) (w.members place) }
after s w (hears place number count size bytes) =
    let all = merged w.mark size in
    record w { mark = all; told = at_node place true w.told; reads = shown_of s w all bytes w.runs ++ w.reads }
after s w ends = record w { done = done_with w.done w.runs; runs = None; told = λ p. false }

-- a member has of each object what it had
abbrev pub HasSame : (ℕ → Stamp → List ℕ) → Member → Type 0
HasSame body m = (object : ℕ) → has_of (with_bodies body m) object ≡ has_of m object

-- When a move is allowed. A call begins when the one before it has ended well; it has a number above all earlier ones, and an
-- operation within the limits. A member does an operation that stays in its object; it may refuse any. What members forget is
-- nothing that they have.
pub record MayBegin (s : Setting) (w : StripedWorld) (a : Asked) : Type 0 where
  pub rests : w.runs ≡ None
  pub above : w.next ≤ a.number
  pub fits : FitsOp a.op

-- an Ok of the operation that runs, from a member that it needs
pub record MayHear (s : Setting) (w : StripedWorld) (place number count : ℕ) (size : SizeMark) (bytes : List ℕ) : Type 0 where
  pub asked : Asked
  pub running : w.runs ≡ Some asked
  pub same : number ≡ asked.number
  pub here : place < width_of s
  pub needed : Needs (width_of s) place asked.op
  pub sent : Has (record { place = place; number = number; answer = reply.Ok count size bytes }) w.replies

-- an operation ends well once all that it needs have answered
pub record MayEnd (s : Setting) (w : StripedWorld) : Type 0 where
  pub asked : Asked
  pub running : w.runs ≡ Some asked
  pub all : (place : ℕ) → place < width_of s → Needs (width_of s) place asked.op → w.told place ≡ true

abbrev pub May : Setting → StripedWorld → Move → Type 0
May s w (begins a) = MayBegin s w a
May s w (acts place a how) = (place < width_of s) × Has a w.asks × StaysIn s a.op
May s w (refuses place a answer) = Has a w.asks × NotOk answer
May s w (forgets bodies) = (place : ℕ) → place < width_of s → HasSame (bodies place) (w.members place)
May s w (hears place number count size bytes) = MayHear s w place number count size bytes
May s w ends = MayEnd s w

abbrev pub MayAll : Setting → StripedWorld → List Move → Type 0
MayAll s w [] = Unit {0}
MayAll s w (step ∷ steps) = May s w step × MayAll s (after s w step) steps

abbrev pub after_all : Setting → StripedWorld → List Move → StripedWorld
after_all s w [] = w
after_all s w (step ∷ steps) = after_all s (after s w step) steps

-- nothing was asked yet; numbers begin with 1
abbrev pub first_world : StripedWorld
first_world =
    record {
      members = λ p. record { head = new_head; body = λ o v. [] };
      asks = [];
      replies = [];
      runs = None;
      told = λ p. false;
      done = [];
      next = 1;
      mark = record { epoch = 0; size = 0 };
      reads = [];
    }

-- a read shows the asked range of what the operations before it made
abbrev pub IsRight : Setting → ReadShown → Type 0
IsRight s r = r.bytes ≡ range_of (content_of (stripe_of s) r.before) (place_of (stripe_of s) r.object r.at) r.len

-- a setting: one to nine different members
pub record IsSetting (s : Setting) : Type 0 where
  pub members : are_members s.location.members ≡ true
  pub stripe : 0 < s.location.stripe
