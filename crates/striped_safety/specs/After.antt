-- what a member is after operations of the client
use Rattle.std.specs.Prelude.{◌≡◌, ℕ, suc, ◌+◌, ◌*◌, ◌%◌, ◌<◌, ◌≤◌, ◌⊎◌, Option, Some, None, List, [], ◌∷◌, ◌++◌, length}
use Rattle.xt_base.specs.declared.TheConstants.{NO_OBJECT}
use Rattle.xt_base.specs.declared.ids.SizeMark.{SizeMark}
use Rattle.xt_base.specs.declared.ids.Stamp.{Stamp}
use Rattle.xt_base.specs.Overlay.{cut_or_filled}
use Rattle.xt_messages.specs.declared.file.FileHead.{FileHead}
use Rattle.xt_messages.specs.declared.file.Op.{Op}
use Rattle.xt_messages.specs.declared.file.Op.TheVariants.{Read, Write, Truncate}
use Rattle.xt_messages.specs.declared.reply.Reply.{Reply}
use Rattle.xt_messages.specs.declared.reply.Reply.TheVariants as reply
use Rattle.xt_protocol.specs.Heads.{version_of}
use Rattle.time_line.specs.Content.{content_of}
use Rattle.replica_safety.specs.Lists.{Has}
use Rattle.xt_messages.specs.Limits.{FitsOp}
use Rattle.std.specs.Prelude.{drop, true}
use Rattle.striped_safety.specs.Members.{Member, Lies, has_of, number_of}
use Rattle.striped_safety.specs.StripedWorld.{Setting, Asked, Replied, ReadShown, StripedWorld, width_of, stripe_of, ops_of, Affects, StaysIn, IsRight}

-- the content that operations make, and the truncate epoch after them
abbrev pub content_made : Setting → List Asked → List ℕ
content_made s xs = content_of (stripe_of s) (ops_of xs)

abbrev pub epoch_by : ℕ → Asked → Op → ℕ
epoch_by epoch a (Truncate size) = a.epoch
epoch_by epoch a _ = epoch

abbrev pub epoch_after : ℕ → Asked → ℕ
epoch_after epoch a = epoch_by epoch a a.op

unfoldable pub epoch_from : ℕ → List Asked → ℕ
epoch_from epoch [] = epoch
epoch_from epoch (a ∷ xs) = epoch_from (epoch_after epoch a) xs

abbrev pub epoch_made : List Asked → ℕ
epoch_made xs = epoch_from 0 xs

-- the mark of a client that has heard of all of them
abbrev pub mark_made : Setting → List Asked → SizeMark
mark_made s xs = record { epoch = epoch_made xs; size = length (content_made s xs) }

-- every version that a head names is of an object, and of a count that the head has passed
abbrev pub AreOld : FileHead → Type 0
AreOld head = (o : ℕ) (v : Stamp) → version_of head.versions o ≡ Some v → (o < NO_OBJECT) × (v.count ≤ head.stamp.count)

-- A member after these operations: its objects lie in their content; its mark is of their epoch, and its size isn't past the end; it
-- has had each of them that affects it, and none of this number or above.
pub record IsAfter (s : Setting) (xs : List Asked) (bound place : ℕ) (m : Member) : Type 0 where
  pub old : AreOld m.head
  pub lies : (o : ℕ) → o % width_of s ≡ place → Lies (stripe_of s) (content_made s xs) o (has_of m o)
  pub epoch : m.head.mark.epoch ≡ epoch_made xs
  pub size : m.head.mark.size ≤ length (content_made s xs)
  pub had : (x : Asked) → Has x xs → Affects (width_of s) place x.op → x.number ≤ number_of m s.client.0
  pub top : number_of m s.client.0 < bound

-- how far a file goes at least after an operation
abbrev pub least_of : ℕ → Op → ℕ
least_of stripe (Read object at len) = 0
least_of stripe (Write object at bytes) = object * stripe + at + length bytes
least_of stripe (Truncate size) = size

-- a truncation has a greater epoch than the file
abbrev pub Rises : ℕ → Asked → Op → Type 0
Rises epoch a (Truncate size) = epoch < a.epoch
Rises epoch a _ = Unit {0}

-- the member has done the operation that runs
pub record HasDone (s : Setting) (done : List Asked) (next place : ℕ) (a : Asked) (m : Member) : Type 0 where
  pub affects : Affects (width_of s) place a.op
  pub is_after : IsAfter s (done ++ a ∷ []) next place m
  pub reach : least_of (stripe_of s) a.op ≤ m.head.mark.size
  pub rises : Rises (epoch_made done) a a.op
  pub last : number_of m s.client.0 ≡ a.number

-- numbers from which on nothing has been done
abbrev pub bound_of : ℕ → Option Asked → ℕ
bound_of next None = next
bound_of next (Some a) = a.number

abbrev pub MemberStands : Setting → StripedWorld → ℕ → Member → Type 0
MemberStands s w place m =
    IsAfter s w.done (bound_of w.next w.runs) place m ⊎ ((a : Asked) × (w.runs ≡ Some a) × HasDone s w.done w.next place a m)

-- an Ok of the operation that runs
pub record OkIs (s : Setting) (w : StripedWorld) (place : ℕ) (a : Asked) (size : SizeMark) : Type 0 where
  pub epoch : size.epoch ≡ epoch_made (w.done ++ a ∷ [])
  pub most : size.size ≤ length (content_made s (w.done ++ a ∷ []))
  pub reach : least_of (stripe_of s) a.op ≤ size.size
  pub rises : Rises (epoch_made w.done) a a.op
  pub had : Affects (width_of s) place a.op → a.number ≤ number_of (w.members place) s.client.0
  pub inside : StaysIn s a.op

-- a read's bytes are those of an object as it lies in the content
abbrev pub BytesAre : Setting → StripedWorld → ℕ → List ℕ → Op → Type 0
BytesAre s w place bytes (Read object at len) =
    object % width_of s ≡ place → (body : List ℕ) × Lies (stripe_of s) (content_made s w.done) object body × (bytes ≡ cut_or_filled (drop at body) len)
BytesAre s w place bytes _ = Unit {0}

abbrev pub AnswerIs : Setting → StripedWorld → ℕ → Asked → Reply → Type 0
AnswerIs s w place a (reply.Ok count size bytes) = OkIs s w place a size × BytesAre s w place bytes a.op
AnswerIs s w place a _ = Unit {0}

pub record ReplyStands (s : Setting) (w : StripedWorld) (r : Replied) : Type 0 where
  pub low : r.number < w.next
  pub answer : (a : Asked) → w.runs ≡ Some a → r.number ≡ a.number → AnswerIs s w r.place a r.answer

pub record AskStands (s : Setting) (w : StripedWorld) (a : Asked) : Type 0 where
  pub some : 1 ≤ a.number
  pub fits : FitsOp a.op
  pub known : (w.runs ≡ Some a) ⊎ Has a w.done

-- the operation that runs has the last number
abbrev pub RunStands : Setting → StripedWorld → Option Asked → Type 0
RunStands s w None = Unit {0}
RunStands s w (Some a) = (w.next ≡ suc a.number) × (1 ≤ a.number)

-- what always holds
pub record Stands (s : Setting) (w : StripedWorld) : Type 0 where
  pub some : 1 ≤ w.next
  pub members : (place : ℕ) → place < width_of s → MemberStands s w place (w.members place)
  pub asks : (a : Asked) → Has a w.asks → AskStands s w a
  pub run : RunStands s w w.runs
  pub past : (a : Asked) → Has a w.done → a.number < bound_of w.next w.runs
  pub replies : (r : Replied) → Has r w.replies → ReplyStands s w r
  pub told : (place : ℕ) → w.told place ≡ true → (a : Asked) → w.runs ≡ Some a
      → (Affects (width_of s) place a.op → a.number ≤ number_of (w.members place) s.client.0) × (w.mark ≡ mark_made s (w.done ++ a ∷ [])) × StaysIn s a.op
  pub mark : (w.mark ≡ mark_made s w.done) ⊎ ((a : Asked) × (w.runs ≡ Some a) × (w.mark ≡ mark_made s (w.done ++ a ∷ [])))
  pub reads : (r : ReadShown) → Has r w.reads → IsRight s r
