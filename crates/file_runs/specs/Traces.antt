-- When the trace of a world reports, of one file, the entries of a world of heads.
use Rattle.std.specs.Prelude.{◌≡◌, ℕ, ◌-◌, ◌≤◌, Bool, true, false, ◌==◌, if◌then◌else◌, List, [], ◌∷◌, length, map, slice_get, Some}
use Rattle.xt_base.specs.declared.ids.OpId.{OpId}
use Rattle.xt_base.specs.declared.ids.NodeId.{NodeId}
use Rattle.xt_messages.specs.declared.file.Op.{Op}
use Rattle.xt_messages.specs.declared.file.Op.TheVariants as op
use Rattle.time_line.specs.Content.{place_of, content_of, range_of}
use Rattle.time_line.specs.declared.entry.Entry.{Entry}
use Rattle.time_line.specs.declared.entry.Entry.TheVariants as entry
use Rattle.time_line.specs.TimeLine.{write_order, operation_begun, stripe_of}
use Rattle.time_line.specs.Clauses.{IsBefore, IsMoment, IsOneOrder, AreDistinct, AreOnce, AnswersShow}
use Rattle.replica_safety.specs.Lists.{Has}
use Rattle.replica_runs.specs.HeadOrder.{AreOnOneOrder, AreChanges, IssuesComeFirst, order_of}
use Rattle.replica_runs.specs.HeadWorld.{TellsActive, TellsIssue, TellsCommit}
use Rattle.replica_runs.specs.HeadWorld as heads
use Rattle.replica_runs.specs.Seen.{IsAnswer, name_of}

-- An answer on the file reports an entry that it shows.
abbrev pub AnswerTells : ℕ → (ℕ × ℕ → Op) → ℕ → OpId → ℕ → List ℕ → List heads.Entry → List heads.Entry → Bool → Type 0
AnswerTells stripe ops n id count bytes before after true =
    (x : heads.Entry) × IsAnswer stripe ops n id count bytes x × (after ≡ x ∷ before)
AnswerTells stripe ops n id count bytes before after false = after ≡ before

-- What an entry of the trace reports of the file, where the entries of the file, the newest first, were these before and are
-- those after it.
abbrev pub TellsOne : ℕ → (ℕ × ℕ → Op) → ℕ → Entry → List heads.Entry → List heads.Entry → Type 0
TellsOne stripe ops file (entry.Active node f count id) before after =
    after ≡ (if f == file then TellsActive node.0 count (name_of id) ∷ before else before)
TellsOne stripe ops file (entry.Issue node f count id) before after =
    after ≡ (if f == file then TellsIssue node.0 count (name_of id) ∷ before else before)
TellsOne stripe ops file (entry.Commit node f count id) before after =
    after ≡ (if f == file then TellsCommit node.0 count (name_of id) ∷ before else before)
TellsOne stripe ops file (entry.Answer node f id count bytes) before after =
    AnswerTells stripe ops node.0 id count bytes before after (f == file)
TellsOne stripe ops file _ before after = after ≡ before

-- The trace reports them one by one.
abbrev pub Tells : ℕ → (ℕ × ℕ → Op) → ℕ → List Entry → List heads.Entry → List heads.Entry → Type 0
Tells stripe ops file [] before after = after ≡ before
Tells stripe ops file (e ∷ r) before after =
    (mid : List heads.Entry) × TellsOne stripe ops file e before mid × Tells stripe ops file r mid after

-- What an answer shows, where this is the order of writes before it: a read the length of the order and the asked range of its
-- content, a write or truncation its place, counted from 1.
abbrev pub Shows : ℕ → (ℕ × ℕ → Op) → List OpId → OpId → ℕ → List ℕ → Op → Type 0
Shows stripe ops order id count bytes (op.Read object at len) =
    (count ≡ length order)
    × (bytes ≡ range_of (content_of stripe (map ops (map name_of order))) (place_of stripe object at) len)
Shows stripe ops order id count bytes (op.Write object at body) = (1 ≤ count) × (slice_get order (count - 1) ≡ Some id) × (bytes ≡ [])
Shows stripe ops order id count bytes (op.Truncate size) = (1 ≤ count) × (slice_get order (count - 1) ≡ Some id) × (bytes ≡ [])

-- Each answer on the file shows the order as it was, as its call asks.
abbrev pub AnswersFit : ℕ → (ℕ × ℕ → Op) → ℕ → List Entry → Type 0
AnswersFit stripe ops file entries =
    (before : List Entry) (node : NodeId) (id : OpId) (count : ℕ) (bytes : List ℕ)
    → IsBefore before (entry.Answer node file id count bytes) entries
    → Shows stripe ops (write_order file before) id count bytes (ops (name_of id))

-- Where what a trace reports of a file fits one order, each claim of the trace agrees with the order of writes that the trace
-- itself gives, and no write is in it twice.
abbrev pub TracesAreOnOneOrder : Type 0
TracesAreOnOneOrder =
    (stripe : ℕ) (ops : ℕ × ℕ → Op) (file : ℕ) (entries : List Entry) (es : List heads.Entry)
    → Tells stripe ops file entries [] es → AreOnOneOrder stripe ops [] es → IsOneOrder file entries × AreDistinct file entries

-- And where only writes and truncations stand in that order, each answer shows it as it was.
abbrev pub TracesShow : Type 0
TracesShow =
    (stripe : ℕ) (ops : ℕ × ℕ → Op) (file : ℕ) (entries : List Entry) (es : List heads.Entry)
    → Tells stripe ops file entries [] es → AreOnOneOrder stripe ops [] es → AreChanges ops (order_of [] es)
    → AnswersFit stripe ops file entries

-- the write was issued on the file by one of these entries
abbrev pub IsIssued : ℕ → List Entry → OpId → Type 0
IsIssued file entries id =
    (before : List Entry) × (node : NodeId) × (count : ℕ) × IsBefore before (entry.Issue node file count id) entries

-- Each write that stands in the order at a moment has been issued on the file by then.
abbrev pub AreIssued : ℕ → List Entry → Type 0
AreIssued file entries =
    (moment : List Entry) (id : OpId) → IsMoment moment entries → Has id (write_order file moment) → IsIssued file moment id

-- So it is where what the trace reports issues each write first, and nothing had been issued at its begin.
abbrev pub TracesIssueFirst : Type 0
TracesIssueFirst =
    (stripe : ℕ) (ops : ℕ × ℕ → Op) (file : ℕ) (entries : List Entry) (es : List heads.Entry)
    → Tells stripe ops file entries [] es → IssuesComeFirst [] [] es → AreIssued file entries

-- Calls have begun as the operations of the ids say: each that is answered on the file before its answer, and each whose write has
-- been issued there by a moment by that moment.
pub record HaveBegun (ops : ℕ × ℕ → Op) (file : ℕ) (entries : List Entry) : Type 0 where
  pub answered : (before : List Entry) (node : NodeId) (id : OpId) (count : ℕ) (bytes : List ℕ)
      → IsBefore before (entry.Answer node file id count bytes) entries → operation_begun file before id ≡ Some (ops (name_of id))
  pub issued : (moment : List Entry) (id : OpId) → IsMoment moment entries → IsIssued file moment id
      → operation_begun file moment id ≡ Some (ops (name_of id))

-- Where only writes and truncations are in the order, each is in it once, and had begun before.
abbrev pub TracesAreOnce : Type 0
TracesAreOnce =
    (stripe : ℕ) (ops : ℕ × ℕ → Op) (file : ℕ) (entries : List Entry) (es : List heads.Entry)
    → Tells stripe ops file entries [] es → AreOnOneOrder stripe ops [] es → AreChanges ops (order_of [] es) → AreIssued file entries
    → HaveBegun ops file entries → AreOnce file entries

-- Answers that show the order as it was show the file as it stands, where the calls have begun so.
abbrev pub FitsShow : Type 0
FitsShow =
    (stripe : ℕ) (ops : ℕ × ℕ → Op) (file : ℕ) (entries : List Entry) → stripe_of file entries ≡ stripe → AreIssued file entries
    → HaveBegun ops file entries → AnswersFit stripe ops file entries → AnswersShow file entries
