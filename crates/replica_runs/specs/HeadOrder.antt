-- What the entries of a file report: its line of writes, by their ids, and what fits it.
use Rattle.std.specs.Prelude.{◌≡◌, ◌⊎◌, ℕ, suc, pred, ◌+◌, ◌-◌, ◌*◌, ◌≤◌, ◌==◌, if◌then◌else◌, min, List, [], ◌∷◌, ◌++◌, length, map, drop, slice_get, Some}
use Rattle.xt_messages.specs.declared.file.Op.{Op}
use Rattle.xt_messages.specs.declared.file.Op.TheVariants as op
use Rattle.xt_base.specs.Overlay.{cut_or_filled}
use Rattle.time_line.specs.Content.{place_of, content_of, range_of}
use Rattle.replica_safety.specs.Epochs.{name}
use Rattle.replica_safety.specs.Lists.{Has, AreDistinct}
use Rattle.replica_safety.specs.Rules.{Start}
use Rattle.replica_runs.specs.HeadWorld.{Entry, TellsActive, TellsIssue, TellsCommit, ReadOk, WriteOk}

-- An entry that reports a place one above the length appends its write.
abbrev pub order_told : ℕ → ℕ × ℕ → List (ℕ × ℕ) → List (ℕ × ℕ)
order_told count id order = if count == suc (length order) then order ++ id ∷ [] else order

-- The order after these entries, the newest first, where it was this before them.
abbrev pub order_of : List (ℕ × ℕ) → List Entry → List (ℕ × ℕ)
order_of order [] = order
order_of order (TellsActive n count id ∷ es) = order_told count id (order_of order es)
order_of order (TellsIssue n count id ∷ es) = order_of order es
order_of order (TellsCommit n count id ∷ es) = order_told count id (order_of order es)
order_of order (ReadOk n count size o body ∷ es) = order_of order es
order_of order (WriteOk n count id ∷ es) = order_of order es

-- The last one, (0, 0) where there is none.
abbrev pub last_of : List (ℕ × ℕ) → ℕ × ℕ
last_of [] = (0, 0)
last_of (id ∷ []) = id
last_of (id ∷ next ∷ ids) = last_of (next ∷ ids)

-- this is the length of the order, and its last write
abbrev pub IsEnd : List (ℕ × ℕ) → ℕ → ℕ × ℕ → Type 0
IsEnd order count id = (length order ≡ count) × (last_of order ≡ id)

-- the bytes of a read, cut out of a body by the size, are those of the content
abbrev pub ShowsContent : ℕ → (ℕ × ℕ → Op) → List (ℕ × ℕ) → ℕ → ℕ → List ℕ → Type 0
ShowsContent stripe ops order size o body =
    (at len : ℕ) → at + len ≤ stripe
    → cut_or_filled (drop at body) (min len (size - (o * stripe + at))) ≡ range_of (content_of stripe (map ops order)) (place_of stripe o at) len

-- The newest entry fits the order. Who is active or commits reports its length and its last write; what is issued is one past
-- it; a read is answered with its length and the asked range of its content, a write with its place, counted from 1.
abbrev pub Fits : ℕ → (ℕ × ℕ → Op) → List (ℕ × ℕ) → List Entry → Type 0
Fits stripe ops order [] = Unit {0}
Fits stripe ops order (TellsActive n count id ∷ es) = IsEnd (order_of order (TellsActive n count id ∷ es)) count id
Fits stripe ops order (TellsIssue n count id ∷ es) = count ≡ suc (length (order_of order es))
Fits stripe ops order (TellsCommit n count id ∷ es) = IsEnd (order_of order (TellsCommit n count id ∷ es)) count id
Fits stripe ops order (ReadOk n count size o body ∷ es) =
    (count ≡ length (order_of order es)) × ShowsContent stripe ops (order_of order es) size o body
Fits stripe ops order (WriteOk n count id ∷ es) = (1 ≤ count) × (slice_get (order_of order es) (pred count) ≡ Some id)

-- Each entry fits the order as it was, which has no write twice.
abbrev pub AreOnOneOrder : ℕ → (ℕ × ℕ → Op) → List (ℕ × ℕ) → List Entry → Type 0
AreOnOneOrder stripe ops order [] = Unit {0}
AreOnOneOrder stripe ops order (e ∷ es) =
    Fits stripe ops order (e ∷ es) × AreDistinct (order_of order (e ∷ es)) × AreOnOneOrder stripe ops order es

-- the order at a start: that of the writes which it takes over as committed
abbrev pub order_at : Start → List (ℕ × ℕ)
order_at start = map name start.line

-- what had been issued before a start
abbrev pub known_at : Start → List (ℕ × ℕ)
known_at start = map name (start.line ++ start.open_writes)

-- one of these entries reports that this write is issued
abbrev pub IsIssued : List Entry → ℕ × ℕ → Type 0
IsIssued es id = (n : ℕ) × (count : ℕ) × Has (TellsIssue n count id) es

-- Each write that stands in the order after an entry had been issued before that entry, or is one of the known ones.
abbrev pub IssuesComeFirst : List (ℕ × ℕ) → List (ℕ × ℕ) → List Entry → Type 0
IssuesComeFirst known order [] = Unit {0}
IssuesComeFirst known order (e ∷ es) =
    ((id : ℕ × ℕ) → Has id (order_of order (e ∷ es)) → Has id known ⊎ IsIssued es id) × IssuesComeFirst known order es

abbrev pub IsChange : Op → Type 0
IsChange (op.Read object at len) = ⊥
IsChange (op.Write object at bytes) = Unit {0}
IsChange (op.Truncate size) = Unit {0}

-- what stands in an order are writes and truncations
abbrev pub AreChanges : (ℕ × ℕ → Op) → List (ℕ × ℕ) → Type 0
AreChanges ops order = (id : ℕ × ℕ) → Has id order → IsChange (ops id)
