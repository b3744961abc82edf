-- What clients see of the line: the bytes of reads, and that no answer is older than one before it; and the heads of an epoch.
use Rattle.std.specs.Prelude.{◌≡◌, ℕ, suc, ◌+◌, ◌-◌, ◌*◌, ◌≤◌, min, List, [], ◌∷◌, ◌++◌, length, take, drop}
use Rattle.xt_messages.specs.declared.file.Op.{Op}
use Rattle.xt_base.specs.Overlay.{cut_or_filled}
use Rattle.time_line.specs.Content.{place_of, content_of, range_of}
use Rattle.replica_safety.specs.Epochs.{Epoch, Write, Head}
use Rattle.replica_safety.specs.Lists.{Has}
use Rattle.replica_safety.specs.Rules.{Start}
use Rattle.replica_runs.specs.Made.{size_of, ops_of, IsMade}
use Rattle.replica_runs.specs.Marks.{line_at, Begins}
use Rattle.replica_runs.specs.Steps.{Step, begin, after_all, MayAll}
use Rattle.replica_runs.specs.World.{Mark, Told, ShowsRead, ShowsWrite, Status, Install, Update, World}

-- The bytes that a read is answered with: those of the body, clipped to the size, with zeros where the body has none.
abbrev pub reply_of : ℕ → List Write → ℕ → List ℕ → ℕ → ℕ → List ℕ
reply_of stripe ws object body at len = cut_or_filled (drop at body) (min len (size_of ws - (object * stripe + at)))

-- Each read shows the asked range of the content of the line as it was.
abbrev pub ReadsShow : ℕ → (ℕ × ℕ → Op) → Start → List Mark → Type 0
ReadsShow stripe ops start [] = Unit {0}
ReadsShow stripe ops start (Told n a ∷ ms) = ReadsShow stripe ops start ms
ReadsShow stripe ops start (ShowsWrite n place id ∷ ms) = ReadsShow stripe ops start ms
ReadsShow stripe ops start (ShowsRead n ws object body ∷ ms) = ReadsShow stripe ops start ms ×
    ((at len : ℕ) → at + len ≤ stripe → reply_of stripe ws object body at len ≡ range_of (content_of stripe (ops_of ops (line_at start ms))) (place_of stripe object at) len)

-- The count of each answer is at most this.
abbrev pub AreWithin : ℕ → List Mark → Type 0
AreWithin count [] = Unit {0}
AreWithin count (Told n a ∷ ms) = AreWithin count ms
AreWithin count (ShowsRead n ws object body ∷ ms) = (length ws ≤ count) × AreWithin count ms
AreWithin count (ShowsWrite n place id ∷ ms) = (place ≤ count) × AreWithin count ms

-- No answer before a read has a greater count.
abbrev pub AreFresh : List Mark → Type 0
AreFresh [] = Unit {0}
AreFresh (Told n a ∷ ms) = AreFresh ms
AreFresh (ShowsRead n ws object body ∷ ms) = AreWithin (length ws) ms × AreFresh ms
AreFresh (ShowsWrite n place id ∷ ms) = AreFresh ms

-- A head has the writes that its epoch began with, and a front of those issued in it.
abbrev pub IsOfEpoch : (Epoch → List Write) → (Epoch → List Write) → Epoch → List Write → Type 0
IsOfEpoch base log e ws = (k : ℕ) × (ws ≡ base e ++ take k (log e))

-- Each epoch has one chosen head and one list of updates, and every head that is kept or sent is made of them.
pub record HasEpochs (w : World) : Type 0 where
  pub base : Epoch → List Write
  pub log : Epoch → List Write
  pub kept : (r : ℕ) → IsOfEpoch base log (w.nodes r).head.epoch (w.nodes r).head.writes
  pub sent : (e : Epoch) (ws : List Write) → Has (Install e ws) w.messages → IsOfEpoch base log e ws
  pub told : (r : ℕ) (e : Epoch) (h : Head) → Has (Status r e h) w.messages → IsOfEpoch base log h.epoch h.writes
  pub updates : (v : Write) → Has (Update v) w.messages → (before : List Write) × (later : List Write) × (before ++ v ∷ later ≡ base v.stamp.epoch ++ log v.stamp.epoch) × (suc (length before) ≡ v.stamp.count)

-- P holds of the world after every run.
abbrev pub AlwaysOfWorlds : (World → Type 0) → Type 0
AlwaysOfWorlds P = (stripe : ℕ) (ops : ℕ × ℕ → Op) (members : List ℕ) (start : Start) (steps : List Step) → Begins (IsMade stripe ops) members start →
    MayAll (IsMade stripe ops) members (begin start) steps → P (after_all (begin start) steps)
