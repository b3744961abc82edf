-- What the theorem takes over: writes, heads, and the orders of stamps as relations.
pub use Rattle.xt_base.specs.declared.ids.Epoch.{Epoch}
pub use Rattle.xt_base.specs.declared.ids.Stamp.{Stamp}
use Rattle.std.specs.Prelude.{◌≡◌, ℕ, true, false, ◌==◌, List, length, if◌then◌else◌}
use Rattle.xt_messages.specs.declared.file.Update.{Update}
use Rattle.xt_protocol.specs.Stamps.{is_epoch, is_below}

-- A stamp is before another one, or not after it.
abbrev pub Below : Stamp → Stamp → Type 0
Below s t = is_below s t ≡ true

abbrev pub AtMost : Stamp → Stamp → Type 0
AtMost s t = is_below t s ≡ false

-- A write or truncation, as a primary sends it. Its name is its client and the client's number for it.
abbrev pub Write : Type 0
Write = Update

abbrev pub name : Write → ℕ × ℕ
name w = (w.id.client.0, w.id.number)

-- What a replica keeps of the file: the epoch in which it took this, and the writes, the first one first.
pub record Head : Type 0 where
  pub epoch : Epoch
  pub writes : List Write

-- A body of an object's version.
pub record Body : Type 0 where
  pub object : ℕ
  pub version : Stamp
  pub bytes : List ℕ

abbrev pub stamp_of : Head → Stamp
stamp_of h = record { epoch = h.epoch; count = length h.writes }

-- A function that is `new` at one place, and `old` at every other.
abbrev pub at_epoch : {A : Type 0} → Epoch → A → (Epoch → A) → Epoch → A
at_epoch e new old d = if is_epoch d e then new else old d

abbrev pub at_node : {A : Type 0} → ℕ → A → (ℕ → A) → ℕ → A
at_node node new old n = if n == node then new else old n
