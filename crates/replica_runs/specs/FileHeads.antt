-- The head that a replica keeps, as a function of what it promised, the epoch in which it took its writes, and these writes.
pub use Rattle.replica_safety.specs.Epochs.{Body}
use Rattle.std.specs.Prelude.{◌==◌, if◌then◌else◌, List, [], ◌∷◌, length}
use Rattle.xt_base.specs.declared.ids.Epoch.{Epoch}
use Rattle.xt_messages.specs.declared.file.FileHead.{FileHead}
use Rattle.xt_messages.specs.declared.file.ObjectVersion.{ObjectVersion}
use Rattle.xt_messages.specs.declared.file.Update.{Update}
use Rattle.xt_base.specs.declared.TheConstants.{NO_OBJECT}
use Rattle.xt_protocol.specs.Heads.{new_head, head_after}

-- The head after updates, one after the other.
abbrev pub folded : FileHead → List Update → FileHead
folded head [] = head
folded head (u ∷ us) = folded (head_after head u) us

abbrev pub head_of : Epoch → Epoch → List Update → FileHead
head_of promised epoch us =
    record (folded new_head us) { promised = promised; stamp = record { epoch = epoch; count = length us } }

-- The versions of these writes.
abbrev pub versions_of : List Update → List ObjectVersion
versions_of us = (folded new_head us).versions

abbrev pub body_of : Update → Body
body_of u = record { object = u.object; version = u.stamp; bytes = u.body }

-- The bodies of these writes. One without an object has none.
abbrev pub bodies_in : List Update → List Body
bodies_in [] = []
bodies_in (u ∷ us) = if u.object == NO_OBJECT then bodies_in us else body_of u ∷ bodies_in us
