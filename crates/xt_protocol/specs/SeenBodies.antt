-- the bodies of objects as a step sees them
use Rattle.std.specs.Prelude.{ℕ, List, [], unwrap_or}
use Rattle.xt_base.specs.declared.ids.FileId.{FileId}
use Rattle.xt_base.specs.declared.ids.Stamp.{Stamp}
use Rattle.xt_messages.specs.declared.record.Record.{Record}
use Rattle.xt_protocol.specs.Folds.{body_kept}

-- what these records keep as this version of this object of the file: empty where they keep none
abbrev pub body_by : List Record → FileId → ℕ → Stamp → List ℕ
body_by records file object version = unwrap_or (body_kept records file object version) []
