-- a later epoch's Gather changes a replica's head, and leaves its primary
use Rattle.std.specs.Prelude.{◌≡◌, true, false}
use Rattle.xt_base.specs.declared.ids.NodeId.{NodeId}
use Rattle.xt_base.specs.declared.ids.FileId.{FileId}
use Rattle.xt_base.specs.declared.ids.Epoch.{Epoch}
use Rattle.xt_messages.specs.declared.message.Payload.TheVariants as payload
use Rattle.xt_protocol.specs.Stamps.{is_earlier}
use Rattle.xt_protocol.specs.FileStates.{FileState, Site}
use Rattle.xt_protocol.specs.FileSteps.{message_comes}

pub record PromisesOver (site : Site) (s : FileState) (from : NodeId) (file : FileId) (epoch : Epoch) : Type 0 where
  pub primary : (message_comes site s from (payload.Gather file epoch)).state.primary ≡ s.primary
  pub promised : (message_comes site s from (payload.Gather file epoch)).state.kept.head.promised ≡ epoch

abbrev pub PromisesAlone : Type 0
PromisesAlone = (site : Site) (s : FileState) (from : NodeId) (file : FileId) (epoch : Epoch)
    → is_earlier epoch s.kept.head.promised ≡ false → is_earlier s.kept.head.promised epoch ≡ true → PromisesOver site s from file epoch
