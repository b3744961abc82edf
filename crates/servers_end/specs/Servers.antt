-- the DIR and the MRC: a message that brings none
use Rattle.std.specs.Prelude.{ℕ, ◌≡◌, List, []}
use Rattle.xt_base.specs.declared.ids.NodeId.{NodeId}
use Rattle.xt_messages.specs.declared.event.Event.TheVariants as event
use Rattle.xt_messages.specs.declared.message.Msg.{Msg}
use Rattle.server_rows.specs.Directory.{DirState, step_of_dir}
use Rattle.server_rows.specs.Metadata.{MrcState, step_of_mrc}

abbrev pub dir_node : NodeId
dir_node = record { 0 = 900 }

abbrev pub mrc_node : NodeId
mrc_node = record { 0 = 901 }

-- no message comes of this one, whatever the DIR has become
abbrev pub EndsAtDir : Msg → Type 0
EndsAtDir m = (dir : DirState) → (step_of_dir dir (event.Deliver m)).turned.outs ≡ []

-- nor at the MRC
abbrev pub EndsAtMrc : List ℕ → Msg → Type 0
EndsAtMrc key m = (mrc : MrcState) (reading : ℕ) → (step_of_mrc key mrc reading (event.Deliver m)).turned.outs ≡ []
