-- a server sends messages of its own node, and none with a file's head
use Rattle.std.proofs.Common.{ℕ, Bool, true, false, List, refl, None}
use Rattle.std.specs.Prelude.{cond, max}
use Rattle.xt_base.specs.declared.TheConstants.{DIR_NODE, MRC_NODE}
use Rattle.xt_base.specs.declared.ids.NodeId.{NodeId}
use Rattle.xt_messages.specs.declared.meta.MetaReq.{MetaReq}
use Rattle.xt_messages.specs.declared.message.Payload.{Payload}
use Rattle.xt_messages.specs.declared.message.Payload.TheVariants as payload
use Rattle.xt_messages.specs.declared.event.Event.{Event}
use Rattle.xt_messages.specs.declared.event.Event.TheVariants as event
use Rattle.xt_messages.specs.declared.meta.MetaAnswer.{MetaAnswer}
use Rattle.xt_messages.specs.declared.registry.RegistryReq.{RegistryReq}
use Rattle.xt_messages.specs.declared.registry.RegistryRow.{RegistryRow}
use Rattle.xt_messages.specs.declared.registry.RegistryAnswer.{RegistryAnswer}
use Rattle.xt_messages.specs.declared.registry.RegistryAnswer.TheVariants as told
use Rattle.reply_cache.specs.declared.Standing.{Standing}
use Rattle.reply_cache.specs.declared.Standing.TheVariants as standing
use Rattle.reply_cache.specs.Standings.{standing_of}
use Rattle.registry_table.specs.Registry as registry
use Rattle.volume_rows.specs.declared.Asker.{Asker}
use Rattle.server_rows.specs.Requests.{is_recorded, is_taken, is_spent, outcome_of}
use Rattle.server_rows.specs.Metadata as metadata
use Rattle.server_rows.specs.Metadata.{MrcState, MrcStep, step_of_mrc}
use Rattle.server_rows.specs.Directory as directory
use Rattle.server_rows.specs.Directory.{DirState, DirStep, step_of_dir}
use Rattle.own_messages_wait.proofs.Sizes.{AreSmall}

-- ---- the metadata server

module _ (key : List ℕ) where
  abbrev MrcSmall : MrcStep → Type 0
  MrcSmall step = AreSmall MRC_NODE step.turned.outs

  fresh_small : (m : MrcState) (client : NodeId) (number : ℕ) (who : Asker) (request : MetaReq) → MrcSmall (metadata.fresh key m client number who request)
  fresh_small m client number who request = at (is_spent m.catalogue.volumes who request) (is_recorded key m.catalogue.volumes m.last request)
    where
      at : (spent kept : Bool) → MrcSmall (cond spent (metadata.nothing m) (cond kept (metadata.recorded key m client number who request) (metadata.answered m client number (outcome_of key m.catalogue.volumes who m.last None request).answer)))
      at true kept = tt
      at false true = ((refl, tt), tt)
      at false false = ((refl, tt), tt)

  stands_small : (m : MrcState) (client : NodeId) (number : ℕ) (who : Asker) (request : MetaReq) (s : Standing MetaAnswer) → MrcSmall (metadata.by_standing key m client number who request s)
  stands_small m client number who request standing.Fresh = fresh_small m client number who request
  stands_small m client number who request (standing.Again answer) = ((refl, tt), tt)
  stands_small m client number who request standing.Older = tt

  asked_small : (m : MrcState) (client : NodeId) (number : ℕ) (who : Asker) (request : MetaReq) → MrcSmall (metadata.requested key m client number who request)
  asked_small m client number who request = at (is_taken request)
    where
      at : (taken : Bool) → MrcSmall (cond taken (metadata.by_standing key m client number who request (standing_of m.catalogue.clients client number)) (metadata.nothing m))
      at true = stands_small m client number who request (standing_of m.catalogue.clients client number)
      at false = tt

  rows_small : (m : MrcState) (from : NodeId) (rows : List RegistryRow) → MrcSmall (metadata.rows_heard m from rows)
  rows_small m from rows = at (metadata.is_dir from)
    where
      at : (b : Bool) → MrcSmall (cond b (metadata.nothing (record m { osds = metadata.nodes_of rows })) (metadata.nothing m))
      at true = tt
      at false = tt

  listed_small : (m : MrcState) (from : NodeId) (number : ℕ) (what : RegistryAnswer) → MrcSmall (metadata.told_by key m from (payload.RegistryReply number what))
  listed_small m from number (told.Rows rows) = rows_small m from rows
  listed_small m from number _ = tt

  told_small : (m : MrcState) (from : NodeId) (content : Payload) → MrcSmall (metadata.told_by key m from content)
  told_small m from (payload.Meta number user group request) = asked_small m from number (record { user = user; group = group }) request
  told_small m from (payload.RegistryReply number what) = listed_small m from number what
  told_small m from _ = tt

  handled_small : (m : MrcState) (happens : Event) → MrcSmall (metadata.handled key m happens)
  handled_small m (event.Deliver msg) = told_small m msg.from msg.payload
  handled_small m event.Wake = ((refl, tt), tt)
  handled_small m (event.Call call) = tt

  pub mrc_small : (m : MrcState) (reading : ℕ) (happens : Event) → AreSmall MRC_NODE (step_of_mrc key m reading happens).turned.outs
  unfolding step_of_mrc
  mrc_small m reading happens = handled_small (record m { last = max reading m.last }) happens

-- ---- the directory service

abbrev DirSmall : DirStep → Type 0
DirSmall step = AreSmall DIR_NODE step.turned.outs

dir_fresh : (s : DirState) (client : NodeId) (number : ℕ) (asked : RegistryReq) → DirSmall (directory.fresh s client number asked)
dir_fresh s client number asked = at (registry.is_spent s.rows asked) (registry.is_recorded asked)
  where
    at : (spent kept : Bool) → DirSmall (cond spent (directory.nothing s) (cond kept (directory.recorded s client number asked) (directory.answered s client number (registry.outcome_of s.rows asked).answer)))
    at true kept = tt
    at false true = ((refl, tt), tt)
    at false false = ((refl, tt), tt)

dir_stands : (s : DirState) (client : NodeId) (number : ℕ) (asked : RegistryReq) (how : Standing RegistryAnswer) → DirSmall (directory.by_standing s client number asked how)
dir_stands s client number asked standing.Fresh = dir_fresh s client number asked
dir_stands s client number asked (standing.Again what) = ((refl, tt), tt)
dir_stands s client number asked standing.Older = tt

dir_told : (s : DirState) (from : NodeId) (content : Payload) → DirSmall (directory.told_by s from content)
dir_told s from (payload.Registry number asked) = dir_stands s from number asked (standing_of s.clients from number)
dir_told s from _ = tt

pub dir_small : (s : DirState) (happens : Event) → AreSmall DIR_NODE (step_of_dir s happens).turned.outs
unfolding step_of_dir
dir_small s (event.Deliver msg) = dir_told s msg.from msg.payload
dir_small s event.Wake = tt
dir_small s (event.Call call) = tt
