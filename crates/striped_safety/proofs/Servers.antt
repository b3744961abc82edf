-- what the servers send: nothing about a file's content
use Rattle.std.proofs.Common.{ℕ, inl, inr, sym, subst, Bool, true, false, cond, None, List, [], ◌∷◌}
use Rattle.std.specs.Prelude.{max}
use Rattle.xt_base.specs.declared.ids.NodeId.{NodeId}
use Rattle.xt_messages.specs.declared.meta.MetaReq.{MetaReq}
use Rattle.xt_messages.specs.declared.meta.MetaAnswer.{MetaAnswer}
use Rattle.xt_messages.specs.declared.registry.RegistryReq.{RegistryReq}
use Rattle.xt_messages.specs.declared.registry.RegistryRow.{RegistryRow}
use Rattle.xt_messages.specs.declared.registry.RegistryAnswer.{RegistryAnswer}
use Rattle.xt_messages.specs.declared.registry.RegistryAnswer.TheVariants as told
use Rattle.xt_messages.specs.declared.message.Msg.{Msg}
use Rattle.xt_messages.specs.declared.message.Payload.{Payload}
use Rattle.xt_messages.specs.declared.message.Payload.TheVariants as payload
use Rattle.xt_messages.specs.declared.event.Event.{Event}
use Rattle.xt_messages.specs.declared.event.Event.TheVariants as event
use Rattle.lease_safety.specs.State.{Has}
use Rattle.reply_cache.specs.declared.Standing.{Standing}
use Rattle.reply_cache.specs.declared.Standing.TheVariants as standing
use Rattle.reply_cache.specs.Standings.{standing_of}
use Rattle.registry_table.specs.Registry as registry
use Rattle.volume_rows.specs.declared.Asker.{Asker}
use Rattle.server_rows.specs.Requests.{outcome_of, is_recorded, is_spent}
use Rattle.server_rows.specs.Metadata.{MrcState, MrcStep, catalogue_of, nodes_of, is_dir, step_of_mrc}
use Rattle.server_rows.specs.Metadata as metadata
use Rattle.server_rows.specs.Directory.{DirState, DirStep, step_of_dir}
use Rattle.server_rows.specs.Directory as directory
use Rattle.server_rows.proofs.Taking.{taken_or_not}

-- ---- what is sent

-- a message of a server: about no file's content, and no reply to an operation on one
abbrev pub IsOfServer : Payload → Type 0
IsOfServer (payload.MetaReply number what) = Unit {0}
IsOfServer (payload.Registry number asked) = Unit {0}
IsOfServer (payload.RegistryReply number what) = Unit {0}
IsOfServer _ = ⊥

one_sent : (x : Msg) → IsOfServer x.payload → (m : Msg) → Has m (x ∷ []) → IsOfServer m.payload
one_sent x is m (inl e) = subst (λ (y : Msg). IsOfServer y.payload) (sym e) is
one_sent x is m (inr h) = absurd h

abbrev MrcSends : MrcStep → Type 0
MrcSends step = (m : Msg) → Has m step.turned.outs → IsOfServer m.payload

mrc_nothing : (mrc : MrcState) → MrcSends (metadata.nothing mrc)
mrc_nothing mrc m h = absurd h

mrc_answered : (mrc : MrcState) (client : NodeId) (number : ℕ) (what : MetaAnswer) → MrcSends (metadata.answered mrc client number what)
mrc_answered mrc client number what = one_sent (metadata.reply_to client number what) tt

module _ (key : List ℕ) where
  mrc_fresh : (mrc : MrcState) (client : NodeId) (number : ℕ) (who : Asker) (request : MetaReq) → MrcSends (metadata.fresh key mrc client number who request)
  mrc_fresh mrc client number who request = at (is_spent mrc.catalogue.volumes who request) (is_recorded key mrc.catalogue.volumes mrc.last request)
    where
      at : (spent records : Bool)
          → MrcSends (cond spent (metadata.nothing mrc) (cond records (metadata.recorded key mrc client number who request) (metadata.answered mrc client number (outcome_of key mrc.catalogue.volumes who mrc.last None request).answer)))
      at true records = mrc_nothing mrc
      at false true = one_sent _ tt
      at false false = mrc_answered mrc client number (outcome_of key mrc.catalogue.volumes who mrc.last None request).answer

  mrc_stands : (mrc : MrcState) (client : NodeId) (number : ℕ) (who : Asker) (request : MetaReq) (how : Standing MetaAnswer) → MrcSends (metadata.by_standing key mrc client number who request how)
  mrc_stands mrc client number who request standing.Fresh = mrc_fresh mrc client number who request
  mrc_stands mrc client number who request (standing.Again what) = mrc_answered mrc client number what
  mrc_stands mrc client number who request standing.Older = mrc_nothing mrc

  mrc_heard : (mrc : MrcState) (from : NodeId) (rs : List RegistryRow) → MrcSends (metadata.rows_heard mrc from rs)
  mrc_heard mrc from rs = at (is_dir from)
    where
      at : (b : Bool) → MrcSends (cond b (metadata.nothing (record mrc { osds = nodes_of rs })) (metadata.nothing mrc))
      at true = mrc_nothing (record mrc { osds = nodes_of rs })
      at false = mrc_nothing mrc

  mrc_listed : (mrc : MrcState) (from : NodeId) (number : ℕ) (what : RegistryAnswer) → MrcSends (metadata.told_by key mrc from (payload.RegistryReply number what))
  mrc_listed mrc from number (told.Rows rs) = mrc_heard mrc from rs
  mrc_listed mrc from number _ = mrc_nothing mrc

  mrc_told : (mrc : MrcState) (from : NodeId) (content : Payload) → MrcSends (metadata.told_by key mrc from content)
  mrc_told mrc from (payload.Meta number user group request) =
      taken_or_not MrcSends key mrc from number (record { user = user; group = group }) request
      (mrc_stands mrc from number (record { user = user; group = group }) request (standing_of mrc.catalogue.clients from number)) (mrc_nothing mrc)
  mrc_told mrc from (payload.RegistryReply number what) = mrc_listed mrc from number what
  mrc_told mrc from _ = mrc_nothing mrc

  mrc_handled : (mrc : MrcState) (happens : Event) → MrcSends (metadata.handled key mrc happens)
  mrc_handled mrc (event.Deliver msg) = mrc_told mrc msg.from msg.payload
  mrc_handled mrc event.Wake = one_sent _ tt
  mrc_handled mrc (event.Call k) = mrc_nothing mrc

  pub mrc_sends : (mrc : MrcState) (reading : ℕ) (happens : Event) (m : Msg) → Has m (step_of_mrc key mrc reading happens).turned.outs → IsOfServer m.payload
  unfolding step_of_mrc
  mrc_sends mrc reading happens = mrc_handled (record mrc { last = max reading mrc.last }) happens

-- the directory service only answers
abbrev IsListing : Payload → Type 0
IsListing (payload.RegistryReply number what) = Unit {0}
IsListing _ = ⊥

abbrev DirSends : DirStep → Type 0
DirSends step = (m : Msg) → Has m step.turned.outs → IsListing m.payload

one_listing : (client : NodeId) (number : ℕ) (what : RegistryAnswer) (m : Msg) → Has m (directory.reply_to client number what ∷ []) → IsListing m.payload
one_listing client number what m (inl e) = subst (λ (y : Msg). IsListing y.payload) (sym e) tt
one_listing client number what m (inr h) = absurd h

dir_nothing : (s : DirState) → DirSends (directory.nothing s)
dir_nothing s m h = absurd h

dir_fresh : (s : DirState) (client : NodeId) (number : ℕ) (asked : RegistryReq) → DirSends (directory.fresh s client number asked)
dir_fresh s client number asked = at (registry.is_spent s.rows asked) (registry.is_recorded asked)
  where
    at : (a b : Bool) → DirSends (cond a (directory.nothing s) (cond b (directory.recorded s client number asked) (directory.answered s client number (registry.outcome_of s.rows asked).answer)))
    at true b = dir_nothing s
    at false true = one_listing client number (registry.outcome_of s.rows asked).answer
    at false false = one_listing client number (registry.outcome_of s.rows asked).answer

dir_stands : (s : DirState) (client : NodeId) (number : ℕ) (asked : RegistryReq) (how : Standing RegistryAnswer) → DirSends (directory.by_standing s client number asked how)
dir_stands s client number asked standing.Fresh = dir_fresh s client number asked
dir_stands s client number asked (standing.Again what) = one_listing client number what
dir_stands s client number asked standing.Older = dir_nothing s

dir_told : (s : DirState) (from : NodeId) (content : Payload) → DirSends (directory.told_by s from content)
dir_told s from (payload.Registry number asked) = dir_stands s from number asked (standing_of s.clients from number)
dir_told s from _ = dir_nothing s

dir_lists : (s : DirState) (happens : Event) (m : Msg) → Has m (step_of_dir s happens).turned.outs → IsListing m.payload
unfolding step_of_dir
dir_lists s (event.Deliver msg) = dir_told s msg.from msg.payload
dir_lists s event.Wake = dir_nothing s
dir_lists s (event.Call k) = dir_nothing s

listing_sent : (content : Payload) → IsListing content → IsOfServer content
listing_sent (payload.RegistryReply number what) is = tt
listing_sent _ is = absurd is

pub dir_sends : (s : DirState) (happens : Event) (m : Msg) → Has m (step_of_dir s happens).turned.outs → IsOfServer m.payload
dir_sends s happens m h = listing_sent m.payload (dir_lists s happens m h)
