-- a request that the server takes, or doesn't
use Rattle.std.proofs.Common.{ℕ, List, Bool, true, false, cond}
use Rattle.xt_base.specs.declared.ids.NodeId.{NodeId}
use Rattle.xt_messages.specs.declared.meta.MetaReq.{MetaReq}
use Rattle.reply_cache.specs.Standings.{standing_of}
use Rattle.volume_rows.specs.declared.Asker.{Asker}
use Rattle.server_rows.specs.Requests.{is_taken}
use Rattle.server_rows.specs.Metadata.{MrcState, MrcStep, nothing, by_standing, requested}

-- what holds of its step, by how its number stands, and of nothing, holds of what comes of it
pub taken_or_not : (P : MrcStep → Type 0) (key : List ℕ) (mrc : MrcState) (client : NodeId) (number : ℕ) (who : Asker) (request : MetaReq)
    → P (by_standing key mrc client number who request (standing_of mrc.catalogue.clients client number)) → P (nothing mrc)
    → P (requested key mrc client number who request)
taken_or_not P key mrc client number who request taken rests = go (is_taken request) where
  go : (b : Bool) → P (cond b (by_standing key mrc client number who request (standing_of mrc.catalogue.clients client number)) (nothing mrc))
  go true = taken
  go false = rests
