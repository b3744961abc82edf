-- nothing comes of an answer of the DIR or of the MRC to itself
use Rattle.std.proofs.Common.{ℕ, ◌≤◌, Bool, true, false, List, [], ◌∷◌, length, max, refl, arith, None}
use Rattle.std.specs.Prelude.{cond, ◌==◌}
use Rattle.std.specs.List.{AllByRecursion}
use Rattle.xt_base.specs.declared.ids.NodeId.{NodeId}
use Rattle.xt_messages.specs.declared.event.Event.{Event}
use Rattle.xt_messages.specs.declared.event.Event.TheVariants as event
use Rattle.xt_messages.specs.declared.meta.MetaReq.{MetaReq}
use Rattle.xt_messages.specs.declared.meta.MetaAnswer.{MetaAnswer}
use Rattle.xt_messages.specs.declared.registry.RegistryReq.{RegistryReq}
use Rattle.xt_messages.specs.declared.registry.RegistryRow.{RegistryRow}
use Rattle.xt_messages.specs.declared.registry.RegistryAnswer.{RegistryAnswer}
use Rattle.xt_messages.specs.declared.registry.RegistryAnswer.TheVariants as told
use Rattle.xt_messages.specs.declared.message.Msg.{Msg}
use Rattle.xt_messages.specs.declared.message.Payload.{Payload}
use Rattle.xt_messages.specs.declared.message.Payload.TheVariants as payload
use Rattle.reply_cache.specs.declared.Standing.{Standing}
use Rattle.reply_cache.specs.declared.Standing.TheVariants as standing
use Rattle.reply_cache.specs.Standings.{standing_of}
use Rattle.registry_table.specs.Registry.{outcome_of, is_recorded, is_spent}
use Rattle.volume_rows.specs.declared.Asker.{Asker}
use Rattle.server_rows.specs.Requests as meta
use Rattle.server_rows.specs.Directory.{DirState, DirStep, step_of_dir, told_by, by_standing, fresh, nothing, answered, recorded, reply_to}
use Rattle.server_rows.specs.Metadata.{MrcState, MrcStep, step_of_mrc}
use Rattle.server_rows.specs.Metadata as mrc
use Rattle.server_rows.proofs.Taking.{taken_or_not}
use Rattle.world_spec.specs.NodeSteps.{to_itself}
use Rattle.servers_end.specs.Servers.{dir_node, mrc_node, EndsAtDir, EndsAtMrc}

-- at most one of these, and each ends
abbrev Few : (Msg → Type 0) → NodeId → List Msg → Type 0
Few P node outs = (length (to_itself node outs) ≤ 1) × AllByRecursion P (to_itself node outs)

few_none : (P : Msg → Type 0) (node : NodeId) → Few P node []
few_none P node = (omega arith, tt)

few_one : (P : Msg → Type 0) (node : NodeId) (m : Msg) → P m → Few P node (m ∷ [])
few_one P node m is = at (m.to.0 == node.0)
  where
    at : (b : Bool) → (length (cond b (m ∷ []) []) ≤ 1) × AllByRecursion P (cond b (m ∷ []) [])
    at true = (omega arith, (is, tt))
    at false = (omega arith, tt)

-- ---- the DIR

abbrev DirFew : DirStep → Type 0
DirFew step = Few EndsAtDir dir_node step.turned.outs

dir_answer : (client : NodeId) (number : ℕ) (answer : RegistryAnswer) → EndsAtDir (reply_to client number answer)
unfolding step_of_dir
dir_answer client number answer dir = refl

dir_fresh : (dir : DirState) (client : NodeId) (number : ℕ) (request : RegistryReq) → DirFew (fresh dir client number request)
dir_fresh dir client number request = at (is_spent dir.rows request) (is_recorded request)
  where
    answer : RegistryAnswer
    answer = (outcome_of dir.rows request).answer

    one : Few EndsAtDir dir_node (reply_to client number answer ∷ [])
    one = few_one EndsAtDir dir_node (reply_to client number answer) (dir_answer client number answer)

    at : (spent kept : Bool) → DirFew (cond spent (nothing dir) (cond kept (recorded dir client number request) (answered dir client number (outcome_of dir.rows request).answer)))
    at true kept = few_none EndsAtDir dir_node
    at false true = one
    at false false = one

dir_stands : (dir : DirState) (client : NodeId) (number : ℕ) (request : RegistryReq) (s : Standing RegistryAnswer) → DirFew (by_standing dir client number request s)
dir_stands dir client number request standing.Fresh = dir_fresh dir client number request
dir_stands dir client number request (standing.Again answer) = few_one EndsAtDir dir_node (reply_to client number answer) (dir_answer client number answer)
dir_stands dir client number request standing.Older = few_none EndsAtDir dir_node

dir_told : (dir : DirState) (from : NodeId) (content : Payload) → DirFew (told_by dir from content)
dir_told dir from (payload.Registry number request) = dir_stands dir from number request (standing_of dir.clients from number)
dir_told dir from _ = few_none EndsAtDir dir_node

pub dir_ends : (dir : DirState) (happens : Event) → DirFew (step_of_dir dir happens)
unfolding step_of_dir
dir_ends dir (event.Deliver msg) = dir_told dir msg.from msg.payload
dir_ends dir event.Wake = few_none EndsAtDir dir_node
dir_ends dir (event.Call call) = few_none EndsAtDir dir_node

-- ---- the MRC

module _ (key : List ℕ) where
  abbrev MrcFew : MrcStep → Type 0
  MrcFew step = Few (EndsAtMrc key) mrc_node step.turned.outs

  mrc_answer : (client : NodeId) (number : ℕ) (answer : MetaAnswer) → EndsAtMrc key (mrc.reply_to client number answer)
  unfolding step_of_mrc
  mrc_answer client number answer m reading = refl

  mrc_fresh : (m : MrcState) (client : NodeId) (number : ℕ) (who : Asker) (request : MetaReq) → MrcFew (mrc.fresh key m client number who request)
  mrc_fresh m client number who request = at (meta.is_spent m.catalogue.volumes who request) (meta.is_recorded key m.catalogue.volumes m.last request)
    where
      one : (answer : MetaAnswer) → Few (EndsAtMrc key) mrc_node (mrc.reply_to client number answer ∷ [])
      one answer = few_one (EndsAtMrc key) mrc_node (mrc.reply_to client number answer) (mrc_answer client number answer)

      at : (spent kept : Bool) → MrcFew (cond spent (mrc.nothing m) (cond kept (mrc.recorded key m client number who request) (mrc.answered m client number (meta.outcome_of key m.catalogue.volumes who m.last None request).answer)))
      at true kept = few_none (EndsAtMrc key) mrc_node
      at false true = one (meta.outcome_of key m.catalogue.volumes who m.last (meta.nodes_for m.osds m.catalogue.volumes.next request) request).answer
      at false false = one (meta.outcome_of key m.catalogue.volumes who m.last None request).answer

  mrc_stands : (m : MrcState) (client : NodeId) (number : ℕ) (who : Asker) (request : MetaReq) (s : Standing MetaAnswer) → MrcFew (mrc.by_standing key m client number who request s)
  mrc_stands m client number who request standing.Fresh = mrc_fresh m client number who request
  mrc_stands m client number who request (standing.Again answer) = few_one (EndsAtMrc key) mrc_node (mrc.reply_to client number answer) (mrc_answer client number answer)
  mrc_stands m client number who request standing.Older = few_none (EndsAtMrc key) mrc_node

  mrc_asked : (m : MrcState) (client : NodeId) (number : ℕ) (who : Asker) (request : MetaReq) → MrcFew (mrc.requested key m client number who request)
  mrc_asked m client number who request =
      taken_or_not MrcFew key m client number who request (mrc_stands m client number who request (standing_of m.catalogue.clients client number))
      (few_none (EndsAtMrc key) mrc_node)

  mrc_rows : (m : MrcState) (from : NodeId) (rows : List RegistryRow) → MrcFew (mrc.rows_heard m from rows)
  mrc_rows m from rows = at (mrc.is_dir from)
    where
      at : (b : Bool) → MrcFew (cond b (mrc.nothing (record m { osds = mrc.nodes_of rows })) (mrc.nothing m))
      at true = few_none (EndsAtMrc key) mrc_node
      at false = few_none (EndsAtMrc key) mrc_node

  mrc_told : (m : MrcState) (from : NodeId) (content : Payload) → MrcFew (mrc.told_by key m from content)
  mrc_told m from (payload.Meta number user group request) = mrc_asked m from number (record { user = user; group = group }) request
  mrc_told m from (payload.RegistryReply number (told.Rows rows)) = mrc_rows m from rows
  mrc_told m from (payload.RegistryReply number (told.Done version)) = few_none (EndsAtMrc key) mrc_node
  mrc_told m from (payload.RegistryReply number (told.Changed version)) = few_none (EndsAtMrc key) mrc_node
  mrc_told m from (payload.RegistryReply number told.Absent) = few_none (EndsAtMrc key) mrc_node
  mrc_told m from (payload.RegistryReply number (told.Row row)) = few_none (EndsAtMrc key) mrc_node
  mrc_told m from _ = few_none (EndsAtMrc key) mrc_node

pub mrc_ends : (key : List ℕ) (m : MrcState) (reading : ℕ) (happens : Event) → MrcFew key (step_of_mrc key m reading happens)
unfolding step_of_mrc
mrc_ends key m reading (event.Deliver msg) = mrc_told key (record m { last = max reading m.last }) msg.from msg.payload
mrc_ends key m reading event.Wake = (omega arith, tt)
mrc_ends key m reading (event.Call call) = few_none (EndsAtMrc key) mrc_node
