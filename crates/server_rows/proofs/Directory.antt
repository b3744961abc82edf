-- each step's record says what changes
use Rattle.std.proofs.Common.{◌≡◌, ◌∙◌, ℕ, List, ◌++◌, refl, sym, ap, Bool, true, false, cond}
use Rattle.std.specs.Prelude.{fold}
use Rattle.std.specs.Option.{option_to_list}
use Rattle.std.proofs.lemmas.List.Sums.{fold-append}
use Rattle.xt_base.specs.declared.ids.NodeId.{NodeId}
use Rattle.xt_messages.specs.declared.registry.RegistryReq.{RegistryReq}
use Rattle.xt_messages.specs.declared.message.Payload.{Payload}
use Rattle.xt_messages.specs.declared.message.Payload.TheVariants as payload
use Rattle.xt_messages.specs.declared.event.Event.{Event}
use Rattle.xt_messages.specs.declared.event.Event.TheVariants as event
use Rattle.xt_messages.specs.declared.record.Record.{Record}
use Rattle.xt_messages.specs.declared.registry.RegistryAnswer.{RegistryAnswer}
use Rattle.reply_cache.specs.declared.Standing.{Standing}
use Rattle.reply_cache.specs.declared.Standing.TheVariants as standing
use Rattle.reply_cache.specs.Standings.{standing_of}
use Rattle.registry_table.specs.Registry.{outcome_of, is_recorded, is_spent}
use Rattle.server_rows.specs.Directory.{DirState, DirStep, dir_of, after_record, after_request, nothing, answered, recorded, fresh, by_standing, told_by, step_of_dir}

-- the state after a step is the one before it with what the record says
abbrev pub IsTold : DirState → DirStep → Type 0
IsTold dir step = step.dir ≡ fold after_record dir (option_to_list step.turned.rec)

fresh_told : (dir : DirState) (client : NodeId) (number : ℕ) (request : RegistryReq) → IsTold dir (fresh dir client number request)
fresh_told dir client number request = go (is_spent dir.rows request) (is_recorded request) refl refl where
  go : (spent may_change : Bool) → is_spent dir.rows request ≡ spent → is_recorded request ≡ may_change → IsTold dir (cond spent (nothing dir) (cond may_change (recorded dir client number request) (answered dir client number (outcome_of dir.rows request).answer)))
  go true may_change is records = refl
  go false true is records =
      sym (ap (λ (b : Bool). cond b dir (cond (is_recorded request) (after_request dir client number request) dir)) is ∙ ap (λ (b : Bool). cond b (after_request dir client number request) dir) records)
  go false false is records = refl

standing_told : (dir : DirState) (client : NodeId) (number : ℕ) (request : RegistryReq) (stands : Standing RegistryAnswer) → IsTold dir (by_standing dir client number request stands)
standing_told dir client number request standing.Fresh = fresh_told dir client number request
standing_told dir client number request (standing.Again answer) = refl
standing_told dir client number request standing.Older = refl

payload_told : (dir : DirState) (from : NodeId) (content : Payload) → IsTold dir (told_by dir from content)
payload_told dir from (payload.Registry number request) = standing_told dir from number request (standing_of dir.clients from number)
payload_told dir from _ = refl

pub step_told : (dir : DirState) (happens : Event) → IsTold dir (step_of_dir dir happens)
unfolding step_of_dir
step_told dir (event.Deliver msg) = payload_told dir msg.from msg.payload
step_told dir event.Wake = refl
step_told dir (event.Call call) = refl

pub told : (records : List Record) (happens : Event) → dir_of (records ++ option_to_list (step_of_dir (dir_of records) happens).turned.rec) ≡ (step_of_dir (dir_of records) happens).dir
told records happens = fold-append after_record _ records (option_to_list (step_of_dir (dir_of records) happens).turned.rec) ∙ sym (step_told (dir_of records) happens)
