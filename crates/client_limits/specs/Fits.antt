-- the limits of what a client holds and asks
use Rattle.std.specs.Prelude.{◌≡◌, ◌<◌, ◌^◌, None}
use Rattle.std.specs.Option.{IfSome}
use Rattle.std.specs.List.{AllByRecursion}
use Rattle.xt_base.specs.FieldLimits.{IsCount}
use Rattle.xt_messages.specs.declared.file.Op.TheVariants as op
use Rattle.xt_messages.specs.declared.event.Call.{Call}
use Rattle.xt_messages.specs.declared.event.Call.TheVariants as call
use Rattle.xt_messages.specs.Limits.{FitsCapability, FitsMark, FitsOp, FitsMetaReq, FitsRegistryReq, FitsMessage}
use Rattle.client_rows.specs.declared.RunningCall.{RunningCall}
use Rattle.client_rows.specs.declared.ClientState.{ClientState}
use Rattle.client_rows.specs.declared.KnownFile.{KnownFile}
use Rattle.client_rows.specs.Steps.{Step}
use Rattle.client_rows.specs.declared.holding.HeldFile.{HeldFile}
use Rattle.client_rows.specs.declared.requests.Request.{Request}
use Rattle.client_rows.specs.declared.requests.Request.TheVariants as request
use Rattle.client_rows.specs.declared.requests.MadeCall.{MadeCall}
use Rattle.client_rows.specs.Rows.{WholeClient}

-- what a call asks is within the limits of its message
abbrev pub FitsCall : Call → Type 0
FitsCall (call.Read file object at len) = FitsOp (op.Read object at len)
FitsCall (call.Write file object at bytes) = FitsOp (op.Write object at bytes)
FitsCall (call.Truncate file size epoch) = FitsOp (op.Truncate size)
FitsCall (call.Meta user group asked) = (user < 2 ^ 32) × (group < 2 ^ 32) × FitsMetaReq asked
FitsCall (call.Report user group file) = (user < 2 ^ 32) × (group < 2 ^ 32)
FitsCall (call.Registry asked) = FitsRegistryReq asked

abbrev pub FitsRequest : Request → Type 0
FitsRequest (request.Replicated capability asked) = FitsCapability capability × FitsOp asked
FitsRequest (request.Striped capability asked) = FitsCapability capability × FitsOp asked
FitsRequest (request.Meta user group asked) = (user < 2 ^ 32) × (group < 2 ^ 32) × FitsMetaReq asked
FitsRequest (request.Registry asked) = FitsRegistryReq asked

-- what is held of a file
pub record FitsHeldFile (file : HeldFile) : Type 0 where
  pub right : FitsCapability file.capability
  pub size : FitsMark file.mark

-- the call that was made last
pub record FitsMade (made : MadeCall) : Type 0 where
  pub place : IsCount made.number
  pub asks : FitsRequest made.request

-- a call on a replicated file that runs
pub record FitsRunning (running : RunningCall) : Type 0 where
  pub place : IsCount running.number
  pub right : FitsCapability running.capability
  pub asks : FitsOp running.op

-- what is known of a replicated file
abbrev pub FitsKnown : KnownFile → Type 0
FitsKnown known = IsCount known.epoch

-- its calls on replicated files
pub record FitsReplicas (replicas : ClientState) : Type 0 where
  pub call : IfSome replicas.running FitsRunning
  pub known : AllByRecursion (λ e. FitsKnown e.1) replicas.files

-- a client
pub record FitsClient (client : WholeClient) : Type 0 where
  pub calls : FitsReplicas client.replicas
  pub holds : AllByRecursion (λ e. FitsHeldFile e.1) client.held
  pub last : IfSome client.made FitsMade

-- what it sends in a step is within the limits of messages, and so is what it holds and asks then; it keeps no record
pub record FitsStep (step : Step WholeClient) : Type 0 where
  pub client : FitsClient step.state
  pub messages : AllByRecursion FitsMessage step.turned.outs
  pub keeps_none : step.turned.rec ≡ None
