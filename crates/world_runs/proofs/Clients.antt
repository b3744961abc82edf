-- what a node has, asks and holds, once more files are known
use Rattle.std.proofs.Common.{ℕ, List, Option, Some, None, [], ◌∷◌}
use Rattle.xt_base.specs.TimeSettings.{TimeSettings}
use Rattle.xt_base.specs.declared.ids.NodeId.{NodeId}
use Rattle.xt_messages.specs.declared.record.Record.{Record}
use Rattle.xt_protocol.specs.Folds.{fold_of}
use Rattle.client_rows.specs.declared.RunningCall.{RunningCall}
use Rattle.client_rows.specs.declared.requests.MadeCall.{MadeCall}
use Rattle.client_rows.specs.declared.requests.Request.{Request}
use Rattle.client_rows.specs.declared.requests.Request.TheVariants as request
use Rattle.client_rows.specs.Holding.{Held}
use Rattle.client_rows.specs.Rows.{WholeClient}
use Rattle.client_steps.specs.Asked.{AllHeld, RunningIs, MadeIs, ClientIs}
use Rattle.world_spec.specs.declared.PlacedFile.{PlacedFile}
use Rattle.world_spec.specs.Lines.{whole_client}
use Rattle.world_spec.specs.World.{Node, Running, Core, osd, client, mrc, dir}
use Rattle.world_runs.proofs.Tables.{AllStay}
use Rattle.world_runs.proofs.Files.{known_more, want_more, fits_more, rows_more}
use Rattle.world_runs.specs.Worlds.{RequestFits, HeldFits, ClientFits, CoreFits, UpFits, NodeFits}

-- a client that starts asks and holds nothing
pub nothing_asked : (files : List PlacedFile) (clock : ℕ) → ClientFits files (whole_client clock)
nothing_asked files clock = record { calls = record { running = tt; made = tt }; held = tt }

-- what a client asks is of a wider kind too
pub client_more : (Is Wider : ℕ → Request → Type 0) (c : WholeClient) → ((number : ℕ) (asked : Request) → Is number asked → Wider number asked) → ClientIs Is c → ClientIs Wider c
client_more Is Wider c widens is = record { running = running_so c.replicas.running is.running; made = made_so c.made is.made }
  where
    running_so : (o : Option RunningCall) → RunningIs Is o → RunningIs Wider o
    running_so None is = tt
    running_so (Some call) is = widens call.number (request.Replicated call.capability call.op) is

    made_so : (o : Option MadeCall) → MadeIs Is o → MadeIs Wider o
    made_so None is = tt
    made_so (Some made) is = widens made.number made.request is

module _ (files more : List PlacedFile) (stay : AllStay files more) where
  pub request_more : (number : ℕ) (asked : Request) → RequestFits files number asked → RequestFits more number asked
  request_more number (request.Replicated capability asked) is = (known_more files more stay capability.file capability.location is.0, is.1)
  request_more number (request.Striped capability asked) is = (known_more files more stay capability.file capability.location is.0, is.1)
  request_more number (request.Meta user group wanted) is = want_more files more stay wanted is
  request_more number (request.Registry asked) is = tt

  pub held_more : (held : Held) → AllHeld (HeldFits files) held → AllHeld (HeldFits more) held
  held_more [] are = tt
  held_more (e ∷ es) are = ((are.0.0, known_more files more stay e.1.capability.file e.1.capability.location are.0.1), held_more es are.1)

  pub core_more : (times : TimeSettings) (node : NodeId) (kept : List Record) (r : Running) (core : Core) → CoreFits times files node kept r core → CoreFits times more node kept r core
  core_more times node kept r (osd s) fits =
      (record { started = fits.0.started; last = fits.0.last; fits = λ f h. fits_more files more stay f (fits.0.fits f h); rises = fits.0.rises }, fits.1, fits.2)
  core_more times node kept r (client c) fits =
      record { calls = client_more (RequestFits files) (RequestFits more) c request_more fits.calls; held = held_more c.held fits.held }
  core_more times node kept r (mrc m) fits = fits
  core_more times node kept r (dir s) fits = fits

  pub node_more : (times : TimeSettings) (node : Node) → NodeFits times files node → NodeFits times more node
  node_more times node fits =
      record { role_is = fits.role_is; rows = rows_more files more stay (fold_of node.kept).files fits.rows; up = at node.up fits.up }
    where
      at : (up : Option Running) → UpFits times files node.id node.kept up → UpFits times more node.id node.kept up
      at None fits = tt
      at (Some r) fits = core_more times node.id node.kept r r.core fits
