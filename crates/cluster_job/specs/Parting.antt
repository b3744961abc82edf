-- how the nodes of a cluster are ordered to end
use Rattle.std.specs.Prelude.{ℕ, ◌≡◌, List, [], ◌∷◌, ◌++◌, map}
use Rattle.xt_base.specs.declared.ids.NodeId.{NodeId}
use Rattle.xt_messages.specs.declared.message.Msg.{Msg}
use Rattle.xt_messages.specs.declared.message.Payload.TheVariants as payload
use Rattle.node_runs.specs.Links.{Sends}
use Rattle.node_runs.specs.Posting.{HasPosted}
use Rattle.client_loop.specs.Listening.{DriverView}
use Rattle.client_loop.specs.Carrying.{Around, mails}
use Rattle.client_loop.specs.Mailing.{FrontMailed}
use Rattle.capabilities.specs.Stops.{stop_word}
use Rattle.capabilities.specs.Tags.{hmac_of}
use Rattle.command_words.specs.declared.job.ClusterJob.{ClusterJob}
use Rattle.cluster_words.specs.declared.children.ClusterNode.{ClusterNode}
use Rattle.cluster_words.specs.declared.children.ClusterNode.TheVariants as node
use Rattle.cluster_words.specs.Children.{number_of}
use Rattle.cluster_children.specs.Calls.{osds_to}

-- the OSDs from number 1 on, then the MRC, and then the DIR
abbrev pub parting_from : ℕ → List ClusterNode
parting_from osds = osds_to osds ++ node.Mrc ∷ node.Dir ∷ []

abbrev pub stop_from : NodeId → List ℕ → ClusterNode → Msg
stop_from client tag n = record { from = client; to = record { 0 = number_of n }; list = 1; payload = payload.Stop tag }

-- a Stop, with the tag that ends nodes under the cluster's key
abbrev pub stop_to : ClusterJob → ClusterNode → Msg
stop_to job n = stop_from job.who.id (hmac_of job.key stop_word) n

abbrev pub farewells : ClusterJob → List Msg
farewells job = map (stop_to job) (parting_from job.osds)

-- of what is around, only the link was sent to
abbrev pub OnlySends : Around → Around → Type 0
OnlySends before after = after ≡ record before { sent = after.sent; losses = after.losses }

-- A Stop went to each node, once, in this order, where the node has an address.
pub record HasParted (job : ClusterJob) (before after : Around) (d new : DriverView) : Type 0 where
  pub posted : HasPosted (mails d (farewells job)) new.sender.count (Sends before.sent after.sent before.losses after.losses)
  pub only : OnlySends before after
  pub same : new ≡ record d { sender = record d.sender { count = new.sender.count } }

-- Memory ran out, and a front of them went.
pub record CannotPart (job : ClusterJob) (before after : Around) (d : DriverView) : Type 0 where
  pub front : FrontMailed d.sender.node d.sender.boot d.listener.ears.book d.sender.count (farewells job)
      (Sends before.sent after.sent before.losses after.losses)
  pub only : OnlySends before after
