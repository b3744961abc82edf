-- what words ask for, and what is done
use Rattle.std.proofs.Common.{◌≡◌, ◌≤◌, lit≤, ℕ, Option, Some, None, subst}
use Rattle.asked_jobs.specs.Asking.{IsWithin, IsClientWithin, IsClusterWithin, EndsInFile}
use Rattle.client_plans.specs.Plans.{end_of}
use Rattle.command_words.specs.declared.job.ClientJob.{ClientJob}
use Rattle.command_words.specs.declared.job.ClusterJob.{ClusterJob}
use Rattle.command_words.specs.declared.job.Order.{Order}
use Rattle.command_words.specs.declared.job.Order.TheVariants as order
use Rattle.command_words.specs.declared.job.Job.{Job}
use Rattle.command_words.specs.declared.job.Job.TheVariants as job
use Rattle.xt_messages.specs.declared.status.Status.{Status}
use Rattle.store_loading.specs.Loading.{Medium}
use Rattle.xtfs_run.specs.Around.{Environment}
use Rattle.xtfs_run.specs.Doing.{Does}

pub as_asked : {D : Type 0} {m : Medium D} {before after : Environment D} {said : Status} (given asked : Option Job) → given ≡ asked
    → Does m given before after said → Does m asked before after said
as_asked {D} {m} {before} {after} {said} given asked same does = subst (λ (o : Option Job). Does m o before after said) same does

-- a size that words ask for is within its range
pub size_within : (asked : Job) (number size : ℕ) → asked ≡ job.Make number size → IsWithin asked → size ≤ 4096
size_within asked number size is within = subst IsWithin is within

-- a cluster that words ask for is within its ranges
pub cluster_within : (asked : Job) (cluster : ClusterJob) → asked ≡ job.Cluster cluster → IsWithin asked → IsClusterWithin cluster
cluster_within asked cluster is within = subst IsWithin is within

-- a client command that words ask for is within its ranges
pub client_within : (asked : Job) (client : ClientJob) → asked ≡ job.Client client → IsWithin asked → IsClientWithin client
client_within asked client is within = subst IsWithin is within

pub ends_in_file : (o : Order) → EndsInFile o → end_of o ≤ 281474976710656
ends_in_file (order.Get path None hex) ends = lit≤ tt
ends_in_file (order.Get path (Some range) hex) ends = ends
ends_in_file _ ends = lit≤ tt
