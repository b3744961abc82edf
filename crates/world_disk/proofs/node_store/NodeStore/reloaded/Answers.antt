use Rattle.std.proofs.lemmas.Result.{IfOk-weaker}
use Rattle.xt_journal.specs.Format.{StandsIn}
use Rattle.object_store.specs.Texts.{texts_of}
use Rattle.world_disk.specs.Ends.{IsStartedFrom}
use Rattle.world_disk.specs.Stored.{Stored}
use Rattle.world_disk.proofs.StoredRecords.{has, one_on, one_superblock, read_again}
use Rattle.world_disk.proofs.node_store.NodeStore.reloaded.Goals as goal

pub restarted-requires : goal.restarted-requires
restarted-requires c = has _ c.args.self.now.records c.in_ok-bytes.ensures.same

pub returns-clause-same : goal.returns-clause-same
returns-clause-same c =
    IfOk-weaker _ _ _
    (λ (node : Stored) (started : IsStartedFrom c.in_ok-bytes.field-0 node.disk node.records).
    one_on c.in_ok-bytes.field-0 node.records c.args.self.now.records started.stand c.in_ok-bytes.ensures.same) c.restarted.ensures.started

pub returns-clause-superblock : goal.returns-clause-superblock
returns-clause-superblock c =
    IfOk-weaker _ _ _
    (λ (node : Stored) (stands : StandsIn node.superblock c.in_ok-bytes.field-0 (texts_of node.records)).
    one_superblock c.in_ok-bytes.field-0 node.superblock c.args.self.now.superblock (texts_of node.records) (texts_of c.args.self.now.records) stands
    c.in_ok-bytes.ensures.superblock)
    c.restarted.ensures.superblock

pub returns-clause-read : goal.returns-clause-read
returns-clause-read c =
    IfOk-weaker _ _ _
    (λ (node : Stored) (started : IsStartedFrom c.in_ok-bytes.field-0 node.disk node.records).
    read_again c.args.self.now.disk c.in_ok-bytes.field-0 node c.in_ok-bytes.ensures.left started) c.restarted.ensures.started
