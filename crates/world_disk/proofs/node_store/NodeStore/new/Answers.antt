use Rattle.std.proofs.Common.{◌≡◌, ℕ, List, [], None, subst}
use Rattle.std.proofs.lemmas.Result.{IfOk-weaker}
use Rattle.xt_messages.specs.declared.record.Record.{Record}
use Rattle.xt_journal.specs.Format.{StandsIn}
use Rattle.object_store.specs.Texts.{texts_of}
use Rattle.world_disk.specs.Ends.{IsReadAgain, IsStartedFrom}
use Rattle.world_disk.specs.Stored.{Stored, none_stored}
use Rattle.world_disk.proofs.StoredRecords.{has, none_in, none_left, none_stand, one_on, one_superblock, read_again}
use Rattle.world_disk.proofs.node_store.NodeStore.new.Goals as goal

none_on : (bytes : List ℕ) (node : Stored) → bytes ≡ [] → IsStartedFrom bytes node.disk node.records → node.records ≡ []
none_on bytes node none started = one_on bytes node.records [] started.stand (rw none none_stand)

pub restarted-requires : goal.restarted-requires
restarted-requires c = rw c.new.ensures (has [] [] none_stand)

pub returns-clause-none : goal.returns-clause-none
returns-clause-none c =
    IfOk-weaker _ _ _ (λ (node : Stored) (started : IsStartedFrom c.new.result node.disk node.records). none_on c.new.result node c.new.ensures started) c.restarted.ensures.started

pub returns-clause-superblock : goal.returns-clause-superblock
returns-clause-superblock c =
    IfOk-weaker _ _ _
    (λ (node : Stored) (stands : StandsIn node.superblock c.new.result (texts_of node.records)).
    one_superblock c.new.result node.superblock None (texts_of node.records) [] stands (rw c.new.ensures none_in))
    c.restarted.ensures.superblock

pub returns-clause-read : goal.returns-clause-read
returns-clause-read c =
    IfOk-weaker _ _ _
    (λ (node : Stored) (started : IsStartedFrom c.new.result node.disk node.records).
    subst (λ (records : List Record). IsReadAgain none_stored.disk node.disk records) (none_on c.new.result node c.new.ensures started)
    (read_again none_stored.disk c.new.result node (rw c.new.ensures none_left) started))
    c.restarted.ensures.started
