-- records of the kinds that are no longer written, and their bytes
use Rattle.std.specs.Prelude.{ℕ, List, [], ◌∷◌, ◌++◌, codes}
use Rattle.xt_messages.specs.declared.record.Record.{Record}
use Rattle.xt_messages.specs.declared.record.Record.TheVariants as kept
use Rattle.replica_records.specs.OldFields.{slot_bytes, slot_at, update_at, object_version_at, versions_at, head_at}
use Rattle.replica_records.specs.RecordFields.{old_update_at, old_stage_at, old_head_at, old_install_at, old_choice_at, old_arms}
use Rattle.spec_examples.specs.Records.{records}
use Rattle.spec_examples.specs.Hex.{hex}
use Rattle.spec_examples.specs.Values.{epoch, file, node, stamp}
use Rattle.spec_examples.specs.Worked.{second_list, small_list, write_of, head_after}

-- opens what reads and writes these too
unfoldable pub old_records : Unit {0}
unfolding
    records slot_bytes slot_at update_at object_version_at versions_at head_at old_update_at old_stage_at old_head_at old_install_at
    old_choice_at old_arms
old_records = tt

-- one of each kind
abbrev pub old_kinds : List (Record × List ℕ)
old_kinds = (
  kept.OldUpdate (file 1) (write_of 6),
  hex
      (codes "03 00000000000000000000000000000000 0000000000000001 0000000000000001 00000001 0000000000000001 0000000a"
      ++ codes "0000000000000006 0000000000000000 0000000000000001 ffffffff 00000000 00000001 61"),
)
    ∷ (
      kept.OldStage (file 1) 0 (stamp 1 1 1) (codes "a"),
      hex
          (codes "04 00000000000000000000000000000000 0000000000000001 00000000 0000000000000001 00000001 0000000000000001"
          ++ codes "00000001 61"),
    )
    ∷ (
      kept.OldHead (file 1) (head_after 6 (epoch 1 1)),
      hex
          (codes "05 00000000000000000000000000000000 0000000000000001 0000000000000001 00000001 0000000000000001 00000001"
          ++ codes "0000000000000001 0000000a 0000000000000006 0000000000000000 0000000000000001 00000001 00000000 0000000000000001"
          ++ codes "00000001 0000000000000001 00000001 0000000a 0000000000000006 0000000000000001"),
    )
    ∷ (
      kept.OldInstall (file 1) second_list (head_after 6 (epoch 2 901)),
      hex
          (codes "0a 00000000000000000000000000000000 0000000000000001 00000002 01 00020000 01 00000002 0000000000000002 00000385"
          ++ codes "0000000000000001 00000001 0000000000000001 0000000a 0000000000000006 0000000000000000 0000000000000001 00000001"
          ++ codes "00000000 0000000000000001 00000001 0000000000000001 00000001 0000000a 0000000000000006 0000000000000001"),
    )
    ∷ (
      kept.OldChoice (file 1) second_list (head_after 6 (epoch 2 901)) (node 1),
      hex
          (codes "0b 00000000000000000000000000000000 0000000000000001 00000002 01 00020000 01 00000002 0000000000000002 00000385"
          ++ codes "0000000000000001 00000001 0000000000000001 0000000a 0000000000000006 0000000000000000 0000000000000001 00000001"
          ++ codes "00000000 0000000000000001 00000001 0000000000000001 00000001 0000000a 0000000000000006 0000000000000001 00000001"),
    )
    ∷ (
      kept.OldUpdate (file 1) (write_of 1),
      hex
          (codes "03 00000000000000000000000000000000 0000000000000001 0000000000000001 00000001 0000000000000001 0000000a"
          ++ codes "0000000000000001 0000000000000000 0000000000000001 ffffffff 00000000 00000001 61"),
    )
    ∷ (
      kept.OldHead (file 1) (head_after 1 (epoch 1 1)),
      hex
          (codes "05 00000000000000000000000000000000 0000000000000001 0000000000000001 00000001 0000000000000001 00000001"
          ++ codes "0000000000000001 0000000a 0000000000000001 0000000000000000 0000000000000001 00000001 00000000"
          ++ codes "0000000000000001 00000001 0000000000000001 00000001 0000000a 0000000000000001 0000000000000001"),
    )
    ∷ (
      kept.OldInstall (file 1) small_list (head_after 1 (epoch 1 1)),
      hex
          (codes "0a 00000000000000000000000000000000 0000000000000001 00000002 01 00000400 01 00000002 0000000000000001"
          ++ codes "00000001 0000000000000001 00000001 0000000000000001 0000000a 0000000000000001 0000000000000000"
          ++ codes "0000000000000001 00000001 00000000 0000000000000001 00000001 0000000000000001 00000001 0000000a"
          ++ codes "0000000000000001 0000000000000001"),
    )
    ∷ (
      kept.OldChoice (file 1) small_list (head_after 1 (epoch 1 1)) (node 1),
      hex
          (codes "0b 00000000000000000000000000000000 0000000000000001 00000002 01 00000400 01 00000002 0000000000000001"
          ++ codes "00000001 0000000000000001 00000001 0000000000000001 0000000a 0000000000000001 0000000000000000"
          ++ codes "0000000000000001 00000001 00000000 0000000000000001 00000001 0000000000000001 00000001 0000000a"
          ++ codes "0000000000000001 0000000000000001 00000001"),
    )
    ∷ []

-- What they say in the kinds that are written.
abbrev pub new_kinds : List Record
new_kinds =
    kept.Update (file 1) (write_of 6) ∷ kept.Stage (file 1) 0 (stamp 1 1 1) (codes "a") ∷ kept.Head (file 1) (head_after 6 (epoch 1 1))
    ∷ kept.Install (file 1) second_list (head_after 6 (epoch 2 901)) ∷ kept.Choice (file 1) second_list (head_after 6 (epoch 2 901)) (node 1)
    ∷ kept.Update (file 1) (write_of 1) ∷ kept.Head (file 1) (head_after 1 (epoch 1 1))
    ∷ kept.Install (file 1) small_list (head_after 1 (epoch 1 1)) ∷ kept.Choice (file 1) small_list (head_after 1 (epoch 1 1)) (node 1)
    ∷ []
