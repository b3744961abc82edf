-- records and their bytes, and bytes that are no record
use Rattle.std.specs.Prelude.{ℕ, List, [], ◌∷◌, ◌++◌, replicate, codes, Option, Some, None}
use Rattle.std.specs.List.{flat_map, range_with_len}
use Rattle.xt_base.specs.declared.TheConstants.{NO_OBJECT}
use Rattle.xt_messages.specs.declared.file.Kind.TheVariants as kind
use Rattle.xt_messages.specs.declared.meta.MetaReq.TheVariants as meta
use Rattle.xt_messages.specs.declared.registry.RegistryReq.TheVariants as registry
use Rattle.xt_messages.specs.declared.record.Logged.TheVariants as logged
use Rattle.xt_messages.specs.declared.record.Record.{Record}
use Rattle.xt_messages.specs.declared.record.Record.TheVariants as kept
use Rattle.xt_messages.specs.declared.record.Folded.{Folded}
use Rattle.xt_fields.specs.BasicFields.{list_at}
use Rattle.xt_wire.specs.IdFields.{boot_at, stamp_at, op_id_at, mark_at}
use Rattle.xt_wire.specs.FileFields.{kind_arms, kind_at, version_at, stripe_at, members_at, location_at, update_at, object_version_at, versions_at, session_at, sessions_at, head_at}
use Rattle.xt_wire.specs.MetaFields.{unlink_at, change_at, meta_req_arms, meta_req_at}
use Rattle.xt_wire.specs.RegistryFields.{get_row_at, registry_req_arms, registry_req_at}
use Rattle.xt_protocol.specs.Folds.{folded_after, nothing_kept, row_in, with_row, fold_of, body_kept}
use Rattle.replica_records.specs.RecordFields.{nodes_arms, nodes_at, meta_logged_at, registry_logged_at, logged_arms, logged_at, boot_record_at, promise_record_at, update_record_at, stage_record_at, head_record_at, view_record_at, meta_record_at, close_record_at, install_record_at, choice_record_at, listed_record_at, seal_record_at, forget_record_at, written_arms, record_arms, record_at, recorded}
use Rattle.spec_examples.specs.Fields.{fronts_of}
use Rattle.spec_examples.specs.Frames.{frames}
use Rattle.spec_examples.specs.Hex.{hex}
use Rattle.spec_examples.specs.Values.{epoch, file, node, stamp}
use Rattle.spec_examples.specs.Worked.{second_list, small_list, write_of, cut_off, head_after}

-- opens what reads, writes and folds records
unfoldable pub records : Unit {0}
unfolding
    frames list_at boot_at stamp_at op_id_at mark_at kind_arms kind_at version_at stripe_at members_at location_at update_at object_version_at
    versions_at session_at sessions_at head_at unlink_at change_at meta_req_arms meta_req_at get_row_at registry_req_arms registry_req_at
    row_in with_row fold_of body_kept nodes_arms nodes_at meta_logged_at registry_logged_at logged_arms logged_at boot_record_at
    promise_record_at update_record_at stage_record_at head_record_at view_record_at meta_record_at close_record_at install_record_at
    choice_record_at listed_record_at seal_record_at forget_record_at written_arms record_arms record_at recorded
records = tt

abbrev pub start : Record
start = kept.Boot (record { 0 = 1 })

abbrev pub promise : Record
promise = kept.Promise (file 3) (epoch 5 2)

-- the promise of a lower epoch
abbrev pub lower : Record
lower = kept.Promise (file 3) (epoch 4 2)

-- so many zeros
abbrev pub zeros : ℕ → List ℕ
zeros count = replicate count 0

-- one of each of these kinds, with file 3, and its bytes; the last kind without a node and with one
abbrev pub spellings : List (Record × List ℕ)
spellings =
    (start, 1 ∷ zeros 7 ++ 1 ∷ [])
    ∷ (promise, 2 ∷ zeros 23 ++ 3 ∷ zeros 7 ++ 5 ∷ zeros 3 ++ 2 ∷ [])
    -- count 1 in that epoch, of client 4's operation 9, size 2 in truncate epoch 6, nothing dropped, object 7 gets 2 bytes
    ∷ (
      kept.Update (file 3)
          (record {
            stamp = stamp 5 2 1;
            id = record { client = node 4; number = 9 };
            mark = record { epoch = 6; size = 2 };
            drop_from = NO_OBJECT;
            object = 7;
            body = codes "hi";
          }),
      13 ∷ zeros 23 ++ 3 ∷ zeros 7 ++ 5 ∷ zeros 3 ++ 2 ∷ zeros 7 ++ 1 ∷ zeros 3 ++ 4 ∷ zeros 7 ++ 9 ∷ zeros 7 ++ 6 ∷ zeros 7
          ++ 2 ∷ replicate 8 0xff ++ zeros 7 ++ 7 ∷ zeros 3 ++ 2 ∷ codes "hi",
    )
    ∷ (
      kept.Stage (file 3) 7 (stamp 5 2 1) (codes "h"),
      14 ∷ zeros 23 ++ 3 ∷ zeros 7 ++ 7 ∷ zeros 7 ++ 5 ∷ zeros 3 ++ 2 ∷ zeros 7 ++ 1 ∷ zeros 3 ++ 1 ∷ codes "h",
    )
    -- that epoch promised, no write, no version and no session
    ∷ (
      kept.Head (file 3)
          (record {
            promised = epoch 5 2;
            stamp = stamp 0 0 0;
            last = record { client = node 0; number = 0 };
            mark = record { epoch = 0; size = 0 };
            versions = [];
            sessions = [];
          }),
      15 ∷ zeros 23 ++ 3 ∷ zeros 7 ++ 5 ∷ zeros 3 ++ 2 ∷ zeros 56,
    )
    ∷ (
      kept.View (file 3) (record { version = 1; kind = kind.Replicated; stripe = 1024; members = node 2 ∷ [] }),
      6 ∷ zeros 23 ++ 3 ∷ zeros 3 ++ 1 ∷ 1 ∷ 0 ∷ 0 ∷ 4 ∷ 0 ∷ 1 ∷ zeros 3 ++ 2 ∷ [],
    )
    -- of node 4, number 9, at 8, to the registry: the row of node 2
    ∷ (
      kept.Meta (node 4) 9 8 None (logged.Registry (registry.Get (node 2))),
      7 ∷ zeros 3 ++ 4 ∷ zeros 7 ++ 9 ∷ zeros 7 ++ 8 ∷ 0 ∷ 0x16 ∷ 2 ∷ zeros 3 ++ 2 ∷ [],
    )
    -- to the metadata server for user 1 in group 3
    ∷ (
      kept.Meta (node 4) 9 8 (Some (node 2 ∷ [])) (logged.Meta 1 3 (meta.Unlink (codes "/a"))),
      7 ∷ zeros 3 ++ 4 ∷ zeros 7 ++ 9 ∷ zeros 7 ++ 8 ∷ 1 ∷ zeros 3 ++ 2 ∷ 0x14 ∷ zeros 3 ++ 1 ∷ zeros 3 ++ 3 ∷ 4 ∷ 0 ∷ 2 ∷ codes "/a",
    )
    ∷ []

-- the SHA-256 of the byte `a`
abbrev digest : List ℕ
digest = hex (codes "ca978112ca1bbdcafac231b39a23dc4da786eff8147c4e72b9807785afee48bb")

-- of the kinds 9 and 12 to 19 with file 1, and of a request to change a list
abbrev pub later_kinds : List (Record × List ℕ)
later_kinds = (
  kept.Close (file 1) 1,
  hex (codes "09 00000000000000000000000000000000 0000000000000001 00000001"),
)
    ∷ (
      kept.Listed (file 1) 2,
      hex (codes "0c 00000000000000000000000000000000 0000000000000001 00000002"),
    )
    ∷ (
      kept.Update (file 1) (write_of 6),
      hex
          (codes "0d 00000000000000000000000000000000 0000000000000001 0000000000000001 00000001 0000000000000001 0000000a"
          ++ codes "0000000000000006 0000000000000000 0000000000000001 ffffffffffffffff 0000000000000000 00000001 61"),
    )
    ∷ (
      kept.Update (file 1) cut_off,
      hex
          (codes "0d 00000000000000000000000000000000 0000000000000001 0000000000000001 00000001 0000000000000002 0000000a"
          ++ codes "0000000000000007 0000000000000001 0000000000000000 0000000000000000 ffffffffffffffff 00000000"),
    )
    ∷ (
      kept.Stage (file 1) 0 (stamp 1 1 1) (codes "a"),
      hex
          (codes "0e 00000000000000000000000000000000 0000000000000001 0000000000000000 0000000000000001 00000001 0000000000000001"
          ++ codes "00000001 61"),
    )
    ∷ (
      kept.Head (file 1) (head_after 6 (epoch 1 1)),
      hex
          (codes "0f 00000000000000000000000000000000 0000000000000001 0000000000000001 00000001 0000000000000001 00000001"
          ++ codes "0000000000000001 0000000a 0000000000000006 0000000000000000 0000000000000001 00000001 0000000000000000"
          ++ codes "0000000000000001 00000001 0000000000000001 00000001 0000000a 0000000000000006 0000000000000001"),
    )
    ∷ (
      kept.Install (file 1) second_list (head_after 6 (epoch 2 901)),
      hex
          (codes "10 00000000000000000000000000000000 0000000000000001 00000002 01 00020000 01 00000002 0000000000000002 00000385"
          ++ codes "0000000000000001 00000001 0000000000000001 0000000a 0000000000000006 0000000000000000 0000000000000001 00000001"
          ++ codes "0000000000000000 0000000000000001 00000001 0000000000000001 00000001 0000000a 0000000000000006 0000000000000001"),
    )
    ∷ (
      kept.Choice (file 1) second_list (head_after 6 (epoch 2 901)) (node 1),
      hex
          (codes "11 00000000000000000000000000000000 0000000000000001 00000002 01 00020000 01 00000002 0000000000000002 00000385"
          ++ codes "0000000000000001 00000001 0000000000000001 0000000a 0000000000000006 0000000000000000 0000000000000001 00000001"
          ++ codes "0000000000000000 0000000000000001 00000001 0000000000000001 00000001 0000000a 0000000000000006 0000000000000001"
          ++ codes "00000001"),
    )
    ∷ (
      kept.Seal (file 1) 0 (stamp 1 1 1) digest,
      hex
          (codes "12 00000000000000000000000000000000 0000000000000001 0000000000000000 0000000000000001 00000001 0000000000000001"
          ++ codes "ca978112ca1bbdcafac231b39a23dc4da786eff8147c4e72b9807785afee48bb"),
    )
    ∷ (
      kept.Forget (file 1),
      hex (codes "13 00000000000000000000000000000000 0000000000000001"),
    )
    -- a change of a list to OSD 2, and one to a node that is none
    ∷ (
      kept.Meta (node 10) 7 1100 (Some (node 2 ∷ [])) (logged.Meta 1 1 (meta.Change (codes "/v/a") (node 2 ∷ []))),
      hex (codes "07 0000000a 0000000000000007 000000000000044c 01 00000002 14 00000001 00000001 0b 0004 2f762f61 01 00000002"),
    )
    ∷ (
      kept.Meta (node 10) 7 1100 None (logged.Meta 1 1 (meta.Change (codes "/v/a") (node 9 ∷ []))),
      hex (codes "07 0000000a 0000000000000007 000000000000044c 00 14 00000001 00000001 0b 0004 2f762f61 01 00000009"),
    )
    -- with other numbers
    ∷ (
      kept.Update (file 1) (write_of 1),
      hex
          (codes "0d 00000000000000000000000000000000 0000000000000001 0000000000000001 00000001 0000000000000001 0000000a"
          ++ codes "0000000000000001 0000000000000000 0000000000000001 ffffffffffffffff 0000000000000000 00000001 61"),
    )
    ∷ (
      kept.Head (file 1) (head_after 1 (epoch 1 1)),
      hex
          (codes "0f 00000000000000000000000000000000 0000000000000001 0000000000000001 00000001 0000000000000001 00000001"
          ++ codes "0000000000000001 0000000a 0000000000000001 0000000000000000 0000000000000001 00000001 0000000000000000"
          ++ codes "0000000000000001 00000001 0000000000000001 00000001 0000000a 0000000000000001 0000000000000001"),
    )
    ∷ (
      kept.Install (file 1) small_list (head_after 1 (epoch 1 1)),
      hex
          (codes "10 00000000000000000000000000000000 0000000000000001 00000002 01 00000400 01 00000002 0000000000000001"
          ++ codes "00000001 0000000000000001 00000001 0000000000000001 0000000a 0000000000000001 0000000000000000"
          ++ codes "0000000000000001 00000001 0000000000000000 0000000000000001 00000001 0000000000000001 00000001 0000000a"
          ++ codes "0000000000000001 0000000000000001"),
    )
    ∷ (
      kept.Choice (file 1) small_list (head_after 1 (epoch 1 1)) (node 1),
      hex
          (codes "11 00000000000000000000000000000000 0000000000000001 00000002 01 00000400 01 00000002 0000000000000001"
          ++ codes "00000001 0000000000000001 00000001 0000000000000001 0000000a 0000000000000001 0000000000000000"
          ++ codes "0000000000000001 00000001 0000000000000000 0000000000000001 00000001 0000000000000001 00000001 0000000a"
          ++ codes "0000000000000001 0000000000000001 00000001"),
    )
    ∷ (
      kept.Seal (file 1) 0 (stamp 1 1 1) (range_with_len 0 32),
      hex
          (codes "12 00000000000000000000000000000000 0000000000000001 0000000000000000 0000000000000001 00000001"
          ++ codes "0000000000000001 000102030405060708090a0b0c0d0e0f101112131415161718191a1b1c1d1e1f"),
    )
    ∷ []

abbrev pub fronts : List (List ℕ)
fronts = flat_map (λ row. fronts_of row.1) spellings

-- nothing; no kind; the kind of a journal's superblock; a kind too many; a byte too many; a boot of 2^62; a request of another kind
abbrev pub others : List (List ℕ)
others =
    [] ∷ (0 ∷ zeros 7 ++ 1 ∷ []) ∷ (8 ∷ zeros 7 ++ 1 ∷ []) ∷ (20 ∷ zeros 7 ++ 1 ∷ []) ∷ (1 ∷ zeros 7 ++ 1 ∷ 0 ∷ []) ∷ (1 ∷ 0x40 ∷ zeros 7)
    ∷ (7 ∷ zeros 3 ++ 4 ∷ zeros 7 ++ 9 ∷ zeros 7 ++ 8 ∷ 0 ∷ 0x15 ∷ 2 ∷ zeros 3 ++ 2 ∷ [])
    ∷ []

-- what is known once the epoch 5 is promised
abbrev pub promised : Folded
promised = folded_after nothing_kept promise

-- a body of one byte as object 4 of file 1, in the version of this count
abbrev pub put : ℕ → ℕ → Record
put count byte = kept.Stage (file 1) 4 (stamp 0 0 count) (byte ∷ [])

-- bodies that are put, and what is found of an object and a count then
abbrev pub puts : List Record
puts = put 1 10 ∷ put 1 11 ∷ put 2 12 ∷ []

abbrev pub found : List (ℕ × ℕ × Option (List ℕ))
found = (4, 1, Some (11 ∷ [])) ∷ (4, 2, Some (12 ∷ [])) ∷ (5, 1, None) ∷ (4, 3, None) ∷ []
