-- records that are rewritten, worked out without the definitions
use Rattle.std.specs.Prelude.{ℕ, ◌≡◌, None, List, [], ◌∷◌, replicate}
use Rattle.xt_base.specs.declared.ids.FileId.{FileId}
use Rattle.xt_base.specs.declared.ids.Epoch.{Epoch}
use Rattle.xt_base.specs.declared.ids.Stamp.{Stamp}
use Rattle.xt_messages.specs.declared.file.FileHead.{FileHead}
use Rattle.xt_messages.specs.declared.file.Kind.TheVariants as kind
use Rattle.xt_messages.specs.declared.file.Location.{Location}
use Rattle.xt_messages.specs.declared.file.ObjectVersion.{ObjectVersion}
use Rattle.xt_messages.specs.declared.record.KeepBody.{KeepBody}
use Rattle.xt_messages.specs.declared.record.Logged.TheVariants as logged
use Rattle.xt_messages.specs.declared.record.Record.{Record}
use Rattle.xt_messages.specs.declared.record.Record.TheVariants as kept
use Rattle.xt_messages.specs.declared.registry.RegistryReq.TheVariants as wish
use Rattle.xt_protocol.specs.Forgetting.{rewritten}

abbrev pub file : ℕ → FileId
file number = record { volume = replicate 16 1; number = number }

abbrev pub epoch : ℕ → Epoch
epoch number = record { number = number; node = record { 0 = 1 } }

-- so many writes in the first tenure of node 1
abbrev pub stamp : ℕ → Stamp
stamp count = record { epoch = epoch 1; count = count }

abbrev pub boot : ℕ → Record
boot number = kept.Boot (record { 0 = number })

-- a request for the row of node 2
abbrev pub request : Record
request = kept.Meta (record { 0 = 10 }) 1 1000 None (logged.Registry (wish.Get (record { 0 = 2 })))

-- object 0 of a file in its version of so many writes
abbrev pub stage : ℕ → ℕ → List ℕ → Record
stage number count bytes = kept.Stage (file number) 0 (stamp count) bytes

abbrev pub head_of : ℕ → List ObjectVersion → FileHead
head_of count versions =
    record {
      promised = epoch 2;
      stamp = stamp count;
      last = record { client = record { 0 = 10 }; number = 1 };
      mark = record { epoch = 0; size = 3 };
      versions = versions;
      sessions = [];
    }

-- 32 times the same byte for a digest of object 0 of the first file in its version of this many writes
abbrev pub seal : ℕ → ℕ → Record
seal count byte = kept.Seal (file 1) 0 (stamp count) (replicate 32 byte)

-- the head of the first file names the second version of object 0, and that of the second file none
abbrev pub first_head : FileHead
first_head = head_of 2 (record { object = 0; version = stamp 2 } ∷ [])

abbrev pub second_head : FileHead
second_head = head_of 1 []

-- on one node, in stripes of 1,024 bytes
abbrev pub location : Location
location = record { version = 1; kind = kind.Replicated; stripe = 1024; members = record { 0 = 1 } ∷ [] }

-- The first file is removed, and begins anew. Then two versions of an object of it, the second of them put twice, with a digest of the
-- first, and one before it was removed and two later ones of the second; one of the second file, by a record of an old kind; a request
-- among them, a list that is closed, and a second start.
abbrev pub old : List Record
old =
    boot 1
    ∷ seal 2 3
    ∷ kept.Forget (file 1)
    ∷ kept.View (file 1) location
    ∷ kept.OldStage (file 2) 0 (stamp 1) (7 ∷ [])
    ∷ stage 1 1 (97 ∷ [])
    ∷ kept.Close (file 1) 1
    ∷ request
    ∷ stage 1 2 (98 ∷ [])
    ∷ seal 1 4
    ∷ seal 2 5
    ∷ kept.Head (file 2) second_head
    ∷ stage 1 2 (98 ∷ 99 ∷ [])
    ∷ seal 2 6
    ∷ kept.Head (file 1) first_head
    ∷ boot 2
    ∷ []

-- the version that the first file's head names
abbrev pub keep : List KeepBody
keep = record { file = file 1; object = 0; version = stamp 2 } ∷ []

-- The last start, the request, then each file: of the first its list, which one is closed, the one body with the bytes that were put
-- last, the two digests of it since the file was removed, and its head; of the second its head alone.
abbrev pub made : List Record
made =
    boot 2
    ∷ request
    ∷ kept.View (file 1) location
    ∷ kept.Close (file 1) 1
    ∷ stage 1 2 (98 ∷ 99 ∷ [])
    ∷ seal 2 5
    ∷ seal 2 6
    ∷ kept.Head (file 1) first_head
    ∷ kept.Head (file 2) second_head
    ∷ []

abbrev pub IsRewritten : Type 0
IsRewritten = rewritten keep old ≡ made
