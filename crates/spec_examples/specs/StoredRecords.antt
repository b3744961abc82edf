-- Records of a node: which payloads are a store's, which bodies it keeps, and what it finds after a stopped append.
use Rattle.std.specs.Prelude.{ℕ, Option, Some, List, [], ◌∷◌, ◌++◌, map, replicate}
use Rattle.std.specs.List.{flat_map}
use Rattle.disk_model.specs.declared.plan.Stop.{Stop}
use Rattle.xt_base.specs.declared.TheConstants.{NO_OBJECT}
use Rattle.xt_base.specs.declared.ids.FileId.{FileId}
use Rattle.xt_base.specs.declared.ids.Epoch.{Epoch}
use Rattle.xt_base.specs.declared.ids.OpId.{OpId}
use Rattle.xt_messages.specs.declared.file.ObjectVersion.{ObjectVersion}
use Rattle.xt_messages.specs.declared.file.FileHead.{FileHead}
use Rattle.xt_messages.specs.declared.file.Update.{Update}
use Rattle.xt_messages.specs.declared.record.Record.{Record}
use Rattle.xt_messages.specs.declared.record.Record.TheVariants as kept
use Rattle.xt_protocol.specs.Folds.{body_kept, fold_of}
use Rattle.object_store.specs.Texts.{texts_of, IsFirstBad}
use Rattle.world_hull.specs.Appends.{kept_by, records_after}
use Rattle.spec_examples.specs.Values as values
use Rattle.spec_examples.specs.Values.{epoch, stamp}

abbrev pub file : FileId
file = values.file 1

abbrev pub operation : ℕ → OpId
operation number = record { client = record { 0 = 10 }; number = number }

abbrev pub version : ℕ → ℕ → ObjectVersion
version object count = record { object = object; version = stamp 1 1 count }

abbrev pub boot : ℕ → Record
boot number = kept.Boot (record { 0 = number })

abbrev pub promise : ℕ → Record
promise number = kept.Promise file (epoch number 0)

-- `abc` into object 0 as the first write, of no primary
abbrev pub abc : List ℕ
abc = 97 ∷ 98 ∷ 99 ∷ []

abbrev pub first_write : Update
first_write =
    record {
      stamp = stamp 0 0 1;
      id = operation 1;
      mark = record { epoch = 0; size = 3 };
      drop_from = NO_OBJECT;
      object = 0;
      body = abc;
    }

abbrev pub update : Record
update = kept.Update file first_write

abbrev pub stage : List ℕ → Record
stage bytes = kept.Stage file 0 (stamp 1 1 1) bytes

-- with that version alone
abbrev pub one_version : FileHead
one_version =
    record {
      promised = epoch 2 1;
      stamp = stamp 2 1 1;
      last = operation 1;
      mark = record { epoch = 0; size = 3 };
      versions = version 0 1 ∷ [];
      sessions = record { client = record { 0 = 10 }; number = 1; count = 1 } ∷ [];
    }

abbrev pub two_versions : FileHead
two_versions =
    record {
      promised = epoch 2 2;
      stamp = stamp 1 1 3;
      last = operation 3;
      mark = record { epoch = 0; size = 0x20001 };
      versions = version 0 2 ∷ version 1 1 ∷ [];
      sessions = [];
    }

abbrev pub head : Record
head = kept.Head file one_version

-- The bytes of both: kind and file; promise; stamp; operation; mark; versions; sessions.
abbrev pub word : ℕ → List ℕ
word n = 0 ∷ 0 ∷ 0 ∷ n ∷ []

abbrev pub long : ℕ → List ℕ
long n = 0 ∷ 0 ∷ 0 ∷ 0 ∷ 0 ∷ 0 ∷ 0 ∷ n ∷ []

abbrev pub head_texts : List (List ℕ)
head_texts =
    (15 ∷ long 0 ++ long 0 ++ long 1 ++ long 2 ++ word 1 ++ long 2 ++ word 1 ++ long 1 ++ word 10 ++ long 1 ++ long 0 ++ long 3
    ++ word 1 ++ long 0 ++ long 1 ++ word 1 ++ long 1 ++ word 1 ++ word 10 ++ long 1 ++ long 1)
    ∷ (15 ∷ long 0 ++ long 0 ++ long 1 ++ long 2 ++ word 2 ++ long 1 ++ word 1 ++ long 3 ++ word 10 ++ long 3 ++ long 0
    ++ (0 ∷ 0 ∷ 0 ∷ 0 ∷ 0 ∷ 2 ∷ 0 ∷ 1 ∷ []) ++ word 2 ++ long 0 ++ long 1 ++ word 1 ++ long 2 ++ long 1 ++ long 1 ++ word 1 ++ long 1 ++ word 0)
    ∷ []

-- Payloads, and the index of the first one that is no record in its place: it is none; an epoch below the promised one, a count
-- that comes again, a version that isn't held.
abbrev pub AreBad : List (List (List ℕ) × ℕ) → Type 0
AreBad [] = Unit {0}
AreBad (row ∷ rows) = IsFirstBad row.0 row.1 × AreBad rows

abbrev pub bad : List (List (List ℕ) × ℕ)
bad =
    ((20 ∷ []) ∷ texts_of (promise 1 ∷ []), 0)
    ∷ (texts_of (promise 1 ∷ []) ++ (20 ∷ []) ∷ [], 1)
    ∷ (texts_of (promise 1 ∷ []) ++ (1 ∷ long 1 ++ 0 ∷ []) ∷ [], 1)
    ∷ (texts_of (promise 2 ∷ promise 1 ∷ []), 1)
    ∷ (texts_of (promise 2 ∷ promise 1 ∷ []) ++ (20 ∷ []) ∷ [], 1)
    ∷ (texts_of (update ∷ update ∷ []), 1)
    ∷ (texts_of (head ∷ []), 0)
    ∷ (texts_of (stage abc ∷ promise 2 ∷ update ∷ update ∷ head ∷ []), 3)
    ∷ []

-- the body of object 0 in that version
abbrev pub body : List Record → Option (List ℕ)
body records = body_kept records file 0 (stamp 1 1 1)

-- Each call of an append, with three bytes.
abbrev pub each_stop : List Stop
each_stop = flat_map (λ call. map (λ fill. record { call = call; fill = fill }) (0 ∷ 0x37 ∷ 0xa5 ∷ [])) (1 ∷ 2 ∷ 3 ∷ 4 ∷ [])

-- The record is kept where its gate was being opened and the byte is an open gate's.
abbrev pub by_stop : {A : Type 0} → A → A → List A
by_stop lost kept = replicate 8 lost ++ kept ∷ lost ∷ lost ∷ kept ∷ []

-- the records of a node that stopped in an append
abbrev pub stopped : List Record → Record → Stop → List Record
stopped before rec stop = records_after (λ n. before) (record { 0 = 7 }) rec (kept_by (Some stop)) 7

-- the last of three starts, the second of which stopped: after that one, and after the third
abbrev pub boots_found : Stop → ℕ × ℕ
boots_found stop =
    let two = stopped (boot 1 ∷ []) (boot 2) stop in
    ((fold_of two).boot.0, (fold_of (two ++ boot 3 ∷ [])).boot.0)

-- the epoch that a node finds promised which stopped in its first promise
abbrev pub promised_found : Stop → List Epoch
promised_found stop = map (λ row. row.head.promised) (fold_of (stopped [] (kept.Promise file (epoch 2 3)) stop)).files
