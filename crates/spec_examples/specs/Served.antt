-- requests to a metadata server, one after the other, what each is answered, and what is recorded of it
use Rattle.std.specs.Prelude.{ℕ, List, [], ◌∷◌, map, take, codes, Option, Some, None, option_map}
use Rattle.xt_base.specs.declared.ids.NodeId.{NodeId}
use Rattle.xt_base.specs.declared.ids.FileId.{FileId}
use Rattle.xt_messages.specs.declared.file.Kind.TheVariants as kind
use Rattle.xt_messages.specs.declared.file.Location.{Location}
use Rattle.xt_messages.specs.declared.meta.MetaReq.{MetaReq}
use Rattle.xt_messages.specs.declared.meta.MetaReq.TheVariants as ask
use Rattle.xt_messages.specs.declared.meta.MetaRefusal.TheVariants as refusal
use Rattle.xt_messages.specs.declared.meta.MetaAnswer.{MetaAnswer}
use Rattle.xt_messages.specs.declared.meta.MetaAnswer.TheVariants as answer
use Rattle.xt_messages.specs.declared.meta.RowKind.TheVariants as row_kind
use Rattle.xt_messages.specs.declared.message.Payload.{Payload}
use Rattle.xt_messages.specs.declared.message.Payload.TheVariants as payload
use Rattle.xt_messages.specs.declared.message.Msg.{Msg}
use Rattle.xt_messages.specs.declared.record.Record.{Record}
use Rattle.xt_messages.specs.declared.record.Record.TheVariants as kept
use Rattle.xt_messages.specs.declared.event.Mark.{Mark}
use Rattle.xt_messages.specs.declared.event.Mark.TheVariants as mark
use Rattle.xt_messages.specs.declared.event.Event.TheVariants as event
use Rattle.sha1.specs.Sha1.{first_words, schedule, rounds, compress, hash_after, digest_bytes, sha1}
use Rattle.xt_protocol.specs.Turns.{message}
use Rattle.server_rows.specs.Requests.{nodes_in}
use Rattle.server_rows.specs.Metadata.{MrcState, MrcStep, reply_to, step_of_mrc}
use Rattle.server_rows.specs.Examples.{Coming, after, key, new_server, rows_from}
use Rattle.server_rows.specs.Laws.{files_made}
use Rattle.volume_rows.specs.Examples.{mkdir}
use Rattle.volume_rows.specs.Grants.{volume_id}

-- ---- what a step gives

-- the steps of a server as messages come
abbrev pub steps_from : MrcState → List Coming → List MrcStep
steps_from mrc [] = []
steps_from mrc (coming ∷ later) =
    let step = step_of_mrc key mrc coming.at (event.Deliver coming.msg) in
    step ∷ steps_from step.mrc later

-- a message without the tag of a capability
abbrev pub shown_payload : Payload → Payload
shown_payload (payload.MetaReply number (answer.Granted capability mark)) =
    payload.MetaReply number (answer.Granted (record capability { tag = [] }) mark)
shown_payload other = other

abbrev pub shown : Msg → Msg
shown msg = record msg { payload = shown_payload msg.payload }

-- whose request is recorded, under which number and with which nodes
abbrev pub kept_in : Record → List (NodeId × ℕ × List NodeId)
kept_in (kept.Meta from number now nodes request) = (from, number, nodes_in nodes) ∷ []
kept_in _ = []

abbrev pub seen_in : MrcStep → List Msg × Option (List (NodeId × ℕ × List NodeId))
seen_in step = (map shown step.turned.outs, option_map kept_in step.turned.rec)

-- ---- rows

-- what comes, what is answered, and with which nodes it is recorded, if it is
abbrev pub Row : Type 0
Row = Coming × List MetaAnswer × Option (List NodeId)

-- user 1 of group 1 asks: by which client, under which number, and when
abbrev pub asks : ℕ → ℕ → ℕ → MetaReq → Coming
asks client number at request =
    record { at = at; msg = message (record { 0 = client }) (record { 0 = 901 }) (payload.Meta number 1 1 request) }

abbrev pub number_in : Payload → ℕ
number_in (payload.Meta number user group request) = number
number_in _ = 0

abbrev pub comings : List Row → List Coming
comings rows = map (λ row. row.0) rows

abbrev pub wanted_of : Row → List Msg × Option (List (NodeId × ℕ × List NodeId))
wanted_of row =
    let msg = row.0.msg in (
      map (reply_to msg.from (number_in msg.payload)) row.1,
      option_map (λ nodes. (msg.from, number_in msg.payload, nodes) ∷ []) row.2,
    )

-- a file of the volume `/v`
abbrev pub file : ℕ → FileId
file number = record { volume = volume_id (codes "v"); number = number }

abbrev pub nodes : List ℕ → List NodeId
nodes numbers = map (λ number. record { 0 = number }) numbers

-- recorded with these nodes
abbrev pub on : List ℕ → Option (List NodeId)
on numbers = Some (nodes numbers)

abbrev pub create : List ℕ → ℕ → MetaReq
create path n = ask.Create path 420 kind.Replicated n 131072

abbrev pub location_on : List ℕ → Location
location_on numbers = record { version = 1; kind = kind.Replicated; stripe = 131072; members = nodes numbers }

abbrev pub done : List MetaAnswer
done = answer.Done ∷ []

abbrev pub exists : List MetaAnswer
exists = answer.Refused refusal.Exists ∷ []

abbrev pub not_found : List MetaAnswer
not_found = answer.Refused refusal.NotFound ∷ []

abbrev pub directory : ℕ → List MetaAnswer
directory mode = answer.Row row_kind.Directory 1 1 mode (record { epoch = 0; size = 0 }) ∷ []

-- ---- numbers

-- a capability to write, until 605000, in truncate epoch 1
abbrev pub granted : List MetaAnswer
granted =
    answer.Granted
    (record {
      file = file 1000000;
      mode = 2;
      expiry = 605000;
      epoch = 1;
      location = location_on (1 ∷ []);
      tag = [];
    })
    (record { epoch = 0; size = 0 })
    ∷ []

-- requests of two clients, each under its own numbers
abbrev pub numbers : List Row
numbers =
    (asks 10 5 5000 (mkdir (codes "/v")), done, on [])
    -- under the last recorded number the same answer, whatever is asked; under a lower one nothing
    ∷ (asks 10 5 5000 (mkdir (codes "/v")), done, None)
    ∷ (asks 10 5 5000 (ask.Stat (codes "/w")), done, None)
    ∷ (asks 10 4 5000 (mkdir (codes "/w")), [], None)
    -- what isn't recorded leaves the last number, and is worked out again each time
    ∷ (asks 10 6 5000 (ask.Stat (codes "/v")), directory 493, None)
    ∷ (asks 10 6 5000 (ask.Chmod (codes "/v") 448), done, on [])
    ∷ (asks 10 5 5000 (ask.Stat (codes "/v")), [], None)
    ∷ (asks 10 7 5000 (ask.Stat (codes "/v")), directory 448, None)
    ∷ (asks 10 7 5000 (ask.Stat (codes "/w")), not_found, None)
    -- a refusal is kept too
    ∷ (asks 10 8 5000 (mkdir (codes "/v")), exists, on [])
    ∷ (asks 10 8 5000 (ask.Stat (codes "/v")), exists, None)
    -- the numbers of another client are its own
    ∷ (asks 11 1 5000 (ask.Stat (codes "/w")), not_found, None)
    ∷ (rows_from 900 (1 ∷ []), [], None)
    ∷ (asks 11 1 5000 (ask.Grant (codes "/v/a") 3), not_found, on [])
    -- a capability to truncate that is asked for again is the one of the first time
    ∷ (asks 10 14 5000 (create (codes "/v/a") 1), done, on (1 ∷ []))
    ∷ (asks 11 2 5000 (ask.Grant (codes "/v/a") 3), granted, on [])
    ∷ (asks 11 2 9000 (ask.Grant (codes "/v/a") 3), granted, None)
    ∷ []

-- ---- files

-- The OSDs of a file are picked by its number, round from the place of 1,000,001 among four. Where there are too few the record
-- has those that there are, and no number is used up; a refusal has the nodes that were picked; a rename changes nothing of
-- what was made; and a clock that goes back counts as the last one.
abbrev pub files : List Row
files =
    (rows_from 900 (1 ∷ []), [], None)
    ∷ (asks 10 1 5000 (mkdir (codes "/v")), done, on [])
    ∷ (asks 10 2 5000 (create (codes "/v/a") 1), done, on (1 ∷ []))
    ∷ (asks 10 3 5001 (ask.Unlink (codes "/v/a")), done, on [])
    ∷ (rows_from 900 (3 ∷ 5 ∷ 7 ∷ 9 ∷ []), [], None)
    ∷ (asks 10 5 5003 (create (codes "/v/a") 3), done, on (5 ∷ 7 ∷ 9 ∷ []))
    ∷ (asks 10 6 5004 (create (codes "/v/b") 5), answer.Refused (refusal.TooFew 4) ∷ [], on (3 ∷ 5 ∷ 7 ∷ 9 ∷ []))
    ∷ (asks 10 7 5005 (create (codes "/v/a") 2), exists, on (7 ∷ 9 ∷ []))
    ∷ (asks 10 8 5006 (ask.Rename (codes "/v/a") (codes "/v/b")), done, on [])
    ∷ (asks 10 9 5007 (create (codes "/v/a") 4), done, on (7 ∷ 9 ∷ 3 ∷ 5 ∷ []))
    ∷ (asks 10 10 5000 (ask.Unlink (codes "/v/b")), done, on [])
    ∷ []

-- the volume of `/v`: version 5 of the name `v` in the nil namespace, from another program
abbrev pub volume : List ℕ
volume =
    0x80 ∷ 0xe2 ∷ 0x43 ∷ 0x4c ∷ 0x46 ∷ 0x6c ∷ 0x59 ∷ 0xa0 ∷ 0xa3 ∷ 0x64 ∷ 0x5d ∷ 0x8d ∷ 0x01 ∷ 0x60 ∷ 0x13 ∷ 0x38 ∷ []

-- the mark of a file of that volume, and where it is
abbrev pub made_on : ℕ → List ℕ → Mark
made_on number members = mark.File (record { volume = volume; number = number }) (location_on members)

-- the files that are made in these steps, and where
abbrev pub places : List Mark
places = made_on 1000000 (1 ∷ []) ∷ made_on 1000001 (5 ∷ 7 ∷ 9 ∷ []) ∷ made_on 1000002 (7 ∷ 9 ∷ 3 ∷ 5 ∷ []) ∷ []

-- opens what makes the digest of a name
unfoldable pub digests : Unit {0}
unfolding first_words schedule rounds compress hash_after digest_bytes sha1
digests = tt

-- after so many of these steps, the files that were ever made, and the clocks at which they were unlinked
abbrev pub fates : List (ℕ × List (FileId × Option ℕ))
fates =
    (2, [])
    ∷ (3, (file 1000000, None) ∷ [])
    ∷ (4, (file 1000000, Some 5001) ∷ [])
    ∷ (9, (file 1000000, Some 5001) ∷ (file 1000001, None) ∷ [])
    ∷ (11, (file 1000000, Some 5001) ∷ (file 1000001, Some 5007) ∷ (file 1000002, None) ∷ [])
    ∷ []

abbrev pub made_after : ℕ → List (FileId × Option ℕ)
made_after steps = files_made (after new_server (take steps (comings files))).catalogue.made
