-- requests to a metadata server about paths, rights, files, grants and reports, one after the other
use Rattle.std.specs.Prelude.{ℕ, ◌+◌, ◌*◌, List, [], ◌∷◌, ◌++◌, map, replicate, codes, Option, None}
use Rattle.std.specs.List.{flat_map}
use Rattle.xt_base.specs.declared.ids.NodeId.{NodeId}
use Rattle.xt_base.specs.declared.ids.SizeMark.{SizeMark}
use Rattle.xt_messages.specs.declared.file.Capability.{Capability}
use Rattle.xt_messages.specs.declared.reply.Denial.{Denial}
use Rattle.xt_messages.specs.declared.reply.Denial.TheVariants as denial
use Rattle.xt_messages.specs.declared.meta.MetaReq.{MetaReq}
use Rattle.xt_messages.specs.declared.meta.MetaReq.TheVariants as ask
use Rattle.xt_messages.specs.declared.meta.MetaRefusal.TheVariants as refusal
use Rattle.xt_messages.specs.declared.meta.MetaAnswer.{MetaAnswer}
use Rattle.xt_messages.specs.declared.meta.MetaAnswer.TheVariants as answer
use Rattle.xt_messages.specs.declared.meta.RowKind.TheVariants as row_kind
use Rattle.xt_messages.specs.declared.message.Payload.TheVariants as payload
use Rattle.xt_messages.specs.declared.message.Msg.{Msg}
use Rattle.xt_messages.specs.declared.event.Mark.{Mark}
use Rattle.xt_messages.specs.declared.registry.RegistryReq.TheVariants as wish
use Rattle.xt_protocol.specs.Turns.{message, sends}
use Rattle.capabilities.specs.Tags.{sealed}
use Rattle.server_rows.specs.Metadata.{MrcStep, step_of_mrc}
use Rattle.server_rows.specs.Examples.{key, new_server, rows_from}
use Rattle.volume_rows.specs.Examples.{names_deep}
use Rattle.spec_examples.specs.Sealing.{changed, tags}
use Rattle.spec_examples.specs.Served.{Row, create, digests, file, location_on, made_on, on, seen_in}

-- opens what handles requests
unfoldable pub requests : Unit {0}
unfolding tags digests step_of_mrc
requests = tt

-- ---- rows

-- a row under the number of its place
abbrev Placed : Type 0
Placed = ℕ → Row

abbrev numbered : ℕ → List Placed → List Row
numbered number [] = []
numbered number (row ∷ later) = row number ∷ numbered (number + 1) later

-- a user of a group asks, at this clock, is answered, and it is recorded with these nodes, if it is
abbrev asked : ℕ → ℕ → ℕ → MetaReq → MetaAnswer → Option (List NodeId) → Placed
asked user group at request told nodes number = (
  record {
    at = at;
    msg = message (record { 0 = 10 }) (record { 0 = 901 }) (payload.Meta number user group request);
  },
  told ∷ [],
  nodes,
)

-- the owner of the volume, one of the owner's group, and another user
abbrev ann : ℕ → MetaReq → MetaAnswer → Option (List NodeId) → Placed
ann = asked 1 1

abbrev eve : ℕ → MetaReq → MetaAnswer → Option (List NodeId) → Placed
eve = asked 3 1

abbrev bob : ℕ → MetaReq → MetaAnswer → Option (List NodeId) → Placed
bob = asked 2 2

-- rows of OSDs from a node
abbrev osds : ℕ → List ℕ → Placed
osds from nodes number = (rows_from from nodes, [], None)

abbrev kept : Option (List NodeId)
kept = on []

abbrev aside : Option (List NodeId)
aside = None

-- ---- requests

-- a mode by its three digits
abbrev octal : ℕ → ℕ → ℕ → ℕ
octal owner group others = owner * 64 + group * 8 + others

-- a path of so many names, each so long
abbrev long_mkdir : ℕ → ℕ → MetaReq
long_mkdir names length = ask.Mkdir (names_deep (replicate names (replicate length 97))) (octal 7 7 7)

abbrev sizes : ℕ → ℕ → SizeMark
sizes epoch size = record { epoch = epoch; size = size }

-- a capability without its tag: a file on these nodes, a mode, an expiry and a truncate epoch
abbrev capability : ℕ → List ℕ → ℕ → ℕ → ℕ → Capability
capability number nodes mode expiry epoch =
    record {
      file = file number;
      mode = mode;
      expiry = expiry;
      epoch = epoch;
      location = location_on nodes;
      tag = [];
    }

abbrev first : ℕ → ℕ → ℕ → Capability
first = capability 1000000 (1 ∷ 2 ∷ [])

abbrev third : ℕ → ℕ → ℕ → Capability
third = capability 1000002 (1 ∷ [])

-- a report with a capability that is sealed, and one with another tag
abbrev report : Capability → ℕ → ℕ → MetaReq
report capability epoch size = ask.Report (sealed key capability) (sizes epoch size)

abbrev forge : Capability → ℕ → ℕ → MetaReq
forge capability epoch size =
    let made = sealed key capability in ask.Report (record made { tag = changed 1 made.tag }) (sizes epoch size)

-- ---- answers

-- a request to search, to write or to read what may not be, or to change what is another's
abbrev search : MetaAnswer
search = answer.Refused (refusal.Forbidden 1)

abbrev write : MetaAnswer
write = answer.Refused (refusal.Forbidden 2)

abbrev read : MetaAnswer
read = answer.Refused (refusal.Forbidden 3)

abbrev own : MetaAnswer
own = answer.Refused (refusal.Forbidden 4)

abbrev no_name : MetaAnswer
no_name = answer.Refused refusal.NameBad

abbrev not_found : MetaAnswer
not_found = answer.Refused refusal.NotFound

abbrev not_dir : MetaAnswer
not_dir = answer.Refused refusal.NotDir

abbrev is_dir : MetaAnswer
is_dir = answer.Refused refusal.IsDir

abbrev exists : MetaAnswer
exists = answer.Refused refusal.Exists

abbrev not_empty : MetaAnswer
not_empty = answer.Refused refusal.NotEmpty

abbrev into_self : MetaAnswer
into_self = answer.Refused refusal.IntoSelf

abbrev other_volume : MetaAnswer
other_volume = answer.Refused refusal.OtherVolume

abbrev too_few : ℕ → MetaAnswer
too_few have = answer.Refused (refusal.TooFew have)

abbrev denied : Denial → MetaAnswer
denied rule = answer.Refused (refusal.Denied rule)

-- a directory, which has no sizes, and a file: owner, group and mode
abbrev directory : ℕ → ℕ → ℕ → MetaAnswer
directory owner group mode = answer.Row row_kind.Directory owner group mode (sizes 0 0)

abbrev a_file : ℕ → ℕ → ℕ → SizeMark → MetaAnswer
a_file = answer.Row row_kind.File

abbrev placed : List Placed
placed =
    -- a volume is made once, a file needs OSDs, and rights are tested
    ann 0 (ask.Mkdir (codes "/v") (octal 7 5 5)) answer.Done kept
    ∷ ann 0 (ask.Mkdir (codes "/v") (octal 7 5 5)) exists kept
    ∷ ann 0 (create (codes "/v/a") 3) (too_few 0) kept
    ∷ bob 0 (ask.Mkdir (codes "/v/d") (octal 7 5 5)) write kept
    ∷ ann 0 (ask.Stat (codes "/v")) (directory 1 1 (octal 7 5 5)) aside
    -- the OSDs are those of the last rows from the DIR, each once
    ∷ osds 10 (1 ∷ 2 ∷ 3 ∷ [])
    ∷ ann 0 (create (codes "/v/a") 1) (too_few 0) kept
    ∷ osds 900 (1 ∷ 2 ∷ 3 ∷ [])
    ∷ osds 900 (1 ∷ 2 ∷ 1 ∷ [])
    ∷ ann 0 (create (codes "/v/a") 3) (too_few 2) (on (1 ∷ 2 ∷ []))
    ∷ ann 5000 (create (codes "/v/a") 2) answer.Done (on (1 ∷ 2 ∷ []))
    -- a Create is refused in order: it is there, its directory may not be written, too few OSDs
    ∷ bob 5000 (create (codes "/v/a") 3) exists (on (1 ∷ 2 ∷ []))
    ∷ bob 5000 (create (codes "/v/b") 3) write (on (1 ∷ 2 ∷ []))
    -- texts that are no path, the root where it is none, a file in no volume
    ∷ ann 5000 (ask.Mkdir [] (octal 7 5 5)) no_name kept
    ∷ ann 5000 (ask.Mkdir (codes "v") (octal 7 5 5)) no_name kept
    ∷ ann 5000 (ask.Mkdir (codes "//") (octal 7 5 5)) no_name kept
    ∷ ann 5000 (ask.Mkdir (codes "/v/") (octal 7 5 5)) no_name kept
    ∷ ann 5000 (ask.Mkdir (codes "/v//b") (octal 7 5 5)) no_name kept
    ∷ ann 5000 (ask.Mkdir (codes "/v/.") (octal 7 5 5)) no_name kept
    ∷ ann 5000 (ask.Mkdir (codes "/v/..") (octal 7 5 5)) no_name kept
    ∷ ann 5000 (ask.Mkdir (codes "/v/a" ++ 0 ∷ codes "b") (octal 7 5 5)) no_name kept
    ∷ ann 5000 (ask.Mkdir (codes "/v/...") (octal 7 5 5)) answer.Done kept
    ∷ ann 5000 (ask.Rmdir (codes "/v/...")) answer.Done kept
    ∷ ann 5000 (ask.Mkdir (codes "/") (octal 7 5 5)) no_name kept
    ∷ ann 5000 (create (codes "/v") 1) no_name (on (2 ∷ []))
    ∷ ann 5000 (ask.Rename (codes "/") (codes "/v/b")) no_name kept
    ∷ ann 5000 (ask.Rename (codes "/w/a") (codes "/")) no_name kept
    ∷ ann 5000 (ask.Unlink (codes "/")) no_name kept
    ∷ ann 5000 (ask.Rmdir (codes "/")) no_name kept
    ∷ ann 5000 (ask.Stat (codes "/")) no_name aside
    ∷ ann 5000 (ask.Chmod (codes "/") 0) no_name kept
    ∷ ann 5000 (ask.Grant (codes "/") 1) no_name aside
    ∷ ann 5000 (ask.Grant (codes "/") 3) no_name kept
    ∷ ann 5000 (ask.List [] []) no_name aside
    ∷ bob 5000 (ask.List (codes "/") []) (answer.Names (codes "v" ∷ [])) aside
    ∷ bob 5000 (ask.List (codes "/") (codes "v")) (answer.Names []) aside
    -- the ancestors, from the volume down
    ∷ ann 5000 (ask.Stat (codes "/w")) not_found aside
    ∷ ann 5000 (create (codes "/w/a") 1) not_found (on (2 ∷ []))
    ∷ ann 5000 (ask.Mkdir (codes "/v/a/b") (octal 7 5 5)) not_dir kept
    ∷ ann 5000 (ask.Stat (codes "/v/b/c")) not_found aside
    -- modes 0 and 777; the owner, the group and all others have rights of their own
    ∷ bob 5000 (ask.Chmod (codes "/v") 0) own kept
    ∷ ann 5000 (ask.Chmod (codes "/v/b") 0) not_found kept
    ∷ ann 5000 (ask.Chmod (codes "/v") 0) answer.Done kept
    ∷ ann 5000 (ask.Stat (codes "/v")) (directory 1 1 0) aside
    ∷ ann 5000 (ask.Stat (codes "/v/a")) search aside
    ∷ ann 5000 (ask.Mkdir (codes "/v/a") (octal 7 5 5)) search kept
    ∷ ann 5000 (ask.List (codes "/v") []) read aside
    ∷ ann 5000 (ask.Chmod (codes "/v") (octal 0 7 0)) answer.Done kept
    ∷ ann 5000 (ask.Stat (codes "/v/a")) search aside
    ∷ eve 5000 (ask.Stat (codes "/v/a")) (a_file 1 1 (octal 6 4 4) (sizes 0 0)) aside
    ∷ bob 5000 (ask.Stat (codes "/v/a")) search aside
    ∷ ann 5000 (ask.Chmod (codes "/v") (octal 0 0 7)) answer.Done kept
    ∷ eve 5000 (ask.Stat (codes "/v/a")) search aside
    ∷ bob 5000 (ask.Stat (codes "/v/a")) (a_file 1 1 (octal 6 4 4) (sizes 0 0)) aside
    ∷ ann 5000 (ask.Chmod (codes "/v") (octal 7 7 7)) answer.Done kept
    ∷ bob 5000 (ask.Mkdir (codes "/v/d") (octal 7 0 0)) answer.Done kept
    ∷ ann 5000 (create (codes "/v/d/x") 1) search (on (2 ∷ []))
    ∷ bob 5000 (create (codes "/v/d/x") 1) answer.Done (on (2 ∷ []))
    ∷ bob 5000 (ask.Chmod (codes "/v/d/x") (octal 6 4 0)) answer.Done kept
    -- names
    ∷ ann 5000 (ask.List (codes "/v") []) (answer.Names (codes "a" ∷ codes "d" ∷ [])) aside
    ∷ ann 5000 (ask.List (codes "/v") (codes "a")) (answer.Names (codes "d" ∷ [])) aside
    ∷ ann 5000 (ask.List (codes "/v/a") []) not_dir aside
    ∷ ann 5000 (ask.List (codes "/v/b") []) not_found aside
    -- what isn't taken out
    ∷ ann 5000 (ask.Unlink (codes "/v/d")) is_dir kept
    ∷ ann 5000 (ask.Unlink (codes "/v/b")) not_found kept
    ∷ ann 5000 (ask.Rmdir (codes "/v/a")) not_dir kept
    ∷ ann 5000 (ask.Rmdir (codes "/v/b")) not_found kept
    ∷ ann 5000 (ask.Mkdir (codes "/v/z") (octal 7 5 5)) answer.Done kept
    ∷ ann 5000 (ask.Chmod (codes "/v") (octal 7 5 5)) answer.Done kept
    ∷ bob 5000 (ask.Rmdir (codes "/v/d")) not_empty kept
    ∷ bob 5000 (ask.Rmdir (codes "/v/z")) write kept
    ∷ bob 5000 (ask.Unlink (codes "/v/a")) write kept
    -- a rename: not where it can't go
    ∷ bob 5000 (ask.Rename (codes "/w/d") (codes "/v/d")) not_found kept
    ∷ bob 5000 (ask.Rename (codes "/v") (codes "/v/d/e")) other_volume kept
    ∷ bob 5000 (ask.Rename (codes "/v/b") (codes "/w/b")) other_volume kept
    ∷ bob 5000 (ask.Rename (codes "/v/b") (codes "/v/b/c")) not_found kept
    ∷ bob 5000 (ask.Rename (codes "/v/d") (codes "/v/d")) into_self kept
    ∷ bob 5000 (ask.Rename (codes "/v/d") (codes "/v/d/e")) into_self kept
    ∷ bob 5000 (ask.Rename (codes "/v/d") (codes "/v/y/e")) not_found kept
    ∷ bob 5000 (ask.Rename (codes "/v/d") (codes "/v/a/e")) not_dir kept
    ∷ bob 5000 (ask.Rename (codes "/v/d") (codes "/v/a")) exists kept
    ∷ bob 5000 (ask.Rename (codes "/v/d") (codes "/v/e")) write kept
    ∷ ann 5000 (ask.Chmod (codes "/v") (octal 7 7 7)) answer.Done kept
    ∷ bob 5000 (ask.Rename (codes "/v/d") (codes "/v/z/e")) write kept
    -- and with all that is in it where it can
    ∷ ann 5000 (ask.Chmod (codes "/v/z") (octal 7 7 7)) answer.Done kept
    ∷ bob 5000 (ask.Rename (codes "/v/d") (codes "/v/z/e")) answer.Done kept
    ∷ bob 5000 (ask.Stat (codes "/v/d/x")) not_found aside
    ∷ bob 5000 (ask.Stat (codes "/v/z/e/x")) (a_file 2 2 (octal 6 4 0) (sizes 0 0)) aside
    ∷ ann 5000 (ask.Stat (codes "/v/z/e/x")) search aside
    -- grants, of which only those to truncate are recorded
    ∷ ann 5000 (ask.Grant (codes "/v/b") 1) not_found aside
    ∷ ann 5000 (ask.Grant (codes "/v/z") 1) is_dir aside
    ∷ bob 5000 (ask.Grant (codes "/v/a") 2) write aside
    ∷ bob 5000 (ask.Grant (codes "/v/a") 3) write kept
    ∷ ann 5000 (ask.Chmod (codes "/v/a") (octal 2 0 0)) answer.Done kept
    ∷ ann 5000 (ask.Grant (codes "/v/a") 1) read aside
    ∷ ann 5000 (ask.Grant (codes "/v/a") 2) (answer.Granted (first 2 605000 0) (sizes 0 0)) aside
    ∷ ann 5000 (ask.Chmod (codes "/v/a") (octal 6 4 4)) answer.Done kept
    ∷ bob 5000 (ask.Grant (codes "/v/a") 1) (answer.Granted (first 1 605000 0) (sizes 0 0)) aside
    ∷ bob 5000 (report (first 1 605000 0) 1 9) (denied denial.Mode) aside
    ∷ ann 6000 (ask.Grant (codes "/v/a") 3) (answer.Granted (first 2 606000 1) (sizes 0 0)) kept
    ∷ ann 6000 (ask.Grant (codes "/v/a") 3) (answer.Granted (first 2 606000 2) (sizes 0 0)) kept
    ∷ ann 6000 (ask.Grant (codes "/v/a") 2) (answer.Granted (first 2 606000 2) (sizes 0 0)) aside
    -- reports, of which only those that are news are recorded
    ∷ ann 6000 (report (first 2 606000 2) 2 10) answer.Done kept
    ∷ ann 6000 (report (first 2 606000 2) 1 99) answer.Done aside
    ∷ ann 6000 (report (first 2 606000 2) 2 7) answer.Done aside
    ∷ ann 6000 (report (first 2 606000 2) 2 10) answer.Done aside
    ∷ ann 6000 (ask.Stat (codes "/v/a")) (a_file 1 1 (octal 6 4 4) (sizes 2 10)) aside
    ∷ ann 6000 (forge (first 2 606000 2) 2 11) (denied denial.Tag) aside
    -- a capability serves at its expiry, and no longer; a clock that goes back counts as the last one
    ∷ ann 606000 (report (first 2 606000 2) 2 11) answer.Done kept
    ∷ ann 606001 (report (first 2 606000 2) 2 12) (denied denial.Expired) aside
    ∷ ann 606001 (forge (first 2 606000 2) 2 12) (denied denial.Tag) aside
    ∷ ann 606000 (report (first 2 606000 2) 2 12) (denied denial.Expired) aside
    ∷ ann 606000 (ask.Stat (codes "/v/a")) (a_file 1 1 (octal 6 4 4) (sizes 2 11)) aside
    ∷ ann 606000 (ask.Grant (codes "/v/a") 2) (answer.Granted (first 2 1206001 2) (sizes 2 11)) aside
    -- what is taken out, and made again
    ∷ ann 700000 (ask.Unlink (codes "/v/a")) answer.Done kept
    ∷ ann 700000 (report (first 2 1206001 2) 2 20) not_found aside
    ∷ ann 700000 (ask.Stat (codes "/v/a")) not_found aside
    ∷ ann 700000 (create (codes "/v/a") 1) answer.Done (on (1 ∷ []))
    ∷ ann 700000 (report (first 2 1206001 2) 2 20) not_found aside
    ∷ ann 700000 (ask.Grant (codes "/v/a") 1) (answer.Granted (third 1 1300000 0) (sizes 0 0)) aside
    ∷ bob 700000 (ask.Unlink (codes "/v/z/e/x")) answer.Done kept
    ∷ bob 700000 (ask.Rmdir (codes "/v/z/e")) answer.Done kept
    ∷ ann 700000 (ask.Rmdir (codes "/v/z")) answer.Done kept
    ∷ ann 700000 (ask.Unlink (codes "/v/a")) answer.Done kept
    ∷ bob 700000 (ask.Rmdir (codes "/v")) answer.Done kept
    ∷ bob 700000 (ask.List (codes "/") []) (answer.Names []) aside
    -- a path has up to 16 names, of 1 to 255 bytes
    ∷ ann 700000 (long_mkdir 2 0) no_name kept
    ∷ ann 700000 (long_mkdir 1 256) no_name kept
    ∷ ann 700000 (long_mkdir 1 255) answer.Done kept
    ∷ ann 700000 (long_mkdir 16 1) not_found kept
    ∷ ann 700000 (long_mkdir 17 1) no_name kept
    ∷ ann 700000 (long_mkdir 16 255) not_found kept
    ∷ ann 700000 (long_mkdir 16 256) no_name kept
    ∷ []

abbrev pub rows : List Row
rows = numbered 0 placed

-- the files that are made, and where
abbrev pub places : List Mark
places = made_on 1000000 (1 ∷ 2 ∷ []) ∷ made_on 1000001 (2 ∷ []) ∷ made_on 1000002 (1 ∷ []) ∷ []

-- what steps send and record, and the files that they mark
abbrev pub seen : List MrcStep → List (List Msg × Option (List (NodeId × ℕ × List NodeId))) × List Mark
seen steps = (map seen_in steps, flat_map (λ step. step.turned.marks) steps)

-- what a server does at a Wake: it asks the directory service for all OSDs, and nothing else
abbrev pub awake : MrcStep
awake =
    let question = payload.Registry 0 (wish.List 1 (record { 0 = 0 })) in
    record { mrc = new_server; turned = sends (message (record { 0 = 901 }) (record { 0 = 900 }) question ∷ []) }
