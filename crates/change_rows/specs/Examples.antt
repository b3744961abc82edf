-- a change of a file from one OSD to another, step by step, and what of three reports is chosen
use Rattle.std.specs.Prelude.{ℕ, List, [], ◌∷◌, replicate}
use Rattle.xt_base.specs.TimeSettings.{TimeSettings}
use Rattle.xt_base.specs.declared.ids.NodeId.{NodeId}
use Rattle.xt_base.specs.declared.ids.FileId.{FileId}
use Rattle.xt_base.specs.declared.ids.Epoch.{Epoch}
use Rattle.xt_messages.specs.declared.file.Kind.TheVariants as kind
use Rattle.xt_messages.specs.declared.file.Location.{Location}
use Rattle.xt_messages.specs.declared.file.FileHead.{FileHead}
use Rattle.change_rows.specs.declared.Choice.{Choice}
use Rattle.change_rows.specs.Changes.{ChangeState, new_change, closed_by}
use Rattle.change_rows.specs.Coordinating.{Running, Step, begins, woken, closing_comes, wanted_comes, installation_comes}

abbrev pub osd : ℕ → NodeId
osd number = record { 0 = number }

abbrev pub some_file : FileId
some_file = record { volume = replicate 16 0; number = 1000000 }

-- leases of a second, clocks within a tenth of it
abbrev pub some_times : TimeSettings
some_times = record { lease = 1000; drift = 100 }

abbrev pub on_nodes : ℕ → List NodeId → Location
on_nodes version nodes = record { version = version; kind = kind.Replicated; stripe = 131072; members = nodes }

abbrev pub epoch : ℕ → ℕ → Epoch
epoch number node = record { number = number; node = osd node }

-- a head after this number of writes of client 10 to the first object, the last of them in the first epoch, under this promise
abbrev pub head_of : Epoch → ℕ → FileHead
head_of promised count =
    record {
      promised = promised;
      stamp = record { epoch = epoch 1 1; count = count };
      last = record { client = osd 10; number = 6 };
      mark = record { epoch = 0; size = 1 };
      versions = record { object = 0; version = record { epoch = epoch 1 1; count = count } } ∷ [];
      sessions = record { client = osd 10; number = 6; count = count } ∷ [];
    }

-- ---- from OSD 1 to OSD 2

abbrev pub begun : List Running
begun = begins some_times [] some_file (on_nodes 1 (osd 1 ∷ [])) (osd 2 ∷ [])

abbrev pub first_wake : Step
first_wake = woken 1100 begun

-- OSD 1 has closed the file at its first version
abbrev pub closed_once : Step
closed_once = closing_comes begun 1100 (osd 1) some_file 1 (head_of (epoch 1 1) 1)

abbrev pub early_wake : Step
early_wake = woken 2199 closed_once.running

abbrev pub late_wake : Step
late_wake = woken 2200 closed_once.running

-- what is chosen
abbrev pub to_second : Choice
to_second =
    record { file = some_file; location = on_nodes 2 (osd 2 ∷ []); head = head_of (epoch 2 901) 1; source = osd 1 }

abbrev pub wanted_again : Step
wanted_again = wanted_comes late_wake.running (osd 2) some_file

abbrev pub installed_once : Step
installed_once = installation_comes late_wake.running (osd 2) some_file 2

abbrev pub installed_twice : Step
installed_twice = installation_comes installed_once.running (osd 2) some_file 2

-- ---- three OSDs, of which two report

abbrev pub three : List NodeId
three = osd 1 ∷ osd 2 ∷ osd 3 ∷ []

abbrev pub of_three : ChangeState
of_three = new_change some_times some_file (on_nodes 1 three) three

-- OSD 3 has two writes and a lesser promise, OSD 2 one write; a second report of OSD 3, one of another version and one of a stranger don't count
abbrev pub two_counted : ChangeState
two_counted =
    let first = closed_by of_three 5000 (osd 3) 1 (head_of (epoch 4 1) 2) in
    let again = closed_by first 5001 (osd 3) 1 (head_of (epoch 9 1) 7) in
    let other = closed_by again 5002 (osd 1) 2 (head_of (epoch 9 1) 7) in
    let stranger = closed_by other 5003 (osd 4) 1 (head_of (epoch 9 1) 7) in
    closed_by stranger 5004 (osd 2) 1 (head_of (epoch 7 2) 1)

abbrev pub of_two : Choice
of_two =
    record { file = some_file; location = on_nodes 2 three; head = head_of (epoch 8 901) 2; source = osd 3 }
