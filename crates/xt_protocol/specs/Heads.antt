-- the head of a replica: what it says of a file, and what an update makes of it
use Rattle.std.specs.Prelude.{ℕ, ◌==◌, nat_lt, if◌then◌else◌, Option, Some, None, List, [], ◌∷◌, filter}
use Rattle.xt_base.specs.declared.ids.Epoch.{Epoch}
use Rattle.xt_messages.specs.Limits.{is_at_most}
use Rattle.xt_base.specs.declared.ids.Stamp.{Stamp}
use Rattle.xt_messages.specs.declared.file.ObjectVersion.{ObjectVersion}
use Rattle.xt_messages.specs.declared.file.Session.{Session}
use Rattle.xt_messages.specs.declared.file.FileHead.{FileHead}
use Rattle.xt_messages.specs.declared.file.Update.{Update}
use Rattle.xt_base.specs.declared.TheConstants.{NO_OBJECT}

-- the epoch before any primary
abbrev pub first_epoch : Epoch
first_epoch = record { number = 0; node = record { 0 = 0 } }

-- the greater of two epochs
abbrev pub later_epoch : Epoch → Epoch → Epoch
later_epoch a b = if is_at_most a b then b else a

-- the stamp of a count of writes outside any primary's tenure
abbrev pub plain_stamp : ℕ → Stamp
plain_stamp count = record { epoch = first_epoch; count = count }

-- what a file begins as
abbrev pub new_head : FileHead
new_head =
    record {
      promised = first_epoch;
      stamp = plain_stamp 0;
      last = record { client = record { 0 = 0 }; number = 0 };
      mark = record { epoch = 0; size = 0 };
      versions = [];
      sessions = [];
    }

-- the version of an object, none where no update made it
abbrev pub version_of : List ObjectVersion → ℕ → Option Stamp
version_of [] object = None
version_of (v ∷ vs) object = if v.object == object then Some v.version else version_of vs object

-- the versions with this one of the object, in its place
abbrev pub with_version : List ObjectVersion → ℕ → Stamp → List ObjectVersion
with_version [] object version = record { object = object; version = version } ∷ []
with_version (v ∷ vs) object version =
    if v.object == object then record { object = object; version = version } ∷ vs
    else if nat_lt object v.object then record { object = object; version = version } ∷ v ∷ vs
    else v ∷ with_version vs object version

-- the versions of the objects below one
abbrev pub versions_below : List ObjectVersion → ℕ → List ObjectVersion
versions_below versions object = filter (λ v. nat_lt v.object object) versions

-- a client's last write, none before its first
abbrev pub session_of : List Session → ℕ → Option Session
session_of [] client = None
session_of (s ∷ ss) client = if s.client.0 == client then Some s else session_of ss client

-- the sessions with this one, in its place
abbrev pub with_session : List Session → Session → List Session
with_session [] session = session ∷ []
with_session (s ∷ ss) session =
    if s.client.0 == session.client.0 then session ∷ ss
    else if nat_lt session.client.0 s.client.0 then session ∷ s ∷ ss
    else s ∷ with_session ss session

-- The head that a member begins a later list with: what it has promised stays promised.
abbrev pub head_installed : FileHead → FileHead → FileHead
head_installed own head = record head { promised = later_epoch own.promised head.promised }

-- The head after an update: the objects from `drop_from` on go, its object gets its stamp, and the rest is the update's.
abbrev pub head_after : FileHead → Update → FileHead
head_after head update =
    let kept = versions_below head.versions update.drop_from in
    record {
      promised = head.promised;
      stamp = update.stamp;
      last = update.id;
      mark = update.mark;
      versions = if update.object == NO_OBJECT then kept else with_version kept update.object update.stamp;
      sessions = with_session head.sessions (record { client = update.id.client; number = update.id.number; count = update.stamp.count });
    }
