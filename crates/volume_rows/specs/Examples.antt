-- what a few requests come to, from no volumes
use Rattle.std.specs.Prelude.{ℕ, List, [], ◌∷◌, ◌++◌, replicate, codes}
use Rattle.xt_messages.specs.declared.file.Kind.TheVariants as kind
use Rattle.xt_messages.specs.declared.meta.MetaReq.{MetaReq}
use Rattle.xt_messages.specs.declared.meta.MetaReq.TheVariants as ask
use Rattle.xt_messages.specs.declared.meta.MetaRefusal.TheVariants as refusal
use Rattle.xt_messages.specs.declared.meta.MetaAnswer.{MetaAnswer}
use Rattle.xt_messages.specs.declared.meta.MetaAnswer.TheVariants as answer
use Rattle.xt_messages.specs.declared.meta.RowKind.TheVariants as row_kind
use Rattle.volume_rows.specs.declared.Asker.{Asker}
use Rattle.volume_rows.specs.declared.Picked.{Picked}
use Rattle.volume_rows.specs.declared.Picked.TheVariants as picked
use Rattle.volume_rows.specs.Rows.{Volumes, no_volumes}
use Rattle.volume_rows.specs.Requests.{applied}

-- the first asker, and another one of another group
abbrev pub first : Asker
first = record { user = 1; group = 1 }

abbrev pub other : Asker
other = record { user = 2; group = 2 }

-- a request of an asker
pub record Asked : Type 0 where
  pub who : Asker
  pub request : MetaReq

-- two OSDs for each file
abbrev pub two_osds : Picked
two_osds =
    picked.On
    (record { version = 1; kind = kind.Replicated; stripe = 4096; members = record { 0 = 1 } ∷ record { 0 = 2 } ∷ [] })

-- what requests are answered, one after the other
abbrev pub answers_from : Volumes → Picked → List Asked → List MetaAnswer
answers_from volumes place [] = []
answers_from volumes place (asked ∷ later) =
    let outcome = applied volumes asked.who place asked.request in
    outcome.answer ∷ answers_from outcome.volumes place later

abbrev pub answers : Picked → List Asked → List MetaAnswer
answers place asked = answers_from no_volumes place asked

abbrev pub by_first : MetaReq → Asked
by_first request = record { who = first; request = request }

abbrev pub by_other : MetaReq → Asked
by_other request = record { who = other; request = request }

-- the root, a volume, and what is there
abbrev pub mkdir : List ℕ → MetaReq
mkdir path = ask.Mkdir path 493

abbrev pub create : List ℕ → MetaReq
create path = ask.Create path 420 kind.Replicated 2 4096

abbrev pub refused : MetaAnswer
refused = answer.Refused refusal.NameBad

-- a volume is made once; without OSDs no file is; another asker may not write there; the volume's row is reported
abbrev pub first_steps : List Asked
first_steps =
    by_first (mkdir (codes "/v")) ∷ by_first (mkdir (codes "/v")) ∷ by_first (create (codes "/v/a")) ∷ by_other (mkdir (codes "/v/d")) ∷ by_first (ask.Stat (codes "/v")) ∷ []

abbrev pub first_answers : List MetaAnswer
first_answers =
    answer.Done ∷ answer.Refused refusal.Exists ∷ answer.Refused (refusal.TooFew 0) ∷ answer.Refused (refusal.Forbidden 2)
    ∷ answer.Row row_kind.Directory 1 1 493 (record { epoch = 0; size = 0 })
    ∷ []

-- one dot, two dots, no name, no name at the end, a byte 0, no slash, the root, a file that is a volume
abbrev pub bad_paths : List Asked
bad_paths =
    by_first (mkdir (codes "/v/.")) ∷ by_first (mkdir (codes "/v/..")) ∷ by_first (mkdir (codes "/v//a")) ∷ by_first (mkdir (codes "/v/")) ∷ by_first (ask.Mkdir (47 ∷ 118 ∷ 0 ∷ []) 493)
    ∷ by_first (mkdir (codes "v"))
    ∷ by_first (mkdir (codes "/"))
    ∷ by_first (create (codes "/v"))
    ∷ []

-- a name of so many bytes, and a path of so many names
abbrev pub long_name : ℕ → List ℕ
long_name length = 47 ∷ replicate length 97

abbrev pub names_deep : List (List ℕ) → List ℕ
names_deep [] = []
names_deep (name ∷ names) = 47 ∷ name ++ names_deep names

abbrev pub deep_path : ℕ → List ℕ
deep_path names = names_deep (replicate names (97 ∷ []))

-- a name of 255 bytes is one, one of 256 isn't; 16 names are a path, whose first one isn't there, and 17 aren't
abbrev pub long_paths : List Asked
long_paths =
    by_first (ask.Mkdir (long_name 255) 493) ∷ by_first (ask.Mkdir (long_name 256) 493) ∷ by_first (ask.Mkdir (deep_path 16) 493)
    ∷ by_first (ask.Mkdir (deep_path 17) 493)
    ∷ []

abbrev pub long_answers : List MetaAnswer
long_answers = answer.Done ∷ refused ∷ answer.Refused refusal.NotFound ∷ refused ∷ []

-- a directory with a file goes elsewhere with it: not into itself, not below itself, not to another volume, and not where
-- something is
abbrev pub renames : List Asked
renames =
    by_first (mkdir (codes "/v")) ∷ by_first (mkdir (codes "/w")) ∷ by_first (mkdir (codes "/v/d")) ∷ by_first (create (codes "/v/d/f")) ∷ by_first (mkdir (codes "/v/z"))
    ∷ by_first (ask.Rename (codes "/v/d") (codes "/v/d"))
    ∷ by_first (ask.Rename (codes "/v/d") (codes "/v/d/e"))
    ∷ by_first (ask.Rename (codes "/v/d") (codes "/w/d"))
    ∷ by_first (ask.Rename (codes "/v/d") (codes "/v/z"))
    ∷ by_first (ask.Rename (codes "/v/d") (codes "/v/z/e"))
    ∷ by_first (ask.Stat (codes "/v/d/f"))
    ∷ by_first (ask.Stat (codes "/v/z/e/f"))
    ∷ by_first (ask.List (codes "/v/z") [])
    ∷ by_first (ask.List (codes "/") (codes "v"))
    ∷ by_first (ask.Rmdir (codes "/v/z/e"))
    ∷ by_first (ask.Unlink (codes "/v/z/e/f"))
    ∷ by_first (ask.Rmdir (codes "/v/z/e"))
    ∷ []

abbrev pub renames_answers : List MetaAnswer
renames_answers =
    answer.Done ∷ answer.Done ∷ answer.Done ∷ answer.Done ∷ answer.Done ∷ answer.Refused refusal.IntoSelf
    ∷ answer.Refused refusal.IntoSelf
    ∷ answer.Refused refusal.OtherVolume
    ∷ answer.Refused refusal.Exists
    ∷ answer.Done
    ∷ answer.Refused refusal.NotFound
    ∷ answer.Row row_kind.File 1 1 420 (record { epoch = 0; size = 0 })
    ∷ answer.Names ((101 ∷ []) ∷ [])
    ∷ answer.Names ((119 ∷ []) ∷ [])
    ∷ answer.Refused refusal.NotEmpty
    ∷ answer.Done
    ∷ answer.Done
    ∷ []
