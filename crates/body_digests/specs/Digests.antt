-- the digests of bodies among records, by file and version
use Rattle.std.specs.Prelude.{ℕ, ◌≡◌, Option, Some, None, List, []}
use Rattle.std.specs.BTreeMap.{BTreeMap, get}
use Rattle.std.proofs.Common.{Vec, Global}
use Rattle.xt_base.specs.declared.ids.FileId.{FileId}
use Rattle.xt_base.specs.declared.ids.Stamp.{Stamp}
use Rattle.xt_messages.specs.declared.file.ObjectVersion.{ObjectVersion}
use Rattle.xt_messages.specs.declared.record.Record.{Record}
use Rattle.xt_protocol.specs.FileIds.{file_cmp}
use Rattle.xt_protocol.specs.Folds.{body_of, digests_kept}
use Rattle.xt_protocol.specs.VersionOrder.{version_cmp}
use Rattle.body_digests.specs.declared.digests.Digests.{Digests}

abbrev pub digests_or_none : Option (Vec (List ℕ) Global) → List (List ℕ)
digests_or_none None = []
digests_or_none (Some digests) = digests.items

-- those of a version of a file's object
abbrev pub digests_under : BTreeMap ObjectVersion (Vec (List ℕ) Global) → ObjectVersion → List (List ℕ)
digests_under bodies v = digests_or_none (get version_cmp bodies v)

abbrev pub under_or_none : Option (BTreeMap ObjectVersion (Vec (List ℕ) Global)) → ObjectVersion → List (List ℕ)
under_or_none None v = []
under_or_none (Some bodies) v = digests_under bodies v

abbrev pub digests_in : Digests → FileId → ObjectVersion → List (List ℕ)
digests_in digests file v = under_or_none (get file_cmp digests.files file) v

-- They are those that these records keep.
pub record AreDigestsIn (digests : Digests) (records : List Record) : Type 0 where
  pub each : (file : FileId) (object : ℕ) (version : Stamp) → digests_in digests file (body_of object version) ≡ digests_kept records file object version
