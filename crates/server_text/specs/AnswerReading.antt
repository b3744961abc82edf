-- how an answer of the metadata server or the directory service is read, loosely, of what follows its name
use Rattle.std.specs.Prelude.{ℕ, Bool, ◌==◌, if◌then◌else◌, List, Option, Some, None, codes}
use Rattle.std.specs.Str.{bytes_eq}
use Rattle.xt_base.specs.declared.ids.NodeId.{NodeId}
use Rattle.xt_base.specs.declared.ids.SizeMark.{SizeMark}
use Rattle.xt_messages.specs.declared.reply.Denial.{Denial}
use Rattle.xt_messages.specs.declared.reply.Denial.TheVariants as denial
use Rattle.xt_messages.specs.declared.meta.MetaRefusal.{MetaRefusal}
use Rattle.xt_messages.specs.declared.meta.MetaRefusal.TheVariants as refusal
use Rattle.xt_messages.specs.declared.meta.RowKind.{RowKind}
use Rattle.xt_messages.specs.declared.meta.RowKind.TheVariants.{Directory, File}
use Rattle.xt_messages.specs.declared.registry.RegistryRow.{RegistryRow}
use Rattle.xt_messages.specs.declared.event.MetaOutcome.{MetaOutcome}
use Rattle.xt_messages.specs.declared.event.MetaOutcome.TheVariants as meta
use Rattle.xt_messages.specs.declared.event.RegistryOutcome.{RegistryOutcome}
use Rattle.xt_messages.specs.declared.event.RegistryOutcome.TheVariants as registry
use Rattle.server_text.specs.Reading.{first_word, other_words, number_at, mode_in, text_in, texts_in, node_of, nodes_in, members_at}

-- the denial of a number
unfoldable pub denial_of : ℕ → Denial
denial_of number =
    if number == 1 then denial.Tag
    else if number == 2 then denial.File
    else if number == 3 then denial.Expired
    else if number == 4 then denial.Mode
    else if number == 5 then denial.List
    else denial.Range

-- Answers of the MRC.

-- the refusal of this name, of those that are a word
unfoldable pub bare_refusal_in : List ℕ → MetaRefusal
bare_refusal_in name =
    if bytes_eq name (codes "notfound") then refusal.NotFound
    else if bytes_eq name (codes "exists") then refusal.Exists
    else if bytes_eq name (codes "notdir") then refusal.NotDir
    else if bytes_eq name (codes "isdir") then refusal.IsDir
    else if bytes_eq name (codes "notempty") then refusal.NotEmpty
    else if bytes_eq name (codes "intoself") then refusal.IntoSelf
    else if bytes_eq name (codes "othervolume") then refusal.OtherVolume
    else if bytes_eq name (codes "notreplicated") then refusal.NotReplicated
    else refusal.NameBad

unfoldable pub meta_refusal_in : List ℕ → List ℕ → MetaRefusal
meta_refusal_in name words =
    if bytes_eq name (codes "forbidden") then (
    let rule = number_at 8 words in
    refusal.Forbidden rule.0)
    else if bytes_eq name (codes "toofew") then (
    let have = number_at 8 words in
    refusal.TooFew have.0)
    else if bytes_eq name (codes "denied") then (
    let rule = number_at 64 words in
    refusal.Denied (denial_of rule.0))
    else if bytes_eq name (codes "changing") then (
    let version = number_at 32 words in
    refusal.Changing version.0)
    else if bytes_eq name (codes "unknownosd") then (
    let node = number_at 32 words in
    refusal.UnknownOsd (node_of node.0))
    else bare_refusal_in name

abbrev pub row_kind_in : List ℕ → RowKind
row_kind_in word = if bytes_eq word (codes "dir") then Directory else File

-- EPOCH SIZE
unfoldable pub mark_in : List ℕ → SizeMark
mark_in words =
    let epoch = number_at 64 words in
    let size = number_at 64 epoch.1 in
    record { epoch = epoch.0; size = size.0 }

unfoldable pub row_in : List ℕ → MetaOutcome
row_in words =
    let owner = number_at 32 (other_words words) in
    let group = number_at 32 owner.1 in
    meta.Row (row_kind_in (first_word words)) owner.0 group.0 (mode_in (first_word group.1)) (mark_in (other_words group.1))

unfoldable pub granted_in : List ℕ → MetaOutcome
granted_in words =
    let file = number_at 64 words in
    meta.Granted file.0 (mark_in file.1)

-- whether a file's list is being changed, by the word that says it
abbrev pub is_changing : List ℕ → Bool
is_changing word = bytes_eq word (codes "changing")

-- a file's list, where the nodes are members; else what isn't spelled so
abbrev pub located_as : ℕ → Bool → Option (List NodeId) → MetaOutcome
located_as version changing None = meta.Done
located_as version changing (Some members) = meta.Located version changing members

unfoldable pub located_in : List ℕ → MetaOutcome
located_in words =
    let version = number_at 32 words in
    located_as version.0 (is_changing (first_word version.1)) (members_at (other_words version.1))

-- the answer of this name
unfoldable pub meta_outcome_of : List ℕ → List ℕ → MetaOutcome
meta_outcome_of name words =
    if bytes_eq name (codes "ok") then meta.Done
    else if bytes_eq name (codes "names") then meta.Names (texts_in words)
    else if bytes_eq name (codes "row") then row_in words
    else if bytes_eq name (codes "granted") then granted_in words
    else if bytes_eq name (codes "located") then located_in words
    else meta.Refused (meta_refusal_in name words)

unfoldable pub meta_outcome_in : List ℕ → MetaOutcome
meta_outcome_in words = meta_outcome_of (first_word words) (other_words words)

-- Answers of the DIR.

unfoldable pub registry_row_in : List ℕ → RegistryRow
registry_row_in words =
    let node = number_at 32 words in
    let kind = number_at 8 node.1 in
    let version = number_at 64 (other_words kind.1) in
    record { node = node_of node.0; kind = kind.0; address = text_in (first_word kind.1); version = version.0 }

-- the answer of this name, of those that have a version
unfoldable pub versioned_in : List ℕ → List ℕ → RegistryOutcome
versioned_in name words =
    let version = number_at 64 words in
    if bytes_eq name (codes "ok") then registry.Done version.0 else registry.Changed version.0

-- the answer of this name
unfoldable pub registry_outcome_of : List ℕ → List ℕ → RegistryOutcome
registry_outcome_of name words =
    if bytes_eq name (codes "absent") then registry.Absent
    else if bytes_eq name (codes "row") then registry.Row (registry_row_in words)
    else if bytes_eq name (codes "rows") then registry.Rows (nodes_in words)
    else versioned_in name words

unfoldable pub registry_outcome_in : List ℕ → RegistryOutcome
registry_outcome_in words = registry_outcome_of (first_word words) (other_words words)
