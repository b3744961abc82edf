-- what the metadata server and the directory service answer, in words
use Rattle.std.specs.Prelude.{ℕ, Bool, true, false, List, [], ◌∷◌, codes}
use Rattle.std.specs.Fmt.{decimal}
use Rattle.xt_messages.specs.declared.reply.Denial.{Denial}
use Rattle.xt_messages.specs.declared.reply.Denial.TheVariants as denial
use Rattle.xt_messages.specs.declared.meta.MetaRefusal.{MetaRefusal}
use Rattle.xt_messages.specs.declared.meta.MetaRefusal.TheVariants as refusal
use Rattle.xt_messages.specs.declared.meta.RowKind.{RowKind}
use Rattle.xt_messages.specs.declared.meta.RowKind.TheVariants.{Directory, File}
use Rattle.xt_messages.specs.declared.event.MetaOutcome.{MetaOutcome}
use Rattle.xt_messages.specs.declared.event.MetaOutcome.TheVariants as meta
use Rattle.xt_messages.specs.declared.event.RegistryOutcome.{RegistryOutcome}
use Rattle.xt_messages.specs.declared.event.RegistryOutcome.TheVariants as registry
use Rattle.server_text.specs.Words.{mode_word, node_words}

-- the number of a denial
abbrev pub denial_number : Denial → ℕ
denial_number denial.Tag = 1
denial_number denial.File = 2
denial_number denial.Expired = 3
denial_number denial.Mode = 4
denial_number denial.List = 5
denial_number denial.Range = 6

-- the MRC's refusal in lower case, with its number
unfoldable pub meta_refusal_words : MetaRefusal → List (List ℕ)
meta_refusal_words refusal.NotFound = codes "notfound" ∷ []
meta_refusal_words refusal.Exists = codes "exists" ∷ []
meta_refusal_words refusal.NotDir = codes "notdir" ∷ []
meta_refusal_words refusal.IsDir = codes "isdir" ∷ []
meta_refusal_words refusal.NotEmpty = codes "notempty" ∷ []
meta_refusal_words refusal.IntoSelf = codes "intoself" ∷ []
meta_refusal_words refusal.OtherVolume = codes "othervolume" ∷ []
meta_refusal_words (refusal.Forbidden rule) = codes "forbidden" ∷ decimal rule ∷ []
meta_refusal_words refusal.NameBad = codes "namebad" ∷ []
meta_refusal_words (refusal.TooFew have) = codes "toofew" ∷ decimal have ∷ []
meta_refusal_words (refusal.Denied rule) = codes "denied" ∷ decimal (denial_number rule) ∷ []
meta_refusal_words (refusal.Changing version) = codes "changing" ∷ decimal version ∷ []
meta_refusal_words refusal.NotReplicated = codes "notreplicated" ∷ []
meta_refusal_words (refusal.UnknownOsd node) = codes "unknownosd" ∷ decimal node.0 ∷ []

-- dir or file
abbrev pub row_word : RowKind → List ℕ
row_word Directory = codes "dir"
row_word File = codes "file"

-- changing while a file's list is being changed, else still
abbrev pub changing_word : Bool → List ℕ
changing_word true = codes "changing"
changing_word false = codes "still"

-- ok, a refusal, names and the names, row dir|file OWNER GROUP MODE EPOCH SIZE, granted F EPOCH SIZE,
-- located VERSION still|changing NODES
unfoldable pub meta_outcome_words : MetaOutcome → List (List ℕ)
meta_outcome_words meta.Done = codes "ok" ∷ []
meta_outcome_words (meta.Refused why) = meta_refusal_words why
meta_outcome_words (meta.Names names) = codes "names" ∷ names
meta_outcome_words (meta.Row kind owner group mode mark) =
    codes "row" ∷ row_word kind ∷ decimal owner ∷ decimal group ∷ mode_word mode ∷ decimal mark.epoch ∷ decimal mark.size ∷ []
meta_outcome_words (meta.Granted file mark) = codes "granted" ∷ decimal file ∷ decimal mark.epoch ∷ decimal mark.size ∷ []
meta_outcome_words (meta.Located version changing members) =
    codes "located" ∷ decimal version ∷ changing_word changing ∷ node_words members

-- ok V, changed V, absent, row NODE KIND ADDR V, rows and the nodes
unfoldable pub registry_outcome_words : RegistryOutcome → List (List ℕ)
registry_outcome_words (registry.Done version) = codes "ok" ∷ decimal version ∷ []
registry_outcome_words (registry.Changed version) = codes "changed" ∷ decimal version ∷ []
registry_outcome_words registry.Absent = codes "absent" ∷ []
registry_outcome_words (registry.Row row) =
    codes "row" ∷ decimal row.node.0 ∷ decimal row.kind ∷ row.address ∷ decimal row.version ∷ []
registry_outcome_words (registry.Rows nodes) = codes "rows" ∷ node_words nodes
