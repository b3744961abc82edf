-- An answer of the metadata server or the directory service that was written is read.
use Rattle.std.proofs.Common.{◌≡◌, ℕ, ◌^◌, ◌<◌, ◌≤◌, Bool, true, false, List, [], ◌∷◌, map, refl, sym, ap, subst, ◌∙◌, arith}
use Rattle.std.specs.Prelude.{codes}
use Rattle.std.specs.List.{AllByRecursion}
use Rattle.std.specs.Fmt.{decimal}
use Rattle.xt_base.specs.declared.ids.NodeId.{NodeId}
use Rattle.xt_base.specs.declared.ids.SizeMark.{SizeMark}
use Rattle.xt_messages.specs.declared.reply.Denial.{Denial}
use Rattle.xt_messages.specs.declared.reply.Denial.TheVariants as denial
use Rattle.xt_messages.specs.declared.meta.MetaRefusal.{MetaRefusal}
use Rattle.xt_messages.specs.declared.meta.MetaRefusal.TheVariants as refusal
use Rattle.xt_messages.specs.declared.meta.RowKind.{RowKind}
use Rattle.xt_messages.specs.declared.meta.RowKind.TheVariants.{Directory, File}
use Rattle.xt_messages.specs.declared.registry.RegistryRow.{RegistryRow}
use Rattle.xt_messages.specs.declared.event.MetaOutcome.{MetaOutcome}
use Rattle.xt_messages.specs.declared.event.MetaOutcome.TheVariants as meta
use Rattle.xt_messages.specs.declared.event.RegistryOutcome.{RegistryOutcome}
use Rattle.xt_messages.specs.declared.event.RegistryOutcome.TheVariants as registry
use Rattle.xt_messages.specs.Limits.{FitsMembers, FitsMark, FitsMetaRefusal, FitsRow}
use Rattle.time_line.specs.Bounds.{FitsMetaOutcome, FitsRegistryOutcome}
use Rattle.server_text.specs.Words.{spaced, mode_word, node_words}
use Rattle.server_text.specs.AnswerText.{denial_number, meta_refusal_words, row_word, changing_word, meta_outcome_words, registry_outcome_words}
use Rattle.server_text.specs.Reading.{number_at, text_in, texts_in, node_of}
use Rattle.server_text.specs.AnswerReading.{denial_of, bare_refusal_in, meta_refusal_in, row_kind_in, mark_in, row_in, granted_in, is_changing, located_in, meta_outcome_of, meta_outcome_in, registry_row_in, versioned_in, registry_outcome_of, registry_outcome_in}
use Rattle.server_text.specs.Spellable.{IsAsciiWord, IsMode, IsSpellableMeta, IsSpellableRegistry}
use Rattle.server_text.proofs.AsciiWords.{text-IsWord, text_again}
use Rattle.server_text.proofs.ManyAgain.{IsReadAgain, all_again, nodes_again, nodes-AreWords, members_again}
use Rattle.server_text.proofs.RequestsAgain.{mode-IsWord, mode_again}
use Rattle.server_text.proofs.WordsAgain.{IsWord, IsWord-tested, decimal-IsWord, number_at_again, first_again, others_again}

-- the value of the first word
pub value_again : (bits n : ℕ) → n < 2 ^ bits → n < 10 ^ 64 → (number_at bits (spaced (decimal n ∷ []))).0 ≡ n
value_again bits n small wide = ap (λ (x : ℕ × List ℕ). x.0) (number_at_again bits n [] small wide)

pub denial_again : (rule : Denial) → denial_of (denial_number rule) ≡ rule
unfolding denial_of
denial_again denial.Tag = refl
denial_again denial.File = refl
denial_again denial.Expired = refl
denial_again denial.Mode = refl
denial_again denial.List = refl
denial_again denial.Range = refl

pub denial_small : (rule : Denial) → denial_number rule < 2 ^ 64
denial_small denial.Tag = omega arith
denial_small denial.File = omega arith
denial_small denial.Expired = omega arith
denial_small denial.Mode = omega arith
denial_small denial.List = omega arith
denial_small denial.Range = omega arith

-- Answers of the MRC.

-- the words of a refusal, the first of them apart

abbrev refusal_name : MetaRefusal → List ℕ
refusal_name refusal.NotFound = codes "notfound"
refusal_name refusal.Exists = codes "exists"
refusal_name refusal.NotDir = codes "notdir"
refusal_name refusal.IsDir = codes "isdir"
refusal_name refusal.NotEmpty = codes "notempty"
refusal_name refusal.IntoSelf = codes "intoself"
refusal_name refusal.OtherVolume = codes "othervolume"
refusal_name (refusal.Forbidden rule) = codes "forbidden"
refusal_name refusal.NameBad = codes "namebad"
refusal_name (refusal.TooFew have) = codes "toofew"
refusal_name (refusal.Denied rule) = codes "denied"
refusal_name (refusal.Changing version) = codes "changing"
refusal_name refusal.NotReplicated = codes "notreplicated"
refusal_name (refusal.UnknownOsd node) = codes "unknownosd"

abbrev refusal_values : MetaRefusal → List (List ℕ)
refusal_values (refusal.Forbidden rule) = decimal rule ∷ []
refusal_values (refusal.TooFew have) = decimal have ∷ []
refusal_values (refusal.Denied rule) = decimal (denial_number rule) ∷ []
refusal_values (refusal.Changing version) = decimal version ∷ []
refusal_values (refusal.UnknownOsd node) = decimal node.0 ∷ []
refusal_values _ = []

refusal_is : (why : MetaRefusal) → meta_refusal_words why ≡ refusal_name why ∷ refusal_values why
unfolding meta_refusal_words
refusal_is refusal.NotFound = refl
refusal_is refusal.Exists = refl
refusal_is refusal.NotDir = refl
refusal_is refusal.IsDir = refl
refusal_is refusal.NotEmpty = refl
refusal_is refusal.IntoSelf = refl
refusal_is refusal.OtherVolume = refl
refusal_is (refusal.Forbidden rule) = refl
refusal_is refusal.NameBad = refl
refusal_is (refusal.TooFew have) = refl
refusal_is (refusal.Denied rule) = refl
refusal_is (refusal.Changing version) = refl
refusal_is refusal.NotReplicated = refl
refusal_is (refusal.UnknownOsd node) = refl

refusal-IsWord : (why : MetaRefusal) → IsWord (refusal_name why)
refusal-IsWord refusal.NotFound = IsWord-tested (codes "notfound") refl
refusal-IsWord refusal.Exists = IsWord-tested (codes "exists") refl
refusal-IsWord refusal.NotDir = IsWord-tested (codes "notdir") refl
refusal-IsWord refusal.IsDir = IsWord-tested (codes "isdir") refl
refusal-IsWord refusal.NotEmpty = IsWord-tested (codes "notempty") refl
refusal-IsWord refusal.IntoSelf = IsWord-tested (codes "intoself") refl
refusal-IsWord refusal.OtherVolume = IsWord-tested (codes "othervolume") refl
refusal-IsWord (refusal.Forbidden rule) = IsWord-tested (codes "forbidden") refl
refusal-IsWord refusal.NameBad = IsWord-tested (codes "namebad") refl
refusal-IsWord (refusal.TooFew have) = IsWord-tested (codes "toofew") refl
refusal-IsWord (refusal.Denied rule) = IsWord-tested (codes "denied") refl
refusal-IsWord (refusal.Changing version) = IsWord-tested (codes "changing") refl
refusal-IsWord refusal.NotReplicated = IsWord-tested (codes "notreplicated") refl
refusal-IsWord (refusal.UnknownOsd node) = IsWord-tested (codes "unknownosd") refl

refusal-AreWords : (why : MetaRefusal) → FitsMetaRefusal why → AllByRecursion IsWord (refusal_values why)
refusal-AreWords refusal.NotFound fits = tt
refusal-AreWords refusal.Exists fits = tt
refusal-AreWords refusal.NotDir fits = tt
refusal-AreWords refusal.IsDir fits = tt
refusal-AreWords refusal.NotEmpty fits = tt
refusal-AreWords refusal.IntoSelf fits = tt
refusal-AreWords refusal.OtherVolume fits = tt
refusal-AreWords (refusal.Forbidden rule) (low, high) = (decimal-IsWord rule (omega arith), tt)
refusal-AreWords refusal.NameBad fits = tt
refusal-AreWords (refusal.TooFew have) fits = (decimal-IsWord have (omega arith), tt)
refusal-AreWords (refusal.Denied rule) fits = (let small = denial_small rule in decimal-IsWord _ (omega arith), tt)
refusal-AreWords (refusal.Changing version) fits = (decimal-IsWord version (omega arith), tt)
refusal-AreWords refusal.NotReplicated fits = tt
refusal-AreWords (refusal.UnknownOsd node) fits = (decimal-IsWord node.0 (omega arith), tt)

refusal_again : (why : MetaRefusal) → FitsMetaRefusal why → meta_outcome_of (refusal_name why) (spaced (refusal_values why)) ≡ meta.Refused why
unfolding meta_outcome_of meta_refusal_in bare_refusal_in
refusal_again refusal.NotFound fits = refl
refusal_again refusal.Exists fits = refl
refusal_again refusal.NotDir fits = refl
refusal_again refusal.IsDir fits = refl
refusal_again refusal.NotEmpty fits = refl
refusal_again refusal.IntoSelf fits = refl
refusal_again refusal.OtherVolume fits = refl
refusal_again (refusal.Forbidden rule) (low, high) =
    ap (λ (x : ℕ). meta.Refused (refusal.Forbidden x)) (value_again 8 rule (omega arith) (omega arith))
refusal_again refusal.NameBad fits = refl
refusal_again (refusal.TooFew have) fits = ap (λ (x : ℕ). meta.Refused (refusal.TooFew x)) (value_again 8 have (omega arith) (omega arith))
refusal_again (refusal.Denied rule) fits =
    let small = denial_small rule in
    ap (λ (x : ℕ). meta.Refused (refusal.Denied (denial_of x))) (value_again 64 (denial_number rule) small (omega arith))
    ∙ ap (λ (r : Denial). meta.Refused (refusal.Denied r)) (denial_again rule)
refusal_again (refusal.Changing version) fits = ap (λ (x : ℕ). meta.Refused (refusal.Changing x)) (value_again 32 version (omega arith) (omega arith))
refusal_again refusal.NotReplicated fits = refl
refusal_again (refusal.UnknownOsd node) fits = ap (λ (x : ℕ). meta.Refused (refusal.UnknownOsd (node_of x))) (value_again 32 node.0 fits (omega arith))

changing-IsWord : (changing : Bool) → IsWord (changing_word changing)
changing-IsWord true = IsWord-tested (codes "changing") refl
changing-IsWord false = IsWord-tested (codes "still") refl

changing_again : (changing : Bool) → is_changing (changing_word changing) ≡ changing
changing_again true = refl
changing_again false = refl

row_kind-IsWord : (kind : RowKind) → IsWord (row_word kind)
row_kind-IsWord Directory = IsWord-tested (codes "dir") refl
row_kind-IsWord File = IsWord-tested (codes "file") refl

row_kind_again : (kind : RowKind) → row_kind_in (row_word kind) ≡ kind
row_kind_again Directory = refl
row_kind_again File = refl

mark_again : (mark : SizeMark) → FitsMark mark → mark_in (spaced (decimal mark.epoch ∷ decimal mark.size ∷ [])) ≡ mark
unfolding mark_in
mark_again mark fits =
    let truncation = fits.truncation in
    let bytes = fits.bytes in
    rw (
      number_at_again 64 mark.epoch (decimal mark.size ∷ []) (omega arith) (omega arith),
      number_at_again 64 mark.size [] (omega arith) (omega arith),
    ) refl

row_again : (kind : RowKind) (owner group mode : ℕ) (mark : SizeMark) → owner < 2 ^ 32 → group < 2 ^ 32 → IsMode mode → FitsMark mark
    → row_in (spaced (row_word kind ∷ decimal owner ∷ decimal group ∷ mode_word mode ∷ decimal mark.epoch ∷ decimal mark.size ∷ [])) ≡ meta.Row kind owner group mode mark
unfolding row_in
row_again kind owner group mode mark p q small fits =
    rw (
      first_again (row_word kind) (decimal owner ∷ decimal group ∷ mode_word mode ∷ decimal mark.epoch ∷ decimal mark.size ∷ []) (row_kind-IsWord kind),
      others_again (row_word kind) (decimal owner ∷ decimal group ∷ mode_word mode ∷ decimal mark.epoch ∷ decimal mark.size ∷ []) (row_kind-IsWord kind),
      number_at_again 32 owner (decimal group ∷ mode_word mode ∷ decimal mark.epoch ∷ decimal mark.size ∷ []) p (omega arith),
      number_at_again 32 group (mode_word mode ∷ decimal mark.epoch ∷ decimal mark.size ∷ []) q (omega arith),
      first_again (mode_word mode) (decimal mark.epoch ∷ decimal mark.size ∷ []) (mode-IsWord mode),
      others_again (mode_word mode) (decimal mark.epoch ∷ decimal mark.size ∷ []) (mode-IsWord mode),
      row_kind_again kind,
      mode_again mode small,
      mark_again mark fits,
    ) refl

granted_again : (file : ℕ) (mark : SizeMark) → file < 2 ^ 64 → FitsMark mark
    → granted_in (spaced (decimal file ∷ decimal mark.epoch ∷ decimal mark.size ∷ [])) ≡ meta.Granted file mark
unfolding granted_in
granted_again file mark p fits =
    rw (number_at_again 64 file (decimal mark.epoch ∷ decimal mark.size ∷ []) p (omega arith), mark_again mark fits) refl

located_again : (version : ℕ) (changing : Bool) (members : List NodeId) → version < 2 ^ 32 → FitsMembers members
    → located_in (spaced (decimal version ∷ changing_word changing ∷ node_words members)) ≡ meta.Located version changing members
unfolding located_in
located_again version changing members p fits =
    rw (
      number_at_again 32 version (changing_word changing ∷ node_words members) p (omega arith),
      first_again (changing_word changing) (node_words members) (changing-IsWord changing),
      others_again (changing_word changing) (node_words members) (changing-IsWord changing),
      changing_again changing,
      members_again members fits,
    ) refl

name_is : (name : List ℕ) → IsAsciiWord name → IsReadAgain text_in (λ (n : List ℕ). n) name
name_is name word = record { is_word = text-IsWord name word; some = word.some; again = text_again name word }

names_are : (names : List (List ℕ)) → AllByRecursion IsAsciiWord names → AllByRecursion (IsReadAgain text_in (λ (n : List ℕ). n)) names
names_are [] all = tt
names_are (name ∷ names) all = (name_is name all.0, names_are names all.1)

same_names : (names : List (List ℕ)) → map (λ (n : List ℕ). n) names ≡ names
same_names [] = refl
same_names (name ∷ names) = ap (λ (ns : List (List ℕ)). name ∷ ns) (same_names names)

names_again : (names : List (List ℕ)) → AllByRecursion IsAsciiWord names → texts_in (spaced names) ≡ names
unfolding texts_in
names_again names all = rw same_names at (all_again text_in (λ (n : List ℕ). n) names (names_are names all))

names-AreWords : (names : List (List ℕ)) → AllByRecursion IsAsciiWord names → AllByRecursion IsWord names
names-AreWords [] all = tt
names-AreWords (name ∷ names) all = (text-IsWord name all.0, names-AreWords names all.1)

-- an answer by a name
told_again : (name : List ℕ) (values : List (List ℕ)) (told : MetaOutcome) → IsWord name → meta_outcome_of name (spaced values) ≡ told
    → meta_outcome_in (spaced (name ∷ values)) ≡ told
unfolding meta_outcome_in
told_again name values told word again = rw (first_again name values word, others_again name values word) again

-- an answer of the MRC that was written is read
pub meta_again : (told : MetaOutcome) → IsSpellableMeta told → FitsMetaOutcome told → meta_outcome_in (spaced (meta_outcome_words told)) ≡ told
unfolding meta_outcome_words meta_outcome_of
meta_again meta.Done spelled fits = told_again (codes "ok") [] _ (IsWord-tested (codes "ok") refl) refl
meta_again (meta.Refused why) spelled fits =
    ap (λ (words : List (List ℕ)). meta_outcome_in (spaced words)) (refusal_is why)
    ∙ told_again (refusal_name why) (refusal_values why) _ (refusal-IsWord why) (refusal_again why fits)
meta_again (meta.Names names) all fits =
    told_again (codes "names") names _ (IsWord-tested (codes "names") refl) (ap meta.Names (names_again names all))
meta_again (meta.Row kind owner group mode mark) small (p, q, r, fits) =
    told_again (codes "row") (row_word kind ∷ decimal owner ∷ decimal group ∷ mode_word mode ∷ decimal mark.epoch ∷ decimal mark.size ∷ []) _
    (IsWord-tested (codes "row") refl) (row_again kind owner group mode mark p q small fits)
meta_again (meta.Granted file mark) spelled (p, fits) =
    told_again (codes "granted") (decimal file ∷ decimal mark.epoch ∷ decimal mark.size ∷ []) _ (IsWord-tested (codes "granted") refl) (granted_again file mark p fits)
meta_again (meta.Located version changing members) spelled (p, fits) =
    told_again (codes "located") (decimal version ∷ changing_word changing ∷ node_words members) _ (IsWord-tested (codes "located") refl) (located_again version changing members (omega arith) fits)

-- Answers of the DIR.

registry_row_again : (r : RegistryRow) → IsAsciiWord r.address → FitsRow r
    → registry_row_in (spaced (decimal r.node.0 ∷ decimal r.kind ∷ r.address ∷ decimal r.version ∷ [])) ≡ r
unfolding registry_row_in
registry_row_again r word fits =
    let whole = text-IsWord r.address word in
    let changes = fits.changes in
    rw (
      number_at_again 32 r.node.0 (decimal r.kind ∷ r.address ∷ decimal r.version ∷ []) fits.which (omega (arith, fits.which)),
      number_at_again 8 r.kind (r.address ∷ decimal r.version ∷ []) fits.sort (omega (arith, fits.sort)),
      first_again r.address (decimal r.version ∷ []) whole,
      others_again r.address (decimal r.version ∷ []) whole,
      number_at_again 64 r.version [] (omega arith) (omega arith),
      text_again r.address word,
    ) refl

listed_again : (name : List ℕ) (values : List (List ℕ)) (told : RegistryOutcome) → IsWord name → registry_outcome_of name (spaced values) ≡ told
    → registry_outcome_in (spaced (name ∷ values)) ≡ told
unfolding registry_outcome_in
listed_again name values told word again = rw (first_again name values word, others_again name values word) again

-- an answer of the DIR that was written is read
pub registry_again : (told : RegistryOutcome) → IsSpellableRegistry told → FitsRegistryOutcome told → registry_outcome_in (spaced (registry_outcome_words told)) ≡ told
unfolding registry_outcome_words registry_outcome_of versioned_in
registry_again (registry.Done version) spelled small =
    listed_again (codes "ok") (decimal version ∷ []) _ (IsWord-tested (codes "ok") refl) (ap registry.Done (value_again 64 version (omega arith) (omega arith)))
registry_again (registry.Changed version) spelled small =
    listed_again (codes "changed") (decimal version ∷ []) _ (IsWord-tested (codes "changed") refl) (ap registry.Changed (value_again 64 version (omega arith) (omega arith)))
registry_again registry.Absent spelled fits = listed_again (codes "absent") [] _ (IsWord-tested (codes "absent") refl) refl
registry_again (registry.Row r) word fits =
    listed_again (codes "row") (decimal r.node.0 ∷ decimal r.kind ∷ r.address ∷ decimal r.version ∷ []) _ (IsWord-tested (codes "row") refl)
    (ap registry.Row (registry_row_again r word fits))
registry_again (registry.Rows nodes) spelled fits =
    listed_again (codes "rows") (node_words nodes) _ (IsWord-tested (codes "rows") refl) (ap registry.Rows (nodes_again nodes fits.each))

-- Each word of an answer is one.

mark-AreWords : (mark : SizeMark) → FitsMark mark → AllByRecursion IsWord (decimal mark.epoch ∷ decimal mark.size ∷ [])
mark-AreWords mark fits =
    let truncation = fits.truncation in
    let bytes = fits.bytes in
    (decimal-IsWord mark.epoch (omega arith), (decimal-IsWord mark.size (omega arith), tt))

pub meta-AreWords : (told : MetaOutcome) → IsSpellableMeta told → FitsMetaOutcome told → AllByRecursion IsWord (meta_outcome_words told)
unfolding meta_outcome_words
meta-AreWords meta.Done spelled fits = (IsWord-tested (codes "ok") refl, tt)
meta-AreWords (meta.Refused why) spelled fits =
    subst (λ (words : List (List ℕ)). AllByRecursion IsWord words) (sym (refusal_is why)) (refusal-IsWord why, refusal-AreWords why fits)
meta-AreWords (meta.Names names) all fits = (IsWord-tested (codes "names") refl, names-AreWords names all)
meta-AreWords (meta.Row kind owner group mode mark) small (p, q, r, fits) =
    (IsWord-tested (codes "row") refl, (row_kind-IsWord kind, (decimal-IsWord owner (omega arith), (decimal-IsWord group (omega arith), (mode-IsWord mode, mark-AreWords mark fits)))))
meta-AreWords (meta.Granted file mark) spelled (p, fits) =
    (IsWord-tested (codes "granted") refl, (decimal-IsWord file (omega arith), mark-AreWords mark fits))
meta-AreWords (meta.Located version changing members) spelled (p, fits) =
    (IsWord-tested (codes "located") refl, (decimal-IsWord version (omega arith), (changing-IsWord changing, nodes-AreWords members fits.each)))

pub registry-AreWords : (told : RegistryOutcome) → IsSpellableRegistry told → FitsRegistryOutcome told → AllByRecursion IsWord (registry_outcome_words told)
unfolding registry_outcome_words
registry-AreWords (registry.Done version) spelled small = (IsWord-tested (codes "ok") refl, (decimal-IsWord version (omega arith), tt))
registry-AreWords (registry.Changed version) spelled small = (IsWord-tested (codes "changed") refl, (decimal-IsWord version (omega arith), tt))
registry-AreWords registry.Absent spelled fits = (IsWord-tested (codes "absent") refl, tt)
registry-AreWords (registry.Row r) word fits =
    let which = fits.which in
    let sort = fits.sort in
    let changes = fits.changes in
    (IsWord-tested (codes "row") refl, (decimal-IsWord r.node.0 (omega arith), (decimal-IsWord r.kind (omega arith), (text-IsWord r.address word, (decimal-IsWord r.version (omega arith), tt)))))
registry-AreWords (registry.Rows nodes) spelled fits = (IsWord-tested (codes "rows") refl, nodes-AreWords nodes fits.each)
