-- the seals of new bodies: they are within their limits, and say nothing of any file
use Rattle.std.proofs.Common.{◌≡◌, ◌∙◌, ◌<◌, ◌+◌, ℕ, zero, suc, Bool, true, false, cond, Option, Some, None, List, [], ◌∷◌, ◌++◌, length, take, get_or, append-nil, append_assoc, refl, sym, ap, subst, arith}
use Rattle.std.specs.Prelude.{Contains, slice_index}
use Rattle.std.specs.Str.{bytes_eq}
use Rattle.std.specs.Int.{to_be_bytes, w32}
use Rattle.std.specs.List.{All, AllByRecursion}
use Rattle.std.proofs.lemmas.List.{length-take-le, take_more}
use Rattle.std.proofs.lemmas.List.Elements.{All-nil, All-cons, All-append, All-contains_itself, All-head, All-tail, All-weaker, recursion_from_All}
use Rattle.sha2.specs.Sha256.{digest_bytes, sha256}
use Rattle.sha2.proofs.Facts256.{length-sha256}
use Rattle.xt_base.specs.FieldLimits.{FitsTag}
use Rattle.xt_messages.specs.Limits.{FitsFile, FitsRecord, FitsStamp, FitsVersion, IsObject}
use Rattle.xt_messages.specs.declared.file.ObjectVersion.{ObjectVersion}
use Rattle.xt_messages.specs.declared.record.FileRow.{FileRow}
use Rattle.xt_messages.specs.declared.record.Folded.{Folded}
use Rattle.xt_messages.specs.declared.record.Record.{Record}
use Rattle.xt_messages.specs.declared.record.Record.TheVariants as kept
use Rattle.xt_protocol.specs.Folds.{fold_of, logged_of, IsInPlace}
use Rattle.replica_records.specs.Known.{as_known, known_of}
use Rattle.object_store.specs.Texts.{AreRecords}
use Rattle.client_limits.proofs.Bytes.{Each, are_bytes, each-append, each-word}
use Rattle.world_limits.specs.States.{RowIs}
use Rattle.world_limits.proofs.Kept.{kept_so}
use Rattle.scrub.specs.declared.found.Found.{Found}
use Rattle.scrub.specs.declared.found.Found.TheVariants as found
use Rattle.scrub.specs.declared.listing.Item.{Item}
use Rattle.scrub.specs.Items.{item_of, items_of}
use Rattle.scrub.specs.Laws.{IsAmong, IsOfItems, ScrubsSayNothing}
use Rattle.scrub.specs.Report.{body_of_item, found_by, seals_for, seals_of}
use Rattle.scrub.proofs.There.{each_item}
use Rattle.scrub_job.specs.Checked.{items_in, AreFound, HasFound, IsFound}
use Rattle.scrub_job.specs.Sealing.{IsSeal}
use Rattle.scrub_job.specs.declared.checking.Findings.{Findings}

-- ---- one seal

seal_known : (told : Bool) (rec : Record) → IsSeal rec → as_known told rec ≡ rec
seal_known true rec is = refl
seal_known false (kept.Seal file object version digest) is = refl
seal_known false _ is = absurd is

pub seals_known : (told : Bool) (seals : List Record) → All IsSeal seals → known_of told seals ≡ seals
seals_known told [] all = refl
seals_known told (seal ∷ seals) all =
    (λ i. seal_known told seal (All-head IsSeal seal seals all) i ∷ seals_known told seals (All-tail IsSeal seal seals all) i)

pub seal_placed : (folded : Folded) (rec : Record) → IsSeal rec → IsInPlace folded rec
seal_placed folded (kept.Seal file object version digest) is = tt
seal_placed folded _ is = absurd is

-- ---- they are within their limits

each-digest : (h : List ℕ) (n : ℕ) → Each (digest_bytes h n)
unfolding digest_bytes
each-digest h zero = tt
each-digest h (suc n) = each-append (digest_bytes h n) (to_be_bytes w32 (slice_index h n)) (each-digest h n) (each-word (slice_index h n))

each-sha256 : (m : List ℕ) → Each (sha256 m)
unfolding sha256
each-sha256 m = each-digest _ 8

digest_fits : (m : List ℕ) → FitsTag (sha256 m)
digest_fits m = record { all = are_bytes (sha256 m) (each-sha256 m); whole = length-sha256 m }

record FitsItem (item : Item) : Type 0 where
  pub which : FitsFile item.file
  pub meant : IsObject item.object
  pub write : FitsStamp item.version

-- the version of a head is within its limits
version_fits : (versions : List ObjectVersion) (v : ObjectVersion) → AllByRecursion FitsVersion versions → Contains versions v → FitsVersion v
version_fits [] v all (k, lt, is) = absurd (omega arith)
version_fits (w ∷ vs) v all (zero, lt, is) = subst FitsVersion is all.0
version_fits (w ∷ vs) v all (suc k, lt, is) = version_fits vs v all.1 (k, omega arith, is)

row_fits : (rows : List FileRow) (row : FileRow) → AllByRecursion RowIs rows → Contains rows row → RowIs row
row_fits [] row all (k, lt, is) = absurd (omega arith)
row_fits (r ∷ rs) row all (zero, lt, is) = subst RowIs is all.0
row_fits (r ∷ rs) row all (suc k, lt, is) = row_fits rs row all.1 (k, omega arith, is)

items_fit : (records : List Record) → AreRecords records → All FitsItem (items_in records)
unfolding items_of
items_fit records are =
    let rows = (kept_so records (record { limits = recursion_from_All FitsRecord records are.fit; places = are.placed })).rows in
    each_item records FitsItem (fold_of records).files
    (λ row among v named.
    let is = row_fits (fold_of records).files row rows among in
    let fits = version_fits row.head.versions v is.stands.objects.each named in
    record { which = is.which; meant = fits.which; write = fits.write })

-- what is found of an item has seals within their limits
one_fits : (told : Bool) (known : List Record) (item : Item) (of : Found) → FitsItem item → IsFound told known item of → All FitsRecord (seals_for item of)
one_fits told known item of fits is = subst (λ (f : Found). All FitsRecord (seals_for item f)) (sym is.is) (at item.seal)
  where
    bytes : List ℕ
    bytes = body_of_item is.seen item

    kept_or_not : (same : Bool) → All FitsRecord (seals_for item (cond same found.Good found.Damaged))
    kept_or_not true = All-nil FitsRecord
    kept_or_not false = All-nil FitsRecord

    at : (seal : Option (List ℕ)) → All FitsRecord (seals_for item (found_by seal (sha256 bytes)))
    at None =
        All-cons FitsRecord (kept.Seal item.file item.object item.version (sha256 bytes)) []
        (fits.which, fits.meant, fits.write, digest_fits bytes) (All-nil FitsRecord)
    at (Some seal) = kept_or_not (bytes_eq (sha256 bytes) seal)

all_fit : (told : Bool) (known : List Record) (items : List Item) (report : List Found) → All FitsItem items → AreFound told known items report
    → All FitsRecord (seals_of items report)
all_fit told known [] report fit all = All-nil FitsRecord
all_fit told known (item ∷ items) [] fit all = absurd all
all_fit told known (item ∷ items) (f ∷ report) fit all =
    All-append FitsRecord (seals_for item f) (seals_of items report)
    (one_fits told known item f (All-head FitsItem item items fit) all.0)
    (all_fit told known items report (All-tail FitsItem item items fit) all.1)

seals_fit : (told : Bool) (known : List Record) (report : List Found) → AreRecords known → AreFound told known (items_in known) report
    → All FitsRecord (seals_of (items_in known) report)
seals_fit told known report are all = all_fit told known (items_in known) report (items_fit known are) all

-- ---- they are seals of the items

record SealsOf (items : List Item) (rec : Record) : Type 0 where
  pub seal : IsSeal rec
  pub of : IsOfItems items rec

one_of : (all : List Item) (item : Item) (of : Found) → Contains all item → All (SealsOf all) (seals_for item of)
one_of all item (found.New digest) among =
    All-cons (SealsOf all) (kept.Seal item.file item.object item.version digest) [] (record { seal = tt; of = (item.seal, among) }) (All-nil (SealsOf all))
one_of all item found.Good among = All-nil (SealsOf all)
one_of all item found.Damaged among = All-nil (SealsOf all)

all_of : (all items : List Item) (report : List Found) → All (Contains all) items → All (SealsOf all) (seals_of items report)
all_of all [] report among = All-nil (SealsOf all)
all_of all (item ∷ items) [] among = All-nil (SealsOf all)
all_of all (item ∷ items) (f ∷ report) among =
    All-append (SealsOf all) (seals_for item f) (seals_of items report)
    (one_of all item f (All-head (Contains all) item items among))
    (all_of all items report (All-tail (Contains all) item items among))

seals_are : (items : List Item) (report : List Found) → All IsSeal (seals_of items report)
seals_are items report =
    All-weaker (SealsOf items) IsSeal (λ rec is. is.seal) (seals_of items report) (all_of items items report (All-contains_itself items))

-- those of a body more come after them
seals_append : (items more : List Item) (report next : List Found) → length report ≡ length items
    → seals_of (items ++ more) (report ++ next) ≡ seals_of items report ++ seals_of more next
seals_append [] more [] next same = refl
seals_append [] more (f ∷ report) next same = absurd (omega (arith, same))
seals_append (item ∷ items) more [] next same = absurd (omega (arith, same))
seals_append (item ∷ items) more (f ∷ report) next same =
    ap (λ (seals : List Record). seals_for item f ++ seals) (seals_append items more report next (omega (arith, same)))
    ∙ sym (append_assoc (seals_for item f) (seals_of items report) (seals_of more next))

pub seals_next : (items : List Item) (report : List Found) (i : ℕ) (item : Item) (of : Found) → i < length items → length report ≡ length items
    → item ≡ get_or items i item → of ≡ get_or report i of
    → seals_of (take (i + 1) items) (take (i + 1) report) ≡ seals_of (take i items) (take i report) ++ seals_for item of
seals_next items report i item of inside same at by =
    let front : length (take i items) ≡ i = length-take-le i items (omega (arith, inside)) in
    let other : length (take i report) ≡ i = length-take-le i report (omega (arith, inside, same)) in
    (λ k. seals_of (more_items k) (more_report k))
    ∙ seals_append (take i items) (item ∷ []) (take i report) (of ∷ []) (other ∙ sym front)
    ∙ ap (λ (seals : List Record). seals_of (take i items) (take i report) ++ seals) (append-nil (seals_for item of))
  where
    more_items : take (i + 1) items ≡ take i items ++ item ∷ []
    more_items = take_more items i item inside ∙ ap (λ (x : Item). take i items ++ x ∷ []) (sym at)

    more_report : take (i + 1) report ≡ take i report ++ of ∷ []
    more_report = take_more report i of (omega (arith, inside, same)) ∙ ap (λ (x : Found). take i report ++ x ∷ []) (sym by)

-- ---- they can be put

pub can_put : (told : Bool) (known : List Record) (findings : Findings) → AreRecords known → HasFound told known findings → (given : List Record)
    → given ≡ findings.seals.items → All IsSeal given × All FitsRecord given
can_put told known findings are found given is =
    subst (λ (seals : List Record). All IsSeal seals × All FitsRecord seals) (sym (is ∙ found.new))
    (seals_are (items_in known) findings.report.items, seals_fit told known findings.report.items are found.is.each)

-- ---- they say nothing

-- records with their seals say what they say
pub seals_say : ScrubsSayNothing → (records : List Record) → AreRecords records → (report : List Found)
    → (fold_of (records ++ seals_of (items_in records) report) ≡ fold_of records) × (logged_of (records ++ seals_of (items_in records) report) ≡ logged_of records)
seals_say say records are report =
    let items = items_in records in
    let seals = seals_of items report in
    let all = All-weaker (SealsOf items) (IsOfItems items) (λ rec is. is.of) seals (all_of items items report (All-contains_itself items)) in
    say records seals are.placed (recursion_from_All (IsOfItems items) seals all)
