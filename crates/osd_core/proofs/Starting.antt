-- the files that an OSD has met when it starts
use Rattle.std.proofs.Common.{◌≡◌, Bool, true, false, List, [], ◌∷◌, ◌++◌, map, Some, Less, Greater, is_eq, refl, ap, sym, subst, ◌∙◌, append-nil, append_assoc}
use Rattle.std.specs.List.{AllByRecursion}
use Rattle.std.specs.List.Sorted.{IsStrictlySortedBy}
use Rattle.std.specs.Ordering.{match_ordering, ordering_reverse}
use Rattle.std.specs.Map.{keys_of}
use Rattle.std.specs.BTreeMap.{insert_entry}
use Rattle.xt_base.specs.declared.ids.FileId.{FileId}
use Rattle.xt_messages.specs.declared.record.FileRow.{FileRow}
use Rattle.xt_protocol.specs.FileIds.{is_before, file_cmp}
use Rattle.xt_protocol.specs.LeaseRows.{Awake}
use Rattle.xt_protocol.proofs.Folds.{file_cmp_total}
use Rattle.replica_records.specs.RowPlaces.{FilesRise}
use Rattle.xt_protocol.specs.FileStates.{file_from}
use Rattle.osd_files.specs.Whole.{RowRises}
use Rattle.osd_core.specs.declared.slot.Slot.{Slot}
use Rattle.osd_core.specs.declared.slot.Slot.TheVariants as slot
use Rattle.osd_core.specs.declared.met.MetFiles.{MetFiles}
use Rattle.osd_core.specs.Slots.{Slots, is_among, states_of, slots_from, AreMet, AreRows, IsSlotOf}
use Rattle.osd_core.proofs.Standing.{is_less, same_file, looks, slot_at}

-- each file as it starts
pub states_from : (awake : Awake) (rows : List FileRow) → states_of awake (slots_from rows) ≡ map (file_from awake) rows
states_from awake [] = refl
states_from awake (r ∷ rs) = ap (λ files. file_from awake r ∷ files) (states_from awake rs)

-- ---- the slots of rows

all_after : (a : FileId) (rows : List FileRow) → AllByRecursion (λ later. is_before a later.file ≡ true) rows → AllByRecursion (λ y. file_cmp a y ≡ Less) (keys_of (slots_from rows))
all_after a [] all = tt
all_after a (r ∷ rs) all = (is_less a r.file all.0, all_after a rs all.1)

rising_from : (rows : List FileRow) → FilesRise rows → IsStrictlySortedBy file_cmp (keys_of (slots_from rows))
unfolding IsStrictlySortedBy
rising_from [] rise = tt
rising_from (r ∷ rs) rise = (all_after r.file rs rise.0, rising_from rs rise.1)

each_from : (awake : Awake) (busy : FileId → Bool) (rows : List FileRow) → AllByRecursion RowRises rows → (file : FileId) (s : Slot) → slot_at file (slots_from rows) ≡ Some s → IsSlotOf awake busy file s
each_from awake busy [] all file s found = absurd cc
each_from awake busy (r ∷ rs) all file s found = go (λ later. each_from awake busy rs all.1 file s later) (is_eq (file_cmp file r.file)) refl
  where
    go : (slot_at file (slots_from rs) ≡ Some s → IsSlotOf awake busy file s) → (t : Bool) → is_eq (file_cmp file r.file) ≡ t → IsSlotOf awake busy file s
    go of_rest true is =
        let one : Some (slot.Row r) ≡ Some s = sym (looks file (r.file, slot.Row r) (slots_from rs) true is) ∙ found in
        let its : slot.Row r ≡ s = cc in
        let own : IsSlotOf awake busy file (slot.Row r) = record { own = sym (same_file file r.file is); sound = all.0; resting = λ idle. refl } in
        subst (IsSlotOf awake busy file) its own
    go of_rest false is = of_rest (sym (looks file (r.file, slot.Row r) (slots_from rs) false is) ∙ found)

pub met_start : (awake : Awake) (rows : List FileRow) (met : MetFiles) → AreRows rows → met.slots.entries ≡ slots_from rows → AreMet awake met
met_start awake rows met are is =
    record {
      rising = subst (λ (es : Slots). IsStrictlySortedBy file_cmp (keys_of es)) (sym is) (rising_from rows are.files);
      each = λ file s found. each_from awake (is_among met.busy.keys) rows are.each file s (sym (ap (slot_at file) is) ∙ found);
    }

-- ---- one row after another

-- slots to which these rows were added in turn
abbrev pub all_put : Slots → List FileRow → Slots
all_put es [] = es
all_put es (r ∷ rs) = all_put (insert_entry file_cmp es r.file (slot.Row r)) rs

pub put_more : (es : Slots) (rows : List FileRow) (r : FileRow) → all_put es (rows ++ r ∷ []) ≡ insert_entry file_cmp (all_put es rows) r.file (slot.Row r)
put_more es [] r = refl
put_more es (x ∷ xs) r = put_more (insert_entry file_cmp es x.file (slot.Row x)) xs r

-- a file after all others is put at the end
put_last : (es : Slots) (file : FileId) (s : Slot) → AllByRecursion (λ e. is_before e.0 file ≡ true) es → insert_entry file_cmp es file s ≡ es ++ (file, s) ∷ []
put_last [] file s all = refl
put_last (e ∷ es) file s all =
    let greater : file_cmp file e.0 ≡ Greater = file_cmp_total.antisymm file e.0 ∙ ap ordering_reverse (is_less e.0 file all.0) in
    ap (λ o. let made : Slots = match_ordering o ((file, s) ∷ e ∷ es) ((e.0, s) ∷ es) (e ∷ insert_entry file_cmp es file s) in made) greater
    ∙ ap (λ (rest : Slots). e ∷ rest) (put_last es file s all.1)

abbrev IsBeforeAll : List FileRow → FileId × Slot → Type 0
IsBeforeAll rows e = AllByRecursion (λ r. is_before e.0 r.file ≡ true) rows

before_first : (r : FileRow) (rs : List FileRow) (es : Slots) → AllByRecursion (IsBeforeAll (r ∷ rs)) es → AllByRecursion (λ e. is_before e.0 r.file ≡ true) es
before_first r rs [] all = tt
before_first r rs (e ∷ es) all = (all.0.0, before_first r rs es all.1)

before_rest : (r : FileRow) (rs : List FileRow) (es : Slots) → AllByRecursion (IsBeforeAll (r ∷ rs)) es → IsBeforeAll rs (r.file, slot.Row r) → AllByRecursion (IsBeforeAll rs) (es ++ (r.file, slot.Row r) ∷ [])
before_rest r rs [] all last = (last, tt)
before_rest r rs (e ∷ es) all last = (all.0.1, before_rest r rs es all.1 last)

put_rising : (es : Slots) (rows : List FileRow) → FilesRise rows → AllByRecursion (IsBeforeAll rows) es → all_put es rows ≡ es ++ slots_from rows
put_rising es [] rise all = sym (append-nil es)
put_rising es (r ∷ rs) rise all =
    let one : FileId × Slot = (r.file, slot.Row r) in
    ap (λ (more : Slots). all_put more rs) (put_last es r.file (slot.Row r) (before_first r rs es all))
    ∙ put_rising (es ++ one ∷ []) rs rise.1 (before_rest r rs es all rise.0)
    ∙ append_assoc es (one ∷ []) (slots_from rs)

pub all_from : (rows : List FileRow) → FilesRise rows → all_put [] rows ≡ slots_from rows
all_from rows rise = put_rising [] rows rise tt
