-- what the slots of an OSD keep and forget
use Rattle.std.proofs.Common.{◌≡◌, Bool, true, false, cond, List, [], ◌∷◌, ◌++◌, map, Some, is_eq, refl, ap, sym, subst, ◌∙◌, append-nil, append_assoc}
use Rattle.std.specs.Prelude.{flat_map}
use Rattle.std.specs.List.{AllByRecursion}
use Rattle.std.specs.BTreeSet.{BTreeSet}
use Rattle.std.specs.Map.{values_of}
use Rattle.std.specs.Map.Calls.{RetainsPairs}
use Rattle.xt_base.specs.declared.ids.FileId.{FileId}
use Rattle.xt_messages.specs.declared.record.FileRow.{FileRow}
use Rattle.xt_messages.specs.declared.record.KeepBody.{KeepBody}
use Rattle.xt_protocol.specs.FileIds.{file_cmp}
use Rattle.xt_protocol.specs.Forgetting.{file_without, needed_of, row_without}
use Rattle.xt_protocol.specs.LeaseRows.{Awake}
use Rattle.osd_core.specs.declared.slot.Slot.{Slot}
use Rattle.osd_core.specs.declared.slot.Slot.TheVariants as slot
use Rattle.osd_core.specs.declared.met.MetFiles.{MetFiles}
use Rattle.osd_core.specs.FileSlots.{state_of, ForgetsSlot, IsSoundSlot}
use Rattle.osd_core.specs.Slots.{Slots, is_among, states_of, AreMet, ForgetsAll, ForgetsMet}
use Rattle.osd_core.proofs.Standing.{each_slot, looks, slot_at}

-- ---- what they keep

abbrev needed_in : Awake → List Slot → List KeepBody
needed_in awake slots = flat_map (needed_of awake.node) (map (state_of awake) slots)

abbrev AreSound : Awake → List Slot → Type 0
AreSound awake slots = AllByRecursion (IsSoundSlot awake) slots

-- what the slots that are left need comes after what the others have reported
pub record KeptSoFar (slots left : List Slot) (before so_far : List KeepBody) : Type 0 where
  pub rest : (awake : Awake) → AreSound awake slots → AreSound awake left × (so_far ++ needed_in awake left ≡ before ++ needed_in awake slots)

pub none_kept : (slots left : List Slot) (keep : List KeepBody) → left ≡ slots → KeptSoFar slots left keep keep
none_kept slots left keep is = record { rest = λ awake all. (subst (AreSound awake) (sym is) all, ap (λ ss. keep ++ needed_in awake ss) is) }

pub more_kept : (slots left others : List Slot) (s : Slot) (before so_far new : List KeepBody) → left ≡ s ∷ others → KeptSoFar slots left before so_far
    → ((awake : Awake) → IsSoundSlot awake s → new ≡ so_far ++ needed_of awake.node (state_of awake s)) → KeptSoFar slots others before new
more_kept slots left others s before so_far new is kept told =
    record {
      rest = λ awake all.
          let was = kept.rest awake all in
          let sound : AreSound awake (s ∷ others) = subst (AreSound awake) is was.0 in (
            sound.1,
            ap (λ ks. ks ++ needed_in awake others) (told awake sound.0)
                ∙ append_assoc so_far (needed_of awake.node (state_of awake s)) (needed_in awake others)
                ∙ ap (λ ss. so_far ++ needed_in awake ss) (sym is) ∙ was.1,
          );
    }

values_are : (awake : Awake) (es : Slots) → map (state_of awake) (values_of es) ≡ states_of awake es
values_are awake [] = refl
values_are awake (e ∷ es) = ap (λ files. state_of awake e.1 ∷ files) (values_are awake es)

values_sound : (awake : Awake) (es : Slots) → AllByRecursion (λ e. IsSoundSlot awake e.1) es → AreSound awake (values_of es)
values_sound awake [] all = tt
values_sound awake (e ∷ es) all = (all.0, values_sound awake es all.1)

pub all_kept : (met : MetFiles) (left : List Slot) (before so_far : List KeepBody) → left ≡ [] → KeptSoFar (values_of met.slots.entries) left before so_far
    → (awake : Awake) → AreMet awake met → so_far ≡ before ++ flat_map (needed_of awake.node) (states_of awake met.slots.entries)
all_kept met left before so_far none kept awake are =
    let es = met.slots.entries in
    let sound = values_sound awake es (each_slot (λ f s. IsSoundSlot awake s) es are.rising (λ f s found. (are.each f s found).sound)) in
    sym (append-nil so_far) ∙ ap (λ ss. so_far ++ needed_in awake ss) (sym none) ∙ (kept.rest awake sound).1
    ∙ ap (λ files. before ++ flat_map (needed_of awake.node) files) (values_are awake es)

-- ---- what they forget

-- a row that has forgotten bodies
pub row_forgets : (keep : List KeepBody) (old : Slot) (row new : FileRow) → old ≡ slot.Row row → new ≡ row_without keep row → ForgetsSlot keep old (slot.Row new)
row_forgets keep old row new is forgot =
    let kept = row_without keep row in
    let made : ForgetsSlot keep (slot.Row row) (slot.Row kept) =
    record { file = refl; state = λ awake. refl; sound = λ awake rises. record { head = rises.head; list = rises.list }; rests = refl } in
    subst (λ (x : Slot). ForgetsSlot keep x (slot.Row new)) (sym is) (subst (λ (r : FileRow). ForgetsSlot keep (slot.Row row) (slot.Row r)) (sym forgot) made)

-- what a walk over the slots has forgotten, where its test keeps each
pub all_forget : {F : Type 0} (T : F → FileId → Slot → Bool → Slot → F → Type 0) (keep : List KeepBody) (f : F)
    → ((k : FileId) (v : Slot) (b : Bool) (w : Slot) (g : F) → T f k v b w g → (b ≡ true) × ForgetsSlot keep v w × (g ≡ f)) → (es kept : Slots) → RetainsPairs T f es kept → ForgetsAll keep es kept
all_forget T keep f each [] kept retains = retains
all_forget T keep f each (e ∷ es) kept retains =
    let w = retains.1 in
    let rest = retains.3 in
    let one = each e.0 e.1 retains.0 w retains.2 retains.4 in (
      w,
      rest,
      one.1,
      all_forget T keep f each es rest (subst (λ g. RetainsPairs T g es rest) one.2 retains.5),
      retains.6 ∙ ap (λ c. let made : Slots = cond c ((e.0, w) ∷ rest) rest in made) one.0,
    )

states_forget : (keep : List KeepBody) (awake : Awake) (old new : Slots) → ForgetsAll keep old new → states_of awake new ≡ map (file_without keep) (states_of awake old)
states_forget keep awake [] new is = ap (states_of awake) is
states_forget keep awake (e ∷ es) new forgets =
    ap (states_of awake) forgets.4
    ∙ ap (λ s. s ∷ states_of awake forgets.1) (forgets.2.state awake)
    ∙ ap (λ files. file_without keep (state_of awake e.1) ∷ files) (states_forget keep awake es forgets.1 forgets.3)

-- the slot of which one that is found was made
slot_forgets : (keep : List KeepBody) (file : FileId) (t : Slot) (old new : Slots) → ForgetsAll keep old new → slot_at file new ≡ Some t → (s : Slot) × (slot_at file old ≡ Some s) × ForgetsSlot keep s t
slot_forgets keep file t [] new is found = absurd (let none = sym (ap (slot_at file) is) ∙ found in cc)
slot_forgets keep file t (e ∷ es) new forgets found =
    go (λ later. slot_forgets keep file t es forgets.1 forgets.3 later) (is_eq (file_cmp file e.0)) refl
  where
    first : slot_at file ((e.0, forgets.0) ∷ forgets.1) ≡ Some t
    first = sym (ap (slot_at file) forgets.4) ∙ found

    go : (slot_at file forgets.1 ≡ Some t → (s : Slot) × (slot_at file es ≡ Some s) × ForgetsSlot keep s t) → (b : Bool) → is_eq (file_cmp file e.0) ≡ b
        → (s : Slot) × (slot_at file (e ∷ es) ≡ Some s) × ForgetsSlot keep s t
    go of_rest true is =
        let both : Some forgets.0 ≡ Some t = sym (looks file (e.0, forgets.0) forgets.1 true is) ∙ first in
        let its : forgets.0 ≡ t = cc in
        (e.1, looks file e es true is, subst (ForgetsSlot keep e.1) its forgets.2)
    go of_rest false is =
        let later = of_rest (sym (looks file (e.0, forgets.0) forgets.1 false is) ∙ first) in
        (later.0, looks file e es false is ∙ later.1, later.2)

-- they stay the files that an OSD has met
pub still_met : (keep : List KeepBody) (awake : Awake) (old new : MetFiles) → ForgetsMet keep old new → AreMet awake old → AreMet awake new
still_met keep awake old new forgets were =
    record {
      rising = forgets.rising;
      each = λ file t found.
          let made = slot_forgets keep file t old.slots.entries new.slots.entries forgets.slots found in
          let was = were.each file made.0 made.1 in
          record {
            own = made.2.file ∙ was.own;
            sound = made.2.sound awake was.sound;
            resting = λ idle.
                made.2.rests
                ∙ was.resting (sym (ap (λ (b : BTreeSet FileId). is_among b.keys file) forgets.busy) ∙ idle);
          };
    }

pub states_forgot : (keep : List KeepBody) (awake : Awake) (old new : MetFiles) → ForgetsMet keep old new → states_of awake new.slots.entries ≡ map (file_without keep) (states_of awake old.slots.entries)
states_forgot keep awake old new forgets = states_forget keep awake old.slots.entries new.slots.entries forgets.slots
