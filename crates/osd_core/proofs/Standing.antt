-- the slots of an OSD by their files: where a file's slot stands, and what a slot that is put there makes
use Rattle.std.proofs.Common.{◌≡◌, Bool, true, false, cond, List, [], ◌∷◌, Option, Some, None, Ordering, Less, Equal, Greater, is_eq, is_lt, refl, ap, sym, subst, ◌∙◌, true≢false}
use Rattle.std.specs.List.{AllByRecursion}
use Rattle.std.specs.List.Sorted.{IsStrictlySortedBy}
use Rattle.std.specs.Ordering.{match_ordering, ordering_reverse}
use Rattle.std.specs.Map.{keys_of, lookup, set_value}
use Rattle.std.specs.BTreeMap.{BTreeMap, insert_entry, is_at}
use Rattle.std.proofs.lemmas.Map.Keys.{sorted_head, sorted_tail}
use Rattle.xt_base.specs.declared.ids.FileId.{FileId}
use Rattle.xt_protocol.specs.FileIds.{is_file, is_before, file_cmp}
use Rattle.xt_protocol.specs.Folds.{new_row}
use Rattle.xt_protocol.specs.LeaseRows.{Awake}
use Rattle.xt_protocol.proofs.Folds.{file-equal, file-itself, file-symmetric, is_file-file_cmp, file_cmp_total}
use Rattle.xt_protocol.specs.FileStates.{FileState, file_from}
use Rattle.xt_protocol.specs.OsdSteps.{file_at, with_file}
use Rattle.osd_core.specs.declared.slot.Slot.{Slot}
use Rattle.osd_core.specs.declared.slot.Slot.TheVariants as slot
use Rattle.osd_core.specs.FileSlots.{id_of, state_of}
use Rattle.osd_core.specs.Slots.{Slots, states_of, AreSlots, IsSlotOf}

-- ---- the order of files

less : (o : Ordering) → is_lt o ≡ true → o ≡ Less
less Less h = refl
less Equal h = absurd cc
less Greater h = absurd cc

pub is_less : (a b : FileId) → is_before a b ≡ true → file_cmp a b ≡ Less
is_less a b is = less (file_cmp a b) is

pub same_file : (a b : FileId) → is_eq (file_cmp a b) ≡ true → a ≡ b
same_file a b is = file-equal a b (is_file-file_cmp a b ∙ is)

pub own_file : (a : FileId) → is_eq (file_cmp a a) ≡ true
own_file a = sym (is_file-file_cmp a a) ∙ file-itself a

turned_round : (a b : FileId) → is_file a b ≡ is_eq (file_cmp b a)
turned_round a b = file-symmetric a b ∙ is_file-file_cmp b a

pub either_way : (a b : FileId) → is_eq (file_cmp a b) ≡ is_eq (file_cmp b a)
either_way a b = sym (is_file-file_cmp a b) ∙ turned_round a b

never_both : (a b : FileId) → file_cmp a b ≡ Less → file_cmp b a ≡ Less → ⊥
never_both a b one other = absurd (let round = sym one ∙ file_cmp_total.antisymm a b ∙ ap ordering_reverse other in cc)

-- a file isn't one that comes before it
pub not_same : (a b : FileId) → file_cmp a b ≡ Less → is_eq (file_cmp b a) ≡ false
not_same a b is = ap is_eq (file_cmp_total.antisymm b a) ∙ ap (λ o. is_eq (ordering_reverse o)) is

-- ---- what a look-up finds

abbrev pub slot_at : FileId → Slots → Option Slot
slot_at file slots = lookup (is_at (file_cmp file)) slots

-- what the test at the first slot makes of a look-up
pub looks : (file : FileId) (e : FileId × Slot) (es : Slots) (t : Bool) → is_eq (file_cmp file e.0) ≡ t → slot_at file (e ∷ es) ≡ cond t (Some e.1) (slot_at file es)
looks file e es t is = ap (λ b. cond b (Some e.1) (slot_at file es)) is

-- a file that is found among those after another comes after it
pub found_after : (a file : FileId) (es : Slots) (s : Slot) → AllByRecursion (λ y. file_cmp a y ≡ Less) (keys_of es) → slot_at file es ≡ Some s → file_cmp a file ≡ Less
found_after a file [] s all found = absurd cc
found_after a file (e ∷ es) s all found = go (λ later. found_after a file es s all.1 later) (is_eq (file_cmp file e.0)) refl
  where
    go : (slot_at file es ≡ Some s → file_cmp a file ≡ Less) → (t : Bool) → is_eq (file_cmp file e.0) ≡ t → file_cmp a file ≡ Less
    go of_rest true is = subst (λ f. file_cmp a f ≡ Less) (sym (same_file file e.0 is)) all.0
    go of_rest false is = of_rest (sym (looks file e es false is) ∙ found)

-- a file isn't among those after it
pub none_after : (a : FileId) (es : Slots) → AllByRecursion (λ y. file_cmp a y ≡ Less) (keys_of es) → slot_at a es ≡ None
none_after a es all = go (slot_at a es) refl
  where
    go : (o : Option Slot) → slot_at a es ≡ o → slot_at a es ≡ None
    go None is = is
    go (Some s) is = absurd (true≢false (sym (own_file a) ∙ ap is_eq (found_after a a es s all is)))

-- what holds of each slot that a look-up finds, holds of each
pub each_slot : (P : FileId → Slot → Type 0) (es : Slots) → IsStrictlySortedBy file_cmp (keys_of es) → ((file : FileId) (s : Slot) → slot_at file es ≡ Some s → P file s) → AllByRecursion (λ e. P e.0 e.1) es
each_slot P [] up holds = tt
each_slot P (e ∷ es) up holds = (
  holds e.0 e.1 (looks e.0 e es true (own_file e.0)),
  each_slot P es (sorted_tail file_cmp e.0 (keys_of es) up) (λ file s found.
      holds file s (looks file e es false (not_same e.0 file (found_after e.0 file es s (sorted_head file_cmp e.0 (keys_of es) up) found)) ∙ found)),
)

-- ---- the definitions of an OSD on slots

-- each slot is of its file
abbrev pub AreOwn : Slots → Type 0
AreOwn slots = AllByRecursion (λ e. id_of e.1 ≡ e.0) slots

pub state_of-file : (awake : Awake) (s : Slot) → (state_of awake s).kept.file ≡ id_of s
state_of-file awake (slot.Row row) = refl
state_of-file awake (slot.File file) = refl

-- the state of a file that has this slot, if any
abbrev pub state_in : Awake → FileId → Option Slot → FileState
state_in awake file None = file_from awake (new_row file)
state_in awake file (Some s) = state_of awake s

pub file_is : (awake : Awake) (es : Slots) (file : FileId) → AreOwn es → file_at awake (states_of awake es) file ≡ state_in awake file (slot_at file es)
unfolding file_at
file_is awake [] file own = refl
file_is awake (e ∷ es) file own =
    let rest = file_at awake (states_of awake es) file in
    ap (λ f. cond (is_file f file) (state_of awake e.1) rest) (state_of-file awake e.1 ∙ own.0)
    ∙ ap (λ t. cond t (state_of awake e.1) rest) (turned_round e.0 file)
    ∙ at (file_is awake es file own.1) (is_eq (file_cmp file e.0))
  where
    at : file_at awake (states_of awake es) file ≡ state_in awake file (slot_at file es) → (t : Bool)
        → cond t (state_of awake e.1) (file_at awake (states_of awake es) file) ≡ state_in awake file (cond t (Some e.1) (slot_at file es))
    at later true = refl
    at later false = later

-- a file is put like any entry
pub file_put : (awake : Awake) (es : Slots) (file : FileId) (s : Slot) → AreOwn es → id_of s ≡ file
    → with_file (states_of awake es) (state_of awake s) ≡ states_of awake (insert_entry file_cmp es file s)
unfolding with_file
file_put awake [] file s own its = refl
file_put awake (e ∷ es) file s own its =
    let new = state_of awake s in
    let rest = states_of awake es in
    let old = state_of awake e.1 in
    let tests : Bool → FileId → FileId → List FileState = λ t a b. cond t (new ∷ rest) (cond (is_before b a) (new ∷ old ∷ rest) (old ∷ with_file rest new)) in
    ap (λ a. tests (is_file a (state_of awake s).kept.file) a (state_of awake s).kept.file) (state_of-file awake e.1 ∙ own.0)
    ∙ ap (λ b. tests (is_file e.0 b) e.0 b) (state_of-file awake s ∙ its)
    ∙ ap (λ t. tests t e.0 file) (turned_round e.0 file)
    ∙ at (file_put awake es file s own.1 its) (file_cmp file e.0)
  where
    at : with_file (states_of awake es) (state_of awake s) ≡ states_of awake (insert_entry file_cmp es file s) → (o : Ordering)
        → cond (is_eq o) (state_of awake s ∷ states_of awake es) (cond (is_lt o) (state_of awake s ∷ state_of awake e.1 ∷ states_of awake es) (state_of awake e.1 ∷ with_file (states_of awake es) (state_of awake s)))
        ≡ states_of awake (match_ordering o ((file, s) ∷ e ∷ es) ((e.0, s) ∷ es) (e ∷ insert_entry file_cmp es file s))
    at later Less = refl
    at later Equal = refl
    at later Greater = ap (λ others. state_of awake e.1 ∷ others) later

-- the slot of a file that has one is changed
pub put_found : (es : Slots) (file : FileId) (p q : Slot) → IsStrictlySortedBy file_cmp (keys_of es) → slot_at file es ≡ Some p → set_value (is_at (file_cmp file)) es q ≡ insert_entry file_cmp es file q
put_found [] file p q up found = absurd cc
put_found (e ∷ es) file p q up found =
    go (λ later. ap (λ rest. e ∷ rest) (put_found es file p q (sorted_tail file_cmp e.0 (keys_of es) up) later)) (file_cmp file e.0) refl
  where
    later_found : (o : Ordering) → file_cmp file e.0 ≡ o → cond (is_eq o) (Some e.1) (slot_at file es) ≡ Some p
    later_found o is = sym (ap (λ r. cond (is_eq r) (Some e.1) (slot_at file es)) is) ∙ found

    go : (slot_at file es ≡ Some p → ◌≡◌ {A = Slots} (e ∷ set_value (is_at (file_cmp file)) es q) (e ∷ insert_entry file_cmp es file q)) → (o : Ordering) → file_cmp file e.0 ≡ o
        → ◌≡◌ {A = Slots} (cond (is_eq o) ((e.0, q) ∷ es) (e ∷ set_value (is_at (file_cmp file)) es q)) (match_ordering o ((file, q) ∷ e ∷ es) ((e.0, q) ∷ es) (e ∷ insert_entry file_cmp es file q))
    go of_rest Less is = absurd (never_both file e.0 is (found_after e.0 file es p (sorted_head file_cmp e.0 (keys_of es) up) (later_found Less is)))
    go of_rest Equal is = refl
    go of_rest Greater is = of_rest (later_found Greater is)

-- a slot that is put where it is
pub put_same : (file : FileId) (es : Slots) (s : Slot) → slot_at file es ≡ Some s → set_value (is_at (file_cmp file)) es s ≡ es
put_same file [] s found = refl
put_same file (e ∷ es) s found = go (λ later. put_same file es s later) (is_eq (file_cmp file e.0)) refl
  where
    go : (slot_at file es ≡ Some s → set_value (is_at (file_cmp file)) es s ≡ es) → (t : Bool) → is_eq (file_cmp file e.0) ≡ t → set_value (is_at (file_cmp file)) (e ∷ es) s ≡ e ∷ es
    go of_rest true is =
        let own : e.1 ≡ s = (let both : Some e.1 ≡ Some s = sym (looks file e es true is) ∙ found in cc) in
        ap (λ t. let made : Slots = cond t ((e.0, s) ∷ es) (e ∷ set_value (is_at (file_cmp file)) es s) in made) is
        ∙ ap (λ (x : Slot). let made : Slots = (e.0, x) ∷ es in made) (sym own)
    go of_rest false is =
        ap (λ t. let made : Slots = cond t ((e.0, s) ∷ es) (e ∷ set_value (is_at (file_cmp file)) es s) in made) is
        ∙ ap (λ (rest : Slots). e ∷ rest) (of_rest (sym (looks file e es false is) ∙ found))

-- each slot is one of its file still, once one was put
pub slot_put : (awake : Awake) (busy : FileId → Bool) (file : FileId) (s : Slot) (old new : BTreeMap FileId Slot) → AreSlots awake busy old
    → ((f : FileId) → slot_at f new.entries ≡ cond (is_eq (file_cmp file f)) (Some s) (slot_at f old.entries)) → IsSlotOf awake busy file s
    → (f : FileId) (t : Slot) → slot_at f new.entries ≡ Some t → IsSlotOf awake busy f t
slot_put awake busy file s old new are updates one f t found = go (is_eq (file_cmp file f)) refl
  where
    go : (same : Bool) → is_eq (file_cmp file f) ≡ same → IsSlotOf awake busy f t
    go true is =
        let its : s ≡ t = (let both : Some s ≡ Some t = sym (updates f ∙ ap (λ c. cond c (Some s) (slot_at f old.entries)) is) ∙ found in cc) in
        subst (IsSlotOf awake busy f) its (subst (λ x. IsSlotOf awake busy x s) (same_file file f is) one)
    go false is = are.each f t (sym (updates f ∙ ap (λ c. cond c (Some s) (slot_at f old.entries)) is) ∙ found)
