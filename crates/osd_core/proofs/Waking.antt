-- what a Wake gives at the files of an OSD, and what it makes of them: nothing at those that rest, and so it is one at the busy ones, one after another
use Rattle.std.proofs.Common.{◌≡◌, ℕ, Bool, true, false, cond, ◌||◌, List, [], ◌∷◌, Option, Some, None, Less, is_eq, refl, ap, sym, subst, ◌∙◌, append_assoc, append-nil}
use Rattle.std.specs.Prelude.{IsSome}
use Rattle.std.specs.List.{AllByRecursion}
use Rattle.std.specs.List.Sorted.{IsStrictlySortedBy}
use Rattle.std.specs.Map.{keys_of, set_value}
use Rattle.std.specs.BTreeMap.{BTreeMap, WritesThrough, is_at}
use Rattle.std.proofs.lemmas.Map.Keys.{sorted_head, sorted_tail}
use Rattle.xt_base.specs.declared.ids.FileId.{FileId}
use Rattle.xt_base.specs.declared.ids.Stamp.{Stamp}
use Rattle.xt_messages.specs.declared.file.Capability.{Capability}
use Rattle.xt_messages.specs.declared.message.Msg.{Msg}
use Rattle.xt_messages.specs.declared.event.Mark.{Mark}
use Rattle.xt_messages.specs.declared.record.Record.{Record}
use Rattle.xt_messages.specs.declared.record.FileRow.{FileRow}
use Rattle.xt_protocol.specs.FileIds.{file_cmp}
use Rattle.xt_protocol.specs.LeaseRows.{Awake}
use Rattle.xt_protocol.specs.declared.turned.Turned.{Turned}
use Rattle.xt_protocol.proofs.Folds.{row_after-file, file_cmp_total}
use Rattle.xt_protocol.specs.Turns.{quiet, joined, the_record}
use Rattle.xt_protocol.specs.ReplicaRows.{kept_after}
use Rattle.xt_protocol.specs.FileStates.{FileState, FileStep, Site, nothing}
use Rattle.xt_protocol.specs.Overdue.{expired}
use Rattle.xt_protocol.specs.FileSteps.{wake_of_file}
use Rattle.xt_protocol.specs.OsdSteps.{each_file}
use Rattle.osd_invariants.proofs.Kept.{expired_follows, wake_follows}
use Rattle.osd_files.specs.Views.{site_at}
use Rattle.osd_files.specs.Whole.{IsWoken}
use Rattle.osd_files.specs.declared.waking.Woken.{Woken}
use Rattle.osd_core.specs.declared.slot.Slot.{Slot}
use Rattle.osd_core.specs.declared.slot.Slot.TheVariants as slot
use Rattle.osd_core.specs.FileSlots.{id_of, state_of, view_of, slot_rests, EndsSlot}
use Rattle.osd_core.specs.declared.met.MetFiles.{MetFiles}
use Rattle.osd_core.specs.Slots.{Slots, is_among, states_of, AreSlots, EndsAt, EndsBusy, GivesMet, GivesMore}
use Rattle.osd_core.proofs.Standing.{state_of-file, slot_at, slot_put, put_same, looks, same_file, either_way, found_after, none_after, each_slot}

-- ---- what steps give, put together

turned_of : (one other : Turned) → one.rec ≡ other.rec → one.outs ≡ other.outs → one.marks ≡ other.marks → one ≡ other
turned_of one other recs outs marks =
    let made : Option Record → List Msg → List Mark → Turned = λ r o m. record { rec = r; outs = o; marks = m } in
    ap (λ r. made r one.outs one.marks) recs ∙ ap (λ o. made other.rec o one.marks) outs ∙ ap (λ m. made other.rec other.outs m) marks

record_then : (a b c : Option Record) → the_record (the_record a b) c ≡ the_record a (the_record b c)
record_then None b c = refl
record_then (Some rec) b c = refl

record_alone : (a : Option Record) → the_record a None ≡ a
record_alone None = refl
record_alone (Some rec) = refl

joined_assoc : (a b c : Turned) → joined (joined a b) c ≡ joined a (joined b c)
joined_assoc a b c = turned_of (joined (joined a b) c) (joined a (joined b c)) (record_then a.rec b.rec c.rec) (append_assoc a.outs b.outs c.outs) (append_assoc a.marks b.marks c.marks)

joined_quiet : (a : Turned) → joined a quiet ≡ a
joined_quiet a = turned_of (joined a quiet) a (record_alone a.rec) (append-nil a.outs) (append-nil a.marks)

-- ---- one slot

pub kept_file : (row : FileRow) (rec : Option Record) → (kept_after row rec).file ≡ row.file
kept_file row None = refl
kept_file row (Some rec) = row_after-file row rec

-- a Wake leaves a slot its file
woken_id : (now : ℕ) (awake : Awake) (old new : Slot) → IsWoken now (view_of awake old) (view_of awake new) → id_of new ≡ id_of old
woken_id now awake old new woken =
    let s = state_of awake old in
    let all : Capability → Bool = λ capability. true in
    let none : FileId → ℕ → Stamp → List ℕ = λ file object version. [] in
    let site = site_at awake now all none in
    let first = expired site s in
    let then = wake_of_file site first.state in
    let file_in : FileRow → FileId = λ row. row.file in
    sym (state_of-file awake new)
    ∙ sym (ap (λ (state : FileState). state.kept.file) (woken.state all none))
    ∙ ap file_in (wake_follows site first.state) ∙ kept_file first.state.kept then.turned.rec
    ∙ ap file_in (expired_follows site s) ∙ kept_file s.kept first.turned.rec
    ∙ state_of-file awake old

-- ---- a file that rests

-- nothing is overdue at a row
rest_expires : (site : Site) (awake : Awake) (s : Slot) → slot_rests s ≡ true → expired site (state_of awake s) ≡ nothing (state_of awake s)
unfolding expired
rest_expires site awake (slot.Row row) is = refl
rest_expires site awake (slot.File file) is = absurd cc

-- and a Wake gives nothing
rest_sleeps : (site : Site) (awake : Awake) (s : Slot) → slot_rests s ≡ true → wake_of_file site (state_of awake s) ≡ nothing (state_of awake s)
unfolding wake_of_file
rest_sleeps site awake (slot.Row row) is = refl
rest_sleeps site awake (slot.File file) is = absurd cc

-- ---- a walk over the slots that does something at some of them

-- a file isn't among those after it
not_among : (a : FileId) (files : List FileId) → AllByRecursion (λ y. file_cmp a y ≡ Less) files → is_among files a ≡ false
not_among a [] all = refl
not_among a (f ∷ fs) all = ap (λ o. is_eq o || is_among fs a) all.0 ∙ not_among a fs all.1

after_both : (a b : FileId) (files : List FileId) → file_cmp a b ≡ Less → AllByRecursion (λ y. file_cmp b y ≡ Less) files → AllByRecursion (λ y. file_cmp a y ≡ Less) files
after_both a b [] first all = tt
after_both a b (f ∷ fs) first all = (file_cmp_total.trans a b f first all.0, after_both a b fs first all.1)

module _ {X : Type 0} (one : Slot → X → Bool → X) (end : X) where
  abbrev among : (FileId → Bool) → Slots → X
  among busy [] = end
  among busy (e ∷ es) = one e.1 (among busy es) (busy e.0)

  -- a file without a slot
  at_none : (b : FileId) (rest : List FileId) (es : Slots) → slot_at b es ≡ None → among (is_among (b ∷ rest)) es ≡ among (is_among rest) es
  at_none b rest [] none = refl
  at_none b rest (e ∷ es) none = go (λ later. at_none b rest es later) (is_eq (file_cmp b e.0)) refl
    where
      go : (slot_at b es ≡ None → among (is_among (b ∷ rest)) es ≡ among (is_among rest) es) → (t : Bool) → is_eq (file_cmp b e.0) ≡ t
          → among (is_among (b ∷ rest)) (e ∷ es) ≡ among (is_among rest) (e ∷ es)
      go of_rest true is = absurd (let both = sym (looks b e es true is) ∙ none in cc)
      go of_rest false is =
          ap (λ t. one e.1 (among (is_among (b ∷ rest)) es) (t || is_among rest e.0)) (either_way e.0 b ∙ is)
          ∙ ap (λ x. one e.1 x (is_among rest e.0)) (of_rest (sym (looks b e es false is) ∙ none))

  -- a file that has a slot, where what is done there can be done last, and leaves this slot
  at_some : (b : FileId) (rest : List FileId) (s new : Slot) (last : X → X) → ((x : X) → one s x true ≡ last (one new x false)) → ((t : Slot) (x : X) → one t (last x) false ≡ last (one t x false))
      → IsStrictlySortedBy file_cmp (b ∷ rest) → (es : Slots) → IsStrictlySortedBy file_cmp (keys_of es) → slot_at b es ≡ Some s
      → among (is_among (b ∷ rest)) es ≡ last (among (is_among rest) (set_value (is_at (file_cmp b)) es new))
  at_some b rest s new last here past rise [] up found = absurd cc
  at_some b rest s new last here past rise (e ∷ es) up found =
      go (λ later. at_some b rest s new last here past rise es (sorted_tail file_cmp e.0 (keys_of es) up) later) (is_eq (file_cmp b e.0)) refl
    where
      go : (slot_at b es ≡ Some s → among (is_among (b ∷ rest)) es ≡ last (among (is_among rest) (set_value (is_at (file_cmp b)) es new))) → (t : Bool) → is_eq (file_cmp b e.0) ≡ t
          → among (is_among (b ∷ rest)) (e ∷ es) ≡ last (among (is_among rest) (set_value (is_at (file_cmp b)) (e ∷ es) new))
      go of_rest true is =
          let own : e.1 ≡ s = (let both : Some e.1 ≡ Some s = sym (looks b e es true is) ∙ found in cc) in
          let same : b ≡ e.0 = same_file b e.0 is in
          let others = among (is_among rest) es in
          let missing : slot_at b es ≡ None = subst (λ f. slot_at f es ≡ None) (sym same) (none_after e.0 es (sorted_head file_cmp e.0 (keys_of es) up)) in
          let passed : is_among rest e.0 ≡ false = subst (λ f. is_among rest f ≡ false) same (not_among b rest (sorted_head file_cmp b rest rise)) in
          ap (λ t. one e.1 (among (is_among (b ∷ rest)) es) (t || is_among rest e.0)) (either_way e.0 b ∙ is)
          ∙ ap (λ x. one e.1 x true) (at_none b rest es missing)
          ∙ ap (λ t. one t others true) own
          ∙ here others
          ∙ sym (ap (λ t. last (one new others t)) passed)
          ∙ sym (ap (λ t. let put : Slots = cond t ((e.0, new) ∷ es) (e ∷ set_value (is_at (file_cmp b)) es new) in last (among (is_among rest) put)) is)
      go of_rest false is =
          let later : slot_at b es ≡ Some s = sym (looks b e es false is) ∙ found in
          let before = found_after e.0 b es s (sorted_head file_cmp e.0 (keys_of es) up) later in
          let passed : is_among rest e.0 ≡ false = not_among e.0 rest (after_both e.0 b rest before (sorted_head file_cmp b rest rise)) in
          let put = among (is_among rest) (set_value (is_at (file_cmp b)) es new) in
          ap (λ t. one e.1 (among (is_among (b ∷ rest)) es) (t || is_among rest e.0)) (either_way e.0 b ∙ is)
          ∙ ap (one e.1 (among (is_among (b ∷ rest)) es)) passed
          ∙ ap (λ x. one e.1 x false) (of_rest later)
          ∙ past e.1 put
          ∙ sym (ap (λ t. last (one e.1 put t)) passed)
          ∙ sym (ap (λ t. let made : Slots = cond t ((e.0, new) ∷ es) (e ∷ set_value (is_at (file_cmp b)) es new) in last (among (is_among rest) made)) is)

-- ---- what a Wake gives

-- what the rows of a Wake make of a file, once nothing is overdue
abbrev wakes : Site → FileState → FileStep
wakes site s = wake_of_file site (expired site s).state

abbrev plus : Woken → Woken → Woken
plus one others = record { overdue = joined one.overdue others.overdue; again = joined one.again others.again }

abbrev gives_one : Awake → Site → Slot → Woken → Bool → Woken
gives_one awake site s others true = plus (record { overdue = (expired site (state_of awake s)).turned; again = (wakes site (state_of awake s)).turned }) others
gives_one awake site s others false = others

abbrev no_news : Woken
no_news = record { overdue = quiet; again = quiet }

-- what a Wake gives at the busy files
abbrev gives_among : Awake → Site → (FileId → Bool) → Slots → Woken
gives_among awake site = among (gives_one awake site) no_news

none_give : (awake : Awake) (site : Site) (es : Slots) → gives_among awake site (is_among []) es ≡ no_news
none_give awake site [] = refl
none_give awake site (e ∷ es) = none_give awake site es

-- those that aren't busy rest, and so these are all that give something
all_give : (awake : Awake) (site : Site) (busy : FileId → Bool) (es : Slots) → AllByRecursion (λ e. busy e.0 ≡ false → slot_rests e.1 ≡ true) es
    → gives_among awake site busy es
    ≡ (let settled = each_file (expired site) (states_of awake es) in record { overdue = settled.turned; again = (each_file (wake_of_file site) settled.files).turned })
unfolding each_file
all_give awake site busy [] all = refl
all_give awake site busy (e ∷ es) all =
    ap (λ others. gives_one awake site e.1 others (busy e.0)) (all_give awake site busy es all.1)
    ∙ at (gives_all es) (busy e.0) refl
  where
    gives_all : Slots → Woken
    gives_all rest = (let settled = each_file (expired site) (states_of awake rest) in record { overdue = settled.turned; again = (each_file (wake_of_file site) settled.files).turned })

    at : (others : Woken) (t : Bool) → busy e.0 ≡ t → gives_one awake site e.1 others t ≡ gives_one awake site e.1 others true
    at others true is = refl
    at others false is =
        let resting : slot_rests e.1 ≡ true = all.0 is in
        let first : FileStep → FileStep → Woken = λ one then. plus (record { overdue = one.turned; again = then.turned }) others in
        sym (ap (λ (one : FileStep). first one (wake_of_file site one.state)) (rest_expires site awake e.1 resting)
        ∙ ap (first (nothing (state_of awake e.1))) (rest_sleeps site awake e.1 resting))

-- The files so far gave this.
pub record GaveSoFar (now : ℕ) (files left : List FileId) (slots : BTreeMap FileId Slot) (woken : Woken) : Type 0 where
  pub up : IsStrictlySortedBy file_cmp left
  pub gave : (awake : Awake) → AreSlots awake (is_among files) slots → (sealed : Capability → Bool) (body : FileId → ℕ → Stamp → List ℕ)
      → gives_among awake (site_at awake now sealed body) (is_among files) slots.entries
      ≡ plus woken (gives_among awake (site_at awake now sealed body) (is_among left) slots.entries)

pub none_gave : (now : ℕ) (files left : List FileId) (slots : BTreeMap FileId Slot) (woken : Woken) → IsStrictlySortedBy file_cmp files → left ≡ files → woken.overdue ≡ quiet → woken.again ≡ quiet
    → GaveSoFar now files left slots woken
none_gave now files left slots woken up all overdue again =
    record {
      up = subst (IsStrictlySortedBy file_cmp) (sym all) up;
      gave = λ awake were sealed body.
          let of : List FileId → Woken = λ fs. gives_among awake (site_at awake now sealed body) (is_among fs) slots.entries in
          let made : Turned → Turned → Woken = λ o a. record { overdue = joined o (of files).overdue; again = joined a (of files).again } in
          sym (ap (λ fs. plus woken (of fs)) all ∙ ap (λ o. made o woken.again) overdue ∙ ap (made quiet) again);
    }

pub more_gave : (now : ℕ) (files rest : List FileId) (b : FileId) (slots : BTreeMap FileId Slot) (before after : Woken) → GaveSoFar now files (b ∷ rest) slots before
    → GivesMore now (slot_at b slots.entries) before after → GaveSoFar now files rest slots after
more_gave now files rest b slots before after so_far gives =
    record { up = sorted_tail file_cmp b rest so_far.up; gave = λ awake were sealed body. so_far.gave awake were sealed body ∙ go awake were sealed body (slot_at b slots.entries) refl gives }
  where
    go : (awake : Awake) → AreSlots awake (is_among files) slots → (sealed : Capability → Bool) (body : FileId → ℕ → Stamp → List ℕ) (o : Option Slot) → slot_at b slots.entries ≡ o → GivesMore now o before after
        → plus before (gives_among awake (site_at awake now sealed body) (is_among (b ∷ rest)) slots.entries) ≡ plus after (gives_among awake (site_at awake now sealed body) (is_among rest) slots.entries)
    go awake were sealed body None missing same =
        let site = site_at awake now sealed body in
        let others = gives_among awake site (is_among rest) slots.entries in
        ap (plus before) (at_none (gives_one awake site) no_news b rest slots.entries missing) ∙ ap (λ w. plus w others) (sym same)
    go awake were sealed body (Some s) there more =
        let site = site_at awake now sealed body in
        let next = more.0 in
        let gave = more.1 awake (were.each b s there).sound in
        let here = λ (x : Woken).
        ap (λ t. plus (record { overdue = t; again = (wakes site (state_of awake s)).turned }) x) (gave.overdue sealed body)
        ∙ ap (λ t. plus (record { overdue = next.overdue; again = t }) x) (gave.again sealed body) in
        let others = gives_among awake site (is_among rest) slots.entries in
        let made : Turned → Turned → Woken = λ o a. record { overdue = o; again = a } in
        ap (plus before) (at_some (gives_one awake site) no_news b rest s s (plus next) here (λ t x. refl) so_far.up slots.entries were.rising there)
        ∙ ap (λ es. plus before (plus next (gives_among awake site (is_among rest) es))) (put_same b slots.entries s there)
        ∙ ap (λ o. made o (joined before.again (joined next.again others.again))) (sym (joined_assoc before.overdue next.overdue others.overdue) ∙ ap (λ t. joined t others.overdue) (sym more.2))
        ∙ ap (made (joined after.overdue others.overdue)) (sym (joined_assoc before.again next.again others.again) ∙ ap (λ t. joined t others.again) (sym more.3))

pub all_gave : (now : ℕ) (met : MetFiles) (left : List FileId) (woken : Woken) → left ≡ [] → GaveSoFar now met.busy.keys left met.slots woken → GivesMet now met woken
all_gave now met left woken none so_far =
    λ awake were.
    let files = met.busy.keys in
    let es = met.slots.entries in
    let whole = λ (sealed : Capability → Bool) (body : FileId → ℕ → Stamp → List ℕ).
    let site = site_at awake now sealed body in
    let made : Turned → Turned → Woken = λ o a. record { overdue = o; again = a } in
    sym (all_give awake site (is_among files) es (each_slot (λ f s. is_among files f ≡ false → slot_rests s ≡ true) es were.rising (λ f s found. (were.each f s found).resting)))
    ∙ so_far.gave awake were sealed body ∙ ap (λ l. plus woken (gives_among awake site (is_among l) es)) none ∙ ap (plus woken) (none_give awake site es)
    ∙ ap (λ o. made o (joined woken.again quiet)) (joined_quiet woken.overdue) ∙ ap (made woken.overdue) (joined_quiet woken.again) in
    record { overdue = λ sealed body. ap (λ (w : Woken). w.overdue) (whole sealed body); again = λ sealed body. ap (λ (w : Woken). w.again) (whole sealed body) }

-- ---- the files after a Wake

abbrev ends_one : Awake → Site → Slot → List FileState → Bool → List FileState
ends_one awake site s others true = (wakes site (state_of awake s)).state ∷ others
ends_one awake site s others false = state_of awake s ∷ others

-- the files after a Wake at the busy ones
abbrev ends_among : Awake → Site → (FileId → Bool) → Slots → List FileState
ends_among awake site = among (ends_one awake site) []

none_end : (awake : Awake) (site : Site) (es : Slots) → ends_among awake site (is_among []) es ≡ states_of awake es
none_end awake site [] = refl
none_end awake site (e ∷ es) = ap (λ others. state_of awake e.1 ∷ others) (none_end awake site es)

-- those that aren't busy rest, and so it is one at all
all_end : (awake : Awake) (site : Site) (busy : FileId → Bool) (es : Slots) → AllByRecursion (λ e. busy e.0 ≡ false → slot_rests e.1 ≡ true) es
    → ends_among awake site busy es ≡ (each_file (wake_of_file site) (each_file (expired site) (states_of awake es)).files).files
unfolding each_file
all_end awake site busy [] all = refl
all_end awake site busy (e ∷ es) all =
    ap (λ others. ends_one awake site e.1 others (busy e.0)) (all_end awake site busy es all.1)
    ∙ at (each_file (wake_of_file site) (each_file (expired site) (states_of awake es)).files).files (busy e.0) refl
  where
    at : (others : List FileState) (t : Bool) → busy e.0 ≡ t → ends_one awake site e.1 others t ≡ ends_one awake site e.1 others true
    at others true is = refl
    at others false is =
        let resting : slot_rests e.1 ≡ true = all.0 is in
        sym (ap (λ (one : FileStep). (wake_of_file site one.state).state ∷ others) (rest_expires site awake e.1 resting)
        ∙ ap (λ (then : FileStep). then.state ∷ others) (rest_sleeps site awake e.1 resting))

-- The slots once a Wake was done at the files so far.
pub record Ended (now : ℕ) (awake : Awake) (files left : List FileId) (initial slots : BTreeMap FileId Slot) : Type 0 where
  pub are : AreSlots awake (is_among files) slots
  pub states : (sealed : Capability → Bool) (body : FileId → ℕ → Stamp → List ℕ)
      → ends_among awake (site_at awake now sealed body) (is_among files) initial.entries
      ≡ ends_among awake (site_at awake now sealed body) (is_among left) slots.entries

pub record EndedSoFar (now : ℕ) (files left : List FileId) (initial slots : BTreeMap FileId Slot) : Type 0 where
  pub up : IsStrictlySortedBy file_cmp left
  pub so_far : (awake : Awake) → AreSlots awake (is_among files) initial → Ended now awake files left initial slots

pub none_ended : (now : ℕ) (files left : List FileId) (slots : BTreeMap FileId Slot) → IsStrictlySortedBy file_cmp files → left ≡ files → EndedSoFar now files left slots slots
none_ended now files left slots up all =
    record {
      up = subst (IsStrictlySortedBy file_cmp) (sym all) up;
      so_far = λ awake were. record { are = were; states = λ sealed body. ap (λ fs. ends_among awake (site_at awake now sealed body) (is_among fs) slots.entries) (sym all) };
    }

module _ (now : ℕ) (files rest : List FileId) (b : FileId) (initial old new : BTreeMap FileId Slot) (so_far : EndedSoFar now files (b ∷ rest) initial old) where
  -- a busy file without a slot
  passes : slot_at b old.entries ≡ None → new ≡ old → EndedSoFar now files rest initial new
  passes missing same =
      subst (λ (n : BTreeMap FileId Slot). EndedSoFar now files rest initial n) (sym same) (record {
        up = sorted_tail file_cmp b rest so_far.up;
        so_far = λ awake were.
            let was = so_far.so_far awake were in
            record {
              are = was.are;
              states = λ sealed body. was.states sealed body ∙ at_none (ends_one awake (site_at awake now sealed body)) [] b rest old.entries missing;
            };
      })

  -- a busy file with a slot
  ends : (s woke : Slot) → slot_at b old.entries ≡ Some s → EndsSlot now s woke → WritesThrough file_cmp (file_cmp b) old woke new → EndedSoFar now files rest initial new
  ends s woke there ended put =
      record {
        up = sorted_tail file_cmp b rest so_far.up;
        so_far = λ awake were.
            let was = so_far.so_far awake were in
            let own = was.are.each b s there in
            let file = ended.file awake own.sound in
            record {
              are = record {
                rising = put.4;
                each = slot_put awake (is_among files) b woke old new was.are ((put.3 (subst (λ (o : Option Slot). IsSome o) (sym there) refl)).0)
                    (record { own = woken_id now awake s woke file ∙ own.own; sound = ended.sound awake own.sound; resting = λ idle. ended.rests ∙ own.resting idle });
              };
              states = λ sealed body.
                  let site = site_at awake now sealed body in
                  was.states sealed body
                  ∙ at_some (ends_one awake site) [] b rest s woke (λ fs. fs) (λ others. ap (λ state. state ∷ others) (file.state sealed body)) (λ t x. refl) so_far.up old.entries was.are.rising there
                  ∙ ap (ends_among awake site (is_among rest)) (sym put.0);
            };
      }

  pub more_ended : EndsAt now b old new (slot_at b old.entries) → EndedSoFar now files rest initial new
  more_ended at = go (slot_at b old.entries) refl at
    where
      go : (o : Option Slot) → slot_at b old.entries ≡ o → EndsAt now b old new o → EndedSoFar now files rest initial new
      go None missing same = passes missing same
      go (Some s) there ended = ends s ended.0 there ended.1 ended.2

pub all_ended : (now : ℕ) (files left : List FileId) (initial slots : BTreeMap FileId Slot) → left ≡ [] → EndedSoFar now files left initial slots → EndsBusy now files initial slots
all_ended now files left initial slots none so_far =
    λ awake were.
    let was = so_far.so_far awake were in
    record {
      slots = was.are;
      files = λ sealed body.
          let site = site_at awake now sealed body in
          sym (all_end awake site (is_among files) initial.entries (each_slot (λ f s. is_among files f ≡ false → slot_rests s ≡ true) initial.entries were.rising (λ f s found. (were.each f s found).resting)))
          ∙ was.states sealed body ∙ ap (λ l. ends_among awake site (is_among l) slots.entries) none ∙ none_end awake site slots.entries;
    }
