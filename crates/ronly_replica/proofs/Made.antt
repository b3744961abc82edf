-- a replica that is made is the only one of its store, and holds nothing yet
use Rattle.std.proofs.Common.{◌≡◌, ◌≢◌, ℕ, ◌+◌, inl, inr, List, [], ◌∷◌, ◌++◌, length, arith, refl, ap, sym, ◌∙◌, subst, Option, Some, None, Bool, true, false}
use Rattle.std.specs.Prelude.{if◌then◌else◌, ◌&&◌, ◌==◌}
use Rattle.std.specs.List.{AllByRecursion, cons_option, fold}
use Rattle.std.proofs.lemmas.List.Elements.{recursion_from_All}
use Rattle.disk_model.specs.declared.disk.Disk.{Ghosts}
use Rattle.xt_base.specs.declared.ids.FileId.{FileId}
use Rattle.xt_base.specs.declared.ids.Stamp.{Stamp}
use Rattle.xt_messages.specs.declared.record.Record.{Record}
use Rattle.xt_messages.specs.declared.record.Record.TheVariants as kept
use Rattle.xt_messages.specs.declared.record.FileRow.{FileRow}
use Rattle.xt_messages.specs.declared.record.Folded.{Folded}
use Rattle.xt_protocol.specs.FileIds.{is_file, is_before}
use Rattle.xt_protocol.specs.Folds.{row_in, with_row, folded_after, fold_of, file_of, makes_body, body_put, newer, body_after, body_kept}
use Rattle.xt_protocol.specs.Stamps.{is_stamp}
use Rattle.xt_protocol.proofs.Folds.{file-equal, file-itself, row_in-with_row, row_in-file, fold_of-append, body_kept-append}
use Rattle.replica_records.specs.Known.{known_of}
use Rattle.object_store.specs.declared.store.Store.{Store}
use Rattle.object_store.specs.Access as store
use Rattle.object_store.specs.declared.waiting.Waiting.{Waiting}
use Rattle.object_store.specs.Puts.{ArePut}
use Rattle.object_store.specs.Waits.{CanBePut, IsOverLimit, IsStaged, end_with, recs_of}
use Rattle.replica_records.specs.RecordText.{record_text}
use Rattle.ronly_replica.specs.declared.pin.Pin.{Pin}
use Rattle.ronly_replica.specs.declared.replica.Ronly.{Ronly}
use Rattle.ronly_replica.specs.Pins.{pinned_version, pinned_head, view_of, head_of, pin_of, pins_of, held_in, Lacks}
use Rattle.ronly_replica.specs.Making.{pins_in, both_of, IsMade, HasNoRoomFor}
use Rattle.ronly_replica.specs.Access as replica

-- ---- a row more

with_same : (r : FileRow) (rs : List FileRow) (row : FileRow) → is_file r.file row.file ≡ true → with_row (r ∷ rs) row ≡ row ∷ rs
unfolding with_row
with_same r rs row same = ap (λ b. if b then row ∷ rs else if is_before row.file r.file then row ∷ r ∷ rs else r ∷ with_row rs row) same

with_before : (r : FileRow) (rs : List FileRow) (row : FileRow) → is_file r.file row.file ≡ false → is_before row.file r.file ≡ true → with_row (r ∷ rs) row ≡ row ∷ r ∷ rs
unfolding with_row
with_before r rs row other before =
    ap (λ b. if b then row ∷ rs else if is_before row.file r.file then row ∷ r ∷ rs else r ∷ with_row rs row) other
    ∙ ap (λ b. if b then row ∷ r ∷ rs else r ∷ with_row rs row) before

with_later : (r : FileRow) (rs : List FileRow) (row : FileRow) → is_file r.file row.file ≡ false → is_before row.file r.file ≡ false → with_row (r ∷ rs) row ≡ r ∷ with_row rs row
unfolding with_row
with_later r rs row other later =
    ap (λ b. if b then row ∷ rs else if is_before row.file r.file then row ∷ r ∷ rs else r ∷ with_row rs row) other
    ∙ ap (λ b. if b then row ∷ r ∷ rs else r ∷ with_row rs row) later

with_first : (row : FileRow) → with_row [] row ≡ row ∷ []
unfolding with_row
with_first row = refl

-- a row with a place, among others of which none has one
no_more : (row : FileRow) (pin : Pin) (rest : List FileRow) → pin_of row ≡ Some pin → pins_of rest ≡ [] → pins_of (row ∷ rest) ≡ pin ∷ []
no_more row pin rest is none = ap (λ o. cons_option o (pins_of rest)) is ∙ ap (λ ps. pin ∷ ps) none

no_cons : (pin : Pin) (pins : List Pin) → pin ∷ pins ≡ [] → ⊥
no_cons pin pins h = cc

-- of rows of which none has a place
first_none : (row : FileRow) (rest : List FileRow) → pins_of (row ∷ rest) ≡ [] → (pin_of row ≡ None) × (pins_of rest ≡ [])
first_none row rest none = at (pin_of row) refl
  where
    at : (o : Option Pin) → pin_of row ≡ o → (pin_of row ≡ None) × (pins_of rest ≡ [])
    at None is = (is, subst (λ o. cons_option o (pins_of rest) ≡ []) is none)
    at (Some pin) is = absurd (no_cons pin (pins_of rest) (subst (λ o. cons_option o (pins_of rest) ≡ []) is none))

one_pin : (rows : List FileRow) (row : FileRow) (pin : Pin) → pins_of rows ≡ [] → pin_of row ≡ Some pin → pins_of (with_row rows row) ≡ pin ∷ []
one_pin [] row pin none is = ap pins_of (with_first row) ∙ no_more row pin [] is refl
one_pin (r ∷ rs) row pin none is =
    let others = first_none r rs none in
    at others.0 others.1 (one_pin rs row pin others.1 is) (is_file r.file row.file) (is_before row.file r.file) refl refl
  where
    at : pin_of r ≡ None → pins_of rs ≡ [] → pins_of (with_row rs row) ≡ pin ∷ [] → (same before : Bool) → is_file r.file row.file ≡ same → is_before row.file r.file ≡ before
        → pins_of (with_row (r ∷ rs) row) ≡ pin ∷ []
    at first rest later true before equal earlier = ap pins_of (with_same r rs row equal) ∙ no_more row pin rs is rest
    at first rest later false true equal earlier = ap pins_of (with_before r rs row equal earlier) ∙ no_more row pin (r ∷ rs) is none
    at first rest later false false equal earlier =
        ap pins_of (with_later r rs row equal earlier) ∙ ap (λ o. cons_option o (pins_of (with_row rs row))) first ∙ later

-- a row that takes the place of one of its file
put_twice : (rows : List FileRow) (one two : FileRow) → one.file ≡ two.file → with_row (with_row rows one) two ≡ with_row rows two
put_twice [] one two same =
    ap (λ rows. with_row rows two) (with_first one) ∙ with_same one [] two (ap (λ f. is_file f two.file) same ∙ file-itself two.file) ∙ sym (with_first two)
put_twice (r ∷ rs) one two same = at (put_twice rs one two same) (is_file r.file two.file) (is_before two.file r.file) refl refl
  where
    here : is_file one.file two.file ≡ true
    here = ap (λ f. is_file f two.file) same ∙ file-itself two.file

    first : is_file r.file one.file ≡ is_file r.file two.file
    first = ap (λ f. is_file r.file f) same

    second : is_before one.file r.file ≡ is_before two.file r.file
    second = ap (λ f. is_before f r.file) same

    at : with_row (with_row rs one) two ≡ with_row rs two → (equal before : Bool) → is_file r.file two.file ≡ equal → is_before two.file r.file ≡ before
        → with_row (with_row (r ∷ rs) one) two ≡ with_row (r ∷ rs) two
    at rest true before is later =
        ap (λ rows. with_row rows two) (with_same r rs one (first ∙ is)) ∙ with_same one rs two here ∙ sym (with_same r rs two is)
    at rest false true is later =
        ap (λ rows. with_row rows two) (with_before r rs one (first ∙ is) (second ∙ later)) ∙ with_same one (r ∷ rs) two here ∙ sym (with_before r rs two is later)
    at rest false false is later =
        ap (λ rows. with_row rows two) (with_later r rs one (first ∙ is) (second ∙ later)) ∙ with_later r (with_row rs one) two is later
        ∙ ap (λ rows. r ∷ rows) rest ∙ sym (with_later r rs two is later)

-- ---- the records of a pin

module _ (pin : Pin) (folded : Folded) (none : pins_of folded.files ≡ []) where
  -- the pin's row once its place is put, and then its head
  placed : FileRow
  placed = record (row_in folded.files pin.file) { location = Some pin.location }

  done : FileRow
  done = record placed { head = pinned_head pin }

  placed-file : placed.file ≡ pin.file
  unfolding placed row_in
  placed-file = row_in-file folded.files pin.file

  its_row : row_in (with_row folded.files placed) pin.file ≡ placed
  its_row = row_in-with_row folded.files placed pin.file
      ∙ ap (λ b. if b then placed else row_in folded.files pin.file) (ap (λ f. is_file f pin.file) placed-file ∙ file-itself pin.file)

  both_rows : (folded_after (folded_after folded (view_of pin)) (head_of pin)).files ≡ with_row folded.files done
  unfolding done placed
  both_rows = ap (λ (row : FileRow). with_row (with_row folded.files placed) (record row { head = pinned_head pin })) its_row ∙ put_twice folded.files placed done refl

  is_pin : pin_of done ≡ Some pin
  unfolding done placed
  is_pin = ap (λ f. Some (record pin { file = f })) placed-file

  pub pins_after : pins_of (folded_after (folded_after folded (view_of pin)) (head_of pin)).files ≡ pin ∷ []
  pins_after = ap pins_of both_rows ∙ one_pin folded.files done pin none is_pin

alone : (pin : Pin) (records : List Record) → pins_in records ≡ [] → pins_in (records ++ both_of pin) ≡ pin ∷ []
alone pin records none = ap (λ (f : Folded). pins_of f.files) (fold_of-append records (both_of pin)) ∙ pins_after pin (fold_of records) none

-- ---- held objects

not_its : (f file : FileId) → Some f ≢ Some file → is_file f file ≡ false
not_its f file other = at (is_file f file) refl
  where
    at : (b : Bool) → is_file f file ≡ b → is_file f file ≡ false
    at true is = absurd (other (ap Some (file-equal f file is)))
    at false is = is

outside : (a b : Bool) (bytes : List ℕ) → a ≡ false → (if a && b then Some bytes else None) ≡ None
outside true b bytes h = absurd cc
outside false b bytes h = refl

outside_all : (a b c : Bool) (bytes : List ℕ) → a ≡ false → (if a && b && c then Some bytes else None) ≡ None
outside_all true b c bytes h = absurd cc
outside_all false b c bytes h = refl

-- a record that isn't of a file puts no body of it
no_body : (file : FileId) (object : ℕ) (version : Stamp) (rec : Record) → file_of rec ≢ Some file → body_put file object version rec ≡ None
no_body file object version (kept.Update f update) other = outside (is_file f file) (makes_body update object version) update.body (not_its f file other)
no_body file object version (kept.Stage f o v bytes) other = outside_all (is_file f file) (o == object) (is_stamp v version) bytes (not_its f file other)
no_body file object version (kept.OldUpdate f update) other = outside (is_file f file) (makes_body update object version) update.body (not_its f file other)
no_body file object version (kept.OldStage f o v bytes) other = outside_all (is_file f file) (o == object) (is_stamp v version) bytes (not_its f file other)
no_body file object version (kept.Promise f epoch) other = refl
no_body file object version (kept.Head f head) other = refl
no_body file object version (kept.View f location) other = refl
no_body file object version (kept.Boot boot) other = refl
no_body file object version (kept.Meta from number now nodes request) other = refl
no_body file object version (kept.Close f v) other = refl
no_body file object version (kept.Install f location head) other = refl
no_body file object version (kept.Choice f location head source) other = refl
no_body file object version (kept.Listed f v) other = refl
no_body file object version (kept.Seal f o v digest) other = refl
no_body file object version (kept.Forget f) other = refl
no_body file object version (kept.OldHead f head) other = refl
no_body file object version (kept.OldInstall f location head) other = refl
no_body file object version (kept.OldChoice f location head source) other = refl

none_put : (file : FileId) (object : ℕ) (version : Stamp) (records : List Record) → AllByRecursion (λ rec. file_of rec ≢ Some file) records
    → body_kept records file object version ≡ None
unfolding body_kept
none_put file object version [] all = refl
none_put file object version (r ∷ rs) all =
    ap (λ o. fold (body_after file object version) (newer None o) rs) (no_body file object version r all.0) ∙ none_put file object version rs all.1

fresh : (pin : Pin) (records : List Record) → Lacks pin.file records → (object : ℕ) → held_in pin (records ++ both_of pin) object ≡ None
fresh pin records lacks object =
    body_kept-append records (both_of pin) pin.file object (pinned_version pin.count)
    ∙ none_put pin.file object (pinned_version pin.count) records (recursion_from_All (λ rec. file_of rec ≢ Some pin.file) records lacks)

-- ---- records that wait

module _ {D : Type 0} {g : Ghosts D} (old : Store D g) (pin : Pin) where
  -- nothing waits yet
  pub none_can : (waiting : Waiting) → recs_of waiting ≡ [] → CanBePut old (recs_of waiting)
  none_can waiting is = subst (CanBePut old) (sym is) (record { placed = tt; room = omega arith })

  -- both records wait
  pub both_wait : (first second third : Waiting) → recs_of first ≡ [] → IsStaged old first (view_of pin) second → IsStaged old second (head_of pin) third
      → (recs_of third ≡ both_of pin) × CanBePut old (both_of pin)
  both_wait first second third none one two =
      let both : recs_of third ≡ both_of pin
      = two.recs ∙ ap (λ rs. rs ++ head_of pin ∷ []) (one.recs ∙ ap (λ rs. rs ++ view_of pin ∷ []) none) in (
        both,
        subst (CanBePut old) both two.can,
      )

  -- there is no room for the first one
  pub first_full : (first : Waiting) (need limit : ℕ) → recs_of first ≡ [] → IsOverLimit old (end_with old (recs_of first) + (6 + length (record_text (view_of pin)))) need limit
      → HasNoRoomFor old pin need limit
  first_full first need limit none over =
      inl (subst (λ rs. IsOverLimit old (end_with old rs + (6 + length (record_text (view_of pin)))) need limit) none over)

  -- or for both
  pub second_full : (first second : Waiting) (need limit : ℕ) → recs_of first ≡ [] → IsStaged old first (view_of pin) second
      → IsOverLimit old (end_with old (recs_of second) + (6 + length (record_text (head_of pin)))) need limit → HasNoRoomFor old pin need limit
  second_full first second need limit none one over =
      inr (subst (λ rs. IsOverLimit old (end_with old rs + (6 + length (record_text (head_of pin)))) need limit)
      (one.recs ∙ ap (λ rs. rs ++ view_of pin ∷ []) none) over)

-- ---- the whole

-- nothing of a pin's records is unknown
known_both : (told : Bool) (pin : Pin) → known_of told (both_of pin) ≡ both_of pin
known_both true pin = refl
known_both false pin = refl

pub made : {D : Type 0} {g : Ghosts D} (old : Store D g) (pin : Pin) (new : Ronly D g) (recs : List Record) → recs ≡ both_of pin → ArePut old recs (replica.store_of new)
    → pins_in (store.records_of old) ≡ [] → replica.pin_of new ≡ pin → IsMade old pin new
made {g = g} old pin new recs both put none pinned =
    let records : replica.records_of new ≡ store.records_of old ++ both_of pin
    = put.records ∙ ap (λ rs. store.records_of old ++ known_of g.is_told rs) both ∙ ap (λ rs. store.records_of old ++ rs) (known_both g.is_told pin) in
    record {
      pinned = pinned;
      records = records;
      alone = ap pins_in records ∙ alone pin (store.records_of old) none;
      fresh = λ lacks object. ap (λ rs. held_in pin rs object) records ∙ fresh pin (store.records_of old) lacks object;
    }
