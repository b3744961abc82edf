-- The ends of calls are fresh, where they were answered, each write stands once in the order and answers show the file.
use Rattle.std.proofs.Common.{◌≡◌, ℕ, zero, suc, ◌+◌, ◌-◌, ◌<◌, ◌≤◌, inl, inr, List, [], ◌∷◌, ◌++◌, length, get_or, refl, ap, sym, ◌∙◌, subst, arith, Option, Some, None, Bool, true, false}
use Rattle.std.specs.Prelude.{slice_get, Contains, ◌==◌, if◌then◌else◌}
use Rattle.std.proofs.lemmas.Bool.{cases_lt}
use Rattle.std.proofs.lemmas.Bool.Decides.{nat_tests}
use Rattle.std.proofs.lemmas.List.{append_assoc, append-nil}
use Rattle.xt_base.specs.declared.ids.OpId.{OpId}
use Rattle.xt_messages.specs.declared.file.Op.{Op}
use Rattle.xt_messages.specs.declared.file.Op.TheVariants as op
use Rattle.time_line.specs.declared.entry.Entry.{Entry}
use Rattle.time_line.specs.declared.entry.Entry.TheVariants as entry
use Rattle.time_line.specs.TimeLine.{begun, stripe_of, operation_begun, Claim, claim_on, order_by, write_order, HasPosition}
use Rattle.time_line.specs.Clauses.{is_change, is_reading, ok_entry, HasBegunOn, IsChange, IsReading, IsBefore, IsShown, AreOnce, AnswersShow, BeginsBehind, EndsWell, EndsAreAnswered, ReadsSeeWrites, ReadsDoNotGoBack, WritesKeepOrder, AreFresh}
use Rattle.world_runs.proofs.Entries.{HasAnswer, two_fronts, get-push, has_begun, operation-same, begun_on-grown, order-push, order-length, position-within, position-front, position-grown}

-- a contained item splits the list
contains-split : {X : Type 0} (xs : List X) (x : X) → Contains xs x → (front : List X) × (rest : List X) × (xs ≡ front ++ x ∷ rest)
contains-split xs x h = split xs x h.0 h.1 h.2
  where
    split : {X : Type 0} (xs : List X) (x : X) (k : ℕ) → k < length xs → get_or xs k x ≡ x → (front : List X) × (rest : List X) × (xs ≡ front ++ x ∷ rest)
    split [] x k below e = absurd (omega arith)
    split (a ∷ xs) x zero below e = ([], xs, ap (λ z. z ∷ xs) e)
    split (a ∷ xs) x (suc k) below e = let rest = split xs x k (omega arith) e in (a ∷ rest.0, rest.1, ap (λ z. a ∷ z) rest.2)

change_begun : (o : Option Op) → is_change o ≡ true → (operation : Op) × (o ≡ Some operation)
change_begun None h = absurd cc
change_begun (Some operation) h = (operation, refl)

reading_begun : (o : Option Op) → is_reading o ≡ true → (operation : Op) × (o ≡ Some operation)
reading_begun None h = absurd cc
reading_begun (Some operation) h = (operation, refl)

shown_change : (stripe file : ℕ) (es : List Entry) (id : OpId) (count : ℕ) (bytes : List ℕ) (o : Option Op) → IsShown stripe file es id count bytes o → is_change o ≡ true → HasPosition file es id count
shown_change stripe file es id count bytes None h e = absurd h
shown_change stripe file es id count bytes (Some (op.Read object at len)) h e = absurd cc
shown_change stripe file es id count bytes (Some (op.Write object at body)) h e = h.0
shown_change stripe file es id count bytes (Some (op.Truncate size)) h e = h.0

shown_reading : (stripe file : ℕ) (es : List Entry) (id : OpId) (count : ℕ) (bytes : List ℕ) (o : Option Op) → IsShown stripe file es id count bytes o → is_reading o ≡ true → count ≡ length (write_order file es)
shown_reading stripe file es id count bytes None h e = absurd h
shown_reading stripe file es id count bytes (Some (op.Read object at len)) h e = h.0
shown_reading stripe file es id count bytes (Some (op.Write object at body)) h e = absurd cc
shown_reading stripe file es id count bytes (Some (op.Truncate size)) h e = absurd cc

module _ (file : ℕ) (es : List Entry) (answered : EndsAreAnswered file es) (once : AreOnce file es) (shows : AnswersShow file es) where
  -- a call on the file that had ended in a front was answered in it
  ended : (before tail : List Entry) (id : OpId) (count : ℕ) → es ≡ before ++ tail → HasBegunOn file es id → (ends : EndsWell before id count) → HasAnswer file before id count ends.0
  ended before tail id count split on_file ends =
      let bytes = ends.0 in
      let at = contains-split before (ok_entry id count bytes) ends.1 in
      let there : IsBefore at.0 (ok_entry id count bytes) es
      = (at.1 ++ tail, split ∙ ap (λ xs. xs ++ tail) at.2 ∙ append_assoc at.0 (ok_entry id count bytes ∷ at.1) tail) in
      let a = answered at.0 id count bytes there on_file in
      record {
        front = a.0;
        node = a.1;
        rest = a.2.0 ++ ok_entry id count bytes ∷ at.1;
        split = at.2 ∙ ap (λ xs. xs ++ ok_entry id count bytes ∷ at.1) a.2.1 ∙ append_assoc a.0 (entry.Answer a.1 file id count bytes ∷ a.2.0) (ok_entry id count bytes ∷ at.1);
        has_begun = a.3;
      }

  -- what its answer showed of what the call does
  shown : (before tail : List Entry) (id : OpId) (count : ℕ) (bytes : List ℕ) → es ≡ before ++ tail → (a : HasAnswer file before id count bytes) → IsShown (stripe_of file es) file a.front id count bytes (operation_begun file es id)
  shown before tail id count bytes split a =
      let rest = entry.Answer a.node file id count bytes ∷ (a.rest ++ tail) in
      let whole : es ≡ a.front ++ entry.Answer a.node file id count bytes ∷ (a.rest ++ tail)
      = split ∙ ap (λ xs. xs ++ tail) a.split ∙ append_assoc a.front (entry.Answer a.node file id count bytes ∷ a.rest) tail in
      let same : operation_begun file es id ≡ operation_begun file a.front id
      = ap (λ xs. operation_begun file xs id) whole ∙ operation-same file a.front rest id a.has_begun in
      subst (IsShown (stripe_of file es) file a.front id count bytes) (sym same) (shows a.front a.node id count bytes (a.rest ++ tail, whole))

  -- a write or truncation that had ended has its position
  change-position : (before tail : List Entry) (id : OpId) (count : ℕ) → es ≡ before ++ tail → IsChange file es id → EndsWell before id count → HasPosition file before id count
  change-position before tail id count split change ends =
      let a = ended before tail id count split (change_begun (operation_begun file es id) change) ends in
      subst (λ xs. HasPosition file xs id count) (sym a.split)
      (position-grown file a.front (entry.Answer a.node file id count ends.0 ∷ a.rest) id count
      (shown_change (stripe_of file es) file a.front id count ends.0 (operation_begun file es id) (shown before tail id count ends.0 split a) change))

  -- a read that had ended counted at most the writes there
  reading-count : (before tail : List Entry) (id : OpId) (count : ℕ) → es ≡ before ++ tail → IsReading file es id → EndsWell before id count → count ≤ length (write_order file before)
  reading-count before tail id count split reading ends =
      let a = ended before tail id count split (reading_begun (operation_begun file es id) reading) ends in
      let rest = entry.Answer a.node file id count ends.0 ∷ a.rest in
      let counted : count ≡ length (write_order file a.front)
      = shown_reading (stripe_of file es) file a.front id count ends.0 (operation_begun file es id) (shown before tail id count ends.0 split a) reading in
      let more : length (write_order file a.front) ≤ length (write_order file (a.front ++ rest)) = order-length file a.front rest in
      let all : length (write_order file before) ≡ length (write_order file (a.front ++ rest)) = ap (λ xs. length (write_order file xs)) a.split in
      omega arith

  -- what stands before a beginning
  begin_front : (before : List Entry) (id : OpId) → BeginsBehind before es id → (tail : List Entry) × (es ≡ before ++ tail)
  begin_front before id begins = (entry.Begin id.client id.number begins.0 ∷ begins.1.0, begins.1.1)

  -- a call has no beginning in front of its first
  not_yet : (before : List Entry) (id : OpId) → BeginsBehind before es id → HasBegunOn file before id → ⊥
  not_yet before id begins on_file =
      let found = has_begun file before id on_file in
      let some : begun id before ≡ Some found.0 = found.1 in
      let none : begun id before ≡ None = begins.2 in
      cc

  -- a read counts the writes before its beginning
  reads-count : (before : List Entry) (id : OpId) (count : ℕ) → IsReading file es id → EndsWell es id count → BeginsBehind before es id → length (write_order file before) ≤ count
  reads-count before id count reading ends begins =
      let a = ended es [] id count (sym (append-nil es)) (reading_begun (operation_begun file es id) reading) ends in
      let front = begin_front before id begins in
      let counted : count ≡ length (write_order file a.front)
      = shown_reading (stripe_of file es) file a.front id count ends.0 (operation_begun file es id) (shown es [] id count ends.0 (sym (append-nil es)) a) reading in
      elim (two_fronts before front.0 a.front (entry.Answer a.node file id count ends.0 ∷ a.rest) (sym front.1 ∙ a.split)) as (λ w. length (write_order file before) ≤ count) [
        | inl h ↦
            (let more : length (write_order file before) ≤ length (write_order file (before ++ h.0)) = order-length file before h.0 in
            let same : length (write_order file a.front) ≡ length (write_order file (before ++ h.0)) = ap (λ xs. length (write_order file xs)) h.1 in
            omega arith)
        | inr h ↦ absurd (not_yet before id begins (subst (λ xs. HasBegunOn file xs id) (sym h.1) (begun_on-grown file a.front h.0 id a.has_begun)))
      ]

  writes_seen : ReadsSeeWrites file es
  writes_seen before reading writing count written is_read read_ends is_write write_ends begins =
      let front = begin_front before reading begins in
      let here : HasPosition file before writing written = change-position before front.0 writing written front.1 is_write write_ends in
      let below : written ≤ length (write_order file before) = position-within file before writing written here in
      let least : length (write_order file before) ≤ count = reads-count before reading count is_read read_ends begins in
      (written, subst (λ xs. HasPosition file xs writing written) (sym front.1) (position-grown file before front.0 writing written here), omega arith)

  no_way_back : ReadsDoNotGoBack file es
  no_way_back before reading earlier count earlier_count is_read read_ends was_read earlier_ends begins =
      let front = begin_front before reading begins in
      let below : earlier_count ≤ length (write_order file before) = reading-count before front.0 earlier earlier_count front.1 was_read earlier_ends in
      let least : length (write_order file before) ≤ count = reads-count before reading count is_read read_ends begins in
      omega arith

  -- ---- each write of the order had begun

  abbrev AllBegun : List Entry → Type 0
  AllBegun xs = (i : ℕ) (id : OpId) → slice_get (write_order file xs) i ≡ Some id → HasBegunOn file xs id

  one_more : (xs tail : List Entry) (e : Entry) → es ≡ xs ++ e ∷ tail → AllBegun xs → AllBegun (xs ++ e ∷ [])
  one_more xs tail e split all i id at = begun_on-grown file xs (e ∷ []) id (by_claim (claim_on file e) refl (sym (ap (λ o. slice_get o i) (order-push file xs e)) ∙ at))
    where
      by_claim : (o : Option Claim) → claim_on file e ≡ o → slice_get (order_by (write_order file xs) o) i ≡ Some id → HasBegunOn file xs id
      by_claim None is at = all i id at
      by_claim (Some claim) is at = by_count (claim.count == length (write_order file xs) + 1) refl at
        where
          counted : (a b : ℕ) → (a == b) ≡ true → a ≡ b
          counted a b h = grind (arith, nat_tests)

          by_count : (b : Bool) → (claim.count == length (write_order file xs) + 1) ≡ b → slice_get (if b then write_order file xs ++ claim.id ∷ [] else write_order file xs) i ≡ Some id → HasBegunOn file xs id
          by_count false test at = all i id at
          by_count true test at =
              elim (get-push (write_order file xs) claim.id i id at) [
                | inl h ↦ all i id h
                | inr same ↦
                    subst (HasBegunOn file xs) same
                    (change_begun (operation_begun file xs claim.id) (once.begun xs e claim (tail, split) is (counted claim.count (length (write_order file xs) + 1) test)))
              ]

  all_begun : (xs ys tail : List Entry) → es ≡ xs ++ (ys ++ tail) → AllBegun xs → AllBegun (xs ++ ys)
  all_begun xs [] tail split all = subst AllBegun (sym (append-nil xs)) all
  all_begun xs (y ∷ ys) tail split all =
      let moved : xs ++ y ∷ (ys ++ tail) ≡ (xs ++ y ∷ []) ++ (ys ++ tail) = sym (append_assoc xs (y ∷ []) (ys ++ tail)) in
      subst AllBegun (append_assoc xs (y ∷ []) ys) (all_begun (xs ++ y ∷ []) ys tail (split ∙ moved) (one_more xs (ys ++ tail) y split all))

  none_first : AllBegun []
  unfolding write_order
  none_first i id at = absurd cc

  -- a write that hasn't begun has no position yet
  later_place : (before : List Entry) (later : OpId) (position : ℕ) → BeginsBehind before es later → HasPosition file es later position → length (write_order file before) < position
  later_place before later position begins at =
      elim (cases_lt (length (write_order file before)) position) as (λ w. length (write_order file before) < position) [
        | inl h ↦ h
        | inr h ↦
            (let front = begin_front before later begins in
            let here : slice_get (write_order file before) (position - 1) ≡ Some later
            = sym (position-front file before front.0 position at.0 (omega arith)) ∙ ap (λ xs. slice_get (write_order file xs) (position - 1)) (sym front.1) ∙ at.1 in
            absurd (not_yet before later begins (all_begun [] before front.0 front.1 none_first (position - 1) later here)))
      ]

  order_kept : WritesKeepOrder file es
  order_kept before later earlier count earlier_position later_position another is_later is_earlier ends begins at later_at =
      let front = begin_front before later begins in
      let here : HasPosition file before earlier count = change-position before front.0 earlier count front.1 is_earlier ends in
      let below : count ≤ length (write_order file before) = position-within file before earlier count here in
      let there_too : HasPosition file es earlier count
      = subst (λ xs. HasPosition file xs earlier count) (sym front.1) (position-grown file before front.0 earlier count here) in
      let same : earlier_position ≡ count = once.distinct earlier earlier_position count at there_too in
      let above : length (write_order file before) < later_position = later_place before later later_position begins later_at in
      omega arith

  fresh : AreFresh file es
  fresh = record { answered = answered; writes_seen = writes_seen; no_way_back = no_way_back; order_kept = order_kept }

pub answered_fresh : (file : ℕ) (entries : List Entry) → EndsAreAnswered file entries → AreOnce file entries → AnswersShow file entries → AreFresh file entries
answered_fresh file entries answered once shows = fresh file entries answered once shows
