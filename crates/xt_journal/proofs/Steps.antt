-- What a crash leaves in each half of an append.
use Rattle.std.proofs.Common.{◌≡◌, ◌≢◌, inl, inr, ℕ, ◌+◌, ◌-◌, ◌^◌, ◌<◌, ◌≤◌, Bool, List, [], ◌∷◌, ◌++◌, length, get_or, take, drop, sym, ◌∙◌, ap, subst, arith, append_assoc, length-append, take-append-drop, Option, Some, None, Err, suc}
use Rattle.std.specs.Prelude.{slice_index}
use Rattle.std.proofs.lemmas.List.{append-nil, take_at, drop_more, length-drop}
use Rattle.std.proofs.lemmas.List.Elements.{All-push}
use Rattle.std.proofs.lemmas.Bool.{cases_eq, cond-true, cond-false, eq-eqb, ne_eqb, and_from, and_left, and_right, le-leb, lt-leb}
use Rattle.std.proofs.Math.Seq.{drop-append-add}
use Rattle.std.proofs.Math.Logic.{∥∥₁_elim, ∥∥₁_map}
use Rattle.std.proofs.Props.{props}
use Rattle.disk_model.specs.Disk.{Kept, IsImage, IsFilled, Elapses, LeavesOnly}
use Rattle.xt_base.specs.Overlay.{overlay, zeros}
use Rattle.disk_model.proofs.Filled.{filled_is_image}
use Rattle.disk_model.proofs.Moments.{elapsed}
use Rattle.disk_model.proofs.Images.{front_stays, back_stays, rest_stays, size_stays}
use Rattle.journal_areas.specs.declared.superblock.Superblock.{Superblock}
use Rattle.journal_moves.proofs.Stopped.{torn_image, gate_filled}
use Rattle.journal_areas.proofs.Reaching.{end_of_reached, reached_front, reached_more, reached_stays}
use Rattle.xt_journal.specs.declared.append.Refusal.{Refusal}
use Rattle.xt_journal.specs.declared.append.Refusal.TheVariants.{Broken, OutOfMemory}
use Rattle.xt_journal.specs.Appended.{Appends, AppendsAll}
use Rattle.xt_journal.specs.Append.{GoesAt, GoAt, IsRunOf, IsTurn, IsWithAllOrNone, IsWithOrWithout, IsStopped, AreStopped, payloads_after}
use Rattle.journal_records.specs.Calls.{MayBeTorn, IsTornAt}
use Rattle.xt_journal.specs.Format.{open_gate, record_of, records, superblock_kind, IsGiven, AreGiven, Reached, end_in, IsJournal, StandsIn, StandsFor, KeepsIn, KeepsJournal, EndsAt}
use Rattle.xt_journal.proofs.Records.{length-record}
use Rattle.journal_areas.specs.declared.superblock.Slot.{Slot}
use Rattle.journal_areas.specs.Superblocks.{current}
use Rattle.journal_areas.specs.Areas.{end_by}
use Rattle.journal_areas.proofs.Records.{records-append}
use Rattle.xt_journal.proofs.Push.{end_in-push}
use Rattle.xt_journal.proofs.Unique.{stands_for_one}

-- a piece over the bytes after a front
over : (place : ℕ) (front piece tail : List ℕ) → length front ≡ place → overlay (front ++ tail) place piece ≡ front ++ (piece ++ drop (length piece) tail)
over place front piece tail size =
    let bytes = front ++ tail in
    let none : place - length bytes ≡ 0 = omega (arith, size, length-append front tail) in
    let whole : take place bytes ++ zeros (place - length bytes) ≡ front =
    ap (λ (n : ℕ). take place bytes ++ zeros n) none ∙ append-nil (take place bytes) ∙ take_at front tail place size in
    let rest : drop (place + length piece) bytes ≡ drop (length piece) tail =
    ap (λ (n : ℕ). drop (n + length piece) bytes) (sym size) ∙ drop-append-add front tail (length piece) in
    ap (λ (l : List ℕ). (l ++ piece) ++ drop (place + length piece) bytes) whole ∙ ap (λ (l : List ℕ). (front ++ piece) ++ l) rest
    ∙ append_assoc front piece (drop (length piece) tail)

-- ---- records of several payloads

-- reading comes past all of them
reached_all : (super : Option Superblock) (bytes : List ℕ) (payloads more : List (List ℕ)) (rest : List ℕ) → AreGiven more → Reached super bytes payloads (records more ++ rest)
    → Reached super bytes (payloads ++ more) rest
reached_all super bytes payloads [] rest given is = subst (λ (ps : List (List ℕ)). Reached super bytes ps rest) (sym (append-nil payloads)) is
reached_all super bytes payloads (p ∷ more) rest given is =
    let next : records (p ∷ more) ++ rest ≡ open_gate ∷ (record_of p ++ (records more ++ rest)) =
    ap (λ (l : List ℕ). open_gate ∷ l) (append_assoc (record_of p) (records more) rest) in
    let one : Reached super bytes (payloads ++ p ∷ []) (records more ++ rest) =
    reached_more super bytes payloads p (records more ++ rest) (given 0 [] (omega arith)) (subst (Reached super bytes payloads) next is) in
    subst (λ (ps : List (List ℕ)). Reached super bytes ps rest) (append_assoc payloads (p ∷ []) more)
    (reached_all super bytes (payloads ++ p ∷ []) more rest (λ k d inside. given (suc k) d (omega (arith, inside))) one)

-- bytes after an open gate and such a piece
joined : (more : List (List ℕ)) (piece later : List ℕ) → open_gate ∷ piece ≡ records more ++ 0 ∷ [] → open_gate ∷ (piece ++ later) ≡ records more ++ 0 ∷ later
joined more piece later is = ap (λ (l : List ℕ). l ++ later) is ∙ append_assoc (records more) (0 ∷ []) later

-- ---- on a disk with this journal

module _ (super : Option Superblock) (payloads more : List (List ℕ)) (bytes front : List ℕ) (gate : ℕ) (rest : List ℕ) (end : ℕ)
    (reached : Reached super bytes payloads (gate ∷ rest)) (are : bytes ≡ front ++ gate ∷ rest) (size : length front ≡ end) (given : AreGiven more) where
  -- bytes that are no shorter, with the same front, are read as far
  as_far : (other : ℕ) (later image : List ℕ) → length bytes ≤ length image → image ≡ front ++ other ∷ later → Reached super image payloads (other ∷ later)
  as_far other later image longer is =
      reached_stays bytes image front (gate ∷ rest) (other ∷ later) are is
      (omega (arith, longer, ap length are, ap length is, length-append front (gate ∷ rest), length-append front (other ∷ later))) super payloads reached

  closed : (other : ℕ) (later image : List ℕ) → length bytes ≤ length image → other ≢ open_gate → image ≡ front ++ other ∷ later → IsJournal super image payloads
  closed other later image longer shut is = record { gate = other; rest = later; shut = shut; reached = as_far other later image longer is }

  split : bytes ≡ (front ++ gate ∷ []) ++ rest
  split = are ∙ sym (append_assoc front (gate ∷ []) rest)

  one_more : length (front ++ gate ∷ []) ≡ end + 1
  one_more = omega (arith, size, length-append front (gate ∷ []))

  long : end + 1 ≤ length bytes
  long = omega (arith, ap length are, size, length-append front (gate ∷ rest))

  -- the records are written after a gate that stays closed
  stage_image : gate ≢ open_gate → (piece image : List ℕ) → MayBeTorn (end + 1) piece bytes image → IsJournal super image payloads
  stage_image shut piece image torn =
      let start : take (end + 1) image ≡ front ++ gate ∷ [] =
      front_stays bytes (end + 1) piece image torn (end + 1) (omega arith) long ∙ ap (λ (l : List ℕ). take (end + 1) l) split ∙ take_at (front ++ gate ∷ []) rest (end + 1) one_more in
      closed gate (drop (end + 1) image) image torn.no_shorter shut
      (sym (take-append-drop (end + 1) image) ∙ ap (λ (l : List ℕ). l ++ drop (end + 1) image) start ∙ append_assoc front (gate ∷ []) (drop (end + 1) image))

  module _ (piece : List ℕ) (is_piece : open_gate ∷ piece ≡ records more ++ 0 ∷ []) where
    opened : (later image : List ℕ) → length bytes ≤ length image → image ≡ front ++ open_gate ∷ (piece ++ later) → IsJournal super image (payloads ++ more)
    opened later image longer is = record {
      gate = 0;
      rest = later;
      shut = omega arith;
      reached = reached_all super image payloads more (0 ∷ later) given
          (subst (Reached super image payloads) (joined more piece later is_piece) (as_far open_gate (piece ++ later) image longer is));
    }

    staged : overlay bytes (end + 1) piece ≡ front ++ gate ∷ (piece ++ drop (length piece) rest)
    staged =
        ap (λ (l : List ℕ). overlay l (end + 1) piece) split ∙ over (end + 1) (front ++ gate ∷ []) piece rest one_more
        ∙ append_assoc front (gate ∷ []) (piece ++ drop (length piece) rest)

    staged_longer : length bytes ≤ length (overlay bytes (end + 1) piece)
    staged_longer =
        omega (
          arith,
          ap length are,
          ap length staged,
          length-append front (gate ∷ rest),
          length-append front (gate ∷ (piece ++ drop (length piece) rest)),
          length-append piece (drop (length piece) rest),
          length-drop (length piece) rest,
        )

-- a gate is written before a tail that stays
module _ (front : List ℕ) (end gate : ℕ) (tail bytes : List ℕ) (size : length front ≡ end) (are : bytes ≡ front ++ gate ∷ tail) where
  inside : end + 1 ≤ length bytes
  inside = omega (arith, ap length are, size, length-append front (gate ∷ tail))

  gate_image : (image : List ℕ) → MayBeTorn end (open_gate ∷ []) bytes image → image ≡ front ++ get_or image end 0 ∷ tail
  gate_image image torn =
      let start : take end image ≡ front =
      front_stays bytes end (open_gate ∷ []) image torn end (omega arith) (omega (arith, inside)) ∙ ap (λ (l : List ℕ). take end l) are ∙ take_at front (gate ∷ tail) end size in
      let behind : drop (end + 1) image ≡ tail =
      back_stays bytes end (open_gate ∷ []) image torn inside ∙ ap (λ (l : List ℕ). drop (end + 1) l) are
      ∙ ap (λ (n : ℕ). drop (n + 1) (front ++ gate ∷ tail)) (sym size) ∙ drop-append-add front (gate ∷ tail) 1 in
      let more : end < length image = omega (arith, inside, size_stays bytes end (open_gate ∷ []) image torn inside) in
      sym (take-append-drop end image) ∙ ap (λ (l : List ℕ). l ++ drop end image) start
      ∙ ap (λ (l : List ℕ). front ++ l) (drop_more image end 0 more ∙ ap (λ (l : List ℕ). get_or image end 0 ∷ l) behind)

  gate_written : overlay bytes end (open_gate ∷ []) ≡ front ++ open_gate ∷ tail
  gate_written = ap (λ (l : List ℕ). overlay l end (open_gate ∷ [])) are ∙ over end front (open_gate ∷ []) (gate ∷ tail) size

-- ---- both halves

-- where the front ends, this comes after it
record Turning (super : Option Superblock) (bytes : List ℕ) (end : ℕ) (piece : List ℕ) (payloads more : List (List ℕ)) : Type 0 where
  first : (image : List ℕ) → MayBeTorn (end + 1) piece bytes image → IsJournal super image payloads
  shut : (image : List ℕ) → MayBeTorn end (open_gate ∷ []) (overlay bytes (end + 1) piece) image → get_or image end 0 ≢ open_gate → IsJournal super image payloads
  whole : (image : List ℕ) → MayBeTorn end (open_gate ∷ []) (overlay bytes (end + 1) piece) image → get_or image end 0 ≡ open_gate → IsJournal super image (payloads ++ more)
  done : IsJournal super (overlay (overlay bytes (end + 1) piece) end (open_gate ∷ [])) (payloads ++ more)

turning : (super : Option Superblock) (bytes : List ℕ) (end : ℕ) (piece : List ℕ) (payloads more : List (List ℕ)) → end ≡ end_in super payloads → AreGiven more
    → open_gate ∷ piece ≡ records more ++ 0 ∷ [] → IsJournal super bytes payloads → Turning super bytes end piece payloads more
turning super bytes end piece payloads more place given is_piece was =
    let f = reached_front super bytes payloads (was.gate ∷ was.rest) was.reached in
    let size : length f.front ≡ end = f.size ∙ sym place in
    let behind = drop (length piece) was.rest in
    let staged_is = staged super payloads more bytes f.front was.gate was.rest end was.reached f.are size given piece is_piece in
    let longer = staged_longer super payloads more bytes f.front was.gate was.rest end was.reached f.are size given piece is_piece in
    let with_gate = gate_image f.front end was.gate (piece ++ behind) (overlay bytes (end + 1) piece) size staged_is in
    let written = gate_written f.front end was.gate (piece ++ behind) (overlay bytes (end + 1) piece) size staged_is in
    record {
      first = stage_image super payloads more bytes f.front was.gate was.rest end was.reached f.are size given was.shut piece;
      shut = λ image torn no_gate. closed super payloads more bytes f.front was.gate was.rest end was.reached f.are size given (get_or image end 0) (piece ++ behind) image
          (omega (arith, longer, torn.no_shorter)) no_gate (with_gate image torn);
      whole = λ image torn is_gate. opened super payloads more bytes f.front was.gate was.rest end was.reached f.are size given piece is_piece behind image
          (omega (arith, longer, torn.no_shorter)) (with_gate image torn ∙ ap (λ (g : ℕ). f.front ++ g ∷ (piece ++ behind)) is_gate);
      done = opened super payloads more bytes f.front was.gate was.rest end was.reached f.are size given piece is_piece behind (overlay (overlay bytes (end + 1) piece) end (open_gate ∷ []))
          (omega (
            arith,
            longer,
            ap length staged_is,
            ap length written,
            length-append f.front (was.gate ∷ (piece ++ behind)),
            length-append f.front (open_gate ∷ (piece ++ behind)),
          )) written;
    }

-- which payloads count
pub stop_early : (call fill : ℕ) (payloads more : List (List ℕ)) → call ≤ 2 → payloads_after call fill payloads more ≡ payloads
stop_early call fill payloads more early = cond-false _ _ _ (and_left _ _ (lt-leb 3 call (omega (arith, early))))

stop_open : (call fill : ℕ) (payloads more : List (List ℕ)) → 3 ≤ call → fill ≡ open_gate → payloads_after call fill payloads more ≡ payloads ++ more
stop_open call fill payloads more late is = cond-true _ _ _ (and_from _ _ (le-leb 3 call late) (eq-eqb fill open_gate is))

stop_shut : (call fill : ℕ) (payloads more : List (List ℕ)) → fill ≢ open_gate → payloads_after call fill payloads more ≡ payloads
stop_shut call fill payloads more shut = cond-false _ _ _ (and_right _ _ (ne_eqb fill open_gate shut))

module _ (super : Option Superblock) (kept : Kept) (end : ℕ) (piece : List ℕ) (payloads more : List (List ℕ)) (turn : IsTurn super kept end piece payloads more) where
  turns : ∥ Turning super kept.read end piece payloads more ∥₁
  turns = ∥∥₁_map turn.goes.keeps.journal (λ was. turning super kept.read end piece payloads more turn.goes.place turn.goes.given turn.is_piece was)

  first_in : (image : List ℕ) → MayBeTorn (end + 1) piece kept.read image → StandsIn super image payloads
  first_in image torn = ∥∥₁_map turns (λ t. inr (t.first image torn))

  shut_in : (image : List ℕ) → MayBeTorn end (open_gate ∷ []) (overlay kept.read (end + 1) piece) image → get_or image end 0 ≢ open_gate → StandsIn super image payloads
  shut_in image torn no_gate = ∥∥₁_map turns (λ t. inr (t.shut image torn no_gate))

  open_in : (image : List ℕ) → MayBeTorn end (open_gate ∷ []) (overlay kept.read (end + 1) piece) image → get_or image end 0 ≡ open_gate → StandsIn super image (payloads ++ more)
  open_in image torn is_gate = ∥∥₁_map turns (λ t. inr (t.whole image torn is_gate))

  -- while the record is written and synced, a crash leaves the old payloads
  pub first_half : (image : List ℕ) → MayBeTorn (end + 1) piece kept.read image → StandsFor image payloads
  first_half image torn = ∣ (super, first_in image torn) ∣₁

  -- while its gate is written and synced, these and the new one, or not the new one
  pub second_half : (image : List ℕ) → MayBeTorn end (open_gate ∷ []) (overlay kept.read (end + 1) piece) image → IsWithAllOrNone payloads more image
  second_half image torn = elim (cases_eq (get_or image end 0) open_gate) [
    | inl is ↦ inr ∣ (super, open_in image torn is) ∣₁
    | inr no_gate ↦ inl ∣ (super, shut_in image torn no_gate) ∣₁
  ]

  -- and then these and the new one
  pub finished : ∥ IsJournal super (overlay (overlay kept.read (end + 1) piece) end (open_gate ∷ [])) (payloads ++ more) ∥₁
  finished = ∥∥₁_map turns (λ t. t.done)

  pub first_stop : (left : Kept) (call fill : ℕ) (bytes : List ℕ) → call ≤ 2 → IsTornAt (end + 1) piece kept.read left → IsFilled fill left bytes
      → StandsIn super bytes (payloads_after call fill payloads more)
  first_stop left call fill bytes early torn filled =
      subst (StandsIn super bytes) (sym (stop_early call fill payloads more early))
      (first_in bytes (torn_image (end + 1) piece kept.read left bytes torn (filled_is_image fill left bytes filled)))

  module _ (left : Kept) (fill : ℕ) (bytes : List ℕ) (torn : IsTornAt end (open_gate ∷ []) (overlay kept.read (end + 1) piece) left) (filled : IsFilled fill left bytes) where
    may_be : MayBeTorn end (open_gate ∷ []) (overlay kept.read (end + 1) piece) bytes
    may_be = torn_image end (open_gate ∷ []) (overlay kept.read (end + 1) piece) left bytes torn (filled_is_image fill left bytes filled)

    gate_is : get_or bytes end 0 ≡ fill
    gate_is = gate_filled end open_gate (overlay kept.read (end + 1) piece) left fill bytes torn filled

    pub second_stop : (call : ℕ) → 3 ≤ call → StandsIn super bytes (payloads_after call fill payloads more)
    second_stop call late = elim (cases_eq fill open_gate) [
      | inl open_fill ↦ subst (StandsIn super bytes) (sym (stop_open call fill payloads more late open_fill)) (open_in bytes may_be (gate_is ∙ open_fill))
      | inr shut ↦ subst (StandsIn super bytes) (sym (stop_shut call fill payloads more shut)) (shut_in bytes may_be (λ is. shut (sym gate_is ∙ is)))
    ]

-- ---- what a disk keeps

pub keeps_any : (super : Option Superblock) (kept : Kept) (payloads : List (List ℕ)) → KeepsIn super kept payloads → KeepsJournal kept payloads
keeps_any super kept payloads keeps = record { rests = keeps.rests; journal = ∥∥₁_map keeps.journal (λ is. (super, is)) }

pub keeps_stands : (kept : Kept) (payloads : List (List ℕ)) → KeepsJournal kept payloads → StandsFor kept.read payloads
keeps_stands kept payloads keeps = ∥∥₁_map keeps.journal (λ is. (is.0, ∣ inr is.1 ∣₁))

-- a disk has one journal
same_payloads : (super : Option Superblock) (kept : Kept) (end : ℕ) (payloads : List (List ℕ)) → (is : EndsAt super kept end) → KeepsJournal kept payloads → is.payloads ≡ payloads
same_payloads super kept end payloads is keeps =
    stands_for_one kept.read is.payloads payloads (keeps_stands kept is.payloads (keeps_any super kept is.payloads is.keeps)) (keeps_stands kept payloads keeps)

-- and so one superblock at most, and one place where it ends
pub keeps_in : (super : Option Superblock) (kept : Kept) (end : ℕ) (payloads : List (List ℕ)) → ∥ EndsAt super kept end ∥₁ → KeepsJournal kept payloads → KeepsIn super kept payloads
keeps_in super kept end payloads ends keeps = record {
  rests = keeps.rests;
  journal = ∥∥₁_elim ends (hlevel props) (λ is. subst (λ (ps : List (List ℕ)). ∥ IsJournal super kept.read ps ∥₁) (same_payloads super kept end payloads is keeps) is.keeps.journal);
}

pub place_of_end : (super : Option Superblock) (kept : Kept) (end : ℕ) (payloads : List (List ℕ)) → ∥ EndsAt super kept end ∥₁ → KeepsJournal kept payloads → end ≡ end_in super payloads
place_of_end super kept end payloads ends keeps =
    ∥∥₁_elim ends (hlevel props) (λ is. is.place ∙ ap (end_in super) (same_payloads super kept end payloads is keeps))

-- it ends before the disk does
pub end_inside : (super : Option Superblock) (kept : Kept) (end : ℕ) → ∥ EndsAt super kept end ∥₁ → end < length kept.read
end_inside super kept end ends =
    ∥∥₁_elim ends (hlevel props) (λ is. ∥∥₁_elim is.keeps.journal (hlevel props) (λ journal.
    omega (arith, is.place, end_of_reached super kept.read is.payloads (journal.gate ∷ journal.rest) journal.reached)))

-- a payload goes where the journal ends
pub goes_at : (super : Option Superblock) (kept : Kept) (end : ℕ) (payloads : List (List ℕ)) (payload : List ℕ) → ∥ EndsAt super kept end ∥₁ → 1 ≤ length payload → length payload < 2 ^ 32
    → slice_index payload 0 ≢ superblock_kind → KeepsJournal kept payloads → GoesAt super kept end payloads payload
goes_at super kept end payloads payload ends some fits kind keeps = record {
  keeps = keeps_in super kept end payloads ends keeps;
  place = place_of_end super kept end payloads ends keeps;
  given = record { fits = record { some = some; fits = fits }; kind = kind };
}

-- so do several
pub go_at : (super : Option Superblock) (kept : Kept) (end : ℕ) (payloads more : List (List ℕ)) → ∥ EndsAt super kept end ∥₁ → AreGiven more → KeepsJournal kept payloads
    → GoAt super kept end payloads more
go_at super kept end payloads more ends given keeps = record {
  keeps = keeps_in super kept end payloads ends keeps;
  place = place_of_end super kept end payloads ends keeps;
  given = given;
}

one_given : (payload : List ℕ) → IsGiven payload → AreGiven (payload ∷ [])
one_given payload is = All-push IsGiven [] payload (λ k d inside. absurd (omega (arith, inside))) is

-- also once the disk has reserved what that takes
pub turn_of : (super : Option Superblock) (kept same : Kept) (end : ℕ) (piece : List ℕ) (payloads : List (List ℕ)) (payload : List ℕ) → same ≡ kept → GoesAt super kept end payloads payload
    → piece ≡ record_of payload ++ 0 ∷ [] → IsTurn super same end piece payloads (payload ∷ [])
turn_of super kept same end piece payloads payload is goes is_piece = record {
  goes = record {
    keeps = subst (λ (k : Kept). KeepsIn super k payloads) (sym is) goes.keeps;
    place = goes.place;
    given = one_given payload goes.given;
  };
  is_piece = ap (λ (l : List ℕ). open_gate ∷ l) (is_piece ∙ ap (λ (l : List ℕ). l ++ 0 ∷ []) (sym (append-nil (record_of payload))));
}

pub turn_at : (super : Option Superblock) (kept same : Kept) (end : ℕ) (piece : List ℕ) (payloads more : List (List ℕ)) → same ≡ kept → GoAt super kept end payloads more → IsRunOf piece more
    → IsTurn super same end piece payloads more
turn_at super kept same end piece payloads more is goes run = record {
  goes = subst (λ (k : Kept). GoAt super k end payloads more) (sym is) goes;
  is_piece = run.are;
}

pub length-piece : (payload piece : List ℕ) → piece ≡ record_of payload ++ 0 ∷ [] → length piece ≡ 5 + length payload
length-piece payload piece is = omega (arith, ap length is, length-append (record_of payload) (0 ∷ []), length-record payload)

-- and it ends after the new record
pub ends_later : (super : Option Superblock) (kept new : Kept) (end later : ℕ) (payload : List ℕ) → later ≡ end + (5 + length payload) → ∥ EndsAt super kept end ∥₁
    → ((payloads : List (List ℕ)) → KeepsJournal kept payloads → KeepsIn super new (payloads ++ payload ∷ [])) → ∥ EndsAt super new later ∥₁
ends_later super kept new end later payload is ends done =
    ∥∥₁_map ends (λ old. record {
      payloads = old.payloads ++ payload ∷ [];
      keeps = done old.payloads (keeps_any super kept old.payloads old.keeps);
      place = omega (arith, is, old.place, end_in-push super old.payloads payload);
    })

end_by-append : (s : Superblock) (slot : Option Slot) (payloads more : List (List ℕ)) → end_by s slot (payloads ++ more) ≡ end_by s slot payloads + length (records more)
end_by-append s None payloads more = omega (arith, ap length (records-append payloads more), length-append (records payloads) (records more))
end_by-append s (Some slot) payloads more = omega (arith, ap length (records-append payloads more), length-append (records payloads) (records more))

end_in-append : (super : Option Superblock) (payloads more : List (List ℕ)) → end_in super (payloads ++ more) ≡ end_in super payloads + length (records more)
end_in-append None payloads more = omega (arith, ap length (records-append payloads more), length-append (records payloads) (records more))
end_in-append (Some s) payloads more = end_by-append s (current s) payloads more

-- how long such a piece is
pub length-run : (piece : List ℕ) (more : List (List ℕ)) → IsRunOf piece more → length piece ≡ length (records more)
length-run piece more run = omega (arith, ap length run.are, length-append (records more) (0 ∷ []))

-- the same after several
pub ends_after : (super : Option Superblock) (kept new : Kept) (end later : ℕ) (piece : List ℕ) → later ≡ end + length piece → ∥ EndsAt super kept end ∥₁
    → ∥ ((more : List (List ℕ)) × IsRunOf piece more) ∥₁
    → ((payloads more : List (List ℕ)) → KeepsJournal kept payloads → IsRunOf piece more → KeepsIn super new (payloads ++ more)) → ∥ EndsAt super new later ∥₁
ends_after super kept new end later piece is ends some done =
    ∥∥₁_elim some (hlevel props) (λ run.
    ∥∥₁_map ends (λ old. record {
      payloads = old.payloads ++ run.0;
      keeps = done old.payloads run.0 (keeps_any super kept old.payloads old.keeps) run.1;
      place = omega (arith, is, old.place, end_in-append super old.payloads run.0, length-run piece run.0 run.1);
    }))

-- a disk at rest with a journal
pub each_stands : (kept : Kept) (payloads : List (List ℕ)) (image : List ℕ) → KeepsJournal kept payloads → IsImage kept image → StandsFor image payloads
each_stands kept payloads image keeps is =
    let stays = rest_stays kept.read image (subst (λ (k : Kept). IsImage k image) keeps.rests is) in
    subst (λ (bytes : List ℕ). StandsFor bytes payloads) (sym stays) (keeps_stands kept payloads keeps)

pub each_stands_in : (super : Option Superblock) (kept : Kept) (payloads : List (List ℕ)) (image : List ℕ) → KeepsIn super kept payloads → IsImage kept image → StandsIn super image payloads
each_stands_in super kept payloads image keeps is =
    let stays = rest_stays kept.read image (subst (λ (k : Kept). IsImage k image) keeps.rests is) in
    subst (λ (bytes : List ℕ). StandsIn super bytes payloads) (sym stays) (∥∥₁_map keeps.journal (λ journal. inr journal))

pub rests_with : (kept : Kept) (payloads : List (List ℕ)) (payload image : List ℕ) → KeepsJournal kept payloads → IsImage kept image → IsWithOrWithout payloads payload image
rests_with kept payloads payload image keeps is = inl (each_stands kept payloads image keeps is)

pub rests_with_all : (kept : Kept) (payloads more : List (List ℕ)) (image : List ℕ) → KeepsJournal kept payloads → IsImage kept image → IsWithAllOrNone payloads more image
rests_with_all kept payloads more image keeps is = inl (each_stands kept payloads image keeps is)

-- a run that begins with a reservation, on a disk with a journal
pub reserved_first : {D : Type 0} (moment : D → ℕ) (left_since : D → ℕ → List ℕ → Type 0) (old mid : D) (kept same : Kept) (payloads more : List (List ℕ))
    → KeepsJournal kept payloads → same ≡ kept → ((image : List ℕ) → left_since old (moment old) image → IsImage kept image)
    → Elapses (moment old) (moment mid) (left_since old) (left_since mid) same → LeavesOnly moment left_since old mid (IsWithAllOrNone payloads more)
reserved_first moment left_since old mid kept same payloads more keeps is only time =
    let here : (image : List ℕ) → IsImage kept image → IsWithAllOrNone payloads more image = λ image was. rests_with_all kept payloads more image keeps was in
    elapsed moment left_since old mid same (IsWithAllOrNone payloads more) (λ image left. here image (only image left)) time
    (λ image was. here image (subst (λ (k : Kept). IsImage k image) is was))

-- an append that broke was stopped
pub stopped_at : (super : Option Superblock) (fails : ℕ → ℕ → Bool) (kept : Kept) (payloads : List (List ℕ)) (payload : List ℕ) (why : Refusal) → why ≡ Broken
    → Appends {T = Unit {0}} super fails kept payloads payload (Err why) → IsStopped super fails kept payloads payload
stopped_at super fails kept payloads payload Broken is stopped = stopped
stopped_at super fails kept payloads payload OutOfMemory is stopped = absurd cc

pub all_stopped_at : (super : Option Superblock) (fails : ℕ → ℕ → Bool) (kept : Kept) (payloads more : List (List ℕ)) (why : Refusal) → why ≡ Broken
    → AppendsAll {T = Unit {0}} super fails kept payloads more (Err why) → AreStopped super fails kept payloads more
all_stopped_at super fails kept payloads more Broken is stopped = stopped
all_stopped_at super fails kept payloads more OutOfMemory is stopped = absurd cc

-- the same calls are to fail
pub same_plan : (super : Option Superblock) (fails same : ℕ → ℕ → Bool) (left : Kept) (payloads more : List (List ℕ)) → ((l c : ℕ) → same l c ≡ fails l c)
    → AreStopped super same left payloads more → AreStopped super fails left payloads more
same_plan super fails same left payloads more is stopped = record {
  call = stopped.call;
  some = stopped.some;
  four = stopped.four;
  first = record {
    fails_there = sym (is 0 stopped.call) ∙ stopped.first.fails_there;
    not_before = λ c some less. sym (is 0 c) ∙ stopped.first.not_before c some less;
  };
  image = stopped.image;
}
