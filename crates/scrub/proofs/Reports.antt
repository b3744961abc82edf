-- reports on items, one part after the other
use Rattle.std.proofs.Common.{◌≡◌, ◌<◌, ◌≤◌, ◌+◌, ◌-◌, ℕ, zero, suc, List, [], ◌∷◌, ◌++◌, length, take, drop, map, get_or, Option, None, unwrap_or, refl, sym, ap, subst, ◌∙◌, append_assoc, take-append-drop, arith}
use Rattle.std.specs.List.{All}
use Rattle.std.specs.Prelude.{Ok, Err}
use Rattle.std.proofs.lemmas.List.{append-nil, length-append}
use Rattle.std.proofs.lemmas.List.Elements.{All-nil, All-cons, All-append}
use Rattle.std.proofs.Math.Seq.{drop-cons}
use Rattle.xt_messages.specs.declared.record.Record.{Record}
use Rattle.scrub.specs.declared.found.Found.{Found}
use Rattle.scrub.specs.declared.listing.Item.{Item}
use Rattle.scrub.specs.declared.reading.ReadItem.{ReadItem}
use Rattle.scrub.specs.declared.reading.ScrubErr.{ScrubErr}
use Rattle.scrub.specs.declared.reading.ScrubErr.TheVariants as error
use Rattle.par_halves.proofs.Lists.{zip_more, zip_whole}
use Rattle.xt_base.specs.Faults.{Rose}
use Rattle.scrub.specs.Report.{found_of, report_of}
use Rattle.scrub.specs.Reading.{kept_for, HasBody, IsFirstLost, IsRead, AreRead, found_in, HaveBeenRead, CannotRead, ReadsOne}
use Rattle.scrub.specs.Scrubbing.{IsReport, HaveBeenScrubbed}

-- an item that was read has a body, and what is found of it is what the report says
read_there : (records : List Record) (item : Item) (read : ReadItem) → IsRead records item read → HasBody records item
read_there records item read is = record { body = read.bytes; kept = is.kept }

found_is : (records : List Record) (item : Item) (read : ReadItem) → IsRead records item read
    → found_in read ≡ found_of item (unwrap_or (kept_for records item) [])
found_is records item read is =
    ap (λ (i : Item). found_of i read.bytes) is.same ∙ ap (λ (body : Option (List ℕ)). found_of item (unwrap_or body [])) (sym is.kept)

there_all : (records : List Record) (items : List Item) (read : List ReadItem) → AreRead records items read → All (HasBody records) items
there_all records [] [] are = All-nil (HasBody records)
there_all records [] (r ∷ rs) are = absurd are
there_all records (i ∷ is) [] are = absurd are
there_all records (i ∷ is) (r ∷ rs) are = All-cons (HasBody records) i is (read_there records i r are.0) (there_all records is rs are.1)

found_all : (records : List Record) (items : List Item) (read : List ReadItem) → AreRead records items read → map found_in read ≡ report_of records items
found_all records [] [] are = refl
found_all records [] (r ∷ rs) are = absurd are
found_all records (i ∷ is) [] are = absurd are
found_all records (i ∷ is) (r ∷ rs) are = λ k. found_is records i r are.0 k ∷ found_all records is rs are.1 k

-- what is found of items that were read is the report on them
pub report_read : (records : List Record) (items : List Item) (read : List ReadItem) (found : List Found) → found ≡ map found_in read → AreRead records items read
    → IsReport records items found
report_read records items read found is are = record { there = there_all records items read are; is = is ∙ found_all records items read are }

pub report_none : (records : List Record) → IsReport records [] []
report_none records = record { there = All-nil (HasBody records); is = refl }

report-append : (records : List Record) (xs ys : List Item) → report_of records (xs ++ ys) ≡ report_of records xs ++ report_of records ys
report-append records [] ys = refl
report-append records (x ∷ xs) ys = ap (λ (r : List Found). found_of x (unwrap_or (kept_for records x) []) ∷ r) (report-append records xs ys)

pub report_both : (records : List Record) (xs ys : List Item) (one other : List Found) → IsReport records xs one → IsReport records ys other
    → IsReport records (xs ++ ys) (one ++ other)
report_both records xs ys one other first second = record {
  there = All-append (HasBody records) xs ys first.there second.there;
  is =
      ap (λ (r : List Found). r ++ other) first.is
      ∙ ap (λ (r : List Found). report_of records xs ++ r) second.is
      ∙ sym (report-append records xs ys);
}

-- ---- the first item without a body

-- it is the first of all, where the items before have theirs
pub lost_later : (records : List Record) (front now later items : List Item) (first index : ℕ) → items ≡ front ++ (now ++ later) → first ≡ length front
    → All (HasBody records) front → IsFirstLost records now first index → IsFirstLost records items 0 index
lost_later records front now later items first index is starts there lost = record {
  before = front ++ lost.before;
  item = lost.item;
  rest = lost.rest ++ later;
  split =
      is ∙ ap (λ (xs : List Item). front ++ (xs ++ later)) lost.split
      ∙ ap (λ (xs : List Item). front ++ xs) (append_assoc lost.before (lost.item ∷ lost.rest) later)
      ∙ sym (append_assoc front lost.before (lost.item ∷ (lost.rest ++ later)));
  place = omega (arith, lost.place, starts, length-append front lost.before);
  there = All-append (HasBody records) front lost.before there lost.there;
  lost = lost.lost;
}

-- the next one is it, where all before it were read
pub lost_here : (records : List Record) (items : List Item) (read : List ReadItem) (first i : ℕ) (item : Item) → i < length items → item ≡ get_or items i item
    → AreRead records (take i items) read → kept_for records item ≡ None → IsFirstLost records items first (first + i)
lost_here records items read first i item inside is are none = record {
  before = take i items;
  item = item;
  rest = drop (suc i) items;
  split =
      sym (take-append-drop i items)
      ∙ ap (λ (xs : List Item). take i items ++ xs) (drop-cons items i item inside ∙ ap (λ (x : Item). x ∷ drop (suc i) items) (sym is));
  place = omega (arith, length-take-at i items inside);
  there = there_all records (take i items) read are;
  lost = none;
}
  where
    length-take-at : (n : ℕ) (xs : List Item) → n < length xs → length (take n xs) ≡ n
    length-take-at zero xs lt = refl
    length-take-at (suc n) [] lt = absurd (omega arith)
    length-take-at (suc n) (x ∷ xs) lt = ap suc (length-take-at n xs (omega arith))

-- the two parts of some items
pub split_so : (items front back : List Item) (n : ℕ) → front ≡ take n items → back ≡ drop n items → items ≡ front ++ back
split_so items front back n one other =
    sym (ap (λ (xs : List Item). xs ++ back) one ∙ ap (λ (ys : List Item). take n items ++ ys) other ∙ take-append-drop n items)

-- ---- how reading goes on

module _ {B : Type 0} (agrees : B → List Record → Type 0) (faults : B → ℕ) where
  -- these items were read, and no read failed
  pub record HasReadOn (old now : B) (items : List Item) (read : List ReadItem) : Type 0 where
    pub later : (records : List Record) → agrees now records → agrees old records
    pub sound : faults now ≡ faults old
    pub are : (records : List Record) → agrees now records → AreRead records items read

  pub read_none : (old : B) → HasReadOn old old [] []
  read_none old = record { later = λ records is. is; sound = refl; are = λ records is. tt }

  pub read_more : (old mid new : B) (items : List Item) (i : ℕ) (item : Item) (read : List ReadItem) (one : ReadItem) → i < length items → item ≡ get_or items i item
      → HasReadOn old mid (take i items) read → ((records : List Record) → agrees new records → agrees mid records)
      → ReadsOne (agrees new) (faults mid) (faults new) item 0 (Ok one) → HasReadOn old new (take (i + 1) items) (read ++ one ∷ [])
  read_more old mid new items i item read one inside is so_far later reads = record {
    later = λ records with. so_far.later records (later records with);
    sound = reads.0 ∙ so_far.sound;
    are = λ records with. zip_more (IsRead records) items read i item one inside is (so_far.are records (later records with)) (reads.1 records with);
  }

  pub read_fails : (old mid new : B) (items : List Item) (first i : ℕ) (item : Item) (read : List ReadItem) (error : ScrubErr) → i < length items → item ≡ get_or items i item
      → HasReadOn old mid (take i items) read → ((records : List Record) → agrees new records → agrees mid records)
      → ReadsOne (agrees new) (faults mid) (faults new) item (first + i) (Err error) → CannotRead (agrees new) (faults old) (faults new) items first error
  read_fails old mid new items first i item read (error.NoBody index) inside is so_far later reads = (
    reads.0 ∙ so_far.sound,
    λ records with. subst (λ (n : ℕ). IsFirstLost records items first n) (sym reads.1)
        (lost_here records items read first i item inside is (so_far.are records (later records with)) (reads.2 records with)),
  )
  read_fails old mid new items first i item read (error.BodyFault count) inside is so_far later reads =
      (reads.0, subst (λ (n : ℕ). Rose n (faults new)) so_far.sound reads.1)
  read_fails old mid new items first i item read error.OutOfMemory inside is so_far later reads = tt

  pub read_whole : (old new : B) (items : List Item) (i : ℕ) (read : List ReadItem) → length items ≤ i → HasReadOn old new (take i items) read
      → HaveBeenRead (agrees new) (faults old) (faults new) items read
  read_whole old new items i read past so_far = record {
    sound = so_far.sound;
    are = λ records with. zip_whole (IsRead records) items read i past (so_far.are records with);
  }

  -- what was read is scrubbed
  pub scrubbed_read : (old new : B) (items : List Item) (read : List ReadItem) (found : List Found) → found ≡ map found_in read
      → HaveBeenRead (agrees new) (faults old) (faults new) items read → HaveBeenScrubbed (agrees new) (faults old) (faults new) items found
  scrubbed_read old new items read found is reads = record { sound = reads.sound; is = λ records with. report_read records items read found is (reads.are records with) }

  -- ---- how a scrub goes on

  -- this is the report on the items before those that are left
  pub record HasGoneOn (old now : B) (items rest : List Item) (report : List Found) : Type 0 where
    pub done : List Item
    pub split : items ≡ done ++ rest
    pub later : (records : List Record) → agrees now records → agrees old records
    pub sound : faults now ≡ faults old
    pub is : (records : List Record) → agrees now records → IsReport records done report

  pub gone_none : (old : B) (items : List Item) → HasGoneOn old old items items []
  gone_none old items = record { done = []; split = refl; later = λ records is. is; sound = refl; is = λ records is. report_none records }

  pub gone_more : (old mid new : B) (items rest now more : List Item) (report found : List Found) → rest ≡ now ++ more → HasGoneOn old mid items rest report
      → ((records : List Record) → agrees new records → agrees mid records) → HaveBeenScrubbed (agrees new) (faults mid) (faults new) now found
      → HasGoneOn old new items more (report ++ found)
  gone_more old mid new items rest now more report found parts so_far later scrubbed = record {
    done = so_far.done ++ now;
    split = so_far.split ∙ ap (λ (xs : List Item). so_far.done ++ xs) parts ∙ sym (append_assoc so_far.done now more);
    later = λ records with. so_far.later records (later records with);
    sound = scrubbed.sound ∙ so_far.sound;
    is = λ records with. report_both records so_far.done now report found (so_far.is records (later records with)) (scrubbed.is records with);
  }

  pub gone_fails : (old mid new : B) (items rest now more : List Item) (first : ℕ) (report : List Found) (error : ScrubErr) → rest ≡ now ++ more
      → first ≡ length items - length rest → HasGoneOn old mid items rest report → ((records : List Record) → agrees new records → agrees mid records)
      → CannotRead (agrees new) (faults mid) (faults new) now first error → CannotRead (agrees new) (faults old) (faults new) items 0 error
  gone_fails old mid new items rest now more first report (error.NoBody index) parts starts so_far later cannot = (
    cannot.0 ∙ so_far.sound,
    λ records with.
        lost_later records so_far.done now more items first index (so_far.split ∙ ap (λ (xs : List Item). so_far.done ++ xs) parts)
        (starts ∙ (let sizes : length items ≡ length so_far.done + length rest = ap length so_far.split ∙ length-append so_far.done rest in omega (arith, sizes)))
        (so_far.is records (later records with)).there (cannot.1 records with),
  )
  gone_fails old mid new items rest now more first report (error.BodyFault count) parts starts so_far later cannot =
      (cannot.0, subst (λ (n : ℕ). Rose n (faults new)) so_far.sound cannot.1)
  gone_fails old mid new items rest now more first report error.OutOfMemory parts starts so_far later cannot = tt

  pub gone_whole : (old new : B) (items rest : List Item) (report : List Found) → rest ≡ [] → HasGoneOn old new items rest report
      → HaveBeenScrubbed (agrees new) (faults old) (faults new) items report
  gone_whole old new items rest report none so_far = record {
    sound = so_far.sound;
    is = λ records with.
        subst (λ (xs : List Item). IsReport records xs report)
        (sym (so_far.split ∙ ap (λ (xs : List Item). so_far.done ++ xs) none ∙ append-nil so_far.done)) (so_far.is records with);
  }
