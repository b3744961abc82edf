-- What a load leaves of a disk that it makes ready.
use Rattle.std.proofs.Common.{◌≡◌, ◌≢◌, ◌+◌, Bool, true, false, ◌⊎◌, inl, inr, ⊎_elim, ◌≤◌, ℕ, List, [], length, sym, ◌∙◌, ap, subst, arith, refl, None, Result, Ok, Err, IsErrOf}
use Rattle.disk_model.specs.Disk.{Kept, IsImage, at_rest}
use Rattle.disk_model.proofs.Images.{rest_stays}
use Rattle.xt_journal.specs.declared.format.Trouble.{Trouble}
use Rattle.xt_journal.specs.declared.format.Trouble.TheVariants.{DiskFault, NotOurs, Layout, Damaged, OutOfMemory}
use Rattle.journal_records.specs.Calls.{GoesOn, MayBeTorn, IsTornAt}
use Rattle.xt_journal.specs.Parsed.{is_fault}
use Rattle.xt_journal.specs.Format.{journal_of, IsJournal, KeepsIn}
use Rattle.xt_journal.specs.Loaded.{IsReady, IsUnready, FailedCall, LeavesAsBefore, LeavesDisk, MadeCalls, TellsFresh}

-- after its sync
pub left_later : (old mid new : Kept) → mid ≡ at_rest old.read → LeavesDisk mid new → LeavesDisk old new
left_later old mid new rests left =
    let read : mid.read ≡ old.read = ap (λ (k : Kept). k.read) rests in
    ⊎_elim (λ same. inr (inl (same ∙ rests)))
    (λ more. ⊎_elim (λ synced. inr (inl (synced ∙ ap at_rest read)))
    (λ torn. inr (inr (subst (λ (bytes : List ℕ). IsUnready bytes × IsTornAt 0 (journal_of []) bytes new) read torn))) more)
    left

pub image_later : (old mid : Kept) (image : List ℕ) → mid ≡ at_rest old.read → IsImage old old.read → LeavesAsBefore mid image → LeavesAsBefore old image
image_later old mid image rests is left =
    ⊎_elim (λ was. inl (subst (IsImage old) (sym (rest_stays old.read image (subst (λ (k : Kept). IsImage k image) rests was))) is))
    (λ torn. inr (subst (λ (k : Kept). IsUnready k.read × MayBeTorn 0 (journal_of []) k.read image) rests torn))
    left

-- a journal with no record
pub ready_keeps : (kept : Kept) → kept ≡ at_rest (journal_of []) → KeepsIn None kept []
ready_keeps kept is = record {
  rests = is ∙ ap (λ (k : Kept). at_rest k.read) (sym is);
  journal = subst (λ (k : Kept). ∥ IsJournal None k.read [] ∥₁) (sym is) ∣ record {
    gate = 0;
    rest = [];
    shut = omega arith;
    reached = record { given = λ k d less. absurd (omega (arith, less)); are = refl };
  } ∣₁;
}

pub not_fresh : (bytes : List ℕ) (fresh : Bool) → TellsFresh bytes fresh → fresh ≡ false → bytes ≢ journal_of []
not_fresh bytes true tells is = absurd cc
not_fresh bytes false tells is = tells

-- after a reservation, which leaves what is kept and which calls fail
module _ (old mid : ℕ → ℕ → Bool) (is : (l c : ℕ) → mid l c ≡ old l c) (bytes same : List ℕ) (are : same ≡ bytes) where
  pub made_first : (new : ℕ → ℕ → Bool) → MadeCalls mid new same → MadeCalls old new bytes
  made_first new made = record {
    changes = made.changes;
    three = made.three;
    one = λ ready. made.one (subst IsReady (sym are) ready);
    goes_on = λ l c. made.goes_on l c ∙ is (1 + l) (made.changes + c);
  }

  pub failed_first : FailedCall mid same → FailedCall old bytes
  failed_first failed = record {
    looks = failed.looks;
    changes = failed.changes;
    looked = failed.looked;
    three = failed.three;
    one = λ ready. failed.one (subst IsReady (sym are) ready);
    fails_there = sym (is failed.looks failed.changes) ∙ failed.fails_there;
  }

-- the sync or the length failed
pub read_left : (old new : Kept) → (new ≡ old) ⊎ (new ≡ at_rest old.read) → new.read ≡ old.read
read_left old new left = ⊎_elim (ap (λ (k : Kept). k.read)) (ap (λ (k : Kept). k.read)) left

pub not_fault : {T : Type 0} (result : Result T Trouble) → (IsErrOf result DiskFault → ⊥) → is_fault result ≡ false
not_fault (Ok value) never = refl
not_fault (Err DiskFault) never = absurd (never refl)
not_fault (Err (NotOurs first)) never = refl
not_fault (Err (Layout version)) never = refl
not_fault (Err (Damaged place)) never = refl
not_fault (Err OutOfMemory) never = refl

pub same_trouble : {S T : Type 0} (trouble : Trouble) → IsErrOf {T = S} (Err trouble) DiskFault → IsErrOf {T = T} (Err trouble) DiskFault
same_trouble DiskFault is = refl
same_trouble (NotOurs first) is = absurd cc
same_trouble (Layout version) is = absurd cc
same_trouble (Damaged place) is = absurd cc
same_trouble OutOfMemory is = absurd cc

pub settle_failed : (fails : ℕ → ℕ → Bool) (bytes : List ℕ) → ((l : ℕ) × (l ≤ 1) × (fails l 1 ≡ true)) → FailedCall fails bytes
settle_failed fails bytes failed = record {
  looks = failed.0;
  changes = 1;
  looked = omega (arith, failed.1);
  three = omega arith;
  one = λ ready. omega arith;
  fails_there = failed.2;
}

pub making_failed : (fails later : ℕ → ℕ → Bool) (bytes same : List ℕ) → same ≡ bytes → length bytes ≤ 13 → GoesOn 1 1 fails later
    → ((c : ℕ) × (c ≤ 2) × (same ≡ journal_of [] → c ≡ 0) × (later 0 c ≡ true)) → FailedCall fails bytes
making_failed fails later bytes same are short goes failed = record {
  looks = 1;
  changes = 1 + failed.0;
  looked = omega arith;
  three = omega (arith, failed.1);
  one = λ ready. ⊎_elim (λ long. absurd (omega (arith, long, short))) (λ fresh. omega (arith, failed.2 (are ∙ fresh))) ready;
  fails_there = sym (goes 0 failed.0) ∙ failed.3;
}
