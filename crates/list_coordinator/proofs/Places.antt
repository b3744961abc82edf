-- Changes that rise by file: where a search finds that of a file, and what a change of one leaves.
use Rattle.std.proofs.Common.{◌≡◌, ℕ, zero, suc, ◌+◌, ◌<◌, ◌≤◌, Bool, true, false, not, cond, List, [], ◌∷◌, ◌++◌, length, get_or, take, drop, set, Option, Some, None, Result, Ok, Err, refl, ap, sym, subst, ◌∙◌, arith, add-one}
use Rattle.std.specs.List.{AllByRecursion, insert}
use Rattle.std.specs.List.Sorted.{IsBinarySearchResult, IsNonDecreasingBy, IsSortedBy, IsSearchInRange}
use Rattle.std.specs.Ordering.{is_eq, is_lt, ordering_index, ordering_reverse}
use Rattle.std.specs.declared.cmp.Ordering.{Ordering}
use Rattle.std.specs.declared.cmp.Ordering.TheVariants.{Less, Equal, Greater}
use Rattle.std.proofs.lemmas.List.{get_or_default, set-get_or}
use Rattle.std.proofs.lemmas.List.Sorted.{searchable_from_sorted}
use Rattle.xt_base.specs.declared.ids.FileId.{FileId}
use Rattle.xt_protocol.specs.FileIds.{is_file, is_before, file_cmp}
use Rattle.xt_protocol.proofs.Folds.{file-equal, file_cmp_total, is_file-file_cmp}
use Rattle.xt_protocol.proofs.FileRows.{less, back, equal_files}
use Rattle.change_rows.specs.Coordinating.{Running, file_of, running_of, with_running, without_file}
use Rattle.list_coordinator.specs.Places.{ChangesRise, IsChangePlace}

-- ---- rising changes

abbrev AreAfter : FileId → List Running → Type 0
AreAfter file rs = AllByRecursion (λ later. is_before file (file_of later) ≡ true) rs

before_later : (file : FileId) (rs : List Running) (i : ℕ) (d : Running) → AreAfter file rs → i < length rs → is_before file (file_of (get_or rs i d)) ≡ true
before_later file [] i d all lt = absurd (omega arith)
before_later file (r ∷ rs) zero d all lt = all.0
before_later file (r ∷ rs) (suc i) d all lt = before_later file rs i d all.1 (omega arith)

rising_pair : (rs : List Running) (i : ℕ) (d : Running) → ChangesRise rs → suc i < length rs → is_before (file_of (get_or rs i d)) (file_of (get_or rs (suc i) d)) ≡ true
rising_pair [] i d rise lt = absurd (omega arith)
rising_pair (r ∷ rs) zero d rise lt = before_later (file_of r) rs zero d rise.0 (omega arith)
rising_pair (r ∷ rs) (suc i) d rise lt = rising_pair rs i d rise.1 (omega arith)

sorted : (rs : List Running) → ChangesRise rs → IsSortedBy (λ a b. is_lt (file_cmp (file_of a) (file_of b))) rs
sorted rs rise k d low lt =
    let up : is_before (file_of (get_or rs k d)) (file_of (get_or rs (suc k) d)) ≡ true = rising_pair rs k d rise (omega arith) in
    let down : file_cmp (file_of (get_or rs (suc k) d)) (file_of (get_or rs k d)) ≡ Greater = back (file_of (get_or rs (suc k) d)) (file_of (get_or rs k d)) Less (less _ up) in
    rw add-one (ap is_lt down)

searchable : (rs : List Running) (file : FileId) → ChangesRise rs → IsNonDecreasingBy (λ y. ordering_index (file_cmp (file_of y) file)) rs
searchable rs file rise = searchable_from_sorted file_cmp_total (λ r. file_of r) rs file (sorted rs rise)

-- ---- the tests at the first change

-- those that `with_running` makes for a change, and `running_of` for a file
module _ (r new : Running) (rest : List Running) where
  chosen : (same before : Bool) → List Running
  chosen same before = cond same (new ∷ rest) (cond before (new ∷ r ∷ rest) (r ∷ with_running rest new))

  put_behind : file_cmp (file_of r) (file_of new) ≡ Less → with_running (r ∷ rest) new ≡ r ∷ with_running rest new
  unfolding chosen
  put_behind is =
      ap (λ t. chosen t (is_before (file_of new) (file_of r))) (is_file-file_cmp (file_of r) (file_of new) ∙ ap is_eq is)
      ∙ ap (chosen false) (ap is_lt (back (file_of new) (file_of r) Less is))

  put_over : file_cmp (file_of r) (file_of new) ≡ Equal → with_running (r ∷ rest) new ≡ new ∷ rest
  unfolding chosen
  put_over is = ap (λ t. chosen t (is_before (file_of new) (file_of r))) (is_file-file_cmp (file_of r) (file_of new) ∙ ap is_eq is)

  put_before : file_cmp (file_of r) (file_of new) ≡ Greater → with_running (r ∷ rest) new ≡ new ∷ r ∷ rest
  unfolding chosen
  put_before is =
      ap (λ t. chosen t (is_before (file_of new) (file_of r))) (is_file-file_cmp (file_of r) (file_of new) ∙ ap is_eq is)
      ∙ ap (chosen false) (ap is_lt (back (file_of new) (file_of r) Greater is))

module _ (r : Running) (rest : List Running) (file : FileId) where
  read_by : Bool → Option Running
  read_by same = cond same (Some r) (running_of rest file)

  read_behind : file_cmp (file_of r) file ≡ Less → running_of (r ∷ rest) file ≡ running_of rest file
  unfolding read_by
  read_behind is = ap read_by (is_file-file_cmp (file_of r) file ∙ ap is_eq is)

  read_here : file_cmp (file_of r) file ≡ Equal → running_of (r ∷ rest) file ≡ Some r
  unfolding read_by
  read_here is = ap read_by (is_file-file_cmp (file_of r) file ∙ ap is_eq is)

  read_before : file_cmp (file_of r) file ≡ Greater → running_of (r ∷ rest) file ≡ running_of rest file
  unfolding read_by
  read_before is = ap read_by (is_file-file_cmp (file_of r) file ∙ ap is_eq is)

  left_by : Bool → List Running
  left_by same = cond (not same) (r ∷ without_file rest file) (without_file rest file)

  goes : file_cmp (file_of r) file ≡ Equal → without_file (r ∷ rest) file ≡ without_file rest file
  unfolding left_by
  goes is = ap left_by (is_file-file_cmp (file_of r) file ∙ ap is_eq is)

  stays_before : file_cmp (file_of r) file ≡ Less → without_file (r ∷ rest) file ≡ r ∷ without_file rest file
  unfolding left_by
  stays_before is = ap left_by (is_file-file_cmp (file_of r) file ∙ ap is_eq is)

  stays_behind : file_cmp (file_of r) file ≡ Greater → without_file (r ∷ rest) file ≡ r ∷ without_file rest file
  unfolding left_by
  stays_behind is = ap left_by (is_file-file_cmp (file_of r) file ∙ ap is_eq is)

-- ---- what a search finds

abbrev IsHere : List Running → ℕ → FileId → Type 0
IsHere rs i file = (d : Running) → file_cmp (file_of (get_or rs i d)) file ≡ Equal

-- the change at a place comes after the first one
behind : (r : Running) (rs : List Running) (i : ℕ) (file : FileId) → AreAfter (file_of r) rs → i < length rs → IsHere rs i file → file_cmp (file_of r) file ≡ Less
behind r rs i file after lt here =
    let same : file_of (get_or rs i r) ≡ file = equal_files _ _ (here r) in
    ap (file_cmp (file_of r)) (sym same) ∙ less _ (before_later (file_of r) rs i r after lt)

found_put : (rs : List Running) (i : ℕ) (new : Running) → ChangesRise rs → i < length rs → IsHere rs i (file_of new) → with_running rs new ≡ set rs i new
found_put [] i new rise lt here = absurd (omega arith)
found_put (r ∷ rs) zero new rise lt here = put_over r new rs (here r)
found_put (r ∷ rs) (suc i) new rise lt here =
    put_behind r new rs (behind r rs i (file_of new) rise.0 (omega arith) here) ∙ ap (λ t. r ∷ t) (found_put rs i new rise.1 (omega arith) here)

found_read : (rs : List Running) (i : ℕ) (file : FileId) (d : Running) → ChangesRise rs → i < length rs → IsHere rs i file → running_of rs file ≡ Some (get_or rs i d)
found_read [] i file d rise lt here = absurd (omega arith)
found_read (r ∷ rs) zero file d rise lt here = read_here r rs file (here r)
found_read (r ∷ rs) (suc i) file d rise lt here =
    read_behind r rs file (behind r rs i file rise.0 (omega arith) here) ∙ found_read rs i file d rise.1 (omega arith) here

all_behind : (file : FileId) (rs : List Running) → AreAfter file rs → without_file rs file ≡ rs
all_behind file [] all = refl
all_behind file (r ∷ rs) all =
    stays_behind r rs file (back (file_of r) file Less (less _ all.0)) ∙ ap (λ t. r ∷ t) (all_behind file rs all.1)

found_rest : (rs : List Running) (i : ℕ) (file : FileId) → ChangesRise rs → i < length rs → IsHere rs i file → without_file rs file ≡ take i rs ++ drop (suc i) rs
found_rest [] i file rise lt here = absurd (omega arith)
found_rest (r ∷ rs) zero file rise lt here =
    let same : file_of r ≡ file = equal_files _ _ (here r) in
    goes r rs file (here r) ∙ all_behind file rs (subst (λ f. AreAfter f rs) same rise.0)
found_rest (r ∷ rs) (suc i) file rise lt here =
    stays_before r rs file (behind r rs i file rise.0 (omega arith) here) ∙ ap (λ t. r ∷ t) (found_rest rs i file rise.1 (omega arith) here)

found_out : (rs : List Running) (i : ℕ) (file : FileId) → ChangesRise rs → i < length rs → IsHere rs i file → without_file rs file ≡ take i rs ++ drop (i + 1) rs
found_out rs i file rise lt here = rw add-one (found_rest rs i file rise lt here)

-- ---- what a search doesn't find

abbrev Below : List Running → FileId → ℕ → Type 0
Below rs file i = (k : ℕ) (d : Running) → k < i → file_cmp (file_of (get_or rs k d)) file ≡ Less

abbrev Above : List Running → FileId → ℕ → Type 0
Above rs file i = (k : ℕ) (d : Running) → i ≤ k → k < length rs → file_cmp (file_of (get_or rs k d)) file ≡ Greater

missing_put : (rs : List Running) (i : ℕ) (new : Running) → i ≤ length rs → Below rs (file_of new) i → Above rs (file_of new) i → with_running rs new ≡ insert rs i new
missing_put [] zero new le below above = refl
missing_put [] (suc i) new le below above = absurd (omega arith)
missing_put (r ∷ rs) zero new le below above = put_before r new rs (above 0 r (omega arith) (omega arith))
missing_put (r ∷ rs) (suc i) new le below above =
    put_behind r new rs (below 0 r (omega arith))
    ∙ ap (λ t. r ∷ t) (missing_put rs i new (omega arith) (λ k d lt. below (suc k) d (omega arith)) (λ k d ge lt. above (suc k) d (omega arith) (omega arith)))

missing_read : (rs : List Running) (i : ℕ) (file : FileId) → i ≤ length rs → Below rs file i → Above rs file i → running_of rs file ≡ None
missing_read [] i file le below above = refl
missing_read (r ∷ rs) zero file le below above =
    read_before r rs file (above 0 r (omega arith) (omega arith))
    ∙ missing_read rs zero file (omega arith) (λ k d lt. absurd (omega arith)) (λ k d ge lt. above (suc k) d (omega arith) (omega arith))
missing_read (r ∷ rs) (suc i) file le below above =
    read_behind r rs file (below 0 r (omega arith))
    ∙ missing_read rs i file (omega arith) (λ k d lt. below (suc k) d (omega arith)) (λ k d ge lt. above (suc k) d (omega arith) (omega arith))

missing_out : (rs : List Running) (i : ℕ) (file : FileId) → i ≤ length rs → Below rs file i → Above rs file i → without_file rs file ≡ rs
missing_out [] i file le below above = refl
missing_out (r ∷ rs) zero file le below above =
    stays_behind r rs file (above 0 r (omega arith) (omega arith))
    ∙ ap (λ t. r ∷ t) (missing_out rs zero file (omega arith) (λ k d lt. absurd (omega arith)) (λ k d ge lt. above (suc k) d (omega arith) (omega arith)))
missing_out (r ∷ rs) (suc i) file le below above =
    stays_before r rs file (below 0 r (omega arith))
    ∙ ap (λ t. r ∷ t) (missing_out rs i file (omega arith) (λ k d lt. below (suc k) d (omega arith)) (λ k d ge lt. above (suc k) d (omega arith) (omega arith)))

-- what the search of changes that rise answers
pub searched : (rs : List Running) (file : FileId) (r : Result ℕ ℕ) → ChangesRise rs → IsBinarySearchResult (λ y. file_cmp (file_of y) file) rs r
    → IsSearchInRange r (length rs) → IsChangePlace rs file r
searched rs file (Ok i) rise here bound = (
  bound,
  λ d. found_read rs i file d rise bound here,
  λ new same. found_put rs i new rise bound (λ d. ap (file_cmp (file_of (get_or rs i d))) same ∙ here d),
  found_out rs i file rise bound here,
)
searched rs file (Err i) rise there bound =
    let parts = there (searchable rs file rise) in
    let below : Below rs file i = λ k d lt. parts.0 k d (omega arith) lt in
    let above : Above rs file i = λ k d ge lt. parts.1 k d ge lt in (
      bound,
      missing_read rs i file bound below above,
      λ new same. missing_put rs i new bound (λ k d lt. ap (file_cmp (file_of (get_or rs k d))) same ∙ below k d lt) (λ k d ge lt. ap (file_cmp (file_of (get_or rs k d))) same ∙ above k d ge lt),
      missing_out rs i file bound below above,
    )

-- ---- they go on rising

still_after : (file : FileId) (rs : List Running) (new : Running) → is_before file (file_of new) ≡ true → AreAfter file rs → AreAfter file (with_running rs new)
still_after file [] new is all = (is, tt)
still_after file (r ∷ rs) new is all = at (still_after file rs new is all.1) (is_file (file_of r) (file_of new)) (is_before (file_of new) (file_of r))
  where
    at : AreAfter file (with_running rs new) → (same before : Bool) → AreAfter file (cond same (new ∷ rs) (cond before (new ∷ r ∷ rs) (r ∷ with_running rs new)))
    at later true before = (is, all.1)
    at later false true = (is, all)
    at later false false = (all.0, later)

all_later : (a b : FileId) (rs : List Running) → is_before a b ≡ true → AreAfter b rs → AreAfter a rs
all_later a b [] is all = tt
all_later a b (r ∷ rs) is all = (ap is_lt (file_cmp_total.trans a b (file_of r) (less _ is) (less _ all.0)), all_later a b rs is all.1)

pub rise-put : (rs : List Running) (new : Running) → ChangesRise rs → ChangesRise (with_running rs new)
rise-put [] new rise = (tt, tt)
rise-put (r ∷ rs) new rise = at (rise-put rs new rise.1) (file_cmp (file_of r) (file_of new)) refl
  where
    at : ChangesRise (with_running rs new) → (o : Ordering) → file_cmp (file_of r) (file_of new) ≡ o → ChangesRise (with_running (r ∷ rs) new)
    at later Less is =
        subst ChangesRise (sym (put_behind r new rs is)) (still_after (file_of r) rs new (ap is_lt is) rise.0, later)
    at later Equal is =
        subst ChangesRise (sym (put_over r new rs is)) (subst (λ f. AreAfter f rs) (equal_files (file_of r) (file_of new) is) rise.0, rise.1)
    at later Greater is =
        let first : is_before (file_of new) (file_of r) ≡ true = ap is_lt (back (file_of new) (file_of r) Greater is) in
        subst ChangesRise (sym (put_before r new rs is)) ((first, all_later (file_of new) (file_of r) rs first rise.0), rise)

still_left : (P : Running → Type 0) (rs : List Running) (file : FileId) → AllByRecursion P rs → AllByRecursion P (without_file rs file)
still_left P [] file all = tt
still_left P (r ∷ rs) file all = at (still_left P rs file all.1) (not (is_file (file_of r) file))
  where
    at : AllByRecursion P (without_file rs file) → (stays : Bool) → AllByRecursion P (cond stays (r ∷ without_file rs file) (without_file rs file))
    at later true = (all.0, later)
    at later false = later

pub rise-left : (rs : List Running) (file : FileId) → ChangesRise rs → ChangesRise (without_file rs file)
rise-left [] file rise = tt
rise-left (r ∷ rs) file rise = at (rise-left rs file rise.1) (not (is_file (file_of r) file))
  where
    at : ChangesRise (without_file rs file) → (stays : Bool) → ChangesRise (cond stays (r ∷ without_file rs file) (without_file rs file))
    at later true = (still_left (λ x. is_before (file_of r) (file_of x) ≡ true) rs file rise.0, later)
    at later false = later

-- ---- the change that stands at a place, changed

itself : (o : Ordering) → o ≡ ordering_reverse o → o ≡ Equal
itself Less is = absurd (cc)
itself Equal is = refl
itself Greater is = absurd (cc)

-- another change of the same file stands there
pub rise-set : (rs : List Running) (i : ℕ) (old new : Running) → ChangesRise rs → i < length rs → old ≡ get_or rs i old → file_of new ≡ file_of old → ChangesRise (set rs i new)
rise-set rs i old new rise lt stood same =
    let equal : file_cmp (file_of new) (file_of new) ≡ Equal = itself (file_cmp (file_of new) (file_of new)) (file_cmp_total.antisymm (file_of new) (file_of new)) in
    let here : IsHere rs i (file_of new) = λ d. ap (λ (x : Running). file_cmp x.change.file (file_of new)) (get_or_default rs i d old lt ∙ sym stood) ∙ ap (λ (f : FileId). file_cmp f (file_of new)) (sym same) ∙ equal in
    subst ChangesRise (found_put rs i new rise lt here) (rise-put rs new rise)

-- what is found is of the file
pub found_file : (rs : List Running) (file : FileId) (r : Running) → running_of rs file ≡ Some r → file_of r ≡ file
found_file [] file r is = absurd (cc)
found_file (x ∷ xs) file r is = at (found_file xs file r) (is_file (file_of x) file) refl is
  where
    at : (running_of xs file ≡ Some r → file_of r ≡ file) → (same : Bool) → is_file (file_of x) file ≡ same → cond same (Some x) (running_of xs file) ≡ Some r → file_of r ≡ file
    at later true same is =
        let this : x ≡ r = cc in
        ap (λ (y : Running). y.change.file) (sym this) ∙ file-equal (file_of x) file same
    at later false other is = later is

-- The change of a file was found, and is to be another one of this file: so it is put, and they go on rising.
pub record Changed (rs : List Running) (file : FileId) (i : ℕ) (old new : Running) : Type 0 where
  pub read : running_of rs file ≡ Some old
  pub put : with_running rs new ≡ set rs i new
  pub same : with_running rs old ≡ rs
  pub rises : ChangesRise (set rs i new)

pub changed : (rs slice : List Running) (file : FileId) (i : ℕ) (old new : Running) → slice ≡ rs → ChangesRise rs → IsChangePlace slice file (Ok i) → old ≡ get_or rs i old
    → file_of new ≡ file_of old → Changed rs file i old new
changed rs slice file i old new seen rise place stood same =
    let at : IsChangePlace rs file (Ok i) = subst (λ (xs : List Running). IsChangePlace xs file (Ok i)) seen place in
    let read : running_of rs file ≡ Some old = at.1 old ∙ ap Some (sym stood) in
    let own : file_of old ≡ file = found_file rs file old read in
    let put : with_running rs new ≡ set rs i new = at.2 new (same ∙ own) in
    record {
      read = read;
      put = put;
      same = at.2 old own ∙ ap (set rs i) stood ∙ set-get_or rs i old;
      rises = subst ChangesRise put (rise-put rs new rise);
    }

-- the change of a file was found, and one of this file takes its place
pub put_over_it : (rs slice : List Running) (file : FileId) (i : ℕ) (new : Running) → slice ≡ rs → ChangesRise rs → IsChangePlace slice file (Ok i) → file_of new ≡ file → ChangesRise (set rs i new)
put_over_it rs slice file i new seen rise place own =
    let at : IsChangePlace rs file (Ok i) = subst (λ (xs : List Running). IsChangePlace xs file (Ok i)) seen place in
    subst ChangesRise (at.2 new own) (rise-put rs new rise)

-- the change of a file was found, and goes
pub taken_out : (rs slice left : List Running) (file : FileId) (i : ℕ) → slice ≡ rs → ChangesRise rs → IsChangePlace slice file (Ok i) → left ≡ take i rs ++ drop (suc i) rs → ChangesRise left
taken_out rs slice left file i seen rise place is =
    let at : IsChangePlace rs file (Ok i) = subst (λ (xs : List Running). IsChangePlace xs file (Ok i)) seen place in
    let rest : take i rs ++ drop (i + 1) rs ≡ take i rs ++ drop (suc i) rs = rw add-one refl in
    subst ChangesRise (at.3 ∙ rest ∙ sym is) (rise-left rs file rise)

-- A file has no change, and one is to begin: so it is put between the others, and they go on rising.
pub put_between : (rs slice : List Running) (file : FileId) (i : ℕ) (new : Running) → slice ≡ rs → ChangesRise rs → IsChangePlace slice file (Err i) → file_of new ≡ file
    → (with_running rs new ≡ insert rs i new) × ChangesRise (insert rs i new)
put_between rs slice file i new seen rise place own =
    let at : IsChangePlace rs file (Err i) = subst (λ (xs : List Running). IsChangePlace xs file (Err i)) seen place in
    let put : with_running rs new ≡ insert rs i new = at.2 new own in
    (put, subst ChangesRise put (rise-put rs new rise))
