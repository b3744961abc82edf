-- items in lists that rise: where they stand, whether they are there, and what putting one makes
use Rattle.std.proofs.Common.{◌≡◌, ◌⊎◌, inl, inr, ℕ, zero, suc, ◌<◌, ◌≤◌, Bool, true, false, cond, List, [], ◌∷◌, length, get_or, set, drop, refl, ap, subst, ◌∙◌, arith}
use Rattle.std.proofs.lemmas.Bool.{cases_lt, and_parts}
use Rattle.std.proofs.lemmas.List.Folds.{list_any_at, list_any_none}
use Rattle.std.specs.List.{insert, list_any}
use Rattle.std.specs.List.Sorted.{IsPartitionedBy, IsPartitionPoint}
use Rattle.object_versions.specs.Rising.{rises}

-- an order of items, by two tests
pub record Orders {R : Type 0} (same before : R → R → Bool) : Type 0 where
  pub apart : (a b : R) → before a b ≡ true → same a b ≡ false
  pub one_way : (a b : R) → before a b ≡ true → before b a ≡ false
  pub chain : (a b c : R) → before a b ≡ true → before b c ≡ true → before a c ≡ true
  pub total : (a b : R) → before a b ≡ false → same a b ≡ false → before b a ≡ true
  pub back : (a b : R) → same a b ≡ same b a

-- the items before a place come before this one, and none from there on does
pub record IsPlace {R : Type 0} (before : R → R → Bool) (rows : List R) (row : R) (place : ℕ) : Type 0 where
  pub inside : place ≤ length rows
  pub earlier : (k : ℕ) (d : R) → k < place → before (get_or rows k d) row ≡ true
  pub later : (k : ℕ) (d : R) → place ≤ k → k < length rows → before (get_or rows k d) row ≡ false

module _ {R : Type 0} (same before : R → R → Bool) where
  -- the rows with this one: over the same one, else before the first that it comes before
  abbrev pub put : List R → R → List R
  put [] row = row ∷ []
  put (r ∷ rs) row = cond (same r row) (row ∷ rs) (cond (before row r) (row ∷ r ∷ rs) (r ∷ put rs row))

  -- this row isn't put here
  pub record Passed (r row : R) : Type 0 where
    pub other : same r row ≡ false
    pub behind : before row r ≡ false

  pub put_behind : (r : R) (rs : List R) (row : R) → Passed r row → put (r ∷ rs) row ≡ r ∷ put rs row
  put_behind r rs row p =
      ap (λ t. cond t (row ∷ rs) (cond (before row r) (row ∷ r ∷ rs) (r ∷ put rs row))) p.other
      ∙ ap (λ t. cond t (row ∷ r ∷ rs) (r ∷ put rs row)) p.behind

  pub put_over : (rows : List R) (i : ℕ) (row : R) → ((k : ℕ) (d : R) → k < i → Passed (get_or rows k d) row) → i < length rows → ((d : R) → same (get_or rows i d) row ≡ true)
      → put rows row ≡ set rows i row
  put_over [] i row below lt here = absurd (omega arith)
  put_over (r ∷ rs) zero row below lt here = ap (λ t. cond t (row ∷ rs) (cond (before row r) (row ∷ r ∷ rs) (r ∷ put rs row))) (here r)
  put_over (r ∷ rs) (suc i) row below lt here =
      put_behind r rs row (below 0 r (omega arith))
      ∙ ap (λ t. r ∷ t) (put_over rs i row (λ k d l. below (suc k) d (omega arith)) (omega arith) here)

  pub put_between : (rows : List R) (i : ℕ) (row : R) → ((k : ℕ) (d : R) → k < i → Passed (get_or rows k d) row) → i ≤ length rows
      → ((d : R) → i < length rows → same (get_or rows i d) row ≡ false) → ((d : R) → i < length rows → before row (get_or rows i d) ≡ true)
      → put rows row ≡ insert rows i row
  put_between [] zero row below le other first = refl
  put_between [] (suc i) row below le other first = absurd (omega arith)
  put_between (r ∷ rs) zero row below le other first =
      ap (λ t. cond t (row ∷ rs) (cond (before row r) (row ∷ r ∷ rs) (r ∷ put rs row))) (other r (omega arith))
      ∙ ap (λ t. cond t (row ∷ r ∷ rs) (r ∷ put rs row)) (first r (omega arith))
  put_between (r ∷ rs) (suc i) row below le other first =
      put_behind r rs row (below 0 r (omega arith))
      ∙ ap (λ t. r ∷ t) (put_between rs i row (λ k d l. below (suc k) d (omega arith)) (omega arith) (λ d l. other d (omega arith)) (λ d l. first d (omega arith)))

module _ {R : Type 0} (same before : R → R → Bool) (order : Orders same before) where
  tail_rises : (r : R) (rs : List R) → rises before (r ∷ rs) ≡ true → rises before rs ≡ true
  tail_rises r [] up = refl
  tail_rises r (x ∷ xs) up = (and_parts (before r x) (rises before (x ∷ xs)) up).1

  -- the first comes before each later one
  first_first : (r : R) (rs : List R) (j : ℕ) (d : R) → rises before (r ∷ rs) ≡ true → j < length rs → before r (get_or rs j d) ≡ true
  first_first r [] j d up lt = absurd (omega arith)
  first_first r (x ∷ xs) zero d up lt = (and_parts (before r x) (rises before (x ∷ xs)) up).0
  first_first r (x ∷ xs) (suc j) d up lt =
      let parts = and_parts (before r x) (rises before (x ∷ xs)) up in
      order.chain r x (get_or xs j d) parts.0 (first_first x xs j d parts.1 (omega arith))

  pub far : (rows : List R) (i j : ℕ) (d : R) → rises before rows ≡ true → i < j → j < length rows → before (get_or rows i d) (get_or rows j d) ≡ true
  far [] i j d up less lt = absurd (omega arith)
  far (r ∷ rs) i zero d up less lt = absurd (omega arith)
  far (r ∷ rs) zero (suc j) d up less lt = first_first r rs j d up (omega arith)
  far (r ∷ rs) (suc i) (suc j) d up less lt = far rs i j d (tail_rises r rs up) (omega arith) (omega arith)

  pub partitioned : (rows : List R) (row : R) → rises before rows ≡ true → IsPartitionedBy (λ y. before y row) rows
  partitioned rows row up i j d le lt is = at (cases_lt i j)
    where
      at : (i < j) ⊎ (j ≤ i) → before (get_or rows i d) row ≡ true
      at (inl less) = order.chain (get_or rows i d) (get_or rows j d) row (far rows i j d up less lt) is
      at (inr ge) =
          let same_place : j ≡ i = omega arith in
          subst (λ k. before (get_or rows k d) row ≡ true) same_place is

  pub placed : (rows : List R) (row : R) (i : ℕ) → i ≤ length rows → IsPartitionPoint (λ y. before y row ≡ true) (λ y. before y row ≡ false) rows i → IsPlace before rows row i
  placed rows row i le parts = record { inside = le; earlier = λ k d lt. parts.0 k d (omega arith) lt; later = λ k d ge lt. parts.1 k d ge lt }

  passes : (r row : R) → before r row ≡ true → Passed same before r row
  passes r row is = record { other = order.apart r row is; behind = order.one_way r row is }

  pub set_there : (rows : List R) (row : R) (i : ℕ) → IsPlace before rows row i → i < length rows → ((d : R) → same (get_or rows i d) row ≡ true) → put same before rows row ≡ set rows i row
  set_there rows row i place lt here = put_over same before rows i row (λ k d l. passes (get_or rows k d) row (place.earlier k d l)) lt here

  pub insert_there : (rows : List R) (row : R) (i : ℕ) → IsPlace before rows row i → ((d : R) → i < length rows → same (get_or rows i d) row ≡ false) → put same before rows row ≡ insert rows i row
  insert_there rows row i place other =
      put_between same before rows i row (λ k d l. passes (get_or rows k d) row (place.earlier k d l)) place.inside other
      (λ d lt. order.total (get_or rows i d) row (place.later i d (omega arith) lt) (other d lt))

  pub there : (rows : List R) (row : R) (i : ℕ) → i < length rows → ((d : R) → same (get_or rows i d) row ≡ true) → list_any (same row) rows ≡ true
  there rows row i lt here = list_any_at (same row) rows i row lt (order.back row (get_or rows i row) ∙ here row)

  -- the first item that is the same as this one, and what stands after it
  pub found_at : {A : Type 0} (look : List R → A) (rows : List R) (row : R) (i : ℕ) → ((r : R) (rs : List R) → same r row ≡ false → look (r ∷ rs) ≡ look rs) → IsPlace before rows row i
      → look rows ≡ look (drop i rows)
  found_at look rows row i passing place = at rows i (λ k d lt. order.apart (get_or rows k d) row (place.earlier k d lt)) place.inside
    where
      at : (xs : List R) (j : ℕ) → ((k : ℕ) (d : R) → k < j → same (get_or xs k d) row ≡ false) → j ≤ length xs → look xs ≡ look (drop j xs)
      at xs zero below le = refl
      at [] (suc j) below le = absurd (omega arith)
      at (x ∷ xs) (suc j) below le = passing x xs (below 0 x (omega arith)) ∙ at xs j (λ k d lt. below (suc k) d (omega arith)) (omega arith)

  -- none is the same as this one
  pub none_same : (rows : List R) (row : R) (i : ℕ) → rises before rows ≡ true → IsPlace before rows row i → ((d : R) → i < length rows → same (get_or rows i d) row ≡ false)
      → (k : ℕ) (d : R) → k < length rows → same (get_or rows k d) row ≡ false
  none_same rows row i up place other k d lt = at (cases_lt i k) (cases_lt k i)
    where
      at : (i < k) ⊎ (k ≤ i) → (k < i) ⊎ (i ≤ k) → same (get_or rows k d) row ≡ false
      at (inl less) c =
          let above : before row (get_or rows i d) ≡ true = order.total (get_or rows i d) row (place.later i d (omega arith) (omega arith)) (other d (omega arith)) in
          order.back (get_or rows k d) row ∙ order.apart row (get_or rows k d) (order.chain row (get_or rows i d) (get_or rows k d) above (far rows i k d up less lt))
      at (inr le) (inl below) = order.apart (get_or rows k d) row (place.earlier k d below)
      at (inr le) (inr ge) =
          let here : i ≡ k = omega arith in
          subst (λ j. same (get_or rows j d) row ≡ false) here (other d (omega arith))

  pub not_there : (rows : List R) (row : R) (i : ℕ) → rises before rows ≡ true → IsPlace before rows row i → ((d : R) → i < length rows → same (get_or rows i d) row ≡ false) → list_any (same row) rows ≡ false
  not_there rows row i up place other =
      list_any_none (same row) rows (λ k d lt. order.back row (get_or rows k d) ∙ none_same rows row i up place other k d lt)
