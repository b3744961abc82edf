-- What the marks of a world of writes say, in the words of the entries.
use Rattle.std.proofs.Common.{◌≡◌, ℕ, suc, pred, zero, List, [], ◌∷◌, ◌++◌, length, refl, sym, ap, ◌∙◌, subst, subst₂, ◌==◌, if◌then◌else◌, Some, inl, inr, ◌⊎◌}
use Rattle.std.specs.Prelude.{slice_get, map}
use Rattle.std.proofs.lemmas.List.{map-append}
use Rattle.xt_messages.specs.declared.file.Op.{Op}
use Rattle.xt_messages.specs.declared.file.Op.TheVariants as op
use Rattle.xt_messages.specs.declared.file.Update.{Update}
use Rattle.time_line.specs.Content.{place_of, content_of, range_of}
use Rattle.replica_safety.specs.Epochs.{name}
use Rattle.replica_safety.specs.Lists.{Has, AreDistinct}
use Rattle.replica_safety.specs.Protocol.{Act, Activated, Issued, Committed, last_write}
use Rattle.replica_safety.specs.Rules.{Start}
use Rattle.replica_safety.specs.Line.{with_told, line_of, AreOnOneLine, WasIssued}
use Rattle.replica_safety.specs.Line as lines
use Rattle.replica_safety.proofs.Lists.{distinct_front}
use Rattle.replica_safety.proofs.Conclusions.{line_distinct, line_issued}
use Rattle.replica_runs.specs.Made.{IsMade, ops_of, IsMadeBy, bodies_of, size_of}
use Rattle.replica_runs.specs.Marks.{acts_of, line_at, AnswersShow, AreMadeAfter}
use Rattle.replica_runs.specs.Answers.{ReadsShow}
use Rattle.replica_runs.specs.World.{Mark, Told, ShowsRead, ShowsWrite}
use Rattle.replica_runs.specs.HeadOrder.{order_told, order_of, last_of, AreOnOneOrder, order_at, known_at, IsIssued, IssuesComeFirst, IsChange, AreChanges}
use Rattle.replica_runs.specs.HeadWorld.{World}
use Rattle.replica_runs.proofs.Seen.{line_grows, reads_show}
use Rattle.replica_runs.proofs.Shows.{line_made}
use Rattle.replica_runs.proofs.Tools.{by_test}
use Rattle.replica_runs.proofs.HeadStands.{entry_of, IsReached}

length-names : (ws : List Update) → length (map name ws) ≡ length ws
length-names [] = refl
length-names (w ∷ ws) = ap suc (length-names ws)

last_names : (ws : List Update) → last_of (map name ws) ≡ name (last_write ws)
last_names [] = refl
last_names (w ∷ []) = refl
last_names (w ∷ v ∷ ws) = last_names (v ∷ ws)

get_names : (ws : List Update) (n : ℕ) (w : Update) → slice_get ws n ≡ Some w → slice_get (map name ws) n ≡ Some (name w)
get_names [] n w p = absurd cc
get_names (v ∷ ws) zero w p = ap Some (ap name (some_is p))
  where
    some_is : {a b : Update} → Some a ≡ Some b → a ≡ b
    some_is q = cc
get_names (v ∷ ws) (suc n) w p = get_names ws n w p

ops_names : (ops : ℕ × ℕ → Op) (ws : List Update) → ops_of ops ws ≡ map ops (map name ws)
ops_names ops [] = refl
ops_names ops (w ∷ ws) = ap (λ l. ops (name w) ∷ l) (ops_names ops ws)

told_names : (count : ℕ) (w : Update) (ws : List Update) → order_told count (name w) (map name ws) ≡ map name (with_told count w ws)
told_names count w ws = subst (λ k. (if count == suc k then map name ws ++ name w ∷ [] else map name ws) ≡ map name (with_told count w ws)) (sym (length-names ws))
    (by_test (λ b. (if b then map name ws ++ name w ∷ [] else map name ws) ≡ map name (if b then ws ++ w ∷ [] else ws)) (count == suc (length ws)) (λ _. sym (map-append name ws (w ∷ []))) (λ _. refl))

-- the order that the entries report is that of the marks
pub order_marks : (start : Start) (ms : List Mark) → order_of (order_at start) (map entry_of ms) ≡ map name (line_at start ms)
order_marks start [] = refl
order_marks start (Told n (Activated count w) ∷ ms) = ap (order_told count (name w)) (order_marks start ms) ∙ told_names count w (line_at start ms)
order_marks start (Told n (Issued count w) ∷ ms) = order_marks start ms
order_marks start (Told n (Committed count w) ∷ ms) = ap (order_told count (name w)) (order_marks start ms) ∙ told_names count w (line_at start ms)
order_marks start (ShowsRead n ws o body ∷ ms) = order_marks start ms
order_marks start (ShowsWrite n place id ∷ ms) = order_marks start ms

fits_one : (ws : List Update) (order : List (ℕ × ℕ)) (count : ℕ) (w : Update) → order ≡ map name ws → (length ws ≡ count) × (last_write ws ≡ w) → (length order ≡ count) × (last_of order ≡ name w)
fits_one ws order count w same f = (ap length same ∙ length-names ws ∙ f.0, ap last_of same ∙ last_names ws ∙ ap name f.1)

-- ---- what had been issued

pub has_name : (ws : List Update) (id : ℕ × ℕ) → Has id (map name ws) → (w : Update) × Has w ws × (id ≡ name w)
has_name [] id h = absurd h
has_name (w ∷ ws) id (inl p) = (w, inl refl, p)
has_name (w ∷ ws) id (inr h) = let more = has_name ws id h in (more.0, inr more.1, more.2)

name_has : (ws : List Update) (w : Update) → Has w ws → Has (name w) (map name ws)
name_has [] w h = absurd h
name_has (v ∷ ws) w (inl p) = inl (ap name p)
name_has (v ∷ ws) w (inr h) = inr (name_has ws w h)

report_issue : (ms : List Mark) (place : ℕ) (w : Update) → Has (Issued place w) (acts_of ms) → IsIssued (map entry_of ms) (name w)
report_issue [] place w h = absurd h
report_issue (Told n a ∷ ms) place w (inl p) = (n, place, inl (ap (λ (b : Act). entry_of (Told n b)) p))
report_issue (Told n a ∷ ms) place w (inr h) = let more = report_issue ms place w h in (more.0, more.1, inr more.2)
report_issue (ShowsRead n ws o body ∷ ms) place w h = let more = report_issue ms place w h in (more.0, more.1, inr more.2)
report_issue (ShowsWrite n at id ∷ ms) place w h = let more = report_issue ms place w h in (more.0, more.1, inr more.2)

module _ (start : Start) where
  pub was_issued : (ms : List Mark) (id : ℕ × ℕ) (w : Update) → id ≡ name w → WasIssued start (acts_of ms) w → Has id (known_at start) ⊎ IsIssued (map entry_of ms) id
  was_issued ms id w is (inl h) = inl (subst (λ k. Has k (known_at start)) (sym is) (name_has (start.line ++ start.open_writes) w h))
  was_issued ms id w is (inr h) = inr (subst (IsIssued (map entry_of ms)) (sym is) (report_issue ms h.0 w h.1))

  order_issued : (ms : List Mark) → lines.IssuesComeFirst start (acts_of ms) → (id : ℕ × ℕ) → Has id (order_of (order_at start) (map entry_of ms))
      → Has id (known_at start) ⊎ IsIssued (map entry_of ms) id
  order_issued ms first id h =
      let one = has_name (line_at start ms) id (subst (Has id) (order_marks start ms) h) in
      was_issued ms id one.0 one.2 (line_issued start (acts_of ms) first one.0 one.1)

  issues_first : (ms : List Mark) → lines.IssuesComeFirst start (acts_of ms) → IssuesComeFirst (known_at start) (order_at start) (map entry_of ms)
  issues_first [] first = tt
  issues_first (Told n a ∷ ms) first = (
    λ id h.
        let one = has_name (line_at start (Told n a ∷ ms)) id (subst (Has id) (order_marks start (Told n a ∷ ms)) h) in
        was_issued ms id one.0 one.2 (first.0 one.0 one.1),
    issues_first ms first.1,
  )
  issues_first (ShowsRead n ws o body ∷ ms) first = (order_issued ms first, issues_first ms first)
  issues_first (ShowsWrite n place id ∷ ms) first = (order_issued ms first, issues_first ms first)

module _ (stripe : ℕ) (ops : ℕ × ℕ → Op) (start : Start) where
  distinct_before : (ms : List Mark) (a : Act) → AreDistinct (map name (line_of start.line (a ∷ acts_of ms))) → AreDistinct (map name (line_of start.line (acts_of ms)))
  distinct_before ms a d = let f = line_grows (line_of start.line (acts_of ms)) a in
      distinct_front (map name (line_of start.line (acts_of ms))) (map name f.0) (subst AreDistinct (ap (map name) (sym f.1) ∙ map-append name (line_of start.line (acts_of ms)) f.0) d)

  entries_fit : (ms : List Mark) → AreOnOneLine start.line (acts_of ms) → AnswersShow start ms → ReadsShow stripe ops start ms → AreDistinct (map name (line_at start ms)) → AreOnOneOrder stripe ops (order_at start) (map entry_of ms)
  entries_fit [] line answers reads d = tt
  entries_fit (Told n (Activated count w) ∷ ms) line answers reads d = (
    fits_one (line_at start (Told n (Activated count w) ∷ ms)) _ count w (order_marks start (Told n (Activated count w) ∷ ms)) line.0,
    subst AreDistinct (sym (order_marks start (Told n (Activated count w) ∷ ms))) d,
    entries_fit ms line.1 answers reads (distinct_before ms (Activated count w) d),
  )
  entries_fit (Told n (Issued count w) ∷ ms) line answers reads d = (
    line.0 ∙ ap suc (sym (ap length (order_marks start ms) ∙ length-names (line_at start ms))),
    subst AreDistinct (sym (order_marks start ms)) d,
    entries_fit ms line.1 answers reads d,
  )
  entries_fit (Told n (Committed count w) ∷ ms) line answers reads d = (
    fits_one (line_at start (Told n (Committed count w) ∷ ms)) _ count w (order_marks start (Told n (Committed count w) ∷ ms)) line.0,
    subst AreDistinct (sym (order_marks start (Told n (Committed count w) ∷ ms))) d,
    entries_fit ms line.1 answers reads (distinct_before ms (Committed count w) d),
  )
  entries_fit (ShowsRead n ws o body ∷ ms) line answers reads d = (
    (
      ap length answers.0.0 ∙ sym (ap length (order_marks start ms) ∙ length-names (line_at start ms)),
      λ at len fits. reads.1 at len fits ∙ ap (λ l. range_of (content_of stripe l) (place_of stripe o at) len) (ops_names ops (line_at start ms) ∙ ap (map ops) (sym (order_marks start ms))),
    ),
    subst AreDistinct (sym (order_marks start ms)) d,
    entries_fit ms line answers.1 reads.0 d,
  )
  entries_fit (ShowsWrite n place id ∷ ms) line answers reads d = (
    (
      answers.0.3,
      subst₂ (λ l i. slice_get l (pred place) ≡ Some i) (sym (order_marks start ms)) answers.0.2 (get_names (line_at start ms) (pred place) answers.0.0 answers.0.1),
    ),
    subst AreDistinct (sym (order_marks start ms)) d,
    entries_fit ms line answers.1 reads d,
  )

  pub entries_fit_there : (members : List ℕ) (w : World) → IsReached stripe ops members start w → AreOnOneOrder stripe ops (order_at start) w.entries
  entries_fit_there members w r = let is = r.good.is in subst (AreOnOneOrder stripe ops (order_at start)) (sym r.stand.entries)
      (entries_fit r.world.marks (subst (AreOnOneLine start.line) (sym is.shows.acts) is.shows.sound.told) is.shows.answers
      (reads_show stripe ops start r.world.marks is.shows.answers (line_made (IsMade stripe ops) members start r.world is))
      (subst (λ a. AreDistinct (map name (line_of start.line a))) (sym is.shows.acts) (line_distinct members start is.state is.shows.sound)))

  pub issues_first_there : (members : List ℕ) (w : World) → IsReached stripe ops members start w → IssuesComeFirst (known_at start) (order_at start) w.entries
  issues_first_there members w r = let is = r.good.is in subst (IssuesComeFirst (known_at start) (order_at start)) (sym r.stand.entries)
      (issues_first start r.world.marks (subst (lines.IssuesComeFirst start) (sym is.shows.acts) is.shows.sound.issued_first))

  -- ---- what stands in the order

  made_one : (done ws : List Update) (id : ℕ × ℕ) → AreMadeAfter (IsMade stripe ops) done ws → Has id (map name ws) → (before : List Update) × (u : Update) × (id ≡ name u) × IsMade stripe ops before u
  made_one done [] id m h = absurd h
  made_one done (w ∷ ws) id m (inl p) = (done, w, p, m.0)
  made_one done (w ∷ ws) id m (inr h) = made_one (done ++ w ∷ []) ws id m.1 h

  is_change : (asked : Op) (bodies : ℕ → List ℕ) (size : ℕ) (u : Update) → IsMadeBy stripe bodies size u asked → IsChange asked
  is_change (op.Read object at len) bodies size u m = m
  is_change (op.Write object at bytes) bodies size u m = tt
  is_change (op.Truncate z) bodies size u m = tt

  pub order_of_changes : (members : List ℕ) (w : World) → IsReached stripe ops members start w → AreChanges ops (order_of (order_at start) w.entries)
  order_of_changes members w r id h =
      let there : Has id (map name (line_at start r.world.marks)) = subst (Has id) (ap (order_of (order_at start)) r.stand.entries ∙ order_marks start r.world.marks) h in
      let one = made_one [] (line_at start r.world.marks) id (line_made (IsMade stripe ops) members start r.world r.good.is) there in
      subst (λ k. IsChange (ops k)) (sym one.2) (is_change (ops (name one.1)) (bodies_of one.0) (size_of one.0) one.1 one.3.1)
