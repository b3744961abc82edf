-- what sending and settling messages does to what is kept beside them
use Rattle.std.proofs.Common.{◌≡◌, ◌≢◌, ℕ, ◌+◌, ◌-◌, ◌<◌, ◌≤◌, List, [], ◌∷◌, ◌++◌, length, map, get_or, refl, ap, ◌∙◌, sym, arith, true, false, Option, Some, None, zero, suc, length-append, get_or-set_other, get_or-set_same, zero-add, ◌⊎◌, inl, inr}
use Rattle.std.proofs.Math.ListN.{set, get_or-append}
use Rattle.std.proofs.lemmas.List.{get_or-append_right}
use Rattle.std.proofs.lemmas.List.Sums.{sum_by-cons, sum_by-append, sum_by-set}
use Rattle.std.proofs.lemmas.Option.{slice_get-get_or, slice_get_past}
use Rattle.std.proofs.lemmas.Bool.{cases_eq, cases_lt}
use Rattle.std.specs.Prelude.{min, sum_by, slice_get}
use Rattle.xt_messages.specs.FrameLength.{frame_length}
use Rattle.xt_messages.specs.declared.message.Msg.{Msg}
use Rattle.world_tables.specs.Within64.{within_64}
use Rattle.world_spec.specs.declared.Sent.{Sent}
use Rattle.world_spec.specs.NodeSteps.{pending}
use Rattle.world_spec.specs.Lines.{least_pending, no_longer_pending}
use Rattle.world_tables.specs.Counts.{AreCounts, IsFirstPending}

-- Sending.

-- what has just been sent is pending
pending_at : (ms : List Msg) (k : ℕ) (d : Sent) → k < length ms → (get_or (map pending ms) k d).pending ≡ true
pending_at [] k d below = absurd (omega arith)
pending_at (m ∷ ms) zero d below = refl
pending_at (m ∷ ms) (suc k) d below = pending_at ms k d (omega arith)

length_pending : (ms : List Msg) → length (map pending ms) ≡ length ms
length_pending [] = refl
length_pending (m ∷ ms) = ap suc (length_pending ms)

-- the bytes of what has just been sent
frames_of : (ms : List Msg) → sum_by (λ (s : Sent). frame_length s.message) (map pending ms) ≡ sum_by frame_length ms
frames_of [] = refl
frames_of (m ∷ ms) =
    sum_by-cons (λ (s : Sent). frame_length s.message) (pending m) (map pending ms)
    ∙ ap (λ n. frame_length m + n) (frames_of ms)
    ∙ sym (sum_by-cons frame_length m ms)

waiting_still : (sent : List Sent) (first bytes : ℕ) (ms : List Msg) → AreCounts sent first bytes → (d : Sent)
    → first < length (sent ++ map pending ms) → (first < length sent) ⊎ (length sent ≤ first)
    → (get_or (sent ++ map pending ms) first d).pending ≡ true
waiting_still sent first bytes ms counts d below (inl old) =
    rw (get_or-append sent (map pending ms) d first old) (counts.waiting d old)
waiting_still sent first bytes ms counts d below (inr behind) =
    let inside = counts.inside in
    let at_end : first - length sent ≡ 0 = omega arith in
    rw (get_or-append_right sent (map pending ms) (length sent) first d refl behind, at_end)
    (pending_at ms 0 d (omega (arith, length-append sent (map pending ms), length_pending ms)))

pub counts_sent : (sent : List Sent) (first bytes : ℕ) (ms : List Msg) (length_all more : ℕ) → AreCounts sent first bytes
    → length_all ≡ within_64 (sum_by frame_length ms)
    → more ≡ min (bytes + length_all) 18446744073709551615
    → AreCounts (sent ++ map pending ms) first more
counts_sent sent first bytes ms length_all more counts all is =
    record {
      inside = omega (arith, length-append sent (map pending ms), counts.inside);
      settled = λ place d lt. rw (get_or-append sent (map pending ms) d place (omega (arith, counts.inside))) (counts.settled place d lt);
      waiting = λ d below. waiting_still sent first bytes ms counts d below (cases_lt first (length sent));
      sum =
          let s = sum_by-append (λ (x : Sent). frame_length x.message) sent (map pending ms) in
          let f = frames_of ms in
          omega (arith, s, f, counts.sum, all, is);
    }

-- one message is a list of one
pub counts_pushed : (sent : List Sent) (first bytes : ℕ) (m : Msg) (more : ℕ) → AreCounts sent first bytes
    → more ≡ min (bytes + within_64 (frame_length m)) 18446744073709551615
    → AreCounts (sent ++ pending m ∷ []) first more
counts_pushed sent first bytes m more counts is =
    counts_sent sent first bytes (m ∷ []) (within_64 (frame_length m)) more counts (ap within_64 (sym (zero-add (frame_length m)))) is

-- Settling.

settled_still : (sent : List Sent) (first bytes place : ℕ) (m : Msg) → AreCounts sent first bytes → place < length sent
    → (k : ℕ) (e : Sent) → k < first → (k ≡ place) ⊎ (k ≢ place)
    → (get_or (set sent place (record { message = m; pending = false })) k e).pending ≡ false
settled_still sent first bytes place m counts lt k e below (inl same) =
    rw (same, get_or-set_same sent place (record { message = m; pending = false }) e lt) refl
settled_still sent first bytes place m counts lt k e below (inr other) =
    rw (get_or-set_other sent place k (record { message = m; pending = false }) e other) (counts.settled k e below)

moved_in : (sent : List Sent) (first later : ℕ) → ((k : ℕ) (d : Sent) → k < first → (get_or sent k d).pending ≡ false)
    → IsFirstPending sent first later → (k : ℕ) (d : Sent) → k < later → (k < first) ⊎ (first ≤ k)
    → (get_or sent k d).pending ≡ false
moved_in sent first later before moved k d below (inl old) = before k d old
moved_in sent first later before moved k d below (inr behind) = moved.passed k d behind below

pub counts_settled : (sent : List Sent) (first bytes place later : ℕ) (m : Msg) (d : Sent) → place < length sent
    → (get_or sent place d).message ≡ m
    → AreCounts sent first bytes
    → IsFirstPending (set sent place (record { message = m; pending = false })) first later
    → AreCounts (set sent place (record { message = m; pending = false })) later bytes
counts_settled sent first bytes place later m d lt same counts moved =
    let after = set sent place (record { message = m; pending = false }) in
    record {
      inside = moved.inside;
      settled = λ k e below.
          moved_in after first later (λ j f old. settled_still sent first bytes place m counts lt j f old (cases_eq j place))
          moved k e below (cases_lt k first);
      waiting = moved.here;
      sum =
          let s = sum_by-set (λ (x : Sent). frame_length x.message) sent place (record { message = m; pending = false }) d lt in
          let l : frame_length (get_or sent place d).message ≡ frame_length m = ap frame_length same in
          omega (arith, s, l, counts.sum);
    }

without : Option Sent → List Sent → ℕ → List Sent
without None sent place = sent
without (Some s) sent place = set sent place (record s { pending = false })

without_is : (o : Option Sent) (sent : List Sent) (number : ℕ)
    → without o sent (number - 1) ≡ elim o [ None ↦ sent | Some s ↦ set sent (number - 1) (record s { pending = false }) ]
unfolding without
without_is None sent number = refl
without_is (Some s) sent number = refl

pub settled_is : (sent : List Sent) (place : ℕ) (s : Sent) → place < length sent → s ≡ get_or sent place s
    → set sent place (record { message = s.message; pending = false }) ≡ no_longer_pending sent (place + 1)
unfolding without
settled_is sent place s lt is =
    let e : place + 1 - 1 ≡ place = omega arith in
    let g : slice_get sent place ≡ Some s = slice_get-get_or sent place s lt ∙ ap Some (sym is) in
    ap (λ o. without o sent place) (sym g)
    ∙ ap (λ i. without (slice_get sent i) sent i) (sym e)
    ∙ without_is (slice_get sent (place + 1 - 1)) sent (place + 1)

-- there is no message of this number
pub none_settled : (sent : List Sent) (number : ℕ) → length sent < number → no_longer_pending sent number ≡ sent
unfolding without
none_settled sent number past =
    let g : slice_get sent (number - 1) ≡ None = slice_get_past sent (number - 1) (omega arith) in
    sym (without_is (slice_get sent (number - 1)) sent number) ∙ ap (λ o. without o sent (number - 1)) g

-- The pending message of least number.

none_pending : (sent : List Sent) (number : ℕ)
    → ((place : ℕ) (d : Sent) → place < length sent → (get_or sent place d).pending ≡ false)
    → least_pending number sent ≡ None
unfolding least_pending
none_pending [] number settled = refl
none_pending (s ∷ sent) number settled =
    let here : s.pending ≡ false = settled 0 s (omega arith) in
    rw here (none_pending sent (number + 1) (λ place d lt. settled (suc place) d (omega arith)))

first_pending : (sent : List Sent) (first number : ℕ) → first < length sent
    → ((place : ℕ) (d : Sent) → place < first → (get_or sent place d).pending ≡ false)
    → ((d : Sent) → (get_or sent first d).pending ≡ true)
    → least_pending number sent ≡ Some (number + first)
unfolding least_pending
first_pending [] first number lt settled here = absurd (omega arith)
first_pending (s ∷ sent) zero number lt settled here =
    let now : s.pending ≡ true = here s in
    rw now (ap Some (omega arith))
first_pending (s ∷ sent) (suc first) number lt settled here =
    let passed : s.pending ≡ false = settled 0 s (omega arith) in
    rw passed
    (first_pending sent first (number + 1) (omega arith) (λ place e below. settled (suc place) e (omega arith)) here
    ∙ ap Some (omega arith))

pub least_is : (sent : List Sent) (first bytes : ℕ) → AreCounts sent first bytes → first < length sent
    → least_pending 1 sent ≡ Some (first + 1)
least_is sent first bytes counts lt =
    first_pending sent first 1 lt counts.settled (λ d. counts.waiting d lt) ∙ ap Some (omega arith)

pub least_is_none : (sent : List Sent) (first bytes : ℕ) → AreCounts sent first bytes → length sent ≤ first
    → least_pending 1 sent ≡ None
least_is_none sent first bytes counts past =
    none_pending sent 1 (λ place d below. counts.settled place d (omega arith))
