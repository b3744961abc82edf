-- The greatest head of a majority is the line, or the line and one write more.
use Rattle.std.proofs.Common.{◌≡◌, ℕ, ◌+◌, ◌≤◌, ◌⊎◌, Bool, true, false, List, [], ◌∷◌, ◌++◌, length, drop, refl, sym, ap, ◌∙◌, subst, inl, inr, arith, append-nil}
use Rattle.std.specs.Prelude.{map, count_by, cond}
use Rattle.std.proofs.lemmas.List.Sums.{sum_by-cons}
use Rattle.std.proofs.Math.Seq.{drop-append_seam}
use Rattle.xt_protocol.specs.Stamps.{is_earlier}
use Rattle.replica_safety.specs.Epochs.{Epoch, Stamp, Write, name, Head, Body, stamp_of}
use Rattle.replica_safety.specs.Lists.{Has, AreDistinct, Majority}
use Rattle.replica_safety.specs.Line.{the_line}
use Rattle.replica_safety.specs.Protocol.{State, writes_of, Move, after_all}
use Rattle.replica_safety.specs.Rules.{Start, begin, every_rule, IsHistory}
use Rattle.replica_safety.proofs.Lists.{IsFront, IsNear, near_front, has-left, distinct_front, shared, front_length}
use Rattle.replica_safety.proofs.Orders.{at_most_trans, at_most_cases, not_after, not_before_self}
use Rattle.replica_safety.proofs.Sound.{Sound, IsOfEpoch, WritesHold}
use Rattle.replica_safety.proofs.Conclusions.{history_sound}
use Rattle.joined_lists.specs.NextStart.{IsBest, next_start, Continues}

-- a head of an epoch that isn't before the last active one, with the line at its front
pub record IsLate (start : Start) (s : State) (h : Head) : Type 0 where
  pub writes : WritesHold start s.acts (writes_of s h.epoch)
  pub front : IsFront h.writes (writes_of s h.epoch)
  pub long : length (the_line start s) ≤ length h.writes

module _ (members : List ℕ) (start : Start) (s : State) (ok : Sound members start s) where
  abbrev line : List Write
  line = the_line start s

  -- the writes of a later epoch are its chosen head, which has the line
  later_long : (h : Head) → is_earlier ok.latest h.epoch ≡ true → IsOfEpoch s.chosen s.base s.log h → WritesHold start s.acts (writes_of s h.epoch) → length line ≤ length h.writes
  later_long h later is writes =
      omega (arith, whole, is.whole, front_length line (writes_of s h.epoch) (writes.near.more, writes.near.is))
    where
      none : s.log h.epoch ≡ []
      none = ok.line.idle h.epoch (ok.line.later_idle h.epoch later)

      whole : length (writes_of s h.epoch) ≡ length (s.base h.epoch)
      whole = ap (λ (l : List Write). length (s.base h.epoch ++ l)) none ∙ ap length (append-nil (s.base h.epoch))

  late_by : (h : Head) → IsOfEpoch s.chosen s.base s.log h → (is_earlier ok.latest h.epoch ≡ true) ⊎ ((ok.latest ≡ h.epoch) × (length line ≤ length h.writes)) → IsLate start s h
  late_by h is (inl later) =
      let writes = ok.line.writes h.epoch is.has_one (not_after ok.latest h.epoch later) in
      record { writes = writes; front = is.front; long = later_long h later is writes }
  late_by h is (inr same) = record {
    writes = ok.line.writes h.epoch is.has_one (subst (λ (e : Epoch). is_earlier e ok.latest ≡ false) same.0 (not_before_self ok.latest));
    front = is.front;
    long = same.1;
  }

  -- one of the closed replicas has the line, and the greatest head isn't below its
  pub late_head : (closed : ℕ → Bool) (source : ℕ) → IsBest members s closed source → IsLate start s (s.head source)
  late_head closed source best =
      let most : Majority members (λ r. closed r ≡ true) = record { those = closed; more_than_half = best.most; each = λ m h. h } in
      let one = shared ok.line.kept most in
      let last : Stamp = record { epoch = ok.latest; count = length line } in
      late_by (s.head source) (ok.heads.own source)
      (at_most_cases ok.latest (length line) (stamp_of (s.head source))
      (at_most_trans last (stamp_of (s.head one.0)) (stamp_of (s.head source)) one.1.0 (best.greatest one.0 one.2)))

-- ---- the next start

one_more : (m : ℕ) (ms : List ℕ) → count_by (λ (x : ℕ). true) (m ∷ ms) ≡ 1 + count_by (λ (x : ℕ). true) ms
one_more m ms = sum_by-cons (λ (x : ℕ). cond true 1 0) m ms

all_members : (ms : List ℕ) → count_by (λ (m : ℕ). true) ms ≡ length ms
all_members [] = refl
all_members (m ∷ ms) = omega (arith, one_more m ms, all_members ms)

split_near : (line ws more : List Write) → line ++ more ≡ ws → drop (length line) ws ≡ more
split_near line ws more is = ap (drop (length line)) (sym is) ∙ drop-append_seam line more

pub continues : (members next_members : List ℕ) (start : Start) (s : State) (closed : ℕ → Bool) (source : ℕ) (promised : ℕ → Epoch) (floor : ℕ) (old : List Body) → Sound members start s
    → IsBest members s closed source → 1 ≤ length next_members → ((r : ℕ) → is_earlier (promised r) (s.head source).epoch ≡ false)
    → Continues next_members start s source (next_start start s source promised floor old)
continues members next_members start s closed source promised floor old ok best some above =
    record {
      begins = record {
        at_most_one_open = few;
        different = subst (λ (l : List Write). AreDistinct (map name l)) (sym whole) distinct;
        kept = record {
          those = λ m. true;
          more_than_half = omega (arith, some, all_members next_members);
          each = λ m h. (late.long, above m);
        };
      };
      head = whole;
      near = few;
      issued = λ w h. late.writes.issued w (in_epoch w (subst (Has w) whole h));
    }
  where
    ws : List Write
    ws = (s.head source).writes

    late : IsLate start s (s.head source)
    late = late_head members start s ok closed source best

    near : IsNear (the_line start s) ws
    near = near_front (the_line start s) ws (writes_of s (s.head source).epoch) late.writes.near late.front late.long

    beyond : drop (length (the_line start s)) ws ≡ near.more
    beyond = split_near (the_line start s) ws near.more near.is

    few : length (drop (length (the_line start s)) ws) ≤ 1
    few = subst (λ (l : List Write). length l ≤ 1) (sym beyond) near.one

    whole : the_line start s ++ drop (length (the_line start s)) ws ≡ ws
    whole = ap (λ (l : List Write). the_line start s ++ l) beyond ∙ near.is

    in_epoch : (w : Write) → Has w ws → Has w (writes_of s (s.head source).epoch)
    in_epoch w h = subst (Has w) late.front.1 (has-left w ws late.front.0 h)

    distinct : AreDistinct (map name ws)
    distinct = front_distinct ws late.front.0 (writes_of s (s.head source).epoch) late.front.1 late.writes.distinct
      where
        names_left : (xs ys : List Write) → map name (xs ++ ys) ≡ map name xs ++ map name ys
        names_left [] ys = refl
        names_left (x ∷ xs) ys = ap (λ (l : List (ℕ × ℕ)). name x ∷ l) (names_left xs ys)

        front_distinct : (xs ys zs : List Write) → xs ++ ys ≡ zs → AreDistinct (map name zs) → AreDistinct (map name xs)
        front_distinct xs ys zs is d = distinct_front (map name xs) (map name ys) (subst AreDistinct (names_left xs ys) (subst (λ (l : List Write). AreDistinct (map name l)) (sym is) d))

pub history_continues : (members next_members : List ℕ) (start : Start) (moves : List Move) (closed : ℕ → Bool) (source : ℕ) (promised : ℕ → Epoch) (floor : ℕ) (old : List Body)
    → IsHistory every_rule members start moves → IsBest members (after_all (begin start) moves) closed source → 1 ≤ length next_members
    → ((r : ℕ) → is_earlier (promised r) ((after_all (begin start) moves).head source).epoch ≡ false)
    → Continues next_members start (after_all (begin start) moves) source (next_start start (after_all (begin start) moves) source promised floor old)
history_continues members next_members start moves closed source promised floor old history best some above =
    continues members next_members start (after_all (begin start) moves) closed source promised floor old (history_sound members start moves history) best some above
