-- The dialogue with a peer that has promised the epoch ends: each exchange leaves fewer of them.
use Rattle.std.proofs.Common.{◌≡◌, ◌&&◌, ◌||◌, ℕ, suc, zero, ◌+◌, ◌≤◌, Bool, true, false, cond, List, [], ◌∷◌, ◌++◌, refl, sym, ap, subst, ◌∙◌, Option, Some, None, find, arith, true≢false}
use Rattle.std.specs.Prelude.{not}
use Rattle.std.specs.List.{sum_by}
use Rattle.std.proofs.lemmas.Bool.Decides.{nat_tests}
use Rattle.std.proofs.lemmas.List.Sums.{sum_by-cons}
use Rattle.xt_base.specs.declared.ids.Epoch.{Epoch}
use Rattle.xt_base.specs.declared.ids.Stamp.{Stamp}
use Rattle.xt_messages.specs.declared.file.FileHead.{FileHead}
use Rattle.xt_messages.specs.declared.file.ObjectVersion.{ObjectVersion}
use Rattle.xt_messages.specs.declared.message.Payload.TheVariants as payload
use Rattle.xt_messages.specs.declared.record.FileRow.{FileRow}
use Rattle.xt_messages.specs.declared.record.Record.TheVariants as kept
use Rattle.xt_protocol.specs.Stamps.{is_epoch, is_earlier, is_below, is_version, has_version, with_held, without_version}
use Rattle.xt_protocol.specs.Primaries.{fed, fed_next}
use Rattle.xt_protocol.specs.declared.states.Acted.{Acted}
use Rattle.xt_protocol.specs.ReplicaRows.{staged, headed, head_offered, head_taken, first_missing, as_promised, refused, behind, unanswered, only}
use Rattle.xt_protocol.proofs.Stamps.{version-equal, version-itself, has_version-with_held}
use Rattle.catch_up.specs.Exchanges.{Exchange, feeds, acknowledged, acts, goes_to, exchanges, left_of, exchanges_left, CatchesUp}

false_true : {A : Type 0} {b : Bool} → b ≡ true → b ≡ false → A
false_true p q = absurd (true≢false (sym p ∙ q))

not_true : (b : Bool) → not b ≡ true → b ≡ false
not_true true is = absurd cc
not_true false is = refl

not_false : (b : Bool) → not b ≡ false → b ≡ true
not_false true is = refl
not_false false is = absurd cc

-- ---- sums over versions

sums_less : (f g : ObjectVersion → ℕ) → ((w : ObjectVersion) → g w ≤ f w) → (vs : List ObjectVersion) → sum_by g vs ≤ sum_by f vs
sums_less f g less [] = omega arith
sums_less f g less (v ∷ vs) = omega (arith, less v, sums_less f g less vs, sum_by-cons f v vs, sum_by-cons g v vs)

-- less at a version that is found
found_less : (f g : ObjectVersion → ℕ) (p : ObjectVersion → Bool) → ((w : ObjectVersion) → g w ≤ f w) → (vs : List ObjectVersion) (v : ObjectVersion)
    → find p vs ≡ Some v → g v + 1 ≤ f v → sum_by g vs + 1 ≤ sum_by f vs
found_less f g p less [] v found here = absurd cc
found_less f g p less (x ∷ xs) v found here = at (p x) found (λ rest. found_less f g p less xs v rest here)
  where
    at : (b : Bool) → cond b (Some x) (find p xs) ≡ Some v → (find p xs ≡ Some v → sum_by g xs + 1 ≤ sum_by f xs) → sum_by g (x ∷ xs) + 1 ≤ sum_by f (x ∷ xs)
    at true is rest =
        let same : x ≡ v = cc in
        let below : g x + 1 ≤ f x = subst (λ (w : ObjectVersion). g w + 1 ≤ f w) (sym same) here in
        omega (arith, below, sums_less f g less xs, sum_by-cons f x xs, sum_by-cons g x xs)
    at false is rest = omega (arith, less x, rest is, sum_by-cons f x xs, sum_by-cons g x xs)

found_is : (p : ObjectVersion → Bool) (vs : List ObjectVersion) (v : ObjectVersion) → find p vs ≡ Some v → p v ≡ true
found_is p [] v found = absurd cc
found_is p (x ∷ xs) v found = at (p x) refl found (found_is p xs v)
  where
    at : (b : Bool) → p x ≡ b → cond b (Some x) (find p xs) ≡ Some v → (find p xs ≡ Some v → p v ≡ true) → p v ≡ true
    at true here is rest = let same : x ≡ v = cc in ap p (sym same) ∙ here
    at false here is rest = rest is

-- where none is found, one that is found by another test isn't it
none_is : (p q : ObjectVersion → Bool) (vs : List ObjectVersion) (v : ObjectVersion) → find p vs ≡ None → find q vs ≡ Some v → p v ≡ false
none_is p q [] v none found = absurd cc
none_is p q (x ∷ xs) v none found = at (p x) (q x) refl none found (none_is p q xs v)
  where
    at : (a b : Bool) → p x ≡ a → cond a (Some x) (find p xs) ≡ None → cond b (Some x) (find q xs) ≡ Some v → (find p xs ≡ None → find q xs ≡ Some v → p v ≡ false) → p v ≡ false
    at true b here is other rest = absurd cc
    at false true here is other rest = let same : x ≡ v = cc in ap p (sym same) ∙ here
    at false false here is other rest = rest is other

-- ---- what is known after an answer

same_held : (vs : List ObjectVersion) (v w : ObjectVersion) → is_version w v ≡ true → has_version vs w ≡ has_version vs v
same_held vs v w same = ap (has_version vs) (version-equal w v same)

hides : (a b : Bool) → (a ≡ true → b ≡ true) → b ≡ (a || b)
hides true b so = so refl
hides false b so = refl

known_without : (known : List ObjectVersion) (v w : ObjectVersion) → has_version (without_version known v) w ≡ (not (is_version v w) && has_version known w)
known_without [] v w = at (is_version v w)
  where
    at : (b : Bool) → false ≡ (not b && false)
    at true = refl
    at false = refl
known_without (x ∷ xs) v w = at (is_version v x) (is_version w x) (is_version v w) refl refl refl (known_without xs v w)
  where
    at : (a b c : Bool) → is_version v x ≡ a → is_version w x ≡ b → is_version v w ≡ c → has_version (without_version xs v) w ≡ (not c && has_version xs w)
        → has_version (cond (not a) (x ∷ without_version xs v) (without_version xs v)) w ≡ (not c && (b || has_version xs w))
    at true true true va wb vc rest = rest
    at true false true va wb vc rest = rest
    at true false false va wb vc rest = rest
    at false false c va wb vc rest = ap (λ (t : Bool). t || has_version (without_version xs v) w) wb ∙ rest
    at false true false va wb vc rest = ap (λ (t : Bool). t || has_version (without_version xs v) w) wb
    at true true false va wb vc rest = false_true (ap (is_version v) (version-equal w x wb) ∙ va) vc
    at false true true va wb vc rest = false_true (ap (is_version v) (sym (version-equal w x wb)) ∙ vc) va

-- ---- one exchange

itself : (e : Epoch) → is_earlier e e ≡ false
itself e = grind (arith, nat_tests)

one_epoch : (e : Epoch) → is_epoch e e ≡ true
one_epoch e = grind (arith, nat_tests)

module _ (body : ℕ → Stamp → List ℕ) (epoch : Epoch) (target : FileHead) where
  abbrev all_left : List ObjectVersion → List ObjectVersion → ℕ
  all_left known held = exchanges_left known held target

  -- the row of a message of the promised epoch
  in_promise : (file : _) (own : FileHead) (row : Acted) → own.promised ≡ epoch → as_promised file own epoch row ≡ row
  in_promise file own row is =
      ap (λ (e : Epoch). cond (is_earlier epoch e) (refused file own epoch) (cond (is_earlier e epoch) (behind file own epoch) row)) is
      ∙ ap (λ (b : Bool). cond b (refused file own epoch) (cond b (behind file own epoch) row)) (itself epoch)

  -- what the peer holds once a body is staged
  abbrev held_then : List ObjectVersion → ObjectVersion → Bool → List ObjectVersion
  held_then held v true = held
  held_then held v false = with_held held v

  abbrev row_then : FileRow → ObjectVersion → FileRow
  row_then row v = record row { held = held_then row.held v (has_version row.held v) }

  stages : (known : List ObjectVersion) (row : FileRow) (v : ObjectVersion) (bytes : List ℕ) → row.head.promised ≡ epoch
      → acts body epoch target known row (staged row.file row.head row.held epoch v.object v.version bytes) ≡ feeds (with_held known v) (row_then row v)
  unfolding staged
  stages known row v bytes is =
      let by : Bool → Acted = λ b.
      record { rec = cond b None (Some (kept.Stage row.file v.object v.version bytes)); answer = Some (payload.Staged row.file epoch v.object v.version) } in
      ap (acts body epoch target known row) (in_promise row.file row.head (by (has_version row.held v)) is) ∙ at (has_version row.held v)
    where
      at : (b : Bool) → acts body epoch target known row (record { rec = cond b None (Some (kept.Stage row.file v.object v.version bytes)); answer = Some (payload.Staged row.file epoch v.object v.version) })
          ≡ feeds (with_held known v) (record row { held = held_then row.held v b })
      at true = refl
      at false = refl

  then_holds : (held : List ObjectVersion) (v w : ObjectVersion) (b : Bool) → has_version held v ≡ b → has_version (held_then held v b) w ≡ (is_version w v || has_version held w)
  then_holds held v w true is = hides (is_version w v) (has_version held w) (λ same. same_held held v w same ∙ is)
  then_holds held v w false is = has_version-with_held held v w

  -- a body that is staged is known and held
  stage_less : (known held : List ObjectVersion) (v : ObjectVersion) → find (λ w. not (has_version known w)) target.versions ≡ Some v
      → all_left (with_held known v) (held_then held v (has_version held v)) + 1 ≤ all_left known held
  stage_less known held v found =
      found_less (λ w. left_of (has_version known w) (has_version held w)) (λ w. left_of (has_version (with_held known v) w) (has_version (held_then held v (has_version held v)) w))
      (λ w. not (has_version known w)) each target.versions v found at_it
    where
      of_both : (s k h k' h' : Bool) → k' ≡ (s || k) → h' ≡ (s || h) → left_of k' h' ≤ left_of k h
      of_both true k h k' h' p q = subst (λ (t : Bool). left_of t h' ≤ left_of k h) (sym p) (subst (λ (t : Bool). left_of true t ≤ left_of k h) (sym q) (omega arith))
      of_both false k h k' h' p q = subst (λ (t : Bool). left_of t h' ≤ left_of k h) (sym p) (subst (λ (t : Bool). left_of k t ≤ left_of k h) (sym q) (omega arith))

      each : (w : ObjectVersion) → left_of (has_version (with_held known v) w) (has_version (held_then held v (has_version held v)) w) ≤ left_of (has_version known w) (has_version held w)
      each w = of_both (is_version w v) _ _ _ _ (has_version-with_held known v w) (then_holds held v w (has_version held v) refl)

      new : (s k h k' h' : Bool) → s ≡ true → k ≡ false → k' ≡ (s || k) → h' ≡ (s || h) → left_of k' h' + 1 ≤ left_of k h
      new true false h k' h' is none p q = subst (λ (t : Bool). left_of t h' + 1 ≤ 1) (sym p) (subst (λ (t : Bool). left_of true t + 1 ≤ 1) (sym q) (omega arith))
      new true true h k' h' is none p q = absurd cc
      new false k h k' h' is none p q = absurd cc

      at_it : left_of (has_version (with_held known v) v) (has_version (held_then held v (has_version held v)) v) + 1 ≤ left_of (has_version known v) (has_version held v)
      at_it =
          new (is_version v v) _ _ _ _ (version-itself v) (not_true (has_version known v) (found_is (λ w. not (has_version known w)) target.versions v found)) (has_version-with_held known v v)
          (then_holds held v v (has_version held v) refl)

  -- a body that is missing isn't known any more
  miss_less : (known held : List ObjectVersion) (v : ObjectVersion) → find (λ w. not (has_version known w)) target.versions ≡ None
      → find (λ w. not (has_version held w)) target.versions ≡ Some v → all_left (without_version known v) held + 1 ≤ all_left known held
  miss_less known held v none found =
      found_less (λ w. left_of (has_version known w) (has_version held w)) (λ w. left_of (has_version (without_version known v) w) (has_version held w))
      (λ w. not (has_version held w)) each target.versions v found at_it
    where
      unheld : has_version held v ≡ false
      unheld = not_true (has_version held v) (found_is (λ w. not (has_version held w)) target.versions v found)

      of_both : (s k h k' : Bool) → (s ≡ true → h ≡ false) → k' ≡ (not s && k) → left_of k' h ≤ left_of k h
      of_both true k h k' so p =
          subst (λ (t : Bool). left_of k' t ≤ left_of k t) (sym (so refl)) (subst (λ (t : Bool). left_of t false ≤ left_of k false) (sym p) (at k))
        where
          at : (k : Bool) → 1 ≤ left_of k false
          at true = omega arith
          at false = omega arith
      of_both false k h k' so p = subst (λ (t : Bool). left_of t h ≤ left_of k h) (sym p) (omega arith)

      each : (w : ObjectVersion) → left_of (has_version (without_version known v) w) (has_version held w) ≤ left_of (has_version known w) (has_version held w)
      each w = of_both (is_version v w) _ _ _ (λ same. ap (has_version held) (sym (version-equal v w same)) ∙ unheld) (known_without known v w)

      gone : (s k h k' : Bool) → s ≡ true → k ≡ true → h ≡ false → k' ≡ (not s && k) → left_of k' h + 1 ≤ left_of k h
      gone true true false k' is there un p = subst (λ (t : Bool). left_of t false + 1 ≤ 2) (sym p) (omega arith)
      gone false k h k' is there un p = absurd cc
      gone true false h k' is there un p = absurd cc
      gone true true true k' is there un p = absurd cc

      at_it : left_of (has_version (without_version known v) v) (has_version held v) + 1 ≤ left_of (has_version known v) (has_version held v)
      at_it =
          gone (is_version v v) _ _ _ (version-itself v)
          (not_false (has_version known v) (none_is (λ w. not (has_version known w)) (λ w. not (has_version held w)) target.versions v none found)) unheld (known_without known v v)

  -- ---- all exchanges

  abbrev Acknowledges : ℕ → Exchange → Type 0
  Acknowledges k x = (after : FileRow) × (exchanges body epoch target k x ≡ acknowledged after)

  stays : (k : ℕ) (row : FileRow) → exchanges body epoch target k (acknowledged row) ≡ acknowledged row
  stays zero row = refl
  stays (suc k) row = stays k row

  fed_is : (known : List ObjectVersion) (o : Option ObjectVersion) → find (λ v. not (has_version known v)) target.versions ≡ o → fed body target known ≡ fed_next body target known o
  unfolding fed
  fed_is known o is = ap (fed_next body target known) is

  module _ (under : target.promised ≡ epoch) (stamped : target.stamp.epoch ≡ epoch) where
    of_it : (is_epoch target.promised epoch && is_epoch target.stamp.epoch epoch) ≡ true
    of_it =
        ap (λ (e : Epoch). is_epoch e epoch && is_epoch target.stamp.epoch epoch) under ∙ ap (λ (e : Epoch). is_epoch epoch epoch && is_epoch e epoch) stamped
        ∙ ap (λ (b : Bool). b && b) (one_epoch epoch)

    -- what comes of the head
    offers : (row : FileRow) → row.head.promised ≡ epoch → headed row.file row.head row.held epoch target ≡ head_offered row.file row.head row.held epoch target
    unfolding headed
    offers row is =
        let offered = head_offered row.file row.head row.held epoch target in
        ap (λ (b : Bool). cond b (as_promised row.file row.head epoch offered) unanswered) of_it ∙ in_promise row.file row.head offered is

    -- one exchange, where those after it end
    one : (k : ℕ) (known : List ObjectVersion) (row : FileRow) → row.head.promised ≡ epoch → all_left known row.held ≤ k
        → ((known : List ObjectVersion) (row : FileRow) → row.head.promised ≡ epoch → all_left known row.held + 1 ≤ k → Acknowledges k (feeds known row))
        → Acknowledges (suc k) (feeds known row)
    one k known row is few later = at (find (λ v. not (has_version known v)) target.versions) refl
      where
        go : (o : Option ObjectVersion) → find (λ v. not (has_version known v)) target.versions ≡ o → Acknowledges k (goes_to body epoch target known row (fed_next body target known o))
            → Acknowledges (suc k) (feeds known row)
        go o found done = subst (λ s. Acknowledges k (goes_to body epoch target known row s)) (sym (fed_is known o found)) done

        at : (o : Option ObjectVersion) → find (λ v. not (has_version known v)) target.versions ≡ o → Acknowledges (suc k) (feeds known row)
        at (Some v) found =
            let less = stage_less known row.held v found in
            go (Some v) found (subst (Acknowledges k) (sym (stages known row v (body v.object v.version) is)) (later (with_held known v) (row_then row v) is (omega arith)))
        at None none =
            go None none (subst (λ a. Acknowledges k (acts body epoch target known row a)) (sym (offers row is)) (offered (is_below row.head.stamp target.stamp)))
          where
            misses : (o : Option ObjectVersion) → find (λ v. not (has_version row.held v)) target.versions ≡ o → Acknowledges k (acts body epoch target known row (head_taken row.file epoch target o))
            misses None found = (record row { head = target }, stays k (record row { head = target }))
            misses (Some v) found = let less = miss_less known row.held v none found in later (without_version known v) row is (omega arith)

            offered : (b : Bool) → Acknowledges k (acts body epoch target known row (cond b (head_taken row.file epoch target (first_missing row.held target.versions)) (only (payload.Ack row.file target.stamp))))
            offered true = misses (first_missing row.held target.versions) refl
            offered false = (row, stays k row)

    ends_in : (k : ℕ) (known : List ObjectVersion) (row : FileRow) → row.head.promised ≡ epoch → all_left known row.held ≤ k → Acknowledges (suc k) (feeds known row)
    ends_in zero known row is few = one zero known row is few (λ known row is more. absurd (omega arith))
    ends_in (suc k) known row is few = one (suc k) known row is few (λ known row is more. ends_in k known row is (omega arith))

pub catches_up : CatchesUp
catches_up body epoch target known before of =
    let n = exchanges_left known before.held target in
    let done = ends_in body epoch target of.under of.stamped n known before of.promised (omega arith) in
    subst (λ (k : ℕ). (after : FileRow) × (exchanges body epoch target k (feeds known before) ≡ acknowledged after)) (let e : suc n ≡ n + 1 = omega arith in e) done
