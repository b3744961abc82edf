-- a member after one operation more
use Rattle.std.proofs.Common.{◌≡◌, ◌≢◌, ℕ, suc, ◌+◌, ◌*◌, ◌/◌, ◌%◌, ◌<◌, ◌≤◌, ◌⊎◌, inl, inr, true, false, List, [], ◌∷◌, ◌++◌, length, refl, ap, sym, ◌∙◌, subst, arith, if◌then◌else◌, Some, None}
use Rattle.std.specs.Prelude.{nat_lt}
use Rattle.std.proofs.lemmas.List.{map-append}
use Rattle.std.proofs.lemmas.Bool.{cases_lt, leb-false, ltb-false}
use Rattle.xt_base.specs.declared.TheConstants.{NO_OBJECT}
use Rattle.xt_base.specs.declared.ids.NodeId.{NodeId}
use Rattle.xt_base.specs.declared.ids.OpId.{OpId}
use Rattle.xt_base.specs.MemberList.{are_members}
use Rattle.xt_base.specs.Overlay.{overlay, cut_or_filled}
use Rattle.xt_messages.specs.declared.file.Session.{Session}
use Rattle.xt_messages.specs.declared.file.Op.{Op}
use Rattle.xt_messages.specs.declared.file.Op.TheVariants.{Read, Write, Truncate}
use Rattle.xt_messages.specs.declared.file.Update.{Update}
use Rattle.xt_messages.specs.declared.record.Record.TheVariants as kept
use Rattle.xt_protocol.specs.AskRows.{leaves_object}
use Rattle.xt_protocol.specs.Heads.{plain_stamp, session_of, with_session}
use Rattle.xt_protocol.specs.Writes.{written, truncated, update_of, too_far, is_old_epoch}
use Rattle.time_line.specs.Content.{place_of, content_after, content_from, content_of}
use Rattle.replica_safety.specs.Lists.{Has}
use Rattle.replica_safety.proofs.Lists.{has-append}
use Rattle.replica_runs.proofs.Bytes.{length-overlay, length-cut_or_filled}
use Rattle.replica_runs.proofs.Flat.{row_below}
use Rattle.replica_runs.proofs.Content.{by_equal, by_less}
use Rattle.xt_protocol.specs.declared.states.PlainActed.{PlainActed}
use Rattle.striped_safety.specs.Members.{Member, Lies, beyond, has_of, number_in, number_of}
use Rattle.striped_safety.specs.StripedWorld.{Setting, Asked, width_of, stripe_of, node_at, id_of, ops_of, Affects, StaysIn}
use Rattle.striped_safety.specs.After.{content_made, epoch_by, epoch_after, epoch_from, epoch_made, IsAfter, least_of, Rises, HasDone}
use Rattle.striped_safety.proofs.Shown.{lies_aside}
use Rattle.striped_safety.proofs.Updates.{old_after, write_lies, truncation_real, truncation_lies}
use Rattle.striped_safety.proofs.MemberRows.{Takes, limit_of, few_of}

-- ---- one operation more

content_more : (stripe : ℕ) (content : List ℕ) (xs : List Op) (op : Op) → content_from stripe content (xs ++ op ∷ []) ≡ content_after stripe (content_from stripe content xs) op
unfolding content_from
content_more stripe content [] op = refl
content_more stripe content (x ∷ xs) op = content_more stripe (content_after stripe content x) xs op

pub content_push : (s : Setting) (xs : List Asked) (a : Asked) → content_made s (xs ++ a ∷ []) ≡ content_after (stripe_of s) (content_made s xs) a.op
content_push s xs a = ap (content_of (stripe_of s)) (map-append (λ (x : Asked). x.op) xs (a ∷ [])) ∙ content_more (stripe_of s) [] (ops_of xs) a.op

epoch_more : (epoch : ℕ) (xs : List Asked) (a : Asked) → epoch_from epoch (xs ++ a ∷ []) ≡ epoch_after (epoch_from epoch xs) a
unfolding epoch_from
epoch_more epoch [] a = refl
epoch_more epoch (x ∷ xs) a = epoch_more (epoch_after epoch x) xs a

pub epoch_push : (xs : List Asked) (a : Asked) → epoch_made (xs ++ a ∷ []) ≡ epoch_after (epoch_made xs) a
epoch_push xs a = epoch_more 0 xs a

-- ---- sessions

here : (x : Session) (rest : List Session) → session_of (x ∷ rest) x.client.0 ≡ Some x
here x rest = by_equal (λ b. (if b then Some x else session_of rest x.client.0) ≡ Some x) x.client.0 x.client.0 (λ _. refl) (λ ne. absurd (ne refl))

skip : (x : Session) (rest : List Session) (c : ℕ) → x.client.0 ≢ c → session_of (x ∷ rest) c ≡ session_of rest c
skip x rest c ne = by_equal (λ b. (if b then Some x else session_of rest c) ≡ session_of rest c) x.client.0 c (λ e. absurd (ne e)) (λ _. refl)

session_put : (ss : List Session) (x : Session) → session_of (with_session ss x) x.client.0 ≡ Some x
session_put [] x = here x []
session_put (y ∷ ss) x = by_equal (λ b. session_of (if b then x ∷ ss else if nat_lt x.client.0 y.client.0 then x ∷ y ∷ ss else y ∷ with_session ss x) x.client.0 ≡ Some x) y.client.0 x.client.0
    (λ _. here x ss)
    (λ ne. by_less (λ b. session_of (if b then x ∷ y ∷ ss else y ∷ with_session ss x) x.client.0 ≡ Some x) x.client.0 y.client.0 (λ _. here x (y ∷ ss))
    (λ _. skip y (with_session ss x) x.client.0 ne ∙ session_put ss x))

-- ---- an operation that doesn't affect the member

abbrev pub Unaffected : ℕ → ℕ → Op → Type 0
Unaffected width place (Read object at len) = Unit {0}
Unaffected width place (Write object at bytes) = object % width ≢ place
Unaffected width place (Truncate size) = ⊥

inside_of : (stripe object at : ℕ) (bytes : List ℕ) → leaves_object stripe (Write object at bytes) ≡ false → at + length bytes ≤ stripe
inside_of stripe object at bytes allowed = ltb-false stripe (at + length bytes) allowed

-- what changes and what doesn't, by the content and the epoch
moved : (s : Setting) (xs ys : List Asked) (bound more place : ℕ) (m : Member) → IsAfter s xs bound place m → bound ≤ more
    → ((o : ℕ) → o % width_of s ≡ place → Lies (stripe_of s) (content_made s ys) o (has_of m o))
    → epoch_made ys ≡ epoch_made xs → length (content_made s xs) ≤ length (content_made s ys)
    → ((x : Asked) → Has x ys → Affects (width_of s) place x.op → x.number ≤ number_of m s.client.0) → IsAfter s ys more place m
moved s xs ys bound more place m is above lies epoch long had =
    let low = is.size in
    let top = is.top in
    record { old = is.old; lies = lies; epoch = is.epoch ∙ sym epoch; size = omega (arith, low, long); had = had; top = omega (arith, top, above) }

pub aside : (s : Setting) (xs : List Asked) (a : Asked) (bound more place : ℕ) (m : Member) → IsAfter s xs bound place m → bound ≤ more → StaysIn s a.op → Unaffected (width_of s) place a.op → IsAfter s (xs ++ a ∷ []) more place m
aside s xs a bound more place m is above allowed not = by_op a.op refl allowed not
  where
    ys : List Asked
    ys = xs ++ a ∷ []

    unaffected : (op : Op) → Unaffected (width_of s) place op → Affects (width_of s) place op → ⊥
    unaffected (Read object at len) u f = f
    unaffected (Write object at bytes) u f = u f
    unaffected (Truncate size) u f = u

    had : (x : Asked) → Has x (xs ++ a ∷ []) → Affects (width_of s) place x.op → x.number ≤ number_of m s.client.0
    had x has f = at (has-append x xs (a ∷ []) has)
      where
        at : Has x xs ⊎ Has x (a ∷ []) → x.number ≤ number_of m s.client.0
        at (inl h) = is.had x h f
        at (inr (inl e)) = absurd (unaffected a.op not (subst (λ (y : Asked). Affects (width_of s) place y.op) e f))
        at (inr (inr h)) = absurd h

    by_op : (op : Op) → a.op ≡ op → StaysIn s op → Unaffected (width_of s) place op → IsAfter s (xs ++ a ∷ []) more place m
    by_op (Read object at len) e allowed not =
        let content : content_made s (xs ++ a ∷ []) ≡ content_made s xs = content_push s xs a ∙ ap (content_after (stripe_of s) (content_made s xs)) e in
        let epoch : epoch_made (xs ++ a ∷ []) ≡ epoch_made xs = epoch_push xs a ∙ ap (epoch_by (epoch_made xs) a) e in
        moved s xs (xs ++ a ∷ []) bound more place m is above (λ o at. subst (λ c. Lies (stripe_of s) c o (has_of m o)) (sym content) (is.lies o at)) epoch
        (let long = ap length content in omega (arith, long)) had
    by_op (Write object at bytes) e allowed not =
        let content : content_made s (xs ++ a ∷ []) ≡ overlay (content_made s xs) (place_of (stripe_of s) object at) bytes = content_push s xs a ∙ ap (content_after (stripe_of s) (content_made s xs)) e in
        let epoch : epoch_made (xs ++ a ∷ []) ≡ epoch_made xs = epoch_push xs a ∙ ap (epoch_by (epoch_made xs) a) e in
        moved s xs (xs ++ a ∷ []) bound more place m is above
        (λ o at2. subst (λ c. Lies (stripe_of s) c o (has_of m o)) (sym content)
        (lies_aside (stripe_of s) object o at bytes (content_made s xs) (has_of m o) (inside_of (stripe_of s) object at bytes allowed) (λ same. not (ap (λ k. k % width_of s) (sym same) ∙ at2)) (is.lies o at2)))
        epoch
        (let long = ap length content ∙ length-overlay (content_made s xs) (place_of (stripe_of s) object at) bytes in omega (arith, long)) had
    by_op (Truncate size) e allowed not = absurd not

-- ---- an operation that the member does

some_update : {u v : Update} → Some u ≡ Some v → u ≡ v
some_update p = cc

-- an update leaves its own number
record Named (s : Setting) (m : Member) (a : Asked) (u : Update) : Type 0 where
  id : u.id ≡ id_of s a
  count : u.stamp.count ≡ m.head.stamp.count + 1

epoch_passed : (s : Setting) (m : Member) (a : Asked) (size : ℕ) → is_old_epoch m.head.mark a.epoch (Truncate size) ≡ false → m.head.mark.epoch < a.epoch
epoch_passed s m a size e = leb-false a.epoch m.head.mark.epoch e

far_write : (objects stripe object at : ℕ) (bytes : List ℕ) → too_far objects stripe (Write object at bytes) ≡ None → object < objects
far_write objects stripe object at bytes = by_less (λ b. (if b then None else Some object) ≡ None → object < objects) object objects (λ h _. h) (λ h e. absurd (cc))

far_truncate : (objects stripe size : ℕ) → too_far objects stripe (Truncate size) ≡ None → size ≤ objects * stripe
far_truncate objects stripe size = by_less (λ b. (if b then Some (size / stripe) else None) ≡ None → size ≤ objects * stripe) (objects * stripe) size (λ h e. absurd (cc)) (λ h _. h)

objects_up_to : (limit last stripe rest size : ℕ) → last * stripe + rest ≡ size → size ≤ limit * stripe → rest < stripe → last ≤ limit
objects_up_to limit last stripe rest size splits low less =
    elim (cases_lt limit last) as (λ w. last ≤ limit) [
      | inl l ↦ (let next : limit * stripe + stripe ≤ last * stripe = row_below limit last stripe l in absurd (omega arith))
      | inr l ↦ l
    ]

limit_low : (s : Setting) → are_members s.location.members ≡ true → limit_of s < NO_OBJECT
limit_low s members = let few = few_of s.location.members members in omega (arith, few)

-- it has done the operation
record Did (s : Setting) (done : List Asked) (next place : ℕ) (a : Asked) (m n : Member) (u : Update) : Type 0 where
  pub real : u.object ≤ NO_OBJECT
  pub lies : (o : ℕ) → o % width_of s ≡ place → Lies (stripe_of s) (content_made s (done ++ a ∷ [])) o (has_of n o)
  pub epoch : u.mark.epoch ≡ epoch_made (done ++ a ∷ [])
  pub size : u.mark.size ≤ length (content_made s (done ++ a ∷ []))
  pub reach : least_of (stripe_of s) a.op ≤ u.mark.size
  pub rises : Rises (epoch_made done) a a.op
  pub named : Named s m a u

module _ (s : Setting) (members : are_members s.location.members ≡ true) (some : 0 < s.location.stripe) (done : List Asked) (bound place : ℕ) (m : Member) (a : Asked) (is : IsAfter s done bound place m) where
  node : NodeId
  node = node_at s place

  abbrev with_update : Update → Member
  with_update u = beyond s.file (node_at s place) m (Some (kept.Update s.file u))

  did : (asked : Op) → a.op ≡ asked → StaysIn s asked → (u : Update) → update_of (stripe_of s) m.body m.head (plain_stamp (m.head.stamp.count + 1)) (id_of s a) a.epoch asked ≡ Some u
      → too_far (limit_of s) (stripe_of s) asked ≡ None → is_old_epoch m.head.mark a.epoch asked ≡ false → Did s done (suc a.number) place a m (with_update u) u
  did (Read object at len) e allowed u makes near newer = absurd (cc)
  did (Write object at bytes) e allowed u makes near newer =
      let content : content_made s (done ++ a ∷ []) ≡ overlay (content_made s done) (place_of (stripe_of s) object at) bytes = content_push s done a ∙ ap (content_after (stripe_of s) (content_made s done)) e in
      let epoch : epoch_made (done ++ a ∷ []) ≡ epoch_made done = epoch_push done a ∙ ap (epoch_by (epoch_made done) a) e in
      let long = ap length content ∙ length-overlay (content_made s done) (place_of (stripe_of s) object at) bytes in
      let same = some_update makes in
      let w = written (stripe_of s) m.body m.head (plain_stamp (m.head.stamp.count + 1)) (id_of s a) object at bytes in
      let low = limit_low s members in
      let is_low = far_write (limit_of s) (stripe_of s) object at bytes near in
      let before = is.size in
      subst (λ (v : Update). Did s done (suc a.number) place a m (with_update v) v) same
      (record {
        real = omega (arith, low, is_low);
        lies = λ o place_of_o. (
            subst (λ c. Lies (stripe_of s) c o (has_of (with_update w) o)) (sym content)
            (write_lies s.file (node_at s place) m (stripe_of s) (m.head.stamp.count + 1) (id_of s a) object at bytes (content_made s done) is.old (omega arith) (inside_of (stripe_of s) object at bytes allowed)
            (omega (arith, low, is_low)) o (is.lies o place_of_o))
            );
        epoch = is.epoch ∙ sym epoch;
        size = omega (arith, long, before);
        reach = subst (λ op. least_of (stripe_of s) op ≤ w.mark.size) (sym e) (omega arith);
        rises = subst (λ op. Rises (epoch_made done) a op) (sym e) tt;
        named = record { id = refl; count = refl };
      })
  did (Truncate size) e allowed u makes near newer =
      let content : content_made s (done ++ a ∷ []) ≡ cut_or_filled (content_made s done) size = content_push s done a ∙ ap (content_after (stripe_of s) (content_made s done)) e in
      let epoch : epoch_made (done ++ a ∷ []) ≡ a.epoch = epoch_push done a ∙ ap (epoch_by (epoch_made done) a) e in
      let long = ap length content ∙ length-cut_or_filled (content_made s done) size in
      let same = some_update makes in
      let t = truncated (stripe_of s) m.body m.head (plain_stamp (m.head.stamp.count + 1)) (id_of s a) a.epoch size in
      let low = limit_low s members in
      let splits : size / stripe_of s * stripe_of s + size % stripe_of s ≡ size = omega arith in
      let less : size % stripe_of s < stripe_of s = omega (arith, some) in
      let last = objects_up_to (limit_of s) (size / stripe_of s) (stripe_of s) (size % stripe_of s) size splits (far_truncate (limit_of s) (stripe_of s) size near) less in
      let rises = epoch_passed s m a size newer in
      let at_epoch = is.epoch in
      subst (λ (v : Update). Did s done (suc a.number) place a m (with_update v) v) same
      (record {
        real = truncation_real (stripe_of s) size some s.file (node_at s place) m (m.head.stamp.count + 1) (id_of s a) a.epoch is.old (omega arith) (omega (arith, low, last));
        lies = λ o place_of_o. (
            subst (λ c. Lies (stripe_of s) c o (has_of (with_update t) o)) (sym content)
            (truncation_lies (stripe_of s) size some s.file (node_at s place) m (m.head.stamp.count + 1) (id_of s a) a.epoch is.old (omega arith) (omega (arith, low, last)) (content_made s done) o (is.lies o place_of_o))
            );
        epoch = sym epoch;
        size = omega (arith, long);
        reach = subst (λ op. least_of (stripe_of s) op ≤ t.mark.size) (sym e) (omega arith);
        rises = subst (λ op. Rises (epoch_made done) a op) (sym e) (omega (arith, rises, at_epoch));
        named = record { id = refl; count = refl };
      })

  -- So the member is after it.
  pub does_next : StaysIn s a.op → bound ≤ a.number → (acted : PlainActed) → (takes : Takes s place m a acted) → HasDone s done (suc a.number) place a (with_update takes.update)
  does_next allowed above acted takes =
      let u = takes.update in
      let d = did a.op refl allowed u takes.makes takes.passed.near takes.passed.newer in
      let later = takes.passed.later in
      let client : u.id.client.0 ≡ s.client.0 = ap (λ (i : OpId). i.client.0) d.named.id in
      let number : u.id.number ≡ a.number = ap (λ (i : OpId). i.number) d.named.id in
      let put = session_put m.head.sessions (record { client = u.id.client; number = u.id.number; count = u.stamp.count }) in
      let last : number_of (with_update u) s.client.0 ≡ a.number = subst (λ c. number_in (session_of (with_update u).head.sessions c) ≡ u.id.number) client (ap number_in put) ∙ number in
      let count = d.named.count in
      record {
        affects = takes.owned;
        is_after =
            record {
              old = old_after s.file (node_at s place) m u is.old (omega (arith, count)) d.real;
              lies = d.lies;
              epoch = d.epoch;
              size = d.size;
              had = had last later;
              top = omega (arith, last);
            };
        reach = d.reach;
        rises = d.rises;
        last = last;
      }
    where
      had : number_of (with_update takes.update) s.client.0 ≡ a.number → number_of m s.client.0 < a.number → (x : Asked) → Has x (done ++ a ∷ []) → Affects (width_of s) place x.op → x.number ≤ number_of (with_update takes.update) s.client.0
      had last later x has f = at (has-append x done (a ∷ []) has)
        where
          at : Has x done ⊎ Has x (a ∷ []) → x.number ≤ number_of (with_update takes.update) s.client.0
          at (inl h) = let before = is.had x h f in omega (arith, before, last, later)
          at (inr (inl e)) = let same = ap (λ (y : Asked). y.number) e in omega (arith, same, last)
          at (inr (inr h)) = absurd h
