-- what a member has of its objects once it keeps an update
use Rattle.std.proofs.Common.{◌≡◌, ◌≢◌, ℕ, ◌+◌, ◌*◌, ◌/◌, ◌%◌, ◌<◌, ◌≤◌, ◌⊎◌, inl, inr, Bool, true, false, List, [], length, take, drop, refl, ap, sym, ◌∙◌, subst, arith, take_all, ◌==◌, if◌then◌else◌, ◌&&◌, cond, Option, Some, None}
use Rattle.std.specs.Prelude.{nat_lt, not}
use Rattle.std.proofs.lemmas.Bool.Decides.{nat_tests}
use Rattle.std.proofs.lemmas.Bool.{cases_eq, cases_lt, eqb-true, ltb-true, ltb-false}
use Rattle.xt_base.specs.declared.ids.Epoch.{Epoch}
use Rattle.xt_base.specs.declared.ids.Stamp.{Stamp}
use Rattle.xt_base.specs.declared.ids.FileId.{FileId}
use Rattle.xt_base.specs.declared.ids.NodeId.{NodeId}
use Rattle.xt_base.specs.declared.TheConstants.{NO_OBJECT}
use Rattle.xt_messages.specs.declared.file.FileHead.{FileHead}
use Rattle.xt_messages.specs.declared.file.Update.{Update}
use Rattle.xt_messages.specs.declared.record.Record.TheVariants as kept
use Rattle.xt_protocol.specs.FileIds.{is_file}
use Rattle.xt_protocol.specs.Stamps.{is_stamp, is_epoch}
use Rattle.xt_protocol.specs.Folds.{makes_body}
use Rattle.xt_protocol.specs.Heads.{version_of}
use Rattle.xt_protocol.specs.Objects.{present_body}
use Rattle.xt_protocol.specs.PrimaryRows.{newer_body}
use Rattle.replica_runs.specs.Made.{bodies_after}
use Rattle.replica_runs.proofs.Content.{by_equal, by_less, at_object, kept, dropped}
use Rattle.replica_runs.proofs.Tools.{by_test, both_true, true_false}
use Rattle.replica_runs.proofs.Versions.{version_next, version_here, version_none}
use Rattle.xt_protocol.proofs.Stamps.{stamp-equal}
use Rattle.xt_protocol.proofs.Folds.{file-itself}
use Rattle.xt_protocol.specs.Heads.{plain_stamp}
use Rattle.xt_base.specs.declared.ids.OpId.{OpId}
use Rattle.xt_base.specs.Overlay.{overlay, cut_or_filled}
use Rattle.time_line.specs.Content.{place_of}
use Rattle.xt_protocol.specs.Writes.{written, truncated, cuts_body}
use Rattle.striped_safety.proofs.Shown.{lies_aside, lies_written, lies_below, lies_cut, lies_gone}
use Rattle.striped_safety.specs.Members.{Member, beyond, has_of, Lies}
use Rattle.striped_safety.specs.After.{AreOld}

some_stamp : {a b : Stamp} → Some a ≡ Some b → a ≡ b
some_stamp p = cc

last_true : (a b c : Bool) → (a && b && c) ≡ true → c ≡ true
last_true true true c h = h
last_true true false c h = absurd (cc)
last_true false true c h = absurd (cc)
last_true false false c h = absurd (cc)

other_stamp : (a b : Stamp) → b.count < a.count → is_stamp a b ≡ false
other_stamp a b low = by_test (λ t. is_stamp a b ≡ t → is_stamp a b ≡ false) (is_stamp a b) (λ e _. absurd (let same = ap (λ (v : Stamp). v.count) (stamp-equal a b e) in omega (arith, same, low))) (λ e _. e) refl

put_none : (before bytes : List ℕ) (t : Bool) → t ≡ false → newer_body before (if t then Some bytes else None) ≡ before
put_none before bytes true e = true_false refl e
put_none before bytes false e = refl

put_here : (before bytes : List ℕ) (t : Bool) → t ≡ true → newer_body before (if t then Some bytes else None) ≡ bytes
put_here before bytes true e = refl
put_here before bytes false e = true_false e refl

both_none : (a b : Bool) → (b ≡ true → ⊥) → (a && b) ≡ false
both_none true true h = absurd (h refl)
both_none true false h = refl
both_none false b h = refl

all_three : (a b c : Bool) → a ≡ true → b ≡ true → c ≡ true → (a && b && c) ≡ true
all_three a b c p q r = rw (p, q, r) refl

equal_self : (n : ℕ) → (n == n) ≡ true
equal_self n = grind (arith, nat_tests)

not_equal : (a b : ℕ) → a ≢ b → (a == b) ≡ false
not_equal a b ne = by_equal (λ t. (a == b) ≡ t → (a == b) ≡ false) a b (λ e _. absurd (ne e)) (λ _ e. e) refl

epoch_self : (e : Epoch) → is_epoch e e ≡ true
epoch_self e = grind (arith, nat_tests)

stamp_self : (v : Stamp) → is_stamp v v ≡ true
stamp_self v = grind (arith, nat_tests)

-- nothing is there of the number that stands for no object
unnamed : (head : FileHead) → AreOld head → (o : ℕ) → NO_OBJECT ≤ o → version_of head.versions o ≡ None
unnamed head old o far = at (version_of head.versions o) refl
  where
    at : (v : Option Stamp) → version_of head.versions o ≡ v → version_of head.versions o ≡ None
    at None e = e
    at (Some v) e = absurd (let low = (old o v e).0 in omega (arith, far, low))

has_none : (m : Member) → AreOld m.head → (o : ℕ) → NO_OBJECT ≤ o → has_of m o ≡ []
has_none m old o far = ap (λ (v : Option Stamp). present_body m.body v o) (unnamed m.head old o far)

module _ (file : FileId) (node : NodeId) (m : Member) (u : Update) (old : AreOld m.head) (newer : m.head.stamp.count < u.stamp.count) (real : u.object ≤ NO_OBJECT) where
  abbrev after : Member
  after = beyond file node m (Some (kept.Update file u))

  same_body : (o : ℕ) (v : Stamp) → v.count ≤ m.head.stamp.count → after.body o v ≡ m.body o v
  same_body o v low =
      put_none (m.body o v) u.body (is_file file file && makes_body u o v)
      (both_none (is_file file file) (makes_body u o v)
      (λ e. true_false (last_true (not (u.object == NO_OBJECT)) (u.object == o) (is_stamp u.stamp v) e) (other_stamp u.stamp v (omega (arith, low, newer)))))

  new_body : u.object ≢ NO_OBJECT → after.body u.object u.stamp ≡ u.body
  new_body own =
      put_here (m.body u.object u.stamp) u.body (is_file file file && makes_body u u.object u.stamp)
      (rw (file-itself file)
      (all_three (not (u.object == NO_OBJECT)) (u.object == u.object) (is_stamp u.stamp u.stamp) (ap not (not_equal u.object NO_OBJECT own)) (equal_self u.object) (stamp_self u.stamp)))

  same_present : (o : ℕ) (v : Option Stamp) → ((s : Stamp) → v ≡ Some s → s.count ≤ m.head.stamp.count) → present_body after.body v o ≡ present_body m.body v o
  same_present o None low = refl
  same_present o (Some s) low = same_body o s (low s refl)

  -- its versions are of objects, and of counts that it has passed
  pub old_after : AreOld after.head
  old_after o v is =
      elim (cases_eq o u.object) as (λ w. (o < NO_OBJECT) × (v.count ≤ u.stamp.count)) [
        | inl e ↦ own e (cases_eq u.object NO_OBJECT)
        | inr ne ↦
            by_less (λ t. (if t then version_of m.head.versions o else None) ≡ Some v → (o < NO_OBJECT) × (v.count ≤ u.stamp.count)) o u.drop_from
            (λ l e. (let before = old o v e in (before.0, omega (arith, before.1, newer))))
            (λ l e. absurd cc)
            (sym (version_next m.head.versions u o ne) ∙ is)
      ]
    where
      own : o ≡ u.object → (u.object ≡ NO_OBJECT) ⊎ (u.object ≢ NO_OBJECT) → (o < NO_OBJECT) × (v.count ≤ u.stamp.count)
      own e (inl none) =
          let no_version = version_none m.head.versions u (unnamed m.head old NO_OBJECT (omega arith)) in
          absurd (let differ : None ≡ Some v = sym no_version ∙ subst (λ k. version_of after.head.versions k ≡ Some v) (e ∙ none) is in cc)
      own e (inr some) =
          let same = some_stamp (sym (subst (λ k. version_of after.head.versions k ≡ Some v) e is) ∙ version_here m.head.versions u some) in
          let counts = ap (λ (s : Stamp). s.count) same in
          (omega (arith, e, real, some), omega (arith, counts))

  -- object by object
  pub has_after : (u.object ≡ NO_OBJECT → u.body ≡ []) → (o : ℕ) → has_of after o ≡ bodies_after (has_of m) u o
  has_after empty o =
      elim (cases_eq o u.object) as (λ w. has_of after o ≡ bodies_after (has_of m) u o) [
        | inl e ↦ own e (cases_eq u.object NO_OBJECT) ∙ sym (at_object (has_of m) u o e)
        | inr ne ↦
            (ap (λ (v : Option Stamp). present_body after.body v o) (version_next m.head.versions u o ne)
            ∙ by_less (λ t. present_body after.body (if t then version_of m.head.versions o else None) o ≡ bodies_after (has_of m) u o) o u.drop_from
            (λ l. same_present o (version_of m.head.versions o) (λ s e. (old o s e).1) ∙ sym (kept_there o ne l))
            (λ l. sym (dropped (has_of m) u o ne l)))
      ]
    where
      kept_there : (o : ℕ) → o ≢ u.object → o < u.drop_from → bodies_after (has_of m) u o ≡ has_of m o
      kept_there = kept (has_of m) u

      own : o ≡ u.object → (u.object ≡ NO_OBJECT) ⊎ (u.object ≢ NO_OBJECT) → has_of after o ≡ u.body
      own e (inl none) = has_none after old_after o (omega (arith, e, none)) ∙ sym (empty none)
      own e (inr some) = ap (has_of after) e ∙ ap (λ (v : Option Stamp). present_body after.body v u.object) (version_here m.head.versions u some) ∙ new_body some

-- ---- writes

-- what lies at a member, once it keeps a write into one of its objects
pub write_lies : (file : FileId) (node : NodeId) (m : Member) (stripe : ℕ) (count : ℕ) (id : OpId) (object at : ℕ) (bytes content : List ℕ) → AreOld m.head → m.head.stamp.count < count → at + length bytes ≤ stripe
    → object < NO_OBJECT → (o : ℕ) → Lies stripe content o (has_of m o)
    → Lies stripe (overlay content (place_of stripe object at) bytes) o (has_of (beyond file node m (Some (kept.Update file (written stripe m.body m.head (plain_stamp count) id object at bytes)))) o)
write_lies file node m stripe count id object at bytes content old newer fits low o lies =
    let u = written stripe m.body m.head (plain_stamp count) id object at bytes in
    subst (Lies stripe (overlay content (place_of stripe object at) bytes) o) (sym (has_after file node m u old newer (omega (arith, low)) (λ e. absurd (omega (arith, low, e))) o))
    (elim (cases_eq o object) as (λ w. Lies stripe (overlay content (place_of stripe object at) bytes) o (bodies_after (has_of m) u o)) [
      | inl e ↦
          subst (Lies stripe (overlay content (place_of stripe object at) bytes) o) (sym (at_object (has_of m) u o e))
          (subst (λ k. Lies stripe (overlay content (place_of stripe object at) bytes) k (overlay (has_of m object) at bytes)) (sym e)
          (lies_written stripe object at bytes content (has_of m object) fits (subst (λ k. Lies stripe content k (has_of m k)) e lies)))
      | inr ne ↦
          subst (Lies stripe (overlay content (place_of stripe object at) bytes) o) (sym (same ne (cases_lt o NO_OBJECT)))
          (lies_aside stripe object o at bytes content (has_of m o) fits ne lies)
    ])
  where
    same : o ≢ object → (o < NO_OBJECT) ⊎ (NO_OBJECT ≤ o) → bodies_after (has_of m) (written stripe m.body m.head (plain_stamp count) id object at bytes) o ≡ has_of m o
    same ne (inl l) = kept (has_of m) (written stripe m.body m.head (plain_stamp count) id object at bytes) o ne l
    same ne (inr far) = dropped (has_of m) (written stripe m.body m.head (plain_stamp count) id object at bytes) o ne far ∙ sym (has_none m old o far)

-- ---- truncations

module _ (stripe size : ℕ) (some : 0 < stripe) where
  abbrev last : ℕ
  last = size / stripe

  abbrev rest : ℕ
  rest = size % stripe

  splits : last * stripe + rest ≡ size
  splits = omega arith

  less : rest < stripe
  less = omega arith

  take_short : (bytes : List ℕ) → length bytes ≤ rest → take rest bytes ≡ bytes
  take_short bytes h = take_all rest bytes h

  -- what becomes of an object
  record CutOf (bodies others : ℕ → List ℕ) (o : ℕ) : Type 0 where
    below : o < last → others o ≡ bodies o
    here : o ≡ last → others o ≡ take rest (bodies o)
    above : last < o → others o ≡ []

  none_left : (bytes : List ℕ) → rest ≡ 0 → [] ≡ take rest bytes
  none_left bytes h = rw h refl

  module _ (file : FileId) (node : NodeId) (m : Member) (count : ℕ) (id : OpId) (epoch : ℕ) (old : AreOld m.head) (newer : m.head.stamp.count < count) (low : last < NO_OBJECT) where
    abbrev u : Update
    u = truncated stripe m.body m.head (plain_stamp count) id epoch size

    abbrev before : List ℕ
    before = has_of m (size / stripe)

    gone : (bodies : ℕ → List ℕ) (v : Update) (o : ℕ) → (o ≡ v.object → bodies_after bodies v o ≡ []) → v.drop_from ≤ o → bodies_after bodies v o ≡ []
    gone bodies v o empty l =
        elim (cases_eq o v.object) as (λ w. bodies_after bodies v o ≡ []) [
          | inl e ↦ empty e
          | inr ne ↦ dropped bodies v o ne l
        ]

    -- by whether there is a rest, and whether the last body is longer than that
    cut_of : (bodies : ℕ → List ℕ) (o : ℕ) → (drop object : ℕ) (body : List ℕ) → (even longer : Bool) → (rest == 0) ≡ even → (nat_lt 0 rest && nat_lt rest (length (bodies last))) ≡ longer
        → drop ≡ cond even last (last + 1) → object ≡ cond longer last NO_OBJECT → body ≡ cond longer (take rest (bodies last)) []
        → ((x : ℕ) → x ≡ object → bodies_after bodies (record u { drop_from = drop; object = object; body = body }) x ≡ body)
        → CutOf bodies (bodies_after bodies (record u { drop_from = drop; object = object; body = body })) o
    cut_of bodies o drop object body true true e l d b y own = absurd (positive e l)
      where
        positive : (rest == 0) ≡ true → (nat_lt 0 rest && nat_lt rest (length (bodies last))) ≡ true → ⊥
        positive e l = let p = both_true (nat_lt 0 rest) (nat_lt rest (length (bodies last))) l in let more = ltb-true 0 rest p.0 in let zero = eqb-true rest 0 e in omega (arith, more, zero)
    cut_of bodies o drop object body true false e l d b y own =
        let v : Update = record u { drop_from = drop; object = object; body = body } in
        let zero = eqb-true rest 0 e in
        record {
          below = λ h. kept bodies v o (λ s. absurd (omega (arith, s, b, h, low))) (omega (arith, d, h));
          here = λ s. dropped bodies v o (λ s2. absurd (omega (arith, s, s2, b, low))) (omega (arith, d, s)) ∙ none_left (bodies o) zero;
          above = λ h. gone bodies v o (λ e. own o e ∙ y) (omega (arith, d, h));
        }
    cut_of bodies o drop object body false true e l d b y own =
        let v : Update = record u { drop_from = drop; object = object; body = body } in
        record {
          below = λ h. kept bodies v o (λ s. absurd (omega (arith, s, b, h))) (omega (arith, d, h));
          here = λ s. own o (s ∙ sym b) ∙ y ∙ ap (λ (k : ℕ). take rest (bodies k)) (sym s);
          above = λ h. dropped bodies v o (λ s2. absurd (omega (arith, s2, b, h))) (omega (arith, d, h));
        }
    cut_of bodies o drop object body false false e l d b y own =
        let v : Update = record u { drop_from = drop; object = object; body = body } in
        record {
          below = λ h. kept bodies v o (λ s. absurd (omega (arith, s, b, h, low))) (omega (arith, d, h));
          here = λ s. kept bodies v o (λ s2. absurd (omega (arith, s, s2, b, low))) (omega (arith, d, s)) ∙ sym (ap (λ (k : ℕ). take rest (bodies k)) s ∙ take_short (bodies last) short ∙ ap bodies (sym s));
          above = λ h. gone bodies v o (λ e. own o e ∙ y) (omega (arith, d, h));
        }
      where
        short : length (bodies last) ≤ rest
        short = by_test (λ t. nat_lt 0 rest ≡ t → length (bodies last) ≤ rest) (nat_lt 0 rest)
            (λ p _. by_test (λ t. nat_lt rest (length (bodies last)) ≡ t → length (bodies last) ≤ rest) (nat_lt rest (length (bodies last)))
            (λ q _. true_false (all_both (nat_lt 0 rest) (nat_lt rest (length (bodies last))) p q) l) (λ q _. ltb-false rest (length (bodies last)) q) refl)
            (λ p _. absurd (let least = ltb-false 0 rest p in not_zero (omega (arith, least)) e)) refl
          where
            all_both : (a b : Bool) → a ≡ true → b ≡ true → (a && b) ≡ true
            all_both a b p q = rw (p, q) refl

            not_zero : rest ≡ 0 → (rest == 0) ≡ false → ⊥
            not_zero p q = true_false (subst (λ (n : ℕ). (n == 0) ≡ true) (sym p) refl) q

    -- the truncation is of an object, or of none and then without a body
    pub truncation_real : u.object ≤ NO_OBJECT
    truncation_real = by_test (λ t. (if t then last else NO_OBJECT) ≤ NO_OBJECT) (cuts_body stripe size before) (λ _. omega (arith, low)) (λ _. omega arith)

    empty : u.object ≡ NO_OBJECT → u.body ≡ []
    empty = by_test (λ t. (if t then last else NO_OBJECT) ≡ NO_OBJECT → (if t then take rest before else []) ≡ []) (cuts_body stripe size before) (λ _ e. absurd (omega (arith, low, e))) (λ _ _. refl)

    -- what lies at a member, once it keeps a truncation
    pub truncation_lies : (content : List ℕ) (o : ℕ) → Lies stripe content o (has_of m o)
        → Lies stripe (cut_or_filled content size) o (has_of (beyond file node m (Some (kept.Update file u))) o)
    truncation_lies content o lies =
        let cut = cut_of (has_of m) o u.drop_from u.object u.body (size % stripe == 0) (cuts_body stripe size before) refl refl refl refl refl (λ x e. at_object (has_of m) u x e) in
        subst (Lies stripe (cut_or_filled content size) o) (sym (has_after file node m u old newer truncation_real empty o))
        (elim (cases_lt o last) as (λ w. Lies stripe (cut_or_filled content size) o (bodies_after (has_of m) u o)) [
          | inl h ↦ subst (Lies stripe (cut_or_filled content size) o) (sym (cut.below h)) (lies_below stripe last rest size o content (has_of m o) splits h lies)
          | inr h ↦
              (elim (cases_eq o last) as (λ w. Lies stripe (cut_or_filled content size) o (bodies_after (has_of m) u o)) [
                | inl e ↦
                    subst (Lies stripe (cut_or_filled content size) o) (sym (cut.here e))
                    (subst (λ k. Lies stripe (cut_or_filled content size) k (take rest (has_of m k))) (sym e) (lies_cut stripe last rest size content (has_of m last) splits less (subst (λ k. Lies stripe content k (has_of m k)) e lies)))
                | inr ne ↦ (let more : last < o = omega arith in subst (Lies stripe (cut_or_filled content size) o) (sym (cut.above more)) (lies_gone stripe last rest size o content splits less more))
              ])
        ])
