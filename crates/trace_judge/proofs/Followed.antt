-- The code goes on keeping what the pass keeps.
use Rattle.std.proofs.Common.{◌≡◌, ◌∙◌, ℕ, Bool, true, false, List, Option, Some, None, refl, sym, ap, subst, true≢false}
use Rattle.std.specs.Prelude.{◌&&◌, ◌||◌, not, option_map}
use Rattle.std.specs.Ordering.{nat_cmp}
use Rattle.std.specs.Option.{option_or}
use Rattle.std.specs.BTreeMap.{get}
use Rattle.xt_base.specs.declared.ids.NodeId.{NodeId}
use Rattle.xt_base.specs.declared.ids.OpId.{OpId}
use Rattle.xt_messages.specs.declared.event.Call.{Call}
use Rattle.time_line.specs.declared.entry.Entry.{Entry}
use Rattle.time_line.specs.declared.entry.Entry.TheVariants as entry
use Rattle.time_line.specs.TimeLine as line
use Rattle.time_line.specs.TimeLine.{RunningBoot, standing_after, holds_as, call_begun, claim_on, operation_on, order_by}
use Rattle.time_line.specs.Clauses.{acts_on}
use Rattle.time_line.specs.Verdicts.{apart, acting, one_order, once, shown, fresh}
use Rattle.judging.specs.Pass as pass
use Rattle.judging.specs.Pass.{Kept, after, looked_at, fits_apart, holder_after, fits_acting, fits_order, fits_once, fits_shown, fits_end, fits_begin, fits, answer_on, ok_told, is_told, is_answer, is_end, content_by}
use Rattle.sparse_bytes.specs.Sparse.{Tells}
use Rattle.trace_judge.specs.declared.told.Claim.{Claim}
use Rattle.trace_judge.specs.declared.told.Answer.{Answer}
use Rattle.trace_judge.specs.declared.kept.Says.{Says}
use Rattle.trace_judge.specs.declared.kept.Judging.{Judging}
use Rattle.trace_judge.specs.Short.{TellsStanding, ticks_after, reading_after, holds_at}
use Rattle.trace_judge.specs.Rows.{IsSetOf, Told, call_in, has_id, has_answer, id_told}
use Rattle.trace_judge.specs.Views.{claim_of, answer_of, content_then, ends_well, begins_well, shown_by}
use Rattle.trace_judge.specs.Following.{Follows}
use Rattle.trace_judge.proofs.Clocks.{readings_tell}

-- what the calls of a step say
pub record IsTaken (j l : Judging) (e : Entry) (claim : Option Claim) (answer end : Option Answer) (s : Says) : Type 0 where
  pub claim_is : option_map claim_of claim ≡ claim_on j.leases.readings.file e
  pub answer_is : option_map answer_of answer ≡ answer_on j.leases.readings.file e
  pub end_is : option_map answer_of end ≡ ok_told e
  pub acting_is : s.acting ≡ fits_acting (acts_on j.leases.readings.file e) (λ n. holds_at j.leases.drift j.leases.readings.ticks (get nat_cmp j.leases.readings.rows n.0))
  pub fresh_is : s.fresh ≡ (ends_well j.leases.readings.file (λ id. call_in j.calls.rows id) j.answers.set end && begins_well j.leases.readings.file (λ id. call_in j.calls.rows id) (λ id. has_id j.ended.set id) e)
  pub shown_is : (content : List ℕ) → Tells j.writes.content.size j.writes.content.written content
      → s.shown ≡ shown_by j.writes.stripe j.leases.readings.file j.writes.order.ids.items content (λ id. call_in j.calls.rows id) (option_map answer_of answer)
  pub ids : l.writes.order.ids.items ≡ order_by j.writes.order.ids.items (option_map claim_of claim)
  pub set : IsSetOf j.writes.order.set.set j.writes.order.ids.items → IsSetOf l.writes.order.set.set l.writes.order.ids.items
  pub order_is : s.one_order ≡ fits_order j.writes.order.ids.items (option_map claim_of claim)
  pub once_is : IsSetOf j.writes.order.set.set j.writes.order.ids.items
      → s.once ≡ fits_once j.leases.readings.file j.writes.order.ids.items (λ id. call_in j.calls.rows id) (option_map claim_of claim)
  pub content : j.says.once ≡ true → s.once ≡ true → (bytes : List ℕ) → Tells j.writes.content.size j.writes.content.written bytes
      → Tells l.writes.content.size l.writes.content.written (content_then j.writes.stripe j.leases.readings.file j.writes.order.ids.items (λ id. call_in j.calls.rows id) bytes (option_map claim_of claim))
  pub answers : (told : Told)
      → has_answer l.answers.set told ≡ (has_answer j.answers.set told || (is_answer (id_told told) told.1.0 told.1.1.now (option_map answer_of answer) && is_told (operation_on j.leases.readings.file (call_in j.calls.rows (id_told told)))))
  pub ended : (id : OpId) → has_id l.ended.set id ≡ (has_id j.ended.set id || is_end id (option_map answer_of end))
  pub calls : (id : OpId) → call_in l.calls.rows id ≡ option_or (call_in j.calls.rows id) (call_begun id e)
  pub ticks : l.leases.readings.ticks ≡ ticks_after j.leases.readings.ticks e
  pub rows : (n : NodeId) → get nat_cmp l.leases.readings.rows n.0 ≡ reading_after n j.leases.readings.file j.leases.readings.ticks (get nat_cmp j.leases.readings.rows n.0) e
  pub apart_is : s.apart ≡ fits_apart j.leases.holder (looked_at j.leases.readings.file e) (λ n. holds_at j.leases.drift l.leases.readings.ticks (get nat_cmp l.leases.readings.rows n.0))
  pub holder : l.leases.holder ≡ holder_after j.leases.holder (looked_at j.leases.readings.file e) (λ n. holds_at j.leases.drift l.leases.readings.ticks (get nat_cmp l.leases.readings.rows n.0))
  pub says_apart : l.says.apart ≡ (j.says.apart && s.apart)
  pub says_acting : l.says.acting ≡ (j.says.acting && s.acting)
  pub says_order : l.says.one_order ≡ (j.says.one_order && s.one_order)
  pub says_once : l.says.once ≡ (j.says.once && s.once)
  pub says_shown : l.says.shown ≡ (j.says.shown && s.shown)
  pub says_fresh : l.says.fresh ≡ (j.says.fresh && s.fresh)

and_left : (x y : Bool) → (x && y) ≡ true → x ≡ true
and_left true y is = refl
and_left false y is = is

and_right : (x y : Bool) → (x && y) ≡ true → y ≡ true
and_right true y is = is
and_right false y is = absurd (true≢false (sym is))

both : (a b c d : Bool) → a ≡ c → b ≡ d → (a && b) ≡ (c && d)
both a b c d p q = ap (λ x. x && b) p ∙ ap (λ x. c && x) q

either : (a b c d : Bool) → a ≡ c → b ≡ d → (a || b) ≡ (c || d)
either a b c d p q = ap (λ x. x || b) p ∙ ap (λ x. c || x) q

module _ (k : Kept) (j l : Judging) (e : Entry) (claim : Option Claim) (answer end : Option Answer) (s : Says) (f : Follows k j) (t : IsTaken j l e claim answer end s) where
  calls_are : ◌≡◌ {A = OpId → Option Call} (λ id. call_in j.calls.rows id) k.calls
  calls_are = λ i id. f.calls id i

  ended_are : ◌≡◌ {A = OpId → Bool} (λ id. has_id j.ended.set id) k.ended
  ended_are = λ i id. f.ended id i

  stands : (n : NodeId) → TellsStanding l.leases.readings.ticks (get nat_cmp l.leases.readings.rows n.0) (standing_after n j.leases.readings.file (k.stands n) e)
  stands n =
      subst (λ (r : Option _). TellsStanding l.leases.readings.ticks r (standing_after n j.leases.readings.file (k.stands n) e)) (sym (t.rows n))
      (subst (λ (ticks : ℕ). TellsStanding ticks (reading_after n j.leases.readings.file j.leases.readings.ticks (get nat_cmp j.leases.readings.rows n.0) e) (standing_after n j.leases.readings.file (k.stands n) e)) (sym t.ticks)
      (readings_tell.more n j.leases.readings.file j.leases.readings.ticks (get nat_cmp j.leases.readings.rows n.0) (k.stands n) e (f.stands n)))

  held : ◌≡◌ {A = NodeId → Bool} (λ n. holds_at j.leases.drift j.leases.readings.ticks (get nat_cmp j.leases.readings.rows n.0)) (λ n. holds_as j.leases.drift (k.stands n))
  held = readings_tell.all_hold j.leases.drift j.leases.readings.ticks (λ n. get nat_cmp j.leases.readings.rows n.0) k.stands f.stands

  held_then : ◌≡◌ {A = NodeId → Bool} (λ n. holds_at j.leases.drift l.leases.readings.ticks (get nat_cmp l.leases.readings.rows n.0)) (λ n. holds_as j.leases.drift (standing_after n j.leases.readings.file (k.stands n) e))
  held_then = readings_tell.all_hold j.leases.drift l.leases.readings.ticks (λ n. get nat_cmp l.leases.readings.rows n.0) (λ n. standing_after n j.leases.readings.file (k.stands n) e) stands

  apart_fits : s.apart ≡ fits_apart k.holder (looked_at j.leases.readings.file e) (λ n. holds_as j.leases.drift (standing_after n j.leases.readings.file (k.stands n) e))
  apart_fits =
      t.apart_is
      ∙ ap (λ (now : NodeId → Bool). fits_apart j.leases.holder (looked_at j.leases.readings.file e) now) held_then
      ∙ ap (λ (h : Option NodeId). fits_apart h (looked_at j.leases.readings.file e) (λ n. holds_as j.leases.drift (standing_after n j.leases.readings.file (k.stands n) e))) f.holder

  holder_then : l.leases.holder ≡ holder_after k.holder (looked_at j.leases.readings.file e) (λ n. holds_as j.leases.drift (standing_after n j.leases.readings.file (k.stands n) e))
  holder_then =
      t.holder
      ∙ ap (λ (now : NodeId → Bool). holder_after j.leases.holder (looked_at j.leases.readings.file e) now) held_then
      ∙ ap (λ (h : Option NodeId). holder_after h (looked_at j.leases.readings.file e) (λ n. holds_as j.leases.drift (standing_after n j.leases.readings.file (k.stands n) e))) f.holder

  acting_fits : s.acting ≡ fits_acting (acts_on j.leases.readings.file e) (λ n. holds_as j.leases.drift (k.stands n))
  acting_fits = t.acting_is ∙ ap (λ (now : NodeId → Bool). fits_acting (acts_on j.leases.readings.file e) now) held

  order_fits : s.one_order ≡ fits_order k.order (claim_on j.leases.readings.file e)
  order_fits =
      t.order_is ∙ ap (fits_order j.writes.order.ids.items) t.claim_is ∙ ap (λ (os : List OpId). fits_order os (claim_on j.leases.readings.file e)) f.order

  order_then : l.writes.order.ids.items ≡ order_by k.order (claim_on j.leases.readings.file e)
  order_then = t.ids ∙ ap (order_by j.writes.order.ids.items) t.claim_is ∙ ap (λ (os : List OpId). order_by os (claim_on j.leases.readings.file e)) f.order

  set_before : IsSetOf j.writes.order.set.set j.writes.order.ids.items
  set_before = subst (λ (os : List OpId). IsSetOf j.writes.order.set.set os) (sym f.order) f.set

  once_fits : s.once ≡ fits_once j.leases.readings.file k.order k.calls (claim_on j.leases.readings.file e)
  once_fits =
      t.once_is set_before
      ∙ ap (fits_once j.leases.readings.file j.writes.order.ids.items (λ id. call_in j.calls.rows id)) t.claim_is
      ∙ ap (λ (os : List OpId). fits_once j.leases.readings.file os (λ id. call_in j.calls.rows id) (claim_on j.leases.readings.file e)) f.order
      ∙ ap (λ (cs : OpId → Option Call). fits_once j.leases.readings.file k.order cs (claim_on j.leases.readings.file e)) calls_are

  same_content : (c : Option line.Claim) → content_then j.writes.stripe j.leases.readings.file k.order k.calls k.content c ≡ content_by j.writes.stripe j.leases.readings.file k c
  same_content None = refl
  same_content (Some c) = refl

  content_is : content_then j.writes.stripe j.leases.readings.file j.writes.order.ids.items (λ id. call_in j.calls.rows id) k.content (option_map claim_of claim) ≡ content_by j.writes.stripe j.leases.readings.file k (claim_on j.leases.readings.file e)
  content_is =
      ap (content_then j.writes.stripe j.leases.readings.file j.writes.order.ids.items (λ id. call_in j.calls.rows id) k.content) t.claim_is
      ∙ ap (λ (os : List OpId). content_then j.writes.stripe j.leases.readings.file os (λ id. call_in j.calls.rows id) k.content (claim_on j.leases.readings.file e)) f.order
      ∙ ap (λ (cs : OpId → Option Call). content_then j.writes.stripe j.leases.readings.file k.order cs k.content (claim_on j.leases.readings.file e)) calls_are
      ∙ same_content (claim_on j.leases.readings.file e)

  content_then_is : (k.says once && fits_once j.leases.readings.file k.order k.calls (claim_on j.leases.readings.file e)) ≡ true
      → Tells l.writes.content.size l.writes.content.written (content_by j.writes.stripe j.leases.readings.file k (claim_on j.leases.readings.file e))
  content_then_is says =
      let before = and_left (k.says once) (fits_once j.leases.readings.file k.order k.calls (claim_on j.leases.readings.file e)) says in
      let now = and_right (k.says once) (fits_once j.leases.readings.file k.order k.calls (claim_on j.leases.readings.file e)) says in
      subst (λ (c : List ℕ). Tells l.writes.content.size l.writes.content.written c) content_is
      (t.content (f.says_once ∙ before) (once_fits ∙ now) k.content (f.content before))

  same_shown : (a : Option pass.Answer) → shown_by j.writes.stripe j.leases.readings.file k.order k.content k.calls a ≡ fits_shown j.writes.stripe j.leases.readings.file k a
  same_shown None = refl
  same_shown (Some a) = refl

  shown_fits : k.says once ≡ true → s.shown ≡ fits_shown j.writes.stripe j.leases.readings.file k (answer_on j.leases.readings.file e)
  shown_fits says =
      t.shown_is k.content (f.content says)
      ∙ ap (shown_by j.writes.stripe j.leases.readings.file j.writes.order.ids.items k.content (λ id. call_in j.calls.rows id)) t.answer_is
      ∙ ap (λ (os : List OpId). shown_by j.writes.stripe j.leases.readings.file os k.content (λ id. call_in j.calls.rows id) (answer_on j.leases.readings.file e)) f.order
      ∙ ap (λ (cs : OpId → Option Call). shown_by j.writes.stripe j.leases.readings.file k.order k.content cs (answer_on j.leases.readings.file e)) calls_are
      ∙ same_shown (answer_on j.leases.readings.file e)

  ends_fit : (a : Option Answer) → ends_well j.leases.readings.file (λ id. call_in j.calls.rows id) j.answers.set a ≡ fits_end j.leases.readings.file k (option_map answer_of a)
  ends_fit None = refl
  ends_fit (Some a) =
      either (not (is_told (operation_on j.leases.readings.file (call_in j.calls.rows a.id)))) (has_answer j.answers.set ((a.id.client.0, a.id.number), (a.count, a.bytes))) (not (is_told (operation_on j.leases.readings.file (k.calls a.id)))) (k.answered a.id a.count a.bytes.now)
      (ap (λ (o : Option Call). not (is_told (operation_on j.leases.readings.file o))) (f.calls a.id))
      (f.answered ((a.id.client.0, a.id.number), (a.count, a.bytes)))

  same_begin : (x : Entry) → begins_well j.leases.readings.file k.calls k.ended x ≡ fits_begin j.leases.readings.file k x
  same_begin (entry.Begin client number c) = refl
  same_begin _ = refl

  begins_fit : begins_well j.leases.readings.file (λ id. call_in j.calls.rows id) (λ id. has_id j.ended.set id) e ≡ fits_begin j.leases.readings.file k e
  begins_fit =
      ap (λ (cs : OpId → Option Call). begins_well j.leases.readings.file cs (λ id. has_id j.ended.set id) e) calls_are
      ∙ ap (λ (es : OpId → Bool). begins_well j.leases.readings.file k.calls es e) ended_are
      ∙ same_begin e

  fresh_fits : s.fresh ≡ (fits_end j.leases.readings.file k (ok_told e) && fits_begin j.leases.readings.file k e)
  fresh_fits =
      t.fresh_is
      ∙ both (ends_well j.leases.readings.file (λ id. call_in j.calls.rows id) j.answers.set end) (begins_well j.leases.readings.file (λ id. call_in j.calls.rows id) (λ id. has_id j.ended.set id) e) (fits_end j.leases.readings.file k (ok_told e)) (fits_begin j.leases.readings.file k e)
      (ends_fit end ∙ ap (fits_end j.leases.readings.file k) t.end_is) begins_fit

  answers_then : (told : Told) → has_answer l.answers.set told ≡ (k.answered (id_told told) told.1.0 told.1.1.now || (is_answer (id_told told) told.1.0 told.1.1.now (answer_on j.leases.readings.file e) && is_told (operation_on j.leases.readings.file (k.calls (id_told told)))))
  answers_then told =
      t.answers told
      ∙ either (has_answer j.answers.set told) (is_answer (id_told told) told.1.0 told.1.1.now (option_map answer_of answer) && is_told (operation_on j.leases.readings.file (call_in j.calls.rows (id_told told)))) (k.answered (id_told told) told.1.0 told.1.1.now) (is_answer (id_told told) told.1.0 told.1.1.now (answer_on j.leases.readings.file e) && is_told (operation_on j.leases.readings.file (k.calls (id_told told))))
      (f.answered told)
      (ap (λ (a : Option pass.Answer). is_answer (id_told told) told.1.0 told.1.1.now a && is_told (operation_on j.leases.readings.file (call_in j.calls.rows (id_told told)))) t.answer_is
      ∙ ap (λ (o : Option Call). is_answer (id_told told) told.1.0 told.1.1.now (answer_on j.leases.readings.file e) && is_told (operation_on j.leases.readings.file o)) (f.calls (id_told told)))

  ended_then : (id : OpId) → has_id l.ended.set id ≡ (k.ended id || is_end id (ok_told e))
  ended_then id =
      t.ended id ∙ ap (λ b. b || is_end id (option_map answer_of end)) (f.ended id) ∙ ap (λ (a : Option pass.Answer). k.ended id || is_end id a) t.end_is

  pub followed : Follows (after j.leases.drift j.writes.stripe j.leases.readings.file k e) l
  followed = record {
    stands = stands;
    holder = holder_then;
    order = order_then;
    set = subst (λ (os : List OpId). IsSetOf l.writes.order.set.set os) order_then (t.set set_before);
    content = content_then_is;
    calls = λ id. t.calls id ∙ ap (λ (o : Option Call). option_or o (call_begun id e)) (f.calls id);
    answered = answers_then;
    ended = ended_then;
    says_apart = t.says_apart ∙ both j.says.apart s.apart (k.says apart) _ f.says_apart apart_fits;
    says_acting = t.says_acting ∙ both j.says.acting s.acting (k.says acting) _ f.says_acting acting_fits;
    says_order = t.says_order ∙ both j.says.one_order s.one_order (k.says one_order) _ f.says_order order_fits;
    says_once = t.says_once ∙ both j.says.once s.once (k.says once) _ f.says_once once_fits;
    says_shown = λ says.
        let before = and_left (k.says once) (fits_once j.leases.readings.file k.order k.calls (claim_on j.leases.readings.file e)) says in
        t.says_shown ∙ both j.says.shown s.shown (k.says shown) (fits_shown j.writes.stripe j.leases.readings.file k (answer_on j.leases.readings.file e)) (f.says_shown before) (shown_fits before);
    says_fresh = t.says_fresh ∙ both j.says.fresh s.fresh (k.says fresh) _ f.says_fresh fresh_fits;
  }
