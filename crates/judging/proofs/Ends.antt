-- The ends of calls, with an entry more.
use Rattle.std.proofs.Common.{◌≡◌, ℕ, ◌⊎◌, inl, inr, Bool, true, false, List, [], ◌∷◌, ◌++◌, Option, Some, None, refl, sym, ap, ◌∙◌, subst, append_assoc}
use Rattle.std.specs.Prelude.{Decides, ◌==◌, ◌&&◌, ◌||◌, not, if◌then◌else◌}
use Rattle.std.specs.Option.{option_or}
use Rattle.std.proofs.lemmas.Bool.Decides.{Decides-and, Decides-or, Decides-not, Decides-like}
use Rattle.xt_base.specs.declared.ids.NodeId.{NodeId}
use Rattle.xt_base.specs.declared.ids.OpId.{OpId}
use Rattle.xt_messages.specs.declared.file.Op.{Op}
use Rattle.xt_messages.specs.declared.event.Call.{Call}
use Rattle.xt_messages.specs.declared.event.Outcome.TheVariants as outcome
use Rattle.time_line.specs.declared.entry.Entry.{Entry}
use Rattle.time_line.specs.declared.entry.Entry.TheVariants as entry
use Rattle.time_line.specs.TimeLine.{is_id, id_of, call_begun, begun, operation_on, operation_begun}
use Rattle.time_line.specs.Clauses.{IsBefore, ok_entry, HasBegunOn, EndsAreAnswered}
use Rattle.judging.specs.Pass.{Kept, is_told, is_same, is_answer, is_end, Answer, answer_on, ok_told, fits_end, fits_begin}
use Rattle.judging.specs.Laws.{IsAnswered}
use Rattle.judging.proofs.Tests.{same_number, same_bytes, same_id}
use Rattle.judging.proofs.Entries.{begun-append, begun-grown, begun_on-grown, has_begun}
use Rattle.judging.proofs.Pushed.{before_split, before_in}
use Rattle.judging.proofs.Contents.{answer_is, own_answer}

-- the call has ended well
abbrev pub HasEnded : List Entry → OpId → Type 0
HasEnded es id = (before : List Entry) × (count : ℕ) × (bytes : List ℕ) × IsBefore before (ok_entry id count bytes) es

pub told : {X : Type 0} (o : Option X) → Decides (is_told o) ((x : X) × (o ≡ Some x))
told None = (λ t. absurd (cc (t)), λ is. absurd (let nay : None ≡ Some is.0 = is.1 in cc))
told (Some x) = (λ t. (x, refl), λ is. refl)

-- ---- entries

ok_is : (x : Entry) (a : Answer) → ok_told x ≡ Some a → x ≡ ok_entry a.id a.count a.bytes
ok_is (entry.Done client number (outcome.Ok count bytes)) a is =
    let it : (let x : Answer = record { id = id_of client number; count = count; bytes = bytes } in x) ≡ a = cc (is) in
    ap (λ (x : Answer). ok_entry x.id x.count x.bytes) it
ok_is (entry.Done client number _) a is = absurd (cc (is))
ok_is _ a is = absurd (cc (is))

own_ok : (id : OpId) (count : ℕ) (bytes : List ℕ) → ok_told (ok_entry id count bytes) ≡ Some (let x : Answer = record { id = id; count = count; bytes = bytes } in x)
own_ok id count bytes = refl

not_begin : (id other : OpId) (count : ℕ) (bytes : List ℕ) → call_begun other (ok_entry id count bytes) ≡ None
not_begin id other count bytes = refl

begin_is : (id : OpId) (x : Entry) (c : Call) → call_begun id x ≡ Some c → (client : NodeId) × (number : ℕ) × (x ≡ entry.Begin client number c) × (id ≡ id_of client number)
begin_is id (entry.Begin client number d) c is = by (is_id id (id_of client number)) refl is
  where
    by : (b : Bool) → is_id id (id_of client number) ≡ b → (if b then Some d else None) ≡ Some c
        → (client_of : NodeId) × (number_of : ℕ) × (entry.Begin client number d ≡ entry.Begin client_of number_of c) × (id ≡ id_of client_of number_of)
    by true same is = (client, number, ap (entry.Begin client number) (let it : d ≡ c = cc (is) in it), (same_id id (id_of client number)).0 same)
    by false same is = absurd (cc (is))
begin_is id _ c is = absurd (cc (is))

own_begin : (client : NodeId) (number : ℕ) (c : Call) → call_begun (id_of client number) (entry.Begin client number c) ≡ Some c
own_begin client number c = ap (λ (b : Bool). if b then Some c else None) ((same_id (id_of client number) (id_of client number)).1 refl)

-- ---- what has been answered, and has ended

module _ (file : ℕ) (es : List Entry) (e : Entry) where
  abbrev AnswersNow : OpId → ℕ → List ℕ → Type 0
  AnswersNow id count bytes = (node : NodeId) × (e ≡ entry.Answer node file id count bytes) × HasBegunOn file es id

  answered_more : (id : OpId) (count : ℕ) (bytes : List ℕ) → IsAnswered file es id count bytes ⊎ AnswersNow id count bytes → IsAnswered file (es ++ e ∷ []) id count bytes
  answered_more id count bytes (inl (first, node, at, on)) = (first, node, before_in es (e ∷ []) first (entry.Answer node file id count bytes) at, on)
  answered_more id count bytes (inr (node, is, on)) = (es, node, ([], ap (λ (x : Entry). es ++ x ∷ []) is), on)

  answered_split : (id : OpId) (count : ℕ) (bytes : List ℕ) → IsAnswered file (es ++ e ∷ []) id count bytes → IsAnswered file es id count bytes ⊎ AnswersNow id count bytes
  answered_split id count bytes (first, node, at, on) =
      elim (before_split es e first at.0 (entry.Answer node file id count bytes) at.1) [
        | inl there ↦ inl (first, node, there, on)
        | inr here ↦ inr (node, sym here.1, subst (λ (xs : List Entry). HasBegunOn file xs id) here.0 on)
      ]

  ended_more : (id : OpId) → HasEnded es id ⊎ ((count : ℕ) × (bytes : List ℕ) × (e ≡ ok_entry id count bytes)) → HasEnded (es ++ e ∷ []) id
  ended_more id (inl (before, count, bytes, at)) = (before, count, bytes, before_in es (e ∷ []) before (ok_entry id count bytes) at)
  ended_more id (inr (count, bytes, is)) = (es, count, bytes, ([], ap (λ (x : Entry). es ++ x ∷ []) is))

  ended_split : (id : OpId) → HasEnded (es ++ e ∷ []) id → HasEnded es id ⊎ ((count : ℕ) × (bytes : List ℕ) × (e ≡ ok_entry id count bytes))
  ended_split id (before, count, bytes, at) =
      elim (before_split es e before at.0 (ok_entry id count bytes) at.1) [
        | inl there ↦ inl (before, count, bytes, there)
        | inr here ↦ inr (count, bytes, sym here.1)
      ]

  is_this : (id : OpId) (count : ℕ) (bytes : List ℕ) (o : Option Answer) → Decides (is_answer id count bytes o) (o ≡ Some (let x : Answer = record { id = id; count = count; bytes = bytes } in x))
  is_this id count bytes None = (λ t. absurd (cc (t)), λ nay. absurd (cc (nay)))
  is_this id count bytes (Some a) =
      Decides-like (is_id a.id id && ((a.count == count) && is_same a.bytes bytes)) from to
      (Decides-and (is_id a.id id) ((a.count == count) && is_same a.bytes bytes) (same_id a.id id) (Decides-and (a.count == count) (is_same a.bytes bytes) (same_number a.count count) (same_bytes a.bytes bytes)))
    where
      from : (a.id ≡ id) × ((a.count ≡ count) × (a.bytes ≡ bytes)) → Some a ≡ Some (let x : Answer = record { id = id; count = count; bytes = bytes } in x)
      from (i, (c, b)) = ap Some (λ t. record { id = i t; count = c t; bytes = b t })

      to : Some a ≡ Some (let x : Answer = record { id = id; count = count; bytes = bytes } in x) → (a.id ≡ id) × ((a.count ≡ count) × (a.bytes ≡ bytes))
      to is = (let it : a ≡ (let x : Answer = record { id = id; count = count; bytes = bytes } in x) = cc (is) in (ap (λ (x : Answer). x.id) it, (ap (λ (x : Answer). x.count) it, ap (λ (x : Answer). x.bytes) it)))

  on_file : (k : Kept) → ((id : OpId) → k.calls id ≡ begun id es) → (id : OpId) → Decides (is_told (operation_on file (k.calls id))) (HasBegunOn file es id)
  on_file k calls id = subst (λ (c : Option Call). Decides (is_told (operation_on file c)) (HasBegunOn file es id)) (sym (calls id)) (told (operation_begun file es id))

  pub decides_answered : (k : Kept) (id : OpId) (count : ℕ) (bytes : List ℕ) → ((id : OpId) → k.calls id ≡ begun id es) → Decides (k.answered id count bytes) (IsAnswered file es id count bytes)
      → Decides (k.answered id count bytes || (is_answer id count bytes (answer_on file e) && is_told (operation_on file (k.calls id)))) (IsAnswered file (es ++ e ∷ []) id count bytes)
  decides_answered k id count bytes calls before =
      Decides-like (k.answered id count bytes || (is_answer id count bytes (answer_on file e) && is_told (operation_on file (k.calls id)))) (answered_more id count bytes) (answered_split id count bytes)
      (Decides-or (k.answered id count bytes) (is_answer id count bytes (answer_on file e) && is_told (operation_on file (k.calls id))) before
      (Decides-like (is_answer id count bytes (answer_on file e) && is_told (operation_on file (k.calls id))) from to
      (Decides-and (is_answer id count bytes (answer_on file e)) (is_told (operation_on file (k.calls id))) (is_this id count bytes (answer_on file e)) (on_file k calls id))))
    where
      from : (answer_on file e ≡ Some (let x : Answer = record { id = id; count = count; bytes = bytes } in x)) × HasBegunOn file es id → AnswersNow id count bytes
      from (is, on) = (let made = answer_is 0 file es e e (record { id = id; count = count; bytes = bytes }) is in (made.0, made.1, on))

      to : AnswersNow id count bytes → (answer_on file e ≡ Some (let x : Answer = record { id = id; count = count; bytes = bytes } in x)) × HasBegunOn file es id
      to (node, is, on) = (ap (answer_on file) is ∙ own_answer 0 file es e node id count bytes, on)

  is_ended : (id : OpId) (o : Option Answer) → Decides (is_end id o) ((a : Answer) × (o ≡ Some a) × (a.id ≡ id))
  is_ended id None = (λ t. absurd (cc (t)), λ is. absurd (let nay : None ≡ Some is.0 = is.1 in cc))
  is_ended id (Some a) = (λ t. (a, refl, (same_id a.id id).0 t), λ is. (same_id a.id id).1 ((let it : a ≡ is.0 = (let one : Some a ≡ Some is.0 = is.1 in cc (one)) in ap (λ (x : Answer). x.id) it) ∙ is.2))

  pub decides_ended : (k : Kept) (id : OpId) → Decides (k.ended id) (HasEnded es id) → Decides (k.ended id || is_end id (ok_told e)) (HasEnded (es ++ e ∷ []) id)
  decides_ended k id before =
      Decides-like (k.ended id || is_end id (ok_told e)) (ended_more id) (ended_split id)
      (Decides-or (k.ended id) (is_end id (ok_told e)) before (Decides-like (is_end id (ok_told e)) from to (is_ended id (ok_told e))))
    where
      from : (a : Answer) × (ok_told e ≡ Some a) × (a.id ≡ id) → (count : ℕ) × (bytes : List ℕ) × (e ≡ ok_entry id count bytes)
      from (a, is, same) = (a.count, a.bytes, ok_is e a is ∙ ap (λ (i : OpId). ok_entry i a.count a.bytes) same)

      to : (count : ℕ) × (bytes : List ℕ) × (e ≡ ok_entry id count bytes) → (a : Answer) × (ok_told e ≡ Some a) × (a.id ≡ id)
      to (count, bytes, is) = (record { id = id; count = count; bytes = bytes }, ap ok_told is, refl)

  -- ---- the clause

  abbrev pub EndThen : Type 0
  EndThen = (id : OpId) (count : ℕ) (bytes : List ℕ) → e ≡ ok_entry id count bytes → HasBegunOn file es id → IsAnswered file es id count bytes

  abbrev pub BeginThen : Type 0
  BeginThen =
      (client : NodeId) (number : ℕ) (c : Call) → e ≡ entry.Begin client number c → begun (id_of client number) es ≡ None
      → (operation : Op) × (operation_on file (Some c) ≡ Some operation) → HasEnded es (id_of client number) → ⊥

  pub ends_more : EndsAreAnswered file es × (EndThen × BeginThen) → EndsAreAnswered file (es ++ e ∷ [])
  unfolding begun
  ends_more both before id count bytes at on =
      elim (before_split es e before at.0 (ok_entry id count bytes) at.1) as (λ w. IsAnswered file before id count bytes) [
        | inl there ↦ old there
        | inr here ↦ subst (λ (xs : List Entry). IsAnswered file xs id count bytes) (sym here.0) (both.1.0 id count bytes (sym here.1) (by_done here.1))
      ]
    where
      whole : begun id (es ++ e ∷ []) ≡ option_or (begun id es) (option_or (call_begun id e) None)
      whole = begun-append id es (e ∷ [])

      by_done : ok_entry id count bytes ≡ e → HasBegunOn file es id
      by_done is = (on.0, subst (λ (c : Option Call). operation_on file c ≡ Some on.0) (whole ∙ ap (λ (x : Entry). option_or (begun id es) (option_or (call_begun id x) None)) (sym is) ∙ or_none (begun id es)) on.1)
        where
          or_none : (o : Option Call) → option_or o None ≡ o
          or_none None = refl
          or_none (Some c) = refl

      old : IsBefore before (ok_entry id count bytes) es → IsAnswered file before id count bytes
      old there = by (begun id es) refl (call_begun id e) refl
        where
          by : (o : Option Call) → begun id es ≡ o → (p : Option Call) → call_begun id e ≡ p → IsAnswered file before id count bytes
          by (Some c) is p last = both.0 before id count bytes there (on.0, subst (λ (d : Option Call). operation_on file d ≡ Some on.0) (whole ∙ ap (λ (d : Option Call). option_or d (option_or (call_begun id e) None)) is ∙ sym is) on.1)
          by None is None last =
              absurd (let nay : None ≡ Some on.0 = subst (λ (d : Option Call). operation_on file d ≡ Some on.0) (whole ∙ ap (λ (d : Option Call). option_or d (option_or (call_begun id e) None)) is ∙ ap (λ (d : Option Call). option_or d None) last) on.1 in cc)
          by None is (Some c) last =
              let made = begin_is id e c last in
              absurd (both.1.1 made.0 made.1 c made.2 (subst (λ (i : OpId). begun i es ≡ None) made.3 is)
              (on.0, subst (λ (d : Option Call). operation_on file d ≡ Some on.0) (whole ∙ ap (λ (d : Option Call). option_or d (option_or (call_begun id e) None)) is ∙ ap (λ (d : Option Call). option_or d None) last) on.1)
              (subst (HasEnded es) made.3 (before, count, bytes, there)))

  pub ends_fewer : EndsAreAnswered file (es ++ e ∷ []) → EndsAreAnswered file es × (EndThen × BeginThen)
  unfolding begun
  ends_fewer all = (
    λ before id count bytes at on. all before id count bytes (before_in es (e ∷ []) before (ok_entry id count bytes) at) (begun_on-grown file es (e ∷ []) id on),
    (
      λ id count bytes is on. all es id count bytes ([], ap (λ (x : Entry). es ++ x ∷ []) is) (begun_on-grown file es (e ∷ []) id on),
      λ client number c is none op ended. early client number c is none op ended,
    ),
  )
    where
      early : (client : NodeId) (number : ℕ) (c : Call) → e ≡ entry.Begin client number c → begun (id_of client number) es ≡ None
          → (operation : Op) × (operation_on file (Some c) ≡ Some operation) → HasEnded es (id_of client number) → ⊥
      early client number c is none op (before, count, bytes, at) =
          let id : OpId = id_of client number in
          let now : begun (id_of client number) (es ++ e ∷ []) ≡ Some c
          = begun-append (id_of client number) es (e ∷ []) ∙ ap (λ (o : Option Call). option_or o (option_or (call_begun (id_of client number) e) None)) none
          ∙ ap (λ (x : Entry). option_or (call_begun (id_of client number) x) None) is ∙ ap (λ (o : Option Call). option_or o None) (own_begin client number c) in
          let on : HasBegunOn file (es ++ e ∷ []) (id_of client number) = (op.0, ap (operation_on file) now ∙ op.1) in
          let a = all before (id_of client number) count bytes (before_in es (e ∷ []) before (ok_entry (id_of client number) count bytes) at) on in
          let made = has_begun file a.0 (id_of client number) a.3 in
          let rest : List Entry = entry.Answer a.1 file (id_of client number) count bytes ∷ (a.2.0 ++ ok_entry (id_of client number) count bytes ∷ at.0) in
          let split : es ≡ a.0 ++ rest = at.1 ∙ ap (λ (xs : List Entry). xs ++ ok_entry (id_of client number) count bytes ∷ at.0) a.2.1 ∙ append_assoc a.0 (entry.Answer a.1 file (id_of client number) count bytes ∷ a.2.0) (ok_entry (id_of client number) count bytes ∷ at.0) in
          let some : begun (id_of client number) es ≡ Some made.0 = ap (begun (id_of client number)) split ∙ begun-grown (id_of client number) a.0 rest made.0 made.1 in
          let nay : None ≡ Some made.0 = sym none ∙ some in
          cc

  pub decides_ends : (k : Kept) → ((id : OpId) → k.calls id ≡ begun id es) → ((id : OpId) (count : ℕ) (bytes : List ℕ) → Decides (k.answered id count bytes) (IsAnswered file es id count bytes))
      → ((id : OpId) → Decides (k.ended id) (HasEnded es id)) → Decides (fits_end file k (ok_told e) && fits_begin file k e) (EndThen × BeginThen)
  decides_ends k calls answered ended = Decides-and (fits_end file k (ok_told e)) (fits_begin file k e) (end (ok_told e) refl) (begin e refl)
    where
      implied : {P Q : Type 0} (a b : Bool) → Decides a P → Decides b Q → Decides (not a || b) (P → Q)
      implied true b p q = (λ t x. q.0 t, λ h. q.1 (h (p.0 refl)))
      implied false b p q = (λ t x. absurd (let nay : false ≡ true = p.1 x in cc), λ h. refl)

      end : (o : Option Answer) → ok_told e ≡ o → Decides (fits_end file k o) EndThen
      end None is = (λ t id count bytes same on. absurd (let nay : None ≡ Some (let x : Answer = record { id = id; count = count; bytes = bytes } in x) = sym is ∙ ap ok_told same in cc), λ h. refl)
      end (Some a) is =
          Decides-like (not (is_told (operation_on file (k.calls a.id))) || k.answered a.id a.count a.bytes)
          (λ h id count bytes same on. one h id count bytes (let there : Some a ≡ Some (let x : Answer = record { id = id; count = count; bytes = bytes } in x) = sym is ∙ ap ok_told same in cc (there)) on)
          (λ h on. h a.id a.count a.bytes (ok_is e a is) on)
          (implied (is_told (operation_on file (k.calls a.id))) (k.answered a.id a.count a.bytes) (on_file k calls a.id) (answered a.id a.count a.bytes))
        where
          one : (HasBegunOn file es a.id → IsAnswered file es a.id a.count a.bytes) → (id : OpId) (count : ℕ) (bytes : List ℕ) → a ≡ (let x : Answer = record { id = id; count = count; bytes = bytes } in x) → HasBegunOn file es id → IsAnswered file es id count bytes
          one h id count bytes it = subst (λ (x : Answer). HasBegunOn file es x.id → IsAnswered file es x.id x.count x.bytes) it h

      vacuous : (x : Entry) → e ≡ x → ((client : NodeId) (number : ℕ) (c : Call) → x ≡ entry.Begin client number c → ⊥) → Decides true BeginThen
      vacuous x is never = (λ t client number c same none op done. never client number c (sym is ∙ same), λ h. refl)

      begin : (x : Entry) → e ≡ x → Decides (fits_begin file k x) BeginThen
      begin (entry.Begin client number c) is =
          Decides-like (is_told (k.calls id) || (not (is_told (operation_on file (Some c))) || not (k.ended id))) from to
          (Decides-or (is_told (k.calls id)) (not (is_told (operation_on file (Some c))) || not (k.ended id)) before
          (implied (is_told (operation_on file (Some c))) (not (k.ended id)) (told (operation_on file (Some c))) (Decides-not (k.ended id) (ended id))))
        where
          id : OpId
          id = id_of client number

          before : Decides (is_told (k.calls (id_of client number))) ((d : Call) × (begun (id_of client number) es ≡ Some d))
          before = subst (λ (o : Option Call). Decides (is_told o) ((d : Call) × (begun (id_of client number) es ≡ Some d))) (sym (calls (id_of client number))) (told (begun (id_of client number) es))

          from : ((d : Call) × (begun (id_of client number) es ≡ Some d)) ⊎ ((operation : Op) × (operation_on file (Some c) ≡ Some operation) → HasEnded es (id_of client number) → ⊥) → BeginThen
          from (inl (d, some)) client_of number_of call same none op done =
              let it : entry.Begin client number c ≡ entry.Begin client_of number_of call = sym is ∙ same in
              let here : id_of client_of number_of ≡ id_of client number = cc (it) in
              let nay : None ≡ Some d = sym none ∙ ap (λ (i : OpId). begun i es) here ∙ some in
              cc
          from (inr h) client_of number_of call same none op done =
              let it : entry.Begin client number c ≡ entry.Begin client_of number_of call = sym is ∙ same in
              let here : id_of client_of number_of ≡ id_of client number = cc (it) in
              let called : call ≡ c = cc (it) in
              h (op.0, ap (λ (d : Call). operation_on file (Some d)) (sym called) ∙ op.1) (subst (HasEnded es) here done)

          to : BeginThen → ((d : Call) × (begun (id_of client number) es ≡ Some d)) ⊎ ((operation : Op) × (operation_on file (Some c) ≡ Some operation) → HasEnded es (id_of client number) → ⊥)
          to h = by (begun (id_of client number) es) refl
            where
              by : (o : Option Call) → begun (id_of client number) es ≡ o
                  → ((d : Call) × (begun (id_of client number) es ≡ Some d)) ⊎ ((operation : Op) × (operation_on file (Some c) ≡ Some operation) → HasEnded es (id_of client number) → ⊥)
              by None none = inr (λ op done. h client number c is none op done)
              by (Some d) some = inl (d, some)
      begin x is = vacuous x is (λ client number c nay. cc (nay))
