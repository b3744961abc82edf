-- what a trace with more entries reports of a file's calls
use Rattle.std.proofs.Common.{◌≡◌, ℕ, zero, suc, ◌⊎◌, inl, inr, List, [], ◌∷◌, ◌++◌, refl, ap, sym, ◌∙◌, subst, arith, Option, Some, None, Bool, true, false}
use Rattle.std.specs.Prelude.{Contains, ◌==◌, ◌&&◌, if◌then◌else◌}
use Rattle.std.specs.List.{filter_map, cons_option}
use Rattle.std.specs.Option.{option_or}
use Rattle.std.proofs.lemmas.List.{append-nil}
use Rattle.std.proofs.lemmas.List.Elements.{filter_map-append}
use Rattle.std.proofs.lemmas.Bool.Decides.{nat_tests}
use Rattle.xt_base.specs.declared.ids.NodeId.{NodeId}
use Rattle.xt_base.specs.declared.ids.OpId.{OpId}
use Rattle.xt_messages.specs.declared.event.Call.{Call}
use Rattle.xt_messages.specs.declared.event.Outcome.{Outcome}
use Rattle.xt_messages.specs.declared.file.Op.{Op}
use Rattle.lease_safety.specs.State.{Has}
use Rattle.time_line.specs.declared.entry.Entry.{Entry}
use Rattle.time_line.specs.declared.entry.Entry.TheVariants as entry
use Rattle.time_line.specs.TimeLine.{id_of, is_id, call_begun, begun, operation_on}
use Rattle.time_line.specs.Clauses.{IsBefore, HasBegunOn, ok_entry}
use Rattle.world_runs.proofs.Calls.{IsAnswered, IsOnStriped}
use Rattle.world_runs.proofs.Entries.{begun-append, begun_on-grown}
use Rattle.world_runs.proofs.Growth.{EntriesAre}
use Rattle.striped_safety.specs.StripedFiles.{begins_on, operations_on}

-- ---- lists

pub has_contained : {X : Type 0} (xs : List X) (x : X) → Contains xs x → Has x xs
has_contained [] x (k, low, is) = absurd (omega arith)
has_contained (y ∷ xs) x (zero, low, is) = inl (sym is)
has_contained (y ∷ xs) x (suc k, low, is) = inr (has_contained xs x (k, omega arith, is))

-- what stands before an entry in a longer list
pub split_before : (es more before : List Entry) (e : Entry) → IsBefore before e (es ++ more) → IsBefore before e es ⊎ ((front : List Entry) × (before ≡ es ++ front) × IsBefore front e more)
split_before [] more before e (later, is) = inr (before, refl, (later, is))
split_before (x ∷ es) more [] e (later, is) = inl (es, (let same : x ≡ e = cc in ap (λ (y : Entry). y ∷ es) same))
split_before (x ∷ es) more (b ∷ before) e (later, is) =
    let first : x ≡ b = cc in
    let rest : es ++ more ≡ before ++ e ∷ later = cc in
    elim (split_before es more before e (later, rest)) as (λ w. IsBefore (b ∷ before) e (x ∷ es) ⊎ ((front : List Entry) × (b ∷ before ≡ (x ∷ es) ++ front) × IsBefore front e more)) [
      | inl h ↦ (let tail : es ≡ before ++ e ∷ h.0 = h.1 in inl (h.0, cc))
      | inr h ↦ (let tail : before ≡ es ++ h.0 = h.1 in inr (h.0, cc, h.2))
    ]

pub has_before : (before : List Entry) (e : Entry) (es : List Entry) → IsBefore before e es → Has e es
has_before before e es (later, is) = subst (Has e) (sym is) (at before)
  where
    at : (xs : List Entry) → Has e (xs ++ e ∷ later)
    at [] = inl refl
    at (x ∷ xs) = inr (at xs)

-- ---- entries that begin no call and end none

abbrev pub IsStill : Entry → Type 0
IsStill (entry.Begin client number c) = ⊥
IsStill (entry.Done client number how) = ⊥
IsStill _ = Unit {0}

abbrev pub AreStill : List Entry → Type 0
AreStill es = (e : Entry) → Has e es → IsStill e

pub none_still : AreStill []
none_still e h = absurd h

pub one_still : (x : Entry) → IsStill x → AreStill (x ∷ [])
one_still x still e (inl is) = subst IsStill (sym is) still
one_still x still e (inr h) = absurd h

still_begins : (id : OpId) (e : Entry) → IsStill e → call_begun id e ≡ None
still_begins id (entry.Begin client number c) still = absurd still
still_begins id (entry.Done client number how) still = absurd still
still_begins id _ still = refl

still_on : (file : ℕ) (e : Entry) → IsStill e → begins_on file e ≡ None
still_on file (entry.Begin client number c) still = absurd still
still_on file (entry.Done client number how) still = absurd still
still_on file _ still = refl

both_none : {X : Type 0} (o p : Option X) → o ≡ None → p ≡ None → option_or o p ≡ None
both_none None p a b = b
both_none (Some x) p a b = absurd cc

pub still_begun : (id : OpId) (es : List Entry) → AreStill es → begun id es ≡ None
unfolding begun
still_begun id [] still = refl
still_begun id (e ∷ es) still = both_none (call_begun id e) (begun id es) (still_begins id e (still e (inl refl))) (still_begun id es (λ x h. still x (inr h)))

or_none : {X : Type 0} (o p : Option X) → p ≡ None → option_or o p ≡ o
or_none None p none = none
or_none (Some x) p none = refl

pub begun_same : (id : OpId) (es more : List Entry) → begun id more ≡ None → begun id (es ++ more) ≡ begun id es
begun_same id es more none = begun-append id es more ∙ or_none (begun id es) (begun id more) none

skip : (file : ℕ) (e : Entry) (es : List Entry) → begins_on file e ≡ None → operations_on file (e ∷ es) ≡ operations_on file es
skip file e es none = ap (λ (o : Option Op). cons_option o (filter_map (begins_on file) es)) none

pub still_operations : (file : ℕ) (es : List Entry) → AreStill es → operations_on file es ≡ []
still_operations file [] still = refl
still_operations file (e ∷ es) still = skip file e es (still_on file e (still e (inl refl))) ∙ still_operations file es (λ x h. still x (inr h))

pub operations_more : (file : ℕ) (es more : List Entry) → operations_on file (es ++ more) ≡ operations_on file es ++ operations_on file more
operations_more file es more = filter_map-append (begins_on file) es more

pub operations_same : (file : ℕ) (es more : List Entry) → operations_on file more ≡ [] → operations_on file (es ++ more) ≡ operations_on file es
operations_same file es more none = operations_more file es more ∙ ap (λ (ops : List Op). operations_on file es ++ ops) none ∙ append-nil (operations_on file es)

-- ---- each call begins once

abbrev pub BeginOnce : List Entry → Type 0
BeginOnce es = (before : List Entry) (client : NodeId) (k : ℕ) (c : Call) → IsBefore before (entry.Begin client k c) es → begun (id_of client k) before ≡ None

pub once_still : (es more : List Entry) → AreStill more → BeginOnce es → BeginOnce (es ++ more)
once_still es more still once before client k c there =
    elim (split_before es more before (entry.Begin client k c) there) [
      | inl old ↦ once before client k c old
      | inr new ↦ absurd (still (entry.Begin client k c) (has_before new.0 (entry.Begin client k c) more new.2))
    ]

pub once_ends : (es : List Entry) (client : NodeId) (k : ℕ) (how : Outcome) → BeginOnce es → BeginOnce (es ++ entry.Done client k how ∷ [])
once_ends es ender j how once before client k c there =
    elim (split_before es (entry.Done ender j how ∷ []) before (entry.Begin client k c) there) [
      | inl old ↦ once before client k c old
      | inr new ↦ absurd (no_begin (has_before new.0 (entry.Begin client k c) (entry.Done ender j how ∷ []) new.2))
    ]
  where
    no_begin : Has (entry.Begin client k c) (entry.Done ender j how ∷ []) → ⊥
    no_begin (inl e) = cc e
    no_begin (inr h) = h

-- what stands before the last entry
pub before_last : (es before : List Entry) (x e : Entry) → IsBefore before e (es ++ x ∷ []) → IsBefore before e es ⊎ ((before ≡ es) × (e ≡ x))
before_last es before x e there =
    elim (split_before es (x ∷ []) before e there) as (λ w. IsBefore before e es ⊎ ((before ≡ es) × (e ≡ x))) [
      | inl old ↦ inl old
      | inr new ↦ inr (last new.0 new.1 new.2)
    ]
  where
    last : (front : List Entry) → before ≡ es ++ front → IsBefore front e (x ∷ []) → (before ≡ es) × (e ≡ x)
    last [] is (later, same) = (is ∙ append-nil es, cc)
    last (y ∷ []) is (later, same) = absurd (cc)
    last (y ∷ z ∷ zs) is (later, same) = absurd (cc)

pub once_begins : (es : List Entry) (beginner : NodeId) (j : ℕ) (d : Call) → begun (id_of beginner j) es ≡ None → BeginOnce es → BeginOnce (es ++ entry.Begin beginner j d ∷ [])
once_begins es beginner j d fresh once before client k c there =
    elim (before_last es before (entry.Begin beginner j d) (entry.Begin client k c) there) as (λ w. begun (id_of client k) before ≡ None) [
      | inl old ↦ once before client k c old
      | inr new ↦
          (let its_client : client ≡ beginner = (let e = new.1 in cc e) in
          let its_number : k ≡ j = (let e = new.1 in cc e) in
          subst (λ (xs : List Entry). begun (id_of client k) xs ≡ None) (sym new.0)
          (subst (λ (n : ℕ). begun (id_of client n) es ≡ None) (sym its_number) (subst (λ (x : NodeId). begun (id_of x j) es ≡ None) (sym its_client) fresh)))
    ]

-- a call that stands in the trace is the one that has begun
pub own_begins : (client : NodeId) (k : ℕ) (c : Call) → call_begun (id_of client k) (entry.Begin client k c) ≡ Some c
own_begins client k c = grind (arith, nat_tests)

pub begun_there : (es before : List Entry) (client : NodeId) (k : ℕ) (c : Call) → BeginOnce es → IsBefore before (entry.Begin client k c) es → begun (id_of client k) es ≡ Some c
unfolding begun
begun_there es before client k c once there =
    ap (begun (id_of client k)) there.1 ∙ begun-append (id_of client k) before (entry.Begin client k c ∷ there.0)
    ∙ first (begun (id_of client k) before) (call_begun (id_of client k) (entry.Begin client k c)) (begun (id_of client k) there.0) (once before client k c there) (own_begins client k c)
  where
    first : (o p q : Option Call) → o ≡ None → p ≡ Some c → option_or o (option_or p q) ≡ Some c
    first None (Some x) q none some = some
    first None None q none some = absurd (cc)
    first (Some x) p q none some = absurd (cc)

-- ---- a call begins

pub begun_new : (es : List Entry) (client : NodeId) (k : ℕ) (c : Call) → begun (id_of client k) es ≡ None → begun (id_of client k) (es ++ entry.Begin client k c ∷ []) ≡ Some c
unfolding begun
begun_new es client k c fresh = begun-append (id_of client k) es (entry.Begin client k c ∷ []) ∙ at (begun (id_of client k) es) (call_begun (id_of client k) (entry.Begin client k c)) fresh (own_begins client k c)
  where
    at : (o p : Option Call) → o ≡ None → p ≡ Some c → option_or o (option_or p None) ≡ Some c
    at None (Some x) none some = some
    at None None none some = absurd (cc)
    at (Some x) p none some = absurd (cc)

-- a call that has begun then had begun, or is this client's
pub begun_last : (file : ℕ) (es : List Entry) (client : NodeId) (k : ℕ) (c : Call) (id : OpId) → HasBegunOn file (es ++ entry.Begin client k c ∷ []) id → HasBegunOn file es id ⊎ (id.client.0 ≡ client.0)
unfolding begun
begun_last file es client k c id is =
    at (begun id es) refl (is_id id (id_of client k)) refl (sym (ap (operation_on file) (begun-append id es (entry.Begin client k c ∷ []))) ∙ is.1)
  where
    same_client : (a b x y : ℕ) → ((a == b) && (x == y)) ≡ true → a ≡ b
    same_client a b x y both = grind (arith, nat_tests)

    at : (o : Option Call) → begun id es ≡ o → (b : Bool) → is_id id (id_of client k) ≡ b → operation_on file (option_or (begun id es) (option_or (if is_id id (id_of client k) then Some c else None) None)) ≡ Some is.0
        → HasBegunOn file es id ⊎ (id.client.0 ≡ client.0)
    at (Some d) first b test so = inl (is.0, ap (operation_on file) first ∙ (sym (ap (λ (o : Option Call). operation_on file (option_or o (option_or (if is_id id (id_of client k) then Some c else None) None))) first) ∙ so))
    at None first true test so = inr (same_client id.client.0 client.0 id.number k test)
    at None first false test so =
        absurd
        (let none : None ≡ Some is.0
        = sym (ap (λ (o : Option Call). operation_on file (option_or o (option_or (if is_id id (id_of client k) then Some c else None) None))) first ∙ ap (λ (b : Bool). operation_on file (option_or (if b then Some c else None) None)) test) ∙ so in cc none)

pub operations_begun : (file : ℕ) (es : List Entry) (client : NodeId) (k : ℕ) (c : Call) (o : Op) → operation_on file (Some c) ≡ Some o → operations_on file (es ++ entry.Begin client k c ∷ []) ≡ operations_on file es ++ o ∷ []
operations_begun file es client k c o is = operations_more file es (entry.Begin client k c ∷ []) ∙ ap (λ (x : Option Op). operations_on file es ++ cons_option x []) is

-- what ended well had begun
has_split : {X : Type 0} (xs : List X) (x : X) → Has x xs → (front : List X) × (rest : List X) × (xs ≡ front ++ x ∷ rest)
has_split [] x h = absurd h
has_split (y ∷ xs) x (inl e) = ([], xs, ap (λ z. z ∷ xs) (sym e))
has_split (y ∷ xs) x (inr h) = (let rest = has_split xs x h in (y ∷ rest.0, rest.1, ap (λ zs. y ∷ zs) rest.2))

pub ok_begun : (es : List Entry) (id : OpId) (count : ℕ) (bytes : List ℕ) → EntriesAre es → Has (ok_entry id count bytes) es → (file : ℕ) × HasBegunOn file es id
ok_begun es id count bytes are h = whole (at (are split.0 (ok_entry id count bytes) (split.1, split.2)))
  where
    split : (front : List Entry) × (rest : List Entry) × (es ≡ front ++ ok_entry id count bytes ∷ rest)
    split = has_split es (ok_entry id count bytes) h

    at : IsAnswered split.0 id count bytes ⊎ IsOnStriped split.0 id → (file : ℕ) × HasBegunOn file split.0 id
    at (inl is) =
        let a = is.1 in
        (is.0, subst (λ (xs : List Entry). HasBegunOn is.0 xs id) (sym a.split) (begun_on-grown is.0 a.front (entry.Answer a.node is.0 id count bytes ∷ a.rest) id a.has_begun))
    at (inr is) = (is.file, is.has_begun)

    whole : (file : ℕ) × HasBegunOn file split.0 id → (file : ℕ) × HasBegunOn file es id
    whole is = (is.0, subst (λ (xs : List Entry). HasBegunOn is.0 xs id) (sym split.2) (begun_on-grown is.0 split.0 (ok_entry id count bytes ∷ split.1) id is.1))
