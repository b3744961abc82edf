-- A pass over the entries that are dealt to a file finds what the pass over all entries finds.
use Rattle.std.proofs.Common.{◌≡◌, ℕ, ◌+◌, Bool, true, false, List, [], ◌∷◌, length, Option, Some, None, refl, sym, ap, ◌∙◌, add-zero, add_assoc, true≢false}
use Rattle.std.specs.Prelude.{◌==◌, ◌&&◌, ◌||◌, not, if◌then◌else◌}
use Rattle.std.specs.Option.{option_or}
use Rattle.xt_base.specs.declared.ids.NodeId.{NodeId}
use Rattle.xt_base.specs.declared.ids.OpId.{OpId}
use Rattle.xt_messages.specs.declared.file.Op.{Op}
use Rattle.xt_messages.specs.declared.file.Op.TheVariants as op
use Rattle.xt_messages.specs.declared.event.Call.{Call}
use Rattle.xt_messages.specs.declared.event.Call.TheVariants as call
use Rattle.xt_messages.specs.declared.event.Outcome.{Outcome}
use Rattle.xt_messages.specs.declared.event.Outcome.TheVariants as outcome
use Rattle.time_line.specs.declared.entry.Entry.{Entry}
use Rattle.time_line.specs.declared.entry.Entry.TheVariants as entry
use Rattle.time_line.specs.TimeLine.{is_id, id_of, begun, call_begun, operation_on, RunningBoot, standing_after, advances, held_until, holds_as, Claim, claim_on, order_by, location_told, is_replicated, stripe_of, times_of}
use Rattle.time_line.specs.Clauses.{acts_on, is_change}
use Rattle.time_line.specs.Verdicts.{Clause, apart, acting, one_order, once, shown, fresh, Break}
use Rattle.judging.specs.Pass.{Kept, nothing, after, looked_at, fits_apart, holder_after, fits_acting, fits_order, fits_once, fits_shown, fits_end, fits_begin, fits, Answer, answer_on, ok_by, ok_told, is_told, is_in, shows, is_answer, is_end, content_with, content_by, least_broken, break_at, broken_from, judged}
use Rattle.judging.specs.Dealt.{file_called, is_file, is_dealt, ticks_of, Dealt, dealt, advanced, found_from, judged_by_dealt, DealtJudge}
use Rattle.judging.proofs.Tests.{same_id}

-- ---- booleans and options

or_false : (b : Bool) → (b || false) ≡ b
or_false true = refl
or_false false = refl

or_true : (b : Bool) → (b || true) ≡ true
or_true true = refl
or_true false = refl

and_true : (b : Bool) → (b && true) ≡ b
and_true true = refl
and_true false = refl

and_false : (b : Bool) → (b && false) ≡ false
and_false true = refl
and_false false = refl

not_told : {X : Type 0} (o : Option X) → is_told o ≡ false → o ≡ None
not_told None is = refl
not_told (Some x) is = absurd (true≢false is)

or_assoc : (o p q : Option Call) → option_or o (option_or p q) ≡ option_or (option_or o p) q
or_assoc None p q = refl
or_assoc (Some c) p q = refl

or_none : (o : Option Call) → option_or o None ≡ o
or_none None = refl
or_none (Some c) = refl

-- a call is on the file where its file is that
called : (file : ℕ) (c : Option Call) → is_file file (file_called c) ≡ is_told (operation_on file c)
called file None = refl
called file (Some (call.Read f object at len)) = by (f == file)
  where
    by : (b : Bool) → b ≡ is_told (if b then Some (op.Read object at len) else None)
    by true = refl
    by false = refl
called file (Some (call.Write f object at bytes)) = by (f == file)
  where
    by : (b : Bool) → b ≡ is_told (if b then Some (op.Write object at bytes) else None)
    by true = refl
    by false = refl
called file (Some (call.Truncate f size epoch)) = by (f == file)
  where
    by : (b : Bool) → b ≡ is_told (if b then Some (op.Truncate size) else None)
    by true = refl
    by false = refl
called file (Some _) = refl

no_advance : (s : Option RunningBoot) → advances 0 s ≡ s
no_advance None = refl
no_advance (Some s) = ap (λ (clock : ℕ). Some (let t : RunningBoot = record { boot = s.boot; clock = clock; end = s.end } in t)) (add-zero s.clock)

advance_twice : (a b : ℕ) (s : Option RunningBoot) → advances (a + b) s ≡ advances b (advances a s)
advance_twice a b None = refl
advance_twice a b (Some s) = ap (λ (clock : ℕ). Some (let t : RunningBoot = record { boot = s.boot; clock = clock; end = s.end } in t)) (sym (add_assoc s.clock a b))

-- ---- what the pass over the dealt entries keeps, where `whole` are the calls of the trace

module _ (file : ℕ) (whole : OpId → Option Call) where
  -- the call of this id is one on the file
  abbrev pub is_here : OpId → Bool
  is_here id = is_told (operation_on file (whole id))

  abbrev pub seen : Kept → Kept
  seen k = record k { calls = λ id. if is_here id then k.calls id else None; ended = λ id. is_here id && k.ended id }

  -- the calls of the trace are those kept and those that come
  abbrev pub Come : Kept → List Entry → Type 0
  Come k es = (id : OpId) → whole id ≡ option_or (k.calls id) (begun id es)

  here_by : (client : NodeId) (number : ℕ) → is_file file (file_called (whole (id_of client number))) ≡ is_here (id_of client number)
  here_by client number = called file (whole (id_of client number))

  -- two ids of which only one is of a call on the file differ
  other_id : (a b : OpId) (x : Bool) → is_here a ≡ x → is_here b ≡ not x → is_id a b ≡ false
  other_id a b x one other = by (is_id a b) refl
    where
      never : (y : Bool) → y ≡ not y → ⊥
      never true is = true≢false is
      never false is = true≢false (sym is)

      by : (t : Bool) → is_id a b ≡ t → t ≡ false
      by true same = absurd (never x (sym one ∙ ap is_here ((same_id a b).0 same) ∙ other))
      by false same = refl

  -- what a call does to the file is seen as it is, where the first that is kept or comes counts
  not_here : (k : Kept) (id : OpId) (o rest : Option Call) → whole id ≡ option_or (k.calls id) rest → k.calls id ≡ o → is_here id ≡ false → operation_on file o ≡ None
  not_here k id None rest first is there = refl
  not_here k id (Some c) rest first is there =
      not_told (operation_on file (Some c))
      (ap (λ (o : Option Call). is_told (operation_on file o)) (sym (first ∙ ap (λ (o : Option Call). option_or o rest) is)) ∙ there)

  -- ---- an entry that isn't dealt changes nothing that is seen, but clocks

  pub record Passes (k : Kept) (e : Entry) : Type 0 where
    pub stands : (node : NodeId) (s : Option RunningBoot) → standing_after node file s e ≡ advances (ticks_of e) s
    pub looked : looked_at file e ≡ None
    pub acts : acts_on file e ≡ None
    pub claims : claim_on file e ≡ None
    pub answers : answer_on file e ≡ None
    pub begins : (id : OpId) → is_here id ≡ true → call_begun id e ≡ None
    pub ends : (id : OpId) → is_here id ≡ true → is_end id (ok_told e) ≡ false
    pub fits_so : (fits_end file k (ok_told e) && fits_begin file k e) ≡ true
    pub place : location_told file e ≡ None

  -- an entry that reports nothing of a file, a node or a call
  silent : (k : Kept) (e : Entry)
      → ((node : NodeId) (s : Option RunningBoot) → standing_after node file s e ≡ advances (ticks_of e) s)
      → looked_at file e ≡ None → acts_on file e ≡ None → claim_on file e ≡ None → answer_on file e ≡ None → location_told file e ≡ None
      → ((id : OpId) → call_begun id e ≡ None) → ok_told e ≡ None → fits_begin file k e ≡ true
      → Passes k e
  silent k e stands looked acts claims answers place begins ends fits_so = record {
    stands = stands;
    looked = looked;
    acts = acts;
    claims = claims;
    answers = answers;
    begins = λ id here. begins id;
    ends = λ id here. ap (is_end id) ends;
    fits_so = ap (λ (a : Option Answer). fits_end file k a && fits_begin file k e) ends ∙ fits_so;
    place = place;
  }

  -- a call that begins for the first time is the trace's
  first_call : (k : Kept) (client : NodeId) (number : ℕ) (c : Call) (es : List Entry) → Come k (entry.Begin client number c ∷ es) → k.calls (id_of client number) ≡ None
      → whole (id_of client number) ≡ Some c
  unfolding begun
  first_call k client number c es come none =
      come (id_of client number)
      ∙ ap (λ (o : Option Call). option_or o (option_or (if is_id (id_of client number) (id_of client number) then Some c else None) (begun (id_of client number) es))) none
      ∙ ap (λ b. option_or (if b then Some c else None) (begun (id_of client number) es)) ((same_id (id_of client number) (id_of client number)).1 refl)

  begins_elsewhere : (k : Kept) (client : NodeId) (number : ℕ) (c : Call) (es : List Entry) → Come k (entry.Begin client number c ∷ es) → is_here (id_of client number) ≡ false
      → fits_begin file k (entry.Begin client number c) ≡ true
  begins_elsewhere k client number c es come there = by (k.calls (id_of client number)) refl
    where
      by : (o : Option Call) → k.calls (id_of client number) ≡ o
          → (is_told o || (not (is_told (operation_on file (Some c))) || not (k.ended (id_of client number)))) ≡ true
      by (Some x) is = refl
      by None is =
          ap (λ b. not b || not (k.ended (id_of client number)))
          (ap (λ (o : Option Call). is_told (operation_on file o)) (sym (first_call k client number c es come is)) ∙ there)

  ends_elsewhere : (k : Kept) (client : NodeId) (number : ℕ) (how : Outcome) (rest : Option Call) → whole (id_of client number) ≡ option_or (k.calls (id_of client number)) rest
      → is_here (id_of client number) ≡ false → fits_end file k (ok_by client number how) ≡ true
  ends_elsewhere k client number (outcome.Ok count bytes) rest first there =
      ap (λ (o : Option Op). not (is_told o) || k.answered (id_of client number) count bytes) (not_here k (id_of client number) (k.calls (id_of client number)) rest first refl there)
  ends_elsewhere k client number _ rest first there = refl

  ends_nobody : (client : NodeId) (number : ℕ) (how : Outcome) (id : OpId) → is_id (id_of client number) id ≡ false → is_end id (ok_by client number how) ≡ false
  ends_nobody client number (outcome.Ok count bytes) id is = is
  ends_nobody client number _ id is = refl

  stays : (node : NodeId) (s : Option RunningBoot) → s ≡ advances 0 s
  stays node s = sym (no_advance s)

  passes : (k : Kept) (e : Entry) (es : List Entry) → Come k (e ∷ es) → is_dealt file whole e ≡ false → Passes k e
  passes k (entry.Times lease drift) es come rests = silent k (entry.Times lease drift) stays refl refl refl refl refl (λ id. refl) refl refl
  passes k (entry.File number location) es come rests =
      silent k (entry.File number location) stays refl refl refl refl (ap (λ b. if b then Some location else None) rests) (λ id. refl) refl refl
  passes k (entry.List number version members) es come rests = silent k (entry.List number version members) stays refl refl refl refl refl (λ id. refl) refl refl
  passes k (entry.Clock node clock) es come rests = absurd (true≢false rests)
  passes k (entry.Tick count) es come rests = silent k (entry.Tick count) (λ node s. refl) refl refl refl refl refl (λ id. refl) refl refl
  passes k (entry.Up node boot clock) es come rests = absurd (true≢false rests)
  passes k (entry.Down node clock how) es come rests = absurd (true≢false rests)
  passes k (entry.Begin client number c) es come rests =
      let there : is_here (id_of client number) ≡ false = sym (here_by client number) ∙ rests in
      record {
        stands = stays;
        looked = refl;
        acts = refl;
        claims = refl;
        answers = refl;
        begins = λ id here. ap (λ b. if b then Some c else None) (other_id id (id_of client number) true here there);
        ends = λ id here. refl;
        fits_so = begins_elsewhere k client number c es come there;
        place = refl;
      }
  passes k (entry.Held node f end) es come rests =
      silent k (entry.Held node f end)
      (λ n s. ap (λ b. if (node.0 == n.0) && b then held_until end s else s) rests ∙ ap (λ b. if b then held_until end s else s) (and_false (node.0 == n.0)) ∙ stays n s)
      (ap (λ b. if b then Some node else None) rests) refl refl refl refl (λ id. refl) refl refl
  passes k (entry.Active node f count id) es come rests =
      silent k (entry.Active node f count id) stays refl (ap (λ b. if b then Some node else None) rests)
      (ap (λ b. if b then Some (let claim : Claim = record { count = count; id = id } in claim) else None) rests) refl refl (λ id. refl) refl refl
  passes k (entry.Issue node f count id) es come rests =
      silent k (entry.Issue node f count id) stays refl (ap (λ b. if b then Some node else None) rests) refl refl refl (λ id. refl) refl refl
  passes k (entry.Commit node f count id) es come rests =
      silent k (entry.Commit node f count id) stays refl (ap (λ b. if b then Some node else None) rests)
      (ap (λ b. if b then Some (let claim : Claim = record { count = count; id = id } in claim) else None) rests) refl refl (λ id. refl) refl refl
  passes k (entry.Answer node f id count bytes) es come rests =
      silent k (entry.Answer node f id count bytes) stays refl (ap (λ b. if b then Some node else None) rests) refl
      (ap (λ b. if b then Some (let answer : Answer = record { id = id; count = count; bytes = bytes } in answer) else None) rests) refl (λ id. refl) refl refl
  passes k (entry.Done client number how) es come rests =
      let there : is_here (id_of client number) ≡ false = sym (here_by client number) ∙ rests in
      record {
        stands = stays;
        looked = refl;
        acts = refl;
        claims = refl;
        answers = refl;
        begins = λ id here. refl;
        ends = λ id here. ends_nobody client number how id (other_id (id_of client number) id false there here);
        fits_so = ap (λ b. b && true) (ends_elsewhere k client number how (begun (id_of client number) (entry.Done client number how ∷ es)) (come (id_of client number)) there);
        place = refl;
      }

  module _ (drift stripe : ℕ) (k : Kept) (e : Entry) (es : List Entry) (come : Come k (e ∷ es)) where
    same_operation : (id : OpId) → operation_on file ((seen k).calls id) ≡ operation_on file (k.calls id)
    same_operation id = by (is_here id) refl
      where
        by : (b : Bool) → is_here id ≡ b → operation_on file (if b then k.calls id else None) ≡ operation_on file (k.calls id)
        by true is = refl
        by false is = sym (not_here k id (k.calls id) (begun id (e ∷ es)) (come id) refl is)

    come_more : Come (after drift stripe file k e) es
    unfolding begun
    come_more id = come id ∙ or_assoc (k.calls id) (call_begun id e) (begun id es)

    -- ---- an entry that is dealt

    same_content : (c : Option Claim) → content_by stripe file (seen k) c ≡ content_by stripe file k c
    same_content None = refl
    same_content (Some claim) = ap (λ (o : Option Op). if claim.count == length k.order + 1 then content_with stripe k.content o else k.content) (same_operation claim.id)

    same_once : (c : Option Claim) → fits_once file k.order (seen k).calls c ≡ fits_once file k.order k.calls c
    same_once None = refl
    same_once (Some claim) = ap (λ (o : Option Op). if claim.count == length k.order + 1 then is_change o && not (is_in claim.id k.order) else true) (same_operation claim.id)

    same_shown : (a : Option Answer) → fits_shown stripe file (seen k) a ≡ fits_shown stripe file k a
    same_shown None = refl
    same_shown (Some a) = ap (λ (o : Option Op). shows stripe k.order k.content a.id a.count a.bytes o) (same_operation a.id)

    same_end : (a : Option Answer) → fits_end file (seen k) a ≡ fits_end file k a
    same_end None = refl
    same_end (Some a) = ap (λ (o : Option Op). not (is_told o) || k.answered a.id a.count a.bytes) (same_operation a.id)

    module _ (mine : is_dealt file whole e ≡ true) where
      same_begin : fits_begin file (seen k) e ≡ fits_begin file k e
      same_begin = by e mine
        where
          by : (x : Entry) → is_dealt file whole x ≡ true → fits_begin file (seen k) x ≡ fits_begin file k x
          by (entry.Begin client number c) is =
              ap (λ (b : Bool). is_told (if b then k.calls (id_of client number) else None) || (not (is_told (operation_on file (Some c))) || not (b && k.ended (id_of client number))))
              (sym (here_by client number) ∙ is)
          by _ is = refl

      same_calls : (id : OpId) → option_or (if is_here id then k.calls id else None) (call_begun id e) ≡ (if is_here id then option_or (k.calls id) (call_begun id e) else None)
      same_calls id = by (is_here id) refl
        where
          nobody : (x : Entry) → is_dealt file whole x ≡ true → is_here id ≡ false → call_begun id x ≡ None
          nobody (entry.Begin client number c) is there =
              ap (λ (b : Bool). if b then Some c else None) (other_id id (id_of client number) false there (sym (here_by client number) ∙ is))
          nobody _ is there = refl

          by : (b : Bool) → is_here id ≡ b → option_or (if b then k.calls id else None) (call_begun id e) ≡ (if b then option_or (k.calls id) (call_begun id e) else None)
          by true is = refl
          by false is = nobody e mine is

      same_ended : (id : OpId) → ((is_here id && k.ended id) || is_end id (ok_told e)) ≡ (is_here id && (k.ended id || is_end id (ok_told e)))
      same_ended id = by (is_here id) refl
        where
          well : (client : NodeId) (number : ℕ) (how : Outcome) → is_id (id_of client number) id ≡ false → is_end id (ok_by client number how) ≡ false
          well client number (outcome.Ok count bytes) is = is
          well client number _ is = refl

          nobody : (x : Entry) → is_dealt file whole x ≡ true → is_here id ≡ false → is_end id (ok_told x) ≡ false
          nobody (entry.Done client number how) is there = well client number how (other_id (id_of client number) id true (sym (here_by client number) ∙ is) there)
          nobody _ is there = refl

          by : (b : Bool) → is_here id ≡ b → ((b && k.ended id) || is_end id (ok_told e)) ≡ (b && (k.ended id || is_end id (ok_told e)))
          by true is = refl
          by false is = nobody e mine is

      same_fits : (clause : Clause) → fits drift stripe file (seen k) e clause ≡ fits drift stripe file k e clause
      same_fits apart = refl
      same_fits acting = refl
      same_fits one_order = refl
      same_fits once = same_once (claim_on file e)
      same_fits shown = same_shown (answer_on file e)
      same_fits fresh = ap (λ b. b && fits_begin file (seen k) e) (same_end (ok_told e)) ∙ ap (λ b. fits_end file k (ok_told e) && b) same_begin

      pub after_seen : after drift stripe file (seen k) e ≡ seen (after drift stripe file k e)
      after_seen = λ i. record {
        stands = λ node. standing_after node file (k.stands node) e;
        holder = holder_after k.holder (looked_at file e) (λ node. holds_as drift (standing_after node file (k.stands node) e));
        order = order_by k.order (claim_on file e);
        content = same_content (claim_on file e) i;
        calls = λ id. same_calls id i;
        answered = λ id count bytes. ap (λ (o : Option Op). k.answered id count bytes || (is_answer id count bytes (answer_on file e) && is_told o)) (same_operation id) i;
        ended = λ id. same_ended id i;
        says = λ clause. ap (λ b. k.says clause && b) (same_fits clause) i;
      }

    -- ---- an entry that isn't

    module _ (p : Passes k e) where
      fits_still : (clause : Clause) → fits drift stripe file k e clause ≡ true
      fits_still apart = ap (λ (o : Option NodeId). fits_apart k.holder o (λ node. holds_as drift (standing_after node file (k.stands node) e))) p.looked
      fits_still acting = ap (λ (o : Option NodeId). fits_acting o (λ node. holds_as drift (k.stands node))) p.acts
      fits_still one_order = ap (fits_order k.order) p.claims
      fits_still once = ap (fits_once file k.order k.calls) p.claims
      fits_still shown = ap (fits_shown stripe file k) p.answers
      fits_still fresh = p.fits_so

      still_says : (clause : Clause) → k.says clause ≡ (k.says clause && fits drift stripe file k e clause)
      still_says clause = sym (ap (λ b. k.says clause && b) (fits_still clause) ∙ and_true (k.says clause))

      same_calls_then : (id : OpId) → (if is_here id then k.calls id else None) ≡ (if is_here id then option_or (k.calls id) (call_begun id e) else None)
      same_calls_then id = by (is_here id) refl
        where
          by : (b : Bool) → is_here id ≡ b → (if b then k.calls id else None) ≡ (if b then option_or (k.calls id) (call_begun id e) else None)
          by true is = sym (ap (option_or (k.calls id)) (p.begins id is) ∙ or_none (k.calls id))
          by false is = refl

      same_ended_then : (id : OpId) → (is_here id && k.ended id) ≡ (is_here id && (k.ended id || is_end id (ok_told e)))
      same_ended_then id = by (is_here id) refl
        where
          by : (b : Bool) → is_here id ≡ b → (b && k.ended id) ≡ (b && (k.ended id || is_end id (ok_told e)))
          by true is = sym (ap (λ b. k.ended id || b) (p.ends id is) ∙ or_false (k.ended id))
          by false is = refl

      same_answers : (id : OpId) (count : ℕ) (bytes : List ℕ) → k.answered id count bytes ≡ (k.answered id count bytes || (is_answer id count bytes (answer_on file e) && is_told (operation_on file (k.calls id))))
      same_answers id count bytes =
          sym (ap (λ (a : Option Answer). k.answered id count bytes || (is_answer id count bytes a && is_told (operation_on file (k.calls id)))) p.answers ∙ or_false (k.answered id count bytes))

      pub passes_seen : advanced (ticks_of e) (seen k) ≡ seen (after drift stripe file k e)
      passes_seen = λ i. record {
        stands = λ node. sym (p.stands node (k.stands node)) i;
        holder = sym (ap (λ (o : Option NodeId). holder_after k.holder o (λ node. holds_as drift (standing_after node file (k.stands node) e))) p.looked) i;
        order = sym (ap (order_by k.order) p.claims) i;
        content = sym (ap (content_by stripe file k) p.claims) i;
        calls = λ id. same_calls_then id i;
        answered = λ id count bytes. same_answers id count bytes i;
        ended = λ id. same_ended_then id i;
        says = λ clause. still_says clause i;
      }

  -- ---- the walk

  no_ticks : (k : Kept) → advanced 0 k ≡ k
  no_ticks k = λ i. record k { stands = λ node. no_advance (k.stands node) i }

  more_ticks : (a b : ℕ) (k : Kept) → advanced (a + b) k ≡ advanced b (advanced a k)
  more_ticks a b k = λ i. record k { stands = λ node. advance_twice a b (k.stands node) i }

  -- nothing has been found so far
  abbrev NoneFound : Bool → Kept → Type 0
  NoneFound placed k = placed ≡ true → least_broken k.says ≡ None

  nothing_at : (placed : Bool) (k : Kept) (count : ℕ) → NoneFound placed k → break_at placed (least_broken k.says) count ≡ None
  nothing_at false k count none = refl
  nothing_at true k count none = ap (λ (o : Option Clause). break_at true o count) (none refl)

  none_at : (placed : Bool) (broken : Option Clause) (count : ℕ) → break_at placed broken count ≡ None → placed ≡ true → broken ≡ None
  none_at false broken count is there = absurd (true≢false (sym there))
  none_at true None count is there = refl
  none_at true (Some c) count is there = absurd cc

  same_or : (b : Option Break) (one other : Option Break) → (b ≡ None → one ≡ other) → option_or b one ≡ option_or b other
  same_or None one other same = same refl
  same_or (Some b) one other same = refl

  module _ (drift stripe : ℕ) where
    abbrev Same : List Entry → Type 0
    Same es = (k short : Kept) (placed : Bool) (ticks count : ℕ) → Come k es → advanced ticks short ≡ seen k → NoneFound placed k
        → found_from drift stripe file short placed (dealt (is_dealt file whole) ticks count es) ≡ broken_from drift stripe file k placed count es

    module _ (e : Entry) (es : List Entry) (behind : Same es) (k short : Kept) (placed : Bool) (ticks count : ℕ) (come : Come k (e ∷ es)) (same : advanced ticks short ≡ seen k)
        (none : NoneFound placed k) where
      abbrev next : Kept
      next = after drift stripe file k e

      abbrev told_then : Bool
      told_then = placed || is_told (location_told file e)

      abbrev broken : Option Break
      broken = break_at told_then (least_broken next.says) (count + 1)

      mine : is_dealt file whole e ≡ true
          → found_from drift stripe file short placed ((let d : Dealt = record { number = count + 1; ticks = ticks; entry = e } in d) ∷ dealt (is_dealt file whole) 0 (count + 1) es)
          ≡ broken_from drift stripe file k placed count (e ∷ es)
      unfolding found_from broken_from
      mine is =
          ap (λ (z : Kept). option_or (break_at told_then (least_broken z.says) (count + 1)) (found_from drift stripe file z told_then (dealt (is_dealt file whole) 0 (count + 1) es)))
          (ap (λ (z : Kept). after drift stripe file z e) same ∙ after_seen drift stripe k e es come is)
          ∙ same_or broken (found_from drift stripe file (seen next) told_then (dealt (is_dealt file whole) 0 (count + 1) es)) (broken_from drift stripe file next told_then (count + 1) es)
          (λ nay. behind next (seen next) told_then 0 (count + 1) (come_more drift stripe k e es come) (no_ticks (seen next)) (none_at told_then (least_broken next.says) (count + 1) nay))

      others : is_dealt file whole e ≡ false
          → found_from drift stripe file short placed (dealt (is_dealt file whole) (ticks + ticks_of e) (count + 1) es) ≡ broken_from drift stripe file k placed count (e ∷ es)
      unfolding broken_from
      others is =
          behind next short placed (ticks + ticks_of e) (count + 1) (come_more drift stripe k e es come) (more_ticks ticks (ticks_of e) short ∙ ap (advanced (ticks_of e)) same ∙ passed) still
          ∙ ap (λ (b : Bool). broken_from drift stripe file next b (count + 1) es) (sym unplaced)
          ∙ sym (ap (λ (b : Option Break). option_or b (broken_from drift stripe file next told_then (count + 1) es)) nothing_here)
        where
          p : Passes k e
          p = passes k e es come is

          passed : advanced (ticks_of e) (seen k) ≡ seen next
          passed = passes_seen drift stripe k e es come p

          says_same : k.says ≡ next.says
          says_same = ap (λ (z : Kept). z.says) passed

          still : NoneFound placed next
          still there = ap least_broken (sym says_same) ∙ none there

          unplaced : told_then ≡ placed
          unplaced = ap (λ (o : Option _). placed || is_told o) p.place ∙ or_false placed

          nothing_here : broken ≡ None
          nothing_here = ap (λ b. break_at b (least_broken next.says) (count + 1)) unplaced ∙ nothing_at placed next (count + 1) still

    walk : (es : List Entry) → Same es
    unfolding dealt found_from broken_from
    walk [] k short placed ticks count come same none = refl
    walk (e ∷ es) k short placed ticks count come same none = by (walk es) (is_dealt file whole e) refl
      where
        by : Same es → (b : Bool) → is_dealt file whole e ≡ b
            → found_from drift stripe file short placed (if b then (let d : Dealt = record { number = count + 1; ticks = ticks; entry = e } in d) ∷ dealt (is_dealt file whole) 0 (count + 1) es else dealt (is_dealt file whole) (ticks + ticks_of e) (count + 1) es)
            ≡ broken_from drift stripe file k placed count (e ∷ es)
        by behind true is = mine e es behind k short placed ticks count come same none is
        by behind false is = others e es behind k short placed ticks count come same none is

    seen_nothing : seen nothing ≡ nothing
    seen_nothing = λ i. record nothing { calls = λ id. no_call (is_here id) i; ended = λ id. and_false (is_here id) i }
      where
        no_call : (b : Bool) → ◌≡◌ {A = Option Call} (if b then None else None) None
        no_call true = refl
        no_call false = refl

-- what is found of what is dealt is the verdict
pub deals : DealtJudge
unfolding judged judged_by_dealt
deals file entries =
    ap (λ (o : Option Break). if is_replicated file entries then o else None)
    (walk file (λ id. begun id entries) (times_of entries).drift (stripe_of file entries) entries nothing nothing false 0 0 (λ id. refl)
    (no_ticks file (λ id. begun id entries) nothing ∙ sym (seen_nothing file (λ id. begun id entries) (times_of entries).drift (stripe_of file entries))) (λ there. absurd (true≢false (sym there))))
