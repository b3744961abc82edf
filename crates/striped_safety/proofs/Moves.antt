-- what always holds of a striped file that one client uses
use Rattle.std.proofs.Common.{◌≡◌, ℕ, suc, ◌+◌, ◌-◌, ◌*◌, ◌%◌, ◌<◌, ◌≤◌, ◌⊎◌, inl, inr, true, false, List, [], ◌∷◌, ◌++◌, length, take, refl, ap, ap₂, sym, ◌∙◌, subst, arith, if◌then◌else◌, Option, Some, None}
use Rattle.std.specs.Prelude.{min}
use Rattle.std.proofs.lemmas.Bool.{cases_eq, ltb-false}
use Rattle.xt_base.specs.declared.ids.SizeMark.{SizeMark}
use Rattle.xt_base.specs.declared.ids.Stamp.{Stamp}
use Rattle.xt_base.specs.Overlay.{overlay, cut_or_filled}
use Rattle.xt_messages.specs.declared.file.Op.{Op}
use Rattle.xt_messages.specs.declared.file.Op.TheVariants.{Read, Write, Truncate}
use Rattle.xt_messages.specs.declared.record.Record.{Record}
use Rattle.xt_messages.specs.declared.record.Record.TheVariants as kept
use Rattle.xt_messages.specs.declared.reply.Reply.{Reply}
use Rattle.xt_messages.specs.declared.reply.Reply.TheVariants as reply
use Rattle.time_line.specs.Content.{place_of, content_after, content_from}
use Rattle.truncate_epochs.specs.SizeMarks.{merged}
use Rattle.replica_safety.specs.Epochs.{at_node}
use Rattle.replica_safety.specs.Lists.{Has}
use Rattle.replica_safety.proofs.Lists.{has-append, has-left}
use Rattle.xt_messages.specs.Limits.{FitsOp}
use Rattle.replica_runs.proofs.Bytes.{length-overlay, length-cut_or_filled}
use Rattle.replica_runs.proofs.Tools.{by_node, has-right}
use Rattle.xt_protocol.specs.declared.states.PlainActed.{PlainActed}
use Rattle.striped_safety.specs.Members.{Member, Lies, beyond, has_of, number_of}
use Rattle.striped_safety.specs.StripedWorld.{Setting, Asked, Replied, ReadShown, StripedWorld, StepEnd, whole, kept_alone, lost, Move, begins, acts, hears, ends, width_of, stripe_of, node_at, ops_of, Affects, Needs, acted_at, member_after, replied, shown_by, shown_of, done_with, after, MayBegin, MayHear, MayEnd, May, MayAll, after_all, first_world, IsRight, IsSetting, NotOk, StaysIn, refuses, forgets, with_bodies, HasSame}
use Rattle.striped_safety.specs.After.{content_made, epoch_by, epoch_from, epoch_made, mark_made, IsAfter, least_of, Rises, HasDone, bound_of, MemberStands, OkIs, BytesAre, AnswerIs, ReplyStands, AskStands, RunStands, Stands}
use Rattle.striped_safety.proofs.Shown.{lies_first}
use Rattle.striped_safety.proofs.MemberRows.{OkSays, Says, Takes, Does, does, some_of}
use Rattle.striped_safety.proofs.After.{content_push, epoch_push, Unaffected, aside, does_next}
use Rattle.striped_safety.proofs.Reading.{read_shows, join_same, join_later}

some_asked : {a b : Asked} → Some a ≡ Some b → a ≡ b
some_asked p = cc

some_record : {a b : Record} → Some a ≡ Some b → a ≡ b
some_record p = cc

running_none : (w : StripedWorld) (a : Asked) → w.runs ≡ None → w.runs ≡ Some a → ⊥
running_none w a e f = let both : None ≡ Some a = sym e ∙ f in cc both

same_run : (w : StripedWorld) (a b : Asked) → w.runs ≡ Some a → w.runs ≡ Some b → a ≡ b
same_run w a b e f = some_asked (sym e ∙ f)

-- ---- the start

content_none : (s : Setting) → content_made s [] ≡ []
unfolding content_from
content_none s = refl

epoch_none : epoch_made [] ≡ 0
unfolding epoch_from
epoch_none = refl

pub start_stands : (s : Setting) → Stands s first_world
start_stands s =
    record {
      some = omega arith;
      members = λ p low. inl (record {
        old = λ o v e. absurd (cc);
        lies = λ o at. subst (λ c. Lies (stripe_of s) c o []) (sym (content_none s)) (lies_first (stripe_of s) o);
        epoch = sym epoch_none;
        size = omega arith;
        had = λ x has f. absurd has;
        top = omega arith;
      });
      asks = λ a has. absurd has;
      run = tt;
      past = λ a has. absurd has;
      replies = λ r has. absurd has;
      told = λ p e a f. absurd (cc);
      mark = inl (ap₂ (λ (x y : ℕ). record { epoch = x; size = y }) (sym epoch_none) (sym (ap length (content_none s))));
      reads = λ r has. absurd has;
    }

-- ---- numbers

bound_low : (s : Setting) (w : StripedWorld) → (o : Option Asked) → RunStands s w o → bound_of w.next o ≤ w.next
bound_low s w None run = omega arith
bound_low s w (Some a) run = let next = run.0 in omega (arith, next)

raised : (s : Setting) (xs : List Asked) (low high place : ℕ) (m : Member) → low ≤ high → IsAfter s xs low place m → IsAfter s xs high place m
raised s xs low high place m above is = let top = is.top in record { old = is.old; lies = is.lies; epoch = is.epoch; size = is.size; had = is.had; top = omega (arith, top, above) }

-- what is after the operations that are done, while this one runs
left_of : (s : Setting) (w : StripedWorld) (a : Asked) (place : ℕ) (m : Member) → w.runs ≡ Some a → IsAfter s w.done (bound_of w.next w.runs) place m → IsAfter s w.done a.number place m
left_of s w a place m e is = subst (λ (o : Option Asked). IsAfter s w.done (bound_of w.next o) place m) e is

past_of : (s : Setting) (w : StripedWorld) (a x : Asked) → w.runs ≡ Some a → Stands s w → Has x w.done → x.number < a.number
past_of s w a x e st has = subst (λ (o : Option Asked). x.number < bound_of w.next o) e (st.past x has)

next_of : (s : Setting) (w : StripedWorld) (a : Asked) → w.runs ≡ Some a → Stands s w → w.next ≡ suc a.number
next_of s w a e st = (subst (RunStands s w) e st.run).0

ask_low : (s : Setting) (w : StripedWorld) (a : Asked) → Stands s w → AskStands s w a → a.number < w.next
ask_low s w a st is = at is.known
  where
    at : (w.runs ≡ Some a) ⊎ Has a w.done → a.number < w.next
    at (inl e) = let next = next_of s w a e st in omega (arith, next)
    at (inr has) = let low = st.past a has in let most = bound_low s w w.runs st.run in omega (arith, low, most)

-- ---- a call begins

begin_stands : (s : Setting) (w : StripedWorld) (a : Asked) → MayBegin s w a → Stands s w → Stands s (after s w (begins a))
begin_stands s w a may st =
    record {
      some = omega arith;
      members = λ p low. of_member p (st.members p low);
      asks = of_ask;
      run = (refl, first);
      past = λ x has. let low = subst (λ (o : Option Asked). x.number < bound_of w.next o) may.rests (st.past x has) in omega (arith, low, above);
      replies = λ r has. let is = st.replies r has in let low = is.low in record { low = omega (arith, low, above); answer = λ b e same. absurd (let number = ap (λ (x : Asked). x.number) (some_asked e) in omega (arith, low, above, number, same)) };
      told = λ p e b f. absurd (cc);
      mark = of_mark st.mark;
      reads = st.reads;
    }
  where
    above : w.next ≤ a.number
    above = may.above

    first : 1 ≤ a.number
    first = let some = st.some in omega (arith, some, above)

    of_member : (p : ℕ) → MemberStands s w p (w.members p) → MemberStands s (after s w (begins a)) p (w.members p)
    of_member p (inl is) = inl (raised s w.done w.next a.number p (w.members p) above (subst (λ (o : Option Asked). IsAfter s w.done (bound_of w.next o) p (w.members p)) may.rests is))
    of_member p (inr b) = absurd (running_none w b.0 may.rests b.1)

    of_ask : (x : Asked) → Has x (a ∷ w.asks) → AskStands s (after s w (begins a)) x
    of_ask x (inl e) = subst (AskStands s (after s w (begins a))) (sym e) (record { some = first; fits = may.fits; known = inl refl })
    of_ask x (inr has) = let is = st.asks x has in record { some = is.some; fits = is.fits; known = inr (known is.known) }
      where
        known : (w.runs ≡ Some x) ⊎ Has x w.done → Has x w.done
        known (inl e) = absurd (running_none w x may.rests e)
        known (inr h) = h

    of_mark : (w.mark ≡ mark_made s w.done) ⊎ ((b : Asked) × (w.runs ≡ Some b) × (w.mark ≡ mark_made s (w.done ++ b ∷ []))) → (w.mark ≡ mark_made s w.done) ⊎ ((b : Asked) × (Some a ≡ Some b) × (w.mark ≡ mark_made s (w.done ++ b ∷ [])))
    of_mark (inl e) = inl e
    of_mark (inr b) = absurd (running_none w b.0 may.rests b.1)

-- ---- members act

ok_later : (s : Setting) (w : StripedWorld) (f : ℕ → Member) (place : ℕ) (a : Asked) (size : SizeMark) → number_of (w.members place) s.client.0 ≤ number_of (f place) s.client.0 → OkIs s w place a size → OkIs s (record w { members = f }) place a size
ok_later s w f place a size grows is =
    record { epoch = is.epoch; most = is.most; reach = is.reach; rises = is.rises; had = λ g. let before = is.had g in omega (arith, before, grows); inside = is.inside }

answer_later : (s : Setting) (w : StripedWorld) (f : ℕ → Member) (place : ℕ) (a : Asked) (answer : Reply) → number_of (w.members place) s.client.0 ≤ number_of (f place) s.client.0 → AnswerIs s w place a answer → AnswerIs s (record w { members = f }) place a answer
answer_later s w f place a (reply.Ok count size bytes) grows is = (ok_later s w f place a size grows is.0, is.1)
answer_later s w f place a (reply.NoLease end) grows is = tt
answer_later s w f place a (reply.NoMajority have need) grows is = tt
answer_later s w f place a (reply.Elsewhere node end) grows is = tt
answer_later s w f place a (reply.Denied rule) grows is = tt
answer_later s w f place a (reply.OldList version) grows is = tt
answer_later s w f place a (reply.OldEpoch epoch) grows is = tt
answer_later s w f place a (reply.TooFar object) grows is = tt
answer_later s w f place a reply.ClientsFull grows is = tt

members_stand : (s : Setting) (w : StripedWorld) (f : ℕ → Member) → Stands s w → ((p : ℕ) → p < width_of s → MemberStands s w p (f p)) → ((p : ℕ) → number_of (w.members p) s.client.0 ≤ number_of (f p) s.client.0)
    → Stands s (record w { members = f })
members_stand s w f st new grows =
    record {
      some = st.some;
      members = λ p low. new p low;
      asks = λ a has. let is = st.asks a has in record { some = is.some; fits = is.fits; known = is.known };
      run = of_run w.runs st.run;
      past = st.past;
      replies = λ r has. let is = st.replies r has in record { low = is.low; answer = λ a e same. answer_later s w f r.place a r.answer (grows r.place) (is.answer a e same) };
      told = λ p e a g. let is = st.told p e a g in let more = grows p in (λ h. let before = is.0 h in omega (arith, before, more), is.1, is.2);
      mark = st.mark;
      reads = st.reads;
    }
  where
    of_run : (o : Option Asked) → RunStands s w o → RunStands s (record w { members = f }) o
    of_run None run = run
    of_run (Some a) run = run

replies_stand : (s : Setting) (w : StripedWorld) (more : List Replied) → Stands s w → ((r : Replied) → Has r more → ReplyStands s w r) → Stands s (record w { replies = more ++ w.replies })
replies_stand s w more st new =
    record {
      some = st.some;
      members = λ p low. st.members p low;
      asks = λ a has. let is = st.asks a has in record { some = is.some; fits = is.fits; known = is.known };
      run = of_run w.runs st.run;
      past = st.past;
      replies = λ r has. of_reply r (has-append r more w.replies has);
      told = st.told;
      mark = st.mark;
      reads = st.reads;
    }
  where
    of_run : (o : Option Asked) → RunStands s w o → RunStands s (record w { replies = more ++ w.replies }) o
    of_run None run = run
    of_run (Some a) run = run

    of_answer : (place : ℕ) (a : Asked) (answer : Reply) → AnswerIs s w place a answer → AnswerIs s (record w { replies = more ++ w.replies }) place a answer
    of_answer place a (reply.Ok count size bytes) is = (record { epoch = is.0.epoch; most = is.0.most; reach = is.0.reach; rises = is.0.rises; had = is.0.had; inside = is.0.inside }, is.1)
    of_answer place a (reply.NoLease end) is = tt
    of_answer place a (reply.NoMajority have need) is = tt
    of_answer place a (reply.Elsewhere node end) is = tt
    of_answer place a (reply.Denied rule) is = tt
    of_answer place a (reply.OldList version) is = tt
    of_answer place a (reply.OldEpoch epoch) is = tt
    of_answer place a (reply.TooFar object) is = tt
    of_answer place a reply.ClientsFull is = tt

    at : (r : Replied) → ReplyStands s w r → ReplyStands s (record w { replies = more ++ w.replies }) r
    at r is = record { low = is.low; answer = λ a e same. of_answer r.place a r.answer (is.answer a e same) }

    of_reply : (r : Replied) → Has r more ⊎ Has r w.replies → ReplyStands s (record w { replies = more ++ w.replies }) r
    of_reply r (inl h) = at r (new r h)
    of_reply r (inr h) = at r (st.replies r h)

-- a reply that isn't Ok says nothing
no_answer : (s : Setting) (w : StripedWorld) (place : ℕ) (a : Asked) (answer : Reply) → NotOk answer → AnswerIs s w place a answer
no_answer s w place a (reply.Ok count size bytes) not = absurd not
no_answer s w place a (reply.NoLease end) not = tt
no_answer s w place a (reply.NoMajority have need) not = tt
no_answer s w place a (reply.Elsewhere node end) not = tt
no_answer s w place a (reply.Denied rule) not = tt
no_answer s w place a (reply.OldList version) not = tt
no_answer s w place a (reply.OldEpoch epoch) not = tt
no_answer s w place a (reply.TooFar object) not = tt
no_answer s w place a reply.ClientsFull not = tt

refuses_stand : (s : Setting) (w : StripedWorld) (place : ℕ) (a : Asked) (answer : Reply) → Has a w.asks → NotOk answer → Stands s w → Stands s (after s w (refuses place a answer))
refuses_stand s w place a answer has not st = replies_stand s w (record { place = place; number = a.number; answer = answer } ∷ []) st new
  where
    new : (r : Replied) → Has r (record { place = place; number = a.number; answer = answer } ∷ []) → ReplyStands s w r
    new r (inl same) =
        subst (ReplyStands s w) (sym same) (record { low = ask_low s w a st (st.asks a has); answer = λ b e number. no_answer s w place b answer not })
    new r (inr h) = absurd h

-- a member after its step
record Next (s : Setting) (w : StripedWorld) (place : ℕ) (n : Member) : Type 0 where
  pub stands : MemberStands s w place n
  pub grows : number_of (w.members place) s.client.0 ≤ number_of n s.client.0

module _ (s : Setting) (is : IsSetting s) (w : StripedWorld) (st : Stands s w) (place : ℕ) (low : place < width_of s) (a : Asked) (asked : AskStands s w a) (inside : StaysIn s a.op) where
  -- an operation that a member does for the first time is the one that runs
  record Runs (acted : PlainActed) (takes : Takes s place (w.members place) a acted) : Type 0 where
    running : w.runs ≡ Some a
    is_after : HasDone s w.done w.next place a (beyond s.file (node_at s place) (w.members place) (Some (kept.Update s.file takes.update)))

  runs_of : (acted : PlainActed) (takes : Takes s place (w.members place) a acted) → MemberStands s w place (w.members place) → (w.runs ≡ Some a) ⊎ Has a w.done → Runs acted takes
  runs_of acted takes (inl b) (inl e) =
      let left = left_of s w a place (w.members place) e b in
      record {
        running = e;
        is_after =
            subst (λ n. HasDone s w.done n place a (beyond s.file (node_at s place) (w.members place) (Some (kept.Update s.file takes.update)))) (sym (next_of s w a e st))
            (does_next s is.members is.stripe w.done a.number place (w.members place) a left inside (omega arith) acted takes);
      }
  runs_of acted takes (inl b) (inr has) = absurd (let before = b.had a has takes.owned in let later = takes.passed.later in omega (arith, before, later))
  runs_of acted takes (inr b) (inl e) =
      absurd (let same = ap (λ (x : Asked). x.number) (same_run w b.0 a b.1 e) in let last = b.2.last in let later = takes.passed.later in omega (arith, same, last, later))
  runs_of acted takes (inr b) (inr has) =
      absurd (let before = b.2.is_after.had a (has-left a w.done (b.0 ∷ []) has) takes.owned in let later = takes.passed.later in omega (arith, before, later))

  keeps_update : (acted : PlainActed) (takes : Takes s place (w.members place) a acted) →
      beyond s.file (node_at s place) (w.members place) (Some (kept.Update s.file takes.update)) ≡ beyond s.file (node_at s place) (w.members place) acted.rec
  keeps_update acted takes = ap (beyond s.file (node_at s place) (w.members place)) (sym takes.keeps)

  next_member : (acted : PlainActed) → Does s place (w.members place) a acted → Next s w place (beyond s.file (node_at s place) (w.members place) acted.rec)
  next_member acted (inl rests) =
      subst (λ (rec : Option Record). Next s w place (beyond s.file (node_at s place) (w.members place) rec)) (sym rests.0) (record { stands = st.members place low; grows = omega arith })
  next_member acted (inr takes) =
      let runs = runs_of acted takes (st.members place low) asked.known in
      let last = runs.is_after.last in
      let later = takes.passed.later in
      subst (Next s w place) (keeps_update acted takes) (record { stands = inr (a, runs.running, runs.is_after); grows = omega (arith, last, later) })

  bytes_of_change : (op : Op) → Affects (width_of s) place op → BytesAre s w place [] op
  bytes_of_change (Read object at len) f = absurd f
  bytes_of_change (Write object at bytes) f = tt
  bytes_of_change (Truncate size) f = tt

  changed_ok : (size : SizeMark) → w.runs ≡ Some a → MemberStands s w place (w.members place) → size ≡ (w.members place).head.mark → a.number ≡ number_of (w.members place) s.client.0 → OkIs s w place a size
  changed_ok size running (inl b) same number = absurd (let top = (left_of s w a place (w.members place) running b).top in omega (arith, top, number))
  changed_ok size running (inr b) same number =
      let d = subst (λ (x : Asked). HasDone s w.done w.next place x (w.members place)) (same_run w b.0 a b.1 running) b.2 in
      subst (OkIs s w place a) (sym same) (record { epoch = d.is_after.epoch; most = d.is_after.size; reach = d.reach; rises = d.rises; had = λ f. omega (arith, number); inside = inside })

  -- an Ok of the operation that runs, where nothing was kept
  old_ok : (size : SizeMark) (bytes : List ℕ) (op : Op) → a.op ≡ op → FitsOp op → w.runs ≡ Some a → MemberStands s w place (w.members place) → OkSays s (w.members place) a size bytes op
      → OkIs s w place a size × BytesAre s w place bytes op
  old_ok size bytes (Read object at len) e allowed running (inl b) says =
      let left = left_of s w a place (w.members place) running b in
      let content : content_made s (w.done ++ a ∷ []) ≡ content_made s w.done = content_push s w.done a ∙ ap (content_after (stripe_of s) (content_made s w.done)) e in
      let epoch : epoch_made (w.done ++ a ∷ []) ≡ epoch_made w.done = epoch_push w.done a ∙ ap (epoch_by (epoch_made w.done) a) e in
      let long = ap length content in
      let most = left.size in
      let size_is = ap (λ (x : SizeMark). x.size) says.0 in (
        record {
          epoch = ap (λ (x : SizeMark). x.epoch) says.0 ∙ left.epoch ∙ sym epoch;
          most = omega (arith, long, most, size_is);
          reach = subst (λ op. least_of (stripe_of s) op ≤ size.size) (sym e) (omega arith);
          rises = subst (λ op. Rises (epoch_made w.done) a op) (sym e) tt;
          had = λ f. absurd (subst (Affects (width_of s) place) e f);
          inside = inside;
        },
        λ owned. (has_of (w.members place) object, left.lies object owned, says.1),
      )
  old_ok size bytes (Read object at len) e allowed running (inr b) says = absurd (subst (Affects (width_of s) place) (ap (λ (x : Asked). x.op) (same_run w b.0 a b.1 running) ∙ e) b.2.affects)
  old_ok size bytes (Write object at new) e allowed running stands says = (changed_ok size running stands says.0 says.1, tt)
  old_ok size bytes (Truncate new) e allowed running stands says = (changed_ok size running stands says.0 says.1, tt)

  -- and where its update was
  new_ok : (acted : PlainActed) (takes : Takes s place (w.members place) a acted) → (f : ℕ → Member) → f place ≡ beyond s.file (node_at s place) (w.members place) acted.rec → Runs acted takes
      → OkIs s (record w { members = f }) place a takes.update.mark
  new_ok acted takes f at runs =
      let d = runs.is_after in
      let n = beyond s.file (node_at s place) (w.members place) (Some (kept.Update s.file takes.update)) in
      let number : number_of (f place) s.client.0 ≡ a.number = ap (λ (x : Member). number_of x s.client.0) (at ∙ sym (keeps_update acted takes)) ∙ d.last in
      record { epoch = d.is_after.epoch; most = d.is_after.size; reach = d.reach; rises = d.rises; had = λ g. omega (arith, number); inside = inside }

  -- any reply of the member
  answer_is : (acted : PlainActed) (f : ℕ → Member) → f place ≡ beyond s.file (node_at s place) (w.members place) acted.rec → number_of (w.members place) s.client.0 ≤ number_of (f place) s.client.0
      → w.runs ≡ Some a → Does s place (w.members place) a acted → (answer : Reply) → acted.reply ≡ Some answer → AnswerIs s (record w { members = f }) place a answer
  answer_is acted f at grows running (inl rests) (reply.Ok count size bytes) e =
      let ok = old_ok size bytes a.op refl asked.fits running (st.members place low) (subst (Says s (w.members place) a) e rests.1) in
      (ok_later s w f place a size grows ok.0, ok.1)
  answer_is acted f at grows running (inr takes) (reply.Ok count size bytes) e =
      let same : reply.Ok takes.update.stamp.count takes.update.mark [] ≡ reply.Ok count size bytes = some_reply (sym takes.replies ∙ e) in
      subst (AnswerIs s (record w { members = f }) place a) same
      (new_ok acted takes f at (runs_of acted takes (st.members place low) asked.known), bytes_of_change a.op takes.owned)
    where
      some_reply : {x y : Reply} → Some x ≡ Some y → x ≡ y
      some_reply p = cc
  answer_is acted f at grows running does (reply.NoLease end) e = tt
  answer_is acted f at grows running does (reply.NoMajority have need) e = tt
  answer_is acted f at grows running does (reply.Elsewhere node end) e = tt
  answer_is acted f at grows running does (reply.Denied rule) e = tt
  answer_is acted f at grows running does (reply.OldList version) e = tt
  answer_is acted f at grows running does (reply.OldEpoch epoch) e = tt
  answer_is acted f at grows running does (reply.TooFar object) e = tt
  answer_is acted f at grows running does reply.ClientsFull e = tt

  reply_is : (acted : PlainActed) (f : ℕ → Member) → f place ≡ beyond s.file (node_at s place) (w.members place) acted.rec → number_of (w.members place) s.client.0 ≤ number_of (f place) s.client.0
      → Does s place (w.members place) a acted → (answer : Option Reply) → acted.reply ≡ answer → (r : Replied) → Has r (replied place a.number answer) → ReplyStands s (record w { members = f }) r
  reply_is acted f at grows does None e r has = absurd has
  reply_is acted f at grows does (Some answer) e r (inl same) =
      subst (ReplyStands s (record w { members = f })) (sym same)
      (record {
        low = ask_low s w a st asked;
        answer = λ b running number.
            subst (λ (x : Asked). AnswerIs s (record w { members = f }) place x answer) (is_it b running number asked.known) (answer_is acted f at grows (subst (λ (x : Asked). w.runs ≡ Some x) (sym (is_it b running number asked.known)) running) does answer e);
      })
    where
      is_it : (b : Asked) → w.runs ≡ Some b → a.number ≡ b.number → (w.runs ≡ Some a) ⊎ Has a w.done → a ≡ b
      is_it b running number (inl h) = same_run w a b h running
      is_it b running number (inr h) = absurd (let before = past_of s w b a running st h in omega (arith, before, number))
  reply_is acted f at grows does (Some answer) e r (inr h) = absurd h

  it_does : Does s place (w.members place) a (acted_at s w place a)
  it_does = does s place (w.members place) a is.members low asked.some

  kept_stands : Stands s (record w { members = at_node place (member_after s w place a) w.members })
  kept_stands =
      let next = next_member (acted_at s w place a) it_does in
      members_stand s w (at_node place (member_after s w place a) w.members) st
      (λ p l. by_node (λ b. MemberStands s w p (if b then member_after s w place a else w.members p)) p place (λ e. subst (λ (k : ℕ). MemberStands s w k (member_after s w place a)) (sym e) next.stands) (λ _. st.members p l))
      (λ p. by_node (λ b. number_of (w.members p) s.client.0 ≤ number_of (if b then member_after s w place a else w.members p) s.client.0) p place
      (λ e. subst (λ (k : ℕ). number_of (w.members k) s.client.0 ≤ number_of (member_after s w place a) s.client.0) (sym e) next.grows) (λ _. omega arith))

  at_place : at_node place (member_after s w place a) w.members place ≡ member_after s w place a
  at_place = by_node (λ b. (if b then member_after s w place a else w.members place) ≡ member_after s w place a) place place (λ _. refl) (λ ne. absurd (ne refl))

  whole_stands : Stands s (after s w (acts place a whole))
  whole_stands =
      let next = next_member (acted_at s w place a) it_does in
      let f = at_node place (member_after s w place a) w.members in
      replies_stand s (record w { members = f }) (replied place a.number (acted_at s w place a).reply) kept_stands
      (reply_is (acted_at s w place a) f at_place (subst (λ (n : Member). number_of (w.members place) s.client.0 ≤ number_of n s.client.0) (sym at_place) next.grows) it_does (acted_at s w place a).reply refl)

  acts_stand : (how : StepEnd) → Stands s (after s w (acts place a how))
  acts_stand whole = whole_stands
  acts_stand kept_alone = kept_stands
  acts_stand lost = st

-- ---- the client hears an Ok

-- the mark that is joined is that after the operation
joined_mark : (s : Setting) (w : StripedWorld) (place : ℕ) (a : Asked) (size : SizeMark) → OkIs s w place a size → (w.mark ≡ mark_made s w.done) ⊎ (w.mark ≡ mark_made s (w.done ++ a ∷ [])) → merged w.mark size ≡ mark_made s (w.done ++ a ∷ [])
joined_mark s w place a size ok (inr e) =
    let most = ok.most in
    let own = ap (λ (x : SizeMark). x.size) e in
    join_same w.mark size (mark_made s (w.done ++ a ∷ [])) (ap (λ (x : SizeMark). x.epoch) e) ok.epoch (omega (arith, most, own))
joined_mark s w place a size ok (inl e) = by_op a.op refl ok.reach ok.rises
  where
    by_op : (op : Op) → a.op ≡ op → least_of (stripe_of s) op ≤ size.size → Rises (epoch_made w.done) a op → merged w.mark size ≡ mark_made s (w.done ++ a ∷ [])
    by_op (Read object at len) at_op reach rises =
        let content : content_made s (w.done ++ a ∷ []) ≡ content_made s w.done = content_push s w.done a ∙ ap (content_after (stripe_of s) (content_made s w.done)) at_op in
        let epoch : epoch_made (w.done ++ a ∷ []) ≡ epoch_made w.done = epoch_push w.done a ∙ ap (epoch_by (epoch_made w.done) a) at_op in
        let long = ap length content in
        let most = ok.most in
        let own = ap (λ (x : SizeMark). x.size) e in
        join_same w.mark size (mark_made s (w.done ++ a ∷ [])) (ap (λ (x : SizeMark). x.epoch) e ∙ sym epoch) ok.epoch (omega (arith, most, own, long))
    by_op (Write object at bytes) at_op reach rises =
        let content : content_made s (w.done ++ a ∷ []) ≡ overlay (content_made s w.done) (place_of (stripe_of s) object at) bytes = content_push s w.done a ∙ ap (content_after (stripe_of s) (content_made s w.done)) at_op in
        let epoch : epoch_made (w.done ++ a ∷ []) ≡ epoch_made w.done = epoch_push w.done a ∙ ap (epoch_by (epoch_made w.done) a) at_op in
        let long = ap length content ∙ length-overlay (content_made s w.done) (place_of (stripe_of s) object at) bytes in
        let most = ok.most in
        let own = ap (λ (x : SizeMark). x.size) e in
        join_same w.mark size (mark_made s (w.done ++ a ∷ [])) (ap (λ (x : SizeMark). x.epoch) e ∙ sym epoch) ok.epoch (omega (arith, most, own, long, reach))
    by_op (Truncate new) at_op reach rises =
        let content : content_made s (w.done ++ a ∷ []) ≡ cut_or_filled (content_made s w.done) new = content_push s w.done a ∙ ap (content_after (stripe_of s) (content_made s w.done)) at_op in
        let epoch : epoch_made (w.done ++ a ∷ []) ≡ a.epoch = epoch_push w.done a ∙ ap (epoch_by (epoch_made w.done) a) at_op in
        let long = ap length content ∙ length-cut_or_filled (content_made s w.done) new in
        let most = ok.most in
        let own = ap (λ (x : SizeMark). x.epoch) e in
        let told = ok.epoch in
        let whole : size.size ≡ length (content_made s (w.done ++ a ∷ [])) = omega (arith, most, long, reach) in
        join_later w.mark size (mark_made s (w.done ++ a ∷ [])) (omega (arith, own, told, epoch, rises)) (ap₂ (λ (x y : ℕ). record { epoch = x; size = y }) told whole)

read_right : (s : Setting) (w : StripedWorld) (place : ℕ) (a : Asked) (all : SizeMark) (bytes : List ℕ) (op : Op) → a.op ≡ op → StaysIn s op → Needs (width_of s) place op → all ≡ mark_made s (w.done ++ a ∷ []) → BytesAre s w place bytes op
    → (r : ReadShown) → Has r (shown_by (stripe_of s) (ops_of w.done) all bytes op) → IsRight s r
read_right s w place a all bytes (Read object at len) e allowed needed mark are r (inl same) =
    let content : content_made s (w.done ++ a ∷ []) ≡ content_made s w.done = content_push s w.done a ∙ ap (content_after (stripe_of s) (content_made s w.done)) e in
    let size : all.size ≡ length (content_made s w.done) = ap (λ (x : SizeMark). x.size) mark ∙ ap length content in
    let found = are needed in
    subst (IsRight s) (sym same)
    (ap₂ (λ (n : ℕ) (b : List ℕ). take (min len (n - (object * stripe_of s + at))) b) size found.2
    ∙ read_shows (stripe_of s) object at len (content_made s w.done) found.0 (ltb-false (stripe_of s) (at + len) allowed) found.1)
read_right s w place a all bytes (Read object at len) e allowed needed mark are r (inr h) = absurd h
read_right s w place a all bytes (Write object at new) e allowed needed mark are r has = absurd has
read_right s w place a all bytes (Truncate new) e allowed needed mark are r has = absurd has

hears_stand : (s : Setting) (w : StripedWorld) (place number count : ℕ) (size : SizeMark) (bytes : List ℕ) → MayHear s w place number count size bytes → Stands s w → Stands s (after s w (hears place number count size bytes))
hears_stand s w place number count size bytes may st =
    record {
      some = st.some;
      members = λ p low. st.members p low;
      asks = λ x has. let is = st.asks x has in record { some = is.some; fits = is.fits; known = is.known };
      run = of_run w.runs st.run;
      past = st.past;
      replies = λ r has. let is = st.replies r has in record { low = is.low; answer = λ b e same. of_answer r.place b r.answer (is.answer b e same) };
      told = λ p e b f. (had p b f e, mark_of b f, subst (λ (x : Asked). StaysIn s x.op) (same_run w may.asked b may.running f) found.0.inside);
      mark = inr (a, may.running, joined);
      reads = λ r has. of_read r (has-append r (shown_of s w all bytes w.runs) w.reads has);
    }
  where
    a : Asked
    a = may.asked

    all : SizeMark
    all = merged w.mark size

    found : OkIs s w place may.asked size × BytesAre s w place bytes may.asked.op
    found = (st.replies (record { place = place; number = number; answer = reply.Ok count size bytes }) may.sent).answer may.asked may.running may.same

    known : (w.mark ≡ mark_made s w.done) ⊎ ((b : Asked) × (w.runs ≡ Some b) × (w.mark ≡ mark_made s (w.done ++ b ∷ []))) → (w.mark ≡ mark_made s w.done) ⊎ (w.mark ≡ mark_made s (w.done ++ may.asked ∷ []))
    known (inl e) = inl e
    known (inr b) = inr (b.2 ∙ ap (λ (x : Asked). mark_made s (w.done ++ x ∷ [])) (same_run w b.0 may.asked b.1 may.running))

    joined : merged w.mark size ≡ mark_made s (w.done ++ may.asked ∷ [])
    joined = joined_mark s w place may.asked size found.0 (known st.mark)

    mark_of : (b : Asked) → w.runs ≡ Some b → merged w.mark size ≡ mark_made s (w.done ++ b ∷ [])
    mark_of b f = joined ∙ ap (λ (x : Asked). mark_made s (w.done ++ x ∷ [])) (same_run w may.asked b may.running f)

    had : (p : ℕ) (b : Asked) → w.runs ≡ Some b → at_node place true w.told p ≡ true → Affects (width_of s) p b.op → b.number ≤ number_of (w.members p) s.client.0
    had p b f = by_node (λ t. (if t then true else w.told p) ≡ true → Affects (width_of s) p b.op → b.number ≤ number_of (w.members p) s.client.0) p place
        (λ same _ g. subst (λ k. b.number ≤ number_of (w.members k) s.client.0) (sym same)
        (subst (λ (x : Asked). Affects (width_of s) place x.op → x.number ≤ number_of (w.members place) s.client.0) (same_run w may.asked b may.running f) found.0.had (subst (λ k. Affects (width_of s) k b.op) same g)))
        (λ _ e g. (st.told p e b f).0 g)

    of_run : (o : Option Asked) → RunStands s w o → RunStands s (after s w (hears place number count size bytes)) o
    of_run None run = run
    of_run (Some b) run = run

    of_answer : (q : ℕ) (b : Asked) (answer : Reply) → AnswerIs s w q b answer → AnswerIs s (after s w (hears place number count size bytes)) q b answer
    of_answer q b (reply.Ok n z bs) is = (record { epoch = is.0.epoch; most = is.0.most; reach = is.0.reach; rises = is.0.rises; had = is.0.had; inside = is.0.inside }, is.1)
    of_answer q b (reply.NoLease end) is = tt
    of_answer q b (reply.NoMajority have need) is = tt
    of_answer q b (reply.Elsewhere node end) is = tt
    of_answer q b (reply.Denied rule) is = tt
    of_answer q b (reply.OldList version) is = tt
    of_answer q b (reply.OldEpoch epoch) is = tt
    of_answer q b (reply.TooFar object) is = tt
    of_answer q b reply.ClientsFull is = tt

    of_read : (r : ReadShown) → Has r (shown_of s w (merged w.mark size) bytes w.runs) ⊎ Has r w.reads → IsRight s r
    of_read r (inl h) =
        read_right s w place may.asked (merged w.mark size) bytes may.asked.op refl found.0.inside may.needed joined found.1 r
        (subst (λ (o : Option Asked). Has r (shown_of s w (merged w.mark size) bytes o)) may.running h)
    of_read r (inr h) = st.reads r h

-- ---- a call ends well

-- which place an operation needs
needed_by : (s : Setting) → IsSetting s → (op : Op) → (place : ℕ) × (place < width_of s) × Needs (width_of s) place op
needed_by s is (Read object at len) = (object % width_of s, (let some = some_of s.location.members is.members in omega (arith, some)), refl)
needed_by s is (Write object at bytes) = (object % width_of s, (let some = some_of s.location.members is.members in omega (arith, some)), refl)
needed_by s is (Truncate size) = (let some = some_of s.location.members is.members in (0, some, some))

ends_stand : (s : Setting) (is : IsSetting s) (w : StripedWorld) (may : MayEnd s w) → Stands s w → Stands s (record w { done = w.done ++ may.asked ∷ []; runs = None; told = λ p. false })
ends_stand s is w may st =
    record {
      some = st.some;
      members = λ p low. inl (of_member p low (st.members p low));
      asks = λ x has. let it = st.asks x has in record { some = it.some; fits = it.fits; known = inr (known x it.known) };
      run = tt;
      past = λ x has. past x (has-append x w.done (may.asked ∷ []) has);
      replies = λ r has. record { low = (st.replies r has).low; answer = λ b e same. absurd (cc) };
      told = λ p e b f. absurd (cc);
      mark = inl marked;
      reads = st.reads;
    }
  where
    next : w.next ≡ suc may.asked.number
    next = next_of s w may.asked may.running st

    allowed : StaysIn s may.asked.op
    allowed = (st.told (needed_by s is may.asked.op).0 (may.all (needed_by s is may.asked.op).0 (needed_by s is may.asked.op).1 (needed_by s is may.asked.op).2) may.asked may.running).2

    -- one that it affects has had it
    has_had : (p : ℕ) → p < width_of s → Needs (width_of s) p may.asked.op → Affects (width_of s) p may.asked.op → may.asked.number ≤ number_of (w.members p) s.client.0
    has_had p low needs affects = (st.told p (may.all p low needs) may.asked may.running).0 affects

    left : (p : ℕ) → p < width_of s → IsAfter s w.done may.asked.number p (w.members p) → (op : Op) → may.asked.op ≡ op → IsAfter s (w.done ++ may.asked ∷ []) w.next p (w.members p)
    left p low b (Read object at len) e = aside s w.done may.asked may.asked.number w.next p (w.members p) b (omega (arith, next)) allowed (subst (λ op. Unaffected (width_of s) p op) (sym e) tt)
    left p low b (Write object at bytes) e =
        elim (cases_eq (object % width_of s) p) as (λ x. IsAfter s (w.done ++ may.asked ∷ []) w.next p (w.members p)) [
          | inl same ↦
              absurd
              (let had = has_had p low (subst (λ op. Needs (width_of s) p op) (sym e) same) (subst (λ op. Affects (width_of s) p op) (sym e) same) in let top = b.top in omega (arith, had, top))
          | inr ne ↦ aside s w.done may.asked may.asked.number w.next p (w.members p) b (omega (arith, next)) allowed (subst (λ op. Unaffected (width_of s) p op) (sym e) ne)
        ]
    left p low b (Truncate size) e =
        absurd (let had = has_had p low (subst (λ op. Needs (width_of s) p op) (sym e) low) (subst (λ op. Affects (width_of s) p op) (sym e) tt) in let top = b.top in omega (arith, had, top))

    of_member : (p : ℕ) → p < width_of s → MemberStands s w p (w.members p) → IsAfter s (w.done ++ may.asked ∷ []) w.next p (w.members p)
    of_member p low (inl b) = left p low (left_of s w may.asked p (w.members p) may.running b) may.asked.op refl
    of_member p low (inr b) = (subst (λ (x : Asked). HasDone s w.done w.next p x (w.members p)) (same_run w b.0 may.asked b.1 may.running) b.2).is_after

    known : (x : Asked) → (w.runs ≡ Some x) ⊎ Has x w.done → Has x (w.done ++ may.asked ∷ [])
    known x (inl e) = has-right x w.done (may.asked ∷ []) (inl (same_run w x may.asked e may.running))
    known x (inr h) = has-left x w.done (may.asked ∷ []) h

    past : (x : Asked) → Has x w.done ⊎ Has x (may.asked ∷ []) → x.number < w.next
    past x (inl h) = let low = past_of s w may.asked x may.running st h in omega (arith, low, next)
    past x (inr (inl e)) = let same = ap (λ (y : Asked). y.number) e in omega (arith, same, next)
    past x (inr (inr h)) = absurd h

    marked : w.mark ≡ mark_made s (w.done ++ may.asked ∷ [])
    marked =
        let one = needed_by s is may.asked.op in
        (st.told one.0 (may.all one.0 one.1 one.2) may.asked may.running).1

-- ---- members forget bodies

forgets_after : (s : Setting) (xs : List Asked) (bound place : ℕ) (m : Member) (body : ℕ → Stamp → List ℕ) → HasSame body m → IsAfter s xs bound place m → IsAfter s xs bound place (with_bodies body m)
forgets_after s xs bound place m body same is =
    record {
      old = is.old;
      lies = λ o at. subst (Lies (stripe_of s) (content_made s xs) o) (sym (same o)) (is.lies o at);
      epoch = is.epoch;
      size = is.size;
      had = is.had;
      top = is.top;
    }

forgets_member : (s : Setting) (w : StripedWorld) (place : ℕ) (m : Member) (body : ℕ → Stamp → List ℕ) → HasSame body m → MemberStands s w place m → MemberStands s w place (with_bodies body m)
forgets_member s w place m body same (inl is) = inl (forgets_after s w.done (bound_of w.next w.runs) place m body same is)
forgets_member s w place m body same (inr is) =
    inr (
      is.0,
      is.1,
      record {
        affects = is.2.affects;
        is_after = forgets_after s (w.done ++ is.0 ∷ []) w.next place m body same is.2.is_after;
        reach = is.2.reach;
        rises = is.2.rises;
        last = is.2.last;
      },
    )

forgets_stand : (s : Setting) (w : StripedWorld) (bodies : ℕ → ℕ → Stamp → List ℕ) → ((place : ℕ) → place < width_of s → HasSame (bodies place) (w.members place)) → Stands s w → Stands s (after s w (forgets bodies))
forgets_stand s w bodies same st =
    members_stand s w (λ place. with_bodies (bodies place) (w.members place)) st (λ p low. forgets_member s w p (w.members p) (bodies p) (same p low) (st.members p low)) (λ p. omega arith)

-- ---- any move

pub step_stands : (s : Setting) → IsSetting s → (w : StripedWorld) (step : Move) → May s w step → Stands s w → Stands s (after s w step)
step_stands s is w (begins a) may st = begin_stands s w a may st
step_stands s is w (acts place a how) may st = acts_stand s is w st place may.0 a (st.asks a may.1) may.2 how
step_stands s is w (refuses place a answer) may st = refuses_stand s w place a answer may.0 may.1 st
step_stands s is w (forgets bodies) may st = forgets_stand s w bodies may st
step_stands s is w (hears place number count size bytes) may st = hears_stand s w place number count size bytes may st
step_stands s is w ends may st =
    subst (λ (o : Option Asked). Stands s (record w { done = done_with w.done o; runs = None; told = λ p. false })) (sym may.running) (ends_stand s is w may st)

steps_stand : (s : Setting) → IsSetting s → (w : StripedWorld) (moves : List Move) → MayAll s w moves → Stands s w → Stands s (after_all s w moves)
steps_stand s is w [] may st = st
steps_stand s is w (step ∷ moves) may st = steps_stand s is (after s w step) moves may.1 (step_stands s is w step may.0 st)

-- Each read that was shown is right.
pub reads_right : (s : Setting) → IsSetting s → (moves : List Move) → MayAll s first_world moves → (r : ReadShown) → Has r (after_all s first_world moves).reads → IsRight s r
reads_right s is moves may = (steps_stand s is first_world moves may (start_stands s)).reads
