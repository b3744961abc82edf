-- what a client holds of files: by number, once a capability is held, and after a step
use Rattle.std.proofs.Common.{◌≡◌, ◌≢◌, ℕ, Bool, true, false, refl, sym, ap, subst, ◌∙◌, Option, Some, None, [], ◌∷◌, cond, arith}
use Rattle.std.specs.Prelude.{◌==◌, nat_lt}
use Rattle.std.specs.Ordering.{nat_cmp, is_eq, match_ordering}
use Rattle.std.specs.declared.cmp.Ordering.{Ordering}
use Rattle.std.specs.declared.cmp.Ordering.TheVariants.{Less, Equal, Greater}
use Rattle.std.specs.BTreeMap.{insert_entry}
use Rattle.std.proofs.lemmas.Bool.{eqb-true}
use Rattle.std.proofs.lemmas.Bool.Decides.{nat_tests}
use Rattle.xt_base.specs.TimeSettings.{TimeSettings}
use Rattle.xt_base.specs.declared.ids.NodeId.{NodeId}
use Rattle.xt_base.specs.declared.ids.SizeMark.{SizeMark}
use Rattle.xt_messages.specs.declared.file.Capability.{Capability}
use Rattle.xt_messages.specs.declared.event.Event.{Event}
use Rattle.xt_messages.specs.declared.event.Outcome.{Outcome}
use Rattle.xt_messages.specs.declared.event.Outcome.TheVariants as outcome
use Rattle.truncate_epochs.specs.SizeMarks.{merged}
use Rattle.client_rows.specs.declared.holding.HeldFile.{HeldFile}
use Rattle.client_rows.specs.declared.progress.Learnt.{Learnt}
use Rattle.client_rows.specs.declared.progress.Learnt.TheVariants as learnt
use Rattle.client_rows.specs.declared.requests.Request.{Request}
use Rattle.client_rows.specs.declared.requests.MadeCall.{MadeCall}
use Rattle.client_rows.specs.declared.requests.Stage.{Stage}
use Rattle.client_rows.specs.declared.requests.Stage.TheVariants as stage
use Rattle.client_rows.specs.Clients.{step_of_client}
use Rattle.client_rows.specs.Ends.{ended_by}
use Rattle.client_rows.specs.Holding.{Held, held_of, mark_with, holds, marked, joins}
use Rattle.client_rows.specs.Requests.{file_of}
use Rattle.client_rows.specs.Waiting as waiting
use Rattle.client_rows.specs.Rows as rows
use Rattle.client_rows.specs.Rows.{WholeClient, stepped}
use Rattle.client_steps.specs.Asked.{IsOnFile, AllHeld, MadeIs, GrantIs}
use Rattle.client_steps.proofs.Waits.{LearntIs, MayGrant, event_learns, files_grant_nothing, event_grants}

-- ---- numbers

eq_is : (a b : ℕ) → is_eq (nat_cmp a b) ≡ true → a ≡ b
eq_is a b is = go (nat_lt a b) (a == b) refl is
  where
    go : (less same : Bool) → (a == b) ≡ same → is_eq (cond less Less (cond same Equal Greater)) ≡ true → a ≡ b
    go true same at h = absurd (cc)
    go false true at h = eqb-true a b at
    go false false at h = absurd (cc)

apart : (a b : ℕ) → a ≢ b → is_eq (nat_cmp a b) ≡ false
apart a b other = go (is_eq (nat_cmp a b)) refl
  where
    go : (same : Bool) → is_eq (nat_cmp a b) ≡ same → same ≡ false
    go true is = absurd (other (eq_is a b is))
    go false is = refl

one : (a : ℕ) → is_eq (nat_cmp a a) ≡ true
one a = go (nat_lt a a) (a == a) (not_less a) (is_same a)
  where
    not_less : (n : ℕ) → nat_lt n n ≡ false
    not_less n = grind (arith, nat_tests)

    is_same : (n : ℕ) → (n == n) ≡ true
    is_same n = grind (arith, nat_tests)

    go : (less same : Bool) → less ≡ false → same ≡ true → is_eq (cond less Less (cond same Equal Greater)) ≡ true
    go false true l s = refl
    go true same l s = absurd (cc)
    go false false l s = absurd (cc)

-- ---- by number

-- an entry that is put is found under its number
pub put_found : (held : Held) (file : ℕ) (h : HeldFile) → held_of (insert_entry nat_cmp held file h) file ≡ Some h
put_found [] file h = ap (λ (b : Bool). cond b (Some h) None) (one file)
put_found (e ∷ es) file h = go (nat_cmp file e.0) refl (put_found es file h)
  where
    go : (o : Ordering) → nat_cmp file e.0 ≡ o → held_of (insert_entry nat_cmp es file h) file ≡ Some h
        → held_of (match_ordering o ((file, h) ∷ e ∷ es) ((e.0, h) ∷ es) (e ∷ insert_entry nat_cmp es file h)) file ≡ Some h
    go Less is later = ap (λ (b : Bool). cond b (Some h) (held_of (e ∷ es) file)) (one file)
    go Equal is later = ap (λ (b : Bool). cond b (Some h) (held_of es file)) (ap is_eq is)
    go Greater is later = ap (λ (b : Bool). cond b (Some e.1) (held_of (insert_entry nat_cmp es file h) file)) (ap is_eq is) ∙ later

-- and what is held under other numbers stays
pub put_others : (held : Held) (file : ℕ) (h : HeldFile) (n : ℕ) → n ≢ file → held_of (insert_entry nat_cmp held file h) n ≡ held_of held n
put_others [] file h n other = ap (λ (b : Bool). cond b (Some h) None) (apart n file other)
put_others (e ∷ es) file h n other = go (nat_cmp file e.0) refl (put_others es file h n other)
  where
    go : (o : Ordering) → nat_cmp file e.0 ≡ o → held_of (insert_entry nat_cmp es file h) n ≡ held_of es n
        → held_of (match_ordering o ((file, h) ∷ e ∷ es) ((e.0, h) ∷ es) (e ∷ insert_entry nat_cmp es file h)) n ≡ held_of (e ∷ es) n
    go Less is later = ap (λ (b : Bool). cond b (Some h) (held_of (e ∷ es) n)) (apart n file other)
    go Equal is later =
        let strange : is_eq (nat_cmp n e.0) ≡ false = subst (λ (k : ℕ). is_eq (nat_cmp n k) ≡ false) (eq_is file e.0 (ap is_eq is)) (apart n file other) in
        ap (λ (b : Bool). cond b (Some h) (held_of es n)) strange ∙ sym (ap (λ (b : Bool). cond b (Some e.1) (held_of es n)) strange)
    go Greater is later = ap (λ (o : Option HeldFile). cond (is_eq (nat_cmp n e.0)) (Some e.1) o) later

-- a capability that is held is found under its file's number
pub ready_holds : (held : Held) (capability : Capability) (mark : SizeMark)
    → (h : HeldFile) × (held_of (holds held capability mark) capability.file.number ≡ Some h) × (h.capability ≡ capability)
ready_holds held capability mark =
    let h : HeldFile = record { capability = capability; mark = mark_with held capability.file.number mark } in
    (h, put_found held capability.file.number h, refl)

-- and what is held of other files stays
pub ready_others : (held : Held) (capability : Capability) (mark : SizeMark) (n : ℕ) → n ≢ capability.file.number → held_of (holds held capability mark) n ≡ held_of held n
ready_others held capability mark n other = put_others held capability.file.number (record { capability = capability; mark = mark_with held capability.file.number mark }) n other

module _ (IsHeld : ℕ → Capability → Type 0) where
  -- ---- each capability that is held

  abbrev FoundIs : ℕ → Option HeldFile → Type 0
  FoundIs n None = Unit {0}
  FoundIs n (Some h) = IsHeld n h.capability

  found_is : (held : Held) (n : ℕ) → AllHeld IsHeld held → FoundIs n (held_of held n)
  found_is [] n all = tt
  found_is (e ∷ es) n all = go (is_eq (nat_cmp n e.0)) refl (found_is es n all.1)
    where
      go : (b : Bool) → is_eq (nat_cmp n e.0) ≡ b → FoundIs n (held_of es n) → FoundIs n (cond b (Some e.1) (held_of es n))
      go true is later = subst (λ (k : ℕ). IsHeld k e.1.capability) (sym (eq_is n e.0 is)) all.0
      go false is later = later

  -- what is found is such a one
  pub held_found : (held : Held) (n : ℕ) (h : HeldFile) → held_of held n ≡ Some h → AllHeld IsHeld held → IsHeld n h.capability
  held_found held n h is all = subst (FoundIs n) is (found_is held n all)

  put_is : (held : Held) (file : ℕ) (h : HeldFile) → IsHeld file h.capability → AllHeld IsHeld held → AllHeld IsHeld (insert_entry nat_cmp held file h)
  put_is [] file h new all = (new, tt)
  put_is (e ∷ es) file h new all = go (nat_cmp file e.0) refl (put_is es file h new all.1)
    where
      go : (o : Ordering) → nat_cmp file e.0 ≡ o → AllHeld IsHeld (insert_entry nat_cmp es file h)
          → AllHeld IsHeld (match_ordering o ((file, h) ∷ e ∷ es) ((e.0, h) ∷ es) (e ∷ insert_entry nat_cmp es file h))
      go Less is later = (new, all)
      go Equal is later = (subst (λ (k : ℕ). IsHeld k h.capability) (eq_is file e.0 (ap is_eq is)) new, all.1)
      go Greater is later = (all.0, later)

  -- once a capability is held
  pub holds_held : (held : Held) (capability : Capability) (mark : SizeMark) → IsHeld capability.file.number capability → AllHeld IsHeld held
      → AllHeld IsHeld (holds held capability mark)
  holds_held held capability mark new all = put_is held capability.file.number (record { capability = capability; mark = mark_with held capability.file.number mark }) new all

  -- once a mark is joined
  pub joins_held : (held : Held) (file : ℕ) (mark : SizeMark) → AllHeld IsHeld held → AllHeld IsHeld (joins held file mark)
  joins_held held file mark all = go (held_of held file) (found_is held file all)
    where
      go : (o : Option HeldFile) → FoundIs file o → AllHeld IsHeld (marked held file mark o)
      go None here = all
      go (Some h) here = put_is held file (record { capability = h.capability; mark = merged h.mark mark }) here all

  -- ---- after a step

  learnt_held : (held : Held) (l : Learnt) → LearntIs IsHeld l → AllHeld IsHeld held → AllHeld IsHeld (rows.holds_learnt held l)
  learnt_held held (learnt.Mark file size) is all = joins_held held file size all
  learnt_held held (learnt.Capability capability size) is all = holds_held held capability size is all
  learnt_held held learnt.Nothing is all = all
  learnt_held held (learnt.Epoch file epoch) is all = all

  ended_held : (held : Held) (file : ℕ) (size : SizeMark) (how : Outcome) → AllHeld IsHeld held → AllHeld IsHeld (rows.held_behind held file size how)
  ended_held held file size (outcome.Ok count bytes) all = joins_held held file size all
  ended_held held file size _ all = all

  behind_held : (c : WholeClient) (made : Option MadeCall) (size : SizeMark) (how : Option Outcome) → AllHeld IsHeld c.held → AllHeld IsHeld (rows.behind c made size how).held
  behind_held c (Some made) size (Some how) all = ended_held c.held (file_of made.request) size how all
  behind_held c (Some made) size None all = all
  behind_held c None size how all = all

  module _ (node : NodeId) (times : TimeSettings) where
    goes_on_held : (c : WholeClient) (reading : ℕ) (happens : Event) (made : MadeCall) (s : Stage) → MayGrant IsHeld happens made.request → AllHeld IsHeld c.held
        → AllHeld IsHeld (rows.goes_on node times c reading happens made s).state.held
    goes_on_held c reading happens made stage.OnReplicas may all =
        let step = step_of_client node times c.replicas reading happens in
        behind_held (record c { replicas = step.state }) c.made (rows.mark_told happens) (ended_by None step.turned.marks) all
    goes_on_held c reading happens made (stage.Waiting target deadline) may all =
        let now = rows.clock_of c reading in
        learnt_held c.held (waiting.event_comes now c.held made target deadline happens).learnt (event_learns IsHeld now c.held made target deadline happens may) all
    goes_on_held c reading happens made (stage.Ended how) may all = all

    goes_with_held : (c : WholeClient) (reading : ℕ) (happens : Event) (o : Option MadeCall) → MadeIs (λ n asked. MayGrant IsHeld happens asked) o → AllHeld IsHeld c.held
        → AllHeld IsHeld (rows.goes_on_with node times c reading happens o).state.held
    goes_with_held c reading happens None may all = all
    goes_with_held c reading happens (Some made) may all = goes_on_held c reading happens made made.stage may all

  made_may : (happens : Event) (o : Option MadeCall) → ((asked : Request) → MayGrant IsHeld happens asked) → MadeIs (λ n asked. MayGrant IsHeld happens asked) o
  made_may happens None each = tt
  made_may happens (Some made) each = each made.request

  on_file_may : (happens : Event) (o : Option MadeCall) → MadeIs (λ n asked. IsOnFile asked) o → MadeIs (λ n asked. MayGrant IsHeld happens asked) o
  on_file_may happens None is = tt
  on_file_may happens (Some made) is = files_grant_nothing IsHeld happens made.request is

-- after an event a client holds what it held, and what the event granted
pub held_after : (IsHeld : ℕ → Capability → Type 0) (node : NodeId) (times : TimeSettings) (c : WholeClient) (reading : ℕ) (happens : Event)
    → GrantIs IsHeld happens → AllHeld IsHeld c.held → AllHeld IsHeld (stepped node times c reading happens).state.held
unfolding stepped
held_after IsHeld node times c reading happens grants all =
    goes_with_held IsHeld node times c reading happens c.made (made_may IsHeld happens c.made (λ asked. event_grants IsHeld happens asked grants)) all

-- what a client holds stays what it was granted, where no call to the metadata server runs
pub held_stays : (IsHeld : ℕ → Capability → Type 0) (node : NodeId) (times : TimeSettings) (c : WholeClient) (reading : ℕ) (happens : Event)
    → MadeIs (λ n asked. IsOnFile asked) c.made → AllHeld IsHeld c.held → AllHeld IsHeld (stepped node times c reading happens).state.held
unfolding stepped
held_stays IsHeld node times c reading happens is all =
    goes_with_held IsHeld node times c reading happens c.made (on_file_may IsHeld happens c.made is) all
