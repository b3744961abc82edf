-- a look at the records after a Wake
use Rattle.std.proofs.Common.{ℕ, ◌≡◌, sym, subst, Bool, false, Some, None, List, inl}
use Rattle.xt_base.specs.declared.ids.Boot.{Boot}
use Rattle.xt_messages.specs.declared.record.KeepBody.{KeepBody}
use Rattle.xt_messages.specs.declared.record.Record.{Record}
use Rattle.xt_messages.specs.declared.status.Status.{Status}
use Rattle.xt_messages.specs.declared.status.Status.TheVariants as status
use Rattle.xt_protocol.specs.Forgetting.{rewritten}
use Rattle.node_runs.specs.Runs.{Role, Served, JournalAt, moved_to, lacks, Rests, Rewrites, rewrites_with, by_no_room, by_rest}
use Rattle.node_runs.specs.BatchEnds.{Doing, HasBatchCause}
use Rattle.node_loop.specs.Passing.{Settles, stays, rewrites}
use Rattle.node_loop.specs.Turns.{EndsSettling}

module _ {S : Type 0} (told : Bool) (role : Role S) (boot : Boot) (period : ℕ) (s : Served S) where
  pub has_rested : Rests role boot period s → Settles told role boot period s (record s { woken = false })
  has_rested is = stays (λ to_come. by_rest is)

  module _ (keep : List KeepBody) (is : Rewrites role boot period s keep) where
    pub has_rewritten : (state : S) (kept : List Record) (journal : JournalAt) → state ≡ role.without keep s.state → kept ≡ rewritten keep s.kept
        → journal ≡ moved_to s.journal (rewritten keep s.kept) → lacks s.journal (rewritten keep s.kept) ≡ None
        → Settles told role boot period s (record s { state = state; kept = kept; journal = journal; woken = false })
    has_rewritten state kept journal st ks js room =
        let same : record s { state = state; kept = kept; journal = journal; woken = false } ≡ rewrites_with role boot period s keep =
        λ i. record s { state = st i; kept = ks i; journal = js i; woken = false } in
        subst (λ n. Settles told role boot period s n) (sym same) (rewrites keep is room)

    pub has_no_room : (kept : List Record) (journal : JournalAt) (need : ℕ) → kept ≡ s.kept → journal ≡ s.journal
        → lacks s.journal (rewritten keep s.kept) ≡ Some need
        → Settles told role boot period s (record s { kept = kept; journal = journal; woken = false })
    has_no_room kept journal need ks js lacking =
        let same : record s { kept = kept; journal = journal; woken = false } ≡ record s { woken = false } =
        λ i. record s { kept = ks i; journal = js i; woken = false } in
        subst (λ n. Settles told role boot period s n) (sym same) (stays (λ to_come. by_no_room keep need is lacking))

-- the link and the clock failed in no look
pub settling_cause : {S : Type 0} (role : Role S) (boot : Boot) (period : ℕ) (s : Served S) (leaves : Doing → Type 0) (link link_after clock clock_after : ℕ) (said : Status)
    → link_after ≡ link → clock_after ≡ clock → EndsSettling role boot period s leaves said → HasBatchCause link link_after clock clock_after said
settling_cause role boot period s leaves link link_after clock clock_after (status.DiskFault count) e f is = inl (e, f)
settling_cause role boot period s leaves link link_after clock clock_after status.OutOfMemory e f is = inl (e, f)
settling_cause role boot period s leaves link link_after clock clock_after _ e f is = absurd is
