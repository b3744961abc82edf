-- a commit of what waits, and a look at the records, as the loop goes on by them
use Rattle.std.proofs.Common.{ℕ, ◌≡◌, ◌≢◌, ◌≤◌, refl, sym, ◌∙◌, ap, subst, Bool, Option, List, [], ◌++◌}
use Rattle.std.specs.Prelude.{IsTrue, Result, Ok, Err, IfOk, IfErr, OnOk, OnErr}
use Rattle.std.proofs.lemmas.List.{append-nil}
use Rattle.disk_model.specs.Disk.{IsImage}
use Rattle.disk_model.specs.declared.disk.Disk.{Ghosts}
use Rattle.xt_base.specs.declared.ids.Boot.{Boot}
use Rattle.xt_messages.specs.declared.record.Record.{Record}
use Rattle.xt_messages.specs.declared.status.Status.{Status}
use Rattle.replica_records.specs.Known.{known_of}
use Rattle.object_store.specs.declared.store.Store.{Store}
use Rattle.object_store.specs.Access.{records_of, disk_of}
use Rattle.object_store.specs.Waits.{recs_of}
use Rattle.node_links.specs.declared.link.Datagram.{Datagram}
use Rattle.node_runs.specs.Links.{Sends}
use Rattle.node_runs.specs.Runs.{Role, Served}
use Rattle.node_runs.specs.BatchEnds.{Doing, KeepsDoing, HasBatchCause, between}
use Rattle.node_runs.proofs.Keeping.{keeps_now}
use Rattle.node_loop.specs.declared.batch.Batch.{Batch}
use Rattle.node_loop.specs.declared.event.Ended.{Ended}
use Rattle.node_loop.specs.declared.site.Site.{Site}
use Rattle.node_loop.specs.Batched.{Held, held_of, journal_then, kept_of, posts_of, puts_of}
use Rattle.node_loop.specs.Passing.{Advances, by_commit, by_look, Changes, EndsCommit, HasEnded, not_put, IsDoing, IsIdle, Settles}
use Rattle.node_loop.specs.Settling.{HasSettled, served_of}
use Rattle.node_loop.specs.Stores.{journal_at}
use Rattle.node_loop.specs.Turns.{EndsSettling, standing}
use Rattle.node_loop.proofs.Counting.{stays_changed}
use Rattle.node_loop.proofs.Finishing.{look_ends, quiet_then}
use Rattle.node_loop.proofs.Holding.{held_alone, now_alone}
use Rattle.node_loop.proofs.Settling.{settling_cause}
use Rattle.node_loop.proofs.Turning.{gives_same, reads_same, sends_same}

module _ {N S D : Type 0} {g : Ghosts D} (state : N → S) (site : Site N) (store : Store D g) (batch : Batch) (old : Held S)
    (same : held_of state site store batch ≡ old) where
  commits_so : (kept : Store D g) (after : Batch) → records_of kept ≡ kept_of store batch → journal_at kept ≡ journal_then store batch → recs_of after.records ≡ [] → posts_of after ≡ []
      → held_of state site kept after ≡ record { now = old.now; puts = []; posts = [] }
  commits_so kept after recs journal none unsent =
      let moved : served_of state site kept ≡ (held_of state site store batch).now =
      λ i. standing (state site.node) (recs i) (journal i) site.own site.ears site.clock site.due site.sender.count site.woken in
      let now : served_of state site kept ≡ old.now = moved ∙ ap (λ (h : Held S). h.now) same in
      held_alone state site kept after none unsent ∙ (λ i. record { now = now i; puts = []; posts = [] })

  module _ (none : recs_of batch.records ≡ []) (unsent : posts_of batch ≡ []) where
    no_puts : old.puts ≡ []
    no_puts = ap (λ (h : Held S). h.puts) (sym same) ∙ ap (known_of g.is_told) none

    no_posts : old.posts ≡ []
    no_posts = ap (λ (h : Held S). h.posts) (sym same) ∙ unsent

    looks_from : served_of state site store ≡ old.now
    looks_from = sym (now_alone state site store batch none) ∙ ap (λ (h : Held S). h.now) same

module _ {S : Type 0} (role role' : Role S) (boot boot' : Boot) (period : ℕ) (r : role' ≡ role) (b : boot' ≡ boot) where
  settles_as : (told : Bool) (s s' n n' : Served S) → s ≡ s' → n ≡ n' → Settles told role' boot' period s n → Settles told role boot period s' n'
  settles_as told s s' n n' p q is =
      subst (λ x. Settles told role boot period x n') p (subst (λ x. Settles told role boot period s x) q
      (subst (λ x. Settles told role x period s n) b (subst (λ x. Settles told x boot' period s n) r is)))

  ends_settling_as : (s : Served S) (leaves : Doing → Type 0) (said : Status) → EndsSettling role' boot' period s leaves said → EndsSettling role boot period s leaves said
  ends_settling_as s leaves said is =
      subst (λ x. EndsSettling role x period s leaves said) b (subst (λ x. EndsSettling x boot' period s leaves said) r is)

-- after a pass in which nothing was done
module _ {N S D : Type 0} {g : Ghosts D} (role : Role S) (boot : Boot) (period limit spent now_spent : ℕ) (state : N → S) (site : Site N) (store : Store D g) (batch : Batch) (old : Held S)
    (given given_then sent sent_then : Option (List Datagram)) (losses losses_then : ℕ) (unread read : Option (List ℕ))
    (idle : IsIdle old (held_of state site store batch) spent now_spent given given_then sent sent_then losses losses_then unread read) where
  -- what waits is put and sent
  module _ (given_after sent_after : Option (List Datagram)) (losses_after : ℕ) (after : Batch) (same_given : given_after ≡ given_then) where
    pub commit_goes_on : (result : Result (Store D g) (Ended D)) → IfOk result (λ kept. records_of kept ≡ kept_of store batch)
        → IfOk result (λ kept. journal_at kept ≡ journal_then store batch) → OnOk result ((recs_of after.records ≡ []) × (posts_of after ≡ []))
        → IfOk result (λ kept. Changes g.is_told g.moment g.left_since (disk_of store) (disk_of kept) (records_of store) (records_of kept))
        → OnOk result (Sends sent_then sent_after losses_then losses_after (posts_of batch))
        → IfOk result (λ kept. Advances g.is_told role boot period g.kept g.moment g.left_since old (records_of store) (disk_of store) (disk_of kept) spent
        given given_after sent sent_after losses losses_after unread read (held_of state site kept after) (records_of kept) now_spent)
    commit_goes_on (Ok kept) recs journal none changes sends =
        by_commit (commits_so state site store batch old idle.same kept after recs journal none.0 none.1) changes idle.spends (same_given ∙ idle.received) idle.reads
        (subst (Sends sent sent_after losses losses_after) (ap (λ (h : Held S). h.posts) idle.same)
        (quiet_then sent sent_then sent_after losses losses_then losses_after (posts_of batch) idle.quiet sends))
    commit_goes_on (Err ended) recs journal none changes sends = tt

    pub commit_ends : (result : Result (Store D g) (Ended D)) → OnErr result ((sent_after ≡ sent_then) × (losses_after ≡ losses_then)) → OnErr result (puts_of g.is_told batch ≢ [])
        → IfErr result (λ ended. EndsCommit (IsDoing g.is_told g.kept g.moment g.left_since (disk_of store) ended.disk (records_of store)) (puts_of g.is_told batch) ended.status)
        → IfErr result (λ ended. HasEnded g.is_told role boot period g.kept g.moment g.left_since old (records_of store) (disk_of store) ended.disk spent
        given given_after sent sent_after losses losses_after unread read limit ended.status)
    commit_ends (Ok kept) quiet some ends = tt
    commit_ends (Err ended) quiet some ends =
        let puts : puts_of g.is_told batch ≡ old.puts ++ [] = ap (λ (h : Held S). h.puts) idle.same ∙ sym (append-nil old.puts) in
        not_put ended.status [] [] [] between (gives_same given given_after (same_given ∙ idle.received)) (reads_same unread read idle.reads)
        (quiet_then sent sent_then sent_after losses losses_then losses_after [] idle.quiet (sends_same sent_then sent_after losses_then losses_after quiet.0 quiet.1))
        (subst (λ (rs : List Record). rs ≢ []) puts some)
        (subst (λ (rs : List Record). EndsCommit (IsDoing g.is_told g.kept g.moment g.left_since (disk_of store) ended.disk (records_of store)) rs ended.status) puts ends)

  -- it looks at its records, where nothing waits
  module _ (roles : N → Role S) (runs_on : N → List Record → Type 0) (r : roles site.node ≡ role) (b : site.sender.boot ≡ boot)
      (nothing_waits : (recs_of batch.records ≡ []) × (posts_of batch ≡ [])) (after : Site N)
      (only : (disk : D) (image : List ℕ) → IsTrue g.is_told → g.left_since disk (g.moment disk) image → IsImage (g.kept disk) image) where
    from_there : served_of state site store ≡ old.now
    from_there = looks_from state site store batch old idle.same nothing_waits.0 nothing_waits.1

    no_record : old.puts ≡ []
    no_record = no_puts state site store batch old idle.same nothing_waits.0 nothing_waits.1

    no_post : old.posts ≡ []
    no_post = no_posts state site store batch old idle.same nothing_waits.0 nothing_waits.1

    pub look_goes_on : (result : Result (Store D g) (Ended D)) → HasSettled roles state runs_on site after store result
        → IfOk result (λ kept. Advances g.is_told role boot period g.kept g.moment g.left_since old (records_of store) (disk_of store) (disk_of kept) spent
        given given_then sent sent_then losses losses_then unread read (held_of state after kept batch) (records_of kept) now_spent)
    look_goes_on (Ok kept) is =
        by_look no_record no_post (ap (known_of g.is_told) nothing_waits.0) nothing_waits.1
        (settles_as role (roles site.node) boot site.sender.boot period r b g.is_told (served_of state site store) old.now (served_of state after kept) (held_of state after kept batch).now
        from_there (sym (now_alone state after kept batch nothing_waits.0)) (is.settles period))
        (record {
          on = is.keeps;
          now = keeps_now g.is_told g.kept g.moment g.left_since (disk_of kept) (records_of kept) kept.keeps (λ image told left. only (disk_of kept) image told left);
        })
        idle.spends idle.received idle.reads idle.quiet
    look_goes_on (Err ended) is = tt

    pub look_ends_it : ((disk : D) (t : ℕ) (image : List ℕ) → IsTrue g.is_told → t ≤ g.moment disk → IsImage (g.kept disk) image → g.left_since disk t image)
        → old.now.kept ≡ records_of store ++ old.puts → (result : Result (Store D g) (Ended D)) → HasSettled roles state runs_on site after store result
        → IfErr result (λ ended. HasEnded g.is_told role boot period g.kept g.moment g.left_since old (records_of store) (disk_of store) ended.disk spent
        given given_then sent sent_then losses losses_then unread read limit ended.status)
    look_ends_it counts_now kept_is (Ok kept) is = tt
    look_ends_it counts_now kept_is (Err ended) is =
        look_ends g.is_told g.kept g.moment g.left_since counts_now role boot period limit spent old (records_of store) (disk_of store) ended.disk kept_is
        given given_then sent sent_then losses losses_then unread read (served_of state site store) ended.status from_there no_record no_post idle.received idle.reads idle.quiet
        (stays_changed g.is_told g.kept g.moment g.left_since (disk_of store) (disk_of store) (records_of store) refl store.keeps only)
        (ends_settling_as role (roles site.node) boot site.sender.boot period r b (served_of state site store)
        (KeepsDoing g.is_told g.moment g.left_since (disk_of store) ended.disk (records_of store)) ended.status (is.ends period))

-- the link and the clock failed in no look
pub look_cause : {N S D : Type 0} {g : Ghosts D} (roles : N → Role S) (state : N → S) (runs_on : N → List Record → Type 0) (site after : Site N) (store : Store D g) (period : ℕ)
    (link link_after clock clock_after : ℕ) → link_after ≡ link → clock_after ≡ clock → (result : Result (Store D g) (Ended D)) → HasSettled roles state runs_on site after store result
    → IfErr result (λ ended. HasBatchCause link link_after clock clock_after ended.status)
look_cause roles state runs_on site after store period link link_after clock clock_after e f (Ok kept) is = tt
look_cause {g = g} roles state runs_on site after store period link link_after clock clock_after e f (Err ended) is =
    settling_cause (roles site.node) site.sender.boot period (served_of state site store) (KeepsDoing g.is_told g.moment g.left_since (disk_of store) ended.disk (records_of store))
    link link_after clock clock_after ended.status e f (is.ends period)
