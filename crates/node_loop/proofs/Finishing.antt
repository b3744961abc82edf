-- how a node ends, once what waits is put and sent, or that failed
use Rattle.std.proofs.Common.{ℕ, ◌≡◌, ◌≢◌, ◌≤◌, ◌⊎◌, refl, sym, ◌∙◌, ap, subst, Bool, Option, List, [], ◌∷◌, ◌++◌, inl, inr, arith}
use Rattle.std.proofs.lemmas.List.{append-nil}
use Rattle.std.specs.Prelude.{IsTrue}
use Rattle.disk_model.specs.Disk.{Kept, IsImage}
use Rattle.xt_base.specs.declared.ids.Boot.{Boot}
use Rattle.xt_messages.specs.declared.record.KeepBody.{KeepBody}
use Rattle.xt_messages.specs.declared.record.Record.{Record}
use Rattle.xt_messages.specs.declared.status.Status.{Status}
use Rattle.xt_messages.specs.declared.status.Status.TheVariants as status
use Rattle.xt_protocol.specs.Forgetting.{rewritten}
use Rattle.node_links.specs.declared.link.Datagram.{Datagram}
use Rattle.node_links.specs.Streams.{Takes}
use Rattle.node_runs.specs.Links.{Sends, Reads}
use Rattle.node_runs.specs.Runs.{Role, Served, Turn, datagrams_in, readings_in}
use Rattle.node_runs.specs.Serving.{front_in, HasServeCause}
use Rattle.node_runs.specs.Keeping.{StandsForOne, KeepsOn, KeepsNow}
use Rattle.node_runs.specs.BatchEnds.{Doing, nothing, putting, has_put, rewriting, all_done, puts_in, between, in_event, EndsBatches, KeepsDoing, LeavesDoing, HasBatchCause, RoseOnce}
use Rattle.node_runs.proofs.Sending.{sends_none, sends_join, takes_none, reads_none}
use Rattle.node_loop.proofs.Turning.{sends_same}
use Rattle.node_loop.specs.declared.event.Stop.{Stop}
use Rattle.node_loop.specs.declared.event.Stop.TheVariants as stop
use Rattle.node_loop.specs.Batched.{Held, HasMailed}
use Rattle.node_loop.specs.Turns.{EndsSettling}
use Rattle.node_loop.specs.Passing.{status_of, WaitsAsBefore, WaitsWithRecord, HasStopped, EndsCommit, Changes, IsDoing, HasFinished, all_put, none_put, HasEnded, after_commit, not_put, after_put}

-- nothing, and then these
pub quiet_then : (before then after : Option (List Datagram)) (first losses later : ℕ) (posts : List Datagram) → Sends before then first losses [] → Sends then after losses later posts
    → Sends before after first later posts
quiet_then before then after first losses later posts quiet sends = sends_join before then after first losses later [] posts quiet sends

module _ {D : Type 0} (told : Bool) (kept : D → Kept) (moment : D → ℕ) (left_since : D → ℕ → List ℕ → Type 0)
    (counts_now : (disk : D) (t : ℕ) (image : List ℕ) → IsTrue told → t ≤ moment disk → IsImage (kept disk) image → left_since disk t image) where
  -- what a crash leaves in the end is what a crash at any moment leaves
  in_the_end : (before after : D) (records next : List Record) → KeepsOn told moment left_since before after (records ∷ next ∷ [])
      → IsTrue told → (image : List ℕ) → IsImage (kept after) image → StandsForOne (records ∷ next ∷ []) image
  in_the_end before after records next on told' image is =
      let leaves = on told' in
      leaves.each image (counts_now after (moment before) image told' leaves.later is)

  now_as : (after : D) (records : List Record) → (IsTrue told → KeepsNow moment left_since after records) → LeavesDoing told kept after records nothing
  now_as after records now told' image is = inl (now told' image (counts_now after (moment after) image told' (omega arith) is))

  pub does_nothing : (before after : D) (records : List Record) → Changes told moment left_since before after records records
      → IsDoing told kept moment left_since before after records nothing
  does_nothing before after records changes = (changes.on, now_as after records changes.now)

  one_of_same : (records : List Record) (image : List ℕ) → StandsForOne (records ∷ records ∷ []) image → StandsForOne (records ∷ []) image
  one_of_same records image (inl is) = inl is
  one_of_same records image (inr (inl is)) = inl is
  one_of_same records image (inr (inr is)) = absurd is

  pub leaves_nothing : (before after : D) (records : List Record) → KeepsDoing told moment left_since before after records nothing
      → IsDoing told kept moment left_since before after records nothing
  leaves_nothing before after records on =
      (on, λ told' image is. one_of_same records image (in_the_end before after records records on told' image is))

  pub leaves_putting : (before after : D) (records puts : List Record) → KeepsDoing told moment left_since before after records (putting puts)
      → IsDoing told kept moment left_since before after records (putting puts)
  leaves_putting before after records puts on = (on, in_the_end before after records (records ++ puts) on)

  pub leaves_rewriting : (before after : D) (records : List Record) (keep : List KeepBody) → KeepsDoing told moment left_since before after records (rewriting keep)
      → IsDoing told kept moment left_since before after records (rewriting keep)
  leaves_rewriting before after records keep on = (on, in_the_end before after records (rewritten keep records) on)

  does_put : (before after : D) (records puts : List Record) → Changes told moment left_since before after records (records ++ puts)
      → IsDoing told kept moment left_since before after records (has_put puts)
  does_put before after records puts changes = (changes.on, now_as after (records ++ puts) changes.now)

  module _ {S : Type 0} (role : Role S) (boot : Boot) (period limit spent : ℕ) (old : Held S) (records : List Record) (before after : D)
      (kept_is : old.now.kept ≡ records ++ old.puts) where
    module _ (given given' sent sent_between sent_after : Option (List Datagram)) (losses losses_between losses_after : ℕ) (unread read : Option (List ℕ))
        (puts : List Record) (posts : List Datagram) (count : ℕ) (why : Stop) where
      abbrev Ended : Status → Type 0
      Ended said = HasEnded told role boot period kept moment left_since old records before after spent given given' sent sent_after losses losses_after unread read limit said

      module _ (turns : List Turn) (unheard : List Datagram) (received : Takes given given' (datagrams_in turns ++ unheard)) (reads : Reads unread read (readings_in turns)) where
        as_before : (said : Status) → WaitsAsBefore told role boot period limit spent old puts posts given given' sent sent_between losses losses_between unread read why turns unheard
            → HasFinished told kept moment left_since before after records puts posts sent_between sent_after losses_between losses_after count why said → Ended said
        as_before said w (all_put between' first then closed sends) =
            let all : records ++ puts ≡ old.now.kept = ap (λ (rs : List Record). records ++ rs) w.same_puts ∙ sym kept_is in
            let went : Sends sent sent_after losses losses_after posts = quiet_then sent sent_between sent_after losses losses_between losses_after posts w.quiet sends in
            after_commit (status_of count why) (record all_done { turns = turns; unread = unheard }) between'
            (subst (λ (rs : List Record). Changes told moment left_since before between' records rs) all first)
            received reads
            (subst (Sends sent sent_after losses losses_after) (w.same_posts ∙ sym (append-nil old.posts)) went)
            (w.ends count)
            (subst (λ (rs : List Record). IsDoing told kept moment left_since between' after rs nothing) all (does_nothing between' after (records ++ puts) then))
        as_before said w (none_put _ some quiet does) =
            not_put said turns unheard [] w.stops received reads (quiet_then sent sent_between sent_after losses losses_between losses_after [] w.quiet quiet)
            (subst (λ (rs : List Record). rs ≢ []) (w.same_puts ∙ sym (append-nil old.puts)) some)
            (subst (λ (rs : List Record). EndsCommit (IsDoing told kept moment left_since before after records) rs said) (w.same_puts ∙ sym (append-nil old.puts)) does)

        module _ (w : WaitsWithRecord told role boot period limit spent old puts posts given given' sent sent_between losses losses_between unread read why turns unheard) where
          received_in : Takes given given' (datagrams_in w.it.turn ++ [])
          received_in = subst (λ (ts : List Turn). Takes given given' (datagrams_in ts ++ [])) w.turns_are
              (subst (λ (ds : List Datagram). Takes given given' (datagrams_in turns ++ ds)) w.unheard_is received)

          reads_in : Reads unread read (readings_in w.it.turn)
          reads_in = subst (λ (ts : List Turn). Reads unread read (readings_in ts)) w.turns_are reads

          sent_then : Sends sent_between sent_after losses_between losses_after posts
              → HasMailed puts old.posts posts sent sent_between losses losses_between (front_in told role boot period given old.now w.it w.count)
              → Sends sent sent_after losses losses_after (old.posts ++ front_in told role boot period given old.now w.it w.count)
          sent_then sends (inl (same, quiet)) =
              subst (Sends sent sent_after losses losses_after) same (quiet_then sent sent_between sent_after losses losses_between losses_after posts quiet sends)
          sent_then sends (inr (none, unsent, empty, went)) =
              let f = front_in told role boot period given old.now w.it w.count in
              let all : Sends sent sent_after losses losses_after (f ++ []) =
              sends_join sent sent_between sent_after losses losses_between losses_after f [] went (subst (Sends sent_between sent_after losses_between losses_after) empty sends) in
              subst (Sends sent sent_after losses losses_after) (append-nil f ∙ ap (λ (ds : List Datagram). ds ++ f) (sym unsent)) all

          with_record_put : (between' : D) → Changes told moment left_since before between' records (records ++ puts) → ((said : Status) → why ≡ stop.With said → after ≡ between')
              → Sends sent_between sent_after losses_between losses_after posts → Ended status.OutOfMemory
          with_record_put between' first closed sends =
              let there : Changes told moment left_since before after records (records ++ puts) =
              subst (λ (d : D). Changes told moment left_since before d records (records ++ puts)) (sym (closed status.OutOfMemory w.why_is)) first in
              after_put w.it w.count w.fits received_in reads_in (sent_then sends w.mails)
              (subst (λ (rs : List Record). IsDoing told kept moment left_since before after records (has_put rs)) w.puts_are (does_put before after records puts there))

          quiet_all : puts ≢ [] → Sends sent_between sent_after losses_between losses_after []
              → HasMailed puts old.posts posts sent sent_between losses losses_between (front_in told role boot period given old.now w.it w.count)
              → Sends sent sent_after losses losses_after []
          quiet_all some quiet (inl (same, went)) = quiet_then sent sent_between sent_after losses losses_between losses_after [] went quiet
          quiet_all some quiet (inr (none, unsent, empty, went)) = absurd (some none)

          with_record : (said : Status)
              → HasFinished told kept moment left_since before after records puts posts sent_between sent_after losses_between losses_after count why said → Ended said
          with_record said (all_put between' first then closed sends) =
              subst (λ (s : Stop). Ended (status_of count s)) (sym w.why_is) (with_record_put between' first closed sends)
          with_record said (none_put _ some quiet does) =
              not_put said w.it.turn [] (puts_in told role boot period given old.now w.it) (in_event w.it w.fits) received_in reads_in
              (quiet_all some quiet w.mails)
              (subst (λ (rs : List Record). rs ≢ []) w.puts_are some)
              (subst (λ (rs : List Record). EndsCommit (IsDoing told kept moment left_since before after records) rs said) w.puts_are does)

      pub ended_by : (said : Status)
          → HasStopped told role boot period limit spent old puts posts given given' sent sent_between losses losses_between unread read why
          → HasFinished told kept moment left_since before after records puts posts sent_between sent_after losses_between losses_after count why said
          → HasEnded told role boot period kept moment left_since old records before after spent given given' sent sent_after losses losses_after unread read limit said
      ended_by said is finished = by_how is.how
        where
          by_how : WaitsAsBefore told role boot period limit spent old puts posts given given' sent sent_between losses losses_between unread read why is.turns is.unheard
              ⊎ WaitsWithRecord told role boot period limit spent old puts posts given given' sent sent_between losses losses_between unread read why is.turns is.unheard
              → HasEnded told role boot period kept moment left_since old records before after spent given given' sent sent_after losses losses_after unread read limit said
          by_how (inl w) = as_before is.turns is.unheard is.received is.reads said w finished
          by_how (inr w) = with_record is.turns is.unheard is.received is.reads w said finished

      pub ended_then : (given_after : Option (List Datagram)) (said : Status) → given_after ≡ given'
          → HasStopped told role boot period limit spent old puts posts given given' sent sent_between losses losses_between unread read why
          → HasFinished told kept moment left_since before after records puts posts sent_between sent_after losses_between losses_after count why said
          → HasEnded told role boot period kept moment left_since old records before after spent given given_after sent sent_after losses losses_after unread read limit said
      ended_then given_after said e is finished =
          subst (λ o. HasEnded told role boot period kept moment left_since old records before after spent given o sent sent_after losses losses_after unread read limit said) (sym e)
          (ended_by said is finished)

    -- a look at the records ends the node
    pub look_ends : (given given' sent sent_after : Option (List Datagram)) (losses losses_after : ℕ) (unread read : Option (List ℕ)) (s : Served S) (said : Status)
        → s ≡ old.now → old.puts ≡ [] → old.posts ≡ [] → given' ≡ given → read ≡ unread → Sends sent sent_after losses losses_after []
        → Changes told moment left_since before before records records
        → EndsSettling role boot period s (KeepsDoing told moment left_since before after records) said
        → HasEnded told role boot period kept moment left_since old records before after spent given given' sent sent_after losses losses_after unread read limit said
    look_ends given given' sent sent_after losses losses_after unread read s said same none unsent g r quiet here ends =
        by_status said (subst (λ (x : Served S). EndsSettling role boot period x (KeepsDoing told moment left_since before after records) said) same ends)
      where
        records_are : records ≡ old.now.kept
        records_are = sym (kept_is ∙ ap (λ (rs : List Record). records ++ rs) none ∙ append-nil records)

        with_doing : (said : Status) (doing : Doing) → IsDoing told kept moment left_since before after records doing
            → EndsBatches told role boot period limit spent given old.now (record all_done { doing = doing }) said
            → HasEnded told role boot period kept moment left_since old records before after spent given given' sent sent_after losses losses_after unread read limit said
        with_doing said doing does ends' =
            after_commit said (record all_done { doing = doing }) before
            (subst (λ (rs : List Record). Changes told moment left_since before before records rs) records_are here)
            (subst (λ o. Takes given o []) (sym g) (takes_none given)) (subst (λ o. Reads unread o []) (sym r) (reads_none unread))
            (subst (λ (ds : List Datagram). Sends sent sent_after losses losses_after (ds ++ [])) (sym unsent) quiet)
            ends'
            (subst (λ (rs : List Record). IsDoing told kept moment left_since before after rs doing) records_are does)

        by_status : (said : Status) → EndsSettling role boot period old.now (KeepsDoing told moment left_since before after records) said
            → HasEnded told role boot period kept moment left_since old records before after spent given given' sent sent_after losses losses_after unread read limit said
        by_status (status.DiskFault count) is =
            with_doing (status.DiskFault count) (rewriting is.0) (leaves_rewriting before after records is.0 is.2) (inr (inr (is.0, is.1, refl)))
        by_status status.OutOfMemory (inl is) =
            with_doing status.OutOfMemory nothing (leaves_nothing before after records is) (inl ([], tt, refl))
        by_status status.OutOfMemory (inr is) =
            with_doing status.OutOfMemory (rewriting is.0) (leaves_rewriting before after records is.0 is.2) (inr (inr (inr (is.0, is.1, refl))))
        by_status _ is = absurd is

-- all passes were made that can be counted
pub gives_up : {S : Type 0} (told : Bool) (role : Role S) (boot : Boot) (period limit spent : ℕ) (old : Held S) (given sent : Option (List Datagram)) (losses : ℕ) (read : Option (List ℕ))
    → HasStopped told role boot period limit spent old old.puts old.posts given given sent sent losses losses read read (stop.With status.OutOfMemory)
gives_up told role boot period limit spent old given sent losses read = record {
  turns = [];
  unheard = [];
  received = takes_none given;
  reads = reads_none read;
  reason = tt;
  how = inl (record {
    same_puts = refl;
    same_posts = refl;
    quiet = sends_none sent losses;
    stops = between;
    ends = λ count. inl ([], tt, refl);
  });
}

-- ---- the causes of an end

pub cause_from : (l0 l1 l2 c0 c1 c2 : ℕ) (said : Status) → l1 ≡ l0 → c1 ≡ c0 → HasBatchCause l1 l2 c1 c2 said → HasBatchCause l0 l2 c0 c2 said
cause_from l0 l1 l2 c0 c1 c2 said e f is = subst (λ n. HasBatchCause n l2 c0 c2 said) e (subst (λ n. HasBatchCause l1 l2 n c2 said) f is)

-- where a node stopped with a cause, one of the counts rose, or none
rose_once : (link link_after clock clock_after : ℕ) (said : Status) → HasServeCause link link_after clock clock_after said → RoseOnce link link_after clock clock_after
rose_once link link_after clock clock_after (status.LinkFault count) is = inr (inl (is.0, is.2))
rose_once link link_after clock clock_after (status.ClockFault count) is = inr (inr (is.0, is.2))
rose_once link link_after clock clock_after _ is = inl is

batch_cause : (link link_after clock clock_after : ℕ) (said : Status) → HasServeCause link link_after clock clock_after said → HasBatchCause link link_after clock clock_after said
batch_cause link link_after clock clock_after (status.DiskFault count) is = inl is
batch_cause link link_after clock clock_after status.OutOfMemory is = inl is
batch_cause link link_after clock clock_after _ is = is

stop_cause : (link link_after clock clock_after count : ℕ) (why : Stop) → HasServeCause link link_after clock clock_after (status_of 0 why) → HasBatchCause link link_after clock clock_after (status_of count why)
stop_cause link link_after clock clock_after count stop.Unread is = inl is
stop_cause link link_after clock clock_after count (stop.With said) is = batch_cause link link_after clock clock_after said is

pub finished_cause : {D : Type 0} (told : Bool) (kept : D → Kept) (moment : D → ℕ) (left_since : D → ℕ → List ℕ → Type 0) (before after : D) (records puts : List Record)
    (posts : List Datagram) (sent_before sent_after : Option (List Datagram)) (losses_before losses_after count : ℕ) (why : Stop) (said : Status) (link link_then link_after clock clock_after : ℕ)
    → HasFinished told kept moment left_since before after records puts posts sent_before sent_after losses_before losses_after count why said
    → link_after ≡ link_then → HasServeCause link link_then clock clock_after (status_of 0 why) → HasBatchCause link link_after clock clock_after said
finished_cause told kept moment left_since before after records puts posts sent_before sent_after losses_before losses_after count why said link link_then link_after clock clock_after is same cause =
    subst (λ n. HasBatchCause link n clock clock_after said) (sym same) (by_case said is)
  where
    by_commit : (said : Status) → EndsCommit (IsDoing told kept moment left_since before after records) puts said → HasBatchCause link link_then clock clock_after said
    by_commit (status.DiskFault n) does = rose_once link link_then clock clock_after (status_of 0 why) cause
    by_commit status.OutOfMemory does = rose_once link link_then clock clock_after (status_of 0 why) cause
    by_commit _ does = absurd does

    by_case : (said : Status) → HasFinished told kept moment left_since before after records puts posts sent_before sent_after losses_before losses_after count why said
        → HasBatchCause link link_then clock clock_after said
    by_case said (all_put between' first then closed sends) = stop_cause link link_then clock clock_after count why cause
    by_case said (none_put _ some quiet does) = by_commit said does

-- ---- how a commit before an end went

module _ {D : Type 0} (told : Bool) (kept : D → Kept) (moment : D → ℕ) (left_since : D → ℕ → List ℕ → Type 0) (before after : D) (records puts : List Record) (posts : List Datagram)
    (sent_before sent_after : Option (List Datagram)) (losses_before losses_after count : ℕ) (why : Stop) (said : Status) where
  pub all_finished : (between' : D) (next : List Record) → next ≡ records ++ puts → Changes told moment left_since before between' records next
      → Changes told moment left_since between' after next next → ((said : Status) → why ≡ stop.With said → after ≡ between')
      → Sends sent_before sent_after losses_before losses_after posts → said ≡ status_of count why
      → HasFinished told kept moment left_since before after records puts posts sent_before sent_after losses_before losses_after count why said
  all_finished between' next same first then closed sends says =
      subst (λ s. HasFinished told kept moment left_since before after records puts posts sent_before sent_after losses_before losses_after count why s) (sym says)
      (all_put between' (subst (λ (rs : List Record). Changes told moment left_since before between' records rs) same first)
      (subst (λ (rs : List Record). Changes told moment left_since between' after rs rs) same then) closed sends)

  pub none_finished : puts ≢ [] → (sent_after ≡ sent_before) × (losses_after ≡ losses_before) → EndsCommit (IsDoing told kept moment left_since before after records) puts said
      → HasFinished told kept moment left_since before after records puts posts sent_before sent_after losses_before losses_after count why said
  none_finished some quiet does = none_put said some (sends_same sent_before sent_after losses_before losses_after quiet.0 quiet.1) does
