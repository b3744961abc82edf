-- from phase to phase
use Rattle.std.proofs.Common.{ℕ, ◌≡◌, ◌≢◌, refl, sym, ◌∙◌, ap, subst, Option, List, [], ◌++◌}
use Rattle.std.proofs.lemmas.List.{append-nil}
use Rattle.xt_messages.specs.declared.status.Status.{Status}
use Rattle.xt_messages.specs.declared.status.Status.TheVariants as status
use Rattle.node_links.specs.declared.children.ChildCall.{ChildCall}
use Rattle.client_loop.specs.Carrying.{Around}
use Rattle.client_jobs.specs.Running.{Closes}
use Rattle.client_jobs.specs.Lines.{IsListed}
use Rattle.client_jobs.specs.declared.session.CommandSession.{CommandSession}
use Rattle.command_words.specs.declared.job.ClusterJob.{ClusterJob}
use Rattle.command_words.specs.declared.job.Defaults.{Defaults}
use Rattle.cluster_lines.specs.Lines.{Situation, AreLines}
use Rattle.cluster_children.specs.Calls.{Waits, WaitsFront, EndsWait}
use Rattle.cluster_job.specs.Opening.{HasOpened, HasStarted, CannotStart}
use Rattle.cluster_job.specs.Registering.{HasRegistered, CannotRegister}
use Rattle.cluster_job.specs.Phases.{ClusterState, Phase, starting, rising, registering, listing, settling, commanding, parting, waiting, over, rises_at, settles_at, base_of, Comes, begun, gone, StartsAll, Hears, Lists, Parts, EndsHearing, EndsParting, EndsUntold, EndsIn, done, untold, told}
use Rattle.cluster_job.specs.Cluster.{Moment, begins_at, moment_of, EndsFrom, EndsOpened}

module _ (job : ClusterJob) where
  pub comes_then : (a b : Phase) (s t : ClusterState) → Comes job a s b t → (c : Phase) (u : ClusterState) → Comes job b t c u → Comes job a s c u
  comes_then a b s t first c u begun = first
  comes_then a b s t first c u (gone phase v w next goes) = gone phase v w (comes_then a b s t first phase v next) goes

  pub ends_then : (a b : Phase) (s t : ClusterState) (after : Moment) (children : List ℕ) (said : Status) → Comes job a s b t → EndsFrom job b t after children said
      → EndsFrom job a s after children said
  ends_then a b s t after children said first ends = record {
    last = ends.last;
    goes = record {
      phase = ends.goes.phase;
      s = ends.goes.s;
      comes = comes_then a b s t first ends.goes.phase ends.goes.s ends.goes.comes;
      ends = ends.goes.ends;
    };
    around = ends.around;
    left = ends.left;
  }

  -- it has come so far, and ends
  pub ends_at : (first phase : Phase) (start s last : ClusterState) (said : Status) → Comes job first start phase s → EndsIn job phase s last said
      → EndsFrom job first start (moment_of last) last.children said
  ends_at first phase start s last said comes ends =
      record { last = last; goes = record { phase = phase; s = s; comes = comes; ends = ends }; around = refl; left = refl }

  -- the reason is reported then
  pub ends_told : (first phase : Phase) (start s last : ClusterState) (held : Option (List ℕ)) (sink : ℕ) (why said : Status) → Comes job first start phase s
      → EndsUntold job phase s last why → Closes last.situation.held held last.situation.sink sink why said
      → EndsFrom job first start (moment_of (record last { situation = record last.situation { held = held; sink = sink } })) last.children said
  ends_told first phase start s last held sink why said comes ends closes =
      ends_at first phase start s (record last { situation = record last.situation { held = held; sink = sink } }) said comes
      (untold last (record last { situation = record last.situation { held = held; sink = sink } }) why said ends (record { closes = closes; only = refl }))

  -- ---- the children

  pub starts_all : (s : ClusterState) (to_read : Option (List ℕ)) (calls : Option (List ChildCall)) (clock child : ℕ) (children : List ℕ) (started : ℕ)
      → HasStarted job s.situation.around (record s.situation.around { to_read = to_read }) s.calls calls children started
      → clock ≡ s.situation.counts.clock → child ≡ s.child
      → StartsAll job s (record s {
        situation = record s.situation { around = record s.situation.around { to_read = to_read }; counts = record s.situation.counts { clock = clock } };
        calls = calls;
        child = child;
        children = children;
        started = started;
      })
  starts_all s to_read calls clock child children started has same still =
      subst (λ n. StartsAll job s (record s {
        situation = record s.situation { around = record s.situation.around { to_read = to_read }; counts = record s.situation.counts { clock = n } };
        calls = calls;
        child = child;
        children = children;
        started = started;
      })) (sym same)
      (subst (λ n. StartsAll job s (record s {
        situation = record s.situation { around = record s.situation.around { to_read = to_read } };
        calls = calls;
        child = n;
        children = children;
        started = started;
      })) (sym still) (record { started = has; only = refl }))

  pub ends_starting : (s : ClusterState) (to_read : Option (List ℕ)) (calls : Option (List ChildCall)) (clock child : ℕ) (children : List ℕ)
      (held : Option (List ℕ)) (sink : ℕ) (why said : Status)
      → CannotStart job s.situation.around (record s.situation.around { to_read = to_read }) s.calls calls children s.situation.counts
      (record s.situation.counts { clock = clock }) s.child child why
      → Closes s.situation.held held s.situation.sink sink why said
      → EndsFrom job starting s
      (record {
        around = record s.situation.around { to_read = to_read };
        left = s.situation.left;
        held = held;
        calls = calls;
        counts = record s.situation.counts { clock = clock };
        sink = sink;
        child = child;
      })
      children said
  ends_starting s to_read calls clock child children held sink why said cannot closes =
      ends_told starting starting s s
      (record s {
        situation = record s.situation { around = record s.situation.around { to_read = to_read }; counts = record s.situation.counts { clock = clock } };
        calls = calls;
        child = child;
        children = children;
      })
      held sink why said begun (record { cannot = cannot; only = refl }) closes

  has_started : (s t : ClusterState) → StartsAll job s t → Comes job starting s rising t
  has_started s t starts = gone starting s t begun starts

  pub has_risen : (s t : ClusterState) (until : ℕ) (later : Situation) → StartsAll job s t → until ≡ rises_at job t.started → Hears until t.situation later
      → Comes job starting s registering (record t { situation = later })
  has_risen s t until later starts e hears =
      gone rising t (record t { situation = later }) (has_started s t starts) (subst (λ n. Hears n t.situation later) e hears, refl)

  pub ends_rising : (s t : ClusterState) (until : ℕ) (last : Situation) (held : Option (List ℕ)) (sink : ℕ) (why said : Status) → StartsAll job s t
      → until ≡ rises_at job t.started → EndsHearing until t.situation last why → Closes last.held held last.sink sink why said
      → EndsFrom job starting s (moment_of (record t { situation = record last { held = held; sink = sink } })) t.children said
  ends_rising s t until last held sink why said starts e cannot closes =
      ends_told starting rising s t (record t { situation = last }) held sink why said (has_started s t starts)
      (subst (λ n. EndsHearing n t.situation last why) e cannot, refl) closes

  -- ---- registrations, lists, and time

  pub ends_registering : (s : ClusterState) (later : Situation) (said : Status) → CannotRegister job s.situation later said
      → EndsFrom job registering s (moment_of (record s { situation = later })) s.children said
  ends_registering s later said cannot =
      ends_at registering registering s s (record s { situation = later }) said begun (told (record s { situation = later }) said (cannot, refl))

  -- the lists are made with what the cluster has
  pub lists : (s : Situation) (session : CommandSession) (around : Around) (link clock : ℕ) (base : Defaults) (said why : Status) → base ≡ base_of job → why ≡ said
      → IsListed base s.session session s.around around s.counts (record s.counts { link = link; clock = clock }) said
      → Lists job s (record s { session = session; around = around; counts = record s.counts { link = link; clock = clock } }) why
  lists s session around link clock base said why same is listed = record {
    listed =
        subst (λ b. IsListed b s.session session s.around around s.counts (record s.counts { link = link; clock = clock }) why) same
        (subst (λ w. IsListed base s.session session s.around around s.counts (record s.counts { link = link; clock = clock }) w) (sym is) listed);
    only = refl;
  }

  has_registered : (s : ClusterState) (later : Situation) (reading : ℕ) → HasRegistered job s.situation later reading
      → Comes job registering s listing (record s { situation = later; registered = reading })
  has_registered s later reading has =
      gone registering s (record s { situation = later; registered = reading }) begun (record { registered = has; only = refl })

  pub ends_listing : (s : ClusterState) (l last : Situation) (reading : ℕ) (held : Option (List ℕ)) (sink : ℕ) (why said : Status)
      → HasRegistered job s.situation l reading → Lists job l last why → why ≢ status.Done → Closes last.held held last.sink sink why said
      → EndsFrom job registering s (moment_of (record s { situation = record last { held = held; sink = sink } })) s.children said
  ends_listing s l last reading held sink why said has fails not closes =
      ends_told registering listing s (record s { situation = l; registered = reading }) (record s { situation = last; registered = reading }) held sink why said
      (has_registered s l reading has) (fails, not, refl) closes

  has_listed : (s : ClusterState) (l later : Situation) (reading : ℕ) → HasRegistered job s.situation l reading → Lists job l later status.Done
      → Comes job registering s settling (record s { situation = later; registered = reading })
  has_listed s l later reading has made =
      gone listing (record s { situation = l; registered = reading }) (record s { situation = later; registered = reading }) (has_registered s l reading has) (made, refl)

  pub has_settled : (s : ClusterState) (l m later : Situation) (reading until : ℕ) → HasRegistered job s.situation l reading → Lists job l m status.Done
      → until ≡ settles_at job s.started reading → Hears until m later
      → Comes job registering s commanding (record s { situation = later; registered = reading })
  has_settled s l m later reading until has made e hears =
      gone settling (record s { situation = m; registered = reading }) (record s { situation = later; registered = reading }) (has_listed s l m reading has made)
      (subst (λ n. Hears n m later) e hears, refl)

  pub ends_settling : (s : ClusterState) (l m last : Situation) (reading until : ℕ) (held : Option (List ℕ)) (sink : ℕ) (why said : Status)
      → HasRegistered job s.situation l reading → Lists job l m status.Done → until ≡ settles_at job s.started reading → EndsHearing until m last why
      → Closes last.held held last.sink sink why said
      → EndsFrom job registering s (moment_of (record s { situation = record last { held = held; sink = sink } })) s.children said
  ends_settling s l m last reading until held sink why said has made e cannot closes =
      ends_told registering settling s (record s { situation = m; registered = reading }) (record s { situation = last; registered = reading }) held sink why said
      (has_listed s l m reading has made) (subst (λ n. EndsHearing n m last why) e cannot, refl) closes

  -- ---- lines, and the end

  pub lines : (s later : Situation) (base : Defaults) (said why : Status) → base ≡ base_of job → why ≡ said → AreLines base s later said → AreLines (base_of job) s later why
  lines s later base said why same is ran = subst (λ b. AreLines b s later why) same (subst (AreLines base s later) (sym is) ran)

  pub ends_commanding : (s : ClusterState) (later : Situation) (said : Status) → AreLines (base_of job) s.situation later said → said ≢ status.Done
      → EndsFrom job commanding s (moment_of (record s { situation = later })) s.children said
  ends_commanding s later said ran not =
      ends_at commanding commanding s s (record s { situation = later }) said begun (told (record s { situation = later }) said (ran, not, refl))

  has_commanded : (s : ClusterState) (later : Situation) → AreLines (base_of job) s.situation later status.Done → Comes job commanding s parting (record s { situation = later })
  has_commanded s later ran = gone commanding s (record s { situation = later }) begun (ran, refl)

  pub ends_parting : (s : ClusterState) (l last : Situation) (held : Option (List ℕ)) (sink : ℕ) (why said : Status)
      → AreLines (base_of job) s.situation l status.Done → EndsParting job l last why → Closes last.held held last.sink sink why said
      → EndsFrom job commanding s (moment_of (record s { situation = record last { held = held; sink = sink } })) s.children said
  ends_parting s l last held sink why said ran cannot closes =
      ends_told commanding parting s (record s { situation = l }) (record s { situation = last }) held sink why said (has_commanded s l ran) (cannot, refl) closes

  has_parted : (s : ClusterState) (l later : Situation) → AreLines (base_of job) s.situation l status.Done → Parts job l later
      → Comes job commanding s waiting (record s { situation = later })
  has_parted s l later ran parts = gone parting (record s { situation = l }) (record s { situation = later }) (has_commanded s l ran) (parts, refl)

  pub ends_waiting : (s : ClusterState) (l later : Situation) (calls : Option (List ChildCall)) (child : ℕ) (children : List ℕ) (held : Option (List ℕ)) (sink : ℕ)
      (why said : Status) → AreLines (base_of job) s.situation l status.Done → Parts job l later → WaitsFront s.calls calls s.children children
      → EndsWait s.child child why → Closes later.held held later.sink sink why said
      → EndsFrom job commanding s
      (moment_of (record s { situation = record later { held = held; sink = sink }; calls = calls; child = child; children = children })) children said
  ends_waiting s l later calls child children held sink why said ran parts front cause closes =
      ends_told commanding waiting s (record s { situation = later }) (record s { situation = later; calls = calls; child = child; children = children }) held sink why said
      (has_parted s l later ran parts) (record { front = front; cause = cause; only = refl }) closes

  all_waited : (before after : Option (List ChildCall)) (children others : List ℕ) → others ≡ [] → WaitsFront before after children others → Waits before after children
  all_waited before after children others none front =
      subst (Waits before after) (sym (append-nil front.waited) ∙ ap (λ xs. front.waited ++ xs) (sym none) ∙ sym front.is) front.waits

  pub ends_done : (s : ClusterState) (l later : Situation) (calls : Option (List ChildCall)) (child : ℕ) (children : List ℕ)
      → AreLines (base_of job) s.situation l status.Done → Parts job l later → WaitsFront s.calls calls s.children children → children ≡ [] → child ≡ s.child
      → EndsFrom job commanding s (moment_of (record s { situation = later; calls = calls; child = child })) children status.Done
  ends_done s l later calls child children ran parts front none still = record {
    last = record s { situation = later; calls = calls; children = [] };
    goes = record {
      phase = over;
      s = record s { situation = later; calls = calls; children = [] };
      comes = gone waiting (record s { situation = later }) (record s { situation = later; calls = calls; children = [] }) (has_parted s l later ran parts)
          (record { waits = all_waited s.calls calls s.children children none front; only = refl });
      ends = done refl;
    };
    around = ap (λ n. moment_of (record s { situation = later; calls = calls; child = n })) still;
    left = none;
  }

  -- ---- the whole

  pub opened_ends : (before : Moment) (opened : Around) (session : CommandSession) (link clock : ℕ) (after : Moment) (children : List ℕ) (said : Status)
      → HasOpened job before.around opened session → link ≡ before.counts.link → clock ≡ before.counts.clock
      → EndsFrom job starting (begins_at (record before { around = opened; counts = record before.counts { link = link; clock = clock } }) session) after children said
      → EndsOpened job before after children said
  opened_ends before opened session link clock after children said opens same still ends = record {
    opened = opened;
    session = session;
    opens = opens;
    ends =
        subst (λ n. EndsFrom job starting (begins_at (record before { around = opened; counts = record before.counts { clock = n } }) session) after children said) still
        (subst (λ n. EndsFrom job starting (begins_at (record before { around = opened; counts = record before.counts { link = n; clock = clock } }) session) after
        children said) same ends);
  }
