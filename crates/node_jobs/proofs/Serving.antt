-- a node that was ready and served
use Rattle.std.proofs.Common.{ℕ, ◌+◌, ◌<◌, ◌^◌, Option, ◌≡◌, sym, ap, subst, ◌∙◌, false, List, [], ◌∷◌}
use mathlib.Core.Path.{transport}
use Rattle.std.specs.Prelude.{IsTrue}
use Rattle.std.specs.List.{All}
use Rattle.std.proofs.lemmas.List.Elements.{All-from_recursion, All-weaker}
use Rattle.disk_model.specs.declared.disk.Disk.{Ghosts}
use Rattle.disk_model.specs.Disk.{IsImage}
use Rattle.xt_base.specs.declared.ids.Boot.{Boot}
use Rattle.xt_messages.specs.Limits.{FitsBoot, FitsRecord}
use Rattle.xt_messages.specs.declared.message.Msg.{Msg}
use Rattle.xt_messages.specs.declared.record.Record.{Record}
use Rattle.xt_messages.specs.declared.status.Status.{Status}
use Rattle.xt_messages.specs.declared.status.Status.TheVariants as status
use Rattle.object_store.specs.declared.store.Store.{Store}
use Rattle.object_store.specs.Access.{disk_of, records_of}
use Rattle.object_store.specs.Texts.{AreRecords}
use Rattle.node_links.specs.Streams.{Puts}
use Rattle.node_runs.specs.BatchEnds.{IsServedInBatches, KeepsBatches}
use Rattle.node_runs.specs.Batches.{kept_at}
use Rattle.node_runs.specs.Hearing.{Ears}
use Rattle.node_runs.specs.Runs.{Role, Served, JournalAt}
use Rattle.node_runs.proofs.Keeping.{from_before}
use Rattle.node_loop.specs.Events.{HasDiskCause}
use Rattle.node_loop.specs.Turns.{standing}
use Rattle.node_loop.proofs.Counting.{cause_since}
use Rattle.server_rows.specs.Directory.{DirNode, dir_of}
use Rattle.server_rows.specs.Metadata.{Catalogue, MrcNode, catalogue_of, mrc_of}
use Rattle.server_limits.specs.Keeping.{MrcRunsOn}
use Rattle.server_limits.proofs.Keeping.{mrc_starts}
use Rattle.mrc_core.specs.Picking.{CanTake}
use Rattle.mrc_core.proofs.Fitting.{can_take}
use Rattle.store_loading.specs.Boots.{next_boot, booted}
use Rattle.store_loading.specs.Loading.{Medium, ComesFrom}
use Rattle.node_jobs.specs.Disks.{KeepsFrom, ComesTo}
use Rattle.node_jobs.specs.Jobs.{NodeJob, IsNodeJob, IsReady, Outside, EndsEarly, has_served, unready, starting}
use Rattle.store_loading.proofs.Disks.{medium_of}
use Rattle.node_jobs.proofs.Disks.{closed_from, keeps_from}
use Rattle.node_jobs.proofs.Jobs.{boot_fits}

module _ {D S : Type 0} (m : Medium D) (before after : Outside D) (turns : ℕ) (said : Status) where
  -- what serving says of a node that was ready in this state, and of its disk
  abbrev Serves : Role S → Boot → ℕ → Served S → Outside D → Type 0
  Serves role boot period start ready =
      (s : IsServedInBatches m.is_told role boot period start turns ready.given after.given ready.sent after.sent ready.losses after.losses ready.readings after.readings said)
      × KeepsBatches m.is_told m.kept m.moment m.left_since ready.disk after.disk start
      (kept_at m.is_told role boot period ready.given start s.to_come s.turns s.posts s.end s.goes) s.end s.left

  module _ (role : Role S) (boot : Boot) (period : ℕ) (start : Served S) (ready : Outside D) (records : List Record) (loaded : D)
      (comes : ComesFrom m before.disk loaded records) (to : ComesTo m loaded ready.disk records start.kept) (serves : Serves role boot period start ready) where
    abbrev through : List (List Record)
    through = kept_at m.is_told role boot period ready.given start serves.0.to_come serves.0.turns serves.0.posts serves.0.end serves.0.goes

    kept_on : KeepsFrom m before.disk after.disk records (records ∷ through) serves.0.end.kept serves.0.left.doing
    kept_on = keeps_from m before.disk loaded serves.1.until after.disk records (records ∷ through) serves.0.end.kept serves.0.left.doing comes
        (λ told. from_before m.moment m.left_since loaded ready.disk records start.kept (comes.kept told) (to.each told) through serves.0.end.kept serves.1.until
        (serves.1.in_turn told))
        serves.1.ending serves.1.last

-- the node as it begins
starts_as : {S : Type 0} (state state' : S) (kept kept' : List Record) (journal : JournalAt) (own : List Msg) (ears ears' : Ears) (reading period due : ℕ)
    → state ≡ state' → kept ≡ kept' → own ≡ [] → ears ≡ ears' → due ≡ reading + period
    → standing state kept journal own ears reading due 0 false ≡ starting state' kept' journal ears' reading period
starts_as state state' kept kept' journal own ears ears' reading period due s k o e d =
    λ i. record { state = s i; kept = k i; own = o i; ears = e i; clock = reading; due = d i; count = 0; journal = journal; woken = false }

-- a node that was ready and served from there has done its job
module _ {D S : Type 0} (m : Medium D) (job : NodeJob S) (before ready after : Outside D) (said : Status) (kept : List Record) (boot : Boot) (reading : ℕ) (journal : JournalAt)
    (is : IsReady m job.ready job.limit before ready kept boot reading journal) where
  -- the link as it was when the node was ready is as it was before
  as_before : ready ≡ record before { readings = ready.readings; held = ready.held; disk = ready.disk }
  as_before = λ i. record {
    given = is.silent.given i;
    sent = is.silent.sent i;
    losses = is.silent.losses i;
    readings = ready.readings;
    held = ready.held;
    disk = ready.disk;
  }

  pub has_done : (role : Role S) (ears : Ears) (period due : ℕ) (state : S) (own : List Msg)
      → role ≡ job.role → state ≡ job.state_of kept reading → own ≡ [] → ears ≡ job.ears → period ≡ job.period → due ≡ reading + period
      → after.held ≡ ready.held → Serves m before after job.turns said role boot period (standing state kept journal own ears reading due 0 false) ready
      → HasDiskCause (m.fault_count ready.disk) (m.fault_count after.disk) said → IsNodeJob m job before after said
  has_done role ears period due state own same told none heard every when held serves count =
      let started = starting (job.state_of (booted is.records) reading) (booted is.records) journal job.ears reading job.period in
      let starts : standing state kept journal own ears reading due 0 false ≡ started =
      starts_as state (job.state_of (booted is.records) reading) kept (booted is.records) journal own ears job.ears reading job.period due
      (told ∙ ap (λ (rs : List Record). job.state_of rs reading) is.all_are) is.all_are none heard (when ∙ ap (λ (p : ℕ). reading + p) every) in
      let here : Serves m before after job.turns said job.role (next_boot is.records) job.period started
      (record before { readings = ready.readings; held = ready.held; disk = ready.disk }) =
      transport (λ i. Serves m before after job.turns said (same i) (is.boot_is i) (every i) (starts i) (as_before i)) serves in
      has_served (record {
        records = is.records;
        are = is.are;
        fits = is.fits;
        journal = journal;
        stand = is.stand;
        within = is.within;
        reading = reading;
        between = ready.readings;
        read = is.reads;
        told = subst (λ (x : Option (List ℕ)). Puts before.held x job.ready) (sym held) is.told;
        serves = here.0;
        keeps =
            kept_on m before after job.turns said job.role (next_boot is.records) job.period started
            (record before { readings = ready.readings; held = ready.held; disk = ready.disk }) is.records is.loaded is.comes
            (subst (λ (rs : List Record). ComesTo m is.loaded ready.disk is.records rs) is.all_are is.comes_to) here;
        disk_count = cause_since (m.fault_count before.disk) (m.fault_count ready.disk) (m.fault_count after.disk) said (is.comes_to.faults ∙ is.comes.faults) count;
      })

-- memory ran out after a node was ready, and its store was closed
pub not_started : {D : Type 0} {g : Ghosts D}
    → ((disk : D) (image : List ℕ) → IsTrue g.is_told → g.left_since disk (g.moment disk) image → IsImage (g.kept disk) image)
    → (ready : List ℕ) (limit : ℕ) (before after : Outside D) (store : Store D g) (boot : Boot) (reading : ℕ) (journal : JournalAt)
    → IsReady (medium_of g) ready limit before (record after { disk = disk_of store }) (records_of store) boot reading journal → after.disk ≡ disk_of store
    → EndsEarly (medium_of g) ready limit before after status.OutOfMemory
not_started {g = g} only_now ready limit before after store boot reading journal is closed = unready (record {
  records = is.records;
  are = is.are;
  journal = journal;
  stand = is.stand;
  within = is.within;
  fits = is.fits;
  silent = record { given = is.silent.given; sent = is.silent.sent; losses = is.silent.losses };
  why = ((reading, is.reads), is.told);
  faults = ap g.fault_count closed ∙ is.comes_to.faults ∙ is.comes.faults;
  keeps = closed_from only_now before.disk is.loaded after.disk store is.records is.comes is.comes_to is.all_are closed;
})

-- what was said is what is to be said
module _ {D : Type 0} (m : Medium D) (before after : Outside D) (said ready : List ℕ) (same : said ≡ ready) where
  pub says_so : (limit : ℕ) (kept : List Record) (boot : Boot) (reading : ℕ) (journal : JournalAt)
      → IsReady m said limit before after kept boot reading journal → IsReady m ready limit before after kept boot reading journal
  says_so limit kept boot reading journal is = subst (λ (text : List ℕ). IsReady m text limit before after kept boot reading journal) same is

  pub says_early : (limit : ℕ) (ended : Status) → EndsEarly m said limit before after ended → EndsEarly m ready limit before after ended
  says_early limit ended is = subst (λ (text : List ℕ). EndsEarly m text limit before after ended) same is

-- ---- the directory service

pub dir_told : (key key' : List ℕ) (records records' : List Record) (dir : DirNode) → dir ≡ record { secret = key'; state = dir_of records' } → key' ≡ key
    → dir_of records' ≡ dir_of records → dir ≡ record { secret = key; state = dir_of records }
dir_told key key' records records' dir is same says = is ∙ (λ i. record { secret = same i; state = says i })

-- ---- the metadata server

abbrev pub mrc_at : List ℕ → List Record → ℕ → MrcNode
mrc_at key records reading = record { secret = key; state = mrc_of key records reading }

pub mrc_told : (key key' : List ℕ) (records records' : List Record) (reading : ℕ) (mrc : MrcNode) → mrc ≡ mrc_at key' records' reading
    → key' ≡ key → catalogue_of key records' ≡ catalogue_of key records → mrc ≡ mrc_at key records reading
mrc_told key key' records records' reading mrc is same says =
    is ∙ ap (λ (k : List ℕ). mrc_at k records' reading) same
    ∙ ap (λ (c : Catalogue). record { secret = key; state = record (mrc_of key records reading) { catalogue = c } }) says

module _ (records after : List Record) (are : AreRecords records) (boot : FitsBoot (next_boot records)) (is : after ≡ booted records) where
  pub mrc_ready : (key : List ℕ) (reading : ℕ) (mrc : MrcNode) → reading < 2 ^ 62 → mrc ≡ mrc_at key after reading
      → MrcRunsOn mrc.secret after mrc.state
  mrc_ready key reading mrc clock told =
      subst (λ (m : MrcNode). MrcRunsOn m.secret after m.state) (sym told)
      (subst (λ (rs : List Record). MrcRunsOn key rs (mrc_of key rs reading)) (sym is)
      (mrc_starts key (booted records) reading (boot_fits records are.fit boot) clock))

  -- each record can be taken
  pub can_be_taken : All CanTake after
  can_be_taken =
      subst (All CanTake) (sym is)
      (All-weaker FitsRecord CanTake can_take (booted records) (All-from_recursion FitsRecord (booted records) (boot_fits records are.fit boot)))
