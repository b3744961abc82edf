-- the passes of a served node one after the other, in batches, and what its disk keeps
use Rattle.std.proofs.Common.{ℕ, ◌≡◌, ◌≢◌, ◌+◌, refl, sym, ◌∙◌, ap, subst, Bool, false, Option, List, [], ◌∷◌, ◌++◌, length, inl, inr}
use Rattle.std.proofs.lemmas.List.{length-append, append_assoc, append-nil}
use Rattle.std.specs.Prelude.{IsTrue}
use Rattle.disk_model.specs.Disk.{Kept, LeavesOnly}
use Rattle.disk_model.proofs.Moments.{begun as leaves_begun}
use Rattle.xt_base.specs.declared.ids.Boot.{Boot}
use Rattle.xt_messages.specs.declared.record.Record.{Record}
use Rattle.xt_messages.specs.declared.status.Status.{Status}
use Rattle.xt_messages.specs.declared.status.Status.TheVariants as status
use Rattle.node_links.specs.declared.link.Datagram.{Datagram}
use Rattle.node_links.specs.Streams.{Takes}
use Rattle.node_runs.specs.Links.{Sends, Reads}
use Rattle.node_runs.specs.Runs.{Role, Served, Turn, woke, idle, came, Comes, begun, passed, datagrams_in, readings_in, reading_in}
use Rattle.node_runs.specs.Serving.{IsIn, record_in, front_in}
use Rattle.node_runs.specs.Keeping.{StandsForOne, KeepsNow, KeptInTurn, from_start, then_next}
use Rattle.node_runs.specs.Batches.{HasRoom, IsBatch, Goes, at_start, then_batch, then_rewritten, kept_at}
use Rattle.node_runs.specs.BatchEnds.{Doing, putting, refused, has_put, Unfinished, FitsIn, puts_in, Stops, IsNotPut, EndsBatches, IsServedInBatches, KeepsBatches}
use Rattle.node_runs.proofs.Sending.{sends_none, sends_join, takes_none, takes_more, reads_none, reads_more}
use Rattle.node_loop.specs.Batched.{Held, HasMailed}
use Rattle.node_loop.specs.Passing.{HasPassed, Settles, stays, rewrites, EndsCommit, Changes, IsDoing, Advances, by_pass, by_commit, by_look, HasEnded, after_commit, not_put, after_put}

pub datagrams-join : (turns more : List Turn) → datagrams_in (turns ++ more) ≡ datagrams_in turns ++ datagrams_in more
datagrams-join [] more = refl
datagrams-join (woke reading ∷ turns) more = datagrams-join turns more
datagrams-join (idle reading ∷ turns) more = datagrams-join turns more
datagrams-join (came datagram reading ∷ turns) more = ap (λ xs. datagram ∷ xs) (datagrams-join turns more)

pub readings-join : (turns more : List Turn) → readings_in (turns ++ more) ≡ readings_in turns ++ readings_in more
readings-join [] more = refl
readings-join (turn ∷ turns) more = ap (λ xs. reading_in turn ∷ xs) (readings-join turns more)

-- the datagrams of turns in three parts
datagrams-three : (all turns more last : List Turn) (unread : List Datagram) → all ≡ turns ++ more
    → datagrams_in all ++ (datagrams_in last ++ unread) ≡ datagrams_in turns ++ (datagrams_in (more ++ last) ++ unread)
datagrams-three all turns more last unread is =
    ap (λ (xs : List Datagram). xs ++ (datagrams_in last ++ unread)) (ap datagrams_in is ∙ datagrams-join turns more)
    ∙ append_assoc (datagrams_in turns) (datagrams_in more) (datagrams_in last ++ unread)
    ∙ ap (λ (xs : List Datagram). datagrams_in turns ++ xs)
    (sym (append_assoc (datagrams_in more) (datagrams_in last) unread) ∙ ap (λ (xs : List Datagram). xs ++ unread) (sym (datagrams-join more last)))

readings-three : (all turns more last : List Turn) → all ≡ turns ++ more
    → readings_in all ++ readings_in last ≡ readings_in turns ++ readings_in (more ++ last)
readings-three all turns more last is =
    ap (λ (xs : List ℕ). xs ++ readings_in last) (ap readings_in is ∙ readings-join turns more)
    ∙ append_assoc (readings_in turns) (readings_in more) (readings_in last)
    ∙ ap (λ (xs : List ℕ). readings_in turns ++ xs) (sym (readings-join more last))

-- ---- a disk that keeps what it kept

keeps_still : {D : Type 0} (moment : D → ℕ) (left_since : D → ℕ → List ℕ → Type 0) (first disk : D) (start records : List Record) (lists : List (List Record))
    → KeptInTurn moment left_since first start lists records disk → KeepsNow moment left_since disk records
keeps_still moment left_since first disk start records lists (from_start here) = here
keeps_still moment left_since first disk start records lists (then_next before was next between after earlier leaves here) = here

kept_again : {D : Type 0} (moment : D → ℕ) (left_since : D → ℕ → List ℕ → Type 0) (first disk : D) (start records again : List Record) (lists : List (List Record)) → again ≡ records
    → KeptInTurn moment left_since first start lists records disk → KeptInTurn moment left_since first start (lists ++ again ∷ []) again disk
kept_again moment left_since first disk start records again lists same in_turn =
    let here = keeps_still moment left_since first disk start records lists in_turn in
    subst (λ (rs : List Record). KeptInTurn moment left_since first start (lists ++ rs ∷ []) rs disk) (sym same)
    (then_next lists records records disk disk in_turn (leaves_begun moment left_since disk (StandsForOne (records ∷ records ∷ [])) (λ image left. inl (here image left))) here)

-- A held node has these records on its disk, and those that wait have room.
pub record IsHeld {S : Type 0} (cur : Held S) (records : List Record) : Type 0 where
  pub kept : cur.now.kept ≡ records ++ cur.puts
  pub room : HasRoom cur.puts cur.now.journal

module _ {S D : Type 0} (told : Bool) (role : Role S) (boot : Boot) (period : ℕ) (start : Served S)
    (given_before sent_before : Option (List Datagram)) (losses_before : ℕ) (unread : Option (List ℕ))
    (moment : D → ℕ) (left_since : D → ℕ → List ℕ → Type 0) (first : D) where
  -- The node has come so far: by batches that its disk has and that were sent, and from there by passes whose records and datagrams wait.
  pub record HasCome (cur : Held S) (records : List Record) (disk : D) (spent : ℕ) (given sent : Option (List Datagram)) (losses : ℕ) (read : Option (List ℕ)) : Type 0 where
    pub turns : List Turn
    pub posts : List Datagram
    pub base : Served S
    pub left : Option (List Datagram)
    pub goes : Goes told role boot period given_before start left turns posts base
    pub base_kept : base.kept ≡ records
    pub more : List Turn
    pub comes : Comes told role boot period left base given more cur.posts cur.now
    pub same_area : cur.now.journal.superblock ≡ base.journal.superblock
    pub all : List Turn
    pub all_are : all ≡ turns ++ more
    pub received : Takes given_before given (datagrams_in all)
    pub reads : Reads unread read (readings_in all)
    pub sends : Sends sent_before sent losses_before losses posts
    pub spends : spent ≡ length all
    pub in_turn : IsTrue told → KeptInTurn moment left_since first start.kept (kept_at told role boot period given_before start left turns posts base goes) base.kept disk

  pub comes_first : (cur : Held S) (records : List Record) → cur ≡ record { now = start; puts = []; posts = [] } → start.kept ≡ records
      → (IsTrue told → KeepsNow moment left_since first records)
      → HasCome cur records first 0 given_before sent_before losses_before unread
  comes_first cur records is same here = subst (λ (c : Held S). HasCome c records first 0 given_before sent_before losses_before unread) (sym is) (record {
    turns = [];
    posts = [];
    base = start;
    left = given_before;
    goes = at_start;
    base_kept = same;
    more = [];
    comes = begun;
    same_area = refl;
    all = [];
    all_are = refl;
    received = takes_none given_before;
    reads = reads_none unread;
    sends = sends_none sent_before losses_before;
    spends = refl;
    in_turn = λ known. from_start (subst (λ (rs : List Record). KeepsNow moment left_since first rs) (sym same) (here known));
  })

  module _ (cur : Held S) (records : List Record) (disk : D) (spent : ℕ) (given sent : Option (List Datagram)) (losses : ℕ) (read : Option (List ℕ))
      (come : HasCome cur records disk spent given sent losses read) (held : IsHeld cur records) where
    -- the batch that it is in
    abbrev this_batch : IsBatch told role boot period come.left come.base given come.more cur.posts cur.now
    this_batch = record {
      comes = come.comes;
      puts = cur.puts;
      grows = held.kept ∙ ap (λ (rs : List Record). rs ++ cur.puts) (sym come.base_kept);
      room = held.room;
      same_area = come.same_area;
    }

    abbrev goes_now : Goes told role boot period given_before start given (come.turns ++ come.more) (come.posts ++ cur.posts) cur.now
    goes_now = then_batch come.left given come.turns come.more come.posts cur.posts come.base cur.now come.goes this_batch

    -- what its disk has kept in turn once the batch is put
    kept_now : (after : D) (next : List Record) → cur.now.kept ≡ next → Changes told moment left_since disk after records next
        → IsTrue told → KeptInTurn moment left_since first start.kept
        (kept_at told role boot period given_before start come.left come.turns come.posts come.base come.goes ++ cur.now.kept ∷ []) cur.now.kept after
    kept_now after next same changes known =
        let leaves : LeavesOnly moment left_since disk after (StandsForOne (come.base.kept ∷ cur.now.kept ∷ [])) =
        subst (λ (rs : List Record). LeavesOnly moment left_since disk after (StandsForOne (rs ∷ cur.now.kept ∷ []))) (sym come.base_kept)
        (subst (λ (rs : List Record). LeavesOnly moment left_since disk after (StandsForOne (records ∷ rs ∷ []))) (sym same) (changes.on known)) in
        then_next (kept_at told role boot period given_before start come.left come.turns come.posts come.base come.goes) come.base.kept cur.now.kept disk after
        (come.in_turn known) leaves (subst (λ (rs : List Record). KeepsNow moment left_since after rs) (sym same) (changes.now known))

    -- the batch was put and sent
    committed : (after : D) (next : List Record) (sent_after : Option (List Datagram)) (losses_after : ℕ) → cur.now.kept ≡ next → Changes told moment left_since disk after records next
        → Sends sent sent_after losses losses_after cur.posts
        → HasCome (record { now = cur.now; puts = []; posts = [] }) next after spent given sent_after losses_after read
    committed after next sent_after losses_after same changes sends = record {
      turns = come.turns ++ come.more;
      posts = come.posts ++ cur.posts;
      base = cur.now;
      left = given;
      goes = goes_now;
      base_kept = same;
      more = [];
      comes = begun;
      same_area = refl;
      all = come.all;
      all_are = come.all_are ∙ sym (append-nil (come.turns ++ come.more));
      received = come.received;
      reads = come.reads;
      sends = sends_join sent_before sent sent_after losses_before losses losses_after come.posts cur.posts come.sends sends;
      spends = come.spends;
      in_turn = kept_now after next same changes;
    }

    module _ (new : Held S) (now_spent : ℕ) (given_after sent_after : Option (List Datagram)) (losses_after : ℕ) (read_after : Option (List ℕ))
        (one : HasPassed told role boot period cur new spent now_spent given given_after sent sent_after losses losses_after read read_after)
        (new_held : IsHeld new records) (area : new.now.journal.superblock ≡ cur.now.journal.superblock) where
      received_on : Takes given_before given_after (datagrams_in (come.all ++ one.turns))
      received_on = subst (Takes given_before given_after) (sym (datagrams-join come.all one.turns))
          (takes_more given_before given given_after (datagrams_in come.all) (datagrams_in one.turns) come.received one.received)

      reads_on : Reads unread read_after (readings_in (come.all ++ one.turns))
      reads_on = subst (Reads unread read_after) (sym (readings-join come.all one.turns))
          (reads_more unread read read_after (readings_in come.all) (readings_in one.turns) come.reads one.reads)

      spends_on : now_spent ≡ length (come.all ++ one.turns)
      spends_on = one.spends ∙ ap (λ n. n + length one.turns) come.spends ∙ sym (length-append come.all one.turns)

      comes_further : Comes told role boot period come.left come.base given_after (come.more ++ one.turns) (cur.posts ++ one.mailed) new.now
      comes_further = passed given given_after come.more one.turns cur.posts one.mailed cur.now new.now come.comes one.passes one.received

      all_further : come.all ++ one.turns ≡ come.turns ++ (come.more ++ one.turns)
      all_further = ap (λ (ts : List Turn). ts ++ one.turns) come.all_are ∙ append_assoc come.turns come.more one.turns

      waits : new.posts ≡ cur.posts ++ one.mailed → Sends sent sent_after losses losses_after [] → HasCome new records disk now_spent given_after sent_after losses_after read_after
      waits same quiet = record {
        turns = come.turns;
        posts = come.posts;
        base = come.base;
        left = come.left;
        goes = come.goes;
        base_kept = come.base_kept;
        more = come.more ++ one.turns;
        comes = subst (λ (ds : List Datagram). Comes told role boot period come.left come.base given_after (come.more ++ one.turns) ds new.now) (sym same) comes_further;
        same_area = area ∙ come.same_area;
        all = come.all ++ one.turns;
        all_are = all_further;
        received = received_on;
        reads = reads_on;
        sends = subst (Sends sent_before sent_after losses_before losses_after) (append-nil come.posts)
            (sends_join sent_before sent sent_after losses_before losses losses_after come.posts [] come.sends quiet);
        spends = spends_on;
        in_turn = come.in_turn;
      }

      -- nothing waits after it
      at_once : new.puts ≡ [] → cur.posts ≡ [] → new.posts ≡ [] → Sends sent sent_after losses losses_after one.mailed
          → HasCome new records disk now_spent given_after sent_after losses_after read_after
      at_once none before after sends =
          let same : new.now.kept ≡ records = new_held.kept ∙ ap (λ (rs : List Record). records ++ rs) none ∙ append-nil records in
          let all_sent : Sends sent sent_after losses losses_after (cur.posts ++ one.mailed) =
          subst (λ (ds : List Datagram). Sends sent sent_after losses losses_after (ds ++ one.mailed)) (sym before) sends in
          let batch : IsBatch told role boot period come.left come.base given_after (come.more ++ one.turns) (cur.posts ++ one.mailed) new.now = record {
            comes = comes_further;
            puts = [];
            grows = same ∙ sym come.base_kept ∙ sym (append-nil come.base.kept);
            room = tt;
            same_area = area ∙ come.same_area;
          } in
          record {
            turns = come.turns ++ (come.more ++ one.turns);
            posts = come.posts ++ (cur.posts ++ one.mailed);
            base = new.now;
            left = given_after;
            goes = then_batch come.left given_after come.turns (come.more ++ one.turns) come.posts (cur.posts ++ one.mailed) come.base new.now come.goes batch;
            base_kept = same;
            more = [];
            comes = subst (λ (ds : List Datagram). Comes told role boot period given_after new.now given_after [] ds new.now) (sym after) begun;
            same_area = refl;
            all = come.all ++ one.turns;
            all_are = all_further ∙ sym (append-nil (come.turns ++ (come.more ++ one.turns)));
            received = received_on;
            reads = reads_on;
            sends = sends_join sent_before sent sent_after losses_before losses losses_after come.posts (cur.posts ++ one.mailed) come.sends all_sent;
            spends = spends_on;
            in_turn = λ known. kept_again moment left_since first disk start.kept come.base.kept new.now.kept
                (kept_at told role boot period given_before start come.left come.turns come.posts come.base come.goes) (same ∙ sym come.base_kept) (come.in_turn known);
          }

      passes_on : HasMailed new.puts cur.posts new.posts sent sent_after losses losses_after one.mailed
          → HasCome new records disk now_spent given_after sent_after losses_after read_after
      passes_on (inl (same, quiet)) = waits same quiet
      passes_on (inr (none, before, after, sends)) = at_once none before after sends

    -- ---- a look at the records, where nothing waits

    module _ (none : cur.puts ≡ []) (unsent : cur.posts ≡ []) (after : D) (next : List Record) (changes : Changes told moment left_since disk after records next)
        (sent_after : Option (List Datagram)) (losses_after : ℕ) (quiet : Sends sent sent_after losses losses_after []) where
      same_records : cur.now.kept ≡ records
      same_records = held.kept ∙ ap (λ (rs : List Record). records ++ rs) none ∙ append-nil records

      sends_still : Sends sent_before sent_after losses_before losses_after (come.posts ++ cur.posts)
      sends_still = sends_join sent_before sent sent_after losses_before losses losses_after come.posts cur.posts come.sends
          (subst (Sends sent sent_after losses losses_after) (sym unsent) quiet)

      then_changed : (then : List Record) → then ≡ next → IsTrue told
          → KeptInTurn moment left_since first start.kept
          ((kept_at told role boot period given_before start come.left come.turns come.posts come.base come.goes ++ cur.now.kept ∷ []) ++ then ∷ []) then after
      then_changed then same known =
          let leaves : LeavesOnly moment left_since disk after (StandsForOne (cur.now.kept ∷ then ∷ [])) =
          subst (λ (rs : List Record). LeavesOnly moment left_since disk after (StandsForOne (rs ∷ then ∷ []))) (sym same_records)
          (subst (λ (rs : List Record). LeavesOnly moment left_since disk after (StandsForOne (records ∷ rs ∷ []))) (sym same) (changes.on known)) in
          then_next (kept_at told role boot period given_before start come.left come.turns come.posts come.base come.goes ++ cur.now.kept ∷ []) cur.now.kept then disk after
          (kept_again moment left_since first disk start.kept come.base.kept cur.now.kept
          (kept_at told role boot period given_before start come.left come.turns come.posts come.base come.goes) (same_records ∙ sym come.base_kept) (come.in_turn known))
          leaves (subst (λ (rs : List Record). KeepsNow moment left_since after rs) (sym same) (changes.now known))

      settles_to : (s : Served S) → Settles told role boot period cur.now s → s.kept ≡ next
          → HasCome (record { now = s; puts = []; posts = [] }) next after spent given sent_after losses_after read
      settles_to s (stays passes) same =
          let batch : IsBatch told role boot period given cur.now given ([] ++ []) ([] ++ []) (record cur.now { woken = false }) = record {
            comes = passed given given [] [] [] [] cur.now (record cur.now { woken = false }) begun (passes given) (takes_none given);
            puts = [];
            grows = sym (append-nil cur.now.kept);
            room = tt;
            same_area = refl;
          } in
          record {
            turns = (come.turns ++ come.more) ++ [];
            posts = (come.posts ++ cur.posts) ++ [];
            base = record cur.now { woken = false };
            left = given;
            goes = then_batch given given (come.turns ++ come.more) [] (come.posts ++ cur.posts) [] cur.now (record cur.now { woken = false }) goes_now batch;
            base_kept = same;
            more = [];
            comes = begun;
            same_area = refl;
            all = come.all;
            all_are = come.all_are ∙ sym (append-nil (come.turns ++ come.more)) ∙ sym (append-nil ((come.turns ++ come.more) ++ []));
            received = come.received;
            reads = come.reads;
            sends = subst (Sends sent_before sent_after losses_before losses_after) (sym (append-nil (come.posts ++ cur.posts))) sends_still;
            spends = come.spends;
            in_turn = then_changed cur.now.kept same;
          }
      settles_to s (rewrites keep is room) same = record {
        turns = come.turns ++ come.more;
        posts = come.posts ++ cur.posts;
        base = s;
        left = given;
        goes = then_rewritten given (come.turns ++ come.more) (come.posts ++ cur.posts) cur.now keep goes_now is room;
        base_kept = same;
        more = [];
        comes = begun;
        same_area = refl;
        all = come.all;
        all_are = come.all_are ∙ sym (append-nil (come.turns ++ come.more));
        received = come.received;
        reads = come.reads;
        sends = sends_still;
        spends = come.spends;
        in_turn = then_changed s.kept same;
      }

      settled : (new : Held S) → Settles told role boot period cur.now new.now → new.puts ≡ [] → new.posts ≡ [] → IsHeld new next
          → HasCome new next after spent given sent_after losses_after read
      settled new is empty nothing new_held =
          let same : new.now.kept ≡ next = new_held.kept ∙ ap (λ (rs : List Record). next ++ rs) empty ∙ append-nil next in
          let all : new ≡ record { now = new.now; puts = []; posts = [] } = λ i. record { now = new.now; puts = empty i; posts = nothing i } in
          subst (λ (h : Held S). HasCome h next after spent given sent_after losses_after read) (sym all) (settles_to new.now is same)

    -- ---- the loop goes on

    module _ (kept : D → Kept) (after : D) (given_after sent_after : Option (List Datagram)) (losses_after : ℕ) (read_after : Option (List ℕ)) where
      at_same : (new : Held S) (next : List Record) (now_spent : ℕ) → now_spent ≡ spent → given_after ≡ given → read_after ≡ read
          → HasCome new next after spent given sent_after losses_after read → HasCome new next after now_spent given_after sent_after losses_after read_after
      at_same new next now_spent s g r is =
          subst (λ n. HasCome new next after n given_after sent_after losses_after read_after) (sym s)
          (subst (λ o. HasCome new next after spent o sent_after losses_after read_after) (sym g)
          (subst (λ o. HasCome new next after spent given sent_after losses_after o) (sym r) is))

      ours : (new : Held S) (next : List Record) (now_spent : ℕ)
          → Advances told role boot period kept moment left_since cur records disk after spent given given_after sent sent_after losses losses_after read read_after new next now_spent
          → IsHeld new next → HasCome new next after now_spent given_after sent_after losses_after read_after
      ours new next now_spent (by_pass one area e d) new_held =
          subst (λ (x : D). HasCome new next x now_spent given_after sent_after losses_after read_after) (sym d)
          (subst (λ (rs : List Record). HasCome new rs disk now_spent given_after sent_after losses_after read_after) (sym e)
          (passes_on new now_spent given_after sent_after losses_after read_after one (subst (IsHeld new) e new_held) area one.mails))
      ours new next now_spent (by_commit is changes s g r sends) new_held =
          let there : IsHeld (record { now = cur.now; puts = []; posts = [] }) next = subst (λ (h : Held S). IsHeld h next) is new_held in
          let same : cur.now.kept ≡ next = there.kept ∙ append-nil next in
          at_same new next now_spent s g r
          (subst (λ (h : Held S). HasCome h next after spent given sent_after losses_after read) (sym is) (committed after next sent_after losses_after same changes sends))
      ours new next now_spent (by_look none unsent empty nothing settles changes s g r quiet) new_held =
          at_same new next now_spent s g r (settled none unsent after next changes sent_after losses_after quiet new settles empty nothing new_held)

      pub comes_on : (role' : Role S) (boot' : Boot) → role' ≡ role → boot' ≡ boot → (new : Held S) (next : List Record) (now_spent : ℕ)
          → Advances told role' boot' period kept moment left_since cur records disk after spent given given_after sent sent_after losses losses_after read read_after new next now_spent
          → IsHeld new next → HasCome new next after now_spent given_after sent_after losses_after read_after
      comes_on role' boot' r b new next now_spent moves new_held =
          ours new next now_spent
          (subst (λ x. Advances told role x period kept moment left_since cur records disk after spent given given_after sent sent_after losses losses_after read read_after new next now_spent) b
          (subst (λ x. Advances told x boot' period kept moment left_since cur records disk after spent given given_after sent sent_after losses losses_after read read_after new next now_spent) r moves))
          new_held

      -- ---- the node ends

      module _ (limit : ℕ) where
        abbrev pub IsServedOn : Status → Type 0
        IsServedOn said = (it : IsServedInBatches told role boot period start limit given_before given_after sent_before sent_after losses_before losses_after unread read_after said)
            × KeepsBatches told kept moment left_since first after start
            (kept_at told role boot period given_before start it.to_come it.turns it.posts it.end it.goes) it.end it.left

        spent_is : spent ≡ length (come.turns ++ come.more)
        spent_is = come.spends ∙ ap length come.all_are

        stopped : (said : Status) (turns : List Turn) (unheard : List Datagram) (more : List Datagram) (doing : Doing)
            → Takes given given_after (datagrams_in turns ++ unheard) → Reads read read_after (readings_in turns) → Sends sent sent_after losses losses_after more
            → EndsBatches told role boot period limit (length come.turns) come.left come.base (record { turns = come.more ++ turns; unread = unheard; doing = doing; more = more }) said
            → IsDoing told kept moment left_since disk after records doing → IsServedOn said
        stopped said turns unheard more doing received reads sends ends is_doing =
            let does : IsDoing told kept moment left_since disk after come.base.kept doing =
            subst (λ (rs : List Record). IsDoing told kept moment left_since disk after rs doing) (sym come.base_kept) is_doing in (
              record {
                turns = come.turns;
                posts = come.posts;
                end = come.base;
                to_come = come.left;
                left = record { turns = come.more ++ turns; unread = unheard; doing = doing; more = more };
                goes = come.goes;
                received = subst (Takes given_before given_after) (datagrams-three come.all come.turns come.more turns unheard come.all_are)
                    (takes_more given_before given given_after (datagrams_in come.all) (datagrams_in turns ++ unheard) come.received received);
                read = subst (Reads unread read_after) (readings-three come.all come.turns come.more turns come.all_are)
                    (reads_more unread read read_after (readings_in come.all) (readings_in turns) come.reads reads);
                sends = sends_join sent_before sent sent_after losses_before losses losses_after come.posts more come.sends sends;
                ending = ends;
              },
              record { until = disk; in_turn = come.in_turn; ending = does.0; last = does.1 },
            )

        -- the batch that it was in, and where it stopped after it
        left_out : (turns : List Turn) (unheard : List Datagram) (puts : List Record) (done : List Record → Doing)
            → Stops told role boot period limit spent given cur.now turns unheard puts → cur.puts ++ puts ≢ []
            → IsNotPut told role boot period limit (length come.turns) come.left come.base
            (record { turns = come.more ++ turns; unread = unheard; doing = done (cur.puts ++ puts); more = [] }) done
        left_out turns unheard puts done stops some =
            let reached : spent ≡ length come.turns + length come.more = spent_is ∙ length-append come.turns come.more in
            record {
              within = record { after = given; turns = come.more; posts = cur.posts; next = cur.now; batch = this_batch };
              turns = turns;
              unread = unheard;
              puts = puts;
              stops = subst (λ n. Stops told role boot period limit n given cur.now turns unheard puts) reached stops;
              some = some;
              is = refl;
            }

        not_put_ends : (said : Status) (turns : List Turn) (unheard : List Datagram) (puts : List Record)
            → Stops told role boot period limit spent given cur.now turns unheard puts
            → Takes given given_after (datagrams_in turns ++ unheard) → Reads read read_after (readings_in turns) → Sends sent sent_after losses losses_after []
            → cur.puts ++ puts ≢ [] → EndsCommit (IsDoing told kept moment left_since disk after records) (cur.puts ++ puts) said → IsServedOn said
        not_put_ends (status.DiskFault count) turns unheard puts stops received reads sends some does =
            stopped (status.DiskFault count) turns unheard [] (putting (cur.puts ++ puts)) received reads sends (inl (left_out turns unheard puts putting stops some)) does
        not_put_ends status.OutOfMemory turns unheard puts stops received reads sends some does =
            stopped status.OutOfMemory turns unheard [] (refused (cur.puts ++ puts)) received reads sends (inr (inl (left_out turns unheard puts refused stops some))) does
        not_put_ends _ turns unheard puts stops received reads sends some does = absurd does

        committed_ends : (said : Status) (left : Unfinished) (between : D) → Changes told moment left_since disk between records cur.now.kept
            → Takes given given_after (datagrams_in left.turns ++ left.unread) → Reads read read_after (readings_in left.turns)
            → Sends sent sent_after losses losses_after (cur.posts ++ left.more)
            → EndsBatches told role boot period limit spent given cur.now left said
            → IsDoing told kept moment left_since between after cur.now.kept left.doing → IsServedOn said
        committed_ends said left between changes received reads sends ends does = (
          record {
            turns = come.turns ++ come.more;
            posts = come.posts ++ cur.posts;
            end = cur.now;
            to_come = given;
            left = left;
            goes = then_batch come.left given come.turns come.more come.posts cur.posts come.base cur.now come.goes this_batch;
            received = subst (λ (ts : List Turn). Takes given_before given_after (datagrams_in ts ++ (datagrams_in left.turns ++ left.unread))) come.all_are
                (takes_more given_before given given_after (datagrams_in come.all) (datagrams_in left.turns ++ left.unread) come.received received);
            read = subst (λ (ts : List Turn). Reads unread read_after (readings_in ts ++ readings_in left.turns)) come.all_are
                (reads_more unread read read_after (readings_in come.all) (readings_in left.turns) come.reads reads);
            sends = subst (Sends sent_before sent_after losses_before losses_after) (sym (append_assoc come.posts cur.posts left.more))
                (sends_join sent_before sent sent_after losses_before losses losses_after come.posts (cur.posts ++ left.more) come.sends sends);
            ending = subst (λ n. EndsBatches told role boot period limit n given cur.now left said) spent_is ends;
          },
          record { until = between; in_turn = kept_now between cur.now.kept refl changes; ending = does.0; last = does.1 },
        )

        put_ends : (it : IsIn told role boot period given cur.now) (count : ℕ) → FitsIn it.met.journal (record_in told role boot period given cur.now it)
            → Takes given given_after (datagrams_in it.turn ++ []) → Reads read read_after (readings_in it.turn)
            → Sends sent sent_after losses losses_after (cur.posts ++ front_in told role boot period given cur.now it count)
            → IsDoing told kept moment left_since disk after records (has_put (cur.puts ++ puts_in told role boot period given cur.now it)) → IsServedOn status.OutOfMemory
        put_ends it count fits received reads sends does =
            stopped status.OutOfMemory it.turn [] (cur.posts ++ front_in told role boot period given cur.now it count)
            (has_put (cur.puts ++ puts_in told role boot period given cur.now it)) received reads sends
            (inr (inr (inl (record { after = given; turns = come.more; posts = cur.posts; next = cur.now; batch = this_batch }, (it, fits, (count, refl)))))) does

        ends_ours : (said : Status)
            → HasEnded told role boot period kept moment left_since cur records disk after spent given given_after sent sent_after losses losses_after read read_after limit said
            → IsServedOn said
        ends_ours said (after_commit _ left between changes received reads sends ends does) = committed_ends said left between changes received reads sends ends does
        ends_ours said (not_put _ turns unheard puts stops received reads sends some does) = not_put_ends said turns unheard puts stops received reads sends some does
        ends_ours said (after_put it count fits received reads sends does) = put_ends it count fits received reads sends does

        pub is_served_on : (role' : Role S) (boot' : Boot) → role' ≡ role → boot' ≡ boot → (said : Status)
            → HasEnded told role' boot' period kept moment left_since cur records disk after spent given given_after sent sent_after losses losses_after read read_after limit said
            → IsServedOn said
        is_served_on role' boot' r b said ended =
            ends_ours said
            (subst (λ x. HasEnded told role x period kept moment left_since cur records disk after spent given given_after sent sent_after losses losses_after read read_after limit said) b
            (subst (λ x. HasEnded told x boot' period kept moment left_since cur records disk after spent given given_after sent sent_after losses losses_after read read_after limit said) r ended))
