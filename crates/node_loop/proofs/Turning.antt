-- what a turn comes to
use Rattle.std.proofs.Common.{ℕ, ◌≡◌, ◌<◌, ◌-◌, ◌+◌, refl, sym, ◌∙◌, ap, subst, Bool, true, false, Option, Some, None, List, [], ◌∷◌, ◌++◌, inl, inr, arith, suc}
use Rattle.std.specs.Prelude.{Result, Ok, Err, IfOk, IfErr}
use Rattle.std.specs.List.{All}
use Rattle.std.proofs.lemmas.List.{append-nil}
use Rattle.xt_messages.specs.Limits.{FitsMessage}
use Rattle.xt_base.specs.declared.ids.Boot.{Boot}
use Rattle.xt_messages.specs.declared.message.Msg.{Msg}
use Rattle.xt_messages.specs.declared.event.Event.{Event}
use Rattle.xt_messages.specs.declared.record.Record.{Record}
use Rattle.xt_messages.specs.declared.event.Event.TheVariants as event
use Rattle.xt_messages.specs.declared.status.Status.{Status}
use Rattle.xt_messages.specs.declared.status.Status.TheVariants as status
use Rattle.replica_records.specs.Known.{Sees}
use Rattle.node_links.specs.declared.link.Datagram.{Datagram}
use Rattle.node_links.specs.Streams.{Takes}
use Rattle.node_runs.specs.Links.{Sends, Reads}
use Rattle.node_runs.specs.Runs.{Role, Served, Turn, woke, idle, came, Begins, Passes, by_turn, by_own, in_turn, of_itself, meets, event_in, ends_event, posts_in, mails_in, goes_through, mails, step_at, datagrams_in, readings_in}
use Rattle.node_runs.specs.Serving.{IsBetween, IsIn, MayTurn}
use Rattle.node_runs.specs.BatchEnds.{BeginsOne, Stops, between, unclocked}
use Rattle.node_runs.specs.BatchEnds as served
use Rattle.node_runs.proofs.Sending.{sends_none, takes_none, reads_none}
use Rattle.node_loop.specs.declared.event.Stop.{Stop}
use Rattle.node_loop.specs.declared.event.Stop.TheVariants as stop
use Rattle.node_loop.specs.Events.{EndsEvent, Seeing}
use Rattle.node_loop.specs.Batched.{Held, HasMailed, HasStaged}
use Rattle.node_loop.specs.Passing.{HasPassed, HasStopped, WaitsAsBefore, status_of}
use Rattle.node_loop.specs.Turns.{HasBegun, CannotBegin, HasActed}

pub sends_same : (before after : Option (List Datagram)) (losses later : ℕ) → after ≡ before → later ≡ losses → Sends before after losses later []
sends_same before after losses later e f = subst (λ o. Sends before o losses later []) (sym e) (subst (λ n. Sends before before losses n []) (sym f) (sends_none before losses))

pub gives_same : (before after : Option (List Datagram)) → after ≡ before → Takes before after []
gives_same before after e = subst (λ o. Takes before o []) (sym e) (takes_none before)

pub reads_same : (before after : Option (List ℕ)) → after ≡ before → Reads before after []
reads_same before after e = subst (λ o. Reads before o []) (sym e) (reads_none before)

-- before the event of a turn is handled, all that was kept before it is kept
pub kept_met : {S : Type 0} (role : Role S) (boot : Boot) (period : ℕ) (old : Served S) (turn : Turn) → (meets role boot period old turn).kept ≡ old.kept
kept_met role boot period old (woke reading) = refl
kept_met role boot period old (idle reading) = refl
kept_met role boot period old (came datagram reading) = refl

-- nothing was mailed
mailed_none : (puts : List Record) (waited wait : List Datagram) (sent_before sent_after : Option (List Datagram)) (losses_before losses_after : ℕ)
    → HasMailed puts waited wait sent_before sent_after losses_before losses_after [] → (wait ≡ waited) × Sends sent_before sent_after losses_before losses_after []
mailed_none puts waited wait sent_before sent_after losses_before losses_after (inl (same, quiet)) = (same ∙ append-nil waited, quiet)
mailed_none puts waited wait sent_before sent_after losses_before losses_after (inr (none, before, after, quiet)) = (after ∙ sym before, quiet)

-- nothing more waits, and nothing was sent
pub mails_nothing : (puts : List Record) (waited wait : List Datagram) (sent_before sent_after : Option (List Datagram)) (losses_before losses_after : ℕ) → wait ≡ waited
    → Sends sent_before sent_after losses_before losses_after [] → HasMailed puts waited wait sent_before sent_after losses_before losses_after []
mails_nothing puts waited wait sent_before sent_after losses_before losses_after same quiet = inl (same ∙ sym (append-nil waited), quiet)

-- ---- an event is of the node that met it

-- an event of a node that met it so ends it
abbrev pub EndsIn : {S : Type 0} → Bool → Role S → Boot → Served S → Event → (List Datagram → Type 0) → (Option Record → Type 0) → Stop → Type 0
EndsIn told role boot met happens mailed staged why =
    Seeing told met.kept (λ seen. EndsEvent (role.step seen met.state met.clock happens) role.node boot met.ears.book met.count met.journal mailed staged why)

pub acted_as : {S : Type 0} (told : Bool) (role role' : Role S) (boot boot' : Boot) (met met' new : Served S) (happens : Event) (mailed : List Datagram → Type 0)
    → role' ≡ role → boot' ≡ boot → met' ≡ met → HasActed told role' boot' met' happens new mailed → HasActed told role boot met happens new mailed
acted_as told role role' boot boot' met met' new happens mailed r b m is =
    subst (λ x. HasActed told role boot x happens new mailed) m (subst (λ x. HasActed told role x met' happens new mailed) b
    (subst (λ x. HasActed told x boot' met' happens new mailed) r is))

-- the same of what waited before it, and of what the link had been given
pub mailed_from : (puts : List Record) (waited waited' wait : List Datagram) (sent sent' after : Option (List Datagram)) (losses losses' later : ℕ) (ds : List Datagram)
    → waited' ≡ waited → sent' ≡ sent → losses' ≡ losses → HasMailed puts waited' wait sent' after losses' later ds → HasMailed puts waited wait sent after losses later ds
mailed_from puts waited waited' wait sent sent' after losses losses' later ds w s l is =
    subst (λ x. HasMailed puts x wait sent after losses later ds) w
    (subst (λ x. HasMailed puts waited' wait x after losses later ds) s (subst (λ x. HasMailed puts waited' wait sent' after x later ds) l is))

pub ends_as : {S : Type 0} (told : Bool) (role role' : Role S) (boot boot' : Boot) (met met' : Served S) (happens : Event) (why : Stop) (puts puts_before puts_before' : List Record)
    (waited waited' wait : List Datagram) (sent sent' after : Option (List Datagram)) (losses losses' later : ℕ)
    → role' ≡ role → boot' ≡ boot → met' ≡ met → puts_before' ≡ puts_before → waited' ≡ waited → sent' ≡ sent → losses' ≡ losses
    → EndsIn told role' boot' met' happens (HasMailed puts waited' wait sent' after losses' later) (HasStaged told met'.journal puts_before' puts) why
    → EndsIn told role boot met happens (HasMailed puts waited wait sent after losses later) (HasStaged told met.journal puts_before puts) why
ends_as told role role' boot boot' met met' happens why puts puts_before puts_before' waited waited' wait sent sent' after losses losses' later r b m p w s l is =
    subst (λ x. EndsIn told role boot met happens (HasMailed puts waited wait sent after x later) (HasStaged told met.journal puts_before puts) why) l
    (subst (λ x. EndsIn told role boot met happens (HasMailed puts waited wait x after losses' later) (HasStaged told met.journal puts_before puts) why) s
    (subst (λ x. EndsIn told role boot met happens (HasMailed puts x wait sent' after losses' later) (HasStaged told met.journal puts_before puts) why) w
    (subst (λ x. EndsIn told role boot met happens (HasMailed puts waited' wait sent' after losses' later) (HasStaged told met.journal x puts) why) p
    (subst (λ x. EndsIn told role boot x happens (HasMailed puts waited' wait sent' after losses' later) (HasStaged told x.journal puts_before' puts) why) m
    (subst (λ x. EndsIn told role x met' happens (HasMailed puts waited' wait sent' after losses' later) (HasStaged told met'.journal puts_before' puts) why) b
    (subst (λ x. EndsIn told x boot' met' happens (HasMailed puts waited' wait sent' after losses' later) (HasStaged told met'.journal puts_before' puts) why) r is))))))

pub map_ok : {A B : Type 0} (P Q : A → Type 0) (r : Result A B) → ((x : A) → P x → Q x) → IfOk r P → IfOk r Q
map_ok P Q (Ok x) f p = f x p
map_ok P Q (Err e) f p = tt

pub map_err : {A B : Type 0} (P Q : B → Type 0) (r : Result A B) → ((x : B) → P x → Q x) → IfErr r P → IfErr r Q
map_err P Q (Ok x) f p = tt
map_err P Q (Err e) f p = f e p

pub begun_then : (left : ℕ) (before after then : Option (List Datagram)) (unread read : Option (List ℕ)) (turn : Turn) → then ≡ after
    → HasBegun left before after unread read turn → HasBegun left before then unread read turn
begun_then left before after then unread read turn e is = subst (λ o. HasBegun left before o unread read turn) (sym e) is

module _ {S : Type 0} (told : Bool) (role : Role S) (boot : Boot) (period limit spent : ℕ) (old : Held S)
    (before after sent_before sent_after : Option (List Datagram)) (losses_before losses_after : ℕ) (unread read : Option (List ℕ)) where
  -- a turn that could not be begun
  pub has_not_begun : (puts : List Record) (posts : List Datagram) (left : ℕ) (said : Status) → puts ≡ old.puts → posts ≡ old.posts → left ≡ old.now.due - old.now.clock
      → IsBetween told role boot period old.now → spent < limit → Sends sent_before sent_after losses_before losses_after []
      → CannotBegin left before after unread read said
      → HasStopped told role boot period limit spent old puts posts before after sent_before sent_after losses_before losses_after unread read (stop.With said)
  has_not_begun puts posts left (status.LinkFault count) p q e quiet_now more quiet is =
      let some : 0 < old.now.due - old.now.clock = subst (λ n. 0 < n) e is.0 in
      let later : old.now.clock < old.now.due = omega arith in
      record {
        turns = [];
        unheard = [];
        received = gives_same before after is.1;
        reads = reads_same unread read is.2;
        reason = tt;
        how = inl (record {
          same_puts = p;
          same_posts = q;
          quiet = quiet;
          stops = between;
          ends = λ n. ((quiet_now, more), later, refl);
        });
      }
  has_not_begun puts posts left (status.ClockFault count) p q e quiet_now more quiet is =
      let begins : Begins before (old.now.due - old.now.clock) is.0 = subst (λ n. Begins before n is.0) e is.1 in
      record {
        turns = [];
        unheard = datagrams_in (is.0 ∷ []);
        received = is.2;
        reads = reads_same unread read is.3;
        reason = tt;
        how = inl (record {
          same_puts = p;
          same_posts = q;
          quiet = quiet;
          stops = unclocked is.0 (quiet_now, more) begins;
          ends = λ n. ((quiet_now, more), (is.0, begins, refl));
        });
      }
  has_not_begun puts posts left _ p q e quiet_now more quiet is = absurd is

  module _ (turn : Turn) (left : ℕ) (e : left ≡ old.now.due - old.now.clock) (may : MayTurn told role boot period limit spent old.now) (begun : HasBegun left before after unread read turn) where
    begins_now : Begins before (old.now.due - old.now.clock) turn
    begins_now = subst (λ n. Begins before n turn) e begun.begins

    received_all : Takes before after (datagrams_in (turn ∷ []) ++ [])
    received_all = subst (Takes before after) (sym (append-nil (datagrams_in (turn ∷ [])))) begun.received

    pub has_no_memory : (puts : List Record) (posts : List Datagram) → puts ≡ old.puts → posts ≡ old.posts → Sends sent_before sent_after losses_before losses_after []
        → HasStopped told role boot period limit spent old puts posts before after sent_before sent_after losses_before losses_after unread read (stop.With status.OutOfMemory)
    has_no_memory puts posts p q quiet = record {
      turns = turn ∷ [];
      unheard = [];
      received = received_all;
      reads = begun.reads;
      reason = tt;
      how = inl (record {
        same_puts = p;
        same_posts = q;
        quiet = quiet;
        stops = served.in_turn turn may begins_now;
        ends = λ n. inl (turn ∷ [], (may, begins_now), refl);
      });
    }

    pub has_stopped : (puts : List Record) (posts : List Datagram) → puts ≡ old.puts → posts ≡ old.posts → Sends sent_before sent_after losses_before losses_after []
        → (happens : Option Event) → happens ≡ event_in role boot period old.now turn → ends_event role boot period happens ≡ true
        → HasStopped told role boot period limit spent old puts posts before after sent_before sent_after losses_before losses_after unread read (stop.With status.Done)
    has_stopped puts posts p q quiet happens is ended = record {
      turns = turn ∷ [];
      unheard = [];
      received = received_all;
      reads = begun.reads;
      reason = tt;
      how = inl (record {
        same_puts = p;
        same_posts = q;
        quiet = quiet;
        stops = served.in_turn turn may begins_now;
        ends = λ n. (may, (turn, begins_now, refl, ap (ends_event role boot period) (sym is) ∙ ended));
      });
    }

    pub has_turned : (happens : Option Event) (new : Held S) (seen : List Record)
        → Sees told (meets role boot period old.now turn).kept seen → happens ≡ event_in role boot period old.now turn
        → ends_event role boot period happens ≡ false → new.now ≡ goes_through told role boot period (meets role boot period old.now turn) seen happens
        → HasMailed new.puts old.posts new.posts sent_before sent_after losses_before losses_after (mails_in role boot period (meets role boot period old.now turn) seen happens)
        → (now_spent : ℕ) → now_spent ≡ spent + 1
        → HasPassed told role boot period old new spent now_spent before after sent_before sent_after losses_before losses_after unread read
    has_turned happens new seen sees is goes_on new_is went now_spent spends = record {
      turns = turn ∷ [];
      mailed = posts_in role boot period old.now seen turn;
      passes = subst (λ n. Passes told role boot period before old.now (turn ∷ []) (posts_in role boot period old.now seen turn) n)
          (ap (goes_through told role boot period (meets role boot period old.now turn) seen) (sym is) ∙ sym new_is)
          (by_turn turn seen (subst (λ kept. Sees told kept seen) (kept_met role boot period old.now turn) sees) may.0.0 may.0.1 begins_now (ap (ends_event role boot period) (sym is) ∙ goes_on));
      received = begun.received;
      reads = begun.reads;
      mails = subst (λ h. HasMailed new.puts old.posts new.posts sent_before sent_after losses_before losses_after (mails_in role boot period (meets role boot period old.now turn) seen h)) is went;
      spends = spends;
    }

    -- the event of the turn was handled
    pub has_turned_by : (happens : Event) (new : Held S) (role' : Role S) (boot' : Boot) (met' : Served S) (waited : List Datagram) (sent_then : Option (List Datagram)) (losses_then : ℕ)
        → role' ≡ role → boot' ≡ boot → met' ≡ meets role boot period old.now turn → waited ≡ old.posts → sent_then ≡ sent_before → losses_then ≡ losses_before
        → Some happens ≡ event_in role boot period old.now turn → ends_event role boot period (Some happens) ≡ false
        → HasActed told role' boot' met' happens new.now (HasMailed new.puts waited new.posts sent_then sent_after losses_then losses_after)
        → (now_spent : ℕ) → now_spent ≡ spent + 1
        → HasPassed told role boot period old new spent now_spent before after sent_before sent_after losses_before losses_after unread read
    has_turned_by happens new role' boot' met' waited sent_then losses_then r b m w s l is goes_on acted now_spent spends =
        let met = meets role boot period old.now turn in
        let ours = acted_as told role role' boot boot' met met' new.now happens (HasMailed new.puts waited new.posts sent_then sent_after losses_then losses_after) r b m acted in
        has_turned (Some happens) new ours.seen ours.sees is goes_on ours.is
        (mailed_from new.puts old.posts waited new.posts sent_before sent_then sent_after losses_before losses_then losses_after (mails role boot period met ours.seen happens) w s l ours.mails_are)
        now_spent spends

  -- an event that ends the node
  module _ (puts : List Record) (posts : List Datagram) where
    as_it_was : (it : IsIn told role boot period before old.now) (why : Stop) → HasMailed puts old.posts posts sent_before sent_after losses_before losses_after []
        → HasStaged told it.met.journal old.puts puts None
        → Stops told role boot period limit spent before old.now it.turn [] []
        → ((count : ℕ) → served.EndsBatches told role boot period limit spent before old.now (record served.all_done { turns = it.turn }) (status_of count why))
        → WaitsAsBefore told role boot period limit spent old puts posts before after sent_before sent_after losses_before losses_after unread read why it.turn []
    as_it_was it why none staged stops all =
        let quiet = mailed_none puts old.posts posts sent_before sent_after losses_before losses_after none in
        record {
          same_puts = staged.0 ∙ append-nil old.puts;
          same_posts = quiet.0;
          quiet = quiet.1;
          stops = stops;
          ends = all;
        }

    pub has_failed : (it : IsIn told role boot period before old.now) (why : Stop) → BeginsOne told role boot period limit spent before old.now it.turn
        → Stops told role boot period limit spent before old.now it.turn [] []
        → Takes before after (datagrams_in it.turn ++ []) → Reads unread read (readings_in it.turn)
        → EndsEvent (step_at role boot period it.met it.seen it.happens) role.node boot it.met.ears.book it.met.count it.met.journal
        (HasMailed puts old.posts posts sent_before sent_after losses_before losses_after) (HasStaged told it.met.journal old.puts puts) why
        → HasStopped told role boot period limit spent old puts posts before after sent_before sent_after losses_before losses_after unread read why
    has_failed it stop.Unread one stops received reads is = record {
      turns = it.turn;
      unheard = [];
      received = received;
      reads = reads;
      reason = tt;
      how = inl (as_it_was it stop.Unread is.0 is.1 stops (λ count. inr (inl (it, refl))));
    }
    has_failed it (stop.With (status.JournalFull need most)) one stops received reads is = record {
      turns = it.turn;
      unheard = [];
      received = received;
      reads = reads;
      reason = tt;
      how = inl (as_it_was it (stop.With (status.JournalFull need most)) is.0 is.1 stops (λ count. (it, refl, (is.2.0, is.2.1, is.2.2))));
    }
    has_failed it (stop.With status.OutOfMemory) one stops received reads (inl is) = record {
      turns = it.turn;
      unheard = [];
      received = received;
      reads = reads;
      reason = tt;
      how = inl (as_it_was it (stop.With status.OutOfMemory) is.0 is.1 stops (λ count. inl (it.turn, one, refl)));
    }
    has_failed it (stop.With status.OutOfMemory) one stops received reads (inr (front, staged)) = record {
      turns = it.turn;
      unheard = [];
      received = received;
      reads = reads;
      reason = tt;
      how = inr (record {
        why_is = refl;
        it = it;
        turns_are = refl;
        unheard_is = refl;
        fits = staged.1;
        puts_are = staged.0;
        count = front.0;
        mails = front.1;
      });
    }
    has_failed it _ one stops received reads is = absurd is

    pub has_turn_failed : (turn : Turn) (left : ℕ) → left ≡ old.now.due - old.now.clock → MayTurn told role boot period limit spent old.now → HasBegun left before after unread read turn
        → (happens : Event) (why : Stop) → Some happens ≡ event_in role boot period old.now turn
        → EndsIn told role boot (meets role boot period old.now turn) happens
        (HasMailed puts old.posts posts sent_before sent_after losses_before losses_after) (HasStaged told (meets role boot period old.now turn).journal old.puts puts) why
        → HasStopped told role boot period limit spent old puts posts before after sent_before sent_after losses_before losses_after unread read why
    has_turn_failed turn left e may begun happens why is failed =
        let begins : Begins before (old.now.due - old.now.clock) turn = subst (λ n. Begins before n turn) e begun.begins in
        let it : IsIn told role boot period before old.now = record {
          happens = happens;
          met = meets role boot period old.now turn;
          turn = turn ∷ [];
          is_met = in_turn turn happens may.0.0 may.0.1 begins (sym is);
          seen = failed.0;
          sees = failed.1;
        } in
        has_failed it why (may, begins) (served.in_turn turn may begins) (subst (Takes before after) (sym (append-nil (datagrams_in (turn ∷ [])))) begun.received) begun.reads failed.2

    -- a message of the node to itself that ends it
    pub has_told_failed : (msg : Msg) (rest : List Msg) → old.now.own ≡ msg ∷ rest → after ≡ before → read ≡ unread → (why : Stop) (seen : List Record) → Sees told old.now.kept seen
        → EndsEvent (role.step seen old.now.state old.now.clock (event.Deliver msg)) role.node boot old.now.ears.book old.now.count old.now.journal
        (HasMailed puts old.posts posts sent_before sent_after losses_before losses_after) (HasStaged told old.now.journal old.puts puts) why
        → HasStopped told role boot period limit spent old puts posts before after sent_before sent_after losses_before losses_after unread read why
    has_told_failed msg rest own given still why seen sees failed =
        let it : IsIn told role boot period before old.now = record {
          happens = event.Deliver msg;
          met = record (old.now) { own = rest };
          turn = [];
          is_met = of_itself msg rest own;
          seen = seen;
          sees = sees;
        } in
        has_failed it why tt between (gives_same before after given) (reads_same unread read still) failed

  -- a message of the node to itself
  pub has_told : (msg : Msg) (rest : List Msg) → old.now.own ≡ msg ∷ rest → after ≡ before → read ≡ unread → (new : Held S) (now_spent : ℕ) → now_spent ≡ spent
      → HasActed told role boot (record (old.now) { own = rest }) (event.Deliver msg) new.now (HasMailed new.puts old.posts new.posts sent_before sent_after losses_before losses_after)
      → HasPassed told role boot period old new spent now_spent before after sent_before sent_after losses_before losses_after unread read
  has_told msg rest own given still new now_spent spends acted = record {
    turns = [];
    mailed = mails role boot period (record (old.now) { own = rest }) acted.seen (event.Deliver msg);
    passes = subst (λ n. Passes told role boot period before old.now [] (mails role boot period (record (old.now) { own = rest }) acted.seen (event.Deliver msg)) n) (sym acted.is) (by_own msg rest acted.seen acted.sees own);
    received = gives_same before after given;
    reads = reads_same unread read still;
    mails = acted.mails_are;
    spends = omega arith;
  }

  -- all turns were taken
  pub has_spent : (puts : List Record) (posts : List Datagram) → puts ≡ old.puts → posts ≡ old.posts → IsBetween told role boot period old.now → spent ≡ limit
      → after ≡ before → read ≡ unread → Sends sent_before sent_after losses_before losses_after []
      → HasStopped told role boot period limit spent old puts posts before after sent_before sent_after losses_before losses_after unread read (stop.With (status.TurnsSpent limit))
  has_spent puts posts p q quiet_now all given still quiet = record {
    turns = [];
    unheard = [];
    received = gives_same before after given;
    reads = reads_same unread read still;
    reason = tt;
    how = inl (record {
      same_puts = p;
      same_posts = q;
      quiet = quiet;
      stops = between;
      ends = λ n. (quiet_now, all, refl, refl);
    });
  }

-- ---- a message of the node to itself

pub first_fits : (own rest : List Msg) (msg : Msg) → own ≡ msg ∷ rest → All FitsMessage own → FitsMessage msg
first_fits own rest msg e all = (subst (All FitsMessage) e all) 0 msg (omega arith)

pub rest_fit : (own rest : List Msg) (msg : Msg) → own ≡ msg ∷ rest → All FitsMessage own → All FitsMessage rest
rest_fit own rest msg e all k d inside = (subst (All FitsMessage) e all) (suc k) d (omega (arith, inside))
