-- a call that is carried out, move by move
use Rattle.std.proofs.Common.{ℕ, ◌≡◌, inl, inr, ◌∙◌, ap, refl, sym, subst, false, Some, None, List, [], ◌∷◌, take}
use Rattle.xt_messages.specs.declared.message.Msg.{Msg}
use Rattle.node_runs.specs.Links.{Reads, Sends}
use Rattle.node_runs.proofs.Sending.{takes_more, reads_more, sends_join}
use Rattle.client_core.specs.Views.{ClientView}
use Rattle.client_loop.specs.declared.errors.DriveErr.{DriveErr}
use Rattle.client_loop.specs.declared.errors.DriveErr.TheVariants as error
use Rattle.client_loop.specs.declared.course.Handed.{Handed}
use Rattle.client_loop.specs.declared.listening.Listened.{Listened}
use Rattle.client_loop.specs.Listening.{DriverView, Traffic, no_traffic, GaveIn, HasLooked, CannotLook}
use Rattle.client_loop.specs.Mailing.{FrontMailed}
use Rattle.client_loop.specs.Carrying.{Around, Passes, both, Driven, stop_of, handed_by, step_of, mails, looked, passes, acts, looking, telling, handing, traffic_of, is_over, in_look, in_handing, HasHanded, HasNotHanded, HasMoved, HasNotMoved, Task, calling, called_at, Comes, begun, moved, HasCalled, HasCome, CannotCarry}
use Rattle.client_loop.proofs.Looking.{given_same, read_same}
use Rattle.client_loop.proofs.Mailed.{sends_same}
use Rattle.client_loop.proofs.Waited.{took}

-- ---- what passes

pub passes_join : (before mid after : Around) (first second : Traffic) → Passes before mid first → Passes mid after second → Passes before after (both first second)
passes_join before mid after first second p q = record {
  reads = reads_more before.to_read mid.to_read after.to_read first.readings second.readings p.reads q.reads;
  receives = takes_more before.to_come mid.to_come after.to_come first.received second.received p.receives q.receives;
  sends = sends_join before.sent mid.sent after.sent before.losses mid.losses after.losses first.sent second.sent p.sends q.sends;
}

-- ---- where nothing is handed over

module _ (s : Driven) (h : Handed) (before after : Around) where
  pub not_read : (client : ClientView) (count : ℕ) (why : DriveErr) → client ≡ s.client → why ≡ error.Clock count → after.to_read ≡ before.to_read
      → after.to_come ≡ before.to_come → Sends before.sent after.sent before.losses after.losses [] → HasNotHanded s h before after client why
  not_read client count why same is still come sent = subst (HasNotHanded s h before after client) (sym is) (record {
    undone = no_traffic;
    ends = (same, refl);
    passes = record { reads = read_same _ _ still; receives = given_same _ _ come; sends = sent };
  })

  pub not_given : (client : ClientView) (now : ℕ) (why : DriveErr) → client ≡ s.client → why ≡ error.OutOfMemory → Reads before.to_read after.to_read (now ∷ [])
      → after.to_come ≡ before.to_come → Sends before.sent after.sent before.losses after.losses [] → HasNotHanded s h before after client why
  not_given client now why same is reads come sent = subst (HasNotHanded s h before after client) (sym is) (record {
    undone = telling now [];
    ends = (now, refl, inl (same, refl));
    passes = record { reads = reads; receives = given_same _ _ come; sends = sent };
  })

  pub not_sent : (client : ClientView) (now : ℕ) (outs : List Msg) → client ≡ record s.client { state = (step_of s.client now h).state }
      → outs ≡ (step_of s.client now h).turned.outs → Reads before.to_read after.to_read (now ∷ []) → after.to_come ≡ before.to_come
      → FrontMailed s.driver.sender.node s.driver.sender.boot s.driver.listener.ears.book s.driver.sender.count outs (Sends before.sent after.sent before.losses after.losses)
      → HasNotHanded s h before after client error.OutOfMemory
  not_sent client now outs is gives reads come front = record {
    undone = telling now (mails s.driver (take front.0 outs)).datagrams;
    ends = (now, refl, inr (is, (front.0, ap (λ xs. (mails s.driver (take front.0 xs)).datagrams) gives)));
    passes = record { reads = reads; receives = given_same _ _ come; sends = front.1 };
  }

-- ---- a move

module _ (s : Driven) (before mid : Around) (until : ℕ) (stops : until ≡ stop_of s.course)
    (quiet : mid.sent ≡ before.sent) (lost : mid.losses ≡ before.losses) where
  pub not_looked : (client : ClientView) (why : DriveErr) → client ≡ s.client
      → CannotLook until s.driver.listener before.to_come mid.to_come before.to_read mid.to_read why → HasNotMoved s before mid client why
  not_looked client why same has =
      let there : CannotLook (stop_of s.course) s.driver.listener before.to_come mid.to_come before.to_read mid.to_read why =
      subst (λ n. CannotLook n s.driver.listener before.to_come mid.to_come before.to_read mid.to_read why) stops has in
      record {
        undone = there.undone;
        ends = in_look there.undone there.ends there.silent same;
        passes = record {
          reads = there.reads;
          receives = there.received;
          sends = subst (Sends before.sent mid.sent before.losses mid.losses) (sym there.silent) (sends_same _ _ _ _ quiet lost);
        };
      }

  module _ (d : DriverView) (made : Listened) (times : d.times ≡ s.driver.times) (sender : d.sender ≡ s.driver.sender)
      (has : HasLooked until s.driver.listener before.to_come mid.to_come before.to_read mid.to_read d.listener made) where
    at_stop : HasLooked (stop_of s.course) s.driver.listener before.to_come mid.to_come before.to_read mid.to_read d.listener made
    at_stop = subst (λ n. HasLooked n s.driver.listener before.to_come mid.to_come before.to_read mid.to_read d.listener made) stops has

    abbrev pub stood : Driven
    stood = record s { driver = d }

    is_looked : stood ≡ looked s at_stop.look
    is_looked = λ i. record s { driver = record { sender = sender i; times = times i; listener = at_stop.is i } }

    passed : Passes before mid (looking at_stop.look)
    passed = record { reads = at_stop.reads; receives = took _ _ at_stop.look at_stop.gave; sends = sends_same _ _ _ _ quiet lost }

    pub nothing_brought : is_over s ≡ false → handed_by s.course.rest made ≡ None → HasMoved s before mid stood
    nothing_brought on none = record {
      move = passes at_stop.look;
      may = record { goes_on = on; look = at_stop.may; gave = at_stop.gave; brought = sym (ap (handed_by s.course.rest) at_stop.told) ∙ none };
      is = is_looked;
      passes = passed;
    }

    module _ (after : Around) (h : Handed) (some : handed_by s.course.rest made ≡ Some h) where
      pub brought_and_done : (new : Driven) → is_over s ≡ false → after.to_come ≡ mid.to_come → HasHanded stood h mid after new → HasMoved s before after new
      brought_and_done new on come done =
          let there : HasHanded (looked s at_stop.look) h mid after new = subst (λ x. HasHanded x h mid after new) is_looked done in
          record {
            move = acts at_stop.look there.now h;
            may = record {
              goes_on = on;
              look = at_stop.may;
              gave = subst (λ o. GaveIn before.to_come o at_stop.look) (sym come) at_stop.gave;
              brought = sym (ap (handed_by s.course.rest) at_stop.told) ∙ some;
            };
            is = there.is;
            passes = passes_join before mid after (looking at_stop.look) (handing (looked s at_stop.look) there.now h) passed there.passes;
          }

      pub brought_not_done : (client : ClientView) (why : DriveErr) → HasNotHanded stood h mid after client why → HasNotMoved s before after client why
      brought_not_done client why done =
          let there : HasNotHanded (looked s at_stop.look) h mid after client why = subst (λ x. HasNotHanded x h mid after client why) is_looked done in
          record {
            undone = both (looking at_stop.look) there.undone;
            ends = in_handing at_stop.look h there.undone at_stop.may (sym (ap (handed_by s.course.rest) at_stop.told) ∙ some) there.ends;
            passes = passes_join before mid after (looking at_stop.look) there.undone passed there.passes;
          }

-- ---- the whole call

pub begins : (task : Task) (before after : Around) (new : Driven) → after.to_come ≡ before.to_come → HasCalled task before after new → HasCome task before after new
begins task before after new come called = record {
  traffic = calling task called.now;
  comes = subst (Comes task before.to_come after.to_come (calling task called.now)) (sym called.is)
      (subst (λ o. Comes task before.to_come o (calling task called.now) (called_at task called.now)) (sym come) (begun called.now));
  passes = called.passes;
}

module _ (task : Task) (before mid after : Around) (s : Driven) (so_far : HasCome task before mid s) where
  pub goes_further : (new : Driven) → HasMoved s mid after new → HasCome task before after new
  goes_further new one = record {
    traffic = both so_far.traffic (traffic_of s one.move);
    comes = subst (Comes task before.to_come after.to_come (both so_far.traffic (traffic_of s one.move))) (sym one.is)
        (moved mid.to_come after.to_come so_far.traffic s one.move so_far.comes one.may);
    passes = passes_join before mid after so_far.traffic (traffic_of s one.move) so_far.passes one.passes;
  }

  pub stops_short : (driver : DriverView) (client : ClientView) (why : DriveErr) → is_over s ≡ false → HasNotMoved s mid after client why
      → CannotCarry task before after driver client why
  stops_short driver client why on one = inr (record {
    between = mid.to_come;
    so_far = so_far.traffic;
    last = s;
    comes = so_far.comes;
    goes_on = on;
    undone = one.undone;
    ends = one.ends;
    passes = passes_join before mid after so_far.traffic one.undone so_far.passes one.passes;
  })
