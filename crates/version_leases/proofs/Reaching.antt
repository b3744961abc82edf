-- moves that spare closed nodes, one after the other
use Rattle.std.proofs.Common.{◌≡◌, ◌∙◌, ℕ, ◌≤◌, ◌+◌, inl, inr, List, [], ◌∷◌, ◌++◌, refl, ap, sym, subst, arith, Option, Some, None, Bool, true, false}
use Rattle.std.specs.Prelude.{◌≢◌, ◌⊎◌}
use Rattle.xt_base.specs.declared.ids.NodeId.{NodeId}
use Rattle.xt_base.specs.declared.ids.Boot.{Boot}
use Rattle.xt_base.specs.declared.ids.Ballot.{Ballot}
use Rattle.xt_messages.specs.declared.message.Msg.{Msg}
use Rattle.lease_safety.specs.State.{Has, put}
use Rattle.lease_safety.proofs.Lists.{put-same, put-other}
use Rattle.xt_protocol.specs.OsdSteps.{OsdState}
use Rattle.lease_runs.specs.LeaseWorld.{LeaseSetting, LeaseRow, LeaseNode, LeaseWorld, RowStep, told_now, node_stepped, row_stepped, row_expires, row_lets_go, row_learns, node_asking, node_handling, node_stops, lease_expires, lease_let_go, count_learnt, node_asks, message_comes, less_is_seen, lease_after, IsAwake, IsSeenAs, IsLess, IsReached, moves}
use Rattle.lease_runs.proofs.Seen.{as_it_is}
use Rattle.closed_lists.specs.ClosedWorld.{IsReachedFrom, there, goes_on}
use Rattle.listed_leases.specs.VersionView.{row_at}
use Rattle.version_leases.specs.Seen.{file_of, row_seen, osd_seen, is_of_version, RunsIn}
use Rattle.version_leases.specs.Steps.{LeadsTo}

-- ---- worlds that are reached

pub along : (g : LeaseSetting) (closed : ℕ → Bool) (a b c : LeaseWorld) → IsReachedFrom g closed a b → IsReachedFrom g closed b c → IsReachedFrom g closed a c
along g closed a b _ first there = first
along g closed a b _ first (goes_on w move rest may spares) = goes_on w move (along g closed a b w first rest) may spares

pub reached_on : (g : LeaseSetting) (closed : ℕ → Bool) (a b : LeaseWorld) → IsReached g a → IsReachedFrom g closed a b → IsReached g b
reached_on g closed a _ reached there = reached
reached_on g closed a _ reached (goes_on w move rest may spares) = moves w move (reached_on g closed a w reached rest) may

pub then_less : (g : LeaseSetting) (closed : ℕ → Bool) (a w seen : LeaseWorld) → IsReachedFrom g closed a w → IsLess w seen → IsReachedFrom g closed a seen
then_less g closed a w seen reached less = goes_on w (less_is_seen seen) reached less tt

-- a world that is seen as one to which a step of a node leads
pub led_seen : (g : LeaseSetting) (closed : ℕ → Bool) (world : LeaseWorld) (node : NodeId) (seen : LeaseNode) (outs : List Msg) (after : LeaseWorld) → LeadsTo g closed world node seen outs
    → after.node node.0 ≡ seen → ((n : ℕ) → n ≢ node.0 → IsSeenAs (world.node n) (after.node n))
    → ((m : Msg) → Has m after.sent → (Has m outs × (is_of_version g m ≡ true)) ⊎ Has m world.sent) → IsReachedFrom g closed world after
led_seen g closed world node seen outs after leads here others sent =
    then_less g closed world leads.next after leads.reached
    (record {
      node = λ n. at n (same n node.0);
      sent = λ m h. elim (sent m h) [ inl new ↦ leads.sends m new.0 new.1 | inr old ↦ leads.keeps m old ];
    })
  where
    same : (a b : ℕ) → (a ≡ b) ⊎ (a ≢ b)
    same a b = grind arith

    at : (n : ℕ) → (n ≡ node.0) ⊎ (n ≢ node.0) → IsSeenAs (leads.next.node n) (after.node n)
    at n (inl e) =
        subst (λ (k : ℕ). IsSeenAs (leads.next.node k) (after.node k)) (sym e) (subst (λ (x : LeaseNode). IsSeenAs (leads.next.node node.0) x) (sym here) leads.here)
    at n (inr ne) = subst (λ (x : LeaseNode). IsSeenAs x (after.node n)) (sym (leads.others n ne)) (others n ne)

-- ---- a step of one running OSD

module _ (g : LeaseSetting) (closed : ℕ → Bool) (world : LeaseWorld) (node : NodeId) (gone : LeaseNode) (end : Option ℕ) (boot : Boot) (clock : ℕ) (s : OsdState) (is : RunsIn g world node gone end boot clock s) where
  -- how it is seen, with this row
  abbrev pub with_row : Option ℕ → LeaseRow → LeaseNode
  with_row told row = record { runs = true; boot = boot.0; clock = clock; started = s.started.start; row = row; told = told }

  seen_with : (row : LeaseRow) → row_at g.list (file_of g s) ≡ Some row → world.node node.0 ≡ with_row end row
  seen_with row at = is.seen ∙ ap (row_seen gone end boot clock s.started.start) at

  put_here : (x : LeaseNode) → put world.node node.0 x node.0 ≡ x
  put_here x = put-same world.node node.0 node.0 x refl

  put_there : (x : LeaseNode) (n : ℕ) → n ≢ node.0 → put world.node node.0 x n ≡ world.node n
  put_there x n ne = put-other world.node node.0 n x ne

  -- what must be of the state after the step: it started as before, and its row is this one
  pub record Becomes (after : OsdState) (to : LeaseRow) : Type 0 where
    pub start : after.started.start ≡ s.started.start
    pub row : row_at g.list (file_of g after) ≡ Some to

  after_seen : (after : OsdState) (told : Option ℕ) (row : LeaseRow) → Becomes after row → osd_seen g gone told boot clock after ≡ with_row told row
  after_seen after told row becomes =
      ap (row_seen gone told boot clock after.started.start) becomes.row
      ∙ ap (λ (start : ℕ). (let x : LeaseNode = record { runs = true; boot = boot.0; clock = clock; started = start; row = row; told = told } in x)) becomes.start

  -- by one step of its row
  pub by_step : (row : LeaseRow) (step : RowStep) (after : OsdState) (outs : List Msg) → row_at g.list (file_of g s) ≡ Some row → IsReachedFrom g closed world (row_stepped world node step)
      → Becomes after step.row → ((m : Msg) → Has m outs → is_of_version g m ≡ true → Has m step.outs)
      → LeadsTo g closed world node (osd_seen g gone (told_now step.end end) boot clock after) outs
  by_step row step after outs at reached becomes sends =
      record {
        next = row_stepped world node step;
        reached = reached;
        here =
            as_it_is _ _
            (after_seen after (told_now step.end end) step.row becomes
            ∙ sym (put_here (node_stepped (world.node node.0) step) ∙ ap (λ (x : LeaseNode). node_stepped x step) (seen_with row at)));
        others = λ n ne. put_there (node_stepped (world.node node.0) step) n ne;
        sends = λ m h about. in_front m step.outs (sends m h about);
        keeps = λ m h. behind m step.outs h;
      }
    where
      in_front : (m : Msg) (xs : List Msg) → Has m xs → Has m (xs ++ world.sent)
      in_front m [] h = absurd h
      in_front m (x ∷ xs) (inl e) = inl e
      in_front m (x ∷ xs) (inr h) = inr (in_front m xs h)

      behind : (m : Msg) (xs : List Msg) → Has m world.sent → Has m (xs ++ world.sent)
      behind m [] h = h
      behind m (x ∷ xs) h = inr (behind m xs h)

  -- nothing of it is seen to change
  pub unmoved : (after : OsdState) (told : Option ℕ) (outs : List Msg) → osd_seen g gone told boot clock after ≡ osd_seen g gone end boot clock s
      → ((m : Msg) → Has m outs → is_of_version g m ≡ true → ⊥) → LeadsTo g closed world node (osd_seen g gone told boot clock after) outs
  unmoved after told outs same none =
      record {
        next = world;
        reached = there;
        here = as_it_is _ _ (same ∙ sym is.seen);
        others = λ n ne. refl;
        sends = λ m h about. absurd (none m h about);
        keeps = λ m h. h;
      }

  -- it is seen as gone
  pub leaves : (after : OsdState) (told : Option ℕ) (outs : List Msg) → row_at g.list (file_of g after) ≡ None → ((m : Msg) → Has m outs → is_of_version g m ≡ true → ⊥)
      → LeadsTo g closed world node (osd_seen g gone told boot clock after) outs
  leaves after told outs unseen none =
      record {
        next = lease_after g world (node_stops node);
        reached = goes_on world (node_stops node) there tt tt;
        here =
            record {
              runs = ap (λ (x : LeaseNode). x.runs) now_gone ∙ is.stopped ∙ sym (ap (λ (x : LeaseNode). x.runs) (put_here (record (world.node node.0) { runs = false })));
              boot = below;
              running = λ runs. absurd (let off = ap (λ (x : LeaseNode). x.runs) (put_here (record (world.node node.0) { runs = false })) in cc (off, runs));
            };
        others = λ n ne. put_there (record (world.node node.0) { runs = false }) n ne;
        sends = λ m h about. absurd (none m h about);
        keeps = λ m h. h;
      }
    where
      now_gone : osd_seen g gone told boot clock after ≡ gone
      now_gone = ap (row_seen gone told boot clock after.started.start) unseen

      boot_before : (o : Option LeaseRow) → (row_seen gone end boot clock s.started.start o).boot ≤ gone.boot
      boot_before None = omega arith
      boot_before (Some row) = is.boots

      below : ((lease_after g world (node_stops node)).node node.0).boot ≤ (osd_seen g gone told boot clock after).boot
      below =
          (let here = ap (λ (x : LeaseNode). x.boot) (put_here (record (world.node node.0) { runs = false })) in
          let was = ap (λ (x : LeaseNode). x.boot) is.seen in
          let bound = boot_before (row_at g.list (file_of g s)) in
          let later = ap (λ (x : LeaseNode). x.boot) now_gone in
          omega (arith, here, was, bound, later))

  -- ---- one move

  runs_with : (row : LeaseRow) → row_at g.list (file_of g s) ≡ Some row → (world.node node.0).runs ≡ true
  runs_with row at = ap (λ (x : LeaseNode). x.runs) (seen_with row at)

  pub expires : (row : LeaseRow) → row_at g.list (file_of g s) ≡ Some row → IsReachedFrom g closed world (row_stepped world node (row_expires clock row))
  expires row at =
      subst (λ (x : LeaseNode). IsReachedFrom g closed world (row_stepped world node (row_expires x.clock x.row))) (seen_with row at)
      (goes_on world (lease_expires node) there (runs_with row at) tt)

  pub learns : (row : LeaseRow) (ballot : Ballot) → row_at g.list (file_of g s) ≡ Some row → IsReachedFrom g closed world (row_stepped world node (row_learns ballot row))
  learns row ballot at =
      subst (λ (x : LeaseNode). IsReachedFrom g closed world (row_stepped world node (row_learns ballot x.row))) (seen_with row at)
      (goes_on world (count_learnt node ballot) there (runs_with row at) tt)

  pub asks : (row : LeaseRow) → row_at g.list (file_of g s) ≡ Some row → closed node.0 ≡ false → IsReachedFrom g closed world (row_stepped world node (node_asking g node (with_row end row)))
  asks row at open_list =
      subst (λ (x : LeaseNode). IsReachedFrom g closed world (row_stepped world node (node_asking g node x))) (seen_with row at)
      (goes_on world (node_asks node) there (runs_with row at) open_list)

  pub handles : (row : LeaseRow) (m : Msg) → row_at g.list (file_of g s) ≡ Some row → m.to ≡ node → closed node.0 ≡ false → Has m world.sent → s.started.start + (g.times.lease + g.times.drift) ≤ clock
      → IsReachedFrom g closed world (row_stepped world node (node_handling g (with_row end row) m))
  handles row m at mine open_list sent awake =
      subst (λ (n : NodeId). IsReachedFrom g closed world (row_stepped world n (node_handling g (with_row end row) m))) mine
      (subst (λ (x : LeaseNode). IsReachedFrom g closed world (row_stepped world m.to (node_handling g x m))) here
      (goes_on world (message_comes m) there (sent, subst (IsAwake g) (sym here) (record { runs = refl; awake = awake })) (ap (λ (n : NodeId). closed n.0) mine ∙ open_list)))
    where
      here : world.node m.to.0 ≡ with_row end row
      here = ap (λ (n : NodeId). world.node n.0) mine ∙ seen_with row at

  -- what is overdue expires, and then all is let go
  abbrev let_go : LeaseRow → RowStep
  let_go row = row_lets_go (row_expires clock row).row

  pub lets_go : (row : LeaseRow) (after : OsdState) (outs : List Msg) → row_at g.list (file_of g s) ≡ Some row → Becomes after (row_lets_go (row_expires clock row).row).row
      → ((m : Msg) → Has m outs → is_of_version g m ≡ true → ⊥) → LeadsTo g closed world node (osd_seen g gone end boot clock after) outs
  lets_go row after outs at becomes none =
      record {
        next = next;
        reached = reached;
        here = as_it_is _ _ (after_seen after end (row_lets_go (row_expires clock row).row).row becomes ∙ sym there_is);
        others = λ n ne. put-other early.node node.0 n _ ne ∙ put_there (node_stepped (world.node node.0) (row_expires clock row)) n ne;
        sends = λ m h about. absurd (none m h about);
        keeps = λ m h. h;
      }
    where
      early : LeaseWorld
      early = row_stepped world node (row_expires clock row)

      next : LeaseWorld
      next = row_stepped early node (row_lets_go (row_expires clock row).row)

      early_is : early.node node.0 ≡ with_row end (row_expires clock row).row
      early_is = put_here (node_stepped (world.node node.0) (row_expires clock row)) ∙ ap (λ (x : LeaseNode). node_stepped x (row_expires clock row)) (seen_with row at)

      there_is : next.node node.0 ≡ with_row end (row_lets_go (row_expires clock row).row).row
      there_is =
          put-same early.node node.0 node.0 (node_stepped (early.node node.0) (row_lets_go (row_expires clock row).row)) refl
          ∙ ap (λ (x : LeaseNode). node_stepped x (row_lets_go (row_expires clock row).row)) early_is

      reached : IsReachedFrom g closed world next
      reached =
          subst (λ (x : LeaseNode). IsReachedFrom g closed world (row_stepped early node (row_lets_go x.row))) early_is
          (goes_on early (lease_let_go node) (expires row at) (ap (λ (x : LeaseNode). x.runs) early_is) tt)
