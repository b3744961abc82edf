-- Every run of a file is a run of a world of heads.
use Rattle.std.specs.Prelude.{cond, flat_map}
use Rattle.std.proofs.Common.{◌≡◌, ℕ, ◌<◌, ◌⊎◌, Bool, true, List, [], ◌∷◌, ◌++◌, refl, sym, ap, ap₂, ◌∙◌, subst, inl, inr, if◌then◌else◌, Option, Some, None}
use Rattle.xt_base.specs.declared.ids.NodeId.{NodeId}
use Rattle.xt_base.specs.declared.ids.Epoch.{Epoch}
use Rattle.xt_base.specs.declared.ids.FileId.{FileId}
use Rattle.xt_base.specs.declared.ids.Stamp.{Stamp}
use Rattle.xt_messages.specs.declared.file.ObjectVersion.{ObjectVersion}
use Rattle.xt_messages.specs.declared.file.FileHead.{FileHead}
use Rattle.xt_messages.specs.declared.file.Op.{Op}
use Rattle.xt_messages.specs.declared.message.Msg.{Msg}
use Rattle.xt_messages.specs.declared.message.Payload.{Payload}
use Rattle.xt_messages.specs.declared.message.Payload.TheVariants as payload
use Rattle.xt_messages.specs.declared.record.FileRow.{FileRow}
use Rattle.xt_messages.specs.declared.record.Record.{Record}
use Rattle.xt_messages.specs.declared.record.Record.TheVariants as kept
use Rattle.xt_protocol.specs.declared.turned.Turned.{Turned}
use Rattle.xt_protocol.specs.LeaseRows.{Awake}
use Rattle.osd_invariants.specs.Sound.{IsHeld, IsSound}
use Rattle.osd_invariants.proofs.Kept.{expired_follows}
use Rattle.osd_invariants.proofs.SoundSteps.{start_so, expired_so, step_so, wake_so}
use Rattle.lease_runs.specs.ActsView.{ListAsked, RecordIs}
use Rattle.lease_runs.proofs.ActSteps.{step_rec, wake_step_rec}
use Rattle.xt_protocol.specs.Folds.{body_of}
use Rattle.xt_protocol.specs.FileStates.{FileState, Site, FileStep, file_from}
use Rattle.xt_protocol.specs.FileSteps.{step_of_file}
use Rattle.xt_protocol.specs.Forgetting.{versions_if, versions_led, versions_under}
use Rattle.xt_protocol.specs.PrimaryRows.{body_beyond}
use Rattle.xt_protocol.specs.ReplicaRows.{kept_after, stage_record}
use Rattle.xt_protocol.specs.Stamps.{is_earlier, has_version, with_held}
use Rattle.xt_protocol.specs.Turns.{quiet}
use Rattle.xt_protocol.specs.declared.states.Progress.{Progress}
use Rattle.xt_protocol.specs.declared.states.Progress.TheVariants as progress
use Rattle.xt_protocol.specs.declared.states.Tenure.{Tenure}
use Rattle.replica_safety.specs.Epochs.{at_node}
use Rattle.replica_safety.specs.Lists.{Has, AreDistinct}
use Rattle.replica_safety.specs.Rules.{Start}
use Rattle.replica_safety.proofs.Lists.{has-append}
use Rattle.replica_runs.specs.HeadSteps.{Step, Loses, StoresElse, Raises, KeepsBody, Forgets, MayAll, after_steps, AreKept, served_versions}
use Rattle.replica_runs.specs.HeadSteps as heads
use Rattle.replica_runs.specs.HeadWorld.{Node, Idle, Message, Piece, Status, shown, Entry, Local, local, put, BeginsAt}
use Rattle.replica_runs.specs.HeadWorld as world
use Rattle.replica_runs.specs.Made.{IsMade}
use Rattle.replica_runs.specs.Marks.{Begins}
use Rattle.replica_runs.specs.Steps.{without}
use Rattle.replica_runs.proofs.HeadLine.{entries_fit_there, order_of_changes, issues_first_there}
use Rattle.replica_runs.proofs.HeadRun.{turns_there, begins_there}
use Rattle.replica_runs.proofs.HeadStands.{IsReached}
use Rattle.replica_runs.proofs.Tools.{by_node, by_test, at_own}
use Rattle.replica_runs.specs.FileView.{FileReaches, seen_of, settled, IsList, ListFits, IsOrderly, IsFree, AskComes, ShowsFile, Stops}
use Rattle.replica_runs.specs.Seen.{Seen, local_of, primary_of, leads_as, AreIn, NamesHeld, OwnFits, ProgressFits, TenureFits, Fits}
use Rattle.replica_runs.proofs.AskSteps.{none_fit, expired_fit, step_fit, wake_fit}
use Rattle.replica_runs.proofs.Choosing.{not_after_loss, staged_held}
use Rattle.replica_runs.proofs.Files.{expired_none, expired_tenure, files_show}
use Rattle.replica_runs.proofs.Replicas.{stage_grows, same_file, tenure_grows, peers_grow}
use Rattle.replica_runs.proofs.Sending.{are_in, in_are, flat_has, has_flat, map_has, steps_append, may_append}
use Rattle.replica_runs.proofs.Stopping.{stops, lost, others_same, statuses_before}
use Rattle.file_runs.specs.FileRuns.{FileNode, Sent, Tale, FileWorld, Happening, message, wake, step_on, Ending, goes_on, stops_kept, stops_lost, Event, acts, starts, forgets, lapses, takes, gets, drops, raises, stores, joins, parts, OwnComes, OwnTells, sent_by, holder_after, keeping, acted, after, Comes, MayEnd, MayAct, May, after_all, BeginsFile, Tells, IsOnOneOrder}
use Rattle.file_runs.specs.FileRuns as runs

-- a file is sound whatever is held of it
held_so : (s : FileState) (held : List ObjectVersion) → IsSound s → IsSound (record s { kept = record s.kept { held = held } })
held_so s held so = record { led = so.led; issued = so.issued; waits = so.waits; list = so.list; peers = so.peers; ready = so.ready }

-- what is seen of a node in a world of heads, with this tenure
abbrev seen_at : FileNode → world.World → Option Tenure → Seen
seen_at x v t = record { kept = x.kept; body = x.body; tenure = t; holder = v.holder; sent = v.sent; entries = v.entries }

module _ (stripe : ℕ) (some : 0 < stripe) (ops : ℕ × ℕ → Op) (members : List ℕ) (distinct : AreDistinct members) (start : Start) where
  -- ---- one node

  pub record Down (x : FileNode) (v : world.World) (n : ℕ) : Type 0 where
    pub node : v.nodes n ≡ (local_of (seen_at x v None)).node
    pub fits : Fits members n (seen_at x v None)
    pub list : ListFits stripe members x.kept.location

  -- a running node: the tenure that is seen is its own, or none
  pub record Up (x : FileNode) (v : world.World) (n : ℕ) (s : FileState) : Type 0 where
    pub same : s.kept ≡ x.kept
    pub orderly : IsOrderly stripe ops members s
    pub tenure : Option Tenure
    pub either : (tenure ≡ None) ⊎ (tenure ≡ s.primary.tenure)
    pub node : v.nodes n ≡ (local_of (seen_at x v tenure)).node
    pub fits : Fits members n (seen_at x v tenure)

  abbrev pub Shape : FileNode → world.World → ℕ → Option FileState → Type 0
  Shape x v n None = Down x v n
  Shape x v n (Some s) = Up x v n s

  pub record Inv (w : FileWorld) : Type 0 where
    pub world : world.World
    pub reached : IsReached stripe ops members start world
    pub holder : world.holder ≡ w.holder
    pub sent : (x : Sent) → Has x w.sent → AreIn (shown x.from x.content) world.sent
    pub told : Tells stripe ops w.tales world.entries
    pub nodes : (n : ℕ) → Shape (w.nodes n) world n (w.nodes n).state

  -- ---- another node's steps

  -- what they leave of a node
  pub record Leaves (v v2 : world.World) (m : ℕ) : Type 0 where
    pub node : v2.nodes m ≡ v.nodes m
    pub grows : (x : Message) → Has x v.sent → Has x v2.sent
    pub before : (e : Epoch) (h : FileHead) → Has (Status m e h) v2.sent → Has (Status m e h) v.sent
    pub holds : (v2.holder ≡ Some m → v.holder ≡ Some m) × (v.holder ≡ Some m → v2.holder ≡ Some m)

  fits_on : (x : FileNode) (v v2 : world.World) (m : ℕ) (t : Option Tenure) → Leaves v v2 m → Fits members m (seen_at x v t) → Fits members m (seen_at x v2 t)
  fits_on x v v2 m t l f = record { names = f.names; tenure = tenure t f.tenure }
    where
      tenure : (o : Option Tenure) → TenureFits members m (seen_at x v t) o → TenureFits members m (seen_at x v2 t) o
      tenure None g = λ is. g (l.holds.0 is)
      tenure (Some k) g = (l.holds.1 g.0, record { peers = g.1.peers; sent = peers_grow m x.kept.file x.kept.file k.epoch k.peers v.sent v2.sent refl l.grows g.1.sent; progress = g.1.progress })

  shape_on : (x : FileNode) (v v2 : world.World) (m : ℕ) (o : Option FileState) → Leaves v v2 m → Shape x v m o → Shape x v2 m o
  shape_on x v v2 m None l d = record { node = l.node ∙ d.node; fits = fits_on x v v2 m None l d.fits; list = d.list }
  shape_on x v v2 m (Some s) l u = record { same = u.same; orderly = u.orderly; tenure = u.tenure; either = u.either; node = l.node ∙ u.node; fits = fits_on x v v2 m u.tenure l u.fits }

  -- ---- a list of steps of one node

  -- the world after it
  abbrev behind : world.World → ℕ → Seen → world.World
  behind v n b = put v n (local_of b)

  -- steps of a node that lead to what is seen
  pub record Goes (v : world.World) (n : ℕ) (b : Seen) : Type 0 where
    pub steps : List Step
    pub may : MayAll stripe ops members n (local v n) steps
    pub leads : after_steps n (local v n) steps ≡ local_of b
    pub grows : (x : Message) → Has x v.sent → Has x b.sent

  goes_reached : (v : world.World) (n : ℕ) (b : Seen) → Goes v n b → IsReached stripe ops members start v → IsReached stripe ops members start (behind v n b)
  goes_reached v n b g r = subst (λ l. IsReached stripe ops members start (put v n l)) g.leads
      (turns_there stripe some ops members start v (record { node = n; steps = g.steps } ∷ []) (g.may, tt) r)

  goes_leaves : (v : world.World) (n : ℕ) (b : Seen) → Goes v n b → (m : ℕ) → (m ≡ n → ⊥) → Leaves v (behind v n b) m
  goes_leaves v n b g m ne = record {
    node = by_node (λ t. (if t then (local_of b).node else v.nodes m) ≡ v.nodes m) m n (λ is. absurd (ne is)) (λ _. refl);
    grows = g.grows;
    before = λ e h k. statuses_before stripe ops members n (local v n) g.steps g.may m ne e h (subst (λ (l : Local). Has (Status m e h) l.sent) (sym g.leads) k);
    holds = subst (λ (l : Local). (l.holder ≡ Some m → v.holder ≡ Some m) × (v.holder ≡ Some m → l.holder ≡ Some m)) g.leads (others_same stripe ops members n (local v n) g.steps g.may m ne);
  }

  goes_nodes : (xs : ℕ → FileNode) (v : world.World) (n : ℕ) (b : Seen) (x : FileNode) → Goes v n b → ((m : ℕ) → Shape (xs m) v m (xs m).state) → Shape x (behind v n b) n x.state
      → (m : ℕ) → Shape (at_node n x xs m) (behind v n b) m (at_node n x xs m).state
  goes_nodes xs v n b x g all one m =
      by_node (λ t. Shape (if t then x else xs m) (behind v n b) m (if t then x else xs m).state) m n (λ is. subst (λ k. Shape x (behind v n b) k x.state) (sym is) one)
      (λ ne. shape_on (xs m) v (behind v n b) m (xs m).state (goes_leaves v n b g m ne) (all m))

  -- ---- who holds after it

  holder_is : (v : world.World) (n : ℕ) (b : Seen) → Goes v n b → (b.holder ≡ Some n → ⊥) → b.holder ≡ without n v.holder
  holder_is v n b g gone = at b.holder v.holder gone (λ m ne. (goes_leaves v n b g m ne).holds)
    where
      some_is : {i j : ℕ} → Some i ≡ Some j → i ≡ j
      some_is p = cc

      at : (h k : Option ℕ) → (h ≡ Some n → ⊥) → ((m : ℕ) → (m ≡ n → ⊥) → (h ≡ Some m → k ≡ Some m) × (k ≡ Some m → h ≡ Some m)) → h ≡ without n k
      at None None gone same = refl
      at (Some i) None gone same = absurd (cc ((same i (λ e. gone (ap Some e))).0 refl))
      at None (Some j) gone same = by_node (λ t. None ≡ (if t then None else Some j)) j n (λ _. refl) (λ ne. absurd (cc ((same j ne).1 refl)))
      at (Some i) (Some j) gone same = by_node (λ t. Some i ≡ (if t then None else Some j)) j n
          (λ is. absurd (gone (ap Some (sym (some_is ((same i (λ e. gone (ap Some e))).0 refl)) ∙ is))))
          (λ _. sym ((same i (λ e. gone (ap Some e))).0 refl))

  holder_behind : (v : world.World) (n : ℕ) (b : Seen) → Goes v n b → Fits members n b → b.holder ≡ holder_after n b.tenure v.holder
  holder_behind v n b g f = at b.tenure f.tenure
    where
      at : (o : Option Tenure) → TenureFits members n b o → b.holder ≡ holder_after n o v.holder
      at None t = holder_is v n b g t
      at (Some k) t = t.0

  -- ---- a node takes a step

  -- the list that is stored stays the one of this version
  list_after : (row : FileRow) (file : FileId) (from : NodeId) (content : Payload) (rec : Option Record) → RecordIs file content rec → AskComes stripe ops members from content
      → ListFits stripe members row.location → ListFits stripe members (kept_after row rec).location
  list_after row file from content None is known fits = fits
  list_after row file from content (Some (kept.View f location)) is known fits = of content is.1 known
    where
      of : (c : Payload) → ListAsked c location → AskComes stripe ops members from c → IsList stripe members location
      of (payload.Ask number capability asked) same k = subst (IsList stripe members) same k.0
      of _ same k = absurd same
  list_after row file from content (Some (kept.Promise f epoch)) is known fits = fits
  list_after row file from content (Some (kept.Update f update)) is known fits = fits
  list_after row file from content (Some (kept.Stage f object version bytes)) is known fits = fits
  list_after row file from content (Some (kept.Head f head)) is known fits = fits
  list_after row file from content (Some _) is known fits = absurd is

  module _ (w : FileWorld) (inv : Inv w) (n : ℕ) (s : FileState) (site : Site) (happens : Happening) (how : Ending) (may : MayAct stripe ops members w n s site happens how) (u : Up (w.nodes n) inv.world n s) where
    abbrev v : world.World
    v = inv.world

    abbrev x : FileNode
    x = w.nodes n

    abbrev s1 : FileState
    s1 = settled site s

    -- what is overdue leaves what is kept
    kept_same : s1.kept ≡ x.kept
    kept_same = expired_follows site s ∙ ap (kept_after s.kept) (expired_none site s) ∙ u.same

    body_same : site.body s1.kept.file ≡ x.body
    body_same = ap site.body (ap (λ (k : FileRow). k.file) (kept_same ∙ sym u.same)) ∙ may.bodies

    orderly1 : IsOrderly stripe ops members s1
    orderly1 = record {
      sound = expired_so site s u.orderly.sound;
      list = subst (λ (k : FileRow). ListFits stripe members k.location) (sym (kept_same ∙ sym u.same)) u.orderly.list;
      asks = expired_fit stripe ops site s u.orderly.asks;
    }

    -- the node, seen with the tenure that hasn't lapsed
    pub record Ready (h : Option ℕ) : Type 0 where
      pub steps : List Step
      pub may_steps : MayAll stripe ops members n (local v n) steps
      pub leads : after_steps n (local v n) steps ≡ local_of (seen_of site s1 h v.sent v.entries)
      pub fits : Fits members n (seen_of site s1 h v.sent v.entries)
      pub free : IsFree n v.holder → IsFree n h

    abbrev at_tenure : Option Tenure → Option ℕ → Seen
    at_tenure t h = record { kept = x.kept; body = x.body; tenure = t; holder = h; sent = v.sent; entries = v.entries }

    is_seen : (t : Option Tenure) (h : Option ℕ) → s1.primary.tenure ≡ t → at_tenure t h ≡ seen_of site s1 h v.sent v.entries
    is_seen t h is = λ i. record { kept = sym kept_same i; body = sym body_same i; tenure = sym is i; holder = h; sent = v.sent; entries = v.entries }

    free_without : IsFree n v.holder → IsFree n (without n v.holder)
    free_without f m is = absurd (not_after_loss n v.holder (at v.holder f is))
      where
        at : (h : Option ℕ) → IsFree n h → without n h ≡ Some m → without n h ≡ Some n
        at None g e = absurd cc
        at (Some k) g e = by_node (λ b. (if b then None else Some k) ≡ Some m → (if b then None else Some k) ≡ Some n) k n (λ _ q. absurd cc) (λ ne _. absurd (ne (g k refl))) e

    ready : (h : Option ℕ) × Ready h
    ready = at s1.primary.tenure refl
      where
        local_is : local v n ≡ local_of (at_tenure u.tenure v.holder)
        local_is = ap (λ (z : Node). record { node = z; holder = v.holder; sent = v.sent; entries = v.entries }) u.node

        at : (t : Option Tenure) → s1.primary.tenure ≡ t → (h : Option ℕ) × Ready h
        at None is = (
          without n v.holder,
          record {
            steps = Loses ∷ [];
            may_steps = (tt, tt);
            leads = ap (λ l. heads.after n l Loses) local_is ∙ ap local_of (is_seen None (without n v.holder) is);
            fits = subst (Fits members n) (is_seen None (without n v.holder) is) (record { names = u.fits.names; tenure = not_after_loss n v.holder });
            free = free_without;
          },
        )
        at (Some t) is = (
          v.holder,
          record {
            steps = [];
            may_steps = tt;
            leads = local_is ∙ ap (λ o. local_of (at_tenure o v.holder)) own ∙ ap local_of (is_seen (Some t) v.holder is);
            fits = subst (Fits members n) (ap (λ o. at_tenure o v.holder) own ∙ is_seen (Some t) v.holder is) u.fits;
            free = λ f. f;
          },
        )
          where
            holds : v.holder ≡ Some n
            holds = inv.holder ∙ may.holds t is

            none_lapsed : (s1.primary.tenure ≡ s.primary.tenure) ⊎ (s1.primary.tenure ≡ None) → s.primary.tenure ≡ Some t
            none_lapsed (inl e) = sym e ∙ is
            none_lapsed (inr e) = absurd (cc (sym e ∙ is))

            of : (o : Option Tenure) → (o ≡ None) ⊎ (o ≡ s.primary.tenure) → TenureFits members n (at_tenure u.tenure v.holder) o → o ≡ Some t
            of None e f = absurd (f holds)
            of (Some k) (inl e) f = absurd cc
            of (Some k) (inr e) f = e ∙ none_lapsed (expired_tenure site s)

            own : u.tenure ≡ Some t
            own = of u.tenure u.either u.fits.tenure

    -- what it shows
    came : (from : NodeId) (content : Payload) → Has (record { from = from.0; content = content }) w.sent ⊎ (shown from.0 content ≡ []) → AreIn (shown from.0 content) v.sent
    came from content (inl h) = inv.sent (record { from = from.0; content = content }) h
    came from content (inr nothing) = subst (λ ms. AreIn ms v.sent) (sym nothing) tt

    module _ (h : Option ℕ) (r : Ready h) where
      abbrev a : Seen
      a = seen_of site s1 h v.sent v.entries

      shows : ShowsFile stripe ops members site s h v.sent v.entries
      shows = files_show stripe ops members site s h v.sent v.entries distinct orderly1 (subst (λ k. Fits members k a) (sym may.here) r.fits)

      -- the bodies that the own head names are held
      own_fits : (from : NodeId) (content : Payload) → OwnTells n s.kept.head from content → OwnFits n s1.kept.held from content
      own_fits from (payload.Status file epoch head) mine = λ is v h. r.fits.names v (subst (λ (k : FileRow). Has v k.head.versions) (u.same ∙ sym kept_same) (mine is v h))
      own_fits from _ mine = tt

      step_reaches : (hp : Happening) → Comes stripe ops members w hp → OwnComes n s hp → (IsHeld (step_on site s hp).state.lease → IsFree n v.holder) → FileReaches stripe ops members n a (step_on site s hp)
      step_reaches (message from content) comes mine alone = subst (λ k. FileReaches stripe ops members k a (step_of_file site s from content)) may.here
          (shows.message from content (came from content comes.0) (subst (λ k. OwnFits k s1.kept.held from content) (sym may.here) (own_fits from content mine)) comes.1 (λ held. subst (λ k. IsFree k h) (sym may.here) (r.free (alone held))))
      step_reaches wake comes mine alone = subst (λ k. FileReaches stripe ops members k a (step_on site s wake)) may.here shows.wake

      step_orderly : (hp : Happening) → Comes stripe ops members w hp → FileReaches stripe ops members n a (step_on site s hp) → IsOrderly stripe ops members (step_on site s hp).state
      step_orderly (message from content) comes f = record {
        sound = step_so site s from content u.orderly.sound;
        list = subst (λ (k : FileRow). ListFits stripe members k.location) (sym f.kept)
            (list_after s1.kept s.kept.file from content (step_of_file site s from content).turned.rec (step_rec site s from content) comes.1 orderly1.list);
        asks = step_fit stripe ops site members s from content u.orderly.asks comes.1;
      }
      step_orderly wake comes f = record {
        sound = wake_so site s1 orderly1.sound;
        list = subst (λ (k : FileRow). ListFits stripe members k.location) (sym (f.kept ∙ ap (kept_after s1.kept) (wake_step_rec site s))) orderly1.list;
        asks = wake_fit stripe ops site s u.orderly.asks;
      }

      abbrev step : FileStep
      step = step_on site s happens

      f : FileReaches stripe ops members n a step
      f = step_reaches happens may.comes may.own (λ held. subst (IsFree n) (sym inv.holder) (may.alone held))

      orderly2 : IsOrderly stripe ops members step.state
      orderly2 = step_orderly happens may.comes f

      same_kept : (rec : Option Record) → kept_after s1.kept rec ≡ kept_after x.kept rec
      same_kept rec = ap (λ k. kept_after k rec) kept_same

      same_body : (rec : Option Record) → body_beyond s1.kept.file rec (site.body s1.kept.file) ≡ body_beyond x.kept.file rec x.body
      same_body rec = ap₂ (λ (k : FileRow) b. body_beyond k.file rec b) kept_same body_same

      sent_later : (outs : List Msg) (sent : List Message) → ((m : Msg) → Has m outs → AreIn (shown n m.payload) sent) → ((k : Message) → Has k v.sent → Has k sent)
          → (y : Sent) → Has y (sent_by n outs ++ w.sent) → AreIn (shown y.from y.content) sent
      sent_later outs sent all grows y k = of (has-append y (sent_by n outs) w.sent k)
        where
          of : Has y (sent_by n outs) ⊎ Has y w.sent → AreIn (shown y.from y.content) sent
          of (inl g) =
              let m = map_has (λ (m : Msg). let z : Sent = record { from = n; content = m.payload } in z) outs y g in
              subst (λ (z : Sent). AreIn (shown z.from z.content) sent) (sym m.2) (all m.0 m.1)
          of (inr g) = are_in (shown y.from y.content) sent (λ q i. grows q (in_are (shown y.from y.content) v.sent (inv.sent y g) q i))

      -- the node goes on
      goes_inv : Inv (acted w n step goes_on)
      goes_inv = record {
        world = behind v n b;
        reached = goes_reached v n b g inv.reached;
        holder = holder_behind v n b g f.reach.fits ∙ ap₂ (holder_after n) f.reach.is_tenure inv.holder;
        sent = sent_later step.turned.outs b.sent f.reach.shows.outs f.reach.shows.grows;
        told = (v.entries, inv.told, f.reach.shows.told);
        nodes = goes_nodes w.nodes v n b x2 g inv.nodes (record {
          same = f.kept ∙ same_kept step.turned.rec;
          orderly = orderly2;
          tenure = step.state.primary.tenure;
          either = inr refl;
          node = at_own v.nodes n (local_of b).node ∙ ap (λ (z : Seen). (local_of z).node) b_is;
          fits = subst (Fits members n) b_is f.reach.fits;
        });
      }
        where
          b : Seen
          b = f.reach.behind

          g : Goes v n b
          g = record {
            steps = r.steps ++ f.reach.shows.steps;
            may = may_append stripe ops members n (local v n) r.steps f.reach.shows.steps r.may_steps (subst (λ l. MayAll stripe ops members n l f.reach.shows.steps) (sym r.leads) f.reach.shows.may);
            leads = steps_append stripe ops members n (local v n) r.steps f.reach.shows.steps ∙ ap (λ l. after_steps n l f.reach.shows.steps) r.leads ∙ f.reach.shows.leads;
            grows = f.reach.shows.grows;
          }

          x2 : FileNode
          x2 = keeping x (Some step.state) step.turned.rec

          b_is : b ≡ seen_at x2 (behind v n b) step.state.primary.tenure
          b_is = λ i. record {
            kept = (f.reach.kept ∙ same_kept step.turned.rec) i;
            body = (f.reach.body ∙ same_body step.turned.rec) i;
            tenure = f.reach.is_tenure i;
            holder = b.holder;
            sent = b.sent;
            entries = b.entries;
          }

      -- the node stops
      halt_inv : (turned : Turned) (st : Stops stripe ops members n a turned) (sent2 : List Sent) (tales2 : List Tale) → ListFits stripe members (kept_after s1.kept turned.rec).location
          → ((y : Sent) → Has y sent2 → AreIn (shown y.from y.content) st.sent) → Tells stripe ops tales2 st.entries
          → Inv (record { nodes = at_node n (keeping x None turned.rec) w.nodes; holder = without n w.holder; sent = sent2; tales = tales2 })
      halt_inv turned st sent2 tales2 list sent told = record {
        world = behind v n c;
        reached = goes_reached v n c g inv.reached;
        holder = holder_is v n c g st.gone ∙ ap (without n) inv.holder;
        sent = sent;
        told = told;
        nodes = goes_nodes w.nodes v n c x2 g inv.nodes (record {
          node = at_own v.nodes n (local_of c).node ∙ ap (λ (z : Seen). (local_of z).node) c_is;
          fits = subst (Fits members n) c_is st.fits;
          list = subst (λ (k : FileRow). ListFits stripe members k.location) (same_kept turned.rec) list;
        });
      }
        where
          c : Seen
          c = record {
            kept = kept_after s1.kept turned.rec;
            body = body_beyond s1.kept.file turned.rec (site.body s1.kept.file);
            tenure = None;
            holder = st.holder;
            sent = st.sent;
            entries = st.entries;
          }

          g : Goes v n c
          g = record {
            steps = r.steps ++ st.steps;
            may = may_append stripe ops members n (local v n) r.steps st.steps r.may_steps (subst (λ l. MayAll stripe ops members n l st.steps) (sym r.leads) st.may);
            leads = steps_append stripe ops members n (local v n) r.steps st.steps ∙ ap (λ l. after_steps n l st.steps) r.leads ∙ st.leads;
            grows = st.grows;
          }

          x2 : FileNode
          x2 = keeping x None turned.rec

          c_is : c ≡ seen_at x2 (behind v n c) None
          c_is = λ i. record {
            kept = same_kept turned.rec i;
            body = same_body turned.rec i;
            tenure = None;
            holder = c.holder;
            sent = c.sent;
            entries = c.entries;
          }

      ends_inv : (e : Ending) → MayEnd step e → Inv (acted w n step e)
      ends_inv goes_on end = goes_inv
      ends_inv runs.stops end =
          let st = stops stripe ops members n a step.state.primary.tenure step.turned f.reach in
          halt_inv step.turned st (sent_by n step.turned.outs ++ w.sent) (record { node = n; marks = step.turned.marks } ∷ w.tales)
          (subst (λ (k : FileRow). ListFits stripe members k.location) f.kept orderly2.list) (sent_later step.turned.outs st.sent st.outs st.grows) (v.entries, inv.told, st.told)
      ends_inv stops_kept end =
          let st = stops stripe ops members n a step.state.primary.tenure step.turned f.reach in
          halt_inv step.turned st w.sent w.tales (subst (λ (k : FileRow). ListFits stripe members k.location) f.kept orderly2.list)
          (λ y k. are_in (shown y.from y.content) st.sent (λ q i. st.grows q (in_are (shown y.from y.content) v.sent (inv.sent y k) q i)))
          (subst (Tells stripe ops w.tales) (sym (st.untold end.0 end.1)) inv.told)
      ends_inv stops_lost end =
          let st = lost stripe ops members n a r.fits in
          halt_inv quiet st w.sent w.tales orderly1.list
          (λ y k. are_in (shown y.from y.content) st.sent (λ q i. st.grows q (in_are (shown y.from y.content) v.sent (inv.sent y k) q i)))
          (subst (Tells stripe ops w.tales) st.told inv.told)

  -- ---- each event

  pub acts_inv : (w : FileWorld) (inv : Inv w) (n : ℕ) (s : FileState) (site : Site) (happens : Happening) (how : Ending) → MayAct stripe ops members w n s site happens how → Inv (after w (acts n s site happens how))
  acts_inv w inv n s site happens how may =
      let u : Up (w.nodes n) inv.world n s = subst (Shape (w.nodes n) inv.world n) may.runs (inv.nodes n) in
      let r = ready w inv n s site happens how may u in
      ends_inv w inv n s site happens how may u r.0 r.1 how may.ends

  -- a node starts from what it keeps
  pub starts_inv : (w : FileWorld) (inv : Inv w) (n : ℕ) (awake : Awake) → (w.nodes n).state ≡ None → Inv (after w (starts n awake))
  starts_inv w inv n awake is = record {
    world = inv.world;
    reached = inv.reached;
    holder = inv.holder;
    sent = inv.sent;
    told = inv.told;
    nodes = λ m. by_node (λ b. Shape (if b then x2 else w.nodes m) inv.world m (if b then x2 else w.nodes m).state) m n (λ same. subst (λ k. Up x2 inv.world k s) (sym same) up) (λ _. inv.nodes m);
  }
    where
      s : FileState
      s = file_from awake (w.nodes n).kept

      x2 : FileNode
      x2 = record (w.nodes n) { state = Some s }

      down : Down (w.nodes n) inv.world n
      down = subst (Shape (w.nodes n) inv.world n) is (inv.nodes n)

      up : Up x2 inv.world n s
      up = record {
        same = refl;
        orderly = record { sound = start_so awake (w.nodes n).kept; list = down.list; asks = none_fit stripe ops };
        tenure = None;
        either = inl refl;
        node = down.node;
        fits = down.fits;
      }

  -- a node holds no more
  pub lapses_inv : (w : FileWorld) (inv : Inv w) (n : ℕ) → Inv (after w (lapses n))
  lapses_inv w inv n = record {
    world = v2;
    reached = subst (IsReached stripe ops members start) refl (turns_there stripe some ops members start v (record { node = n; steps = Loses ∷ [] } ∷ []) ((tt, tt), tt) inv.reached);
    holder = ap (without n) inv.holder;
    sent = inv.sent;
    told = inv.told;
    nodes = λ m. at m (by_node (λ b. (m ≡ n) ⊎ (m ≡ n → ⊥)) m n (λ same. inl same) (λ ne. inr ne));
  }
    where
      v : world.World
      v = inv.world

      v2 : world.World
      v2 = put v n (heads.after n (local v n) Loses)

      lost_node : (v.nodes n) ≡ (v.nodes n) → Node
      lost_node e = record { kept = (v.nodes n).kept; body = (v.nodes n).body; primary = Idle }

      others : (m : ℕ) → (m ≡ n → ⊥) → Leaves v v2 m
      others m ne = record {
        node = by_node (λ t. (if t then lost_node refl else v.nodes m) ≡ v.nodes m) m n (λ is. absurd (ne is)) (λ _. refl);
        grows = λ k h. h;
        before = λ e h k. k;
        holds = others_same stripe ops members n (local v n) (Loses ∷ []) (tt, tt) m ne;
      }

      own_fits : (x : FileNode) (t : Option Tenure) → Fits members n (seen_at x v t) → Fits members n (seen_at x v2 None)
      own_fits x t f = record { names = f.names; tenure = not_after_loss n v.holder }

      idle_node : (x : FileNode) (t : Option Tenure) → v.nodes n ≡ (local_of (seen_at x v t)).node → v2.nodes n ≡ (local_of (seen_at x v2 None)).node
      idle_node x t is = at_own v.nodes n (lost_node refl) ∙ ap (λ (z : Node). record { kept = z.kept; body = z.body; primary = Idle }) is

      own : (o : Option FileState) → Shape (w.nodes n) v n o → Shape (w.nodes n) v2 n o
      own None d = record { node = idle_node (w.nodes n) None d.node; fits = own_fits (w.nodes n) None d.fits; list = d.list }
      own (Some s) u = record { same = u.same; orderly = u.orderly; tenure = None; either = inl refl; node = idle_node (w.nodes n) u.tenure u.node; fits = own_fits (w.nodes n) u.tenure u.fits }

      at : (m : ℕ) → (m ≡ n) ⊎ (m ≡ n → ⊥) → Shape (w.nodes m) v2 m (w.nodes m).state
      at m (inl same) = subst (λ k. Shape (w.nodes k) v2 k (w.nodes k).state) (sym same) (own (w.nodes n).state (inv.nodes n))
      at m (inr ne) = shape_on (w.nodes m) v v2 m (w.nodes m).state (others m ne) (inv.nodes m)

  -- ---- bodies are forgotten

  module _ (w : FileWorld) (inv : Inv w) (n : ℕ) (s : FileState) (held : List ObjectVersion) (body : ℕ → Stamp → List ℕ) (may : runs.MayForget w n s held body) where
    abbrev Before : FileNode
    Before = w.nodes n

    abbrev After : FileNode
    After = record {
      state = Some (record s { kept = record s.kept { held = held } });
      kept = record (w.nodes n).kept { held = held };
      body = body;
    }

    abbrev behind_it : world.World
    behind_it = put inv.world n (heads.after n (local inv.world n) (Forgets held body))

    -- what is named and held is kept
    still : (versions : List ObjectVersion) → AreKept Before.kept.held held versions → NamesHeld Before.kept.held versions → NamesHeld held versions
    still versions keeps named v h = keeps v h (named v h)

    up_before : Up Before inv.world n s
    up_before = subst (Shape (w.nodes n) inv.world n) may.runs (inv.nodes n)

    -- the versions that the seen primary serves are those that it needs
    served : (o : Option Tenure) → (o ≡ None) ⊎ (o ≡ s.primary.tenure) → AreKept Before.kept.held held (served_versions (primary_of o))
    served None e = λ v h. absurd h
    served (Some t) (inl e) = absurd cc
    served (Some t) (inr e) = of t.progress (subst (λ (o : Option Tenure). AreKept Before.kept.held held (versions_under (record { 0 = n }) o)) (sym e) may.led)
      where
        of : (p : Progress) → AreKept Before.kept.held held (versions_led (record { 0 = n }) t.peers p) → AreKept Before.kept.held held (served_versions (leads_as t.epoch t.peers p))
        of progress.Gathering led = λ v h. absurd h
        of (progress.Fetching chosen source asked later) led = λ v h. absurd h
        of (progress.Installing chosen acked) led = λ v h. absurd h
        of (progress.Active committed None) led = led
        of (progress.Active committed (Some issued)) led = led

    may_step : heads.MayForget (inv.world.nodes n) held body
    may_step = subst (λ (z : Node). heads.MayForget z held body) (sym up_before.node)
        (record { less = may.less; same = may.same; head = may.head; served = served up_before.tenure up_before.either })

    progress_fits : (t : Tenure) (p : Progress) → AreKept Before.kept.held held (versions_led (record { 0 = n }) t.peers p) → ProgressFits members n Before.kept.held t.peers p → ProgressFits members n held t.peers p
    progress_fits t progress.Gathering led fits = λ h is. still h.versions (subst (λ (o : Option FileHead). AreKept Before.kept.held held (versions_if o)) is led) (fits h is)
    progress_fits t (progress.Fetching chosen source asked later) led fits = λ k h. of k h (fits k h)
      where
        of : (k : ObjectVersion) → Has k chosen.versions → (has_version Before.kept.held k ≡ true) ⊎ ((k ≡ asked) ⊎ Has k later) → (has_version held k ≡ true) ⊎ ((k ≡ asked) ⊎ Has k later)
        of k h (inl e) = inl (led k h e)
        of k h (inr e) = inr e
    progress_fits t (progress.Installing chosen acked) led fits = (still chosen.versions led fits.0, fits.1)
    progress_fits t (progress.Active committed issued) led fits = fits

    tenure_fits : (o : Option Tenure) → (o ≡ None) ⊎ (o ≡ s.primary.tenure) → TenureFits members n (seen_at Before inv.world o) o → TenureFits members n (seen_at After behind_it o) o
    tenure_fits None e f = f
    tenure_fits (Some t) (inl e) f = absurd cc
    tenure_fits (Some t) (inr e) f = (
      f.0,
      record {
        peers = f.1.peers;
        sent = f.1.sent;
        progress = progress_fits t t.progress (subst (λ (o : Option Tenure). AreKept Before.kept.held held (versions_under (record { 0 = n }) o)) (sym e) may.led) f.1.progress;
      },
    )

    up_after : Up After behind_it n (record s { kept = record s.kept { held = held } })
    up_after = record {
      same = ap (λ (k : FileRow). record k { held = held }) up_before.same;
      orderly = record { sound = held_so s held up_before.orderly.sound; list = up_before.orderly.list; asks = up_before.orderly.asks };
      tenure = up_before.tenure;
      either = up_before.either;
      node =
          at_own inv.world.nodes n (heads.after n (local inv.world n) (Forgets held body)).node
          ∙ ap (λ (z : Node). record { kept = record z.kept { held = held }; body = body; primary = z.primary }) up_before.node;
      fits = record {
        names = still Before.kept.head.versions may.head up_before.fits.names;
        tenure = tenure_fits up_before.tenure up_before.either up_before.fits.tenure;
      };
    }

    leaves : (m : ℕ) → (m ≡ n → ⊥) → Leaves inv.world behind_it m
    leaves m ne = record {
      node = by_node (λ t. (if t then (heads.after n (local inv.world n) (Forgets held body)).node else inv.world.nodes m) ≡ inv.world.nodes m) m n (λ is. absurd (ne is)) (λ _. refl);
      grows = λ k h. h;
      before = λ e h k. k;
      holds = (λ e. e, λ e. e);
    }

    pub forgets_inv : Inv (after w (forgets n s held body))
    forgets_inv = record {
      world = behind_it;
      reached = turns_there stripe some ops members start inv.world (record { node = n; steps = Forgets held body ∷ [] } ∷ []) ((may_step, tt), tt) inv.reached;
      holder = inv.holder;
      sent = inv.sent;
      told = inv.told;
      nodes = λ m. by_node (λ t. Shape (if t then After else w.nodes m) behind_it m (if t then After else w.nodes m).state) m n
          (λ same. subst (λ (k : ℕ). Up After behind_it k (record s { kept = record s.kept { held = held } })) (sym same) up_after)
          (λ ne. shape_on (w.nodes m) inv.world behind_it m (w.nodes m).state (leaves m ne) (inv.nodes m));
    }

  -- ---- a node that doesn't run

  -- one small step of it
  module _ (w : FileWorld) (inv : Inv w) (n : ℕ) (x2 : FileNode) (z : Step) where
    abbrev resting_b : Seen
    resting_b = seen_at x2 inv.world None

    abbrev resting_l : Local
    resting_l = local_of (seen_at (w.nodes n) inv.world None)

    resting : (w.nodes n).state ≡ None → x2.state ≡ None → heads.May stripe ops members n resting_l z → heads.after n resting_l z ≡ local_of resting_b
        → NamesHeld x2.kept.held x2.kept.head.versions → ListFits stripe members x2.kept.location → Inv (record w { nodes = at_node n x2 w.nodes })
    resting rests still may leads names list = record {
      world = behind inv.world n resting_b;
      reached = goes_reached inv.world n resting_b g inv.reached;
      holder = inv.holder;
      sent = inv.sent;
      told = inv.told;
      nodes = goes_nodes w.nodes inv.world n resting_b x2 g inv.nodes (subst (Shape x2 (behind inv.world n resting_b) n) (sym still) (record {
        node = at_own inv.world.nodes n (local_of resting_b).node;
        fits = record { names = names; tenure = down.fits.tenure };
        list = list;
      }));
    }
      where
        down : Down (w.nodes n) inv.world n
        down = subst (Shape (w.nodes n) inv.world n) rests (inv.nodes n)

        local_is : local inv.world n ≡ resting_l
        local_is = ap (λ (k : Node). record { node = k; holder = inv.world.holder; sent = inv.world.sent; entries = inv.world.entries }) down.node

        g : Goes inv.world n resting_b
        g = record {
          steps = z ∷ [];
          may = (subst (λ l. heads.May stripe ops members n l z) (sym local_is) may, tt);
          leads = ap (λ l. heads.after n l z) local_is ∙ leads;
          grows = λ k h. h;
        }

  down_at : (w : FileWorld) (inv : Inv w) (n : ℕ) → (w.nodes n).state ≡ None → Down (w.nodes n) inv.world n
  down_at w inv n is = subst (Shape (w.nodes n) inv.world n) is (inv.nodes n)

  -- a body is staged: what is named is held, and the list is the same
  staged_names : (row : FileRow) (o : ℕ) (v : Stamp) (bytes : List ℕ) → NamesHeld row.held row.head.versions
      → let after = kept_after row (stage_record row.file row.held o v bytes) in NamesHeld after.held after.head.versions
  staged_names row o v bytes names =
      by_test (λ b. let after = kept_after row (cond b None (Some (kept.Stage row.file o v bytes))) in NamesHeld after.held after.head.versions) (has_version row.held (body_of o v))
      (λ _. names) (λ _. staged_held row.held row.head.versions (body_of o v) names)

  staged_list : (row : FileRow) (o : ℕ) (v : Stamp) (bytes : List ℕ) → ListFits stripe members row.location
      → ListFits stripe members (kept_after row (stage_record row.file row.held o v bytes)).location
  staged_list row o v bytes list =
      by_test (λ b. ListFits stripe members (kept_after row (cond b None (Some (kept.Stage row.file o v bytes)))).location) (has_version row.held (body_of o v))
      (λ _. list) (λ _. list)

  gets_inv : (w : FileWorld) (inv : Inv w) (n o : ℕ) (v : Stamp) (bytes : List ℕ) → (w.nodes n).state ≡ None → runs.IsBrought w o v bytes → Inv (after w (gets n o v bytes))
  gets_inv w inv n o v bytes is by =
      resting w inv n (keeping (w.nodes n) None (stage_record (w.nodes n).kept.file (w.nodes n).kept.held o v bytes)) (KeepsBody o v bytes) is refl
      (in_are (shown by.by.from by.by.content) inv.world.sent (inv.sent by.by by.sent) (Piece o v bytes) by.brings) refl
      (staged_names (w.nodes n).kept o v bytes (down_at w inv n is).fits.names) (staged_list (w.nodes n).kept o v bytes (down_at w inv n is).list)

  drops_inv : (w : FileWorld) (inv : Inv w) (n : ℕ) (held : List ObjectVersion) (body : ℕ → Stamp → List ℕ) → runs.MayDrop w n held body → Inv (after w (drops n held body))
  drops_inv w inv n held body may =
      resting w inv n (record { state = None; kept = record (w.nodes n).kept { held = held }; body = body }) (Forgets held body) may.rests refl
      (record { less = may.less; same = may.same; head = may.head; served = λ v h. absurd h }) refl
      (λ v h. may.head v h ((down_at w inv n may.rests).fits.names v h)) (down_at w inv n may.rests).list

  raises_inv : (w : FileWorld) (inv : Inv w) (n : ℕ) (e : Epoch) → (w.nodes n).state ≡ None → is_earlier (w.nodes n).kept.head.promised e ≡ true → Inv (after w (raises n e))
  raises_inv w inv n e is above =
      resting w inv n (record { state = None; kept = runs.raised (w.nodes n).kept e; body = (w.nodes n).body }) (Raises e) is refl above refl
      (down_at w inv n is).fits.names (down_at w inv n is).list

  stores_inv : (w : FileWorld) (inv : Inv w) (n : ℕ) (row : FileRow) → runs.MayStore stripe members w n row → Inv (after w (stores n row))
  stores_inv w inv n row may =
      resting w inv n (record { state = None; kept = row; body = (w.nodes n).body }) (StoresElse row) may.rests refl (may.head, may.held) refl
      (names row.held row.head (w.nodes n).kept.held (w.nodes n).kept.head may.held may.head (down_at w inv n may.rests).fits.names) may.list
    where
      names : (h : List ObjectVersion) (f : FileHead) (k : List ObjectVersion) (g : FileHead) → h ≡ k → f ≡ g → NamesHeld k g.versions → NamesHeld h f.versions
      names h f k g same is all = subst (λ vs. NamesHeld vs f.versions) (sym same) (subst (λ (d : FileHead). NamesHeld k d.versions) (sym is) all)

  -- a node that runs keeps a body
  takes_inv : (w : FileWorld) (inv : Inv w) (n : ℕ) (s : FileState) (o : ℕ) (v : Stamp) (bytes : List ℕ) → (w.nodes n).state ≡ Some s → runs.IsBrought w o v bytes → Inv (after w (takes n s o v bytes))
  takes_inv w inv n s o t bytes is by = record {
    world = behind v n b;
    reached = goes_reached v n b g inv.reached;
    holder = inv.holder;
    sent = inv.sent;
    told = inv.told;
    nodes = goes_nodes w.nodes v n b x2 g inv.nodes (record {
      same = ap (λ (k : FileRow). kept_after k rec) u.same;
      orderly = record {
        sound = by_test (λ c. IsSound (record s { kept = kept_after s.kept (staged c) })) (has_version x.kept.held (body_of o t))
            (λ _. u.orderly.sound) (λ _. held_so s (with_held s.kept.held (body_of o t)) u.orderly.sound);
        list = by_test (λ c. ListFits stripe members (kept_after s.kept (staged c)).location) (has_version x.kept.held (body_of o t))
            (λ _. u.orderly.list) (λ _. u.orderly.list);
        asks = u.orderly.asks;
      };
      tenure = u.tenure;
      either = u.either;
      node = at_own v.nodes n (local_of b).node;
      fits = record {
        names = staged_names x.kept o t bytes u.fits.names;
        tenure = tenure_grows members n (seen_at x v u.tenure) (seen_at x2 (behind v n b) u.tenure) u.tenure refl (same_file x.kept rec) (stage_grows x.kept o t bytes) (λ k h. h) u.fits.tenure;
      };
    });
  }
    where
      v : world.World
      v = inv.world

      x : FileNode
      x = w.nodes n

      staged : Bool → Option Record
      staged c = cond c None (Some (kept.Stage x.kept.file o t bytes))

      rec : Option Record
      rec = stage_record x.kept.file x.kept.held o t bytes

      x2 : FileNode
      x2 = keeping x (Some (record s { kept = kept_after s.kept rec })) rec

      u : Up x v n s
      u = subst (Shape x v n) is (inv.nodes n)

      b : Seen
      b = seen_at x2 v u.tenure

      local_is : local v n ≡ local_of (seen_at x v u.tenure)
      local_is = ap (λ (k : Node). record { node = k; holder = v.holder; sent = v.sent; entries = v.entries }) u.node

      g : Goes v n b
      g = record {
        steps = KeepsBody o t bytes ∷ [];
        may = (in_are (shown by.by.from by.by.content) v.sent (inv.sent by.by by.sent) (Piece o t bytes) by.brings, tt);
        leads = ap (λ l. heads.after n l (KeepsBody o t bytes)) local_is;
        grows = λ k h. h;
      }

  -- a node begins to take part
  joins_inv : (w : FileWorld) (inv : Inv w) (n : ℕ) (s : FileState) → runs.MayJoin stripe ops members w n s → Inv (after w (joins n s))
  joins_inv w inv n s may = record {
    world = inv.world;
    reached = inv.reached;
    holder = inv.holder;
    sent = inv.sent;
    told = inv.told;
    nodes = λ m. by_node (λ b. Shape (if b then x2 else w.nodes m) inv.world m (if b then x2 else w.nodes m).state) m n (λ same. subst (λ k. Up x2 inv.world k s) (sym same) up) (λ _. inv.nodes m);
  }
    where
      x2 : FileNode
      x2 = record (w.nodes n) { state = Some s }

      down : Down (w.nodes n) inv.world n
      down = down_at w inv n may.rests

      up : Up x2 inv.world n s
      up = record { same = may.same; orderly = may.orderly; tenure = None; either = inl refl; node = down.node; fits = down.fits }

  -- what is true of a node, whether it runs or not
  record Rests (x : FileNode) (v : world.World) (n : ℕ) : Type 0 where
    tenure : Option Tenure
    node : v.nodes n ≡ (local_of (seen_at x v tenure)).node
    names : NamesHeld x.kept.held x.kept.head.versions
    list : ListFits stripe members x.kept.location

  -- a node takes part no more
  parts_inv : (w : FileWorld) (inv : Inv w) (n : ℕ) → Inv (after w (parts n))
  parts_inv w inv n = record {
    world = v2;
    reached = goes_reached v n b g inv.reached;
    holder = ap (without n) inv.holder;
    sent = inv.sent;
    told = inv.told;
    nodes = goes_nodes w.nodes v n b x2 g inv.nodes (record { node = at_own v.nodes n (local_of b).node; fits = record { names = all.names; tenure = not_after_loss n v.holder }; list = all.list });
  }
    where
      v : world.World
      v = inv.world

      x2 : FileNode
      x2 = record (w.nodes n) { state = None }

      b : Seen
      b = record { kept = x2.kept; body = x2.body; tenure = None; holder = without n v.holder; sent = v.sent; entries = v.entries }

      v2 : world.World
      v2 = behind v n b

      own : (o : Option FileState) → Shape (w.nodes n) v n o → Rests (w.nodes n) v n
      own None d = record { tenure = None; node = d.node; names = d.fits.names; list = d.list }
      own (Some s) u = record { tenure = u.tenure; node = u.node; names = u.fits.names; list = subst (λ (k : FileRow). ListFits stripe members k.location) u.same u.orderly.list }

      all : Rests (w.nodes n) v n
      all = own (w.nodes n).state (inv.nodes n)

      g : Goes v n b
      g = record {
        steps = Loses ∷ [];
        may = (tt, tt);
        leads = ap (λ (k : Node). heads.after n (record { node = k; holder = v.holder; sent = v.sent; entries = v.entries }) Loses) all.node;
        grows = λ k h. h;
      }

  pub next_inv : (w : FileWorld) (e : Event) → May stripe ops members w e → Inv w → Inv (after w e)
  next_inv w (acts n s site happens how) may inv = acts_inv w inv n s site happens how may
  next_inv w (starts n awake) may inv = starts_inv w inv n awake may
  next_inv w (forgets n s held body) may inv = forgets_inv w inv n s held body may
  next_inv w (lapses n) may inv = lapses_inv w inv n
  next_inv w (takes n s o v bytes) may inv = takes_inv w inv n s o v bytes may.0 may.1
  next_inv w (gets n o v bytes) may inv = gets_inv w inv n o v bytes may.0 may.1
  next_inv w (drops n held body) may inv = drops_inv w inv n held body may
  next_inv w (raises n e) may inv = raises_inv w inv n e may.0 may.1
  next_inv w (stores n row) may inv = stores_inv w inv n row may
  next_inv w (joins n s) may inv = joins_inv w inv n s may
  next_inv w (parts n) may inv = parts_inv w inv n

  pub all_inv : (w : FileWorld) (es : List Event) → runs.MayAll stripe ops members w es → Inv w → Inv (after_all w es)
  all_inv w [] may inv = inv
  all_inv w (e ∷ es) may inv = all_inv (after w e) es may.1 (next_inv w e may.0 inv)

  -- fewer messages may be seen than were sent
  pub fewer_inv : (w : FileWorld) (sent : List Sent) → ((y : Sent) → Has y sent → Has y w.sent) → Inv w → Inv (record w { sent = sent })
  fewer_inv w sent fewer inv = record {
    world = inv.world;
    reached = inv.reached;
    holder = inv.holder;
    sent = λ y h. inv.sent y (fewer y h);
    told = inv.told;
    nodes = inv.nodes;
  }

  -- what messages show
  abbrev says : Sent → List Message
  says x = shown x.from x.content

  -- the start
  pub begins_inv : (w : FileWorld) → Begins (IsMade stripe ops) members start → BeginsFile stripe members start w → Inv w
  begins_inv w b at = record {
    world = v;
    reached = begins_there stripe some ops members start v b (record { head = at.head; bodies = at.bodies; idle = λ r. refl; free = refl; silent = λ m h. (let r = flat_has says w.sent m h in at.silent r.0 r.1 m r.2); untold = refl });
    holder = sym at.free;
    sent = λ x h. are_in (says x) (flat_map says w.sent) (λ m k. has_flat says w.sent x m h k);
    told = subst (λ ts. Tells stripe ops ts []) (sym at.untold) refl;
    nodes = λ n. subst (Shape (w.nodes n) v n) (sym (at.stopped n)) (record {
      node = refl;
      fits = record { names = at.names n; tenure = λ is. absurd cc };
      list = at.list n;
    });
  }
    where
      v : world.World
      v = record { nodes = λ r. record { kept = (w.nodes r).kept; body = (w.nodes r).body; primary = Idle }; holder = None; sent = flat_map says w.sent; entries = [] }

  pub on_one_order : (w : FileWorld) (es : List Event) → Begins (IsMade stripe ops) members start → BeginsFile stripe members start w → runs.MayAll stripe ops members w es
      → IsOnOneOrder stripe ops start (after_all w es)
  on_one_order w es b at may =
      let inv = all_inv w es may (begins_inv w b at) in
      record {
        entries = inv.world.entries;
        told = inv.told;
        fit = entries_fit_there stripe ops start members inv.world inv.reached;
        changes = order_of_changes stripe ops start members inv.world inv.reached;
        issued = issues_first_there stripe ops start members inv.world inv.reached;
      }
