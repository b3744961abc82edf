-- Every run of a world of heads is a run of a world of writes.
use Rattle.std.proofs.Common.{◌≡◌, ◌≢◌, ℕ, suc, ◌+◌, ◌<◌, ◌≤◌, ◌⊎◌, Bool, true, false, List, [], ◌∷◌, length, refl, sym, ap, ap₂, ◌∙◌, subst, inl, inr, arith, if◌then◌else◌, ◌==◌, Option, Some, None}
use Rattle.std.specs.Prelude.{slice_get, map, max, cond, filter}
use Rattle.std.proofs.lemmas.Bool.{cases_eq}
use Rattle.std.proofs.lemmas.Bool.Decides.{nat_tests}
use Rattle.xt_base.specs.declared.TheConstants.{NO_OBJECT, OBJECTS}
use Rattle.xt_base.specs.declared.ids.Epoch.{Epoch}
use Rattle.xt_base.specs.declared.ids.OpId.{OpId}
use Rattle.xt_base.specs.declared.ids.Stamp.{Stamp}
use Rattle.xt_messages.specs.Limits.{IsObject}
use Rattle.xt_messages.specs.declared.file.FileHead.{FileHead}
use Rattle.xt_messages.specs.declared.file.Location.{Location}
use Rattle.xt_messages.specs.declared.file.ObjectVersion.{ObjectVersion}
use Rattle.xt_messages.specs.declared.file.Op.{Op}
use Rattle.xt_messages.specs.declared.file.Session.{Session}
use Rattle.xt_messages.specs.declared.file.Update.{Update}
use Rattle.xt_messages.specs.declared.record.FileRow.{FileRow}
use Rattle.xt_messages.specs.declared.record.Record.TheVariants as kept
use Rattle.xt_protocol.specs.Folds as folds
use Rattle.xt_protocol.specs.Heads.{new_head, version_of, session_of}
use Rattle.xt_protocol.specs.Objects.{present_body}
use Rattle.xt_protocol.specs.Stamps.{is_epoch, is_earlier, is_below, has_version}
use Rattle.replica_safety.specs.Epochs.{Head, name, at_node}
use Rattle.replica_safety.specs.Lists.{Has}
use Rattle.replica_safety.specs.Rules.{Start}
use Rattle.replica_safety.proofs.Orders.{same_is, same_self}
use Rattle.replica_runs.specs.FileHeads.{Body, head_of, versions_of}
use Rattle.replica_runs.specs.HeadSteps.{Step, Turn, with_acted, with_primary, keeping, drawn, nobody, none_acked, with_status, with_acked, target_of, last_id, next_stamp, IsChosen, IsMadeOver, AreKept, MayForget, served_versions, after, May, after_steps, MayAll, after_turns, MayTurn}
use Rattle.replica_runs.specs.HeadSteps as heads
use Rattle.replica_runs.specs.HeadWorld.{Primary, Idle, Gathering, Installing, Active, leads_in, Node, Message, Gather, Status, UpdateSent, Ack, Piece, Entry, TellsActive, TellsIssue, TellsCommit, ReadOk, WriteOk, World, Local, local, put, BodiesAre, IsOldPiece, BeginsAt, has_at}
use Rattle.replica_runs.specs.HeadWorld as message
use Rattle.replica_runs.specs.Made.{bodies_of, IsMade}
use Rattle.replica_runs.specs.Marks.{AreMade, Begins}
use Rattle.replica_runs.specs.Steps as step
use Rattle.replica_runs.specs.Steps.{IsHeld, without, AreHeld, ServesHeld}
use Rattle.replica_runs.specs.World.{Counted, IsMost, among, epoch_of}
use Rattle.replica_runs.specs.World as world
use Rattle.replica_runs.proofs.Content.{made_content}
use Rattle.replica_runs.proofs.Filtered.{has_left, left_has, named_has}
use Rattle.replica_runs.proofs.Good.{IsGood, steps, good_begins}
use Rattle.replica_runs.proofs.HeadAsks.{Reads, mark_size, is_new, made_named, made_over}
use Rattle.replica_runs.proofs.HeadRows.{stays, says, gathers_reached, takes_head_reached, takes_update_reached}
use Rattle.replica_runs.proofs.HeadStands.{GatheringStands, InstallingStands, ActiveStands, Stands, MessageStands, Stand, IsReached, entry_of, one_more, moved, gathering, installing, active, leads_too, one_acked, most_more, world_choice, head_name}
use Rattle.replica_runs.proofs.HeldVersions.{staged_bodies}
use Rattle.replica_runs.proofs.Present.{read_there}
use Rattle.replica_runs.proofs.Sessions.{IsSession, IsLast, sessions_show}
use Rattle.replica_runs.proofs.Shows as shown
use Rattle.replica_runs.proofs.Tools.{true_false, by_node, by_test, at_own, unchanged, get_push}
use Rattle.replica_runs.proofs.Versions.{IsNamed, no_version, versions_named}

some_head : {a b : FileHead} → Some a ≡ Some b → a ≡ b
some_head p = cc

-- a stamp of an update's epoch that isn't below it has its count
count_reached : (t u : Stamp) → t.epoch ≡ u.epoch → is_below t u ≡ false → u.count ≤ t.count
count_reached t u same above = at u t.count (subst (λ (e : Epoch). is_below (record { epoch = e; count = t.count }) u ≡ false) same above)
  where
    at : (s : Stamp) (n : ℕ) → is_below (record { epoch = s.epoch; count = n }) s ≡ false → s.count ≤ n
    at s n l = grind (arith, nat_tests)

-- what was sent before a start are bodies of writes before
piece_there : (bs : List Body) (b : Body) → Has b bs → Has (world.Piece b) (map world.Piece bs)
piece_there [] b h = absurd h
piece_there (c ∷ bs) b (inl p) = inl (ap world.Piece p)
piece_there (c ∷ bs) b (inr h) = inr (piece_there bs b h)

old_stands : (bs : List Body) (m : Message) → IsOldPiece bs m → MessageStands (map world.Piece bs) m
old_stands bs (Piece o v bytes) h = piece_there bs (record { object = o; version = v; bytes = bytes }) h
old_stands bs (Gather e) h = absurd h
old_stands bs (Status r e g) h = absurd h
old_stands bs (message.Head e g) h = absurd h
old_stands bs (UpdateSent u) h = absurd h
old_stands bs (Ack r t) h = absurd h

module _ (stripe : ℕ) (some : 0 < stripe) (ops : ℕ × ℕ → Op) (members : List ℕ) (start : Start) where
  makes : List Update → Update → Type 0
  makes ws u = IsMade stripe ops ws u

  abbrev IsOk : world.World → Type 0
  IsOk v = IsGood (IsMade stripe ops) members start v

  abbrev IsThere : World → Type 0
  IsThere w = IsReached stripe ops members start w

  goes : (v : world.World) (s : step.Step) → step.May (IsMade stripe ops) members v s → IsOk v → IsOk (step.after v s)
  goes v s may ok = steps (IsMade stripe ops) members start v s may ok

  module _ (w : World) (v : world.World) (n : ℕ) (good : IsOk v) (s : Stand w v) where
    abbrev x : Node
    x = w.nodes n

    abbrev y : world.Node
    y = v.nodes n

    -- a message alone
    sends : (m : Message) (k : world.Message) → MessageStands (k ∷ v.messages) m → IsOk (step.sends v k) → IsThere (put w n (heads.sends (local w n) m))
    sends m k is ok = says stripe ops members start w v n good s m k is ok

    -- an entry alone
    tells : (e : Entry) (m : world.Mark) → e ≡ entry_of m → IsOk (step.marks v m) → IsThere (put w n (heads.tells (local w n) e))
    tells e m is ok = record {
      world = step.marks v m;
      good = ok;
      stand = moved w v (step.marks v m) n (heads.tells (local w n) e) (v.nodes n) (v.held n) (λ r. ap (λ f. f r) (unchanged v.nodes n)) (λ r. ap (λ f. f r) (unchanged v.held n))
          s.holder (s.nodes n) s.sent (ap₂ (λ z zs. z ∷ zs) is s.entries) s;
    }

    -- another primary
    leads : (v2 : world.World) (p : Primary) (q : world.Primary) (sent : List Message) (entries : List Entry) → IsOk v2 →
        v2.nodes ≡ at_node n (record { promised = (v.nodes n).promised; head = (v.nodes n).head; primary = q }) v.nodes → v2.held ≡ v.held → v2.holder ≡ v.holder →
        Stands p q → ((m : Message) → Has m sent → MessageStands v2.messages m) → entries ≡ map entry_of v2.marks →
        IsThere (put w n (record (with_primary (local w n) p) { sent = sent; entries = entries }))
    leads v2 p q sent entries ok nodes held holder stands all told = record {
      world = v2;
      good = ok;
      stand = moved w v v2 n (record (with_primary (local w n) p) { sent = sent; entries = entries }) (record { promised = (v.nodes n).promised; head = (v.nodes n).head; primary = q }) (v.held n)
          (λ r. ap (λ f. f r) nodes) (λ r. ap (λ f. f r) held ∙ ap (λ f. f r) (unchanged v.held n)) (s.holder ∙ sym holder)
          (record { head = (s.nodes n).head; bodies = (s.nodes n).bodies; primary = stands }) all told s;
    }

    -- ---- the lease

    gains : w.holder ≡ None → IsThere (put w n (after n (local w n) heads.Gains))
    gains may = record {
      world = step.after v (step.Gains n);
      good = goes v (step.Gains n) (sym s.holder ∙ may) good;
      stand = moved w v (step.after v (step.Gains n)) n (after n (local w n) heads.Gains) (v.nodes n) (v.held n) (λ r. ap (λ f. f r) (unchanged v.nodes n)) (λ r. ap (λ f. f r) (unchanged v.held n))
          refl (s.nodes n) s.sent s.entries s;
    }

    loses : IsThere (put w n (after n (local w n) heads.Loses))
    loses = record {
      world = step.after v (step.Loses n);
      good = goes v (step.Loses n) tt good;
      stand = moved w v (step.after v (step.Loses n)) n (after n (local w n) heads.Loses) (record { promised = (v.nodes n).promised; head = (v.nodes n).head; primary = world.Idle }) (v.held n)
          (λ r. refl) (λ r. ap (λ f. f r) (unchanged v.held n)) (ap (without n) s.holder)
          (record { head = (s.nodes n).head; bodies = (s.nodes n).bodies; primary = refl }) s.sent s.entries s;
    }

    cuts : (sent : List Message) → ((m : Message) → Has m sent → Has m w.sent) → IsThere (put w n (after n (local w n) (heads.Cuts sent)))
    cuts sent fewer = record {
      world = v;
      good = good;
      stand = moved w v v n (after n (local w n) (heads.Cuts sent)) (v.nodes n) (v.held n) (λ r. ap (λ f. f r) (unchanged v.nodes n)) (λ r. ap (λ f. f r) (unchanged v.held n))
          s.holder (s.nodes n) (λ m h. s.sent m (fewer m h)) s.entries s;
    }

    stores : (location : Location) → IsThere (put w n (after n (local w n) (heads.StoresList location)))
    stores location = record {
      world = v;
      good = good;
      stand = moved w v v n (after n (local w n) (heads.StoresList location)) (v.nodes n) (v.held n) (λ r. ap (λ f. f r) (unchanged v.nodes n)) (λ r. ap (λ f. f r) (unchanged v.held n))
          s.holder (record { head = (s.nodes n).head; bodies = record { has = (s.nodes n).bodies.has; holds = (s.nodes n).bodies.holds }; primary = (s.nodes n).primary }) s.sent s.entries s;
    }

    -- what stays says the same of the bodies
    bodies_stay : (a b : List ObjectVersion) → a ≡ b → (o : ℕ) (t : Stamp) → has_version a (folds.body_of o t) ≡ has_version b (folds.body_of o t)
    bodies_stay a b same o t = ap (λ vs. has_version vs (folds.body_of o t)) same

    stores_else : (k : FileRow) → k.head ≡ x.kept.head → k.held ≡ x.kept.held → IsThere (put w n (after n (local w n) (heads.StoresElse k)))
    stores_else k head held = record {
      world = v;
      good = good;
      stand = moved w v v n (after n (local w n) (heads.StoresElse k)) (v.nodes n) (v.held n) (λ r. ap (λ f. f r) (unchanged v.nodes n)) (λ r. ap (λ f. f r) (unchanged v.held n))
          s.holder (record {
            head = head ∙ (s.nodes n).head;
            bodies = record {
              has = λ o t h. (s.nodes n).bodies.has o t (sym (bodies_stay k.held x.kept.held held o t) ∙ h);
              holds = λ o t low b. bodies_stay k.held x.kept.held held o t ∙ (s.nodes n).bodies.holds o t low b;
            };
            primary = (s.nodes n).primary;
          }) s.sent s.entries s;
    }

    raises : (e : Epoch) → is_earlier x.kept.head.promised e ≡ true → IsThere (put w n (after n (local w n) (heads.Raises e)))
    raises e above = record {
      world = step.after v (step.Promises n e);
      good = goes v (step.Promises n e) (record { above = subst (λ (h : FileHead). is_earlier h.promised e ≡ true) (s.nodes n).head above }) good;
      stand = moved w v (step.after v (step.Promises n e)) n (after n (local w n) (heads.Raises e)) (record { promised = e; head = y.head; primary = y.primary }) (v.held n)
          (λ r. refl) (λ r. ap (λ f. f r) (unchanged v.held n)) s.holder
          (record {
            head = ap (λ (h : FileHead). record h { promised = e }) (s.nodes n).head;
            bodies = record { has = (s.nodes n).bodies.has; holds = (s.nodes n).bodies.holds };
            primary = (s.nodes n).primary;
          }) s.sent s.entries s;
    }

    -- ---- bodies

    -- of the node's bodies those are left that are kept
    forgets : (held : List ObjectVersion) (body : ℕ → Stamp → List ℕ) → MayForget x held body → IsThere (put w n (after n (local w n) (heads.Forgets held body)))
    forgets held body may = record {
      world = step.after v (step.Forgets n bodies);
      good = goes v (step.Forgets n bodies) (record {
        less = λ b h. (left_has test (v.held n) b h).0;
        heads = still y.head.writes x.kept.head.versions (ap (λ (h : FileHead). h.versions) (s.nodes n).head) may.head (good.present.heads n);
        served = serves x.primary (s.nodes n).primary may.served;
      }) good;
      stand = moved w v (step.after v (step.Forgets n bodies)) n (after n (local w n) (heads.Forgets held body)) (v.nodes n) bodies (λ r. ap (λ f. f r) (unchanged v.nodes n)) (λ r. refl)
          s.holder (record { head = (s.nodes n).head; bodies = there; primary = (s.nodes n).primary }) s.sent s.entries s;
    }
      where
        test : Body → Bool
        test b = has_version held (folds.body_of b.object b.version)

        bodies : List Body
        bodies = filter test (v.held n)

        there : BodiesAre (record x.kept { held = held }) body bodies
        there = record {
          has = λ o t h. subst (λ bytes. Has (record { object = o; version = t; bytes = bytes }) bodies) (sym (may.same o t h))
              (has_left test (v.held n) (record { object = o; version = t; bytes = x.body o t }) ((s.nodes n).bodies.has o t (may.less (folds.body_of o t) h)) h);
          holds = λ o t low k. (left_has test (v.held n) (record { object = o; version = t; bytes = k.0 }) k.1).1;
        }

        still : (ws : List Update) (versions : List ObjectVersion) → versions ≡ versions_of ws → AreKept x.kept.held held versions → AreHeld (v.held n) ws → AreHeld bodies ws
        still ws versions same keeps all o t low is =
            let h = all o t low is in (
              h.0,
              has_left test (v.held n) (record { object = o; version = t; bytes = h.0 }) h.1
                  (keeps (folds.body_of o t) (named_has versions o t (ap (λ (vs : List ObjectVersion). version_of vs o) same ∙ is)) ((s.nodes n).bodies.holds o t low h)),
            )

        serves : (p : Primary) → Stands p y.primary → AreKept x.kept.held held (served_versions p) → ServesHeld bodies y.primary
        serves Idle st keeps = subst (ServesHeld bodies) (sym st) tt
        serves (Gathering e statuses) st keeps = subst (ServesHeld bodies) (sym st.1) tt
        serves (Installing e chosen acked) st keeps = subst (ServesHeld bodies) (sym st.2) tt
        serves (Active e c issued acked) st keeps =
            subst (ServesHeld bodies) (sym st.2)
            (still st.0 c.versions (ap (λ (h : FileHead). h.versions) st.3.is_committed) keeps (subst (ServesHeld (v.held n)) st.2 (good.present.served n)))

    sends_body : (o : ℕ) (k : Stamp) → has_version x.kept.held (folds.body_of o k) ≡ true → IsThere (put w n (after n (local w n) (heads.SendsBody o k)))
    sends_body o k held = sends (Piece o k (x.body o k)) (world.Piece (record { object = o; version = k; bytes = x.body o k })) (inl refl)
        (goes v (step.SendsBody n (record { object = o; version = k; bytes = x.body o k })) ((s.nodes n).bodies.has o k held) good)

    keeps_body : (o : ℕ) (k : Stamp) (bytes : List ℕ) → Has (Piece o k bytes) w.sent → IsThere (put w n (after n (local w n) (heads.KeepsBody o k bytes)))
    keeps_body o k bytes has =
        by_test (λ b. IsThere (put w n (with_acted n (local w n) (record { rec = cond b None (Some (kept.Stage x.kept.file o k bytes)); answer = None })))) (has_version x.kept.held (folds.body_of o k))
        (λ _. stays stripe ops members start w v n good s)
        (λ _. record {
          world = v2;
          good = goes v (step.KeepsBody n b) (s.sent (Piece o k bytes) has) good;
          stand = moved w v v2 n (with_acted n (local w n) (record { rec = Some (kept.Stage x.kept.file o k bytes); answer = None })) (v.nodes n) (b ∷ v.held n)
              (λ r. ap (λ f. f r) (unchanged v.nodes n)) (λ r. refl) s.holder
              (record { head = (s.nodes n).head; bodies = staged_bodies x.kept x.body (v.held n) o k bytes (s.nodes n).bodies; primary = (s.nodes n).primary }) s.sent s.entries s;
        })
      where
        b : Body
        b = record { object = o; version = k; bytes = bytes }

        v2 : world.World
        v2 = step.after v (step.KeepsBody n b)

    -- ---- a tenure begins

    above : (a b : ℕ) → a < 1 + max a b
    above a b = omega arith

    draws : (learnt : ℕ) → w.holder ≡ Some n → IsThere (put w n (after n (local w n) (heads.Draws learnt)))
    draws learnt held = record {
      world = v2;
      good = goes v1 (step.SendsGather n e) (ap (λ (z : world.Node). epoch_of z.primary) (at_own v.nodes n y1))
          (goes v (step.Draws n e) (record {
            holds = sym s.holder ∙ held;
            own = refl;
            above = subst (λ k. k < e.number) (ap (λ (h : FileHead). h.promised.number) (s.nodes n).head) (above x.kept.head.promised.number learnt);
          }) good);
      stand = moved w v v2 n (after n (local w n) (heads.Draws learnt)) y1 (v.held n) (λ r. refl) (λ r. ap (λ f. f r) (unchanged v.held n)) s.holder
          (record {
            head = ap with_promise (s.nodes n).head;
            bodies = record { has = (s.nodes n).bodies.has; holds = (s.nodes n).bodies.holds };
            primary = ([], refl, record { same = λ m h p. absurd cc; all = λ c h. absurd h });
          })
          (one_more (world.Gather e) v.messages (Gather e) w.sent s.sent (inl refl)) s.entries s;
    }
      where
        e : Epoch
        e = drawn n learnt x

        y1 : world.Node
        y1 = record { promised = e; head = y.head; primary = world.Gathering e [] }

        v1 : world.World
        v1 = step.after v (step.Draws n e)

        v2 : world.World
        v2 = step.after v1 (step.SendsGather n e)

        with_promise : FileHead → FileHead
        with_promise h = record h { promised = e }

    sends_gather : (e : Epoch) → leads_in x.primary ≡ Some e → IsThere (put w n (after n (local w n) (heads.SendsGather e)))
    sends_gather e is = sends (Gather e) (world.Gather e) (inl refl) (goes v (step.SendsGather n e) (leads_too x.primary y.primary e is (s.nodes n).primary) good)

    -- ---- statuses

    counts_status : (e : Epoch) (statuses : ℕ → Option FileHead) (r : ℕ) (h : FileHead) → x.primary ≡ Gathering e statuses → statuses r ≡ None → Has (Status r e h) w.sent
        → IsThere (put w n (after n (local w n) (heads.CountsStatus e statuses r h)))
    counts_status e statuses r h is new has = at (gathering x.primary y.primary e statuses is (s.nodes n).primary) (s.sent (Status r e h) has)
      where
        at : (counted : List Counted) × (y.primary ≡ world.Gathering e counted) × GatheringStands e statuses counted
            → (d : Epoch) × (us : List Update) × Has (world.Status r e (record { epoch = d; writes = us })) v.messages × (h ≡ head_of e d us)
            → IsThere (put w n (after n (local w n) (heads.CountsStatus e statuses r h)))
        at g m = leads (step.after v (step.CountsStatus n e g.0 r found)) (Gathering e (with_status statuses r h)) (world.Gathering e (one ∷ g.0)) w.sent w.entries
            (goes v (step.CountsStatus n e g.0 r found) (record { gathers = g.1; told = m.2 }) good) refl refl refl
            (one ∷ g.0, refl, record { same = same; all = all }) s.sent s.entries
          where
            found : Head
            found = record { epoch = m.0; writes = m.1 }

            one : Counted
            one = record { replica = r; head = found }

            same : (k : ℕ) (g2 : FileHead) → with_status statuses r h k ≡ Some g2 → (c : Counted) × Has c (one ∷ g.0) × (c.replica ≡ k) × (g2 ≡ head_of e c.head.epoch c.head.writes)
            same k g2 = by_node (λ b. (if b then Some h else statuses k) ≡ Some g2 → (c : Counted) × Has c (one ∷ g.0) × (c.replica ≡ k) × (g2 ≡ head_of e c.head.epoch c.head.writes)) k r
                (λ p q. (one, inl refl, sym p, sym (some_head q) ∙ m.3))
                (λ _ q. let c = g.2.same k g2 q in (c.0, inr c.1, c.2, c.3))

            all : (c : Counted) → Has c (one ∷ g.0) → with_status statuses r h c.replica ≡ Some (head_of e c.head.epoch c.head.writes)
            all c (inl p) = subst (λ (z : Counted). with_status statuses r h z.replica ≡ Some (head_of e z.head.epoch z.head.writes)) (sym p)
                (by_node (λ b. (if b then Some h else statuses r) ≡ Some (head_of e m.0 m.1)) r r (λ _. ap Some m.3) (λ ne. absurd (ne refl)))
            all c (inr k) = by_node (λ b. (if b then Some h else statuses c.replica) ≡ Some (head_of e c.head.epoch c.head.writes)) c.replica r
                (λ p. absurd (clash (g.2.all c k) p)) (λ _. g.2.all c k)
              where
                clash : statuses c.replica ≡ Some (head_of e c.head.epoch c.head.writes) → c.replica ≡ r → ⊥
                clash a p = absurd (cc (sym (ap statuses p) ∙ a, new))

    chooses : (e : Epoch) (statuses : ℕ → Option FileHead) (source : ℕ) (h : FileHead) → x.primary ≡ Gathering e statuses → IsChosen members statuses source h
        → IsThere (put w n (after n (local w n) (heads.Chooses e statuses source h)))
    chooses e statuses source h is chosen = at (gathering x.primary y.primary e statuses is (s.nodes n).primary)
      where
        at : (counted : List Counted) × (y.primary ≡ world.Gathering e counted) × GatheringStands e statuses counted → IsThere (put w n (after n (local w n) (heads.Chooses e statuses source h)))
        at g = let c = world_choice members e statuses g.0 source h g.2 chosen in
            leads (step.after v (step.Chooses n e g.0 source c.found)) (Installing e h none_acked) (world.Installing e c.found.writes []) w.sent w.entries
            (goes v (step.Chooses n e g.0 source c.found) (record { gathers = g.1; most = c.most; one = c.one; greatest = c.greatest }) good) refl refl refl
            (c.found.writes, [], refl, record { is_target = c.is_target; counted = λ m t. true_false t refl }) s.sent s.entries

    -- ---- the chosen head is installed

    sends_chosen : (e : Epoch) (chosen : FileHead) (acked : ℕ → Bool) → x.primary ≡ Installing e chosen acked → IsThere (put w n (after n (local w n) (heads.SendsChosen e chosen acked)))
    sends_chosen e chosen acked is = at (installing x.primary y.primary e chosen acked is (s.nodes n).primary)
      where
        at : (ws : List Update) × (acks : List ℕ) × (y.primary ≡ world.Installing e ws acks) × InstallingStands e chosen acked ws acks → IsThere (put w n (after n (local w n) (heads.SendsChosen e chosen acked)))
        at g = sends (message.Head e (target_of e chosen)) (world.Install e g.0) (λ p q. (g.0, inl refl, g.3.is_target)) (goes v (step.SendsChosen n e g.0 g.1) g.2 good)

    sends_own : (e : Epoch) → leads_in x.primary ≡ Some e → IsThere (put w n (after n (local w n) (heads.SendsOwn e)))
    sends_own e is = at (one_or_other x.kept.head.stamp.epoch e)
      where
        one_or_other : (d k : Epoch) → (d ≡ k) ⊎ ((d ≡ k) → ⊥)
        one_or_other d k = by_test (λ b. is_epoch d k ≡ b → (d ≡ k) ⊎ ((d ≡ k) → ⊥)) (is_epoch d k)
            (λ _ e. inl (same_is d k e)) (λ _ differ. inr (λ p. true_false (subst (λ z. is_epoch d z ≡ true) p (same_self d)) differ)) refl

        at : (x.kept.head.stamp.epoch ≡ e) ⊎ ((x.kept.head.stamp.epoch ≡ e) → ⊥) → IsThere (put w n (after n (local w n) (heads.SendsOwn e)))
        at (inl same) = sends (message.Head e x.kept.head) (world.Install y.head.epoch y.head.writes)
            (λ p q. (
              y.head.writes,
              inl (ap (λ d. world.Install d y.head.writes) (sym epoch)),
              (s.nodes n).head ∙ ap₂ (λ a b. head_of a b y.head.writes) (ap (λ (h : FileHead). h.promised) (sym (s.nodes n).head) ∙ p) epoch,
            ))
            (goes v (step.SendsOwn n) (leads_too x.primary y.primary e is (s.nodes n).primary ∙ ap Some (sym epoch)) good)
          where
            epoch : y.head.epoch ≡ e
            epoch = ap (λ (h : FileHead). h.stamp.epoch) (sym (s.nodes n).head) ∙ same
        at (inr other) = record {
          world = v;
          good = good;
          stand = moved w v v n (after n (local w n) (heads.SendsOwn e)) (v.nodes n) (v.held n) (λ r. ap (λ f. f r) (unchanged v.nodes n)) (λ r. ap (λ f. f r) (unchanged v.held n))
              s.holder (s.nodes n) there s.entries s;
        }
          where
            there : (m : Message) → Has m (message.Head e x.kept.head ∷ w.sent) → MessageStands v.messages m
            there m (inl p) = subst (MessageStands v.messages) (sym p) (λ a q. absurd (other q))
            there m (inr h) = s.sent m h

    counts_installed : (e : Epoch) (chosen : FileHead) (acked : ℕ → Bool) (r : ℕ) (t : Stamp) → x.primary ≡ Installing e chosen acked → Has (Ack r t) w.sent → t.epoch ≡ e
        → IsThere (put w n (after n (local w n) (heads.CountsInstalled e chosen acked r t)))
    counts_installed e chosen acked r t is has same = at (installing x.primary y.primary e chosen acked is (s.nodes n).primary)
      where
        at : (ws : List Update) × (acks : List ℕ) × (y.primary ≡ world.Installing e ws acks) × InstallingStands e chosen acked ws acks → IsThere (put w n (after n (local w n) (heads.CountsInstalled e chosen acked r t)))
        at g = leads (step.after v (step.CountsInstalled n e g.0 g.1 r t)) (Installing e chosen (with_acked acked r)) (world.Installing e g.0 (r ∷ g.1)) w.sent w.entries
            (goes v (step.CountsInstalled n e g.0 g.1 r t) (record { installs = g.2; told = s.sent (Ack r t) has; same = same }) good) refl refl refl
            (g.0, r ∷ g.1, refl, record { is_target = g.3.is_target; counted = one_acked acked g.1 r g.3.counted }) s.sent s.entries

    activates : (e : Epoch) (chosen : FileHead) (acked : ℕ → Bool) → x.primary ≡ Installing e chosen acked → IsMost members acked → acked n ≡ true
        → IsThere (put w n (after n (local w n) (heads.Activates e chosen acked)))
    activates e chosen acked is most own = at (installing x.primary y.primary e chosen acked is (s.nodes n).primary)
      where
        ws : List Update
        ws = y.head.writes

        at : (us : List Update) × (acks : List ℕ) × (y.primary ≡ world.Installing e us acks) × InstallingStands e chosen acked us acks → IsThere (put w n (after n (local w n) (heads.Activates e chosen acked)))
        at g = leads (step.after v (step.Activates n e g.0 g.1)) (Active e x.kept.head None none_acked) (world.Active e ws None []) w.sent (TellsActive n x.kept.head.stamp.count (last_id x.kept.head) ∷ w.entries)
            (goes v (step.Activates n e g.0 g.1) (record { installs = g.2; most = most_more members acked (λ m. among m g.1) g.3.counted most; own = g.3.counted n own }) good) refl refl refl
            (ws, [], refl, record { promised = y.promised; own = y.head.epoch; is_committed = (s.nodes n).head; counted = λ k t. true_false t refl }) s.sent
            (ap₂ (λ z zs. z ∷ zs) (ap (λ (h : FileHead). TellsActive n h.stamp.count (last_id h)) (s.nodes n).head ∙ ap (TellsActive n (length ws)) (head_name y.promised y.head.epoch ws)) s.entries)

    -- ---- writes

    -- what a primary reads is right
    reads_right : (e : Epoch) (ws : List Update) (issued : Option Update) (acks : List ℕ) → y.primary ≡ world.Active e ws issued acks → Reads x.body ws
    reads_right e ws issued acks is = record { right = λ o t low named. at o t low named (read_there (IsMade stripe ops) members v n e ws issued acks good.present is o low) }
      where
        at : (o : ℕ) (t : Stamp) → o < NO_OBJECT → version_of (versions_of ws) o ≡ Some t → (body : List ℕ) × IsHeld (v.held n) o (version_of (versions_of ws) o) body → x.body o t ≡ bodies_of ws o
        at o t low named r =
            let holds : Has (record { object = o; version = t; bytes = r.0 }) (v.held n) = subst (λ k. IsHeld (v.held n) o k r.0) named r.1 in
            shown.held_is (IsMade stripe ops) members start v good.is.state n ws o (Some t) (x.body o t) good.is.shows good.is.late.apart
            (shown.served_fit (IsMade stripe ops) members start v good.is.state n e ws issued acks is good.is.shows)
            (subst (λ k. IsNamed ws (bodies_of ws) o k) named (versions_named ws o (λ e. absurd (omega (arith, low, e)))))
            ((s.nodes n).bodies.has o t ((s.nodes n).bodies.holds o t low (r.0, holds)))

    issues : (e : Epoch) (c : FileHead) (acked : ℕ → Bool) (id : OpId) (truncation : ℕ) (u : Update) → x.primary ≡ Active e c None acked → IsMadeOver stripe ops x.body e c id truncation u
        → IsThere (put w n (after n (local w n) (heads.Issues e c acked id truncation u)))
    issues e c acked id truncation u is over = at (active x.primary y.primary e c None acked is (s.nodes n).primary)
      where
        at : (ws : List Update) × (acks : List ℕ) × (y.primary ≡ world.Active e ws None acks) × ActiveStands c acked ws acks → IsThere (put w n (after n (local w n) (heads.Issues e c acked id truncation u)))
        at g = leads (step.after v1 (step.SendsUpdate n e ws u [])) (Active e c (Some u) none_acked) (world.Active e ws (Some u) []) (UpdateSent u ∷ w.sent) (TellsIssue n u.stamp.count (name u) ∷ w.entries)
            (goes v1 (step.SendsUpdate n e ws u []) (ap (λ (z : world.Node). z.primary) (at_own v.nodes n (record { promised = y.promised; head = y.head; primary = world.Active e ws (Some u) [] })))
            (goes v (step.Issues n e ws g.1 u) (record { serves = g.2; new = is_new stripe ops ws made u is_made.0; stamped = stamped; made = is_made }) good)) refl refl refl
            (ws, [], refl, record { promised = g.3.promised; own = g.3.own; is_committed = g.3.is_committed; counted = λ k t. true_false t refl })
            (one_more (world.Update u) v.messages (UpdateSent u) w.sent s.sent (inl refl))
            (ap₂ (λ z zs. z ∷ zs) (ap (λ k. TellsIssue n k (name u)) (ap (λ (t : Stamp). t.count) stamped)) s.entries)
          where
            ws : List Update
            ws = g.0

            v1 : world.World
            v1 = step.after v (step.Issues n e ws g.1 u)

            made : AreMade (IsMade stripe ops) ws
            made = shown.served_made (IsMade stripe ops) members start v good.is.state n e ws None g.1 g.2 good.is.shows

            over_head : IsMadeOver stripe ops x.body e (head_of g.3.promised g.3.own ws) id truncation u
            over_head = subst (λ (h : FileHead). IsMadeOver stripe ops x.body e h id truncation u) g.3.is_committed over

            next : next_stamp e (head_of g.3.promised g.3.own ws) ≡ record { epoch = e; count = suc (length ws) }
            next = ap (λ k. record { epoch = e; count = k }) (omega arith)

            is_made : IsMade stripe ops ws u
            is_made = made_over stripe ops ws made x.body (reads_right e ws None g.1 g.2) g.3.promised g.3.own (next_stamp e (head_of g.3.promised g.3.own ws)) id truncation u some
                (ap (λ (t : Stamp). t.count) next) over_head.allowed over_head.stands over_head.makes

            stamped : u.stamp ≡ record { epoch = e; count = suc (length ws) }
            stamped = (made_named stripe x.body (head_of g.3.promised g.3.own ws) (next_stamp e (head_of g.3.promised g.3.own ws)) id truncation (ops (id.client.0, id.number)) u over_head.makes).is_stamp ∙ next

    sends_update : (e : Epoch) (c : FileHead) (u : Update) (acked : ℕ → Bool) → x.primary ≡ Active e c (Some u) acked → IsThere (put w n (after n (local w n) (heads.SendsUpdate e c u acked)))
    sends_update e c u acked is = at (active x.primary y.primary e c (Some u) acked is (s.nodes n).primary)
      where
        at : (ws : List Update) × (acks : List ℕ) × (y.primary ≡ world.Active e ws (Some u) acks) × ActiveStands c acked ws acks → IsThere (put w n (after n (local w n) (heads.SendsUpdate e c u acked)))
        at g = sends (UpdateSent u) (world.Update u) (inl refl) (goes v (step.SendsUpdate n e g.0 u g.1) g.2 good)

    counts_updated : (e : Epoch) (c : FileHead) (u : Update) (acked : ℕ → Bool) (r : ℕ) (t : Stamp) → x.primary ≡ Active e c (Some u) acked → Has (Ack r t) w.sent → t.epoch ≡ e → is_below t u.stamp ≡ false
        → IsThere (put w n (after n (local w n) (heads.CountsUpdated e c u acked r t)))
    counts_updated e c u acked r t is has same above = at (active x.primary y.primary e c (Some u) acked is (s.nodes n).primary)
      where
        at : (ws : List Update) × (acks : List ℕ) × (y.primary ≡ world.Active e ws (Some u) acks) × ActiveStands c acked ws acks → IsThere (put w n (after n (local w n) (heads.CountsUpdated e c u acked r t)))
        at g = leads (step.after v (step.CountsUpdated n e g.0 u g.1 r t)) (Active e c (Some u) (with_acked acked r)) (world.Active e g.0 (Some u) (r ∷ g.1)) w.sent w.entries
            (goes v (step.CountsUpdated n e g.0 u g.1 r t) (record {
              serves = g.2;
              told = s.sent (Ack r t) has;
              same = same;
              reached = omega (arith, count_reached t u.stamp (same ∙ sym (ap (λ (z : Stamp). z.epoch) stamped)) above, ap (λ (z : Stamp). z.count) stamped);
            }) good) refl refl refl
            (g.0, r ∷ g.1, refl, record { promised = g.3.promised; own = g.3.own; is_committed = g.3.is_committed; counted = one_acked acked g.1 r g.3.counted }) s.sent s.entries
          where
            stamped : u.stamp ≡ record { epoch = e; count = suc (length g.0) }
            stamped = shown.issued_stamp (IsMade stripe ops) members start v good.is.state n e g.0 u g.1 g.2 good.is.shows

    commits : (e : Epoch) (c : FileHead) (u : Update) (acked : ℕ → Bool) → x.primary ≡ Active e c (Some u) acked → IsMost members acked → acked n ≡ true
        → IsThere (put w n (after n (local w n) (heads.Commits e c u acked)))
    commits e c u acked is many own = at (active x.primary y.primary e c (Some u) acked is (s.nodes n).primary)
      where
        at : (ws : List Update) × (acks : List ℕ) × (y.primary ≡ world.Active e ws (Some u) acks) × ActiveStands c acked ws acks → IsThere (put w n (after n (local w n) (heads.Commits e c u acked)))
        at g = leads (step.after v1 (step.AnswersWrite n e all None [] (suc (length g.0)) u)) (Active e x.kept.head None none_acked) (world.Active e all None []) w.sent
            (WriteOk n u.stamp.count (name u) ∷ TellsCommit n u.stamp.count (name u) ∷ w.entries)
            (goes v1 (step.AnswersWrite n e all None [] (suc (length g.0)) u) (record {
              serves = ap (λ (z : world.Node). z.primary) (at_own v.nodes n (record { promised = y.promised; head = y.head; primary = world.Active e all None [] }));
              stands = subst (λ l. slice_get l (length g.0) ≡ Some u) (sym (shown.commits_own (IsMade stripe ops) members start v good.is.state n e g.0 u g.1 may good.is.shows)) (get_push g.0 u);
              placed = omega arith;
            })
            (goes v (step.Commits n e g.0 u g.1) may good)) refl refl refl
            (all, [], refl, record { promised = y.promised; own = y.head.epoch; is_committed = (s.nodes n).head; counted = λ k t. true_false t refl }) s.sent
            (ap₂ (λ k zs. WriteOk n k (name u) ∷ TellsCommit n k (name u) ∷ zs) (ap (λ (z : Stamp). z.count) stamped) s.entries)
          where
            all : List Update
            all = y.head.writes

            v1 : world.World
            v1 = step.after v (step.Commits n e g.0 u g.1)

            may : step.May (IsMade stripe ops) members v (step.Commits n e g.0 u g.1)
            may = record { serves = g.2; most = most_more members acked (λ m. among m g.1) g.3.counted many; own = g.3.counted n own }

            stamped : u.stamp ≡ record { epoch = e; count = suc (length g.0) }
            stamped = shown.issued_stamp (IsMade stripe ops) members start v good.is.state n e g.0 u g.1 g.2 good.is.shows

    -- ---- answers

    answers_read : (e : Epoch) (c : FileHead) (issued : Option Update) (acked : ℕ → Bool) (o : ℕ) → x.primary ≡ Active e c issued acked → IsObject o
        → IsThere (put w n (after n (local w n) (heads.AnswersRead e c issued acked o)))
    answers_read e c issued acked o is named = at (active x.primary y.primary e c issued acked is (s.nodes n).primary)
      where
        at : (ws : List Update) × (acks : List ℕ) × (y.primary ≡ world.Active e ws issued acks) × ActiveStands c acked ws acks → IsThere (put w n (after n (local w n) (heads.AnswersRead e c issued acked o)))
        at g = tells (ReadOk n c.stamp.count c.mark.size o (present_body x.body (version_of c.versions o) o)) (world.ShowsRead n g.0 o body)
            (ap (λ (h : FileHead). ReadOk n h.stamp.count h.mark.size o (present_body x.body (version_of h.versions o) o)) g.3.is_committed ∙ ap (λ k. ReadOk n (length g.0) k o body) (mark_size new_head g.0))
            (goes v (step.AnswersRead n e g.0 issued g.1 o body) (record { serves = g.2; none = λ is. none (omega (arith, is)); held = held (cases_eq o NO_OBJECT) }) good)
          where
            body : List ℕ
            body = present_body x.body (version_of (versions_of g.0) o) o

            none : OBJECTS ≤ o → bodies_of g.0 o ≡ []
            none = (made_content stripe ops g.0 (shown.served_made (IsMade stripe ops) members start v good.is.state n e g.0 issued g.1 g.2 good.is.shows)).high o

            of : o < NO_OBJECT → (t : Option Stamp) → version_of (versions_of g.0) o ≡ t → (bytes : List ℕ) × IsHeld (v.held n) o t bytes → IsHeld (v.held n) o t (present_body x.body t o)
            of low None is there = refl
            of low (Some t) is there = (s.nodes n).bodies.has o t ((s.nodes n).bodies.holds o t low there)

            held : (o ≡ NO_OBJECT) ⊎ (o ≢ NO_OBJECT) → IsHeld (v.held n) o (version_of (versions_of g.0) o) body
            held (inl e) = subst (λ t. IsHeld (v.held n) o t (present_body x.body t o)) (sym (ap (version_of (versions_of g.0)) e ∙ no_version g.0)) refl
            held (inr ne) =
                let low : o < NO_OBJECT = omega (arith, named, ne) in
                of low (version_of (versions_of g.0) o) refl (read_there (IsMade stripe ops) members v n e g.0 issued g.1 good.present g.2 o low)

    answers_repeated : (e : Epoch) (c : FileHead) (issued : Option Update) (acked : ℕ → Bool) (client : ℕ) (session : Session) → x.primary ≡ Active e c issued acked → session_of c.sessions client ≡ Some session
        → IsThere (put w n (after n (local w n) (heads.AnswersRepeated e c issued acked client session)))
    answers_repeated e c issued acked client session is found = at (active x.primary y.primary e c issued acked is (s.nodes n).primary)
      where
        at : (ws : List Update) × (acks : List ℕ) × (y.primary ≡ world.Active e ws issued acks) × ActiveStands c acked ws acks → IsThere (put w n (after n (local w n) (heads.AnswersRepeated e c issued acked client session)))
        at g = tells (WriteOk n session.count (client, session.number)) (world.ShowsWrite n session.count (name last.write))
            (ap (WriteOk n session.count) (λ i. (sym last.is_client i, sym last.is_number i)))
            (goes v (step.AnswersWrite n e g.0 issued g.1 session.count last.write) (record { serves = g.2; stands = last.stands; placed = last.placed }) good)
          where
            last : IsLast g.0 client session
            last = subst (IsSession g.0 client) (subst (λ (h : FileHead). session_of h.sessions client ≡ Some session) g.3.is_committed found)
                (sessions_show stripe ops g.0 client (shown.served_made (IsMade stripe ops) members start v good.is.state n e g.0 issued g.1 g.2 good.is.shows))

  -- each step of a node
  next_there : (w : World) (n : ℕ) (z : Step) → May stripe ops members n (local w n) z → IsThere w → IsThere (put w n (after n (local w n) z))
  next_there w n heads.Gains may r = gains w r.world n r.good r.stand may
  next_there w n heads.Loses may r = loses w r.world n r.good r.stand
  next_there w n (heads.Cuts sent) may r = cuts w r.world n r.good r.stand sent may
  next_there w n (heads.StoresList location) may r = stores w r.world n r.good r.stand location
  next_there w n (heads.StoresElse k) may r = stores_else w r.world n r.good r.stand k may.0 may.1
  next_there w n (heads.Raises e) may r = raises w r.world n r.good r.stand e may
  next_there w n (heads.Gathers e) may r = gathers_reached stripe ops members start w r.world n r.good r.stand e may
  next_there w n (heads.TakesHead e h) may r = takes_head_reached stripe ops members start w r.world n r.good r.stand e h may
  next_there w n (heads.TakesUpdate u) may r = takes_update_reached stripe ops members start w r.world n r.good r.stand u may
  next_there w n (heads.SendsBody o k) may r = sends_body w r.world n r.good r.stand o k may
  next_there w n (heads.KeepsBody o k bytes) may r = keeps_body w r.world n r.good r.stand o k bytes may
  next_there w n (heads.Forgets held body) may r = forgets w r.world n r.good r.stand held body may
  next_there w n (heads.Draws learnt) may r = draws w r.world n r.good r.stand learnt may
  next_there w n (heads.SendsGather e) may r = sends_gather w r.world n r.good r.stand e may
  next_there w n (heads.CountsStatus e statuses k h) may r = counts_status w r.world n r.good r.stand e statuses k h may.0 may.1 may.2
  next_there w n (heads.Chooses e statuses source h) may r = chooses w r.world n r.good r.stand e statuses source h may.0 may.1
  next_there w n (heads.SendsChosen e chosen acked) may r = sends_chosen w r.world n r.good r.stand e chosen acked may
  next_there w n (heads.SendsOwn e) may r = sends_own w r.world n r.good r.stand e may
  next_there w n (heads.CountsInstalled e chosen acked k t) may r = counts_installed w r.world n r.good r.stand e chosen acked k t may.0 may.1 may.2
  next_there w n (heads.Activates e chosen acked) may r = activates w r.world n r.good r.stand e chosen acked may.0 may.1 may.2
  next_there w n (heads.Issues e c acked id truncation u) may r = issues w r.world n r.good r.stand e c acked id truncation u may.0 may.1
  next_there w n (heads.SendsUpdate e c u acked) may r = sends_update w r.world n r.good r.stand e c u acked may
  next_there w n (heads.CountsUpdated e c u acked k t) may r = counts_updated w r.world n r.good r.stand e c u acked k t may.0 may.1 may.2 may.3
  next_there w n (heads.Commits e c u acked) may r = commits w r.world n r.good r.stand e c u acked may.0 may.1 may.2
  next_there w n (heads.AnswersRead e c issued acked o) may r = answers_read w r.world n r.good r.stand e c issued acked o may.0 may.1
  next_there w n (heads.AnswersRepeated e c issued acked client session) may r = answers_repeated w r.world n r.good r.stand e c issued acked client session may.0 may.1

  -- a world in which a node has taken several steps
  local_put : (w : World) (n : ℕ) (l : Local) → local (put w n l) n ≡ l
  local_put w n l = ap of (at_own w.nodes n l.node)
    where
      of : Node → Local
      of z = record { node = z; holder = l.holder; sent = l.sent; entries = l.entries }

  put_put : (w : World) (n : ℕ) (l k : Local) → put (put w n l) n k ≡ put w n k
  put_put w n l k = ap of (λ i r. same r i)
    where
      of : (ℕ → Node) → World
      of nodes = record { nodes = nodes; holder = k.holder; sent = k.sent; entries = k.entries }

      same : (r : ℕ) → at_node n k.node (at_node n l.node w.nodes) r ≡ at_node n k.node w.nodes r
      same r = by_test (λ b. (if b then k.node else (if b then l.node else w.nodes r)) ≡ (if b then k.node else w.nodes r)) (r == n) (λ _. refl) (λ _. refl)

  put_own : (w : World) (n : ℕ) → w ≡ put w n (local w n)
  put_own w n = ap of (unchanged w.nodes n)
    where
      of : (ℕ → Node) → World
      of nodes = record { nodes = nodes; holder = w.holder; sent = w.sent; entries = w.entries }

  steps_there : (w : World) (n : ℕ) (l : Local) (zs : List Step) → MayAll stripe ops members n l zs → IsThere (put w n l) → IsThere (put w n (after_steps n l zs))
  steps_there w n l [] may r = r
  steps_there w n l (z ∷ zs) may r =
      let one : IsThere (put (put w n l) n (after n (local (put w n l) n) z)) =
      next_there (put w n l) n z (subst (λ k. May stripe ops members n k z) (sym (local_put w n l)) may.0) r in
      steps_there w n (after n l z) zs may.1
      (subst IsThere (ap (λ k. put (put w n l) n (after n k z)) (local_put w n l) ∙ put_put w n l (after n l z)) one)

  pub turns_there : (w : World) (ts : List Turn) → MayTurn stripe ops members w ts → IsThere w → IsThere (after_turns w ts)
  turns_there w [] may r = r
  turns_there w (t ∷ ts) may r =
      turns_there (put w t.node (after_steps t.node (local w t.node) t.steps)) ts may.1
      (steps_there w t.node (local w t.node) t.steps may.0 (subst IsThere (put_own w t.node) r))

  -- a world in which the list begins stands for that start
  pub begins_there : (w : World) → Begins (IsMade stripe ops) members start → BeginsAt start w → IsThere w
  begins_there w b at = record {
    world = step.begin start;
    good = good_begins (IsMade stripe ops) members start b;
    stand = record {
      nodes = λ r. record { head = at.head r; bodies = at.bodies r; primary = subst (λ p. Stands p world.Idle) (sym (at.idle r)) refl };
      holder = at.free;
      sent = λ m h. old_stands start.old m (at.silent m h);
      entries = at.untold;
    };
  }
