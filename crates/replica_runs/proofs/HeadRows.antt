-- The rows of a replica are chains of small steps of the world of writes.
use Rattle.std.proofs.Common.{◌≡◌, ℕ, suc, ◌+◌, ◌⊎◌, Bool, true, false, List, [], ◌∷◌, ◌++◌, length, length-append, refl, sym, ap, ◌∙◌, subst, subst₂, inl, inr, arith, if◌then◌else◌, ◌==◌, ◌&&◌, not, Option, Some, None}
use Rattle.std.specs.Prelude.{cond, nat_le}
use Rattle.std.proofs.lemmas.Bool.Decides.{nat_tests}
use Rattle.xt_base.specs.declared.TheConstants.{NO_OBJECT}
use Rattle.xt_base.specs.declared.ids.Epoch.{Epoch}
use Rattle.xt_base.specs.declared.ids.Stamp.{Stamp}
use Rattle.xt_messages.specs.declared.file.FileHead.{FileHead}
use Rattle.xt_messages.specs.declared.file.ObjectVersion.{ObjectVersion}
use Rattle.xt_messages.specs.declared.file.Op.{Op}
use Rattle.xt_messages.specs.declared.file.Update.{Update}
use Rattle.xt_messages.specs.declared.message.Payload.TheVariants as payload
use Rattle.xt_messages.specs.declared.record.Record.TheVariants as kept
use Rattle.xt_protocol.specs.Folds.{held_after}
use Rattle.xt_protocol.specs.Folds as folds
use Rattle.xt_protocol.specs.Heads.{head_after, version_of}
use Rattle.xt_protocol.specs.Stamps.{is_earlier, is_epoch, is_below, has_version}
use Rattle.xt_protocol.specs.declared.states.Acted.{Acted}
use Rattle.xt_protocol.specs.PrimaryRows.{body_beyond}
use Rattle.xt_protocol.specs.ReplicaRows.{unanswered, only, after_record, refused, behind, as_promised, gathered, head_taken, first_missing, head_offered, headed, head_fits, next_update, update_offered, updated}
use Rattle.replica_safety.specs.Epochs.{AtMost, stamp_of}
use Rattle.replica_safety.specs.Lists.{Has}
use Rattle.replica_safety.specs.Rules.{Start}
use Rattle.replica_safety.proofs.Orders.{same_is, is_one, at_most_self, at_most_count}
use Rattle.replica_runs.specs.FileHeads.{body_of, head_of}
use Rattle.replica_runs.specs.HeadSteps.{Gathers, TakesHead, TakesUpdate, with_acted, after}
use Rattle.replica_runs.specs.HeadWorld.{Node, Message, Gather, Status, UpdateSent, Ack, World, Local, local, put, BodiesAre}
use Rattle.replica_runs.specs.HeadWorld as heads
use Rattle.replica_runs.specs.Made.{IsMade}
use Rattle.replica_runs.specs.Steps as step
use Rattle.replica_runs.specs.Steps.{Holds, AreHeld}
use Rattle.replica_runs.specs.World as world
use Rattle.replica_runs.proofs.Good.{IsGood, steps}
use Rattle.replica_runs.proofs.HeadStands.{MessageStands, Stand, IsReached, head_at, one_more, moved}
use Rattle.replica_runs.proofs.HeldVersions.{updated_bodies}
use Rattle.replica_runs.proofs.Tools.{by_test, both_true, at_own, unchanged}
use Rattle.replica_runs.proofs.Versions.{head_push}

-- ---- what the tests of a row say

-- none of the versions of a head is missing: each is held
none_missing : (held vs : List ObjectVersion) → first_missing held vs ≡ None → (o : ℕ) (v : Stamp) → version_of vs o ≡ Some v → has_version held (folds.body_of o v) ≡ true
none_missing held [] none o v is = absurd cc
none_missing held (x ∷ vs) none o v is =
    by_test (λ t. has_version held x ≡ t → cond (not t) (Some x) (first_missing held vs) ≡ None → has_version held (folds.body_of o v) ≡ true) (has_version held x)
    (λ _ h rest. by_test (λ t. (x.object == o) ≡ t → (if t then Some x.version else version_of vs o) ≡ Some v → has_version held (folds.body_of o v) ≡ true) (x.object == o)
    (λ _ e p. subst (λ s. has_version held (folds.body_of o s) ≡ true) (some_stamp p) (subst (λ k. has_version held (folds.body_of k x.version) ≡ true) (number x.object o e) h))
    (λ _ _ p. none_missing held vs rest o v p) refl is)
    (λ _ _ p. absurd cc) refl none
  where
    number : (a b : ℕ) → (a == b) ≡ true → a ≡ b
    number a b e = grind (arith, nat_tests)

    some_stamp : {a b : Stamp} → Some a ≡ Some b → a ≡ b
    some_stamp p = cc

-- a count that isn't above the own one is reached
reached : (t own : Stamp) → t.epoch ≡ own.epoch → nat_le t.count own.count ≡ true → AtMost t own
reached t own same le = subst (λ (e : Epoch). AtMost (record { epoch = e; count = t.count }) own) (sym same) (at own t.count le)
  where
    at : (s : Stamp) (n : ℕ) → nat_le n s.count ≡ true → AtMost (record { epoch = s.epoch; count = n }) s
    at s n l = grind (arith, nat_tests)

number_is : (a b : ℕ) → (a == b) ≡ true → a ≡ b
number_is a b e = grind (arith, nat_tests)

module _ (stripe : ℕ) (ops : ℕ × ℕ → Op) (members : List ℕ) (start : Start) where
  abbrev pub Good : world.World → Type 0
  Good v = IsGood (IsMade stripe ops) members start v

  abbrev pub Reached : World → Type 0
  Reached w = IsReached stripe ops members start w

  go : (v : world.World) (s : step.Step) → step.May (IsMade stripe ops) members v s → Good v → Good (step.after v s)
  go v s may ok = steps (IsMade stripe ops) members start v s may ok

  module _ (w : World) (v : world.World) (n : ℕ) (good : Good v) (s : Stand w v) where
    abbrev x : Node
    x = w.nodes n

    abbrev y : world.Node
    y = v.nodes n

    -- nothing changes
    pub stays : Reached (put w n (local w n))
    stays = record {
      world = v;
      good = good;
      stand = moved w v v n (local w n) (v.nodes n) (v.held n) (λ r. ap (λ f. f r) (unchanged v.nodes n)) (λ r. ap (λ f. f r) (unchanged v.held n)) s.holder (s.nodes n) s.sent s.entries s;
    }

    -- a message alone
    pub says : (m : Message) (k : world.Message) → MessageStands (k ∷ v.messages) m → Good (step.sends v k) → Reached (put w n (record (local w n) { sent = m ∷ w.sent }))
    says m k is ok = record {
      world = step.sends v k;
      good = ok;
      stand = moved w v (step.sends v k) n (record (local w n) { sent = m ∷ w.sent }) (v.nodes n) (v.held n) (λ r. ap (λ f. f r) (unchanged v.nodes n)) (λ r. ap (λ f. f r) (unchanged v.held n))
          s.holder (s.nodes n) (one_more k v.messages m w.sent s.sent is) s.entries s;
    }

    -- gathered
    pub gathers_reached : (e : Epoch) → Has (Gather e) w.sent → Reached (put w n (after n (local w n) (Gathers e)))
    unfolding gathered
    gathers_reached e has =
        by_test (λ a. is_earlier e own.promised ≡ a → (b : Bool) → is_earlier own.promised e ≡ b → Reached (put w n (with_acted n (local w n) (cond a (refused x.kept.file own e)
        (cond b (after_record (kept.Promise x.kept.file e) (payload.Status x.kept.file e (record own { promised = e }))) (only (payload.Status x.kept.file e own))))))) (is_earlier e own.promised)
        (λ _ p b q. stays)
        (λ _ p b q. by_test (λ c. is_earlier own.promised e ≡ c → Reached (put w n (with_acted n (local w n)
        (cond c (after_record (kept.Promise x.kept.file e) (payload.Status x.kept.file e (record own { promised = e }))) (only (payload.Status x.kept.file e own)))))) b
        (λ _ r. promises r) (λ _ r. again (is_one own.promised e r p)) q) refl (is_earlier own.promised e) refl
      where
        own : FileHead
        own = x.kept.head

        is_own : own ≡ head_at y
        is_own = (s.nodes n).head

        same_promise : own.promised ≡ y.promised
        same_promise = ap (λ (h : FileHead). h.promised) is_own

        asked : Has (world.Gather e) v.messages
        asked = s.sent (Gather e) has

        -- a new promise
        promises : is_earlier own.promised e ≡ true → Reached (put w n (with_acted n (local w n) (after_record (kept.Promise x.kept.file e) (payload.Status x.kept.file e (record own { promised = e })))))
        promises above = record {
          world = v2;
          good = go v1 (step.SendsStatus n e) (record { asked = asked; promised = ap (λ (z : world.Node). z.promised) (at_own v.nodes n y1) })
              (go v (step.Promises n e) (record { above = subst (λ d. is_earlier d e ≡ true) same_promise above }) good);
          stand = moved w v v2 n (with_acted n (local w n) (after_record (kept.Promise x.kept.file e) (payload.Status x.kept.file e (record own { promised = e })))) y1 (v.held n)
              (λ r. refl) (λ r. ap (λ f. f r) (unchanged v.held n)) s.holder
              (record { head = told; bodies = with_bodies; primary = (s.nodes n).primary })
              (one_more (world.Status n e (v1.nodes n).head) v.messages (Status n e (record own { promised = e })) w.sent s.sent
              ((v1.nodes n).head.epoch, (v1.nodes n).head.writes, inl refl, told ∙ ap (λ (z : world.Node). head_of e z.head.epoch z.head.writes) (sym (at_own v.nodes n y1)))) s.entries s;
        }
          where
            y1 : world.Node
            y1 = record { promised = e; head = y.head; primary = y.primary }

            v1 : world.World
            v1 = step.after v (step.Promises n e)

            v2 : world.World
            v2 = step.after v1 (step.SendsStatus n e)

            with_promise : FileHead → FileHead
            with_promise h = record h { promised = e }

            told : record own { promised = e } ≡ head_of e y.head.epoch y.head.writes
            told = ap with_promise is_own

            with_bodies : BodiesAre (record x.kept { head = record own { promised = e } }) x.body (v.held n)
            with_bodies = record { has = (s.nodes n).bodies.has; holds = (s.nodes n).bodies.holds }

        -- the same epoch once more
        again : own.promised ≡ e → Reached (put w n (with_acted n (local w n) (only (payload.Status x.kept.file e own))))
        again same = says (Status n e own) (world.Status n e y.head)
            (y.head.epoch, y.head.writes, inl refl, is_own ∙ ap (λ d. head_of d y.head.epoch y.head.writes) (sym same_promise ∙ same))
            (go v (step.SendsStatus n e) (record { asked = asked; promised = sym same_promise ∙ same }) good)

    -- an acknowledgement alone
    acks : (t : Stamp) → step.IsAsked t v.messages → AtMost t (stamp_of y.head) → Reached (put w n (with_acted n (local w n) (only (payload.Ack x.kept.file t))))
    acks t asked at_most = says (Ack n t) (world.Ack n t) (inl refl) (go v (step.SendsAck n t) (record { asked = asked; reached = at_most }) good)

    -- by where an epoch stands to the promised one
    by_promise : (e : Epoch) (row : Acted) → (x.kept.head.promised ≡ e → Reached (put w n (with_acted n (local w n) row)))
        → Reached (put w n (with_acted n (local w n) (as_promised x.kept.file x.kept.head e row)))
    by_promise e row f =
        by_test (λ a. is_earlier e own ≡ a → Reached (put w n (with_acted n (local w n) (cond a (refused x.kept.file x.kept.head e) (cond (is_earlier own e) (behind x.kept.file x.kept.head e) row))))) (is_earlier e own)
        (λ _ p. stays)
        (λ _ p. by_test (λ b. is_earlier own e ≡ b → Reached (put w n (with_acted n (local w n) (cond b (behind x.kept.file x.kept.head e) row)))) (is_earlier own e)
        (λ _ q. stays) (λ _ q. f (is_one own e q p)) refl) refl
      where
        own : Epoch
        own = x.kept.head.promised

    -- head taken
    pub takes_head_reached : (e : Epoch) (h : FileHead) → Has (heads.Head e h) w.sent → Reached (put w n (after n (local w n) (TakesHead e h)))
    unfolding headed
    takes_head_reached e h has =
        by_test (λ a. (is_epoch h.promised e && is_epoch h.stamp.epoch e) ≡ a
        → Reached (put w n (with_acted n (local w n) (cond a (as_promised x.kept.file x.kept.head e (head_offered x.kept.file x.kept.head x.kept.held e h)) unanswered)))) (is_epoch h.promised e && is_epoch h.stamp.epoch e)
        (λ _ p. let both = both_true (is_epoch h.promised e) (is_epoch h.stamp.epoch e) p in
        by_promise e (head_offered x.kept.file x.kept.head x.kept.held e h) (λ same. offered (s.sent (heads.Head e h) has (same_is h.promised e both.0) (same_is h.stamp.epoch e both.1)) same))
        (λ _ _. stays) refl
      where
        own : FileHead
        own = x.kept.head

        is_own : own ≡ head_at y
        is_own = (s.nodes n).head

        offered : (us : List Update) × Has (world.Install e us) v.messages × (h ≡ head_of e e us) → own.promised ≡ e
            → Reached (put w n (with_acted n (local w n) (head_offered x.kept.file own x.kept.held e h)))
        offered m same =
            by_test (λ a. is_below own.stamp h.stamp ≡ a → Reached (put w n (with_acted n (local w n) (cond a (head_taken x.kept.file e h (first_missing x.kept.held h.versions)) (only (payload.Ack x.kept.file h.stamp))))))
            (is_below own.stamp h.stamp)
            (λ _ below. taken below (first_missing x.kept.held h.versions) refl)
            (λ _ past. acks h.stamp (inl (m.0, subst (λ (d : Epoch). Has (world.Install d m.0) v.messages) (sym (ap (λ (g : FileHead). g.stamp.epoch) m.2)) m.1, ap (λ (g : FileHead). g.stamp.count) (sym m.2)))
            (subst (λ (g : FileHead). is_below g.stamp h.stamp ≡ false) is_own past)) refl
          where
            us : List Update
            us = m.0

            t : Stamp
            t = record { epoch = e; count = length us }

            taken : is_below own.stamp h.stamp ≡ true → (missing : Option ObjectVersion) → first_missing x.kept.held h.versions ≡ missing
                → Reached (put w n (with_acted n (local w n) (head_taken x.kept.file e h missing)))
            taken below (Some o) is = stays
            taken below None is = record {
              world = v2;
              good = go v1 (step.SendsAck n t) (record { asked = inl (us, m.1, refl); reached = subst (λ (z : world.Node). AtMost t (stamp_of z.head)) (sym (at_own v.nodes n y1)) (at_most_self t) })
                  (go v (step.TakesHead n e us) (record {
                    asked = m.1;
                    promised = ap (λ (g : FileHead). g.promised) (sym is_own) ∙ same;
                    above = subst₂ (λ (g : FileHead) (k : FileHead). is_below g.stamp k.stamp ≡ true) is_own m.2 below;
                    held = there;
                  }) good);
              stand = moved w v v2 n (with_acted n (local w n) (after_record (kept.Head x.kept.file h) (payload.Ack x.kept.file h.stamp))) y1 (v.held n)
                  (λ r. refl) (λ r. ap (λ f. f r) (unchanged v.held n)) s.holder
                  (record { head = m.2 ∙ ap (λ d. head_of d e us) (sym same ∙ ap (λ (g : FileHead). g.promised) is_own); bodies = with_bodies; primary = (s.nodes n).primary })
                  (one_more (world.Ack n t) v.messages (Ack n h.stamp) w.sent s.sent (inl (ap (λ (g : FileHead). world.Ack n g.stamp) m.2))) s.entries s;
            }
              where
                y1 : world.Node
                y1 = record { promised = y.promised; head = record { epoch = e; writes = us }; primary = y.primary }

                v1 : world.World
                v1 = step.after v (step.TakesHead n e us)

                v2 : world.World
                v2 = step.after v1 (step.SendsAck n t)

                with_bodies : BodiesAre (record x.kept { head = h }) x.body (v.held n)
                with_bodies = record { has = (s.nodes n).bodies.has; holds = (s.nodes n).bodies.holds }

                there : AreHeld (v.held n) us
                there o k low named = (x.body o k, (s.nodes n).bodies.has o k (none_missing x.kept.held h.versions is o k (subst (λ (g : FileHead). version_of g.versions o ≡ Some k) (sym m.2) named)))

    -- update taken
    pub takes_update_reached : (u : Update) → Has (UpdateSent u) w.sent → Reached (put w n (after n (local w n) (TakesUpdate u)))
    unfolding updated
    takes_update_reached u has = by_promise u.stamp.epoch (update_offered x.kept.file x.kept.head u) offered
      where
        own : FileHead
        own = x.kept.head

        is_own : own ≡ head_at y
        is_own = (s.nodes n).head

        asked : Has (world.Update u) v.messages
        asked = s.sent (UpdateSent u) has

        offered : own.promised ≡ u.stamp.epoch → Reached (put w n (with_acted n (local w n) (update_offered x.kept.file own u)))
        offered promised =
            by_test (λ a. is_epoch own.stamp.epoch u.stamp.epoch ≡ a → Reached (put w n (with_acted n (local w n) (cond (not a) (behind x.kept.file own u.stamp.epoch)
            (cond (nat_le u.stamp.count own.stamp.count) (only (payload.Ack x.kept.file u.stamp)) (cond (u.stamp.count == own.stamp.count + 1) (next_update x.kept.file own u) (behind x.kept.file own u.stamp.epoch)))))))
            (is_epoch own.stamp.epoch u.stamp.epoch)
            (λ _ same. by_test (λ a. nat_le u.stamp.count own.stamp.count ≡ a → Reached (put w n (with_acted n (local w n)
            (cond a (only (payload.Ack x.kept.file u.stamp)) (cond (u.stamp.count == own.stamp.count + 1) (next_update x.kept.file own u) (behind x.kept.file own u.stamp.epoch))))))
            (nat_le u.stamp.count own.stamp.count)
            (λ _ had. acks u.stamp (inr (u, asked, refl)) (subst (λ (g : FileHead). AtMost u.stamp g.stamp) is_own (reached u.stamp own.stamp (sym (same_is own.stamp.epoch u.stamp.epoch same)) had)))
            (λ _ _. by_test (λ a. (u.stamp.count == own.stamp.count + 1) ≡ a → Reached (put w n (with_acted n (local w n) (cond a (next_update x.kept.file own u) (behind x.kept.file own u.stamp.epoch)))))
            (u.stamp.count == own.stamp.count + 1)
            (λ _ next. fits (same_is own.stamp.epoch u.stamp.epoch same) (number_is u.stamp.count (own.stamp.count + 1) next)) (λ _ _. stays) refl) refl)
            (λ _ _. stays) refl
          where
            taken : Acted
            taken = after_record (kept.Update x.kept.file u) (payload.Ack x.kept.file u.stamp)

            fits : own.stamp.epoch ≡ u.stamp.epoch → u.stamp.count ≡ own.stamp.count + 1 → Reached (put w n (with_acted n (local w n) (next_update x.kept.file own u)))
            fits same next =
                by_test (λ a. Reached (put w n (with_acted n (local w n) (cond a taken unanswered)))) (head_fits (head_after own u))
                (λ _. takes (updated_bodies x.kept (record x.kept { head = head_after own u; held = held_after x.kept.held u }) x.body (v.held n) u refl (s.nodes n).bodies)) (λ _. stays)
              where
                same_too : y.head.epoch ≡ u.stamp.epoch
                same_too = ap (λ (g : FileHead). g.stamp.epoch) (sym is_own) ∙ same

                next_too : suc (length y.head.writes) ≡ u.stamp.count
                next_too = omega (arith, next, ap (λ (g : FileHead). g.stamp.count) is_own)

                y1 : world.Node
                y1 = record { promised = y.promised; head = record { epoch = u.stamp.epoch; writes = y.head.writes ++ u ∷ [] }; primary = y.primary }

                is_head : head_after own u ≡ head_at y1
                is_head = ap (λ (g : FileHead). head_after g u) is_own
                    ∙ head_push y.promised y.head.epoch y.head.writes u (λ i. record { epoch = sym same_too i; count = sym next_too i })
                    ∙ ap (λ d. head_of y.promised d (y.head.writes ++ u ∷ [])) same_too

                promised_too : y.promised ≡ u.stamp.epoch
                promised_too = ap (λ (g : FileHead). g.promised) (sym is_own) ∙ promised

                reaches : AtMost u.stamp (stamp_of y1.head)
                reaches = at_most_count u.stamp.epoch u.stamp.count (length (y.head.writes ++ u ∷ [])) (omega (arith, next_too, length-append y.head.writes (u ∷ [])))

                -- with a body, or without
                takes : ((u.object ≡ NO_OBJECT) × BodiesAre (record x.kept { head = head_after own u; held = held_after x.kept.held u }) (body_beyond x.kept.file (Some (kept.Update x.kept.file u)) x.body) (v.held n))
                    ⊎ ((u.object ≡ NO_OBJECT → ⊥) × BodiesAre (record x.kept { head = head_after own u; held = held_after x.kept.held u }) (body_beyond x.kept.file (Some (kept.Update x.kept.file u)) x.body) (body_of u ∷ v.held n))
                    → Reached (put w n (with_acted n (local w n) taken))
                takes (inl b) = record {
                  world = step.after v1 (step.SendsAck n u.stamp);
                  good = go v1 (step.SendsAck n u.stamp) (record { asked = inr (u, asked, refl); reached = subst (λ (z : world.Node). AtMost u.stamp (stamp_of z.head)) (sym (at_own v.nodes n y1)) reaches })
                      (go v (step.TakesUpdate n u) (record { asked = asked; promised = promised_too; same = same_too; next = next_too; held = λ some. absurd (some b.0) }) good);
                  stand = moved w v (step.after v1 (step.SendsAck n u.stamp)) n (with_acted n (local w n) taken) y1 (v.held n) (λ r. refl) (λ r. ap (λ f. f r) (unchanged v.held n)) s.holder
                      (record { head = is_head; bodies = b.1; primary = (s.nodes n).primary })
                      (one_more (world.Ack n u.stamp) v.messages (Ack n u.stamp) w.sent s.sent (inl refl)) s.entries s;
                }
                  where
                    v1 : world.World
                    v1 = step.after v (step.TakesUpdate n u)
                takes (inr b) = record {
                  world = step.after v1 (step.SendsAck n u.stamp);
                  good = go v1 (step.SendsAck n u.stamp) (record { asked = inr (u, asked, refl); reached = subst (λ (z : world.Node). AtMost u.stamp (stamp_of z.head)) (sym (at_own v.nodes n y1)) reaches })
                      (go v0 (step.TakesUpdate n u) (record { asked = asked; promised = promised_too; same = same_too; next = next_too; held = λ some. (u.body, subst (Has (body_of u)) (sym (at_own v.held n (body_of u ∷ v.held n))) (inl refl)) })
                      (go v (step.KeepsUpdate n u) (asked, b.0) good));
                  stand = moved w v (step.after v1 (step.SendsAck n u.stamp)) n (with_acted n (local w n) taken) y1 (body_of u ∷ v.held n) (λ r. refl) (λ r. refl) s.holder
                      (record { head = is_head; bodies = b.1; primary = (s.nodes n).primary })
                      (one_more (world.Ack n u.stamp) v.messages (Ack n u.stamp) w.sent s.sent (inl refl)) s.entries s;
                }
                  where
                    v0 : world.World
                    v0 = step.after v (step.KeepsUpdate n u)

                    v1 : world.World
                    v1 = step.after v0 (step.TakesUpdate n u)
