-- the whole step of a file at its node: what is overdue, and then what comes
use Rattle.std.proofs.Common.{◌≡◌, ℕ, ◌⊎◌, inl, inr, Bool, true, false, List, ◌++◌, sym, ap, ap₂, subst, ◌∙◌, arith, Option, Some, None}
use Rattle.std.specs.Prelude.{◌==◌}
use Rattle.xt_base.specs.MemberList.{are_distinct}
use Rattle.xt_base.specs.declared.ids.NodeId.{NodeId}
use Rattle.xt_messages.specs.declared.message.Msg.{Msg}
use Rattle.xt_messages.specs.declared.message.Payload.{Payload}
use Rattle.xt_messages.specs.declared.message.Payload.TheVariants as payload
use Rattle.xt_messages.specs.declared.record.FileRow.{FileRow}
use Rattle.xt_messages.specs.declared.file.Capability.{Capability}
use Rattle.xt_messages.specs.declared.file.Op.{Op}
use Rattle.lease_runs.specs.LeaseView.{is_ask}
use Rattle.xt_protocol.specs.FileStates.{FileState, Site, FileStep, and_then, members_of}
use Rattle.xt_protocol.specs.FileSteps.{message_comes, step_of_file, wake_of_file}
use Rattle.xt_protocol.specs.Overdue.{expired}
use Rattle.xt_protocol.specs.declared.states.Tenure.{Tenure}
use Rattle.osd_invariants.specs.Sound.{IsSound}
use Rattle.osd_invariants.proofs.SoundSteps.{expired_so}
use Rattle.world_runs.proofs.FileIds.{FileIs}
use Rattle.own_messages_wait.proofs.Weights.{is_lease}
use Rattle.own_messages_wait.proofs.Standing.{BodyStays, IfAbout, Stands, body_still}
use Rattle.own_messages_wait.proofs.Moves.{Moves}
use Rattle.own_messages_wait.proofs.Mine.{mine-append}
use Rattle.own_messages_wait.proofs.Hearing.{IsApart}
use Rattle.own_messages_wait.proofs.Files.{FileStands, Overdue, overdue, overdue_stands}
use Rattle.own_messages_wait.proofs.Messages.{Gives, Less, Comes, message_given}
use Rattle.own_messages_wait.proofs.Asking.{ask_given}
use Rattle.own_messages_wait.proofs.Waking.{wake_given}

-- the file as it stands after a step
pub stands_after : (n from : NodeId) (s : FileState) (step : FileStep) → Gives n from s step → FileIs (IsApart n) step.state → FileStands n step.state
stands_after n from s step q ids = record { head = q.head; tenure = q.tenure; ids = ids; seats = q.seats; few = q.few }

module _ (site : Site) (from : NodeId) (s : FileState) (stands : FileStands site.node s) (sound : IsSound s) (apart : are_distinct (members_of s.kept.location) ≡ true) where
  first : FileStep
  first = expired site s

  due : Overdue site s (expired site s)
  due = overdue site s stands sound.issued

  later_stands : FileStands site.node (expired site s).state
  later_stands = overdue_stands site s stands sound.issued

  later_sound : IsSound (expired site s).state
  later_sound = expired_so site s sound

  later_apart : are_distinct (members_of (expired site s).state.kept.location) ≡ true
  later_apart = ap (λ (k : FileRow). are_distinct (members_of k.location)) due.settles.kept ∙ apart

  -- what comes after what is overdue
  behind_due : (content : Payload) (rows : FileState → FileStep) → Gives site.node from (expired site s).state (rows (expired site s).state) → Gives site.node from s (and_then (expired site s) rows)
  behind_due content rows q =
      record {
        head = q.head;
        moves = λ mine. subst (λ (k : FileRow). Moves k.head (rows (expired site s).state).state.kept.head) due.settles.kept (q.moves mine);
        tenure = q.tenure;
        seats = q.seats;
        few = q.few;
        told = q.told;
        sent = q.sent;
        outs = mine-append site.node (expired site s).turned.outs (rows (expired site s).state).turned.outs ∙ ap₂ (λ (a b : List Msg). a ++ b) due.outs q.outs;
        told_is = q.told_is;
        about_sent = subst (λ (k : FileRow). IfAbout k.file q.sent) due.settles.kept q.about_sent;
        about_told = subst (λ (k : FileRow). IfAbout k.file q.told) due.settles.kept q.about_told;
        stands = q.stands;
        led = λ led. q.led (λ mine. due.settles.led (Some content) (led mine));
        idle = q.idle;
      }

  -- what is over stays over
  over_or : {o p q : Option Tenure} → (q ≡ p) ⊎ (q ≡ None) → (p ≡ o) ⊎ (p ≡ None) → (q ≡ o) ⊎ (q ≡ None)
  over_or (inr now) before = inr now
  over_or (inl same) (inl before) = inl (same ∙ before)
  over_or (inl same) (inr before) = inr (same ∙ before)

  less_due : (content : Payload) (b : Bool) (rows : FileState → FileStep) (told sent : Option Payload) → Less b site.node (expired site s).state content (rows (expired site s).state) told sent → Less b site.node s content (and_then (expired site s) rows) told sent
  less_due content true rows told sent q =
      record {
        alone = let low = due.settles.lighter None tt in let less = q.alone in omega (arith, low, less);
        led_alone = q.led_alone;
        sent_none = λ led. q.sent_none (due.settles.led (Some content) led);
        still_led = λ led. q.still_led (due.settles.led (Some content) led);
        kept = λ led. q.kept (due.settles.led (Some content) led) ∙ due.settles.kept;
        tenure = λ led. over_or (q.tenure (due.settles.led (Some content) led)) due.settles.over;
        beside = λ c led. let low = due.settles.lighter (Some c) led in let less = q.beside c (due.settles.led (Some c) led) in omega (arith, low, less);
      }
  less_due content false rows told sent q = λ bodies led.
      let p = q (subst (λ (k : FileRow). BodyStays k (expired site s).state.primary.tenure content) (sym due.settles.kept) (body_still s.kept s.primary.tenure (expired site s).state.primary.tenure content due.settles.over bodies)) (due.settles.led (Some content) led) in
      record { told_none = p.told_none; less = let low = due.settles.lighter (Some content) led in let less = p.less in omega (arith, low, less) }

  -- Any message but an ask.
  pub step_given : (content : Payload) → is_ask content ≡ false → (from.0 ≡ site.node.0 → is_lease content ≡ false → Stands s.kept content) → Comes site.node from content s (step_of_file site s from content)
  unfolding step_of_file behind_due
  step_given content no_ask heard =
      let c = message_given site (expired site s).state from later_stands later_sound later_apart content no_ask (λ mine primary. subst (λ (k : FileRow). Stands k content) (sym due.settles.kept) (heard mine primary)) in
      record {
        gives = behind_due content (λ state. message_comes site state from content) c.gives;
        less = λ mine. less_due content (is_lease content) (λ state. message_comes site state from content) c.gives.told c.gives.sent (c.less mine);
      }

  -- An ask of another node, with a list of different nodes.
  pub ask_step_given : (number : ℕ) (capability : Capability) (asked : Op) → (from.0 == site.node.0) ≡ false → are_distinct capability.location.members ≡ true → Gives site.node from s (step_of_file site s from (payload.Ask number capability asked))
  unfolding step_of_file
  ask_step_given number capability asked other listed =
      behind_due (payload.Ask number capability asked) (λ state. message_comes site state from (payload.Ask number capability asked))
      (ask_given site from other (expired site s).state capability.location.kind (record { client = from; number = number }) capability asked later_stands later_sound later_apart listed other)

  -- A Wake.
  pub wake_step_given : Gives site.node from s (and_then (expired site s) (wake_of_file site))
  wake_step_given = behind_due (payload.Fetch s.kept.file s.kept.head.promised 0 s.kept.head.stamp) (wake_of_file site) (wake_given site from (expired site s).state later_stands later_sound later_apart)
