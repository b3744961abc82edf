-- what a replica's answers to its own node come to, and how its head moves
use Rattle.std.proofs.Common.{◌≡◌, ℕ, ◌≤◌, ◌+◌, Bool, true, false, List, [], ◌∷◌, refl, sym, ap, subst, ◌∙◌, arith, Option, Some, None, le_refl}
use Rattle.std.specs.Prelude.{◌&&◌, ◌||◌, not, cond, ◌==◌, nat_le}
use Rattle.std.proofs.lemmas.Bool.{and_parts, eqb-true}
use Rattle.std.proofs.lemmas.Bool.Decides.{nat_tests}
use Rattle.xt_base.specs.declared.ids.NodeId.{NodeId}
use Rattle.xt_base.specs.declared.ids.FileId.{FileId}
use Rattle.xt_base.specs.declared.ids.Epoch.{Epoch}
use Rattle.xt_base.specs.declared.ids.Stamp.{Stamp}
use Rattle.xt_messages.specs.declared.file.FileHead.{FileHead}
use Rattle.xt_messages.specs.declared.file.ObjectVersion.{ObjectVersion}
use Rattle.xt_messages.specs.declared.file.Update.{Update}
use Rattle.xt_messages.specs.declared.message.Payload.{Payload}
use Rattle.xt_messages.specs.declared.message.Payload.TheVariants as payload
use Rattle.xt_messages.specs.declared.record.FileRow.{FileRow}
use Rattle.xt_messages.specs.declared.record.Record.TheVariants as kept
use Rattle.xt_protocol.specs.Folds.{body_of}
use Rattle.xt_protocol.specs.Heads.{head_after}
use Rattle.xt_protocol.specs.Stamps.{is_epoch, is_earlier, is_below, has_version, with_held}
use Rattle.xt_protocol.proofs.Stamps.{version-itself, has_version-with_held}
use Rattle.lease_safety.specs.State.{Has}
use Rattle.xt_protocol.specs.declared.states.IssuedUpdate.{IssuedUpdate}
use Rattle.replica_safety.proofs.Orders.{is_one, not_after, not_before_self, same_is, same_self, up_to_trans}
use Rattle.xt_protocol.specs.declared.states.Acted.{Acted}
use Rattle.xt_protocol.specs.declared.states.PeerState.{PeerState}
use Rattle.xt_protocol.specs.declared.states.PeerState.TheVariants as peer
use Rattle.xt_protocol.specs.declared.states.Tenure.{Tenure}
use Rattle.xt_protocol.specs.OsdSteps.{file_concerned}
use Rattle.xt_protocol.specs.Primaries.{peer_in}
use Rattle.xt_protocol.specs.PrimaryRows.{target_in}
use Rattle.xt_protocol.specs.ReplicaRows.{kept_after, unanswered, only, after_record, refused, behind, as_promised, gathered, staged, stage_record, head_taken, first_missing, head_offered, headed, head_fits, next_update, update_offered, updated}
use Rattle.own_messages_wait.proofs.Weights.{are_named, bodies_left, epoch_left, is_wanted, rank, settles, stand_of, unless}
use Rattle.own_messages_wait.proofs.Standing.{IfAbout, HeadStands, IfMessage, Stands}
use Rattle.own_messages_wait.proofs.Tests.{false_true, fewer_below, not_both, of_its_epoch}
use Rattle.own_messages_wait.proofs.Bodies.{first_lacked, held_lacks, lacks_less, named_each}
use Rattle.own_messages_wait.proofs.Moves.{Moves, moves_none, promise_moves, IsMore, more_moves, more_head}
use Rattle.own_messages_wait.proofs.Rows.{six_if}
use Rattle.own_messages_wait.proofs.Rows.{three_if, four_if}

-- ---- what must hold of a row of the replica

-- less can follow from the answer than from the message
abbrev pub IfLess : NodeId → FileRow → FileRow → Payload → Option Payload → Type 0
IfLess n row next content None = Unit {0}
IfLess n row next content (Some answer) = (o : Option Tenure) → epoch_left next o + rank (stand_of n next o) answer + 1 ≤ epoch_left row o + rank (stand_of n row o) content

pub record Acts (n : NodeId) (row : FileRow) (from : NodeId) (content : Payload) (acted : Acted) : Type 0 where
  pub head : HeadStands (kept_after row acted.rec).head
  pub moves : Moves row.head (kept_after row acted.rec).head
  pub stands : from.0 ≡ n.0 → IfMessage (kept_after row acted.rec) acted.answer
  pub less : from.0 ≡ n.0 → IfLess n row (kept_after row acted.rec) content acted.answer
  pub about : IfAbout row.file acted.answer

either : {n : NodeId} {row : FileRow} {from : NodeId} {content : Payload} (b : Bool) (x y : Acted) → (b ≡ true → Acts n row from content x) → (b ≡ false → Acts n row from content y) → Acts n row from content (cond b x y)
either true x y p q = p refl
either false x y p q = q refl

-- ---- ranks

ack_low : (n : NodeId) (row : FileRow) (o : Option Tenure) (file : FileId) (stamp : Stamp) → rank (stand_of n row o) (payload.Ack file stamp) ≤ 3
ack_low n row o file stamp = at (settles (stand_of n row o).issued stamp)
  where
    at : (b : Bool) → three_if b ≤ 3
    at true = omega arith
    at false = omega arith

epochs_same : (row next : FileRow) (o : Option Tenure) → next.head.promised ≡ row.head.promised → epoch_left next o ≡ epoch_left row o
epochs_same row next None same = refl
epochs_same row next (Some t) same = ap (λ (p : Epoch). six_if (is_earlier t.epoch p)) same

issued_same : (n : NodeId) (row next : FileRow) (o : Option Tenure) → (stand_of n next o).issued ≡ (stand_of n row o).issued
issued_same n row next None = refl
issued_same n row next (Some t) = refl

module _ (n : NodeId) (row : FileRow) (from : NodeId) (head_stands : HeadStands row.head) where
  abbrev Heard : Payload → Type 0
  Heard content = from.0 ≡ n.0 → Stands row content

  -- nothing is kept, and this is answered
  answers : (content answer : Payload) → (from.0 ≡ n.0 → IfMessage row (Some answer)) → (from.0 ≡ n.0 → (o : Option Tenure) → rank (stand_of n row o) answer + 1 ≤ rank (stand_of n row o) content) → file_concerned answer ≡ Some row.file → Acts n row from content (only answer)
  answers content answer stands low about = record {
    about = about;
    head = head_stands;
    moves = moves_none row.head row.head refl;
    stands = stands;
    less = λ mine o. let lower = low mine o in omega (arith, lower);
  }

  silent : (content : Payload) → Acts n row from content unanswered
  silent content = record { head = head_stands; moves = moves_none row.head row.head refl; stands = λ mine. tt; less = λ mine. tt; about = tt }

  -- refused: the message has some weight left
  refuses : (file : FileId) (its : Some file ≡ Some row.file) (epoch : Epoch) (content : Payload) → ((o : Option Tenure) → 2 ≤ rank (stand_of n row o) content) → Acts n row from content (refused file row.head epoch)
  refuses file its epoch content two = answers content (payload.Refused file epoch row.head.promised) (λ mine. (not_before_self row.head.promised, tt)) (λ mine o. two o) its

  -- the own node is never behind
  not_behind : (file : FileId) (its : Some file ≡ Some row.file) (epoch : Epoch) (content : Payload) → (from.0 ≡ n.0 → ⊥) → Acts n row from content (behind file row.head epoch)
  not_behind file its epoch content never = answers content (payload.Behind file epoch row.head.stamp) (λ mine. absurd (never mine)) (λ mine o. absurd (never mine)) its

  -- a message of the promised epoch
  promised_acts : (file : FileId) (its : Some file ≡ Some row.file) (epoch : Epoch) (content : Payload) (acted : Acted) → (from.0 ≡ n.0 → is_earlier row.head.promised epoch ≡ false) → ((o : Option Tenure) → 2 ≤ rank (stand_of n row o) content)
      → (epoch ≡ row.head.promised → Acts n row from content acted) → Acts n row from content (as_promised file row.head epoch acted)
  promised_acts file its epoch content acted within two acts =
      either (is_earlier epoch row.head.promised) _ _ (λ old. refuses file its epoch content two)
      (λ here. either (is_earlier row.head.promised epoch) _ _ (λ later. not_behind file its epoch content (λ mine. not_both (is_earlier row.head.promised epoch) later (within mine)))
      (λ there. acts (is_one epoch row.head.promised here there)))

  pub gather_acts : (file : FileId) (epoch : Epoch) → Heard (payload.Gather file epoch) → Acts n row from (payload.Gather file epoch) (gathered row.file row.head epoch)
  unfolding gathered
  gather_acts file epoch heard =
      either (is_earlier epoch row.head.promised) _ _ (λ old. refuses row.file refl epoch (payload.Gather file epoch) (λ o. omega arith))
      (λ here. either (is_earlier row.head.promised epoch) _ _ promises
      (λ there. answers (payload.Gather file epoch) (payload.Status row.file epoch row.head) (λ mine. (tt, refl)) (λ mine o. omega arith) refl))
    where
      promises : is_earlier row.head.promised epoch ≡ true
          → Acts n row from (payload.Gather file epoch) (after_record (kept.Promise row.file epoch) (payload.Status row.file epoch (record row.head { promised = epoch })))
      promises later =
          record {
            head = up_to_trans row.head.stamp.epoch row.head.promised epoch head_stands (not_after row.head.promised epoch later);
            moves = promise_moves row.head epoch later;
            about = refl;
            stands = λ mine. (tt, refl);
            less = λ mine. not_both (is_earlier row.head.promised epoch) later (heard mine);
          }

  -- ---- bodies

  -- what is left of bodies
  abbrev left_of : FileRow → Option Tenure → ℕ
  left_of next o = bodies_left (stand_of n next o).held (stand_of n next o).target (stand_of n next o).state

  held_more : (file : FileId) (object : ℕ) (version : Stamp) (bytes : List ℕ) (o : Option Tenure) → left_of (kept_after row (stage_record file row.held object version bytes)) o ≤ left_of row o
  held_more file object version bytes o = at (has_version row.held (body_of object version))
    where
      lower : (target : Option FileHead) (state : Option PeerState) → bodies_left (with_held row.held (body_of object version)) target state ≤ bodies_left row.held target state
      lower (Some target) (Some peer.Unknown) = lacks_less row.held [] (with_held row.held (body_of object version)) [] target (held_lacks row.held [] (body_of object version))
      lower (Some target) (Some (peer.Feeding known ob v b)) = lacks_less row.held known (with_held row.held (body_of object version)) known target (held_lacks row.held known (body_of object version))
      lower (Some target) (Some (peer.Heading known head)) = lacks_less row.held known (with_held row.held (body_of object version)) known target (held_lacks row.held known (body_of object version))
      lower (Some target) (Some (peer.Reported head)) = le_refl 0
      lower (Some target) (Some peer.Current) = le_refl 0
      lower (Some target) None = le_refl 0
      lower None state = le_refl 0

      in_tenure : (o : Option Tenure) → left_of (record row { held = with_held row.held (body_of object version) }) o ≤ left_of row o
      in_tenure None = le_refl 0
      in_tenure (Some t) = lower (target_in row.head t.epoch t.progress) (peer_in t.peers n)

      at : (b : Bool) → left_of (kept_after row (cond b None (Some (kept.Stage file object version bytes)))) o ≤ left_of row o
      at true = le_refl (left_of row o)
      at false = in_tenure o

  pub stage_acts : (file : FileId) (epoch : Epoch) (object : ℕ) (version : Stamp) (bytes : List ℕ) → Heard (payload.Stage file epoch object version bytes)
      → Acts n row from (payload.Stage file epoch object version bytes) (staged row.file row.head row.held epoch object version bytes)
  unfolding staged
  stage_acts file epoch object version bytes heard =
      promised_acts row.file refl epoch (payload.Stage file epoch object version bytes) (record { rec = stage_record row.file row.held object version bytes; answer = Some (payload.Staged row.file epoch object version) }) heard (λ o. omega arith)
      (λ now. record {
        head = subst HeadStands (sym head_is) head_stands;
        moves = moves_none row.head (kept_after row (stage_record row.file row.held object version bytes)).head head_is;
        about = refl;
        stands = λ mine. (tt, here (has_version row.held (body_of object version)) refl);
        less = λ mine o. lower o;
      })
    where
      next : FileRow
      next = kept_after row (stage_record row.file row.held object version bytes)

      head_is : (kept_after row (stage_record row.file row.held object version bytes)).head ≡ row.head
      head_is = at (has_version row.held (body_of object version))
        where
          at : (b : Bool) → (kept_after row (cond b None (Some (kept.Stage row.file object version bytes)))).head ≡ row.head
          at true = refl
          at false = refl

      here : (b : Bool) → has_version row.held (body_of object version) ≡ b → has_version (kept_after row (cond b None (Some (kept.Stage row.file object version bytes)))).held (body_of object version) ≡ true
      here true is = is
      here false is = has_version-with_held row.held (body_of object version) (body_of object version) ∙ ap (λ (b : Bool). b || has_version row.held (body_of object version)) (version-itself (body_of object version))

      wanted_same : (o : Option Tenure) → is_wanted (stand_of n (kept_after row (stage_record row.file row.held object version bytes)) o).target (stand_of n (kept_after row (stage_record row.file row.held object version bytes)) o).state (body_of object version)
          ≡ is_wanted (stand_of n row o).target (stand_of n row o).state (body_of object version)
      wanted_same None = refl
      wanted_same (Some t) = ap (λ (h : FileHead). is_wanted (target_in h t.epoch t.progress) (peer_in t.peers n) (body_of object version)) head_is

      lower : (o : Option Tenure) → epoch_left (kept_after row (stage_record row.file row.held object version bytes)) o
          + rank (stand_of n (kept_after row (stage_record row.file row.held object version bytes)) o) (payload.Staged row.file epoch object version) + 1
          ≤ epoch_left row o + rank (stand_of n row o) (payload.Stage file epoch object version bytes)
      lower o =
          let fewer = held_more row.file object version bytes o in
          let epochs = epochs_same row (kept_after row (stage_record row.file row.held object version bytes)) o (ap (λ (h : FileHead). h.promised) head_is) in
          let cost = ap unless (wanted_same o) in
          omega (arith, fewer, epochs, cost)

  -- ---- heads

  pub head_acts : (file : FileId) (epoch : Epoch) (head : FileHead) → Heard (payload.Head file epoch head) → Acts n row from (payload.Head file epoch head) (headed row.file row.head row.held epoch head)
  unfolding headed
  head_acts file epoch head heard =
      either (is_epoch head.promised epoch && is_epoch head.stamp.epoch epoch) _ _
      (λ its. promised_acts row.file refl epoch (payload.Head file epoch head) (head_offered row.file row.head row.held epoch head) heard (λ o. omega arith) (λ now. offered (and_parts (is_epoch head.promised epoch) (is_epoch head.stamp.epoch epoch) its) now))
      (λ other. silent (payload.Head file epoch head))
    where
      ack_less : (next : FileRow) → next.head.promised ≡ row.head.promised → (o : Option Tenure) → epoch_left next o + rank (stand_of n next o) (payload.Ack row.file head.stamp) + 1 ≤ epoch_left row o + rank (stand_of n row o) (payload.Head file epoch head)
      ack_less next same o =
          let epochs = epochs_same row next o same in
          let low = ack_low n next o row.file head.stamp in
          omega (arith, epochs, low)

      missing_less : (v : ObjectVersion) → Has v head.versions → (o : Option Tenure) → rank (stand_of n row o) (payload.Missing row.file epoch v.object v.version) + 1 ≤ rank (stand_of n row o) (payload.Head file epoch head)
      missing_less v h o = at (are_named (stand_of n row o).target head.versions) (are_named (stand_of n row o).target (v ∷ [])) refl refl
        where
          at : (a b : Bool) → are_named (stand_of n row o).target head.versions ≡ a → are_named (stand_of n row o).target (v ∷ []) ≡ b
              → rank (stand_of n row o) (payload.Missing row.file epoch v.object v.version) + 1 ≤ rank (stand_of n row o) (payload.Head file epoch head)
          at true true all one = (let p = ap unless all in let q = ap unless one in omega (arith, p, q))
          at true false all one = not_both (are_named (stand_of n row o).target (v ∷ [])) (named_each (stand_of n row o).target head.versions v h all) one
          at false true all one = (let p = ap unless all in let q = ap unless one in omega (arith, p, q))
          at false false all one = (let p = ap unless all in let q = ap unless one in omega (arith, p, q))

      offered : (is_epoch head.promised epoch ≡ true) × (is_epoch head.stamp.epoch epoch ≡ true) → epoch ≡ row.head.promised → Acts n row from (payload.Head file epoch head) (head_offered row.file row.head row.held epoch head)
      offered its now = either (is_below row.head.stamp head.stamp) _ _ (λ below. taken below (first_missing row.held head.versions) refl) (λ above. acked above)
        where
          promised_is : head.promised ≡ row.head.promised
          promised_is = same_is head.promised epoch its.0 ∙ now

          stamp_is : head.stamp.epoch ≡ row.head.promised
          stamp_is = same_is head.stamp.epoch epoch its.1 ∙ now

          more : is_below row.head.stamp head.stamp ≡ true → IsMore row.head head
          more below =
              record {
                promised = promised_is;
                epoch = stamp_is;
                count = λ same. fewer_below row.head.stamp head.stamp below (ap (is_epoch row.head.stamp.epoch) stamp_is ∙ same);
              }

          taken : is_below row.head.stamp head.stamp ≡ true → (o : Option ObjectVersion) → first_missing row.held head.versions ≡ o → Acts n row from (payload.Head file epoch head) (head_taken row.file epoch head o)
          taken below None is =
              record {
                head = more_head row.head head (more below);
                moves = more_moves row.head head (more below);
                stands = λ mine. ((ap (λ (e : Epoch). is_earlier head.promised e) (stamp_is ∙ sym promised_is) ∙ not_before_self head.promised, λ here. same_self head.stamp.epoch), tt);
                less = λ mine o. ack_less (record row { head = head }) promised_is o;
                about = refl;
              }
          taken below (Some v) is =
              let lacks = first_lacked row.held head.versions v is in
              answers (payload.Head file epoch head) (payload.Missing row.file epoch v.object v.version) (λ mine. (tt, lacks.1)) (λ mine o. missing_less v lacks.0 o) refl

          acked : is_below row.head.stamp head.stamp ≡ false → Acts n row from (payload.Head file epoch head) (only (payload.Ack row.file head.stamp))
          acked above =
              record {
                head = head_stands;
                moves = moves_none row.head row.head refl;
                stands = λ mine. ((ap (is_earlier row.head.promised) stamp_is ∙ not_before_self row.head.promised, λ here. of_its_epoch row.head.stamp head.stamp above (ap (λ (e : Epoch). is_earlier e row.head.stamp.epoch) stamp_is ∙ head_stands)), tt);
                less = λ mine o. ack_less row refl o;
                about = refl;
              }

  -- ---- updates

  pub update_acts : (file : FileId) (update : Update) → Heard (payload.Update file update) → Acts n row from (payload.Update file update) (updated row.file row.head update)
  unfolding updated
  update_acts file update heard =
      promised_acts row.file refl update.stamp.epoch (payload.Update file update) (update_offered row.file row.head update) (λ mine. (heard mine).0) two offered
    where
      two : (o : Option Tenure) → 2 ≤ rank (stand_of n row o) (payload.Update file update)
      two o = at (settles (stand_of n row o).issued update.stamp)
        where
          at : (b : Bool) → 2 ≤ four_if b
          at true = omega arith
          at false = omega arith

      ack_less : (next : FileRow) → next.head.promised ≡ row.head.promised → (o : Option Tenure) → epoch_left next o + rank (stand_of n next o) (payload.Ack row.file update.stamp) + 1 ≤ epoch_left row o + rank (stand_of n row o) (payload.Update file update)
      ack_less next same o =
          let epochs = epochs_same row next o same in
          let fits : rank (stand_of n next o) (payload.Ack row.file update.stamp) ≡ three_if (settles (stand_of n row o).issued update.stamp) = ap (λ (i : Option IssuedUpdate). three_if (settles i update.stamp)) (issued_same n row next o) in
          let one = at (settles (stand_of n row o).issued update.stamp) in
          omega (arith, epochs, fits, one)
        where
          at : (b : Bool) → three_if b + 1 ≤ four_if b
          at true = omega arith
          at false = omega arith

      offered : update.stamp.epoch ≡ row.head.promised → Acts n row from (payload.Update file update) (update_offered row.file row.head update)
      offered now =
          either (not (is_epoch row.head.stamp.epoch update.stamp.epoch)) _ _ (λ other. not_behind row.file refl update.stamp.epoch (payload.Update file update) (λ mine. never (is_epoch row.head.stamp.epoch update.stamp.epoch) (next mine).0 other))
          (λ same. either (nat_le update.stamp.count row.head.stamp.count) _ _ (λ old. acked (is_true (is_epoch row.head.stamp.epoch update.stamp.epoch) same))
          (λ new. either (update.stamp.count == row.head.stamp.count + 1) _ _ (λ its. taken (is_true (is_epoch row.head.stamp.epoch update.stamp.epoch) same) its)
          (λ far. not_behind row.file refl update.stamp.epoch (payload.Update file update) (λ mine. too_far update.stamp.count row.head.stamp.count (next mine).1 new far))))
        where
          current : is_earlier update.stamp.epoch row.head.promised ≡ false
          current = ap (λ (e : Epoch). is_earlier e row.head.promised) now ∙ not_before_self row.head.promised

          next : from.0 ≡ n.0 → (is_epoch row.head.stamp.epoch update.stamp.epoch ≡ true) × (update.stamp.count ≤ row.head.stamp.count + 1)
          next mine = (heard mine).1 current

          never : (b : Bool) → b ≡ true → not b ≡ true → ⊥
          never true is other = false_true other
          never false is other = false_true is

          is_true : (b : Bool) → not b ≡ false → b ≡ true
          is_true true is = refl
          is_true false is = absurd (false_true (sym is))

          too_far : (a b : ℕ) → a ≤ b + 1 → nat_le a b ≡ false → (a == b + 1) ≡ false → ⊥
          too_far a b low new far = grind (arith, nat_tests)

          acked : is_epoch row.head.stamp.epoch update.stamp.epoch ≡ true → Acts n row from (payload.Update file update) (only (payload.Ack row.file update.stamp))
          acked same =
              record { head = head_stands; moves = moves_none row.head row.head refl; stands = λ mine. ((ap (is_earlier row.head.promised) now ∙ not_before_self row.head.promised, λ here. same), tt); less = λ mine o. ack_less row refl o; about = refl }

          taken : is_epoch row.head.stamp.epoch update.stamp.epoch ≡ true → (update.stamp.count == row.head.stamp.count + 1) ≡ true → Acts n row from (payload.Update file update) (next_update row.file row.head update)
          taken same its = either (head_fits (head_after row.head update)) _ _ (λ fits. keeps) (λ full. silent (payload.Update file update))
            where
              count_is : update.stamp.count ≡ row.head.stamp.count + 1
              count_is = eqb-true update.stamp.count (row.head.stamp.count + 1) its

              more : IsMore row.head (head_after row.head update)
              more = record { promised = refl; epoch = now; count = λ here. omega (arith, count_is) }

              keeps : Acts n row from (payload.Update file update) (after_record (kept.Update row.file update) (payload.Ack row.file update.stamp))
              keeps =
                  record {
                    head = more_head row.head (head_after row.head update) more;
                    moves = more_moves row.head (head_after row.head update) more;
                    stands = λ mine. ((ap (is_earlier row.head.promised) now ∙ not_before_self row.head.promised, λ here. same_self update.stamp.epoch), tt);
                    less = λ mine o. ack_less (kept_after row (Some (kept.Update row.file update))) refl o;
                    about = refl;
                  }
