-- what comes of each message to a primary: less is left after one of its own node
use Rattle.std.proofs.Common.{◌≡◌, ℕ, ◌≤◌, ◌+◌, ◌*◌, ◌⊎◌, inl, inr, Bool, true, false, List, [], ◌∷◌, ◌++◌, refl, sym, ap, subst, ◌∙◌, arith, Option, Some, None, is_some, le_refl}
use Rattle.std.specs.Prelude.{◌&&◌, ◌||◌, not, cond, ◌==◌, max}
use Rattle.std.proofs.lemmas.Bool.{and_parts, eqb-true}
use Rattle.std.proofs.lemmas.Bool.Decides.{nat_tests}
use Rattle.xt_base.specs.MemberList.{has_node, are_distinct}
use Rattle.xt_base.specs.declared.ids.NodeId.{NodeId}
use Rattle.xt_base.specs.declared.ids.FileId.{FileId}
use Rattle.xt_base.specs.declared.ids.Epoch.{Epoch}
use Rattle.xt_base.specs.declared.ids.OpId.{OpId}
use Rattle.xt_base.specs.declared.ids.Stamp.{Stamp}
use Rattle.xt_messages.specs.declared.file.FileHead.{FileHead}
use Rattle.xt_messages.specs.declared.file.ObjectVersion.{ObjectVersion}
use Rattle.xt_messages.specs.declared.message.Payload.{Payload}
use Rattle.xt_messages.specs.declared.message.Payload.TheVariants as payload
use Rattle.xt_messages.specs.declared.record.FileRow.{FileRow}
use Rattle.xt_messages.specs.declared.record.Record.TheVariants as kept
use Rattle.xt_messages.specs.declared.reply.Reply.TheVariants as reply
use Rattle.xt_protocol.specs.Folds.{body_of}
use Rattle.xt_protocol.specs.Stamps.{is_epoch, is_earlier, is_below, is_version, has_version, without_version, with_held}
use Rattle.lease_runs.proofs.Tests.{same_node}
use Rattle.replica_safety.proofs.Orders.{before_up_to, same_is}
use Rattle.xt_protocol.specs.declared.states.Place.{Place}
use Rattle.xt_protocol.specs.declared.states.IssuedUpdate.{IssuedUpdate}
use Rattle.xt_protocol.specs.declared.states.PeerState.{PeerState}
use Rattle.xt_protocol.specs.declared.states.PeerState.TheVariants as peer
use Rattle.xt_protocol.specs.declared.states.Progress.{Progress}
use Rattle.xt_protocol.specs.declared.states.Progress.TheVariants as progress
use Rattle.xt_protocol.specs.declared.states.Tenure.{Tenure}
use Rattle.xt_protocol.specs.Turns.{message, sends}
use Rattle.xt_protocol.specs.ReplicaRows.{kept_after, stage_record}
use Rattle.xt_protocol.specs.Primaries.{Led, carries, is_unknown, issued_in, is_ready_in, known_of_report, nodes_of, peer_in, target_of, with_node}
use Rattle.xt_protocol.specs.PrimaryRows.{goes_on, unmoved, take_status, hears_status, with_state, body_beyond, hears_object, body_staged, body_missed, hears_missing, target_in, activated, ack_head, committed, ack_update, acked_below, hears_ack, makes_current, forgotten, peer_behind, outpromised, message_epoch, hears_peer, hears_member, hears_epoch}
use Rattle.osd_invariants.proofs.Leads.{put_nodes}
use Rattle.world_runs.proofs.PrimaryIds.{ProgressIs}
use Rattle.own_messages_wait.proofs.Weights.{Stand, stand_of, rank, epoch_left, bodies_left, bodies_to, is_wanted, are_named, unless, settles}
use Rattle.own_messages_wait.proofs.Standing.{IfAbout, IfMessage, BodyStays, HeadStands, IsOfEpoch, IsPast, IsNext, TenureStands, ProgressStands, IsUnfed, Stands}
use Rattle.own_messages_wait.proofs.Tests.{false_true, not_new, not_below_self}
use Rattle.own_messages_wait.proofs.Mine.{token, mine-one, put_same}
use Rattle.own_messages_wait.proofs.Bodies.{staged_less, missed_less, unknown_now, named_one, lacks_less, none_known_lacks}
use Rattle.own_messages_wait.proofs.Moves.{moves_none}
use Rattle.own_messages_wait.proofs.Rows.{Body, ground, IfLeads, Row, plain, readied, one_if, six_if, three_if, four_if, left, either, next_stands, stands_with, stands_other, stands_reported, rests, draws, fetching, counting, feeding}

-- ---- each message counts

three_some : (b : Bool) → 1 ≤ three_if b
three_some true = omega arith
three_some false = omega arith

four_some : (b : Bool) → 1 ≤ four_if b
four_some true = omega arith
four_some false = omega arith

pub rank_some : (a : Stand) (content : Payload) → 1 ≤ rank a content
rank_some a (payload.Gather file epoch) = omega arith
rank_some a (payload.Status file epoch head) = omega arith
rank_some a (payload.Head file epoch head) = omega arith
rank_some a (payload.Missing file epoch object version) = omega arith
rank_some a (payload.Stage file epoch object version bytes) = omega arith
rank_some a (payload.Staged file epoch object version) = omega arith
rank_some a (payload.Update file update) = four_some (settles a.issued update.stamp)
rank_some a (payload.Ack file stamp) = three_some (settles a.issued stamp)
rank_some a _ = le_refl 1

some_more : (a b : ℕ) → 1 ≤ b → 1 ≤ a + b
some_more a b is = omega (arith, is)

-- ---- who has acknowledged

has_pushed : (nodes : List NodeId) (from n : NodeId) → has_node (nodes ++ from ∷ []) n.0 ≡ true → (from.0 ≡ n.0) ⊎ (has_node nodes n.0 ≡ true)
has_pushed [] from n is = at (from.0 == n.0) refl is
  where
    at : (b : Bool) → (from.0 == n.0) ≡ b → (b || false) ≡ true → (from.0 ≡ n.0) ⊎ (has_node [] n.0 ≡ true)
    at true same is = inl (eqb-true from.0 n.0 same)
    at false differ is = absurd (false_true is)
has_pushed (x ∷ xs) from n is = at (x.0 == n.0) (λ h. has_pushed xs from n h) is
  where
    at : (b : Bool) → (has_node (xs ++ from ∷ []) n.0 ≡ true → (from.0 ≡ n.0) ⊎ (has_node xs n.0 ≡ true)) → (b || has_node (xs ++ from ∷ []) n.0) ≡ true → (from.0 ≡ n.0) ⊎ ((b || has_node xs n.0) ≡ true)
    at true rest is = inr refl
    at false rest is = rest is

acked_has : (nodes : List NodeId) (from n : NodeId) → has_node (with_node nodes from) n.0 ≡ true → (from.0 ≡ n.0) ⊎ (has_node nodes n.0 ≡ true)
acked_has nodes from n is = at (has_node nodes from.0) is
  where
    at : (b : Bool) → has_node (cond b nodes (nodes ++ from ∷ [])) n.0 ≡ true → (from.0 ≡ n.0) ⊎ (has_node nodes n.0 ≡ true)
    at true is = inr is
    at false is = has_pushed nodes from n is

unknown_is : (state : PeerState) → is_unknown state ≡ true → state ≡ peer.Unknown
unknown_is peer.Unknown is = refl
unknown_is (peer.Reported head) is = absurd (false_true is)
unknown_is (peer.Feeding known object version body) is = absurd (false_true is)
unknown_is (peer.Heading known head) is = absurd (false_true is)
unknown_is peer.Current is = absurd (false_true is)

same_number : (a b : NodeId) → a.0 ≡ b.0 → (a.0 == b.0) ≡ true
same_number a b is = grind (arith, nat_tests)

-- the client isn't the node
abbrev pub IsApart : NodeId → OpId → Type 0
IsApart n id = (id.client.0 == n.0) ≡ false

-- a staged body leaves the head
staged_head : (row : FileRow) (file : FileId) (object : ℕ) (version : Stamp) (bytes : List ℕ) → (kept_after row (stage_record file row.held object version bytes)).head ≡ row.head
staged_head row file object version bytes = at (has_version row.held (body_of object version))
  where
    at : (b : Bool) → (kept_after row (cond b None (Some (kept.Stage file object version bytes)))).head ≡ row.head
    at true = refl
    at false = refl

module _ (place : Place) (row : FileRow) (its : place.file ≡ row.file) (body : Body) (learnt : ℕ) (t : Tenure) (from : NodeId) (head_stands : HeadStands row.head) (stands : TenureStands place.node row.head t)
    (apart : are_distinct (nodes_of t.peers) ≡ true) (others : ProgressIs (IsApart place.node) t.progress) where
  -- how much can follow from a message of the own node
  abbrev pub limit : Payload → ℕ
  limit content = epoch_left row (Some t) + rank (stand_of place.node row (Some t)) content

  abbrev Owes : Payload → Led → Type 0
  Owes content led = Row place.node row (Some t) ((from.0 ≡ place.node.0) × BodyStays row (Some t) content) (limit content) led

  -- a message of the own node stands
  abbrev Heard : Payload → Type 0
  Heard content = from.0 ≡ place.node.0 → Stands row content

  some : (content : Payload) → 1 ≤ limit content
  some content = some_more (epoch_left row (Some t)) (rank (stand_of place.node row (Some t)) content) (rank_some (stand_of place.node row (Some t)) content)

  still : (content : Payload) → Owes content (unmoved learnt t)
  still content = rests place.node row learnt t t _ (limit content) refl head_stands stands (some content)

  mine_in : (state : PeerState) → peer_in t.peers from ≡ Some state → from.0 ≡ place.node.0 → peer_in t.peers place.node ≡ Some state
  mine_in state found mine = subst (λ (k : NodeId). peer_in t.peers k ≡ Some state) (same_node from place.node mine) found

  targets : (p : Progress) (target : FileHead) → t.progress ≡ p → target_in row.head t.epoch p ≡ Some target → target_in row.head t.epoch t.progress ≡ Some target
  targets p target is to = ap (target_in row.head t.epoch) is ∙ to

  -- what is left of bodies
  bodies_are : (target : FileHead) (state : PeerState) → target_in row.head t.epoch t.progress ≡ Some target → peer_in t.peers place.node ≡ Some state
      → bodies_left row.held (target_in row.head t.epoch t.progress) (peer_in t.peers place.node) ≡ bodies_left row.held (Some target) (Some state)
  bodies_are target state to found =
      ap (λ (o : Option FileHead). bodies_left row.held o (peer_in t.peers place.node)) to ∙ ap (bodies_left row.held (Some target)) found

  -- ---- statuses

  status_fed : (file : FileId) (epoch : Epoch) (head target : FileHead) (state : PeerState) (p : Progress) → t.progress ≡ p → target_in row.head t.epoch p ≡ Some target → peer_in t.peers from ≡ Some state → is_unknown state ≡ true
      → from.0 ≡ place.node.0 → (r : ℕ) → r ≤ 4 + bodies_to row.held (known_of_report head) target → epoch_left row (Some t) + r + 1 ≤ limit (payload.Status file epoch head)
  status_fed file epoch head target state p is to found unknown mine r low =
      let same : bodies_left row.held (target_in row.head t.epoch t.progress) (peer_in t.peers place.node) ≡ bodies_to row.held [] target
      = bodies_are target state (targets p target is to) (mine_in state found mine) ∙ ap (λ (s : PeerState). bodies_left row.held (Some target) (Some s)) (unknown_is state unknown) in
      let less = lacks_less row.held [] row.held (known_of_report head) target (none_known_lacks row.held (known_of_report head)) in
      omega (arith, same, low, less)

  told : (file : FileId) (epoch : Epoch) (head : FileHead) (state : PeerState) (p : Progress) → t.progress ≡ p → peer_in t.peers from ≡ Some state → is_unknown state ≡ true → Owes (payload.Status file epoch head) (take_status (ground place row body) learnt t p from head)
  told file epoch head state progress.Gathering is found unknown =
      counting place row its body learnt (with_state t from (peer.Reported head)) t _ (limit (payload.Status file epoch head)) is is
      (ap are_distinct (put_nodes t.peers from (peer.Reported head)) ∙ apart) head_stands (stands_reported place.node row.head t from head state found stands) (some (payload.Status file epoch head))
      (λ own. let mine = own.0 in (head, put_same t.peers place.node from (peer.Reported head) state (same_number from place.node mine) (mine_in state found mine), omega arith))
  told file epoch head state (progress.Fetching chosen source asked later) is found unknown =
      rests place.node row learnt t (with_state t from (peer.Reported head)) _ (limit (payload.Status file epoch head)) refl head_stands (stands_reported place.node row.head t from head state found stands) (some (payload.Status file epoch head))
  told file epoch head state (progress.Installing chosen acked) is found unknown =
      feeding place row its body learnt t (progress.Installing chosen acked) (target_of row.head t.epoch chosen) from state (known_of_report head) _ (limit (payload.Status file epoch head)) is refl found head_stands stands (some (payload.Status file epoch head))
      (λ own r low more. let mine = own.0 in status_fed file epoch head (target_of row.head t.epoch chosen) state (progress.Installing chosen acked) is refl found unknown mine r low)
  told file epoch head state (progress.Active committed issued) is found unknown =
      feeding place row its body learnt t (progress.Active committed issued) row.head from state (known_of_report head) _ (limit (payload.Status file epoch head)) is refl found head_stands stands (some (payload.Status file epoch head))
      (λ own r low more. let mine = own.0 in status_fed file epoch head row.head state (progress.Active committed issued) is refl found unknown mine r low)

  status_heard : (file : FileId) (epoch : Epoch) (head : FileHead) (state : PeerState) → peer_in t.peers from ≡ Some state → Owes (payload.Status file epoch head) (hears_status (ground place row body) learnt t from state head)
  status_heard file epoch head state found = either (is_unknown state) _ _ (λ unknown. told file epoch head state t.progress refl found unknown) (λ known. still (payload.Status file epoch head))

  -- ---- bodies

  object_heard : (file : FileId) (epoch : Epoch) (object : ℕ) (version : Stamp) (bytes : List ℕ) (p : Progress) → t.progress ≡ p → Heard (payload.Object file epoch object version bytes)
      → Owes (payload.Object file epoch object version bytes) (hears_object (ground place row body) learnt t p from object version bytes)
  object_heard file epoch object version bytes (progress.Fetching chosen source asked later) is heard =
      either (from.0 == source.0 && is_version asked (body_of object version)) _ _
      (λ asked_for. fetching place row its (body_beyond place.file (stage_record place.file row.held object version bytes) body) learnt t chosen source later (stage_record place.file row.held object version bytes) (Some t) _
      (limit (payload.Object file epoch object version bytes)) (staged_head row place.file object version bytes) apart head_stands stands.promised parts.0 parts.1 (λ own. absurd (heard own.0)))
      (λ other. still (payload.Object file epoch object version bytes))
    where
      parts : IsUnfed (peer_in t.peers place.node) × ((source.0 == place.node.0) ≡ false)
      parts = subst (ProgressStands place.node row.head t) is stands.progress
  object_heard file epoch object version bytes _ is heard = still (payload.Object file epoch object version bytes)

  -- a body that the own node holds, or lacks
  staged_room : (file : FileId) (epoch : Epoch) (object : ℕ) (version : Stamp) (known : List ObjectVersion) (target : FileHead) (state : PeerState)
      → (bodies_left row.held (target_in row.head t.epoch t.progress) (peer_in t.peers place.node) ≡ bodies_to row.held known target)
      → (is_wanted (target_in row.head t.epoch t.progress) (peer_in t.peers place.node) (body_of object version) ≡ (has_version target.versions (body_of object version) && not (has_version known (body_of object version))))
      → (has_version target.versions (body_of object version) ≡ true → has_version row.held (body_of object version) ≡ true) → (r : ℕ) → r ≤ 4 + bodies_to row.held (with_held known (body_of object version)) target
      → epoch_left row (Some t) + r + 1 ≤ limit (payload.Staged file epoch object version)
  staged_room file epoch object version known target state same want here r low =
      let less = staged_less row.held known (body_of object version) target here in
      let cost : unless (is_wanted (target_in row.head t.epoch t.progress) (peer_in t.peers place.node) (body_of object version)) ≡ unless (has_version target.versions (body_of object version) && not (has_version known (body_of object version))) = ap unless want in
      omega (arith, less, cost, same, low)

  wanted_is : (target : FileHead) (state : PeerState) (v : ObjectVersion) → target_in row.head t.epoch t.progress ≡ Some target → peer_in t.peers place.node ≡ Some state
      → is_wanted (target_in row.head t.epoch t.progress) (peer_in t.peers place.node) v ≡ is_wanted (Some target) (Some state) v
  wanted_is target state v to found = ap (λ (o : Option FileHead). is_wanted o (peer_in t.peers place.node) v) to ∙ ap (λ (o : Option PeerState). is_wanted (Some target) o v) found

  staged_heard : (file : FileId) (epoch : Epoch) (object : ℕ) (version : Stamp) (o : Option FileHead) (state : PeerState) → target_in row.head t.epoch t.progress ≡ o → peer_in t.peers from ≡ Some state → Heard (payload.Staged file epoch object version)
      → Owes (payload.Staged file epoch object version) (body_staged (ground place row body) learnt t o from state (body_of object version))
  staged_heard file epoch object version (Some target) (peer.Feeding known o v b) to found heard =
      feeding place row its body learnt t t.progress target from (peer.Feeding known o v b) (with_held known (body_of object version)) _ (limit (payload.Staged file epoch object version)) refl to found head_stands stands (some (payload.Staged file epoch object version))
      (λ own r low more. let mine = own.0 in staged_room file epoch object version known target (peer.Feeding known o v b) (bodies_are target (peer.Feeding known o v b) to (mine_in (peer.Feeding known o v b) found mine))
      (wanted_is target (peer.Feeding known o v b) (body_of object version) to (mine_in (peer.Feeding known o v b) found mine)) (own.1 t target refl to) r low)
  staged_heard file epoch object version (Some target) (peer.Heading known head) to found heard =
      feeding place row its body learnt t t.progress target from (peer.Heading known head) (with_held known (body_of object version)) _ (limit (payload.Staged file epoch object version)) refl to found head_stands stands (some (payload.Staged file epoch object version))
      (λ own r low more. let mine = own.0 in staged_room file epoch object version known target (peer.Heading known head) (bodies_are target (peer.Heading known head) to (mine_in (peer.Heading known head) found mine))
      (wanted_is target (peer.Heading known head) (body_of object version) to (mine_in (peer.Heading known head) found mine)) (own.1 t target refl to) r low)
  staged_heard file epoch object version _ _ to found heard = still (payload.Staged file epoch object version)

  missed_room : (file : FileId) (epoch : Epoch) (object : ℕ) (version : Stamp) (known : List ObjectVersion) (head target : FileHead) → target_in row.head t.epoch t.progress ≡ Some target → peer_in t.peers place.node ≡ Some (peer.Heading known head)
      → has_version row.held (body_of object version) ≡ false → (r : ℕ) → r ≤ 4 + bodies_to row.held (without_version known (body_of object version)) target
      → ((v : ObjectVersion) → has_version target.versions v ≡ true → has_version (without_version known (body_of object version)) v ≡ false → r ≤ 2 + bodies_to row.held (without_version known (body_of object version)) target)
      → epoch_left row (Some t) + r + 1 ≤ limit (payload.Missing file epoch object version)
  missed_room file epoch object version known head target to found lacks r low more = at (has_version target.versions (body_of object version)) refl
    where
      v : ObjectVersion
      v = body_of object version

      cost : are_named (target_in row.head t.epoch t.progress) (body_of object version ∷ []) ≡ has_version target.versions (body_of object version)
      cost = ap (λ (o : Option FileHead). are_named o (body_of object version ∷ [])) to ∙ named_one target (body_of object version)

      same : bodies_left row.held (target_in row.head t.epoch t.progress) (peer_in t.peers place.node) ≡ bodies_to row.held known target
      same = bodies_are target (peer.Heading known head) to found

      at : (b : Bool) → has_version target.versions (body_of object version) ≡ b → epoch_left row (Some t) + r + 1 ≤ limit (payload.Missing file epoch object version)
      at true named =
          let less = missed_less row.held known (body_of object version) target lacks in
          let few = more (body_of object version) named (unknown_now known (body_of object version)) in
          let left = same in
          omega (arith, less, few, left)
      at false unnamed =
          let less = missed_less row.held known (body_of object version) target lacks in
          let price : unless (are_named (target_in row.head t.epoch t.progress) (body_of object version ∷ [])) ≡ 4 = ap unless (cost ∙ unnamed) in
          let left = same in
          omega (arith, less, low, price, left)

  missed_heard : (file : FileId) (epoch : Epoch) (object : ℕ) (version : Stamp) (o : Option FileHead) (state : PeerState) → target_in row.head t.epoch t.progress ≡ o → peer_in t.peers from ≡ Some state → Heard (payload.Missing file epoch object version)
      → Owes (payload.Missing file epoch object version) (body_missed (ground place row body) learnt t o from state (body_of object version))
  missed_heard file epoch object version (Some target) (peer.Heading known head) to found heard =
      feeding place row its body learnt t t.progress target from (peer.Heading known head) (without_version known (body_of object version)) _ (limit (payload.Missing file epoch object version)) refl to found head_stands stands (some (payload.Missing file epoch object version))
      (λ own r low more. let mine = own.0 in missed_room file epoch object version known head target to (mine_in (peer.Heading known head) found mine) own.1 r low more)
  missed_heard file epoch object version _ _ to found heard = still (payload.Missing file epoch object version)

  missing_heard : (file : FileId) (epoch : Epoch) (object : ℕ) (version : Stamp) (p : Progress) (state : PeerState) → t.progress ≡ p → peer_in t.peers from ≡ Some state → Heard (payload.Missing file epoch object version)
      → Owes (payload.Missing file epoch object version) (hears_missing (ground place row body) learnt t p from state (body_of object version))
  missing_heard file epoch object version (progress.Fetching chosen source asked later) state is found heard =
      either (from.0 == source.0) _ _
      (λ same. draws place row its learnt (nodes_of t.peers) (Some t) _ (limit (payload.Missing file epoch object version)) apart head_stands
      (λ own. let mine = own.0 in absurd (false_true (sym (subst (ProgressStands place.node row.head t) is stands.progress).1 ∙ same_number source place.node (sym (eqb-true from.0 source.0 same) ∙ mine)))))
      (λ other. still (payload.Missing file epoch object version))
  missing_heard file epoch object version progress.Gathering state is found heard = missed_heard file epoch object version None state (ap (target_in row.head t.epoch) is) found heard
  missing_heard file epoch object version (progress.Installing chosen acked) state is found heard =
      missed_heard file epoch object version (Some (target_of row.head t.epoch chosen)) state (ap (target_in row.head t.epoch) is) found heard
  missing_heard file epoch object version (progress.Active committed issued) state is found heard = missed_heard file epoch object version (Some row.head) state (ap (target_in row.head t.epoch) is) found heard

  -- ---- acknowledgements

  -- the own node has the head that it acknowledges
  at_head : (file : FileId) (stamp : Stamp) → stamp.epoch ≡ t.epoch → Heard (payload.Ack file stamp) → from.0 ≡ place.node.0 → IsOfEpoch row.head t.epoch
  at_head file stamp same heard mine = subst (IsOfEpoch row.head) same (heard mine).1

  acked_at : (file : FileId) (stamp : Stamp) (chosen : FileHead) (acked : List NodeId) → t.progress ≡ progress.Installing chosen acked → stamp.epoch ≡ t.epoch → Heard (payload.Ack file stamp)
      → has_node (with_node acked from) place.node.0 ≡ true → IsOfEpoch row.head t.epoch
  acked_at file stamp chosen acked is same heard has = elim (acked_has acked from place.node has) [
    | inl mine ↦ at_head file stamp same heard mine
    | inr old ↦ (let installs : has_node acked place.node.0 ≡ true → IsOfEpoch row.head t.epoch = subst (ProgressStands place.node row.head t) is stands.progress in installs old)
  ]

  -- what an acknowledgement may bring about
  ack_is : (file : FileId) (stamp : Stamp) (b : Bool) → settles (issued_in t.progress) stamp ≡ b → limit (payload.Ack file stamp) ≡ epoch_left row (Some t) + three_if b
  ack_is file stamp b is = ap (λ (c : Bool). epoch_left row (Some t) + three_if c) is

  head_heard : (file : FileId) (stamp : Stamp) (chosen : FileHead) (acked : List NodeId) → t.progress ≡ progress.Installing chosen acked → stamp.epoch ≡ t.epoch → Heard (payload.Ack file stamp)
      → Owes (payload.Ack file stamp) (ack_head (ground place row body) learnt (with_state t from peer.Current) chosen (with_node acked from))
  head_heard file stamp chosen acked is same heard = either (carries place (with_state t from peer.Current).peers (with_node acked from)) _ _ (λ carried. active (and_parts _ _ carried).1) (λ waits. waiting)
    where
      waiting : Owes (payload.Ack file stamp) (unmoved learnt (record (with_state t from peer.Current) { progress = progress.Installing chosen (with_node acked from) }))
      waiting =
          record {
            head = head_stands;
            moves = moves_none row.head row.head refl;
            tenure = record { promised = stands.promised; progress = acked_at file stamp chosen acked is same heard };
            sent = None;
            outs = refl;
            stands = tt;
            leads = tt;
            about = tt;
            next = plain refl (λ own. some (payload.Ack file stamp));
          }

      bound : epoch_left row (Some t) + 3 ≤ limit (payload.Ack file stamp) + 2 * one_if (is_some (issued_in t.progress))
      bound = let all = ack_is file stamp false (ap (λ (p : Progress). settles (issued_in p) stamp) is) in omega (arith, all)

      active : has_node (with_node acked from) place.node.0 ≡ true → Owes (payload.Ack file stamp) (activated (ground place row body) learnt (with_state t from peer.Current))
      active has =
          record {
            head = head_stands;
            moves = moves_none row.head row.head refl;
            tenure = record { promised = stands.promised; progress = (λ now. (acked_at file stamp chosen acked is same heard has now, le_refl row.head.stamp.count), tt) };
            sent = None;
            outs = refl;
            stands = tt;
            leads = tt;
            about = tt;
            next = readied (ap (λ (p : Progress). not (is_ready_in p)) is) refl refl (λ own. bound);
          }

  below_heard : (file : FileId) (stamp : Stamp) (u : Tenure) (head : FileHead) (newly : Bool) (o : Option IssuedUpdate) → t.progress ≡ progress.Active head o → u.epoch ≡ t.epoch → u.progress ≡ t.progress → TenureStands place.node row.head u
      → Owes (payload.Ack file stamp) (acked_below (ground place row body) learnt u head from stamp newly o)
  below_heard file stamp u head newly None is epoch same now = rests place.node row learnt t u _ (limit (payload.Ack file stamp)) (ap is_ready_in same) head_stands now (some (payload.Ack file stamp))
  below_heard file stamp u head newly (Some issued) is epoch same now = either (not (is_below stamp issued.update.stamp)) _ _ settled (λ low. again newly low)
    where
      active : IsPast row.head t.epoch head × IsNext t.epoch head (Some issued)
      active = subst (ProgressStands place.node row.head t) is stands.progress

      epochs : epoch_left row (Some u) ≡ epoch_left row (Some t)
      epochs = ap (λ (e : Epoch). six_if (is_earlier e row.head.promised)) epoch

      promised : is_earlier row.head.promised u.epoch ≡ false
      promised = ap (is_earlier row.head.promised) epoch ∙ stands.promised

      settled : not (is_below stamp issued.update.stamp) ≡ true → Owes (payload.Ack file stamp) (ack_update (ground place row body) learnt u head issued.update (with_node issued.acked from))
      settled full = either (carries place u.peers (with_node issued.acked from)) _ _ (λ carried. commits) (λ waits. counts)
        where
          counts : Owes (payload.Ack file stamp) (unmoved learnt (record u { progress = progress.Active head (Some (record { update = issued.update; acked = with_node issued.acked from })) }))
          counts =
              record {
                head = head_stands;
                moves = moves_none row.head row.head refl;
                tenure = record {
                  promised = promised;
                  progress = (subst (λ (e : Epoch). IsPast row.head e head) (sym epoch) active.0, subst (λ (e : Epoch). issued.update.stamp ≡ record { epoch = e; count = head.stamp.count + 1 }) (sym epoch) active.1);
                };
                sent = None;
                outs = refl;
                stands = tt;
                leads = tt;
                about = tt;
                next = plain refl (λ own. some (payload.Ack file stamp));
              }

          bound : epoch_left row (Some u) + 3 ≤ limit (payload.Ack file stamp) + 2 * one_if (is_some (issued_in t.progress))
          bound =
              let all = ack_is file stamp true (ap (λ (p : Progress). settles (issued_in p) stamp) is ∙ full) in
              let one : one_if (is_some (issued_in t.progress)) ≡ 1 = ap (λ (p : Progress). one_if (is_some (issued_in p))) is in
              let here = epochs in
              omega (arith, all, one, here)

          client : IsApart place.node issued.update.id
          client = subst (ProgressIs (IsApart place.node)) is others

          commits : Owes (payload.Ack file stamp) (committed (ground place row body) learnt u issued.update)
          commits =
              record {
                head = head_stands;
                moves = moves_none row.head row.head refl;
                tenure = record { promised = promised; progress = (subst (λ (e : Epoch). IsPast row.head e row.head) (sym epoch) (λ when_so. ((active.0 when_so).0, le_refl row.head.stamp.count)), tt) };
                sent = None;
                outs =
                    let content = payload.Reply issued.update.id.number place.file (reply.Ok issued.update.stamp.count issued.update.mark []) in
                    mine-one place.node issued.update.id.client content ∙ ap (λ (b : Bool). token place.node (cond b (Some content) None)) client;
                stands = tt;
                leads = tt;
                about = tt;
                next = readied (ap (λ (p : Progress). not (is_ready_in p)) is) refl refl (λ own. bound);
              }

      again : (newly : Bool) → not (is_below stamp issued.update.stamp) ≡ false → Owes (payload.Ack file stamp) (cond newly (goes_on learnt u (sends (message place.node from (payload.Update place.file issued.update) ∷ []))) (unmoved learnt u))
      again false low = rests place.node row learnt t u _ (limit (payload.Ack file stamp)) (ap is_ready_in same) head_stands now (some (payload.Ack file stamp))
      again true low = at (from.0 == place.node.0) refl
        where
          bound : (b : Bool) → left place.node (cond b (Some (payload.Update place.file issued.update)) None) row (Some u) + 1 ≤ limit (payload.Ack file stamp)
          bound false = some (payload.Ack file stamp)
          bound true =
              let all = ack_is file stamp false (ap (λ (p : Progress). settles (issued_in p) stamp) is ∙ low) in
              let two : four_if (settles (issued_in u.progress) issued.update.stamp) ≡ 2
              = ap (λ (p : Progress). four_if (settles (issued_in p) issued.update.stamp)) (same ∙ is) ∙ ap (λ (b : Bool). four_if (not b)) (not_below_self issued.update.stamp) in
              let here = epochs in
              omega (arith, all, two, here)

          stands_if : (b : Bool) → IfMessage row (cond b (Some (payload.Update place.file issued.update)) None)
          stands_if true = (next_stands place.node row t place.file head issued is stands, tt)
          stands_if false = tt

          leads_if : (b : Bool) → IfLeads (cond b (Some (payload.Update place.file issued.update)) None) (Some u)
          leads_if true = refl
          leads_if false = tt

          about_if : (b : Bool) → IfAbout row.file (cond b (Some (payload.Update place.file issued.update)) None)
          about_if true = ap (λ (f : FileId). Some f) its
          about_if false = tt

          at : (b : Bool) → (from.0 == place.node.0) ≡ b → Owes (payload.Ack file stamp) (goes_on learnt u (sends (message place.node from (payload.Update place.file issued.update) ∷ [])))
          at b which =
              record {
                head = head_stands;
                moves = moves_none row.head row.head refl;
                tenure = now;
                sent = cond b (Some (payload.Update place.file issued.update)) None;
                outs = mine-one place.node from (payload.Update place.file issued.update) ∙ ap (λ (c : Bool). token place.node (cond c (Some (payload.Update place.file issued.update)) None)) which;
                stands = stands_if b;
                leads = leads_if b;
                about = about_if b;
                next = plain (ap (λ (p : Progress). is_ready_in p && not (is_ready_in t.progress)) same ∙ not_new (is_ready_in t.progress)) (λ own. bound b);
              }

  ack_heard : (file : FileId) (stamp : Stamp) (p : Progress) (newly : Bool) (state : PeerState) → t.progress ≡ p → peer_in t.peers from ≡ Some state → stamp.epoch ≡ t.epoch → Heard (payload.Ack file stamp)
      → Owes (payload.Ack file stamp) (hears_ack (ground place row body) learnt t p from newly stamp)
  ack_heard file stamp (progress.Installing chosen acked) newly state is found same heard = either newly _ _ (λ now. head_heard file stamp chosen acked is same heard) (λ not_so. still (payload.Ack file stamp))
  ack_heard file stamp (progress.Active head issued) newly state is found same heard = at newly
    where
      at : (b : Bool) → Owes (payload.Ack file stamp) (acked_below (ground place row body) learnt (cond b (with_state t from peer.Current) t) head from stamp b issued)
      at true = below_heard file stamp (with_state t from peer.Current) head true issued is refl refl (stands_with place.node row.head row.head t from peer.Current (progress.Active head issued) is refl stands)
      at false = below_heard file stamp t head false issued is refl refl stands
  ack_heard file stamp progress.Gathering newly state is found same heard = still (payload.Ack file stamp)
  ack_heard file stamp (progress.Fetching chosen source asked later) newly state is found same heard = still (payload.Ack file stamp)

  -- ---- behind and outpromised

  behind_heard : (file : FileId) (epoch : Epoch) (stamp : Stamp) (state : PeerState) → Heard (payload.Behind file epoch stamp) → Owes (payload.Behind file epoch stamp) (peer_behind (ground place row body) learnt t from state)
  behind_heard file epoch stamp state heard = at (from.0 == place.node.0) refl
    where
      at : (b : Bool) → (from.0 == place.node.0) ≡ b → Owes (payload.Behind file epoch stamp) (peer_behind (ground place row body) learnt t from state)
      at true mine = absurd (heard (eqb-true from.0 place.node.0 mine))
      at false apart_now =
          record {
            head = head_stands;
            moves = moves_none row.head row.head refl;
            tenure = stands_other place.node row.head t from (forgotten state) apart_now stands;
            sent = None;
            outs = mine-one place.node from (payload.Gather place.file t.epoch) ∙ ap (λ (b : Bool). token place.node (cond b (Some (payload.Gather place.file t.epoch)) None)) apart_now;
            stands = tt;
            leads = tt;
            about = tt;
            next = plain (not_new (is_ready_in t.progress)) (λ own. some (payload.Behind file epoch stamp));
          }

  refused_heard : (file : FileId) (epoch promised : Epoch) → Heard (payload.Refused file epoch promised) → Owes (payload.Refused file epoch promised) (outpromised (ground place row body) learnt t promised)
  refused_heard file epoch promised heard =
      either (is_earlier t.epoch promised) _ _ (λ later. draws place row its (max learnt promised.number) (nodes_of t.peers) (Some t) _ (limit (payload.Refused file epoch promised)) apart head_stands (λ own. let mine = own.0 in enough (heard mine) later))
      (λ other. still (payload.Refused file epoch promised))
    where
      enough : is_earlier row.head.promised promised ≡ false → is_earlier t.epoch promised ≡ true → 7 ≤ limit (payload.Refused file epoch promised)
      enough within later =
          let passed : epoch_left row (Some t) ≡ 6 = ap six_if (before_up_to t.epoch promised row.head.promised later within) in
          omega (arith, passed)

  -- ---- any message

  same_epoch : (file : FileId) (stamp : Stamp) (e : Epoch) → message_epoch (payload.Ack file stamp) ≡ Some e → is_epoch e t.epoch ≡ true → stamp.epoch ≡ t.epoch
  same_epoch file stamp e told is = (let its : stamp.epoch ≡ e = cc in its ∙ same_is e t.epoch is)

  peer_heard : (content : Payload) (e : Epoch) (state : PeerState) → message_epoch content ≡ Some e → is_epoch e t.epoch ≡ true → peer_in t.peers from ≡ Some state → Heard content
      → Owes content (hears_peer (ground place row body) learnt t from state content)
  peer_heard (payload.Status file epoch head) e state told is found heard = status_heard file epoch head state found
  peer_heard (payload.Object file epoch object version bytes) e state told is found heard = object_heard file epoch object version bytes t.progress refl heard
  peer_heard (payload.Staged file epoch object version) e state told is found heard = staged_heard file epoch object version (target_in row.head t.epoch t.progress) state refl found heard
  peer_heard (payload.Missing file epoch object version) e state told is found heard = missing_heard file epoch object version t.progress state refl found heard
  peer_heard (payload.Ack file stamp) e state told is found heard = ack_heard file stamp t.progress (makes_current place from state stamp) state refl found (same_epoch file stamp e told is) heard
  peer_heard (payload.Behind file epoch stamp) e state told is found heard = behind_heard file epoch stamp state heard
  peer_heard (payload.Refused file epoch promised) e state told is found heard = refused_heard file epoch promised heard
  peer_heard content e state told is found heard = still content

  member_heard : (content : Payload) (e : Epoch) (o : Option PeerState) → message_epoch content ≡ Some e → is_epoch e t.epoch ≡ true → peer_in t.peers from ≡ o → Heard content
      → Owes content (hears_member (ground place row body) learnt t from o content)
  member_heard content e None told is found heard = still content
  member_heard content e (Some state) told is found heard = peer_heard content e state told is found heard

  -- Any message to a primary in a tenure.
  pub epoch_heard : (content : Payload) (o : Option Epoch) → message_epoch content ≡ o → Heard content → Owes content (hears_epoch (ground place row body) learnt t from o content)
  epoch_heard content None told heard = still content
  epoch_heard content (Some e) told heard = either (is_epoch e t.epoch) _ _ (λ is. member_heard content e (peer_in t.peers from) told is refl heard) (λ other. still content)
