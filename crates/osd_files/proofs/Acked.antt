-- a primary that hears a message counts each member at most once
use Rattle.std.proofs.Common.{◌≡◌, ◌∙◌, ℕ, suc, refl, ap, sym, subst, List, [], ◌∷◌, ◌++◌, Bool, true, false, Option, Some, None, Result, Ok, Err, arith, ◌≤◌, cond, length-append, true≢false}
use Rattle.std.specs.Prelude.{count_by, IfOk, OnErr, max, nat_lt, nat_le, not, ◌&&◌, ◌||◌, ◌==◌}
use Rattle.std.proofs.lemmas.Bool.Decides.{nat_tests}
use Rattle.std.proofs.lemmas.List.Folds.{list_any-append}
use Rattle.std.proofs.lemmas.List.Sums.{sum_by-cons}
use Rattle.xt_base.specs.MemberList.{has_node}
use Rattle.xt_base.specs.declared.ids.NodeId.{NodeId}
use Rattle.xt_base.specs.declared.ids.Epoch.{Epoch}
use Rattle.xt_base.specs.declared.ids.Stamp.{Stamp}
use Rattle.xt_messages.specs.declared.file.ObjectVersion.{ObjectVersion}
use Rattle.xt_messages.specs.declared.file.FileHead.{FileHead}
use Rattle.xt_messages.specs.declared.file.Update.{Update}
use Rattle.xt_messages.specs.declared.message.Payload.{Payload}
use Rattle.xt_messages.specs.declared.message.Payload.TheVariants as payload
use Rattle.xt_base.specs.declared.TheConstants.{COUNTS}
use Rattle.xt_protocol.specs.Folds.{body_of}
use Rattle.xt_protocol.specs.Stamps.{is_epoch, is_earlier, is_below, is_version}
use Rattle.xt_protocol.specs.declared.states.Place.{Place}
use Rattle.xt_protocol.specs.declared.states.IssuedUpdate.{IssuedUpdate}
use Rattle.xt_protocol.specs.declared.states.Peer.{Peer}
use Rattle.xt_protocol.specs.declared.states.PeerState.{PeerState}
use Rattle.xt_protocol.specs.declared.states.PeerState.TheVariants as peer
use Rattle.xt_protocol.specs.declared.states.PrimaryState.{PrimaryState}
use Rattle.xt_protocol.specs.declared.states.Progress.{Progress}
use Rattle.xt_protocol.specs.declared.states.Progress.TheVariants as progress
use Rattle.xt_protocol.specs.declared.states.Tenure.{Tenure}
use Rattle.xt_protocol.specs.ReplicaRows.{stage_record}
use Rattle.xt_protocol.specs.Primaries.{Ground, Led, carries, idle, is_unknown, majority_among, nodes_of, peer_in, reports_of, statuses_counted, with_node}
use Rattle.xt_protocol.specs.PrimaryRows.{draw_epoch, epoch_above, message_epoch, fetches, choose_head, chooses, status_counted, take_status, with_state, body_beyond, hears_object, body_staged, body_missed, hears_missing, target_in, ack_update, acked_below, hears_ack, makes_current, hears_peer, hears_member, hears_epoch, hears_in, hears}
use Rattle.xt_protocol.specs.declared.turned.Turned.{Turned}
use Rattle.replica_primary.specs.PrimaryViews.{PrimaryView}
use Rattle.osd_invariants.specs.Sound.{PeersAre}
use Rattle.osd_invariants.proofs.Leads.{epoch_leads}
use Rattle.osd_files.specs.Counts.{AreAcked, IsCounted, ProgressIsAcked}

-- One member more has acknowledged.

true_false : {A : Type 0} {b : Bool} → b ≡ true → b ≡ false → A
true_false p q = absurd (true≢false (sym p ∙ q))

more_pass : (p q : NodeId → Bool) → ((m : NodeId) → p m ≡ true → q m ≡ true) → (ms : List NodeId) → count_by p ms ≤ count_by q ms
more_pass p q f [] = omega arith
more_pass p q f (m ∷ ms) = go (p m) refl (q m) refl (more_pass p q f ms)
  where
    go : (a : Bool) → p m ≡ a → (b : Bool) → q m ≡ b → count_by p ms ≤ count_by q ms → count_by p (m ∷ ms) ≤ count_by q (m ∷ ms)
    go true e true d rest = grind (arith, nat_tests, sum_by-cons (λ x. cond (p x) 1 0) m ms, sum_by-cons (λ x. cond (q x) 1 0) m ms)
    go true e false d rest = true_false (f m e) d
    go false e b d rest = grind (arith, nat_tests, sum_by-cons (λ x. cond (p x) 1 0) m ms, sum_by-cons (λ x. cond (q x) 1 0) m ms)

one_more : (p q : NodeId → Bool) (k : ℕ) → ((m : NodeId) → p m ≡ true → q m ≡ true) → ((m : NodeId) → (m.0 == k) ≡ true → (p m ≡ false) × (q m ≡ true))
    → (ms : List NodeId) → has_node ms k ≡ true → suc (count_by p ms) ≤ count_by q ms
one_more p q k f new [] is = absurd cc
one_more p q k f new (m ∷ ms) is = by (one_more p q k f new ms) (m.0 == k) refl is
  where
    by : (has_node ms k ≡ true → suc (count_by p ms) ≤ count_by q ms) → (b : Bool) → (m.0 == k) ≡ b → (b || has_node ms k) ≡ true → suc (count_by p (m ∷ ms)) ≤ count_by q (m ∷ ms)
    by later true e h =
        let before : p m ≡ false = (new m e).0 in
        let after : q m ≡ true = (new m e).1 in
        let rest = more_pass p q f ms in
        grind (arith, nat_tests, sum_by-cons (λ x. cond (p x) 1 0) m ms, sum_by-cons (λ x. cond (q x) 1 0) m ms)
    by later false e h = go (p m) refl (q m) refl (later h)
      where
        go : (c : Bool) → p m ≡ c → (d : Bool) → q m ≡ d → suc (count_by p ms) ≤ count_by q ms → suc (count_by p (m ∷ ms)) ≤ count_by q (m ∷ ms)
        go true e true d rest = grind (arith, nat_tests, sum_by-cons (λ x. cond (p x) 1 0) m ms, sum_by-cons (λ x. cond (q x) 1 0) m ms)
        go true e false d rest = true_false (f m e) d
        go false e c d rest = grind (arith, nat_tests, sum_by-cons (λ x. cond (p x) 1 0) m ms, sum_by-cons (λ x. cond (q x) 1 0) m ms)

or_last : (b c : Bool) → c ≡ true → (b || (c || false)) ≡ true
or_last true c is = refl
or_last false true is = refl
or_last false false is = absurd cc

number_of : (a b : ℕ) → (a == b) ≡ true → a ≡ b
number_of a b is = grind (arith, nat_tests)

same_number : (a : ℕ) → (a == a) ≡ true
same_number a = grind (arith, nat_tests)

acked_once_more : (members acked : List NodeId) (node : NodeId) → has_node members node.0 ≡ true → AreAcked members acked → AreAcked members (with_node acked node)
acked_once_more members acked node is are = by (has_node acked node.0) refl
  where
    in_both : (m : ℕ) → has_node (acked ++ node ∷ []) m ≡ (has_node acked m || ((node.0 == m) || false))
    in_both m = list_any-append (λ (k : NodeId). k.0 == m) acked (node ∷ [])

    still : (m : NodeId) → has_node acked m.0 ≡ true → has_node (acked ++ node ∷ []) m.0 ≡ true
    still m has = in_both m.0 ∙ ap (λ b. b || ((node.0 == m.0) || false)) has

    by : (b : Bool) → has_node acked node.0 ≡ b → AreAcked members (cond b acked (acked ++ node ∷ []))
    by true has = are
    by false has =
        let new : (m : NodeId) → (m.0 == node.0) ≡ true → (has_node acked m.0 ≡ false) × (has_node (acked ++ node ∷ []) m.0 ≡ true) = λ m e.
        let same = number_of m.0 node.0 e in
        (ap (has_node acked) same ∙ has, in_both m.0 ∙ or_last (has_node acked m.0) (node.0 == m.0) (ap (λ (n : ℕ). node.0 == n) same ∙ same_number node.0))
        in
        let above = one_more (λ m. has_node acked m.0) (λ m. has_node (acked ++ node ∷ []) m.0) node.0 still new members is in
        omega (arith, above, are, length-append acked (node ∷ []))

-- a peer is one of the nodes
there : (peers : List Peer) (node : NodeId) (state : PeerState) → peer_in peers node ≡ Some state → has_node (nodes_of peers) node.0 ≡ true
unfolding peer_in
there [] node state is = absurd cc
there (p ∷ ps) node state is = by (there ps node state) (p.node.0 == node.0) is
  where
    by : (peer_in ps node ≡ Some state → has_node (nodes_of ps) node.0 ≡ true) → (b : Bool) → cond b (Some p.state) (peer_in ps node) ≡ Some state → (b || has_node (nodes_of ps) node.0) ≡ true
    by later true is = refl
    by later false is = later is

abbrev AckedUnder : List NodeId → Option Tenure → Type 0
AckedUnder members None = Unit {0}
AckedUnder members (Some t) = ProgressIsAcked members t.progress

abbrev LedAcked : List NodeId → Led → Type 0
LedAcked members led = AckedUnder members led.primary.tenure

module _ (members : List NodeId) where
  none_acked : AreAcked members []
  none_acked = omega arith

  either : (b : Bool) (x y : Led) → LedAcked members x → LedAcked members y → LedAcked members (cond b x y)
  either true x y l r = l
  either false x y l r = r

  drawn : (place : Place) (learnt : ℕ) (own : FileHead) (nodes : List NodeId) → LedAcked members (draw_epoch place learnt own nodes)
  unfolding draw_epoch
  drawn place learnt own nodes = either (nat_lt (epoch_above place learnt own).number COUNTS) _ _ tt tt

  module _ (g : Ground) (learnt : ℕ) where
    fetched : (h : Ground) (t : Tenure) (chosen : FileHead) (source : NodeId) (wanted : List ObjectVersion) → LedAcked members (fetches h learnt t chosen source wanted)
    fetched h t chosen source [] = none_acked
    fetched h t chosen source (v ∷ later) = tt

    chose : (t : Tenure) → ProgressIsAcked members t.progress → (reports : List (NodeId × FileHead)) → LedAcked members (chooses g learnt t reports)
    chose t r [] = r
    chose t r (first ∷ others) = chosen _
      where
        chosen : (best : NodeId × FileHead) → LedAcked members (choose_head g learnt t best)
        chosen best = either (best.0.0 == g.place.node.0) _ _ none_acked (fetched g t best.1 best.0 _)

    counted : (t : Tenure) → ProgressIsAcked members t.progress → LedAcked members (status_counted g learnt t)
    counted t r = either (nat_le (majority_among t.peers) (statuses_counted t.peers)) _ _ (chose t r (reports_of t.peers)) r

    told : (t : Tenure) → ProgressIsAcked members t.progress → (p : Progress) (from : NodeId) (head : FileHead) → LedAcked members (take_status g learnt t p from head)
    told t r progress.Gathering from head = counted (with_state t from (peer.Reported head)) r
    told t r (progress.Fetching chosen source asked later) from head = r
    told t r (progress.Installing chosen acked) from head = r
    told t r (progress.Active committed issued) from head = r

    object : (t : Tenure) → ProgressIsAcked members t.progress → (p : Progress) (from : NodeId) (number : ℕ) (version : Stamp) (bytes : List ℕ) → LedAcked members (hears_object g learnt t p from number version bytes)
    object t r (progress.Fetching chosen source asked later) from number version bytes =
        either (from.0 == source.0 && is_version asked (body_of number version)) _ _ (fetched (record g { body = body_beyond g.place.file (stage_record g.place.file g.held number version bytes) g.body }) t chosen source later) r
    object t r progress.Gathering from number version bytes = r
    object t r (progress.Installing chosen acked) from number version bytes = r
    object t r (progress.Active committed issued) from number version bytes = r

    staged : (t : Tenure) → ProgressIsAcked members t.progress → (target : Option FileHead) (from : NodeId) (state : PeerState) (v : ObjectVersion) → LedAcked members (body_staged g learnt t target from state v)
    staged t r (Some target) from (peer.Feeding known number version body) v = r
    staged t r (Some target) from (peer.Heading known head) v = r
    staged t r _ from _ v = r

    missed : (t : Tenure) → ProgressIsAcked members t.progress → (target : Option FileHead) (from : NodeId) (state : PeerState) (v : ObjectVersion) → LedAcked members (body_missed g learnt t target from state v)
    missed t r (Some target) from (peer.Heading known head) v = r
    missed t r _ from _ v = r

    missing : (t : Tenure) → ProgressIsAcked members t.progress → (p : Progress) (from : NodeId) (state : PeerState) (v : ObjectVersion) → LedAcked members (hears_missing g learnt t p from state v)
    missing t r (progress.Fetching chosen source asked later) from state v = either (from.0 == source.0) _ _ (drawn g.place learnt g.own (nodes_of t.peers)) r
    missing t r p from state v = missed t r (target_in g.own t.epoch p) from state v

    updated : (t : Tenure) (head : FileHead) (update : Update) (acked : List NodeId) → AreAcked members acked → LedAcked members (ack_update g learnt t head update acked)
    updated t head update acked are = either (carries g.place t.peers acked) _ _ tt are

    module _ (from : NodeId) (is : has_node members from.0 ≡ true) where
      below : (t : Tenure) → ProgressIsAcked members t.progress → (head : FileHead) (stamp : Stamp) (newly : Bool) (issued : Option IssuedUpdate) → ProgressIsAcked members (progress.Active head issued)
          → LedAcked members (acked_below g learnt t head from stamp newly issued)
      below t rt head stamp newly None r = rt
      below t rt head stamp newly (Some issued) r =
          either (not (is_below stamp issued.update.stamp)) _ _ (updated t head issued.update (with_node issued.acked from) (acked_once_more members issued.acked from is r))
          (either newly _ _ rt rt)

      acked : (t : Tenure) → ProgressIsAcked members t.progress → (p : Progress) → ProgressIsAcked members p → (newly : Bool) (stamp : Stamp) → LedAcked members (hears_ack g learnt t p from newly stamp)
      acked t rt (progress.Installing chosen nodes) r true stamp =
          either (carries g.place (with_state t from peer.Current).peers (with_node nodes from)) _ _ tt (acked_once_more members nodes from is r)
      acked t rt (progress.Installing chosen nodes) r false stamp = rt
      acked t rt (progress.Active head issued) r true stamp = below (with_state t from peer.Current) rt head stamp true issued r
      acked t rt (progress.Active head issued) r false stamp = below t rt head stamp false issued r
      acked t rt progress.Gathering r newly stamp = rt
      acked t rt (progress.Fetching chosen source asked later) r newly stamp = rt

      heard : (t : Tenure) → ProgressIsAcked members t.progress → (state : PeerState) (content : Payload) → LedAcked members (hears_peer g learnt t from state content)
      heard t r state (payload.Status file epoch head) = either (is_unknown state) _ _ (told t r t.progress from head) r
      heard t r state (payload.Object file epoch number version bytes) = object t r t.progress from number version bytes
      heard t r state (payload.Staged file epoch number version) = staged t r (target_in g.own t.epoch t.progress) from state (body_of number version)
      heard t r state (payload.Missing file epoch number version) = missing t r t.progress from state (body_of number version)
      heard t r state (payload.Ack file stamp) = acked t r t.progress r (makes_current g.place from state stamp) stamp
      heard t r state (payload.Behind file epoch stamp) = r
      heard t r state (payload.Refused file epoch promised) =
          either (is_earlier t.epoch promised) _ _ (drawn g.place (max learnt promised.number) g.own (nodes_of t.peers)) r
      heard t r state _ = r

    of_member : (t : Tenure) → nodes_of t.peers ≡ members → ProgressIsAcked members t.progress → (from : NodeId) (o : Option PeerState) → peer_in t.peers from ≡ o → (content : Payload)
        → LedAcked members (hears_member g learnt t from o content)
    of_member t nodes r from None is content = r
    of_member t nodes r from (Some state) is content =
        heard from (ap (λ (ns : List NodeId). has_node ns from.0) (sym nodes) ∙ there t.peers from state is) t r state content

    of_epoch : (t : Tenure) → nodes_of t.peers ≡ members → ProgressIsAcked members t.progress → (from : NodeId) (epoch : Option Epoch) (content : Payload) → LedAcked members (hears_epoch g learnt t from epoch content)
    of_epoch t nodes r from None content = r
    of_epoch t nodes r from (Some epoch) content = either (is_epoch epoch t.epoch) _ _ (of_member t nodes r from (peer_in t.peers from) refl content) r

both : (members : List NodeId) (tenure : Option Tenure) → PeersAre members tenure → AckedUnder members tenure → IsCounted members tenure
both members None peers heard = tt
both members (Some t) peers heard = (peers, heard)

heard_in : (members : List NodeId) (g : Ground) (learnt : ℕ) (tenure : Option Tenure) (from : NodeId) (content : Payload) → IsCounted members tenure
    → IsCounted members (hears_in g learnt tenure from content).primary.tenure
heard_in members g learnt None from content counted = tt
heard_in members g learnt (Some t) from content counted =
    both members _ (epoch_leads members g learnt t from (message_epoch content) content counted.0).peers (of_epoch members g learnt t counted.0 counted.1 from (message_epoch content) content)

-- After a message the peers are the members, and each member has acknowledged at most once.
pub hears_counted : (members : List NodeId) (g : Ground) (p : PrimaryState) (from : NodeId) (content : Payload) → IsCounted members p.tenure
    → IsCounted members (hears g p from content).primary.tenure
unfolding hears
hears_counted members g p from content counted = heard_in members g p.learnt p.tenure from content counted

-- what is as it was after an error, or idle
pub failed : {V : Type 0} (P : V → Type 0) (old ended new : V) (light : Bool) → (light ≡ false → new ≡ ended) → (light ≡ true → new ≡ old) → P old → P ended → P new
failed P old ended new true idled same kept gone = subst P (sym (same refl)) kept
failed P old ended new false idled same kept gone = subst P (sym (idled refl)) gone

-- a primary that got a message, whatever came of it
pub take_counted : {E : Type 0} (members : List NodeId) (g : Ground) (old new : PrimaryView) (from : NodeId) (content : Payload) (light : Bool) (r : Result Turned E)
    → IsCounted members old.state.tenure
    → IfOk r (λ led. new ≡ record old { state = (hears g old.state from content).primary }) → OnErr r (light ≡ false → new ≡ record old { state = idle old.state }) → OnErr r (light ≡ true → new ≡ old)
    → IsCounted members new.state.tenure
take_counted members g old new from content light (Ok led) counted state idled same =
    subst (λ (v : PrimaryView). IsCounted members v.state.tenure) (sym state) (hears_counted members g old.state from content counted)
take_counted members g old new from content light (Err e) counted state idled same =
    failed (λ (v : PrimaryView). IsCounted members v.state.tenure) old (record old { state = idle old.state }) new light idled same counted tt

-- a call that changes the state alone
pub place_taken : {A E : Type 0} (old new : PrimaryView) (state : PrimaryState) (place : Place) (light : Bool) (r : Result A E) → old.place ≡ place → IfOk r (λ a. new ≡ record old { state = state })
    → OnErr r (light ≡ false → new ≡ record old { state = idle old.state }) → OnErr r (light ≡ true → new ≡ old) → new.place ≡ place
place_taken old new state place light (Ok a) is kept idled same = ap (λ (v : PrimaryView). v.place) kept ∙ is
place_taken old new state place light (Err e) is kept idled same =
    failed (λ (v : PrimaryView). v.place ≡ place) old (record old { state = idle old.state }) new light idled same is is
