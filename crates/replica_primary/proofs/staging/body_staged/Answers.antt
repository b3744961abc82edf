use Rattle.std.proofs.Common.{◌∙◌, ℕ, List, None, Option, ap, refl, subst, sym, take}
use Rattle.std.specs.Prelude.{slice_get}
use Rattle.xt_messages.specs.declared.file.ObjectVersion.{ObjectVersion}
use Rattle.xt_messages.specs.declared.message.Payload.{Payload}
use Rattle.xt_protocol.specs.declared.states.Peer.{Peer}
use Rattle.xt_protocol.specs.declared.states.PeerState.{PeerState}
use Rattle.xt_protocol.specs.declared.states.PeerState.TheVariants as peer
use Rattle.xt_protocol.specs.declared.states.Tenure.{Tenure}
use Rattle.xt_protocol.specs.declared.turned.Turned.{Turned}
use Rattle.xt_protocol.specs.Primaries.{if_any, peer_in, with_peer}
use Rattle.xt_protocol.specs.ReplicaRows.{first_missing}
use Rattle.xt_protocol.specs.Stamps.{with_held}
use Rattle.xt_protocol.specs.Turns.{sends}
use Rattle.peer_searches.specs.declared.searches.Search.{Search}
use Rattle.peer_searches.specs.Sound.{AreSound, known_in, passed_at, with_search}
use Rattle.replica_primary.specs.Feeding.{head_of, of_own, with_known}
use Rattle.replica_primary.specs.Moves.{body_seen}
use Rattle.replica_primary.specs.Written.{ground}
use Rattle.replica_primary.proofs.Fed.{fed_by, known_staged, set_anew}
use Rattle.replica_primary.proofs.Sought.{begun, fed_sound, taken_sound}
use Rattle.replica_primary.proofs.Staged.{made_fed, sent_same}
use Rattle.replica_primary.proofs.staging.body_staged.Goals as goal

pub first_unknown_with-found-requires : goal.first_unknown_with-found-requires
first_unknown_with-found-requires g c =
    let own = c.args.own.now in
    let peers = c.args.tenure.now.peers in
    let from = c.args.from in
    let searches = c.args.searches.now in
    let to = c.in-Some.target in
    let before = c.in-Some-known_at.known.now in
    let known = with_held before c.args.version in
    let passed = passed_at searches from in
    ap (λ (vs : List ObjectVersion). first_missing known (take c.of_own-passed.result vs)) c.versions.ensures
    ∙ ap (λ (n : ℕ). first_missing known (take n (head_of to).versions)) (c.of_own-passed.ensures ∙ ap (of_own to) c.passed.ensures)
    ∙ begun to own peers searches from before known c.args.version passed c.in-Some.ensures.own (c.requires.passed from)
    (sym (ap (λ (ps : List Peer). known_in (peer_in ps from)) (sym c.as_slice.ensures) ∙ c.in-Some-known_at.ensures)) refl

pub returns-clause-value : goal.returns-clause-value
returns-clause-value g c =
    λ records agrees learnt held.
    let t = c.args.tenure.now in
    let from = c.args.from in
    let v = c.args.version in
    let place = c.args.place.now in
    let stands = ground place records c.args.own.now held in
    let head = head_of c.in-Some.target in
    let before = c.in-Some-known_at.known.now in
    let known = with_held before v in
    let was = sym (ap (λ (ps : List Peer). known_in (peer_in ps from)) (sym c.as_slice.ensures) ∙ c.in-Some-known_at.ensures) in
    let made = c.in_ok-state.field-0.state in
    let state = with_known made known in
    let sent : Option Payload → Turned = λ content. sends (if_any place.node from content) in
    let after : List Peer → Tenure = λ ps. record t { peers = ps } in
    let found = c.first_unknown_with-found.result in
    fed_by stands learnt t from (after c.set_peer.new.peers) c.in_ok-state.field-0.turned state head known
    (set_anew stands learnt t from c.take_known_with.new.peers (after c.set_peer.new.peers) peer.Unknown state c.in_ok-known.ensures.set
    (ap after (c.set_peer.ensures
    ∙ ap (λ (s : PeerState). with_peer c.take_known_with.new.peers from s) (c.with_known.ensures ∙ ap (with_known made) (c.in_ok-known.ensures.known before (sym was))))))
    (c.in_ok-state.ensures.turned ∙ ap sent (sent_same place.file t.epoch made known))
    (made_fed stands.body head known (slice_get head.versions found) made (c.in_ok-state.ensures.state records agrees)
    (sym (ap (λ (vs : List ObjectVersion). slice_get vs found) c.versions.ensures) ∙ c.first_unknown_with-found.ensures.found ∙ ap (first_missing known) c.versions.ensures))
    ∙ known_staged stands learnt t from v head before (peer_in t.peers from) c.in-Some.ensures.head was

pub returns-clause-sound : goal.returns-clause-sound
returns-clause-sound g c =
    let own = c.args.own.now in
    let t = c.args.tenure.now in
    let from = c.args.from in
    let place = c.args.place.now in
    let searches = c.args.searches.now in
    let to = c.in-Some.target in
    let head = head_of to in
    let before = c.in-Some-known_at.known.now in
    let known = with_held before c.args.version in
    let was = ap (λ (ps : List Peer). known_in (peer_in ps from)) (sym c.as_slice.ensures) ∙ c.in-Some-known_at.ensures in
    let made = c.in_ok-state.field-0.state in
    let taken = c.take_known_with.new.peers in
    let found = c.first_unknown_with-found.result in
    let come : ℕ → List Search = λ n. let s : Search = record { node = from; passed = n } in with_search searches s in
    let seen = g.B.Bodies.some c.sends_at.new.bodies in
    let body = body_seen seen.0 place.file None in
    let put = c.with_known.ensures ∙ ap (with_known made) (c.in_ok-known.ensures.known before was) in
    let is = put ∙ made_fed body head known (slice_get head.versions found) made (c.in_ok-state.ensures.state seen.0 seen.1)
    (sym (ap (λ (vs : List ObjectVersion). slice_get vs found) c.versions.ensures) ∙ c.first_unknown_with-found.ensures.found ∙ ap (first_missing known) c.versions.ensures) in
    let none = sym (ap (λ (vs : List ObjectVersion). first_missing known (take found vs)) c.versions.ensures) ∙ c.first_unknown_with-found.ensures.passed in
    let P : List Peer → Type 0 = λ ps. AreSound own.versions ps (come c.of_own.result) in
    c.come_to.ensures own.versions c.set_peer.new.peers
    (subst P (sym c.set_peer.ensures)
    (fed_sound body to own taken searches (come c.of_own.result) from known found c.with_known.result c.in-Some.ensures.own
    (taken_sound own.versions t.peers taken searches from c.in_ok-known.ensures.set c.requires) is none (ap come c.of_own.ensures)))
