-- nothing about leases in what rows of a primary give
use Rattle.std.proofs.Common.{◌≡◌, refl, ap, ◌∙◌, List, [], ◌∷◌, ◌++◌, Bool, true, false}
use Rattle.std.specs.Prelude.{Option, Some, None, cond, map, flat_map}
use Rattle.std.proofs.lemmas.List.Elements.{filter-append, filter_map-append}
use Rattle.xt_base.specs.declared.ids.NodeId.{NodeId}
use Rattle.xt_base.specs.declared.ids.FileId.{FileId}
use Rattle.xt_base.specs.declared.ids.Epoch.{Epoch}
use Rattle.xt_messages.specs.declared.message.Msg.{Msg}
use Rattle.xt_messages.specs.declared.reply.Reply.{Reply}
use Rattle.xt_protocol.specs.declared.turned.Turned.{Turned}
use Rattle.xt_protocol.specs.declared.states.Place.{Place}
use Rattle.xt_protocol.specs.declared.states.WaitingAsk.{WaitingAsk}
use Rattle.xt_protocol.specs.declared.states.IssuedAsk.{IssuedAsk}
use Rattle.xt_protocol.specs.declared.states.Peer.{Peer}
use Rattle.xt_protocol.specs.declared.states.PeerState.{PeerState}
use Rattle.xt_protocol.specs.declared.states.PeerState.TheVariants as peer
use Rattle.xt_protocol.specs.Turns.{joined, reply_to}
use Rattle.xt_protocol.specs.Primaries.{if_any, last_sent, last_to_each}
use Rattle.xt_protocol.specs.Asks.{tells_each, tells_untold}
use Rattle.lease_runs.specs.LeaseView.{is_lease_or_ask, leases_and_asks, held_end, held_ends, IsBare}

-- a message that isn't about a lease, before others
pub first_bare : (m : Msg) (ms : List Msg) → is_lease_or_ask m ≡ false → leases_and_asks ms ≡ [] → leases_and_asks (m ∷ ms) ≡ []
first_bare m ms other rest = ap (λ b. cond b (m ∷ leases_and_asks ms) (leases_and_asks ms)) other ∙ rest

-- messages none of which is about a lease
pub map_bare : {X : Type 0} (f : X → Msg) (xs : List X) → ((x : X) → is_lease_or_ask (f x) ≡ false) → leases_and_asks (map f xs) ≡ []
map_bare f [] other = refl
map_bare f (x ∷ xs) other = first_bare (f x) (map f xs) (other x) (map_bare f xs other)

pub flat_bare : {X : Type 0} (f : X → List Msg) (xs : List X) → ((x : X) → leases_and_asks (f x) ≡ []) → leases_and_asks (flat_map f xs) ≡ []
flat_bare f [] other = refl
flat_bare f (x ∷ xs) other =
    filter-append is_lease_or_ask (f x) (flat_map f xs) ∙ ap (λ ms. ms ++ leases_and_asks (flat_map f xs)) (other x) ∙ flat_bare f xs other

pub map_all : {X : Type 0} (f : X → Msg) (xs : List X) → ((x : X) → is_lease_or_ask (f x) ≡ true) → leases_and_asks (map f xs) ≡ map f xs
map_all f [] each = refl
map_all f (x ∷ xs) each =
    ap (λ b. cond b (f x ∷ leases_and_asks (map f xs)) (leases_and_asks (map f xs))) (each x) ∙ ap (λ ms. f x ∷ ms) (map_all f xs each)

pub both_bare : (a b : List Msg) → leases_and_asks a ≡ [] → leases_and_asks b ≡ [] → leases_and_asks (a ++ b) ≡ []
both_bare a b p q = filter-append is_lease_or_ask a b ∙ ap (λ ms. ms ++ leases_and_asks b) p ∙ q

pub joined_bare : (a b : Turned) → IsBare a → IsBare b → IsBare (joined a b)
joined_bare a b p q =
    record {
      outs = both_bare a.outs b.outs p.outs q.outs;
      ends = filter_map-append held_end a.marks b.marks ∙ ap (λ ends. ends ++ held_ends b.marks) p.ends ∙ q.ends;
    }

-- replies
pub each_told : (node : NodeId) (file : FileId) (asks : List WaitingAsk) (answer : Reply) → leases_and_asks (tells_each node file asks answer) ≡ []
each_told node file asks answer = map_bare (λ w. reply_to node file w.id answer) asks (λ w. refl)

pub untold : (node : NodeId) (file : FileId) (ask : Option IssuedAsk) (answer : Reply) → leases_and_asks (tells_untold node file ask answer) ≡ []
untold node file None answer = refl
untold node file (Some issued) answer = told_or issued.told
  where
    told_or : (b : Bool) → leases_and_asks (cond b [] (reply_to node file issued.ask.id answer ∷ [])) ≡ []
    told_or true = refl
    told_or false = refl

-- what is sent to a peer
pub last_bare : (from to : NodeId) (file : FileId) (epoch : Epoch) (state : PeerState) → leases_and_asks (if_any from to (last_sent file epoch state)) ≡ []
last_bare from to file epoch peer.Unknown = refl
last_bare from to file epoch (peer.Reported head) = refl
last_bare from to file epoch (peer.Feeding known object version body) = refl
last_bare from to file epoch (peer.Heading known head) = refl
last_bare from to file epoch peer.Current = refl

pub each_last_bare : (place : Place) (epoch : Epoch) (peers : List Peer) → leases_and_asks (last_to_each place epoch peers) ≡ []
each_last_bare place epoch peers =
    flat_bare (λ p. if_any place.node p.node (last_sent place.file epoch p.state)) peers (λ p. last_bare place.node p.node place.file epoch p.state)
