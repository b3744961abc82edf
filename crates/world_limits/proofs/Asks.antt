-- the asks of a file: as they wait and are served, all that comes of them is within the limits
use Rattle.std.proofs.Common.{◌≡◌, ◌&&◌, ◌<◌, ◌≤◌, ◌^◌, suc, nat_lt, List, [], ◌∷◌, ◌++◌, length, refl, sym, ap, subst, Option, Some, None, Bool, true, false, arith}
use Rattle.std.specs.Prelude.{cond, not, is_some, count_by}
use Rattle.std.specs.Option.{IfSome}
use Rattle.std.specs.List.{AllByRecursion, fold}
use Rattle.std.proofs.lemmas.Bool.Decides.{nat_tests}
use Rattle.std.proofs.lemmas.List.Sums.{sum_by-cons}
use Rattle.xt_base.specs.declared.ids.NodeId.{NodeId}
use Rattle.xt_base.specs.declared.ids.FileId.{FileId}
use Rattle.xt_base.specs.declared.ids.OpId.{OpId}
use Rattle.xt_messages.specs.declared.file.FileHead.{FileHead}
use Rattle.xt_messages.specs.declared.record.Record.{Record}
use Rattle.xt_messages.specs.declared.reply.Reply.{Reply}
use Rattle.xt_messages.specs.declared.reply.Reply.TheVariants as reply
use Rattle.xt_messages.specs.Limits.{FitsNode, FitsFile, FitsMessage, FitsReply}
use Rattle.xt_protocol.specs.declared.states.Asks.{Asks}
use Rattle.xt_protocol.specs.declared.states.IssuedAsk.{IssuedAsk}
use Rattle.xt_protocol.specs.declared.states.Peer.{Peer}
use Rattle.xt_protocol.specs.declared.states.PrimaryState.{PrimaryState}
use Rattle.xt_protocol.specs.declared.states.Progress.{Progress}
use Rattle.xt_protocol.specs.declared.states.Progress.TheVariants as progress
use Rattle.xt_protocol.specs.declared.states.Tenure.{Tenure}
use Rattle.xt_protocol.specs.declared.states.WaitingAsk.{WaitingAsk}
use Rattle.xt_protocol.specs.Turns.{quiet, the_record, reply_to}
use Rattle.xt_protocol.specs.Primaries.{Ground, Led, is_active, is_ready, is_reported, majority_among, have_in}
use Rattle.xt_protocol.specs.Serving.{reads, writes}
use Rattle.xt_protocol.specs.Asks.{Served, WAITING, no_asks, waits, stays, is_read, read_answer, newly_issued, write_done, serves, serves_waiting, serves_all, comes_back, asks_follow, tells_each, tells_untold}
use Rattle.replica_runs.specs.Seen.{nodes_in, acked_by}
use Rattle.object_versions.proofs.HeadLimits.{either}
use Rattle.world_limits.proofs.Lists.{all_append}
use Rattle.world_limits.specs.States.{AreSent, ProgressIs, PrimaryIs, AskIs, AsksAre}
use Rattle.client_limits.proofs.Messages.{sent}
use Rattle.world_limits.proofs.Primary.{LedRec, LedIs, GroundIs}
use Rattle.world_limits.proofs.Serving.{reads_is, writes_is}

-- ---- replies

pub told_sent : (node : NodeId) (file : FileId) (id : OpId) (answer : Reply) → FitsNode node → FitsFile file → FitsNode id.client × (id.number < 2 ^ 62) → FitsReply answer → FitsMessage (reply_to node file id answer)
told_sent node file id answer who which of fits = sent node id.client _ who of.0 (of.1, which, fits)

pub each_told : (node : NodeId) (file : FileId) (waiting : List WaitingAsk) (answer : Reply) → FitsNode node → FitsFile file → AllByRecursion AskIs waiting → FitsReply answer → AreSent (tells_each node file waiting answer)
each_told node file [] answer who which all fits = tt
each_told node file (w ∷ ws) answer who which all fits = (told_sent node file w.id answer who which (all.0.who.who, all.0.who.operation) fits, each_told node file ws answer who which all.1 fits)

pub untold_told : (node : NodeId) (file : FileId) (o : Option IssuedAsk) (answer : Reply) → FitsNode node → FitsFile file → IfSome o (λ i. AskIs i.ask) → FitsReply answer → AreSent (tells_untold node file o answer)
untold_told node file None answer who which is fits = tt
untold_told node file (Some i) answer who which is fits = either AreSent i.told [] (reply_to node file i.ask.id answer ∷ []) tt (told_sent node file i.ask.id answer who which (is.who.who, is.who.operation) fits, tt)

-- ---- counts

count_le : {A : Type 0} (p : A → Bool) (xs : List A) → count_by p xs ≤ length xs
count_le p [] = omega arith
count_le p (x ∷ xs) = at (p x) refl (count_le p xs)
  where
    at : (b : Bool) → p x ≡ b → count_by p xs ≤ length xs → count_by p (x ∷ xs) ≤ length (x ∷ xs)
    at true is rest = grind (arith, nat_tests, sum_by-cons (λ y. cond (p y) 1 0) x xs)
    at false is rest = grind (arith, nat_tests, sum_by-cons (λ y. cond (p y) 1 0) x xs)

peers_count : (peers : List Peer) → length peers ≡ length (nodes_in peers)
peers_count [] = refl
peers_count (p ∷ ps) = ap suc (peers_count ps)

pub have_is : (peers : List Peer) (p : Progress) → length (nodes_in peers) ≤ 9 → ProgressIs peers p → have_in peers p < 2 ^ 8
have_is peers progress.Gathering few is = omega (arith, count_le (λ (q : Peer). is_reported q.state) peers, peers_count peers, few)
have_is peers (progress.Fetching chosen source asked later) few is = omega arith
have_is peers (progress.Installing chosen acked) few is = omega (arith, is.1, count_le (acked_by acked) (nodes_in peers), few)
have_is peers (progress.Active head None) few is = omega arith
have_is peers (progress.Active head (Some u)) few is = omega (arith, is.1.1, count_le (acked_by u.acked) (nodes_in peers), few)

pub need_is : (peers : List Peer) → length (nodes_in peers) ≤ 9 → majority_among peers < 2 ^ 8
need_is peers few = omega (arith, peers_count peers, few)

-- ---- asks

pub none_are : AsksAre no_asks
none_are = record { wait = tt; written = tt }

pushed : (asks : Asks) (ask : WaitingAsk) → AsksAre asks → AskIs ask → AsksAre (record asks { waiting = asks.waiting ++ ask ∷ [] })
pushed asks ask are is = record { wait = all_append AskIs asks.waiting (ask ∷ []) are.wait (is, tt); written = are.written }

pub waits_are : (asks : Asks) (ask : WaitingAsk) → AsksAre asks → AskIs ask → AsksAre (waits asks ask)
waits_are asks ask are is = either AsksAre (nat_lt (length asks.waiting) WAITING) (record asks { waiting = asks.waiting ++ ask ∷ [] }) asks (pushed asks ask are is) are

-- what must hold of the serving of asks
pub record ServedIs (file : FileId) (own : FileHead) (s : Served) : Type 0 where
  pub primary : PrimaryIs s.primary
  pub asks : AsksAre s.asks
  pub next : IfSome s.turned.rec (LedRec file own)
  pub outs : AreSent s.turned.outs

-- the first record of two
first_rec : (P : Record → Type 0) (a b : Option Record) → IfSome a P → IfSome b P → IfSome (the_record a b) P
first_rec P None b first next = next
first_rec P (Some rec) b first next = first

newly_is : (t : Option Tenure) (ask : WaitingAsk) → AskIs ask → IfSome (newly_issued t ask) (λ i. AskIs i.ask)
newly_is t ask is = either (λ o. IfSome o (λ (i : IssuedAsk). AskIs i.ask)) (is_some _) (Some (record { ask = ask; told = false })) None is tt

module _ (g : Ground) (ground : GroundIs g) (least : 1 ≤ g.place.stripe) (most : g.place.stripe ≤ 131072) where
  abbrev Serves : Served → Type 0
  Serves s = ServedIs g.place.file g.own s

  done_is : (s : Served) (ask : WaitingAsk) (o : Option Led) (left : Asks) → Serves s → AskIs ask → AsksAre left → IfSome o (LedIs g.place.file g.own) → Serves (write_done s ask o left)
  done_is s ask None left is fits behind led = record { primary = is.primary; asks = behind; next = is.next; outs = is.outs }
  done_is s ask (Some l) left is fits behind led = record {
    primary = led.primary;
    asks = either AsksAre (is_some s.asks.issued) s.asks (record s.asks { issued = newly_issued l.primary.tenure ask }) is.asks (record { wait = is.asks.wait; written = newly_is l.primary.tenure ask fits });
    next = first_rec (LedRec g.place.file g.own) s.turned.rec l.turned.rec is.next led.next;
    outs = all_append FitsMessage s.turned.outs l.turned.outs is.outs led.outs;
  }

  read_sent : (id : OpId) (o : Option Reply) → FitsNode id.client × (id.number < 2 ^ 62) → IfSome o FitsReply → AreSent (read_answer g id o).outs
  read_sent id None of fits = tt
  read_sent id (Some (reply.Ok count size bytes)) of fits = (told_sent g.place.node g.place.file id (reply.Ok count size bytes) ground.who ground.which of fits, tt)
  read_sent id (Some _) of fits = tt

  read_rec : (id : OpId) (o : Option Reply) → (read_answer g id o).rec ≡ None
  read_rec id None = refl
  read_rec id (Some (reply.Ok count size bytes)) = refl
  read_rec id (Some _) = refl

  pub serves_is : (s : Served) (ask : WaitingAsk) (left : Asks) → Serves s → AskIs ask → AsksAre left → Serves (serves g s ask left)
  serves_is s ask left is fits behind =
      let told = read_answer g ask.id (reads g s.primary ask.op) in
      either Serves (is_read ask.op) _ _
      (record {
        primary = is.primary;
        asks = is.asks;
        next = first_rec (LedRec g.place.file g.own) s.turned.rec told.rec is.next (subst (λ o. IfSome o (LedRec g.place.file g.own)) (sym (read_rec ask.id (reads g s.primary ask.op))) tt);
        outs = all_append FitsMessage s.turned.outs told.outs is.outs (read_sent ask.id (reads g s.primary ask.op) (fits.who.who, fits.who.operation) (reads_is g s.primary ask.op ground is.primary fits.asked));
      })
      (done_is s ask (writes g s.primary ask.id ask.epoch ask.op) left is fits behind (writes_is g s.primary ask ground least most is.primary fits))

  each_is : (waiting : List WaitingAsk) (s : Served) → Serves s → AllByRecursion AskIs waiting → Serves (fold (serves_waiting g) s waiting)
  each_is [] s is all = is
  each_is (ask ∷ waiting) s is all =
      each_is waiting (serves_waiting g s ask)
      (either Serves (not (is_read ask.op) && is_some s.asks.issued) (record s { asks = stays s.asks ask }) (serves g s ask (stays s.asks ask))
      (record { primary = is.primary; asks = pushed s.asks ask is.asks all.0; next = is.next; outs = is.outs })
      (serves_is s ask (stays s.asks ask) is all.0 (pushed s.asks ask is.asks all.0))) all.1

  all_is : (p : PrimaryState) (waiting : List WaitingAsk) → PrimaryIs p → AllByRecursion AskIs waiting → Serves (serves_all g p waiting)
  unfolding serves_all
  all_is p waiting is all = each_is waiting (record { primary = p; asks = no_asks; turned = quiet }) (record { primary = is; asks = none_are; next = tt; outs = tt }) all

  back_are : (asks : Asks) → AsksAre asks → AsksAre (comes_back asks)
  back_are asks are = at asks.issued are.written
    where
      at : (o : Option IssuedAsk) → IfSome o (λ i. AskIs i.ask) → AsksAre (elim o [ None ↦ asks | Some issued ↦ record { waiting = issued.ask ∷ asks.waiting; issued = None } ])
      at None is = are
      at (Some i) is = record { wait = (is, are.wait); written = tt }

  pub follow_is : (before : Option Tenure) (asks : Asks) (led : Led) → AsksAre asks → LedIs g.place.file g.own led → Serves (asks_follow g before asks led)
  follow_is before asks led are is =
      let all = all_is led.primary asks.waiting is.primary are.wait in
      let served = serves_all g led.primary asks.waiting in
      either Serves (is_ready led.primary.tenure && not (is_ready before)) _ _
      (record {
        primary = all.primary;
        asks = all.asks;
        next = first_rec (LedRec g.place.file g.own) led.turned.rec served.turned.rec is.next all.next;
        outs = all_append FitsMessage led.turned.outs served.turned.outs is.outs all.outs;
      })
      (record { primary = is.primary; asks = either AsksAre (is_active led.primary.tenure) asks (comes_back asks) are (back_are asks are); next = is.next; outs = is.outs })
