-- what serving asks leaves: the issued update and ask are one, and nothing waits where nothing is issued
use Rattle.std.proofs.Common.{◌≡◌, ℕ, refl, ap, sym, subst, ◌∙◌, List, [], ◌∷◌, Bool, true, false}
use Rattle.std.specs.Prelude.{Option, Some, None, cond, not, ◌&&◌, ◌+◌, nat_lt, is_some, fold}
use Rattle.xt_base.specs.declared.ids.NodeId.{NodeId}
use Rattle.xt_base.specs.declared.ids.OpId.{OpId}
use Rattle.xt_base.specs.declared.ids.Stamp.{Stamp}
use Rattle.xt_messages.specs.declared.file.FileHead.{FileHead}
use Rattle.xt_messages.specs.declared.file.Update.{Update}
use Rattle.xt_messages.specs.declared.file.Op.{Op}
use Rattle.xt_messages.specs.declared.file.Op.TheVariants as op
use Rattle.xt_base.specs.declared.TheConstants.{COUNTS}
use Rattle.xt_messages.specs.declared.record.Record.{Record}
use Rattle.xt_protocol.specs.declared.states.WaitingAsk.{WaitingAsk}
use Rattle.xt_protocol.specs.declared.states.IssuedAsk.{IssuedAsk}
use Rattle.xt_protocol.specs.declared.states.IssuedUpdate.{IssuedUpdate}
use Rattle.xt_protocol.specs.declared.states.Asks.{Asks}
use Rattle.xt_protocol.specs.declared.states.Progress.{Progress}
use Rattle.xt_protocol.specs.declared.states.Progress.TheVariants as progress
use Rattle.xt_protocol.specs.declared.states.PrimaryState.{PrimaryState}
use Rattle.xt_protocol.specs.declared.states.Tenure.{Tenure}
use Rattle.xt_protocol.specs.Turns.{quiet, joined, the_record}
use Rattle.xt_protocol.specs.ReplicaRows.{kept_after}
use Rattle.xt_protocol.specs.Writes.{WriteStanding, repeated, older, turned_away, fresh, update_of}
use Rattle.xt_protocol.specs.Primaries.{Ground, Led, is_ready, is_ready_in, is_active, is_active_in, issued_in, issued_by, nodes_of}
use Rattle.xt_protocol.specs.Serving.{issues, issues_unless, write_stands, writes_in, writes_under, writes, next_update_of, reads}
use Rattle.xt_protocol.specs.Asks.{Served, asks_behind, asks_follow, comes_back, is_read, no_asks, newly_issued, read_answer, serves, serves_all, serves_waiting, stays, write_done}
use Rattle.osd_invariants.specs.Sound.{AreOne, PeersAre}
use Rattle.osd_invariants.proofs.Kept.{served_none}
use Rattle.osd_invariants.proofs.Leads.{KeepsList, SameIssued, Moved, readied, unready, went_on, Leads}

-- what a write leaves of the tenure: it, or it with the update of this id issued
data Wrote (t : Tenure) (id : OpId) (led : Led) : Type 0 where
  as_it_was : led.primary.tenure ≡ Some t → Wrote t id led
  issued : issued_in t.progress ≡ None → (head : FileHead) (u : IssuedUpdate) → led.primary.tenure ≡ Some (record t { progress = progress.Active head (Some u) })
      → u.update.id ≡ id → Wrote t id led

abbrev Gives : Tenure → OpId → Option Led → Type 0
Gives t id None = is_ready_in t.progress ≡ false
Gives t id (Some led) = Wrote t id led

abbrev IsOf : OpId → Option Update → Type 0
IsOf id None = Unit {0}
IsOf id (Some u) = u.id ≡ id

update_is_of : (stripe : ℕ) (body : ℕ → Stamp → List ℕ) (head : FileHead) (stamp : Stamp) (id : OpId) (epoch : ℕ) (asked : Op)
    → IsOf id (update_of stripe body head stamp id epoch asked)
update_is_of stripe body head stamp id epoch (op.Read object at len) = tt
update_is_of stripe body head stamp id epoch (op.Write object at bytes) = refl
update_is_of stripe body head stamp id epoch (op.Truncate size) = refl

next_is_of : (g : Ground) (t : Tenure) (head : FileHead) (id : OpId) (epoch : ℕ) (asked : Op) → IsOf id (next_update_of g t head id epoch asked)
next_is_of g t head id epoch asked = one_of (nat_lt (head.stamp.count + 1) COUNTS)
  where
    one_of : (b : Bool) → IsOf id (cond b (update_of g.place.stripe g.body head (record { epoch = t.epoch; count = head.stamp.count + 1 }) id epoch asked) None)
    one_of true = update_is_of g.place.stripe g.body head (record { epoch = t.epoch; count = head.stamp.count + 1 }) id epoch asked
    one_of false = tt

issues_wrote : (g : Ground) (learnt : ℕ) (t : Tenure) (head : FileHead) (id : OpId) (u : Option Update) → issued_in t.progress ≡ None → IsOf id u
    → Wrote t id (issues g learnt t head u)
issues_wrote g learnt t head id None free is = as_it_was refl
issues_wrote g learnt t head id (Some u) free is = issued free head (record { update = u; acked = [] }) refl is

unless_gives : (g : Ground) (learnt : ℕ) (t : Tenure) (head : FileHead) (i : Option IssuedUpdate) (id : OpId) (epoch : ℕ) (asked : Op)
    → t.progress ≡ progress.Active head i → Gives t id (issues_unless g learnt t head i id epoch asked)
unless_gives g learnt t head (Some u) id epoch asked is = ap is_ready_in is
unless_gives g learnt t head None id epoch asked is =
    issues_wrote g learnt t head id (next_update_of g t head id epoch asked) (ap issued_in is) (next_is_of g t head id epoch asked)

stands_gives : (g : Ground) (learnt : ℕ) (t : Tenure) (head : FileHead) (i : Option IssuedUpdate) (id : OpId) (epoch : ℕ) (asked : Op) (how : WriteStanding)
    → t.progress ≡ progress.Active head i → Gives t id (write_stands g learnt t head i id epoch asked how)
stands_gives g learnt t head i id epoch asked (repeated count) is = as_it_was refl
stands_gives g learnt t head i id epoch asked older is = as_it_was refl
stands_gives g learnt t head i id epoch asked (turned_away why) is = as_it_was refl
stands_gives g learnt t head i id epoch asked fresh is = unless_gives g learnt t head i id epoch asked is

in_gives : (g : Ground) (learnt : ℕ) (t : Tenure) (p : Progress) (id : OpId) (epoch : ℕ) (asked : Op) → t.progress ≡ p
    → Gives t id (writes_in g learnt t p id epoch asked)
in_gives g learnt t (progress.Active head i) id epoch asked is = stands_gives g learnt t head i id epoch asked _ is
in_gives g learnt t progress.Gathering id epoch asked is = ap is_ready_in is
in_gives g learnt t (progress.Fetching chosen source wanted later) id epoch asked is = ap is_ready_in is
in_gives g learnt t (progress.Installing chosen acked) id epoch asked is = ap is_ready_in is

-- ---- asks that are served

pub false_true : false ≡ true → ⊥
false_true e = cc e

pub record HasTenure (members : List NodeId) (o : Option Tenure) : Type 0 where
  pub t : Tenure
  pub is : o ≡ Some t
  pub nodes : nodes_of t.peers ≡ members

-- how a primary and the asks fit
pub record Fits (members : List NodeId) (o : Option Tenure) (asks : Asks) : Type 0 where
  pub one : AreOne (issued_by o) asks.issued
  pub peers : PeersAre members o
  pub ready : is_ready o ≡ true → asks.waiting ≡ []

writes_give : (g : Ground) (p : PrimaryState) (t : Tenure) (id : OpId) (epoch : ℕ) (asked : Op) → p.tenure ≡ Some t → Gives t id (writes g p id epoch asked)
unfolding writes
writes_give g p t id epoch asked is =
    subst (λ (o : Option Tenure). Gives t id (writes_under g p.learnt o id epoch asked)) (sym is) (in_gives g p.learnt t t.progress id epoch asked refl)

none_new : (i : Option IssuedUpdate) (ask : WaitingAsk) → AreOne i None → AreOne i (cond (is_some i) (Some (record { ask = ask; told = false })) None)
none_new None ask p = tt
none_new (Some u) ask p = absurd p

abbrev asks_then : Option Tenure → WaitingAsk → List WaitingAsk → Option IssuedAsk → Asks
asks_then o ask w a =
    let asks : Asks = record { waiting = w; issued = a } in cond (is_some a) asks (record asks { issued = newly_issued o ask })

wrote_fits : (members : List NodeId) (t : Tenure) (ask : WaitingAsk) (led : Led) (w : List WaitingAsk) (a : Option IssuedAsk) → Fits members (Some t) (record { waiting = w; issued = a })
    → Wrote t ask.id led → Fits members led.primary.tenure (asks_then led.primary.tenure ask w a)
wrote_fits members t ask led w (Some x) f (as_it_was e) = subst (λ (o : Option Tenure). Fits members o (asks_then o ask w (Some x))) (sym e) f
wrote_fits members t ask led w None f (as_it_was e) =
    subst (λ (o : Option Tenure). Fits members o (asks_then o ask w None)) (sym e)
    (record { one = none_new (issued_in t.progress) ask f.one; peers = f.peers; ready = f.ready })
wrote_fits members t ask led w (Some x) f (issued free head u e id) = absurd (subst (λ i. AreOne i (Some x)) free f.one)
wrote_fits members t ask led w None f (issued free head u e id) =
    subst (λ (o : Option Tenure). Fits members o (asks_then o ask w None)) (sym e)
    (record { one = id; peers = f.peers; ready = λ r. absurd (false_true r) })

done_fits : (members : List NodeId) (s : Served) (t : Tenure) (ask : WaitingAsk) (led : Option Led) (left : Asks) → s.primary.tenure ≡ Some t
    → Fits members (Some t) s.asks → left.issued ≡ s.asks.issued → Gives t ask.id led
    → Fits members (write_done s ask led left).primary.tenure (write_done s ask led left).asks
done_fits members s t ask (Some led) left is f same gives = wrote_fits members t ask led s.asks.waiting s.asks.issued f gives
done_fits members s t ask None left is f same gives =
    subst (λ (o : Option Tenure). Fits members o left) (sym is)
    (record { one = subst (λ a. AreOne (issued_in t.progress) a) (sym same) f.one; peers = f.peers; ready = λ r. absurd (false_true (sym gives ∙ r)) })

abbrev FitsServed : List NodeId → Served → Type 0
FitsServed members s = Fits members s.primary.tenure s.asks

either_fits : (members : List NodeId) (b : Bool) (x y : Served) → FitsServed members x → FitsServed members y → FitsServed members (cond b x y)
either_fits members true x y p q = p
either_fits members false x y p q = q

-- an active primary that has issued nothing leaves what it has: then nothing is left of a write
pub serves_fits : (members : List NodeId) (g : Ground) (s : Served) (t : Tenure) (ask : WaitingAsk) (left : Asks) → s.primary.tenure ≡ Some t
    → FitsServed members s → left.issued ≡ s.asks.issued → FitsServed members (serves g s ask left)
serves_fits members g s t ask left is f same =
    either_fits members (is_read ask.op) _ (write_done s ask (writes g s.primary ask.id ask.epoch ask.op) left) f
    (done_fits members s t ask (writes g s.primary ask.id ask.epoch ask.op) left is (subst (λ (o : Option Tenure). Fits members o s.asks) is f) same
    (writes_give g s.primary t ask.id ask.epoch ask.op is))

-- and the tenure stays one
wrote_has : (t : Tenure) (id : OpId) (led : Led) → Wrote t id led → is_some led.primary.tenure ≡ true
wrote_has t id led (as_it_was e) = ap is_some e
wrote_has t id led (issued free head u e same) = ap is_some e

done_has : (s : Served) (t : Tenure) (ask : WaitingAsk) (led : Option Led) (left : Asks) → s.primary.tenure ≡ Some t → Gives t ask.id led
    → is_some (write_done s ask led left).primary.tenure ≡ true
done_has s t ask (Some led) left is gives = wrote_has t ask.id led gives
done_has s t ask None left is gives = ap is_some is

serves_has : (g : Ground) (s : Served) (t : Tenure) (ask : WaitingAsk) (left : Asks) → s.primary.tenure ≡ Some t → is_some (serves g s ask left).primary.tenure ≡ true
serves_has g s t ask left is = one_of (is_read ask.op)
  where
    one_of : (b : Bool)
        → is_some (cond b (record s { turned = joined s.turned (read_answer g ask.id (reads g s.primary ask.op)) }) (write_done s ask (writes g s.primary ask.id ask.epoch ask.op) left)).primary.tenure ≡ true
    one_of true = ap is_some is
    one_of false = done_has s t ask (writes g s.primary ask.id ask.epoch ask.op) left is (writes_give g s.primary t ask.id ask.epoch ask.op is)

-- ---- all that wait

pub record IsServed (members : List NodeId) (s : Served) : Type 0 where
  pub rec : s.turned.rec ≡ None
  pub has : is_some s.primary.tenure ≡ true
  pub fits : FitsServed members s

with_tenure : {P : Type 0} (o : Option Tenure) → is_some o ≡ true → ((t : Tenure) → o ≡ Some t → P) → P
with_tenure None has then = absurd (false_true has)
with_tenure (Some t) has then = then t refl

-- an issued update keeps a primary from being ready
not_ready : (o : Option Tenure) (a : Option IssuedAsk) → AreOne (issued_by o) a → is_some a ≡ true → is_ready o ≡ false
not_ready None a one some = refl
not_ready (Some t) a one some = in_progress t.progress a one some
  where
    in_progress : (p : Progress) (a : Option IssuedAsk) → AreOne (issued_in p) a → is_some a ≡ true → is_ready_in p ≡ false
    in_progress progress.Gathering a one some = refl
    in_progress (progress.Fetching chosen source wanted later) a one some = refl
    in_progress (progress.Installing chosen acked) a one some = refl
    in_progress (progress.Active head (Some u)) a one some = refl
    in_progress (progress.Active head None) None one some = absurd (false_true some)
    in_progress (progress.Active head None) (Some x) one some = absurd one

when : (b : Bool) (P : Served → Type 0) (x y : Served) → (b ≡ true → P x) → P y → P (cond b x y)
when true P x y p q = p refl
when false P x y p q = q

and_second : (a b : Bool) → (a && b) ≡ true → b ≡ true
and_second true b p = p
and_second false b p = absurd (false_true p)

one_waits : (members : List NodeId) (g : Ground) (s : Served) (ask : WaitingAsk) → IsServed members s → IsServed members (serves_waiting g s ask)
one_waits members g s ask q =
    when (not (is_read ask.op) && is_some s.asks.issued) (IsServed members) (record s { asks = stays s.asks ask }) (serves g s ask (stays s.asks ask))
    (λ b. record {
      rec = q.rec;
      has = q.has;
      fits = record {
        one = q.fits.one;
        peers = q.fits.peers;
        ready = λ r. absurd (false_true (sym (not_ready s.primary.tenure s.asks.issued q.fits.one (and_second (not (is_read ask.op)) (is_some s.asks.issued) b)) ∙ r));
      };
    })
    (with_tenure s.primary.tenure q.has (λ t is. record {
      rec = served_none g s ask (stays s.asks ask) q.rec;
      has = serves_has g s t ask (stays s.asks ask) is;
      fits = serves_fits members g s t ask (stays s.asks ask) is q.fits refl;
    }))

all_wait : (members : List NodeId) (g : Ground) (s : Served) (waiting : List WaitingAsk) → IsServed members s → IsServed members (fold (serves_waiting g) s waiting)
all_wait members g s [] q = q
all_wait members g s (ask ∷ asks) q = all_wait members g (serves_waiting g s ask) asks (one_waits members g s ask q)

all_served : (members : List NodeId) (g : Ground) (p : PrimaryState) (waiting : List WaitingAsk)
    → IsServed members (record { primary = p; asks = no_asks; turned = quiet }) → IsServed members (serves_all g p waiting)
unfolding serves_all
all_served members g p waiting q = all_wait members g (record { primary = p; asks = no_asks; turned = quiet }) waiting q

-- ---- after a row of the primary

pub record Followed (members : List NodeId) (s : Served) : Type 0 where
  pub rec : KeepsList s.turned.rec
  pub fits : FitsServed members s

ready_has : (o : Option Tenure) → is_ready o ≡ true → is_some o ≡ true
ready_has None r = absurd (false_true r)
ready_has (Some t) r = refl

ready_free : (o : Option Tenure) → is_ready o ≡ true → AreOne (issued_by o) None
ready_free None r = tt
ready_free (Some t) r = in_progress t.progress r
  where
    in_progress : (p : Progress) → is_ready_in p ≡ true → AreOne (issued_in p) None
    in_progress progress.Gathering r = tt
    in_progress (progress.Fetching chosen source wanted later) r = tt
    in_progress (progress.Installing chosen acked) r = tt
    in_progress (progress.Active head (Some u)) r = absurd (false_true r)
    in_progress (progress.Active head None) r = tt

pub record Inactive (o : Option Tenure) : Type 0 where
  pub free : AreOne (issued_by o) None
  pub unready : is_ready o ≡ false

pub inactive : (o : Option Tenure) → is_active o ≡ false → Inactive o
inactive None r = record { free = tt; unready = refl }
inactive (Some t) r = in_progress t r t.progress refl
  where
    of_progress : (p : Progress) → is_active_in p ≡ false → (AreOne (issued_in p) None) × (is_ready_in p ≡ false)
    of_progress progress.Gathering r = (tt, refl)
    of_progress (progress.Fetching chosen source wanted later) r = (tt, refl)
    of_progress (progress.Installing chosen acked) r = (tt, refl)
    of_progress (progress.Active head i) r = absurd (false_true (sym r))

    in_progress : (t : Tenure) → is_active_in t.progress ≡ false → (p : Progress) → t.progress ≡ p → Inactive (Some t)
    in_progress t r p is = let both = of_progress t.progress r in record { free = both.0; unready = both.1 }

record_first : (first next : Option Record) → KeepsList first → next ≡ None → KeepsList (the_record first next)
record_first None next p none = λ row. ap (λ r. (kept_after row r).location) none
record_first (Some rec) next p none = p

-- the branches
abbrev serves_branch : Ground → Asks → Led → Served
serves_branch g asks led = let served = serves_all g led.primary asks.waiting in record served { turned = joined led.turned served.turned }

abbrev waits_branch : Asks → Led → Served
waits_branch asks led = record { primary = led.primary; asks = asks_behind led.primary.tenure asks; turned = led.turned }

serves_followed : (members : List NodeId) (g : Ground) (asks : Asks) (led : Led) → KeepsList led.turned.rec → PeersAre members led.primary.tenure
    → is_ready led.primary.tenure ≡ true → Followed members (serves_branch g asks led)
serves_followed members g asks led rec peers r =
    let q = all_served members g led.primary asks.waiting (record {
      rec = refl;
      has = ready_has led.primary.tenure r;
      fits = record { one = ready_free led.primary.tenure r; peers = peers; ready = λ r. refl };
    }) in
    record { rec = record_first led.turned.rec (serves_all g led.primary asks.waiting).turned.rec rec q.rec; fits = q.fits }

back_issued : (w : List WaitingAsk) (a : Option IssuedAsk) → (comes_back (record { waiting = w; issued = a })).issued ≡ None
back_issued w None = refl
back_issued w (Some x) = refl

pub back_fits : (members : List NodeId) (o : Option Tenure) (asks : Asks) → PeersAre members o → Inactive o → Fits members o (comes_back asks)
back_fits members o asks peers none =
    record {
      one = subst (λ a. AreOne (issued_by o) a) (sym (back_issued asks.waiting asks.issued)) none.free;
      peers = peers;
      ready = λ r. absurd (false_true (sym none.unready ∙ r));
    }

behind_fits : (members : List NodeId) (o : Option Tenure) (asks : Asks) (b : Bool) → is_active o ≡ b → PeersAre members o → (b ≡ true → Fits members o asks)
    → Fits members o (cond b asks (comes_back asks))
behind_fits members o asks true is peers f = f refl
behind_fits members o asks false is peers f = back_fits members o asks peers (inactive o is)

same_one : (i j : Option IssuedUpdate) (a : Option IssuedAsk) → SameIssued i j → AreOne i a → AreOne j a
same_one None None a s one = one
same_one (Some u) (Some v) (Some x) s one = sym (ap (λ (w : Update). w.id) s) ∙ one
same_one (Some u) (Some v) None s one = one
same_one None (Some v) a s one = absurd s
same_one (Some u) None a s one = absurd s

pub follow_fits : (members : List NodeId) (g : Ground) (t : Tenure) (asks : Asks) (led : Led) → Fits members (Some t) asks → Leads members t.progress led
    → Followed members (asks_follow g (Some t) asks led)
follow_fits members g t asks led f l = by_move l.moved
  where
    waits_followed : (is_active led.primary.tenure ≡ true → Fits members led.primary.tenure asks) → Followed members (waits_branch asks led)
    waits_followed p = record { rec = l.rec; fits = behind_fits members led.primary.tenure asks (is_active led.primary.tenure) refl l.peers p }

    test : Bool → Type 0
    test b = (is_ready led.primary.tenure && not (is_ready_in t.progress)) ≡ b

    when_false : test false → Followed members (waits_branch asks led) → Followed members (asks_follow g (Some t) asks led)
    when_false is p = subst (λ (b : Bool). Followed members (cond b (serves_branch g asks led) (waits_branch asks led))) (sym is) p

    when_true : test true → Followed members (serves_branch g asks led) → Followed members (asks_follow g (Some t) asks led)
    when_true is p = subst (λ (b : Bool). Followed members (cond b (serves_branch g asks led) (waits_branch asks led))) (sym is) p

    both_same : (a b : Bool) → a ≡ b → (a && not b) ≡ false
    both_same true true e = refl
    both_same false false e = refl
    both_same true false e = absurd (false_true (sym e))
    both_same false true e = refl

    by_move : Moved t.progress led.primary.tenure → Followed members (asks_follow g (Some t) asks led)
    by_move (readied before after) =
        when_true (ap (λ b. b && not (is_ready_in t.progress)) after ∙ ap not before) (serves_followed members g asks led l.rec l.peers after)
    by_move (unready no_more) =
        when_false (ap (λ b. b && not (is_ready_in t.progress)) (inactive led.primary.tenure no_more).unready)
        (waits_followed (λ active. absurd (false_true (sym no_more ∙ active))))
    by_move (went_on issued_same ready_same active_same) =
        when_false (both_same (is_ready led.primary.tenure) (is_ready_in t.progress) ready_same)
        (waits_followed (λ active. record {
          one = same_one (issued_in t.progress) (issued_by led.primary.tenure) asks.issued issued_same f.one;
          peers = l.peers;
          ready = λ r. f.ready (sym ready_same ∙ r);
        }))
