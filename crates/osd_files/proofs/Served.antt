-- what becomes of an ask, by what the code tests
use Rattle.std.proofs.Common.{◌≡◌, ◌∙◌, ℕ, Bool, true, false, refl, ap, sym, Option, Some, None, cond}
use Rattle.std.specs.Prelude.{◌&&◌, is_some}
use Rattle.xt_messages.specs.declared.record.Record.{Record}
use Rattle.xt_protocol.specs.declared.turned.Turned.{Turned}
use Rattle.xt_protocol.specs.LeaseRows.{LeaseState, Proposer, Turn, free, asking, writing, held, has_turn}
use Rattle.flease.specs.Moves.{turn_of, is_free, IsSettled}
use Rattle.xt_protocol.specs.declared.states.Asks.{Asks}
use Rattle.xt_protocol.specs.declared.states.PrimaryState.{PrimaryState}
use Rattle.xt_protocol.specs.declared.states.WaitingAsk.{WaitingAsk}
use Rattle.xt_protocol.specs.FileStates.{FileState, Site, FileStep, ground_of, serves_to, staged_after}
use Rattle.xt_protocol.specs.Primaries.{Led, issued_by, is_active}
use Rattle.xt_protocol.specs.ReplicaRows.{kept_after}
use Rattle.xt_protocol.specs.Serving.{reads, writes}
use Rattle.xt_protocol.specs.Turns.{quiet, joined}
use Rattle.xt_protocol.specs.Asks.{Served, asked_already, is_read, read_answer, serves, write_done, waits}
use Rattle.xt_protocol.specs.AskRows.{ask_rows, serve_ask, ask_under, ask_waits}
use Rattle.osd_invariants.proofs.Kept.{served_none}
use Rattle.osd_files.specs.Asking.{asks_once_done}
use Rattle.osd_files.proofs.Rows.{when_true, when_false}

-- the primary and the asks before
abbrev before : FileState → Served
before s = record { primary = s.primary; asks = s.asks; turned = quiet }

-- a write isn't read
written : (site : Site) (s : FileState) (ask : WaitingAsk) → is_read ask.op ≡ false
    → serves (ground_of site s) (before s) ask (waits s.asks ask)
    ≡ write_done (before s) ask (writes (ground_of site s) s.primary ask.id ask.epoch ask.op) (waits s.asks ask)
written site s ask so = when_false (is_read ask.op) _ _ so

-- a write was answered, refused or issued
pub write_row : (site : Site) (s : FileState) (ask : WaitingAsk) (primary : PrimaryState) (turned : Turned) (asks : Asks) → is_read ask.op ≡ false
    → writes (ground_of site s) s.primary ask.id ask.epoch ask.op ≡ Some (record { primary = primary; turned = turned })
    → asks ≡ asks_once_done s.asks (is_some (issued_by primary.tenure)) ask
    → serve_ask site s ask ≡ record { state = record s { primary = primary; asks = asks }; turned = turned }
write_row site s ask primary turned asks so led marked =
    let left = waits s.asks ask in
    let done : Served = record { primary = primary; asks = asks_once_done s.asks (is_some (issued_by primary.tenure)) ask; turned = joined quiet turned } in
    let is : serves (ground_of site s) (before s) ask left ≡ done =
    written site s ask so ∙ ap (λ (o : Option Led). write_done (before s) ask o left) led in
    let none : turned.rec ≡ None = sym (ap (λ (v : Served). v.turned.rec) is) ∙ served_none (ground_of site s) (before s) ask left refl in
    let by : Option Record → Asks → FileStep = λ rec x. record { state = record s { kept = kept_after s.kept rec; staged = staged_after s.staged rec; primary = primary; asks = x }; turned = turned } in
    ap (serves_to s) is ∙ ap (λ (rec : Option Record). by rec done.asks) none ∙ ap (by None) (sym marked)

-- a write meets an issued one
pub write_waits : (site : Site) (s : FileState) (ask : WaitingAsk) (asks : Asks) → is_read ask.op ≡ false
    → writes (ground_of site s) s.primary ask.id ask.epoch ask.op ≡ None → asks ≡ waits s.asks ask
    → serve_ask site s ask ≡ record { state = record s { asks = asks }; turned = quiet }
write_waits site s ask asks so led wait =
    let left = waits s.asks ask in
    let by : Asks → FileStep = λ x. record { state = record s { asks = x }; turned = quiet } in
    ap (serves_to s) (written site s ask so ∙ ap (λ (o : Option Led). write_done (before s) ask o left) led) ∙ ap by (sym wait)

-- a read is answered, and the file stays as it is
pub read_row : (site : Site) (s : FileState) (ask : WaitingAsk) → is_read ask.op ≡ true
    → serve_ask site s ask ≡ record { state = s; turned = read_answer (ground_of site s) ask.id (reads (ground_of site s) s.primary ask.op) }
read_row site s ask so =
    let left = waits s.asks ask in
    let turned = read_answer (ground_of site s) ask.id (reads (ground_of site s) s.primary ask.op) in
    let done : Served = record { primary = s.primary; asks = s.asks; turned = joined quiet turned } in
    let is : serves (ground_of site s) (before s) ask left ≡ done = when_true (is_read ask.op) _ _ so in
    let none : turned.rec ≡ None = sym (ap (λ (v : Served). v.turned.rec) is) ∙ served_none (ground_of site s) (before s) ask left refl in
    let by : Option Record → FileStep = λ rec. record { state = record s { kept = kept_after s.kept rec; staged = staged_after s.staged rec }; turned = turned } in
    ap (serves_to s) is ∙ ap by none

-- an ask that wasn't asked already
pub new_ask : (site : Site) (s : FileState) (ask : WaitingAsk) → asked_already s.asks ask.id ≡ false → ask_rows site s ask ≡ ask_under site s s.lease ask
new_ask site s ask so = when_false (asked_already s.asks ask.id) _ _ so

-- By the lease.

pub free_by : (l : LeaseState) → is_free l ≡ true → (p : Proposer) × (l ≡ free p)
free_by (free p) is = (p, refl)
free_by (asking r) is = absurd cc
free_by (writing r) is = absurd cc
free_by (held h) is = absurd cc

and_first : (a b : Bool) → (a && b) ≡ true → a ≡ true
and_first true b is = refl
and_first false b is = absurd cc

and_second : (a b : Bool) → (a && b) ≡ true → b ≡ true
and_second true b is = is
and_second false b is = absurd cc

pub has_turn_then : (l : LeaseState) (now : ℕ) (active : Bool) → (is_some (turn_of l now) && active) ≡ true → is_some (turn_of l now) ≡ true
has_turn_then l now active is = and_first _ _ is

pub serves_under : (site : Site) (s : FileState) (l : LeaseState) (ask : WaitingAsk) → (is_some (turn_of l site.now) && is_active s.primary.tenure) ≡ true
    → ask_under site s l ask ≡ serve_ask site s ask
serves_under site s (held h) ask is = when_true (is_active s.primary.tenure) _ _ (and_second (is_some (turn_of (held h) site.now)) _ is)
serves_under site s (free p) ask is = absurd cc
serves_under site s (asking r) ask is = absurd cc
serves_under site s (writing r) ask is = absurd cc

some_and : (b : Bool) (t : Turn) (c : Bool) → b ≡ true → (is_some (cond b (Some t) None) && c) ≡ false → c ≡ false
some_and true t c is so = so
some_and false t c is so = absurd cc

pub waits_under : (site : Site) (s : FileState) (l : LeaseState) (ask : WaitingAsk) → is_free l ≡ false → IsSettled l site.now
    → (is_some (turn_of l site.now) && is_active s.primary.tenure) ≡ false → ask_under site s l ask ≡ ask_waits s ask
waits_under site s (held h) ask no_lease settled so =
    when_false (is_active s.primary.tenure) _ _
    (some_and (has_turn h site.now) (record { node = h.proposer.node; moment = site.now }) (is_active s.primary.tenure) settled so)
waits_under site s (asking r) ask no_lease settled so = refl
waits_under site s (writing r) ask no_lease settled so = refl
waits_under site s (free p) ask no_lease settled so = absurd cc
