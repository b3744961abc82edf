-- A served node goes on from its start: what holds at its start and is kept by each turn, by each message to itself, and where its
-- records are rewritten or left, holds.
use Rattle.std.proofs.Common.{ℕ, ◌≡◌, ◌≤◌, Bool, false, refl, sym, ◌∙◌, ap, subst, Option, Some, None, List, [], ◌∷◌, ◌++◌, arith, max}
use Rattle.std.proofs.lemmas.List.{append_assoc, append-nil}
use Rattle.std.specs.Option.{option_map}
use Rattle.xt_base.specs.declared.ids.Boot.{Boot}
use Rattle.xt_messages.specs.declared.message.Msg.{Msg}
use Rattle.xt_messages.specs.declared.event.Event.{Event}
use Rattle.xt_messages.specs.declared.event.Event.TheVariants as event
use Rattle.xt_messages.specs.declared.record.KeepBody.{KeepBody}
use Rattle.xt_messages.specs.declared.record.Record.{Record}
use Rattle.replica_records.specs.Known.{as_known, Sees}
use Rattle.world_spec.specs.NodeSteps.{one_more}
use Rattle.node_links.specs.declared.link.Datagram.{Datagram}
use Rattle.node_links.specs.Streams.{Takes}
use Rattle.node_runs.specs.Runs.{Role, Turn, woke, idle, came, Served, handles, takes, meets, event_in, goes_through, Rewrites, rewrites_with, Passes, by_turn, by_own, by_rewriting, by_no_room, by_rest, Comes, begun, passed, datagrams_in}
use Rattle.node_runs.specs.Laws.{GoesOn}
use Rattle.node_runs.proofs.Sending.{takes_none, takes_more}

module _ {S : Type 0} (told : Bool) (role : Role S) (boot : Boot) (period : ℕ) (to_come : Option (List Datagram)) (start : Served S) where
  module _ (P : Served S → Type 0) (first : P start)
      (each_turn : (s : Served S) (turn : Turn) (seen : List Record) → P s → Sees told s.kept seen → P (takes told role boot period s seen turn))
      (each_own : (s : Served S) (msg : Msg) (rest : List Msg) (seen : List Record) → P s → Sees told s.kept seen → s.own ≡ msg ∷ rest
      → P (handles told role boot period (record s { own = rest }) seen (event.Deliver msg)))
      (each_rewriting : (s : Served S) (keep : List KeepBody) → P s → Rewrites role boot period s keep → P (rewrites_with role boot period s keep))
      (each_look : (s : Served S) → P s → P (record s { woken = false }))
    where
      kept_by_one : (left : Option (List Datagram)) (s : Served S) (turns : List Turn) (posts : List Datagram) (next : Served S)
          → Passes told role boot period left s turns posts next → P s → P next
      kept_by_one left s turns posts next (by_turn turn seen sees alone rested begins ends) p = each_turn s turn seen p sees
      kept_by_one left s turns posts next (by_own msg rest seen sees own) p = each_own s msg rest seen p sees own
      kept_by_one left s turns posts next (by_rewriting keep is room) p = each_rewriting s keep p is
      kept_by_one left s turns posts next (by_no_room keep need is lacking) p = each_look s p
      kept_by_one left s turns posts next (by_rest is) p = each_look s p

      pub kept_by_all : (left : Option (List Datagram)) (turns : List Turn) (posts : List Datagram) (s : Served S)
          → Comes told role boot period to_come start left turns posts s → P s
      kept_by_all left turns posts s begun = first
      kept_by_all left turns posts s (passed between after turns' more before mailed s' next comes one gives) =
          kept_by_one between s' more mailed next one (kept_by_all between turns' before s' comes)

  -- ---- what every served node keeps to

  one_more-goes : (kept : List Record) (rec : Option Record) (before : List Record) → kept ≡ start.kept ++ before
      → (after : List Record) × (one_more kept rec ≡ start.kept ++ after)
  one_more-goes kept None before e = (before, e)
  one_more-goes kept (Some rec) before e =
      (before ++ rec ∷ [], ap (λ xs. xs ++ rec ∷ []) e ∙ append_assoc start.kept before (rec ∷ []))

  goes_handles : (s : Served S) (seen : List Record) (happens : Event) → GoesOn role start s → GoesOn role start (handles told role boot period s seen happens)
  goes_handles s seen happens g = record {
    records = λ never. let before = g.records never in
        one_more-goes s.kept (option_map (as_known told) (role.step seen s.state s.clock happens).turned.rec) before.0 before.1;
    clock = g.clock;
  }

  goes_meets : (s : Served S) (turn : Turn) → GoesOn role start s → GoesOn role start (meets role boot period s turn)
  goes_meets s (woke reading) g =
      let still : start.clock ≤ s.clock = g.clock in
      let later : start.clock ≤ max reading s.clock = grind arith in
      record { records = g.records; clock = later }
  goes_meets s (idle reading) g =
      let still : start.clock ≤ s.clock = g.clock in
      let later : start.clock ≤ max reading s.clock = grind arith in
      record { records = g.records; clock = later }
  goes_meets s (came datagram reading) g =
      let still : start.clock ≤ s.clock = g.clock in
      let later : start.clock ≤ max reading s.clock = grind arith in
      record { records = g.records; clock = later }

  goes_through-on : (s : Served S) (seen : List Record) (happens : Option Event) → GoesOn role start s
      → GoesOn role start (goes_through told role boot period s seen happens)
  goes_through-on s seen None g = g
  goes_through-on s seen (Some happens) g = goes_handles s seen happens g

  goes_turn : (s : Served S) (turn : Turn) (seen : List Record) → GoesOn role start s → Sees told s.kept seen
      → GoesOn role start (takes told role boot period s seen turn)
  goes_turn s turn seen g sees = goes_through-on (meets role boot period s turn) seen (event_in role boot period s turn) (goes_meets s turn g)

  goes_own : (s : Served S) (msg : Msg) (rest : List Msg) (seen : List Record) → GoesOn role start s → Sees told s.kept seen → s.own ≡ msg ∷ rest
      → GoesOn role start (handles told role boot period (record s { own = rest }) seen (event.Deliver msg))
  goes_own s msg rest seen g sees own = goes_handles (record s { own = rest }) seen (event.Deliver msg) (record { records = g.records; clock = g.clock })

  goes_rewriting : (s : Served S) (keep : List KeepBody) → GoesOn role start s → Rewrites role boot period s keep
      → GoesOn role start (rewrites_with role boot period s keep)
  goes_rewriting s keep g is = record { records = λ never. absurd (let no : None ≡ Some keep = sym (never s.state) ∙ is.needs in cc no); clock = g.clock }

  goes_look : (s : Served S) → GoesOn role start s → GoesOn role start (record s { woken = false })
  goes_look s g = record { records = g.records; clock = g.clock }

  starts_on : GoesOn role start start
  starts_on = record { records = λ never. ([], sym (append-nil start.kept)); clock = grind arith }

  pub all_go_on : (left : Option (List Datagram)) (turns : List Turn) (posts : List Datagram) (s : Served S)
      → Comes told role boot period to_come start left turns posts s → GoesOn role start s
  all_go_on left turns posts s comes = kept_by_all (GoesOn role start) starts_on goes_turn goes_own goes_rewriting goes_look left turns posts s comes

  -- ---- what was received is what the turns say

  turns-join : (turns more : List Turn) → datagrams_in (turns ++ more) ≡ datagrams_in turns ++ datagrams_in more
  turns-join [] more = refl
  turns-join (woke reading ∷ turns) more = turns-join turns more
  turns-join (idle reading ∷ turns) more = turns-join turns more
  turns-join (came datagram reading ∷ turns) more = ap (λ xs. datagram ∷ xs) (turns-join turns more)

  pub takes_all : (left : Option (List Datagram)) (turns : List Turn) (posts : List Datagram) (s : Served S)
      → Comes told role boot period to_come start left turns posts s → Takes to_come left (datagrams_in turns)
  takes_all left turns posts s begun = takes_none to_come
  takes_all left turns posts s (passed between after turns' more before mailed s' next comes one gives) =
      subst (Takes to_come after) (sym (turns-join turns' more))
      (takes_more to_come between after (datagrams_in turns') (datagrams_in more) (takes_all between turns' before s' comes) gives)
