-- what is overdue at a file, before any row
use Rattle.std.specs.Prelude.{ℕ, Bool, true, nat_le, not, if◌then◌else◌, Option, Some, None, ◌++◌, filter}
use Rattle.xt_messages.specs.declared.reply.Reply.{Reply}
use Rattle.xt_messages.specs.declared.reply.Reply.TheVariants as reply
use Rattle.xt_protocol.specs.LeaseRows.{LeaseState, free, asking, writing, held, lease_expired}
use Rattle.xt_protocol.specs.declared.states.WaitingAsk.{WaitingAsk}
use Rattle.xt_protocol.specs.declared.states.IssuedAsk.{IssuedAsk}
use Rattle.xt_protocol.specs.declared.states.Tenure.{Tenure}
use Rattle.xt_protocol.specs.Turns.{sends}
use Rattle.xt_protocol.specs.Primaries.{idle, majority_among, have_in}
use Rattle.xt_protocol.specs.Asks.{no_asks, tells_each, tells_untold}
use Rattle.xt_protocol.specs.FileStates.{FileState, Site, FileStep, nothing, steps_to}

-- all asks get the answer that there is no lease: the issued one unless it was answered, then those that wait
abbrev pub no_lease_for_all : Site → FileState → FileStep
no_lease_for_all site s =
    let answer = reply.NoLease s.last_end in
    steps_to (record s { asks = no_asks })
    (sends (tells_untold site.node s.kept.file s.asks.issued answer ++ tells_each site.node s.kept.file s.asks.waiting answer))

-- lease lapses: the primary is idle
abbrev pub lease_lapses : Site → FileState → FileStep
lease_lapses site s = no_lease_for_all site (record s { primary = idle s.primary })

-- Deadlines.

abbrev pub is_due : ℕ → WaitingAsk → Bool
is_due now ask = nat_le ask.deadline now

-- the issued ask, marked as answered where it is due
abbrev pub issued_due : ℕ → Option IssuedAsk → Option IssuedAsk
issued_due now None = None
issued_due now (Some issued) = Some (record issued { told = if is_due now issued.ask then true else issued.told })

-- the issued ask where it has just become due
abbrev pub newly_due : ℕ → Option IssuedAsk → Option IssuedAsk
newly_due now None = None
newly_due now (Some issued) = if is_due now issued.ask then Some issued else None

-- no majority has answered: the asks that are due get the number that has, those that wait first; the issued write stays
abbrev pub deadlines_come : Site → FileState → Reply → FileStep
deadlines_come site s answer =
    let due = filter (is_due site.now) s.asks.waiting in
    let left = filter (λ w. not (is_due site.now w)) s.asks.waiting in
    steps_to (record s { asks = record { waiting = left; issued = issued_due site.now s.asks.issued } })
    (sends (tells_each site.node s.kept.file due answer ++ tells_untold site.node s.kept.file (newly_due site.now s.asks.issued) answer))

-- only a primary that isn't idle has deadlines
abbrev pub deadlines_under : Site → FileState → Option Tenure → FileStep
deadlines_under site s None = nothing s
deadlines_under site s (Some t) = deadlines_come site s (reply.NoMajority (have_in t.peers t.progress) (majority_among t.peers))

-- what became of the lease: it lapsed; a round ran out; else deadlines may have come
abbrev pub lease_became : Site → FileState → LeaseState → LeaseState → FileStep
lease_became site s (held h) (free p) = lease_lapses site s
lease_became site s (asking r) (free p) = no_lease_for_all site s
lease_became site s (writing r) (free p) = no_lease_for_all site s
lease_became site s before after = deadlines_under site s s.primary.tenure

-- What is overdue at a file: lease lapses; round runs out; deadlines come.
unfoldable pub expired : Site → FileState → FileStep
expired site s =
    let after = lease_expired s.lease site.now in
    lease_became site (record s { lease = after }) s.lease after
