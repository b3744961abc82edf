-- what a call makes of the lease, beside the rows of `LeaseRows`
use Rattle.std.specs.Prelude.{ℕ, Bool, true, false, not, ◌||◌, ◌≡◌, if◌then◌else◌, Option, Some, None, List, IsTrue}
use Rattle.xt_base.specs.declared.ids.NodeId.{NodeId}
use Rattle.xt_base.specs.declared.ids.Ballot.{Ballot}
use Rattle.xt_protocol.specs.Register.{Round}
use Rattle.xt_protocol.specs.LeaseRows.{LeaseState, Held, Turn, free, asking, writing, held, can_ask, round_starts, is_renewal_due, renewal_starts, has_turn, turn_at, has_run_out, lease_expired}
use Rattle.flease.specs.declared.news.Expiry.TheVariants.{Stands}
use Rattle.flease.specs.Shown.{expiry_of}

-- nothing is overdue: a lease that is held gives a turn
abbrev pub IsSettled : LeaseState → ℕ → Type 0
IsSettled (held h) now = IsTrue (has_turn h now)
IsSettled (free p) now = Unit {0}
IsSettled (asking r) now = Unit {0}
IsSettled (writing r) now = Unit {0}

-- a renewal has run for half the lease length
abbrev pub is_renewal_overdue : Option Round → ℕ → Bool
is_renewal_overdue None now = false
is_renewal_overdue (Some r) now = has_run_out r now

-- a lease that is held gives no turn, or its renewal has run out
abbrev pub is_held_overdue : Held → ℕ → Bool
is_held_overdue h now = not (has_turn h now) || is_renewal_overdue h.renewal now

-- whether something is overdue
abbrev pub is_overdue : LeaseState → ℕ → Bool
is_overdue (free p) now = false
is_overdue (asking r) now = has_run_out r now
is_overdue (writing r) now = has_run_out r now
is_overdue (held h) now = is_held_overdue h now

-- Nothing is overdue: the lease is as it was, and stands, and gives a turn where it is held.
pub record NothingOverdue (lease : LeaseState) (now : ℕ) : Type 0 where
  pub same : lease_expired lease now ≡ lease
  pub stands : expiry_of lease now ≡ Stands
  pub settled : IsSettled lease now

-- a file without a lease asks for one, where there is a count left
abbrev pub asks_at : LeaseState → ℕ → List NodeId → LeaseState
asks_at (free p) now members = if can_ask p then asking (round_starts p now members) else free p
asks_at other now members = other

-- the ballot of the round that starts so
abbrev pub ballot_asked : LeaseState → ℕ → List NodeId → Option Ballot
ballot_asked (free p) now members = if can_ask p then Some (round_starts p now members).ballot else None
ballot_asked other now members = None

-- a holder renews its lease, where that is due
abbrev pub renews_at : LeaseState → ℕ → ℕ → List NodeId → LeaseState
renews_at (held h) now used members = if is_renewal_due h now used then held (renewal_starts h now members) else held h
renews_at other now used members = other

abbrev pub ballot_renewed : LeaseState → ℕ → ℕ → List NodeId → Option Ballot
ballot_renewed (held h) now used members =
    if is_renewal_due h now used then Some (round_starts h.proposer now members).ballot else None
ballot_renewed other now used members = None

-- the holder's turn at a moment
abbrev pub turn_of : LeaseState → ℕ → Option Turn
turn_of (held h) now = turn_at h now
turn_of other now = None

abbrev pub is_free : LeaseState → Bool
is_free (free p) = true
is_free other = false
