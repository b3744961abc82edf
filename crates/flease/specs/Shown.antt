-- what the calls report, in the words of the definitions
use Rattle.std.specs.Prelude.{ℕ, if◌then◌else◌, Option, Some, None}
use Rattle.xt_base.specs.declared.ids.Ballot.{Ballot}
use Rattle.xt_base.specs.declared.ids.Lease.{Lease}
use Rattle.flease.specs.declared.held.Renewal.{Renewal}
use Rattle.flease.specs.declared.held.Renewal.TheVariants as given
use Rattle.xt_protocol.specs.LeaseRows.{LeaseState, free, asking, writing, held, has_run_out, has_turn, LeaseNews}
use Rattle.xt_protocol.specs.LeaseRows as lease
use Rattle.flease.specs.declared.news.Expiry.{Expiry}
use Rattle.flease.specs.declared.news.Expiry.TheVariants.{Stands, RanOut, Lapsed}
use Rattle.flease.specs.declared.news.News.{News}
use Rattle.flease.specs.declared.news.News.TheVariants as news

-- what is overdue: the lease, or the round for one
abbrev pub expiry_of : LeaseState → ℕ → Expiry
expiry_of (free p) now = Stands
expiry_of (asking r) now = if has_run_out r now then RanOut else Stands
expiry_of (writing r) now = if has_run_out r now then RanOut else Stands
expiry_of (held h) now = if has_turn h now then Stands else Lapsed

abbrev pub shown_news : LeaseNews → News
shown_news lease.nothing = news.Nothing
shown_news (lease.sends_write ballot lease targets) = news.Writes ballot lease targets
shown_news (lease.holds end) = news.Holds end
shown_news (lease.finds found) = news.Finds found
shown_news lease.ends = news.Ends

-- the news of a renewal, by the ballot of its round and the lease that it writes
abbrev pub news_by : Renewal → Option (Ballot × Lease) → News
news_by renewal None = news.Nothing
news_by given.Nothing (Some round) = news.Nothing
news_by (given.WriteTo targets) (Some round) = news.Writes round.0 round.1 targets
news_by (given.Renewed end) (Some round) = news.Holds end
