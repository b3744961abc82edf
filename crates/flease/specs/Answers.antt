-- the answers of the definitions as the calls give them
use Rattle.std.specs.Prelude.{Option, Some, None}
use Rattle.xt_base.specs.declared.ids.Ballot.{Ballot}
use Rattle.xt_base.specs.declared.ids.Lease.{Lease}
use Rattle.xt_protocol.specs.Register.{Round, lease_of}
use Rattle.xt_protocol.specs.Register as register
use Rattle.xt_protocol.specs.LeaseRows as protocol
use Rattle.flease.specs.declared.acceptor.ReadAnswer.{ReadAnswer}
use Rattle.flease.specs.declared.acceptor.ReadAnswer.TheVariants as read
use Rattle.flease.specs.declared.acceptor.WriteAnswer.{WriteAnswer}
use Rattle.flease.specs.declared.acceptor.WriteAnswer.TheVariants as write
use Rattle.flease.specs.declared.round.Took.{Took}
use Rattle.flease.specs.declared.round.Took.TheVariants as took
use Rattle.flease.specs.declared.asking.Asked.{Asked}
use Rattle.flease.specs.declared.asking.Asked.TheVariants as asked
use Rattle.flease.specs.declared.writing.Written.{Written}
use Rattle.flease.specs.declared.writing.Written.TheVariants as written
use Rattle.flease.specs.declared.held.Renewal.{Renewal}
use Rattle.flease.specs.declared.held.Renewal.TheVariants as renewal

-- of the register

abbrev pub shown_read : register.ReadAnswer → ReadAnswer
shown_read (register.promise report) = read.Promise report
shown_read (register.read_refused seen) = read.Refused seen

abbrev pub shown_write : register.WriteAnswer → WriteAnswer
shown_write register.accepted = write.Accepted
shown_write (register.write_refused seen) = write.Refused seen
shown_write register.other_boot = write.OtherBoot

abbrev pub shown_took : register.Took → Took
shown_took register.ignored = took.Ignored
shown_took register.counted = took.Counted
shown_took (register.write_to targets) = took.WriteTo targets
shown_took (register.alive lease) = took.Alive lease

-- of the states

abbrev pub shown_asked : protocol.Asked → Asked
shown_asked (protocol.asked_still round) = asked.Still round
shown_asked (protocol.asked_write round targets) = asked.Write round targets
shown_asked (protocol.asked_found proposer lease) = asked.Found proposer lease

abbrev pub shown_written : protocol.Written → Written
shown_written (protocol.written_still round) = written.Still round
shown_written (protocol.written_won held) = written.Won held
shown_written (protocol.written_late proposer) = written.Late proposer

abbrev pub shown_renewal : protocol.Renewal → Renewal
shown_renewal protocol.no_news = renewal.Nothing
shown_renewal (protocol.renewal_write targets) = renewal.WriteTo targets
shown_renewal (protocol.renewed end) = renewal.Renewed end

-- the ballot of the round that renews a lease, if one runs, and the lease that it writes
abbrev pub renewal_round : Option Round → Option (Ballot × Lease)
renewal_round None = None
renewal_round (Some round) = Some (round.ballot, lease_of round)
