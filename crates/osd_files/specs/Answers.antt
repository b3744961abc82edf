-- what a register and a lease report, in the rows' terms
use Rattle.std.specs.Prelude.{ℕ, Option, [], ◌∷◌, IsTrue, is_some}
use Rattle.xt_base.specs.declared.ids.NodeId.{NodeId}
use Rattle.xt_base.specs.declared.ids.FileId.{FileId}
use Rattle.xt_base.specs.declared.ids.Ballot.{Ballot}
use Rattle.xt_base.specs.declared.ids.Boot.{Boot}
use Rattle.xt_messages.specs.declared.message.Payload.TheVariants as payload
use Rattle.xt_protocol.specs.declared.turned.Turned.{Turned}
use Rattle.xt_protocol.specs.Turns.{sends, message}
use Rattle.xt_messages.specs.declared.file.Location.{Location}
use Rattle.flease.specs.declared.acceptor.ReadAnswer.{ReadAnswer}
use Rattle.flease.specs.declared.acceptor.ReadAnswer.TheVariants as read
use Rattle.flease.specs.declared.acceptor.WriteAnswer.{WriteAnswer}
use Rattle.flease.specs.declared.acceptor.WriteAnswer.TheVariants as write
use Rattle.flease.specs.declared.news.News.{News}
use Rattle.flease.specs.declared.news.News.TheVariants as news
use Rattle.flease.specs.Moves.{turn_of}
use Rattle.osd_invariants.specs.Sound.{IsStored}
use Rattle.xt_protocol.specs.Register as register
use Rattle.xt_protocol.specs.LeaseRows as told

abbrev pub read_answer : ReadAnswer → register.ReadAnswer
read_answer (read.Promise report) = register.promise report
read_answer (read.Refused seen) = register.read_refused seen

abbrev pub write_answer : WriteAnswer → register.WriteAnswer
write_answer write.Accepted = register.accepted
write_answer (write.Refused seen) = register.write_refused seen
write_answer write.OtherBoot = register.other_boot

-- what answers a Write
abbrev pub answered_write : NodeId → FileId → NodeId → Ballot → Boot → register.WriteAnswer → Turned
answered_write node file from ballot boot register.accepted = sends (message node from (payload.Accepted file ballot boot) ∷ [])
answered_write node file from ballot boot (register.write_refused seen) = sends (message node from (payload.Outrun file ballot seen) ∷ [])
answered_write node file from ballot boot register.other_boot = sends []

abbrev pub news_of : News → told.LeaseNews
news_of news.Nothing = told.nothing
news_of (news.Writes ballot lease targets) = told.sends_write ballot lease targets
news_of (news.Holds end) = told.holds end
news_of (news.Finds found) = told.finds found
news_of news.Ends = told.ends

-- a lease gives a turn
abbrev pub HasTurn : told.LeaseState → ℕ → Type 0
HasTurn l now = IsTrue (is_some (turn_of l now))

-- where the lease is held by the news, it gives a turn, and the file's list is stored
abbrev pub HoldBy : News → told.LeaseState → ℕ → Option Location → Type 0
HoldBy (news.Holds end) l now location = HasTurn l now × IsStored location
HoldBy news.Nothing l now location = Unit {0}
HoldBy (news.Writes ballot lease targets) l now location = Unit {0}
HoldBy (news.Finds found) l now location = Unit {0}
HoldBy news.Ends l now location = Unit {0}
