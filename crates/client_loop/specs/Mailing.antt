-- what becomes of the messages of a client
use Rattle.std.specs.Prelude.{ℕ, Bool, false, ◌≡◌, ◌+◌, Option, Some, None, List, fold, take}
use Rattle.std.specs.List.{list_all}
use Rattle.xt_base.specs.declared.ids.NodeId.{NodeId}
use Rattle.xt_base.specs.declared.ids.Boot.{Boot}
use Rattle.xt_messages.specs.declared.message.Msg.{Msg}
use Rattle.node_links.specs.declared.link.Datagram.{Datagram}
use Rattle.node_runs.specs.Hearing.{Book, address_of}
use Rattle.node_runs.specs.Links.{Sends}
use Rattle.node_runs.specs.Posting.{Posted, posted_to, none_posted, datagrams_to}
use Rattle.node_mail.specs.declared.posting.Sender.{Sender}

-- A message whose receiver has no address isn't sent. The others are numbered from 1 in each boot.
abbrev pub one_mailed : NodeId → Boot → Book → Posted → Msg → Posted
one_mailed node boot book before msg = posted_to node boot msg (address_of book msg.to) before

abbrev pub mailed : NodeId → Boot → Book → Posted → List Msg → Posted
mailed node boot book before msgs = fold (one_mailed node boot book) before msgs

-- a front of messages was sent
abbrev pub FrontMailed : NodeId → Boot → Book → ℕ → List Msg → (List Datagram → Type 0) → Type 0
FrontMailed node boot book count msgs handed =
    (front : ℕ) × handed (mailed node boot book (none_posted count) (take front msgs)).datagrams

-- whether a message went: its receiver has an address, and each of its parts was taken
abbrev pub IsTaken : Sender → Msg → Option (List Datagram) → Option (List Datagram) → ℕ → ℕ → Option (List ℕ) → Bool → Type 0
IsTaken sender msg before after losses later None all = all ≡ false
IsTaken sender msg before after losses later (Some address) all =
    (sends : Sends before after losses later
    (datagrams_to address (record { sender = sender.node; boot = sender.boot; number = sender.count + 1 }) msg))
    × (all ≡ list_all (λ ok. ok) sends.taken)
