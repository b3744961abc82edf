-- how a turn begins
use Rattle.std.proofs.Common.{ℕ, ◌≡◌, subst, sym, Option, List, [], ◌∷◌}
use Rattle.node_links.specs.declared.link.Datagram.{Datagram}
use Rattle.node_links.specs.Streams.{Takes}
use Rattle.node_runs.specs.Links.{Reads}
use Rattle.node_runs.specs.Runs.{Begins, datagrams_in}
use Rattle.node_runs.proofs.Sending.{takes_none}
use Rattle.node_loop.specs.declared.opening.Opening.{Opening}
use Rattle.node_loop.specs.declared.opening.Opening.TheVariants as opening
use Rattle.node_loop.specs.Turns.{Opened, HasBegun, IsWithin, turn_of}

gives_same : (before after : Option (List Datagram)) → after ≡ before → Takes before after []
gives_same before after e = subst (λ o. Takes before o []) (sym e) (takes_none before)

pub has_begun : (left : ℕ) (before after : Option (List Datagram)) (unread read : Option (List ℕ)) (buf : List ℕ) (o : Opening) (reading : ℕ)
    → Opened left before after buf o → Reads unread read (reading ∷ []) → HasBegun left before after unread read (turn_of buf o reading)
has_begun left before after unread read buf opening.NoTimeLeft reading is reads = record { begins = is.0; received = gives_same before after is.1; reads = reads }
has_begun left before after unread read buf opening.NothingCame reading is reads =
    record { begins = (is.0, is.1); received = gives_same before after is.2; reads = reads }
has_begun left before after unread read buf (opening.Piece from len) reading is reads = record { begins = is.0; received = is.2; reads = reads }

pub is_within : (left : ℕ) (before after : Option (List Datagram)) (buf : List ℕ) (o : Opening) → Opened left before after buf o → IsWithin buf o
is_within left before after buf opening.NoTimeLeft is = tt
is_within left before after buf opening.NothingCame is = tt
is_within left before after buf (opening.Piece from len) is = is.1

-- the turn that a failed reading leaves
pub unread : (left : ℕ) (before after : Option (List Datagram)) (buf : List ℕ) (o : Opening) → Opened left before after buf o
    → Begins before left (turn_of buf o 0)
unread left before after buf opening.NoTimeLeft is = is.0
unread left before after buf opening.NothingCame is = (is.0, is.1)
unread left before after buf (opening.Piece from len) is = is.0

pub given : (left : ℕ) (before after : Option (List Datagram)) (buf : List ℕ) (o : Opening) → Opened left before after buf o
    → Takes before after (datagrams_in (turn_of buf o 0 ∷ []))
given left before after buf opening.NoTimeLeft is = gives_same before after is.1
given left before after buf opening.NothingCame is = gives_same before after is.2
given left before after buf (opening.Piece from len) is = is.2
