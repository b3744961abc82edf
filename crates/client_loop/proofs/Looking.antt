-- what a look comes to
use Rattle.std.proofs.Common.{ℕ, ◌≡◌, ◌≤◌, ◌<◌, ◌+◌, refl, sym, subst, Option, Some, None, List, [], ◌∷◌}
use Rattle.std.specs.Option.{IfSome}
use Rattle.node_links.specs.declared.link.Datagram.{Datagram}
use Rattle.node_links.specs.Streams.{Takes}
use Rattle.node_runs.specs.Hearing.{hears}
use Rattle.node_runs.specs.Links.{Reads}
use Rattle.node_runs.proofs.Sending.{takes_none, reads_none}
use Rattle.client_loop.specs.declared.listening.Listener.{Listener}
use Rattle.client_loop.specs.declared.listening.Listened.{Listened}
use Rattle.client_loop.specs.declared.listening.Listened.TheVariants as listened
use Rattle.client_loop.specs.declared.errors.DriveErr.{DriveErr}
use Rattle.client_loop.specs.declared.errors.DriveErr.TheVariants as error
use Rattle.client_loop.specs.Listening.{late, came, receives, heard_as, HasReceived, CannotReceive, HasLooked, CannotLook, no_traffic}

pub given_same : (before after : Option (List Datagram)) → after ≡ before → Takes before after []
given_same before after e = subst (λ o. Takes before o []) (sym e) (takes_none before)

pub read_same : (before after : Option (List ℕ)) → after ≡ before → Reads before after []
read_same before after e = subst (λ o. Reads before o []) (sym e) (reads_none before)

pub nothing_came : (l new : Listener) (before after : Option (List Datagram)) → after ≡ before → IfSome before (λ datagrams. datagrams ≡ [])
    → new ≡ record l { spent = l.spent + 1 } → HasReceived l before after new listened.Nothing
nothing_came l new before after same none is = record { datagram = None; gave = (same, none); is = is; told = refl }

pub one_came : (l new : Listener) (before after : Option (List Datagram)) (datagram : Datagram) (made : Listened) → Takes before after (datagram ∷ [])
    → new ≡ receives l (Some datagram) → made ≡ heard_as (hears l.node l.ears datagram).message → HasReceived l before after new made
one_came l new before after datagram made takes is told = record { datagram = Some datagram; gave = takes; is = is; told = told }

pub no_memory : (before after : Option (List Datagram)) (datagram : Datagram) (why : DriveErr) → Takes before after (datagram ∷ []) → why ≡ error.OutOfMemory
    → CannotReceive before after why
no_memory before after datagram why takes is = subst (CannotReceive before after) (sym is) (datagram, takes)

pub was_late : (until reading : ℕ) (l new : Listener) (before after : Option (List Datagram)) (unread read : Option (List ℕ)) → until ≤ reading → after ≡ before
    → Reads unread read (reading ∷ []) → new ≡ l → HasLooked until l before after unread read new (listened.Late reading)
was_late until reading l new before after unread read is_late same reads is =
    record { look = late reading; may = is_late; gave = same; reads = reads; is = is; told = refl }

pub has_looked : (until reading : ℕ) (l new : Listener) (before after : Option (List Datagram)) (unread read : Option (List ℕ)) (made : Listened) → reading < until
    → l.spent < l.turns → Reads unread read (reading ∷ []) → HasReceived l before after new made → HasLooked until l before after unread read new made
has_looked until reading l new before after unread read made early more reads has =
    record { look = came reading has.datagram; may = (early, more); gave = has.gave; reads = reads; is = has.is; told = has.told }

pub clock_failed : (until : ℕ) (l : Listener) (before after : Option (List Datagram)) (unread read : Option (List ℕ)) (count : ℕ) (why : DriveErr) → after ≡ before → read ≡ unread
    → why ≡ error.Clock count → CannotLook until l before after unread read why
clock_failed until l before after unread read count why same still is =
    subst (CannotLook until l before after unread read) (sym is) (record { undone = no_traffic; received = given_same before after same; reads = read_same unread read still; silent = refl; ends = refl })

pub turns_spent : (until reading : ℕ) (l : Listener) (before after : Option (List Datagram)) (unread read : Option (List ℕ)) → reading < until → l.spent ≡ l.turns → after ≡ before
    → Reads unread read (reading ∷ []) → CannotLook until l before after unread read (error.TurnsSpent l.turns)
turns_spent until reading l before after unread read early all same reads = record {
  undone = record { readings = reading ∷ []; received = []; sent = [] };
  received = given_same before after same;
  reads = reads;
  silent = refl;
  ends = (reading, early, all, refl, refl);
}

pub cannot_look : (until reading : ℕ) (l : Listener) (before after : Option (List Datagram)) (unread read : Option (List ℕ)) (why : DriveErr) → reading < until
    → l.spent < l.turns → Reads unread read (reading ∷ []) → CannotReceive before after why → CannotLook until l before after unread read why
cannot_look until reading l before after unread read (error.Link count) early more reads same = record {
  undone = record { readings = reading ∷ []; received = []; sent = [] };
  received = given_same before after same;
  reads = reads;
  silent = refl;
  ends = (reading, early, more, refl);
}
cannot_look until reading l before after unread read error.OutOfMemory early more reads took = record {
  undone = record { readings = reading ∷ []; received = took.0 ∷ []; sent = [] };
  received = took.1;
  reads = reads;
  silent = refl;
  ends = (reading, took.0, early, more, refl);
}
cannot_look until reading l before after unread read (error.Clock count) early more reads none = absurd none
cannot_look until reading l before after unread read (error.TurnsSpent turns) early more reads none = absurd none
cannot_look until reading l before after unread read error.NumbersSpent early more reads none = absurd none
