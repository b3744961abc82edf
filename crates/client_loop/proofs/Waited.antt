-- a wait, look by look
use Rattle.std.proofs.Common.{ℕ, ◌≡◌, ◌+◌, ◌∙◌, ap, refl, sym, subst, Option, Some, None, List, [], ◌∷◌}
use Rattle.xt_messages.specs.declared.message.Msg.{Msg}
use Rattle.node_links.specs.declared.link.Datagram.{Datagram}
use Rattle.node_links.specs.Streams.{Takes}
use Rattle.node_runs.proofs.Sending.{takes_none, takes_more, reads_none, reads_more}
use Rattle.client_loop.specs.declared.errors.DriveErr.{DriveErr}
use Rattle.client_loop.specs.declared.listening.Listener.{Listener}
use Rattle.client_loop.specs.declared.listening.Listened.{Listened}
use Rattle.client_loop.specs.declared.listening.Listened.TheVariants as listened
use Rattle.client_loop.specs.Listening.{Look, late, came, reading_of, datagrams_of, looks, told_by, GaveIn, HasLooked, CannotLook, HasDriveCause}
use Rattle.client_loop.specs.Waiting.{Waits, begun, passed, HasPassed, HasWaited, CannotWait}
use Rattle.client_loop.proofs.Looking.{given_same}

-- what a look took from the link
pub took : (before after : Option (List Datagram)) (look : Look) → GaveIn before after look → Takes before after (datagrams_of look)
took before after (late reading) same = given_same before after same
took before after (came reading None) same = given_same before after same.0
took before after (came reading (Some datagram)) takes = takes

module _ (until : ℕ) (start : Listener) (before : Option (List Datagram)) (unread : Option (List ℕ)) where
  pub has_begun : HasPassed until start before before unread unread start
  has_begun = record { received = []; readings = []; waits = begun; receives = takes_none before; reads = reads_none unread }

  module _ (mid after : Option (List Datagram)) (met read : Option (List ℕ)) (now new : Listener) (so_far : HasPassed until start before mid unread met now) where
    pub goes_on : (made : Listened) → made ≡ listened.Nothing → HasLooked until now mid after met read new made → HasPassed until start before after unread read new
    goes_on made none one = record {
      received = _;
      readings = _;
      waits = subst (Waits until before start after _ _) (sym one.is)
          (passed mid after so_far.received so_far.readings now one.look so_far.waits one.may one.gave (sym one.told ∙ none));
      receives = takes_more before mid after so_far.received (datagrams_of one.look) so_far.receives (took mid after one.look one.gave);
      reads = reads_more unread met read so_far.readings (reading_of one.look ∷ []) so_far.reads one.reads;
    }

    pub ends_late : (made : Listened) (reading : ℕ) → made ≡ listened.Late reading → HasLooked until now mid after met read new made
        → HasWaited until start before after unread read new None
    ends_late made reading e one = record {
      to_come = mid;
      to_read = met;
      now = now;
      waits = so_far;
      made = listened.Late reading;
      last = subst (HasLooked until now mid after met read new) e one;
      heard = tt;
    }

    pub ends_heard : (made : Listened) (msg : Msg) → made ≡ listened.Heard msg → HasLooked until now mid after met read new made
        → HasWaited until start before after unread read new (Some msg)
    ends_heard made msg e one = record {
      to_come = mid;
      to_read = met;
      now = now;
      waits = so_far;
      made = listened.Heard msg;
      last = subst (HasLooked until now mid after met read new) e one;
      heard = refl;
    }

    pub ends_not : (why : DriveErr) → CannotLook until now mid after met read why → CannotWait until start before after unread read why
    ends_not why one = record { to_come = mid; to_read = met; now = now; waits = so_far; last = one }

pub cause_from : (l0 l1 l2 c0 c1 c2 : ℕ) (why : DriveErr) → l1 ≡ l0 → c1 ≡ c0 → HasDriveCause l1 l2 c1 c2 why → HasDriveCause l0 l2 c0 c2 why
cause_from l0 l1 l2 c0 c1 c2 why e f is = subst (λ n. HasDriveCause n l2 c0 c2 why) e (subst (λ n. HasDriveCause l1 l2 n c2 why) f is)

-- a look that brought nothing is one receive more
pub counts_on : (l new : Listener) (look : Look) (made : Listened) → new ≡ looks l look → made ≡ told_by l look → made ≡ listened.Nothing → new.spent ≡ l.spent + 1
counts_on l new (late reading) made is told none = absurd (let wrong : listened.Late reading ≡ listened.Nothing = sym told ∙ none in cc)
counts_on l new (came reading None) made is told none = ap (λ (x : Listener). x.spent) is
counts_on l new (came reading (Some datagram)) made is told none = ap (λ (x : Listener). x.spent) is
