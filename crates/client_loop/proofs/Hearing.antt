-- what is heard until a time, look by look
use Rattle.std.proofs.Common.{ℕ, ◌≡◌, ◌+◌, ◌∙◌, ap, refl, sym, subst, Bool, true, false, Option, Some, None, List, [], ◌∷◌, ◌++◌}
use Rattle.std.proofs.lemmas.Bool.{false≢true}
use Rattle.xt_messages.specs.declared.message.Msg.{Msg}
use Rattle.node_links.specs.declared.link.Datagram.{Datagram}
use Rattle.node_runs.specs.Hearing.{hears}
use Rattle.node_runs.specs.Links.{Reads}
use Rattle.node_runs.proofs.Sending.{takes_none, takes_more, reads_none, reads_more}
use Rattle.client_loop.specs.declared.errors.DriveErr.{DriveErr}
use Rattle.client_loop.specs.declared.listening.Listener.{Listener}
use Rattle.client_loop.specs.Listening.{Look, late, came, reading_of, datagrams_of, looks, told_by, heard_as, received_as, MayLook, GaveIn, CannotLook}
use Rattle.client_loop.specs.Waiting.{silent, received, is_late, HearsOnce, HasHeard, HasListened, CannotListen}
use Rattle.client_loop.proofs.Waited.{took}

-- what a receive brings isn't late
heard_early : (message : Option Msg) → is_late (heard_as message) ≡ false
heard_early None = refl
heard_early (Some msg) = refl

received_early : (l : Listener) (datagram : Option Datagram) → is_late (received_as l datagram) ≡ false
received_early l None = refl
received_early l (Some datagram) = heard_early (hears l.node l.ears datagram).message

module _ (until : ℕ) (start : Listener) (before : Option (List Datagram)) (unread : Option (List ℕ)) where
  pub none_heard : HasHeard until start before before unread unread start
  none_heard = record { taken = []; readings = []; listens = silent; receives = takes_none before; reads = reads_none unread }

  module _ (mid after : Option (List Datagram)) (met read : Option (List ℕ)) (now : Listener) (so_far : HasHeard until start before mid unread met now) where
    early_more : (look : Look) → MayLook until now look → GaveIn mid after look → Reads met read (reading_of look ∷ []) → is_late (told_by now look) ≡ false
        → HasHeard until start before after unread read (looks now look)
    early_more (late reading) may gave reads early = absurd (false≢true (sym early))
    early_more (came reading datagram) may gave reads early = record {
      taken = so_far.taken ++ datagrams_of (came reading datagram);
      readings = so_far.readings ++ reading ∷ [];
      listens = received mid after so_far.taken so_far.readings now reading datagram so_far.listens may gave;
      receives = takes_more before mid after so_far.taken (datagrams_of (came reading datagram)) so_far.receives (took mid after (came reading datagram) gave);
      reads = reads_more unread met read so_far.readings (reading ∷ []) so_far.reads reads;
    }

    -- one more receive
    pub heard_more : (new : Listener) (is_over : Bool) → is_over ≡ false → HearsOnce until now mid after met read new is_over → HasHeard until start before after unread read new
    heard_more new is_over e (made, one, told) =
        subst (HasHeard until start before after unread read) (sym one.is)
        (early_more one.look one.may one.gave one.reads (ap is_late (sym one.told) ∙ sym told ∙ e))

    late_at : (look : Look) → MayLook until now look → GaveIn mid after look → Reads met read (reading_of look ∷ []) → is_late (told_by now look) ≡ true
        → HasListened until start before after unread read (looks now look)
    late_at (late last) may gave reads told = record {
      to_read = met;
      heard = subst (λ o. HasHeard until start before o unread met now) (sym gave) so_far;
      last = last;
      late = may;
      reads = reads;
    }
    late_at (came last datagram) may gave reads told = absurd (false≢true (sym (received_early now datagram) ∙ told))

    -- the last look
    pub ends_late : (new : Listener) (is_over : Bool) → is_over ≡ true → HearsOnce until now mid after met read new is_over
        → HasListened until start before after unread read new
    ends_late new is_over e (made, one, told) =
        subst (HasListened until start before after unread read) (sym one.is)
        (late_at one.look one.may one.gave one.reads (ap is_late (sym one.told) ∙ sym told ∙ e))

    -- a look that ends it
    pub ends_not : (why : DriveErr) → CannotLook until now mid after met read why → CannotListen until start before after unread read why
    ends_not why one = record { to_come = mid; to_read = met; now = now; heard = so_far; last = one }

-- a look that isn't late is one receive more
early_counts : (l : Listener) (look : Look) → is_late (told_by l look) ≡ false → (looks l look).spent ≡ l.spent + 1
early_counts l (late reading) early = absurd (false≢true (sym early))
early_counts l (came reading None) early = refl
early_counts l (came reading (Some datagram)) early = refl

pub counts_more : (until : ℕ) (l new : Listener) (before after : Option (List Datagram)) (unread read : Option (List ℕ)) (is_over : Bool) → is_over ≡ false
    → HearsOnce until l before after unread read new is_over → new.spent ≡ l.spent + 1
counts_more until l new before after unread read is_over e (made, one, told) =
    ap (λ (x : Listener). x.spent) one.is ∙ early_counts l one.look (ap is_late (sym one.told) ∙ sym told ∙ e)
