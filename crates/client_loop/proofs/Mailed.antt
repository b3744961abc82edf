-- messages that are sent one after the other
use Rattle.std.proofs.Common.{ℕ, ◌≡◌, ◌<◌, ◌+◌, refl, sym, ap, subst, ◌∙◌, Option, Some, None, List, [], ◌∷◌, ◌++◌, length, take, suc, arith, get_or}
use Rattle.std.proofs.Math.Seq.{take-suc}
use Rattle.std.proofs.lemmas.List.{append-nil}
use Rattle.std.proofs.lemmas.List.Sums.{fold-append}
use Rattle.xt_base.specs.declared.ids.NodeId.{NodeId}
use Rattle.xt_base.specs.declared.ids.Boot.{Boot}
use Rattle.xt_messages.specs.declared.message.Msg.{Msg}
use Rattle.node_links.specs.declared.link.Datagram.{Datagram}
use Rattle.node_runs.specs.Hearing.{Book, address_of}
use Rattle.node_runs.specs.Links.{Sends}
use Rattle.node_runs.specs.Posting.{Posted, posted_to, none_posted, HasPosted}
use Rattle.node_runs.proofs.Sending.{sends_none, sends_join}
use Rattle.client_loop.specs.Mailing.{one_mailed, mailed}

one_more : (node : NodeId) (boot : Boot) (before : Posted) (msg : Msg) (address : Option (List ℕ))
    → posted_to node boot msg address before
    ≡ record { count = (posted_to node boot msg address (none_posted before.count)).count; datagrams = before.datagrams ++ (posted_to node boot msg address (none_posted before.count)).datagrams }
one_more node boot before msg None = λ i. record { count = before.count; datagrams = sym (append-nil before.datagrams) i }
one_more node boot before msg (Some address) = refl

pub has_more : (node : NodeId) (boot : Boot) (book : Book) (before : Posted) (msg : Msg) (count : ℕ)
    (start between after : Option (List Datagram)) (first losses later : ℕ)
    → Sends start between first losses before.datagrams
    → HasPosted (one_mailed node boot book (none_posted before.count) msg) count (Sends between after losses later)
    → HasPosted (one_mailed node boot book before msg) count (Sends start after first later)
has_more node boot book before msg count start between after first losses later s one =
    let at = one_more node boot before msg (address_of book msg.to) in
    record {
      counted = one.counted ∙ sym (ap (λ (p : Posted). p.count) at);
      went = subst (Sends start after first later) (sym (ap (λ (p : Posted). p.datagrams) at))
          (sends_join start between after first losses later before.datagrams (one_mailed node boot book (none_posted before.count) msg).datagrams s one.went);
    }

-- one message more
pub mailed_more : (node : NodeId) (boot : Boot) (book : Book) (before : Posted) (msgs : List Msg) (i : ℕ) (msg : Msg) → i < length msgs
    → msg ≡ get_or msgs i msg → mailed node boot book before (take (i + 1) msgs) ≡ one_mailed node boot book (mailed node boot book before (take i msgs)) msg
mailed_more node boot book before msgs i msg inside is =
    let next : suc i ≡ i + 1 = omega arith in
    let longer : take (i + 1) msgs ≡ take i msgs ++ msg ∷ [] =
    subst (λ n. take n msgs ≡ take i msgs ++ msg ∷ []) next
    (take-suc msgs i msg inside ∙ ap (λ x. take i msgs ++ x ∷ []) (sym is)) in
    ap (mailed node boot book before) longer ∙ fold-append (one_mailed node boot book) before (take i msgs) (msg ∷ [])

-- nothing was sent
pub sends_same : (before after : Option (List Datagram)) (losses later : ℕ) → after ≡ before → later ≡ losses → Sends before after losses later []
sends_same before after losses later e f = subst (λ o. Sends before o losses later []) (sym e) (subst (λ n. Sends before before losses n []) (sym f) (sends_none before losses))
