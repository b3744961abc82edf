-- one message that is sent, or not
use Rattle.std.proofs.Common.{ℕ, ◌≡◌, ◌<◌, ◌+◌, sym, ap, subst, ◌∙◌, Option, List, [], ◌∷◌, ◌++◌, length, take, suc, arith, get_or}
use Rattle.std.proofs.Math.Seq.{take-suc}
use Rattle.std.proofs.lemmas.List.Sums.{fold-append}
use Rattle.xt_base.specs.declared.ids.NodeId.{NodeId}
use Rattle.xt_base.specs.declared.ids.Boot.{Boot}
use Rattle.xt_messages.specs.declared.message.Msg.{Msg}
use Rattle.node_runs.specs.Hearing.{Book}
use Rattle.node_runs.specs.Posting.{Posted, posted, one_posted}
use Rattle.node_links.specs.declared.link.Datagram.{Datagram}
use Rattle.node_runs.specs.Links.{Sends}
use Rattle.node_runs.proofs.Sending.{sends_none}

pub nothing_sent : (o : Option (List Datagram)) (losses : ℕ) → Sends o o losses losses []
nothing_sent = sends_none

-- one message more
pub posted_more : (node : NodeId) (boot : Boot) (book : Book) (before : Posted) (msgs : List Msg) (i : ℕ) (msg : Msg) → i < length msgs
    → msg ≡ get_or msgs i msg → posted node boot book before (take (i + 1) msgs) ≡ one_posted node boot book (posted node boot book before (take i msgs)) msg
posted_more node boot book before msgs i msg inside is =
    let next : suc i ≡ i + 1 = omega arith in
    let longer : take (i + 1) msgs ≡ take i msgs ++ msg ∷ [] =
    subst (λ n. take n msgs ≡ take i msgs ++ msg ∷ []) next
    (take-suc msgs i msg inside ∙ ap (λ x. take i msgs ++ x ∷ []) (sym is)) in
    ap (posted node boot book before) longer ∙ fold-append (one_posted node boot book) before (take i msgs) (msg ∷ [])
