-- a request that a message brings is handled as the rows handle the message
use Rattle.std.proofs.Common.{◌≡◌, ℕ, List, sym, subst}
use Rattle.xt_base.specs.declared.ids.NodeId.{NodeId}
use Rattle.xt_messages.specs.declared.meta.MetaReq.{MetaReq}
use Rattle.xt_messages.specs.declared.message.Payload.{Payload}
use Rattle.xt_messages.specs.declared.message.Payload.TheVariants as payload
use Rattle.server_rows.specs.Metadata.{Catalogue, MrcNode, MrcStep, requested, told_by}
use Rattle.mrc_core.specs.Asking.{at_clock}

-- What holds of the OSDs and of the step that the request gives holds of those that the message gives: the server has this secret, these
-- OSDs and this catalogue.
pub request_heard : (P : List NodeId → MrcStep → Type 0) (key secret : List ℕ) (osds nodes : List NodeId) (catalogue : Catalogue) (last clock : ℕ) (server : MrcNode)
    (from : NodeId) (content : Payload) (number user group : ℕ) (request : MetaReq)
    → content ≡ payload.Meta number user group request → key ≡ secret → osds ≡ nodes
    → record { secret = secret; state = record { catalogue = catalogue; osds = nodes; last = last } } ≡ server
    → P osds (requested key (record { catalogue = catalogue; osds = osds; last = clock }) from number (record { user = user; group = group }) request)
    → P nodes (told_by server.secret (at_clock clock server.state) from content)
request_heard P key secret osds nodes catalogue last clock server from content number user group request is same alike view holds =
    subst (λ (s : MrcNode). P nodes (told_by s.secret (at_clock clock s.state) from content)) view
    (subst (λ (c : Payload). P nodes (told_by secret (record { catalogue = catalogue; osds = nodes; last = clock }) from c)) (sym is)
    (subst (λ (ns : List NodeId). P ns (requested secret (record { catalogue = catalogue; osds = ns; last = clock }) from number (record { user = user; group = group }) request)) alike
    (subst (λ (k : List ℕ). P osds (requested k (record { catalogue = catalogue; osds = osds; last = clock }) from number (record { user = user; group = group }) request)) same holds)))
