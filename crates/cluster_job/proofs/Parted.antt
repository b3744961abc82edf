-- the messages that end the nodes of a cluster
use Rattle.std.proofs.Common.{ℕ, ◌≡◌, sym, ◌∙◌, ap, subst, List, [], ◌∷◌, ◌++◌, map, arith}
use Rattle.std.specs.List.{All}
use Rattle.std.proofs.lemmas.List.Elements.{All-append, All-cons}
use Rattle.xt_messages.specs.Limits.{FitsMessage}
use Rattle.std.proofs.lemmas.List.{append_assoc, map-append}
use Rattle.xt_base.specs.declared.ids.NodeId.{NodeId}
use Rattle.xt_messages.specs.declared.message.Msg.{Msg}
use Rattle.capabilities.specs.Stops.{stop_word}
use Rattle.capabilities.specs.Tags.{hmac_of}
use Rattle.command_words.specs.declared.job.ClusterJob.{ClusterJob}
use Rattle.cluster_words.specs.declared.children.ClusterNode.TheVariants as node
use Rattle.cluster_children.specs.Calls.{osds_to}
use Rattle.cluster_job.specs.Parting.{stop_from, parting_from, farewells}

-- those to the OSDs, and then the last two
all_parted : (client : NodeId) (tag : List ℕ) (osds : ℕ) (msgs more all : List Msg) → msgs ≡ map (stop_from client tag) (osds_to osds)
    → more ≡ msgs ++ stop_from client tag node.Mrc ∷ [] → all ≡ more ++ stop_from client tag node.Dir ∷ []
    → all ≡ map (stop_from client tag) (parting_from osds)
all_parted client tag osds msgs more all first next last =
    last ∙ ap (λ xs. xs ++ stop_from client tag node.Dir ∷ []) (next ∙ ap (λ xs. xs ++ stop_from client tag node.Mrc ∷ []) first)
    ∙ append_assoc (map (stop_from client tag) (osds_to osds)) (stop_from client tag node.Mrc ∷ []) (stop_from client tag node.Dir ∷ [])
    ∙ sym (map-append (stop_from client tag) (osds_to osds) (node.Mrc ∷ node.Dir ∷ []))

pub are_farewells : (job : ClusterJob) (tag key : List ℕ) (osds : ℕ) (msgs more all : List Msg) → key ≡ job.key → tag ≡ hmac_of key stop_word
    → osds ≡ job.osds → msgs ≡ map (stop_from job.who.id tag) (osds_to osds) → more ≡ msgs ++ stop_from job.who.id tag node.Mrc ∷ []
    → all ≡ more ++ stop_from job.who.id tag node.Dir ∷ [] → all ≡ farewells job
are_farewells job tag key osds msgs more all same tagged count first next last =
    let right : tag ≡ hmac_of job.key stop_word = tagged ∙ ap (λ k. hmac_of k stop_word) same in
    all_parted job.who.id tag osds msgs more all first next last
    ∙ ap (λ t. map (stop_from job.who.id t) (parting_from osds)) right
    ∙ ap (λ n. map (stop_from job.who.id (hmac_of job.key stop_word)) (parting_from n)) count

pub fits_more : (msgs all : List Msg) (msg : Msg) → All FitsMessage msgs → FitsMessage msg → all ≡ msgs ++ msg ∷ [] → All FitsMessage all
fits_more msgs all msg before fits is =
    subst (All FitsMessage) (sym is)
    (All-append FitsMessage msgs (msg ∷ []) before (All-cons FitsMessage msg [] fits (λ k d short. absurd (omega arith))))
