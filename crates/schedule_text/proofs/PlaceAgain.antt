-- A node, and where a file is, once written, are read.
use Rattle.std.proofs.Common.{◌≡◌, ℕ, ◌^◌, ◌<◌, ◌≤◌, List, ◌∷◌, Some, refl, sym, ap, ◌∙◌, arith}
use Rattle.std.specs.Fmt.{decimal}
use Rattle.xt_base.specs.declared.ids.NodeId.{NodeId}
use Rattle.xt_messages.specs.declared.file.Kind.{Kind}
use Rattle.xt_messages.specs.declared.file.Location.{Location}
use Rattle.xt_messages.specs.Limits.{FitsNode, FitsLocation, FitsMembers}
use Rattle.server_text.specs.Words.{spaced, node_words}
use Rattle.server_text.specs.RequestText.{kind_word}
use Rattle.schedule_text.specs.LineText.{IsPlace}
use Rattle.schedule_text.specs.LineReading.{node_at, place_on, location_at}
use Rattle.server_text.proofs.ManyAgain.{members_again}
use Rattle.server_text.proofs.RequestsAgain.{kind-IsWord, kind_again}
use Rattle.server_text.proofs.WordsAgain.{decimal-IsWord, number_again, number_at_again, first_again, others_again}

-- a node that was written is read
pub node_at_again : (node : NodeId) (words : List (List ℕ)) → FitsNode node → node_at (spaced (decimal node.0 ∷ words)) ≡ (node, spaced words)
unfolding node_at
node_at_again node words small =
    let w = decimal-IsWord node.0 (omega arith) in
    rw (first_again (decimal node.0) words w, others_again (decimal node.0) words w, number_again 32 node.0 small (omega arith)) refl

kept_again : (kind : Kind) (stripe : ℕ) (nodes : List NodeId) → stripe < 2 ^ 32 → FitsMembers nodes
    → location_at (spaced (kind_word kind ∷ decimal stripe ∷ node_words nodes)) ≡ Some (place_on kind stripe nodes)
unfolding location_at
kept_again kind stripe nodes small fits =
    rw (
      others_again (kind_word kind) (decimal stripe ∷ node_words nodes) (kind-IsWord kind),
      first_again (kind_word kind) (decimal stripe ∷ node_words nodes) (kind-IsWord kind),
      kind_again kind,
      number_at_again 32 stripe (node_words nodes) small (omega arith),
      members_again nodes fits,
    ) refl

is_placed : (version : ℕ) (kind : Kind) (stripe : ℕ) (members : List NodeId) → version ≡ 1
    → (let location : Location = record { version = version; kind = kind; stripe = stripe; members = members } in location) ≡ place_on kind stripe members
is_placed version kind stripe members first = rw first refl

-- a place that was written is read
pub place_again : (location : Location) → IsPlace location → FitsLocation location
    → location_at (spaced (kind_word location.kind ∷ decimal location.stripe ∷ node_words location.members)) ≡ Some location
place_again location first fits =
    let most : location.stripe ≤ 131072 = fits.size.most in
    kept_again location.kind location.stripe location.members (omega arith) fits.nodes
    ∙ ap Some (sym (is_placed location.version location.kind location.stripe location.members first))
