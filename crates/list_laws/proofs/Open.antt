-- the other way: what is of the open list comes to the rows of one list
use Rattle.std.proofs.Common.{◌≡◌, ◌∙◌, ℕ, Bool, true, false, ◌&&◌, ◌||◌, ◌==◌, not, cond, refl, ap, Option, Some, None, arith}
use Rattle.std.specs.Prelude.{nat_lt}
use Rattle.std.proofs.lemmas.Bool.Decides.{nat_tests}
use Rattle.xt_base.specs.declared.ids.NodeId.{NodeId}
use Rattle.xt_base.specs.declared.ids.OpId.{OpId}
use Rattle.xt_messages.specs.Limits.{is_of_list}
use Rattle.xt_messages.specs.declared.file.Capability.{Capability}
use Rattle.xt_messages.specs.declared.file.Kind.{Kind}
use Rattle.xt_messages.specs.declared.file.Kind.TheVariants as kind
use Rattle.xt_messages.specs.declared.file.Op.{Op}
use Rattle.xt_messages.specs.declared.reply.Denial.{Denial}
use Rattle.xt_messages.specs.declared.message.Payload.{Payload}
use Rattle.xt_messages.specs.declared.message.Payload.TheVariants as payload
use Rattle.xt_protocol.specs.FileStates.{FileState, Site, nothing}
use Rattle.xt_protocol.specs.FileSteps.{message_comes, ask_comes}
use Rattle.xt_protocol.specs.AskRows.{capability_refused, handle_ask}
use Rattle.list_rows.specs.ListRows.{list_version, is_closed, ask_outdated, ask_by_version, ask_if_allowed, ask_of_kind, of_list_comes, message_taken}
use Rattle.list_laws.specs.Takes.{IsOpenAt}

equal_tests : (a b : ℕ) → a ≡ b → (a == b) ≡ true
equal_tests a b is = grind (arith, nat_tests, is)

listed : (site : Site) (s : FileState) (from : NodeId) (list : ℕ) (content : Payload) → IsOpenAt s list → of_list_comes site s from list content ≡ message_comes site s from content
listed site s from list content is =
    ap (λ (b : Bool). cond (b && not (is_closed s.kept)) (message_comes site s from content) (nothing s)) (equal_tests list (list_version s.kept.location) is.same)
    ∙ ap (λ (b : Bool). cond (not b) (message_comes site s from content) (nothing s)) is.open_list

pub open_taken : (site : Site) (s : FileState) (from : NodeId) (list : ℕ) (content : Payload) → is_of_list content ≡ true → IsOpenAt s list
    → message_taken site s from list content ≡ message_comes site s from content
open_taken site s from list (payload.Read file ballot) among is = listed site s from list (payload.Read file ballot) is
open_taken site s from list (payload.Promise file ballot boot report) among is = listed site s from list (payload.Promise file ballot boot report) is
open_taken site s from list (payload.Write file ballot boot lease) among is = listed site s from list (payload.Write file ballot boot lease) is
open_taken site s from list (payload.Accepted file ballot boot) among is = listed site s from list (payload.Accepted file ballot boot) is
open_taken site s from list (payload.Outrun file ballot seen) among is = listed site s from list (payload.Outrun file ballot seen) is
open_taken site s from list (payload.Gather file epoch) among is = listed site s from list (payload.Gather file epoch) is
open_taken site s from list (payload.Status file epoch head) among is = listed site s from list (payload.Status file epoch head) is
open_taken site s from list (payload.Fetch file epoch object version) among is = listed site s from list (payload.Fetch file epoch object version) is
open_taken site s from list (payload.Object file epoch object version bytes) among is = listed site s from list (payload.Object file epoch object version bytes) is
open_taken site s from list (payload.Stage file epoch object version bytes) among is = listed site s from list (payload.Stage file epoch object version bytes) is
open_taken site s from list (payload.Staged file epoch object version) among is = listed site s from list (payload.Staged file epoch object version) is
open_taken site s from list (payload.Head file epoch head) among is = listed site s from list (payload.Head file epoch head) is
open_taken site s from list (payload.Update file update) among is = listed site s from list (payload.Update file update) is
open_taken site s from list (payload.Ack file stamp) among is = listed site s from list (payload.Ack file stamp) is
open_taken site s from list (payload.Refused file epoch promised) among is = listed site s from list (payload.Refused file epoch promised) is
open_taken site s from list (payload.Behind file epoch stamp) among is = listed site s from list (payload.Behind file epoch stamp) is
open_taken site s from list (payload.Missing file epoch object version) among is = listed site s from list (payload.Missing file epoch object version) is
open_taken site s from list (payload.Ask number capability asked) among is = absurd cc
open_taken site s from list (payload.Reply number file answer) among is = absurd cc
open_taken site s from list (payload.Meta number user group request) among is = absurd cc
open_taken site s from list (payload.MetaReply number answer) among is = absurd cc
open_taken site s from list (payload.Registry number request) among is = absurd cc
open_taken site s from list (payload.RegistryReply number answer) among is = absurd cc
open_taken site s from list (payload.Stop tag) among is = absurd cc
open_taken site s from list (payload.Close file version) among is = absurd cc
open_taken site s from list (payload.Closed file version head) among is = absurd cc
open_taken site s from list (payload.Install file location head source) among is = absurd cc
open_taken site s from list (payload.Installed file version) among is = absurd cc
open_taken site s from list (payload.Pull file object version) among is = absurd cc
open_taken site s from list (payload.Pulled file object version bytes) among is = absurd cc
open_taken site s from list (payload.Wanted file) among is = absurd cc

-- ---- asks

tests : (v l : ℕ) (closed : Bool) → v ≡ l → closed ≡ false → ((nat_lt v l || (v == l && closed)) ≡ false) × (nat_lt l v ≡ false)
tests v l true same open_list = absurd cc
tests v l false same open_list = (grind (arith, nat_tests, same), grind (arith, nat_tests, same))

by_version : (site : Site) (s : FileState) (id : OpId) (capability : Capability) (asked : Op) → IsOpenAt s capability.location.version
    → ask_by_version site s id capability asked ≡ handle_ask site s id capability asked
by_version site s id capability asked is =
    let q = tests capability.location.version (list_version s.kept.location) (is_closed s.kept) is.same is.open_list in
    let newer : Bool = nat_lt (list_version s.kept.location) capability.location.version in
    ap (λ (b : Bool). cond b (ask_outdated site s id) (cond newer (nothing s) (handle_ask site s id capability asked))) q.0
    ∙ ap (λ (b : Bool). cond b (nothing s) (handle_ask site s id capability asked)) q.1

if_allowed : (site : Site) (s : FileState) (id : OpId) (capability : Capability) (asked : Op) (why : Option Denial) → IsOpenAt s capability.location.version
    → ask_if_allowed site s id capability asked why ≡ handle_ask site s id capability asked
if_allowed site s id capability asked (Some why) is = refl
if_allowed site s id capability asked None is = by_version site s id capability asked is

of_kind : (site : Site) (s : FileState) (k : Kind) (id : OpId) (capability : Capability) (asked : Op) → IsOpenAt s capability.location.version
    → ask_of_kind site s k id capability asked ≡ ask_comes site s k id capability asked
of_kind site s kind.Replicated id capability asked is = if_allowed site s id capability asked (capability_refused site capability asked) is
of_kind site s kind.Striped id capability asked is = refl

pub open_ask : (site : Site) (s : FileState) (from : NodeId) (list number : ℕ) (capability : Capability) (asked : Op) → IsOpenAt s capability.location.version
    → message_taken site s from list (payload.Ask number capability asked) ≡ message_comes site s from (payload.Ask number capability asked)
open_ask site s from list number capability asked is = of_kind site s capability.location.kind (record { client = from; number = number }) capability asked is
