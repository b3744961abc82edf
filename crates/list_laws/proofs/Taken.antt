-- what a message does, message by message
use Rattle.std.proofs.Common.{◌≡◌, ℕ, Bool, true, false, ◌&&◌, ◌||◌, ◌==◌, not, refl, sym, ◌∙◌, if◌then◌else◌, Option, Some, None, arith, ap, ◌^◌}
use Rattle.std.specs.Prelude.{nat_lt}
use Rattle.std.proofs.lemmas.Bool.Decides.{nat_tests}
use Rattle.xt_base.specs.declared.ids.NodeId.{NodeId}
use Rattle.xt_base.specs.declared.ids.OpId.{OpId}
use Rattle.xt_messages.specs.Limits.{is_of_list}
use Rattle.xt_messages.specs.declared.file.Capability.{Capability}
use Rattle.xt_messages.specs.declared.file.Kind.{Kind}
use Rattle.xt_messages.specs.declared.file.Kind.TheVariants as kind
use Rattle.xt_messages.specs.declared.file.Op.{Op}
use Rattle.xt_messages.specs.declared.reply.Denial.{Denial}
use Rattle.xt_messages.specs.declared.reply.Reply.TheVariants as reply
use Rattle.xt_messages.specs.declared.message.Payload.{Payload}
use Rattle.xt_messages.specs.declared.message.Payload.TheVariants as payload
use Rattle.xt_protocol.specs.FileStates.{FileState, Site, FileStep, nothing}
use Rattle.xt_protocol.specs.FileSteps.{message_comes, ask_comes}
use Rattle.xt_protocol.specs.AskRows.{capability_refused, turned_off, handle_ask}
use Rattle.xt_protocol.specs.FileStates.{and_then}
use Rattle.xt_protocol.specs.FileSteps.{step_of_file}
use Rattle.xt_protocol.specs.Overdue.{expired}
use Rattle.list_rows.specs.ListRows.{list_version, is_closed, is_older, told_version, ask_outdated, ask_by_version, ask_if_allowed, ask_of_kind, of_list_comes, message_taken, step_of_message, with_version}
use Rattle.list_laws.specs.Takes.{IsOpenAt, of_list, asks, turns_off, rests, closing, installing, pulls, pulled, Takes, rows, own, StepTakes, steps, settles}

both : (a b : Bool) → (a && b) ≡ true → (a ≡ true) × (b ≡ true)
both true true is = (refl, refl)
both true false is = absurd cc
both false b is = absurd cc

is_open : (b : Bool) → not b ≡ true → b ≡ false
is_open true is = absurd cc
is_open false is = refl

same_number : (a b : ℕ) → (a == b) ≡ true → a ≡ b
same_number a b is = grind (arith, nat_tests)

-- a message of the rows of one list
listed : (site : Site) (s : FileState) (from : NodeId) (list : ℕ) (content : Payload) → is_of_list content ≡ true → Takes site s from list content (of_list_comes site s from list content)
listed site s from list content among = at (list == list_version s.kept.location && not (is_closed s.kept)) refl
  where
    at : (b : Bool) → (list == list_version s.kept.location && not (is_closed s.kept)) ≡ b → Takes site s from list content (if b then message_comes site s from content else nothing s)
    at true is =
        let two = both (list == list_version s.kept.location) (not (is_closed s.kept)) is in
        rows (of_list among (record { same = same_number list (list_version s.kept.location) two.0; open_list = is_open (is_closed s.kept) two.1 })) refl
    at false is = own (rests refl)

-- ---- asks

-- what an ask leads to: the rows, a refusal, or nothing
data Leads (site : Site) (s : FileState) (id : OpId) (capability : Capability) (asked : Op) (k : Kind) (step : FileStep) : Type 0 where
  to_rows : (k ≡ kind.Replicated → capability_refused site capability asked ≡ None → IsOpenAt s capability.location.version)
      → step ≡ ask_comes site s k id capability asked → Leads site s id capability asked k step
  to_refusal : step ≡ turned_off site s id (reply.OldList (told_version s.kept)) → Leads site s id capability asked k step
  to_rest : step ≡ nothing s → Leads site s id capability asked k step

-- an ask for neither an older list nor a newer one
apart : (v l : ℕ) (closed : Bool) → (nat_lt v l || (v == l && closed)) ≡ false → nat_lt l v ≡ false → (v ≡ l) × (closed ≡ false)
apart v l true older newer = absurd (grind (arith, nat_tests, older, newer))
apart v l false older newer = (grind (arith, nat_tests, older, newer), refl)

neither : (s : FileState) (version : ℕ) → is_older s.kept version ≡ false → nat_lt (list_version s.kept.location) version ≡ false → IsOpenAt s version
neither s version older newer =
    let q = apart version (list_version s.kept.location) (is_closed s.kept) older newer in record { same = q.0; open_list = q.1 }

outdated : (site : Site) (s : FileState) (id : OpId) (capability : Capability) (asked : Op) (k : Kind) → Leads site s id capability asked k (ask_outdated site s id)
outdated site s id capability asked k = at (nat_lt (told_version s.kept) (2 ^ 31))
  where
    at : (b : Bool) → Leads site s id capability asked k (if b then turned_off site s id (reply.OldList (told_version s.kept)) else nothing s)
    at true = to_refusal refl
    at false = to_rest refl

by_version : (site : Site) (s : FileState) (id : OpId) (capability : Capability) (asked : Op) → Leads site s id capability asked kind.Replicated (ask_by_version site s id capability asked)
by_version site s id capability asked = at (is_older s.kept capability.location.version) refl (nat_lt (list_version s.kept.location) capability.location.version) refl
  where
    at : (older : Bool) → is_older s.kept capability.location.version ≡ older → (newer : Bool) → nat_lt (list_version s.kept.location) capability.location.version ≡ newer
        → Leads site s id capability asked kind.Replicated
        (if older then ask_outdated site s id else if newer then nothing s else handle_ask site s id capability asked)
    at true is newer is2 = outdated site s id capability asked kind.Replicated
    at false is true is2 = to_rest refl
    at false is false is2 = to_rows (λ same allowed. neither s capability.location.version is is2) refl

some_is_none : {A : Type 0} (a : A) → Some a ≡ None → ⊥
some_is_none a is = cc

by_capability : (site : Site) (s : FileState) (id : OpId) (capability : Capability) (asked : Op) (why : Option Denial) → capability_refused site capability asked ≡ why
    → Leads site s id capability asked kind.Replicated (ask_if_allowed site s id capability asked why)
by_capability site s id capability asked (Some why) is = to_rows (λ same allowed. absurd (some_is_none why (sym is ∙ allowed))) refl
by_capability site s id capability asked None is = by_version site s id capability asked

striped_is_other : kind.Striped ≡ kind.Replicated → ⊥
striped_is_other is = cc

by_kind : (site : Site) (s : FileState) (id : OpId) (capability : Capability) (asked : Op) (k : Kind) → Leads site s id capability asked k (ask_of_kind site s k id capability asked)
by_kind site s id capability asked kind.Replicated = by_capability site s id capability asked (capability_refused site capability asked) refl
by_kind site s id capability asked kind.Striped = to_rows (λ same allowed. absurd (striped_is_other same)) refl

ask_taken : (site : Site) (s : FileState) (from : NodeId) (list number : ℕ) (capability : Capability) (asked : Op) (step : FileStep)
    → Leads site s (record { client = from; number = number }) capability asked capability.location.kind step → Takes site s from list (payload.Ask number capability asked) step
ask_taken site s from list number capability asked step (to_rows passes is) = rows (asks passes) is
ask_taken site s from list number capability asked step (to_refusal is) = own (turns_off (record { client = from; number = number }) is)
ask_taken site s from list number capability asked step (to_rest is) = own (rests is)

pub taken : (site : Site) (s : FileState) (from : NodeId) (list : ℕ) (content : Payload) → Takes site s from list content (message_taken site s from list content)
taken site s from list (payload.Close file version) = own (closing file version refl refl)
taken site s from list (payload.Install file location head source) = own (installing file location head source refl refl)
taken site s from list (payload.Pull file object version) = own (pulls file object version refl refl)
taken site s from list (payload.Pulled file object version bytes) = own (pulled file object version bytes refl refl)
taken site s from list (payload.Ask number capability asked) =
    ask_taken site s from list number capability asked (ask_of_kind site s capability.location.kind (record { client = from; number = number }) capability asked)
    (by_kind site s (record { client = from; number = number }) capability asked capability.location.kind)
taken site s from list (payload.Read file ballot) = listed site s from list (payload.Read file ballot) refl
taken site s from list (payload.Promise file ballot boot report) = listed site s from list (payload.Promise file ballot boot report) refl
taken site s from list (payload.Write file ballot boot lease) = listed site s from list (payload.Write file ballot boot lease) refl
taken site s from list (payload.Accepted file ballot boot) = listed site s from list (payload.Accepted file ballot boot) refl
taken site s from list (payload.Outrun file ballot seen) = listed site s from list (payload.Outrun file ballot seen) refl
taken site s from list (payload.Gather file epoch) = listed site s from list (payload.Gather file epoch) refl
taken site s from list (payload.Status file epoch head) = listed site s from list (payload.Status file epoch head) refl
taken site s from list (payload.Fetch file epoch object version) = listed site s from list (payload.Fetch file epoch object version) refl
taken site s from list (payload.Object file epoch object version bytes) = listed site s from list (payload.Object file epoch object version bytes) refl
taken site s from list (payload.Stage file epoch object version bytes) = listed site s from list (payload.Stage file epoch object version bytes) refl
taken site s from list (payload.Staged file epoch object version) = listed site s from list (payload.Staged file epoch object version) refl
taken site s from list (payload.Head file epoch head) = listed site s from list (payload.Head file epoch head) refl
taken site s from list (payload.Update file update) = listed site s from list (payload.Update file update) refl
taken site s from list (payload.Ack file stamp) = listed site s from list (payload.Ack file stamp) refl
taken site s from list (payload.Refused file epoch promised) = listed site s from list (payload.Refused file epoch promised) refl
taken site s from list (payload.Behind file epoch stamp) = listed site s from list (payload.Behind file epoch stamp) refl
taken site s from list (payload.Missing file epoch object version) = listed site s from list (payload.Missing file epoch object version) refl
taken site s from list (payload.Reply number file answer) = own (rests refl)
taken site s from list (payload.Meta number user group request) = own (rests refl)
taken site s from list (payload.MetaReply number answer) = own (rests refl)
taken site s from list (payload.Registry number request) = own (rests refl)
taken site s from list (payload.RegistryReply number answer) = own (rests refl)
taken site s from list (payload.Stop tag) = own (rests refl)
taken site s from list (payload.Closed file version head) = own (rests refl)
taken site s from list (payload.Installed file version) = own (rests refl)
taken site s from list (payload.Wanted file) = own (rests refl)

pub step_taken : (site : Site) (s : FileState) (from : NodeId) (list : ℕ) (content : Payload) → StepTakes site s from list content (step_of_message site s from list content)
unfolding step_of_message step_of_file
step_taken site s from list content = of_takes (taken site (expired site s).state from list content)
  where
    row : FileState → FileStep
    row state = message_taken site state from list content

    of_takes : Takes site (expired site s).state from list content (row (expired site s).state)
        → StepTakes site s from list content (with_version (list_version s.kept.location) (and_then (expired site s) row))
    of_takes (rows passes is) = steps passes (ap (λ (rest : FileStep). with_version (list_version s.kept.location) (and_then (expired site s) (λ state. rest))) is)
    of_takes (own is) = settles row is refl
