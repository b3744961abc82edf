-- which asks can arrive at a file, and what becomes of the others
use Rattle.std.proofs.Common.{◌≡◌, ℕ, inl, inr, List, [], ◌∷◌, ◌++◌, refl, ap, sym, ◌∙◌, subst, Option, Some, None, Bool, true, false}
use Rattle.std.specs.Prelude.{◌⊎◌, cond}
use Rattle.xt_base.specs.declared.ids.NodeId.{NodeId}
use Rattle.xt_base.specs.declared.ids.FileId.{FileId}
use Rattle.xt_base.specs.declared.ids.OpId.{OpId}
use Rattle.xt_base.specs.declared.ids.Stamp.{Stamp}
use Rattle.xt_base.specs.declared.ids.Epoch.{Epoch}
use Rattle.xt_messages.specs.declared.file.Capability.{Capability}
use Rattle.xt_messages.specs.declared.file.Kind.{Kind}
use Rattle.xt_messages.specs.declared.file.Kind.TheVariants as kind
use Rattle.xt_messages.specs.declared.file.Location.{Location}
use Rattle.xt_messages.specs.declared.file.Op.{Op}
use Rattle.xt_messages.specs.declared.message.Msg.{Msg}
use Rattle.xt_messages.specs.declared.record.Record.{Record}
use Rattle.xt_messages.specs.declared.reply.Reply.{Reply}
use Rattle.xt_messages.specs.declared.reply.Reply.TheVariants as reply
use Rattle.xt_messages.specs.declared.reply.Denial.{Denial}
use Rattle.xt_messages.specs.declared.reply.Denial.TheVariants as denial
use Rattle.xt_messages.specs.declared.message.Payload.{Payload}
use Rattle.xt_messages.specs.declared.message.Payload.TheVariants as payload
use Rattle.lease_safety.specs.State.{Has}
use Rattle.xt_protocol.specs.Turns.{the_record, reply_to}
use Rattle.xt_protocol.specs.AskRows.{leaves_object, list_and_range, with_member, list_against, capability_refused, capability_list_range, refusal_of, ask_let_in, handle_ask}
use Rattle.xt_protocol.specs.FileStates.{FileState, Site, FileStep, and_then}
use Rattle.xt_protocol.specs.FileSteps.{message_comes, ask_comes, replica_acts, step_of_file}
use Rattle.xt_protocol.specs.Primaries.{if_any}
use Rattle.xt_protocol.specs.declared.states.Acted.{Acted}
use Rattle.osd_invariants.proofs.StripedAsks.{striped_outcome}
use Rattle.xt_protocol.specs.OsdSteps.{file_concerned}
use Rattle.xt_protocol.specs.Overdue.{expired}
use Rattle.replica_runs.specs.FileView.{IsList, AskComes}
use Rattle.replica_runs.proofs.Files.{expired_none}
use Rattle.replica_runs.specs.HeadWorld.{shown}
use Rattle.world_spec.specs.declared.PlacedFile.{PlacedFile}
use Rattle.time_line.specs.declared.entry.Entry.{Entry}
use Rattle.time_line.specs.TimeLine.{id_of, operation_begun}
use Rattle.world_spec.specs.World.{file_in}
use Rattle.world_runs.specs.Worlds.{PayloadFits}
use Rattle.world_runs.proofs.Lists.{has_in, has_left}
use Rattle.world_runs.specs.Asks.{HasBegunSo}
use Rattle.world_runs.proofs.Entries.{operation-grown}
use Rattle.world_safety.specs.Asks.{operation_or_none, operations_of, AreOperations, IsOutside, KnownList, IsSameButSent}

same_file : (a b : FileId) → Some a ≡ Some b → a ≡ b
same_file a b is = cc

true_false : true ≡ false → ⊥
true_false e = cc e

pub messages_come : (stripe : ℕ) (ops : ℕ × ℕ → Op) (members : List ℕ) (files : List PlacedFile) (entries : List Entry) (file : FileId) (from : NodeId) (content : Payload)
    → file_concerned content ≡ Some file → PayloadFits files content → HasBegunSo entries from content → AreOperations ops file.number entries
    → KnownList files file stripe members → AskComes stripe ops members from content ⊎ IsOutside content
messages_come stripe ops members files entries file from (payload.Ask number capability asked) concerns fits begun are lists = at (leaves_object capability.location.stripe asked) refl
  where
    its_file : capability.file.number ≡ file.number
    its_file = ap (λ (f : FileId). f.number) (same_file capability.file file concerns)

    list : IsList stripe members capability.location
    list = (lists (record { file = capability.file; location = capability.location }) (sym (ap (file_in files) its_file) ∙ fits)).1

    asked_so : ops (from.0, number) ≡ asked
    asked_so = are (id_of from number) asked (sym (ap (λ (k : ℕ). operation_begun k entries (id_of from number)) its_file) ∙ begun.0)

    at : (b : Bool) → leaves_object capability.location.stripe asked ≡ b → AskComes stripe ops members from (payload.Ask number capability asked) ⊎ IsOutside (payload.Ask number capability asked)
    at true is = inr is
    at false is = inl (list, λ deadline. record { allowed = record { fits = begun.1; inside = sym (ap (λ (k : ℕ). leaves_object k asked) list.0) ∙ is }; asked = asked_so })
messages_come stripe ops members files entries file from _ concerns fits begun are lists = inl tt

-- ---- what leaves the object

refused_so : (site : Site) (stored : Option Location) (capability : Capability) (asked : Op) → leaves_object capability.location.stripe asked ≡ true → (answer : Reply) × (refusal_of site stored capability asked ≡ Some answer)
unfolding refusal_of
refused_so site stored capability asked is = by_capability (capability_refused site capability asked)
  where
    by_list : (o : Option Reply) → (answer : Reply) × (list_and_range capability.location asked o ≡ Some answer)
    by_list None = (reply.Denied denial.Range, ap (λ (b : Bool). cond b (Some (reply.Denied denial.Range)) None) is)
    by_list (Some answer) = (answer, refl)

    by_capability : (o : Option Denial) → (answer : Reply) × (capability_list_range site stored capability asked o ≡ Some answer)
    by_capability None = by_list (with_member site capability.location (list_against stored capability.location))
    by_capability (Some why) = (reply.Denied why, refl)

pub outside_is_idle : (site : Site) (s : FileState) (from : NodeId) (content : Payload) (file : FileId) (epoch : Epoch) (object : ℕ) (version : Stamp) → IsOutside content
    → IsSameButSent (step_of_file site s from content) (step_of_file site s from (payload.Fetch file epoch object version))
unfolding step_of_file handle_ask
outside_is_idle site s from (payload.Ask number capability asked) file epoch object version is = by_kind capability.location.kind
  where
    id : OpId
    id = record { client = from; number = number }

    fetches : FileStep
    fetches = and_then (expired site s) (λ state. message_comes site state from (payload.Fetch file epoch object version))

    by_refusal : (o : Option Reply) → (answer : Reply) → o ≡ Some answer → IsSameButSent (and_then (expired site s) (λ state. ask_let_in site state id capability asked o)) fetches
    by_refusal o answer refused = subst (λ (o : Option Reply). IsSameButSent (and_then (expired site s) (λ state. ask_let_in site state id capability asked o)) fetches) (sym refused) (record { state = refl; rec = refl; marks = refl })

    by_kind : (k : Kind) → IsSameButSent (and_then (expired site s) (λ state. ask_comes site state k id capability asked)) fetches
    by_kind kind.Replicated =
        let refused = refused_so site (expired site s).state.kept.location capability asked is in
        by_refusal (refusal_of site (expired site s).state.kept.location capability asked) refused.0 refused.1
    by_kind kind.Striped =
        striped_outcome (λ (acted : Acted). IsSameButSent (and_then (expired site s) (λ state. replica_acts site state from acted)) fetches) site (expired site s).state.kept id capability asked
        (record {
          nothing = record { state = refl; rec = refl; marks = refl };
          tells = λ answer. record { state = refl; rec = refl; marks = refl };
          keeps = λ update keeps. absurd (true_false (sym is ∙ keeps.goes.inside));
        })
outside_is_idle site s from _ file epoch object version is = absurd is

-- it keeps nothing
pub outside_none : (site : Site) (s : FileState) (from : NodeId) (content : Payload) → IsOutside content → (step_of_file site s from content).turned.rec ≡ None
unfolding step_of_file
outside_none site s from content is =
    let epoch : Epoch = record { number = 0; node = record { 0 = 0 } } in
    (outside_is_idle site s from content s.kept.file epoch 0 (record { epoch = epoch; count = 0 }) is).rec ∙ ap (λ (rec : Option Record). the_record rec None) (expired_none site s)

-- and sends what the Fetch sends, and what says nothing of replication
pub outside_sends : (site : Site) (s : FileState) (from : NodeId) (content : Payload) (file : FileId) (epoch : Epoch) (object : ℕ) (version : Stamp) → IsOutside content
    → (m : Msg) → Has m (step_of_file site s from content).turned.outs → Has m (step_of_file site s from (payload.Fetch file epoch object version)).turned.outs ⊎ ((n : ℕ) → shown n m.payload ≡ [])
unfolding step_of_file handle_ask
outside_sends site s from (payload.Ask number capability asked) file epoch object version is m = by_kind capability.location.kind
  where
    id : OpId
    id = record { client = from; number = number }

    fetches : FileStep
    fetches = and_then (expired site s) (λ state. message_comes site state from (payload.Fetch file epoch object version))

    told : (answer : Reply) → Has m ((expired site s).turned.outs ++ reply_to site.node (expired site s).state.kept.file id answer ∷ []) → Has m fetches.turned.outs ⊎ ((n : ℕ) → shown n m.payload ≡ [])
    told answer h = elim (has_in m (expired site s).turned.outs (reply_to site.node (expired site s).state.kept.file id answer ∷ []) h) [
      | inl early ↦ inl (has_left m (expired site s).turned.outs _ early)
      | inr late ↦ inr (replied late)
    ]
      where
        replied : Has m (reply_to site.node (expired site s).state.kept.file id answer ∷ []) → (n : ℕ) → shown n m.payload ≡ []
        replied (inl e) n = ap (λ (k : Msg). shown n k.payload) e
        replied (inr h) n = absurd h

    untold : Has m ((expired site s).turned.outs ++ []) → Has m fetches.turned.outs ⊎ ((n : ℕ) → shown n m.payload ≡ [])
    untold h = elim (has_in m (expired site s).turned.outs [] h) [
      | inl early ↦ inl (has_left m (expired site s).turned.outs _ early)
      | inr late ↦ absurd late
    ]

    by_refusal : (o : Option Reply) → (answer : Reply) → o ≡ Some answer → Has m (and_then (expired site s) (λ state. ask_let_in site state id capability asked o)).turned.outs → Has m fetches.turned.outs ⊎ ((n : ℕ) → shown n m.payload ≡ [])
    by_refusal o answer refused h = told answer (subst (λ (o : Option Reply). Has m (and_then (expired site s) (λ state. ask_let_in site state id capability asked o)).turned.outs) refused h)

    by_kind : (k : Kind) → Has m (and_then (expired site s) (λ state. ask_comes site state k id capability asked)).turned.outs → Has m fetches.turned.outs ⊎ ((n : ℕ) → shown n m.payload ≡ [])
    by_kind kind.Replicated h =
        let refused = refused_so site (expired site s).state.kept.location capability asked is in
        by_refusal (refusal_of site (expired site s).state.kept.location capability asked) refused.0 refused.1 h
    by_kind kind.Striped h =
        striped_outcome
        (λ (acted : Acted). Has m ((expired site s).turned.outs ++ if_any site.node from acted.answer) → Has m fetches.turned.outs ⊎ ((n : ℕ) → shown n m.payload ≡ []))
        site (expired site s).state.kept id capability asked
        (record { nothing = untold; tells = λ answer. told answer; keeps = λ update keeps. told (reply.Ok update.stamp.count update.mark []) }) h
outside_sends site s from _ file epoch object version is m = absurd is

-- ---- operations

pub operations_are : (file : ℕ) (entries moment after : List Entry) → entries ≡ moment ++ after → AreOperations (operations_of file entries) file moment
operations_are file entries moment after whole id asked is =
    ap operation_or_none (ap (λ (es : List Entry). operation_begun file es id) whole ∙ operation-grown file moment after id asked is)
