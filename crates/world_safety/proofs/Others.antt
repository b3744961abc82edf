-- what a step of a node that is no OSD is for a file: nothing
use Rattle.std.proofs.Common.{◌≡◌, ℕ, inl, inr, List, [], ◌∷◌, map, refl, ap, sym, ◌∙◌, subst, Option, Some, None}
use Rattle.xt_base.specs.declared.ids.NodeId.{NodeId}
use Rattle.xt_base.specs.declared.ids.FileId.{FileId}
use Rattle.xt_messages.specs.declared.event.Event.{Event}
use Rattle.xt_messages.specs.declared.message.Msg.{Msg}
use Rattle.xt_messages.specs.declared.message.Payload.{Payload}
use Rattle.xt_messages.specs.declared.message.Payload.TheVariants as payload
use Rattle.xt_messages.specs.declared.record.Record.{Record}
use Rattle.xt_messages.specs.declared.record.Record.TheVariants as kept
use Rattle.xt_base.specs.TimeSettings.{TimeSettings}
use Rattle.xt_messages.specs.declared.event.Call.{Call}
use Rattle.xt_messages.specs.declared.event.Mark.{Mark}
use Rattle.xt_protocol.specs.declared.turned.Turned.{Turned}
use Rattle.xt_protocol.specs.Turns.{message}
use Rattle.client_rows.specs.declared.RunningCall.{RunningCall}
use Rattle.client_rows.specs.declared.requests.MadeCall.{MadeCall}
use Rattle.client_rows.specs.declared.requests.Request.{Request}
use Rattle.client_rows.specs.declared.requests.Request.TheVariants as request
use Rattle.client_rows.specs.Requests.{payload_of}
use Rattle.client_rows.specs.Steps.{Step}
use Rattle.client_rows.specs.Rows.{WholeClient}
use Rattle.client_rows.specs.Rows as rows
use Rattle.client_steps.specs.Asked.{RunningIs, MadeIs, ClientIs, Sends, sends_none, sends_one, Tells, tells_none, tells_end, CallStepIs, call_passes, call_begins}
use Rattle.client_steps.proofs.Steps.{stepped_is, called_is, called_again_is}
use Rattle.server_rows.specs.Metadata.{MrcState, step_of_mrc}
use Rattle.server_rows.specs.Directory.{DirState, step_of_dir}
use Rattle.lease_safety.specs.State.{Has}
use Rattle.replica_runs.specs.HeadWorld.{shown}
use Rattle.world_spec.specs.declared.PlacedFile.{PlacedFile}
use Rattle.world_spec.specs.Lines.{file_entry}
use Rattle.world_runs.proofs.Making.{IsMetaIfAny, IsServed, served_of, mrc_serves, files_inert, IsListing, dir_serves}
use Rattle.world_runs.proofs.Standings.{AreInert}
use Rattle.world_safety.specs.Seen.{IsNotOf}
use Rattle.world_safety.proofs.Shown.{SaysNothing, none_says, next_says}

-- A step that is of no file: it keeps no record of one, what it sends says nothing of replication, and it marks no act on one.
pub record OfNoFile (turned : Turned) : Type 0 where
  pub rec : (file : FileId) → IsNotOf file turned.rec
  pub outs : (m : Msg) → Has m turned.outs → (n : ℕ) → shown n m.payload ≡ []
  pub marks : AreInert turned.marks

-- the entries of files
pub files_say : (number : ℕ) (files : List PlacedFile) → SaysNothing number (map file_entry files)
files_say number [] = none_says number
files_say number (f ∷ fs) = next_says number (file_entry f) (map file_entry fs) refl (files_say number fs)

-- ---- clients

abbrev Any : ℕ → Request → Type 0
Any number asked = Unit {0}

any_client : (c : WholeClient) → ClientIs Any c
any_client c = record { running = runs c.replicas.running; made = made c.made }
  where
    runs : (o : Option RunningCall) → RunningIs Any o
    runs None = tt
    runs (Some call) = tt

    made : (o : Option MadeCall) → MadeIs Any o
    made None = tt
    made (Some call) = tt

request_says : (number : ℕ) (asked : Request) (n : ℕ) → shown n (payload_of number asked) ≡ []
request_says number (request.Replicated capability asked) n = refl
request_says number (request.Striped capability asked) n = refl
request_says number (request.Meta user group asked) n = refl
request_says number (request.Registry asked) n = refl

one_request : (node to : NodeId) (number : ℕ) (asked : Request) (m : Msg) → Has m (message node to (payload_of number asked) ∷ []) → (n : ℕ) → shown n m.payload ≡ []
one_request node to number asked m (inl e) n = ap (λ (k : Msg). shown n k.payload) e ∙ request_says number asked n
one_request node to number asked m (inr h) n = absurd h

sends_say : (node : NodeId) (outs : List Msg) → Sends Any node outs → (m : Msg) → Has m outs → (n : ℕ) → shown n m.payload ≡ []
sends_say node _ sends_none m h n = absurd h
sends_say node _ (sends_one to number asked is) m h n = one_request node to number asked m h n

tells_inert : (happens : Event) (marks : List Mark) → Tells Any happens marks → AreInert marks
tells_inert happens _ tells_none = tt
tells_inert happens _ (tells_end number asked how is so) = (tt, tt)

pub event_is : (node : NodeId) (times : TimeSettings) (c : WholeClient) (reading : ℕ) (happens : Event) → OfNoFile (rows.stepped node times c reading happens).turned
event_is node times c reading happens =
    let is = stepped_is Any node times c reading happens (any_client c) in
    let turned = (rows.stepped node times c reading happens).turned in
    record { rec = λ file. subst (IsNotOf file) (sym is.rec) tt; outs = sends_say node turned.outs is.sends; marks = tells_inert happens turned.marks is.tells }

pub call_is : (node : NodeId) (times : TimeSettings) (c : WholeClient) (reading : ℕ) (k : Call) → OfNoFile (rows.called node times c reading k).turned
call_is node times c reading k = at (rows.called node times c reading k) (called_is Any node times c reading k (any_client c) (λ asked is less. tt))
  where
    at : (step : Step WholeClient) → CallStepIs Any node c reading k step → OfNoFile step.turned
    at step (call_passes is) = subst (λ (s : Step WholeClient). OfNoFile s.turned) (sym is) (record { rec = λ file. tt; outs = λ m h n. absurd h; marks = tt })
    at step (call_begins asked begun) =
        record {
          rec = λ file. subst (IsNotOf file) (sym begun.rec) tt;
          outs = λ m h n. one_request node begun.to c.replicas.next asked m (subst (Has m) begun.outs h) n;
          marks = subst AreInert (sym begun.marks) (tt, tt);
        }

pub again_is : (node : NodeId) (times : TimeSettings) (c : WholeClient) (reading : ℕ) → OfNoFile (rows.called_again node times c reading).turned
again_is node times c reading =
    let is = called_again_is Any node times c reading (any_client c) in
    record {
      rec = λ file. subst (IsNotOf file) (sym is.rec) tt;
      outs = sends_say node (rows.called_again node times c reading).turned.outs is.sends;
      marks = subst AreInert (sym is.marks) tt;
    }

-- ---- servers

meta_away : (file : FileId) (rec : Option Record) → IsMetaIfAny rec → IsNotOf file rec
meta_away file None is = tt
meta_away file (Some (kept.Meta client number now nodes what)) is = tt
meta_away file (Some _) is = absurd is

served_says : (content : Payload) → IsServed content → (n : ℕ) → shown n content ≡ []
served_says (payload.MetaReply number told) is n = refl
served_says (payload.Registry number asked) is n = refl
served_says _ is n = absurd is

listing_says : (content : Payload) → IsListing content → (n : ℕ) → shown n content ≡ []
listing_says (payload.RegistryReply number told) is n = refl
listing_says _ is n = absurd is

pub mrc_is : (key : List ℕ) (mrc : MrcState) (reading : ℕ) (happens : Event) → OfNoFile (step_of_mrc key mrc reading happens).turned
mrc_is key mrc reading happens =
    let serves = mrc_serves key mrc reading happens in
    let turned = (step_of_mrc key mrc reading happens).turned in
    record {
      rec = λ file. meta_away file turned.rec serves.rec;
      outs = λ m h. served_says m.payload (served_of turned.outs m serves.outs h);
      marks = files_inert turned.marks serves.marks;
    }

pub dir_is : (dir : DirState) (happens : Event) → OfNoFile (step_of_dir dir happens).turned
dir_is dir happens =
    let serves = dir_serves dir happens in
    record {
      rec = λ file. meta_away file (step_of_dir dir happens).turned.rec serves.rec;
      outs = λ m h. listing_says m.payload (serves.told m h);
      marks = subst AreInert (sym serves.marks) tt;
    }
