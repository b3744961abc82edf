-- what each row of changing lists gives
use Rattle.std.proofs.Common.{◌≡◌, ℕ, Bool, true, false, ◌==◌, refl, sym, subst, if◌then◌else◌, Option, Some, None, List, [], ◌∷◌, arith}
use Rattle.std.specs.Prelude.{nat_le}
use Rattle.std.proofs.lemmas.Bool.Decides.{nat_tests}
use Rattle.xt_base.specs.declared.TheConstants.{MRC_NODE}
use Rattle.xt_base.specs.declared.ids.NodeId.{NodeId}
use Rattle.xt_base.specs.declared.ids.FileId.{FileId}
use Rattle.xt_base.specs.declared.ids.Stamp.{Stamp}
use Rattle.xt_messages.specs.declared.file.FileHead.{FileHead}
use Rattle.xt_messages.specs.declared.file.Location.{Location}
use Rattle.xt_messages.specs.declared.file.ObjectVersion.{ObjectVersion}
use Rattle.xt_messages.specs.declared.message.Msg.{Msg}
use Rattle.xt_messages.specs.declared.message.Payload.{Payload}
use Rattle.xt_messages.specs.declared.message.Payload.TheVariants as payload
use Rattle.xt_messages.specs.declared.reply.Reply.TheVariants as reply
use Rattle.xt_protocol.specs.Folds.{body_of}
use Rattle.xt_protocol.specs.Stamps.{has_version}
use Rattle.xt_protocol.specs.Turns.{message, reply_to}
use Rattle.xt_protocol.specs.ReplicaRows.{first_missing}
use Rattle.xt_protocol.specs.FileStates.{FileState, Site, FileStep, nothing, steps_to}
use Rattle.list_rows.specs.ListRows.{list_version, is_version, told_version, close_comes, closes, install_comes, takes_or_pulls, tells_closed, tells_installed, pull_comes, pulled_comes}
use Rattle.list_laws.specs.Takes.{ListRow, turns_off, rests, pulls, pulled}
use Rattle.list_laws.specs.Takes as takes
use Rattle.list_laws.specs.Outcomes.{RowGives, speaks, stages, closing, installing}

close_gives : (site : Site) (s : FileState) (from : NodeId) (content : Payload) (file : FileId) (version : ℕ) → content ≡ payload.Close file version
    → RowGives site s from content (close_comes site s from version)
unfolding close_comes
close_gives site s from content file version is = at (is_version version s.kept.closed) refl (version == list_version s.kept.location) refl
  where
    at : (closed : Bool) → is_version version s.kept.closed ≡ closed → (same : Bool) → (version == list_version s.kept.location) ≡ same
        → RowGives site s from content (if closed then steps_to s (tells_closed site s from version) else if same then closes site s from version else nothing s)
    at true is_closed same is_same = speaks (message site.node from (payload.Closed s.kept.file version s.kept.head) ∷ []) (refl, tt) refl
    at false is_closed true is_same =
        closing version (record { file = file; is = is; same = (grind (arith, nat_tests, is_same)); open_list = is_closed }) refl
    at false is_closed false is_same = speaks [] tt refl

missing_gives : (site : Site) (s : FileState) (from : NodeId) (content : Payload) (file : FileId) (location : Location) (head : FileHead) (source : NodeId)
    → content ≡ payload.Install file location head source → nat_le location.version (list_version s.kept.location) ≡ false
    → (lacks : Option ObjectVersion) → first_missing s.kept.held head.versions ≡ lacks
    → RowGives site s from content (takes_or_pulls site s from location head source lacks)
missing_gives site s from content file location head source is later None held =
    installing location head (record { file = file; source = source; is = is; later = later; held = held }) refl
missing_gives site s from content file location head source is later (Some v) held =
    speaks (message site.node source (payload.Pull s.kept.file v.object v.version) ∷ []) (refl, tt) refl

install_gives : (site : Site) (s : FileState) (from : NodeId) (content : Payload) (file : FileId) (location : Location) (head : FileHead) (source : NodeId)
    → content ≡ payload.Install file location head source → RowGives site s from content (install_comes site s from location head source)
unfolding install_comes
install_gives site s from content file location head source is = at (nat_le location.version (list_version s.kept.location)) refl
  where
    at : (stored : Bool) → nat_le location.version (list_version s.kept.location) ≡ stored
        → RowGives site s from content
        (if stored then steps_to s (tells_installed site s from location) else takes_or_pulls site s from location head source (first_missing s.kept.held head.versions))
    at true is_stored = speaks (message site.node from (payload.Installed s.kept.file location.version) ∷ []) (refl, tt) refl
    at false is_stored = missing_gives site s from content file location head source is is_stored (first_missing s.kept.held head.versions) refl

pull_gives : (site : Site) (s : FileState) (from : NodeId) (content : Payload) (object : ℕ) (version : Stamp) → RowGives site s from content (pull_comes site s from object version)
unfolding pull_comes
pull_gives site s from content object version = at (has_version s.kept.held (body_of object version))
  where
    sent : Msg
    sent = message site.node from (payload.Pulled s.kept.file object version (site.body s.kept.file object version))

    at : (here : Bool) → RowGives site s from content (if here then steps_to s (record { rec = None; outs = sent ∷ []; marks = [] }) else nothing s)
    at true = speaks (sent ∷ []) (refl, tt) refl
    at false = speaks [] tt refl

pulled_gives : (site : Site) (s : FileState) (from : NodeId) (content : Payload) (file : FileId) (object : ℕ) (version : Stamp) (bytes : List ℕ)
    → content ≡ payload.Pulled file object version bytes → RowGives site s from content (pulled_comes site s object version bytes)
unfolding pulled_comes
pulled_gives site s from content file object version bytes is =
    stages file object version bytes (message site.node MRC_NODE (payload.Wanted s.kept.file) ∷ []) is (refl, tt) refl

pub given : (site : Site) (s : FileState) (from : NodeId) (content : Payload) (step : FileStep) → ListRow site s from content step → RowGives site s from content step
given site s from content step (turns_off id is) =
    speaks (reply_to site.node s.kept.file id (reply.OldList (told_version s.kept)) ∷ []) (refl, tt) is
given site s from content step (rests is) = speaks [] tt is
given site s from content step (takes.closing file version said is) =
    subst (λ (st : FileStep). RowGives site s from content st) (sym is) (close_gives site s from content file version said)
given site s from content step (takes.installing file location head source said is) =
    subst (λ (st : FileStep). RowGives site s from content st) (sym is) (install_gives site s from content file location head source said)
given site s from content step (pulls file object version said is) =
    subst (λ (st : FileStep). RowGives site s from content st) (sym is) (pull_gives site s from content object version)
given site s from content step (pulled file object version bytes said is) =
    subst (λ (st : FileStep). RowGives site s from content st) (sym is) (pulled_gives site s from content file object version bytes said)
