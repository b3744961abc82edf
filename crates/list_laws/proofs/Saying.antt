-- what each row of changing lists says is so once it is done
use Rattle.std.proofs.Common.{◌≡◌, ℕ, Bool, true, false, ◌==◌, not, refl, sym, subst, if◌then◌else◌, Option, Some, None, List, [], ◌∷◌, ◌++◌, cond, arith}
use Rattle.std.specs.Prelude.{nat_le}
use Rattle.std.specs.List.{AllByRecursion}
use Rattle.std.proofs.lemmas.Bool.Decides.{nat_tests}
use Rattle.xt_base.specs.declared.ids.NodeId.{NodeId}
use Rattle.xt_base.specs.declared.ids.FileId.{FileId}
use Rattle.xt_base.specs.declared.ids.Stamp.{Stamp}
use Rattle.xt_messages.specs.declared.file.FileHead.{FileHead}
use Rattle.xt_messages.specs.declared.file.Location.{Location}
use Rattle.xt_messages.specs.declared.file.ObjectVersion.{ObjectVersion}
use Rattle.xt_messages.specs.declared.message.Msg.{Msg}
use Rattle.xt_messages.specs.declared.message.Payload.{Payload}
use Rattle.xt_messages.specs.declared.message.Payload.TheVariants as payload
use Rattle.xt_messages.specs.declared.record.FileRow.{FileRow}
use Rattle.xt_messages.specs.declared.record.Record.TheVariants as kept
use Rattle.xt_messages.specs.declared.reply.Reply.{Reply}
use Rattle.xt_messages.specs.declared.reply.Reply.TheVariants as reply
use Rattle.xt_protocol.specs.declared.states.IssuedAsk.{IssuedAsk}
use Rattle.xt_protocol.specs.declared.states.WaitingAsk.{WaitingAsk}
use Rattle.xt_protocol.specs.Asks.{tells_each, tells_untold}
use Rattle.xt_protocol.specs.Folds.{body_of}
use Rattle.xt_protocol.specs.Stamps.{has_version}
use Rattle.xt_protocol.specs.Turns.{message, reply_to}
use Rattle.xt_protocol.specs.ReplicaRows.{first_missing, kept_after}
use Rattle.xt_protocol.specs.FileStates.{FileState, Site, FileStep, nothing, steps_to}
use Rattle.list_rows.specs.ListRows.{list_version, is_version, close_comes, closes, install_comes, takes_or_pulls, tells_closed, tells_installed, pull_comes, pulled_comes}
use Rattle.list_laws.specs.Takes.{ListRow, turns_off, rests, pulls, pulled}
use Rattle.list_laws.specs.Takes as takes
use Rattle.list_laws.specs.Saying.{Says}

abbrev Saying : Site → FileStep → Type 0
Saying site step = AllByRecursion (Says site step.state.kept) step.turned.outs

-- replies
each_says : (site : Site) (row : FileRow) (file : FileId) (asks : List WaitingAsk) (answer : Reply) → file ≡ row.file → AllByRecursion (Says site row) (tells_each site.node file asks answer)
each_says site row file [] answer is = tt
each_says site row file (w ∷ ws) answer is = (record { from = refl; list = refl; so = is }, each_says site row file ws answer is)

untold_says : (site : Site) (row : FileRow) (file : FileId) (ask : Option IssuedAsk) (answer : Reply) → file ≡ row.file
    → AllByRecursion (Says site row) (tells_untold site.node file ask answer)
untold_says site row file None answer is = tt
untold_says site row file (Some issued) answer is = told_or issued.told
  where
    told_or : (b : Bool) → AllByRecursion (Says site row) (cond b [] (reply_to site.node file issued.ask.id answer ∷ []))
    told_or true = tt
    told_or false = (record { from = refl; list = refl; so = is }, tt)

both_say : (site : Site) (row : FileRow) (xs ys : List Msg) → AllByRecursion (Says site row) xs → AllByRecursion (Says site row) ys → AllByRecursion (Says site row) (xs ++ ys)
both_say site row [] ys first second = second
both_say site row (x ∷ xs) ys first second = (first.0, both_say site row xs ys first.1 second)

-- all asks are told, and then this
let_go_says : (site : Site) (s : FileState) (row : FileRow) (last : Msg) → s.kept.file ≡ row.file → Says site row last
    → AllByRecursion (Says site row)
    ((tells_untold site.node s.kept.file s.asks.issued (reply.NoLease s.last_end) ++ tells_each site.node s.kept.file s.asks.waiting (reply.NoLease s.last_end)) ++ last ∷ [])
let_go_says site s row last same says =
    let answer = reply.NoLease s.last_end in
    both_say site row (tells_untold site.node s.kept.file s.asks.issued answer ++ tells_each site.node s.kept.file s.asks.waiting answer) (last ∷ [])
    (both_say site row (tells_untold site.node s.kept.file s.asks.issued answer) (tells_each site.node s.kept.file s.asks.waiting answer)
    (untold_says site row s.kept.file s.asks.issued answer same) (each_says site row s.kept.file s.asks.waiting answer same))
    (says, tt)

itself : (n : ℕ) → (n == n) ≡ true
itself n = grind (arith, nat_tests)

not_above : (n : ℕ) → nat_le n n ≡ true
not_above n = grind (arith, nat_tests)

close_says : (site : Site) (s : FileState) (from : NodeId) (version : ℕ) → Saying site (close_comes site s from version)
unfolding close_comes
close_says site s from version = at (is_version version s.kept.closed) refl (version == list_version s.kept.location)
  where
    at : (closed : Bool) → is_version version s.kept.closed ≡ closed → (same : Bool)
        → Saying site (if closed then steps_to s (tells_closed site s from version) else if same then closes site s from version else nothing s)
    at true is same = (record { from = refl; list = refl; so = (refl, is, refl) }, tt)
    at false is true =
        let row = kept_after s.kept (Some (kept.Close s.kept.file version)) in
        let_go_says site s row (message site.node from (payload.Closed s.kept.file version s.kept.head)) refl
        (record { from = refl; list = refl; so = (refl, itself version, refl) })
    at false is false = tt

-- the first that isn't held isn't held
not_held : (held wanted : List ObjectVersion) (v : ObjectVersion) → first_missing held wanted ≡ Some v → has_version held v ≡ false
not_held held [] v is = absurd (cc)
not_held held (w ∷ ws) v is = at (has_version held w) refl (not_held held ws v) is
  where
    at : (b : Bool) → has_version held w ≡ b → (first_missing held ws ≡ Some v → has_version held v ≡ false)
        → cond (not b) (Some w) (first_missing held ws) ≡ Some v → has_version held v ≡ false
    at true here rest is = rest is
    at false here rest is = let same : w ≡ v = cc in subst (λ (x : ObjectVersion). has_version held x ≡ false) same here

missing_says : (site : Site) (s : FileState) (from : NodeId) (location : Location) (head : FileHead) (source : NodeId) (lacks : Option ObjectVersion) → first_missing s.kept.held head.versions ≡ lacks
    → Saying site (takes_or_pulls site s from location head source lacks)
missing_says site s from location head source None is =
    let row = kept_after s.kept (Some (kept.Install s.kept.file location head)) in
    let_go_says site s row (message site.node from (payload.Installed s.kept.file location.version)) refl
    (record { from = refl; list = refl; so = (refl, not_above location.version) })
missing_says site s from location head source (Some v) is =
    (record { from = refl; list = refl; so = (refl, not_held s.kept.held head.versions v is) }, tt)

install_says : (site : Site) (s : FileState) (from : NodeId) (location : Location) (head : FileHead) (source : NodeId) → Saying site (install_comes site s from location head source)
unfolding install_comes
install_says site s from location head source = at (nat_le location.version (list_version s.kept.location)) refl
  where
    at : (stored : Bool) → nat_le location.version (list_version s.kept.location) ≡ stored
        → Saying site (if stored then steps_to s (tells_installed site s from location) else takes_or_pulls site s from location head source (first_missing s.kept.held head.versions))
    at true is = (record { from = refl; list = refl; so = (refl, is) }, tt)
    at false is = missing_says site s from location head source (first_missing s.kept.held head.versions) refl

pull_says : (site : Site) (s : FileState) (from : NodeId) (object : ℕ) (version : Stamp) → Saying site (pull_comes site s from object version)
unfolding pull_comes
pull_says site s from object version = at (has_version s.kept.held (body_of object version)) refl
  where
    sent : Msg
    sent = message site.node from (payload.Pulled s.kept.file object version (site.body s.kept.file object version))

    at : (here : Bool) → has_version s.kept.held (body_of object version) ≡ here
        → Saying site (if here then steps_to s (record { rec = None; outs = sent ∷ []; marks = [] }) else nothing s)
    at true is = (record { from = refl; list = refl; so = (refl, is, refl) }, tt)
    at false is = tt

staged_file : (s : FileState) (object : ℕ) (version : Stamp) (bytes : List ℕ) (here : Bool)
    → s.kept.file ≡ (kept_after s.kept (cond here None (Some (kept.Stage s.kept.file object version bytes)))).file
staged_file s object version bytes true = refl
staged_file s object version bytes false = refl

pulled_says : (site : Site) (s : FileState) (object : ℕ) (version : Stamp) (bytes : List ℕ) → Saying site (pulled_comes site s object version bytes)
unfolding pulled_comes
pulled_says site s object version bytes =
    (record { from = refl; list = refl; so = staged_file s object version bytes (has_version s.kept.held (body_of object version)) }, tt)

pub row_says : (site : Site) (s : FileState) (from : NodeId) (content : Payload) (step : FileStep) → ListRow site s from content step → Saying site step
row_says site s from content step (turns_off id is) = subst (λ (st : FileStep). Saying site st) (sym is) (record { from = refl; list = refl; so = refl }, tt)
row_says site s from content step (rests is) = subst (λ (st : FileStep). Saying site st) (sym is) tt
row_says site s from content step (takes.closing file version said is) = subst (λ (st : FileStep). Saying site st) (sym is) (close_says site s from version)
row_says site s from content step (takes.installing file location head source said is) =
    subst (λ (st : FileStep). Saying site st) (sym is) (install_says site s from location head source)
row_says site s from content step (pulls file object version said is) = subst (λ (st : FileStep). Saying site st) (sym is) (pull_says site s from object version)
row_says site s from content step (pulled file object version bytes said is) = subst (λ (st : FileStep). Saying site st) (sym is) (pulled_says site s object version bytes)
