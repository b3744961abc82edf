-- a refusal leaves the volumes and the files as they were
use Rattle.std.proofs.Common.{◌≡◌, ◌∙◌, ℕ, refl, ap, subst, true}
use Rattle.std.specs.Prelude.{Option, Some, None, Result, Ok, Err, List, [], ◌∷◌}
use Rattle.xt_base.specs.declared.ids.NodeId.{NodeId}
use Rattle.xt_base.specs.declared.ids.FileId.{FileId}
use Rattle.xt_base.specs.declared.ids.SizeMark.{SizeMark}
use Rattle.xt_messages.specs.declared.file.Kind.{Kind}
use Rattle.xt_messages.specs.declared.file.Kind.TheVariants as kind
use Rattle.xt_messages.specs.declared.reply.Denial.{Denial}
use Rattle.xt_messages.specs.declared.meta.MetaReq.{MetaReq}
use Rattle.xt_messages.specs.declared.meta.MetaReq.TheVariants as ask
use Rattle.xt_messages.specs.declared.meta.MetaRefusal.{MetaRefusal}
use Rattle.xt_messages.specs.declared.meta.MetaAnswer.{MetaAnswer}
use Rattle.xt_messages.specs.declared.meta.MetaAnswer.TheVariants as answer
use Rattle.volume_rows.specs.declared.Asker.{Asker}
use Rattle.volume_rows.specs.declared.Entry.{Entry}
use Rattle.volume_rows.specs.declared.Content.TheVariants as content
use Rattle.volume_rows.specs.declared.Granting.{Granting}
use Rattle.volume_rows.specs.declared.Picked.{Picked}
use Rattle.volume_rows.specs.declared.Picked.TheVariants as place
use Rattle.volume_rows.specs.Paths.{Path, path_in}
use Rattle.volume_rows.specs.Rows.{Row, Volumes, entry_at, with_row, without_row, renamed, page_of}
use Rattle.volume_rows.specs.Rights.{reading, rule_of_read, first_of, ancestors, absent, there, directory, file, allowed, owned, parent_writable, empty, same_volume, outside}
use Rattle.volume_rows.specs.Requests.{Outcome, done, tells, after_tests, has_names, on_path, on_paths, made, file_placed, row_told, mode_put, directory_made, file_made, path_renamed, file_unlinked, directory_removed, entry_told, names_listed, mode_set, applied}
use Rattle.reply_cache.specs.Standings.{with_answer}
use Rattle.server_rows.specs.Laws.{IsChange, SettlesAs, Settles}
use Rattle.capabilities.specs.Denials.{denial_of}
use Rattle.volume_rows.specs.Grants.{sizes_in, located, located_as}
use Rattle.server_rows.specs.Requests.{outcome_of, place_of, settled, grant_settled, report_settled, grant_at, made_after}
use Rattle.server_rows.specs.Metadata.{Catalogue, after_request}

after_tests_settle : (volumes : Volumes) (test : Option MetaRefusal) (passed : Outcome) → Settles volumes passed → Settles volumes (after_tests volumes test passed)
after_tests_settle volumes (Some why) passed settles = refl
after_tests_settle volumes None passed settles = settles

on_path_settle : (volumes : Volumes) (path : Option Path) (on : Path → Outcome) → ((p : Path) → Settles volumes (on p)) → Settles volumes (on_path volumes path on)
on_path_settle volumes None on settles = refl
on_path_settle volumes (Some path) on settles = settles path

on_paths_settle : (volumes : Volumes) (from to : Option Path) (on : Path → Path → Outcome) → ((p q : Path) → Settles volumes (on p q)) → Settles volumes (on_paths volumes from to on)
on_paths_settle volumes (Some from) (Some to) on settles = settles from to
on_paths_settle volumes (Some from) None on settles = refl
on_paths_settle volumes None to on settles = refl

placed_settle : (volumes : Volumes) (who : Asker) (mode : ℕ) (path : Path) (pick : Picked) → Settles volumes (file_placed volumes who mode path pick)
placed_settle volumes who mode path (place.TooFew have) = refl
placed_settle volumes who mode path (place.On location) = tt

mode_settle : (volumes : Volumes) (path : Path) (mode : ℕ) (entry : Option Entry) → Settles volumes (mode_put volumes path mode entry)
mode_settle volumes path mode None = refl
mode_settle volumes path mode (Some entry) = tt

-- the tests of each request, in order
abbrev pub making : Asker → List Row → Path → Option MetaRefusal
making who rows path = first_of (ancestors who rows path ∷ absent (entry_at rows path) ∷ parent_writable who rows path ∷ [])

abbrev pub renaming : Asker → List Row → Path → Path → Option MetaRefusal
renaming who rows from to =
    first_of
    (ancestors who rows from ∷ same_volume from to ∷ there (entry_at rows from) ∷ outside from to ∷ ancestors who rows to ∷ absent (entry_at rows to)
    ∷ parent_writable who rows from
    ∷ parent_writable who rows to
    ∷ [])

abbrev pub unlinking : Asker → List Row → Path → Option MetaRefusal
unlinking who rows path =
    first_of (ancestors who rows path ∷ there (entry_at rows path) ∷ file (entry_at rows path) ∷ parent_writable who rows path ∷ [])

abbrev pub removing : Asker → List Row → Path → Option MetaRefusal
removing who rows path =
    first_of (ancestors who rows path ∷ there (entry_at rows path) ∷ directory (entry_at rows path) ∷ empty rows path ∷ parent_writable who rows path ∷ [])

abbrev pub setting : Asker → List Row → Path → Option MetaRefusal
setting who rows path = first_of (ancestors who rows path ∷ there (entry_at rows path) ∷ owned who (entry_at rows path) ∷ [])

abbrev pub listing : Asker → List Row → Path → Option MetaRefusal
listing who rows path =
    first_of
    (ancestors who rows path ∷ there (entry_at rows path) ∷ directory (entry_at rows path) ∷ allowed who reading rule_of_read (entry_at rows path) ∷ [])

pub changes_settle : (volumes : Volumes) (who : Asker) (pick : Picked) (request : MetaReq) → IsChange request → Settles volumes (applied volumes who pick request)
changes_settle volumes who pick (ask.Mkdir path mode) is =
    on_path_settle volumes (has_names 1 (path_in path)) (directory_made volumes who mode)
    (λ p. after_tests_settle volumes (making who volumes.rows p) (done volumes (with_row volumes.rows (made who mode content.Directory p))) tt)
changes_settle volumes who pick (ask.Create path mode kind n stripe) is =
    on_path_settle volumes (has_names 2 (path_in path)) (file_made volumes who mode pick)
    (λ p. after_tests_settle volumes (making who volumes.rows p) (file_placed volumes who mode p pick) (placed_settle volumes who mode p pick))
changes_settle volumes who pick (ask.Rename from to) is =
    on_paths_settle volumes (has_names 1 (path_in from)) (has_names 1 (path_in to)) (path_renamed volumes who)
    (λ p q. after_tests_settle volumes (renaming who volumes.rows p q) (done volumes (renamed volumes.rows p q)) tt)
changes_settle volumes who pick (ask.Unlink path) is =
    on_path_settle volumes (has_names 1 (path_in path)) (file_unlinked volumes who)
    (λ p. after_tests_settle volumes (unlinking who volumes.rows p) (done volumes (without_row volumes.rows p)) tt)
changes_settle volumes who pick (ask.Rmdir path) is =
    on_path_settle volumes (has_names 1 (path_in path)) (directory_removed volumes who)
    (λ p. after_tests_settle volumes (removing who volumes.rows p) (done volumes (without_row volumes.rows p)) tt)
changes_settle volumes who pick (ask.List path after) is = absurd is
changes_settle volumes who pick (ask.Stat path) is = absurd is
changes_settle volumes who pick (ask.Chmod path mode) is =
    on_path_settle volumes (has_names 1 (path_in path)) (mode_set volumes who mode)
    (λ p. after_tests_settle volumes (setting who volumes.rows p) (mode_put volumes p mode (entry_at volumes.rows p)) (mode_settle volumes p mode (entry_at volumes.rows p)))
changes_settle volumes who pick (ask.Grant path want) is = absurd is
changes_settle volumes who pick (ask.Report capability mark) is = absurd is
changes_settle volumes who pick (ask.Change path nodes) is = absurd is
changes_settle volumes who pick (ask.Locate path) is = absurd is

-- where an answer is a refusal, the volumes are as they were
abbrev KeepsAs : Volumes → Volumes → MetaAnswer → Type 0
KeepsAs old new (answer.Refused why) = new ≡ old
KeepsAs old new _ = Unit {0}

abbrev Keeps : Volumes → Outcome → Type 0
Keeps volumes outcome = KeepsAs volumes outcome.volumes outcome.answer

settled_keeps : (old new : Volumes) (what : MetaAnswer) → SettlesAs old new what → KeepsAs old new what
settled_keeps old new (answer.Refused why) settles = settles
settled_keeps old new _ settles = tt

after_tests_keep : (volumes : Volumes) (test : Option MetaRefusal) (passed : Outcome) → Keeps volumes passed → Keeps volumes (after_tests volumes test passed)
after_tests_keep volumes (Some why) passed keeps = refl
after_tests_keep volumes None passed keeps = keeps

on_path_keep : (volumes : Volumes) (path : Option Path) (on : Path → Outcome) → ((p : Path) → Keeps volumes (on p)) → Keeps volumes (on_path volumes path on)
on_path_keep volumes None on keeps = refl
on_path_keep volumes (Some path) on keeps = keeps path

row_keeps : (volumes : Volumes) (entry : Option Entry) → Keeps volumes (row_told volumes entry)
row_keeps volumes None = refl
row_keeps volumes (Some entry) = tt

grant_keeps : (key : List ℕ) (volumes : Volumes) (now want : ℕ) (grant : Result Granting MetaRefusal) → Keeps volumes (settled volumes (grant_settled key now want grant))
grant_keeps key volumes now want (Err why) = refl
grant_keeps key volumes now want (Ok grant) = tt

report_keeps : (volumes : Volumes) (file : FileId) (denial : Option Denial) (sizes : Option (ℕ × SizeMark)) (mark : SizeMark) → Keeps volumes (settled volumes (report_settled file denial sizes mark))
report_keeps volumes file (Some rule) sizes mark = refl
report_keeps volumes file None None mark = refl
report_keeps volumes file None (Some sizes) mark = tt

located_keeps : (volumes : Volumes) (grant : Result Granting MetaRefusal) → Keeps volumes (tells volumes (located grant))
located_keeps volumes (Err why) = refl
located_keeps volumes (Ok grant) = go grant.location.kind where
  go : (k : Kind) → Keeps volumes (tells volumes (located_as k grant.location))
  go kind.Replicated = tt
  go kind.Striped = refl

change_keeps : (volumes : Volumes) (who : Asker) (pick : Picked) (request : MetaReq) → IsChange request → Keeps volumes (applied volumes who pick request)
change_keeps volumes who pick request is =
    settled_keeps volumes (applied volumes who pick request).volumes (applied volumes who pick request).answer (changes_settle volumes who pick request is)

outcome_keeps : (key : List ℕ) (volumes : Volumes) (who : Asker) (now : ℕ) (nodes : Option (List NodeId)) (request : MetaReq) → Keeps volumes (outcome_of key volumes who now nodes request)
outcome_keeps key volumes who now nodes (ask.Mkdir path mode) = change_keeps volumes who (place_of nodes (ask.Mkdir path mode)) (ask.Mkdir path mode) tt
outcome_keeps key volumes who now nodes (ask.Create path mode kind n stripe) = change_keeps volumes who (place_of nodes (ask.Create path mode kind n stripe)) (ask.Create path mode kind n stripe) tt
outcome_keeps key volumes who now nodes (ask.Rename from to) = change_keeps volumes who (place_of nodes (ask.Rename from to)) (ask.Rename from to) tt
outcome_keeps key volumes who now nodes (ask.Unlink path) = change_keeps volumes who (place_of nodes (ask.Unlink path)) (ask.Unlink path) tt
outcome_keeps key volumes who now nodes (ask.Rmdir path) = change_keeps volumes who (place_of nodes (ask.Rmdir path)) (ask.Rmdir path) tt
outcome_keeps key volumes who now nodes (ask.List path after) =
    on_path_keep volumes (path_in path) (names_listed volumes who after) (λ p. after_tests_keep volumes (listing who volumes.rows p) (tells volumes (answer.Names (page_of volumes.rows p after))) tt)
outcome_keeps key volumes who now nodes (ask.Stat path) =
    on_path_keep volumes (has_names 1 (path_in path)) (entry_told volumes who)
    (λ p. after_tests_keep volumes (ancestors who volumes.rows p) (row_told volumes (entry_at volumes.rows p)) (row_keeps volumes (entry_at volumes.rows p)))
outcome_keeps key volumes who now nodes (ask.Chmod path mode) = change_keeps volumes who (place_of nodes (ask.Chmod path mode)) (ask.Chmod path mode) tt
outcome_keeps key volumes who now nodes (ask.Grant path want) = grant_keeps key volumes now want (grant_at volumes who want path)
outcome_keeps key volumes who now nodes (ask.Report capability mark) =
    report_keeps volumes capability.file (denial_of key capability capability.file now true) (sizes_in volumes.rows capability.file) mark
outcome_keeps key volumes who now nodes (ask.Change path list) = tt
outcome_keeps key volumes who now nodes (ask.Locate path) = located_keeps volumes (grant_at volumes who 1 path)

-- what is known after a request that came to these volumes and this answer
abbrev known_after : Catalogue → NodeId → ℕ → ℕ → Option (List NodeId) → MetaReq → Volumes → MetaAnswer → Catalogue
known_after catalogue client number now nodes request volumes what =
    record {
      volumes = volumes;
      made = made_after catalogue.volumes now nodes request what catalogue.made;
      clients = with_answer catalogue.clients client number what;
    }

pub refusal_changes_nothing : (key : List ℕ) (catalogue : Catalogue) (client : NodeId) (number now : ℕ) (nodes : Option (List NodeId)) (who : Asker) (request : MetaReq) (why : MetaRefusal) →
    (outcome_of key catalogue.volumes who now nodes request).answer ≡ answer.Refused why →
    after_request key catalogue client number now nodes who request ≡ record catalogue { clients = with_answer catalogue.clients client number (answer.Refused why) }
refusal_changes_nothing key catalogue client number now nodes who request why is =
    let outcome = outcome_of key catalogue.volumes who now nodes request in
    let same : outcome.volumes ≡ catalogue.volumes = subst (KeepsAs catalogue.volumes outcome.volumes) is (outcome_keeps key catalogue.volumes who now nodes request) in
    ap (λ (volumes : Volumes). known_after catalogue client number now nodes request volumes outcome.answer) same ∙ ap (known_after catalogue client number now nodes request catalogue.volumes) is
