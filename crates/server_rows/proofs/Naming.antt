-- each capability that is granted names a file that was made, at its place
use Rattle.std.proofs.Common.{◌≡◌, ◌∙◌, ℕ, ◌+◌, ◌≤◌, refl, sym, ap, subst, Bool, true, false, cond, arith}
use Rattle.std.specs.Prelude.{Option, Some, None, Result, Ok, Err, List, [], ◌∷◌, ◌++◌, ◌&&◌, map, filter, fold, nat_eq, nat_lt, nat_le, length, drop, not, max}
use Rattle.std.specs.Ordering.{is_lt}
use Rattle.std.specs.Str.{bytes_eq}
use Rattle.std.specs.Map.{lookup}
use Rattle.std.proofs.lemmas.Bool.{eqb-true, eq-eqb}
use Rattle.std.proofs.lemmas.Slice.Eq.{bytes_eq-Decides}
use Rattle.indexmap.specs.IndexMap.{insert_entry}
use Rattle.xt_base.specs.declared.ids.NodeId.{NodeId}
use Rattle.xt_base.specs.declared.ids.FileId.{FileId}
use Rattle.xt_base.specs.declared.ids.SizeMark.{SizeMark}
use Rattle.xt_messages.specs.declared.file.Kind.{Kind}
use Rattle.xt_messages.specs.declared.file.Kind.TheVariants as kind
use Rattle.xt_messages.specs.declared.reply.Denial.{Denial}
use Rattle.xt_messages.specs.declared.meta.MetaReq.{MetaReq}
use Rattle.xt_messages.specs.declared.meta.MetaReq.TheVariants as ask
use Rattle.xt_messages.specs.declared.meta.MetaRefusal.{MetaRefusal}
use Rattle.xt_messages.specs.declared.meta.MetaRefusal.TheVariants as refusal
use Rattle.xt_messages.specs.declared.meta.MetaAnswer.{MetaAnswer}
use Rattle.xt_messages.specs.declared.meta.MetaAnswer.TheVariants as answer
use Rattle.xt_messages.specs.declared.message.Payload.{Payload}
use Rattle.xt_messages.specs.declared.message.Payload.TheVariants as payload
use Rattle.xt_messages.specs.declared.registry.RegistryRow.{RegistryRow}
use Rattle.xt_messages.specs.declared.registry.RegistryAnswer.{RegistryAnswer}
use Rattle.xt_messages.specs.declared.registry.RegistryAnswer.TheVariants as told
use Rattle.xt_messages.specs.declared.event.Event.{Event}
use Rattle.xt_messages.specs.declared.event.Event.TheVariants as event
use Rattle.xt_messages.specs.declared.record.Logged.TheVariants as logged
use Rattle.xt_messages.specs.declared.record.Record.{Record}
use Rattle.xt_messages.specs.declared.record.Record.TheVariants as kept
use Rattle.reply_cache.specs.declared.Kept.{Kept}
use Rattle.reply_cache.specs.declared.Standing.{Standing}
use Rattle.reply_cache.specs.declared.Standing.TheVariants as standing
use Rattle.reply_cache.specs.Standings.{compared, standing_of}
use Rattle.volume_rows.specs.declared.Asker.{Asker}
use Rattle.volume_rows.specs.declared.Entry.{Entry}
use Rattle.volume_rows.specs.declared.Stored.{Stored}
use Rattle.volume_rows.specs.declared.Content.{Content}
use Rattle.volume_rows.specs.declared.Content.TheVariants as content
use Rattle.volume_rows.specs.declared.Granting.{Granting}
use Rattle.volume_rows.specs.declared.Picked.{Picked}
use Rattle.volume_rows.specs.declared.Picked.TheVariants as place
use Rattle.volume_rows.specs.Paths.{Name, Path, path_in, same_path, path_cmp, is_within}
use Rattle.volume_rows.specs.Rows.{Row, Volumes, entry_in, entry_at, with_row, without_row, rows_within, rows_outside, moved, renamed, page_of}
use Rattle.volume_rows.specs.Rights.{ancestors, absent, allowed, directory, empty, file, first_of, outside, owned, parent_writable, reading, rule_of_read, same_volume, there}
use Rattle.volume_rows.specs.Grants.{volume_id, volume_of, file_id, stored_of, stored_in, file_of, file_at, holds_file, with_sizes, sizes_set, sizes_in, granted, granted_of, located, located_as, unless_refused, wanted}
use Rattle.volume_rows.specs.Requests.{Outcome, done, tells, refused, after_tests, has_names, on_path, on_paths, made, new_file, file_placed, row_told, mode_put, directory_made, file_made, path_renamed, file_unlinked, directory_removed, entry_told, names_listed, mode_set}
use Rattle.capabilities.specs.Denials.{denial_of}
use Rattle.server_rows.specs.declared.MadeFile.{MadeFile}
use Rattle.server_rows.specs.declared.NewSizes.{NewSizes}
use Rattle.server_rows.specs.Requests.{outcome_of, place_of, settled, grant_settled, report_settled, grant_at, is_done, noted, ends_at, ended, made_by, made_after, is_recorded, is_spent, nodes_for}
use Rattle.server_rows.specs.Requests as rows
use Rattle.server_rows.specs.Metadata.{Catalogue, MrcState, MrcStep, empty_catalogue, after_request, after_meta, after_record, catalogue_of, nothing, answered, recorded, fresh, by_standing, requested, rows_heard, nodes_of, is_dir, told_by, handled, step_of_mrc}
use Rattle.server_rows.specs.Naming.{Made, IsMadeAs, NamesMade, IsNamed, AreNamed, AnswersName, RisesTo, Holds, GrantMade, Stays}
use Rattle.server_rows.proofs.Taking.{taken_or_not}

-- ---- the files by their numbers

abbrev found : Made → ℕ → Option MadeFile
found es number = lookup (nat_eq number) es

not_both : (a b c : ℕ) → nat_eq a b ≡ false → nat_eq c b ≡ true → nat_eq c a ≡ true → ⊥
not_both a b c differ one other =
    let same : a ≡ b = sym (eqb-true c a other) ∙ eqb-true c b one in
    let so : nat_eq a b ≡ true = eq-eqb a b same in
    cc (so, differ)

-- what is found once this is put under a number
found_put : (es : Made) (number q : ℕ) (m : MadeFile) → found (insert_entry nat_eq es number m) q ≡ cond (nat_eq q number) (Some m) (found es q)
found_put [] number q m = refl
found_put (e ∷ es) number q m = go (nat_eq number e.0) refl (found_put es number q m) where
  here : number ≡ e.0 → cond (nat_eq q e.0) (Some m) (found es q) ≡ cond (nat_eq q number) (Some m) (cond (nat_eq q e.0) (Some e.1) (found es q))
  here same = ap (λ (n : ℕ). cond (nat_eq q n) (Some m) (found es q)) (sym same) ∙ twice (nat_eq q number) refl where
    twice : (b : Bool) → nat_eq q number ≡ b → cond b (Some m) (found es q) ≡ cond b (Some m) (cond (nat_eq q e.0) (Some e.1) (found es q))
    twice true is = refl
    twice false is = ap (λ (b : Bool). cond b (Some e.1) (found es q)) (sym (ap (nat_eq q) (sym same) ∙ is))

  swap : nat_eq number e.0 ≡ false → (a b : Bool) → nat_eq q e.0 ≡ a → nat_eq q number ≡ b → cond a (Some e.1) (cond b (Some m) (found es q)) ≡ cond b (Some m) (cond a (Some e.1) (found es q))
  swap differ true true one other = absurd (not_both number e.0 q differ one other)
  swap differ true false one other = refl
  swap differ false b one other = refl

  go : (b : Bool) → nat_eq number e.0 ≡ b → found (insert_entry nat_eq es number m) q ≡ cond (nat_eq q number) (Some m) (found es q)
      → found (cond b ((e.0, m) ∷ es) (e ∷ insert_entry nat_eq es number m)) q ≡ cond (nat_eq q number) (Some m) (cond (nat_eq q e.0) (Some e.1) (found es q))
  go true same later = here (eqb-true number e.0 same)
  go false differ later = ap (λ (o : Option MadeFile). cond (nat_eq q e.0) (Some e.1) o) later ∙ swap differ (nat_eq q e.0) (nat_eq q number) refl refl

-- a file that takes the place of one keeps its id and its place
abbrev Keeps : Made → ℕ → MadeFile → Type 0
Keeps es number m = (y : MadeFile) → found es number ≡ Some y → (m.file ≡ y.file) × (m.location ≡ y.location)

stays_put : (es : Made) (number : ℕ) (m : MadeFile) → Keeps es number m → Stays es (insert_entry nat_eq es number m)
stays_put es number m keeps file location is = go (nat_eq file.number number) refl where
  go : (b : Bool) → nat_eq file.number number ≡ b → IsMadeAs (insert_entry nat_eq es number m) file location
  go true at =
      let same : file.number ≡ number = eqb-true file.number number at in
      let both = keeps is.which (ap (found es) (sym same) ∙ is.there) in
      record {
        which = m;
        there = found_put es number file.number m ∙ ap (λ (b : Bool). cond b (Some m) (found es file.number)) at;
        same = both.0 ∙ is.same;
        place = both.1 ∙ is.place;
      }
  go false at =
      record {
        which = is.which;
        there = found_put es number file.number m ∙ ap (λ (b : Bool). cond b (Some m) (found es file.number)) at ∙ is.there;
        same = is.same;
        place = is.place;
      }

rises_within : (least next : ℕ) (es : Made) → RisesTo least next es → least ≤ next
rises_within least next [] rises = rises
rises_within least next (e ∷ es) rises = let later = rises_within (e.0 + 1) next es rises.2 in omega (arith, later, rises.1)

-- nothing is found under the next number
none_next : (least next : ℕ) (es : Made) → RisesTo least next es → found es next ≡ None
none_next least next [] rises = refl
none_next least next (e ∷ es) rises = go (nat_eq next e.0) refl (none_next (e.0 + 1) next es rises.2) where
  go : (b : Bool) → nat_eq next e.0 ≡ b → found es next ≡ None → cond b (Some e.1) (found es next) ≡ None
  go true same later = let below = rises_within (e.0 + 1) next es rises.2 in let at = eqb-true next e.0 same in absurd (omega (arith, below, at))
  go false other later = later

-- a new file goes last
made_last : (least next : ℕ) (es : Made) (m : MadeFile) → m.file.number ≡ next → RisesTo least next es → RisesTo least (next + 1) (insert_entry nat_eq es next m)
made_last least next [] m is rises = (sym is, rises, omega arith)
made_last least next (e ∷ es) m is rises = go (nat_eq next e.0) refl (made_last (e.0 + 1) next es m is rises.2) where
  go : (b : Bool) → nat_eq next e.0 ≡ b → RisesTo (e.0 + 1) (next + 1) (insert_entry nat_eq es next m) → RisesTo least (next + 1) (cond b ((e.0, m) ∷ es) (e ∷ insert_entry nat_eq es next m))
  go true same later = let below = rises_within (e.0 + 1) next es rises.2 in let at = eqb-true next e.0 same in absurd (omega (arith, below, at))
  go false other later = (rises.0, rises.1, later)

-- one that was made keeps its place
made_again : (least next number : ℕ) (es : Made) (y m : MadeFile) → found es number ≡ Some y → m.file ≡ y.file → RisesTo least next es → RisesTo least next (insert_entry nat_eq es number m)
made_again least next number [] y m there same rises = absurd (cc)
made_again least next number (e ∷ es) y m there same rises = go (nat_eq number e.0) refl there (λ h. made_again (e.0 + 1) next number es y m h same rises.2) where
  go : (b : Bool) → nat_eq number e.0 ≡ b → cond b (Some e.1) (found es number) ≡ Some y → (found es number ≡ Some y → RisesTo (e.0 + 1) next (insert_entry nat_eq es number m)) → RisesTo least next (cond b ((e.0, m) ∷ es) (e ∷ insert_entry nat_eq es number m))
  go true at h later = (let is : e.1 ≡ y = cc in (rises.0 ∙ ap (λ (x : MadeFile). x.file.number) is ∙ ap (λ (f : FileId). f.number) (sym same), rises.1, rises.2))
  go false at h later = (rises.0, rises.1, later h)

-- ---- what stands at paths

named_later : (old new : Made) (path : Path) (what : Content) → Stays old new → IsNamed old path what → IsNamed new path what
named_later old new path content.Directory stays named = tt
named_later old new path (content.File stored) stays named = stays (file_id path stored) stored.location named

all_later : (old new : Made) (rs : List Row) → Stays old new → AreNamed old rs → AreNamed new rs
all_later old new [] stays named = tt
all_later old new (r ∷ rs) stays named = (named_later old new r.path r.entry.content stays named.0, all_later old new rs stays named.1)

answer_later : (old new : Made) (what : MetaAnswer) → Stays old new → NamesMade old what → NamesMade new what
answer_later old new (answer.Granted capability mark) stays named = stays capability.file capability.location named
answer_later old new _ stays named = tt

answers_later : (old new : Made) (clients : List (ℕ × Kept MetaAnswer)) → Stays old new → AnswersName old clients → AnswersName new clients
answers_later old new [] stays named = tt
answers_later old new (c ∷ cs) stays named = (answer_later old new c.1.answer stays named.0, answers_later old new cs stays named.1)

answers_put : (es : Made) (clients : List (ℕ × Kept MetaAnswer)) (client : ℕ) (last : Kept MetaAnswer) → NamesMade es last.answer → AnswersName es clients → AnswersName es (insert_entry nat_eq clients client last)
answers_put es [] client last new named = (new, tt)
answers_put es (c ∷ cs) client last new named = go (nat_eq client c.0) (answers_put es cs client last new named.1) where
  go : (b : Bool) → AnswersName es (insert_entry nat_eq cs client last) → AnswersName es (cond b ((c.0, last) ∷ cs) (c ∷ insert_entry nat_eq cs client last))
  go true later = (new, named.1)
  go false later = (named.0, later)

-- an answer that is given again
abbrev StandsNamed : Made → Standing MetaAnswer → Type 0
StandsNamed es standing.Fresh = Unit {0}
StandsNamed es standing.Older = Unit {0}
StandsNamed es (standing.Again what) = NamesMade es what

compared_named : (es : Made) (number : ℕ) (last : Kept MetaAnswer) → NamesMade es last.answer → StandsNamed es (compared number (Some last))
compared_named es number last named = go (nat_eq number last.number) (nat_lt number last.number) where
  go : (a b : Bool) → StandsNamed es (cond a (standing.Again last.answer) (cond b standing.Older standing.Fresh))
  go true b = named
  go false true = tt
  go false false = tt

standing_named : (es : Made) (clients : List (ℕ × Kept MetaAnswer)) (client : NodeId) (number : ℕ) → AnswersName es clients → StandsNamed es (standing_of clients client number)
standing_named es [] client number named = tt
standing_named es (c ∷ cs) client number named = go (nat_eq client.0 c.0) (standing_named es cs client number named.1) where
  go : (b : Bool) → StandsNamed es (compared number (lookup (nat_eq client.0) cs)) → StandsNamed es (compared number (cond b (Some c.1) (lookup (nat_eq client.0) cs)))
  go true later = compared_named es number c.1 named.0
  go false later = later

abbrev NamedAt : Made → Path → Option Entry → Type 0
NamedAt es path None = Unit {0}
NamedAt es path (Some entry) = IsNamed es path entry.content

same_is : (a b : Path) → same_path a b ≡ true → a ≡ b
same_is [] [] same = refl
same_is [] (m ∷ ms) same = absurd (cc)
same_is (n ∷ ns) [] same = absurd (cc)
same_is (n ∷ ns) (m ∷ ms) same = go (bytes_eq n m) refl same (same_is ns ms) where
  go : (b : Bool) → bytes_eq n m ≡ b → (b && same_path ns ms) ≡ true → (same_path ns ms ≡ true → ns ≡ ms) → n ∷ ns ≡ m ∷ ms
  go true e h later = ap (λ (x : Name). x ∷ ns) ((bytes_eq-Decides n m).0 e) ∙ ap (λ (xs : Path). m ∷ xs) (later h)
  go false e h later = absurd (cc)

named_in : (es : Made) (rs : List Row) (path : Path) → AreNamed es rs → NamedAt es path (entry_in rs path)
named_in es [] path named = tt
named_in es (r ∷ rs) path named = go (same_path r.path path) refl (named_in es rs path named.1) where
  go : (b : Bool) → same_path r.path path ≡ b → NamedAt es path (entry_in rs path) → NamedAt es path (cond b (Some r.entry) (entry_in rs path))
  go true same later = subst (λ (p : Path). IsNamed es p r.entry.content) (same_is r.path path same) named.0
  go false same later = later

named_at : (es : Made) (rs : List Row) (path : Path) → AreNamed es rs → NamedAt es path (entry_at rs path)
named_at es rs [] named = tt
named_at es rs (name ∷ names) named = named_in es rs (name ∷ names) named

named_put : (es : Made) (rs : List Row) (row : Row) → IsNamed es row.path row.entry.content → AreNamed es rs → AreNamed es (with_row rs row)
named_put es [] row new named = (new, tt)
named_put es (r ∷ rs) row new named = go (same_path r.path row.path) (is_lt (path_cmp row.path r.path)) (named_put es rs row new named.1) where
  go : (a b : Bool) → AreNamed es (with_row rs row) → AreNamed es (cond a (row ∷ rs) (cond b (row ∷ r ∷ rs) (r ∷ with_row rs row)))
  go true b later = (new, named.1)
  go false true later = (new, named)
  go false false later = (named.0, later)

named_left : (es : Made) (keeps : Row → Bool) (rs : List Row) → AreNamed es rs → AreNamed es (filter keeps rs)
named_left es keeps [] named = tt
named_left es keeps (r ∷ rs) named = go (keeps r) (named_left es keeps rs named.1) where
  go : (b : Bool) → AreNamed es (filter keeps rs) → AreNamed es (cond b (r ∷ filter keeps rs) (filter keeps rs))
  go true later = (named.0, later)
  go false later = later

-- a row that is moved in its volume keeps it
volume_moved : (from to p : Path) → same_volume from to ≡ None → is_within from p ≡ true → volume_of (to ++ drop (length from) p) ≡ volume_of p
volume_moved [] to p same inside = absurd (cc)
volume_moved (v ∷ []) to p same inside = absurd (cc)
volume_moved (v ∷ n ∷ ns) [] p same inside = absurd (cc)
volume_moved (v ∷ n ∷ ns) (w ∷ []) p same inside = absurd (cc)
volume_moved (v ∷ n ∷ ns) (w ∷ m ∷ ms) [] same inside = absurd (cc)
volume_moved (v ∷ n ∷ ns) (w ∷ m ∷ ms) (x ∷ p) same inside = go (bytes_eq v w) refl same (bytes_eq v x) refl inside where
  go : (a : Bool) → bytes_eq v w ≡ a → cond a None (Some refusal.OtherVolume) ≡ None → (b : Bool) → bytes_eq v x ≡ b → (b && is_within (n ∷ ns) p) ≡ true → volume_id w ≡ volume_id x
  go false e h b f i = absurd (cc)
  go true e h false f i = absurd (cc)
  go true e h true f i = ap volume_id (sym ((bytes_eq-Decides v w).0 e) ∙ (bytes_eq-Decides v x).0 f)

moved_named : (es : Made) (from to path : Path) (what : Content) → same_volume from to ≡ None → is_within from path ≡ true → IsNamed es path what → IsNamed es (to ++ drop (length from) path) what
moved_named es from to path content.Directory same inside named = tt
moved_named es from to path (content.File stored) same inside named =
    subst (λ (v : List ℕ). IsMadeAs es (record { volume = v; number = stored.number }) stored.location) (sym (volume_moved from to path same inside)) named

named_moved : (es : Made) (from to : Path) (rs : List Row) → same_volume from to ≡ None → AreNamed es rs → AreNamed es (map (moved from to) (rows_within from rs))
named_moved es from to [] same named = tt
named_moved es from to (r ∷ rs) same named = go (is_within from r.path) refl (named_moved es from to rs same named.1) where
  go : (b : Bool) → is_within from r.path ≡ b → AreNamed es (map (moved from to) (rows_within from rs)) → AreNamed es (map (moved from to) (cond b (r ∷ rows_within from rs) (rows_within from rs)))
  go true inside later = (moved_named es from to r.path r.entry.content same inside named.0, later)
  go false inside later = later

named_all_put : (es : Made) (rs new : List Row) → AreNamed es new → AreNamed es rs → AreNamed es (fold with_row rs new)
named_all_put es rs [] new named = named
named_all_put es rs (r ∷ more) new named = named_all_put es (with_row rs r) more new.1 (named_put es rs r new.0 named)

named_renamed : (es : Made) (rs : List Row) (from to : Path) → same_volume from to ≡ None → AreNamed es rs → AreNamed es (renamed rs from to)
named_renamed es rs from to same named =
    named_all_put es (rows_outside from rs) (map (moved from to) (rows_within from rs)) (named_moved es from to rs same named)
    (named_left es (λ r. not (is_within from r.path)) rs named)

sized_named : (es : Made) (path : Path) (epoch : ℕ) (mark : SizeMark) (what : Content) → IsNamed es path what → IsNamed es path (with_sizes epoch mark what)
sized_named es path epoch mark content.Directory named = tt
sized_named es path epoch mark (content.File stored) named = named

abbrev HasName : Made → Row → Type 0
HasName es row = IsNamed es row.path row.entry.content

named_sizes : (es : Made) (file : FileId) (epoch : ℕ) (mark : SizeMark) (rs : List Row) → AreNamed es rs → AreNamed es (sizes_set file epoch mark rs)
named_sizes es file epoch mark [] named = tt
named_sizes es file epoch mark (r ∷ rs) named = (go (holds_file file r), named_sizes es file epoch mark rs named.1) where
  sized : Row
  sized = record { path = r.path; entry = record r.entry { content = with_sizes epoch mark r.entry.content } }

  go : (b : Bool) → HasName es (cond b (record { path = r.path; entry = record r.entry { content = with_sizes epoch mark r.entry.content } }) r)
  go true = sized_named es r.path epoch mark r.entry.content named.0
  go false = named.0

-- ---- each request

record Sound (es : Made) (volumes : Volumes) : Type 0 where
  rises : RisesTo 1000000 volumes.next es
  named : AreNamed es volumes.rows

-- what a request comes to, that makes and unlinks no file
record Good (es : Made) (o : Outcome) : Type 0 where
  volumes : Sound es o.volumes
  told : NamesMade es o.answer

-- and any request, with the files that are made by it
record Comes (old new : Made) (o : Outcome) : Type 0 where
  good : Good new o
  stays : Stays old new

all_stays : (es : Made) → Stays es es
all_stays es file location is = is

none_made : (es : Made) (o : Outcome) → Good es o → Comes es (cond (is_done o.answer) es es) o
none_made es o good = go (is_done o.answer) where
  go : (b : Bool) → Comes es (cond b es es) o
  go true = record { good = good; stays = all_stays es }
  go false = record { good = good; stays = all_stays es }

refused_good : (es : Made) (volumes : Volumes) (why : MetaRefusal) → Sound es volumes → Good es (refused volumes why)
refused_good es volumes why sound = record { volumes = sound; told = tt }

path_good : (es : Made) (volumes : Volumes) (path : Option Path) (on : Path → Outcome) → Sound es volumes → ((p : Path) → Good es (on p)) → Good es (on_path volumes path on)
path_good es volumes None on sound each = refused_good es volumes refusal.NameBad sound
path_good es volumes (Some path) on sound each = each path

tests_good : (es : Made) (volumes : Volumes) (test : Option MetaRefusal) (passed : Outcome) → Sound es volumes → (test ≡ None → Good es passed) → Good es (after_tests volumes test passed)
tests_good es volumes (Some why) passed sound after = refused_good es volumes why sound
tests_good es volumes None passed sound after = after refl

paths_good : (es : Made) (volumes : Volumes) (from to : Option Path) (on : Path → Path → Outcome) → Sound es volumes → ((p q : Path) → Good es (on p q)) → Good es (on_paths volumes from to on)
paths_good es volumes (Some from) (Some to) on sound each = each from to
paths_good es volumes (Some from) None on sound each = refused_good es volumes refusal.NameBad sound
paths_good es volumes None to on sound each = refused_good es volumes refusal.NameBad sound

done_good : (es : Made) (volumes : Volumes) (rs : List Row) → Sound es volumes → AreNamed es rs → Good es (done volumes rs)
done_good es volumes rs sound named = record { volumes = record { rises = sound.rises; named = named }; told = tt }

mkdir_good : (es : Made) (volumes : Volumes) (who : Asker) (mode : ℕ) (path : Path) → Sound es volumes → Good es (directory_made volumes who mode path)
mkdir_good es volumes who mode path sound =
    tests_good es volumes (first_of (ancestors who volumes.rows path ∷ absent (entry_at volumes.rows path) ∷ parent_writable who volumes.rows path ∷ []))
    (done volumes (with_row volumes.rows (made who mode content.Directory path))) sound
    (λ h. done_good es volumes (with_row volumes.rows (made who mode content.Directory path)) sound (named_put es volumes.rows (made who mode content.Directory path) tt sound.named))

second_none : (a b : Option MetaRefusal) (rest : List (Option MetaRefusal)) → first_of (a ∷ b ∷ rest) ≡ None → b ≡ None
second_none (Some why) b rest h = absurd (cc)
second_none None (Some why) rest h = absurd (cc)
second_none None None rest h = refl

rename_good : (es : Made) (volumes : Volumes) (who : Asker) (from to : Path) → Sound es volumes → Good es (path_renamed volumes who from to)
rename_good es volumes who from to sound =
    let rs = volumes.rows in
    let later = there (entry_at rs from) ∷ outside from to ∷ ancestors who rs to ∷ absent (entry_at rs to) ∷ parent_writable who rs from ∷ parent_writable who rs to ∷ [] in
    tests_good es volumes (first_of (ancestors who rs from ∷ same_volume from to ∷ later)) (done volumes (renamed rs from to)) sound
    (λ h. done_good es volumes (renamed rs from to) sound (named_renamed es rs from to (second_none (ancestors who rs from) (same_volume from to) later h) sound.named))

rmdir_good : (es : Made) (volumes : Volumes) (who : Asker) (path : Path) → Sound es volumes → Good es (directory_removed volumes who path)
rmdir_good es volumes who path sound =
    tests_good es volumes (first_of (ancestors who volumes.rows path ∷ there (entry_at volumes.rows path) ∷ directory (entry_at volumes.rows path) ∷ empty volumes.rows path ∷ parent_writable who volumes.rows path ∷ []))
    (done volumes (without_row volumes.rows path)) sound
    (λ h. done_good es volumes (without_row volumes.rows path) sound (named_left es (λ r. not (same_path r.path path)) volumes.rows sound.named))

mode_good : (es : Made) (volumes : Volumes) (path : Path) (mode : ℕ) (entry : Option Entry) → Sound es volumes → NamedAt es path entry → Good es (mode_put volumes path mode entry)
mode_good es volumes path mode None sound named = refused_good es volumes refusal.NotFound sound
mode_good es volumes path mode (Some entry) sound named =
    let row : Row = record { path = path; entry = record entry { mode = mode } } in
    done_good es volumes (with_row volumes.rows row) sound (named_put es volumes.rows row named sound.named)

chmod_good : (es : Made) (volumes : Volumes) (who : Asker) (mode : ℕ) (path : Path) → Sound es volumes → Good es (mode_set volumes who mode path)
chmod_good es volumes who mode path sound =
    tests_good es volumes (first_of (ancestors who volumes.rows path ∷ there (entry_at volumes.rows path) ∷ owned who (entry_at volumes.rows path) ∷ []))
    (mode_put volumes path mode (entry_at volumes.rows path)) sound
    (λ h. mode_good es volumes path mode (entry_at volumes.rows path) sound (named_at es volumes.rows path sound.named))

row_good : (es : Made) (volumes : Volumes) (entry : Option Entry) → Sound es volumes → Good es (row_told volumes entry)
row_good es volumes None sound = refused_good es volumes refusal.NotFound sound
row_good es volumes (Some entry) sound = record { volumes = sound; told = tt }

stat_good : (es : Made) (volumes : Volumes) (who : Asker) (path : Path) → Sound es volumes → Good es (entry_told volumes who path)
stat_good es volumes who path sound =
    tests_good es volumes (ancestors who volumes.rows path) (row_told volumes (entry_at volumes.rows path)) sound (λ h. row_good es volumes (entry_at volumes.rows path) sound)

list_good : (es : Made) (volumes : Volumes) (who : Asker) (after : List ℕ) (path : Path) → Sound es volumes → Good es (names_listed volumes who after path)
list_good es volumes who after path sound =
    tests_good es volumes
    (first_of (ancestors who volumes.rows path ∷ there (entry_at volumes.rows path) ∷ directory (entry_at volumes.rows path) ∷ allowed who reading rule_of_read (entry_at volumes.rows path) ∷ []))
    (tells volumes (answer.Names (page_of volumes.rows path after))) sound (λ h. record { volumes = sound; told = tt })

sizes_sound : (es : Made) (volumes : Volumes) (sets : Option NewSizes) → Sound es volumes → Sound es (rows.with_sizes volumes sets)
sizes_sound es volumes None sound = sound
sizes_sound es volumes (Some sizes) sound =
    record { rises = sound.rises; named = named_sizes es sizes.file sizes.epoch sizes.mark volumes.rows sound.named }

-- what is granted of a file is named
abbrev GrantNamed : Made → Result Granting MetaRefusal → Type 0
GrantNamed es (Err why) = Unit {0}
GrantNamed es (Ok grant) = IsMadeAs es grant.file grant.location

abbrev StoredNamed : Made → Path → Option Stored → Type 0
StoredNamed es path None = Unit {0}
StoredNamed es path (Some stored) = IsMadeAs es (file_id path stored) stored.location

content_stored : (es : Made) (path : Path) (what : Content) → IsNamed es path what → StoredNamed es path (stored_of what)
content_stored es path content.Directory named = tt
content_stored es path (content.File stored) named = named

entry_stored : (es : Made) (path : Path) (entry : Option Entry) → NamedAt es path entry → StoredNamed es path (stored_in entry)
entry_stored es path None named = tt
entry_stored es path (Some entry) named = content_stored es path entry.content named

granted_named : (es : Made) (path : Path) (want : ℕ) (o : Option Stored) → StoredNamed es path o → GrantNamed es (granted_of path want o)
granted_named es path want None named = tt
granted_named es path want (Some stored) named = named

unless_named : (es : Made) (why : Option MetaRefusal) (grant : Result Granting MetaRefusal) → GrantNamed es grant → GrantNamed es (unless_refused why grant)
unless_named es (Some why) grant named = tt
unless_named es None grant named = named

grant_named : (es : Made) (volumes : Volumes) (who : Asker) (want : ℕ) (path : Option Path) → Sound es volumes → GrantNamed es (granted volumes who want path)
grant_named es volumes who want None sound = tt
grant_named es volumes who want (Some path) sound =
    let entry = entry_at volumes.rows path in
    unless_named es (first_of (ancestors who volumes.rows path ∷ there entry ∷ file entry ∷ wanted who want entry ∷ [])) (granted_of path want (stored_in entry))
    (granted_named es path want (stored_in entry) (entry_stored es path entry (named_at es volumes.rows path sound.named)))

grant_good : (es : Made) (key : List ℕ) (volumes : Volumes) (now want : ℕ) (grant : Result Granting MetaRefusal) → Sound es volumes → GrantNamed es grant → Good es (settled volumes (grant_settled key now want grant))
grant_good es key volumes now want (Err why) sound named = record { volumes = sound; told = tt }
grant_good es key volumes now want (Ok grant) sound named = record { volumes = sizes_sound es volumes (rows.sizes_granted want grant) sound; told = named }

located_named : (es : Made) (grant : Result Granting MetaRefusal) → NamesMade es (located grant)
located_named es (Err why) = tt
located_named es (Ok grant) = go grant.location.kind where
  go : (k : Kind) → NamesMade es (located_as k grant.location)
  go kind.Replicated = tt
  go kind.Striped = tt

located_good : (es : Made) (volumes : Volumes) (who : Asker) (path : List ℕ) → Sound es volumes → Good es (tells volumes (rows.located_at volumes who path))
located_good es volumes who path sound = record { volumes = sound; told = located_named es (grant_at volumes who 1 path) }

report_good : (es : Made) (volumes : Volumes) (file : FileId) (denial : Option Denial) (sizes : Option (ℕ × SizeMark)) (mark : SizeMark) → Sound es volumes → Good es (settled volumes (report_settled file denial sizes mark))
report_good es volumes file (Some rule) sizes mark sound = record { volumes = sound; told = tt }
report_good es volumes file None None mark sound = record { volumes = sound; told = tt }
report_good es volumes file None (Some sizes) mark sound = record { volumes = sizes_sound es volumes (rows.sizes_merged file sizes mark) sound; told = tt }

abbrev Creates : Made → FileId → Picked → Outcome → Type 0
Creates es file p o = Comes es (cond (is_done o.answer) (noted (Some file) p es) es) o

abbrev Unlinks : Made → ℕ → Option FileId → Outcome → Type 0
Unlinks es now file o = Comes es (cond (is_done o.answer) (ended now file es) es) o

-- a new file: its number is the next
create_comes : (es : Made) (volumes : Volumes) (who : Asker) (mode : ℕ) (pick : Picked) (path : Option Path) → Sound es volumes →
    let o = on_path volumes (has_names 2 path) (file_made volumes who mode pick) in Comes es (cond (is_done o.answer) (noted (rows.new_file path volumes.next) pick es) es) o
create_comes es volumes who mode pick None sound = record { good = record { volumes = sound; told = tt }; stays = all_stays es }
create_comes es volumes who mode pick (Some []) sound = record { good = record { volumes = sound; told = tt }; stays = all_stays es }
create_comes es volumes who mode pick (Some (volume ∷ names)) sound = go (nat_le 2 (length (volume ∷ names))) where
  placed : (p : Picked) → Creates es (record { volume = volume_id volume; number = volumes.next }) p (file_placed volumes who mode (volume ∷ names) p)
  placed (place.TooFew have) = record { good = record { volumes = sound; told = tt }; stays = all_stays es }
  placed (place.On location) =
      let file : FileId = record { volume = volume_id volume; number = volumes.next } in
      let m : MadeFile = record { file = file; location = location; unlinked = None } in
      let row : Row = made who mode (new_file volumes.next location) (volume ∷ names) in
      let later = insert_entry nat_eq es volumes.next m in
      let none = none_next 1000000 volumes.next es sound.rises in
      let stays = stays_put es volumes.next m (λ y there. absurd (let no : None ≡ Some y = sym none ∙ there in cc no)) in
      record {
        good =
            record {
              volumes =
                  record {
                    rises = made_last 1000000 volumes.next es m refl sound.rises;
                    named =
                        named_put later volumes.rows row
                        (record {
                          which = m;
                          there = found_put es volumes.next volumes.next m ∙ ap (λ (b : Bool). cond b (Some m) (found es volumes.next)) (eq-eqb volumes.next volumes.next refl);
                          same = refl;
                          place = refl;
                        })
                        (all_later es later volumes.rows stays sound.named);
                  };
              told = tt;
            };
        stays = stays;
      }

  tested : (test : Option MetaRefusal) → Creates es (record { volume = volume_id volume; number = volumes.next }) pick (after_tests volumes test (file_placed volumes who mode (volume ∷ names) pick))
  tested (Some why) = record { good = record { volumes = sound; told = tt }; stays = all_stays es }
  tested None = placed pick

  go : (b : Bool) → Creates es (record { volume = volume_id volume; number = volumes.next }) pick (on_path volumes (cond b (Some (volume ∷ names)) None) (file_made volumes who mode pick))
  go false = record { good = record { volumes = sound; told = tt }; stays = all_stays es }
  go true = tested (first_of (ancestors who volumes.rows (volume ∷ names) ∷ absent (entry_at volumes.rows (volume ∷ names)) ∷ parent_writable who volumes.rows (volume ∷ names) ∷ []))

-- a file that is unlinked was made
unlink_comes : (es : Made) (volumes : Volumes) (who : Asker) (now : ℕ) (path : Option Path) → Sound es volumes →
    let o = on_path volumes (has_names 1 path) (file_unlinked volumes who) in Comes es (cond (is_done o.answer) (ended now (file_at volumes path) es) es) o
unlink_comes es volumes who now None sound = record { good = record { volumes = sound; told = tt }; stays = all_stays es }
unlink_comes es volumes who now (Some path) sound = go (nat_le 1 (length path)) where
  left : AreNamed es (without_row volumes.rows path)
  left = named_left es (λ r. not (same_path r.path path)) volumes.rows sound.named

  same_made : Comes es es (done volumes (without_row volumes.rows path))
  same_made = record { good = done_good es volumes (without_row volumes.rows path) sound left; stays = all_stays es }

  put : (f : FileId) (o : Option MadeFile) → lookup (nat_eq f.number) es ≡ o → Comes es (ends_at now f o es) (done volumes (without_row volumes.rows path))
  put f None at = same_made
  put f (Some y) at =
      let m : MadeFile = record y { unlinked = Some now } in
      let stays = stays_put es f.number m (λ z there. let is : y ≡ z = (let both : Some y ≡ Some z = sym at ∙ there in cc both) in (ap (λ (x : MadeFile). x.file) is, ap (λ (x : MadeFile). x.location) is)) in
      record {
        good =
            record {
              volumes =
                  record {
                    rises = made_again 1000000 volumes.next f.number es y m at refl sound.rises;
                    named = all_later es (insert_entry nat_eq es f.number m) (without_row volumes.rows path) stays left;
                  };
              told = tt;
            };
        stays = stays;
      }

  unlinked : (o : Option Stored) → Comes es (ended now (file_of path o) es) (done volumes (without_row volumes.rows path))
  unlinked None = same_made
  unlinked (Some stored) = put (file_id path stored) (lookup (nat_eq stored.number) es) refl

  tested : (test : Option MetaRefusal) → Unlinks es now (file_of path (stored_in (entry_at volumes.rows path))) (after_tests volumes test (done volumes (without_row volumes.rows path)))
  tested (Some why) = record { good = record { volumes = sound; told = tt }; stays = all_stays es }
  tested None = unlinked (stored_in (entry_at volumes.rows path))

  go : (b : Bool) → Unlinks es now (file_of path (stored_in (entry_at volumes.rows path))) (on_path volumes (cond b (Some path) None) (file_unlinked volumes who))
  go false = record { good = record { volumes = sound; told = tt }; stays = all_stays es }
  go true = tested (first_of (ancestors who volumes.rows path ∷ there (entry_at volumes.rows path) ∷ file (entry_at volumes.rows path) ∷ parent_writable who volumes.rows path ∷ []))

request_comes : (es : Made) (key : List ℕ) (volumes : Volumes) (who : Asker) (now : ℕ) (nodes : Option (List NodeId)) (request : MetaReq) → Sound es volumes →
    Comes es (made_after volumes now nodes request (outcome_of key volumes who now nodes request).answer es) (outcome_of key volumes who now nodes request)
request_comes es key volumes who now nodes (ask.Mkdir path mode) sound =
    none_made es (on_path volumes (has_names 1 (path_in path)) (directory_made volumes who mode)) (path_good es volumes (has_names 1 (path_in path)) (directory_made volumes who mode) sound (λ p. mkdir_good es volumes who mode p sound))
request_comes es key volumes who now nodes (ask.Create path mode kind n stripe) sound =
    create_comes es volumes who mode (place_of nodes (ask.Create path mode kind n stripe)) (path_in path) sound
request_comes es key volumes who now nodes (ask.Rename from to) sound =
    none_made es (on_paths volumes (has_names 1 (path_in from)) (has_names 1 (path_in to)) (path_renamed volumes who))
    (paths_good es volumes (has_names 1 (path_in from)) (has_names 1 (path_in to)) (path_renamed volumes who) sound (λ p q. rename_good es volumes who p q sound))
request_comes es key volumes who now nodes (ask.Unlink path) sound = unlink_comes es volumes who now (path_in path) sound
request_comes es key volumes who now nodes (ask.Rmdir path) sound =
    none_made es (on_path volumes (has_names 1 (path_in path)) (directory_removed volumes who)) (path_good es volumes (has_names 1 (path_in path)) (directory_removed volumes who) sound (λ p. rmdir_good es volumes who p sound))
request_comes es key volumes who now nodes (ask.List path after) sound =
    none_made es (on_path volumes (path_in path) (names_listed volumes who after)) (path_good es volumes (path_in path) (names_listed volumes who after) sound (λ p. list_good es volumes who after p sound))
request_comes es key volumes who now nodes (ask.Stat path) sound =
    none_made es (on_path volumes (has_names 1 (path_in path)) (entry_told volumes who)) (path_good es volumes (has_names 1 (path_in path)) (entry_told volumes who) sound (λ p. stat_good es volumes who p sound))
request_comes es key volumes who now nodes (ask.Chmod path mode) sound =
    none_made es (on_path volumes (has_names 1 (path_in path)) (mode_set volumes who mode)) (path_good es volumes (has_names 1 (path_in path)) (mode_set volumes who mode) sound (λ p. chmod_good es volumes who mode p sound))
request_comes es key volumes who now nodes (ask.Grant path want) sound =
    none_made es (settled volumes (grant_settled key now want (grant_at volumes who want path)))
    (grant_good es key volumes now want (grant_at volumes who want path) sound (grant_named es volumes who want (has_names 1 (path_in path)) sound))
request_comes es key volumes who now nodes (ask.Report capability mark) sound =
    none_made es (settled volumes (report_settled capability.file (denial_of key capability capability.file now true) (sizes_in volumes.rows capability.file) mark))
    (report_good es volumes capability.file (denial_of key capability capability.file now true) (sizes_in volumes.rows capability.file) mark sound)
request_comes es key volumes who now nodes (ask.Change path list) sound = none_made es (tells volumes answer.Done) (record { volumes = sound; told = tt })
request_comes es key volumes who now nodes (ask.Locate path) sound =
    none_made es (tells volumes (rows.located_at volumes who path)) (located_good es volumes who path sound)

-- ---- what a server knows

sound_of : (catalogue : Catalogue) → Holds catalogue → Sound catalogue.made catalogue.volumes
sound_of catalogue holds = record { rises = holds.rises; named = holds.rows }

-- after a request
record Behind (old new : Catalogue) (what : MetaAnswer) : Type 0 where
  holds : Holds new
  stays : Stays old.made new.made
  told : NamesMade new.made what

request_follows : (key : List ℕ) (catalogue : Catalogue) (client : NodeId) (number now : ℕ) (nodes : Option (List NodeId)) (who : Asker) (request : MetaReq) → Holds catalogue
    → Behind catalogue (after_request key catalogue client number now nodes who request) (outcome_of key catalogue.volumes who now nodes request).answer
request_follows key catalogue client number now nodes who request holds =
    let o = outcome_of key catalogue.volumes who now nodes request in
    let comes = request_comes catalogue.made key catalogue.volumes who now nodes request (sound_of catalogue holds) in
    let new = made_after catalogue.volumes now nodes request o.answer catalogue.made in
    record {
      holds =
          record {
            rises = comes.good.volumes.rises;
            rows = comes.good.volumes.named;
            answers =
                answers_put new catalogue.clients client.0 (record { number = number; answer = o.answer }) comes.good.told
                (answers_later catalogue.made new catalogue.clients comes.stays holds.answers);
          };
      stays = comes.stays;
      told = comes.good.told;
    }

meta_holds : (key : List ℕ) (catalogue : Catalogue) (client : NodeId) (number now : ℕ) (nodes : Option (List NodeId)) (who : Asker) (request : MetaReq) → Holds catalogue
    → Holds (after_meta key catalogue client number now nodes who request)
meta_holds key catalogue client number now nodes who request holds = go (is_spent catalogue.volumes who request) (is_recorded key catalogue.volumes now request) where
  go : (spent records : Bool) → Holds (cond spent catalogue (cond records (after_request key catalogue client number now nodes who request) catalogue))
  go true records = holds
  go false true = (request_follows key catalogue client number now nodes who request holds).holds
  go false false = holds

record_holds : (key : List ℕ) (catalogue : Catalogue) (rec : Record) → Holds catalogue → Holds (after_record key catalogue rec)
record_holds key catalogue (kept.Meta client number now nodes (logged.Meta user group request)) holds =
    meta_holds key catalogue client number now nodes (record { user = user; group = group }) request holds
record_holds key catalogue _ holds = holds

from_records : (key : List ℕ) (catalogue : Catalogue) (records : List Record) → Holds catalogue → Holds (fold (after_record key) catalogue records)
from_records key catalogue [] holds = holds
from_records key catalogue (rec ∷ records) holds = from_records key (after_record key catalogue rec) records (record_holds key catalogue rec holds)

pub records_hold : (key : List ℕ) (records : List Record) → Holds (catalogue_of key records)
records_hold key records = from_records key empty_catalogue records (record { rises = omega arith; rows = tt; answers = tt })

-- ---- steps

pub record Steps (old : Catalogue) (step : MrcStep) : Type 0 where
  pub holds : Holds step.mrc.catalogue
  pub grants : GrantMade step.mrc.catalogue.made step.turned.outs
  pub stays : Stays old.made step.mrc.catalogue.made

rests : (mrc : MrcState) (osds : List NodeId) → Holds mrc.catalogue → Steps mrc.catalogue (nothing (record mrc { osds = osds }))
rests mrc osds holds = record { holds = holds; grants = tt; stays = all_stays mrc.catalogue.made }

answered_steps : (mrc : MrcState) (client : NodeId) (number : ℕ) (told : MetaAnswer) → Holds mrc.catalogue → NamesMade mrc.catalogue.made told → Steps mrc.catalogue (answered mrc client number told)
answered_steps mrc client number told holds named = record { holds = holds; grants = (named, tt); stays = all_stays mrc.catalogue.made }

-- what is only answered makes no file
only_told : (es : Made) (key : List ℕ) (volumes : Volumes) (who : Asker) (now : ℕ) (request : MetaReq) → Sound es volumes → is_recorded key volumes now request ≡ false
    → NamesMade es (outcome_of key volumes who now None request).answer
only_told es key volumes who now (ask.List path after) sound aside = (path_good es volumes (path_in path) (names_listed volumes who after) sound (λ p. list_good es volumes who after p sound)).told
only_told es key volumes who now (ask.Stat path) sound aside = (path_good es volumes (has_names 1 (path_in path)) (entry_told volumes who) sound (λ p. stat_good es volumes who p sound)).told
only_told es key volumes who now (ask.Grant path want) sound aside =
    (grant_good es key volumes now want (grant_at volumes who want path) sound (grant_named es volumes who want (has_names 1 (path_in path)) sound)).told
only_told es key volumes who now (ask.Report capability mark) sound aside =
    (report_good es volumes capability.file (denial_of key capability capability.file now true) (sizes_in volumes.rows capability.file) mark sound).told
only_told es key volumes who now (ask.Change path list) sound aside = tt
only_told es key volumes who now (ask.Locate path) sound aside = (located_good es volumes who path sound).told
only_told es key volumes who now (ask.Mkdir path mode) sound aside = absurd (cc)
only_told es key volumes who now (ask.Create path mode kind n stripe) sound aside = absurd (cc)
only_told es key volumes who now (ask.Rename from to) sound aside = absurd (cc)
only_told es key volumes who now (ask.Unlink path) sound aside = absurd (cc)
only_told es key volumes who now (ask.Rmdir path) sound aside = absurd (cc)
only_told es key volumes who now (ask.Chmod path mode) sound aside = absurd (cc)

fresh_steps : (key : List ℕ) (mrc : MrcState) (client : NodeId) (number : ℕ) (who : Asker) (request : MetaReq) → Holds mrc.catalogue → Steps mrc.catalogue (fresh key mrc client number who request)
fresh_steps key mrc client number who request holds = go (is_spent mrc.catalogue.volumes who request) (is_recorded key mrc.catalogue.volumes mrc.last request) refl where
  nodes : Option (List NodeId)
  nodes = nodes_for mrc.osds mrc.catalogue.volumes.next request

  go : (spent records : Bool) → is_recorded key mrc.catalogue.volumes mrc.last request ≡ records
      → Steps mrc.catalogue (cond spent (nothing mrc) (cond records (recorded key mrc client number who request) (answered mrc client number (outcome_of key mrc.catalogue.volumes who mrc.last None request).answer)))
  go true records is = rests mrc mrc.osds holds
  go false true is =
      let after = request_follows key mrc.catalogue client number mrc.last nodes who request holds in
      record { holds = after.holds; grants = (after.told, tt); stays = after.stays }
  go false false is =
      answered_steps mrc client number (outcome_of key mrc.catalogue.volumes who mrc.last None request).answer holds
      (only_told mrc.catalogue.made key mrc.catalogue.volumes who mrc.last request (sound_of mrc.catalogue holds) is)

stands_steps : (key : List ℕ) (mrc : MrcState) (client : NodeId) (number : ℕ) (who : Asker) (request : MetaReq) (stands : Standing MetaAnswer) → Holds mrc.catalogue → StandsNamed mrc.catalogue.made stands
    → Steps mrc.catalogue (by_standing key mrc client number who request stands)
stands_steps key mrc client number who request standing.Fresh holds named = fresh_steps key mrc client number who request holds
stands_steps key mrc client number who request (standing.Again what) holds named = answered_steps mrc client number what holds named
stands_steps key mrc client number who request standing.Older holds named = rests mrc mrc.osds holds

request_steps : (key : List ℕ) (mrc : MrcState) (client : NodeId) (number : ℕ) (who : Asker) (request : MetaReq) → Holds mrc.catalogue → Steps mrc.catalogue (requested key mrc client number who request)
request_steps key mrc client number who request holds =
    taken_or_not (Steps mrc.catalogue) key mrc client number who request
    (stands_steps key mrc client number who request (standing_of mrc.catalogue.clients client number) holds
    (standing_named mrc.catalogue.made mrc.catalogue.clients client number holds.answers))
    (rests mrc mrc.osds holds)

heard_steps : (mrc : MrcState) (from : NodeId) (rs : List RegistryRow) → Holds mrc.catalogue → Steps mrc.catalogue (rows_heard mrc from rs)
heard_steps mrc from rs holds = go (is_dir from) where
  go : (b : Bool) → Steps mrc.catalogue (cond b (nothing (record mrc { osds = nodes_of rs })) (nothing mrc))
  go true = rests mrc (nodes_of rs) holds
  go false = rests mrc mrc.osds holds

registry_steps : (key : List ℕ) (mrc : MrcState) (from : NodeId) (number : ℕ) (what : RegistryAnswer) → Holds mrc.catalogue → Steps mrc.catalogue (told_by key mrc from (payload.RegistryReply number what))
registry_steps key mrc from number (told.Rows rs) holds = heard_steps mrc from rs holds
registry_steps key mrc from number _ holds = rests mrc mrc.osds holds

told_steps : (key : List ℕ) (mrc : MrcState) (from : NodeId) (content : Payload) → Holds mrc.catalogue → Steps mrc.catalogue (told_by key mrc from content)
told_steps key mrc from (payload.Meta number user group request) holds = request_steps key mrc from number (record { user = user; group = group }) request holds
told_steps key mrc from (payload.RegistryReply number what) holds = registry_steps key mrc from number what holds
told_steps key mrc from _ holds = rests mrc mrc.osds holds

handled_steps : (key : List ℕ) (mrc : MrcState) (happens : Event) → Holds mrc.catalogue → Steps mrc.catalogue (handled key mrc happens)
handled_steps key mrc (event.Deliver msg) holds = told_steps key mrc msg.from msg.payload holds
handled_steps key mrc event.Wake holds = record { holds = holds; grants = (tt, tt); stays = all_stays mrc.catalogue.made }
handled_steps key mrc (event.Call call) holds = rests mrc mrc.osds holds

pub step_holds : (key : List ℕ) (mrc : MrcState) (reading : ℕ) (happens : Event) → Holds mrc.catalogue → Steps mrc.catalogue (step_of_mrc key mrc reading happens)
unfolding step_of_mrc
step_holds key mrc reading happens holds = handled_steps key (record mrc { last = max reading mrc.last }) happens holds
