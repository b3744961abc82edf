-- what the directory service knows and gives is within the limits
use Rattle.std.proofs.Common.{◌≡◌, inl, ℕ, zero, suc, ◌+◌, ◌<◌, ◌^◌, List, [], ◌∷◌, take, map, refl, sym, ap, subst, arith, Bool, true, false, cond}
use Rattle.std.specs.Prelude.{◌==◌, ◌&&◌, not, nat_le, Option, Some, None, filter, fold}
use Rattle.std.specs.List.{AllByRecursion}
use Rattle.std.specs.Ordering.{nat_cmp, is_eq, match_ordering}
use Rattle.std.specs.declared.cmp.Ordering.{Ordering}
use Rattle.std.specs.declared.cmp.Ordering.TheVariants.{Less, Equal, Greater}
use Rattle.std.specs.Map.{lookup}
use Rattle.std.proofs.lemmas.Bool.{eqb-true, leb-false}
use Rattle.std.proofs.lemmas.List.{length-take}
use Rattle.indexmap.specs.IndexMap.{insert_entry}
use Rattle.std.specs.Prelude.{nat_eq, nat_lt}
use Rattle.xt_base.specs.declared.TheConstants.{COUNTS}
use Rattle.xt_base.specs.FieldLimits.{IsCount, FitsName}
use Rattle.xt_base.specs.declared.ids.NodeId.{NodeId}
use Rattle.xt_messages.specs.Limits.{FitsNode, FitsRow, FitsRegistryReq, FitsRegistryAnswer, FitsPayload, FitsEvent, FitsRecord}
use Rattle.xt_messages.specs.Limits as limits
use Rattle.xt_messages.specs.declared.registry.RegistryReq.{RegistryReq}
use Rattle.xt_messages.specs.declared.registry.RegistryReq.TheVariants as wish
use Rattle.xt_messages.specs.declared.registry.RegistryRow.{RegistryRow}
use Rattle.xt_messages.specs.declared.registry.RegistryAnswer.{RegistryAnswer}
use Rattle.xt_messages.specs.declared.registry.RegistryAnswer.TheVariants as told
use Rattle.xt_messages.specs.declared.message.Payload.{Payload}
use Rattle.xt_messages.specs.declared.message.Payload.TheVariants as payload
use Rattle.xt_messages.specs.declared.event.Event.{Event}
use Rattle.xt_messages.specs.declared.event.Event.TheVariants as event
use Rattle.xt_messages.specs.declared.record.Logged.TheVariants as logged
use Rattle.xt_messages.specs.declared.record.Record.{Record}
use Rattle.xt_messages.specs.declared.record.Record.TheVariants as kept
use Rattle.reply_cache.specs.declared.Kept.{Kept}
use Rattle.reply_cache.specs.declared.Standing.{Standing}
use Rattle.reply_cache.specs.declared.Standing.TheVariants as standing
use Rattle.reply_cache.specs.Standings.{compared, standing_of}
use Rattle.registry_table.specs.declared.registry.Registered.{Registered}
use Rattle.registry_table.specs.Registry.{Rows, row_of, with_row, without_row, shown, is_listed, page_of, version_in, Outcome, tells, row_set, row_removed, row_told, outcome_of, is_recorded, is_spent}
use Rattle.server_rows.specs.Directory.{DirState, empty_dir, nothing, answered, after_request, recorded, fresh, by_standing, told_by, step_of_dir, after_registry, after_record, dir_of}
use Rattle.server_limits.specs.Limits.{FitsRows, FitsRegistryAnswers, FitsDir, FitsDirStep}

-- ---- rows

abbrev RowAt : ℕ → Option Registered → Type 0
RowAt node None = Unit {0}
RowAt node (Some row) = FitsRow (shown (node, row))

eq_is : (a b : ℕ) → is_eq (nat_cmp a b) ≡ true → a ≡ b
eq_is a b is = go (nat_lt a b) (a == b) refl is where
  go : (less same : Bool) → (a == b) ≡ same → is_eq (cond less Less (cond same Equal Greater)) ≡ true → a ≡ b
  go true same at h = absurd (cc)
  go false true at h = eqb-true a b at
  go false false at h = absurd (cc)

row_at : (rs : Rows) (node : ℕ) → FitsRows rs → RowAt node (row_of rs node)
row_at [] node fits = tt
row_at (r ∷ rs) node fits = go (is_eq (nat_cmp node r.0)) refl (row_at rs node fits.1) where
  go : (b : Bool) → is_eq (nat_cmp node r.0) ≡ b → RowAt node (row_of rs node) → RowAt node (cond b (Some r.1) (row_of rs node))
  go true is later = subst (λ (n : ℕ). FitsRow (shown (n, r.1))) (sym (eq_is node r.0 is)) fits.0
  go false is later = later

rows_put : (rs : Rows) (node : ℕ) (row : Registered) → FitsRow (shown (node, row)) → FitsRows rs → FitsRows (with_row rs node row)
rows_put [] node row new fits = (new, tt)
rows_put (r ∷ rs) node row new fits = go (nat_cmp node r.0) refl (rows_put rs node row new fits.1) where
  go : (o : Ordering) → nat_cmp node r.0 ≡ o → FitsRows (with_row rs node row) → FitsRows (match_ordering o ((node, row) ∷ r ∷ rs) ((r.0, row) ∷ rs) (r ∷ with_row rs node row))
  go Less is later = (new, fits)
  go Equal is later = (subst (λ (n : ℕ). FitsRow (shown (n, row))) (eq_is node r.0 (ap is_eq is)) new, fits.1)
  go Greater is later = (fits.0, later)

rows_left : (rs : Rows) (node : ℕ) → FitsRows rs → FitsRows (without_row rs node)
rows_left [] node fits = tt
rows_left (r ∷ rs) node fits = go (is_eq (nat_cmp node r.0)) (rows_left rs node fits.1) where
  go : (b : Bool) → FitsRows (without_row rs node) → FitsRows (cond b rs (r ∷ without_row rs node))
  go true later = fits.1
  go false later = (fits.0, later)

listed : (kind after : ℕ) (rs : Rows) → FitsRows rs → AllByRecursion FitsRow (map shown (filter (is_listed kind after) rs))
listed kind after [] fits = tt
listed kind after (r ∷ rs) fits = go (is_listed kind after r) (listed kind after rs fits.1) where
  go : (b : Bool) → AllByRecursion FitsRow (map shown (filter (is_listed kind after) rs)) → AllByRecursion FitsRow (map shown (cond b (r ∷ filter (is_listed kind after) rs) (filter (is_listed kind after) rs)))
  go true later = (fits.0, later)
  go false later = later

some_first : (n : ℕ) (rs : List RegistryRow) → AllByRecursion FitsRow rs → AllByRecursion FitsRow (take n rs)
some_first zero rs fits = tt
some_first (suc n) [] fits = tt
some_first (suc n) (r ∷ rs) fits = (fits.0, some_first n rs fits.1)

page_fits : (rs : Rows) (kind after : ℕ) → FitsRows rs → limits.FitsRows (page_of rs kind after)
page_fits rs kind after fits =
    let all = map shown (filter (is_listed kind after) rs) in
    let many = length-take 256 all in
    record { few = omega (arith, many); each = some_first 256 all (listed kind after rs fits) }

-- ---- requests

record Good (o : Outcome) : Type 0 where
  rows : FitsRows o.rows
  told : FitsRegistryAnswer o.answer

version_fits : (node : ℕ) (row : Option Registered) → RowAt node row → IsCount (version_in row)
version_fits node None fits = omega arith
version_fits node (Some row) fits = fits.changes

both_are : (a b : Bool) → a ≡ true → (a && b) ≡ false → b ≡ false
both_are true b is h = h
both_are false b is h = absurd (cc)

set_good : (rs : Rows) (node : NodeId) (kind : ℕ) (address : List ℕ) (expected version : ℕ) → FitsRows rs → FitsNode node → kind < 2 ^ 8 → FitsName address → IsCount version
    → (version == expected && nat_le COUNTS (expected + 1)) ≡ false → Good (row_set rs node.0 kind address expected version)
set_good rs node kind address expected version fits which sort place now unspent = go (version == expected) refl where
  go : (b : Bool) → (version == expected) ≡ b → Good (cond (not b) (tells rs (told.Changed version)) (record { rows = with_row rs node.0 (record { kind = kind; address = address; version = version + 1 }); answer = told.Done (version + 1) }))
  go false is = record { rows = fits; told = now }
  go true is =
      let same = eqb-true version expected is in
      let left = leb-false COUNTS (expected + 1) (both_are (version == expected) (nat_le COUNTS (expected + 1)) is unspent) in
      let next : IsCount (version + 1) = omega (arith, same, left) in
      record {
        rows = rows_put rs node.0 (record { kind = kind; address = address; version = version + 1 }) (record { which = which; sort = sort; place = place; changes = next }) fits;
        told = next;
      }

removed_good : (rs : Rows) (node expected version : ℕ) → FitsRows rs → IsCount version → Good (row_removed rs node expected version)
removed_good rs node expected version fits now = go (not (version == expected)) (version == 0) where
  go : (a b : Bool) → Good (cond a (tells rs (told.Changed version)) (cond b (tells rs told.Absent) (record { rows = without_row rs node; answer = told.Done 0 })))
  go true b = record { rows = fits; told = now }
  go false true = record { rows = fits; told = tt }
  go false false = record { rows = rows_left rs node fits; told = omega arith }

told_good : (node : ℕ) (row : Option Registered) → RowAt node row → FitsRegistryAnswer (row_told node row)
told_good node None fits = tt
told_good node (Some row) fits = fits

request_good : (rs : Rows) (request : RegistryReq) → FitsRows rs → FitsRegistryReq request → is_spent rs request ≡ false → Good (outcome_of rs request)
request_good rs (wish.Set node kind address expected) fits asks unspent =
    set_good rs node kind address expected (version_in (row_of rs node.0)) fits asks.0 asks.1 asks.2 (version_fits node.0 (row_of rs node.0) (row_at rs node.0 fits)) unspent
request_good rs (wish.Get node) fits asks unspent = record { rows = fits; told = told_good node.0 (row_of rs node.0) (row_at rs node.0 fits) }
request_good rs (wish.List kind after) fits asks unspent = record { rows = fits; told = page_fits rs kind after.0 fits }
request_good rs (wish.Remove node expected) fits asks unspent =
    removed_good rs node.0 expected (version_in (row_of rs node.0)) fits (version_fits node.0 (row_of rs node.0) (row_at rs node.0 fits))

-- ---- answers that are kept

answers_put : (clients : List (ℕ × Kept RegistryAnswer)) (client : ℕ) (last : Kept RegistryAnswer) → FitsRegistryAnswer last.answer → FitsRegistryAnswers clients → FitsRegistryAnswers (insert_entry nat_eq clients client last)
answers_put [] client last new fits = (new, tt)
answers_put (c ∷ cs) client last new fits = go (nat_eq client c.0) (answers_put cs client last new fits.1) where
  go : (b : Bool) → FitsRegistryAnswers (insert_entry nat_eq cs client last) → FitsRegistryAnswers (cond b ((c.0, last) ∷ cs) (c ∷ insert_entry nat_eq cs client last))
  go true later = (new, fits.1)
  go false later = (fits.0, later)

abbrev StandFits : Standing RegistryAnswer → Type 0
StandFits standing.Fresh = Unit {0}
StandFits standing.Older = Unit {0}
StandFits (standing.Again what) = FitsRegistryAnswer what

compared_fits : (number : ℕ) (last : Kept RegistryAnswer) → FitsRegistryAnswer last.answer → StandFits (compared number (Some last))
compared_fits number last fits = go (number == last.number) (nat_lt number last.number) where
  go : (a b : Bool) → StandFits (cond a (standing.Again last.answer) (cond b standing.Older standing.Fresh))
  go true b = fits
  go false true = tt
  go false false = tt

standing_fits : (clients : List (ℕ × Kept RegistryAnswer)) (client : NodeId) (number : ℕ) → FitsRegistryAnswers clients → StandFits (standing_of clients client number)
standing_fits [] client number fits = tt
standing_fits (c ∷ cs) client number fits = go (nat_eq client.0 c.0) (standing_fits cs client number fits.1) where
  go : (b : Bool) → StandFits (compared number (lookup (nat_eq client.0) cs)) → StandFits (compared number (cond b (Some c.1) (lookup (nat_eq client.0) cs)))
  go true later = compared_fits number c.1 fits.0
  go false later = later

-- ---- steps

rests : (dir : DirState) → FitsDir dir → FitsDirStep (nothing dir)
rests dir fits = record { state = fits; gives = record { kept = tt; messages = tt; marks = tt } }

answered_fits : (dir : DirState) (client : NodeId) (number : ℕ) (what : RegistryAnswer) → FitsDir dir → FitsNode client → IsCount number → FitsRegistryAnswer what → FitsDirStep (answered dir client number what)
answered_fits dir client number what fits who counts told =
    record { state = fits; gives = record { kept = tt; messages = (record { sender = omega arith; receiver = who; listed = inl refl; content = (counts, told) }, tt); marks = tt } }

request_follows : (dir : DirState) (client : NodeId) (number : ℕ) (request : RegistryReq) → FitsDir dir → FitsRegistryReq request → is_spent dir.rows request ≡ false → FitsDir (after_request dir client number request)
request_follows dir client number request fits asks unspent =
    let good = request_good dir.rows request fits.rows asks unspent in
    record { rows = good.rows; answers = answers_put dir.clients client.0 (record { number = number; answer = (outcome_of dir.rows request).answer }) good.told fits.answers }

fresh_fits : (dir : DirState) (client : NodeId) (number : ℕ) (request : RegistryReq) → FitsDir dir → FitsNode client → IsCount number → FitsRegistryReq request → FitsDirStep (fresh dir client number request)
fresh_fits dir client number request fits who counts asks = go (is_spent dir.rows request) refl (is_recorded request) where
  go : (spent : Bool) → is_spent dir.rows request ≡ spent → (records : Bool)
      → FitsDirStep (cond spent (nothing dir) (cond records (recorded dir client number request) (answered dir client number (outcome_of dir.rows request).answer)))
  go true is records = rests dir fits
  go false is true =
      let good = request_good dir.rows request fits.rows asks is in
      record {
        state = request_follows dir client number request fits asks is;
        gives =
            record {
              kept = (who, counts, omega arith, tt, asks);
              messages = (record { sender = omega arith; receiver = who; listed = inl refl; content = (counts, good.told) }, tt);
              marks = tt;
            };
      }
  go false is false = answered_fits dir client number (outcome_of dir.rows request).answer fits who counts (request_good dir.rows request fits.rows asks is).told

stands_fits : (dir : DirState) (client : NodeId) (number : ℕ) (request : RegistryReq) (stands : Standing RegistryAnswer) → FitsDir dir → FitsNode client → IsCount number → FitsRegistryReq request → StandFits stands
    → FitsDirStep (by_standing dir client number request stands)
stands_fits dir client number request standing.Fresh fits who counts asks told = fresh_fits dir client number request fits who counts asks
stands_fits dir client number request (standing.Again what) fits who counts asks told = answered_fits dir client number what fits who counts told
stands_fits dir client number request standing.Older fits who counts asks told = rests dir fits

told_fits : (dir : DirState) (from : NodeId) (content : Payload) → FitsDir dir → FitsNode from → FitsPayload content → FitsDirStep (told_by dir from content)
told_fits dir from (payload.Registry number request) fits who asks =
    stands_fits dir from number request (standing_of dir.clients from number) fits who asks.0 asks.1 (standing_fits dir.clients from number fits.answers)
told_fits dir from _ fits who asks = rests dir fits

pub step_fits : (dir : DirState) (happens : Event) → FitsDir dir → FitsEvent happens → FitsDirStep (step_of_dir dir happens)
unfolding step_of_dir
step_fits dir (event.Deliver msg) fits comes = told_fits dir msg.from msg.payload fits comes.sender comes.content
step_fits dir event.Wake fits comes = rests dir fits
step_fits dir (event.Call call) fits comes = rests dir fits

-- ---- records

registry_fits : (dir : DirState) (client : NodeId) (number : ℕ) (request : RegistryReq) → FitsDir dir → FitsRegistryReq request → FitsDir (after_registry dir client number request)
registry_fits dir client number request fits asks = go (is_spent dir.rows request) refl (is_recorded request) where
  go : (spent : Bool) → is_spent dir.rows request ≡ spent → (records : Bool) → FitsDir (cond spent dir (cond records (after_request dir client number request) dir))
  go true is records = fits
  go false is true = request_follows dir client number request fits asks is
  go false is false = fits

record_fits : (dir : DirState) (rec : Record) → FitsDir dir → FitsRecord rec → FitsDir (after_record dir rec)
record_fits dir (kept.Meta client number now nodes (logged.Registry request)) fits has = registry_fits dir client number request fits has.4
record_fits dir _ fits has = fits

from_records : (dir : DirState) (records : List Record) → FitsDir dir → AllByRecursion FitsRecord records → FitsDir (fold after_record dir records)
from_records dir [] fits all = fits
from_records dir (rec ∷ records) fits all = from_records (after_record dir rec) records (record_fits dir rec fits all.0) all.1

pub records_fit : (records : List Record) → AllByRecursion FitsRecord records → FitsDir (dir_of records)
records_fit records all = from_records empty_dir records (record { rows = tt; answers = tt }) all
