-- a node that starts: what it begins as rests on what its records say and on the requests among them
use Rattle.std.proofs.Common.{◌≡◌, ◌∙◌, ℕ, Bool, true, false, cond, List, [], ◌∷◌, refl, sym, ap, subst}
use Rattle.std.specs.Prelude.{fold, filter}
use Rattle.std.specs.List.{AllByRecursion}
use Rattle.xt_base.specs.TimeSettings.{TimeSettings}
use Rattle.xt_base.specs.declared.ids.NodeId.{NodeId}
use Rattle.xt_base.specs.declared.ids.Boot.{Boot}
use Rattle.xt_messages.specs.Limits.{FitsRecord}
use Rattle.xt_messages.specs.declared.record.Folded.{Folded}
use Rattle.xt_messages.specs.declared.record.Record.{Record}
use Rattle.xt_messages.specs.declared.record.Record.TheVariants as kept
use Rattle.xt_protocol.specs.Folds.{fold_of, is_logged, logged_of}
use Rattle.xt_protocol.specs.OsdSteps.{osd_from}
use Rattle.server_rows.specs.Metadata.{Catalogue, catalogue_of, empty_catalogue}
use Rattle.server_rows.specs.Metadata as metadata
use Rattle.server_rows.specs.Directory.{DirState, dir_of, empty_dir}
use Rattle.server_rows.specs.Directory as directory
use Rattle.world_spec.specs.declared.Role.{Role}
use Rattle.world_spec.specs.declared.Role.TheVariants as role
use Rattle.world_spec.specs.World.{Node, Core, osd, mrc, dir, world_key}
use Rattle.world_spec.specs.Lines.{core_starting, files_kept}
use Rattle.world_host.specs.Cores.{AreLoaded, AreRequests, IsSaid, SayTheSame, made_by}

-- the requests among records within their limits are within theirs
requests_fit : (records : List Record) → AllByRecursion FitsRecord records → AreRequests records
unfolding logged_of
requests_fit [] all = tt
requests_fit (r ∷ rs) all = at (is_logged r) (requests_fit rs all.1)
  where
    at : (b : Bool) → AllByRecursion FitsRecord (filter is_logged rs) → AllByRecursion FitsRecord (cond b (r ∷ filter is_logged rs) (filter is_logged rs))
    at true rest = (all.0, rest)
    at false rest = rest

pub requests_loaded : (found : List Record) → AreLoaded found → AreRequests found
requests_loaded found loaded = subst (AllByRecursion FitsRecord) (sym loaded.same.requests) (requests_fit loaded.kept loaded.may.0)

pub said_loaded : (found : List Record) (folded : Folded) → AreLoaded found → folded ≡ fold_of found → IsSaid folded
said_loaded found folded loaded is = (loaded.kept, loaded.may, is ∙ loaded.same.rows)

-- what records give one after the other, the requests among them give, where no other record changes anything
module _ (S : Type 0) (after : S → Record → S) (rests : (s : S) (rec : Record) → is_logged rec ≡ false → after s rec ≡ s) where
  told_by_requests : (s : S) (records : List Record) → fold after s records ≡ fold after s (logged_of records)
  unfolding logged_of
  told_by_requests s [] = refl
  told_by_requests s (r ∷ rs) = at (is_logged r) refl (λ t. told_by_requests t rs)
    where
      at : (b : Bool) → is_logged r ≡ b → ((t : S) → fold after t rs ≡ fold after t (filter is_logged rs)) → fold after (after s r) rs ≡ fold after s (cond b (r ∷ filter is_logged rs) (filter is_logged rs))
      at true is rest = rest (after s r)
      at false is rest = ap (λ (t : S). fold after t rs) (rests s r is) ∙ rest s

  told_alike : (s : S) (a b : List Record) → logged_of a ≡ logged_of b → fold after s a ≡ fold after s b
  told_alike s a b same = told_by_requests s a ∙ ap (fold after s) same ∙ sym (told_by_requests s b)

catalogue_rests : (key : List ℕ) (s : Catalogue) (rec : Record) → is_logged rec ≡ false → metadata.after_record key s rec ≡ s
catalogue_rests key s (kept.Meta from number now nodes request) is = absurd (cc)
catalogue_rests key s _ is = refl

dir_rests : (s : DirState) (rec : Record) → is_logged rec ≡ false → directory.after_record s rec ≡ s
dir_rests s (kept.Meta from number now nodes request) is = absurd (cc)
dir_rests s _ is = refl

-- what a metadata server, and what a directory service knows by its records rests on the requests among them
pub catalogue_alike : (key : List ℕ) (a b : List Record) → logged_of a ≡ logged_of b → catalogue_of key a ≡ catalogue_of key b
catalogue_alike key a b same = told_alike Catalogue (metadata.after_record key) (catalogue_rests key) empty_catalogue a b same

pub dir_alike : (a b : List Record) → logged_of a ≡ logged_of b → dir_of a ≡ dir_of b
dir_alike a b same = told_alike DirState directory.after_record dir_rests empty_dir a b same

-- a node starts in the same way from records that say the same, with the same requests in their order
pub starts_alike : (times : TimeSettings) (a b : Node) (boot : Boot) (clock : ℕ) (its : Role) → a.id ≡ b.id → SayTheSame a.kept b.kept
    → core_starting times a boot clock its ≡ core_starting times b boot clock its
starts_alike times a b boot clock role.Osd own same = ap (λ (id : NodeId). from id (fold_of a.kept)) own ∙ ap (from b.id) same.rows
  where
    from : NodeId → Folded → Core
    from id folded = osd (osd_from (record { node = id; boot = boot; times = times; start = clock }) folded.files)
starts_alike times a b boot clock role.Client own same = refl
starts_alike times a b boot clock role.Mrc own same =
    ap (λ (c : Catalogue). mrc (record { catalogue = c; osds = []; last = clock })) (catalogue_alike world_key a.kept b.kept same.requests)
starts_alike times a b boot clock role.Dir own same = ap dir (dir_alike a.kept b.kept same.requests)

-- what a node has made as it starts is what its records made
pub made_starting : (times : TimeSettings) (node : Node) (boot : Boot) (clock : ℕ) (its : Role) → made_by (core_starting times node boot clock its) ≡ files_kept node its
made_starting times node boot clock role.Osd = refl
made_starting times node boot clock role.Client = refl
made_starting times node boot clock role.Mrc = refl
made_starting times node boot clock role.Dir = refl
