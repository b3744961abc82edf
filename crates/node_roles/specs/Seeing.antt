-- A node runs on what is known of its records, and on what it sees of them, alike: what it makes of records doesn't depend on bodies.
use Rattle.std.proofs.Common.{◌≡◌, ◌∙◌, ℕ, Bool, true, false, List, [], ◌∷◌, length, map, replicate, refl, sym, ap, subst}
use Rattle.std.specs.List.{AllByRecursion, fold}
use Rattle.std.proofs.lemmas.List.Elements.{recursion_from_All}
use Rattle.xt_messages.specs.Limits.{FitsRecord}
use Rattle.xt_messages.specs.declared.record.Folded.{Folded}
use Rattle.xt_messages.specs.declared.record.Record.{Record}
use Rattle.xt_protocol.specs.Folds.{AreInPlace, fold_of, nothing_kept, row_in}
use Rattle.xt_protocol.specs.OsdSteps.{OsdState}
use Rattle.replica_records.specs.Bare.{body_in}
use Rattle.replica_records.specs.Known.{as_known, known_of, Sees}
use Rattle.replica_records.proofs.BodyLaws.{fold_map, unseen}
use Rattle.replica_records.proofs.Known.{are_in_place_known, fits_known, fold_known, known_are_in_place}
use Rattle.server_rows.specs.Directory.{DirState, dir_of, empty_dir}
use Rattle.server_rows.specs.Directory as directory
use Rattle.server_rows.specs.Metadata.{Catalogue, MrcState, catalogue_of, empty_catalogue}
use Rattle.server_rows.specs.Metadata as metadata
use Rattle.server_limits.specs.Keeping.{DirRunsOn, MrcRunsOn}
use Rattle.world_limits.specs.States.{RowIs}
use Rattle.node_roles.specs.Roles.{OsdRunsOn}

all_fit_known : (told : Bool) (records : List Record) → AllByRecursion FitsRecord records → AllByRecursion FitsRecord (known_of told records)
all_fit_known told [] fit = tt
all_fit_known told (rec ∷ records) fit = (fits_known told rec fit.0, all_fit_known told records fit.1)

-- ---- the directory service

dir_after : (told : Bool) (dir : DirState) (rec : Record) → directory.after_record dir (as_known told rec) ≡ directory.after_record dir rec
dir_after true dir rec = refl
dir_after false dir rec =
    unseen (λ r s. directory.after_record dir r ≡ directory.after_record dir s) (λ file update body. refl) (λ file object version bytes body. refl)
    (λ file update body. refl) (λ file object version bytes body. refl) (λ r. refl) (replicate (length (body_in rec)) 0) rec

pub dir_known : (told : Bool) (records : List Record) → dir_of (known_of told records) ≡ dir_of records
dir_known told records = fold_map directory.after_record (as_known told) (dir_after told) empty_dir records

pub dir_seen_runs : (told : Bool) (known seen : List Record) (dir : DirState) → Sees told known seen → DirRunsOn known dir → DirRunsOn seen dir
dir_seen_runs told known seen dir sees runs = record {
  kept = recursion_from_All FitsRecord seen sees.fit;
  limits = runs.limits;
  agrees = runs.agrees ∙ ap dir_of (sym sees.same) ∙ dir_known told seen;
}

pub dir_known_runs : (told : Bool) (records : List Record) (dir : DirState) → DirRunsOn records dir → DirRunsOn (known_of told records) dir
dir_known_runs told records dir runs = record {
  kept = all_fit_known told records runs.kept;
  limits = runs.limits;
  agrees = runs.agrees ∙ sym (dir_known told records);
}

-- ---- the metadata server

mrc_after : (key : List ℕ) (told : Bool) (catalogue : Catalogue) (rec : Record)
    → metadata.after_record key catalogue (as_known told rec) ≡ metadata.after_record key catalogue rec
mrc_after key true catalogue rec = refl
mrc_after key false catalogue rec =
    unseen (λ r s. metadata.after_record key catalogue r ≡ metadata.after_record key catalogue s) (λ file update body. refl)
    (λ file object version bytes body. refl) (λ file update body. refl) (λ file object version bytes body. refl) (λ r. refl)
    (replicate (length (body_in rec)) 0) rec

pub mrc_known : (key : List ℕ) (told : Bool) (records : List Record) → catalogue_of key (known_of told records) ≡ catalogue_of key records
mrc_known key told records = fold_map (metadata.after_record key) (as_known told) (mrc_after key told) empty_catalogue records

pub mrc_seen_runs : (key : List ℕ) (told : Bool) (known seen : List Record) (mrc : MrcState) → Sees told known seen → MrcRunsOn key known mrc
    → MrcRunsOn key seen mrc
mrc_seen_runs key told known seen mrc sees runs = record {
  kept = recursion_from_All FitsRecord seen sees.fit;
  limits = runs.limits;
  agrees = runs.agrees ∙ ap (catalogue_of key) (sym sees.same) ∙ mrc_known key told seen;
}

pub mrc_known_runs : (key : List ℕ) (told : Bool) (records : List Record) (mrc : MrcState) → MrcRunsOn key records mrc
    → MrcRunsOn key (known_of told records) mrc
mrc_known_runs key told records mrc runs = record {
  kept = all_fit_known told records runs.kept;
  limits = runs.limits;
  agrees = runs.agrees ∙ sym (mrc_known key told records);
}

-- ---- an OSD

-- records that say the same of each file, within their limits and in their places
same_runs : (records same : List Record) (osd : OsdState) → fold_of same ≡ fold_of records → AllByRecursion FitsRecord same → AreInPlace nothing_kept same
    → OsdRunsOn records osd → OsdRunsOn same osd
same_runs records same osd says fit placed runs = record {
  kept = record {
    limits = fit;
    places = placed;
    rows = subst (λ (f : Folded). AllByRecursion RowIs f.files) (sym says) runs.kept.rows;
  };
  runs = record {
    limits = runs.runs.limits;
    agrees = λ file. runs.runs.agrees file ∙ ap (λ (f : Folded). row_in f.files file) (sym says);
    sound = runs.runs.sound;
  };
}

pub osd_seen_runs : (told : Bool) (known seen : List Record) (osd : OsdState) → Sees told known seen → OsdRunsOn known osd → OsdRunsOn seen osd
osd_seen_runs told known seen osd sees runs =
    same_runs known seen osd (sym (fold_known told seen) ∙ ap fold_of sees.same) (recursion_from_All FitsRecord seen sees.fit)
    (known_are_in_place told nothing_kept seen (subst (AreInPlace nothing_kept) (sym sees.same) runs.kept.places)) runs

pub osd_known_runs : (told : Bool) (records : List Record) (osd : OsdState) → OsdRunsOn records osd → OsdRunsOn (known_of told records) osd
osd_known_runs told records osd runs =
    same_runs records (known_of told records) osd (fold_known told records)
    (all_fit_known told records runs.kept.limits)
    (are_in_place_known told nothing_kept records runs.kept.places) runs
