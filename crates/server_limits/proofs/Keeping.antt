-- servers run on the records that they keep, from their start on and over every step
use Rattle.std.proofs.Common.{◌∙◌, ◌≡◌, ◌<◌, ◌^◌, ℕ, List, [], ◌∷◌, ◌++◌, refl, sym, ap}
use Rattle.std.specs.Prelude.{Option, Some, None, fold}
use Rattle.std.specs.Option.{IfSome, option_to_list}
use Rattle.std.specs.List.{AllByRecursion}
use Rattle.std.proofs.lemmas.List.Sums.{fold-append}
use Rattle.xt_base.specs.declared.ids.Boot.{Boot}
use Rattle.xt_messages.specs.Limits.{FitsBoot, FitsEvent, FitsRecord}
use Rattle.xt_messages.specs.declared.event.Event.{Event}
use Rattle.xt_messages.specs.declared.record.Record.{Record}
use Rattle.xt_messages.specs.declared.record.Record.TheVariants as kept
use Rattle.xt_messages.specs.declared.record.Folded.{Folded}
use Rattle.xt_protocol.specs.Folds.{IsInPlace, fold_of}
use Rattle.world_spec.specs.NodeSteps.{one_more}
use Rattle.server_rows.specs.Metadata.{Catalogue, MrcState, catalogue_of, empty_catalogue, mrc_of, step_of_mrc}
use Rattle.server_rows.specs.Metadata as metadata
use Rattle.server_rows.specs.Directory.{DirState, dir_of, empty_dir, step_of_dir}
use Rattle.server_rows.specs.Directory as directory
use Rattle.server_rows.proofs.Metadata as metadata_told
use Rattle.server_rows.proofs.Directory as directory_told
use Rattle.server_limits.specs.Limits.{FitsKept}
use Rattle.server_limits.specs.Keeping.{DirRunsOn, DirStepsOn, MayFollow, MrcRunsOn, MrcStepsOn}
use Rattle.server_limits.proofs.Metadata as of_mrc
use Rattle.server_limits.proofs.Directory as of_dir

-- ---- records

-- the record of a request stands anywhere
follows_one : (rec : Record) (folded : Folded) → FitsKept rec → FitsRecord rec × IsInPlace folded rec
follows_one (kept.Meta client number now nodes request) folded fits = (fits, tt)
follows_one _ folded fits = absurd fits

pub follows : (records : List Record) (rec : Option Record) → IfSome rec FitsKept → MayFollow records rec
follows records None fits = tt
follows records (Some rec) fits = follows_one rec (fold_of records) fits

all-append : (xs ys : List Record) → AllByRecursion FitsRecord xs → AllByRecursion FitsRecord ys → AllByRecursion FitsRecord (xs ++ ys)
all-append [] ys first second = second
all-append (x ∷ xs) ys first second = (first.0, all-append xs ys first.1 second)

fit_more : (records : List Record) (rec : Option Record) → AllByRecursion FitsRecord records → IfSome rec FitsKept → AllByRecursion FitsRecord (one_more records rec)
fit_more records None all fits = all
fit_more records (Some rec) all fits = all-append records (rec ∷ []) all ((follows_one rec (fold_of records) fits).0, tt)

-- what one more record says
tell_more : (S : Type 0) (after : S → Record → S) (empty : S) (records : List Record) (rec : Option Record) →
    fold after (fold after empty records) (option_to_list rec) ≡ fold after empty (one_more records rec)
tell_more S after empty records None = refl
tell_more S after empty records (Some rec) = sym (fold-append after empty records (rec ∷ []))

-- ---- the metadata server

module _ (key : List ℕ) where
  pub mrc_starts : (records : List Record) (now : ℕ) → AllByRecursion FitsRecord records → now < 2 ^ 62 → MrcRunsOn key records (mrc_of key records now)
  mrc_starts records now fits clock = record { kept = fits; limits = of_mrc.records_fit key records now fits clock; agrees = refl }

  pub mrc_boots : (records : List Record) (mrc : MrcState) (boot : Boot) → MrcRunsOn key records mrc → FitsBoot boot → MrcRunsOn key (records ++ kept.Boot boot ∷ []) mrc
  mrc_boots records mrc boot runs number =
      record {
        kept = all-append records (kept.Boot boot ∷ []) runs.kept (number, tt);
        limits = runs.limits;
        agrees = runs.agrees ∙ sym (fold-append (metadata.after_record key) empty_catalogue records (kept.Boot boot ∷ []));
      }

  pub mrc_steps : (records : List Record) (mrc : MrcState) (reading : ℕ) (happens : Event) → MrcRunsOn key records mrc → reading < 2 ^ 62 → FitsEvent happens → MrcStepsOn key records (step_of_mrc key mrc reading happens)
  mrc_steps records mrc reading happens runs clock comes =
      let step = step_of_mrc key mrc reading happens in
      let fits = of_mrc.step_fits key mrc reading happens runs.limits clock comes in
      record {
        next = follows records step.turned.rec fits.gives.kept;
        runs =
            record {
              kept = fit_more records step.turned.rec runs.kept fits.gives.kept;
              limits = fits.state;
              agrees =
                  metadata_told.step_told key mrc reading happens
                  ∙ ap (λ (c : Catalogue). fold (metadata.after_record key) c (option_to_list step.turned.rec)) runs.agrees
                  ∙ tell_more Catalogue (metadata.after_record key) empty_catalogue records step.turned.rec;
            };
        outs = fits.gives.messages;
      }

-- ---- the directory service

pub dir_starts : (records : List Record) → AllByRecursion FitsRecord records → DirRunsOn records (dir_of records)
dir_starts records fits = record { kept = fits; limits = of_dir.records_fit records fits; agrees = refl }

pub dir_boots : (records : List Record) (dir : DirState) (boot : Boot) → DirRunsOn records dir → FitsBoot boot → DirRunsOn (records ++ kept.Boot boot ∷ []) dir
dir_boots records dir boot runs number =
    record {
      kept = all-append records (kept.Boot boot ∷ []) runs.kept (number, tt);
      limits = runs.limits;
      agrees = runs.agrees ∙ sym (fold-append directory.after_record empty_dir records (kept.Boot boot ∷ []));
    }

pub dir_steps : (records : List Record) (dir : DirState) (happens : Event) → DirRunsOn records dir → FitsEvent happens → DirStepsOn records (step_of_dir dir happens)
dir_steps records dir happens runs comes =
    let step = step_of_dir dir happens in
    let fits = of_dir.step_fits dir happens runs.limits comes in
    record {
      next = follows records step.turned.rec fits.gives.kept;
      runs =
          record {
            kept = fit_more records step.turned.rec runs.kept fits.gives.kept;
            limits = fits.state;
            agrees =
                directory_told.step_told dir happens
                ∙ ap (λ (d : DirState). fold directory.after_record d (option_to_list step.turned.rec)) runs.agrees
                ∙ tell_more DirState directory.after_record empty_dir records step.turned.rec;
          };
      outs = fits.gives.messages;
    }
