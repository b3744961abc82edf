-- what a node sees of its records: those of its store, and those that wait
use Rattle.std.proofs.Common.{◌≡◌, ◌∙◌, refl, sym, ap, subst, Bool, Option, Some, None, List, [], ◌∷◌, ◌++◌}
use Rattle.std.specs.List.{All}
use Rattle.std.specs.Option.{IfSome, option_map}
use Rattle.std.proofs.lemmas.List.Elements.{All-append}
use Rattle.std.proofs.Math.Logic.{∥∥₁_elim}
use Rattle.disk_model.specs.declared.disk.Disk.{Ghosts}
use Rattle.xt_messages.specs.Limits.{FitsRecord}
use Rattle.xt_messages.specs.declared.record.Folded.{Folded}
use Rattle.xt_messages.specs.declared.record.Record.{Record}
use Rattle.xt_protocol.specs.Folds.{fold_of, IsInPlace}
use Rattle.xt_protocol.specs.declared.turned.Turned.{Turned}
use Rattle.replica_records.specs.Known.{as_known, known_of, Sees}
use Rattle.replica_records.proofs.Known.{fold_known, known_append}
use Rattle.object_store.specs.declared.reader.Reader.{Reader}
use Rattle.object_store.specs.declared.store.Store.{Store}
use Rattle.object_store.specs.Access.{records_of}
use Rattle.object_store.proofs.Callers.{store_known}
use Rattle.object_store.specs.FitProps.{all_fit_prop}
use Rattle.object_store.specs.Layers.{AgreesOver}
use Rattle.object_store.specs.Readers.{seen_of}
use Rattle.object_store.specs.Seen.{agreed, read_of, store_of}
use Rattle.object_store.specs.Waits.{records_with}
use Rattle.world_spec.specs.NodeSteps.{one_more}
use Rattle.node_loop.specs.Events.{Fits}

-- these very records, for one
sees_itself : {D : Type 0} {g : Ghosts D} (store : Store D g) → Sees g.is_told (records_of store) (records_of store)
sees_itself store = record {
  same = store_known store;
  fit = ∥∥₁_elim store.sound (all_fit_prop (records_of store)) (λ are. are.fit);
}

-- what it sees says what is known
pub says_so : (told : Bool) (known seen : List Record) → Sees told known seen → fold_of seen ≡ fold_of known
says_so told known seen sees = sym (fold_known told seen) ∙ ap fold_of sees.same

-- with a record more
pub known_more : (told : Bool) (known seen : List Record) (rec : Option Record) → Sees told known seen
    → known_of told (one_more seen rec) ≡ one_more known (option_map (as_known told) rec)
known_more told known seen None sees = sees.same
known_more told known seen (Some rec) sees =
    known_append told seen (rec ∷ []) ∙ ap (λ (rs : List Record). rs ++ as_known told rec ∷ []) sees.same

-- what can be put after what it sees can be put after what is known
pub fits_so : (told : Bool) (known seen : List Record) (turned : Turned) → Sees told known seen → Fits seen turned → Fits known turned
fits_so told known seen turned sees fits = record {
  record_next =
      subst (λ (f : Folded). IfSome turned.rec (λ rec. FitsRecord rec × IsInPlace f rec)) (says_so told known seen sees) fits.record_next;
  messages = fits.messages;
}

-- with the records that wait, which are known
pub sees_with : (told : Bool) (known lower recs : List Record) → Sees told known lower → All FitsRecord recs → Sees told (known ++ known_of told recs) (lower ++ recs)
sees_with told known lower recs sees fit = record {
  same = known_append told lower recs ∙ ap (λ (rs : List Record). rs ++ known_of told recs) sees.same;
  fit = All-append FitsRecord lower recs sees.fit fit;
}

-- what is known of a store with records that wait can be seen as them
pub sees_all : {D : Type 0} {g : Ghosts D} (store : Store D g) (recs : List Record) → All FitsRecord recs → Sees g.is_told (records_with store recs) (records_of store ++ recs)
sees_all {g = g} store recs fit = sees_with g.is_told (records_of store) (records_of store) recs (sees_itself store) fit

-- what agrees with the bodies of a store that were read, and then with those that wait, is seen of its records with those that wait
pub sees_over : {D : Type 0} {g : Ghosts D} (store : Store D g) (reader : Reader D g) (recs records : List Record) → store_of reader ≡ store → All FitsRecord recs
    → AgreesOver (agreed reader) recs records → Sees g.is_told (records_with store recs) records
sees_over {g = g} store reader recs records is fit agrees =
    subst (λ (rs : List Record). Sees g.is_told (records_with store recs) rs) (sym agrees.are)
    (subst (λ (s : Store _ g). Sees g.is_told (records_with s recs) (agrees.lower ++ recs)) is
    (sees_with g.is_told (records_of (store_of reader)) agrees.lower recs agrees.agree.sees fit))

-- after a step: some list that agrees with all that was read
pub record SeenBy {D : Type 0} {g : Ghosts D} (store : Store D g) (recs : List Record) (agrees : List Record → Type 0) : Type 0 where
  pub seen : List Record
  pub sees : Sees g.is_told (records_with store recs) seen
  pub agrees_so : agrees seen

pub seen_by : {D : Type 0} {g : Ghosts D} (store : Store D g) (before after : Reader D g) (recs recs_before recs_after : List Record) → store_of before ≡ store → recs_before ≡ recs
    → All FitsRecord recs → ((records : List Record) → AgreesOver (agreed after) recs_after records → AgreesOver (agreed before) recs_before records)
    → SeenBy store recs (AgreesOver (agreed after) recs_after)
seen_by {g = g} store before after recs recs_before recs_after is same fit later =
    let lower = seen_of g.is_told (records_of (store_of after)) (read_of after) in
    let all : AgreesOver (agreed after) recs_after (lower ++ recs_after) = record { lower = lower; agree = after.seen; are = refl } in
    record {
      seen = lower ++ recs_after;
      sees = sees_over store before recs (lower ++ recs_after) is fit
          (subst (λ (rs : List Record). AgreesOver (agreed before) rs (lower ++ recs_after)) same (later (lower ++ recs_after) all));
      agrees_so = all;
    }
