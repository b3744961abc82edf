-- what the metadata server knows and gives is within the limits
use Rattle.std.proofs.Common.{◌≡◌, inl, ℕ, ◌<◌, ◌^◌, refl, Bool, true, false, cond, arith}
use Rattle.std.specs.Prelude.{Option, Some, None, List, [], ◌∷◌, ◌==◌, fold, nat_eq, nat_lt, max, IfSome}
use Rattle.std.specs.List.{AllByRecursion}
use Rattle.std.specs.Map.{lookup}
use Rattle.std.proofs.lemmas.Bool.{leb-false}
use Rattle.indexmap.specs.IndexMap.{insert_entry}
use Rattle.xt_base.specs.declared.TheConstants.{COUNTS}
use Rattle.xt_base.specs.FieldLimits.{IsCount}
use Rattle.xt_base.specs.declared.ids.NodeId.{NodeId}
use Rattle.xt_base.specs.declared.ids.FileId.{FileId}
use Rattle.xt_messages.specs.Limits.{FitsFile, FitsNode, FitsMembers, FitsMetaReq, FitsMetaAnswer, FitsRegistryAnswer, FitsPayload, FitsEvent, FitsRecord}
use Rattle.xt_messages.specs.declared.meta.MetaReq.{MetaReq}
use Rattle.xt_messages.specs.declared.meta.MetaReq.TheVariants as ask
use Rattle.xt_messages.specs.declared.meta.MetaAnswer.{MetaAnswer}
use Rattle.xt_messages.specs.declared.message.Payload.{Payload}
use Rattle.xt_messages.specs.declared.message.Payload.TheVariants as payload
use Rattle.xt_messages.specs.declared.registry.RegistryRow.{RegistryRow}
use Rattle.xt_messages.specs.declared.registry.RegistryAnswer.{RegistryAnswer}
use Rattle.xt_messages.specs.declared.registry.RegistryAnswer.TheVariants as told
use Rattle.xt_messages.specs.declared.event.Mark.{Mark}
use Rattle.xt_messages.specs.declared.event.Event.{Event}
use Rattle.xt_messages.specs.declared.event.Event.TheVariants as event
use Rattle.xt_messages.specs.declared.record.Logged.TheVariants as logged
use Rattle.xt_messages.specs.declared.record.Record.{Record}
use Rattle.xt_messages.specs.declared.record.Record.TheVariants as kept
use Rattle.reply_cache.specs.declared.Kept.{Kept}
use Rattle.reply_cache.specs.declared.Standing.{Standing}
use Rattle.reply_cache.specs.declared.Standing.TheVariants as standing
use Rattle.reply_cache.specs.Standings.{compared, standing_of}
use Rattle.volume_rows.specs.declared.Asker.{Asker}
use Rattle.volume_rows.specs.declared.Picked.{Picked}
use Rattle.volume_rows.specs.declared.Picked.TheVariants as place
use Rattle.volume_rows.specs.Paths.{Path, path_in}
use Rattle.volume_rows.specs.Rows.{Volumes}
use Rattle.volume_rows.specs.Grants.{volume_id, file_at}
use Rattle.server_rows.specs.declared.MadeFile.{MadeFile}
use Rattle.server_rows.specs.Requests.{outcome_of, place_of, placed, nodes_in, is_done, new_file, noted, ends_at, ended, made_by, file_wanted, marks_on, is_recorded, is_spent, nodes_for}
use Rattle.server_rows.specs.Metadata.{Catalogue, MrcState, empty_catalogue, after_request, after_meta, after_record, mrc_of, nothing, answered, recorded, fresh, by_standing, requested, rows_heard, nodes_of, is_dir, told_by, handled, step_of_mrc}
use Rattle.server_rows.proofs.Taking.{taken_or_not}
use Rattle.server_limits.specs.Limits.{IsGiven, FitsShown, FitsVolumes, FitsMade, AreMade, FitsMetaAnswers, FitsCatalogue, FitsMrc, FitsMrcStep}
use Rattle.server_limits.proofs.Bytes.{volume_bytes, volume_length}
use Rattle.server_limits.proofs.Picking.{AreKnown, nodes_known, nodes_fit}
use Rattle.server_limits.proofs.Volumes.{Asks, PickFits, placed_fits, request_good}

-- ---- the files that were made

abbrev MadeIs : Option MadeFile → Type 0
MadeIs None = Unit {0}
MadeIs (Some which) = FitsMade which

found_is : (es : List (ℕ × MadeFile)) (number : ℕ) → AreMade es → MadeIs (lookup (nat_eq number) es)
found_is [] number fits = tt
found_is (e ∷ es) number fits = go (nat_eq number e.0) (found_is es number fits.1) where
  go : (b : Bool) → MadeIs (lookup (nat_eq number) es) → MadeIs (cond b (Some e.1) (lookup (nat_eq number) es))
  go true later = fits.0
  go false later = later

made_put : (es : List (ℕ × MadeFile)) (number : ℕ) (which : MadeFile) → FitsMade which → AreMade es → AreMade (insert_entry nat_eq es number which)
made_put [] number which new fits = (new, tt)
made_put (e ∷ es) number which new fits = go (nat_eq number e.0) (made_put es number which new fits.1) where
  go : (b : Bool) → AreMade (insert_entry nat_eq es number which) → AreMade (cond b ((e.0, which) ∷ es) (e ∷ insert_entry nat_eq es number which))
  go true later = (new, fits.1)
  go false later = (fits.0, later)

-- a new file's id
file_own : (volume : List ℕ) (next : ℕ) → IsGiven next → FitsFile (record { volume = volume_id volume; number = next })
file_own volume next given = let low = given.most in record { all = volume_bytes volume; whole = volume_length volume; own = omega (arith, low) }

noted_fits : (path : Option Path) (next : ℕ) (pick : Picked) (es : List (ℕ × MadeFile)) → IsGiven next → PickFits pick → AreMade es → AreMade (noted (new_file path next) pick es)
noted_fits None next pick es given picks fits = fits
noted_fits (Some []) next pick es given picks fits = fits
noted_fits (Some (volume ∷ names)) next (place.TooFew have) es given picks fits = fits
noted_fits (Some (volume ∷ names)) next (place.On location) es given picks fits =
    made_put es next (record { file = record { volume = volume_id volume; number = next }; location = location; unlinked = None })
    (record { own = file_own volume next given; given = given; place = picks }) fits

ended_fits : (now : ℕ) (file : Option FileId) (es : List (ℕ × MadeFile)) → AreMade es → AreMade (ended now file es)
ended_fits now None es fits = fits
ended_fits now (Some file) es fits = go (lookup (nat_eq file.number) es) (found_is es file.number fits) where
  go : (o : Option MadeFile) → MadeIs o → AreMade (ends_at now file o es)
  go None is = fits
  go (Some which) is = made_put es file.number (record which { unlinked = Some now }) (record { own = is.own; given = is.given; place = is.place }) fits

made_fits : (volumes : Volumes) (now : ℕ) (nodes : Option (List NodeId)) (request : MetaReq) (who : Asker) (es : List (ℕ × MadeFile)) → FitsVolumes volumes → IfSome nodes FitsMembers → FitsMetaReq request
    → is_spent volumes who request ≡ false → AreMade es → AreMade (made_by volumes now nodes request es)
made_fits volumes now nodes (ask.Create path mode kind n stripe) who es volumes_fit members asked unspent fits =
    noted_fits (path_in path) volumes.next (placed kind n stripe (nodes_in nodes)) es (record { least = volumes_fit.least; most = leb-false COUNTS volumes.next unspent }) (placed_fits kind n stripe nodes asked.2 asked.4 members) fits
made_fits volumes now nodes (ask.Unlink path) who es volumes_fit members asked unspent fits = ended_fits now (file_at volumes (path_in path)) es fits
made_fits volumes now nodes _ who es volumes_fit members asked unspent fits = fits

after_fits : (done : Bool) (es new : List (ℕ × MadeFile)) → AreMade es → AreMade new → AreMade (cond done new es)
after_fits true es new fits more = more
after_fits false es new fits more = fits

-- the mark of a file that is made
placed_mark : (path : Option Path) (next : ℕ) (pick : Picked) → IsGiven next → PickFits pick → AllByRecursion FitsShown (marks_on (new_file path next) pick)
placed_mark None next pick given picks = tt
placed_mark (Some []) next pick given picks = tt
placed_mark (Some (volume ∷ names)) next (place.On location) given picks = ((given, file_own volume next given, picks), tt)
placed_mark (Some (volume ∷ names)) next (place.TooFew have) given picks = tt

marks_fit : (volumes : Volumes) (nodes : Option (List NodeId)) (request : MetaReq) (who : Asker) → FitsVolumes volumes → IfSome nodes FitsMembers → FitsMetaReq request → is_spent volumes who request ≡ false
    → AllByRecursion FitsShown (marks_on (file_wanted volumes.next request) (place_of nodes request))
marks_fit volumes nodes (ask.Create path mode kind n stripe) who volumes_fit members asked unspent =
    placed_mark (path_in path) volumes.next (placed kind n stripe (nodes_in nodes)) (record { least = volumes_fit.least; most = leb-false COUNTS volumes.next unspent }) (placed_fits kind n stripe nodes asked.2 asked.4 members)
marks_fit volumes nodes _ who volumes_fit members asked unspent = tt

if_done : (done : Bool) (marks : List Mark) → AllByRecursion FitsShown marks → AllByRecursion FitsShown (cond done marks [])
if_done true marks fits = fits
if_done false marks fits = tt

-- ---- answers that are kept

answers_put : (clients : List (ℕ × Kept MetaAnswer)) (client : ℕ) (last : Kept MetaAnswer) → FitsMetaAnswer last.answer → FitsMetaAnswers clients → FitsMetaAnswers (insert_entry nat_eq clients client last)
answers_put [] client last new fits = (new, tt)
answers_put (c ∷ cs) client last new fits = go (nat_eq client c.0) (answers_put cs client last new fits.1) where
  go : (b : Bool) → FitsMetaAnswers (insert_entry nat_eq cs client last) → FitsMetaAnswers (cond b ((c.0, last) ∷ cs) (c ∷ insert_entry nat_eq cs client last))
  go true later = (new, fits.1)
  go false later = (fits.0, later)

abbrev StandFits : Standing MetaAnswer → Type 0
StandFits standing.Fresh = Unit {0}
StandFits standing.Older = Unit {0}
StandFits (standing.Again what) = FitsMetaAnswer what

compared_fits : (number : ℕ) (last : Kept MetaAnswer) → FitsMetaAnswer last.answer → StandFits (compared number (Some last))
compared_fits number last fits = go (number == last.number) (nat_lt number last.number) where
  go : (a b : Bool) → StandFits (cond a (standing.Again last.answer) (cond b standing.Older standing.Fresh))
  go true b = fits
  go false true = tt
  go false false = tt

standing_fits : (clients : List (ℕ × Kept MetaAnswer)) (client : NodeId) (number : ℕ) → FitsMetaAnswers clients → StandFits (standing_of clients client number)
standing_fits [] client number fits = tt
standing_fits (c ∷ cs) client number fits = go (nat_eq client.0 c.0) (standing_fits cs client number fits.1) where
  go : (b : Bool) → StandFits (compared number (lookup (nat_eq client.0) cs)) → StandFits (compared number (cond b (Some c.1) (lookup (nat_eq client.0) cs)))
  go true later = compared_fits number c.1 fits.0
  go false later = later

-- ---- after a request

request_follows : (key : List ℕ) (catalogue : Catalogue) (client : NodeId) (number now : ℕ) (nodes : Option (List NodeId)) (who : Asker) (request : MetaReq) → FitsCatalogue catalogue → Asks who → now < 2 ^ 62 → IfSome nodes FitsMembers
    → FitsMetaReq request → is_spent catalogue.volumes who request ≡ false → FitsCatalogue (after_request key catalogue client number now nodes who request)
request_follows key catalogue client number now nodes who request fits asks clock members asked unspent =
    let o = outcome_of key catalogue.volumes who now nodes request in
    let good = request_good key catalogue.volumes who now nodes request fits.volumes asks clock members asked unspent in
    record {
      volumes = good.volumes;
      made = after_fits (is_done o.answer) catalogue.made (made_by catalogue.volumes now nodes request catalogue.made) fits.made (made_fits catalogue.volumes now nodes request who catalogue.made fits.volumes members asked unspent fits.made);
      answers = answers_put catalogue.clients client.0 (record { number = number; answer = o.answer }) good.told fits.answers;
    }

meta_fits : (key : List ℕ) (catalogue : Catalogue) (client : NodeId) (number now : ℕ) (nodes : Option (List NodeId)) (who : Asker) (request : MetaReq) → FitsCatalogue catalogue → Asks who → now < 2 ^ 62 → IfSome nodes FitsMembers
    → FitsMetaReq request → FitsCatalogue (after_meta key catalogue client number now nodes who request)
meta_fits key catalogue client number now nodes who request fits asks clock members asked = go (is_spent catalogue.volumes who request) refl (is_recorded key catalogue.volumes now request) where
  go : (spent : Bool) → is_spent catalogue.volumes who request ≡ spent → (records : Bool)
      → FitsCatalogue (cond spent catalogue (cond records (after_request key catalogue client number now nodes who request) catalogue))
  go true is records = fits
  go false is true = request_follows key catalogue client number now nodes who request fits asks clock members asked is
  go false is false = fits

record_fits : (key : List ℕ) (catalogue : Catalogue) (rec : Record) → FitsCatalogue catalogue → FitsRecord rec → FitsCatalogue (after_record key catalogue rec)
record_fits key catalogue (kept.Meta client number now nodes (logged.Meta user group request)) fits has =
    meta_fits key catalogue client number now nodes (record { user = user; group = group }) request fits (record { user = has.4.0; users = has.4.1 }) has.2 has.3 has.4.2
record_fits key catalogue _ fits has = fits

from_records : (key : List ℕ) (catalogue : Catalogue) (records : List Record) → FitsCatalogue catalogue → AllByRecursion FitsRecord records → FitsCatalogue (fold (after_record key) catalogue records)
from_records key catalogue [] fits all = fits
from_records key catalogue (rec ∷ records) fits all = from_records key (after_record key catalogue rec) records (record_fits key catalogue rec fits all.0) all.1

pub records_fit : (key : List ℕ) (records : List Record) (now : ℕ) → AllByRecursion FitsRecord records → now < 2 ^ 62 → FitsMrc (mrc_of key records now)
records_fit key records now all clock =
    record {
      catalogue = from_records key empty_catalogue records (record { volumes = record { rows = tt; least = omega arith; most = omega arith }; made = tt; answers = tt }) all;
      different = refl;
      nodes = tt;
      clock = clock;
    }

-- ---- steps

rests : (mrc : MrcState) → FitsMrc mrc → FitsMrcStep (nothing mrc)
rests mrc fits = record { state = fits; gives = record { kept = tt; messages = tt; marks = tt } }

answered_fits : (mrc : MrcState) (client : NodeId) (number : ℕ) (what : MetaAnswer) → FitsMrc mrc → FitsNode client → IsCount number → FitsMetaAnswer what → FitsMrcStep (answered mrc client number what)
answered_fits mrc client number what fits who counts told =
    record { state = fits; gives = record { kept = tt; messages = (record { sender = omega arith; receiver = who; listed = inl refl; content = (counts, told) }, tt); marks = tt } }

fresh_fits : (key : List ℕ) (mrc : MrcState) (client : NodeId) (number : ℕ) (who : Asker) (request : MetaReq) → FitsMrc mrc → FitsNode client → IsCount number → Asks who → FitsMetaReq request
    → FitsMrcStep (fresh key mrc client number who request)
fresh_fits key mrc client number who request fits node counts asks asked = go (is_spent mrc.catalogue.volumes who request) refl (is_recorded key mrc.catalogue.volumes mrc.last request) where
  volumes : Volumes
  volumes = mrc.catalogue.volumes

  nodes : Option (List NodeId)
  nodes = nodes_for mrc.osds mrc.catalogue.volumes.next request

  go : (spent : Bool) → is_spent mrc.catalogue.volumes who request ≡ spent → (records : Bool)
      → FitsMrcStep (cond spent (nothing mrc) (cond records (recorded key mrc client number who request) (answered mrc client number (outcome_of key mrc.catalogue.volumes who mrc.last None request).answer)))
  go true is records = rests mrc fits
  go false is true =
      let members = nodes_fit mrc.osds mrc.catalogue.volumes.next request (fits.different, fits.nodes) asked in
      let good = request_good key mrc.catalogue.volumes who mrc.last nodes request fits.catalogue.volumes asks fits.clock members asked is in
      record {
        state =
            record {
              catalogue = request_follows key mrc.catalogue client number mrc.last nodes who request fits.catalogue asks fits.clock members asked is;
              different = fits.different;
              nodes = fits.nodes;
              clock = fits.clock;
            };
        gives =
            record {
              kept = (node, counts, fits.clock, members, (asks.user, asks.users, asked));
              messages = (record { sender = omega arith; receiver = node; listed = inl refl; content = (counts, good.told) }, tt);
              marks = if_done (is_done (outcome_of key mrc.catalogue.volumes who mrc.last nodes request).answer) (marks_on (file_wanted mrc.catalogue.volumes.next request) (place_of nodes request)) (marks_fit mrc.catalogue.volumes nodes request who fits.catalogue.volumes members asked is);
            };
      }
  go false is false =
      answered_fits mrc client number (outcome_of key mrc.catalogue.volumes who mrc.last None request).answer fits node counts
      (request_good key mrc.catalogue.volumes who mrc.last None request fits.catalogue.volumes asks fits.clock tt asked is).told

stands_fits : (key : List ℕ) (mrc : MrcState) (client : NodeId) (number : ℕ) (who : Asker) (request : MetaReq) (stands : Standing MetaAnswer) → FitsMrc mrc → FitsNode client → IsCount number → Asks who → FitsMetaReq request
    → StandFits stands → FitsMrcStep (by_standing key mrc client number who request stands)
stands_fits key mrc client number who request standing.Fresh fits node counts asks asked told = fresh_fits key mrc client number who request fits node counts asks asked
stands_fits key mrc client number who request (standing.Again what) fits node counts asks asked told = answered_fits mrc client number what fits node counts told
stands_fits key mrc client number who request standing.Older fits node counts asks asked told = rests mrc fits

requested_fits : (key : List ℕ) (mrc : MrcState) (client : NodeId) (number : ℕ) (who : Asker) (request : MetaReq) → FitsMrc mrc → FitsNode client → IsCount number → Asks who → FitsMetaReq request
    → FitsMrcStep (requested key mrc client number who request)
requested_fits key mrc client number who request fits node counts asks asked =
    taken_or_not FitsMrcStep key mrc client number who request
    (stands_fits key mrc client number who request (standing_of mrc.catalogue.clients client number) fits node counts asks asked
    (standing_fits mrc.catalogue.clients client number fits.catalogue.answers))
    (rests mrc fits)

heard_fits : (mrc : MrcState) (from : NodeId) (rows : List RegistryRow) → FitsMrc mrc → AreKnown (nodes_of rows) → FitsMrcStep (rows_heard mrc from rows)
heard_fits mrc from rows fits known = go (is_dir from) where
  go : (b : Bool) → FitsMrcStep (cond b (nothing (record mrc { osds = nodes_of rows })) (nothing mrc))
  go true = rests (record mrc { osds = nodes_of rows }) (record { catalogue = fits.catalogue; different = known.0; nodes = known.1; clock = fits.clock })
  go false = rests mrc fits

registry_fits : (key : List ℕ) (mrc : MrcState) (from : NodeId) (number : ℕ) (what : RegistryAnswer) → FitsMrc mrc → FitsRegistryAnswer what → FitsMrcStep (told_by key mrc from (payload.RegistryReply number what))
registry_fits key mrc from number (told.Rows rows) fits says = heard_fits mrc from rows fits (nodes_known rows says.each)
registry_fits key mrc from number _ fits says = rests mrc fits

told_fits : (key : List ℕ) (mrc : MrcState) (from : NodeId) (content : Payload) → FitsMrc mrc → FitsNode from → FitsPayload content → FitsMrcStep (told_by key mrc from content)
told_fits key mrc from (payload.Meta number user group request) fits node asks =
    requested_fits key mrc from number (record { user = user; group = group }) request fits node asks.0 (record { user = asks.1; users = asks.2 }) asks.3
told_fits key mrc from (payload.RegistryReply number what) fits node says = registry_fits key mrc from number what fits says.1
told_fits key mrc from _ fits node says = rests mrc fits

handled_fits : (key : List ℕ) (mrc : MrcState) (happens : Event) → FitsMrc mrc → FitsEvent happens → FitsMrcStep (handled key mrc happens)
handled_fits key mrc (event.Deliver msg) fits comes = told_fits key mrc msg.from msg.payload fits comes.sender comes.content
handled_fits key mrc event.Wake fits comes =
    record {
      state = fits;
      gives =
          record {
            kept = tt;
            messages = (record { sender = omega arith; receiver = omega arith; listed = inl refl; content = (omega arith, (omega arith, omega arith)) }, tt);
            marks = tt;
          };
    }
handled_fits key mrc (event.Call call) fits comes = rests mrc fits

later_clock : (a b : ℕ) → a < 2 ^ 62 → b < 2 ^ 62 → max a b < 2 ^ 62
later_clock a b first second = omega (arith, first, second)

pub step_fits : (key : List ℕ) (mrc : MrcState) (reading : ℕ) (happens : Event) → FitsMrc mrc → reading < 2 ^ 62 → FitsEvent happens → FitsMrcStep (step_of_mrc key mrc reading happens)
unfolding step_of_mrc
step_fits key mrc reading happens fits clock comes =
    handled_fits key (record mrc { last = max reading mrc.last }) happens
    (record { catalogue = fits.catalogue; different = fits.different; nodes = fits.nodes; clock = later_clock reading mrc.last clock fits.clock }) comes
