-- The files that the metadata server's records made are those that its steps mark, in the order of making, and all that it grants is known.
use Rattle.std.proofs.Common.{◌≡◌, ◌∙◌, ℕ, inl, inr, refl, ap, sym, subst, arith, Bool, true, false, cond}
use Rattle.std.specs.Prelude.{◌≤◌, ◌<◌, ◌+◌, ◌++◌, if◌then◌else◌, not, filter, fold, is_some, max, nat_eq, map, ◌==◌, Option, Some, None, List, [], ◌∷◌}
use Rattle.std.specs.Map.{lookup}
use Rattle.std.specs.Option.{option_to_list}
use Rattle.std.proofs.lemmas.Bool.{eqb-true}
use Rattle.std.proofs.lemmas.Bool.Decides.{nat_tests}
use Rattle.std.proofs.lemmas.List.{append-nil}
use Rattle.std.proofs.lemmas.List.Sums.{fold-append}
use Rattle.indexmap.specs.IndexMap.{insert_entry}
use Rattle.xt_base.specs.declared.ids.NodeId.{NodeId}
use Rattle.xt_base.specs.declared.ids.FileId.{FileId}
use Rattle.xt_base.specs.declared.ids.Boot.{Boot}
use Rattle.xt_messages.specs.declared.file.Location.{Location}
use Rattle.xt_messages.specs.declared.meta.MetaReq.{MetaReq}
use Rattle.xt_messages.specs.declared.meta.MetaReq.TheVariants as ask
use Rattle.xt_messages.specs.declared.meta.MetaAnswer.{MetaAnswer}
use Rattle.xt_messages.specs.declared.meta.MetaAnswer.TheVariants as answer
use Rattle.xt_messages.specs.declared.registry.RegistryReq.{RegistryReq}
use Rattle.xt_messages.specs.declared.registry.RegistryRow.{RegistryRow}
use Rattle.xt_messages.specs.declared.registry.RegistryAnswer.{RegistryAnswer}
use Rattle.xt_messages.specs.declared.registry.RegistryAnswer.TheVariants as told
use Rattle.xt_messages.specs.declared.message.Msg.{Msg}
use Rattle.xt_messages.specs.declared.message.Payload.{Payload}
use Rattle.xt_messages.specs.declared.message.Payload.TheVariants as payload
use Rattle.xt_messages.specs.declared.event.Event.{Event}
use Rattle.xt_messages.specs.declared.event.Event.TheVariants as event
use Rattle.xt_messages.specs.declared.event.Mark.{Mark}
use Rattle.xt_messages.specs.declared.event.Mark.TheVariants as mark
use Rattle.xt_messages.specs.declared.record.Logged.TheVariants as logged
use Rattle.xt_messages.specs.declared.record.Record.{Record}
use Rattle.xt_messages.specs.declared.record.Record.TheVariants as kept
use Rattle.xt_messages.specs.declared.event.Call.{Call}
use Rattle.xt_base.specs.TimeSettings.{TimeSettings}
use Rattle.xt_protocol.specs.declared.turned.Turned.{Turned}
use Rattle.client_rows.specs.declared.RunningCall.{RunningCall}
use Rattle.client_rows.specs.declared.requests.Request.{Request}
use Rattle.client_rows.specs.declared.requests.MadeCall.{MadeCall}
use Rattle.client_rows.specs.Steps.{Step}
use Rattle.client_rows.specs.Rows.{WholeClient, stepped, called, called_again}
use Rattle.client_steps.specs.Asked.{ClientIs, RunningIs, MadeIs, Tells, tells_none, tells_end, CallStepIs, call_passes, call_begins}
use Rattle.client_steps.proofs.Steps.{stepped_is, called_is, called_again_is}
use Rattle.lease_safety.specs.State.{Has}
use Rattle.reply_cache.specs.declared.Standing.{Standing}
use Rattle.reply_cache.specs.declared.Standing.TheVariants as standing
use Rattle.reply_cache.specs.Standings.{standing_of}
use Rattle.registry_table.specs.Registry as registry
use Rattle.volume_rows.specs.declared.Asker.{Asker}
use Rattle.volume_rows.specs.declared.Picked.{Picked}
use Rattle.volume_rows.specs.declared.Picked.TheVariants as place
use Rattle.volume_rows.specs.Paths.{Path, path_in}
use Rattle.volume_rows.specs.Rows.{Volumes}
use Rattle.volume_rows.specs.Grants.{file_at, volume_id}
use Rattle.server_rows.specs.declared.MadeFile.{MadeFile}
use Rattle.server_rows.specs.Requests.{outcome_of, place_of, placed, nodes_in, new_file, noted, ended, ends_at, is_done, made_by, made_after, file_wanted, marks_on, marks_of, is_recorded, is_taken, is_spent, nodes_for}
use Rattle.server_rows.specs.Metadata.{Catalogue, MrcState, MrcStep, after_request, after_meta, after_record, catalogue_of, nothing, answered, recorded, fresh, by_standing, requested, rows_heard, nodes_of, is_dir, told_by, handled, step_of_mrc}
use Rattle.server_rows.specs.Directory as directory
use Rattle.server_rows.specs.Directory.{DirState, dir_of, step_of_dir}
use Rattle.server_rows.specs.Naming.{Made, IsMadeAs, RisesTo, Holds, NamesMade, GrantsMade, GrantMade}
use Rattle.server_rows.proofs.Naming.{records_hold, step_holds}
use Rattle.server_rows.proofs.Metadata.{step_told}
use Rattle.server_rows.proofs.Directory as directory_steps
use Rattle.world_spec.specs.declared.PlacedFile.{PlacedFile}
use Rattle.world_spec.specs.declared.Role.{Role}
use Rattle.world_spec.specs.declared.Role.TheVariants as role
use Rattle.world_spec.specs.World.{Node, Running, world_key, file_in}
use Rattle.world_spec.specs.NodeSteps.{files_marked, one_more}
use Rattle.world_spec.specs.Lines.{file_made, files_in, is_untold, files_kept, files_left}
use Rattle.world_runs.specs.Worlds.{IsKnown, AnswerFits, PayloadFits, AreDeclared, IsFront, MadeUp, MadeByRole, IsMadeBy}
use Rattle.world_runs.proofs.Lists.{has_left, has_right}
use Rattle.world_runs.proofs.Tables.{file_in-rest}
use Rattle.world_runs.proofs.Standings.{AreInert}

-- ---- the files that were made, in the order of making

abbrev pub places : Made → List PlacedFile
places es = map file_made es

below_next : (least next : ℕ) (es : Made) → RisesTo least next es → least ≤ next
below_next least next [] rises = rises
below_next least next (e ∷ es) rises = let later = below_next (e.0 + 1) next es rises.2 in let first = rises.1 in omega (arith, later, first)

-- a file under the next number goes last
put_last : (least next : ℕ) (es : Made) (m : MadeFile) → RisesTo least next es → places (insert_entry nat_eq es next m) ≡ places es ++ file_made (next, m) ∷ []
put_last least next [] m rises = refl
put_last least next (e ∷ es) m rises = go (nat_eq next e.0) refl (put_last (e.0 + 1) next es m rises.2)
  where
    go : (b : Bool) → nat_eq next e.0 ≡ b → places (insert_entry nat_eq es next m) ≡ places es ++ file_made (next, m) ∷ []
        → places (cond b ((e.0, m) ∷ es) (e ∷ insert_entry nat_eq es next m)) ≡ places (e ∷ es) ++ file_made (next, m) ∷ []
    go true same later = let below = below_next (e.0 + 1) next es rises.2 in let at = eqb-true next e.0 same in absurd (omega (arith, below, at))
    go false other later = ap (λ (fs : List PlacedFile). file_made e ∷ fs) later

-- one that takes the place of the same file changes none
put_again : (es : Made) (number : ℕ) (y m : MadeFile) → lookup (nat_eq number) es ≡ Some y → file_made (number, m) ≡ file_made (number, y) → places (insert_entry nat_eq es number m) ≡ places es
put_again [] number y m there same = absurd (cc)
put_again (e ∷ es) number y m there same = go (nat_eq number e.0) there (λ h. put_again es number y m h same)
  where
    go : (b : Bool) → cond b (Some e.1) (lookup (nat_eq number) es) ≡ Some y → (lookup (nat_eq number) es ≡ Some y → places (insert_entry nat_eq es number m) ≡ places es)
        → places (cond b ((e.0, m) ∷ es) (e ∷ insert_entry nat_eq es number m)) ≡ places (e ∷ es)
    go true h later = (let is : e.1 ≡ y = cc in ap (λ (f : PlacedFile). f ∷ places es) (same ∙ ap (λ (x : MadeFile). file_made (number, x)) (sym is)))
    go false h later = ap (λ (fs : List PlacedFile). file_made e ∷ fs) (later h)

-- the files after a request are those before it and those that it marks
abbrev Adds : Made → Made → List PlacedFile → Type 0
Adds old new more = places new ≡ places old ++ more

adds_none : (es : Made) → Adds es es []
adds_none es = sym (append-nil (places es))

ended_adds : (es : Made) (now : ℕ) (file : Option FileId) → Adds es (ended now file es) []
ended_adds es now None = adds_none es
ended_adds es now (Some file) = at (lookup (nat_eq file.number) es) refl
  where
    at : (o : Option MadeFile) → lookup (nat_eq file.number) es ≡ o → Adds es (ends_at now file o es) []
    at None is = adds_none es
    at (Some y) is = put_again es file.number y (record y { unlinked = Some now }) is refl ∙ adds_none es

noted_adds : (es : Made) (next : ℕ) (path : Option Path) (pick : Picked) → RisesTo 1000000 next es → Adds es (noted (new_file path next) pick es) (files_marked (marks_on (new_file path next) pick))
noted_adds es next None pick rises = adds_none es
noted_adds es next (Some []) pick rises = adds_none es
noted_adds es next (Some (volume ∷ names)) (place.On location) rises =
    put_last 1000000 next es (record { file = record { volume = volume_id volume; number = next }; location = location; unlinked = None }) rises
noted_adds es next (Some (volume ∷ names)) (place.TooFew have) rises = adds_none es

request_adds : (es : Made) (volumes : Volumes) (now : ℕ) (nodes : Option (List NodeId)) (request : MetaReq) → RisesTo 1000000 volumes.next es
    → Adds es (made_by volumes now nodes request es) (files_marked (marks_on (file_wanted volumes.next request) (place_of nodes request)))
request_adds es volumes now nodes (ask.Create path mode kind n stripe) rises = noted_adds es volumes.next (path_in path) (placed kind n stripe (nodes_in nodes)) rises
request_adds es volumes now nodes (ask.Unlink path) rises = ended_adds es now (file_at volumes (path_in path))
request_adds es volumes now nodes _ rises = adds_none es

after_adds : (es : Made) (volumes : Volumes) (now : ℕ) (nodes : Option (List NodeId)) (request : MetaReq) (told : MetaAnswer) → RisesTo 1000000 volumes.next es
    → Adds es (made_after volumes now nodes request told es) (files_marked (marks_of volumes.next nodes request told))
after_adds es volumes now nodes request told rises = at (is_done told)
  where
    at : (b : Bool) → Adds es (cond b (made_by volumes now nodes request es) es) (files_marked (cond b (marks_on (file_wanted volumes.next request) (place_of nodes request)) []))
    at true = request_adds es volumes now nodes request rises
    at false = adds_none es

-- ---- records

module _ (key : List ℕ) where
  -- one record more makes files at the end, if any
  abbrev Grows : Made → Made → Type 0
  Grows old new = IsFront (places old) (places new)

  grows_none : (es : Made) → Grows es es
  grows_none es = ([], adds_none es)

  meta_grows : (c : Catalogue) (client : NodeId) (number now : ℕ) (nodes : Option (List NodeId)) (who : Asker) (request : MetaReq) → Holds c
      → Grows c.made (after_meta key c client number now nodes who request).made
  meta_grows c client number now nodes who request holds = at (is_spent c.volumes who request) (is_recorded key c.volumes now request)
    where
      at : (spent records : Bool) → Grows c.made (cond spent c (cond records (after_request key c client number now nodes who request) c)).made
      at true records = grows_none c.made
      at false true =
          let told = (outcome_of key c.volumes who now nodes request).answer in
          (files_marked (marks_of c.volumes.next nodes request told), after_adds c.made c.volumes now nodes request told holds.rises)
      at false false = grows_none c.made

  record_grows : (c : Catalogue) (rec : Record) → Holds c → Grows c.made (after_record key c rec).made
  record_grows c (kept.Meta client number now nodes (logged.Meta user group request)) holds = meta_grows c client number now nodes (record { user = user; group = group }) request holds
  record_grows c _ holds = grows_none c.made

  pub made_more : (records : List Record) (rec : Record) → IsFront (files_in (catalogue_of key records)) (files_in (catalogue_of key (records ++ rec ∷ [])))
  made_more records rec =
      subst (λ (c : Catalogue). IsFront (files_in (catalogue_of key records)) (files_in c)) (sym (fold-append (after_record key) _ records (rec ∷ [])))
      (record_grows (catalogue_of key records) rec (records_hold key records))

  -- a start makes nothing
  pub boot_makes_none : (records : List Record) (boot : Boot) → catalogue_of key (records ++ kept.Boot boot ∷ []) ≡ catalogue_of key records
  boot_makes_none records boot = fold-append (after_record key) _ records (kept.Boot boot ∷ [])

  -- ---- steps

  abbrev StepAdds : MrcState → MrcStep → Type 0
  StepAdds mrc step = Adds mrc.catalogue.made step.mrc.catalogue.made (files_marked step.turned.marks)

  fresh_adds : (mrc : MrcState) (client : NodeId) (number : ℕ) (who : Asker) (request : MetaReq) → Holds mrc.catalogue → StepAdds mrc (fresh key mrc client number who request)
  fresh_adds mrc client number who request holds = at (is_spent mrc.catalogue.volumes who request) (is_recorded key mrc.catalogue.volumes mrc.last request)
    where
      at : (spent records : Bool)
          → StepAdds mrc (cond spent (nothing mrc) (cond records (recorded key mrc client number who request) (answered mrc client number (outcome_of key mrc.catalogue.volumes who mrc.last None request).answer)))
      at true records = adds_none mrc.catalogue.made
      at false true =
          let nodes = nodes_for mrc.osds mrc.catalogue.volumes.next request in
          after_adds mrc.catalogue.made mrc.catalogue.volumes mrc.last nodes request (outcome_of key mrc.catalogue.volumes who mrc.last nodes request).answer holds.rises
      at false false = adds_none mrc.catalogue.made

  stands_adds : (mrc : MrcState) (client : NodeId) (number : ℕ) (who : Asker) (request : MetaReq) (how : Standing MetaAnswer) → Holds mrc.catalogue
      → StepAdds mrc (by_standing key mrc client number who request how)
  stands_adds mrc client number who request standing.Fresh holds = fresh_adds mrc client number who request holds
  stands_adds mrc client number who request (standing.Again what) holds = adds_none mrc.catalogue.made
  stands_adds mrc client number who request standing.Older holds = adds_none mrc.catalogue.made

  asked_adds : (mrc : MrcState) (client : NodeId) (number : ℕ) (who : Asker) (request : MetaReq) → Holds mrc.catalogue → StepAdds mrc (requested key mrc client number who request)
  asked_adds mrc client number who request holds = at (is_taken request)
    where
      at : (taken : Bool) → StepAdds mrc (cond taken (by_standing key mrc client number who request (standing_of mrc.catalogue.clients client number)) (nothing mrc))
      at true = stands_adds mrc client number who request (standing_of mrc.catalogue.clients client number) holds
      at false = adds_none mrc.catalogue.made

  heard_adds : (mrc : MrcState) (from : NodeId) (rs : List RegistryRow) → StepAdds mrc (rows_heard mrc from rs)
  heard_adds mrc from rs = at (is_dir from)
    where
      at : (b : Bool) → StepAdds mrc (cond b (nothing (record mrc { osds = nodes_of rs })) (nothing mrc))
      at true = adds_none mrc.catalogue.made
      at false = adds_none mrc.catalogue.made

  listed_adds : (mrc : MrcState) (from : NodeId) (number : ℕ) (what : RegistryAnswer) → StepAdds mrc (told_by key mrc from (payload.RegistryReply number what))
  listed_adds mrc from number (told.Rows rs) = heard_adds mrc from rs
  listed_adds mrc from number _ = adds_none mrc.catalogue.made

  told_adds : (mrc : MrcState) (from : NodeId) (content : Payload) → Holds mrc.catalogue → StepAdds mrc (told_by key mrc from content)
  told_adds mrc from (payload.Meta number user group request) holds = asked_adds mrc from number (record { user = user; group = group }) request holds
  told_adds mrc from (payload.RegistryReply number what) holds = listed_adds mrc from number what
  told_adds mrc from _ holds = adds_none mrc.catalogue.made

  handled_adds : (mrc : MrcState) (happens : Event) → Holds mrc.catalogue → StepAdds mrc (handled key mrc happens)
  handled_adds mrc (event.Deliver msg) holds = told_adds mrc msg.from msg.payload holds
  handled_adds mrc event.Wake holds = adds_none mrc.catalogue.made
  handled_adds mrc (event.Call k) holds = adds_none mrc.catalogue.made

  step_adds : (mrc : MrcState) (reading : ℕ) (happens : Event) → Holds mrc.catalogue → StepAdds mrc (step_of_mrc key mrc reading happens)
  unfolding step_of_mrc
  step_adds mrc reading happens holds = handled_adds (record mrc { last = max reading mrc.last }) happens holds

  -- what a server knows is still what its records say
  all_of_one : (c : Catalogue) (records : List Record) (rec : Option Record) → c ≡ fold (after_record key) (catalogue_of key records) (option_to_list rec) → c ≡ catalogue_of key (one_more records rec)
  all_of_one c records None is = is
  all_of_one c records (Some rec) is = is ∙ sym (fold-append (after_record key) _ records (rec ∷ []))

  holds_by : (mrc : MrcState) (records : List Record) → mrc.catalogue ≡ catalogue_of key records → Holds mrc.catalogue
  holds_by mrc records is = subst Holds (sym is) (records_hold key records)

  -- A step of a server that knows what its records say: it knows what they say after it, and marks the files that it made.
  pub step_kept : (mrc : MrcState) (reading : ℕ) (happens : Event) (records : List Record) → mrc.catalogue ≡ catalogue_of key records
      → (step_of_mrc key mrc reading happens).mrc.catalogue ≡ catalogue_of key (one_more records (step_of_mrc key mrc reading happens).turned.rec)
  step_kept mrc reading happens records is =
      let step = step_of_mrc key mrc reading happens in
      all_of_one step.mrc.catalogue records step.turned.rec
      (step_told key mrc reading happens ∙ ap (λ (c : Catalogue). fold (after_record key) c (option_to_list (step_of_mrc key mrc reading happens).turned.rec)) is)

  pub step_made : (mrc : MrcState) (reading : ℕ) (happens : Event) (records : List Record) → mrc.catalogue ≡ catalogue_of key records
      → files_in (step_of_mrc key mrc reading happens).mrc.catalogue ≡ files_in mrc.catalogue ++ files_marked (step_of_mrc key mrc reading happens).turned.marks
  step_made mrc reading happens records is = step_adds mrc reading happens (holds_by mrc records is)

-- ---- the directory service

dir_all : (s : DirState) (records : List Record) (rec : Option Record) → s ≡ fold directory.after_record (dir_of records) (option_to_list rec) → s ≡ dir_of (one_more records rec)
dir_all s records None is = is
dir_all s records (Some rec) is = is ∙ sym (fold-append directory.after_record _ records (rec ∷ []))

-- a step of a service that knows what its records say: it knows what they say after it
pub dir_kept : (s : DirState) (happens : Event) (records : List Record) → s ≡ dir_of records → (step_of_dir s happens).dir ≡ dir_of (one_more records (step_of_dir s happens).turned.rec)
dir_kept s happens records is =
    let step = step_of_dir s happens in
    dir_all step.dir records step.turned.rec
    (directory_steps.step_told s happens ∙ ap (λ (d : DirState). fold directory.after_record d (option_to_list (step_of_dir s happens).turned.rec)) is)

pub dir_boot : (records : List Record) (boot : Boot) → dir_of (records ++ kept.Boot boot ∷ []) ≡ dir_of records
dir_boot records boot = fold-append directory.after_record _ records (kept.Boot boot ∷ [])

-- ---- numbers

-- numbers that rise, from this one on
abbrev Rises : ℕ → List PlacedFile → Type 0
Rises least [] = Unit {0}
Rises least (f ∷ fs) = (least ≤ f.file.number) × Rises (f.file.number + 1) fs

places_rise : (least next : ℕ) (es : Made) → RisesTo least next es → Rises least (places es)
places_rise least next [] rises = tt
places_rise least next (e ∷ es) rises =
    (subst (λ (n : ℕ). least ≤ n) rises.0 rises.1, subst (λ (n : ℕ). Rises (n + 1) (places es)) rises.0 (places_rise (e.0 + 1) next es rises.2))

made_rise : (key : List ℕ) (records : List Record) → Rises 1000000 (files_in (catalogue_of key records))
made_rise key records = let c = catalogue_of key records in places_rise 1000000 c.volumes.next c.made (records_hold key records).rises

rises_low : (least : ℕ) (fs : List PlacedFile) (f : PlacedFile) → Rises least fs → Has f fs → least ≤ f.file.number
rises_low least [] f rises h = absurd h
rises_low least (x ∷ xs) f rises (inl e) = subst (λ (y : PlacedFile). least ≤ y.file.number) (sym e) rises.0
rises_low least (x ∷ xs) f rises (inr h) = let later = rises_low (x.file.number + 1) xs f rises.1 h in let first = rises.0 in omega (arith, later, first)

-- a file that was made later has a greater number
rises_apart : (least : ℕ) (told rest : List PlacedFile) (x f : PlacedFile) → Rises least (told ++ rest) → Has x told → Has f rest → x.file.number + 1 ≤ f.file.number
rises_apart least [] rest x f rises hx hf = absurd hx
rises_apart least (y ∷ ys) rest x f rises (inl e) hf = subst (λ (z : PlacedFile). z.file.number + 1 ≤ f.file.number) (sym e) (rises_low (y.file.number + 1) (ys ++ rest) f rises.1 (has_right f ys rest hf))
rises_apart least (y ∷ ys) rest x f rises (inr hx) hf = rises_apart (y.file.number + 1) ys rest x f rises.1 hx hf

-- the metadata server gives numbers above all declared ones
abbrev pub AreMade : List PlacedFile → Type 0
AreMade made = (f : PlacedFile) → Has f made → 1000000 ≤ f.file.number

pub made_above : (key : List ℕ) (records : List Record) → AreMade (files_in (catalogue_of key records))
made_above key records f h = rises_low 1000000 (files_in (catalogue_of key records)) f (made_rise key records) h

front_above : (made whole : List PlacedFile) → IsFront made whole → AreMade whole → AreMade made
front_above made whole front above f h = above f (subst (Has f) (sym front.1) (has_left f made front.0 h))

-- and so the files that were reported
pub told_above : (made : List PlacedFile) (o : Option Node) → IsMadeBy made o → AreMade made
told_above made None is = λ f h. absurd (subst (Has f) is h)
told_above made (Some node) is = by_role node.role is
  where
    none : made ≡ [] → AreMade made
    none is f h = absurd (subst (Has f) is h)

    by_up : (up : Option Running) → MadeUp made (files_in (catalogue_of world_key node.kept)) up → AreMade made
    by_up None front = front_above made (files_in (catalogue_of world_key node.kept)) front (made_above world_key node.kept)
    by_up (Some r) is = subst AreMade (sym is) (made_above world_key node.kept)

    by_role : (its : Role) → MadeByRole made node its → AreMade made
    by_role role.Mrc is = by_up node.up is
    by_role role.Osd is = none is
    by_role role.Client is = none is
    by_role role.Dir is = none is

-- ---- what a stop left out

member_found : (told : List PlacedFile) (f : PlacedFile) → Has f told → is_some (file_in told f.file.number) ≡ true
unfolding file_in
member_found [] f h = absurd h
member_found (x ∷ xs) f h = go (x.file.number == f.file.number) refl h (λ h. member_found xs f h)
  where
    differ : (a b : ℕ) → a ≡ b → (a == b) ≡ false → ⊥
    differ a b same is = (let so : (a == b) ≡ true = grind (arith, nat_tests) in cc (so, is))

    go : (b : Bool) → (x.file.number == f.file.number) ≡ b → Has f (x ∷ xs) → (Has f xs → is_some (file_in xs f.file.number) ≡ true) → is_some (cond b (Some x) (file_in xs f.file.number)) ≡ true
    go true is h later = refl
    go false is (inl e) later = absurd (differ x.file.number f.file.number (ap (λ (y : PlacedFile). y.file.number) (sym e)) is)
    go false is (inr h) later = later h

-- no file of this number is among files of lesser ones
none_found : (files : List PlacedFile) (number : ℕ) → ((x : PlacedFile) → Has x files → x.file.number < number) → file_in files number ≡ None
unfolding file_in
none_found [] number less = refl
none_found (x ∷ xs) number less = go (x.file.number == number) refl (none_found xs number (λ y h. less y (inr h)))
  where
    apart : (a b : ℕ) → a < b → (a == b) ≡ true → ⊥
    apart a b below is = (let so : (a == b) ≡ false = grind (arith, nat_tests) in cc (so, is))

    go : (b : Bool) → (x.file.number == number) ≡ b → file_in xs number ≡ None → cond b (Some x) (file_in xs number) ≡ None
    go true is later = absurd (apart x.file.number number (less x (inl refl)) is)
    go false is later = later

all_told : (told xs : List PlacedFile) → ((f : PlacedFile) → Has f xs → is_some (file_in told f.file.number) ≡ true) → filter (is_untold told) xs ≡ []
all_told told [] each = refl
all_told told (x ∷ xs) each = ap (λ (b : Bool). cond (not b) (x ∷ filter (is_untold told) xs) (filter (is_untold told) xs)) (each x (inl refl)) ∙ all_told told xs (λ f h. each f (inr h))

all_left : (told xs : List PlacedFile) → ((f : PlacedFile) → Has f xs → is_some (file_in told f.file.number) ≡ false) → filter (is_untold told) xs ≡ xs
all_left told [] each = refl
all_left told (x ∷ xs) each =
    ap (λ (b : Bool). cond (not b) (x ∷ filter (is_untold told) xs) (filter (is_untold told) xs)) (each x (inl refl)) ∙ ap (λ (ys : List PlacedFile). x ∷ ys) (all_left told xs (λ f h. each f (inr h)))

left_append : (told xs ys : List PlacedFile) → filter (is_untold told) (xs ++ ys) ≡ filter (is_untold told) xs ++ filter (is_untold told) ys
left_append told [] ys = refl
left_append told (x ∷ xs) ys = go (is_untold told x) (left_append told xs ys)
  where
    go : (b : Bool) → filter (is_untold told) (xs ++ ys) ≡ filter (is_untold told) xs ++ filter (is_untold told) ys
        → cond b (x ∷ filter (is_untold told) (xs ++ ys)) (filter (is_untold told) (xs ++ ys)) ≡ cond b (x ∷ filter (is_untold told) xs) (filter (is_untold told) xs) ++ filter (is_untold told) ys
    go true later = ap (λ (zs : List PlacedFile). x ∷ zs) later
    go false later = later

-- of the files that records made, those are left that come after the reported ones
left_is : (key : List ℕ) (records : List Record) (told rest : List PlacedFile) → files_in (catalogue_of key records) ≡ told ++ rest
    → filter (is_untold told) (files_in (catalogue_of key records)) ≡ rest
left_is key records told rest is =
    let rises : Rises 1000000 (told ++ rest) = subst (Rises 1000000) is (made_rise key records) in
    ap (filter (is_untold told)) is ∙ left_append told told rest ∙ ap (λ (fs : List PlacedFile). fs ++ filter (is_untold told) rest) (all_told told told (member_found told))
    ∙ all_left told rest (λ f hf. ap (λ (o : Option PlacedFile). is_some o) (none_found told f.file.number (λ x hx. (let apart = rises_apart 1000000 told rest x f rises hx hf in omega (arith, apart)))))

-- once a metadata server has started, what its records made is reported
pub start_made : (made : List PlacedFile) (node : Node) → node.role ≡ role.Mrc → IsFront made (files_in (catalogue_of world_key node.kept))
    → made ++ files_left made node ≡ files_in (catalogue_of world_key node.kept)
start_made made node is_mrc front =
    let whole = files_in (catalogue_of world_key node.kept) in
    ap (λ (its : Role). made ++ filter (is_untold made) (files_kept node its)) is_mrc
    ∙ ap (λ (fs : List PlacedFile). made ++ fs) (left_is world_key node.kept made front.0 front.1) ∙ sym front.1

-- no other start reports files
pub start_makes_none : (made : List PlacedFile) (node : Node) (its : Role) → node.role ≡ its → (its ≡ role.Mrc → ⊥) → files_left made node ≡ []
start_makes_none made node its is other = ap (λ (its : Role). filter (is_untold made) (files_kept node its)) is ∙ by_role its other
  where
    by_role : (its : Role) → (its ≡ role.Mrc → ⊥) → filter (is_untold made) (files_kept node its) ≡ []
    by_role role.Mrc other = absurd (other refl)
    by_role role.Osd other = refl
    by_role role.Client other = refl
    by_role role.Dir other = refl

-- ---- what is known

-- a made file is found where its number is
made_found : (least next : ℕ) (es : Made) (number : ℕ) (m : MadeFile) → RisesTo least next es → lookup (nat_eq number) es ≡ Some m
    → (file_in (places es) number ≡ Some (file_made (number, m))) × (least ≤ number)
unfolding file_in
made_found least next [] number m rises there = absurd (cc)
made_found least next (e ∷ es) number m rises there = go (nat_eq number e.0) refl there (λ h. made_found (e.0 + 1) next es number m rises.2 h)
  where
    as_told : (a b c : ℕ) (t : Bool) → b ≡ c → nat_eq a b ≡ t → (c == a) ≡ t
    as_told a b c t same is = grind (arith, nat_tests)

    go : (b : Bool) → nat_eq number e.0 ≡ b → cond b (Some e.1) (lookup (nat_eq number) es) ≡ Some m
        → (lookup (nat_eq number) es ≡ Some m → (file_in (places es) number ≡ Some (file_made (number, m))) × (e.0 + 1 ≤ number))
        → ((if e.1.file.number == number then Some (file_made e) else file_in (places es) number) ≡ Some (file_made (number, m))) × (least ≤ number)
    go true at h later =
        let same : e.1 ≡ m = cc in (
          ap (λ (b : Bool). if b then Some (file_made e) else file_in (places es) number) (as_told number e.0 e.1.file.number true rises.0 at) ∙ ap (λ (x : MadeFile). Some (file_made (number, x))) same,
          subst (λ (n : ℕ). least ≤ n) (sym (eqb-true number e.0 at)) rises.1,
        )
    go false at h later =
        let rest = later h in
        let first = rises.1 in
        (ap (λ (b : Bool). if b then Some (file_made e) else file_in (places es) number) (as_told number e.0 e.1.file.number false rises.0 at) ∙ rest.0, omega (arith, first, rest.1))

-- no declared file has the number of a made one
pub undeclared : (files : List PlacedFile) (number : ℕ) → AreDeclared files → 1000000 ≤ number → file_in files number ≡ None
undeclared files number are above = none_found files number (λ x h. (let low = (are x h).1 in omega (arith, low, above)))

-- and no made file that of a declared one
pub unmade : (made : List PlacedFile) (number : ℕ) → AreMade made → number < 1000000 → file_in made number ≡ None
unfolding file_in
unmade [] number are low = refl
unmade (x ∷ xs) number are low = go (x.file.number == number) refl (unmade xs number (λ f h. are f (inr h)) low)
  where
    apart : (a b : ℕ) → b < a → (a == b) ≡ true → ⊥
    apart a b below is = (let so : (a == b) ≡ false = grind (arith, nat_tests) in cc (so, is))

    go : (b : Bool) → (x.file.number == number) ≡ b → file_in xs number ≡ None → cond b (Some x) (file_in xs number) ≡ None
    go true is later = absurd (apart x.file.number number (let high = are x (inl refl) in omega (arith, high, low)) is)
    go false is later = later

-- a file that was made is known, whatever is declared
pub made_known : (files : List PlacedFile) (next : ℕ) (es : Made) (file : FileId) (location : Location) → AreDeclared files → RisesTo 1000000 next es → IsMadeAs es file location
    → IsKnown (files ++ places es) file location
made_known files next es file location are rises is =
    let found = made_found 1000000 next es file.number is.which rises is.there in
    file_in-rest files (places es) file.number (undeclared files file.number are found.1) ∙ found.0
    ∙ ap (λ (f : FileId). let p : PlacedFile = record { file = f; location = is.which.location } in Some p) is.same
    ∙ ap (λ (l : Location). let p : PlacedFile = record { file = file; location = l } in Some p) is.place

answer_known : (files : List PlacedFile) (next : ℕ) (es : Made) (what : MetaAnswer) → AreDeclared files → RisesTo 1000000 next es → NamesMade es what → AnswerFits (files ++ places es) what
answer_known files next es (answer.Granted capability size) are rises is = made_known files next es capability.file capability.location are rises is
answer_known files next es _ are rises is = tt

payload_known : (files : List PlacedFile) (next : ℕ) (es : Made) (content : Payload) → AreDeclared files → RisesTo 1000000 next es → GrantsMade es content → PayloadFits (files ++ places es) content
payload_known files next es (payload.MetaReply number told) are rises is = answer_known files next es told are rises is
payload_known files next es (payload.Ask number capability asked) are rises is = absurd is
payload_known files next es (payload.Meta number user group asked) are rises is = absurd is
payload_known files next es _ are rises is = tt

-- what a step of the metadata server sends is about known files
pub grants_known : (key : List ℕ) (files : List PlacedFile) (mrc : MrcState) (reading : ℕ) (happens : Event) (records : List Record) → AreDeclared files → mrc.catalogue ≡ catalogue_of key records
    → (m : Msg) → Has m (step_of_mrc key mrc reading happens).turned.outs → PayloadFits (files ++ files_in (step_of_mrc key mrc reading happens).mrc.catalogue) m.payload
grants_known key files mrc reading happens records are is m h =
    let step = step_of_mrc key mrc reading happens in
    let all = step_holds key mrc reading happens (holds_by key mrc records is) in
    each step.mrc.catalogue all.holds.rises step.turned.outs all.grants h
  where
    each : (c : Catalogue) → RisesTo 1000000 c.volumes.next c.made → (outs : List Msg) → GrantMade c.made outs → Has m outs → PayloadFits (files ++ files_in c) m.payload
    each c rises [] grants h = absurd h
    each c rises (x ∷ xs) grants (inl e) = subst (λ (y : Msg). PayloadFits (files ++ files_in c) y.payload) (sym e) (payload_known files c.volumes.next c.made x.payload are rises grants.0)
    each c rises (x ∷ xs) grants (inr h) = each c rises xs grants.1 h

-- ---- what the servers mark, keep and send

-- a file that is made
abbrev pub IsFileMark : Mark → Type 0
IsFileMark (mark.File file location) = Unit {0}
IsFileMark _ = ⊥

abbrev pub AreFileMarks : List Mark → Type 0
AreFileMarks [] = Unit {0}
AreFileMarks (m ∷ ms) = IsFileMark m × AreFileMarks ms

-- they say nothing of leases
pub files_inert : (ms : List Mark) → AreFileMarks ms → AreInert ms
files_inert [] are = tt
files_inert (mark.File file location ∷ ms) are = (tt, files_inert ms are.1)
files_inert (_ ∷ ms) are = absurd are.0

-- the record of a request
abbrev pub IsMetaIfAny : Option Record → Type 0
IsMetaIfAny None = Unit {0}
IsMetaIfAny (Some (kept.Meta client number now nodes what)) = Unit {0}
IsMetaIfAny (Some _) = ⊥

-- an answer of the metadata server, or its question to the directory service
abbrev pub IsServed : Payload → Type 0
IsServed (payload.MetaReply number told) = Unit {0}
IsServed (payload.Registry number asked) = Unit {0}
IsServed _ = ⊥

abbrev pub AreServed : List Msg → Type 0
AreServed [] = Unit {0}
AreServed (m ∷ ms) = IsServed m.payload × AreServed ms

pub served_of : (ms : List Msg) (m : Msg) → AreServed ms → Has m ms → IsServed m.payload
served_of [] m are h = absurd h
served_of (x ∷ ms) m are (inl e) = subst (λ (k : Msg). IsServed k.payload) (sym e) are.0
served_of (x ∷ ms) m are (inr h) = served_of ms m are.1 h

-- what a step of the metadata server marks, keeps and sends
pub record Serves (turned : Turned) : Type 0 where
  pub marks : AreFileMarks turned.marks
  pub rec : IsMetaIfAny turned.rec
  pub outs : AreServed turned.outs

serves_none : (mrc : MrcState) → Serves (nothing mrc).turned
serves_none mrc = record { marks = tt; rec = tt; outs = tt }

serves_answer : (mrc : MrcState) (client : NodeId) (number : ℕ) (what : MetaAnswer) → Serves (answered mrc client number what).turned
serves_answer mrc client number what = record { marks = tt; rec = tt; outs = (tt, tt) }

placed_marks : (file : Option FileId) (pick : Picked) → AreFileMarks (marks_on file pick)
placed_marks None pick = tt
placed_marks (Some file) (place.On location) = (tt, tt)
placed_marks (Some file) (place.TooFew have) = tt

made_marks : (next : ℕ) (nodes : Option (List NodeId)) (request : MetaReq) (what : MetaAnswer) → AreFileMarks (marks_of next nodes request what)
made_marks next nodes request what = at (is_done what)
  where
    at : (b : Bool) → AreFileMarks (cond b (marks_on (file_wanted next request) (place_of nodes request)) [])
    at true = placed_marks (file_wanted next request) (place_of nodes request)
    at false = tt

module _ (key : List ℕ) where
  fresh_serves : (mrc : MrcState) (client : NodeId) (number : ℕ) (who : Asker) (request : MetaReq) → Serves (fresh key mrc client number who request).turned
  fresh_serves mrc client number who request = at (is_spent mrc.catalogue.volumes who request) (is_recorded key mrc.catalogue.volumes mrc.last request)
    where
      at : (spent records : Bool)
          → Serves (cond spent (nothing mrc) (cond records (recorded key mrc client number who request) (answered mrc client number (outcome_of key mrc.catalogue.volumes who mrc.last None request).answer))).turned
      at true records = serves_none mrc
      at false true =
          let nodes = nodes_for mrc.osds mrc.catalogue.volumes.next request in
          record { marks = made_marks mrc.catalogue.volumes.next nodes request (outcome_of key mrc.catalogue.volumes who mrc.last nodes request).answer; rec = tt; outs = (tt, tt) }
      at false false = serves_answer mrc client number (outcome_of key mrc.catalogue.volumes who mrc.last None request).answer

  stands_serves : (mrc : MrcState) (client : NodeId) (number : ℕ) (who : Asker) (request : MetaReq) (how : Standing MetaAnswer) → Serves (by_standing key mrc client number who request how).turned
  stands_serves mrc client number who request standing.Fresh = fresh_serves mrc client number who request
  stands_serves mrc client number who request (standing.Again what) = serves_answer mrc client number what
  stands_serves mrc client number who request standing.Older = serves_none mrc

  asked_serves : (mrc : MrcState) (client : NodeId) (number : ℕ) (who : Asker) (request : MetaReq) → Serves (requested key mrc client number who request).turned
  asked_serves mrc client number who request = at (is_taken request)
    where
      at : (taken : Bool) → Serves (cond taken (by_standing key mrc client number who request (standing_of mrc.catalogue.clients client number)) (nothing mrc)).turned
      at true = stands_serves mrc client number who request (standing_of mrc.catalogue.clients client number)
      at false = serves_none mrc

  heard_serves : (mrc : MrcState) (from : NodeId) (rs : List RegistryRow) → Serves (rows_heard mrc from rs).turned
  heard_serves mrc from rs = at (is_dir from)
    where
      at : (b : Bool) → Serves (cond b (nothing (record mrc { osds = nodes_of rs })) (nothing mrc)).turned
      at true = serves_none mrc
      at false = serves_none mrc

  listed_serves : (mrc : MrcState) (from : NodeId) (number : ℕ) (what : RegistryAnswer) → Serves (told_by key mrc from (payload.RegistryReply number what)).turned
  listed_serves mrc from number (told.Rows rs) = heard_serves mrc from rs
  listed_serves mrc from number _ = serves_none mrc

  told_serves : (mrc : MrcState) (from : NodeId) (content : Payload) → Serves (told_by key mrc from content).turned
  told_serves mrc from (payload.Meta number user group request) = asked_serves mrc from number (record { user = user; group = group }) request
  told_serves mrc from (payload.RegistryReply number what) = listed_serves mrc from number what
  told_serves mrc from _ = serves_none mrc

  handled_serves : (mrc : MrcState) (happens : Event) → Serves (handled key mrc happens).turned
  handled_serves mrc (event.Deliver msg) = told_serves mrc msg.from msg.payload
  handled_serves mrc event.Wake = record { marks = tt; rec = tt; outs = (tt, tt) }
  handled_serves mrc (event.Call k) = serves_none mrc

  -- the metadata server marks nothing but files, keeps nothing but requests, and sends nothing but answers and its question
  pub mrc_serves : (mrc : MrcState) (reading : ℕ) (happens : Event) → Serves (step_of_mrc key mrc reading happens).turned
  unfolding step_of_mrc
  mrc_serves mrc reading happens = handled_serves (record mrc { last = max reading mrc.last }) happens

-- an answer of the directory service
abbrev pub IsListing : Payload → Type 0
IsListing (payload.RegistryReply number told) = Unit {0}
IsListing _ = ⊥

-- what a step of the directory service marks, keeps and sends
pub record DirServes (turned : Turned) : Type 0 where
  pub marks : turned.marks ≡ []
  pub rec : IsMetaIfAny turned.rec
  pub told : (m : Msg) → Has m turned.outs → IsListing m.payload
  pub outs : (files : List PlacedFile) (m : Msg) → Has m turned.outs → PayloadFits files m.payload

dir_rests : (s : DirState) → DirServes (directory.nothing s).turned
dir_rests s = record { marks = refl; rec = tt; told = λ m h. absurd h; outs = λ files m h. absurd h }

one_told : (client : NodeId) (number : ℕ) (what : RegistryAnswer) (m : Msg) → Has m (directory.reply_to client number what ∷ []) → IsListing m.payload
one_told client number what m (inl e) = subst (λ (x : Msg). IsListing x.payload) (sym e) tt
one_told client number what m (inr h) = absurd h

one_listed : (client : NodeId) (number : ℕ) (what : RegistryAnswer) (files : List PlacedFile) (m : Msg) → Has m (directory.reply_to client number what ∷ []) → PayloadFits files m.payload
one_listed client number what files m (inl e) = subst (λ (x : Msg). PayloadFits files x.payload) (sym e) tt
one_listed client number what files m (inr h) = absurd h

dir_answers : (s : DirState) (client : NodeId) (number : ℕ) (what : RegistryAnswer) → DirServes (directory.answered s client number what).turned
dir_answers s client number what = record { marks = refl; rec = tt; told = one_told client number what; outs = one_listed client number what }

dir_fresh : (s : DirState) (client : NodeId) (number : ℕ) (asked : RegistryReq) → DirServes (directory.fresh s client number asked).turned
dir_fresh s client number asked = at (registry.is_spent s.rows asked) (registry.is_recorded asked)
  where
    at : (a b : Bool) → DirServes (cond a (directory.nothing s) (cond b (directory.recorded s client number asked) (directory.answered s client number (registry.outcome_of s.rows asked).answer))).turned
    at true b = dir_rests s
    at false true = record { marks = refl; rec = tt; told = one_told client number (registry.outcome_of s.rows asked).answer; outs = one_listed client number (registry.outcome_of s.rows asked).answer }
    at false false = dir_answers s client number (registry.outcome_of s.rows asked).answer

dir_stands : (s : DirState) (client : NodeId) (number : ℕ) (asked : RegistryReq) (how : Standing RegistryAnswer) → DirServes (directory.by_standing s client number asked how).turned
dir_stands s client number asked standing.Fresh = dir_fresh s client number asked
dir_stands s client number asked (standing.Again what) = dir_answers s client number what
dir_stands s client number asked standing.Older = dir_rests s

dir_told : (s : DirState) (from : NodeId) (content : Payload) → DirServes (directory.told_by s from content).turned
dir_told s from (payload.Registry number asked) = dir_stands s from number asked (standing_of s.clients from number)
dir_told s from _ = dir_rests s

-- the directory service marks nothing, keeps nothing but requests, and neither asks nor grants anything under a capability
pub dir_serves : (s : DirState) (happens : Event) → DirServes (step_of_dir s happens).turned
unfolding step_of_dir
dir_serves s (event.Deliver msg) = dir_told s msg.from msg.payload
dir_serves s event.Wake = dir_rests s
dir_serves s (event.Call k) = dir_rests s

-- ---- a client makes no file

abbrev AnyRequest : ℕ → Request → Type 0
AnyRequest number asked = Unit {0}

any_client : (c : WholeClient) → ClientIs AnyRequest c
any_client c = record { running = running c.replicas.running; made = made c.made }
  where
    running : (o : Option RunningCall) → RunningIs AnyRequest o
    running None = tt
    running (Some call) = tt

    made : (o : Option MadeCall) → MadeIs AnyRequest o
    made None = tt
    made (Some m) = tt

pub client_makes_none : (node : NodeId) (times : TimeSettings) (c : WholeClient) (reading : ℕ) (happens : Event) → files_marked (stepped node times c reading happens).turned.marks ≡ []
client_makes_none node times c reading happens = at (stepped node times c reading happens).turned.marks (stepped_is AnyRequest node times c reading happens (any_client c)).tells
  where
    at : (marks : List Mark) → Tells AnyRequest happens marks → files_marked marks ≡ []
    at _ tells_none = refl
    at _ (tells_end number asked how is so) = refl

pub call_makes_none : (node : NodeId) (times : TimeSettings) (c : WholeClient) (reading : ℕ) (k : Call) → files_marked (called node times c reading k).turned.marks ≡ []
call_makes_none node times c reading k = at (called node times c reading k) (called_is AnyRequest node times c reading k (any_client c) (λ asked wants room. tt))
  where
    at : (step : Step WholeClient) → CallStepIs AnyRequest node c reading k step → files_marked step.turned.marks ≡ []
    at step (call_passes same) = ap (λ (s : Step WholeClient). files_marked s.turned.marks) same
    at step (call_begins asked does) = ap (λ (ms : List Mark). files_marked ms) does.marks

pub again_makes_none : (node : NodeId) (times : TimeSettings) (c : WholeClient) (reading : ℕ) → files_marked (called_again node times c reading).turned.marks ≡ []
again_makes_none node times c reading = ap (λ (ms : List Mark). files_marked ms) (called_again_is AnyRequest node times c reading (any_client c)).marks
