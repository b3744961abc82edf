-- the files that a request makes are those that it marks
use Rattle.std.proofs.Common.{◌≡◌, ◌∙◌, ℕ, refl, ap, sym, arith, Bool, true, false, cond}
use Rattle.std.specs.Prelude.{◌≤◌, ◌+◌, ◌++◌, nat_eq, Option, Some, None, List, [], ◌∷◌}
use Rattle.std.specs.Map.{lookup}
use Rattle.std.proofs.lemmas.Bool.{eqb-true}
use Rattle.std.proofs.lemmas.List.{append-nil}
use Rattle.indexmap.specs.IndexMap.{insert_entry}
use Rattle.xt_base.specs.declared.ids.NodeId.{NodeId}
use Rattle.xt_base.specs.declared.ids.FileId.{FileId}
use Rattle.xt_messages.specs.declared.meta.MetaReq.{MetaReq}
use Rattle.xt_messages.specs.declared.meta.MetaReq.TheVariants as ask
use Rattle.xt_messages.specs.declared.meta.MetaAnswer.{MetaAnswer}
use Rattle.volume_rows.specs.declared.Picked.{Picked}
use Rattle.volume_rows.specs.declared.Picked.TheVariants as place
use Rattle.volume_rows.specs.Paths.{Path, path_in}
use Rattle.volume_rows.specs.Rows.{Volumes}
use Rattle.volume_rows.specs.Grants.{file_at, volume_id}
use Rattle.server_rows.specs.declared.MadeFile.{MadeFile}
use Rattle.server_rows.specs.Requests.{ended, ends_at, file_wanted, is_done, made_after, made_by, marks_of, marks_on, new_file, nodes_in, noted, place_of, placed}
use Rattle.server_rows.specs.Naming.{Made, RisesTo}
use Rattle.world_spec.specs.declared.PlacedFile.{PlacedFile}
use Rattle.world_spec.specs.NodeSteps.{files_marked}
use Rattle.world_spec.specs.Lines.{file_made}
use Rattle.server_says.specs.Says.{AreFileMarks, places}

below_next : (least next : ℕ) (es : Made) → RisesTo least next es → least ≤ next
below_next least next [] rises = rises
below_next least next (e ∷ es) rises = let later = below_next (e.0 + 1) next es rises.2 in let first = rises.1 in omega (arith, later, first)

-- a file under the next number goes last
put_last : (least next : ℕ) (es : Made) (m : MadeFile) → RisesTo least next es → places (insert_entry nat_eq es next m) ≡ places es ++ file_made (next, m) ∷ []
put_last least next [] m rises = refl
put_last least next (e ∷ es) m rises = go (nat_eq next e.0) refl (put_last (e.0 + 1) next es m rises.2)
  where
    go : (b : Bool) → nat_eq next e.0 ≡ b → places (insert_entry nat_eq es next m) ≡ places es ++ file_made (next, m) ∷ []
        → places (cond b ((e.0, m) ∷ es) (e ∷ insert_entry nat_eq es next m)) ≡ places (e ∷ es) ++ file_made (next, m) ∷ []
    go true same later = let below = below_next (e.0 + 1) next es rises.2 in let at = eqb-true next e.0 same in absurd (omega (arith, below, at))
    go false other later = ap (λ (fs : List PlacedFile). file_made e ∷ fs) later

-- one that takes the place of the same file changes none
put_again : (es : Made) (number : ℕ) (y m : MadeFile) → lookup (nat_eq number) es ≡ Some y → file_made (number, m) ≡ file_made (number, y) → places (insert_entry nat_eq es number m) ≡ places es
put_again [] number y m there same = absurd (cc)
put_again (e ∷ es) number y m there same = go (nat_eq number e.0) there (λ h. put_again es number y m h same)
  where
    go : (b : Bool) → cond b (Some e.1) (lookup (nat_eq number) es) ≡ Some y → (lookup (nat_eq number) es ≡ Some y → places (insert_entry nat_eq es number m) ≡ places es)
        → places (cond b ((e.0, m) ∷ es) (e ∷ insert_entry nat_eq es number m)) ≡ places (e ∷ es)
    go true h later = (let is : e.1 ≡ y = cc in ap (λ (f : PlacedFile). f ∷ places es) (same ∙ ap (λ (x : MadeFile). file_made (number, x)) (sym is)))
    go false h later = ap (λ (fs : List PlacedFile). file_made e ∷ fs) (later h)

-- the files after a request are those before it and those that it marks
abbrev pub Adds : Made → Made → List PlacedFile → Type 0
Adds old new more = places new ≡ places old ++ more

pub adds_none : (es : Made) → Adds es es []
adds_none es = sym (append-nil (places es))

ended_adds : (es : Made) (now : ℕ) (file : Option FileId) → Adds es (ended now file es) []
ended_adds es now None = adds_none es
ended_adds es now (Some file) = at (lookup (nat_eq file.number) es) refl
  where
    at : (o : Option MadeFile) → lookup (nat_eq file.number) es ≡ o → Adds es (ends_at now file o es) []
    at None is = adds_none es
    at (Some y) is = put_again es file.number y (record y { unlinked = Some now }) is refl ∙ adds_none es

noted_adds : (es : Made) (next : ℕ) (path : Option Path) (pick : Picked) → RisesTo 1000000 next es → Adds es (noted (new_file path next) pick es) (files_marked (marks_on (new_file path next) pick))
noted_adds es next None pick rises = adds_none es
noted_adds es next (Some []) pick rises = adds_none es
noted_adds es next (Some (volume ∷ names)) (place.On location) rises =
    put_last 1000000 next es (record { file = record { volume = volume_id volume; number = next }; location = location; unlinked = None }) rises
noted_adds es next (Some (volume ∷ names)) (place.TooFew have) rises = adds_none es

request_adds : (es : Made) (volumes : Volumes) (now : ℕ) (nodes : Option (List NodeId)) (request : MetaReq) → RisesTo 1000000 volumes.next es
    → Adds es (made_by volumes now nodes request es) (files_marked (marks_on (file_wanted volumes.next request) (place_of nodes request)))
request_adds es volumes now nodes (ask.Create path mode kind n stripe) rises = noted_adds es volumes.next (path_in path) (placed kind n stripe (nodes_in nodes)) rises
request_adds es volumes now nodes (ask.Unlink path) rises = ended_adds es now (file_at volumes (path_in path))
request_adds es volumes now nodes _ rises = adds_none es

pub after_adds : (es : Made) (volumes : Volumes) (now : ℕ) (nodes : Option (List NodeId)) (request : MetaReq) (told : MetaAnswer) → RisesTo 1000000 volumes.next es
    → Adds es (made_after volumes now nodes request told es) (files_marked (marks_of volumes.next nodes request told))
after_adds es volumes now nodes request told rises = at (is_done told)
  where
    at : (b : Bool) → Adds es (cond b (made_by volumes now nodes request es) es) (files_marked (cond b (marks_on (file_wanted volumes.next request) (place_of nodes request)) []))
    at true = request_adds es volumes now nodes request rises
    at false = adds_none es

-- ---- its marks

placed_marks : (file : Option FileId) (pick : Picked) → AreFileMarks (marks_on file pick)
placed_marks None pick = tt
placed_marks (Some file) (place.On location) = (tt, tt)
placed_marks (Some file) (place.TooFew have) = tt

pub made_marks : (next : ℕ) (nodes : Option (List NodeId)) (request : MetaReq) (what : MetaAnswer) → AreFileMarks (marks_of next nodes request what)
made_marks next nodes request what = at (is_done what)
  where
    at : (b : Bool) → AreFileMarks (cond b (marks_on (file_wanted next request) (place_of nodes request)) [])
    at true = placed_marks (file_wanted next request) (place_of nodes request)
    at false = tt
