-- the trace reports where each file is
use Rattle.std.proofs.Common.{◌≡◌, ℕ, List, [], ◌∷◌, ◌++◌, map, refl, ap, sym, ◌∙◌, subst, arith, Option, Some, None, Bool, true, false}
use Rattle.std.specs.Prelude.{◌==◌, cond, if◌then◌else◌}
use Rattle.std.specs.Option.{option_or}
use Rattle.std.proofs.lemmas.Bool.Decides.{nat_tests}
use Rattle.std.proofs.lemmas.List.{append_assoc, append-nil}
use Rattle.xt_base.specs.declared.ids.NodeId.{NodeId}
use Rattle.xt_messages.specs.declared.file.Location.{Location}
use Rattle.xt_messages.specs.declared.event.Mark.{Mark}
use Rattle.xt_messages.specs.declared.event.Mark.TheVariants as mark
use Rattle.world_spec.specs.declared.PlacedFile.{PlacedFile}
use Rattle.time_line.specs.declared.entry.Entry.{Entry}
use Rattle.time_line.specs.declared.entry.Entry.TheVariants as entry
use Rattle.time_line.specs.TimeLine.{location_told, location_in}
use Rattle.world_spec.specs.World.{file_in}
use Rattle.world_spec.specs.NodeSteps.{entry_of, files_marked}
use Rattle.world_spec.specs.Lines.{declared_file, file_entry}
use Rattle.world_runs.proofs.Entries.{or_assoc}

-- where a file is, if it is known
abbrev pub place_of : Option PlacedFile → Option Location
place_of None = None
place_of (Some f) = Some f.location

-- the trace reports where each known file is
abbrev pub AreTold : List PlacedFile → List Entry → Type 0
AreTold files es = (number : ℕ) → location_in number es ≡ place_of (file_in files number)

-- entries that report no place
abbrev pub NoPlaces : List Entry → Type 0
NoPlaces more = (number : ℕ) → location_in number more ≡ None

location-append : (number : ℕ) (xs ys : List Entry) → location_in number (xs ++ ys) ≡ option_or (location_in number xs) (location_in number ys)
unfolding location_in
location-append number [] ys = refl
location-append number (x ∷ xs) ys = rw (location-append number xs ys) (or_assoc (location_told number x) (location_in number xs) (location_in number ys))

-- a place that is reported stays so
pub location-grown : (number : ℕ) (xs ys : List Entry) (location : Location) → location_in number xs ≡ Some location → location_in number (xs ++ ys) ≡ Some location
location-grown number xs ys location is = location-append number xs ys ∙ ap (λ (o : Option Location). option_or o (location_in number ys)) is

pub no_places : NoPlaces []
unfolding location_in
no_places number = refl

pub next_places : (e : Entry) (more : List Entry) → ((number : ℕ) → location_told number e ≡ None) → NoPlaces more → NoPlaces (e ∷ more)
unfolding location_in
next_places e more none rest number = ap (λ (o : Option Location). option_or o (location_in number more)) (none number) ∙ rest number

pub one_place : (e : Entry) → ((number : ℕ) → location_told number e ≡ None) → NoPlaces (e ∷ [])
one_place e none = next_places e [] none no_places

or_none : (o : Option Location) → option_or o None ≡ o
or_none None = refl
or_none (Some x) = refl

-- entries more
pub told_more : (files : List PlacedFile) (es more : List Entry) → NoPlaces more → AreTold files es → AreTold files (es ++ more)
told_more files es more none told number =
    location-append number es more ∙ (ap (option_or (location_in number es)) (none number) ∙ (or_none (location_in number es) ∙ told number))

pub none_told : AreTold [] []
unfolding location_in file_in
none_told number = refl

-- ---- files more

here_or_none : {A : Type 0} → Bool → A → Option A
here_or_none b x = if b then Some x else None

file_in-both : (files more : List PlacedFile) (number : ℕ) → file_in (files ++ more) number ≡ option_or (file_in files number) (file_in more number)
unfolding file_in
file_in-both [] more number = refl
file_in-both (x ∷ xs) more number = at (x.file.number == number) (file_in-both xs more number)
  where
    at : (b : Bool) → file_in (xs ++ more) number ≡ option_or (file_in xs number) (file_in more number)
        → cond b (Some x) (file_in (xs ++ more) number) ≡ option_or (cond b (Some x) (file_in xs number)) (file_in more number)
    at true rest = refl
    at false rest = rest

file_alone : (f : PlacedFile) (number : ℕ) → file_in (f ∷ []) number ≡ (if f.file.number == number then Some f else None)
unfolding file_in
file_alone f number = refl

-- a file that is put at the end
pub file-append : (files : List PlacedFile) (f : PlacedFile) (number : ℕ) → file_in (files ++ f ∷ []) number ≡ option_or (file_in files number) (if f.file.number == number then Some f else None)
file-append files f number = file_in-both files (f ∷ []) number ∙ ap (option_or (file_in files number)) (file_alone f number)

told_here : (number k : ℕ) (location : Location) → location_in k (entry.File number location ∷ []) ≡ (if number == k then Some location else None)
unfolding location_in
told_here number k location = or_none (if number == k then Some location else None)

place_or : (o : Option PlacedFile) (b : Bool) (f : PlacedFile) → place_of (option_or o (if b then Some f else None)) ≡ option_or (place_of o) (if b then Some f.location else None)
place_or None true f = refl
place_or None false f = refl
place_or (Some x) b f = refl

-- a file is reported that is known last
pub told_last : (files : List PlacedFile) (es : List Entry) (f : PlacedFile) → AreTold files es → AreTold (files ++ f ∷ []) (es ++ file_entry f ∷ [])
told_last files es f told k =
    location-append k es (file_entry f ∷ [])
    ∙ ap (option_or (location_in k es)) (told_here f.file.number k f.location)
    ∙ ap (λ (o : Option Location). option_or o (if f.file.number == k then Some f.location else None)) (told k)
    ∙ sym (ap place_of (file-append files f k) ∙ place_or (file_in files k) (f.file.number == k) f)

-- several such files
pub told_files : (files : List PlacedFile) (es : List Entry) (left : List PlacedFile) → AreTold files es → AreTold (files ++ left) (es ++ map file_entry left)
told_files files es [] told = subst (λ (fs : List PlacedFile). AreTold fs (es ++ [])) (sym (append-nil files)) (subst (AreTold files) (sym (append-nil es)) told)
told_files files es (f ∷ left) told =
    subst (λ (fs : List PlacedFile). AreTold fs (es ++ map file_entry (f ∷ left))) (append_assoc files (f ∷ []) left)
    (subst (AreTold ((files ++ f ∷ []) ++ left)) (append_assoc es (file_entry f ∷ []) (map file_entry left))
    (told_files (files ++ f ∷ []) (es ++ file_entry f ∷ []) left (told_last files es f told)))

-- the files that are marked in a step
pub told_marks : (files : List PlacedFile) (es : List Entry) (node : NodeId) (marks : List Mark) → AreTold files es → AreTold (files ++ files_marked marks) (es ++ map (entry_of node) marks)
told_marks files es node [] told = told_files files es [] told
told_marks files es node (m ∷ ms) told = at m (λ fs more told. told_marks fs more node ms told)
  where
    Rest : Type 0
    Rest = (fs : List PlacedFile) (more : List Entry) → AreTold fs more → AreTold (fs ++ files_marked ms) (more ++ map (entry_of node) ms)

    plain : (e : Entry) → ((number : ℕ) → location_told number e ≡ None) → Rest → AreTold (files ++ files_marked ms) (es ++ e ∷ map (entry_of node) ms)
    plain e none rest =
        subst (AreTold (files ++ files_marked ms)) (append_assoc es (e ∷ []) (map (entry_of node) ms)) (rest files (es ++ e ∷ []) (told_more files es (e ∷ []) (one_place e none) told))

    made : (f : PlacedFile) → Rest → AreTold (files ++ f ∷ files_marked ms) (es ++ file_entry f ∷ map (entry_of node) ms)
    made f rest =
        subst (λ (fs : List PlacedFile). AreTold fs (es ++ file_entry f ∷ map (entry_of node) ms)) (append_assoc files (f ∷ []) (files_marked ms))
        (subst (AreTold ((files ++ f ∷ []) ++ files_marked ms)) (append_assoc es (file_entry f ∷ []) (map (entry_of node) ms))
        (rest (files ++ f ∷ []) (es ++ file_entry f ∷ []) (told_last files es f told)))

    at : (m : Mark) → Rest → AreTold (files ++ files_marked (m ∷ ms)) (es ++ map (entry_of node) (m ∷ ms))
    at (mark.File file location) rest = made (record { file = file; location = location }) rest
    at (mark.List file version members) rest = plain (entry.List file.number version members) (λ k. refl) rest
    at (mark.Begin number c) rest = plain (entry.Begin node number c) (λ k. refl) rest
    at (mark.Held file end) rest = plain (entry.Held node file end) (λ k. refl) rest
    at (mark.Active file count id) rest = plain (entry.Active node file count id) (λ k. refl) rest
    at (mark.Issue file count id) rest = plain (entry.Issue node file count id) (λ k. refl) rest
    at (mark.Commit file count id) rest = plain (entry.Commit node file count id) (λ k. refl) rest
    at (mark.Answer file id count bytes) rest = plain (entry.Answer node file id count bytes) (λ k. refl) rest
    at (mark.Done number how) rest = plain (entry.Done node number how) (λ k. refl) rest

-- a file is declared, whose number is free among the declared files and those that were made
pub told_file : (files made : List PlacedFile) (es : List Entry) (number : ℕ) (location : Location) → file_in files number ≡ None → file_in made number ≡ None → AreTold (files ++ made) es
    → AreTold ((files ++ record { file = declared_file number; location = location } ∷ []) ++ made) (es ++ entry.File number location ∷ [])
told_file files made es number location free unmade told k =
    location-append k es (entry.File number location ∷ [])
    ∙ ap (option_or (location_in k es)) (told_here number k location)
    ∙ ap (λ (o : Option Location). option_or o (if number == k then Some location else None)) (told k ∙ ap place_of (file_in-both files made k))
    ∙ at (number == k) refl (file_in files k) refl (file_in made k) refl
    ∙ sym (ap place_of (file_in-both (files ++ f ∷ []) made k ∙ ap (λ (o : Option PlacedFile). option_or o (file_in made k)) (file-append files f k)))
  where
    f : PlacedFile
    f = record { file = declared_file number; location = location }

    same_number : (a b : ℕ) → (a == b) ≡ true → a ≡ b
    same_number a b is = grind (arith, nat_tests)

    none_some : {A : Type 0} (o : Option A) (x : A) → o ≡ None → o ≡ Some x → ⊥
    none_some o x none is = cc (none, is)

    at : (b : Bool) → (number == k) ≡ b → (o : Option PlacedFile) → file_in files k ≡ o → (m : Option PlacedFile) → file_in made k ≡ m
        → option_or (place_of (option_or o m)) (if b then Some location else None) ≡ place_of (option_or (option_or o (if b then Some f else None)) m)
    at true same None there None here = refl
    at true same (Some x) there m here = absurd (none_some (file_in files k) x (ap (file_in files) (sym (same_number number k same)) ∙ free) there)
    at true same None there (Some y) here = absurd (none_some (file_in made k) y (ap (file_in made) (sym (same_number number k same)) ∙ unmade) here)
    at false same None there None here = refl
    at false same None there (Some y) here = refl
    at false same (Some x) there m here = refl
