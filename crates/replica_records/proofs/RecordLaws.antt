-- the fields of each kind of record: what is read is spelled so, and what is spelled so is read
use Rattle.std.proofs.Common.{◌≡◌, ◌≤◌, ℕ, suc, Bool, true, false, cond, eqb, ltb, leb, ◌&&◌, List, [], ◌∷◌, ◌++◌, length, Option, Some, None, Result, Ok, Err, refl, sym, ap, subst, ◌∙◌, arith}
use Rattle.std.specs.Prelude.{IfOk, IfSome, MatchResult}
use Rattle.std.specs.List.{flat_map}
use Rattle.std.proofs.lemmas.Bool.{eqb-true, ne_eqb, leb-true}
use Rattle.std.proofs.lemmas.List.{append-nil, nil_from_length}
use Rattle.xt_base.specs.MemberList.{are_members, are_distinct}
use Rattle.xt_base.specs.FieldLimits.{AreBytes}
use Rattle.xt_messages.specs.Limits.{FitsMembers, FitsLogged, FitsRecord}
use Rattle.xt_base.specs.declared.ids.NodeId.{NodeId}
use Rattle.xt_messages.specs.declared.record.Logged.{Logged}
use Rattle.xt_messages.specs.declared.record.Logged.TheVariants as logged
use Rattle.xt_messages.specs.declared.record.Record.{Record}
use Rattle.xt_messages.specs.declared.record.Record.TheVariants as kept
use Rattle.xt_fields.specs.declared.fault.FieldErr.{FieldErr}
use Rattle.xt_fields.specs.declared.fault.FieldErr.TheVariants as fault
use Rattle.xt_fields.specs.Reading.{◌>>=◌, made, fit}
use Rattle.xt_fields.specs.BasicFields.{byte_at, list_at, tagged}
use Rattle.xt_wire.specs.IdFields.{node_bytes, node_at}
use Rattle.xt_wire.specs.FileFields.{members_at}
use Rattle.xt_fields.specs.OneSpelling.{Taken, IsField}
use Rattle.xt_fields.proofs.Laws.{IsArm, AreArms, both, arm, arm_again, no_more, or_arm, bind_ok, ok_is, and_is}
use Rattle.xt_fields.proofs.BasicLaws.{word_field, long_field, count_field, body_field, tag_field, tagged_field}
use Rattle.xt_wire.proofs.IdLaws.{node_field, boot_field, file_field, epoch_field, stamp_field}
use Rattle.xt_wire.proofs.FileLaws.{version_field, members_field, location_field, update_field, head_field}
use Rattle.xt_wire.proofs.MetaLaws.{meta_req_field}
use Rattle.xt_wire.proofs.RegistryLaws.{registry_req_field}
use Rattle.replica_records.specs.declared.errors.RecordErr.{RecordErr}
use Rattle.replica_records.specs.declared.errors.RecordErr.TheVariants as error
use Rattle.replica_records.specs.RecordText.{nodes_bytes, logged_bytes, record_text}
use Rattle.replica_records.proofs.OldLaws as old
use Rattle.replica_records.proofs.OldLaws.{old_arms_take}
use Rattle.replica_records.specs.RecordFields.{nodes_arms, nodes_at, meta_logged_at, registry_logged_at, logged_arms, logged_at, boot_record_at, promise_record_at, update_record_at, stage_record_at, head_record_at, view_record_at, meta_record_at, close_record_at, install_record_at, choice_record_at, listed_record_at, seal_record_at, forget_record_at, written_arms, old_update_at, old_stage_at, old_head_at, old_install_at, old_choice_at, old_arms, is_old, record_arms, record_at, whole, recorded, Gives}

-- ---- nodes

abbrev FitsNodes : Option (List NodeId) → Type 0
FitsNodes nodes = IfSome nodes FitsMembers

nodes_take : (n : ℕ) (rest : List ℕ) (none : Bool) (x : Option (List NodeId) × List ℕ) → AreBytes (n ∷ rest) → eqb n 0 ≡ none
    → cond none (Ok (None, rest)) (made Some members_at (n ∷ rest)) ≡ Ok x → Taken (n ∷ rest) (nodes_bytes x.0) x.1 (FitsNodes x.0)
nodes_take n rest true x all is e =
    let read : Option (List NodeId) × List ℕ = (None, rest) in
    subst (λ (y : Option (List NodeId) × List ℕ). Taken (n ∷ rest) (nodes_bytes y.0) y.1 (FitsNodes y.0)) (ok_is read x e)
    (record { parts = ap (λ k. k ∷ rest) (eqb-true n 0 is); left = λ i. all (suc i); within = tt })
nodes_take n rest false x all is e =
    let a = bind_ok (members_at (n ∷ rest)) (λ read. Ok (Some read.0, read.1)) x e in
    let s = members_field.takes (n ∷ rest) a.0 all a.1 in
    let read : Option (List NodeId) × List ℕ = (Some a.0.0, a.0.1) in
    subst (λ (y : Option (List NodeId) × List ℕ). Taken (n ∷ rest) (nodes_bytes y.0) y.1 (FitsNodes y.0)) (ok_is read x a.2)
    (record { parts = s.parts; left = s.left; within = s.within })

over : {A B : Type 0} (long : Bool) (r : Result A FieldErr) (f : A → Result B FieldErr) → (cond long (Err fault.Over) r >>= f) ≡ cond long (Err fault.Over) (r >>= f)
over true r f = refl
over false r f = refl

some_read : (n : ℕ) (rest : List ℕ) → made Some members_at (n ∷ rest) ≡ cond (ltb 9 n) (Err fault.Over) (made Some (fit are_members (list_at node_at n)) rest)
unfolding members_at byte_at
some_read n rest =
    ap (λ (r : Result (List NodeId × List ℕ) FieldErr). r >>= λ read. Ok (Some read.0, read.1))
    (over (ltb 9 n) (list_at node_at n rest) (λ read. cond (are_members read.0) (Ok read) (Err fault.Unfit)))
    ∙ over (ltb 9 n) (fit are_members (list_at node_at n) rest) (λ read. Ok (Some read.0, read.1))

arms_are : (n : ℕ) (rest : List ℕ) → nodes_arms n rest ≡ cond (eqb n 0) (Ok (None, rest)) (made Some members_at (n ∷ rest))
unfolding nodes_arms
arms_are n rest = ap (λ (r : Result (Option (List NodeId) × List ℕ) FieldErr). cond (eqb n 0) (Ok (None, rest)) r) (sym (some_read n rest))

nodes_takes : (given : List ℕ) (x : Option (List NodeId) × List ℕ) → AreBytes given → nodes_at given ≡ Ok x → Taken given (nodes_bytes x.0) x.1 (FitsNodes x.0)
unfolding nodes_at byte_at
nodes_takes [] x all e = absurd cc
nodes_takes (n ∷ rest) x all e = nodes_take n rest (eqb n 0) x all refl (sym (arms_are n rest) ∙ e)

some_members : (nodes : List NodeId) → are_members nodes ≡ true → 1 ≤ length nodes
some_members nodes h =
    let few = and_is (leb 1 (length nodes) && leb (length nodes) 9) (are_distinct nodes) h in
    leb-true _ _ (and_is (leb 1 (length nodes)) (leb (length nodes) 9) few.0).0

nodes_again : (nodes : Option (List NodeId)) (rest : List ℕ) → FitsNodes nodes → nodes_at (nodes_bytes nodes ++ rest) ≡ Ok (nodes, rest)
unfolding nodes_at nodes_arms byte_at
nodes_again None rest h = refl
nodes_again (Some nodes) rest h =
    let some : 1 ≤ length nodes = some_members nodes h.different in
    let other : eqb (length nodes) 0 ≡ false = ne_eqb _ _ (omega arith) in
    let behind = flat_map node_bytes nodes ++ rest in
    arms_are (length nodes) behind
    ∙ ap (λ t. cond t (Ok (None, behind)) (made Some members_at (length nodes ∷ behind))) other
    ∙ arm_again members_field Some nodes rest h

nodes_field : IsField nodes_bytes FitsNodes nodes_at
nodes_field = record { takes = nodes_takes; again = nodes_again }

-- ---- requests

meta_logged_arm : IsArm logged_bytes FitsLogged 20 meta_logged_at
unfolding meta_logged_at
meta_logged_arm = arm 20 (both (both word_field word_field) meta_req_field) (λ f. logged.Meta f.0.0 f.0.1 f.1) (λ a. refl) (λ a h. assumption)

registry_logged_arm : IsArm logged_bytes FitsLogged 22 registry_logged_at
unfolding registry_logged_at
registry_logged_arm = arm 22 registry_req_field logged.Registry (λ a. refl) (λ a h. assumption)

logged_arms_take : AreArms logged_bytes FitsLogged logged_arms
unfolding logged_arms
logged_arms_take = or_arm 20 meta_logged_arm (or_arm 22 registry_logged_arm no_more)

logged_again : (b : Logged) (rest : List ℕ) → FitsLogged b → tagged logged_arms (logged_bytes b ++ rest) ≡ Ok (b, rest)
unfolding byte_at logged_arms meta_logged_at registry_logged_at
logged_again (logged.Meta user group request) rest h = arm_again (both (both word_field word_field) meta_req_field) (λ f. logged.Meta f.0.0 f.0.1 f.1) ((user, group), request) rest assumption
logged_again (logged.Registry request) rest h = arm_again registry_req_field logged.Registry request rest assumption

logged_field : IsField logged_bytes FitsLogged logged_at
unfolding logged_at
logged_field = tagged_field logged_arms_take logged_again

-- ---- records

boot_arm : IsArm record_text FitsRecord 1 boot_record_at
unfolding boot_record_at
boot_arm = arm 1 boot_field kept.Boot (λ a. refl) (λ a h. assumption)

promise_arm : IsArm record_text FitsRecord 2 promise_record_at
unfolding promise_record_at
promise_arm = arm 2 (both file_field epoch_field) (λ f. kept.Promise f.0 f.1) (λ a. refl) (λ a h. assumption)

update_arm : IsArm record_text FitsRecord 13 update_record_at
unfolding update_record_at
update_arm = arm 13 (both file_field update_field) (λ f. kept.Update f.0 f.1) (λ a. refl) (λ a h. assumption)

stage_arm : IsArm record_text FitsRecord 14 stage_record_at
unfolding stage_record_at
stage_arm = arm 14 (both (both (both file_field long_field) stamp_field) body_field) (λ f. kept.Stage f.0.0.0 f.0.0.1 f.0.1 f.1) (λ a. refl) (λ a h. assumption)

head_arm : IsArm record_text FitsRecord 15 head_record_at
unfolding head_record_at
head_arm = arm 15 (both file_field head_field) (λ f. kept.Head f.0 f.1) (λ a. refl) (λ a h. assumption)

view_arm : IsArm record_text FitsRecord 6 view_record_at
unfolding view_record_at
view_arm = arm 6 (both file_field location_field) (λ f. kept.View f.0 f.1) (λ a. refl) (λ a h. assumption)

meta_arm : IsArm record_text FitsRecord 7 meta_record_at
unfolding meta_record_at
meta_arm = arm 7 (both (both (both (both node_field count_field) count_field) nodes_field) logged_field) (λ f. kept.Meta f.0.0.0.0 f.0.0.0.1 f.0.0.1 f.0.1 f.1) (λ a. refl) (λ a h. (h.0.0.0.0, h.0.0.0.1, h.0.0.1, h.0.1, h.1))

close_arm : IsArm record_text FitsRecord 9 close_record_at
unfolding close_record_at
close_arm = arm 9 (both file_field version_field) (λ f. kept.Close f.0 f.1) (λ a. refl) (λ a h. assumption)

install_arm : IsArm record_text FitsRecord 16 install_record_at
unfolding install_record_at
install_arm = arm 16 (both (both file_field location_field) head_field) (λ f. kept.Install f.0.0 f.0.1 f.1) (λ a. refl) (λ a h. assumption)

choice_arm : IsArm record_text FitsRecord 17 choice_record_at
unfolding choice_record_at
choice_arm = arm 17 (both (both (both file_field location_field) head_field) node_field) (λ f. kept.Choice f.0.0.0 f.0.0.1 f.0.1 f.1) (λ a. refl) (λ a h. assumption)

listed_arm : IsArm record_text FitsRecord 12 listed_record_at
unfolding listed_record_at
listed_arm = arm 12 (both file_field version_field) (λ f. kept.Listed f.0 f.1) (λ a. refl) (λ a h. assumption)

seal_arm : IsArm record_text FitsRecord 18 seal_record_at
unfolding seal_record_at
seal_arm = arm 18 (both (both (both file_field long_field) stamp_field) tag_field) (λ f. kept.Seal f.0.0.0 f.0.0.1 f.0.1 f.1) (λ a. refl) (λ a h. assumption)

forget_arm : IsArm record_text FitsRecord 19 forget_record_at
unfolding forget_record_at
forget_arm = arm 19 file_field kept.Forget (λ a. refl) (λ a h. assumption)

written_arms_take : AreArms record_text FitsRecord written_arms
unfolding written_arms
written_arms_take = or_arm 1 boot_arm (or_arm 2 promise_arm (or_arm 6 view_arm (or_arm 7 meta_arm (or_arm 9 close_arm (or_arm 12 listed_arm (or_arm 13 update_arm (or_arm 14 stage_arm (or_arm 15 head_arm (or_arm 16 install_arm (or_arm 17 choice_arm (or_arm 18 seal_arm (or_arm 19 forget_arm no_more))))))))))))

record_again : (b : Record) (rest : List ℕ) → FitsRecord b → tagged record_arms (record_text b ++ rest) ≡ Ok (b, rest)
unfolding byte_at record_arms written_arms old_arms boot_record_at promise_record_at update_record_at stage_record_at head_record_at view_record_at meta_record_at close_record_at install_record_at choice_record_at listed_record_at seal_record_at forget_record_at old_update_at old_stage_at old_head_at old_install_at old_choice_at
record_again (kept.Boot boot) rest h = arm_again boot_field kept.Boot boot rest assumption
record_again (kept.Promise file epoch) rest h = arm_again (both file_field epoch_field) (λ f. kept.Promise f.0 f.1) (file, epoch) rest assumption
record_again (kept.Update file update) rest h = arm_again (both file_field update_field) (λ f. kept.Update f.0 f.1) (file, update) rest assumption
record_again (kept.Stage file object version bytes) rest h = arm_again (both (both (both file_field long_field) stamp_field) body_field) (λ f. kept.Stage f.0.0.0 f.0.0.1 f.0.1 f.1) (((file, object), version), bytes) rest assumption
record_again (kept.Head file head) rest h = arm_again (both file_field head_field) (λ f. kept.Head f.0 f.1) (file, head) rest assumption
record_again (kept.View file location) rest h = arm_again (both file_field location_field) (λ f. kept.View f.0 f.1) (file, location) rest assumption
record_again (kept.Meta from number now nodes request) rest h = arm_again (both (both (both (both node_field count_field) count_field) nodes_field) logged_field) (λ f. kept.Meta f.0.0.0.0 f.0.0.0.1 f.0.0.1 f.0.1 f.1) ((((from, number), now), nodes), request) rest ((((h.0, h.1), h.2), h.3), h.4)
record_again (kept.Close file version) rest h = arm_again (both file_field version_field) (λ f. kept.Close f.0 f.1) (file, version) rest assumption
record_again (kept.Install file location head) rest h = arm_again (both (both file_field location_field) head_field) (λ f. kept.Install f.0.0 f.0.1 f.1) ((file, location), head) rest assumption
record_again (kept.Choice file location head source) rest h = arm_again (both (both (both file_field location_field) head_field) node_field) (λ f. kept.Choice f.0.0.0 f.0.0.1 f.0.1 f.1) (((file, location), head), source) rest assumption
record_again (kept.Listed file version) rest h = arm_again (both file_field version_field) (λ f. kept.Listed f.0 f.1) (file, version) rest assumption
record_again (kept.Seal file object version digest) rest h = arm_again (both (both (both file_field long_field) stamp_field) tag_field) (λ f. kept.Seal f.0.0.0 f.0.0.1 f.0.1 f.1) (((file, object), version), digest) rest assumption
record_again (kept.Forget file) rest h = arm_again file_field kept.Forget file rest assumption
record_again (kept.OldUpdate file update) rest h = arm_again (both file_field old.update_field) (λ f. kept.OldUpdate f.0 f.1) (file, update) rest assumption
record_again (kept.OldStage file object version bytes) rest h = arm_again (both (both (both file_field word_field) stamp_field) body_field) (λ f. kept.OldStage f.0.0.0 f.0.0.1 f.0.1 f.1) (((file, object), version), bytes) rest assumption
record_again (kept.OldHead file head) rest h = arm_again (both file_field old.head_field) (λ f. kept.OldHead f.0 f.1) (file, head) rest assumption
record_again (kept.OldInstall file location head) rest h = arm_again (both (both file_field location_field) old.head_field) (λ f. kept.OldInstall f.0.0 f.0.1 f.1) ((file, location), head) rest assumption
record_again (kept.OldChoice file location head source) rest h = arm_again (both (both (both file_field location_field) old.head_field) node_field) (λ f. kept.OldChoice f.0.0.0 f.0.0.1 f.0.1 f.1) (((file, location), head), source) rest assumption

record_arms_take : AreArms record_text FitsRecord record_arms
unfolding record_arms
record_arms_take = record {
  takes = λ kind given x all e.
      elim (is_old kind) as (λ b. cond b (old_arms kind given) (written_arms kind given) ≡ Ok x → Taken (kind ∷ given) (record_text x.0) x.1 (FitsRecord x.0)) [
        | true ↦ λ e. old_arms_take.takes kind given x all e
        | false ↦ λ e. written_arms_take.takes kind given x all e
      ] e;
}

pub record_field : IsField record_text FitsRecord record_at
unfolding record_at
record_field = tagged_field record_arms_take record_again

-- ---- whole payloads

abbrev read_all : {A : Type 0} → A → List ℕ → Result (A × List ℕ) FieldErr
read_all a rest = Ok (a, rest)

passed : (b : Bool) (r : Record) (y : Record) → cond b (Ok r) (Err error.BadRecord) ≡ Ok y → (b ≡ true) × (r ≡ y)
passed true r y e = (refl, cc)
passed false r y e = absurd cc

whole_ok : (r : Result (Record × List ℕ) FieldErr) (y : Record) → whole r ≡ Ok y → r ≡ Ok (y, [])
whole_ok (Ok x) y e =
    let g = passed (eqb (length x.1) 0) x.0 y e in
    let nothing : x.1 ≡ [] = nil_from_length x.1 (eqb-true _ _ g.0) in
    ap (λ (rest : List ℕ). read_all x.0 rest) nothing ∙ ap (λ (a : Record). read_all a []) g.1
whole_ok (Err d) y e = absurd cc

-- what is read is a record within its limits, and the bytes are its spelling
pub is_found : (bytes : List ℕ) (r : Result Record RecordErr) → AreBytes bytes → Gives r (recorded bytes) → IfOk r (λ rec. FitsRecord rec × (bytes ≡ record_text rec))
unfolding recorded
is_found bytes (Ok rec) all given =
    let s = record_field.takes bytes (rec, []) all (whole_ok (record_at bytes) rec given) in
    (s.within, s.parts ∙ append-nil (record_text rec))
is_found bytes (Err e) all given = tt

-- the spelling of a record within its limits is read
pub recorded_again : (rec : Record) → FitsRecord rec → recorded (record_text rec) ≡ Ok rec
unfolding recorded
recorded_again rec fits =
    let read : record_at (record_text rec) ≡ Ok (rec, []) = ap record_at (sym (append-nil (record_text rec))) ∙ record_field.again rec [] fits in
    rw read refl

same_record : (r : Result Record RecordErr) (rec : Record) → Gives r (Ok rec) → MatchResult r (λ given. given ≡ rec) (λ e. e ≡ error.OutOfMemory)
same_record (Ok given) rec e = cc
same_record (Err error.BadRecord) rec e = absurd cc
same_record (Err error.OutOfMemory) rec e = refl

pub is_read : (bytes : List ℕ) (r : Result Record RecordErr) → Gives r (recorded bytes) → (rec : Record) → FitsRecord rec → bytes ≡ record_text rec
    → MatchResult r (λ given. given ≡ rec) (λ e. e ≡ error.OutOfMemory)
is_read bytes r given rec fits e =
    same_record r rec (subst (λ (read : Result Record RecordErr). Gives r read) (ap recorded e ∙ recorded_again rec fits) given)
