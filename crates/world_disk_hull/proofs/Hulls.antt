-- the nodes after an append
use Rattle.std.proofs.Common.{◌≡◌, ◌==◌, ℕ, Bool, true, false, cond, if◌then◌else◌, List, [], ◌∷◌, ◌++◌, Option, Some, unwrap_or, refl, sym, ◌∙◌, ap, arith, eq-eqb}
use Rattle.std.proofs.lemmas.Bool.{eqb-true}
use Rattle.std.proofs.lemmas.Bool.Decides.{nat_tests}
use Rattle.std.proofs.Math.Path.{fun_ext}
use Rattle.std.specs.BTreeMap.{BTreeMap, get, Updates}
use Rattle.std.specs.Cmp.{unsigned_tied}
use Rattle.std.specs.Ordering.{nat_cmp}
use Rattle.disk_model.specs.declared.plan.Stop.{Stop}
use Rattle.xt_base.specs.declared.ids.NodeId.{NodeId}
use Rattle.xt_messages.specs.declared.record.Record.{Record}
use Rattle.world_hull.specs.declared.hull.Kept.{Kept}
use Rattle.world_hull.specs.declared.hull.Kept.TheVariants.{Done, StoppedKept, StoppedLost}
use Rattle.xt_messages.specs.declared.record.KeepBody.{KeepBody}
use Rattle.xt_protocol.specs.Forgetting.{rewritten}
use Rattle.world_spec.specs.World.{Deed, loads, rewrites}
use Rattle.world_hull.specs.Appends.{kept_by, records_after, past_after, with_deed, IsAppended}
use Rattle.world_hull.specs.Rewritings.{IsCompacted, logs_after}
use Rattle.world_disk.specs.Ends.{own_after}
use Rattle.world_disk.specs.Room.{journal_room, laid_by, rewrites_at}
use Rattle.world_disk_hull.specs.Views.{OwnRewritten, StoredView, none_stored, own_past_after}

chosen : (b : Bool) (store : StoredView) (before : Option StoredView)
    → unwrap_or (cond b (Some store) before) none_stored ≡ (if b then store else unwrap_or before none_stored)
chosen true store before = refl
chosen false store before = refl

other_way : (m n : ℕ) → (m == n) ≡ (n == m)
other_way m n = grind (arith, nat_tests)

pub put_at : (old new : BTreeMap ℕ StoredView) (node : ℕ) (store : StoredView) → Updates nat_cmp old new node (Some store)
    → (n : ℕ) → unwrap_or (get nat_cmp new n) none_stored ≡ (if n == node then store else unwrap_or (get nat_cmp old n) none_stored)
put_at old new node store updates n =
    ap (λ found. unwrap_or found none_stored) (updates.0 n)
    ∙ ap (λ tied. unwrap_or (cond tied (Some store) (get nat_cmp old n)) none_stored) (unsigned_tied node n ∙ other_way node n)
    ∙ chosen (n == node) store (get nat_cmp old n)

-- the node that was put in
pub at_own : (old new : ℕ → StoredView) (node : ℕ) (store : StoredView) → new ≡ (λ n. if n == node then store else old n) → new node ≡ store
at_own old new node store put =
    ap (λ (nodes : ℕ → StoredView). nodes node) put ∙ ap (λ (b : Bool). if b then store else old node) (eq-eqb node node refl)

-- another one
pub at_other : (old new : ℕ → StoredView) (node : ℕ) (store : StoredView) → new ≡ (λ n. if n == node then store else old n)
    → (n : ℕ) → (n == node) ≡ false → new n ≡ old n
at_other old new node store put n differs =
    ap (λ (nodes : ℕ → StoredView). nodes n) put ∙ ap (λ (b : Bool). if b then store else old n) differs

either_way : (b : Bool) (records : List Record) → (if b then records else records) ≡ records
either_way true records = refl
either_way false records = refl

-- only the node's own records change
only_own : (old : ℕ → List Record) (node : NodeId) (rec : Record) (end : Kept) (n : ℕ)
    → (if n == node.0 then own_after (old n) rec end else old n) ≡ records_after old node rec end n
only_own old node rec Done n = refl
only_own old node rec StoppedKept n = refl
only_own old node rec StoppedLost n = either_way (n == node.0) (old n)

same_past : (b : Bool) (past : List Deed) → (if b then past else past) ≡ past
same_past true past = refl
same_past false past = refl

only_own_past : (old : ℕ → List Deed) (node : NodeId) (rec : Record) (end : Kept) (n : ℕ)
    → (if n == node.0 then own_past_after (old n) rec end else old n) ≡ past_after old node rec end n
only_own_past old node rec Done n = refl
only_own_past old node rec StoppedKept n = refl
only_own_past old node rec StoppedLost n = same_past (n == node.0) (old n)

pub is_appended : (old mid new : ℕ → StoredView) (node : NodeId) (rec : Record) (stop : Option Stop) (end : Kept) (store : StoredView)
    → end ≡ kept_by stop
    → store.records ≡ own_after (old node.0).records rec (kept_by stop)
    → store.past ≡ own_past_after (old node.0).past rec (kept_by stop)
    → ((n : ℕ) → (n == node.0) ≡ false → mid n ≡ old n)
    → new ≡ (λ n. if n == node.0 then store else mid n)
    → IsAppended (λ n. (old n).records, λ n. (old n).past) (λ n. (new n).records, λ n. (new n).past) node rec stop end
is_appended old mid new node rec stop end store ends own deeds others put = (
  ends,
  fun_ext (λ n. ap (λ (nodes : ℕ → StoredView). (nodes n).records) put ∙ at n (n == node.0) refl ∙ only_own (λ k. (old k).records) node rec end n),
  fun_ext (λ n. ap (λ (nodes : ℕ → StoredView). (nodes n).past) put ∙ done n (n == node.0) refl ∙ only_own_past (λ k. (old k).past) node rec end n),
)
  where
    at : (n : ℕ) (b : Bool) → (n == node.0) ≡ b
        → (if b then store else mid n).records ≡ (if b then own_after (old n).records rec end else (old n).records)
    at n true same =
        own ∙ ap (λ e. own_after (old node.0).records rec e) (sym ends)
        ∙ ap (λ (k : ℕ). own_after (old k).records rec end) (sym (eqb-true n node.0 same))
    at n false differ = ap (λ (node : StoredView). node.records) (others n differ)

    done : (n : ℕ) (b : Bool) → (n == node.0) ≡ b
        → (if b then store else mid n).past ≡ (if b then own_past_after (old n).past rec end else (old n).past)
    done n true same =
        deeds ∙ ap (λ e. own_past_after (old node.0).past rec e) (sym ends)
        ∙ ap (λ (k : ℕ). own_past_after (old k).past rec end) (sym (eqb-true n node.0 same))
    done n false differ = ap (λ (node : StoredView). node.past) (others n differ)

abbrev pub nodes_at : BTreeMap ℕ StoredView → ℕ → StoredView
nodes_at nodes node = unwrap_or (get nat_cmp nodes node) none_stored

abbrev pub past_at : BTreeMap ℕ StoredView → ℕ → List Deed
past_at stores node = (unwrap_or (get nat_cmp stores node) none_stored).past

abbrev pub records_at : BTreeMap ℕ StoredView → ℕ → List Record
records_at stores node = (unwrap_or (get nat_cmp stores node) none_stored).records

-- what is written over a node is what it has then
pub written_at : (old new : BTreeMap ℕ StoredView) (node : ℕ) (store : StoredView) → Updates nat_cmp old new node (Some store)
    → unwrap_or (get nat_cmp new node) none_stored ≡ store
written_at old new node store updates =
    put_at old new node store updates node ∙ ap (λ (b : Bool). if b then store else unwrap_or (get nat_cmp old node) none_stored) (eq-eqb node node refl)

-- and every other one has what it had
pub written_beside : (old new : BTreeMap ℕ StoredView) (node : ℕ) (store : StoredView) → Updates nat_cmp old new node (Some store)
    → (n : ℕ) → (n == node) ≡ false → unwrap_or (get nat_cmp new n) none_stored ≡ unwrap_or (get nat_cmp old n) none_stored
written_beside old new node store updates n differs =
    put_at old new node store updates n ∙ ap (λ (b : Bool). if b then store else unwrap_or (get nat_cmp old n) none_stored) differs

-- the same records, written over those of a node
pub written_same : (old new : BTreeMap ℕ StoredView) (node : ℕ) (store : StoredView) → Updates nat_cmp old new node (Some store)
    → store.records ≡ records_at old node → records_at new ≡ records_at old
written_same old new node store updates same =
    fun_ext (λ n. ap (λ (s : StoredView). s.records) (put_at old new node store updates n) ∙ at n (n == node) refl)
  where
    at : (n : ℕ) (b : Bool) → (n == node) ≡ b
        → (if b then store else unwrap_or (get nat_cmp old n) none_stored).records ≡ records_at old n
    at n true is = same ∙ ap (records_at old) (sym (eqb-true n node is))
    at n false differ = refl

-- one more load, written over what was done to a node's
pub written_load : (old new : BTreeMap ℕ StoredView) (node : NodeId) (store : StoredView) → Updates nat_cmp old new node.0 (Some store)
    → store.past ≡ past_at old node.0 ++ loads ∷ [] → past_at new ≡ with_deed (past_at old) node loads
written_load old new node store updates one =
    fun_ext (λ n. ap (λ (s : StoredView). s.past) (put_at old new node.0 store updates n) ∙ at n (n == node.0) refl)
  where
    at : (n : ℕ) (b : Bool) → (n == node.0) ≡ b
        → (if b then store else unwrap_or (get nat_cmp old n) none_stored).past ≡ (if b then past_at old n ++ loads ∷ [] else past_at old n)
    at n true is = one ∙ ap (λ (k : ℕ). past_at old k ++ loads ∷ []) (sym (eqb-true n node.0 is))
    at n false differ = refl

-- what is written over a node and is the same leaves all
pub written_all : (old new : BTreeMap ℕ StoredView) (node : ℕ) (store : StoredView) → Updates nat_cmp old new node (Some store)
    → store ≡ unwrap_or (get nat_cmp old node) none_stored
    → nodes_at new ≡ nodes_at old
written_all old new node store updates same = fun_ext (λ n. put_at old new node store updates n ∙ at n (n == node) refl)
  where
    at : (n : ℕ) (b : Bool) → (n == node) ≡ b
        → (if b then store else unwrap_or (get nat_cmp old n) none_stored) ≡ unwrap_or (get nat_cmp old n) none_stored
    at n true is = same ∙ ap (λ (k : ℕ). unwrap_or (get nat_cmp old k) none_stored) (sym (eqb-true n node is))
    at n false differ = refl

abbrev pub pasts : (ℕ → StoredView) → ℕ → List Deed
pasts nodes n = (nodes n).past

abbrev pub logs : (ℕ → StoredView) → ℕ → List Record
logs nodes n = (nodes n).records

-- a node that had no store has one with no record, which was loaded
pub first_load : (old new : ℕ → StoredView) (node : NodeId) (store : StoredView) → new ≡ (λ n. if n == node.0 then store else old n)
    → old node.0 ≡ none_stored → store.past ≡ loads ∷ []
    → pasts new ≡ with_deed (pasts old) node loads
first_load old new node store put none one = fun_ext (λ n. ap (λ (nodes : ℕ → StoredView). (nodes n).past) put ∙ at n (n == node.0) refl)
  where
    at : (n : ℕ) (b : Bool) → (n == node.0) ≡ b → (if b then store else old n).past ≡ (if b then (old n).past ++ loads ∷ [] else (old n).past)
    at n true is =
        one ∙ ap (λ (s : StoredView). s.past ++ loads ∷ []) (sym none) ∙ ap (λ (k : ℕ). (old k).past ++ loads ∷ []) (sym (eqb-true n node.0 is))
    at n false differ = refl

pub first_records : (old new : ℕ → StoredView) (node : NodeId) (store : StoredView) → new ≡ (λ n. if n == node.0 then store else old n)
    → old node.0 ≡ none_stored → store.records ≡ [] → logs new ≡ logs old
first_records old new node store put none one = fun_ext (λ n. ap (λ (nodes : ℕ → StoredView). (nodes n).records) put ∙ at n (n == node.0) refl)
  where
    at : (n : ℕ) (b : Bool) → (n == node.0) ≡ b → (if b then store else old n).records ≡ (old n).records
    at n true is =
        one ∙ ap (λ (s : StoredView). s.records) (sym none) ∙ ap (λ (k : ℕ). (old k).records) (sym (eqb-true n node.0 is))
    at n false differ = refl

-- a node's records after they were rewritten, or weren't
pub is_compacted : (old mid new : ℕ → StoredView) (node : NodeId) (keep : List KeepBody) (rewrote : Bool) (own store : StoredView)
    → own.records ≡ (old node.0).records → own.past ≡ (old node.0).past
    → rewrote ≡ rewrites_at (laid_by own.past) keep → OwnRewritten own keep rewrote store
    → ((n : ℕ) → (n == node.0) ≡ false → mid n ≡ old n)
    → new ≡ (λ n. if n == node.0 then store else mid n)
    → IsCompacted journal_room (logs old, pasts old) (logs new, pasts new) node keep rewrote
is_compacted old mid new node keep rewrote own store same done due made others put = record {
  due = due ∙ ap (λ (past : List Deed). rewrites_at (laid_by past) keep) done;
  kept = fun_ext (λ n. ap (λ (nodes : ℕ → StoredView). (nodes n).records) put ∙ own_records n (n == node.0) refl rewrote made);
  past = fun_ext (λ n. ap (λ (nodes : ℕ → StoredView). (nodes n).past) put ∙ own_past n (n == node.0) refl rewrote made);
}
  where
    own_records : (n : ℕ) (b : Bool) → (n == node.0) ≡ b → (r : Bool) → OwnRewritten own keep r store
        → (if b then store else mid n).records ≡ (logs_after (logs old, pasts old) node keep r).0 n
    own_records n true is true made =
        made.0 ∙ ap (rewritten keep) same ∙ ap (λ (k : ℕ). rewritten keep (old k).records) (sym (eqb-true n node.0 is))
        ∙ ap (λ (b : Bool). if b then rewritten keep (old n).records else (old n).records) (sym is)
    own_records n true is false made =
        ap (λ (s : StoredView). s.records) made ∙ same ∙ ap (λ (k : ℕ). (old k).records) (sym (eqb-true n node.0 is))
    own_records n false differ true made =
        ap (λ (s : StoredView). s.records) (others n differ) ∙ ap (λ (b : Bool). if b then rewritten keep (old n).records else (old n).records) (sym differ)
    own_records n false differ false made = ap (λ (s : StoredView). s.records) (others n differ)

    own_past : (n : ℕ) (b : Bool) → (n == node.0) ≡ b → (r : Bool) → OwnRewritten own keep r store
        → (if b then store else mid n).past ≡ (logs_after (logs old, pasts old) node keep r).1 n
    own_past n true is true made =
        made.1 ∙ ap (λ (past : List Deed). past ++ rewrites keep ∷ []) done ∙ ap (λ (k : ℕ). (old k).past ++ rewrites keep ∷ []) (sym (eqb-true n node.0 is))
        ∙ ap (λ (b : Bool). if b then (old n).past ++ rewrites keep ∷ [] else (old n).past) (sym is)
    own_past n true is false made =
        ap (λ (s : StoredView). s.past) made ∙ done ∙ ap (λ (k : ℕ). (old k).past) (sym (eqb-true n node.0 is))
    own_past n false differ true made =
        ap (λ (s : StoredView). s.past) (others n differ) ∙ ap (λ (b : Bool). if b then (old n).past ++ rewrites keep ∷ [] else (old n).past) (sym differ)
    own_past n false differ false made = ap (λ (s : StoredView). s.past) (others n differ)
