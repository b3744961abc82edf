-- lists of nodes as code has them, and the nodes of a world
use Rattle.std.proofs.Common.{◌≡◌, ℕ, zero, suc, ◌+◌, ◌<◌, ◌==◌, Bool, true, false, cond, is_some, Option, Some, None, List, [], ◌∷◌, ◌++◌, length, get_or, take, refl, ap, sym, ◌∙◌, subst, arith}
use Rattle.std.specs.Prelude.{slice_get}
use Rattle.std.specs.List.{AllByRecursion}
use Rattle.std.proofs.Math.ListN.{set}
use Rattle.std.proofs.lemmas.Bool.Decides.{nat_tests}
use Rattle.std.proofs.lemmas.List.{length-map, map-append, get_or_default, take_more}
use Rattle.lease_runs.proofs.Tests.{same_node}
use Rattle.xt_base.specs.TimeSettings.{TimeSettings}
use Rattle.xt_base.specs.declared.ids.NodeId.{NodeId}
use Rattle.world_spec.specs.World.{Node, node_in, with_node}
use Rattle.world_host.specs.Hosts.{HostView, Stored, nothing_stored, node_of}
use Rattle.world_clocks.specs.Hosts.{nodes_of}
use Rattle.world_nodes.specs.Nodes.{has_host, AreDistinct, AreHosts, IsAt, IsPlace, IsHostPlace}

-- ---- which ids are there

-- whether a node of this id is declared
pub declared_is : (stored : ℕ → Stored) (hosts : List HostView) (id : ℕ) → is_some (node_in (nodes_of stored hosts) id) ≡ has_host hosts id
unfolding node_in
declared_is stored [] id = refl
declared_is stored (h ∷ hs) id = at (h.id.0 == id) (declared_is stored hs id)
  where
    at : (same : Bool) → is_some (node_in (nodes_of stored hs) id) ≡ has_host hs id
        → is_some (cond same (Some (node_of (stored h.id.0) h)) (node_in (nodes_of stored hs) id)) ≡ cond same true (has_host hs id)
    at true rest = refl
    at false rest = rest

none_there : {A : Type 0} (o : Option A) → is_some o ≡ false → o ≡ None
none_there None is = refl
none_there (Some x) is = absurd (cc)

-- none is
pub none_of : (stored : ℕ → Stored) (hosts : List HostView) (id : ℕ) → has_host hosts id ≡ false → node_in (nodes_of stored hosts) id ≡ None
none_of stored hosts id none = none_there (node_in (nodes_of stored hosts) id) (declared_is stored hosts id ∙ none)

-- a list of nodes with another one of the same id in a place
pub has_host-set : (hosts : List HostView) (place : ℕ) (d new : HostView) (id : ℕ) → (get_or hosts place d).id ≡ new.id → place < length hosts → has_host (set hosts place new) id ≡ has_host hosts id
has_host-set [] place d new id same lt = absurd (omega arith)
has_host-set (h ∷ hs) zero d new id same lt = ap (λ (i : NodeId). cond (i.0 == id) true (has_host hs id)) (sym same)
has_host-set (h ∷ hs) (suc place) d new id same lt = ap (λ (b : Bool). cond (h.id.0 == id) true b) (has_host-set hs place d new id same (omega arith))

pub distinct-set : (hosts : List HostView) (place : ℕ) (d new : HostView) → (get_or hosts place d).id ≡ new.id → place < length hosts → AreDistinct hosts → AreDistinct (set hosts place new)
distinct-set [] place d new same lt apart = absurd (omega arith)
distinct-set (h ∷ hs) zero d new same lt apart = (ap (λ (i : NodeId). has_host hs i.0) (sym same) ∙ apart.0, apart.1)
distinct-set (h ∷ hs) (suc place) d new same lt apart = (
  has_host-set hs place d new h.id.0 same (omega arith) ∙ apart.0,
  distinct-set hs place d new same (omega arith) apart.1,
)

-- the one in a place is there
has_host-at : (hosts : List HostView) (place : ℕ) (d : HostView) → place < length hosts → has_host hosts (get_or hosts place d).id.0 ≡ true
has_host-at [] place d lt = absurd (omega arith)
has_host-at (h ∷ hs) zero d lt = ap (λ (b : Bool). cond b true (has_host hs h.id.0)) (itself h.id.0)
  where
    itself : (n : ℕ) → (n == n) ≡ true
    itself n = grind (arith, nat_tests)
has_host-at (h ∷ hs) (suc place) d lt = either (h.id.0 == (get_or hs place d).id.0) (has_host-at hs place d (omega arith))
  where
    either : (same : Bool) → has_host hs (get_or hs place d).id.0 ≡ true → cond same true (has_host hs (get_or hs place d).id.0) ≡ true
    either true rest = refl
    either false rest = rest

-- one that stands after another has another id
other_id : (h : HostView) (hs : List HostView) (place : ℕ) (d : HostView) → has_host hs h.id.0 ≡ false → place < length hs → (h.id.0 == (get_or hs place d).id.0) ≡ false
other_id h hs place d none lt = at (h.id.0 == (get_or hs place d).id.0) refl
  where
    equal : (a b : ℕ) → (a == b) ≡ true → a ≡ b
    equal a b is = grind (arith, nat_tests)

    at : (same : Bool) → (h.id.0 == (get_or hs place d).id.0) ≡ same → same ≡ false
    at true is = absurd (let there : has_host hs h.id.0 ≡ true = ap (has_host hs) (equal _ _ is) ∙ has_host-at hs place d lt in cc (there, none))
    at false is = refl

-- ---- the node in a place

got : (stored : ℕ → Stored) (hosts : List HostView) (place : ℕ) (d : HostView) → place < length hosts
    → slice_get (nodes_of stored hosts) place ≡ Some (node_of (stored (get_or hosts place d).id.0) (get_or hosts place d))
got stored [] place d lt = absurd (omega arith)
got stored (h ∷ hs) zero d lt = refl
got stored (h ∷ hs) (suc place) d lt = got stored hs place d (omega arith)

found : (stored : ℕ → Stored) (hosts : List HostView) (place : ℕ) (d : HostView) → AreDistinct hosts → place < length hosts
    → node_in (nodes_of stored hosts) (get_or hosts place d).id.0 ≡ Some (node_of (stored (get_or hosts place d).id.0) (get_or hosts place d))
unfolding node_in
found stored [] place d apart lt = absurd (omega arith)
found stored (h ∷ hs) zero d apart lt = ap (λ (b : Bool). cond b (Some (node_of (stored h.id.0) h)) (node_in (nodes_of stored hs) h.id.0)) (itself h.id.0)
  where
    itself : (n : ℕ) → (n == n) ≡ true
    itself n = grind (arith, nat_tests)
found stored (h ∷ hs) (suc place) d apart lt =
    ap (λ (b : Bool). cond b (Some (node_of (stored h.id.0) h)) (node_in (nodes_of stored hs) (get_or hs place d).id.0)) (other_id h hs place d apart.0 (omega arith))
    ∙ found stored hs place d apart.1 (omega arith)

put : (stored : ℕ → Stored) (hosts : List HostView) (place : ℕ) (d : HostView) (next : Node) → AreDistinct hosts → place < length hosts → next.id ≡ (get_or hosts place d).id
    → with_node (nodes_of stored hosts) next ≡ set (nodes_of stored hosts) place next
unfolding with_node
put stored [] place d next apart lt same = absurd (omega arith)
put stored (h ∷ hs) zero d next apart lt same =
    ap (λ (b : Bool). cond b (next ∷ nodes_of stored hs) (node_of (stored h.id.0) h ∷ with_node (nodes_of stored hs) next))
    (ap (λ (i : NodeId). h.id.0 == i.0) same ∙ itself h.id.0)
  where
    itself : (n : ℕ) → (n == n) ≡ true
    itself n = grind (arith, nat_tests)
put stored (h ∷ hs) (suc place) d next apart lt same =
    ap (λ (b : Bool). cond b (next ∷ nodes_of stored hs) (node_of (stored h.id.0) h ∷ with_node (nodes_of stored hs) next))
    (ap (λ (i : NodeId). h.id.0 == i.0) same ∙ other_id h hs place d apart.0 (omega arith))
    ∙ ap (λ (ns : List Node). node_of (stored h.id.0) h ∷ ns) (put stored hs place d next apart.1 (omega arith) same)

pub at_place : (stored : ℕ → Stored) (hosts : List HostView) (place : ℕ) (d : HostView) → AreDistinct hosts → place < length hosts
    → IsAt (nodes_of stored hosts) place (node_of (stored (get_or hosts place d).id.0) (get_or hosts place d))
at_place stored hosts place d apart lt = record {
  inside = subst (λ (n : ℕ). place < n) (sym (length-map hosts (λ (h : HostView). node_of (stored h.id.0) h))) lt;
  here = got stored hosts place d lt;
  found = found stored hosts place d apart lt;
  put = λ next same. put stored hosts place d next apart lt same;
}

-- only one node stands in a place
pub only_at : (stored : ℕ → Stored) (hosts : List HostView) (place : ℕ) (d : HostView) (node : Node) → place < length hosts → IsAt (nodes_of stored hosts) place node
    → node ≡ node_of (stored (get_or hosts place d).id.0) (get_or hosts place d)
only_at stored hosts place d node lt at = the_same _ _ (sym at.here ∙ got stored hosts place d lt)
  where
    the_same : (a b : Node) → Some a ≡ Some b → a ≡ b
    the_same a b is = cc

-- a place of the code is one of the world
pub is_place : (stored : ℕ → Stored) (hosts : List HostView) (id : NodeId) (place : Option ℕ) → AreDistinct hosts → IsHostPlace hosts id place → IsPlace (nodes_of stored hosts) id place
is_place stored hosts id None apart none = none_of stored hosts id.0 none
is_place stored [] id (Some place) apart is = absurd (let lt = is.0 in omega arith)
is_place stored (h ∷ hs) id (Some place) apart is = (
  node_of (stored (get_or (h ∷ hs) place h).id.0) (get_or (h ∷ hs) place h),
  at_place stored (h ∷ hs) place h apart is.0,
  is.1 h,
)

-- ---- a node changes

abbrev pub AreOthers : (ℕ → Stored) → (ℕ → Stored) → ℕ → Type 0
AreOthers stored after id = (n : ℕ) → (n == id) ≡ false → after n ≡ stored n

pub same_stored : (stored : ℕ → Stored) (id : ℕ) → AreOthers stored stored id
same_stored stored id n other = refl

-- the nodes that don't have this id
others_same : (stored after : ℕ → Stored) (hosts : List HostView) (id : ℕ) → has_host hosts id ≡ false → AreOthers stored after id → nodes_of after hosts ≡ nodes_of stored hosts
others_same stored after [] id none others = refl
others_same stored after (h ∷ hs) id none others = at (h.id.0 == id) refl none (λ isnt. others_same stored after hs id isnt others)
  where
    at : (same : Bool) → (h.id.0 == id) ≡ same → cond same true (has_host hs id) ≡ false → (has_host hs id ≡ false → nodes_of after hs ≡ nodes_of stored hs)
        → nodes_of after (h ∷ hs) ≡ nodes_of stored (h ∷ hs)
    at true is isnt rest = absurd (cc)
    at false is isnt rest =
        ap (λ (rs : Stored). node_of rs h ∷ nodes_of after hs) (others h.id.0 is) ∙ ap (λ (ns : List Node). node_of (stored h.id.0) h ∷ ns) (rest isnt)

nodes-set : (stored after : ℕ → Stored) (hosts : List HostView) (place : ℕ) (d new : HostView) → AreDistinct hosts → place < length hosts → (get_or hosts place d).id ≡ new.id → AreOthers stored after new.id.0
    → nodes_of after (set hosts place new) ≡ set (nodes_of stored hosts) place (node_of (after new.id.0) new)
nodes-set stored after [] place d new apart lt same others = absurd (omega arith)
nodes-set stored after (h ∷ hs) zero d new apart lt same others =
    ap (λ (ns : List Node). node_of (after new.id.0) new ∷ ns)
    (others_same stored after hs new.id.0 (ap (λ (i : NodeId). has_host hs i.0) (sym same) ∙ apart.0) others)
nodes-set stored after (h ∷ hs) (suc place) d new apart lt same others =
    ap (λ (rs : Stored). node_of rs h ∷ nodes_of after (set hs place new)) (others h.id.0 (ap (λ (i : NodeId). h.id.0 == i.0) (sym same) ∙ other_id h hs place d apart.0 (omega arith)))
    ∙ ap (λ (ns : List Node). node_of (stored h.id.0) h ∷ ns) (nodes-set stored after hs place d new apart.1 (omega arith) same others)

-- The node in a place is changed, and perhaps what is stored for it.
pub changed : (stored after : ℕ → Stored) (hosts : List HostView) (place : ℕ) (old new : HostView) (node : Node) → AreDistinct hosts → place < length hosts
    → old ≡ get_or hosts place old → new.id ≡ old.id → AreOthers stored after old.id.0 → IsAt (nodes_of stored hosts) place node
    → (node ≡ node_of (stored old.id.0) old) × (nodes_of after (set hosts place new) ≡ with_node (nodes_of stored hosts) (node_of (after old.id.0) new))
changed stored after hosts place old new node apart lt is same others at =
    let its : node ≡ node_of (stored old.id.0) old = only_at stored hosts place old node lt at ∙ sym (ap (λ (h : HostView). node_of (stored h.id.0) h) is) in
    let ids : (get_or hosts place old).id ≡ new.id = ap (λ (h : HostView). h.id) (sym is) ∙ sym same in (
      its,
      nodes-set stored after hosts place old new apart lt ids (subst (λ (i : NodeId). AreOthers stored after i.0) (sym same) others)
          ∙ ap (λ (i : NodeId). set (nodes_of stored hosts) place (node_of (after i.0) new)) same
          ∙ sym (at.put (node_of (after old.id.0) new) (same ∙ sym (ap (λ (n : Node). n.id) its))),
    )

all-set : (P : HostView → Type 0) (hosts : List HostView) (place : ℕ) (new : HostView) → AllByRecursion P hosts → P new → AllByRecursion P (set hosts place new)
all-set P [] place new all is = tt
all-set P (h ∷ hs) zero new all is = (is, all.1)
all-set P (h ∷ hs) (suc place) new all is = (all.0, all-set P hs place new all.1 is)

all-at : (P : HostView → Type 0) (hosts : List HostView) (place : ℕ) (d : HostView) → AllByRecursion P hosts → place < length hosts → P (get_or hosts place d)
all-at P [] place d all lt = absurd (omega arith)
all-at P (h ∷ hs) zero d all lt = all.0
all-at P (h ∷ hs) (suc place) d all lt = all-at P hs place d all.1 (omega arith)

pub times_at : (stored : ℕ → Stored) (times : TimeSettings) (hosts : List HostView) (place : ℕ) (old : HostView) → AreHosts stored times hosts → place < length hosts → old ≡ get_or hosts place old → old.times ≡ times
times_at stored times hosts place old are lt is = ap (λ (h : HostView). h.times) is ∙ all-at (λ (h : HostView). h.times ≡ times) hosts place old are.timed lt

-- they are still in order
pub still : (stored after : ℕ → Stored) (times : TimeSettings) (hosts : List HostView) (place : ℕ) (old new : HostView) → AreHosts stored times hosts → place < length hosts
    → old ≡ get_or hosts place old → new.id ≡ old.id → new.times ≡ old.times → AreOthers stored after old.id.0 → AreHosts after times (set hosts place new)
still stored after times hosts place old new are lt is same timed others =
    let ids : (get_or hosts place old).id ≡ new.id = ap (λ (h : HostView). h.id) (sym is) ∙ sym same in record {
      distinct = distinct-set hosts place old new ids lt are.distinct;
      timed = all-set (λ (h : HostView). h.times ≡ times) hosts place new are.timed (timed ∙ times_at stored times hosts place old are lt is);
      others = λ id none.
          let before : has_host hosts id ≡ false = sym (has_host-set hosts place old new id ids lt) ∙ none in
          others id (other id before) ∙ are.others id before;
    }
  where
    equal : (a b : ℕ) → (a == b) ≡ true → a ≡ b
    equal a b is = grind (arith, nat_tests)

    other : (id : ℕ) → has_host hosts id ≡ false → (id == old.id.0) ≡ false
    other id none = at (id == old.id.0) refl
      where
        at : (b : Bool) → (id == old.id.0) ≡ b → b ≡ false
        at true e = absurd (let there : has_host hosts id ≡ true = ap (has_host hosts) (equal _ _ e ∙ ap (λ (h : HostView). h.id.0) is) ∙ has_host-at hosts place old lt in cc (there, none))
        at false e = refl

-- ---- a node is declared

other_behind : (new : HostView) (xs : List HostView) (id : ℕ) → has_host xs id ≡ false → (new.id.0 == id) ≡ false → has_host (xs ++ new ∷ []) id ≡ false
other_behind new [] id isnt other = ap (λ (b : Bool). cond b true false) other
other_behind new (x ∷ xs) id isnt other = here (x.id.0 == id) isnt (λ is. other_behind new xs id is other)
  where
    here : (b : Bool) → cond b true (has_host xs id) ≡ false → (has_host xs id ≡ false → has_host (xs ++ new ∷ []) id ≡ false) → cond b true (has_host (xs ++ new ∷ []) id) ≡ false
    here true is rest = is
    here false is rest = rest is

distinct-push : (hosts : List HostView) (new : HostView) → AreDistinct hosts → has_host hosts new.id.0 ≡ false → AreDistinct (hosts ++ new ∷ [])
distinct-push [] new apart none = (refl, tt)
distinct-push (h ∷ hs) new apart none = at (h.id.0 == new.id.0) refl none (λ isnt. distinct-push hs new apart.1 isnt)
  where
    swapped : (a b : ℕ) → (a == b) ≡ false → (b == a) ≡ false
    swapped a b is = grind (arith, nat_tests)

    at : (same : Bool) → (h.id.0 == new.id.0) ≡ same → cond same true (has_host hs new.id.0) ≡ false → (has_host hs new.id.0 ≡ false → AreDistinct (hs ++ new ∷ [])) → AreDistinct ((h ∷ hs) ++ new ∷ [])
    at true e isnt rest = absurd (cc)
    at false e isnt rest = (other_behind new hs h.id.0 apart.0 (swapped h.id.0 new.id.0 e), rest isnt)

shorter : (new : HostView) (hosts : List HostView) (id : ℕ) → has_host (hosts ++ new ∷ []) id ≡ false → has_host hosts id ≡ false
shorter new [] id isnt = refl
shorter new (h ∷ hs) id isnt = at (h.id.0 == id) isnt (λ is. shorter new hs id is)
  where
    at : (b : Bool) → cond b true (has_host (hs ++ new ∷ []) id) ≡ false → (has_host (hs ++ new ∷ []) id ≡ false → has_host hs id ≡ false) → cond b true (has_host hs id) ≡ false
    at true is rest = is
    at false is rest = rest is

pub pushed : (stored : ℕ → Stored) (times : TimeSettings) (hosts : List HostView) (new : HostView) → AreHosts stored times hosts → has_host hosts new.id.0 ≡ false → new.times ≡ times
    → AreHosts stored times (hosts ++ new ∷ []) × (nodes_of stored (hosts ++ new ∷ []) ≡ nodes_of stored hosts ++ node_of nothing_stored new ∷ [])
pushed stored times hosts new are none timed = (
  record {
    distinct = distinct-push hosts new are.distinct none;
    timed = all-push hosts are.timed;
    others = λ id isnt. are.others id (shorter new hosts id isnt);
  },
  map-append (λ (h : HostView). node_of (stored h.id.0) h) hosts (new ∷ []) ∙ ap (λ (rs : Stored). nodes_of stored hosts ++ node_of rs new ∷ []) (are.others new.id.0 none),
)
  where
    all-push : (hosts : List HostView) → AllByRecursion (λ (h : HostView). h.times ≡ times) hosts → AllByRecursion (λ (h : HostView). h.times ≡ times) (hosts ++ new ∷ [])
    all-push [] all = (timed, tt)
    all-push (h ∷ hs) all = (all.0, all-push hs all.1)

-- ---- searches

pub host_here : (hosts : List HostView) (place : ℕ) (id : NodeId) (d : HostView) → place < length hosts → (get_or hosts place d).id.0 ≡ id.0 → IsHostPlace hosts id (Some place)
host_here hosts place id d lt is = (lt, λ e. same_node (get_or hosts place e).id id (ap (λ (h : HostView). h.id.0) (get_or_default hosts place e d lt) ∙ is))

-- one more that has another id
pub none_so_far : (hosts : List HostView) (place : ℕ) (id : ℕ) (d : HostView) → place < length hosts → has_host (take place hosts) id ≡ false → ((get_or hosts place d).id.0 ≡ id → ⊥)
    → has_host (take (place + 1) hosts) id ≡ false
none_so_far hosts place id d lt none other =
    ap (λ (hs : List HostView). has_host hs id) (take_more hosts place d lt) ∙ other_behind (get_or hosts place d) (take place hosts) id none (differ (get_or hosts place d).id.0 id other)
  where
    differ : (a b : ℕ) → (a ≡ b → ⊥) → (a == b) ≡ false
    differ a b isnt = grind (arith, nat_tests)
