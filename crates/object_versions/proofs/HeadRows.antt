-- the versions and the sessions of a head, which rise
use Rattle.std.proofs.Common.{◌≡◌, ◌==◌, ◌&&◌, ℕ, zero, suc, ◌<◌, ◌≤◌, Bool, true, false, nat_lt, cond, List, [], ◌∷◌, length, map, get_or, take, drop, refl, ap, sym, subst, ◌∙◌, arith, drop-cons, Some, None}
use Rattle.std.proofs.lemmas.Bool.Decides.{nat_tests}
use Rattle.std.proofs.lemmas.List.{get_or_default}
use Rattle.std.specs.List.Sorted.{IsPartitionPoint, IsPartitionedBy}
use Rattle.std.specs.Prelude.{Ok, Err}
use Rattle.xt_messages.specs.declared.file.ObjectVersion.{ObjectVersion}
use Rattle.xt_messages.specs.declared.file.Session.{Session}
use Rattle.xt_messages.specs.Limits.{rise}
use Rattle.xt_protocol.specs.Heads.{version_of, with_version, versions_below, session_of, with_session}
use Rattle.object_versions.specs.Rising.{rises, is_object_before, is_client_before, IsVersionPlace, IsSessionPlace}
use Rattle.object_versions.proofs.Puts.{Orders, IsPlace, put, partitioned, set_there, insert_there, found_at, none_same}

abbrev pub same_object : ObjectVersion → ObjectVersion → Bool
same_object a b = a.object == b.object

abbrev pub same_client : Session → Session → Bool
same_client a b = a.client.0 == b.client.0

pub object_order : Orders same_object is_object_before
object_order =
    record {
      apart = λ a b is. grind (arith, nat_tests);
      one_way = λ a b is. grind (arith, nat_tests);
      chain = λ a b c first second. grind (arith, nat_tests);
      total = λ a b no differ. grind (arith, nat_tests);
      back = λ a b. grind (arith, nat_tests);
    }

pub client_order : Orders same_client is_client_before
client_order =
    record {
      apart = λ a b is. grind (arith, nat_tests);
      one_way = λ a b is. grind (arith, nat_tests);
      chain = λ a b c first second. grind (arith, nat_tests);
      total = λ a b no differ. grind (arith, nat_tests);
      back = λ a b. grind (arith, nat_tests);
    }

pub objects_rise : (rows : List ObjectVersion) → rises is_object_before rows ≡ rise (map (λ (v : ObjectVersion). v.object) rows)
objects_rise [] = refl
objects_rise (a ∷ []) = refl
objects_rise (a ∷ b ∷ rest) = ap (λ t. nat_lt a.object b.object && t) (objects_rise (b ∷ rest))

pub clients_rise : (rows : List Session) → rises is_client_before rows ≡ rise (map (λ (s : Session). s.client.0) rows)
clients_rise [] = refl
clients_rise (a ∷ []) = refl
clients_rise (a ∷ b ∷ rest) = ap (λ t. nat_lt a.client.0 b.client.0 && t) (clients_rise (b ∷ rest))

version_put : (rows : List ObjectVersion) (row : ObjectVersion) → with_version rows row.object row.version ≡ put same_object is_object_before rows row
version_put [] row = refl
version_put (r ∷ rs) row = ap (λ rest. cond (r.object == row.object) (row ∷ rs) (cond (nat_lt row.object r.object) (row ∷ r ∷ rs) (r ∷ rest))) (version_put rs row)

session_put : (rows : List Session) (row : Session) → with_session rows row ≡ put same_client is_client_before rows row
session_put [] row = refl
session_put (r ∷ rs) row = ap (λ rest. cond (r.client.0 == row.client.0) (row ∷ rs) (cond (nat_lt row.client.0 r.client.0) (row ∷ r ∷ rs) (r ∷ rest))) (session_put rs row)

no_version : (rows : List ObjectVersion) (object : ℕ) → ((k : ℕ) (d : ObjectVersion) → k < length rows → ((get_or rows k d).object == object) ≡ false) → version_of rows object ≡ None
no_version [] object none = refl
no_version (r ∷ rs) object none =
    ap (λ t. cond t (Some r.version) (version_of rs object)) (none 0 r (omega arith)) ∙ no_version rs object (λ k d lt. none (suc k) d (omega arith))

no_session : (rows : List Session) (client : ℕ) → ((k : ℕ) (d : Session) → k < length rows → ((get_or rows k d).client.0 == client) ≡ false) → session_of rows client ≡ None
no_session [] client none = refl
no_session (r ∷ rs) client none =
    ap (λ t. cond t (Some r) (session_of rs client)) (none 0 r (omega arith)) ∙ no_session rs client (λ k d lt. none (suc k) d (omega arith))

some_version : (rows : List ObjectVersion) (object i : ℕ) (d : ObjectVersion) → i < length rows → ((get_or rows i d).object == object) ≡ true → version_of (drop i rows) object ≡ Some (get_or rows i d).version
some_version rows object i d lt here =
    ap (λ rest. version_of rest object) (drop-cons rows i d lt) ∙ ap (λ t. cond t (Some (get_or rows i d).version) (version_of (drop (suc i) rows) object)) here

some_session : (rows : List Session) (client i : ℕ) (d : Session) → i < length rows → ((get_or rows i d).client.0 == client) ≡ true → session_of (drop i rows) client ≡ Some (get_or rows i d)
some_session rows client i d lt here =
    ap (λ rest. session_of rest client) (drop-cons rows i d lt) ∙ ap (λ t. cond t (Some (get_or rows i d)) (session_of (drop (suc i) rows) client)) here

abbrev pub like : ℕ → ObjectVersion → ObjectVersion
like object d = record { object = object; version = d.version }

module _ (rows : List ObjectVersion) (object i : ℕ) (up : rise (map (λ (v : ObjectVersion). v.object) rows) ≡ true) (le : i ≤ length rows)
    (parts : IsPartitionPoint (λ (y : ObjectVersion). nat_lt y.object object ≡ true) (λ (y : ObjectVersion). nat_lt y.object object ≡ false) rows i) where
  version_there : (row : ObjectVersion) → row.object ≡ object → IsPlace is_object_before rows row i
  version_there row is =
      record {
        inside = le;
        earlier = λ k d lt. ap (nat_lt (get_or rows k d).object) is ∙ parts.0 k d (omega arith) lt;
        later = λ k d ge lt. ap (nat_lt (get_or rows k d).object) is ∙ parts.1 k d ge lt;
      }

  pub version_found : (d : ObjectVersion) → i < length rows → (get_or rows i d).object ≡ object → IsVersionPlace rows object (Ok i)
  version_found d lt here =
      let at : (e : ObjectVersion) → (get_or rows i e).object ≡ object = λ e. subst (λ (x : ObjectVersion). x.object ≡ object) (get_or_default rows i d e lt) here in (
        lt,
        λ e. found_at same_object is_object_before object_order (λ rest. version_of rest object) rows (like object e) i (λ r rs differ. ap (λ t. cond t (Some r.version) (version_of rs object)) differ) (version_there (like object e) refl)
            ∙ some_version rows object i e lt (let h : (get_or rows i e).object ≡ object = at e in grind (arith, nat_tests, h)),
        λ row is.
            ap (λ o. with_version rows o row.version) (sym is) ∙ version_put rows row
            ∙ set_there same_object is_object_before object_order rows row i (version_there row is) lt (λ e. let h : (get_or rows i e).object ≡ object = at e in grind (arith, nat_tests, h, is)),
      )

  between : ((e : ObjectVersion) → i < length rows → ((get_or rows i e).object == object) ≡ false) → IsVersionPlace rows object (Err i)
  between other = (
    le,
    no_version rows object
        (λ k d lt. none_same same_object is_object_before object_order rows (like object d) i (objects_rise rows ∙ up) (version_there (like object d) refl) other k d lt),
    λ row is.
        ap (λ o. with_version rows o row.version) (sym is) ∙ version_put rows row
        ∙ insert_there same_object is_object_before object_order rows row i (version_there row is) (λ e lt. ap (λ o. (get_or rows i e).object == o) is ∙ other e lt),
  )

  pub version_between : (d : ObjectVersion) → ((get_or rows i d).object ≡ object → ⊥) → IsVersionPlace rows object (Err i)
  version_between d here =
      between
      (λ e lt. subst (λ (x : ObjectVersion). (x.object == object) ≡ false) (get_or_default rows i d e lt) (let h : (get_or rows i d).object ≡ object → ⊥ = here in grind (arith, nat_tests, h)))

  pub version_at_end : i ≡ length rows → IsVersionPlace rows object (Err i)
  version_at_end end = between (λ e lt. absurd (omega arith))

module _ (rows : List Session) (client i : ℕ) (up : rise (map (λ (s : Session). s.client.0) rows) ≡ true) (le : i ≤ length rows)
    (parts : IsPartitionPoint (λ (y : Session). nat_lt y.client.0 client ≡ true) (λ (y : Session). nat_lt y.client.0 client ≡ false) rows i) where
  session_there : (row : Session) → row.client.0 ≡ client → IsPlace is_client_before rows row i
  session_there row is =
      record {
        inside = le;
        earlier = λ k d lt. ap (nat_lt (get_or rows k d).client.0) is ∙ parts.0 k d (omega arith) lt;
        later = λ k d ge lt. ap (nat_lt (get_or rows k d).client.0) is ∙ parts.1 k d ge lt;
      }

  abbrev of_client : Session → Session
  of_client d = record { client = record { 0 = client }; number = d.number; count = d.count }

  pub session_found : (d : Session) → i < length rows → (get_or rows i d).client.0 ≡ client → IsSessionPlace rows client (Ok i)
  session_found d lt here =
      let at : (e : Session) → (get_or rows i e).client.0 ≡ client = λ e. subst (λ (x : Session). x.client.0 ≡ client) (get_or_default rows i d e lt) here in (
        lt,
        λ e. found_at same_client is_client_before client_order (λ rest. session_of rest client) rows (of_client e) i (λ r rs differ. ap (λ t. cond t (Some r) (session_of rs client)) differ) (session_there (of_client e) refl)
            ∙ some_session rows client i e lt (let h : (get_or rows i e).client.0 ≡ client = at e in grind (arith, nat_tests, h)),
        λ row is.
            session_put rows row
            ∙ set_there same_client is_client_before client_order rows row i (session_there row is) lt (λ e. let h : (get_or rows i e).client.0 ≡ client = at e in grind (arith, nat_tests, h, is)),
      )

  session_none : ((e : Session) → i < length rows → ((get_or rows i e).client.0 == client) ≡ false) → IsSessionPlace rows client (Err i)
  session_none other = (
    le,
    no_session rows client
        (λ k d lt. none_same same_client is_client_before client_order rows (of_client d) i (clients_rise rows ∙ up) (session_there (of_client d) refl) other k d lt),
    λ row is.
        session_put rows row
        ∙ insert_there same_client is_client_before client_order rows row i (session_there row is) (λ e lt. ap (λ o. (get_or rows i e).client.0 == o) is ∙ other e lt),
  )

  pub session_between : (d : Session) → ((get_or rows i d).client.0 ≡ client → ⊥) → IsSessionPlace rows client (Err i)
  session_between d here =
      session_none
      (λ e lt. subst (λ (x : Session). (x.client.0 == client) ≡ false) (get_or_default rows i d e lt) (let h : (get_or rows i d).client.0 ≡ client → ⊥ = here in grind (arith, nat_tests, h)))

  pub session_at_end : i ≡ length rows → IsSessionPlace rows client (Err i)
  session_at_end end = session_none (λ e lt. absurd (omega arith))

abbrev pub is_under : ℕ → ObjectVersion → Bool
is_under from v = nat_lt v.object from

none_below : (rows : List ObjectVersion) (from : ℕ) → ((k : ℕ) (d : ObjectVersion) → k < length rows → is_under from (get_or rows k d) ≡ false) → versions_below rows from ≡ []
none_below [] from none = refl
none_below (r ∷ rs) from none =
    ap (λ t. cond t (r ∷ versions_below rs from) (versions_below rs from)) (none 0 r (omega arith)) ∙ none_below rs from (λ k d lt. none (suc k) d (omega arith))

-- the versions below an object are those before its place
pub below_taken : (rows : List ObjectVersion) (from i : ℕ) → i ≤ length rows → IsPartitionPoint (λ y. is_under from y ≡ true) (λ y. is_under from y ≡ false) rows i
    → take i rows ≡ versions_below rows from
below_taken [] from zero le parts = refl
below_taken [] from (suc i) le parts = absurd (omega arith)
below_taken (r ∷ rs) from zero le parts = sym (none_below (r ∷ rs) from (λ k d lt. parts.1 k d (omega arith) lt))
below_taken (r ∷ rs) from (suc i) le parts =
    ap (λ rest. r ∷ rest) (below_taken rs from i (omega arith) (λ k d low lt. parts.0 (suc k) d (omega arith) (omega arith), λ k d ge lt. parts.1 (suc k) d (omega arith) (omega arith)))
    ∙ ap (λ t. cond t (r ∷ versions_below rs from) (versions_below rs from)) (sym (parts.0 0 r (omega arith) (omega arith)))

-- what the searches by halves ask

pub objects_partitioned : (rows : List ObjectVersion) (object : ℕ) → rise (map (λ (v : ObjectVersion). v.object) rows) ≡ true → IsPartitionedBy (λ y. is_under object y) rows
objects_partitioned rows object up i j d le lt is =
    partitioned same_object is_object_before object_order rows (like object d) (objects_rise rows ∙ up) i j d le lt is

pub clients_partitioned : (rows : List Session) (client : ℕ) → rise (map (λ (s : Session). s.client.0) rows) ≡ true → IsPartitionedBy (λ (y : Session). nat_lt y.client.0 client) rows
clients_partitioned rows client up i j d le lt is =
    partitioned same_client is_client_before client_order rows (record { client = record { 0 = client }; number = d.number; count = d.count }) (clients_rise rows ∙ up) i j d le lt is
