-- one step of the search for a row's place
use Rattle.std.proofs.Common.{◌≡◌, ℕ, ◌+◌, ◌<◌, ◌≤◌, List, [], ◌∷◌, ◌++◌, length, get_or, take, drop, ap, ◌∙◌, sym, arith, drop-cons, add-one, append_assoc, zero, suc}
use Rattle.std.proofs.lemmas.Grind.{common_steps}
use Rattle.std.proofs.Math.ListN.{set}
use Rattle.std.proofs.Math.Seq.{take-suc}
use Rattle.xt_base.specs.declared.ids.Stamp.{Stamp}
use Rattle.xt_messages.specs.declared.file.ObjectVersion.{ObjectVersion}
use Rattle.xt_messages.specs.declared.file.Session.{Session}
use Rattle.xt_protocol.specs.Heads.{with_version, with_session}

passed : {R : Type 0} (rows rest : List R) (i : ℕ) (d : R) → i < length rows → take i rows ++ (get_or rows i d ∷ rest) ≡ take (i + 1) rows ++ rest
passed rows rest i d lt =
    let e : take (i + 1) rows ≡ take i rows ++ (get_or rows i d ∷ []) = rw add-one (take-suc rows i d lt) in
    rw e (sym (append_assoc (take i rows) (get_or rows i d ∷ []) rest))

put : {R : Type 0} (rows : List R) (i : ℕ) (row d : R) → i < length rows → take i rows ++ (row ∷ drop (i + 1) rows) ≡ set rows i row
put [] i row d lt = grind arith
put (r ∷ rows) zero row d lt = grind (arith, common_steps)
put (r ∷ rows) (suc i) row d lt = grind (arith, common_steps, put rows i row d)

behind_version : (r : ObjectVersion) (rest : List ObjectVersion) (object : ℕ) (version : Stamp) → (r.object ≡ object → ⊥) → r.object ≤ object
    → with_version (r ∷ rest) object version ≡ r ∷ with_version rest object version
behind_version r rest object version ne le = grind arith

at_version : (r row : ObjectVersion) (rest : List ObjectVersion) (object : ℕ) → r.object ≡ object → row.object ≡ object
    → with_version (r ∷ rest) object row.version ≡ row ∷ rest
at_version r row rest object here same = grind arith

pub version_passed : (rows : List ObjectVersion) (object : ℕ) (version : Stamp) (i : ℕ) (d : ObjectVersion)
    → i < length rows → ((get_or rows i d).object ≡ object → ⊥) → (get_or rows i d).object ≤ object
    → with_version rows object version ≡ take i rows ++ with_version (drop i rows) object version
    → with_version rows object version ≡ take (i + 1) rows ++ with_version (drop (i + 1) rows) object version
version_passed rows object version i d lt ne le h =
    let e : drop i rows ≡ get_or rows i d ∷ drop (i + 1) rows = rw add-one (drop-cons rows i d lt) in
    h
    ∙ ap (λ rest. take i rows ++ with_version rest object version) e
    ∙ ap (λ rest. take i rows ++ rest) (behind_version (get_or rows i d) (drop (i + 1) rows) object version ne le)
    ∙ passed rows (with_version (drop (i + 1) rows) object version) i d lt

pub version_here : (rows : List ObjectVersion) (object : ℕ) (i : ℕ) (row d : ObjectVersion)
    → i < length rows → (get_or rows i d).object ≡ object → row.object ≡ object
    → with_version rows object row.version ≡ take i rows ++ with_version (drop i rows) object row.version
    → with_version rows object row.version ≡ set rows i row
version_here rows object i row d lt here same h =
    let e : drop i rows ≡ get_or rows i d ∷ drop (i + 1) rows = rw add-one (drop-cons rows i d lt) in
    h
    ∙ ap (λ rest. take i rows ++ with_version rest object row.version) e
    ∙ ap (λ rest. take i rows ++ rest) (at_version (get_or rows i d) row (drop (i + 1) rows) object here same)
    ∙ put rows i row d lt

behind_session : (r row : Session) (rest : List Session) → (r.client.0 ≡ row.client.0 → ⊥) → r.client.0 ≤ row.client.0
    → with_session (r ∷ rest) row ≡ r ∷ with_session rest row
behind_session r row rest ne le = grind arith

at_session : (r row : Session) (rest : List Session) → r.client.0 ≡ row.client.0 → with_session (r ∷ rest) row ≡ row ∷ rest
at_session r row rest here = grind arith

pub session_passed : (rows : List Session) (row : Session) (client i : ℕ) (d : Session)
    → i < length rows → ((get_or rows i d).client.0 ≡ client → ⊥) → (get_or rows i d).client.0 ≤ client → row.client.0 ≡ client
    → with_session rows row ≡ take i rows ++ with_session (drop i rows) row
    → with_session rows row ≡ take (i + 1) rows ++ with_session (drop (i + 1) rows) row
session_passed rows row client i d lt ne le same h =
    let e : drop i rows ≡ get_or rows i d ∷ drop (i + 1) rows = rw add-one (drop-cons rows i d lt) in
    h
    ∙ ap (λ rest. take i rows ++ with_session rest row) e
    ∙ ap (λ rest. take i rows ++ rest) (behind_session (get_or rows i d) row (drop (i + 1) rows) (λ e. ne (e ∙ same)) (rw same le))
    ∙ passed rows (with_session (drop (i + 1) rows) row) i d lt

pub session_here : (rows : List Session) (row : Session) (i : ℕ) (d : Session)
    → i < length rows → (get_or rows i d).client.0 ≡ row.client.0
    → with_session rows row ≡ take i rows ++ with_session (drop i rows) row
    → with_session rows row ≡ set rows i row
session_here rows row i d lt here h =
    let e : drop i rows ≡ get_or rows i d ∷ drop (i + 1) rows = rw add-one (drop-cons rows i d lt) in
    h
    ∙ ap (λ rest. take i rows ++ with_session rest row) e
    ∙ ap (λ rest. take i rows ++ rest) (at_session (get_or rows i d) row (drop (i + 1) rows) here)
    ∙ put rows i row d lt
