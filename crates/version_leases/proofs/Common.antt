-- a file at a version, and the messages of a step that are of it
use Rattle.std.proofs.Common.{◌≡◌, ◌∙◌, ℕ, inl, inr, List, [], ◌∷◌, refl, ap, subst, arith, Option, Some, None, Bool, true, false, cond}
use Rattle.std.specs.Prelude.{◌&&◌, ◌==◌, ◌||◌, nat_lt, is_some}
use Rattle.std.specs.List.{AllByRecursion}
use Rattle.std.proofs.lemmas.Bool.{eqb-true}
use Rattle.std.proofs.lemmas.Bool.Decides.{nat_tests}
use Rattle.xt_base.specs.declared.ids.NodeId.{NodeId}
use Rattle.xt_base.specs.declared.ids.FileId.{FileId}
use Rattle.xt_messages.specs.declared.message.Msg.{Msg}
use Rattle.xt_messages.specs.declared.message.Payload.{Payload}
use Rattle.xt_messages.specs.declared.message.Payload.TheVariants as payload
use Rattle.xt_protocol.proofs.Folds.{file-equal}
use Rattle.lease_safety.specs.State.{Has}
use Rattle.xt_protocol.specs.FileStates.{FileState}
use Rattle.lease_runs.specs.LeaseWorld.{LeaseSetting, LeaseRow, lease_file, row_handles}
use Rattle.lease_runs.specs.LeaseView.{is_about, is_ask, is_lease_or_ask, leases_and_asks, lease_row_of}
use Rattle.list_rows.specs.ListRows.{list_version}
use Rattle.list_rows.specs.ListSteps.{file_named}
use Rattle.listed_leases.specs.LeaseView.{renewed}
use Rattle.listed_leases.specs.VersionView.{row_at, IsOfOther}
use Rattle.version_leases.specs.Seen.{is_of_version}
use Rattle.version_leases.proofs.Lists.{filter_has}

-- ---- a file at a version

abbrev picked : Bool → Bool → LeaseRow → Option LeaseRow
picked left same x = cond left None (cond same (Some x) (Some (renewed x)))

pub at_stored : (version : ℕ) (s : FileState) → list_version s.kept.location ≡ version → row_at version s ≡ Some (lease_row_of s)
at_stored version s is =
    ap (λ (b : Bool). picked b (version == list_version s.kept.location) (lease_row_of s)) (not_below version (list_version s.kept.location) is)
    ∙ ap (λ (b : Bool). cond b (Some (lease_row_of s)) (Some (renewed (lease_row_of s)))) (equal version (list_version s.kept.location) is)
  where
    not_below : (a b : ℕ) → b ≡ a → nat_lt a b ≡ false
    not_below a b is = grind (arith, nat_tests, is)

    equal : (a b : ℕ) → b ≡ a → (a == b) ≡ true
    equal a b is = grind (arith, nat_tests, is)

-- ---- messages of a version

both_true : (a b : Bool) → (a && b) ≡ true → (a ≡ true) × (b ≡ true)
both_true true b is = (refl, is)
both_true false b is = absurd (cc)

pub of_version_parts : (g : LeaseSetting) (m : Msg) → is_of_version g m ≡ true → (is_about g.file (lease_file m.payload) ≡ true) × (m.list ≡ g.list)
of_version_parts g m is =
    (let both = both_true (is_about g.file (lease_file m.payload)) (m.list == g.list) is in (both.0, eqb-true m.list g.list both.1))

about_some : (file : FileId) (o : Option FileId) → is_about file o ≡ true → is_some o ≡ true
about_some file None is = absurd (cc)
about_some file (Some f) is = refl

pub about_same : (file : FileId) (o : Option FileId) → is_about file o ≡ true → o ≡ Some file
about_same file None is = absurd (cc)
about_same file (Some f) is = ap (λ (k : FileId). Some k) (file-equal f file is)

-- a message of another version is none of this one
pub none_of_other : (g : LeaseSetting) (outs : List Msg) → AllByRecursion (IsOfOther g.list) outs → (m : Msg) → Has m outs → is_of_version g m ≡ true → ⊥
none_of_other g [] are m h is = absurd h
none_of_other g (x ∷ xs) are m (inl e) is =
    (let parts = of_version_parts g x (subst (λ (k : Msg). is_of_version g k ≡ true) e is) in
    are.0 (about_some g.file (lease_file x.payload) parts.0) parts.1)
none_of_other g (x ∷ xs) are m (inr h) is = none_of_other g xs are.1 m h is

-- a message about a lease is among those of a step's lease
pub about_lease : (file : FileId) (m : Msg) → is_about file (lease_file m.payload) ≡ true → is_lease_or_ask m ≡ true
about_lease file m is = ap (λ (b : Bool). b || is_ask m.payload) (about_some file (lease_file m.payload) is)

pub outs_shown : (g : LeaseSetting) (outs shown : List Msg) → leases_and_asks outs ≡ shown → (m : Msg) → Has m outs → is_of_version g m ≡ true → Has m shown
outs_shown g outs shown same m h is = subst (Has m) same (filter_has is_lease_or_ask m outs h (about_lease g.file m (of_version_parts g m is).0))

-- a message about a lease concerns its file
pub lease_concerns : (p : Payload) (f : FileId) → lease_file p ≡ Some f → file_named p ≡ Some f
lease_concerns (payload.Read file ballot) f is = is
lease_concerns (payload.Promise file ballot boot report) f is = is
lease_concerns (payload.Write file ballot boot l) f is = is
lease_concerns (payload.Accepted file ballot boot) f is = is
lease_concerns (payload.Outrun file ballot seen) f is = is
lease_concerns _ f is = absurd (cc)

-- a message that isn't about a lease leaves its row
pub unhandled : (g : LeaseSetting) (n : NodeId) (now : ℕ) (x : LeaseRow) (from : NodeId) (p : Payload) → lease_file p ≡ None → row_handles g n now x from p ≡ record { row = x; outs = []; end = None }
unhandled g n now x from (payload.Read file ballot) none = absurd (cc)
unhandled g n now x from (payload.Promise file ballot boot report) none = absurd (cc)
unhandled g n now x from (payload.Write file ballot boot l) none = absurd (cc)
unhandled g n now x from (payload.Accepted file ballot boot) none = absurd (cc)
unhandled g n now x from (payload.Outrun file ballot seen) none = absurd (cc)
unhandled g n now x from _ none = refl
