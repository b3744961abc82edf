-- The messages of an OSD to itself that are all about one file: what they weigh beside what its other files weigh without a message.
use Rattle.std.proofs.Common.{◌≡◌, ℕ, zero, suc, ◌≤◌, ◌+◌, inl, inr, Bool, true, false, List, [], ◌∷◌, ◌++◌, refl, sym, ap, ap₂, subst, ◌∙◌, arith, Option, Some, None}
use Rattle.std.specs.Prelude.{◌&&◌, not, cond}
use Rattle.xt_base.specs.declared.ids.NodeId.{NodeId}
use Rattle.xt_base.specs.declared.ids.FileId.{FileId}
use Rattle.xt_messages.specs.declared.message.Msg.{Msg}
use Rattle.xt_messages.specs.declared.message.Payload.{Payload}
use Rattle.xt_protocol.specs.FileIds.{is_file}
use Rattle.xt_protocol.specs.LeaseRows.{Awake}
use Rattle.xt_protocol.specs.FileStates.{FileState}
use Rattle.xt_protocol.specs.OsdSteps.{file_at, with_file, file_concerned}
use Rattle.xt_protocol.proofs.Folds.{file-equal, file-itself}
use Rattle.lease_safety.specs.State.{Has}
use Rattle.lease_runs.specs.LeaseView.{is_about}
use Rattle.lease_runs.proofs.OsdLeases.{file_at-with_file}
use Rattle.world_runs.specs.Worlds.{AreBehind, Rises, files_of}
use Rattle.world_runs.proofs.Lists.{has_in}
use Rattle.own_messages_wait.proofs.Weights.{is_lease}
use Rattle.own_messages_wait.proofs.Standing.{IfAbout}
use Rattle.own_messages_wait.proofs.Mine.{token}
use Rattle.own_messages_wait.proofs.Files.{chain_weight}
use Rattle.own_messages_wait.proofs.Chains.{Falls, absent, behind_absent, list_of, primary_about, put, total, total_with, turned_round}

-- ---- without messages

abbrev pub no_message : FileId → Option Payload
no_message g = None

-- what the files weigh without one
abbrev pub idle : NodeId → List FileState → ℕ
idle n files = total n no_message files

total_equal : (n : NodeId) (p q : FileId → Option Payload) → ((g : FileId) → p g ≡ q g) → (fs : List FileState) → total n p fs ≡ total n q fs
total_equal n p q same [] = refl
total_equal n p q same (f ∷ fs) = ap₂ (λ (a b : ℕ). a + b) (ap (chain_weight n f) (same f.kept.file)) (total_equal n p q same fs)

put_none : (file g : FileId) → put file None no_message g ≡ None
put_none file g = at (is_file file g)
  where
    at : (b : Bool) → cond b None (no_message g) ≡ None
    at true = refl
    at false = refl

-- with one file in its place
pub idle_with : (awake : Awake) (n : NodeId) (next : FileState) (files : List FileState) → Rises (files_of files)
    → idle n (with_file files next) + chain_weight n (file_at awake files next.kept.file) None ≡ idle n files + chain_weight n next None
idle_with awake n next files rises =
    let both = total_with awake n no_message None next files rises (λ known. refl) in
    let same = total_equal n (put next.kept.file None no_message) no_message (put_none next.kept.file) (with_file files next) in
    omega (arith, both, same)

-- where no other file has a message, they weigh no less but for the one
idle_low : (awake : Awake) (n : NodeId) (p : FileId → Option Payload) (g : FileId) (files : List FileState) → Rises (files_of files) → ((h : FileId) → is_file g h ≡ false → p h ≡ None)
    → idle n files ≤ total n p files + chain_weight n (file_at awake files g) None
unfolding file_at
idle_low awake n p g [] rises none = omega arith
idle_low awake n p g (f ∷ fs) rises none = at (is_file f.kept.file g) refl (idle_low awake n p g fs rises.1 none)
  where
    at : (b : Bool) → is_file f.kept.file g ≡ b → idle n fs ≤ total n p fs + chain_weight n (file_at awake fs g) None
        → chain_weight n f None + idle n fs ≤ (chain_weight n f (p f.kept.file) + total n p fs) + chain_weight n (cond b f (file_at awake fs g)) None
    at true is rest =
        let gone = ap (λ (x : FileState). chain_weight n x None) (absent awake fs g (behind_absent fs g (subst (λ (k : FileId). AreBehind k (files_of fs)) (file-equal f.kept.file g is) rises.0))) in
        omega (arith, rest, gone)
    at false is rest =
        let its = ap (chain_weight n f) (none f.kept.file (turned_round g f.kept.file ∙ is)) in
        omega (arith, rest, its)

-- ---- messages about one file

abbrev pub AreAbout : FileId → List Msg → Type 0
AreAbout g own = (m : Msg) → Has m own → file_concerned m.payload ≡ Some g

one_about : (n : NodeId) (file : FileId) (o : Option Payload) → IfAbout file o → AreAbout file (token n o)
one_about n file None about m h = absurd h
one_about n file (Some content) about m (inl e) = ap (λ (k : Msg). file_concerned k.payload) e ∙ about
one_about n file (Some content) about m (inr h) = absurd h

pub tokens_about : (n : NodeId) (file : FileId) (sent told : Option Payload) → IfAbout file sent → IfAbout file told → AreAbout file (token n sent ++ token n told)
tokens_about n file sent told about_sent about_told m h = elim (has_in m (token n sent) (token n told) h) [
  | inl one ↦ one_about n file sent about_sent m one
  | inr other ↦ one_about n file told about_told m other
]

-- none of them is about another
none_about : (g h : FileId) (own : List Msg) → AreAbout g own → is_file g h ≡ false → primary_about h own ≡ []
none_about g h [] about differ = refl
none_about g h (m ∷ ms) about differ =
    ap₂ (λ (a b : List Payload). a ++ b)
    (ap (λ (o : Option FileId). cond (not (is_lease m.payload) && is_about h o) (m.payload ∷ []) []) (about m (inl refl)) ∙ at (is_lease m.payload) (is_file g h) differ)
    (none_about g h ms (λ x later. about x (inr later)) differ)
  where
    at : (lease b : Bool) → b ≡ false → cond (not lease && b) (m.payload ∷ []) [] ≡ []
    at true false is = refl
    at false false is = refl
    at lease true is = absurd (cc is)

no_sent : (o : Option Payload) → list_of o ≡ [] → o ≡ None
no_sent None is = refl
no_sent (Some content) is = absurd (cc is)

-- A chain within K whose messages are all about this file is within k, by itself.
pub record IsAlone (awake : Awake) (n : NodeId) (files : List FileState) (own : List Msg) (g : FileId) (K k : ℕ) : Type 0 where
  pub about : AreAbout g own
  pub bound : K + chain_weight n (file_at awake files g) None ≤ k + idle n files

-- the file as it has become
at_now : (awake : Awake) (files : List FileState) (next : FileState) (g : FileId) → next.kept.file ≡ g → file_at awake (with_file files next) g ≡ next
at_now awake files next g same =
    file_at-with_file awake files next g ∙ ap (λ (k : FileId). cond (is_file k g) next (file_at awake files g)) same
    ∙ ap (λ (b : Bool). cond b next (file_at awake files g)) (file-itself g)

-- what is left of it after a step on the file
pub record AloneFalls (awake : Awake) (n : NodeId) (files : List FileState) (own : List Msg) (g : FileId) (K k : ℕ) : Type 0 where
  pub j : ℕ
  pub less : j + 1 ≤ k
  pub alone : IsAlone awake n files own g K j

pub alone_falls : (awake : Awake) (n : NodeId) (files : List FileState) (was own : List Msg) (g : FileId) (next : FileState) (K k : ℕ) → Rises (files_of files) → Rises (files_of (with_file files next)) → next.kept.file ≡ g
    → IsAlone awake n files was g K k → AreAbout g own → (falls : Falls awake n (with_file files next) own K) → AloneFalls awake n (with_file files next) own g falls.j k
alone_falls awake n files was own g next K k rises rises_then same alone about falls = at k alone.bound
  where
    others : (h : FileId) → is_file g h ≡ false → falls.chain.sent h ≡ None
    others h differ = no_sent (falls.chain.sent h) (sym (falls.chain.is h) ∙ none_about g h own about differ)

    moved : idle n (with_file files next) + chain_weight n (file_at awake files g) None ≡ idle n files + chain_weight n (file_at awake (with_file files next) g) None
    moved =
        subst (λ (x : FileState). idle n (with_file files next) + chain_weight n (file_at awake files g) None ≡ idle n files + chain_weight n x None) (sym (at_now awake files next g same))
        (subst (λ (k : FileId). idle n (with_file files next) + chain_weight n (file_at awake files k) None ≡ idle n files + chain_weight n next None) same (idle_with awake n next files rises))

    at : (k : ℕ) → K + chain_weight n (file_at awake files g) None ≤ k + idle n files → AloneFalls awake n (with_file files next) own g falls.j k
    at zero bound =
        let low = falls.chain.low in
        let less = falls.less in
        let least = idle_low awake n falls.chain.sent g (with_file files next) rises_then others in
        let both = moved in
        absurd (omega (arith, bound, low, less, least, both))
    at (suc j) bound = record {
      j = j;
      less = omega arith;
      alone = record { about = about; bound = (let less = falls.less in let both = moved in omega (arith, bound, less, both)) };
    }
