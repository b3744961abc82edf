-- The messages of an OSD to itself that aren't handled: what they weigh, and that it falls with each that is handled.
use Rattle.std.proofs.Common.{◌≡◌, ℕ, ◌≤◌, ◌+◌, inl, inr, Bool, true, false, List, [], ◌∷◌, ◌++◌, refl, sym, ap, ap₂, subst, ◌∙◌, arith, Option, Some, None, append-nil, append_assoc}
use Rattle.std.specs.Prelude.{◌&&◌, ◌||◌, not, cond}
use Rattle.xt_base.specs.declared.ids.NodeId.{NodeId}
use Rattle.xt_base.specs.declared.ids.FileId.{FileId}
use Rattle.xt_messages.specs.declared.message.Msg.{Msg}
use Rattle.xt_messages.specs.declared.message.Payload.{Payload}
use Rattle.xt_messages.specs.declared.message.Payload.TheVariants as payload
use Rattle.xt_messages.specs.declared.record.FileRow.{FileRow}
use Rattle.xt_protocol.specs.FileIds.{is_file, is_before}
use Rattle.xt_protocol.specs.Folds.{new_row}
use Rattle.xt_protocol.specs.LeaseRows.{Awake}
use Rattle.xt_protocol.proofs.Folds.{file-equal, file-itself}
use Rattle.xt_protocol.specs.FileStates.{FileState, file_from}
use Rattle.xt_protocol.specs.OsdSteps.{file_at, with_file, file_concerned}
use Rattle.lease_runs.specs.LeaseView.{is_about}
use Rattle.lease_runs.proofs.OsdLeases.{file_at-with_file}
use Rattle.world_runs.specs.Worlds.{AreBehind, Rises, files_of}
use Rattle.world_runs.proofs.Rising.{before_along, before_itself}
use Rattle.own_messages_wait.proofs.Weights.{is_lease, lease_rank}
use Rattle.own_messages_wait.proofs.Standing.{IfAbout, IfMessage, IfWaits, Stands}
use Rattle.own_messages_wait.proofs.Tests.{false_true}
use Rattle.own_messages_wait.proofs.Mine.{token}
use Rattle.own_messages_wait.proofs.Leases.{IsLeaseOf}
use Rattle.own_messages_wait.proofs.Files.{IfLed, chain_weight}
use Rattle.own_messages_wait.proofs.Messages.{lease_of}

-- ---- what is of a file

-- a message of the primary about this file
abbrev pub pick : FileId → Msg → List Payload
pick g m = cond (not (is_lease m.payload) && is_about g (file_concerned m.payload)) (m.payload ∷ []) []

abbrev pub primary_about : FileId → List Msg → List Payload
primary_about g [] = []
primary_about g (m ∷ ms) = pick g m ++ primary_about g ms

abbrev pub list_of : Option Payload → List Payload
list_of None = []
list_of (Some content) = content ∷ []

-- what a message weighs by itself
abbrev pub own_rank : Payload → Option FileId → ℕ
own_rank content None = 1
own_rank content (Some file) = lease_rank content

abbrev pub own_sum : List Msg → ℕ
own_sum [] = 0
own_sum (m ∷ ms) = own_rank m.payload (file_concerned m.payload) + own_sum ms

-- what the files weigh, each with its message of the primary
abbrev pub total : NodeId → (FileId → Option Payload) → List FileState → ℕ
total n p [] = 0
total n p (f ∷ fs) = chain_weight n f (p f.kept.file) + total n p fs

abbrev pub has_file : List FileState → FileId → Bool
has_file [] g = false
has_file (f ∷ fs) g = is_file f.kept.file g || has_file fs g

-- The messages of an OSD to itself weigh this much at most: there is one of the primary at most for each file, which stands there.
pub record Chain (awake : Awake) (n : NodeId) (files : List FileState) (own : List Msg) (k : ℕ) : Type 0 where
  pub sent : FileId → Option Payload
  pub is : (g : FileId) → primary_about g own ≡ list_of (sent g)
  pub stands : (g : FileId) → IfWaits (file_at awake files g).kept (file_at awake files g).primary.tenure (sent g)
  pub led : (g : FileId) → IfLed (sent g) (file_at awake files g)
  pub known : (g : FileId) → has_file files g ≡ false → sent g ≡ None
  pub low : own_sum own + total n sent files ≤ k

-- ---- lists

pub about-append : (g : FileId) (xs ys : List Msg) → primary_about g (xs ++ ys) ≡ primary_about g xs ++ primary_about g ys
about-append g [] ys = refl
about-append g (x ∷ xs) ys = ap (λ (zs : List Payload). pick g x ++ zs) (about-append g xs ys) ∙ sym (append_assoc (pick g x) (primary_about g xs) (primary_about g ys))

pub sum-append : (xs ys : List Msg) → own_sum (xs ++ ys) ≡ own_sum xs + own_sum ys
sum-append [] ys = omega arith
sum-append (x ∷ xs) ys = (let rest = sum-append xs ys in omega (arith, rest))

-- two files are the same, or not, either way round
pub turned_round : (a b : FileId) → is_file a b ≡ is_file b a
turned_round a b = at (is_file a b) (is_file b a) refl refl
  where
    at : (x y : Bool) → is_file a b ≡ x → is_file b a ≡ y → x ≡ y
    at true true one two = refl
    at false false one two = refl
    at true false one two = absurd (false_true (sym two ∙ (ap (λ (k : FileId). is_file k a) (sym (file-equal a b one)) ∙ file-itself a)))
    at false true one two = absurd (false_true (sym one ∙ (ap (λ (k : FileId). is_file k b) (sym (file-equal b a two)) ∙ file-itself b)))

either : (a b : Bool) → (a || b) ≡ false → (a ≡ false) × (b ≡ false)
either true b is = absurd (false_true (sym is))
either false b is = (refl, is)

-- a message of the primary isn't one of the lease
pub stands_primary : (row : FileRow) (content : Payload) → Stands row content → is_lease content ≡ false
stands_primary row (payload.Read file ballot) is = absurd is
stands_primary row (payload.Promise file ballot boot report) is = absurd is
stands_primary row (payload.Write file ballot boot lease) is = absurd is
stands_primary row (payload.Accepted file ballot boot) is = absurd is
stands_primary row (payload.Outrun file ballot seen) is = absurd is
stands_primary row _ is = refl

rank_none : (content : Payload) → is_lease content ≡ false → lease_rank content ≡ 0
rank_none (payload.Read file ballot) is = absurd (false_true (sym is))
rank_none (payload.Promise file ballot boot report) is = absurd (false_true (sym is))
rank_none (payload.Write file ballot boot lease) is = absurd (false_true (sym is))
rank_none (payload.Accepted file ballot boot) is = absurd (false_true (sym is))
rank_none (payload.Outrun file ballot seen) is = absurd (false_true (sym is))
rank_none _ is = refl

-- what a step sends to its own node
pub told_about : (n : NodeId) (g : FileId) (told : Option Payload) → IsLeaseOf 4 told → primary_about g (token n told) ≡ []
told_about n g None is = refl
told_about n g (Some c) is = ap (λ (b : Bool). cond (not b && is_about g (file_concerned c)) (c ∷ []) [] ++ []) is.0

pub sent_about : (n : NodeId) (row : FileRow) (file g : FileId) (sent : Option Payload) → IfAbout file sent → IfMessage row sent → primary_about g (token n sent) ≡ cond (is_file file g) (list_of sent) []
sent_about n row file g None about is = at (is_file file g) []
  where
    at : (b : Bool) (none : List Payload) → none ≡ cond b none none
    at true none = refl
    at false none = refl
sent_about n row file g (Some c) about is =
    ap (λ (b : Bool). cond (not b && is_about g (file_concerned c)) (c ∷ []) [] ++ []) (stands_primary row c is.0)
    ∙ ap (λ (o : Option FileId). cond (is_about g o) (c ∷ []) [] ++ []) about ∙ append-nil (cond (is_file file g) (c ∷ []) [])

pub told_sum : (n : NodeId) (file : FileId) (told : Option Payload) → IfAbout file told → own_sum (token n told) ≡ lease_of told
told_sum n file None about = refl
told_sum n file (Some c) about = (let one = ap (own_rank c) about in omega (arith, one))

pub sent_sum : (n : NodeId) (row : FileRow) (file : FileId) (sent : Option Payload) → IfAbout file sent → IfMessage row sent → own_sum (token n sent) ≡ 0
sent_sum n row file None about is = refl
sent_sum n row file (Some c) about is = (let one = ap (own_rank c) about in let none = rank_none c (stands_primary row c is.0) in omega (arith, one, none))

pub both_about : (n : NodeId) (row : FileRow) (file g : FileId) (sent told : Option Payload) → IfAbout file sent → IfMessage row sent → IsLeaseOf 4 told → primary_about g (token n sent ++ token n told) ≡ cond (is_file file g) (list_of sent) []
both_about n row file g sent told about is lease =
    about-append g (token n sent) (token n told) ∙ ap₂ (λ (a b : List Payload). a ++ b) (sent_about n row file g sent about is) (told_about n g told lease) ∙ append-nil (cond (is_file file g) (list_of sent) [])

pub both_sum : (n : NodeId) (row : FileRow) (file : FileId) (sent told : Option Payload) → IfAbout file sent → IfMessage row sent → IfAbout file told → own_sum (token n sent ++ token n told) ≡ lease_of told
both_sum n row file sent told about is its = (let both = sum-append (token n sent) (token n told) in let none = sent_sum n row file sent about is in let some = told_sum n file told its in omega (arith, both, none, some))

-- ---- the files with one in its place

pub absent : (awake : Awake) (files : List FileState) (g : FileId) → has_file files g ≡ false → file_at awake files g ≡ file_from awake (new_row g)
unfolding file_at
absent awake [] g is = refl
absent awake (f ∷ fs) g is =
    let parts = either (is_file f.kept.file g) (has_file fs g) is in
    ap (λ (b : Bool). cond b f (file_at awake fs g)) parts.0 ∙ absent awake fs g parts.1

pub behind_absent : (fs : List FileState) (g : FileId) → AreBehind g (files_of fs) → has_file fs g ≡ false
behind_absent [] g are = refl
behind_absent (f ∷ fs) g are = ap₂ (λ (a b : Bool). a || b) (at (is_file f.kept.file g) refl) (behind_absent fs g (λ other h. are other (inr h)))
  where
    at : (b : Bool) → is_file f.kept.file g ≡ b → b ≡ false
    at true is = absurd (before_itself g f.kept.file (turned_round g f.kept.file ∙ is) (are f.kept.file (inl refl)))
    at false is = refl

pub has_with : (files : List FileState) (next : FileState) (g : FileId) → has_file (with_file files next) g ≡ (is_file next.kept.file g || has_file files g)
unfolding with_file
has_with [] next g = refl
has_with (f ∷ fs) next g = at (has_with fs next g) (is_file f.kept.file next.kept.file) (is_before next.kept.file f.kept.file) refl
  where
    swap : (a b c : Bool) → (a || (b || c)) ≡ (b || (a || c))
    swap true true c = refl
    swap true false c = refl
    swap false true c = refl
    swap false false c = refl

    again : (a b : Bool) → (a || b) ≡ (a || (a || b))
    again true b = refl
    again false b = refl

    at : has_file (with_file fs next) g ≡ (is_file next.kept.file g || has_file fs g) → (same before : Bool) → is_file f.kept.file next.kept.file ≡ same
        → has_file (cond same (next ∷ fs) (cond before (next ∷ f ∷ fs) (f ∷ with_file fs next))) g ≡ (is_file next.kept.file g || (is_file f.kept.file g || has_file fs g))
    at rest true before is = again (is_file next.kept.file g) (has_file fs g) ∙ ap (λ (k : FileId). is_file next.kept.file g || (is_file k g || has_file fs g)) (sym (file-equal f.kept.file next.kept.file is))
    at rest false true is = refl
    at rest false false is = ap (λ (b : Bool). is_file f.kept.file g || b) rest ∙ swap (is_file f.kept.file g) (is_file next.kept.file g) (has_file fs g)

-- the messages with this one for a file
abbrev pub put : FileId → Option Payload → (FileId → Option Payload) → FileId → Option Payload
put file q p g = cond (is_file file g) q (p g)

pub total_same : (n : NodeId) (p : FileId → Option Payload) (file : FileId) (q : Option Payload) (fs : List FileState) → has_file fs file ≡ false → total n (put file q p) fs ≡ total n p fs
total_same n p file q [] is = refl
total_same n p file q (f ∷ fs) is =
    let parts = either (is_file f.kept.file file) (has_file fs file) is in
    ap₂ (λ (a b : ℕ). a + b) (ap (λ (b : Bool). chain_weight n f (cond b q (p f.kept.file))) (turned_round file f.kept.file ∙ parts.0)) (total_same n p file q fs parts.1)

fresh_none : (awake : Awake) (n : NodeId) (g : FileId) (o : Option Payload) → o ≡ None → chain_weight n (file_from awake (new_row g)) o ≡ 0
fresh_none awake n g o is = ap (chain_weight n (file_from awake (new_row g))) is

pub total_with : (awake : Awake) (n : NodeId) (p : FileId → Option Payload) (q : Option Payload) (next : FileState) (files : List FileState) → Rises (files_of files) → (has_file files next.kept.file ≡ false → p next.kept.file ≡ None)
    → total n (put next.kept.file q p) (with_file files next) + chain_weight n (file_at awake files next.kept.file) (p next.kept.file) ≡ total n p files + chain_weight n next q
unfolding file_at with_file
total_with awake n p q next [] rises known =
    let none = fresh_none awake n next.kept.file (p next.kept.file) (known refl) in
    let here = ap (λ (b : Bool). chain_weight n next (cond b q (p next.kept.file))) (file-itself next.kept.file) in
    omega (arith, none, here)
total_with awake n p q next (f ∷ fs) rises known =
    at (is_file f.kept.file next.kept.file) (is_before next.kept.file f.kept.file) refl refl (λ k. total_with awake n p q next fs rises.1 k)
  where
    here : chain_weight n next (put next.kept.file q p next.kept.file) ≡ chain_weight n next q
    here = ap (λ (b : Bool). chain_weight n next (cond b q (p next.kept.file))) (file-itself next.kept.file)

    at : (same before : Bool) → is_file f.kept.file next.kept.file ≡ same → is_before next.kept.file f.kept.file ≡ before
        → ((has_file fs next.kept.file ≡ false → p next.kept.file ≡ None) → total n (put next.kept.file q p) (with_file fs next) + chain_weight n (file_at awake fs next.kept.file) (p next.kept.file) ≡ total n p fs + chain_weight n next q)
        → total n (put next.kept.file q p) (cond same (next ∷ fs) (cond before (next ∷ f ∷ fs) (f ∷ with_file fs next))) + chain_weight n (cond same f (file_at awake fs next.kept.file)) (p next.kept.file)
        ≡ (chain_weight n f (p f.kept.file) + total n p fs) + chain_weight n next q
    at true before is first rest =
        let equal = file-equal f.kept.file next.kept.file is in
        let others = total_same n p next.kept.file q fs (behind_absent fs next.kept.file (subst (λ (k : FileId). AreBehind k (files_of fs)) equal rises.0)) in
        let its = ap (λ (k : FileId). chain_weight n f (p k)) equal in
        let now = here in
        omega (arith, others, its, now)
    at false true is first rest =
        let none_here = ap₂ (λ (a b : Bool). a || b) is (behind_absent fs next.kept.file (λ other h. before_along next.kept.file f.kept.file other first (rises.0 other h))) in
        let others = total_same n p next.kept.file q (f ∷ fs) none_here in
        let gone = ap (λ (x : FileState). chain_weight n x (p next.kept.file)) (absent awake fs next.kept.file (behind_absent fs next.kept.file (λ other h. before_along next.kept.file f.kept.file other first (rises.0 other h)))) in
        let none = fresh_none awake n next.kept.file (p next.kept.file) (known none_here) in
        let now = here in
        omega (arith, others, gone, none, now)
    at false false is first rest =
        let r = rest (λ k. known (ap₂ (λ (a b : Bool). a || b) is k)) in
        let its = ap (λ (b : Bool). chain_weight n f (cond b q (p f.kept.file))) (turned_round next.kept.file f.kept.file ∙ is) in
        omega (arith, r, its)

-- ---- a message is handled

-- what is left weighs less
pub record Falls (awake : Awake) (n : NodeId) (files : List FileState) (own : List Msg) (k : ℕ) : Type 0 where
  pub j : ℕ
  pub less : j + 1 ≤ k
  pub chain : Chain awake n files own j

module _ (awake : Awake) (n : NodeId) (files : List FileState) (rises : Rises (files_of files)) (m : Msg) (rest : List Msg) (k : ℕ) (c : Chain awake n files (m ∷ rest) k) where
  -- one about no file
  pub idle_falls : file_concerned m.payload ≡ None → Falls awake n files rest k
  idle_falls concerns =
      record {
        j = own_sum rest + total n c.sent files;
        less = let one = ap (own_rank m.payload) concerns in let low = c.low in omega (arith, one, low);
        chain = record { sent = c.sent; is = λ g. sym (picked g) ∙ c.is g; stands = c.stands; led = c.led; known = c.known; low = same_le (own_sum rest + total n c.sent files) };
      }
    where
      same_le : (a : ℕ) → a ≤ a
      same_le a = omega arith

      none : (b : Bool) → cond (not b && false) (m.payload ∷ []) [] ≡ []
      none true = refl
      none false = refl

      picked : (g : FileId) → primary_about g (m ∷ rest) ≡ primary_about g rest
      picked g = ap (λ (xs : List Payload). xs ++ primary_about g rest) (ap (λ (o : Option FileId). cond (not (is_lease m.payload) && is_about g o) (m.payload ∷ []) []) concerns ∙ none (is_lease m.payload))

  -- one about a file, which has become this one
  pub placed : (file : FileId) (next : FileState) (q : Option Payload) (outs : List Msg) → next.kept.file ≡ file → file_concerned m.payload ≡ Some file
      → primary_about file (rest ++ outs) ≡ list_of q → ((g : FileId) → is_file file g ≡ false → primary_about g (rest ++ outs) ≡ list_of (c.sent g)) → IfWaits next.kept next.primary.tenure q → IfLed q next
      → own_sum outs + chain_weight n next q + 1 ≤ chain_weight n (file_at awake files file) (c.sent file) + lease_rank m.payload
      → Falls awake n (with_file files next) (rest ++ outs) k
  placed file next q outs same concerns its others stands led low =
      record {
        j = own_sum (rest ++ outs) + total n (put file q c.sent) (with_file files next);
        less =
            let own = ap (own_rank m.payload) concerns in
            let both = sum-append rest outs in
            let all = subst (λ (g : FileId). total n (put g q c.sent) (with_file files next) + chain_weight n (file_at awake files g) (c.sent g) ≡ total n c.sent files + chain_weight n next q) same (total_with awake n c.sent q next files rises (c.known next.kept.file)) in
            let before = c.low in
            omega (arith, own, both, all, before, low);
        chain = record {
          sent = put file q c.sent;
          is = λ g. is_at g (is_file file g) refl;
          stands = λ g. subst (λ (x : FileState). IfWaits x.kept x.primary.tenure (put file q c.sent g)) (sym (at_now g)) (stands_at g (is_file file g));
          led = λ g. subst (λ (x : FileState). IfLed (put file q c.sent g) x) (sym (at_now g)) (led_at g (is_file file g));
          known = λ g none. let parts = either (is_file file g) (has_file files g) (sym (has_with files next g ∙ ap (λ (k : FileId). is_file k g || has_file files g) same) ∙ none) in
              ap (λ (b : Bool). cond b q (c.sent g)) parts.0 ∙ c.known g parts.1;
          low = same_le (own_sum (rest ++ outs) + total n (put file q c.sent) (with_file files next));
        };
      }
    where
      same_le : (a : ℕ) → a ≤ a
      same_le a = omega arith

      at_now : (g : FileId) → file_at awake (with_file files next) g ≡ cond (is_file file g) next (file_at awake files g)
      at_now g = file_at-with_file awake files next g ∙ ap (λ (k : FileId). cond (is_file k g) next (file_at awake files g)) same

      is_at : (g : FileId) (b : Bool) → is_file file g ≡ b → primary_about g (rest ++ outs) ≡ list_of (cond b q (c.sent g))
      is_at g true e = subst (λ (k : FileId). primary_about k (rest ++ outs) ≡ list_of q) (file-equal file g e) its
      is_at g false e = others g e

      stands_at : (g : FileId) (b : Bool) → IfWaits (cond b next (file_at awake files g)).kept (cond b next (file_at awake files g)).primary.tenure (cond b q (c.sent g))
      stands_at g true = stands
      stands_at g false = c.stands g

      led_at : (g : FileId) (b : Bool) → IfLed (cond b q (c.sent g)) (cond b next (file_at awake files g))
      led_at g true = led
      led_at g false = c.led g
