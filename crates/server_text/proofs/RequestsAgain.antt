-- A request that was written is read.
use Rattle.std.proofs.Common.{◌≡◌, ◌≢◌, ℕ, suc, zero, ◌^◌, ◌<◌, ◌≤◌, false, List, [], ◌∷◌, refl, ap, arith}
use Rattle.std.specs.Prelude.{codes}
use Rattle.std.specs.List.{AllByRecursion}
use Rattle.std.specs.Fmt.{decimal}
use Rattle.std.specs.Str.{bytes_eq}
use Rattle.std.proofs.lemmas.Bool.{false_from_ne_true}
use Rattle.std.proofs.lemmas.Slice.Eq.{bytes_eq-Decides}
use Rattle.xt_base.specs.declared.ids.NodeId.{NodeId}
use Rattle.xt_messages.specs.declared.event.Call.{Call}
use Rattle.xt_messages.specs.declared.event.Call.TheVariants as call
use Rattle.xt_messages.specs.declared.file.Kind.{Kind}
use Rattle.xt_messages.specs.declared.file.Kind.TheVariants.{Replicated, Striped}
use Rattle.xt_messages.specs.declared.meta.MetaReq.{MetaReq}
use Rattle.xt_messages.specs.declared.meta.MetaReq.TheVariants as request
use Rattle.xt_messages.specs.declared.registry.RegistryReq.{RegistryReq}
use Rattle.xt_messages.specs.declared.registry.RegistryReq.TheVariants as row
use Rattle.xt_messages.specs.Limits.{FitsMembers, FitsMetaReq, FitsRegistryReq}
use Rattle.time_line.specs.Bounds.{IsWritten}
use Rattle.server_text.specs.Words.{spaced, mode_word, node_words}
use Rattle.server_text.specs.RequestText.{kind_word, name_or_dash, want_word, meta_words, registry_words}
use Rattle.server_text.specs.Reading.{first_word, mode_in, text_in}
use Rattle.server_text.specs.RequestReading.{kind_in, want_in, after_in, mkdir_in, create_in, rename_in, list_in, chmod_in, grant_in, change_in, path_request_in, meta_request_in, asked_in, meta_call_in, set_in, get_in, rows_after_in, remove_in, registry_request_in, registry_call_in}
use Rattle.server_text.specs.Spellable.{IsAsciiWord, IsAfter, IsMode, IsSpellableRequest, IsSpellableWish}
use Rattle.server_text.proofs.AsciiWords.{text-IsWord, text_again}
use Rattle.server_text.proofs.ManyAgain.{members_again, nodes-AreWords}
use Rattle.server_text.proofs.WordsAgain.{IsWord, IsWord-tested, above, decimal-IsWord, number_at_again, first_again, others_again}

-- Words of one value.

pub mode-IsWord : (mode : ℕ) → IsWord (mode_word mode)
mode-IsWord mode = (above _ (omega arith), (above _ (omega arith), (above _ (omega arith), tt)))

pub mode_again : (mode : ℕ) → IsMode mode → mode_in (mode_word mode) ≡ mode
unfolding mode_in
mode_again mode small = omega (arith, small)

pub kind-IsWord : (kind : Kind) → IsWord (kind_word kind)
kind-IsWord Replicated = IsWord-tested (codes "rep") refl
kind-IsWord Striped = IsWord-tested (codes "str") refl

pub kind_again : (kind : Kind) → kind_in (kind_word kind) ≡ kind
kind_again Replicated = refl
kind_again Striped = refl

want-IsWord : (want : ℕ) → 1 ≤ want → want ≤ 3 → IsWord (want_word want)
want-IsWord zero low high = absurd (omega (arith, low))
want-IsWord (suc zero) low high = IsWord-tested (codes "read") refl
want-IsWord (suc (suc zero)) low high = IsWord-tested (codes "write") refl
want-IsWord (suc (suc (suc zero))) low high = IsWord-tested (codes "truncate") refl
want-IsWord (suc (suc (suc (suc n)))) low high = absurd (omega (arith, high))

want_again : (want : ℕ) → 1 ≤ want → want ≤ 3 → want_in (want_word want) ≡ want
want_again zero low high = absurd (omega (arith, low))
want_again (suc zero) low high = refl
want_again (suc (suc zero)) low high = refl
want_again (suc (suc (suc zero))) low high = refl
want_again (suc (suc (suc (suc n)))) low high = absurd (omega (arith, high))

after-IsWord : (after : List ℕ) → IsAfter after → IsWord (name_or_dash after)
after-IsWord [] fits = IsWord-tested (codes "-") refl
after-IsWord (byte ∷ bytes) fits = text-IsWord (byte ∷ bytes) fits.0

no_dash : (text : List ℕ) → text ≢ codes "-" → bytes_eq text (codes "-") ≡ false
no_dash text other = false_from_ne_true (bytes_eq text (codes "-")) (λ same. other ((bytes_eq-Decides text (codes "-")).0 same))

after_again : (after : List ℕ) → IsAfter after → after_in (name_or_dash after) ≡ after
after_again [] fits = refl
after_again (byte ∷ bytes) fits = rw (no_dash (byte ∷ bytes) fits.1) (text_again (byte ∷ bytes) fits.0)

-- Requests to the MRC.

mkdir_again : (path : List ℕ) (mode : ℕ) → IsAsciiWord path → IsMode mode → mkdir_in (spaced (path ∷ mode_word mode ∷ [])) ≡ request.Mkdir path mode
unfolding mkdir_in
mkdir_again path mode word small =
    let whole = text-IsWord path word in
    rw (
      first_again path (mode_word mode ∷ []) whole,
      others_again path (mode_word mode ∷ []) whole,
      first_again (mode_word mode) [] (mode-IsWord mode),
      text_again path word,
      mode_again mode small,
    ) refl

create_again : (path : List ℕ) (mode : ℕ) (kind : Kind) (n stripe : ℕ) → IsAsciiWord path → IsMode mode → n < 2 ^ 8 → stripe < 2 ^ 32
    → create_in (spaced (path ∷ mode_word mode ∷ kind_word kind ∷ decimal n ∷ decimal stripe ∷ [])) ≡ request.Create path mode kind n stripe
unfolding create_in
create_again path mode kind n stripe word small p q =
    let whole = text-IsWord path word in
    rw (
      first_again path (mode_word mode ∷ kind_word kind ∷ decimal n ∷ decimal stripe ∷ []) whole,
      others_again path (mode_word mode ∷ kind_word kind ∷ decimal n ∷ decimal stripe ∷ []) whole,
      first_again (mode_word mode) (kind_word kind ∷ decimal n ∷ decimal stripe ∷ []) (mode-IsWord mode),
      others_again (mode_word mode) (kind_word kind ∷ decimal n ∷ decimal stripe ∷ []) (mode-IsWord mode),
      first_again (kind_word kind) (decimal n ∷ decimal stripe ∷ []) (kind-IsWord kind),
      others_again (kind_word kind) (decimal n ∷ decimal stripe ∷ []) (kind-IsWord kind),
      number_at_again 8 n (decimal stripe ∷ []) p (omega arith),
      number_at_again 32 stripe [] q (omega arith),
      text_again path word,
      mode_again mode small,
      kind_again kind,
    ) refl

rename_again : (from to : List ℕ) → IsAsciiWord from → IsAsciiWord to → rename_in (spaced (from ∷ to ∷ [])) ≡ request.Rename from to
unfolding rename_in
rename_again from to word other =
    let whole = text-IsWord from word in
    rw (
      first_again from (to ∷ []) whole,
      others_again from (to ∷ []) whole,
      first_again to [] (text-IsWord to other),
      text_again from word,
      text_again to other,
    ) refl

list_again : (path after : List ℕ) → IsAsciiWord path → IsAfter after → list_in (spaced (path ∷ name_or_dash after ∷ [])) ≡ request.List path after
unfolding list_in
list_again path after word next =
    let whole = text-IsWord path word in
    rw (
      first_again path (name_or_dash after ∷ []) whole,
      others_again path (name_or_dash after ∷ []) whole,
      first_again (name_or_dash after) [] (after-IsWord after next),
      text_again path word,
      after_again after next,
    ) refl

chmod_again : (path : List ℕ) (mode : ℕ) → IsAsciiWord path → IsMode mode → chmod_in (spaced (path ∷ mode_word mode ∷ [])) ≡ request.Chmod path mode
unfolding chmod_in
chmod_again path mode word small =
    let whole = text-IsWord path word in
    rw (
      first_again path (mode_word mode ∷ []) whole,
      others_again path (mode_word mode ∷ []) whole,
      first_again (mode_word mode) [] (mode-IsWord mode),
      text_again path word,
      mode_again mode small,
    ) refl

grant_again : (path : List ℕ) (want : ℕ) → IsAsciiWord path → 1 ≤ want → want ≤ 3 → grant_in (spaced (path ∷ want_word want ∷ [])) ≡ request.Grant path want
unfolding grant_in
grant_again path want word low high =
    let whole = text-IsWord path word in
    rw (
      first_again path (want_word want ∷ []) whole,
      others_again path (want_word want ∷ []) whole,
      first_again (want_word want) [] (want-IsWord want low high),
      text_again path word,
      want_again want low high,
    ) refl

change_again : (path : List ℕ) (nodes : List NodeId) → IsAsciiWord path → FitsMembers nodes → change_in (spaced (path ∷ node_words nodes)) ≡ request.Change path nodes
unfolding change_in
change_again path nodes word fits =
    let whole = text-IsWord path word in
    rw (
      first_again path (node_words nodes) whole,
      others_again path (node_words nodes) whole,
      text_again path word,
      members_again nodes fits,
    ) refl

-- the path that stands alone
path_again : (made : List ℕ → MetaReq) (path : List ℕ) → IsAsciiWord path → made (text_in (first_word (spaced (path ∷ [])))) ≡ made path
path_again made path word = rw (first_again path [] (text-IsWord path word), text_again path word) refl

-- what a user asks by a verb
asked_again : (user group : ℕ) (verb : List ℕ) (args : List (List ℕ)) (made : Call) → user < 2 ^ 32 → group < 2 ^ 32 → IsWord verb
    → asked_in user group verb (spaced args) ≡ made → meta_call_in (spaced (decimal user ∷ decimal group ∷ verb ∷ args)) ≡ made
unfolding meta_call_in
asked_again user group verb args made p q word again =
    rw (
      number_at_again 32 user (decimal group ∷ verb ∷ args) p (omega arith),
      number_at_again 32 group (verb ∷ args) q (omega arith),
      first_again verb args word,
      others_again verb args word,
    ) again

-- a request to the MRC that was written is read
pub meta_again : (user group : ℕ) (wanted : MetaReq) → user < 2 ^ 32 → group < 2 ^ 32 → IsSpellableRequest wanted → FitsMetaReq wanted
    → meta_call_in (spaced (decimal user ∷ decimal group ∷ meta_words wanted)) ≡ call.Meta user group wanted
unfolding meta_words asked_in meta_request_in path_request_in
meta_again user group (request.Mkdir path mode) p q (word, small) fits =
    asked_again user group (codes "mkdir") (path ∷ mode_word mode ∷ []) _ p q (IsWord-tested (codes "mkdir") refl) (ap (call.Meta user group) (mkdir_again path mode word small))
meta_again user group (request.Create path mode kind n stripe) p q (word, small) (r, s, t, u, v) =
    let most : stripe ≤ 131072 = v.most in
    asked_again user group (codes "create") (path ∷ mode_word mode ∷ kind_word kind ∷ decimal n ∷ decimal stripe ∷ []) _ p q (IsWord-tested (codes "create") refl) (ap (call.Meta user group) (create_again path mode kind n stripe word small (omega arith) (omega arith)))
meta_again user group (request.Rename from to) p q (word, other) fits =
    asked_again user group (codes "rename") (from ∷ to ∷ []) _ p q (IsWord-tested (codes "rename") refl) (ap (call.Meta user group) (rename_again from to word other))
meta_again user group (request.Unlink path) p q word fits =
    asked_again user group (codes "unlink") (path ∷ []) _ p q (IsWord-tested (codes "unlink") refl) (ap (call.Meta user group) (path_again request.Unlink path word))
meta_again user group (request.Rmdir path) p q word fits =
    asked_again user group (codes "rmdir") (path ∷ []) _ p q (IsWord-tested (codes "rmdir") refl) (ap (call.Meta user group) (path_again request.Rmdir path word))
meta_again user group (request.List path after) p q (word, next) fits =
    asked_again user group (codes "list") (path ∷ name_or_dash after ∷ []) _ p q (IsWord-tested (codes "list") refl) (ap (call.Meta user group) (list_again path after word next))
meta_again user group (request.Stat path) p q word fits =
    asked_again user group (codes "stat") (path ∷ []) _ p q (IsWord-tested (codes "stat") refl) (ap (call.Meta user group) (path_again request.Stat path word))
meta_again user group (request.Chmod path mode) p q (word, small) fits =
    asked_again user group (codes "chmod") (path ∷ mode_word mode ∷ []) _ p q (IsWord-tested (codes "chmod") refl) (ap (call.Meta user group) (chmod_again path mode word small))
meta_again user group (request.Grant path want) p q word (r, low, high) =
    asked_again user group (codes "grant") (path ∷ want_word want ∷ []) _ p q (IsWord-tested (codes "grant") refl) (ap (call.Meta user group) (grant_again path want word low high))
meta_again user group (request.Report capability mark) p q never fits = absurd never
meta_again user group (request.Change path nodes) p q word (r, fits) =
    asked_again user group (codes "change") (path ∷ node_words nodes) _ p q (IsWord-tested (codes "change") refl) (ap (call.Meta user group) (change_again path nodes word fits))
meta_again user group (request.Locate path) p q word fits =
    asked_again user group (codes "locate") (path ∷ []) _ p q (IsWord-tested (codes "locate") refl) (ap (call.Meta user group) (path_again request.Locate path word))

-- a report that was written is read
pub report_again : (user group file : ℕ) → user < 2 ^ 32 → group < 2 ^ 32 → file < 2 ^ 64
    → meta_call_in (spaced (decimal user ∷ decimal group ∷ codes "report" ∷ decimal file ∷ [])) ≡ call.Report user group file
unfolding asked_in
report_again user group file p q r =
    asked_again user group (codes "report") (decimal file ∷ []) _ p q (IsWord-tested (codes "report") refl)
    (ap (λ (x : ℕ). call.Report user group x) (ap (λ (x : ℕ × List ℕ). x.0) (number_at_again 64 file [] r (omega arith))))

-- Requests to the DIR.

set_again : (node : NodeId) (kind : ℕ) (address : List ℕ) (expected : ℕ) → node.0 < 2 ^ 32 → kind < 2 ^ 8 → IsAsciiWord address → expected < 2 ^ 64
    → set_in (spaced (decimal node.0 ∷ decimal kind ∷ address ∷ decimal expected ∷ [])) ≡ row.Set node kind address expected
unfolding set_in
set_again node kind address expected p q word r =
    let whole = text-IsWord address word in
    rw (
      number_at_again 32 node.0 (decimal kind ∷ address ∷ decimal expected ∷ []) p (omega arith),
      number_at_again 8 kind (address ∷ decimal expected ∷ []) q (omega arith),
      first_again address (decimal expected ∷ []) whole,
      others_again address (decimal expected ∷ []) whole,
      number_at_again 64 expected [] r (omega arith),
      text_again address word,
    ) refl

get_again : (node : NodeId) → node.0 < 2 ^ 32 → get_in (spaced (decimal node.0 ∷ [])) ≡ row.Get node
unfolding get_in
get_again node p = rw (number_at_again 32 node.0 [] p (omega arith)) refl

rows_after_again : (kind : ℕ) (after : NodeId) → kind < 2 ^ 8 → after.0 < 2 ^ 32 → rows_after_in (spaced (decimal kind ∷ decimal after.0 ∷ [])) ≡ row.List kind after
unfolding rows_after_in
rows_after_again kind after p q =
    rw (number_at_again 8 kind (decimal after.0 ∷ []) p (omega arith), number_at_again 32 after.0 [] q (omega arith)) refl

remove_again : (node : NodeId) (expected : ℕ) → node.0 < 2 ^ 32 → expected < 2 ^ 64 → remove_in (spaced (decimal node.0 ∷ decimal expected ∷ [])) ≡ row.Remove node expected
unfolding remove_in
remove_again node expected p q =
    rw (number_at_again 32 node.0 (decimal expected ∷ []) p (omega arith), number_at_again 64 expected [] q (omega arith)) refl

-- a request by a verb
wish_again : (verb : List ℕ) (args : List (List ℕ)) (wanted : RegistryReq) → IsWord verb → registry_request_in verb (spaced args) ≡ wanted
    → registry_call_in (spaced (verb ∷ args)) ≡ call.Registry wanted
unfolding registry_call_in
wish_again verb args wanted word again = rw (first_again verb args word, others_again verb args word) (ap call.Registry again)

-- a request to the DIR that was written is read
pub registry_again : (wanted : RegistryReq) → IsSpellableWish wanted → FitsRegistryReq wanted → registry_call_in (spaced (registry_words wanted)) ≡ call.Registry wanted
unfolding registry_words registry_request_in
registry_again (row.Set node kind address expected) word (p, q, r, s) =
    wish_again (codes "set") (decimal node.0 ∷ decimal kind ∷ address ∷ decimal expected ∷ []) _ (IsWord-tested (codes "set") refl) (set_again node kind address expected p q word (omega arith))
registry_again (row.Get node) spelled p = wish_again (codes "get") (decimal node.0 ∷ []) _ (IsWord-tested (codes "get") refl) (get_again node p)
registry_again (row.List kind after) spelled (p, q) = wish_again (codes "list") (decimal kind ∷ decimal after.0 ∷ []) _ (IsWord-tested (codes "list") refl) (rows_after_again kind after p q)
registry_again (row.Remove node expected) spelled (p, q) = wish_again (codes "remove") (decimal node.0 ∷ decimal expected ∷ []) _ (IsWord-tested (codes "remove") refl) (remove_again node expected p (omega arith))

-- Each word of a request is one.

abbrev AreWords : List (List ℕ) → Type 0
AreWords words = AllByRecursion IsWord words

pub meta-AreWords : (wanted : MetaReq) → IsSpellableRequest wanted → FitsMetaReq wanted → AreWords (meta_words wanted)
unfolding meta_words
meta-AreWords (request.Mkdir path mode) (word, small) fits = (IsWord-tested (codes "mkdir") refl, (text-IsWord path word, (mode-IsWord mode, tt)))
meta-AreWords (request.Create path mode kind n stripe) (word, small) (r, s, t, u, v) =
    let most : stripe ≤ 131072 = v.most in
    (IsWord-tested (codes "create") refl, (text-IsWord path word, (mode-IsWord mode, (kind-IsWord kind, (decimal-IsWord n (omega arith), (decimal-IsWord stripe (omega arith), tt))))))
meta-AreWords (request.Rename from to) (word, other) fits = (IsWord-tested (codes "rename") refl, (text-IsWord from word, (text-IsWord to other, tt)))
meta-AreWords (request.Unlink path) word fits = (IsWord-tested (codes "unlink") refl, (text-IsWord path word, tt))
meta-AreWords (request.Rmdir path) word fits = (IsWord-tested (codes "rmdir") refl, (text-IsWord path word, tt))
meta-AreWords (request.List path after) (word, next) fits = (IsWord-tested (codes "list") refl, (text-IsWord path word, (after-IsWord after next, tt)))
meta-AreWords (request.Stat path) word fits = (IsWord-tested (codes "stat") refl, (text-IsWord path word, tt))
meta-AreWords (request.Change path nodes) word (r, fits) = (IsWord-tested (codes "change") refl, (text-IsWord path word, nodes-AreWords nodes fits.each))
meta-AreWords (request.Locate path) word fits = (IsWord-tested (codes "locate") refl, (text-IsWord path word, tt))
meta-AreWords (request.Chmod path mode) (word, small) fits = (IsWord-tested (codes "chmod") refl, (text-IsWord path word, (mode-IsWord mode, tt)))
meta-AreWords (request.Grant path want) word (r, low, high) = (IsWord-tested (codes "grant") refl, (text-IsWord path word, (want-IsWord want low high, tt)))
meta-AreWords (request.Report capability mark) never fits = absurd never

pub registry-AreWords : (wanted : RegistryReq) → IsSpellableWish wanted → FitsRegistryReq wanted → AreWords (registry_words wanted)
unfolding registry_words
registry-AreWords (row.Set node kind address expected) word (p, q, r, s) =
    (IsWord-tested (codes "set") refl, (decimal-IsWord node.0 (omega arith), (decimal-IsWord kind (omega arith), (text-IsWord address word, (decimal-IsWord expected (omega arith), tt)))))
registry-AreWords (row.Get node) spelled p = (IsWord-tested (codes "get") refl, (decimal-IsWord node.0 (omega arith), tt))
registry-AreWords (row.List kind after) spelled (p, q) = (IsWord-tested (codes "list") refl, (decimal-IsWord kind (omega arith), (decimal-IsWord after.0 (omega arith), tt)))
registry-AreWords (row.Remove node expected) spelled (p, q) = (IsWord-tested (codes "remove") refl, (decimal-IsWord node.0 (omega arith), (decimal-IsWord expected (omega arith), tt)))

-- What has words is written: it is no report.
pub request_is_written : (wanted : MetaReq) → IsSpellableRequest wanted → IsWritten wanted
request_is_written (request.Mkdir path mode) spelled = tt
request_is_written (request.Create path mode kind n stripe) spelled = tt
request_is_written (request.Rename from to) spelled = tt
request_is_written (request.Unlink path) spelled = tt
request_is_written (request.Rmdir path) spelled = tt
request_is_written (request.List path after) spelled = tt
request_is_written (request.Stat path) spelled = tt
request_is_written (request.Change path nodes) spelled = tt
request_is_written (request.Locate path) spelled = tt
request_is_written (request.Chmod path mode) spelled = tt
request_is_written (request.Grant path want) spelled = tt
request_is_written (request.Report capability mark) never = absurd never
