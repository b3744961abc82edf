-- Which bodies are held among those that are left, and at which files.
use Rattle.std.proofs.Common.{◌≡◌, ◌||◌, ◌⊎◌, inl, inr, suc, Bool, true, false, cond, List, [], ◌∷◌, refl, sym, ◌∙◌, arith}
use Rattle.std.specs.Prelude.{filter, Contains}
use Rattle.xt_base.specs.declared.ids.FileId.{FileId}
use Rattle.xt_messages.specs.declared.file.ObjectVersion.{ObjectVersion}
use Rattle.xt_protocol.specs.FileIds.{is_file}
use Rattle.xt_protocol.specs.FileStates.{FileState}
use Rattle.xt_protocol.specs.LeaseRows.{Awake}
use Rattle.xt_protocol.specs.OsdSteps.{file_at}
use Rattle.xt_protocol.specs.Stamps.{is_version, has_version}
use Rattle.forgetting.proofs.Named.{or_right}

-- what is left was there
pub was_there : (test : ObjectVersion → Bool) (held : List ObjectVersion) (v : ObjectVersion) → has_version (filter test held) v ≡ true → has_version held v ≡ true
was_there test [] v has = has
was_there test (h ∷ hs) v has = at (test h) has (was_there test hs v)
  where
    at : (b : Bool) → has_version (cond b (h ∷ filter test hs) (filter test hs)) v ≡ true → (has_version (filter test hs) v ≡ true → has_version hs v ≡ true) → has_version (h ∷ hs) v ≡ true
    at true has rest = first (is_version v h) has rest
      where
        first : (b : Bool) → (b || has_version (filter test hs) v) ≡ true → (has_version (filter test hs) v ≡ true → has_version hs v ≡ true) → (b || has_version hs v) ≡ true
        first true has rest = refl
        first false has rest = rest has
    at false has rest = or_right (is_version v h) (has_version hs v) (rest has)

-- what is lacked is lacked
pub still_lacks : (test : ObjectVersion → Bool) (held : List ObjectVersion) (v : ObjectVersion) → has_version held v ≡ false → has_version (filter test held) v ≡ false
still_lacks test held v none = at (has_version (filter test held) v) refl
  where
    at : (b : Bool) → has_version (filter test held) v ≡ b → has_version (filter test held) v ≡ false
    at true is = absurd (let no : false ≡ true = sym none ∙ was_there test held v is in cc no)
    at false is = is

-- a file that was met is among them; of another one nothing is held
pub met : (awake : Awake) (files : List FileState) (file : FileId) → Contains files (file_at awake files file) ⊎ ((file_at awake files file).kept.held ≡ [])
unfolding file_at
met awake [] file = inr refl
met awake (x ∷ xs) file = at (is_file x.kept.file file) (met awake xs file)
  where
    at : (b : Bool) → Contains xs (file_at awake xs file) ⊎ ((file_at awake xs file).kept.held ≡ []) → Contains (x ∷ xs) (cond b x (file_at awake xs file)) ⊎ ((cond b x (file_at awake xs file)).kept.held ≡ [])
    at true rest = inl (0, omega arith, refl)
    at false (inl (k, lt, is)) = inl (suc k, omega arith, is)
    at false (inr none) = inr none
