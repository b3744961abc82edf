-- records that agree with what was read
use Rattle.std.proofs.Common.{◌≡◌, ◌≢◌, ◌⊎◌, inl, inr, ◌==◌, ◌<◌, ℕ, Bool, true, false, cond, List, [], ◌∷◌, ◌++◌, length, replicate, get_or, Option, Some, None, refl, ap, sym, subst, ◌∙◌, arith}
use Rattle.std.specs.Prelude.{slice_index}
use Rattle.std.specs.List.{All, fold}
use Rattle.std.specs.Option.{option_map}
use Rattle.std.specs.Ordering.{is_eq}
use Rattle.std.proofs.Math.Logic.{∥∥₁_elim}
use Rattle.std.proofs.lemmas.Bool.{cond-true, eqb-true, eq-eqb}
use Rattle.std.proofs.lemmas.List.{get_or_append_left, length_push}
use Rattle.std.proofs.lemmas.List.Elements.{All-map, All-push}
use Rattle.std.proofs.lemmas.List.Sums.{fold-append}
use Rattle.xt_base.specs.FieldLimits.{AreBytes}
use Rattle.xt_messages.specs.Limits.{FitsRecord}
use Rattle.xt_messages.specs.declared.record.Record.{Record}
use Rattle.xt_protocol.specs.Folds.{body_put, body_after, body_kept, newer}
use Rattle.replica_records.specs.Known.{known_of, without_body, Sees}
use Rattle.replica_records.specs.declared.places.BodyKey.{BodyKey}
use Rattle.replica_records.specs.Places.{body_cmp, body_in, key_put}
use Rattle.replica_records.proofs.BodyLaws.{Puts, PutsNone, get_keyed, puts_or_none, set_get}
use Rattle.replica_records.proofs.Known.{fits_known, known_fits, length_known}
use Rattle.replica_records.proofs.Placing.{key_equal, put_for, put_is}
use Rattle.object_store.specs.declared.read_body.ReadBody.{ReadBody}
use Rattle.object_store.specs.Bare.{with_body}
use Rattle.object_store.specs.FitProps.{all_fit_prop}
use Rattle.object_store.specs.Readers.{Agrees, IsKeptIn, MayBeRead, all_with_read, kept_as, over, seen_of, with_read}
use Rattle.object_store.specs.Texts.{AreRecords}
use Rattle.object_store.proofs.Filled.{same_key, zeros_of}

-- ---- one record

no_bytes : (i : ℕ) → slice_index [] i < 256
no_bytes i = omega arith

bytes_within : (bytes : List ℕ) (rec : Record) → AreBytes bytes → AreBytes (body_in (with_body bytes rec))
bytes_within bytes rec all = at (puts_or_none rec)
  where
    at : Puts rec ⊎ PutsNone rec → AreBytes (body_in (with_body bytes rec))
    at (inl puts) = subst AreBytes (sym (puts.get_set bytes)) all
    at (inr plain) = subst AreBytes (sym (ap body_in (plain.stays bytes) ∙ plain.none)) no_bytes

-- what a record puts for a key, with its body or another one
put_one : (key : BodyKey) (rec : Record) → Option (List ℕ)
put_one key rec = body_put key.file key.object key.version rec

body_of_put : (keys : Option BodyKey) (key : BodyKey) (body old : List ℕ) → put_for keys key body ≡ Some old → old ≡ body
body_of_put None key body old is = absurd cc
body_of_put (Some k) key body old is = at (is_eq (body_cmp k key)) is
  where
    at : (tied : Bool) → cond tied (Some body) None ≡ Some old → old ≡ body
    at true is = cc
    at false is = absurd cc

put_is_body : (key : BodyKey) (rec : Record) (old : List ℕ) → body_put key.file key.object key.version rec ≡ Some old → old ≡ body_in rec
put_is_body key rec old is = body_of_put (key_put rec) key (body_in rec) old (sym (put_is rec key) ∙ is)

some_key : (keys : Option BodyKey) (key : BodyKey) (body old : List ℕ) → put_for keys key body ≡ Some old → keys ≡ Some key
some_key None key body old is = absurd cc
some_key (Some k) key body old is = at (is_eq (body_cmp k key)) refl is
  where
    at : (tied : Bool) → is_eq (body_cmp k key) ≡ tied → cond tied (Some body) None ≡ Some old → Some k ≡ Some key
    at true same is = ap Some (key_equal k key same)
    at false same is = absurd cc

put_key : (key : BodyKey) (rec : Record) (old : List ℕ) → body_put key.file key.object key.version rec ≡ Some old → key_put rec ≡ Some key
put_key key rec old is = some_key (key_put rec) key (body_in rec) old (sym (put_is rec key) ∙ is)

other_key : (own other : BodyKey) (body : List ℕ) → own ≢ other → put_for (Some own) other body ≡ None
other_key own other body differ = at (is_eq (body_cmp own other)) refl
  where
    at : (tied : Bool) → is_eq (body_cmp own other) ≡ tied → cond tied (Some body) None ≡ None
    at true same = absurd (differ (key_equal own other same))
    at false same = refl

-- it puts nothing for another key, with any body
puts_not : (own other : BodyKey) (bytes : List ℕ) (rec : Record) → own ≢ other → key_put rec ≡ Some own → body_put other.file other.object other.version (with_body bytes rec) ≡ None
puts_not own other bytes rec differ is =
    put_is (with_body bytes rec) other
    ∙ ap (λ (k : Option BodyKey). put_for k other (body_in (with_body bytes rec))) (same_key bytes rec ∙ is)
    ∙ other_key own other (body_in (with_body bytes rec)) differ

-- ---- one record with a body that was read

module _ (read : ReadBody) where
  -- bytes in place of others of the same number
  abbrev grown : List ℕ → List ℕ
  grown old = cond (length old == length read.bytes) read.bytes old

  module _ (rec : Record) where
    over_known : (put : Option (List ℕ)) → ((old : List ℕ) → put ≡ Some old → old ≡ body_in rec) → without_body (over read.bytes rec put) ≡ without_body rec
    over_known None is = refl
    over_known (Some old) is = at (length old == length read.bytes) refl
      where
        at : (same : Bool) → (length old == length read.bytes) ≡ same → without_body (cond same (with_body read.bytes rec) rec) ≡ without_body rec
        at true same =
            let size : length read.bytes ≡ length (body_in rec) = sym (eqb-true (length old) (length read.bytes) same) ∙ ap length (is old refl) in
            zeros_of read.bytes rec ∙ ap (λ (n : ℕ). with_body (replicate n 0) rec) size
        at false same = refl

    over_fits : (put : Option (List ℕ)) → ((old : List ℕ) → put ≡ Some old → old ≡ body_in rec) → AreBytes read.bytes → FitsRecord rec → FitsRecord (over read.bytes rec put)
    over_fits None is all fits = fits
    over_fits (Some old) is all fits = at (length old == length read.bytes) refl
      where
        at : (same : Bool) → (length old == length read.bytes) ≡ same → FitsRecord (cond same (with_body read.bytes rec) rec)
        at true same =
            let size : length read.bytes ≡ length (body_in rec) = sym (eqb-true (length old) (length read.bytes) same) ∙ ap length (is old refl) in
            let known : without_body (with_body read.bytes rec) ≡ without_body rec =
            zeros_of read.bytes rec ∙ ap (λ (n : ℕ). with_body (replicate n 0) rec) size in
            known_fits false (with_body read.bytes rec) (bytes_within read.bytes rec all) (subst FitsRecord (sym known) (fits_known false rec fits))
        at false same = fits

    over_other : (key : BodyKey) (put : Option (List ℕ)) → read.key ≢ key → ((old : List ℕ) → put ≡ Some old → key_put rec ≡ Some read.key)
        → body_put key.file key.object key.version (over read.bytes rec put) ≡ body_put key.file key.object key.version rec
    over_other key None differ is = refl
    over_other key (Some old) differ is = at (length old == length read.bytes)
      where
        none : body_put key.file key.object key.version rec ≡ None
        none = ap (body_put key.file key.object key.version) (sym (set_get rec)) ∙ puts_not read.key key (body_in rec) rec differ (is old refl)

        at : (same : Bool) → body_put key.file key.object key.version (cond same (with_body read.bytes rec) rec) ≡ body_put key.file key.object key.version rec
        at true = puts_not read.key key read.bytes rec differ (is old refl) ∙ sym none
        at false = refl

    tied_again : (tied : Bool) (body old : List ℕ) → cond tied (Some body) None ≡ Some old → cond tied (Some read.bytes) None ≡ Some read.bytes
    tied_again true body old is = refl
    tied_again false body old is = absurd cc

    put_again : (old : List ℕ) → body_put read.key.file read.key.object read.key.version rec ≡ Some old
        → body_put read.key.file read.key.object read.key.version (with_body read.bytes rec) ≡ Some read.bytes
    put_again old is =
        let key = put_key read.key rec old is in
        let first : put_for (Some read.key) read.key (body_in rec) ≡ Some old =
        ap (λ (k : Option BodyKey). put_for k read.key (body_in rec)) (sym key) ∙ sym (put_is rec read.key) ∙ is in
        put_is (with_body read.bytes rec) read.key
        ∙ ap (λ (k : Option BodyKey). put_for k read.key (body_in (with_body read.bytes rec))) (same_key read.bytes rec ∙ key)
        ∙ ap (λ (b : List ℕ). put_for (Some read.key) read.key b) (get_keyed read.bytes rec read.key key)
        ∙ tied_again (is_eq (body_cmp read.key read.key)) (body_in rec) old first

    over_own : (put : Option (List ℕ)) → body_put read.key.file read.key.object read.key.version rec ≡ put
        → body_put read.key.file read.key.object read.key.version (over read.bytes rec put) ≡ option_map grown put
    over_own None is = is
    over_own (Some old) is = at (length old == length read.bytes)
      where
        at : (same : Bool) → body_put read.key.file read.key.object read.key.version (cond same (with_body read.bytes rec) rec) ≡ Some (cond same read.bytes old)
        at true = put_again old is
        at false = is

    read_known : without_body (with_read read rec) ≡ without_body rec
    read_known = over_known (body_put read.key.file read.key.object read.key.version rec) (put_is_body read.key rec)

    read_fits : AreBytes read.bytes → FitsRecord rec → FitsRecord (with_read read rec)
    read_fits all fits = over_fits (body_put read.key.file read.key.object read.key.version rec) (put_is_body read.key rec) all fits

    read_other : (key : BodyKey) → read.key ≢ key → body_put key.file key.object key.version (with_read read rec) ≡ body_put key.file key.object key.version rec
    read_other key differ = over_other key (body_put read.key.file read.key.object read.key.version rec) differ (put_key read.key rec)

    read_own : body_put read.key.file read.key.object read.key.version (with_read read rec) ≡ option_map grown (body_put read.key.file read.key.object read.key.version rec)
    read_own = over_own (body_put read.key.file read.key.object read.key.version rec) refl

  -- ---- all records with it

  all_known : (records : List Record) → known_of false (all_with_read records read) ≡ known_of false records
  all_known [] = refl
  all_known (r ∷ records) = λ i. read_known r i ∷ all_known records i

  all_fit : (records : List Record) → AreBytes read.bytes → All FitsRecord records → All FitsRecord (all_with_read records read)
  all_fit records all fit = All-map FitsRecord (with_read read) records (λ k d less. read_fits (get_or records k d) all (fit k d less))

  keeps_other : (key : BodyKey) (before : Option (List ℕ)) (records : List Record) → read.key ≢ key
      → fold (body_after key.file key.object key.version) before (all_with_read records read) ≡ fold (body_after key.file key.object key.version) before records
  keeps_other key before [] differ = refl
  keeps_other key before (r ∷ records) differ =
      ap (λ (p : Option (List ℕ)). fold (body_after key.file key.object key.version) (newer before p) (all_with_read records read)) (read_other r key differ)
      ∙ keeps_other key (body_after key.file key.object key.version before r) records differ

  newer_grown : (before put : Option (List ℕ)) → newer (option_map grown before) (option_map grown put) ≡ option_map grown (newer before put)
  newer_grown before None = refl
  newer_grown before (Some b) = refl

  keeps_own : (before : Option (List ℕ)) (records : List Record)
      → fold (body_after read.key.file read.key.object read.key.version) (option_map grown before) (all_with_read records read)
      ≡ option_map grown (fold (body_after read.key.file read.key.object read.key.version) before records)
  keeps_own before [] = refl
  keeps_own before (r ∷ records) =
      ap (λ (b : Option (List ℕ)). fold (body_after read.key.file read.key.object read.key.version) b (all_with_read records read))
      (ap (newer (option_map grown before)) (read_own r) ∙ newer_grown before (body_put read.key.file read.key.object read.key.version r))
      ∙ keeps_own (body_after read.key.file read.key.object read.key.version before r) records

  kept_other : (key : BodyKey) (records : List Record) → read.key ≢ key → kept_as (all_with_read records read) key ≡ kept_as records key
  unfolding body_kept
  kept_other key records differ = keeps_other key None records differ

  kept_own : (records : List Record) → kept_as (all_with_read records read) read.key ≡ option_map grown (kept_as records read.key)
  unfolding body_kept
  kept_own records = keeps_own None records

  -- as many bytes are in their place
  grown_there : (body : Option (List ℕ)) → option_map length body ≡ Some (length read.bytes) → option_map grown body ≡ Some read.bytes
  grown_there None is = absurd cc
  grown_there (Some old) is =
      let size : length old ≡ length read.bytes = cc in
      ap Some (cond-true (length old == length read.bytes) read.bytes old (eq-eqb (length old) (length read.bytes) size))

-- ---- what agrees

no_reads : (records : List Record) → All (IsKeptIn records) []
no_reads records = λ k d less. absurd (omega (arith, less))

-- what is known agrees where nothing was read
pub sees_agrees : (told : Bool) (known records : List Record) → Sees told known records → Agrees told known [] records
sees_agrees told known records sees = record { sees = sees; keeps = no_reads records }

pub none_read : (told : Bool) (known : List Record) → known_of told known ≡ known → ∥ AreRecords known ∥₁ → Agrees told known [] (seen_of told known [])
none_read true known same are = sees_agrees true known known (record { same = same; fit = ∥∥₁_elim are (all_fit_prop known) (λ a. a.fit) })
none_read false known same are = sees_agrees false known known (record { same = same; fit = ∥∥₁_elim are (all_fit_prop known) (λ a. a.fit) })

-- as long a body is kept in all that agree
pub same_length : (told : Bool) (known records : List Record) (key : BodyKey) → Sees told known records → option_map length (kept_as records key) ≡ option_map length (kept_as known key)
same_length told known records key sees =
    sym (length_known told records key.file key.object key.version) ∙ ap (λ (rs : List Record). option_map length (kept_as rs key)) sees.same

still_kept : (known records : List Record) (read : ReadBody) (earlier : List ReadBody) → All (λ (r : ReadBody). r.key ≢ read.key) earlier → All (IsKeptIn records) earlier
    → All (IsKeptIn (all_with_read records read)) earlier
still_kept known records read earlier differ keeps = λ k d less.
    kept_other read (get_or earlier k d).key records (λ (same : read.key ≡ (get_or earlier k d).key). differ k d less (sym same)) ∙ keeps k d less

read_unknown : (known : List Record) (earlier : List ReadBody) (read : ReadBody) → MayBeRead false known earlier read.key read.bytes
    → Agrees false known earlier (fold all_with_read known earlier) → Agrees false known (earlier ++ read ∷ []) (all_with_read (fold all_with_read known earlier) read)
read_unknown known earlier read may agrees =
    let seen = fold all_with_read known earlier in
    record {
      sees = record { same = all_known read seen ∙ agrees.sees.same; fit = all_fit read seen may.all agrees.sees.fit };
      keeps =
          All-push (IsKeptIn (all_with_read seen read)) earlier read (still_kept known seen read earlier may.fresh agrees.keeps)
          (kept_own read seen ∙ grown_there read (kept_as seen read.key) (same_length false known seen read.key agrees.sees ∙ may.size));
    }

-- a body more is read
pub read_more : (told : Bool) (known : List Record) (earlier : List ReadBody) (read : ReadBody) → MayBeRead told known earlier read.key read.bytes
    → Agrees told known earlier (seen_of told known earlier) → Agrees told known (earlier ++ read ∷ []) (seen_of told known (earlier ++ read ∷ []))
read_more true known earlier read may agrees = record { sees = agrees.sees; keeps = All-push (IsKeptIn known) earlier read agrees.keeps (may.value refl) }
read_more false known earlier read may agrees =
    subst (Agrees false known (earlier ++ read ∷ [])) (sym (fold-append all_with_read known earlier (read ∷ []))) (read_unknown known earlier read may agrees)

front_kept : (records : List Record) (earlier : List ReadBody) (read : ReadBody) → All (IsKeptIn records) (earlier ++ read ∷ []) → All (IsKeptIn records) earlier
front_kept records earlier read keeps = λ k d less.
    subst (IsKeptIn records) (get_or_append_left earlier (read ∷ []) d k less) (keeps k d (omega (arith, less, length_push earlier read)))

-- what agrees with one more agreed before
pub agrees_before : (told : Bool) (known : List Record) (earlier : List ReadBody) (read : ReadBody) (records : List Record) → Agrees told known (earlier ++ read ∷ []) records
    → Agrees told known earlier records
agrees_before told known earlier read records agrees = record { sees = agrees.sees; keeps = front_kept records earlier read agrees.keeps }

-- or isn't, where memory runs out
pub read_if : (told : Bool) (known : List Record) (earlier : List ReadBody) (read : ReadBody) → MayBeRead told known earlier read.key read.bytes
    → Agrees told known earlier (seen_of told known earlier) → (kept : Bool)
    → Agrees told known (cond kept (earlier ++ read ∷ []) earlier) (seen_of told known (cond kept (earlier ++ read ∷ []) earlier))
read_if told known earlier read may agrees true = read_more told known earlier read may agrees
read_if told known earlier read may agrees false = agrees

none_of_length : (body : Option (List ℕ)) → option_map length body ≡ None → body ≡ None
none_of_length None is = refl
none_of_length (Some bytes) is = absurd cc

-- a body that is missing is missing in all that agree
module _ (told : Bool) (known records : List Record) (key : BodyKey) (sees : Sees told known records) where
  pub none_known : body_kept records key.file key.object key.version ≡ None → body_kept known key.file key.object key.version ≡ None
  none_known none = none_of_length (kept_as known key) (sym (same_length told known records key sees) ∙ ap (option_map length) none)

  pub none_seen : body_kept known key.file key.object key.version ≡ None → body_kept records key.file key.object key.version ≡ None
  none_seen none = none_of_length (kept_as records key) (same_length told known records key sees ∙ ap (option_map length) none)
