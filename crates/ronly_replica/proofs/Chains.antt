-- objects that are held one after the other
use Rattle.std.proofs.Common.{◌≡◌, ℕ, zero, suc, ◌+◌, List, [], ◌∷◌, ◌++◌, refl, ap, sym, ◌∙◌, subst, arith, append_assoc, Option, Some, None, Bool}
use Rattle.std.specs.Prelude.{is_some}
use Rattle.std.specs.List.{range_with_len}
use Rattle.std.specs.Option.{option_map}
use Rattle.std.proofs.lemmas.List.{append-nil}
use Rattle.xt_messages.specs.declared.record.Record.{Record}
use Rattle.replica_records.specs.Known.{as_known}
use Rattle.ronly_replica.specs.declared.pin.Pin.{Pin}
use Rattle.ronly_replica.specs.Pins.{stage_of}
use Rattle.ronly_replica.specs.Holding.{Fetching, Holds, begun, was_held, fetched}

-- whether there is a value doesn't change with what is made of it
pub some_map : {X Y : Type 0} (f : X → Y) (o : Option X) → is_some (option_map f o) ≡ is_some o
some_map f None = refl
some_map f (Some x) = refl

-- one number more
pub range_more : (first count : ℕ) → range_with_len first (count + 1) ≡ range_with_len first count ++ (first + count) ∷ []
range_more first count =
    let same : count + 1 ≡ suc count = omega arith in
    ap (range_with_len first) same ∙ range_suc first count
  where
    range_suc : (first count : ℕ) → range_with_len first (suc count) ≡ range_with_len first count ++ (first + count) ∷ []
    range_suc first zero = ap (λ n. n ∷ []) (omega arith)
    range_suc first (suc count) =
        let last : first + 1 + count ≡ first + suc count = omega arith in
        ap (λ xs. first ∷ xs) (range_suc (first + 1) count ∙ ap (λ n. range_with_len (first + 1) count ++ n ∷ []) last)

module _ {O : Type 0} (fetches : Fetching O) (told : Bool) (pin : Pin) where
  -- one list of objects after another
  pub joined : (records now : List Record) (start between : O) (xs ys : List ℕ) (after : List Record) (end : O) → Holds fetches told pin records start xs now between
      → Holds fetches told pin now between ys after end → Holds fetches told pin records start (xs ++ ys) after end
  joined records now start between xs ys after end first begun =
      subst (λ l. Holds fetches told pin records start l now between) (sym (append-nil xs)) first
  joined records now start between xs ys after end first (was_held objects later origin object bytes so_far here) =
      subst (λ l. Holds fetches told pin records start l later origin) (append_assoc xs objects (object ∷ []))
      (was_held (xs ++ objects) later origin object bytes (joined records now start between xs objects later origin first so_far) here)
  joined records now start between xs ys after end first (fetched objects later middle last object made so_far none does same) =
      subst (λ l. Holds fetches told pin records start l (later ++ as_known told (stage_of pin object made.bytes) ∷ []) last) (append_assoc xs objects (object ∷ []))
      (fetched (xs ++ objects) later middle last object made (joined records now start between xs objects later middle first so_far) none does same)
