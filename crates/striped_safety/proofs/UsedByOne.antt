-- in a worked trace one client alone uses a striped file, and each of its calls ends well
use Rattle.std.proofs.Common.{◌≡◌, ℕ, ◌⊎◌, inl, inr, [], ◌∷◌, refl, ap, ap₂, sym, subst, arith, if◌then◌else◌, Some, None, Bool, true, false}
use Rattle.std.specs.Prelude.{◌==◌, ◌&&◌}
use Rattle.std.specs.Option.{option_or}
use Rattle.std.proofs.lemmas.Bool.Decides.{nat_tests}
use Rattle.xt_base.specs.declared.ids.OpId.{OpId}
use Rattle.xt_messages.specs.declared.event.Call.TheVariants as call
use Rattle.time_line.specs.TimeLine.{is_id, begun, operation_on}
use Rattle.time_line.specs.Clauses.{HasBegunOn, EndsWell}
use Rattle.world_spec.specs.Examples.{node, id_of, trace_of, cut_short, cut_short_trace}
use Rattle.striped_safety.specs.StripedFiles.{IsUsedByOne}

same_id : (a b : OpId) → is_id a b ≡ true → a ≡ b
same_id a b is = ap₂ (λ (x y : ℕ). let i : OpId = record { client = record { 0 = x }; number = y } in i) (client a.client.0 b.client.0 (a.number == b.number) is) (number (a.client.0 == b.client.0) a.number b.number is)
  where
    client : (x y : ℕ) (c : Bool) → ((x == y) && c) ≡ true → x ≡ y
    client x y c both = grind (arith, nat_tests)

    number : (c : Bool) (x y : ℕ) → (c && (x == y)) ≡ true → x ≡ y
    number c x y both = grind (arith, nat_tests)

-- one of four calls
abbrev IsOne : OpId → Type 0
IsOne id = (id ≡ id_of 10 1) ⊎ (id ≡ id_of 10 2) ⊎ (id ≡ id_of 10 3) ⊎ (id ≡ id_of 10 4)

one_of : (id : OpId) → HasBegunOn 1 cut_short_trace id → (id ≡ id_of 10 1) ⊎ (id ≡ id_of 10 2) ⊎ (id ≡ id_of 10 3) ⊎ (id ≡ id_of 10 4)
unfolding begun
one_of id has = at (is_id id (id_of 10 1)) refl (is_id id (id_of 10 2)) refl (is_id id (id_of 10 3)) refl (is_id id (id_of 10 4)) refl has.1
  where
    at : (a : Bool) → is_id id (id_of 10 1) ≡ a → (b : Bool) → is_id id (id_of 10 2) ≡ b → (c : Bool) → is_id id (id_of 10 3) ≡ c → (d : Bool) → is_id id (id_of 10 4) ≡ d
        → operation_on 1
        (option_or (if a then Some (call.Write 1 1 0 (97 ∷ [])) else None)
        (option_or (if b then Some (call.Truncate 1 512 1) else None)
        (option_or (if c then Some (call.Read 1 1 0 1) else None) (option_or (if d then Some (call.Read 1 0 511 2) else None) None)))) ≡ Some has.0
        → (id ≡ id_of 10 1) ⊎ (id ≡ id_of 10 2) ⊎ (id ≡ id_of 10 3) ⊎ (id ≡ id_of 10 4)
    at true p b q c r d s so = inl (same_id id (id_of 10 1) p)
    at false p true q c r d s so = inr (inl (same_id id (id_of 10 2) q))
    at false p false q true r d s so = inr (inr (inl (same_id id (id_of 10 3) r)))
    at false p false q false r true s so = inr (inr (inr (same_id id (id_of 10 4) s)))
    at false p false q false r false s so = absurd (cc so)

ends : (id : OpId) → (id ≡ id_of 10 1) ⊎ (id ≡ id_of 10 2) ⊎ (id ≡ id_of 10 3) ⊎ (id ≡ id_of 10 4) → (count : ℕ) × EndsWell cut_short_trace id count
ends id (inl e) = subst (λ (i : OpId). (count : ℕ) × EndsWell cut_short_trace i count) (sym e) (1, ([], (7, omega arith, refl)))
ends id (inr (inl e)) = subst (λ (i : OpId). (count : ℕ) × EndsWell cut_short_trace i count) (sym e) (2, ([], (14, omega arith, refl)))
ends id (inr (inr (inl e))) = subst (λ (i : OpId). (count : ℕ) × EndsWell cut_short_trace i count) (sym e) (2, ([], (16, omega arith, refl)))
ends id (inr (inr (inr e))) = subst (λ (i : OpId). (count : ℕ) × EndsWell cut_short_trace i count) (sym e) (1, (0 ∷ [], (18, omega arith, refl)))

its_client : (id : OpId) → (id ≡ id_of 10 1) ⊎ (id ≡ id_of 10 2) ⊎ (id ≡ id_of 10 3) ⊎ (id ≡ id_of 10 4) → id.client ≡ node 10
its_client id (inl e) = ap (λ (i : OpId). i.client) e
its_client id (inr (inl e)) = ap (λ (i : OpId). i.client) e
its_client id (inr (inr (inl e))) = ap (λ (i : OpId). i.client) e
its_client id (inr (inr (inr e))) = ap (λ (i : OpId). i.client) e

trace_is : trace_of cut_short ≡ cut_short_trace
unfolding trace_of
trace_is = refl

pub used : IsUsedByOne 1 (trace_of cut_short)
used = subst (IsUsedByOne 1) (sym trace_is) (record { client = node 10; alone = λ id has. its_client id (one_of id has); ended = λ id has. ends id (one_of id has) })
