-- ids by their numbers
use Rattle.std.proofs.Common.{◌≡◌, ◌==◌, ◌&&◌, ℕ, Bool, true, false, refl, ap, ◌∙◌, eq-eqb}
use Rattle.std.proofs.lemmas.Bool.{and_parts, and_from, eqb-true}
use Rattle.message_ids.specs.declared.MessageId.{MessageId}
use Rattle.message_ids.specs.Same.{is_same}

-- The same sender, boot and number are the same id.
pub same_id : (a b : MessageId) → is_same a b ≡ true → a ≡ b
same_id a b same =
    let numbers = and_parts ((a.sender.0 == b.sender.0) && (a.boot.0 == b.boot.0)) (a.number == b.number) same in
    let nodes = and_parts (a.sender.0 == b.sender.0) (a.boot.0 == b.boot.0) numbers.0 in
    let of : ℕ → ℕ → ℕ → MessageId = λ sender boot number.
    record { sender = record { 0 = sender }; boot = record { 0 = boot }; number = number } in
    ap (λ n. of n a.boot.0 a.number) (eqb-true a.sender.0 b.sender.0 nodes.0)
    ∙ ap (λ n. of b.sender.0 n a.number) (eqb-true a.boot.0 b.boot.0 nodes.1)
    ∙ ap (λ n. of b.sender.0 b.boot.0 n) (eqb-true a.number b.number numbers.1)

pub same_itself : (id : MessageId) → is_same id id ≡ true
same_itself id =
    and_from _ _ (and_from _ _ (eq-eqb id.sender.0 id.sender.0 refl) (eq-eqb id.boot.0 id.boot.0 refl)) (eq-eqb id.number id.number refl)

pub other_way : (a b : MessageId) → is_same a b ≡ false → is_same b a ≡ false
other_way a b differs = at (is_same b a) refl
  where
    at : (c : Bool) → is_same b a ≡ c → is_same b a ≡ false
    at true same =
        let there : is_same a b ≡ true = ap (λ id. is_same a id) (same_id b a same) ∙ same_itself a in cc
    at false same = same
