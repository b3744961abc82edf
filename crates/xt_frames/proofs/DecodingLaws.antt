-- A frame that is read stands at the front, and a frame at the front is read, whatever follows it.
use Rattle.std.proofs.Common.{◌≡◌, ℕ, suc, ◌+◌, ◌-◌, ◌≤◌, Bool, true, false, cond, eqb, ltb, List, [], ◌∷◌, ◌++◌, length, take, drop, Result, Ok, Err, refl, sym, ap, subst, ◌∙◌, append_assoc, arith}
use Rattle.std.specs.Prelude.{IfOk}
use Rattle.std.proofs.lemmas.Bool.{ltb-false, le-ltb, eqb-true}
use Rattle.std.proofs.lemmas.List.{append-nil, nil_from_length, take_at, drop_at, take-append-drop, length-append, length-take}
use Rattle.xt_base.specs.FieldLimits.{AreBytes}
use Rattle.xt_messages.specs.Limits.{FitsMessage}
use Rattle.xt_messages.specs.declared.message.Msg.{Msg}
use Rattle.xt_fields.specs.declared.fault.FieldErr.{FieldErr}
use Rattle.xt_fields.specs.BasicFields.{word_bytes, byte_at, word_at}
use Rattle.xt_fields.proofs.BasicLaws.{word_field, word-length, bytes-take}
use Rattle.xt_frames.specs.declared.fault.FrameErr.{FrameErr}
use Rattle.xt_frames.specs.declared.fault.FrameErr.TheVariants as fault
use Rattle.xt_frames.specs.Frames.{frame_kind, content_of, frame_of}
use Rattle.xt_frames.specs.PayloadFields.{message_at}
use Rattle.xt_frames.specs.Decoding.{◌>>=◌, as_frame, first_word, cut_of, part_of, is_kind, kind_at, head_at, whole, message_of, decoded, Gives}
use Rattle.xt_frames.proofs.PayloadLaws.{addressed, message_takes, message_again, kind_fits}
use Rattle.xt_frames.proofs.LengthLaws.{content_len, frame_bound}

-- ---- steps that did not fail

bind_ok : {A B : Type 0} (r : Result A FrameErr) (f : A → Result B FrameErr) (y : B) → (r >>= f) ≡ Ok y → (x : A) × (r ≡ Ok x) × (f x ≡ Ok y)
bind_ok (Ok x) f y e = (x, refl, e)
bind_ok (Err d) f y e = absurd cc

went_on : {A : Type 0} (b : Bool) (d : FrameErr) (r : Result A FrameErr) (y : A) → cond b (Err d) r ≡ Ok y → (b ≡ false) × (r ≡ Ok y)
went_on true d r y e = absurd cc
went_on false d r y e = (refl, e)

passed : {A : Type 0} (b : Bool) (d : FrameErr) (r : Result A FrameErr) (y : A) → cond b r (Err d) ≡ Ok y → (b ≡ true) × (r ≡ Ok y)
passed true d r y e = (refl, e)
passed false d r y e = absurd cc

framed : {A : Type 0} (r : Result A FieldErr) (y : A) → as_frame r ≡ Ok y → r ≡ Ok y
framed (Ok x) y e = cc
framed (Err d) y e = absurd cc

abbrev read_all : {A : Type 0} → A → List ℕ → Result (A × List ℕ) FieldErr
read_all a rest = Ok (a, rest)

whole_ok : {A : Type 0} (r : Result (A × List ℕ) FieldErr) (y : A) → whole r ≡ Ok y → r ≡ Ok (y, [])
whole_ok {A} (Ok x) y e =
    let g = passed (eqb (length x.1) 0) fault.Field (Ok x.0) y e in
    let nothing : x.1 ≡ [] = nil_from_length x.1 (eqb-true _ _ g.0) in
    let value : x.0 ≡ y = cc in
    ap (λ (rest : List ℕ). read_all x.0 rest) nothing ∙ ap (λ (a : A). read_all a []) value
whole_ok (Err d) y e = absurd cc

abbrev framed_as : {A : Type 0} → A → Result A FrameErr
framed_as x = Ok x

-- ---- what comes after the length

record Part (bytes part : List ℕ) : Type 0 where
  rest : List ℕ
  stands : bytes ≡ word_bytes (4 + length part) ++ (part ++ rest)
  all : AreBytes part

pair_is : (x y : ℕ × List ℕ) → framed_as x ≡ framed_as y → x ≡ y
pair_is x y e = cc

read_is : (x y : Msg × ℕ) → framed_as x ≡ framed_as y → x ≡ y
read_is x y e = cc

frame_is : (x y : List ℕ) → framed_as x ≡ framed_as y → x ≡ y
frame_is x y e = cc

part_takes : (bytes part : List ℕ) → AreBytes bytes → part_of bytes ≡ Ok part → Part bytes part
unfolding part_of first_word cut_of
part_takes bytes part all e =
    let a = bind_ok (first_word bytes) (λ len. cut_of len.0 bytes) part e in
    let g0 = went_on (ltb (length bytes) 4) fault.Truncated (as_frame (word_at bytes)) a.0 a.1 in
    let w = word_field.takes bytes a.0 all (framed (word_at bytes) a.0 g0.1) in
    let n = a.0.0 in
    let g1 = went_on (ltb 1048576 n) fault.TooLong (cond (ltb (length bytes) n) (Err fault.Truncated) (cond (ltb n 14) (Err fault.Field) (Ok (take (n - 4) (drop 4 bytes))))) part a.2 in
    let g2 = went_on (ltb (length bytes) n) fault.Truncated (cond (ltb n 14) (Err fault.Field) (Ok (take (n - 4) (drop 4 bytes)))) part g1.1 in
    let g3 = went_on (ltb n 14) fault.Field (Ok (take (n - 4) (drop 4 bytes))) part g2.1 in
    let long : n ≤ length bytes = ltb-false _ _ g2.0 in
    let enough : 14 ≤ n = ltb-false _ _ g3.0 in
    let behind : drop 4 bytes ≡ a.0.1 = ap (drop 4) w.parts ∙ drop_at (word_bytes n) a.0.1 4 (word-length n) in
    let is_part : take (n - 4) a.0.1 ≡ part = ap (take (n - 4)) (sym behind) ∙ frame_is (take (n - 4) (drop 4 bytes)) part g3.1 in
    let total : length bytes ≡ 4 + length a.0.1 = ap length w.parts ∙ omega (arith, length-append (word_bytes n) a.0.1, word-length n) in
    let len : length (take (n - 4) a.0.1) ≡ n - 4 = omega (arith, length-take (n - 4) a.0.1) in
    let size : 4 + length part ≡ n = omega (arith, ap length is_part) in
    record {
      rest = drop (n - 4) a.0.1;
      stands =
          w.parts ∙ ap (λ (t : List ℕ). word_bytes n ++ t) (sym (take-append-drop (n - 4) a.0.1))
          ∙ ap (λ (t : List ℕ). word_bytes n ++ (t ++ drop (n - 4) a.0.1)) is_part
          ∙ ap (λ (k : ℕ). word_bytes k ++ (part ++ drop (n - 4) a.0.1)) (sym size);
      all = subst AreBytes is_part (bytes-take (n - 4) a.0.1 w.left);
    }

-- ---- the version, the kind and the fields

head_takes : (part : List ℕ) (x : ℕ × List ℕ) → AreBytes part → head_at part ≡ Ok x → (part ≡ 2 ∷ x.0 ∷ x.1) × AreBytes x.1
unfolding head_at kind_at byte_at
head_takes [] x all e = absurd cc
head_takes (v ∷ []) x all e = let g = passed (eqb v 2) fault.Version (Err fault.Field) x e in absurd cc
head_takes (v ∷ k ∷ rest) x all e =
    let g = passed (eqb v 2) fault.Version (cond (is_kind k) (Ok (k, rest)) (Err fault.Kind)) x e in
    let h = passed (is_kind k) fault.Kind (Ok (k, rest)) x g.1 in
    let version : v ≡ 2 = eqb-true v 2 g.0 in
    let number : k ≡ x.0 = ap (λ (p : ℕ × List ℕ). p.0) (pair_is (k, rest) x h.1) in
    let others : rest ≡ x.1 = ap (λ (p : ℕ × List ℕ). p.1) (pair_is (k, rest) x h.1) in
    (cc, subst AreBytes others (λ i. all (suc (suc i))))

content_takes : (part : List ℕ) (msg : Msg) → AreBytes part → message_of part ≡ Ok msg → (part ≡ content_of msg) × FitsMessage msg
unfolding message_of
content_takes part msg all e =
    let a = bind_ok (head_at part) (λ kind. whole (message_at kind.0 kind.1)) msg e in
    let h = head_takes part a.0 all a.1 in
    let t = message_takes a.0.0 a.0.1 (msg, []) h.1 (whole_ok (message_at a.0.0 a.0.1) msg a.2) in
    (h.0 ∙ ap (λ (x : List ℕ). 2 ∷ x) (t.parts ∙ append-nil (frame_kind msg.list msg.payload ∷ addressed msg)), t.within)

pub frame_takes : (bytes : List ℕ) (x : Msg × ℕ) → AreBytes bytes → decoded bytes ≡ Ok x
    → FitsMessage x.0 × (x.1 ≡ length (frame_of x.0)) × ((rest : List ℕ) × (bytes ≡ frame_of x.0 ++ rest))
unfolding decoded
frame_takes bytes x all e =
    let a = bind_ok (part_of bytes) (λ part. message_of part >>= λ msg. Ok (msg, 4 + length part)) x e in
    let b = bind_ok (message_of a.0) (λ msg. Ok (msg, 4 + length a.0)) x a.2 in
    let p = part_takes bytes a.0 all a.1 in
    let c = content_takes a.0 b.0 p.all b.1 in
    let size : 4 + length a.0 ≡ length (frame_of b.0) =
    omega (arith, ap length c.0, length-append (word_bytes (4 + length (content_of b.0))) (content_of b.0), word-length (4 + length (content_of b.0)))
    in
    let stands : bytes ≡ frame_of b.0 ++ p.rest =
    p.stands ∙ ap (λ (t : List ℕ). word_bytes (4 + length t) ++ (t ++ p.rest)) c.0
    ∙ sym (append_assoc (word_bytes (4 + length (content_of b.0))) (content_of b.0) p.rest)
    in
    let read : Msg × ℕ = (b.0, 4 + length a.0) in
    subst (λ (y : Msg × ℕ). FitsMessage y.0 × (y.1 ≡ length (frame_of y.0)) × ((rest : List ℕ) × (bytes ≡ frame_of y.0 ++ rest))) (read_is read x b.2)
    (c.1, size, (p.rest, stands))

pub is_found : (bytes : List ℕ) (r : Result (Msg × ℕ) FrameErr) → AreBytes bytes → Gives (λ x. x) r (decoded bytes)
    → IfOk r (λ x. FitsMessage x.0 × (x.1 ≡ length (frame_of x.0)) × ((rest : List ℕ) × (bytes ≡ frame_of x.0 ++ rest)))
is_found bytes (Ok x) all given = frame_takes bytes x all given
is_found bytes (Err e) all given = tt

-- ---- what is written is read again

part_again : (content rest : List ℕ) → 10 ≤ length content → 4 + length content ≤ 1048576 → part_of ((word_bytes (4 + length content) ++ content) ++ rest) ≡ Ok content
unfolding part_of first_word cut_of
part_again content rest enough short =
    let n = 4 + length content in
    let bytes = word_bytes n ++ (content ++ rest) in
    let total : length bytes ≡ n + length rest = omega (arith, length-append (word_bytes n) (content ++ rest), length-append content rest, word-length n) in
    let t0 : ltb (length bytes) 4 ≡ false = le-ltb _ _ (omega arith) in
    let w : word_at bytes ≡ Ok (n, content ++ rest) = word_field.again n (content ++ rest) (omega arith) in
    let t1 : ltb 1048576 n ≡ false = le-ltb _ _ short in
    let t2 : ltb (length bytes) n ≡ false = le-ltb _ _ (omega arith) in
    let t3 : ltb n 14 ≡ false = le-ltb _ _ (omega arith) in
    let d : drop 4 bytes ≡ content ++ rest = drop_at (word_bytes n) (content ++ rest) 4 (word-length n) in
    let k : take (n - 4) (content ++ rest) ≡ content = take_at content rest (n - 4) (omega arith) in
    ap part_of (append_assoc (word_bytes n) content rest) ∙ rw (t0, w, t1, t2, t3, d, k) refl

content_again : (msg : Msg) → FitsMessage msg → message_of (content_of msg) ≡ Ok msg
unfolding message_of head_at kind_at byte_at
content_again msg fits =
    let number = kind_fits msg.list msg.payload in
    let read : message_at (frame_kind msg.list msg.payload) (addressed msg) ≡ Ok (msg, []) = ap (message_at (frame_kind msg.list msg.payload)) (sym (append-nil (addressed msg))) ∙ message_again msg [] fits in
    rw (number, read) refl

pub frame_again : (msg : Msg) (rest : List ℕ) → FitsMessage msg → decoded (frame_of msg ++ rest) ≡ Ok (msg, length (frame_of msg))
unfolding decoded
frame_again msg rest fits =
    let len = content_len msg fits in
    let part = part_again (content_of msg) rest (omega arith) (omega (arith, frame_bound msg fits)) in
    let size : 4 + length (content_of msg) ≡ length (frame_of msg) =
    omega (arith, length-append (word_bytes (4 + length (content_of msg))) (content_of msg), word-length (4 + length (content_of msg)))
    in
    rw (part, content_again msg fits) (ap (λ (n : ℕ). framed_as (msg, n)) size)

pub is_read : (bytes : List ℕ) (r : Result (Msg × ℕ) FrameErr) → Gives (λ x. x) r (decoded bytes) → (msg : Msg) (rest : List ℕ) → FitsMessage msg → bytes ≡ frame_of msg ++ rest
    → Gives (λ x. x) r (Ok (msg, length (frame_of msg)))
is_read bytes r given msg rest fits e =
    subst (λ (read : Result (Msg × ℕ) FrameErr). Gives (λ x. x) r read) (ap decoded e ∙ frame_again msg rest fits) given

-- ---- what is encoded

pub begun : (start first after content : List ℕ) → start ≡ [] → first ≡ start ++ word_bytes 0 → after ≡ first ++ content → after ≡ word_bytes 0 ++ content
begun start first after content a b c = c ∙ ap (λ (t : List ℕ). t ++ content) (b ∙ ap (λ (t : List ℕ). t ++ word_bytes 0) a)

pub room : (written : List ℕ) (msg : Msg) → FitsMessage msg → written ≡ word_bytes 0 ++ content_of msg → (4 ≤ length written) × (length written ≡ 4 + length (content_of msg)) × (length written ≤ 1048576)
room written msg fits e =
    let total : length written ≡ 4 + length (content_of msg) = ap length e ∙ omega (arith, length-append (word_bytes 0) (content_of msg), word-length 0) in
    (omega arith, total, omega (arith, content_len msg fits, frame_bound msg fits))

pub is_frame : (written frame : List ℕ) (msg : Msg) → FitsMessage msg → written ≡ word_bytes 0 ++ content_of msg → frame ≡ word_bytes (length written) ++ drop 4 written → frame ≡ frame_of msg
is_frame written frame msg fits e made =
    let r = room written msg fits e in
    let behind : drop 4 written ≡ content_of msg = ap (drop 4) e ∙ drop_at (word_bytes 0) (content_of msg) 4 (word-length 0) in
    made ∙ ap (λ (t : List ℕ). word_bytes (length written) ++ t) behind ∙ ap (λ (n : ℕ). word_bytes n ++ content_of msg) r.1
