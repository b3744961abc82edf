-- a text that is taken apart at its slashes
use Rattle.std.proofs.Common.{◌≡◌, ◌≢◌, ◌∙◌, ℕ, ◌<◌, List, [], ◌∷◌, ◌++◌, map, length, get_or, refl, sym, ap, arith, Bool, true, false, cond, append_assoc, suc, Bor}
use Rattle.std.specs.Prelude.{◌==◌, ◌&&◌, nat_le, Some, None}
use Rattle.std.specs.List.{list_all}
use Rattle.std.proofs.lemmas.Bool.Decides.{Decides-eqb}
use Rattle.volume_rows.specs.Paths.{Name, Path, is_name, in_front, parts_of, as_names, after_slash, path_in}

-- no slash is in a text
abbrev pub HasNoSlash : List ℕ → Type 0
HasNoSlash text = (i : ℕ) → i < length text → get_or text i 0 ≢ 47

-- a text without one is its one part
pub parts_alone : (text : List ℕ) → HasNoSlash text → parts_of text ≡ text ∷ []
parts_alone [] no_slash = refl
parts_alone (byte ∷ bytes) no_slash = go (byte == 47) refl (parts_alone bytes (λ i h. no_slash (suc i) (omega arith))) where
  go : (b : Bool) → (byte == 47) ≡ b → parts_of bytes ≡ bytes ∷ [] → cond b ([] ∷ parts_of bytes) (in_front byte (parts_of bytes)) ≡ (byte ∷ bytes) ∷ []
  go true e later = absurd (no_slash 0 (omega arith) ((Decides-eqb byte 47).0 e))
  go false e later = ap (in_front byte) later

-- what is before the first slash is the first part
pub parts_first : (part later : List ℕ) → HasNoSlash part → parts_of (part ++ 47 ∷ later) ≡ part ∷ parts_of later
parts_first [] later no_slash = refl
parts_first (byte ∷ bytes) later no_slash = go (byte == 47) refl (parts_first bytes later (λ i h. no_slash (suc i) (omega arith))) where
  go : (b : Bool) → (byte == 47) ≡ b → parts_of (bytes ++ 47 ∷ later) ≡ bytes ∷ parts_of later → cond b ([] ∷ parts_of (bytes ++ 47 ∷ later)) (in_front byte (parts_of (bytes ++ 47 ∷ later))) ≡ (byte ∷ bytes) ∷ parts_of later
  go true e rest = absurd (no_slash 0 (omega arith) ((Decides-eqb byte 47).0 e))
  go false e rest = ap (in_front byte) rest

-- the texts after references
abbrev pub texts : List (Bor (List ℕ)) → List Name
texts parts = map (λ part. part.now) parts

pub texts_push : (parts : List (Bor (List ℕ))) (part : Bor (List ℕ)) → texts (parts ++ part ∷ []) ≡ texts parts ++ part.now ∷ []
texts_push [] part = refl
texts_push (first ∷ parts) part = ap (λ (names : List Name). first.now ∷ names) (texts_push parts part)

-- one more part is taken off
pub part_taken : (parts later_parts : List (Bor (List ℕ))) (part : Bor (List ℕ)) (rest later : List ℕ) (all : List Name) → texts parts ++ parts_of rest ≡ all → later_parts ≡ parts ++ part ∷ [] → (rest ≡ part.now ++ 47 ∷ later) × HasNoSlash part.now → texts later_parts ++ parts_of later ≡ all
part_taken parts later_parts part rest later all so_far pushed cut =
    ap (λ (list : List (Bor (List ℕ))). texts list ++ parts_of later) pushed
    ∙ ap (λ (names : List Name). names ++ parts_of later) (texts_push parts part)
    ∙ append_assoc (texts parts) (part.now ∷ []) (parts_of later)
    ∙ ap (λ (names : List Name). texts parts ++ names) (sym (ap parts_of cut.0 ∙ parts_first part.now later cut.1))
    ∙ so_far

-- and the last one
pub last_taken : (parts later_parts : List (Bor (List ℕ))) (part : Bor (List ℕ)) (rest : List ℕ) (all : List Name) → texts parts ++ parts_of rest ≡ all → later_parts ≡ parts ++ part ∷ [] → part.now ≡ rest → HasNoSlash rest → texts later_parts ≡ all
last_taken parts later_parts part rest all so_far pushed is no_slash =
    ap texts pushed
    ∙ texts_push parts part
    ∙ ap (λ (names : List Name). texts parts ++ names) (ap (λ (text : List ℕ). text ∷ []) is ∙ sym (parts_alone rest no_slash))
    ∙ so_far

-- names are tested one after the other
pub all_named : (path : Path) (name : Name) (names : Path) (later : Bool) → path ≡ name ∷ names → is_name name ≡ true → later ≡ list_all is_name names → later ≡ list_all is_name path
all_named path name names later is named rest = rest ∙ ap (λ (b : Bool). b && list_all is_name names) (sym named) ∙ ap (list_all is_name) (sym is)

pub one_unnamed : (path : Path) (name : Name) (names : Path) → path ≡ name ∷ names → is_name name ≡ false → false ≡ list_all is_name path
one_unnamed path name names is named = ap (λ (b : Bool). b && list_all is_name names) (sym named) ∙ ap (list_all is_name) (sym is)

-- a text without a slash in front spells no path
pub not_a_path : (text : List ℕ) → ((rest : List ℕ) → text ≢ 47 ∷ rest) → None ≡ path_in text
not_a_path [] other = refl
not_a_path (byte ∷ bytes) other = go (byte == 47) refl where
  go : (b : Bool) → (byte == 47) ≡ b → None ≡ cond b (after_slash bytes) None
  go true e = absurd (other bytes (ap (λ (n : ℕ). n ∷ bytes) ((Decides-eqb byte 47).0 e)))
  go false e = refl

-- the root's, and one with names
pub root_path : (text rest : List ℕ) → text ≡ 47 ∷ rest → length rest ≡ 0 → Some [] ≡ path_in text
root_path text [] is none = ap path_in (sym is)
root_path text (byte ∷ bytes) is none = absurd (omega arith)

named_path : (text rest : List ℕ) → text ≡ 47 ∷ rest → false ≡ (length rest == 0) → as_names (parts_of rest) ≡ path_in text
named_path text [] is some = absurd (cc)
named_path text (byte ∷ bytes) is some = ap path_in (sym is)

pub path_named : (text rest : List ℕ) (names : Path) → text ≡ 47 ∷ rest → false ≡ (length rest == 0) → names ≡ parts_of rest → nat_le (length names) 16 ≡ true → list_all is_name names ≡ true → Some names ≡ path_in text
path_named text rest names is some parts few named =
    ap (λ (b : Bool). cond b (Some names) None) (sym named)
    ∙ ap (λ (b : Bool). cond (b && list_all is_name names) (Some names) None) (sym few)
    ∙ ap as_names parts
    ∙ named_path text rest is some

-- no names are an empty path
pub no_names : (names : List (Bor (List ℕ))) → length names ≡ 0 → map (λ name. name.now) names ≡ []
no_names [] none = refl
no_names (name ∷ names) none = absurd (omega arith)
