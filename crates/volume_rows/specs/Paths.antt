-- paths as lists of names
use Rattle.std.specs.Prelude.{ℕ, Bool, true, false, ◌&&◌, ◌==◌, not, nat_le, if◌then◌else◌, Option, Some, None, List, [], ◌∷◌, length}
use Rattle.std.specs.List.{list_all, list_any}
use Rattle.std.specs.Str.{bytes_eq}
use Rattle.std.specs.Ordering.{nat_cmp}
use Rattle.std.specs.Cmp.Lexicographic.{pointwise, slice_cmp}
use Rattle.std.specs.declared.cmp.Ordering.{Ordering}

-- a name: its bytes
abbrev pub Name : Type 0
Name = List ℕ

-- a path: its names, from the volume down; that of the root has none
abbrev pub Path : Type 0
Path = List Name

-- the byte between names
abbrev pub slash : ℕ
slash = 47

-- A name has 1 to 255 bytes, none of them 0, and is neither one dot nor two. It has no slash, since slashes part names.
abbrev pub is_name : Name → Bool
is_name name =
    nat_le 1 (length name) && nat_le (length name) 255 && not (list_any (λ byte. byte == 0) name)
    && not (bytes_eq name (46 ∷ [])) && not (bytes_eq name (46 ∷ 46 ∷ []))

-- one byte more in front of the first part
abbrev pub in_front : ℕ → List Name → List Name
in_front byte [] = (byte ∷ []) ∷ []
in_front byte (part ∷ parts) = (byte ∷ part) ∷ parts

-- the parts of a text between slashes
abbrev pub parts_of : List ℕ → List Name
parts_of [] = [] ∷ []
parts_of (byte ∷ bytes) = if byte == slash then [] ∷ parts_of bytes else in_front byte (parts_of bytes)

-- at most 16 names
abbrev pub as_names : List Name → Option Path
as_names parts = if nat_le (length parts) 16 && list_all is_name parts then Some parts else None

-- what a slash is followed by: nothing in the root's path, else names with slashes between them
abbrev pub after_slash : List ℕ → Option Path
after_slash [] = Some []
after_slash (byte ∷ bytes) = as_names (parts_of (byte ∷ bytes))

-- the path that a text spells, if it spells one
abbrev pub path_in : List ℕ → Option Path
path_in [] = None
path_in (byte ∷ bytes) = if byte == slash then after_slash bytes else None

-- whether two paths are one
abbrev pub same_path : Path → Path → Bool
same_path a b = pointwise bytes_eq a b

-- paths are ordered by their names, and a name by its bytes: a directory comes before what is in it
abbrev pub path_cmp : Path → Path → Ordering
path_cmp a b = slice_cmp (slice_cmp nat_cmp) a b

-- whether a path is another one or below it
abbrev pub is_within : Path → Path → Bool
is_within [] path = true
is_within (name ∷ names) [] = false
is_within (name ∷ names) (first ∷ rest) = bytes_eq name first && is_within names rest

-- the path of the directory that has this path in it
abbrev pub parent_of : Path → Path
parent_of [] = []
parent_of (name ∷ []) = []
parent_of (name ∷ next ∷ names) = name ∷ parent_of (next ∷ names)

-- the name of a path in a directory, if it is right in it
abbrev pub name_in : Path → Path → Option Name
name_in [] [] = None
name_in [] (name ∷ []) = Some name
name_in [] (name ∷ below ∷ names) = None
name_in (outer ∷ outers) [] = None
name_in (outer ∷ outers) (name ∷ names) = if bytes_eq outer name then name_in outers names else None
