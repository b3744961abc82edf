-- the orders of epochs, stamps and versions, and which versions are held
use Rattle.std.specs.Prelude.{Bool, ◌&&◌, ◌||◌, ◌==◌, nat_lt, not, if◌then◌else◌, List, [], ◌∷◌, filter, fold}
use Rattle.std.specs.List.{list_any}
use Rattle.xt_base.specs.declared.ids.Epoch.{Epoch}
use Rattle.xt_base.specs.declared.ids.Stamp.{Stamp}
use Rattle.xt_messages.specs.declared.file.ObjectVersion.{ObjectVersion}

-- whether two epochs are equal
abbrev pub is_epoch : Epoch → Epoch → Bool
is_epoch a b = a.number == b.number && a.node.0 == b.node.0

-- epochs are ordered by number, then node
abbrev pub is_earlier : Epoch → Epoch → Bool
is_earlier a b = nat_lt a.number b.number || a.number == b.number && nat_lt a.node.0 b.node.0

-- whether two stamps are equal
abbrev pub is_stamp : Stamp → Stamp → Bool
is_stamp a b = (a.epoch.number == b.epoch.number) && (a.epoch.node.0 == b.epoch.node.0) && (a.count == b.count)

-- stamps are ordered by epoch, then count
abbrev pub is_below : Stamp → Stamp → Bool
is_below a b = is_earlier a.epoch b.epoch || is_epoch a.epoch b.epoch && nat_lt a.count b.count

-- whether two are the same version of the same object
abbrev pub is_version : ObjectVersion → ObjectVersion → Bool
is_version a b = a.object == b.object && is_stamp a.version b.version

-- versions are ordered by object, then stamp
abbrev pub comes_before : ObjectVersion → ObjectVersion → Bool
comes_before a b = nat_lt a.object b.object || a.object == b.object && is_below a.version b.version

-- whether this version is among these
abbrev pub has_version : List ObjectVersion → ObjectVersion → Bool
has_version versions v = list_any (is_version v) versions

-- these without that version
abbrev pub without_version : List ObjectVersion → ObjectVersion → List ObjectVersion
without_version versions v = filter (λ other. not (is_version v other)) versions

-- The held versions with this one in its place: they rise, each once.
unfoldable pub with_held : List ObjectVersion → ObjectVersion → List ObjectVersion
with_held [] v = v ∷ []
with_held (h ∷ hs) v =
    if is_version h v then h ∷ hs
    else if comes_before v h then v ∷ h ∷ hs
    else h ∷ with_held hs v

-- these versions, held one after the other
abbrev pub held_from : List ObjectVersion → List ObjectVersion
held_from versions = fold with_held [] versions
