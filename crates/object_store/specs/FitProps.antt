-- A record is within its limits in one way at most.
use Rattle.std.specs.Prelude.{ℕ, ◌≡◌, ◌<◌, List, Option, Some, None, IfSome}
use Rattle.std.proofs.Common.{inl, inr, arith, ap}
use Rattle.std.proofs.Props.{props}
use Rattle.std.specs.List.{All}
use Rattle.xt_base.specs.declared.ids.NodeId.{NodeId}
use Rattle.xt_messages.specs.Limits.{FitsMembers, FitsMetaReq, FitsRegistryReq, FitsLogged, FitsRecord, IsObjectOrNone, IsOldObjectOrNone}
use Rattle.xt_messages.specs.declared.record.Record.{Record}
use Rattle.xt_messages.specs.declared.record.Record.TheVariants as kept
use Rattle.xt_messages.specs.declared.record.Logged.{Logged}
use Rattle.xt_messages.specs.declared.record.Logged.TheVariants as logged
use Rattle.xt_messages.specs.declared.meta.MetaReq.{MetaReq}
use Rattle.xt_messages.specs.declared.meta.MetaReq.TheVariants as ask
use Rattle.xt_messages.specs.declared.registry.RegistryReq.{RegistryReq}
use Rattle.xt_messages.specs.declared.registry.RegistryReq.TheVariants as wish

less_prop : (m n : ℕ) → IsProp (m < n)
less_prop m n = hlevel props

same_prop : (m n : ℕ) → IsProp (m ≡ n)
same_prop m n = hlevel props

object_prop : (object : ℕ) → IsProp (IsObjectOrNone object)
object_prop object (inl a) (inl b) = ap inl (less_prop _ _ a b)
object_prop object (inl a) (inr b) = absurd (omega arith)
object_prop object (inr a) (inl b) = absurd (omega arith)
object_prop object (inr a) (inr b) = ap inr (same_prop _ _ a b)

old_object_prop : (object : ℕ) → IsProp (IsOldObjectOrNone object)
old_object_prop object (inl a) (inl b) = ap inl (less_prop _ _ a b)
old_object_prop object (inl a) (inr b) = absurd (omega arith)
old_object_prop object (inr a) (inl b) = absurd (omega arith)
old_object_prop object (inr a) (inr b) = ap inr (same_prop _ _ a b)

meta_prop : (request : MetaReq) → IsProp (FitsMetaReq request)
meta_prop (ask.Mkdir path mode) = hlevel props
meta_prop _ = hlevel props

registry_prop : (request : RegistryReq) → IsProp (FitsRegistryReq request)
registry_prop (wish.Set node kind address expected) = hlevel props
registry_prop (wish.Get node) = hlevel props
registry_prop (wish.List kind after) = hlevel props
registry_prop (wish.Remove node expected) = hlevel props

logged_prop : (request : Logged) → IsProp (FitsLogged request)
logged_prop (logged.Meta user group request) = hlevel (props, meta_prop request)
logged_prop (logged.Registry request) = registry_prop request

nodes_prop : (nodes : Option (List NodeId)) → IsProp (IfSome nodes FitsMembers)
nodes_prop None = hlevel props
nodes_prop (Some nodes) = hlevel props

fits_prop : (rec : Record) → IsProp (FitsRecord rec)
fits_prop (kept.Update file update) = hlevel (props, object_prop)
fits_prop (kept.OldUpdate file update) = hlevel (props, object_prop, old_object_prop)
fits_prop (kept.Meta from number now nodes request) = hlevel (props, nodes_prop nodes, logged_prop request)
fits_prop _ = hlevel props

pub all_fit_prop : (records : List Record) → IsProp (All FitsRecord records)
all_fit_prop records = hlevel (props, fits_prop)
