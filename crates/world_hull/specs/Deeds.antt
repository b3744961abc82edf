-- what is done to the records of a node
use Rattle.world_spec.specs.World.{Deed, puts, loads, rewrites}
use Rattle.world_hull.specs.declared.past.Done.{Done}
use Rattle.world_hull.specs.declared.past.Done.TheVariants as done

abbrev pub deed_of : Done → Deed
deed_of (done.Puts rec) = puts rec.now
deed_of done.Loads = loads
deed_of (done.Rewrites keep) = rewrites keep.now
