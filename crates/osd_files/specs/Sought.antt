-- the searches for what peers lack, as the own replica changes
use Rattle.std.specs.Prelude.{Bool, true, false, List, []}
use Rattle.peer_searches.specs.declared.searches.Search.{Search}

-- they begin again where it has changed
abbrev pub begun_anew : Bool → List Search → List Search
begun_anew true searches = []
begun_anew false searches = searches
