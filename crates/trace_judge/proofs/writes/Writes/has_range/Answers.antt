use Rattle.std.proofs.Common.{◌≡◌, ℕ, subst}
use Rattle.time_line.specs.Content.{range_of}
use Rattle.judging.specs.Pass.{is_same}
use Rattle.trace_judge.proofs.Put.{same_bytes_told}
use Rattle.trace_judge.proofs.writes.Writes.has_range.Goals as goal

pub returns : goal.returns
returns c = λ content tells.
    subst (λ (place : ℕ). c.shows.result ≡ is_same c.args.bytes.now (range_of content place c.args.len)) c.place_of-place.ensures.place
    (same_bytes_told c.shows.result c.args.bytes.now (range_of content c.place_of-place.result c.args.len) (c.shows.ensures content tells))
