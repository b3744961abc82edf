use Rattle.std.proofs.Common.{◌≡◌, ◌+◌, ◌-◌, List, ℕ, length, take, drop, arith, ap, ◌∙◌}
use Rattle.xt_journal.proofs.Windows.{window_read}
use Rattle.xt_journal.proofs.ahead.ReadAhead.read.Goals as goal

pub returns-clause-value : goal.returns-clause-value
returns-clause-value g c told =
    let D = g.D.Disk in
    let ahead = c.hold.new.self in
    let len = length c.args.buf.now in
    let from = c.args.at - ahead.start in
    let size : from + len - from ≡ len = omega arith in
    c.copy_from_slice.ensures.after ∙ ap (λ (n : ℕ). take n (drop from c.as_slice.result.now)) size ∙ ap (λ (l : List ℕ). take len (drop from l)) c.as_slice.ensures.value
    ∙ window_read ahead.window.items (D.kept ahead.disk.now).read ahead.held ahead.start c.args.at len (ahead.value told) c.in_ok-hold.ensures.start c.in_ok-hold.ensures.end
    ∙ ap (λ d. take len (drop c.args.at (D.kept d).read)) c.in_ok-hold.ensures.source
