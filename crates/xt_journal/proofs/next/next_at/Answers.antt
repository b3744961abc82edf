use Rattle.std.proofs.Common.{◌+◌, ap, ◌∙◌, arith, length, refl}
use Rattle.xt_journal.proofs.Nexts.{read_as, record_there}
use Rattle.xt_journal.proofs.next.next_at.Goals as goal

pub returns-clause-next : goal.returns-clause-next
returns-clause-next g c told =
    let D = g.D.Disk in
    let gate = c.args.gate in
    record_there (D.kept c.args.ahead.now.disk.now).read c.read.new.buf c.read-2.new.buf c.read-3.new.buf gate c.read_u32-len.result
    (read_as (λ d. (D.kept d).read) gate 1 (c.in_ok-read.ensures.value told) (ap length c.as_mut_slice.ensures.value) refl) c.if-first.false
    (read_as (λ d. (D.kept d).read) (gate + 1) 4 (c.in_ok-read-2.ensures.value told) (ap length c.as_mut_slice-2.ensures.value) c.in_ok-read.ensures.source)
    c.in_ok-read-2.ensures.bytes c.read_u32-len.ensures (omega arith) (omega (arith, c.requires.whole told))
    (read_as (λ d. (D.kept d).read) (gate + 5) 1 (c.in_ok-read-3.ensures.value told) (ap length c.as_mut_slice-3.ensures.value)
    (c.in_ok-read-2.ensures.source ∙ c.in_ok-read.ensures.source))
