use Rattle.std.proofs.Common.{rules, ◌≡◌, ◌∙◌, ℕ, ap, sym, arith, length, take, drop}
use Rattle.byteorder.specs.Endian.{big_number}
use Rattle.byteorder.specs.Numbers.{big_from-take}
use Rattle.xt_journal.specs.Format.{sign}
use Rattle.xt_journal.proofs.Found.{headed}
use Rattle.xt_journal.proofs.walk.find.Goals as goal

pub walk-requires-clause-headed : goal.walk-requires-clause-headed
walk-requires-clause-headed g c told =
    let D = g.D.Disk in
    let read = (D.kept c.args.disk.now).read in
    let first = c.in_ok-ahead.ensures.source in
    let second = c.in_ok-read.ensures.source ∙ first in
    let third = c.in_ok-read-2.ensures.source ∙ second in
    let first_bytes : c.read.new.buf ≡ sign = search rules in
    let signed : take 8 read ≡ sign =
    ap (λ d. take 8 (D.kept d).read) (sym first) ∙ ap (λ (n : ℕ). take n (D.kept c.in_ok-ahead.ahead.disk.now).read) (sym (ap length c.as_mut_slice.ensures.value))
    ∙ sym (c.in_ok-read.ensures.value told) ∙ first_bytes in
    let number : c.read-2.new.buf ≡ take 4 (drop 8 read) =
    c.in_ok-read-2.ensures.value told ∙ ap (λ (n : ℕ). take n (drop 8 (D.kept c.read.new.self.disk.now).read)) (ap length c.as_mut_slice-2.ensures.value)
    ∙ ap (λ d. take 4 (drop 8 (D.kept d).read)) second in
    let layout : big_number 4 (drop 8 read) ≡ 1 =
    sym (big_from-take 0 4 4 (drop 8 read) (omega arith)) ∙ ap (big_number 4) (sym number) ∙ sym c.read_u32-version.ensures ∙ c.if-version-ne-LAYOUT.false in
    let is = headed read (omega (arith, c.requires.long, c.requires.whole told)) signed layout in
    (is.0, ap (λ d. (D.kept d).read) third ∙ is.1)
