use Rattle.std.proofs.Common.{◌≡◌, ◌+◌, ◌<◌, ◌∙◌, sym, subst, arith, Option, ℕ}
use Rattle.journal_areas.specs.declared.superblock.Superblock.{Superblock}
use Rattle.journal_areas.specs.Superblocks.{superblock_in, IsSound}
use Rattle.journal_areas.proofs.Reaching.{counts_inside}
use Rattle.xt_journal.specs.Ahead.{size_of}
use Rattle.xt_journal.specs.Nexts.{HasRecord, payload_at}
use Rattle.xt_journal.specs.Parsed.{IsRead}
use Rattle.xt_journal.proofs.Found.{one_read, open_read, shut_read}
use Rattle.xt_journal.proofs.Located.{located_later, located_open, located_shut, none_within, within_later, within-push}
use Rattle.xt_journal.proofs.walk.walk.Goals as goal

pub loop-extents-preserved-then-kind-ne-SUPERBLOCK :
    goal.loop-extents-preserved-then-kind-ne-SUPERBLOCK
loop-extents-preserved-then-kind-ne-SUPERBLOCK g c =
    let D = g.D.Disk in
    let l = c.loop-extents in
    let old = l.invariant in
    let room = rw c.in-Record.is at c.in_ok-next_at.ensures.room in
    let inside : l.end + (5 + c.in-Record.len) < size_of {g = D} c.args.ahead.now = omega (arith, room.1, old.size) in
    record {
      source = c.in_ok-next_at.ensures.source ∙ old.source;
      size = c.in_ok-next_at.ensures.size ∙ old.size;
      low = omega (arith, old.low);
      inside = inside;
      located = located_later l.superblock l.end (l.end + (5 + c.in-Record.len)) (omega arith) (omega (arith, inside)) old.located;
      within = within-push l.end c.in-Record.len l.extents.items c.push.new.self.items old.low old.within c.in_ok-push-in-Record.ensures.items;
      read = λ told.
          let is = rw c.in-Record.is at (c.in_ok-next_at.ensures.next told) in
          one_read (D.kept c.args.ahead.now.disk.now).read l.superblock l.end l.extents.items (old.read told) c.in-Record.len c.in-Record.kind
          (subst (λ d. HasRecord (D.kept d).read l.end c.in-Record.len c.in-Record.kind) old.source is) c.if-kind-ne-SUPERBLOCK.true c.push.new.self.items c.in_ok-push-in-Record.ensures.items;
    }

pub loop-extents-preserved-in-None : goal.loop-extents-preserved-in-None
loop-extents-preserved-in-None g c =
    let D = g.D.Disk in
    let l = c.loop-extents in
    let old = l.invariant in
    let room = rw c.in-Record.is at c.in_ok-next_at.ensures.room in
    let fit = rw c.in-Some.is at c.in_ok-met-in-Record.ensures.fit in
    let inside : l.end + 56 < size_of {g = D} c.args.ahead.now = omega (arith, room.1, old.size, fit.1) in
    record {
      source = c.in_ok-met-in-Record.ensures.source ∙ c.in_ok-next_at.ensures.source ∙ old.source;
      size = c.in_ok-met-in-Record.ensures.size ∙ c.in_ok-next_at.ensures.size ∙ old.size;
      low = omega (arith, old.low);
      inside = inside;
      located = located_shut c.in-Some.met l.end fit.2 old.low (sym c.in-None.ensures) (omega (arith, inside));
      within = within_later l.end (l.end + 56) l.extents.items (omega arith) old.within;
      read = λ told.
          let is = rw c.in-Record.is at (c.in_ok-next_at.ensures.next told) in
          let there = c.in_ok-next_at.ensures.source ∙ old.source in
          let says = rw c.in-Some.is at (c.in_ok-met-in-Record.ensures.says told) in
          shut_read (D.kept c.args.ahead.now.disk.now).read l.end l.extents.items c.in-Record.len c.in-Record.kind
          (subst (λ (known : Option Superblock). IsRead (D.kept c.args.ahead.now.disk.now).read known l.end l.extents.items) fit.0 (old.read told))
          (subst (λ d. HasRecord (D.kept d).read l.end c.in-Record.len c.in-Record.kind) old.source is) c.if-kind-ne-SUPERBLOCK.false fit.1 c.in-Some.met
          (subst (λ d. c.in-Some.met ≡ superblock_in l.end (payload_at (D.kept d).read l.end c.in-Record.len)) there says)
          (subst (λ (n : ℕ). IsSound n c.in-Some.met) (c.in_ok-next_at.ensures.size ∙ old.size ∙ c.requires.whole told) fit.3) (sym c.in-None.ensures);
    }

pub loop-extents-preserved : goal.loop-extents-preserved
loop-extents-preserved g c =
    let D = g.D.Disk in
    let l = c.loop-extents in
    let old = l.invariant in
    let fit = rw c.in-Some.is at c.in_ok-met-in-Record.ensures.fit in
    let slot = c.in-Some-current.slot in
    let none = c.new-extents-in-Some-current.result.items in
    let counts = sym c.in-Some-current.ensures in
    let sound = subst (λ (n : ℕ). IsSound n c.in-Some.met) (c.in_ok-next_at.ensures.size ∙ old.size) fit.3 in
    let site = counts_inside (size_of {g = D} c.args.ahead.now) c.in-Some.met slot sound counts in
    record {
      source = c.in_ok-met-in-Record.ensures.source ∙ c.in_ok-next_at.ensures.source ∙ old.source;
      size = c.in_ok-met-in-Record.ensures.size ∙ c.in_ok-next_at.ensures.size ∙ old.size;
      low = omega (arith, site.0, fit.2, old.low);
      inside = site.1;
      located = located_open (size_of {g = D} c.args.ahead.now) c.in-Some.met slot sound counts c.requires.small;
      within = none_within slot.place none c.new-extents-in-Some-current.ensures.items;
      read = λ told.
          let is = rw c.in-Record.is at (c.in_ok-next_at.ensures.next told) in
          let there = c.in_ok-next_at.ensures.source ∙ old.source in
          let says = rw c.in-Some.is at (c.in_ok-met-in-Record.ensures.says told) in
          open_read (D.kept c.args.ahead.now.disk.now).read l.end l.extents.items c.in-Record.len c.in-Record.kind
          (subst (λ (known : Option Superblock). IsRead (D.kept c.args.ahead.now.disk.now).read known l.end l.extents.items) fit.0 (old.read told))
          (subst (λ d. HasRecord (D.kept d).read l.end c.in-Record.len c.in-Record.kind) old.source is) c.if-kind-ne-SUPERBLOCK.false fit.1 c.in-Some.met
          (subst (λ d. c.in-Some.met ≡ superblock_in l.end (payload_at (D.kept d).read l.end c.in-Record.len)) there says)
          (subst (λ (n : ℕ). IsSound n c.in-Some.met) (c.requires.whole told) sound) slot counts none c.new-extents-in-Some-current.ensures.items;
    }
