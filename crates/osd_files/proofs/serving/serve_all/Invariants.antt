use Rattle.std.proofs.Common.{◌≡◌, List, length}
use Rattle.std.specs.List.{fold, AllByRecursion}
use Rattle.std.specs.Vec.Iter.{into_iter_items, into_iter_len}
use Rattle.xt_messages.specs.declared.file.FileHead.{FileHead}
use Rattle.xt_messages.specs.declared.file.ObjectVersion.{ObjectVersion}
use Rattle.xt_messages.specs.declared.record.Record.{Record}
use Rattle.xt_protocol.specs.Asks.{serves_all, serves_waiting}
use Rattle.osd_invariants.specs.OpenAsks.{IsWithinLimits}
use Rattle.osd_files.specs.Serves.{OnlyServes, ground_at, served_in}
use Rattle.osd_files.specs.Views.{shown}
use Rattle.osd_files.proofs.serving.serve_all.Given as goal

-- what serving those that are left gives is what serving all gives
abbrev pub invariant-loop-ask : goal.invariant-loop-ask
invariant-loop-ask g l =
    let agrees = g.B.Bodies.agrees in
    let old = shown l.fn.file in
    let left = into_iter_items l.ask-iterator in
    record {
      rest : OnlyServes old (shown l.file);
      all : (records : List Record) → agrees l.bodies records → (own : FileHead) (held : List ObjectVersion)
          → fold (serves_waiting (ground_at old records own held)) (served_in (shown l.file) l.served) left
          ≡ serves_all (ground_at old records own held) old.state.primary old.state.asks.waiting;
      fit : AllByRecursion IsWithinLimits left;
      count : into_iter_len l.ask-iterator ≡ length left;
      later : (records : List Record) → agrees l.bodies records → agrees l.fn.bodies records;
      sound : g.B.Bodies.fault_count l.bodies ≡ g.B.Bodies.fault_count l.fn.bodies;
    }
