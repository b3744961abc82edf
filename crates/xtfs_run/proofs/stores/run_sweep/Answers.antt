use Rattle.std.proofs.Common.{◌≤◌, List, ℕ, length, subst, sym}
use Rattle.store_loading.proofs.Disks.{medium_of}
use Rattle.xtfs_run.proofs.Swept.{under}
use Rattle.xtfs_run.proofs.stores.run_sweep.Goals as goal

pub sweep_store-said-requires-clause-some : goal.sweep_store-said-requires-clause-some
sweep_store-said-requires-clause-some g c = subst (λ (key : List ℕ). 1 ≤ length key) (sym c.as_slice.ensures) c.requires.some

pub sweep_store-said-requires-clause-short : goal.sweep_store-said-requires-clause-short
sweep_store-said-requires-clause-short g c = subst (λ (key : List ℕ). length key ≤ 64) (sym c.as_slice.ensures) c.requires.short

pub returns : goal.returns
returns g c =
    let sweep = c.args.sweep.now in
    record {
      said = c.sweep_store-said.result.0;
      held = g.K.Sink.held c.sweep_store-said.new.out;
      sink = g.K.Sink.fault_count c.sweep_store-said.new.out;
      swept = under (medium_of g.D.Disk) c.as_slice.result.now sweep.key sweep.settings.times sweep.settings.limit _ _ c.sweep_store-said.result.0
          c.as_slice.ensures c.sweep_store-said.ensures.does;
      disk = c.sweep_store-said.ensures.disk;
      put = c.sweep_store-said.ensures.sink;
      clock = c.sweep_store-said.ensures.clock;
      closes = c.close.ensures;
    }
