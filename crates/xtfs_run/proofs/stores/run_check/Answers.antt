use Rattle.xtfs_run.proofs.stores.run_check.Goals as goal

pub returns : goal.returns
returns g c = record {
  said = c.check_store-said.result.0;
  put = g.K.Sink.held c.check_store-said.new.out;
  failed = g.K.Sink.fault_count c.check_store-said.new.out;
  worked = c.check_store-said.ensures;
  closes = c.close.ensures;
}
