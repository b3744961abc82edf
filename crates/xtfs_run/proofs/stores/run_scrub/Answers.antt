use Rattle.xtfs_run.proofs.stores.run_scrub.Goals as goal

pub returns : goal.returns
returns g c = record {
  said = c.scrub_store-said.result.0;
  put = g.K.Sink.held c.scrub_store-said.new.out;
  failed = g.K.Sink.fault_count c.scrub_store-said.new.out;
  worked = c.scrub_store-said.ensures;
  closes = c.close.ensures;
}
