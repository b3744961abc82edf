use Rattle.xtfs_run.proofs.serving.run_metadata.Goals as goal

pub returns : goal.returns
returns g c = record {
  said = c.serve_metadata-said.result.0;
  held = g.K.Sink.held c.serve_metadata-said.new.out;
  sink = g.K.Sink.fault_count c.serve_metadata-said.new.out;
  served = c.serve_metadata-said.ensures.job;
  cause = c.serve_metadata-said.ensures.cause;
  put = c.serve_metadata-said.ensures.sink;
  closes = c.close.ensures;
}
