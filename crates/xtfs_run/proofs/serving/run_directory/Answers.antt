use Rattle.xtfs_run.proofs.serving.run_directory.Goals as goal

pub returns : goal.returns
returns g c = record {
  said = c.serve_directory-said.result.0;
  held = g.K.Sink.held c.serve_directory-said.new.out;
  sink = g.K.Sink.fault_count c.serve_directory-said.new.out;
  served = c.serve_directory-said.ensures.job;
  cause = c.serve_directory-said.ensures.cause;
  put = c.serve_directory-said.ensures.sink;
  closes = c.close.ensures;
}
