use Rattle.xtfs_run.proofs.serving.run_osd.Goals as goal

pub returns : goal.returns
returns g c = record {
  said = c.serve_osd-said.result.0;
  held = g.K.Sink.held c.serve_osd-said.new.out;
  sink = g.K.Sink.fault_count c.serve_osd-said.new.out;
  served = c.serve_osd-said.ensures.job;
  cause = c.serve_osd-said.ensures.cause;
  put = c.serve_osd-said.ensures.sink;
  closes = c.close.ensures;
}
