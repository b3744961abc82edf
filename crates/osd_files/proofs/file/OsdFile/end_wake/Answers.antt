use Rattle.osd_files.specs.Views.{shown}
use Rattle.osd_files.proofs.Stepped.{whole_woken}
use Rattle.osd_files.proofs.file.OsdFile.end_wake.Goals as goal

pub invariant_of-self : goal.invariant_of-self
invariant_of-self c = whole_woken c.args.now (shown c.self.inside.parts) (shown c.end_wake.new.file) c.end_wake.ensures c.self.invariant
