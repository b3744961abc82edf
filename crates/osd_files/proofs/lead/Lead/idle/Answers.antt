use Rattle.osd_files.proofs.lead.Lead.idle.Goals as goal

pub invariant_of-self : goal.invariant_of-self
invariant_of-self c = (c.idle.ensures.stands c.self.inside.node c.self.inside.file c.self.invariant.0, c.idle.ensures.counted)
