use Rattle.mrc_core.proofs.Fitting.{can_handle, can_hear, can_take}
use Rattle.mrc_core.proofs.what_fits_can_be_handled.Goals as goal

pub returns : goal.returns
returns c = record { messages = can_hear; events = can_handle; records = can_take }
