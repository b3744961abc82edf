use Rattle.schedule_maker.proofs.Formed.{generated_scheduled}
use Rattle.schedule_maker.proofs.generated_are_schedules.Goals as goal

pub returns : goal.returns
returns c = λ number size few. generated_scheduled number size few
