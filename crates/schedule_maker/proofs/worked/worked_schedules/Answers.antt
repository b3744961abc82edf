use Rattle.std.proofs.Common.{refl}
use Rattle.std.specs.Fmt.{digits}
use Rattle.schedule_text.specs.LineText.{line_words, line_text}
use Rattle.schedule_text.specs.CallText.{call_name, call_words}
use Rattle.schedule_maker.specs.Draws.{next_state, drawn_in}
use Rattle.schedule_maker.specs.Generated.{opening, restart_before, pause_before, call_in, turns_from, generated}
use Rattle.schedule_maker.specs.Worked.{HasNoTurns, HasThreeTurns, HasItsPauses}
use Rattle.schedule_maker.proofs.worked.worked_schedules.Goals as goal

no_turns : HasNoTurns
unfolding digits line_words line_text call_name call_words opening turns_from generated
no_turns = λ number. refl

three_turns : HasThreeTurns
unfolding digits line_words line_text call_name call_words next_state drawn_in opening restart_before pause_before call_in turns_from generated
three_turns = refl

its_pauses : HasItsPauses
unfolding digits line_words line_text call_name call_words next_state drawn_in restart_before pause_before call_in
its_pauses = record { pause = refl; restart = refl; neither = refl }

pub returns : goal.returns
returns c = record { none = no_turns; three = three_turns; pauses = its_pauses }
