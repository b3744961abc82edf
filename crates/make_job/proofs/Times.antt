-- the times stand first in the trace of a run
use Rattle.std.proofs.Common.{◌≡◌, None, List, [], ◌∷◌, ◌++◌, map, refl}
use Rattle.xt_base.specs.declared.ids.NodeId.{NodeId}
use Rattle.xt_messages.specs.declared.event.Mark.{Mark}
use Rattle.xt_messages.specs.declared.event.Mark.TheVariants as mark
use Rattle.xt_messages.specs.declared.message.Msg.{Msg}
use Rattle.time_line.specs.declared.entry.Entry.{Entry}
use Rattle.time_line.specs.declared.line.Line.{Line}
use Rattle.time_line.specs.Bounds.{AreLines}
use Rattle.time_line.specs.TimeLine.{times_told}
use Rattle.world_spec.specs.declared.PlacedFile.{PlacedFile}
use Rattle.world_spec.specs.World.{World}
use Rattle.world_spec.specs.NodeSteps.{Room, entry_of}
use Rattle.world_spec.specs.Lines.{file_entry, files_left}
use Rattle.world_spec.specs.Runs.{run_of}
use Rattle.world_runs.proofs.Walk.{IsKept, run_kept}
use Rattle.judging.specs.Laws.{HaveNoTimes, TimesStandFirst}

no_times-append : (es more : List Entry) → HaveNoTimes es → HaveNoTimes more → HaveNoTimes (es ++ more)
no_times-append [] more none later = later
no_times-append (e ∷ es) more none later = (none.0, no_times-append es more none.1 later)

-- entries that don't report the times can follow any others
still_first : (es more : List Entry) → TimesStandFirst es → HaveNoTimes more → TimesStandFirst (es ++ more)
still_first [] [] first none = tt
still_first [] (e ∷ es) first none = none.1
still_first (e ∷ es) more first none = no_times-append es more first none

-- no mark of a node reports them
mark_untimed : (node : NodeId) (m : Mark) → times_told (entry_of node m) ≡ None
mark_untimed node (mark.File file location) = refl
mark_untimed node _ = refl

marks_untimed : (node : NodeId) (ms : List Mark) → HaveNoTimes (map (entry_of node) ms)
marks_untimed node [] = tt
marks_untimed node (m ∷ ms) = (mark_untimed node m, marks_untimed node ms)

files_untimed : (files : List PlacedFile) → HaveNoTimes (map file_entry files)
files_untimed [] = tt
files_untimed (f ∷ fs) = (refl, files_untimed fs)

-- the trace so far reports them first, if at all
abbrev TellsTimesFirst : World → List Msg → Type 0
TellsTimesFirst w own = TimesStandFirst w.entries

times_kept : IsKept TellsTimesFirst
times_kept =
    record {
      begins = tt;
      times = λ lease drift are. tt;
      server_declared = λ w id its is_server stands fits free first. still_first w.entries _ first tt;
      client_declared = λ w id clock fits free close first. still_first w.entries _ first (refl, tt);
      file_declared = λ w number location fits free first. still_first w.entries _ first (refl, tt);
      started = λ w node clock is_server bound found down close first. still_first w.entries _ first (refl, files_untimed (files_left w.made node));
      planned = λ w node r q found is_up boot clock core first. first;
      aimed_at = λ w node r c number target found is_up is_client first. first;
      stopped = λ w own node r how found is_up first. still_first w.entries _ first (refl, tt);
      clock_set = λ w node r clock bound found is_up rises close first. still_first w.entries _ first (refl, tt);
      all_ticked = λ w count bound first. still_first w.entries _ first (refl, tt);
      less_pending = λ w own number first. first;
      lost = λ w own left part first. first;
      stepped = λ w was own node r next turned outs rest part found is_up step split first.
          still_first w.entries (map (entry_of node.id) turned.marks) first (marks_untimed node.id turned.marks);
      stopped_keeping = λ w own node r next turned rec found is_up step is_rec first. still_first w.entries _ first (refl, tt);
      forgotten = λ w own node r s found is_up is_osd first. first;
      lined = λ w l ended first. first;
    }

pub run_times : (room : Room) (lines : List Line) → AreLines lines → TimesStandFirst (run_of room lines).entries
run_times room lines are = run_kept TellsTimesFirst times_kept room lines are
