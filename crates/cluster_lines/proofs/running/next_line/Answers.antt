use Rattle.std.proofs.Common.{refl, inl}
use Rattle.xt_messages.specs.declared.status.Limited.TheVariants as limited
use Rattle.xt_messages.specs.declared.status.Status.TheVariants as status
use Rattle.time_line.specs.declared.TheConstants.{LINE_BYTES}
use Rattle.cluster_lines.specs.Lines.{stopped}
use Rattle.cluster_lines.proofs.Going.{passed, step_on, cut_on, last_on, over_on}
use Rattle.cluster_lines.proofs.running.next_line.Goals as goal

pub returns-in-End : goal.returns-in-End
returns-in-End g c count few =
    over_on c.args.cluster.now count _ _ _ (c.in-End.ensures.sound (λ e. cc)) c.in-End.ensures.line.0 c.in-End.ensures.line.1

pub returns-in-Whole : goal.returns-in-Whole
returns-in-Whole g c count few =
    step_on c.args.cluster.now count _ _ _ _ few (c.in-Whole.ensures.sound (λ e. cc))
    (c.run_text.ensures _ _ _ (passed _ _ _ _ c.read_raw-kind.result c.as_slice.ensures.value c.read_raw-kind.ensures.line))

pub returns-in-None : goal.returns-in-None
returns-in-None g c count few =
    last_on c.args.cluster.now count _ _ _ few (c.in-Unended.ensures.sound (λ e. cc))
    (c.in-None.ensures _ _ _ (passed _ _ _ _ c.read_raw-kind.result c.as_slice-in-Unended.ensures.value c.read_raw-kind.ensures.line))
    c.in-Unended.ensures.line.1

pub returns-in-Some : goal.returns-in-Some
returns-in-Some g c count few =
    cut_on c.args.cluster.now count _ _ _ c.in-Some.status few (c.in-Unended.ensures.sound (λ e. cc))
    (c.in-Some.ensures _ _ _ (passed _ _ _ _ c.read_raw-kind.result c.as_slice-in-Unended.ensures.value c.read_raw-kind.ensures.line))

pub returns-in-TooLong : goal.returns-in-TooLong
returns-in-TooLong g c count few =
    stopped _ c.close.result (record {
      why = status.Limit limited.Line LINE_BYTES;
      stops = (few, refl, (_, c.in-TooLong.ensures.line));
      cause = (refl, refl, c.in-TooLong.ensures.sound (λ e. cc));
      closes = c.close.ensures;
      unused = record { session = refl; around = refl };
    })

pub returns-in-Failed : goal.returns-in-Failed
returns-in-Failed g c count few =
    stopped _ c.close-in-Failed.result (record {
      why = status.SourceFault c.faults-count.result;
      stops = inl (few, (_, c.in-Failed.ensures.line));
      cause = (c.in-Failed.ensures.failed refl, c.faults-count.ensures, refl, refl);
      closes = c.close-in-Failed.ensures;
      unused = record { session = refl; around = refl };
    })

pub returns-in-OutOfMemory : goal.returns-in-OutOfMemory
returns-in-OutOfMemory g c count few =
    stopped _ c.close-in-OutOfMemory.result (record {
      why = status.OutOfMemory;
      stops = (few, c.in-OutOfMemory.ensures.line);
      cause = (refl, refl, c.in-OutOfMemory.ensures.sound (λ e. cc));
      closes = c.close-in-OutOfMemory.ensures;
      unused = record { session = refl; around = refl };
    })
