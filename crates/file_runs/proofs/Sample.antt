-- The sample, step by step.
use Rattle.std.proofs.Common.{◌≡◌, ℕ, [], ◌∷◌, refl, inl, inr, arith, Some, None}
use Rattle.std.specs.Prelude.{suc, zero, ◌<◌, slice_index}
use Rattle.xt_messages.specs.declared.file.Op.TheVariants as op
use Rattle.xt_protocol.specs.Asks.{serves_all}
use Rattle.xt_protocol.specs.AskRows.{refusal_of, handle_ask}
use Rattle.xt_protocol.specs.Choice.{chosen_of, difference}
use Rattle.xt_protocol.specs.FileLeases.{read_comes, write_comes, answer_comes}
use Rattle.xt_protocol.specs.FileSteps.{step_of_file, wake_of_file}
use Rattle.xt_protocol.specs.Overdue.{expired}
use Rattle.xt_protocol.specs.Primaries.{peer_in, with_peer, fed}
use Rattle.xt_protocol.specs.PrimaryRows.{draw_epoch, hears}
use Rattle.xt_protocol.specs.ReplicaRows.{gathered, fetched_from, staged, headed, updated}
use Rattle.xt_protocol.specs.Serving.{reads, writes, wakes}
use Rattle.xt_protocol.specs.Writes.{standing}
use Rattle.xt_protocol.specs.Stamps.{with_held}
use Rattle.replica_runs.specs.AskFits.{AskFits}
use Rattle.file_runs.specs.Sample.{calls, id_of, SampleRuns}

bytes_fit : (i : ℕ) → slice_index (97 ∷ []) i < 256
bytes_fit zero = omega arith
bytes_fit (suc i) = omega arith

write_fits : (deadline : ℕ) → AskFits 1024 calls (record { id = id_of 1; epoch = 0; op = op.Write 0 0 (97 ∷ []); deadline = deadline })
write_fits deadline = record {
  allowed = record { fits = (omega arith, omega arith, record { all = bytes_fit; few = omega arith }, omega arith); inside = refl };
  asked = refl;
}

read_fits : (deadline : ℕ) → AskFits 1024 calls (record { id = id_of 2; epoch = 0; op = op.Read 0 0 1; deadline = deadline })
read_fits deadline = record { allowed = record { fits = (omega arith, omega arith, omega arith, omega arith); inside = refl }; asked = refl }

nobody : {A : Type 0} (m : ℕ) → None ≡ Some m → A
nobody m is = absurd cc

itself : (m : ℕ) → Some 1 ≡ Some m → m ≡ 1
itself m is = cc

pub sample_runs : SampleRuns
unfolding serves_all refusal_of handle_ask chosen_of difference read_comes write_comes answer_comes step_of_file wake_of_file expired peer_in with_peer fed draw_epoch hears gathered fetched_from staged headed updated reads writes wakes standing with_held
sample_runs = record {
  begins = record {
    stopped = λ r. refl;
    head = λ r. refl;
    bodies = λ r. record { has = λ o v h. absurd cc; holds = λ o v low h. absurd h.1 };
    names = λ r v h. absurd h;
    list = λ r. tt;
    free = refl;
    silent = λ x h. absurd h;
    untold = refl;
  };
  runs = (refl, (record { runs = refl; here = refl; bodies = refl; comes = (inr refl, ((refl, refl, refl), write_fits)); own = tt; holds = λ t is. absurd cc; alone = λ held m is. nobody m is; ends = tt }, (record { runs = refl; here = refl; bodies = refl; comes = (inl (inl refl), tt); own = tt; holds = λ t is. absurd cc; alone = λ held m is. nobody m is; ends = tt }, (record { runs = refl; here = refl; bodies = refl; comes = (inl (inl refl), tt); own = tt; holds = λ t is. absurd cc; alone = λ held m is. nobody m is; ends = tt }, (record { runs = refl; here = refl; bodies = refl; comes = (inl (inl refl), tt); own = tt; holds = λ t is. absurd cc; alone = λ held m is. nobody m is; ends = tt }, (record { runs = refl; here = refl; bodies = refl; comes = (inl (inl refl), tt); own = tt; holds = λ t is. absurd cc; alone = λ held m is. nobody m is; ends = tt }, (record { runs = refl; here = refl; bodies = refl; comes = (inl (inl refl), tt); own = tt; holds = λ t is. refl; alone = λ held m is. itself m is; ends = tt }, (record { runs = refl; here = refl; bodies = refl; comes = (inl (inl refl), tt); own = λ is v h. absurd h; holds = λ t is. refl; alone = λ held m is. itself m is; ends = tt }, (record { runs = refl; here = refl; bodies = refl; comes = (inl (inl refl), tt); own = tt; holds = λ t is. refl; alone = λ held m is. itself m is; ends = tt }, (record { runs = refl; here = refl; bodies = refl; comes = (inl (inl refl), tt); own = tt; holds = λ t is. refl; alone = λ held m is. itself m is; ends = tt }, (record { runs = refl; here = refl; bodies = refl; comes = (inl (inl refl), tt); own = tt; holds = λ t is. refl; alone = λ held m is. itself m is; ends = tt }, (record { runs = refl; here = refl; bodies = refl; comes = (inl (inl refl), tt); own = tt; holds = λ t is. refl; alone = λ held m is. itself m is; ends = tt }, (record { runs = refl; here = refl; bodies = refl; comes = (inr refl, ((refl, refl, refl), read_fits)); own = tt; holds = λ t is. refl; alone = λ held m is. itself m is; ends = tt }, tt)))))))))))));
  marks = refl;
}
