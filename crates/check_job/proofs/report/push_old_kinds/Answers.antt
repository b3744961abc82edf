use Rattle.std.proofs.Common.{◌++◌, ℕ, List, [], codes, string_bytes}
use Rattle.std.proofs.lemmas.Result.{on_ok_weaker}
use Rattle.check_job.specs.Reports.{count_of, counted_line}
use Rattle.check_job.proofs.Lines.{ends, grows}
use Rattle.check_job.proofs.report.push_old_kinds.Goals as goal

pub returns : goal.returns
returns c =
    let line : List ℕ → List ℕ = λ word. counted_line word (count_of word c.args.records.now) in
    on_ok_weaker c.push_kind-5.result (λ last. grows (string_bytes c.args.text.now) (string_bytes c.push_kind.new.text) (string_bytes c.push_kind-5.new.text) (line (codes "oldupdate")) ((line (codes "oldstage")) ++ ((line (codes "oldhead")) ++ ((line (codes "oldinstall")) ++ ((line (codes "oldchoice")) ++ [])))) c.in_ok-push_kind.ensures (grows (string_bytes c.push_kind.new.text) (string_bytes c.push_kind-2.new.text) (string_bytes c.push_kind-5.new.text) (line (codes "oldstage")) ((line (codes "oldhead")) ++ ((line (codes "oldinstall")) ++ ((line (codes "oldchoice")) ++ []))) c.in_ok-push_kind-2.ensures (grows (string_bytes c.push_kind-2.new.text) (string_bytes c.push_kind-3.new.text) (string_bytes c.push_kind-5.new.text) (line (codes "oldhead")) ((line (codes "oldinstall")) ++ ((line (codes "oldchoice")) ++ [])) c.in_ok-push_kind-3.ensures (grows (string_bytes c.push_kind-3.new.text) (string_bytes c.push_kind-4.new.text) (string_bytes c.push_kind-5.new.text) (line (codes "oldinstall")) ((line (codes "oldchoice")) ++ []) c.in_ok-push_kind-4.ensures (ends (string_bytes c.push_kind-4.new.text) (string_bytes c.push_kind-5.new.text) (line (codes "oldchoice")) last))))) c.push_kind-5.ensures
