use Rattle.std.proofs.Common.{◌++◌, ℕ, List, [], codes, string_bytes}
use Rattle.std.proofs.lemmas.Result.{on_ok_weaker}
use Rattle.check_job.specs.Reports.{count_of, counted_line}
use Rattle.check_job.proofs.Lines.{ends, grows}
use Rattle.check_job.proofs.report.push_request_kinds.Goals as goal

pub returns : goal.returns
returns c =
    let line : List ℕ → List ℕ = λ word. counted_line word (count_of word c.args.records.now) in
    on_ok_weaker c.push_kind-7.result (λ last. grows (string_bytes c.args.text.now) (string_bytes c.push_kind.new.text) (string_bytes c.push_kind-7.new.text) (line (codes "meta")) ((line (codes "close")) ++ ((line (codes "install")) ++ ((line (codes "choice")) ++ ((line (codes "listed")) ++ ((line (codes "seal")) ++ ((line (codes "forget")) ++ [])))))) c.in_ok-push_kind.ensures (grows (string_bytes c.push_kind.new.text) (string_bytes c.push_kind-2.new.text) (string_bytes c.push_kind-7.new.text) (line (codes "close")) ((line (codes "install")) ++ ((line (codes "choice")) ++ ((line (codes "listed")) ++ ((line (codes "seal")) ++ ((line (codes "forget")) ++ []))))) c.in_ok-push_kind-2.ensures (grows (string_bytes c.push_kind-2.new.text) (string_bytes c.push_kind-3.new.text) (string_bytes c.push_kind-7.new.text) (line (codes "install")) ((line (codes "choice")) ++ ((line (codes "listed")) ++ ((line (codes "seal")) ++ ((line (codes "forget")) ++ [])))) c.in_ok-push_kind-3.ensures (grows (string_bytes c.push_kind-3.new.text) (string_bytes c.push_kind-4.new.text) (string_bytes c.push_kind-7.new.text) (line (codes "choice")) ((line (codes "listed")) ++ ((line (codes "seal")) ++ ((line (codes "forget")) ++ []))) c.in_ok-push_kind-4.ensures (grows (string_bytes c.push_kind-4.new.text) (string_bytes c.push_kind-5.new.text) (string_bytes c.push_kind-7.new.text) (line (codes "listed")) ((line (codes "seal")) ++ ((line (codes "forget")) ++ [])) c.in_ok-push_kind-5.ensures (grows (string_bytes c.push_kind-5.new.text) (string_bytes c.push_kind-6.new.text) (string_bytes c.push_kind-7.new.text) (line (codes "seal")) ((line (codes "forget")) ++ []) c.in_ok-push_kind-6.ensures (ends (string_bytes c.push_kind-6.new.text) (string_bytes c.push_kind-7.new.text) (line (codes "forget")) last))))))) c.push_kind-7.ensures
