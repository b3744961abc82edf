use Rattle.std.proofs.Common.{◌≡◌, ◌∙◌, ◌++◌, ℕ, List, ap, codes, string_bytes}
use Rattle.store_loading.specs.Boots.{stored_boot}
use Rattle.check_job.specs.Reports.{kind_lines, line_text, old_kinds, replica_kinds, request_kinds}
use Rattle.check_job.proofs.Lines.{after, from_none}
use Rattle.check_job.proofs.report.report.Goals as goal

pub returns : goal.returns
returns c =
    let records = c.args.records.now in
    let none : List ℕ = string_bytes c.new-text.result in
    let boot : List ℕ = line_text (codes "boot") (stored_boot records) in
    let replica : List ℕ = kind_lines records replica_kinds in
    let request : List ℕ = kind_lines records request_kinds in
    let old : List ℕ = kind_lines records old_kinds in
    let long : List ℕ = line_text (codes "length") c.args.long in
    let limit : List ℕ = line_text (codes "limit") c.args.limit in
    let compacted : List ℕ = line_text (codes "compacted") c.args.compacted in
    let to_1 : List ℕ = boot ++ replica in
    let to_2 : List ℕ = to_1 ++ request in
    let to_3 : List ℕ = to_2 ++ old in
    let to_4 : List ℕ = to_3 ++ long in
    let text_0 : List ℕ = string_bytes c.push_line.new.text in
    let text_1 : List ℕ = string_bytes c.push_replica_kinds.new.text in
    let text_2 : List ℕ = string_bytes c.push_request_kinds.new.text in
    let text_3 : List ℕ = string_bytes c.push_old_kinds.new.text in
    let text_4 : List ℕ = string_bytes c.push_line-2.new.text in
    let text_5 : List ℕ = string_bytes c.push_line-3.new.text in
    let text_6 : List ℕ = string_bytes c.push_line-4.new.text in
    let first : text_0 ≡ boot =
    from_none none text_0 boot c.new-text.ensures.bytes
    (c.in_ok-push_line.ensures ∙ ap (λ (n : ℕ). none ++ line_text (codes "boot") n) c.stored_boot.ensures) in
    let kinds : text_3 ≡ to_3 =
    after text_2 text_3 old to_2 c.in_ok-push_old_kinds.ensures
    (after text_1 text_2 request to_1 c.in_ok-push_request_kinds.ensures
    (after text_0 text_1 replica boot c.in_ok-push_replica_kinds.ensures first)) in
    after text_5 text_6 compacted (to_4 ++ limit) c.in_ok-push_line-4.ensures
    (after text_4 text_5 limit to_4 c.in_ok-push_line-3.ensures
    (after text_3 text_4 long to_3 c.in_ok-push_line-2.ensures kinds))
