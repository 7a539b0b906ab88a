use Rattle.std.proofs.Common.{string_bytes, decimal, codes, length, ◌++◌, ap, ◌∙◌}
use Rattle.sk_run.specs.Found.{found_rest}
use Rattle.sk_run.proofs.FoundLemmas.{first_half, two_halves, three_numbers}
use Rattle.sk_run.proofs.found.push_found_line.Goals as goal

pub returns : goal.returns
returns c =
    let report = c.args.report.now in
    let before = string_bytes c.args.text.now in
    two_halves c.push_found_rest.result before (string_bytes c.push_number-3.new.text) (string_bytes c.push_found_rest.new.text) (first_half report.hits report) (found_rest report) c.push_found_rest.ensures
    (three_numbers before (string_bytes c.push_number.new.text) (string_bytes c.push_number-2.new.text) (string_bytes c.push_number-3.new.text)
    (codes "found hits=") (decimal (length c.as_slice-hits.result.now)) (codes " lower=") (decimal report.lower) (codes " estimate=") (decimal report.estimate)
    c.in_ok-push_number.ensures c.in_ok-push_number-2.ensures c.in_ok-push_number-3.ensures
    ∙ ap (λ hits. before ++ first_half hits report) c.as_slice-hits.ensures)
