use Rattle.std.proofs.Common.{◌≡◌, ◌++◌, List, OnOk, length, string_bytes, subst}
use Rattle.std.specs.List.{flat_map}
use Rattle.mvd_print.specs.Text.{keys_text}
use Rattle.mvd_sync.specs.declared.report.Left.{Left}
use Rattle.mvd_script.specs.Outcomes.{key_left_text, more_text}
use Rattle.mvd_script.proofs.Reporting.{added_thrice}
use Rattle.mvd_script.proofs.printing.print_report.Goals as goal

pub returns-clause-text : goal.returns-clause-text
returns-clause-text c =
    let report = c.args.report.now in
    let named = c.as_slice-named.result.now in
    subst (λ (left : List Left). OnOk c.print_more.result (string_bytes c.print_more.new.out ≡ string_bytes c.args.out.now ++ (keys_text report.keys ++ (flat_map key_left_text left ++ more_text report.refused (length left)))))
    c.as_slice-named.ensures
    (added_thrice c.print_more.result (string_bytes c.args.out.now) (string_bytes c.print_keys.new.out) (string_bytes c.print_all_left.new.out) (string_bytes c.print_more.new.out) (keys_text report.keys) (flat_map key_left_text named) (more_text report.refused (length named)) c.in_ok-print_keys.ensures.text c.in_ok-print_all_left.ensures.text c.print_more.ensures.text)
