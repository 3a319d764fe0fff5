use Rattle.std.proofs.Common.{◌∙◌, ◌==◌, ◌++◌, ap, sym, length, string_bytes}
use Rattle.mvd_http.specs.Json.{commaed, key_count_text}
use Rattle.mvd_http.proofs.Counting.{live_same, text_more}
use Rattle.mvd_http.proofs.count_lists.push_live.Goals as goal
use Rattle.mvd_http.proofs.count_lists.push_live.Goals.{then-entry-gt0+in_ok-push_next_count, else-entry-gt0}

pub loop-entry-preserved : goal.loop-entry-preserved
loop-entry-preserved c =
    elim c.if-entry-gt0.branch [
      | then-entry-gt0+in_ok-push_next_count w ↦
          let both = text_more key_count_text (string_bytes c.args.out.now) _ _ _ c.args.keys.now c.loop-entry.entry-index c.entry-item.result c.loop-entry-test.true c.entry-item.is w.if-entry-gt0.true c.loop-entry.invariant
          w.in_ok-push_next_count.ensures.text in
          (ap string_bytes w.out-is ∙ both.0, w.is_first-is ∙ both.1)
      | else-entry-gt0 w ↦
          let same = live_same c.args.keys.now c.loop-entry.entry-index c.entry-item.result c.loop-entry-test.true c.entry-item.is w.if-entry-gt0.false in (
            ap string_bytes w.out-is ∙ c.loop-entry.invariant.0 ∙ ap (λ keys. string_bytes c.args.out.now ++ commaed key_count_text keys) (sym same),
            w.is_first-is ∙ c.loop-entry.invariant.1 ∙ ap (λ keys. length keys == 0) (sym same),
          )
    ]
