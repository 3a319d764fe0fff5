use Rattle.std.proofs.Common.{List, Err, map, subst}
use Rattle.sqlite.specs.Order.{Row}
use Rattle.mvd_records.specs.Jobs.{making_tables, opening, settling}
use Rattle.mvd_records.specs.Records.{TellsVersion}
use Rattle.mvd_records.specs.States.{shown_row}
use Rattle.mvd_records.proofs.Marking.{opens_since}
use Rattle.mvd_records.proofs.Transacted.{does_then, refused_as}
use Rattle.mvd_records.proofs.open.OpenJob.run.Goals as goal

pub returns-clause-done : goal.returns-clause-done
returns-clause-done g c =
    let site = c.args.self.now.site in
    does_then making_tables tt (settling site) (opening site) _ _ _ c.settle.result (record {
      makes = λ version d e f one two ours sound. (
          let made = one ours in
          let settled = two made.0 (made.2 sound) in
          (settled.0, opens_since d e f version site made.1 settled.1));
      may_refuse = λ _ it. it;
      refuses = λ r d e one of ours. (let made = one ours in subst (λ (l : List Row). TellsVersion (map shown_row l) site (Err r)) made.1.marks (of made.0));
    }) c.in-Ok.ensures.done c.settle.ensures.done

pub returns-in-Err-clause-done : goal.returns-in-Err-clause-done
returns-in-Err-clause-done g c = refused_as making_tables (opening c.args.self.now.site) _ _ c.in-Err.refusal (λ none. absurd none) (λ _ none. absurd none) c.in-Err.ensures.done
