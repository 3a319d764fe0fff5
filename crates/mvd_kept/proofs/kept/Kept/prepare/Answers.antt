use Rattle.std.proofs.Common.{Ok, refl, ap, sym, subst}
use Rattle.mvd_wire.specs.declared.reply.Reply.TheVariants.{Done}
use Rattle.mvd_kept.specs.Answer.{bucket_answer, counts_reply, digests}
use Rattle.mvd_rows.specs.Siblings.{conflicts_answer, keys_answer}
use Rattle.mvd_kept.specs.Prepared.{PreparesAnswerFrom, PreparesFrom, PreparesReply}
use Rattle.mvd_kept.specs.Costs.{PrepareCosts, prepared_looks}
use Rattle.mvd_kept.specs.declared.prepared.Prepared.TheVariants.{Answer}
use Rattle.mvd_kept.proofs.Prepare.{asked, known_at}
use Rattle.mvd_kept.proofs.Spent.{free_request, looked, paged}
use Rattle.mvd_kept.proofs.kept.Kept.prepare.Goals as goal

pub returns-in-Get-clause-states : goal.returns-in-Get-clause-states
returns-in-Get-clause-states c =
    asked c.args.self.now c.args.request.now _ c.prepare_get.result c.in-Get.is (λ reply. refl)
    c.prepare_get.ensures.answer

pub returns-in-Find-clause-states : goal.returns-in-Find-clause-states
returns-in-Find-clause-states c =
    asked c.args.self.now c.args.request.now _ c.prepare_find.result c.in-Find.is (λ reply. refl)
    c.prepare_find.ensures.answer

pub returns-in-Range-clause-states : goal.returns-in-Range-clause-states
returns-in-Range-clause-states c =
    asked c.args.self.now c.args.request.now _ c.prepare_range.result c.in-Range.is (λ reply. refl)
    c.prepare_range.ensures.answer

pub returns-in-Row-clause-states : goal.returns-in-Row-clause-states
returns-in-Row-clause-states c =
    asked c.args.self.now c.args.request.now _ c.prepare_row.result c.in-Row.is (λ reply. refl)
    c.prepare_row.ensures.answer

pub returns-in-Rows-clause-states : goal.returns-in-Rows-clause-states
returns-in-Rows-clause-states c =
    asked c.args.self.now c.args.request.now _ c.prepare_rows.result c.in-Rows.is (λ reply. refl)
    c.prepare_rows.ensures.answer

pub returns-in-Node-clause-states : goal.returns-in-Node-clause-states
returns-in-Node-clause-states c =
    asked c.args.self.now c.args.request.now _ c.prepare_node.result c.in-Node.is (λ reply. refl)
    c.prepare_node.ensures.answer

pub returns-in-Bucket-clause-states : goal.returns-in-Bucket-clause-states
returns-in-Bucket-clause-states c =
    asked c.args.self.now c.args.request.now _ c.prepare_bucket.result c.in-Bucket.is (λ reply. refl)
    (subst (λ r. PreparesReply r c.prepare_bucket.result)
    (ap (bucket_answer (digests c.args.self.now.states) c.in-Bucket.path) c.as_ref.ensures.value)
    c.prepare_bucket.ensures.answer)

pub returns-in-Bye-clause-states : goal.returns-in-Bye-clause-states
returns-in-Bye-clause-states c = λ whole.
    subst (λ r. PreparesAnswerFrom c.args.self.now.config c.args.self.now.states r Done) (sym c.in-Bye.is)
    (record { answers = refl; still = tt; after = refl })

pub returns-in-Get-clause-answer : goal.returns-in-Get-clause-answer
returns-in-Get-clause-answer c = known_at c.args.self.now c.args.request.now _ (returns-in-Get-clause-states c)

pub returns-in-Find-clause-answer : goal.returns-in-Find-clause-answer
returns-in-Find-clause-answer c = known_at c.args.self.now c.args.request.now _ (returns-in-Find-clause-states c)

pub returns-in-Range-clause-answer : goal.returns-in-Range-clause-answer
returns-in-Range-clause-answer c = known_at c.args.self.now c.args.request.now _ (returns-in-Range-clause-states c)

pub returns-in-Row-clause-answer : goal.returns-in-Row-clause-answer
returns-in-Row-clause-answer c = known_at c.args.self.now c.args.request.now _ (returns-in-Row-clause-states c)

pub returns-in-Rows-clause-answer : goal.returns-in-Rows-clause-answer
returns-in-Rows-clause-answer c = known_at c.args.self.now c.args.request.now _ (returns-in-Rows-clause-states c)

pub returns-in-Node-clause-answer : goal.returns-in-Node-clause-answer
returns-in-Node-clause-answer c = known_at c.args.self.now c.args.request.now _ (returns-in-Node-clause-states c)

pub returns-in-Bucket-clause-answer : goal.returns-in-Bucket-clause-answer
returns-in-Bucket-clause-answer c = known_at c.args.self.now c.args.request.now _ (returns-in-Bucket-clause-states c)

pub returns-in-Bye-clause-answer : goal.returns-in-Bye-clause-answer
returns-in-Bye-clause-answer c =
    known_at c.args.self.now c.args.request.now (Ok (Answer Done)) (returns-in-Bye-clause-states c)

pub returns-in-Put-clause-answer : goal.returns-in-Put-clause-answer
returns-in-Put-clause-answer c =
    let site = c.args.self.now in
    known_at site c.args.request.now _ (λ _.
    subst (λ r. PreparesFrom site.config site.states r c.prepare_put.result) (sym c.in-Put.is)
    c.prepare_put.ensures.answer)

pub returns-in-Delete-clause-answer : goal.returns-in-Delete-clause-answer
returns-in-Delete-clause-answer c =
    let site = c.args.self.now in
    known_at site c.args.request.now _ (λ _.
    subst (λ r. PreparesFrom site.config site.states r c.prepare_delete.result) (sym c.in-Delete.is)
    c.prepare_delete.ensures.answer)

pub returns-in-Push-clause-answer : goal.returns-in-Push-clause-answer
returns-in-Push-clause-answer c =
    let site = c.args.self.now in
    known_at site c.args.request.now _ (λ _.
    subst (λ r. PreparesFrom site.config site.states r c.prepare_push.result) (sym c.in-Push.is)
    c.prepare_push.ensures.answer)

pub returns-then-self-clause-costs : goal.returns-then-self-clause-costs
returns-then-self-clause-costs c = free_request c.args.request.now _ c.args.work.now

pub returns-in-Get-clause-costs : goal.returns-in-Get-clause-costs
returns-in-Get-clause-costs c =
    subst (λ r. PrepareCosts r c.prepare_get.result c.args.work.now
    (record { looks = c.prepare_get.new.looks; rows = c.args.work.now.rows; hashed = c.args.work.now.hashed }))
    (sym c.in-Get.is) (looked c.args.work.now c.prepare_get.new.looks 1 c.prepare_get.ensures.looked)

pub returns-in-Put-clause-costs : goal.returns-in-Put-clause-costs
returns-in-Put-clause-costs c =
    subst (λ r. PrepareCosts r c.prepare_put.result c.args.work.now
    (record { looks = c.prepare_put.new.looks; rows = c.args.work.now.rows; hashed = c.args.work.now.hashed }))
    (sym c.in-Put.is) (looked c.args.work.now c.prepare_put.new.looks 1 c.prepare_put.ensures.looked)

pub returns-in-Delete-clause-costs : goal.returns-in-Delete-clause-costs
returns-in-Delete-clause-costs c =
    subst (λ r. PrepareCosts r c.prepare_delete.result c.args.work.now
    (record {
      looks = c.prepare_delete.new.looks;
      rows = c.args.work.now.rows;
      hashed = c.args.work.now.hashed;
    })) (sym c.in-Delete.is) (looked c.args.work.now c.prepare_delete.new.looks 1 c.prepare_delete.ensures.looked)

pub returns-in-Push-clause-costs : goal.returns-in-Push-clause-costs
returns-in-Push-clause-costs c =
    subst (λ r. PrepareCosts r c.prepare_push.result c.args.work.now
    (record { looks = c.prepare_push.new.looks; rows = c.args.work.now.rows; hashed = c.args.work.now.hashed }))
    (sym c.in-Push.is) (looked c.args.work.now c.prepare_push.new.looks 1 c.prepare_push.ensures.looked)

pub returns-in-Find-clause-costs : goal.returns-in-Find-clause-costs
returns-in-Find-clause-costs c =
    subst (λ r. PrepareCosts r c.prepare_find.result c.args.work.now
    (record { looks = c.args.work.now.looks; rows = c.prepare_find.new.meter; hashed = c.args.work.now.hashed }))
    (sym c.in-Find.is) (paged c.args.work.now c.prepare_find.new.meter (prepared_looks c.prepare_find.result)
    c.prepare_find.ensures.looks)

pub returns-in-Range-clause-costs : goal.returns-in-Range-clause-costs
returns-in-Range-clause-costs c =
    subst (λ r. PrepareCosts r c.prepare_range.result c.args.work.now
    (record {
      looks = c.args.work.now.looks;
      rows = c.prepare_range.new.meter;
      hashed = c.args.work.now.hashed;
    })) (sym c.in-Range.is)
    (paged c.args.work.now c.prepare_range.new.meter (prepared_looks c.prepare_range.result)
    c.prepare_range.ensures.looks)

pub returns-in-Row-clause-costs : goal.returns-in-Row-clause-costs
returns-in-Row-clause-costs c =
    subst (λ r. PrepareCosts r c.prepare_row.result c.args.work.now
    (record { looks = c.args.work.now.looks; rows = c.prepare_row.new.meter; hashed = c.args.work.now.hashed }))
    (sym c.in-Row.is) (paged c.args.work.now c.prepare_row.new.meter (prepared_looks c.prepare_row.result)
    c.prepare_row.ensures.looks)

pub returns-in-Rows-clause-costs : goal.returns-in-Rows-clause-costs
returns-in-Rows-clause-costs c =
    subst (λ r. PrepareCosts r c.prepare_rows.result c.args.work.now
    (record { looks = c.args.work.now.looks; rows = c.prepare_rows.new.meter; hashed = c.args.work.now.hashed }))
    (sym c.in-Rows.is) (paged c.args.work.now c.prepare_rows.new.meter (prepared_looks c.prepare_rows.result)
    c.prepare_rows.ensures.looks)

pub returns-in-Node-clause-costs : goal.returns-in-Node-clause-costs
returns-in-Node-clause-costs c = free_request c.args.request.now _ c.args.work.now

pub returns-in-Bucket-clause-costs : goal.returns-in-Bucket-clause-costs
returns-in-Bucket-clause-costs c = free_request c.args.request.now _ c.args.work.now

pub returns-in-Bye-clause-costs : goal.returns-in-Bye-clause-costs
returns-in-Bye-clause-costs c = free_request c.args.request.now _ c.args.work.now

pub returns-in-Keys-clause-states : goal.returns-in-Keys-clause-states
returns-in-Keys-clause-states c =
    asked c.args.self.now c.args.request.now _ c.prepare_keys.result c.in-Keys.is (λ reply. refl)
    (subst (λ r. PreparesReply r c.prepare_keys.result)
    (ap (λ o. counts_reply (keys_answer c.args.self.now.states c.in-Keys.prefix o)) c.as_ref-in-Keys.ensures.value)
    c.prepare_keys.ensures.answer)

pub returns-in-Conflicts-clause-states : goal.returns-in-Conflicts-clause-states
returns-in-Conflicts-clause-states c =
    asked c.args.self.now c.args.request.now _ c.prepare_conflicts.result c.in-Conflicts.is (λ reply. refl)
    (subst (λ r. PreparesReply r c.prepare_conflicts.result)
    (ap (λ o. counts_reply (conflicts_answer c.args.self.now.states o)) c.as_ref-in-Conflicts.ensures.value)
    c.prepare_conflicts.ensures.answer)

pub returns-in-Hello-clause-states : goal.returns-in-Hello-clause-states
returns-in-Hello-clause-states c = λ whole.
    subst (λ r. PreparesAnswerFrom c.args.self.now.config c.args.self.now.states r Done) (sym c.in-Hello.is)
    (record { answers = refl; still = tt; after = refl })

pub returns-in-Keys-clause-answer : goal.returns-in-Keys-clause-answer
returns-in-Keys-clause-answer c = known_at c.args.self.now c.args.request.now _ (returns-in-Keys-clause-states c)

pub returns-in-Conflicts-clause-answer : goal.returns-in-Conflicts-clause-answer
returns-in-Conflicts-clause-answer c =
    known_at c.args.self.now c.args.request.now _ (returns-in-Conflicts-clause-states c)

pub returns-in-Hello-clause-answer : goal.returns-in-Hello-clause-answer
returns-in-Hello-clause-answer c =
    known_at c.args.self.now c.args.request.now (Ok (Answer Done)) (returns-in-Hello-clause-states c)

pub returns-in-Keys-clause-costs : goal.returns-in-Keys-clause-costs
returns-in-Keys-clause-costs c =
    subst (λ r. PrepareCosts r c.prepare_keys.result c.args.work.now
    (record { looks = c.prepare_keys.new.looks; rows = c.args.work.now.rows; hashed = c.args.work.now.hashed }))
    (sym c.in-Keys.is)
    (looked c.args.work.now c.prepare_keys.new.looks (prepared_looks c.prepare_keys.result)
    c.prepare_keys.ensures.looked)

pub returns-in-Conflicts-clause-costs : goal.returns-in-Conflicts-clause-costs
returns-in-Conflicts-clause-costs c =
    subst (λ r. PrepareCosts r c.prepare_conflicts.result c.args.work.now
    (record {
      looks = c.args.work.now.looks;
      rows = c.prepare_conflicts.new.meter;
      hashed = c.args.work.now.hashed;
    })) (sym c.in-Conflicts.is)
    (paged c.args.work.now c.prepare_conflicts.new.meter (prepared_looks c.prepare_conflicts.result)
    c.prepare_conflicts.ensures.looks)

pub returns-in-Hello-clause-costs : goal.returns-in-Hello-clause-costs
returns-in-Hello-clause-costs c = free_request c.args.request.now _ c.args.work.now
