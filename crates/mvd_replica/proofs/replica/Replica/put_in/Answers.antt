use Rattle.std.proofs.Common.{◌∙◌, ◌∷◌, ◌++◌, [], ap, sym, subst, arith, option_to_list}
use Rattle.mvd_kept.specs.declared.prepared.Prepared.TheVariants.{Change}
use Rattle.mvd_replica.specs.Groups.{StandTogether}
use Rattle.mvd_replica.proofs.Fronts.{shares_alone, shares_one}
use Rattle.mvd_replica.proofs.Putting.{together_alone}
use Rattle.mvd_replica.proofs.replica.Replica.put_in.Goals as goal

pub commit-requires-clause-together : goal.commit-requires-clause-together
commit-requires-clause-together g c =
    let alone = c.requires.alone in
    let items = c.push_reserved.ensures.items ∙ ap (λ l. l ++ Change c.args.change ∷ []) c.in_ok-group.ensures.items in
    (alone.0 ∷ [], subst (StandTogether c.args.self.now.site (alone.0 ∷ [])) (sym items) (together_alone c.args.self.now.site alone.0 c.args.change alone.1))

pub returns-clause-ok : goal.returns-clause-ok
returns-clause-ok g c request alone =
    let items = c.push_reserved.ensures.items ∙ ap (λ l. l ++ Change c.args.change ∷ []) c.in_ok-group.ensures.items in
    let together = subst (StandTogether c.args.self.now.site (request ∷ [])) (sym items) (together_alone c.args.self.now.site request c.args.change alone) in
    shares_alone request c.in_ok-replies.replies.items c.commit.new.replies.items c.pop.new.self.items c.in-Some.reply c.args.self.now c.commit.new.self c.in_ok-replies.ensures.items
    (c.pop.ensures.items ∙ ap (λ o. c.pop.new.self.items ++ option_to_list o) c.in-Some.is) (c.in_ok-commit.ensures.ok (request ∷ []) together)

pub unreachable-requires : goal.unreachable-requires
unreachable-requires g c =
    let alone = c.requires.alone in
    let items = c.push_reserved.ensures.items ∙ ap (λ l. l ++ Change c.args.change ∷ []) c.in_ok-group.ensures.items in
    let together = subst (StandTogether c.args.self.now.site (alone.0 ∷ [])) (sym items) (together_alone c.args.self.now.site alone.0 c.args.change alone.1) in
    let one = shares_one alone.0 c.in_ok-replies.replies.items c.commit.new.replies.items c.args.self.now c.commit.new.self c.in_ok-replies.ensures.items (c.in_ok-commit.ensures.ok (alone.0 ∷ []) together) in
    omega (arith, one, c.in-None.ensures.cases.0)
