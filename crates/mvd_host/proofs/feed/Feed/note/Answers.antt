use Rattle.std.proofs.Common.{◌≡◌, length, arith, subst, sym}
use Rattle.mvd_host.specs.Feeds.{FeedValue, noted_in}
use Rattle.mvd_host.specs.Lists.{ListsOn}
use Rattle.mvd_host.proofs.Listing.{lists_root, noted_lists}
use Rattle.mvd_host.proofs.Feeding.{fitted_is}
use Rattle.mvd_host.proofs.feed.Feed.note.Goals as goal

pub returns-else-self-gt-KEYS_MAX-clause-ok : goal.returns-else-self-gt-KEYS_MAX-clause-ok
returns-else-self-gt-KEYS_MAX-clause-ok c =
    let rounds = c.fitting.self-inside.rounds in
    let ok : rounds.len ≡ length rounds.items = rounds.ok.0 in
    let count = c.fitting.invariant.0 in
    fitted_is c.fitting.self-inside.start rounds.items (noted_in c.args.self.now c.args.keys.items c.args.root) c.fitting.invariant.1 (omega (arith, ok)) (omega (arith, count))

pub returns-then-is_none-clause-lists : goal.returns-then-is_none-clause-lists
returns-then-is_none-clause-lists c old new changes is = rw c.begin.ensures (lists_root c.args.self.now c.args.root old new is)

pub returns-then-is_err-clause-lists : goal.returns-then-is_err-clause-lists
returns-then-is_err-clause-lists c old new changes is = rw c.begin-then-is_err.ensures (lists_root c.args.self.now c.args.root old new is)

pub returns-else-self-gt-KEYS_MAX-clause-lists : goal.returns-else-self-gt-KEYS_MAX-clause-lists
returns-else-self-gt-KEYS_MAX-clause-lists c old new changes is =
    subst (λ (f : FeedValue). ListsOn c.args.self.now old f new) (sym (returns-else-self-gt-KEYS_MAX-clause-ok c)) (noted_lists c.args.self.now c.args.keys.items c.args.root old new changes is)
