use Rattle.std.proofs.Common.{◌≡◌, ◌≤◌, length, refl, ap, sym, ◌∙◌, subst}
use Rattle.std.specs.List.{AllByRecursion}
use Rattle.std.specs.Option.{option_copied}
use Rattle.mvd_tree.specs.Page.{bucket_page}
use Rattle.mvd_wire.proofs.SentPages.{IsEntry, keys_can_be_sent}
use Rattle.mvd_kept.specs.Answer.{digests}
use Rattle.mvd_kept.specs.Held.{AreHeld}
use Rattle.mvd_kept.specs.Sites.{SiteValue}
use Rattle.mvd_kept.proofs.Digested.{page_entries, short_page}
use Rattle.mvd_kept.proofs.kept.Kept.prepare_bucket.Goals as goal

pub returns-clause-ready : goal.returns-clause-ready
returns-clause-ready c =
    let states = c.args.self.now.states in
    let path = c.args.path.now in
    let after = option_copied c.args.after in
    let kept : AreHeld states = subst AreHeld (ap (λ (s : SiteValue). s.states) c.self.view_is) c.stands.ensures in
    let page : c.new.result ≡ bucket_page (digests states) path after = c.new.ensures ∙ c.in_ok-keys.ensures.keys in
    record {
      accepts = refl;
      fits = keys_can_be_sent c.new.result c.in_ok-keys.is_more (subst (AllByRecursion IsEntry) (sym page) (page_entries states kept path after))
          (subst (λ l. length l ≤ 1000) (sym page) (short_page (digests states) path after));
    }
