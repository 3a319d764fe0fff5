use Rattle.mvd_http.proofs.Listing.{digest_put}
use Rattle.mvd_http.proofs.listed.push_digest_if.Goals as goal

pub returns-clause-text : goal.returns-clause-text
returns-clause-text c =
    digest_put _ _ _ c.deref.result.now c.digest_of.result c.args.key.now c.args.state.now c.args.is_wanted c.if-not-is_wanted.false (rw c.deref.ensures.value c.in_ok-bytes.ensures) c.digest_of.ensures c.in_ok-push_word.ensures.text
    c.in_ok-push_digest.ensures.text
