use Rattle.mvd_http.proofs.Listing.{document_none, document_put}
use Rattle.mvd_http.proofs.places_listed.push_document_at.Goals as goal

pub returns-in_default-clause-text : goal.returns-in_default-clause-text
returns-in_default-clause-text c = document_none c.args.spelling c.args.dot c.args.state.now _ c.siblings.ensures.entries _ c.in_default.ensures

pub returns-clause-text : goal.returns-clause-text
returns-clause-text c =
    document_put c.args.spelling c.args.dot c.args.state.now _ c.siblings.ensures.entries _ _ _ c.in-Some.document.now c.in-Some.ensures c.in_ok-push_word.ensures.text c.in_ok-push_document.ensures.text
