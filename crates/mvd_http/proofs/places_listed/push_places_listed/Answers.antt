use Rattle.std.proofs.Common.{◌∙◌, ap, codes, string_bytes}
use Rattle.mvd_http.specs.Json.{place_mark}
use Rattle.mvd_http.specs.Listed.{place_front_of, place_told}
use Rattle.mvd_http.proofs.Listing.{page_put}
use Rattle.mvd_http.proofs.places_listed.push_places_listed.Goals as goal

pub returns-clause-text : goal.returns-clause-text
returns-clause-text g c =
    let states = g.H.Holds.states c.args.held.now in
    let documents = c.args.wanted.documents in
    page_put (place_told documents states) place_mark (codes "{\"places\":[") c.first_of-first.result.now c.args.places.now _ c.in_ok-count.count c.args.more c.has_more-goes_on.result (string_bytes c.args.out.now) _ _ _ _ _ c.in_ok-count.ensures.within
    (c.in_ok-count.ensures.front ∙ ap (place_front_of documents states) c.first_of-first.ensures) c.has_more-goes_on.ensures c.in_ok-push_word.ensures.text c.in_ok-count.ensures.text c.in_ok-push_word-2.ensures.text c.in_ok-push_place_next.ensures.text
    c.in_ok-push_word-3.ensures.text
