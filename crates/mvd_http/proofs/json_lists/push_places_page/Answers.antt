use Rattle.mvd_http.proofs.Steps.{steps5}
use Rattle.mvd_http.proofs.json_lists.push_places_page.Goals as goal

pub returns-clause-text : goal.returns-clause-text
returns-clause-text c =
    steps5 _ _ _ _ _ _ _ _ _ _ _ c.in_ok-push_word.ensures.text c.in_ok-push_places.ensures.text c.in_ok-push_word-2.ensures.text
    c.in_ok-push_place_next.ensures.text c.in_ok-push_word-3.ensures.text
