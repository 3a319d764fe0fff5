use Rattle.std.proofs.Common.{rules}
use Rattle.mvd_keys.proofs.Parts.{holds}
use Rattle.std.proofs.lemmas.Fn.{always_returns_same}
use Rattle.mvd_dots.specs.Dot.{dot_cmp}
use Rattle.mvd_keys.specs.declared.siblings.Sibling.{Sibling}
use Rattle.mvd_http.proofs.Listing.{found_at, found_none, searchable}
use Rattle.mvd_http.proofs.places_listed.document_of_dot.Goals as goal

pub returns-in-Ok : goal.returns-in-Ok
returns-in-Ok c =
    let at = c.in-Ok.ensures.position (λ (s : Sibling). dot_cmp s.dot c.args.dot) (always_returns_same _ _ _ (λ a r q k. search rules)) in
    let x = c.index-siblings-index.result in
    found_at c.args.dot c.args.siblings.now c.in-Ok.index x (holds _ c.requires) c.in-Ok.ensures.bound (at x)

pub returns-in-Err : goal.returns-in-Err
returns-in-Err c =
    let parts = c.in-Err.ensures.position (λ (s : Sibling). dot_cmp s.dot c.args.dot) (always_returns_same _ _ _ (λ a r q k. search rules)) (searchable c.args.siblings.now (holds _ c.requires) c.args.dot) in
    found_none c.args.dot c.args.siblings.now c.in-Err.field-0 parts.0 parts.1
