-- Requests that change nothing leave a replica as it was.
use Rattle.std.proofs.Common.{arith, ◌≡◌, ◌∙◌, ◌∷◌, [], List, refl, sym, subst}
use Rattle.std.specs.List.{AllByRecursion}
use Rattle.std.proofs.Props.{props}
use Rattle.mvd_records.specs.Seen.{RecordsValue}
use Rattle.mvd_wire.specs.declared.request.Request.{Request}
use Rattle.mvd_site.specs.Installs.{changes_in}
use Rattle.mvd_site.specs.Sites.{SiteValue}
use Rattle.mvd_site.proofs.Answered.{insert_differs}
use Rattle.mvd_kept.specs.declared.prepared.Prepared.{Prepared}
use Rattle.mvd_kept.specs.declared.prepared.Prepared.TheVariants.{Answer, Change}
use Rattle.sqlite_trees.specs.declared.store.Store.{Ghosts}
use Rattle.mvd_replica.specs.declared.replica.Replica.{Replica}
use Rattle.mvd_replica.specs.Groups.{AllComeAlone}
use Rattle.mvd_replica.specs.Commits.{ChangesNothing, IsStill}
use Rattle.mvd_wire.specs.declared.reply.Reply.{Reply}
use Rattle.mvd_replica.proofs.Putting.{AreOne, turns_of}

-- requests that change nothing are prepared as answers
pub none_changed : (site : SiteValue) (requests : List Request) (group : List Prepared) → AllComeAlone site.config site.states requests group → AllByRecursion (ChangesNothing site) requests →
    changes_in group ≡ 0
none_changed site [] [] each still = refl
none_changed site [] (p ∷ group) each still = absurd each
none_changed site (r ∷ requests) [] each still = absurd each
none_changed site (r ∷ requests) (Answer reply ∷ group) each still =
    let later : changes_in group ≡ 0 = none_changed site requests group each.1 still.1 in omega (arith, later)
none_changed site (r ∷ requests) (Change change ∷ group) each still =
    absurd (insert_differs site.states each.0.0.key each.0.0.state each.0.1.0.differs (sym each.0.1.0.after ∙ still.0))

-- turns that change nothing ask nothing that would
pub still_requests : (site : SiteValue) (requests : List Request) (replies : List Reply) → AreOne requests replies → AllByRecursion (IsStill site) (turns_of requests replies) → AllByRecursion (ChangesNothing site) requests
still_requests site [] replies one all = tt
still_requests site (request ∷ requests) [] one all = absurd one
still_requests site (request ∷ requests) (reply ∷ replies) one all = (all.0 request refl, still_requests site requests replies one all.1)

module _ {S : Type 0} {g : Ghosts S} where
  -- a replica is its site, its records and its count
  pub same_replica : (a b : Replica S g) → a.site ≡ b.site → a.records ≡ b.records → a.commits ≡ b.commits → a ≡ b
  same_replica a b site records commits =
      let one : IsProp (b.records.version ≡ 2) = hlevel props in
      subst (λ (r : RecordsValue S). (two : r.version ≡ 2) → record { alloc = a.alloc; site = a.site; records = r; commits = a.commits; moved = two } ≡ b) (sym records)
      (λ two. λ i. record { alloc = b.alloc; site = site i; records = b.records; commits = commits i; moved = one two b.moved i }) a.moved
