-- What is told where a feed knows nothing.
use Rattle.std.proofs.Common.{◌≡◌, ◌∙◌, ℕ, List, [], true, Option, None, Ok, ap, length}
use Rattle.std.specs.FinMap.{len}
use Rattle.mvd_host.proofs.Changing.{root_is}
use Rattle.mvd_host.specs.Feeds.{FeedValue, root_now}
use Rattle.mvd_host.specs.Lists.{root_of}
use Rattle.mvd_http.specs.Json.{changes_text, root_json}
use Rattle.mvd_replica.specs.ReplicaCalls.{root_answer}
use Rattle.mvd_http.specs.declared.question.Followed.{Followed}
use Rattle.mvd_rows.specs.Siblings.{conflicts_in}
use Rattle.mvd_server.specs.Errands.{root_text}
use Rattle.mvd_server.specs.Since.{since_text, text_from}
use Rattle.mvd_site.specs.FromStates.{unless_broken}
use Rattle.mvd_site.specs.Sites.{SiteValue}

pub since_none : (changes : FeedValue) (site : SiteValue) (root : List ℕ) (followed : Followed) (since : Option (List ℕ)) → None ≡ root_now changes → root_answer site ≡ Ok root
    → changes_text root [] true ≡ since_text changes followed site.states since
since_none changes site root followed since none is =
    ap (λ (d : List ℕ). changes_text d [] true) (root_is site root is) ∙ ap (λ (o : Option (List ℕ)). text_from o changes followed site.states since) none

-- ---- the root that is told

pub root_told : (site : SiteValue) (digest : List ℕ) (keys conflicts live number : ℕ) → digest ≡ root_of site.states → keys ≡ len site.states → conflicts ≡ unless_broken site.broken 0 (length (conflicts_in site.states)) → number ≡ site.config.site
    → root_json digest (record { keys = keys; live = live; conflicts = conflicts }) number ≡ root_text site live
root_told site digest keys conflicts live number root count told own =
    ap (λ d. root_json d (record { keys = keys; live = live; conflicts = conflicts }) number) root
    ∙ (ap (λ k. root_json (root_of site.states) (record { keys = k; live = live; conflicts = conflicts }) number) count
    ∙ (ap (λ c. root_json (root_of site.states) (record { keys = len site.states; live = live; conflicts = c }) number) told
    ∙ ap (λ n. root_json (root_of site.states) (record { keys = len site.states; live = live; conflicts = unless_broken site.broken 0 (length (conflicts_in site.states)) }) n) own))
