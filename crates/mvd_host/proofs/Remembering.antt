-- What a feed notes.
use Rattle.std.proofs.Common.{◌≡◌, inl, inr, List, ℕ, Result, Ok, Err, OnOk, OnErr, ap, ap₂, subst, sym, refl, ◌∙◌}
use Rattle.mvd_keys.specs.Writes.{Key}
use Rattle.mvd_wire.specs.declared.request.Request.{Request}
use Rattle.mvd_site.specs.Held.{States}
use Rattle.mvd_host.specs.Feeds.{FeedValue, knows_root, noted_in}
use Rattle.mvd_host.specs.Lists.{ListsOn, root_of}
use Rattle.mvd_host.specs.Noting.{Notes, NotesChanges, keys_to_change}
use Rattle.mvd_host.proofs.Listing.{lists_still}

-- what a note that was made, or was refused memory, leaves
pub noted_notes : {T E : Type 0} (requests : List Request) (now : States) (old new : FeedValue) (keys : List Key) (root : List ℕ) (result : Result T E) → keys ≡ keys_to_change requests → root ≡ root_of now →
    OnOk result (new ≡ noted_in old keys root) → OnErr result (new ≡ knows_root root) → Notes requests now old new
noted_notes requests now old new keys root (Ok done) keys_are root_is ok err = inl (ok ∙ ap₂ (noted_in old) keys_are root_is)
noted_notes requests now old new keys root (Err e) keys_are root_is ok err = inr (inl (err ∙ ap knows_root root_is))

-- where the states are as they were
pub still_lists : (feed : FeedValue) (old new : States) → new ≡ old → ListsOn feed old feed new
still_lists feed old new same = subst (λ s. ListsOn feed old feed s) (sym same) (lists_still feed old)

pub still_notes : (requests : List Request) (feed : FeedValue) (old new : States) → new ≡ old → NotesChanges requests old new feed feed
still_notes requests feed old new same = inl (same, refl)
