-- What a site tells of questions that change nothing.
use Rattle.std.specs.Prelude.{◌≡◌, Bool, false, ℕ, List, length, Option, Result, Ok, Err, Vec, IfErr, IfOk}
use Rattle.std.specs.declared.alloc.Global.{Global}
use Rattle.mvd_dots.specs.declared.refusals.Refusal.{Refusal}
use Rattle.mvd_dots.specs.declared.refusals.Refusal.TheVariants.{Broken, Memory}
use Rattle.mvd_keys.specs.State.{State}
use Rattle.mvd_keys.specs.Writes.{Key}
use Rattle.mvd_tree.specs.Page.{is_more_after_page, bucket_page}
use Rattle.mvd_wire.specs.declared.reply.Digests.{Digests}
use Rattle.mvd_site.specs.Answer.{digests, node_digests}
use Rattle.mvd_site.specs.FromStates.{bucket_refusal, unless_broken}
use Rattle.mvd_site.specs.Held.{state_at}
use Rattle.mvd_site.specs.Sites.{SiteValue}
use Rattle.mvd_peer.specs.Asking.{PageQuestion}
use Rattle.mvd_peer.specs.Windows.{AreWithin, ForEach, PageValue}
use Rattle.mvd_peer.specs.declared.window.Told.{Told}
use Rattle.mvd_peer.specs.declared.window.Told.TheVariants.{Nodes as NodesTold, Pages as PagesTold, Refused, States}
use Rattle.mvd_peer.specs.declared.window.Window.{Window}
use Rattle.mvd_peer.specs.declared.window.Window.TheVariants.{Gets, Nodes, Pages}

-- the digests of a node and of its children, or 22 of a broken site
abbrev pub node_told : SiteValue → List ℕ → Result Digests Refusal
node_told site path = unless_broken site.broken (Err Broken) (Ok (node_digests (digests site.states) path))

-- a page of a bucket's keys with their digests, after a key if one is given
pub record TellsBucketPage (site : SiteValue) (node : List ℕ) (after : Option Key)
    (result : Result (Vec (Key × List ℕ) Global × Bool) Refusal) : Type 0 where
  -- a broken site gives none
  pub whole : IfOk result (λ _. site.broken ≡ false)
  -- it is of a bucket
  pub path : IfOk result (λ _. length node ≡ 3)
  -- the keys with their digests
  pub keys : IfOk result (λ page. page.0.items ≡ bucket_page (digests site.states) node after)
  -- whether more follow
  pub more : IfOk result (λ page. page.1 ≡ is_more_after_page (digests site.states) node after)
  -- 22 of a broken site, 14 where the path is of no bucket, 20 otherwise
  pub refused : IfErr result (λ refusal. refusal ≡ bucket_refusal site.broken node)

-- the state of a key, empty where the key is not held
pub record TellsState (site : SiteValue) (key : Key) (result : Result State Refusal) : Type 0 where
  -- a broken site gives none
  pub whole : IfOk result (λ _. site.broken ≡ false)
  -- the state that is held
  pub state : IfOk result (λ s. s ≡ state_at site.states key)
  -- 22 of a broken site, 20 otherwise
  pub refused : IfErr result (λ refusal. refusal ≡ unless_broken site.broken Broken Memory)

-- ---- a window of them

abbrev pub TellsNodes : SiteValue → List (List ℕ) → List (Result Digests Refusal) → Type 0
TellsNodes site = ForEach (λ path answer. answer ≡ node_told site path)

abbrev pub TellsPages : SiteValue → List PageQuestion → List (Result PageValue Refusal) → Type 0
TellsPages site = ForEach (λ q. TellsBucketPage site q.0 q.1)

-- as many of the first states as are fewer bytes than 1,048,576, and one more; further gets are refused with 20
abbrev pub TellsStates : SiteValue → List Key → List (Result State Refusal) → Type 0
TellsStates site keys told = ForEach (TellsState site) keys told × AreWithin 0 told

-- WHAT A SITE TELLS OF A WINDOW THAT CHANGES NOTHING: an answer for each question, in order; or that memory was refused
abbrev pub TellsReads : SiteValue → Window → Told → Type 0
TellsReads site (Nodes paths) (NodesTold told) = TellsNodes site paths.items told.items
TellsReads site (Pages pages) (PagesTold told) = TellsPages site pages.items told.items
TellsReads site (Gets keys) (States told) = TellsStates site keys.items told.items
TellsReads site (Nodes paths) (Refused refusal) = refusal ≡ Memory
TellsReads site (Pages pages) (Refused refusal) = refusal ≡ Memory
TellsReads site (Gets keys) (Refused refusal) = refusal ≡ Memory
TellsReads site window told = ⊥
