-- Who goes, and when.
use Rattle.std.proofs.Common.{◌≡◌, ◌∙◌, Bool, true, false, ℕ, None, Some, inl, inr, ap, sym, subst, true≢false}
use Rattle.std.specs.BTreeMap.{is_at}
use Rattle.std.specs.Map.{remove_entry}
use Rattle.std.specs.Ordering.{nat_cmp}
use Rattle.mvd_conn.specs.History.{is_done}
use Rattle.mvd_host.specs.Hosts.{ClientLeaves, HostValue, IsClient, client_of}
use Rattle.mvd_server.proofs.Keyed.{found_new}
use Rattle.mvd_server.specs.Guarded.{first_guard}
use Rattle.mvd_server.specs.Talking.{ComesByWeb, Deeds, DoesAct, GoesAtOnce, HasNothingLeft, IsGoneBy, MayPart, Talking, TurnsBack, talking_of, web_in, with_host}
use Rattle.mvd_server.specs.declared.talks.Kind.{Kind}
use Rattle.mvd_server.specs.declared.talks.Kind.TheVariants.{Frames, Http}
use Rattle.mvd_server.specs.declared.talks.Talks.{Talks}
use Rattle.mvd_web.specs.Inside.{web_of}
use Rattle.mvd_web.specs.Web.{IsOver}
use Rattle.mvd_web.specs.declared.web_connection.WebConnection.{WebConnection}

-- ---- one for which nothing is left to do

pub spent_frames : (t : Talking) (n : ℕ) → None ≡ web_in t n → IsClient (client_of t.host n) (λ h. is_done h ≡ true) → MayPart n t
spent_frames t n none done = subst (λ o. HasNothingLeft o (client_of t.host n)) none done

pub spent_over : (t : Talking) (n : ℕ) (web : WebConnection) → Some web ≡ web_in t n → IsOver (web_of web) → MayPart n t
spent_over t n web has over = subst (λ o. HasNothingLeft o (client_of t.host n)) has (inl over)

-- one that goes is gone
pub gone_by : (n : ℕ) (old new : Talking) → ClientLeaves old.host n new.host → new.webs ≡ remove_entry (is_at (nat_cmp n)) old.webs → (kind : Kind) → IsGoneBy kind n old new
gone_by n old new leaves gone Frames = leaves
gone_by n old new leaves gone Http = gone

-- ---- one that has just come

pub back_frames : (n : ℕ) (old : Talking) (host : HostValue) → ClientLeaves old.host n host → GoesAtOnce Frames n old (with_host old host)
back_frames n old host leaves before (one, same) = (first_guard before.passes, one, leaves, ap (λ (t : Talking). with_host t host) same)

fresh_goes : (n : ℕ) (web : WebConnection) (before old : Talking) → DoesAct (ComesByWeb n web) before old → MayPart n old
fresh_goes n web before old (number, fresh, same) =
    let has : web_in old n ≡ Some web = ap (λ (t : Talking). web_in t n) same ∙ found_new n web before.webs in
    subst (λ o. HasNothingLeft o (client_of old.host n)) (sym has) (inr fresh)

pub back_web : (n : ℕ) (old new : Talking) → (MayPart n old → Deeds old new) → GoesAtOnce Http n old new
back_web n old new goes before (web, does) = goes (fresh_goes n web before old does)
