-- What a site at hand does with one request that was sent to it.
use Rattle.std.specs.Prelude.{◌≡◌, List, [], ◌∷◌, ◌++◌, Result, Ok, Err}
use Rattle.mvd_dots.specs.declared.refusals.Refusal.{Refusal}
use Rattle.mvd_wire.specs.declared.request.Request.{Request}
use Rattle.mvd_wire.specs.declared.reply.Reply.{Reply}
use Rattle.mvd_site.specs.Held.{AreHeld}
use Rattle.mvd_site.specs.Sites.{SiteValue}
use Rattle.mvd_line_tests.specs.declared.served.Served.{Served}
use Rattle.mvd_remote.specs.Lines.{Far, MayTake, TrueReply}

-- what is at the other end: a site, whose replies wait
abbrev pub far_at : SiteValue → List Reply → Far
far_at site waiting = record { states = site.states; due = waiting; config = site.config }

-- its reply waits, or there was no memory for that
abbrev pub TakesOneRequest : Far → Request → Far → Result (Unit {0}) Refusal → Type 0
TakesOneRequest old request new (Ok done) =
    (reply : Reply) × TrueReply old.config old.states request reply new.states × (new.due ≡ old.due ++ reply ∷ [])
TakesOneRequest old request new (Err refusal) = MayTake old.config old.states request new.states

-- the site at the other end
abbrev pub far_site : Served → SiteValue
far_site served = served.site

-- it holds keys and states in form, and no reply of it waits
abbrev pub IsAtHand : Served → Type 0
IsAtHand served = AreHeld served.site.states × (served.waiting.items ≡ [])
