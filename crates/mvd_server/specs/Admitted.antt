-- Who may ask over HTTP.
use Rattle.std.specs.Prelude.{◌≡◌, None, Result}
use Rattle.mvd_dots.specs.declared.refusals.Refusal.{Refusal}
use Rattle.mvd_http.specs.declared.http_fault.Fault.TheVariants as fault
use Rattle.mvd_http.specs.declared.question.Question.{Question}
use Rattle.mvd_server.specs.Plans.{IsFreePlan, IsPlanOf, TellsFault, TellsMethods}
use Rattle.mvd_server.specs.declared.gate.Plan.{Plan}
use Rattle.mvd_server.specs.declared.gate.Plan.TheVariants as plan
use Rattle.mvd_web.specs.declared.taken.Entry.{Entry}
use Rattle.mvd_web.specs.declared.taken.Entry.TheVariants.{Open, Free, Preflight, Conditional, HostMissing, Stranger, NoToken}

-- WHAT IS DONE ABOUT A REQUEST: what it asks, where it comes in. Else it is told why not, and the site is asked nothing:
-- it names no host, or more than one; or a host that is not this server, or it comes of a page that may not ask; or
-- it shows no token that is known; or its right does not allow it; or it is a write under a condition. A page of another origin is told by which methods it may ask
abbrev pub Decides : Entry → Result Question Refusal → Plan → Type 0
Decides (Open right) question p = IsPlanOf right question p
Decides Free question p = IsFreePlan question p
Decides HostMissing question p = TellsFault fault.HostMissing None p
Decides (Stranger cause) question p = TellsFault cause None p
Decides Conditional question p = TellsFault fault.PreconditionFailed None p
Decides Preflight question p = TellsMethods question p
Decides NoToken question p = p ≡ plan.NotAdmitted
