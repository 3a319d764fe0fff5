-- What is told of a peer, one after the other.
use Rattle.std.proofs.Common.{◌≡◌, ◌∙◌, ◌⊎◌, ◌<◌, ◌++◌, ℕ, Bool, true, false, true≢false, List, [], Option, None, Some, IsSomeAnd, Result, Ok, Err, ap, get_or, if◌then◌else◌, inl, inr, is_some, length, refl, set, string_bytes, subst, sym}
use Rattle.std.proofs.lemmas.Result.{MatchResult-weaker}
use Rattle.mvd_dots.specs.declared.refusals.Refusal.{Refusal}
use Rattle.mvd_meet.specs.Meetings.{MeetingSteps, ReportsOn}
use Rattle.mvd_meet.specs.declared.caller.Caller.{Caller}
use Rattle.mvd_meet.specs.declared.near.Near.{Near}
use Rattle.mvd_meet.specs.declared.stepping.Course.TheVariants as course
use Rattle.mvd_meet.specs.declared.stepping.Meeting.{Meeting}
use Rattle.mvd_server.specs.OwnSides.{IsFreshSession, MovesAtHand}
use Rattle.mvd_server.specs.PeerNews.{MayTell, TellsIf, again_text, is_due, noted_unless, peer_text, told_at}
use Rattle.mvd_server.specs.PeerSays.{IsDone, PeerBreaks, PeerDoes, PeerFails, PeerGoes, PeerSaid, PeerSays, PeerWent, PeersDo, PeersSaid, PeersSay, SessionWent, Sitting, again, begins, closes, done, fails, leaves, moves, one, said_by, sitting, sitting_of, steps, tells, tells_why}
use Rattle.mvd_server.specs.declared.crowd.Crowd.{Crowd}
use Rattle.mvd_server.specs.declared.own_session.OwnSession.{OwnSession}
use Rattle.mvd_server.specs.declared.peer_link.PeerLink.{PeerLink}
use Rattle.mvd_server.specs.declared.peer_news.Setting.{Setting}
use Rattle.mvd_server.specs.declared.peer_news.Untold.{Untold}
use Rattle.mvd_server.specs.declared.peer_turn.Went.{Went}
use Rattle.mvd_server.specs.declared.peer_turn.Went.TheVariants as went
use Rattle.mvd_server.specs.declared.peering.Peering.{Peering}
use Rattle.mvd_server.proofs.Paths.{path_none, path_on, path_one, path_same}
use Rattle.mvd_sync.specs.declared.report.Report.{Report}

-- ---- lines

-- a line is added whole, or not at all
pub whole_line : (b : Bool) (line text old new : List ℕ) → new ≡ (if b then old ++ line else old) → line ≡ text → MayTell text old new
whole_line true line text old new is same = inl (is ∙ ap (λ l. old ++ l) same)
whole_line false line text old new is same = inr is

pub tells_on : (b : Bool) (line old new : List ℕ) → b ≡ true → MayTell line old new → TellsIf b line old new
tells_on b line old new is told = subst (λ c. TellsIf c line old new) (sym is) told

pub tells_off : (b : Bool) (line old new : List ℕ) → b ≡ false → new ≡ old → TellsIf b line old new
tells_off b line old new is same = subst (λ c. TellsIf c line old new) (sym is) same

-- ---- steps of a session

pub same_sitting : (o : Option OwnSession) (a b : OwnSession) → o ≡ Some a → b ≡ record a { runs = b.runs } → sitting_of (Some b) ≡ sitting_of o
same_sitting o a b was is = ap (λ s. Some (sitting s)) is ∙ sym (ap sitting_of was)

pub none_sits : (o : Option OwnSession) → sitting_of o ≡ None → o ≡ None
none_sits None is = refl
none_sits (Some s) is = absurd (true≢false (ap is_some is))

module _ (o : Option OwnSession) (a b : OwnSession) (far far' : Caller) (was : o ≡ Some a) (client : b.client ≡ a.client) where
  sits : sitting_of o ≡ Some (sitting a)
  sits = ap sitting_of was

  abbrev made : ℕ → Near → Meeting → Option Sitting
  made n near meeting = Some (record { client = n; near = near; meeting = meeting })

  pub session_waits : MeetingSteps a.meeting a.near far b.meeting b.near far' course.Waits → SessionWent (sitting_of o) far (sitting_of (Some b)) far' went.Waits
  session_waits h =
      (ap (λ n. made n b.near b.meeting) client ∙ ap (λ near. made a.client near b.meeting) h.same_near ∙ ap (made a.client a.near) h.machine ∙ sym sits, h.same_far)

  pub session_asks : MeetingSteps a.meeting a.near far b.meeting b.near far' course.Asks → SessionWent (sitting_of o) far (sitting_of (Some b)) far' went.Asks
  session_asks h = (sitting a, sitting b, sits, refl, record { steps = h; client = client })

  pub session_done : MeetingSteps a.meeting a.near far b.meeting b.near far' course.Done → SessionWent (sitting_of o) far (sitting_of None) far' (went.Done b)
  session_done h = (sitting a, sits, refl, record { steps = h; client = client })

-- the machine of one that is done
pub machine_done : (old new : Peering) (session : OwnSession) → PeerWent old new (went.Done session) → IsDone (sitting session)
machine_done old new session went = went.4.3.steps.asks.next.asks

-- over a connection
pub over_link : (old new : Peering) (link link' : PeerLink) (how : Went) → old.link ≡ Some link → new.link ≡ Some link' → SessionWent (sitting_of old.session) link.far (sitting_of new.session) link'.far how → PeerWent old new how
over_link old new link link' went.Waits was is h = h.0
over_link old new link link' went.Asks was is h = (link, link', was, is, h)
over_link old new link link' (went.Done session) was is h = (link, link', was, is, h)

-- ---- what is told

pub says_none : (w : PeerSaid) → PeerSays w w
says_none w = path_none PeerDoes w

pub says_same : (old new : PeerSaid) → new ≡ old → PeerSays old new
says_same old new is = path_same PeerDoes old new is

pub says_one : (old new : PeerSaid) → PeerDoes old new → PeerSays old new
says_one old new does = path_one PeerDoes old new does

pub says_on : (old mid new : PeerSaid) → PeerSays old mid → PeerSays mid new → PeerSays old new
says_on old mid new p q = path_on PeerDoes old mid new p q

pub breaks_so : (old new : PeerSaid) → new ≡ record old { session = new.session } → PeerBreaks old new
breaks_so old new is = record { mid = old; says = says_none old; broke = is }

pub breaks_same : (old new : PeerSaid) → new ≡ old → PeerBreaks old new
breaks_same old new is = breaks_so old new (is ∙ sym (ap (λ (w : PeerSaid). record old { session = w.session }) is))

pub breaks_on : (old mid new : PeerSaid) → PeerSays old mid → PeerBreaks mid new → PeerBreaks old new
breaks_on old mid new p q = record { mid = q.mid; says = says_on old mid q.mid p q.says; broke = q.broke }

pub goes_same : (r : Result Bool Refusal) (old new : PeerSaid) → new ≡ old → PeerGoes r old new
goes_same (Ok more) old new is = says_same old new is
goes_same (Err refusal) old new is = breaks_same old new is

pub goes_on : (r : Result Bool Refusal) (old mid new : PeerSaid) → PeerSays old mid → PeerGoes r mid new → PeerGoes r old new
goes_on r old mid new p q = MatchResult-weaker r q (λ more s. says_on old mid new p s) (λ refusal b. breaks_on old mid new p b)

pub goes_err : (r : Result Bool Refusal) (old new : PeerSaid) (refusal : Refusal) → r ≡ Err refusal → PeerBreaks old new → PeerGoes r old new
goes_err r old new refusal is b = subst (λ q. PeerGoes q old new) (sym is) b

-- it failed, wherever its session broke
module _ (refusal : Refusal) where
  fails_from : (mid new : PeerSaid) (session : Option Sitting) → PeerFails refusal (record mid { session = session }) new → PeerFails refusal mid new
  fails_from mid new session (tells_why told is) = tells_why told is
  fails_from mid new session (again is) = again is

  pub fails_broken : (old broken new : PeerSaid) → PeerBreaks old broken → PeerFails refusal broken new → PeerSays old new
  fails_broken old broken new b f =
      let failed = fails_from b.mid new broken.session (subst (λ w. PeerFails refusal w new) b.broke f) in
      says_on old b.mid new b.says (says_one b.mid new (fails refusal failed))

  pub fails_now : (old new : PeerSaid) → PeerFails refusal old new → PeerSays old new
  fails_now old new f = says_one old new (fails refusal f)

-- ---- of a peer

module _ (old new : Peering) (s s' : Setting) (c c' : Crowd) where
  -- nothing of it is told, whatever else changes
  pub same_said : s'.number ≡ s.number → s'.is_quiet ≡ s.is_quiet → s'.is_ending ≡ s.is_ending → c'.now ≡ c.now → c'.told ≡ c.told
      → new ≡ record old { link = new.link; session = new.session } → sitting_of new.session ≡ sitting_of old.session → said_by new s' c' ≡ said_by old s c
  same_said number quiet ending now told is sits =
      ap (λ (p : Peering). said_by p s' c') is
      ∙ ap (λ o. record (said_by old s' c') { session = o }) sits
      ∙ ap (λ n. record (said_by old s' c') { number = n }) number
      ∙ ap (λ b. record (said_by old s' c') { number = s.number; quiet = b }) quiet
      ∙ ap (λ b. record (said_by old s c') { ending = b }) ending
      ∙ ap (λ n. record (said_by old s c') { now = n }) now
      ∙ ap (λ t. said_by old s (record c { told = t })) told

module _ (old new : Peering) (s : Setting) (c c' : Crowd) where
  -- a session begins
  pub begins_so : (session : OwnSession) → IsFreshSession s.number session → new.session ≡ Some session → new ≡ record old { session = new.session; schedule = new.schedule } → c' ≡ record c { talks = c'.talks }
      → PeerSays (said_by old s c) (said_by new s c')
  begins_so session fresh has is clients = says_one (said_by old s c) (said_by new s c') (begins session fresh
      (ap (λ (p : Peering). said_by p s c') is ∙ ap (λ o. record (said_by old s c') { session = sitting_of o }) has ∙ ap (λ (d : Crowd). record (said_by old s d) { session = Some (sitting session) }) clients))

  begins_with : (o : Option OwnSession) → new.session ≡ o → IsSomeAnd o (IsFreshSession s.number) → new ≡ record old { session = new.session; schedule = new.schedule } → c' ≡ record c { talks = c'.talks } → PeerSays (said_by old s c) (said_by new s c')
  begins_with None has never is clients = absurd never
  begins_with (Some session) has fresh is clients = begins_so session fresh has is clients

  pub begins_any : IsSomeAnd new.session (IsFreshSession s.number) → new ≡ record old { session = new.session; schedule = new.schedule } → c' ≡ record c { talks = c'.talks } → PeerSays (said_by old s c) (said_by new s c')
  begins_any fresh is clients = begins_with new.session refl fresh is clients

  -- it ends, as the server does
  pub leaves_so : s.is_ending ≡ true → new ≡ record old { link = new.link; session = None } → c' ≡ record c { talks = c'.talks } → PeerSays (said_by old s c) (said_by new s c')
  leaves_so ending is clients = says_one (said_by old s c) (said_by new s c') (leaves ending
      (ap (λ (p : Peering). said_by p s c') is ∙ ap (λ (d : Crowd). record (said_by old s d) { session = None }) clients))

module _ (old new : Peering) (s : Setting) (c : Crowd) (rest : new ≡ record old { link = new.link; session = new.session }) where
  -- a step of its session
  pub went_nowhere : PeerWent old new went.Waits → said_by new s c ≡ said_by old s c
  went_nowhere same = ap (λ (p : Peering). said_by p s c) rest ∙ ap (λ o. record (said_by old s c) { session = o }) same

  pub went_on : PeerWent old new went.Asks → PeerSays (said_by old s c) (said_by new s c)
  went_on (link, link', was, is, (a, b, had, has, steps')) = says_one (said_by old s c) (said_by new s c) (steps a b link.far link'.far course.Asks had steps'
      (ap (λ (p : Peering). said_by p s c) rest ∙ ap (λ o. record (said_by old s c) { session = o }) has))

  -- the last, and what is told then
  pub went_done : (last : Peering) (s' : Setting) (c' : Crowd) (session : OwnSession) → PeerWent old new (went.Done session)
      → (new.session ≡ None → PeerSays (record (said_by new s c) { session = Some (sitting session) }) (said_by last s' c')) → PeerSays (said_by old s c) (said_by last s' c')
  went_done last s' c' session (link, link', was, is, (a, had, none, steps')) says =
      let mid = record (said_by new s c) { session = Some (sitting session) } in
      says_on (said_by old s c) mid (said_by last s' c')
      (says_one (said_by old s c) mid (steps a (sitting session) link.far link'.far course.Done had steps' (ap (λ (p : Peering). record (said_by p s c) { session = Some (sitting session) }) rest)))
      (says (none_sits new.session none))

-- bytes move between it and this server's own site
pub moves_so : (old new : Peering) (s : Setting) (c c' : Crowd) (a b : OwnSession) → old.session ≡ Some a → new ≡ record old { session = new.session } → new.session ≡ Some b → b ≡ record a { near = b.near } → MovesAtHand a.near b.near → c' ≡ record c { talks = c'.talks }
    → PeerSays (said_by old s c) (said_by new s c')
moves_so old new s c c' a b was is has same bytes clients = says_one (said_by old s c) (said_by new s c') (moves (sitting a) (sitting b) (ap sitting_of was)
    (ap (λ (t : OwnSession). t.client) same) (ap (λ (t : OwnSession). t.meeting) same) bytes
    (ap (λ (p : Peering). said_by p s c') is ∙ ap (λ o. record (said_by old s c') { session = sitting_of o }) has ∙ ap (λ (d : Crowd). record (said_by old s d) { session = Some (sitting b) }) clients))

-- a change is no news of its session
pub rescheduled : (old new : Peering) (s : Setting) (c : Crowd) → new ≡ record old { schedule = new.schedule } → said_by new s c ≡ said_by old s c
rescheduled old new s c is = ap (λ (p : Peering). said_by p s c) is

-- what was exchanged is told, once it may be
pub tells_so : (p : Peering) (news : Untold) (s : Setting) (c c' : Crowd) → news ≡ told_at c.now p.untold → TellsIf (is_due c.now p.untold) (peer_text p.address p.untold) (string_bytes c.told) (string_bytes c'.told) → c' ≡ record c { told = c'.told }
    → PeerSays (said_by p s c) (said_by (record p { untold = news }) s c')
tells_so p news s c c' is told clients = says_one (said_by p s c) (said_by (record p { untold = news }) s c') (tells told
    (ap (λ u. record (said_by p s c') { untold = u }) is ∙ ap (λ (d : Crowd). record (said_by p s d) { untold = told_at c.now p.untold; told = string_bytes c'.told }) clients))

-- one that is done is told
module _ (session : OwnSession) (report : Report) (old mid new : Peering) (s : Setting) (c c' : Crowd) where
  pub done_so : old.session ≡ None → IsDone (sitting session) → ReportsOn session.meeting report → mid ≡ record old { is_failing = false } → TellsIf old.is_failing (again_text old.address) (string_bytes c.told) (string_bytes c'.told)
      → new ≡ record mid { untold = noted_unless s.is_quiet report mid.untold } → c' ≡ record c { talks = c'.talks; told = c'.told }
      → PeerSays (record (said_by old s c) { session = Some (sitting session) }) (said_by new s c')
  done_so none is reports again' told noted clients =
      says_one (record (said_by old s c) { session = Some (sitting session) }) (said_by new s c') (done (sitting session) refl (record {
        is = is;
        report = report;
        reports = reports;
        again = told;
        rest = ap (λ (p : Peering). said_by p s c') noted
            ∙ ap (λ (p : Peering). record (said_by p s c') { untold = noted_unless s.is_quiet report p.untold }) again'
            ∙ ap (λ o. record (said_by old s c') { session = sitting_of o; untold = noted_unless s.is_quiet report old.untold; failing = false }) none
            ∙ ap (λ (d : Crowd). record (said_by old s d) { session = None; untold = noted_unless s.is_quiet report old.untold; failing = false }) clients;
      }))

-- what is noted of it besides is not told
pub noted_so : (old mid new : Peering) (s s' : Setting) (c c' : Crowd) → mid ≡ record old { schedule = mid.schedule; left = mid.left } → new ≡ record mid { link = new.link } → s' ≡ record s { errors = s'.errors } → c' ≡ record c { counts = c'.counts }
    → said_by new s' c' ≡ said_by old s c
noted_so old mid new s s' c c' noted linked told counted =
    ap (λ (p : Peering). said_by p s' c') linked ∙ ap (λ (p : Peering). said_by p s' c') noted ∙ ap (λ (d : Crowd). said_by old s' d) counted ∙ ap (λ (t : Setting). said_by old t c) told

-- the connection is not told
pub relinked : (old new : Peering) (s : Setting) (c : Crowd) → new ≡ record old { link = new.link } → said_by new s c ≡ said_by old s c
relinked old new s c is = ap (λ (p : Peering). said_by p s c) is

-- ---- of all peers

pub all_say_none : (w : PeersSaid) → PeersSay w w
all_say_none w = path_none PeersDo w

pub all_say_same : (old new : PeersSaid) → new ≡ old → PeersSay old new
all_say_same old new is = path_same PeersDo old new is

pub all_say_on : (old mid new : PeersSaid) → PeersSay old mid → PeersSay mid new → PeersSay old new
all_say_on old mid new p q = path_on PeersDo old mid new p q

pub one_says : (old new : PeersSaid) (i : ℕ) (d p : Peering) → i < length old.list → new.list ≡ set old.list i p → PeerSays (said_by (get_or old.list i d) old.setting old.crowd) (said_by p new.setting new.crowd) → PeersSay old new
one_says old new i d p at is says = path_one PeersDo old new (one i d p at is says)

pub all_close : (old new : PeersSaid) → (new.list ≡ old.list) ⊎ (new.list ≡ []) → new ≡ record old { list = new.list; setting = record old.setting { is_ending = true } } → PeersSay old new
all_close old new left is = path_one PeersDo old new (closes left is)
