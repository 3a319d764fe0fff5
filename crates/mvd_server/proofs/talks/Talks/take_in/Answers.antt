use Rattle.std.proofs.Common.{◌≡◌, subst, sym, ◌∙◌}
use Rattle.mvd_replica.specs.Replicas.{site_of}
use Rattle.mvd_server.specs.Errands.{AsksNextOf}
use Rattle.mvd_server.specs.Talking.{talking_of}
use Rattle.mvd_server.specs.declared.batch.Batch.{Batch}
use Rattle.mvd_server.specs.declared.gate.Rest.{Rest}
use Rattle.mvd_server.specs.declared.gate.Rest.TheVariants as rest
use Rattle.mvd_server.proofs.Beginning.{asks_many, keeps_asked, keeps_handed}
use Rattle.mvd_server.proofs.Deeds.{asks_at, deeds_at, no_batch, writing}
use Rattle.mvd_server.proofs.Errands.{batch_of}
use Rattle.mvd_server.proofs.talks.Talks.take_in.Goals as goal
use Rattle.mvd_web.specs.Inside.{web_of}

pub returns-in-Nothing-clause-deeds : goal.returns-in-Nothing-clause-deeds
returns-in-Nothing-clause-deeds g c =
    let web = c.ask-rest.new.web in
    asks_at (site_of c.args.replica.now) c.args.number c.ask-rest.result _ c.in-Some.web.now web (talking_of c.args.self.now) c.ask-rest.new.hand (c.get_mut.follows.lender web).entries (sym c.in-Some.ensures.value) c.as_ref.ensures.value c.ask-rest.ensures (c.get_mut.follows.holds web).0

pub returns-in-Stops-clause-deeds : goal.returns-in-Stops-clause-deeds
returns-in-Stops-clause-deeds g c =
    let web = c.ask-rest.new.web in
    asks_at (site_of c.args.replica.now) c.args.number c.ask-rest.result _ c.in-Some.web.now web (talking_of c.args.self.now) c.ask-rest.new.hand (c.get_mut.follows.lender web).entries (sym c.in-Some.ensures.value) c.as_ref.ensures.value c.ask-rest.ensures (c.get_mut.follows.holds web).0

pub returns-in-Writes-clause-deeds : goal.returns-in-Writes-clause-deeds
returns-in-Writes-clause-deeds g c =
    let site = site_of c.args.replica.now in
    let old = talking_of c.args.self.now in
    let now = c.in-Some.web.now in
    let web = c.ask-rest.new.web in
    let n = c.args.number in
    let entries = (c.get_mut.follows.lender web).entries in
    let has = sym c.in-Some.ensures.value in
    let is = (c.get_mut.follows.holds web).0 in
    let mid = record old { hand = c.ask-rest.new.hand; webs = entries } in
    let batch = c.in-Writes.batch in
    let asks = subst (λ passes. AsksNextOf site old.feed passes old.names n (web_of now) old.hand (web_of web) c.ask-rest.new.hand (rest.Writes batch)) c.as_ref.ensures.value c.in-Writes.ensures in
    let mine = batch_of site old.feed old.passes old.names n (web_of now) old.hand (web_of web) c.ask-rest.new.hand batch asks in
    deeds_at site old mid (talking_of c.begin_writes.new.self) (asks_at site n (rest.Writes batch) _ now web old c.ask-rest.new.hand entries has c.as_ref.ensures.value c.in-Writes.ensures is)
    (c.begin_writes.ensures.deeds (writing n now web old.webs entries batch has is mine, no_batch _ _ c.contains_key.ensures c.if-contains_key.false) site)

pub returns-in-Waits-clause-deeds : goal.returns-in-Waits-clause-deeds
returns-in-Waits-clause-deeds g c =
    let site = site_of c.args.replica.now in
    let old = talking_of c.args.self.now in
    let web = c.ask-rest.new.web in
    let entries = (c.get_mut.follows.lender web).entries in
    deeds_at site old (record old { hand = c.ask-rest.new.hand; webs = entries }) (talking_of c.park.new.self)
    (asks_at site c.args.number c.ask-rest.result _ c.in-Some.web.now web old c.ask-rest.new.hand entries (sym c.in-Some.ensures.value) c.as_ref.ensures.value c.ask-rest.ensures (c.get_mut.follows.holds web).0)
    (c.park.ensures.deeds site)

pub returns-then-contains_key-clause-begins : goal.returns-then-contains_key-clause-begins
returns-then-contains_key-clause-begins g c = λ holds.
    keeps_handed c.args.number (talking_of c.args.self.now) (talking_of c.hand_on_writes.new.self) _ c.contains_key.ensures c.if-contains_key.true c.hand_on_writes.ensures.hands

pub returns-in-Nothing-clause-begins : goal.returns-in-Nothing-clause-begins
returns-in-Nothing-clause-begins g c =
    let old = talking_of c.args.self.now in
    let web = c.ask-rest.new.web in
    let other : (batch : Batch) → c.ask-rest.result ≡ rest.Writes batch → ⊥ = λ batch is. let no : ◌≡◌ {A = Rest} rest.Nothing (rest.Writes batch) = sym c.in-Nothing.is ∙ is in absurd cc in
    keeps_asked c.args.number c.in-Some.web.now web old c.ask-rest.new.hand (c.get_mut.follows.lender web).entries (sym c.in-Some.ensures.value) (c.get_mut.follows.holds web).0
    (asks_many (site_of c.args.replica.now) old.feed _ old.names c.args.number (web_of c.in-Some.web.now) old.hand (web_of web) c.ask-rest.new.hand c.ask-rest.result c.ask-rest.ensures other)

pub returns-in-Stops-clause-begins : goal.returns-in-Stops-clause-begins
returns-in-Stops-clause-begins g c =
    let old = talking_of c.args.self.now in
    let web = c.ask-rest.new.web in
    let other : (batch : Batch) → c.ask-rest.result ≡ rest.Writes batch → ⊥ = λ batch is. let no : ◌≡◌ {A = Rest} rest.Stops (rest.Writes batch) = sym c.in-Stops.is ∙ is in absurd cc in
    keeps_asked c.args.number c.in-Some.web.now web old c.ask-rest.new.hand (c.get_mut.follows.lender web).entries (sym c.in-Some.ensures.value) (c.get_mut.follows.holds web).0
    (asks_many (site_of c.args.replica.now) old.feed _ old.names c.args.number (web_of c.in-Some.web.now) old.hand (web_of web) c.ask-rest.new.hand c.ask-rest.result c.ask-rest.ensures other)

pub returns-in-Waits-clause-begins : goal.returns-in-Waits-clause-begins
returns-in-Waits-clause-begins g c = λ holds.
    let old = talking_of c.args.self.now in
    let web = c.ask-rest.new.web in
    let other : (batch : Batch) → c.ask-rest.result ≡ rest.Writes batch → ⊥ = λ batch is. let no : ◌≡◌ {A = Rest} (rest.Waits _ _) (rest.Writes batch) = sym c.in-Waits.is ∙ is in absurd cc in
    c.park.ensures.writes (keeps_asked c.args.number c.in-Some.web.now web old c.ask-rest.new.hand (c.get_mut.follows.lender web).entries (sym c.in-Some.ensures.value) (c.get_mut.follows.holds web).0
    (asks_many (site_of c.args.replica.now) old.feed _ old.names c.args.number (web_of c.in-Some.web.now) old.hand (web_of web) c.ask-rest.new.hand c.ask-rest.result c.ask-rest.ensures other) holds)

pub returns-in-Writes-clause-begins : goal.returns-in-Writes-clause-begins
returns-in-Writes-clause-begins g c = λ holds.
    let site = site_of c.args.replica.now in
    let old = talking_of c.args.self.now in
    let now = c.in-Some.web.now in
    let web = c.ask-rest.new.web in
    let n = c.args.number in
    let batch = c.in-Writes.batch in
    let asks = subst (λ passes. AsksNextOf site old.feed passes old.names n (web_of now) old.hand (web_of web) c.ask-rest.new.hand (rest.Writes batch)) c.as_ref.ensures.value c.in-Writes.ensures in
    let mine = batch_of site old.feed old.passes old.names n (web_of now) old.hand (web_of web) c.ask-rest.new.hand batch asks in
    c.begin_writes.ensures.begins (writing n now web old.webs (c.get_mut.follows.lender web).entries batch (sym c.in-Some.ensures.value) (c.get_mut.follows.holds web).0 mine, no_batch _ _ c.contains_key.ensures c.if-contains_key.false)
