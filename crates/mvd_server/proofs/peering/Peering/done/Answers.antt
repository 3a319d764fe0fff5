use Rattle.std.proofs.Common.{◌∙◌, ap, refl}
use Rattle.mvd_server.specs.declared.crowd.Crowd.{Crowd}
use Rattle.mvd_server.specs.PeerSays.{said_by}
use Rattle.mvd_server.specs.Talking.{talking_of}
use Rattle.mvd_server.proofs.Deeds.{deeds_same}
use Rattle.mvd_server.proofs.PeerTelling.{done_so, noted_so, relinked, says_on, says_same}
use Rattle.mvd_server.proofs.peering.Peering.done.Goals as goal

pub returns-then-setting-clause-deeds : goal.returns-then-setting-clause-deeds
returns-then-setting-clause-deeds c = deeds_same (talking_of c.args.crowd.now.talks) (talking_of c.note_done.new.crowd.talks) (ap (λ (d : Crowd). talking_of d.talks) c.note_done.ensures.crowd ∙ ap talking_of c.tell.ensures.talks)

pub returns-clause-deeds : goal.returns-clause-deeds
returns-clause-deeds c = deeds_same (talking_of c.args.crowd.now.talks) (talking_of c.note_done.new.crowd.talks) (ap (λ (d : Crowd). talking_of d.talks) c.note_done.ensures.crowd ∙ ap talking_of c.tell.ensures.talks)

pub returns-then-setting-clause-says : goal.returns-then-setting-clause-says
returns-then-setting-clause-says c = λ none.
    let s = c.args.setting.now in
    let s' = c.note_done.new.setting in
    let told = record c.args.crowd.now { told = c.note_again.new.told } in
    let last = c.note_done.new.crowd in
    let noted = c.note_exchanged.new.self in
    let kept = noted_so c.tell.new.self c.note_done.new.self c.keep.new.self s s' c.tell.new.crowd last c.note_done.ensures.peering c.keep.ensures c.note_done.ensures.setting c.note_done.ensures.crowd in
    says_on _ (said_by noted s told) _
    (done_so c.args.session c.report-report.result c.args.self.now c.note_again.new.self noted s c.args.crowd.now told none c.requires c.report-report.ensures c.note_again.ensures.peering c.note_again.ensures.told c.note_exchanged.ensures refl)
    (says_on _ (said_by c.tell.new.self s c.tell.new.crowd) _ (c.tell.ensures.says s) (says_same _ _ kept))

pub returns-clause-says : goal.returns-clause-says
returns-clause-says c = λ none.
    let s = c.args.setting.now in
    let s' = c.note_done.new.setting in
    let told = record c.args.crowd.now { told = c.note_again.new.told } in
    let last = c.note_done.new.crowd in
    let noted = c.note_exchanged.new.self in
    let kept = noted_so c.tell.new.self c.note_done.new.self c.keep.new.self s s' c.tell.new.crowd last c.note_done.ensures.peering c.keep.ensures c.note_done.ensures.setting c.note_done.ensures.crowd in
    says_on _ (said_by noted s told) _
    (done_so c.args.session c.report-report.result c.args.self.now c.note_again.new.self noted s c.args.crowd.now told none c.requires c.report-report.ensures c.note_again.ensures.peering c.note_again.ensures.told c.note_exchanged.ensures refl)
    (says_on _ (said_by c.tell.new.self s c.tell.new.crowd) _ (c.tell.ensures.says s) (says_same _ _ (relinked c.keep.new.self c.part.new.self s' last c.part.ensures ∙ kept)))
