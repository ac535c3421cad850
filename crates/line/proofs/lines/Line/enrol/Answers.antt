-- The project wants no proof close to a limit of the search; without this the check finds it only there.
use Rattle.std.proofs.Common.{◌≡◌, rules}
use Rattle.line.specs.Calls.{after_enrol}
use Rattle.line.proofs.Told.{enrol_told}
use Rattle.line.proofs.lines.Line.enrol.Goals as goal

pub returns-clause-told : goal.returns-clause-told
returns-clause-told g c =
    let a = c.args in
    let ruled : c.enrol.new.self ≡ after_enrol a.self.now.schedule a.point a.service a.threshold = search rules in
    enrol_told a.self.now.schedule _ a.point a.service a.threshold _ a.self.now.sound c.enrol.ensures.answer ruled
