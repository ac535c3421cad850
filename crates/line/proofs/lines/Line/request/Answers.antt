-- With its law named above the call too, the check's search gives up at a limit here.
use Rattle.line.proofs.Requested.{request_sound}
use Rattle.line.proofs.lines.Line.request.Goals as goal

pub invariant_of-self : goal.invariant_of-self
invariant_of-self g c =
    let a = c.args in
    record { sound = request_sound a.self.now.schedule _ a.point c.request.ensures.after a.self.now.sound }
