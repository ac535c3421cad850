-- With its law named above the call too, the check's search gives up at a limit here.
use Rattle.line.proofs.Soundness.{reserve_sound}
use Rattle.line.proofs.lines.Line.reserve.Goals as goal

pub invariant_of-self : goal.invariant_of-self
invariant_of-self g c =
    let a = c.args in
    record { sound = reserve_sound a.self.now.schedule _ a.number a.asked c.reserve.ensures.after a.self.now.sound }
