use Rattle.std.proofs.Common.{sym}
use Rattle.wb_office.proofs.SessionLemmas.{given_back}
use Rattle.wb_office.proofs.life.give_up.Goals as goal

pub returns : goal.returns
returns g c =
    let e = c.try_close.ensures in
    record { gives_up = given_back g.D.Disk c.args.office c.try_close.result (sym c.if-closed.ensures.value) e.settled e.either e.clean e.err }
