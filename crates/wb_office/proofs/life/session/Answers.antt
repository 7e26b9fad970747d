use Rattle.wb_office.proofs.SessionLemmas.{left_of_session, open_over, session_of}
use Rattle.wb_office.proofs.life.session.Goals as goal

pub returns : goal.returns
returns g c =
    let e = c.in_ok-office.ensures in
    let lived = session_of g.D.Disk (open_over g.D.Disk c.args.files c.in_ok-office.office e.opened e.unlimited e.clean e.left e.new) c.live-ended.ensures.lives c.ok.ensures.value in
    record { lived = lived; left = left_of_session g.D.Disk c.ok.result lived; refused = tt }
