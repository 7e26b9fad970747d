use Rattle.std.proofs.Common.{inr}
use Rattle.std.proofs.lemmas.Result.{IfErr-weaker, IfOk-weaker}
use Rattle.wb_office.proofs.SessionLemmas.{life_of, open_over, unshown}
use Rattle.wb_office.proofs.life.open_and_live.Goals as goal

pub returns-in-Ok-try_open : goal.returns-in-Ok-try_open
returns-in-Ok-try_open g c =
    let e = c.in-Ok-try_open.ensures in
    let over = open_over g.D.Disk c.args.files c.in-Ok-try_open.office e.opened e.unlimited e.clean e.left e.new in
    record {
      lived = IfOk-weaker c.live_on.result _ _ (λ life found. life_of g.D.Disk over found) c.live_on.ensures.lived;
      refused = IfErr-weaker c.live_on.result _ _ (λ refused given. inr (inr (unshown g.D.Disk c.in-Ok-try_open.office over given))) c.live_on.ensures.unshown;
    }
