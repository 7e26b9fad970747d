use Rattle.std.proofs.Common.{refl}
use Rattle.wb_office.proofs.history.live_once.Goals as goal

pub returns-in-Ok-clause-lived : goal.returns-in-Ok-clause-lived
returns-in-Ok-clause-lived g c = (c.in-Ok.life.given, c.in-Ok.ensures.lived, c.cut_after-back.ensures.back)

pub returns-in-Err-clause-lived : goal.returns-in-Err-clause-lived
returns-in-Err-clause-lived g c =
    let cut = c.cut_power-back.ensures in
    (refl, (c.in-Err.refused.files, c.in-Err.ensures.refused, (cut.told, cut.clean, cut.fewer)))
