use Rattle.wb_office.proofs.SessionLemmas.{given_up_of}
use Rattle.wb_office.proofs.life.live_on.Goals as goal

pub returns-in-Ok-clause-lived : goal.returns-in-Ok-clause-lived
returns-in-Ok-clause-lived g c =
    let shows = c.in-Ok.ensures in
    record {
      shown = c.rows.new.self;
      still = shows.kept.0;
      limit = shows.survives.limit;
      clean = shows.clean;
      rows_are = λ is machine at. shows.shows is c.requires.opened machine at;
      count = c.accepted_count-accepted.ensures.value;
      lives = c.live-ended.ensures.lives;
    }

pub returns-in-Err-clause-unshown : goal.returns-in-Err-clause-unshown
returns-in-Err-clause-unshown g c =
    let rows = c.in-Err.ensures in
    given_up_of g.D.Disk c.args.office c.rows.new.self.store c.requires.opened rows.clean rows.err rows.survives c.surrender.ensures.clean c.surrender.ensures.left
