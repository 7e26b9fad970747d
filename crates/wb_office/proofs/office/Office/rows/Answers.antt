use Rattle.wb_office.proofs.FoundLemmas.{fails_at, shows_at}
use Rattle.wb_office.proofs.office.Office.rows.Goals as goal

pub returns-clause-shows : goal.returns-clause-shows
returns-clause-shows g c = shows_at c.args.self.now.is_closed c.args.self.now.known c.rows.result c.rows.ensures.shows

pub returns-clause-err : goal.returns-clause-err
returns-clause-err g c = fails_at c.rows.result c.rows.ensures.shows

pub returns-clause-survives : goal.returns-clause-survives
returns-clause-survives g c = c.rows.ensures.shows.survives
