use Rattle.std.proofs.Common.{refl}
use Rattle.wb_store.proofs.ReadLemmas.{handed_on}
use Rattle.wb_store.proofs.ShowLemmas.{shows_all, shows_nothing}
use Rattle.wb_store.proofs.store.Store.rows.Goals as goal

pub returns-in_err-add_tables : goal.returns-in_err-add_tables
returns-in_err-add_tables g c = record {
  shows = rw (← c.self.view_is) (shows_nothing
      (c.in_err-add_tables.ensures.shows (tt, (tt, (tt, (tt, (tt, (tt, tt)))))))
      (handed_on c.from_residual.result c.from_residual.ensures.1));
}

pub returns : goal.returns
returns g c = record {
  shows = rw (← c.self.view_is) (shows_all refl c.new-made.ensures
      (c.in_ok-add_tables.ensures.shows (tt, (tt, (tt, (tt, (tt, (tt, tt))))))));
}
