-- What a run leaves is a replay, also where it was cut off.
use Rattle.wb_daemon.proofs.ReplayedLemmas.{Runs-replay, StopsInLine-replay}
use Rattle.wb_daemon.proofs.laws.runs_are_replays.Goals as goal

pub returns : goal.returns
returns g c = record {
  state = λ machine lines whole h. Runs-replay (g.L.Lists.may_read c.args.lists.now) lines machine whole h;
  stops = λ seen left machine text after standing h. StopsInLine-replay (g.L.Lists.may_read c.args.lists.now) seen left machine text after standing h;
}
