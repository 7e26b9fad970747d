-- Each line that is answered is answered with one line.
use Rattle.wb_daemon.proofs.AnsweredLemmas.{runs-answer}
use Rattle.wb_daemon.proofs.laws.each_line_has_one_answer.Goals as goal

pub returns : goal.returns
returns g c = λ machine lines whole h. runs-answer (g.L.Lists.may_read c.args.lists.now) machine lines whole h
