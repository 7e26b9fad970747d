use Rattle.std.proofs.Common.{List, sym, subst}
use Rattle.wb_office.specs.Files.{LivesOn}
use Rattle.wb_office.specs.Lives.{Outcome}
use Rattle.wb_office.proofs.SessionLemmas.{lives_on}
use Rattle.wb_office.proofs.life.live.Goals as goal

pub returns : goal.returns
returns g c = record {
  lives = subst (λ (outcomes : List Outcome). LivesOn g.D.Disk c.args.office c.args.commands.now outcomes c.give_up.result) (sym c.from.ensures)
      (lives_on g.D.Disk c.requires.opened c.requires.empty c.carry_out_all.ensures.leads c.give_up.ensures.gives_up);
}
