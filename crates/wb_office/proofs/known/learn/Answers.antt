use Rattle.wb_office.proofs.KnownLemmas.{knows_after}
use Rattle.wb_office.proofs.known.learn.Goals as goal

pub returns-in-AddArch : goal.returns-in-AddArch
returns-in-AddArch c = record {
  knows = λ machine knows counted. record { counts = counted; archs = tt; summaries = c.forget_changed.ensures.stay machine knows.summaries };
}

pub returns-in_default : goal.returns-in_default
returns-in_default c = record {
  knows = λ machine knows after. knows_after c.args.command.now machine c.args.known.now c.args.counts
      c.forget_changed.new.summaries c.in_default.not-AddArch c.in_default.not-RemoveArch knows after
      (c.forget_changed.ensures.stay machine knows.summaries);
}
