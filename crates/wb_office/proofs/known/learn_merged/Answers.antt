use Rattle.wb_office.proofs.KnownLemmas.{knows_merged}
use Rattle.wb_office.proofs.SummaryLemmas.{none_known}
use Rattle.wb_office.proofs.known.learn_merged.Goals as goal

pub returns : goal.returns
returns c = record {
  knows = λ machine after knows same counted. knows_merged machine after c.args.known.now c.args.counts c.clear.new.self knows same counted
      (none_known after c.clear.new.self c.clear.ensures.empty);
}
