use Rattle.std.proofs.Common.{subst}
use Rattle.wb_office.specs.Carried.{CarriesOut}
use Rattle.wb_office.proofs.AnswerLemmas.{not_committed}
use Rattle.wb_office.proofs.answer.keep.Goals as goal

pub returns-in-Err : goal.returns-in-Err
returns-in-Err g c = record {
  keeps = not_committed (subst (CarriesOut g.S.Store c.args.command.now c.args.key.now c.args.after.now c.args.store.now c.carry.new.store) c.in-Err.is c.carry.ensures.carries);
}
