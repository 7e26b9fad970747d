use Rattle.std.proofs.Common.{ap, sym}
use Rattle.wb_office.proofs.SummaryLemmas.{arch_named, known_after}
use Rattle.wb_office.proofs.known.forget_changed.Goals as goal

pub returns-in-Source : goal.returns-in-Source
returns-in-Source c = record {
  stay = λ machine are. known_after c.args.command.now machine c.in-Source.arch.now c.args.summaries.now c.remove.new.self (ap arch_named (sym c.in-Source.ensures.value)) c.remove.ensures.updates.0 are;
}

pub returns-in-Head : goal.returns-in-Head
returns-in-Head c = record {
  stay = λ machine are. known_after c.args.command.now machine c.in-Head.next.now.arch c.args.summaries.now c.remove-in-Head.new.self (ap arch_named (sym c.in-Head.ensures.value)) c.remove-in-Head.ensures.updates.0 are;
}
