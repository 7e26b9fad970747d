use Rattle.std.proofs.Common.{◌≡◌, Ok, refl, ap, subst, ◌∙◌}
use Rattle.wb_states.specs.Holds.{holder_of}
use Rattle.wb_states.specs.Refusals.{is_of_store}
use Rattle.wb_store.specs.Finds.{Finds}
use Rattle.wb_store.proofs.FindsLemmas.{finds_from}
use Rattle.wb_office.proofs.ApplyLemmas.{of_fault}
use Rattle.wb_office.proofs.AskLemmas.{asked_found, asked_unread}
use Rattle.wb_office.proofs.office.Office.holder_of.Goals as goal

pub returns-in-Ok : goal.returns-in-Ok
returns-in-Ok g c =
    let finds = subst (Finds g.S.Store (λ machine holder. holder ≡ holder_of machine c.args.take_number)
    c.args.self.now.store c.find_holder.new.store) c.in-Ok.is c.find_holder.ensures.finds in
    record {
      asks = asked_found {answer_in = λ machine. Ok (holder_of machine c.args.take_number)} (Ok c.in-Ok.holder)
          c.if-self.false refl (λ machine. refl) tt (finds_from finds (λ machine sound is knows. (ap Ok is, knows)));
      refused = tt;
      notes = (refl, refl);
    }

pub returns-in-Err : goal.returns-in-Err
returns-in-Err g c =
    let finds = subst (Finds g.S.Store (λ machine holder. holder ≡ holder_of machine c.args.take_number)
    c.args.self.now.store c.find_holder.new.store) c.in-Err.is c.find_holder.ensures.finds in
    let ends = c.end_with-refusal.ensures.ends in
    record {
      asks = asked_unread c.if-self.false refl (λ machine knows. knows) finds ends;
      refused = λ other. ap is_of_store ends.told ∙ of_fault c.in-Err.fault (λ is. other (ends.told ∙ is));
      notes = (refl, refl);
    }
