use Rattle.std.proofs.Common.{refl, sym, ◌∙◌}
use Rattle.wb_states.specs.Queries.{answer_in}
use Rattle.wb_states.proofs.QueryLemmas.{answer_of-bad, answer_of-good}
use Rattle.wb_office.proofs.AskLemmas.{asked_found, asked_malformed, asked_unread}
use Rattle.wb_office.proofs.office.Office.ask.Goals as goal

pub returns-then-has_malformed_name : goal.returns-then-has_malformed_name
returns-then-has_malformed_name g c =
    let bad = sym c.has_malformed_name.ensures.value ∙ c.if-has_malformed_name.true in
    record {
      asks = asked_malformed c.if-self.false bad (λ machine. answer_of-bad machine c.args.query.now bad);
      notes = (refl, refl);
    }

pub returns-in-Ok : goal.returns-in-Ok
returns-in-Ok g c =
    let good = sym c.has_malformed_name.ensures.value ∙ c.if-has_malformed_name.false in
    record {
      asks = asked_found {answer_in = λ machine. answer_in machine c.args.query.now} c.in-Ok.answer c.if-self.false good (λ machine. answer_of-good machine c.args.query.now good) c.in-Ok.ensures.kind
          c.in-Ok.ensures.finds;
      notes = (refl, refl);
    }

pub returns-in-Err : goal.returns-in-Err
returns-in-Err g c =
    let good = sym c.has_malformed_name.ensures.value ∙ c.if-has_malformed_name.false in
    record {
      asks = asked_unread c.if-self.false good c.in-Err.ensures.err c.in-Err.ensures.finds c.end_with-refusal.ensures.ends;
      notes = (refl, refl);
    }
