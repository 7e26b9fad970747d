-- The client is given the answer of the exchange over what had come of its request.
use Rattle.std.proofs.Common.{◌∙◌, inr, sym}
use Rattle.wb_serve.proofs.clients.answer_place.Goals as goal

pub returns : goal.returns
returns g c =
    let did = c.answer_with_lists-served.ensures.value in
    record {
      value = inr (
        record { request = c.in-Some.request.now; answer = c.answer_with_lists-served.result.1.items },
        c.send.ensures.answered ∙ c.answer.ensures.answered c.in-Some.request.now (sym c.in-Some.ensures.value),
        record {
          received = did.0;
          ended = c.answer_with_lists-served.result.0;
          means = did.1;
          clean = c.answer_with_lists-served.ensures.clean;
          unasked = did.2;
          unopened = did.3;
          kept = c.answer_with_lists-served.ensures.kept;
          leads = did.4;
        },
      );
    }
