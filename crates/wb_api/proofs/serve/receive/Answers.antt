-- What was received is a request, or it was answered.
use Rattle.std.proofs.Common.{refl, subst, sym, ◌∙◌}
use Rattle.std.proofs.lemmas.Bool.{false≢true}
use Rattle.wb_api.specs.declared.request.Received.TheVariants as received
use Rattle.wb_api.specs.Exchange.{Sends}
use Rattle.wb_api.proofs.serve.receive.Goals as goal

pub returns-in-Asked-clause-value : goal.returns-in-Asked-clause-value
returns-in-Asked-clause-value g c = (
  received.Asked c.in-Asked.shown c.in-Asked.request,
  record {
    value = c.in-Asked.ensures.value;
    failed = c.in-Asked.ensures.failed;
    front =
        c.in-Asked.ensures.front;
    bound = c.in-Asked.ensures.bound;
    memory = c.in-Asked.ensures.memory;
  },
  (refl, refl),
)

pub returns-in-Nothing-clause-value : goal.returns-in-Nothing-clause-value
returns-in-Nothing-clause-value g c = (
  received.Nothing,
  record {
    value = c.in-Nothing.ensures.value;
    failed = c.in-Nothing.ensures.failed;
    front =
        c.in-Nothing.ensures.front;
    bound = c.in-Nothing.ensures.bound;
    memory = c.in-Nothing.ensures.memory;
  },
  λ machine. (refl, refl),
)

pub returns-in-Failed-clause-value : goal.returns-in-Failed-clause-value
returns-in-Failed-clause-value g c = (
  received.Failed,
  record {
    value = c.in-Failed.ensures.value;
    failed = c.in-Failed.ensures.failed;
    front =
        c.in-Failed.ensures.front;
    bound = c.in-Failed.ensures.bound;
    memory = c.in-Failed.ensures.memory;
  },
  λ machine. (refl, refl),
)

pub returns-in-Memory-clause-value : goal.returns-in-Memory-clause-value
returns-in-Memory-clause-value g c = (
  received.Memory,
  record {
    value = c.in-Memory.ensures.value;
    failed = c.in-Memory.ensures.failed;
    front =
        c.in-Memory.ensures.front;
    bound = c.in-Memory.ensures.bound;
    memory = c.in-Memory.ensures.memory;
  },
  λ machine. subst (λ response. Sends response c.args.writer.now.bytes c.send.new.writer.bytes c.send.result)
      (c.memory_answer.ensures.value machine) (c.send.ensures.value machine),
)

pub returns-in-Memory-clause-silent : goal.returns-in-Memory-clause-silent
returns-in-Memory-clause-silent g c = λ silent. absurd (false≢true (sym c.send.ensures.spoken ∙ silent))

pub returns-in-Refused-clause-value : goal.returns-in-Refused-clause-value
returns-in-Refused-clause-value g c = (
  received.Refused c.in-Refused.fault,
  record {
    value = c.in-Refused.ensures.value;
    failed = c.in-Refused.ensures.failed;
    front =
        c.in-Refused.ensures.front;
    bound = c.in-Refused.ensures.bound;
    memory = c.in-Refused.ensures.memory;
  },
  λ machine. subst (λ response. Sends response c.args.writer.now.bytes c.send-in-Refused.new.writer.bytes
      c.send-in-Refused.result)
      (c.fault_answer.ensures.value machine) (c.send-in-Refused.ensures.value machine),
)

pub returns-in-Refused-clause-silent : goal.returns-in-Refused-clause-silent
returns-in-Refused-clause-silent g c = λ silent. absurd (false≢true (sym c.send-in-Refused.ensures.spoken ∙ silent))
