use Rattle.wb_step.proofs.CarriesLemmas.{carries-reached}
use Rattle.wb_step.proofs.HeldLemmas.{step-Built, step-Uploaded, step-PutBack}
use Rattle.wb_step.proofs.WantLemmas.{want-Built, want-Uploaded, want-PutBack}
use Rattle.wb_step.proofs.step.carry_out.Goals as goal

pub returns-in-Built-clause-carries : goal.returns-in-Built-clause-carries
returns-in-Built-clause-carries c = rw c.in-Built.is (carries-reached c.move_taken.ensures.reaches
    (step-Built c.args.office.now c.in-Built.command.take_number) (want-Built c.in-Built.command.take_number))

pub returns-in-Uploaded-clause-carries : goal.returns-in-Uploaded-clause-carries
returns-in-Uploaded-clause-carries c = rw c.in-Uploaded.is (carries-reached c.move_taken-in-Uploaded.ensures.reaches
    (step-Uploaded c.args.office.now c.in-Uploaded.command.take_number) (want-Uploaded c.in-Uploaded.command.take_number))

pub returns-in-PutBack-clause-carries : goal.returns-in-PutBack-clause-carries
returns-in-PutBack-clause-carries c = rw c.in-PutBack.is (carries-reached c.move_taken-in-PutBack.ensures.reaches
    (step-PutBack c.args.office.now c.in-PutBack.command.take_number) (want-PutBack c.in-PutBack.command.take_number))
