-- What is answered was written, or a front of it.
use Rattle.std.proofs.Common.{sym, ◌∙◌}
use Rattle.std.proofs.lemmas.Bool.{false≢true}
use Rattle.wb_api.proofs.serve.respond.Goals as goal

pub returns-in-Some-clause-silent : goal.returns-in-Some-clause-silent
returns-in-Some-clause-silent g c = λ silent. absurd (false≢true (sym c.send.ensures.spoken ∙ silent))
