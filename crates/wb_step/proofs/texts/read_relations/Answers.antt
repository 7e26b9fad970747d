use Rattle.std.proofs.Common.{◌∙◌, ◌<◌, length, sym, ap, subst}
use Rattle.deb_relations.specs.Reading.{reading_of}
use Rattle.wb_step.proofs.TextLemmas.{relations-refused, relations-memory, relations-short}
use Rattle.wb_step.proofs.texts.read_relations.Goals as goal

pub returns-in-Err-clause-refused : goal.returns-in-Err-clause-refused
returns-in-Err-clause-refused c =
    relations-refused c.args.text.now c.in-Err.fault c.relations_refused.result c.relations_refused.ensures.memory c.relations_refused.ensures.others
    (λ no. ap reading_of (sym c.as_str.ensures) ∙ c.in-Err.ensures.refused no)

pub returns-in-Err-clause-memory : goal.returns-in-Err-clause-memory
returns-in-Err-clause-memory c =
    relations-memory c.args.text.now c.in-Err.fault c.relations_refused.result c.relations_refused.ensures.others
    (λ long. cc (c.in-Err.ensures.first (subst (λ text. 65536 < length text) (sym c.as_str.ensures) long)))

pub returns-in-Ok-clause-short : goal.returns-in-Ok-clause-short
returns-in-Ok-clause-short c =
    relations-short c.args.text.now (λ long. cc (c.in-Ok.ensures.first (subst (λ text. 65536 < length text) (sym c.as_str.ensures) long)))
