use Rattle.std.proofs.Common.{◌∙◌}
use Rattle.std.specs.BTreeSet.{contains}
use Rattle.deb_text.specs.Text.{text_cmp}
use Rattle.deb_relations.specs.declared.fault.RelationFault.TheVariants.{Memory}
use Rattle.deb_relations.proofs.ProvidedLemmas.{none-read, none-wanted, wanted-read}
use Rattle.deb_relations.proofs.provided.Provided.read.Goals as goal

pub returns-then-is_empty-clause-value : goal.returns-then-is_empty-clause-value
returns-then-is_empty-clause-value c =
    c.new.ensures.items ∙ none-wanted c.args.wanted.now c.args.text.now (c.is_empty.ensures.0 c.if-is_empty.true)

pub returns-in-Ok-clause-value : goal.returns-in-Ok-clause-value
returns-in-Ok-clause-value c =
    wanted-read (contains text_cmp c.args.wanted.now) c.args.text.now c.as_slice.result.now c.in-Ok.groups c.wanted_in.result
    c.as_slice.ensures c.in-Ok.ensures.ok c.wanted_in.ensures.value

pub returns-in-Err-clause-value : goal.returns-in-Err-clause-value
returns-in-Err-clause-value c =
    none-read (contains text_cmp c.args.wanted.now) c.args.text.now Memory c.in-Err.fault c.nothing_given.result
    c.in-Err.ensures.none c.nothing_given.ensures.nothing c.nothing_given.ensures.unread
