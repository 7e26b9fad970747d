use Rattle.deb_relations.specs.declared.fault.RelationFault.TheVariants.{Memory}
use Rattle.deb_relations.proofs.ProvidedLemmas.{all-none, all-read}
use Rattle.deb_relations.proofs.provided.Provided.all.Goals as goal

pub returns-in-Ok : goal.returns-in-Ok
returns-in-Ok c =
    let value = all-read c.args.text.now c.as_slice.result.now c.in-Ok.groups c.given_in.result
    c.as_slice.ensures c.in-Ok.ensures.ok c.given_in.ensures.value in
    record { value = value }

pub returns-in-Err : goal.returns-in-Err
returns-in-Err c =
    let value = all-none c.args.text.now Memory c.in-Err.fault c.nothing_given.result
    c.in-Err.ensures.none c.nothing_given.ensures.nothing c.nothing_given.ensures.unread in
    record { value = value }
