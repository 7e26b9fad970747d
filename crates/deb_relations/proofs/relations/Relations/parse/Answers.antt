use Rattle.std.proofs.lemmas.Result.{err_from_is_err_and}
use Rattle.std.proofs.Common.{◌≡◌, ◌≤◌, length, None, Err, arith}
use Rattle.deb_relations.specs.declared.fault.RelationFault.{RelationFault}
use Rattle.deb_relations.specs.Reader.{read_groups}
use Rattle.deb_relations.specs.Reading.{groups_fault, reading_of}
use Rattle.deb_relations.proofs.ReadingLemmas.{reading-long, reading-groups, reading-fault}
use Rattle.deb_relations.proofs.SoundLemmas.{reads-sound}
use Rattle.deb_relations.proofs.relations.Relations.parse.Goals as goal
use Rattle.deb_relations.specs.Grammar.{relations_limit}

pub returns-then-text-gt-RELATIONS_LIMIT-clause-refused : goal.returns-then-text-gt-RELATIONS_LIMIT-clause-refused
returns-then-text-gt-RELATIONS_LIMIT-clause-refused c = λ _. reading-long c.args.text.now (omega arith)

pub returns-in_err-read_groups-clause-refused : goal.returns-in_err-read_groups-clause-refused
returns-in_err-read_groups-clause-refused c =
    let short : length c.args.text.now ≤ relations_limit = omega arith in
    let stop : (fault : RelationFault) → read_groups c.args.text.now ≡ None → fault ≡ groups_fault c.args.text.now → reading_of c.args.text.now ≡ Err fault =
    λ fault h e. reading-fault c.args.text.now fault short h e in
    let p = err_from_is_err_and c.from_residual.result c.from_residual.ensures.1 in
    rw (p.1, p.2) (λ n. stop _ (c.in_err-read_groups.ensures.none n) (c.in_err-read_groups.ensures.refused n))

pub returns-clause-value : goal.returns-clause-value
returns-clause-value c = reads-sound c.args.text.now c.in_ok-read_groups.field-0 (omega arith) c.in_ok-read_groups.ensures.ok

pub returns-clause-ok : goal.returns-clause-ok
returns-clause-ok c = reading-groups c.args.text.now c.in_ok-read_groups.field-0 (omega arith) c.in_ok-read_groups.ensures.ok
