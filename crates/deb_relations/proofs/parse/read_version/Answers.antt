use Rattle.deb_relations.proofs.ScannerLemmas.{version-read, version-refused, version-told, version-wanted}
use Rattle.deb_relations.proofs.parse.read_version.Goals as goal

pub returns-in-Ok-clause-ok : goal.returns-in-Ok-clause-ok
returns-in-Ok-clause-ok c = version-read c.args.text.now c.in-Ok.ensures.ok

pub returns-in-Err-clause-none : goal.returns-in-Err-clause-none
returns-in-Err-clause-none c = version-refused c.args.text.now c.in-Err.fault c.fault_from_version.result c.fault_from_version.ensures c.in-Err.ensures.refused

pub returns-in-Err-clause-refused : goal.returns-in-Err-clause-refused
returns-in-Err-clause-refused c = version-told c.args.text.now c.in-Err.fault c.fault_from_version.result c.fault_from_version.ensures c.in-Err.ensures.refused

pub returns-in-Err-clause-memory : goal.returns-in-Err-clause-memory
returns-in-Err-clause-memory c = version-wanted c.args.text.now c.in-Err.fault c.fault_from_version.result c.fault_from_version.ensures c.in-Err.ensures.memory
