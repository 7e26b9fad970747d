-- A command may be given only if something of its kind may be asked for, and it is of the kind of its path.
use Rattle.wb_api.proofs.KindLemmas.{command-kind, command-refused}
use Rattle.wb_api.proofs.laws.paths_say_the_kind.Goals as goal

pub returns : goal.returns
returns c = record { commands = command-kind; refused = command-refused }
