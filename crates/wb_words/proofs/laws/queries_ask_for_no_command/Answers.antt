use Rattle.wb_words.proofs.QueryLemmas.{asks-no_command}
use Rattle.wb_words.proofs.laws.queries_ask_for_no_command.Goals as goal

pub returns : goal.returns
returns c = asks-no_command
