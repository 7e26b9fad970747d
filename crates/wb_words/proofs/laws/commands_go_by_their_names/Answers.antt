use Rattle.wb_words.proofs.CommandNameLemmas.{own_names}
use Rattle.wb_words.proofs.laws.commands_go_by_their_names.Goals as goal

pub returns : goal.returns
returns c = own_names
