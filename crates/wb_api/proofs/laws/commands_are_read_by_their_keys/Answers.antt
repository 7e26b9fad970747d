use Rattle.wb_api.proofs.KeyLemmas.{is_some-command}
use Rattle.wb_api.proofs.laws.commands_are_read_by_their_keys.Goals as goal

pub returns : goal.returns
returns c = record { value = is_some-command }
