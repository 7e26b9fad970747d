-- Each example computes.
use Rattle.std.proofs.Common.{refl}
use Rattle.wb_keys.specs.Key.{is_key_text}
use Rattle.wb_keys.proofs.laws.examples_of_keys.Goals as goal

pub returns-clause-least : goal.returns-clause-least
unfolding is_key_text
returns-clause-least c = refl

pub returns-clause-ended : goal.returns-clause-ended
unfolding is_key_text
returns-clause-ended c = refl

pub returns-clause-within : goal.returns-clause-within
unfolding is_key_text
returns-clause-within c = refl

pub returns-clause-alone : goal.returns-clause-alone
unfolding is_key_text
returns-clause-alone c = refl

pub returns-clause-space : goal.returns-clause-space
unfolding is_key_text
returns-clause-space c = refl

pub returns-clause-short : goal.returns-clause-short
unfolding is_key_text
returns-clause-short c = refl
