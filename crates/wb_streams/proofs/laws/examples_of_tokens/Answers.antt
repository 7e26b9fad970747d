-- Fields at texts that are known compute.
use Rattle.std.proofs.Common.{refl}
use Rattle.wb_streams.specs.Fields.{token_of}
use Rattle.wb_streams.proofs.laws.examples_of_tokens.Goals as goal

pub returns : goal.returns
unfolding token_of
returns c = record {
  token = refl;
  letters = refl;
  spaces = refl;
  no_field = refl;
  two = refl;
  no_space = refl;
  tab = refl;
  other = refl;
}
