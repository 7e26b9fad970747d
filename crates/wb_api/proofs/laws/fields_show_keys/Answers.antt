-- Fields at texts that are known compute.
use Rattle.std.proofs.Common.{refl}
use Rattle.wb_keys.specs.Key.{is_key_text}
use Rattle.wb_streams.specs.Fields.{token_of}
use Rattle.wb_api.proofs.laws.fields_show_keys.Goals as goal

pub returns : goal.returns
unfolding token_of is_key_text
returns c = record {
  none = refl;
  key = refl;
  spaces = refl;
  short = refl;
  space_within = refl;
  no_space = refl;
  other_scheme = refl;
  twice = refl;
}
