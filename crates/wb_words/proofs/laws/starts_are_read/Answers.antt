use Rattle.std.proofs.Common.{inl, inr, refl}
use Rattle.clap.specs.declared.error.kind.ErrorKind.TheVariants as kind
use Rattle.clap.proofs.OnLiterals.{clap_on_literals}
use Rattle.wb_words.specs.Arguments.{word_of}
use Rattle.wb_words.specs.Escapes.{has_negative_value}
use Rattle.wb_words.specs.Start.{with_journal, with_service_paths, start_app, start_faults, store_in, subcommand_in}
use Rattle.wb_words.proofs.laws.starts_are_read.Goals as goal

pub returns : goal.returns
unfolding has_negative_value start_faults store_in subcommand_in with_journal with_service_paths start_app word_of
    clap_on_literals
returns c = record {
  run = (refl, refl, (refl, refl, refl));
  stored = refl;
  file = refl;
  equals = refl;
  help = inl refl;
  long_help = inr (inl refl);
  short_help = inr (inl refl);
  command_help = inr (inl refl);
  nothing = (refl, inl (kind.MissingSubcommand, inl refl, λ e. cc));
  unknown = (refl, inl (kind.UnknownArgument, inl refl, λ e. cc));
  many = (refl, inl (kind.UnknownArgument, inl refl, λ e. cc));
  unnamed = (refl, inl (kind.InvalidValue, inl refl, λ e. cc));
  twice = (refl, inl (kind.ArgumentConflict, inl refl, λ e. cc));
  behind = (refl, inl (kind.UnknownArgument, inl refl, λ e. cc));
}
