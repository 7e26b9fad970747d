use Rattle.std.proofs.Common.{inl, refl}
use Rattle.clap.specs.declared.error.kind.ErrorKind.TheVariants as kind
use Rattle.clap.proofs.OnLiterals.{clap_on_literals}
use Rattle.wb_words.specs.Arguments.{word_of}
use Rattle.wb_words.specs.Escapes.{has_negative_value}
use Rattle.wb_words.specs.Start.{journal_in, with_journal, with_service_paths, start_app, start_faults, subcommand_in}
use Rattle.wb_words.proofs.laws.journals_are_read.Goals as goal

pub returns : goal.returns
unfolding has_negative_value journal_in start_faults subcommand_in with_journal with_service_paths start_app word_of
    clap_on_literals
returns c = record {
  run = refl;
  run_read = refl;
  serve = refl;
  serve_read = refl;
  none = refl;
  unnamed = (refl, inl (kind.InvalidValue, inl refl, λ e. cc));
  twice = (refl, inl (kind.ArgumentConflict, inl refl, λ e. cc));
  before = (refl, inl (kind.UnknownArgument, inl refl, λ e. cc));
  other = (refl, inl (kind.UnknownArgument, inl refl, λ e. cc));
}
