use Rattle.std.proofs.Common.{inl, refl}
use Rattle.clap.specs.declared.error.kind.ErrorKind.TheVariants as kind
use Rattle.clap.proofs.OnLiterals.{clap_on_literals}
use Rattle.wb_words.specs.Escapes.{has_negative_value}
use Rattle.wb_words.specs.Start.{with_journal, with_service_paths, start_app, start_faults, store_in, subcommand_in}
use Rattle.wb_words.proofs.laws.single_commands_are_read.Goals as goal

pub returns : goal.returns
unfolding has_negative_value start_faults store_in subcommand_in with_journal with_service_paths start_app clap_on_literals
returns c = record {
  asked = λ given same. (refl, refl, (refl, record { words_are = same; asks = refl; no_run = refl; no_service = refl }));
  carried_out = λ given same. (refl, refl, (refl, record { words_are = same; asks = refl; no_run = refl; no_service = refl }));
  after_file = refl;
  after_equals = refl;
  stored = refl;
  file = refl;
  negative = λ given same. (refl, refl, (refl, record { words_are = same; asks = refl; no_run = refl; no_service = refl }));
  negative_stored = refl;
  number = refl;
  part = refl;
  lacking = (refl, inl (kind.MissingRequiredArgument, inl refl, λ e. cc));
  many = (refl, inl (kind.UnknownArgument, inl refl, λ e. cc));
  option = (refl, inl (kind.UnknownArgument, inl refl, λ e. cc));
  negative_option = (refl, inl (kind.UnknownArgument, inl refl, λ e. cc));
  behind = (refl, inl (kind.UnknownArgument, inl refl, λ e. cc));
  escape = (refl, inl (kind.UnknownArgument, inl refl, λ e. cc));
}
