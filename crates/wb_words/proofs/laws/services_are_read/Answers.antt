use Rattle.std.proofs.Common.{inl, inr, refl}
use Rattle.clap.specs.declared.error.kind.ErrorKind.TheVariants as kind
use Rattle.clap.proofs.OnLiterals.{clap_on_literals}
use Rattle.wb_words.specs.Arguments.{number_in, number_of, word_of}
use Rattle.wb_words.specs.Escapes.{has_negative_value}
use Rattle.wb_words.specs.Service.{limited_number_of, optional_limited_number_of, service_of}
use Rattle.wb_words.specs.Start.{with_journal, with_service_paths, start_app, start_faults, store_in, subcommand_in}
use Rattle.wb_words.proofs.LiteralLemmas.{words_on_literals}
use Rattle.wb_words.proofs.laws.services_are_read.Goals as goal

pub returns : goal.returns
unfolding has_negative_value start_faults store_in subcommand_in with_journal with_service_paths start_app service_of
    limited_number_of optional_limited_number_of number_of number_in word_of words_on_literals clap_on_literals
returns c = record {
  serve = (refl, refl, (refl, refl, refl, refl, refl));
  order = (refl, refl, (refl, refl, refl, refl, refl));
  greatest = (refl, refl, (refl, refl, refl, refl, refl));
  unlimited = (refl, refl, (refl, refl, refl, refl, refl));
  file = refl;
  help = inr (inl refl);
  bare = (refl, inl (kind.MissingRequiredArgument, inl refl, λ e. cc));
  no_port = (refl, inl (kind.MissingRequiredArgument, inl refl, λ e. cc));
  twice = (refl, inl (kind.ArgumentConflict, inl refl, λ e. cc));
  both = (refl, inl (kind.ArgumentConflict, inl refl, λ e. cc));
  port_zero = (refl, inl (kind.ValueValidation, inl refl, λ e. cc));
  port_above = (refl, inl (kind.ValueValidation, inl refl, λ e. cc));
  requests_zero = (refl, inl (kind.ValueValidation, inl refl, λ e. cc));
  requests_above = (refl, inl (kind.ValueValidation, inl refl, λ e. cc));
  word = (refl, inl (kind.ValueValidation, inl refl, λ e. cc));
  surplus = (refl, inl (kind.UnknownArgument, inl refl, λ e. cc));
  behind = (refl, inl (kind.UnknownArgument, inl refl, λ e. cc));
  line = refl;
}
