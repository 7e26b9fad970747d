-- What a proof unfolds, beside clap's own, to compute what words ask for; a number, an integer and a part of a merge
-- stay as they are.
use Rattle.std.specs.Prelude.{⊤}
use Rattle.wb_words.specs.Arguments.{integer_of, number_of, optional_number_of, parts_of, named_source_of, word_of}
use Rattle.wb_words.specs.Arguments.{words_of}
use Rattle.wb_words.specs.Escapes.{has_negative_value}
use Rattle.wb_words.specs.Usages.{wb_app}
use Rattle.wb_words.specs.Words.{add_arch_of, add_builder_of, attempted_of, build_priority_of, invocation_in}
use Rattle.wb_words.specs.Words.{invocation_named, invocation_read, builder_command, built_of, command_named}
use Rattle.wb_words.specs.Words.{dep_wait_of}
use Rattle.wb_words.specs.Words.{enter_of, fail_of, forget_of, give_back_of, list_invocation, merge_of, next_of}
use Rattle.wb_words.specs.Words.{not_for_us_of, operator_command, other_invocation, put_back_of}
use Rattle.wb_words.specs.Words.{query_named, rebuild_of, remove_arch_of, remove_builder_of, report_of, take_of}
use Rattle.wb_words.specs.Words.{uploaded_of, waits_of}

unfoldable pub words_on_literals : ⊤
unfolding has_negative_value invocation_in invocation_read invocation_named wb_app command_named operator_command builder_command other_invocation query_named list_invocation add_arch_of add_builder_of remove_arch_of remove_builder_of enter_of give_back_of dep_wait_of fail_of not_for_us_of rebuild_of build_priority_of forget_of next_of take_of built_of uploaded_of put_back_of waits_of attempted_of merge_of report_of word_of words_of number_of integer_of optional_number_of named_source_of parts_of
words_on_literals = tt
