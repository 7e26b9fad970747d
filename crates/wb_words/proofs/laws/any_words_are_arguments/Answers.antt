use Rattle.std.proofs.Common.{◌∷◌, [], refl}
use Rattle.clap.proofs.OnLiterals.{clap_on_literals}
use Rattle.wb_states.specs.Forms.{Attempted, BuildPriority, Built, PutBack, Rebuild, Uploaded, Waits}
use Rattle.wb_words.specs.Arguments.{integer_in, joined, number_in}
use Rattle.wb_words.proofs.InvocationLemmas.{operator-invocation, builder-invocation, next-invocation}
use Rattle.wb_words.proofs.LiteralLemmas.{words_on_literals}
use Rattle.wb_words.proofs.laws.any_words_are_arguments.Goals as goal

pub returns : goal.returns
unfolding words_on_literals clap_on_literals
returns c = record {
  add_arch = λ name os cpu. refl;
  add_builder = λ name arch. refl;
  remove_arch = λ name. refl;
  remove_builder = λ name arch. refl;
  enter = λ arch source version priority section. refl;
  give_back = λ arch source version. refl;
  dep_wait = λ arch source version first second. refl;
  fail = λ arch source version first second. refl;
  not_for_us = λ arch source version first second. refl;
  rebuild = λ arch source version number first second.
      operator-invocation (λ n. Rebuild arch source version n (joined (first ∷ second ∷ []))) (number_in number);
  build_priority = λ arch source version value.
      operator-invocation (λ n. BuildPriority arch source version n) (integer_in value);
  forget = λ arch source version. refl;
  next = λ arch builder. refl;
  after = λ arch builder after. next-invocation arch builder (number_in after);
  take = λ arch builder source version. refl;
  built = λ take_number. builder-invocation (λ n. Built n) (number_in take_number);
  uploaded = λ take_number. builder-invocation (λ n. Uploaded n) (number_in take_number);
  put_back = λ take_number. builder-invocation (λ n. PutBack n) (number_in take_number);
  waits = λ take_number first second.
      builder-invocation (λ n. Waits n (joined (first ∷ second ∷ []))) (number_in take_number);
  attempted = λ take_number first second.
      builder-invocation (λ n. Attempted n (joined (first ∷ second ∷ []))) (number_in take_number);
  queue = λ arch. refl;
  summary = λ arch. refl;
  by_state = λ arch state. refl;
  item = λ arch source. refl;
  depends = λ arch source. refl;
  mine = λ builder. refl;
  merge = λ sources first second. refl;
  report = λ arch file. refl;
}
