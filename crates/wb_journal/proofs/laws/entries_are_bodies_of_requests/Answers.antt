use Rattle.std.proofs.Common.{◌≡◌, ◌<◌, ◌^◌, ℕ, List, refl, Option, None, Some, true, arith}
use Rattle.std.specs.Prelude.{nat_lt, pos}
use Rattle.std.proofs.lemmas.Bool.Decides.{nat_tests}
use Rattle.serde_json.proofs.OnLiterals.{serde_json_on_literals}
use Rattle.wb_api.specs.Commands.{add_arch_in, add_builder_in, attempted_in, build_priority_in, dep_wait_in, enter_in}
use Rattle.wb_api.specs.Commands.{fail_in, forget_in, give_back_in, next_in, not_for_us_in, rebuild_in}
use Rattle.wb_api.specs.Commands.{remove_arch_in, remove_builder_in, named_source_in, take_in, waits_in}
use Rattle.wb_api.specs.Commands.{command_in}
use Rattle.wb_api.specs.declared.route.CommandKind.TheVariants as kind
use Rattle.wb_journal.specs.Commands.{value_of_command}
use Rattle.wb_states.specs.Forms.{BuildPriority, Next}
use Rattle.wb_journal.proofs.laws.entries_are_bodies_of_requests.Goals as goal

next : (arch builder : List ℕ) (after : Option ℕ) → command_in kind.Next (value_of_command (Next arch builder after)) ≡ Some (Next arch builder after)
unfolding next_in serde_json_on_literals
next arch builder None = refl
next arch builder (Some n) = refl

priority : (arch source version : List ℕ) (value : ℕ) → value < 2 ^ 63
    → command_in kind.BuildPriority (value_of_command (BuildPriority arch source version (pos value))) ≡ Some (BuildPriority arch source version (pos value))
unfolding build_priority_in named_source_in serde_json_on_literals
priority arch source version value small =
    let fits : nat_lt value (2 ^ 63) ≡ true = grind (arith, nat_tests) in
    rw fits refl

pub returns : goal.returns
unfolding add_arch_in add_builder_in attempted_in build_priority_in dep_wait_in enter_in fail_in forget_in give_back_in
    next_in not_for_us_in rebuild_in remove_arch_in remove_builder_in named_source_in take_in waits_in serde_json_on_literals
returns c = record {
  next = next;
  take = λ arch builder source version. refl;
  built = λ take_number. refl;
  uploaded = λ take_number. refl;
  waits = λ take_number relations. refl;
  put_back = λ take_number. refl;
  attempted = λ take_number reason. refl;
  add_arch = λ name os cpu. refl;
  add_builder = λ name arch. refl;
  remove_arch = λ name. refl;
  remove_builder = λ name arch. refl;
  enter = λ arch source version priority section. refl;
  give_back = λ arch source version. refl;
  dep_wait = λ arch source version relations. refl;
  fail = λ arch source version note. refl;
  not_for_us = λ arch source version note. refl;
  rebuild = λ arch source version number message. refl;
  build_priority = priority;
  minus = λ arch source version less. refl;
  forget = λ arch source version. refl;
}
