use Rattle.std.proofs.Common.{◌∙◌, ap, sym, None, Some, if◌then◌else◌, SFits, rules}
use Rattle.std.proofs.lemmas.Int.{to_z-of_z}
use mir.Syntax.{w16, w64}
use Rattle.wb_step.specs.Checks.{is_bad_priority, key_refusal}
use Rattle.wb_step.specs.Outcomes.{prioritized_step}
use Rattle.wb_step.proofs.CarriesLemmas.{carries-refused, carries-returned, carries-reached}
use Rattle.wb_step.proofs.PriorityLemmas.{kept-value, priority-BadNumber, priority-is, priority-refused, want-BuildPriority}
use Rattle.wb_step.proofs.priority.build_priority.Goals as goal

pub returns-in_default : goal.returns-in_default
returns-in_default c =
    let fits : SFits w64 c.args.command.now.value = search rules in
    record {
      carries = carries-refused
          (λ _. priority-BadNumber c.args.office.now c.args.command.now.arch c.args.command.now.source c.args.command.now.version c.args.command.now.value _
          (c.read_refusal_or.ensures.value (key_refusal c.args.command.now.arch c.args.command.now.source c.args.command.now.version) c.read_key-key.ensures.ok c.read_key-key.ensures.refused c.read_key-key.ensures.memory)
          (c.in_default.ensures.value ∙ ap (λ value. if is_bad_priority value then None else Some value) (to_z-of_z w64 c.args.command.now.value fits)))
          (λ none. let bad = c.read_refusal_or.ensures.memory none in cc);
    }

pub returns-in_err-read : goal.returns-in_err-read
returns-in_err-read c =
    let fits : SFits w64 c.args.command.now.value = search rules in
    let kept = kept-value c.args.command.now.value c.in-Some.build_priority (is_bad_priority c.args.command.now.value)
    (c.in-Some.ensures.value ∙ ap (λ value. if is_bad_priority value then None else Some value) (to_z-of_z w64 c.args.command.now.value fits)) in
    record {
      carries = carries-returned c.from_residual.result c.from_residual.ensures.1
          (λ differs. priority-refused c.args.office.now c.args.command.now.arch c.args.command.now.source c.args.command.now.version c.args.command.now.value _ (c.in_err-read.ensures.refused differs))
          (λ none. want-BuildPriority c.args.command.now.arch c.args.command.now.source c.args.command.now.version c.args.command.now.value (c.in_err-read.ensures.memory none) kept.0);
    }

pub returns : goal.returns
returns c =
    let fits : SFits w64 c.args.command.now.value = search rules in
    let small : SFits w16 c.in-Some.build_priority = search rules in
    let kept = kept-value c.args.command.now.value c.in-Some.build_priority (is_bad_priority c.args.command.now.value)
    (c.in-Some.ensures.value ∙ ap (λ value. if is_bad_priority value then None else Some value) (to_z-of_z w64 c.args.command.now.value fits)) in
    record {
      carries = carries-reached c.prioritize.ensures.reaches
          (priority-is c.args.office.now c.args.command.now.arch c.args.command.now.source c.args.command.now.version c.args.command.now.value c.in-Some.build_priority c.in_ok-read.ensures.ok kept.0 kept.1
          ∙ ap (λ version. prioritized_step c.args.office.now c.args.command.now.arch c.args.command.now.source version c.in-Some.build_priority) (sym c.in_ok-read.ensures.value)
          ∙ ap (prioritized_step c.args.office.now c.args.command.now.arch c.args.command.now.source c.in_ok-read.read) (sym (to_z-of_z w16 c.in-Some.build_priority small)))
          (want-BuildPriority c.args.command.now.arch c.args.command.now.source c.args.command.now.version c.args.command.now.value c.in_ok-read.ensures.ok kept.0);
    }
