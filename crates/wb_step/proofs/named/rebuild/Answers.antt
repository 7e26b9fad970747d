use Rattle.std.proofs.Common.{◌∙◌, sym}
use Rattle.wb_states.specs.declared.moves.Move.TheVariants as to
use Rattle.wb_step.specs.Checks.{key_refusal}
use Rattle.wb_step.specs.Outcomes.{named_step}
use Rattle.wb_step.proofs.CarriesLemmas.{carries-refused, carries-returned, carries-memory, carries-reached}
use Rattle.wb_step.proofs.KeyLemmas.{rebuild-refused, rebuild-BadNumber, rebuild-long, rebuild-is, numbered}
use Rattle.wb_step.proofs.WantLemmas.{want-Rebuild}
use Rattle.wb_step.proofs.named.rebuild.Goals as goal

pub returns-in_default-clause-carries : goal.returns-in_default-clause-carries
returns-in_default-clause-carries c = carries-refused
    (λ _. rebuild-BadNumber c.args.office.now c.args.command.now.arch c.args.command.now.source c.args.command.now.version c.args.command.now.number c.args.command.now.message _
    (c.read_refusal_or.ensures.value (key_refusal c.args.command.now.arch c.args.command.now.source c.args.command.now.version) c.read_key-key.ensures.ok c.read_key-key.ensures.refused c.read_key-key.ensures.memory)
    c.in_default.ensures.value)
    (λ none. let bad = c.read_refusal_or.ensures.memory none in cc)

pub returns-then-is_long-clause-carries : goal.returns-then-is_long-clause-carries
returns-then-is_long-clause-carries c = carries-refused
    (λ _. rebuild-long c.args.office.now c.args.command.now.arch c.args.command.now.source c.args.command.now.version c.args.command.now.number c.args.command.now.message _
    (c.read_refusal_or-then-is_long.ensures.value (key_refusal c.args.command.now.arch c.args.command.now.source c.args.command.now.version) c.read_key-key.ensures.ok c.read_key-key.ensures.refused c.read_key-key.ensures.memory)
    (numbered c.args.command.now.number c.in-Some.number _ c.in-Some.ensures.value).0 (sym c.is_long.ensures.value ∙ c.if-is_long.true))
    (λ none. let long = c.read_refusal_or-then-is_long.ensures.memory none in cc)

pub returns-in_err-read-clause-carries : goal.returns-in_err-read-clause-carries
returns-in_err-read-clause-carries c = carries-returned c.from_residual.result c.from_residual.ensures.1
    (λ differs. rebuild-refused c.args.office.now c.args.command.now.arch c.args.command.now.source c.args.command.now.version c.args.command.now.number c.args.command.now.message _ (c.in_err-read.ensures.refused differs))
    (λ none. want-Rebuild c.args.command.now.arch c.args.command.now.source c.args.command.now.version c.args.command.now.number c.args.command.now.message (c.in_err-read.ensures.memory none) (numbered c.args.command.now.number c.in-Some.number _ c.in-Some.ensures.value).0 (sym c.is_long.ensures.value ∙ c.if-is_long.false))

pub returns-in_err-clone-clause-carries : goal.returns-in_err-clone-clause-carries
returns-in_err-clone-clause-carries c = carries-memory c.from_residual-in_err-clone.result c.from_residual-in_err-clone.ensures.1
    (want-Rebuild c.args.command.now.arch c.args.command.now.source c.args.command.now.version c.args.command.now.number c.args.command.now.message c.in_ok-read.ensures.ok (numbered c.args.command.now.number c.in-Some.number _ c.in-Some.ensures.value).0 (sym c.is_long.ensures.value ∙ c.if-is_long.false))

pub returns-clause-carries : goal.returns-clause-carries
returns-clause-carries c = carries-reached c.move_named.ensures.reaches
    (rebuild-is c.args.office.now c.args.command.now.arch c.args.command.now.source c.args.command.now.version c.args.command.now.number c.args.command.now.message c.in-Some.number _ c.in_ok-read.ensures.ok (numbered c.args.command.now.number c.in-Some.number _ c.in-Some.ensures.value).0 (sym c.is_long.ensures.value ∙ c.if-is_long.false) (numbered c.args.command.now.number c.in-Some.number _ c.in-Some.ensures.value).1 c.in_ok-clone.ensures.cases
    ∙ (λ i. named_step c.args.office.now c.args.command.now.arch c.args.command.now.source (sym c.in_ok-read.ensures.value i) (to.Rebuild c.in-Some.number c.in_ok-clone.field-0)))
    (want-Rebuild c.args.command.now.arch c.args.command.now.source c.args.command.now.version c.args.command.now.number c.args.command.now.message c.in_ok-read.ensures.ok (numbered c.args.command.now.number c.in-Some.number _ c.in-Some.ensures.value).0 (sym c.is_long.ensures.value ∙ c.if-is_long.false))
