use Rattle.std.proofs.Common.{◌∙◌, sym}
use Rattle.std.proofs.lemmas.Result.{IfErr-weaker, on_ok_weaker}
use Rattle.wb_step.proofs.RefusalLemmas.{key_refusal-BadName, key_refusal-BadVersion, key_refusal-None}
use Rattle.wb_step.proofs.texts.read_key.Goals as goal

pub returns-then-has_bad_key-clause-refused : goal.returns-then-has_bad_key-clause-refused
returns-then-has_bad_key-clause-refused c = λ _.
    key_refusal-BadName c.args.arch.now c.args.source.now c.args.version.now (sym c.has_bad_key.ensures.value ∙ c.if-has_bad_key.true)

pub returns-clause-refused : goal.returns-clause-refused
returns-clause-refused c = IfErr-weaker c.read_version.result _ _ (λ refusal is differs.
    key_refusal-BadVersion c.args.arch.now c.args.source.now c.args.version.now refusal (sym c.has_bad_key.ensures.value ∙ c.if-has_bad_key.false) (is differs)) c.read_version.ensures.refused

pub returns-clause-ok : goal.returns-clause-ok
returns-clause-ok c = on_ok_weaker c.read_version.result
    (key_refusal-None c.args.arch.now c.args.source.now c.args.version.now (sym c.has_bad_key.ensures.value ∙ c.if-has_bad_key.false)) c.read_version.ensures.ok

pub returns-clause-memory : goal.returns-clause-memory
returns-clause-memory c = IfErr-weaker c.read_version.result _ _ (λ _ is none.
    key_refusal-None c.args.arch.now c.args.source.now c.args.version.now (sym c.has_bad_key.ensures.value ∙ c.if-has_bad_key.false) (is none)) c.read_version.ensures.memory
