use Rattle.std.proofs.Common.{◌∙◌, sym}
use Rattle.std.proofs.lemmas.Result.{err_from_is_err_and}
use Rattle.wb_step.specs.Checks.{key_refusal}
use Rattle.wb_step.proofs.KeyLemmas.{aside-refused, aside-long, aside-None}
use Rattle.wb_step.proofs.WantLemmas.{wanted}
use Rattle.wb_step.proofs.named.read_aside.Goals as goal

pub returns-then-is_long-clause-refused : goal.returns-then-is_long-clause-refused
returns-then-is_long-clause-refused c = λ _.
    aside-long c.args.command.now.arch c.args.command.now.source c.args.command.now.version c.args.command.now.note _
    (c.read_refusal_or.ensures.value (key_refusal c.args.command.now.arch c.args.command.now.source c.args.command.now.version) c.read_key-key.ensures.ok c.read_key-key.ensures.refused c.read_key-key.ensures.memory)
    (sym c.is_long.ensures.value ∙ c.if-is_long.true)

pub returns-in_err-read-clause-refused : goal.returns-in_err-read-clause-refused
returns-in_err-read-clause-refused c =
    let p = err_from_is_err_and c.from_residual.result c.from_residual.ensures.1 in
    rw (p.1, p.2) (λ differs. aside-refused c.args.command.now.arch c.args.command.now.source c.args.command.now.version c.args.command.now.note _ (c.in_err-read.ensures.refused differs))

pub returns-in_err-read-clause-memory : goal.returns-in_err-read-clause-memory
returns-in_err-read-clause-memory c =
    let p = err_from_is_err_and c.from_residual.result c.from_residual.ensures.1 in
    rw (p.1, p.2) (λ none. aside-None c.args.command.now.arch c.args.command.now.source c.args.command.now.version c.args.command.now.note (c.in_err-read.ensures.memory none) (sym c.is_long.ensures.value ∙ c.if-is_long.false))

pub returns-in_err-clone-clause-memory : goal.returns-in_err-clone-clause-memory
returns-in_err-clone-clause-memory c =
    wanted _ (aside-None c.args.command.now.arch c.args.command.now.source c.args.command.now.version c.args.command.now.note c.in_ok-read.ensures.ok (sym c.is_long.ensures.value ∙ c.if-is_long.false))

pub returns-clause-ok : goal.returns-clause-ok
returns-clause-ok c = aside-None c.args.command.now.arch c.args.command.now.source c.args.command.now.version c.args.command.now.note c.in_ok-read.ensures.ok (sym c.is_long.ensures.value ∙ c.if-is_long.false)
