use Rattle.std.proofs.Common.{◌∙◌, sym}
use Rattle.wb_states.specs.declared.moves.Move.TheVariants as to
use Rattle.wb_step.specs.Checks.{key_refusal}
use Rattle.wb_step.specs.Outcomes.{named_step}
use Rattle.wb_step.proofs.CarriesLemmas.{carries-memory, carries-refused, carries-returned, carries-reached}
use Rattle.wb_step.proofs.KeyLemmas.{dep_wait-refused, dep_wait-either, dep_wait-is}
use Rattle.wb_step.proofs.WantLemmas.{key-wanted, want-DepWait}
use Rattle.wb_step.proofs.named.dep_wait.Goals as goal

pub returns-in-Err : goal.returns-in-Err
returns-in-Err c = record {
  carries = let first = c.read_refusal_or.ensures.value (key_refusal c.args.command.now.arch c.args.command.now.source c.args.command.now.version) c.read_key-key.ensures.ok c.read_key-key.ensures.refused c.read_key-key.ensures.memory in
      carries-refused
      (λ differs. dep_wait-either c.args.office.now c.args.command.now.arch c.args.command.now.source c.args.command.now.version c.args.command.now.relations c.in-Err.refusal c.read_refusal_or.result first c.in-Err.ensures.refused differs)
      (λ none. want-DepWait c.args.command.now.arch c.args.command.now.source c.args.command.now.version c.args.command.now.relations
      (key-wanted c.args.command.now.arch c.args.command.now.source c.args.command.now.version c.in-Err.refusal c.read_refusal_or.result first none) (c.in-Err.ensures.memory (c.read_refusal_or.ensures.memory none)));
}

pub returns-in_err-read : goal.returns-in_err-read
returns-in_err-read c = record {
  carries = carries-returned c.from_residual.result c.from_residual.ensures.1
      (λ differs. dep_wait-refused c.args.office.now c.args.command.now.arch c.args.command.now.source c.args.command.now.version c.args.command.now.relations _ (c.in_err-read.ensures.refused differs))
      (λ none. want-DepWait c.args.command.now.arch c.args.command.now.source c.args.command.now.version c.args.command.now.relations (c.in_err-read.ensures.memory none) c.in-Ok.ensures.short);
}

pub returns-in_err-words : goal.returns-in_err-words
returns-in_err-words c = record {
  carries = carries-memory c.from_residual-in_err-words.result c.from_residual-in_err-words.ensures.1
      (want-DepWait c.args.command.now.arch c.args.command.now.source c.args.command.now.version c.args.command.now.relations c.in_ok-read.ensures.ok c.in-Ok.ensures.short);
}

pub returns : goal.returns
returns c = record {
  carries = carries-reached c.move_named.ensures.reaches
      (dep_wait-is c.args.office.now c.args.command.now.arch c.args.command.now.source c.args.command.now.version c.args.command.now.relations c.in-Ok.groups c.in_ok-words.words c.in_ok-read.ensures.ok c.in-Ok.ensures.value c.in_ok-words.ensures.value
      ∙ (λ i. named_step c.args.office.now c.args.command.now.arch c.args.command.now.source (sym c.in_ok-read.ensures.value i) (to.DepWait c.in-Ok.groups c.in_ok-words.words)))
      (want-DepWait c.args.command.now.arch c.args.command.now.source c.args.command.now.version c.args.command.now.relations c.in_ok-read.ensures.ok c.in-Ok.ensures.short);
}
