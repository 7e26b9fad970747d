use Rattle.std.proofs.Common.{◌∙◌, ap, option_map, sym}
use Rattle.std.proofs.lemmas.Result.{err_from_is_err_and}
use Rattle.wb_words.specs.Usages.{arguments_in}
use Rattle.wb_words.specs.Words.{invocation_read}
use Rattle.wb_words.proofs.TreeLemmas.{invocation_read-failed, invocation_read-nothing, invocation_read-read}
use Rattle.wb_words.proofs.TreeLemmas.{invocation_read-unknown, named-missing, reads-refused}
use Rattle.wb_words.proofs.TreeLemmas.{reads-value, refused-nothing, words-cut}
use Rattle.wb_words.proofs.words.invocation_read.Goals as goal

pub returns-in_default-clause-refused : goal.returns-in_default-clause-refused
returns-in_default-clause-refused c = λ _. invocation_read-nothing c.args.words.now c.in_default.len_below

pub returns-in_err-wanted-clause-refused : goal.returns-in_err-wanted-clause-refused
returns-in_err-wanted-clause-refused c =
    refused-nothing _ c.from_residual.result (ap invocation_read (words-cut c.args.words.now _ c.in-len1-up.len_at_least)
    ∙ invocation_read-unknown _ _ (named-missing (λ arguments. arguments_in arguments.now) c.arguments_of.result _
    c.in_err-wanted.ensures.variant c.arguments_of.ensures.value))

pub returns-in_err-arguments-clause-refused : goal.returns-in_err-arguments-clause-refused
returns-in_err-arguments-clause-refused c =
    let p = err_from_is_err_and c.from_residual-in_err-arguments.result c.from_residual-in_err-arguments.ensures.1 in
    let named = ap (option_map (λ arguments. arguments_in arguments.now)) (sym c.in_ok-wanted.ensures.ok_part)
    ∙ c.arguments_of.ensures.value in
    rw p.1 (λ other. ap invocation_read (words-cut c.args.words.now _ c.in-len1-up.len_at_least)
    ∙ invocation_read-failed _ _ _ _ named c.in_ok-subcommand_app.ensures.value c.in_err-arguments.field-0.0
    c.in_err-arguments.ensures.kinds (λ h. other (p.2.1 h)))

pub returns : goal.returns
returns c =
    let named = ap (option_map (λ arguments. arguments_in arguments.now)) (sym c.in_ok-wanted.ensures.ok_part)
    ∙ c.arguments_of.ensures.value in
    let asked = ap invocation_read (words-cut c.args.words.now _ c.in-len1-up.len_at_least)
    ∙ invocation_read-read _ _ _ _ named c.in_ok-subcommand_app.ensures.value _
    c.in_ok-arguments.ensures.kinds (λ simple. (c.in_ok-arguments.ensures.matches simple).0) in
    record {
      value = reads-value _ _ c.invocation_named.result asked c.invocation_named.ensures.value;
      refused = reads-refused _ _ c.invocation_named.result asked c.invocation_named.ensures.value;
    }
