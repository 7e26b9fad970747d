-- The four tables are added one after another.
use Rattle.std.proofs.Common.{◌∙◌, ap, ap₂, List}
use Rattle.std.proofs.lemmas.Result.{IfOk-weaker}
use Rattle.clap.specs.Words.{App, app_of}
use Rattle.wb_words.specs.Usages.{usages_in, with_usages}
use Rattle.wb_words.proofs.UsageLemmas.{Entry}
use Rattle.wb_words.proofs.tree.with_line_subcommands.Goals as goal

pub returns-clause-value : goal.returns-clause-value
returns-clause-value c =
    let added = λ (app : App) (table : List Entry). with_usages app (usages_in table) in
    let operators = c.in_ok-operators.ensures.value ∙ ap (added (app_of c.args.command)) c.as_slice.ensures in
    let builders = c.in_ok-builders.ensures.value ∙ ap₂ added operators c.as_slice-2.ensures in
    let queries = c.in_ok-queries.ensures.value ∙ ap₂ added builders c.as_slice-3.ensures in
    IfOk-weaker c.with_subcommands-4.result _ _ (λ made e. e ∙ ap₂ added queries c.as_slice-4.ensures) c.with_subcommands-4.ensures.value
