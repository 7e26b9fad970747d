use Rattle.std.proofs.Common.{sym, ◌∙◌}
use Rattle.std.proofs.lemmas.Result.{err_from_is_err_and}
use Rattle.deb_version.proofs.CutLemmas.{no_epoch, epoch_at}
use Rattle.deb_version.proofs.parse.epoch_cut.Goals as goal

pub returns-in_err-number_of_epoch-in-Some-clause-refused : goal.returns-in_err-number_of_epoch-in-Some-clause-refused
returns-in_err-number_of_epoch-in-Some-clause-refused c =
    let p = err_from_is_err_and c.from_residual.result c.from_residual.ensures.1 in
    let cut = epoch_at c.args.text.now c.in-Some.colon (sym c.in-Some.ensures) in
    rw (p.1, p.2) (cut.fault ∙ c.in_err-number_of_epoch-in-Some.ensures.refused)

pub returns-in-None-clause-number : goal.returns-in-None-clause-number
returns-in-None-clause-number c = (no_epoch c.args.text.now (sym c.in-None.ensures)).number

pub returns-in-None-clause-value : goal.returns-in-None-clause-value
returns-in-None-clause-value c = (no_epoch c.args.text.now (sym c.in-None.ensures)).start

pub returns-in-None-clause-ok : goal.returns-in-None-clause-ok
returns-in-None-clause-ok c = (no_epoch c.args.text.now (sym c.in-None.ensures)).fault

pub returns-in_ok-number_of_epoch-in-Some-clause-number : goal.returns-in_ok-number_of_epoch-in-Some-clause-number
returns-in_ok-number_of_epoch-in-Some-clause-number c =
    let cut = epoch_at c.args.text.now c.in-Some.colon (sym c.in-Some.ensures) in
    c.in_ok-number_of_epoch-in-Some.ensures.value ∙ sym cut.number

pub returns-in_ok-number_of_epoch-in-Some-clause-value : goal.returns-in_ok-number_of_epoch-in-Some-clause-value
returns-in_ok-number_of_epoch-in-Some-clause-value c = (epoch_at c.args.text.now c.in-Some.colon (sym c.in-Some.ensures)).start

pub returns-in_ok-number_of_epoch-in-Some-clause-ok : goal.returns-in_ok-number_of_epoch-in-Some-clause-ok
returns-in_ok-number_of_epoch-in-Some-clause-ok c =
    let cut = epoch_at c.args.text.now c.in-Some.colon (sym c.in-Some.ensures) in
    cut.fault ∙ c.in_ok-number_of_epoch-in-Some.ensures.ok
