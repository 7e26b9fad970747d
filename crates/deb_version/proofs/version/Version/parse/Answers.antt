use Rattle.std.proofs.Common.{ap, ◌∙◌, sym}
use Rattle.std.proofs.lemmas.Result.{err_from_is_err_and}
use Rattle.deb_version.specs.Syntax.{fault_of}
use Rattle.deb_version.proofs.ReadingLemmas.{reading_of-ok, reading_of-err, fault_of-not_memory}
use Rattle.deb_version.proofs.version.Version.parse.Goals as goal

pub returns-in_err-cut-clause-refused : goal.returns-in_err-cut-clause-refused
returns-in_err-cut-clause-refused c =
    let p = err_from_is_err_and c.from_residual.result c.from_residual.ensures.1 in
    rw (p.1, p.2) (λ _. reading_of-err c.args.text.now _ (ap fault_of (sym c.as_bytes.ensures.value) ∙ c.in_err-cut.ensures.refused))

pub returns-in_err-cut-clause-memory : goal.returns-in_err-cut-clause-memory
returns-in_err-cut-clause-memory c =
    let p = err_from_is_err_and c.from_residual.result c.from_residual.ensures.1 in
    rw (p.1, p.2) (λ m. absurd (fault_of-not_memory _ _ c.in_err-cut.ensures.refused m))

pub returns-in_err-from_str-clause-memory : goal.returns-in_err-from_str-clause-memory
returns-in_err-from_str-clause-memory c =
    let p = err_from_is_err_and c.from_residual-in_err-from_str.result c.from_residual-in_err-from_str.ensures.1 in
    rw p.1 (λ _. reading_of-ok c.args.text.now (ap fault_of (sym c.as_bytes.ensures.value) ∙ c.in_ok-cut.ensures.ok.faultless))

pub returns-clause-ok : goal.returns-clause-ok
returns-clause-ok c = reading_of-ok c.args.text.now (ap fault_of (sym c.as_bytes.ensures.value) ∙ c.in_ok-cut.ensures.ok.faultless)
