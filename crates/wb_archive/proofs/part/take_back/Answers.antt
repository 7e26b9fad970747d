use Rattle.std.proofs.Common.{◌≡◌, ◌∙◌, Some, None, sym}
use Rattle.wb_archive.specs.Tables.{Contents, back_at}
use Rattle.wb_archive.proofs.part.take_back.Goals as goal

some-none : (saved : Contents) → Some saved ≡ None → ⊥
some-none saved e = cc

pub returns-clause-value : goal.returns-clause-value
returns-clause-value g c = λ at saved clean holds e.
    let middle = g.met.T.MergeTables.clean c.back.new.tables c.release.new.tables c.in_ok-release.ensures.calls.follows clean in
    c.in_ok-release.ensures.value (back_at saved at) clean (c.in_ok-back.ensures.value at saved middle holds e) (λ none. some-none saved (sym e ∙ none))
