use Rattle.std.proofs.Common.{◌≡◌, length, arith}
use Rattle.deb_control.proofs.SourceLemmas.{takes_none}
use Rattle.deb_control.proofs.source.append_shown.Goals as goal

pub returns-then-is_empty-clause-value : goal.returns-then-is_empty-clause-value
returns-then-is_empty-clause-value g c =
    let none : length c.in-Ok.available.now ≡ 0 = grind (arith, c.is_empty.ensures, c.if-is_empty.true) in
    takes_none _ _ _ _ c.in-Ok.available.now none c.in-Ok.ensures.end c.fill_buf.follows.holds-at-none.0
