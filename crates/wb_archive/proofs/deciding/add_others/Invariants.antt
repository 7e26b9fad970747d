use Rattle.std.proofs.Common.{◌≡◌, ◌++◌, drop, filter, not}
use Rattle.std.specs.BTreeSet.{contains}
use Rattle.deb_text.specs.Text.{text_cmp}
use Rattle.wb_archive.proofs.deciding.add_others.Given as goal

abbrev pub invariant-loop-name : goal.invariant-loop-name
invariant-loop-name l =
    l.names.items ++ filter (λ name. not (contains text_cmp l.known name)) (drop l.name-index l.listed)
    ≡ l.fn.names.items ++ filter (λ name. not (contains text_cmp l.known name)) l.listed
