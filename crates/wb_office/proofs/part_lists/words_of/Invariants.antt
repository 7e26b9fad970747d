use Rattle.std.proofs.Common.{◌≡◌, drop}
use Rattle.std.specs.FinMap.Entries.{find}
use Rattle.deb_text.specs.Text.{text_cmp}
use Rattle.wb_office.proofs.part_lists.words_of.Given as goal

abbrev pub invariant-loop-name : goal.invariant-loop-name
invariant-loop-name l = find text_cmp l.arch (drop l.name-index l.archs) ≡ find text_cmp l.arch l.archs
