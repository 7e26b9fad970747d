use Rattle.std.proofs.Common.{◌≡◌, drop, map}
use Rattle.deb_control.specs.Fields.{field_named}
use Rattle.deb_control.specs.Index.{field_from}
use Rattle.deb_control.proofs.owned.OwnedParagraph.get.Given as goal

abbrev pub invariant-loop-start : goal.invariant-loop-start
invariant-loop-start l =
    field_named l.name (map (field_from l.text) (drop l.start-index l.start-items)) ≡ field_named l.name (map (field_from l.text) l.start-items)
