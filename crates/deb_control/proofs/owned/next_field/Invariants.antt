use Rattle.std.proofs.Common.{◌≡◌, length}
use denote.Text.{Utf8}
use denote.Shadow.{shadow}
use Rattle.deb_control.specs.Lines.{lines_in}
use Rattle.deb_control.specs.Fields.{fields_of}
use Rattle.deb_control.proofs.owned.next_field.Given as goal

abbrev pub invariant-loop-left : goal.invariant-loop-left
invariant-loop-left l = shadow (Utf8 l.left) × (fields_of (lines_in l.left) ≡ fields_of (lines_in l.text))

abbrev pub decreases-loop-left : goal.decreases-loop-left
decreases-loop-left l = length l.left
