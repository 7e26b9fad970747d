use Rattle.std.proofs.Common.{◌≡◌, ◌++◌, [], length, drop}
use denote.Text.{Utf8}
use denote.Shadow.{shadow}
use Rattle.std.specs.BTreeSet.{contains_text}
use Rattle.deb_control.specs.Lines.{lines_in}
use Rattle.deb_control.specs.Fields.{IsNameSet, names_in, first_fault, fields_of}
use Rattle.deb_control.proofs.RoomLemmas.{HasBegun}
use Rattle.deb_control.proofs.paragraph.read_fields.Given as goal

abbrev pub invariant-loop-left : goal.invariant-loop-left
invariant-loop-left l = record {
  text : shadow (Utf8 l.left);
  known : IsNameSet (contains_text l.later) (drop 32 (names_in l.fields.items));
  fault : first_fault (names_in l.fields.items) (lines_in l.left) ≡ first_fault [] (lines_in l.text);
  begun : HasBegun l.fields.items l.left l.text;
  fields : l.fields.items ++ fields_of (lines_in l.left) ≡ fields_of (lines_in l.text);
}

abbrev pub decreases-loop-left : goal.decreases-loop-left
decreases-loop-left l = length l.left
