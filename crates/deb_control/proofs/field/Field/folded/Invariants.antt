use Rattle.std.proofs.Common.{◌≡◌}
use Rattle.std.specs.Prelude.{fold, map, string_bytes}
use Rattle.deb_control.specs.Lines.{trim}
use Rattle.deb_control.specs.Fields.{folded_onto, folded_of}
use Rattle.deb_control.proofs.field.Field.folded.Given as goal

abbrev pub invariant-loop-line : goal.invariant-loop-line
invariant-loop-line l = fold folded_onto (string_bytes l.text) (map trim l.line-iterator) ≡ folded_of l.self
