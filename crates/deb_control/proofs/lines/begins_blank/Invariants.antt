use Rattle.std.proofs.Common.{◌≡◌, drop}
use Rattle.std.specs.List.{before_first, list_all}
use Rattle.deb_control.specs.Lines.{is_blank, is_line_feed}
use Rattle.deb_control.proofs.lines.begins_blank.Given as goal

abbrev pub invariant-loop-b : goal.invariant-loop-b
invariant-loop-b l =
    list_all is_blank (before_first is_line_feed (drop l.b-index l.bytes)) ≡ list_all is_blank (before_first is_line_feed l.bytes)
