-- What is appended, with what is still to be appended, is what was there and all changes.
use Rattle.std.proofs.Common.{◌≡◌, ◌++◌, ℕ, List}
use Rattle.std.specs.Prelude.{codes}
use Rattle.std.specs.String.{string_bytes}
use Rattle.std.specs.FinMap as finite
use Rattle.std.specs.List.{flat_map}
use Rattle.deb_text.specs.Text.{text_cmp}
use Rattle.wb_merge.specs.declared.changes.RecordChange.{RecordChange}
use Rattle.wb_journal.specs.Changes.{change_text, named_text}
use Rattle.wb_journal.proofs.changes.push_changes.Given as goal

abbrev pub invariant-loop-name : goal.invariant-loop-name
invariant-loop-name l =
    string_bytes l.out ++ flat_map (λ (named : List ℕ × RecordChange). codes "," ++ change_text named) l.name-iterator
    ≡ string_bytes l.fn.out ++ named_text (finite.entries (finite.from_entries {R = text_cmp} l.changes.entries))
