-- The parts of a record's form: its labels, its numbers and its texts.
use Rattle.std.specs.Prelude.{◌≤◌, ◌||◌, IsTrue, IfSome}
use Rattle.deb_text.specs.Text.{is_empty_text, IsTextWithin}
use Rattle.wb_states.specs.declared.record.Record.{Record}
use Rattle.wb_states.specs.Limits.{rebuild_limit, note_limit, relations_limit, is_build_priority}
use Rattle.wb_states.specs.Names.{is_builder_name, is_label_text}

-- the priority and the section are labels or empty, and the holder, if there is one, has a builder's name
pub record HasLabels (current : Record) : Type 0 where
  pub priority : IsTrue (is_empty_text current.priority || is_label_text current.priority)
  pub section : IsTrue (is_empty_text current.section || is_label_text current.section)
  pub builder : IfSome current.holder (λ builder. IsTrue (is_builder_name builder))

-- the number of the rebuild and the build priority lie within their limits
pub record HasNumbers (current : Record) : Type 0 where
  pub number : current.number ≤ rebuild_limit
  pub build_priority : IsTrue (is_build_priority current.build_priority)

-- the texts are UTF-8 and lie within their limits
pub record HasTexts (current : Record) : Type 0 where
  pub waits : IsTextWithin relations_limit current.waits
  pub depends : IfSome current.depends (IsTextWithin relations_limit)
  pub note : IsTextWithin note_limit current.note
  pub message : IsTextWithin note_limit current.message
