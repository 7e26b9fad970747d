-- The record of a source package on an architecture: when its fields have their forms and limits.
use Rattle.std.specs.Prelude.{◌≡◌, ◌≤◌, ◌||◌, IsTrue, is_some, IfSome, IsOk, not}
use Rattle.deb_version.specs.Syntax.{reading_of}
use Rattle.wb_states.specs.declared.record.Record.{Record}
use Rattle.wb_states.specs.State.{is_held, is_dep_wait}
use Rattle.wb_states.specs.Names.{is_builder_name, is_label_text}
use Rattle.wb_states.specs.Limits.{rebuild_limit, note_limit, relations_limit, is_build_priority}
use Rattle.deb_text.specs.Text.{is_empty_text, IsTextWithin}

-- a record fits its state: exactly a held one has a holder and a take number, and exactly Dep-Wait has waits
pub record FitsState (current : Record) : Type 0 where
  pub held : is_some current.holder ≡ is_held current.state
  pub taken : is_some current.take ≡ is_held current.state
  pub waiting : not (is_empty_text current.waits) ≡ is_dep_wait current.state

-- a record whose fields have their forms and limits, and which fits its state
pub record IsWellFormed (current : Record) : Type 0 where
  pub version : IsOk (reading_of current.version)
  pub priority : IsTrue (is_empty_text current.priority || is_label_text current.priority)
  pub section : IsTrue (is_empty_text current.section || is_label_text current.section)
  pub number : current.number ≤ rebuild_limit
  pub state : FitsState current
  pub builder : IfSome current.holder (λ builder. IsTrue (is_builder_name builder))
  pub waits : IsTextWithin relations_limit current.waits
  pub depends : IfSome current.depends (IsTextWithin relations_limit)
  pub note : IsTextWithin note_limit current.note
  pub message : IsTextWithin note_limit current.message
  pub build_priority : IsTrue (is_build_priority current.build_priority)
