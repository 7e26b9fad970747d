-- For which lists memory is taken, and so which of them may run out of it.
use Rattle.std.specs.Prelude.{ℕ, Bool, false, ◌&&◌, ◌||◌, List, [], ◌∷◌, Option, Some, None, is_ok}
use Rattle.deb_control.specs.Fields.{reading_of, takes_memory}
use Rattle.deb_control.specs.Lines.{lines_of, paragraphs_in}
use Rattle.wb_merge.specs.Rows.{source_rows}

-- whether memory is taken for the next of the paragraphs ahead: it can be read, or its fault is not seen without memory
abbrev pub ahead_takes_memory : Option (List (List (List ℕ))) → Bool
ahead_takes_memory None = false
ahead_takes_memory (Some []) = false
ahead_takes_memory (Some (lines ∷ later)) = takes_memory lines || is_ok (reading_of lines)

-- whether memory is taken for a list: it has a paragraph, and memory is taken for the first
unfoldable pub list_takes_memory : List ℕ → Bool
list_takes_memory text = ahead_takes_memory (Some (paragraphs_in (lines_of text)))

-- whether memory is taken for the listing of two lists: Sources takes it, or has no fault and Packages takes it
abbrev pub lists_take_memory : List ℕ → List ℕ → Bool
lists_take_memory sources packages = list_takes_memory sources || (is_ok (source_rows sources) && list_takes_memory packages)
