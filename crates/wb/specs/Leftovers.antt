-- What is removed after a refused opening: what was not there before, and can have been written by the opening alone.
use Rattle.std.specs.Prelude.{◌&&◌, ◌||◌, Bool, not}
use Rattle.wb.specs.declared.leftovers.Leftovers.{Leftovers}

-- the file was not there, and has at most the page that the making of a database writes first
abbrev pub is_new_file : Leftovers → Bool
is_new_file found = not found.file_was_there && not found.file_has_pages

-- the log was not there, and has no frame, or its file is new too
abbrev pub removes_log : Leftovers → Bool
removes_log found = not found.log_was_there && (not found.log_has_frames || is_new_file found)

-- the file is new, and no log with frames is left beside it
abbrev pub removes_file : Leftovers → Bool
removes_file found = is_new_file found && (not found.log_has_frames || not found.log_was_there)
