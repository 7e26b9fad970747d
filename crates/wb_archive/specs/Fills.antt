-- What stands in the tables of a merge once a list was read into them.
use Rattle.std.specs.Prelude.{Bool, false, not, ◌&&◌, ◌==◌, if◌then◌else◌, ℕ, ◌+◌, bytes_eq, List, [], ◌∷◌, ◌++◌}
use Rattle.std.specs.Prelude.{filter, Option, Some, None, Result, Ok, Err}
use Rattle.std.specs.List.{dedup, list_any}
use Rattle.std.specs.Option.{option_map_or}
use Rattle.deb_relations.specs.declared.arch.ArchWords.{ArchWords}
use Rattle.wb_states.specs.declared.refusal.Refusal.{Refusal}
use Rattle.wb_states.specs.declared.scratch.SourceRow.{SourceRow}
use Rattle.wb_states.specs.declared.scratch.BinaryRow.{BinaryRow}
use Rattle.wb_merge.specs.Listing.{is_listed}
use Rattle.wb_merge.specs.Scratch.{is_binary_wanted, joined_rows, row_of_kept}
use Rattle.wb_archive.specs.declared.fault.BadList.{BadList}

-- whether a row can matter to a merge of these architectures: one of them lists its source package
abbrev pub is_source_wanted : List ArchWords → SourceRow → Bool
is_source_wanted archs row = list_any (λ arch. is_listed arch (row_of_kept row)) archs

-- of the rows of a Sources list those that can matter
abbrev pub sources_wanted : List ArchWords → List SourceRow → List SourceRow
sources_wanted archs rows = filter (is_source_wanted archs) rows

-- whether two rows say that the same build was built on the architecture
abbrev pub is_same_build : BinaryRow → BinaryRow → Bool
is_same_build one other =
    (one.own && other.own) && (bytes_eq one.source other.source && (bytes_eq one.source_version other.source_version && one.number == other.number))

-- whether a row says of a build what the row before it says, and no record can wait for its name
abbrev pub is_repeat : (List ℕ → Bool) → BinaryRow → BinaryRow → Bool
is_repeat waited row before = is_same_build before row && not (waited row.name)

-- of what is kept of the paragraphs of a Packages list the rows that can matter, one after another
abbrev pub rows_wanted : (List ℕ → Bool) → List (List BinaryRow) → List BinaryRow
rows_wanted waited kept = filter (is_binary_wanted waited) (joined_rows kept)

-- rows in their order, with the numbers after this one
abbrev pub numbered : ℕ → List BinaryRow → List BinaryRow
numbered placed [] = []
numbered placed (row ∷ rows) = record row { seq = placed + 1 } ∷ numbered (placed + 1) rows

-- of what is kept of the paragraphs of a Packages list the rows that can matter, with their numbers, without those that
-- only repeat the row before them
abbrev pub binaries_wanted : (List ℕ → Bool) → List (List BinaryRow) → List BinaryRow
binaries_wanted waited kept = dedup (is_repeat waited) (numbered 0 (rows_wanted waited kept))

-- ---- the same, row by row

-- whether a row only repeats the row that was kept last, if there is one
abbrev pub repeats : (List ℕ → Bool) → Option BinaryRow → BinaryRow → Bool
repeats waited last row = option_map_or (is_repeat waited row) last false

-- the row, unless it only repeats the one that was kept last
abbrev pub binary_kept : (List ℕ → Bool) → Option BinaryRow → BinaryRow → List BinaryRow
binary_kept waited last row = if repeats waited last row then [] else row ∷ []

-- the row that was kept last, once it was seen whether a row is kept
abbrev pub last_kept : (List ℕ → Bool) → Option BinaryRow → BinaryRow → Option BinaryRow
last_kept waited last row = if repeats waited last row then last else Some row

-- those of some rows that are kept, after the row that was kept last
abbrev pub binaries_behind : (List ℕ → Bool) → Option BinaryRow → List BinaryRow → List BinaryRow
binaries_behind waited last [] = []
binaries_behind waited last (row ∷ rows) = binary_kept waited last row ++ binaries_behind waited (last_kept waited last row) rows

-- the row that was kept last, once they were read
abbrev pub last_behind : (List ℕ → Bool) → Option BinaryRow → List BinaryRow → Option BinaryRow
last_behind waited last [] = last
last_behind waited last (row ∷ rows) = last_behind waited (last_kept waited last row) rows

-- ---- a list that was read, or is refused

-- what is so of rows, if there are some and not a refusal
abbrev pub WithRows : {X : Type 0} → Result X Refusal → (X → Type 0) → Type 0
WithRows (Ok rows) P = P rows
WithRows (Err refusal) P = ⊥

-- a list was read into a table, which then has of its rows those that can matter; or the list is refused, and the table has some rows
abbrev pub IsFilled : {X Y : Type 0} → Result (List X) Refusal → (List X → List Y) → (List Y → Type 0) → (BadList → Type 0) → Option BadList → Type 0
IsFilled kept wanted Holds Refused None = WithRows kept (λ rows. Holds (wanted rows))
IsFilled {Y = Y} kept wanted Holds Refused (Some bad) = Refused bad × ((left : List Y) × Holds left)
