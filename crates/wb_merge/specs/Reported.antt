-- The records after a report of one architecture, at each key, and those of them that differ.
use Rattle.std.specs.Prelude.{ℕ, List, [], ◌∷◌, length, bytes_eq, Option, Some, None, option_and_then, if◌then◌else◌}
use Rattle.std.specs.List.{filter_map}
use Rattle.std.specs.Option.{option_map}
use Rattle.std.specs.FinMap as finite
use Rattle.wb_states.specs.declared.record.Record.{Record}
use Rattle.wb_states.specs.Queue.{Entry}
use Rattle.wb_merge.specs.declared.report.ReportLine.{ReportLine}
use Rattle.wb_merge.specs.Listing.{map_at}
use Rattle.wb_merge.specs.Merged.{Records, is_same_record}
use Rattle.wb_merge.specs.Report.{Lines, record_after_report}
use Rattle.wb_merge.specs.Steps.{Key}

-- a record after the line of a report that names its source package, if there is one
abbrev pub record_by_line : Option ReportLine → Record → Record
record_by_line None current = current
record_by_line (Some line) current = record_after_report line current

-- the record at a key after the lines of a report of an architecture: other architectures keep theirs
unfoldable pub record_reported_at : Records → List ℕ → Lines → Key → Option Record
record_reported_at old arch lines key =
    if bytes_eq key.0 arch then option_map (record_by_line (finite.get lines key.1)) (finite.get old key) else finite.get old key

-- the records after the lines of a report of an architecture
unfoldable pub records_reported : Records → List ℕ → Lines → Records
records_reported old arch lines = map_at (record_reported_at old arch lines) (finite.keys old)

-- ---- what differs

-- the record after a line, if a field of it differs
abbrev pub changed_by_line : Option ReportLine → Record → Option Record
changed_by_line line current = if is_same_record current (record_by_line line current) then None else Some (record_by_line line current)

-- the record of a source package after the lines of a report, with its key, if it has one and a field of it differs
unfoldable pub row_reported : Records → List ℕ → Lines → List ℕ → Option Entry
row_reported old arch lines source =
    option_map (λ new. ((arch, source), new)) (option_and_then (changed_by_line (finite.get lines source)) (finite.get old (arch, source)))

-- the records of these source packages that differ after the lines of a report, with their keys
abbrev pub rows_over : Records → List ℕ → Lines → List (List ℕ) → List Entry
rows_over old arch lines sources = filter_map (row_reported old arch lines) sources

-- the records that differ after the lines of a report, with their keys, by the names of the source packages
unfoldable pub rows_reported : Records → List ℕ → Lines → List Entry
rows_reported old arch lines = rows_over old arch lines (finite.keys lines)

-- how many records differ in some field after the lines of a report
unfoldable pub number_reported : Records → List ℕ → Lines → ℕ
number_reported old arch lines = length (rows_reported old arch lines)

-- records with these at their keys, one after another
abbrev pub with_rows : Records → List Entry → Records
with_rows records [] = records
with_rows records (entry ∷ entries) = with_rows (finite.insert records entry.0 entry.1) entries
