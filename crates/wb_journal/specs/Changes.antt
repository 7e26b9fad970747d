-- What a merge or a report changed, as texts of a journal (RFC 8259): arrays without a space, in the order of the names
-- of the source packages.
use Rattle.std.specs.Prelude.{ℕ, List, [], ◌∷◌, ◌++◌, length, Option, None, Some, bytes_eq, codes, decimal}
use Rattle.std.specs.Prelude.{if◌then◌else◌}
use Rattle.std.specs.FinMap as finite
use Rattle.std.specs.List.{join_by}
use Rattle.json.specs.Print.{quoted}
use Rattle.wb_states.specs.declared.command.Part.{Part}
use Rattle.wb_states.specs.declared.command.Report.{Report}
use Rattle.wb_states.specs.declared.reply.PartReply.{PartReply}
use Rattle.wb_states.specs.declared.state.State.{State}
use Rattle.wb_states.specs.State.{name_of}
use Rattle.wb_merge.specs.declared.changes.ArchChanges.{ArchChanges}
use Rattle.wb_merge.specs.declared.changes.RecordChange.{RecordChange}
use Rattle.wb_merge.specs.Changes.{Changes}

-- the text of the state of a record, or `null` if there is no record
abbrev pub state_text : Option State → List ℕ
state_text None = codes "null"
state_text (Some state) = quoted (name_of state)

-- the text of the version of a record, or `null` if there is no record
abbrev pub version_text : Option (List ℕ) → List ℕ
version_text None = codes "null"
version_text (Some version) = quoted version

-- the text of what became of the record of a source package: its name, its states before and after, and its version
-- after
unfoldable pub change_text : List ℕ × RecordChange → List ℕ
change_text named =
    codes "[" ++ quoted named.0 ++ codes "," ++ state_text named.1.before ++ codes "," ++ state_text named.1.after
    ++ codes "," ++ version_text named.1.version ++ codes "]"

-- the texts of changes, with a comma between each two
unfoldable pub named_text : List (List ℕ × RecordChange) → List ℕ
named_text = join_by change_text (codes ",")

-- the changes of an architecture among those of several, if they are known
abbrev pub changes_of : List ArchChanges → List ℕ → Option Changes
changes_of [] arch = None
changes_of (changes ∷ others) arch =
    if bytes_eq arch changes.arch then Some (finite.from_entries changes.records.entries) else changes_of others arch

-- the member with the changes of an architecture, which comes after another; nothing if they are not known
abbrev pub changes_text : Option Changes → List ℕ
changes_text None = []
changes_text (Some changes) = codes ",\"changes\":[" ++ named_text (finite.entries changes) ++ codes "]"

-- the object of a part of a merge: its architecture, and what it changed, if that is known
unfoldable pub part_text : List ArchChanges → List ℕ → List ℕ
part_text changes arch = codes "{\"arch\":" ++ quoted arch ++ changes_text (changes_of changes arch) ++ codes "}"

-- the objects of the parts of a merge, with a comma between each two
unfoldable pub parts_text : List ArchChanges → List Part → List ℕ
parts_text changes = join_by (λ part. part_text changes part.arch) (codes ",")

-- the objects of the parts of a merge to which these are the replies, with a comma between each two
unfoldable pub replies_text : List ArchChanges → List PartReply → List ℕ
replies_text changes = join_by (λ reply. part_text changes reply.arch) (codes ",")

-- the object of a merge whose parts have these objects
unfoldable pub merge_object_text : List ℕ → List ℕ
merge_object_text parts = codes "{\"command\":\"merge\",\"parts\":[" ++ parts ++ codes "]}"

-- the object of a report: its architecture, how many bytes it has, and what it changed, if that is known
unfoldable pub report_object_text : List ArchChanges → Report → List ℕ
report_object_text changes given =
    codes "{\"arch\":" ++ quoted given.arch ++ codes ",\"bytes\":" ++ decimal (length given.text)
    ++ changes_text (changes_of changes given.arch) ++ codes ",\"command\":\"report\"}"
