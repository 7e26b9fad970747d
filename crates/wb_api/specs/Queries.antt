-- The JSON texts of what the office answers to queries (RFC 8259), with their keys in byte order and no space.
use Rattle.std.specs.Prelude.{ℕ, Bool, true, false, List, ◌∷◌, [], Option, None, Some, codes, decimal}
use Rattle.std.specs.Fmt.{signed_decimal}
use Rattle.std.specs.List.{concat, join_by}
use Rattle.json.specs.Print.{quoted}
use Rattle.wb_states.specs.Moves.{build_text_of}
use Rattle.wb_states.specs.State.{name_of}
use Rattle.wb_states.specs.Machine.{Key}
use Rattle.wb_states.specs.declared.arch.OsCpu.{OsCpu}
use Rattle.wb_states.specs.declared.counts.StateCounts.{StateCounts}
use Rattle.wb_states.specs.declared.record.Record.{Record}
use Rattle.wb_states.specs.declared.keyed.KeyedRecord.{KeyedRecord}
use Rattle.wb_states.specs.declared.query.Answer.{Answer}
use Rattle.wb_states.specs.declared.query.Answer.TheVariants.{Queue, ByState, Item, Mine, Depends, Summary, Office}
use Rattle.wb_states.specs.declared.query.Answer.TheVariants.{Archs, Builders}

-- the text of a truth value (RFC 8259, section 3)
abbrev pub truth_text : Bool → List ℕ
truth_text true = codes "true"
truth_text false = codes "false"

-- the text of a text that may be missing (RFC 8259, sections 3 and 7)
abbrev pub quoted_or_null : Option (List ℕ) → List ℕ
quoted_or_null None = codes "null"
quoted_or_null (Some text) = quoted text

-- the text of a number that may be missing (RFC 8259, sections 3 and 6)
abbrev pub decimal_or_null : Option ℕ → List ℕ
decimal_or_null None = codes "null"
decimal_or_null (Some n) = decimal n

-- the text of the record of a source package on an architecture
unfoldable pub fields_text : List ℕ → List ℕ → Record → List ℕ
fields_text arch source current = concat
    (codes "{\"arch\":" ∷ quoted arch ∷
    codes ",\"build\":" ∷ quoted (build_text_of current) ∷
    codes ",\"build_priority\":" ∷ signed_decimal current.build_priority ∷
    codes ",\"earlier\":" ∷ truth_text current.earlier ∷
    codes ",\"holder\":" ∷ quoted_or_null current.holder ∷
    codes ",\"message\":" ∷ quoted current.message ∷
    codes ",\"note\":" ∷ quoted current.note ∷
    codes ",\"number\":" ∷ decimal current.number ∷
    codes ",\"priority\":" ∷ quoted current.priority ∷
    codes ",\"section\":" ∷ quoted current.section ∷
    codes ",\"source\":" ∷ quoted source ∷
    codes ",\"state\":" ∷ quoted (name_of current.state) ∷
    codes ",\"take\":" ∷ decimal_or_null current.take ∷
    codes ",\"version\":" ∷ quoted current.version ∷
    codes ",\"waits\":" ∷ quoted current.waits ∷ codes "}" ∷ [])

-- the text of a record with its key
abbrev pub record_text : KeyedRecord → List ℕ
record_text row = fields_text row.arch row.source row.current

-- the texts of records, with a comma between each two
unfoldable pub records_text : List KeyedRecord → List ℕ
records_text = join_by record_text (codes ",")

-- the text of a record that waits in a queue: the version of the binaries that are to be built, and the source package
unfoldable pub waiting_text : KeyedRecord → List ℕ
waiting_text row = concat
    (codes "{\"build\":" ∷ quoted (build_text_of row.current) ∷
    codes ",\"source\":" ∷ quoted row.source ∷ codes "}" ∷ [])

-- the texts of the records of a queue, with a comma between each two
unfoldable pub queue_text : List KeyedRecord → List ℕ
queue_text = join_by waiting_text (codes ",")

-- the text of the numbers of records, under the names of the states
unfoldable pub counts_text : StateCounts → List ℕ
counts_text counts = concat
    (codes "{\"BD-Uninstallable\":" ∷ decimal counts.bd_uninstallable ∷
    codes ",\"Build-Attempted\":" ∷ decimal counts.build_attempted ∷
    codes ",\"Building\":" ∷ decimal counts.building ∷
    codes ",\"Built\":" ∷ decimal counts.built ∷
    codes ",\"Dep-Wait\":" ∷ decimal counts.dep_wait ∷
    codes ",\"Failed\":" ∷ decimal counts.failed ∷
    codes ",\"Installed\":" ∷ decimal counts.installed ∷
    codes ",\"Needs-Build\":" ∷ decimal counts.needs_build ∷
    codes ",\"Not-For-Us\":" ∷ decimal counts.not_for_us ∷
    codes ",\"Uploaded\":" ∷ decimal counts.uploaded ∷ codes "}" ∷ [])

-- the text of an architecture with its words
unfoldable pub arch_text : List ℕ × OsCpu → List ℕ
arch_text arch = concat
    (codes "{\"arch\":" ∷ quoted arch.0 ∷
    codes ",\"cpu\":" ∷ quoted arch.1.cpu ∷
    codes ",\"os\":" ∷ quoted arch.1.os ∷ codes "}" ∷ [])

-- the texts of architectures, with a comma between each two
unfoldable pub archs_text : List (List ℕ × OsCpu) → List ℕ
archs_text = join_by arch_text (codes ",")

-- the text of a builder with an architecture for which it was added
unfoldable pub pair_text : Key → List ℕ
pair_text pair = concat
    (codes "{\"arch\":" ∷ quoted pair.1 ∷
    codes ",\"builder\":" ∷ quoted pair.0 ∷ codes "}" ∷ [])

-- the texts of builders, with a comma between each two
unfoldable pub pairs_text : List Key → List ℕ
pairs_text = join_by pair_text (codes ",")

-- the text of the answer to a query: a queue, the records in a state, a record, the records that a builder holds, what
-- a source package needs to be built, how many records are in each state, the two counts of the office, its
-- architectures, or its builders
unfoldable pub query_text : Answer → List ℕ
query_text (Queue arch rows) = concat
    (codes "{\"arch\":" ∷ quoted arch ∷
    codes ",\"queue\":[" ∷ queue_text rows ∷ codes "]}" ∷ [])
query_text (ByState arch state rows) = concat
    (codes "{\"arch\":" ∷ quoted arch ∷
    codes ",\"records\":[" ∷ records_text rows ∷
    codes "],\"state\":" ∷ quoted (name_of state) ∷ codes "}" ∷ [])
query_text (Item row) = record_text row
query_text (Mine builder rows) = concat
    (codes "{\"builder\":" ∷ quoted builder ∷
    codes ",\"records\":[" ∷ records_text rows ∷ codes "]}" ∷ [])
query_text (Depends arch source depends) = concat
    (codes "{\"arch\":" ∷ quoted arch ∷
    codes ",\"depends\":" ∷ quoted_or_null depends ∷
    codes ",\"source\":" ∷ quoted source ∷ codes "}" ∷ [])
query_text (Summary accepted arch counts) = concat
    (codes "{\"accepted\":" ∷ decimal accepted ∷
    codes ",\"arch\":" ∷ quoted arch ∷
    codes ",\"counts\":" ∷ counts_text counts ∷ codes "}" ∷ [])
query_text (Office accepted handed) = concat
    (codes "{\"accepted\":" ∷ decimal accepted ∷
    codes ",\"handed\":" ∷ decimal handed ∷ codes "}" ∷ [])
query_text (Archs accepted archs) = concat
    (codes "{\"accepted\":" ∷ decimal accepted ∷
    codes ",\"archs\":[" ∷ archs_text archs ∷ codes "]}" ∷ [])
query_text (Builders accepted pairs) = concat
    (codes "{\"accepted\":" ∷ decimal accepted ∷
    codes ",\"builders\":[" ∷ pairs_text pairs ∷ codes "]}" ∷ [])
