-- The JSON values of records and of counts, whose texts stand in the answers to queries (RFC 8259), before they are
-- printed.
use Rattle.std.specs.Prelude.{ℕ, List, Option, None, Some, codes}
use Rattle.serde_json.specs.Data.{Data, null, boolean, number, unsigned, string, object, Members, member, no_members, put}
use Rattle.serde_json.specs.Find.{of_integer}
use Rattle.wb_states.specs.Moves.{build_text_of}
use Rattle.wb_states.specs.State.{name_of}
use Rattle.wb_states.specs.Machine.{Key}
use Rattle.wb_states.specs.declared.arch.OsCpu.{OsCpu}
use Rattle.wb_states.specs.declared.counts.StateCounts.{StateCounts}
use Rattle.wb_states.specs.declared.record.Record.{Record}
use Rattle.wb_states.specs.declared.keyed.KeyedRecord.{KeyedRecord}

-- the value of a text that may be missing (RFC 8259, section 3)
abbrev pub string_or_null : Option (List ℕ) → Data
string_or_null None = null
string_or_null (Some text) = string text

-- the value of a number that may be missing (RFC 8259, section 3)
abbrev pub number_or_null : Option ℕ → Data
number_or_null None = null
number_or_null (Some n) = number (unsigned n)

-- members with what is built of a record, and its build priority
abbrev pub with_version : Record → Members → Members
with_version current members = put (codes "build_priority") (number (of_integer current.build_priority))
    (put (codes "build") (string (build_text_of current))
    (put (codes "number") (number (unsigned current.number))
    (put (codes "version") (string current.version) members)))

-- members with where a record stands, and who holds it
abbrev pub with_standing : Record → Members → Members
with_standing current members = put (codes "take") (number_or_null current.take)
    (put (codes "holder") (string_or_null current.holder)
    (put (codes "earlier") (boolean current.earlier)
    (put (codes "state") (string (name_of current.state)) members)))

-- members with what is said of a record
abbrev pub with_texts : Record → Members → Members
with_texts current members = put (codes "message") (string current.message)
    (put (codes "note") (string current.note)
    (put (codes "waits") (string current.waits)
    (put (codes "section") (string current.section)
    (put (codes "priority") (string current.priority) members))))

-- the object of the record of a source package on an architecture
abbrev pub value_of_fields : List ℕ → List ℕ → Record → Data
value_of_fields arch source current = object
    (member (codes "arch") (string arch)
    (member (codes "build") (string (build_text_of current))
    (member (codes "build_priority") (number (of_integer current.build_priority))
    (member (codes "earlier") (boolean current.earlier)
    (member (codes "holder") (string_or_null current.holder)
    (member (codes "message") (string current.message)
    (member (codes "note") (string current.note)
    (member (codes "number") (number (unsigned current.number))
    (member (codes "priority") (string current.priority)
    (member (codes "section") (string current.section)
    (member (codes "source") (string source)
    (member (codes "state") (string (name_of current.state))
    (member (codes "take") (number_or_null current.take)
    (member (codes "version") (string current.version)
    (member (codes "waits") (string current.waits) no_members)))))))))))))))

-- the object of a record with its key
abbrev pub value_of_record : KeyedRecord → Data
value_of_record row = value_of_fields row.arch row.source row.current

-- the object of a record that waits in a queue
abbrev pub value_of_waiting : KeyedRecord → Data
value_of_waiting row = object
    (member (codes "build") (string (build_text_of row.current))
    (member (codes "source") (string row.source) no_members))

-- the object of what a source package needs to be built
abbrev pub value_of_depends : List ℕ → List ℕ → Option (List ℕ) → Data
value_of_depends arch source depends = object
    (member (codes "arch") (string arch)
    (member (codes "depends") (string_or_null depends)
    (member (codes "source") (string source) no_members)))

-- the object of the numbers of records, under the names of the states
abbrev pub value_of_counts : StateCounts → Data
value_of_counts counts = object
    (member (codes "BD-Uninstallable") (number (unsigned counts.bd_uninstallable))
    (member (codes "Build-Attempted") (number (unsigned counts.build_attempted))
    (member (codes "Building") (number (unsigned counts.building))
    (member (codes "Built") (number (unsigned counts.built))
    (member (codes "Dep-Wait") (number (unsigned counts.dep_wait))
    (member (codes "Failed") (number (unsigned counts.failed))
    (member (codes "Installed") (number (unsigned counts.installed))
    (member (codes "Needs-Build") (number (unsigned counts.needs_build))
    (member (codes "Not-For-Us") (number (unsigned counts.not_for_us))
    (member (codes "Uploaded") (number (unsigned counts.uploaded)) no_members))))))))))

-- the object of the two counts of the office
abbrev pub value_of_office : ℕ → ℕ → Data
value_of_office accepted handed = object
    (member (codes "accepted") (number (unsigned accepted))
    (member (codes "handed") (number (unsigned handed)) no_members))

-- the object of an architecture with its words
abbrev pub value_of_arch : List ℕ × OsCpu → Data
value_of_arch arch = object
    (member (codes "arch") (string arch.0)
    (member (codes "cpu") (string arch.1.cpu)
    (member (codes "os") (string arch.1.os) no_members)))

-- the object of a builder with an architecture for which it was added
abbrev pub value_of_pair : Key → Data
value_of_pair pair = object
    (member (codes "arch") (string pair.1)
    (member (codes "builder") (string pair.0) no_members))

-- the object of how many records of an architecture are in each state
abbrev pub value_of_summary : ℕ → List ℕ → StateCounts → Data
value_of_summary accepted arch counts = object
    (member (codes "accepted") (number (unsigned accepted))
    (member (codes "arch") (string arch)
    (member (codes "counts") (value_of_counts counts) no_members)))
