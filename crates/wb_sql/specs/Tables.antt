-- The tables of the office. Trees are numbered in the order in which they are made.
use Rattle.std.specs.Prelude.{true, false, [], ◌∷◌, ◌++◌, Bool, None, Some, codes, List, ℕ, pos}
use Rattle.sqlite.specs.Collation.TheVariants.{Binary}
use Rattle.sqlite.specs.declared.types.Value.TheVariants.{Null, Int}
use Rattle.sqlite.specs.Table.{Table}
use Rattle.sqlite.specs.Schema.{Schema}
use Rattle.sqlite_schema.specs.declared.schema.Column.{Column}
use Rattle.sqlite_schema.specs.declared.schema.Reference.{Reference}
use Rattle.sqlite_schema.specs.declared.schema.Index.{Index}
use Rattle.sqlite_schema.specs.declared.schema.Action.TheVariants.{NoAction}
use Rattle.sqlite.specs.Kind.{Kind}
use Rattle.sqlite.specs.Kind.TheVariants.{Integer, Text}
use Rattle.sqlite.specs.Term.{lit, col, op2}
use Rattle.sqlite_sql.specs.declared.ops.BinaryOp.TheVariants.{Compare}
use Rattle.sqlite_sql.specs.declared.ops.CompareOp.TheVariants.{Eq}
use Rattle.sqlite_value.specs.Keys.{plain}
use Rattle.sqlite_catalog.specs.Listing.{automatic}

-- a column of a STRICT table, without a default
abbrev pub typed : Kind → Bool → List ℕ → Column
typed kind not_null name = record { name = name; kind = kind; is_strict = true; not_null = not_null; default = Null; collation = Binary }

-- a column of texts, never NULL
abbrev pub text : List ℕ → Column
text = typed Text true

-- a column of whole numbers, never NULL
abbrev pub number : List ℕ → Column
number = typed Integer true

-- a table with no key of its own, no check and no reference
abbrev pub bare : List ℕ → ℕ → List Column → Table
bare name tree columns = record {
  name = name;
  tree = tree;
  columns = columns;
  key = None;
  primary = [];
  uniques = [];
  orders = [];
  checks = [];
  references = [];
  computed = [];
  stamps = record { places = []; terms = []; formats = [] };
  is_counted = false;
}

-- a column that refers to an architecture by its name
abbrev pub names_arch : ℕ → Reference
names_arch place = record { columns = place ∷ []; parent = codes "arch"; parent_columns = codes "name" ∷ []; on_delete = NoAction; on_update = NoAction; is_deferred = false }

-- the office's table, whose one row has the id 1
abbrev pub office : Table
office = record (bare (codes "office") 0 (typed Integer false (codes "id") ∷ number (codes "format") ∷ number (codes "handed") ∷ number (codes "accepted") ∷ [])) {
  key = Some 0;
  primary = 0 ∷ [];
  checks = op2 (Compare Eq Binary) (col 1 0) (lit (Int (pos 1))) ∷ [];
}

-- the architectures, by name
abbrev pub arch : Table
arch = record (bare (codes "arch") 1 (text (codes "name") ∷ text (codes "os") ∷ text (codes "cpu") ∷ [])) {
  primary = 1 ∷ [];
  uniques = (1 ∷ []) ∷ [];
  orders = plain ∷ [];
}

-- the pairs of a builder and an architecture for which it was added
abbrev pub builder : Table
builder = record (bare (codes "builder") 3 (text (codes "name") ∷ text (codes "arch") ∷ [])) {
  primary = 1 ∷ 2 ∷ [];
  uniques = (1 ∷ 2 ∷ []) ∷ [];
  orders = plain ∷ [];
  references = names_arch 2 ∷ [];
}

-- the records, by architecture and source package
abbrev pub source_record : Table
source_record = record (bare (codes "source_record") 5
    (text (codes "arch") ∷ text (codes "source") ∷ number (codes "state") ∷ text (codes "version") ∷ text (codes "priority") ∷ text (codes "section") ∷ number (codes "earlier")
    ∷ number (codes "number") ∷ typed Text false (codes "holder") ∷ typed Integer false (codes "take") ∷ text (codes "waits") ∷ typed Text false (codes "depends") ∷ text (codes "note")
    ∷ text (codes "message") ∷ number (codes "build_priority") ∷ number (codes "rank") ∷ [])) {
      primary = 1 ∷ 2 ∷ [];
      uniques = (1 ∷ 2 ∷ []) ∷ [];
      orders = plain ∷ [];
      references = names_arch 1 ∷ [];
    }

-- the source packages of a merge, by their place in the list
abbrev pub scratch_source : Table
scratch_source = record (bare (codes "scratch_source") 9
    (typed Integer false (codes "seq") ∷ text (codes "name") ∷ text (codes "version") ∷ text (codes "architecture") ∷ number (codes "extra") ∷ text (codes "priority") ∷ text (codes "section")
    ∷ text (codes "depends") ∷ text (codes "depends_arch") ∷ [])) {
      key = Some 0;
      primary = 0 ∷ [];
    }

-- the binary packages of a merge, by their place in the list
abbrev pub scratch_binary : Table
scratch_binary = record (bare (codes "scratch_binary") 11
    (typed Integer false (codes "seq") ∷ text (codes "name") ∷ text (codes "version") ∷ text (codes "source") ∷ text (codes "source_version") ∷ number (codes "number") ∷ number (codes "own") ∷ [])) {
      key = Some 0;
      primary = 0 ∷ [];
    }

-- an index that lets a key come twice
abbrev pub index_on : List ℕ → ℕ → ℕ → List ℕ → Index
index_on name tree table columns = record { name = name; tree = tree; table = table; columns = columns; order = plain; is_unique = false }

-- the records by architecture, state, rank and source package
abbrev pub record_order : Index
record_order = index_on (codes "record_order") 7 5 (1 ∷ 3 ∷ 16 ∷ 2 ∷ [])

-- the records by take number
abbrev pub record_take : Index
record_take = index_on (codes "record_take") 8 5 (10 ∷ [])

-- the source packages of a merge by name
abbrev pub source_name : Index
source_name = index_on (codes "source_name") 10 9 (2 ∷ 0 ∷ [])

-- the binary packages of a merge by source package
abbrev pub binary_source : Index
binary_source = index_on (codes "binary_source") 12 11 (4 ∷ 0 ∷ [])

-- the binary packages of a merge by name
abbrev pub binary_name : Index
binary_name = index_on (codes "binary_name") 13 11 (2 ∷ 0 ∷ [])

-- the records of the first schema, by architecture and source package, and by take number
abbrev pub source_state : Table
source_state = record (bare (codes "source_state") 5
    (text (codes "arch") ∷ text (codes "source") ∷ number (codes "state") ∷ text (codes "version") ∷ text (codes "priority") ∷ text (codes "section") ∷ number (codes "earlier")
    ∷ number (codes "number") ∷ typed Text false (codes "holder") ∷ typed Integer false (codes "take") ∷ text (codes "waits") ∷ typed Text false (codes "depends") ∷ text (codes "note")
    ∷ text (codes "message") ∷ number (codes "rank") ∷ [])) {
      primary = 1 ∷ 2 ∷ [];
      uniques = (10 ∷ []) ∷ (1 ∷ 2 ∷ []) ∷ [];
      orders = plain ∷ plain ∷ [];
      references = names_arch 1 ∷ [];
    }

-- these records by architecture, state, rank and source package
abbrev pub state_order : Index
state_order = index_on (codes "queue_order") 8 5 (1 ∷ 3 ∷ 15 ∷ 2 ∷ [])

-- the schema of these tables and indexes, without a view
abbrev pub schema_of : List Table → List Index → Schema
schema_of tables indexes = record { tables = tables; indexes = indexes; views = [] }

-- the indexes of the keys of architectures, builders and records
abbrev pub keys : List Index
keys = automatic arch 0 (1 ∷ []) 2 ∷ automatic builder 0 (1 ∷ 2 ∷ []) 4 ∷ automatic source_record 0 (1 ∷ 2 ∷ []) 6 ∷ []

-- the tables without the scratch tables
abbrev pub records : List Table
records = office ∷ arch ∷ builder ∷ source_record ∷ []

-- the schema of the office's tables, with no other table, index or view
abbrev pub office_schema : Schema
office_schema = schema_of (records ++ scratch_source ∷ scratch_binary ∷ []) (keys ++ record_order ∷ record_take ∷ source_name ∷ binary_source ∷ binary_name ∷ [])
