-- The statements on the office's tables: which rows they write, take out and show.
use Rattle.std.specs.Prelude.{ℕ, List, [], ◌∷◌, pos, negsuc}
use Rattle.sqlite.specs.Collation.TheVariants.{Binary}
use Rattle.sqlite_value.specs.declared.keys.Key.{Key}
use Rattle.sqlite_value.specs.Keys.{ascending}
use Rattle.sqlite.specs.declared.types.Value.TheVariants.{Null, Int}
use Rattle.sqlite.specs.Term.{Term, lit, col, op2}
use Rattle.sqlite_sql.specs.declared.ops.BinaryOp.TheVariants.{Compare}
use Rattle.sqlite_sql.specs.declared.ops.CompareOp.TheVariants.{Eq, Ge}
use Rattle.wb_sql.specs.Queries.{TableQuery}

-- the parameter at this place, counted from 0
abbrev pub parameter : ℕ → Term
parameter at = col 0 at

-- the column at this place of the row, whose rowid is at 0
abbrev pub cell : ℕ → Term
cell at = col 1 at

-- a column equals a parameter
abbrev pub equals : ℕ → ℕ → Term
equals place at = op2 (Compare Eq Binary) (cell place) (parameter at)

-- a column is a number from 0, so it is not NULL
abbrev pub from_zero : ℕ → Term
from_zero place = op2 (Compare Ge Binary) (cell place) (lit (Int (pos 0)))

-- a column, in rising order
abbrev pub rising : ℕ → Term × Key
rising place = (cell place, ascending Binary)

-- without LIMIT
abbrev pub no_limit : Term
no_limit = lit (Int (negsuc 0))

-- without OFFSET
abbrev pub none_skipped : Term
none_skipped = lit (Int (pos 0))

-- a record, with its 16 columns as parameters; the rowid is left to the table
abbrev pub record_row : List Term
record_row =
    lit Null ∷ parameter 0 ∷ parameter 1 ∷ parameter 2 ∷ parameter 3 ∷ parameter 4 ∷ parameter 5 ∷ parameter 6 ∷ parameter 7 ∷ parameter 8 ∷ parameter 9 ∷ parameter 10 ∷ parameter 11 ∷ parameter 12
    ∷ parameter 13 ∷ parameter 14 ∷ parameter 15 ∷ []

-- the same columns as those of a record that is there: all but its key, which it has, are parameters
abbrev pub record_sets : List Term
record_sets =
    cell 1 ∷ cell 2 ∷ parameter 2 ∷ parameter 3 ∷ parameter 4 ∷ parameter 5 ∷ parameter 6 ∷ parameter 7 ∷ parameter 8 ∷ parameter 9 ∷ parameter 10 ∷ parameter 11 ∷ parameter 12 ∷ parameter 13
    ∷ parameter 14 ∷ parameter 15 ∷ []

-- the places of a record's key: its architecture and its source package
abbrev pub record_key : List ℕ
record_key = 1 ∷ 2 ∷ []

-- the columns of a record
abbrev pub record_cells : List Term
record_cells =
    cell 1 ∷ cell 2 ∷ cell 3 ∷ cell 4 ∷ cell 5 ∷ cell 6 ∷ cell 7 ∷ cell 8 ∷ cell 9 ∷ cell 10 ∷ cell 11 ∷ cell 12 ∷ cell 13 ∷ cell 14 ∷ cell 15 ∷ cell 16 ∷ []

-- the record's key is the first two parameters
abbrev pub has_record_key : List Term
has_record_key = equals 1 0 ∷ equals 2 1 ∷ []

-- the records that pass these tests, in this order
abbrev pub records_where : List Term → List (Term × Key) → Term → TableQuery
records_where tests order limit = record { tree = 5; filter = tests; project = record_cells; order = order; collations = []; limit = limit; offset = none_skipped }

-- the record of a key
abbrev pub record_of_key : TableQuery
record_of_key = records_where has_record_key [] no_limit

-- by rank and then by source package
abbrev pub queue_order : List (Term × Key)
queue_order = rising 16 ∷ rising 2 ∷ []

-- the records of one architecture in one state, in that order
abbrev pub queue_of : TableQuery
queue_of = records_where (equals 1 0 ∷ equals 3 1 ∷ []) queue_order no_limit

-- the first record of one architecture in one state, in that order
abbrev pub head_of : TableQuery
head_of = records_where (equals 1 0 ∷ equals 3 1 ∷ []) queue_order (lit (Int (pos 1)))

-- the record with a take number, which is the parameter
abbrev pub record_of_take : TableQuery
record_of_take = records_where (equals 10 0 ∷ []) [] no_limit

-- the records that a builder holds under a take number, by architecture and then by source package
abbrev pub held_by : TableQuery
held_by = records_where (equals 9 0 ∷ from_zero 10 ∷ []) (rising 1 ∷ rising 2 ∷ []) no_limit

-- the records of an architecture, by source package
abbrev pub records_of_arch : TableQuery
records_of_arch = records_where (equals 1 0 ∷ []) (rising 2 ∷ []) no_limit

-- the records of one architecture in one state, by source package
abbrev pub records_in_state : TableQuery
records_in_state = records_where (equals 1 0 ∷ equals 3 1 ∷ []) (rising 2 ∷ []) no_limit

-- the state of each record of an architecture
abbrev pub states_of_arch : TableQuery
states_of_arch = record { tree = 5; filter = equals 1 0 ∷ []; project = cell 3 ∷ []; order = []; collations = []; limit = no_limit; offset = none_skipped }

-- the source package of each record of an architecture, by name
abbrev pub names_of_arch : TableQuery
names_of_arch = record {
  tree = 5;
  filter = equals 1 0 ∷ [];
  project = cell 2 ∷ [];
  order = rising 2 ∷ [];
  collations =
      [];
  limit = no_limit;
  offset = none_skipped;
}

-- all records, by architecture and then by source package
abbrev pub all_records : TableQuery
all_records = records_where [] (rising 1 ∷ rising 2 ∷ []) no_limit

-- an architecture: its name and its two words
abbrev pub arch_row : List Term
arch_row = lit Null ∷ parameter 0 ∷ parameter 1 ∷ parameter 2 ∷ []

-- the architectures that pass these tests, in this order
abbrev pub archs_where : List Term → List (Term × Key) → TableQuery
archs_where tests order = record { tree = 1; filter = tests; project = cell 1 ∷ cell 2 ∷ cell 3 ∷ []; order = order; collations = []; limit = no_limit; offset = none_skipped }

-- the architecture's name is the parameter
abbrev pub has_arch_name : List Term
has_arch_name = equals 1 0 ∷ []

-- the architecture of a name
abbrev pub arch_of_name : TableQuery
arch_of_name = archs_where has_arch_name []

-- all architectures, by name
abbrev pub all_archs : TableQuery
all_archs = archs_where [] (rising 1 ∷ [])

-- a builder and an architecture for which it was added
abbrev pub builder_row : List Term
builder_row = lit Null ∷ parameter 0 ∷ parameter 1 ∷ []

-- the pairs of a builder and an architecture that pass these tests, in this order
abbrev pub pairs_where : List Term → List (Term × Key) → TableQuery
pairs_where tests order = record { tree = 3; filter = tests; project = cell 1 ∷ cell 2 ∷ []; order = order; collations = []; limit = no_limit; offset = none_skipped }

-- the pair of a builder and an architecture is the two parameters
abbrev pub has_pair : List Term
has_pair = equals 1 0 ∷ equals 2 1 ∷ []

-- the pair of these two names
abbrev pub pair_of_builder : TableQuery
pair_of_builder = pairs_where has_pair []

-- the pairs of one builder, by architecture
abbrev pub pairs_of_builder : TableQuery
pairs_of_builder = pairs_where (equals 1 0 ∷ []) (rising 2 ∷ [])

-- all such pairs, by builder and then by architecture
abbrev pub all_builders : TableQuery
all_builders = pairs_where [] (rising 1 ∷ rising 2 ∷ [])

-- what the columns of the office's row are set to: the id and the format stay, and the two counts are parameters
abbrev pub office_sets : List Term
office_sets = lit Null ∷ cell 2 ∷ parameter 0 ∷ parameter 1 ∷ []

-- the row of an office that has handed out and accepted nothing: its id is 1, and the format 2
abbrev pub first_office_row : List Term
first_office_row = lit (Int (pos 1)) ∷ lit Null ∷ lit (Int (pos 2)) ∷ lit (Int (pos 0)) ∷ lit (Int (pos 0)) ∷ []

-- the format and the two counts
abbrev pub office_counts : TableQuery
office_counts = record { tree = 0; filter = []; project = cell 2 ∷ cell 3 ∷ cell 4 ∷ []; order = []; collations = []; limit = no_limit; offset = none_skipped }

-- the row of the office: its id, which is the rowid, the format and the two counts
abbrev pub office_row : TableQuery
office_row = record { tree = 0; filter = []; project = cell 0 ∷ cell 2 ∷ cell 3 ∷ cell 4 ∷ []; order = []; collations = []; limit = no_limit; offset = none_skipped }

-- the place of one row of a scratch table, whose rowid it is
abbrev pub first_of_scratch : ℕ → TableQuery
first_of_scratch tree = record { tree = tree; filter = []; project = cell 0 ∷ []; order = []; collations = []; limit = lit (Int (pos 1)); offset = none_skipped }

-- one source package of a merge
abbrev pub first_source : TableQuery
first_source = first_of_scratch 9

-- one binary package of a merge
abbrev pub first_binary : TableQuery
first_binary = first_of_scratch 11
