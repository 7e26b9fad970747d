-- What a text means as one SQL statement over a schema.
use Rattle.std.specs.Prelude.{◌≡◌, ℕ, ◌≤◌, Bool, true, false, List, [], length, Result, Ok, Err, IsTrue}
use Rattle.sqlite.specs.Schema.{Schema}
use Rattle.sqlite.specs.Command.{Command}
use Rattle.sqlite.specs.Command.TheVariants.{Insert, InsertOr, Update, Delete, CreateTable, CreateIndex, Nothing}
use Rattle.sqlite_resolve.specs.declared.compiled.Compiled.{Compiled}
use Rattle.sqlite_resolve.specs.declared.error.CompileError.{CompileError}
use Rattle.sqlite.specs.Given.{IsPlain}
use Rattle.sqlite.specs.State.{text_of}
use Rattle.sqlite.specs.Listing.{understood}

-- the command of a text that was understood, and none of a text that was refused
abbrev pub command_in : Result Compiled CompileError → Command
command_in (Ok c) = c.command
command_in (Err e) = Nothing

-- the number of parameters of a text that was understood
abbrev pub parameters_in : Result Compiled CompileError → ℕ
parameters_in (Ok c) = length c.names
parameters_in (Err e) = 0

-- a text that was understood has nothing after its statement
abbrev pub IsWhole : List ℕ → Result Compiled CompileError → Type 0
IsWhole sql (Ok c) = length sql ≤ c.tail
IsWhole sql (Err e) = ⊥

-- over this schema the text is one statement with this meaning and so many parameters, and nothing else, without RETURNING and without the time
pub record Means (schema : Schema) (sql : List ℕ) (command : Command) (count : ℕ) : Type 0 where
  pub is : command_in (understood schema sql) ≡ command
  pub plain : IsPlain (understood schema sql)
  pub whole : IsWhole sql (understood schema sql)
  pub counted : parameters_in (understood schema sql) ≡ count

-- it writes rows, or makes a table or an index
abbrev pub changes : Command → Bool
changes (Insert at from) = true
changes (InsertOr at way from clauses) = true
changes (Update at query) = true
changes (Delete at query) = true
changes CreateTable = true
changes (CreateIndex at) = true
changes _ = false

-- over this schema the text is one statement that writes
abbrev pub IsWriting : Schema → List ℕ → Type 0
IsWriting schema sql = IsTrue (changes (command_in (understood schema sql)))

-- the text of the statement alone
abbrev pub statement_in : List ℕ → Result Compiled CompileError → List ℕ
statement_in sql (Ok c) = text_of sql c
statement_in sql (Err e) = []
