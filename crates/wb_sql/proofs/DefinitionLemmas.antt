-- What CREATE TABLE and CREATE INDEX do.
use Rattle.std.proofs.Common.{◌≡◌, ℕ, false, List, [], None, Ok, Err, Result, refl, sym, ap, subst, ◌∙◌}
use Rattle.sqlite.specs.Schema.{Schema}
use Rattle.sqlite.specs.Table.{Table}
use Rattle.sqlite_schema.specs.declared.schema.Index.{Index}
use Rattle.sqlite.specs.Command.TheVariants.{CreateTable, CreateIndex}
use Rattle.sqlite_resolve.specs.declared.compiled.Compiled.{Compiled}
use Rattle.sqlite_resolve.specs.declared.error.CompileError.{CompileError}
use Rattle.sqlite.specs.Change.{created, indexed, next_tree, KeepsRows}
use Rattle.sqlite.specs.Effect.{Database}
use Rattle.sqlite.specs.Listing.{understood}
use Rattle.sqlite.specs.Does.{Tally, AtPlace, Defines, MakesIndex, lacks_sequence}
use Rattle.sqlite.specs.State.{State, Writes, mode_of}
use Rattle.sqlite.proofs.Callers.{runs_as, statement_of}
use Rattle.wb_sql.specs.Calls.{RanInside}
use Rattle.wb_sql.specs.Statements.{statement_in, IsWriting, changes}
use Rattle.wb_sql.specs.Definitions.{DefinesTable, DefinesIndex, CreatesTable, CreatesIndex}
use Rattle.wb_sql.proofs.ReadingLemmas.{means_as}
use Rattle.wb_sql.proofs.WriteLemmas.{went, same_value, shown_inside}

same_text : (sql : List ℕ) (r : Result Compiled CompileError) → statement_of sql r ≡ statement_in sql r
same_text sql (Ok c) = refl
same_text sql (Err e) = refl

module _ (sql : List ℕ) (old new : State) (ran : RanInside sql [] old new) where
  abbrev schema : Schema
  schema = old.now.schema

  -- CREATE TABLE, in a transaction
  pub creates_table : CreatesTable sql old new
  creates_table table text =
      let wrote = runs_as sql [] old new schema refl CreateTable (means_as schema sql CreateTable text.means) text.means.plain ran.1.0 ran.1.1 in
      let w = subst (λ t. Writes old new None CreateTable t [] ran.1.0) (same_text sql (understood schema sql) ∙ text.alone) wrote in
      let all = went w.changed in
      let first = went all.1 in
      let made = first.1 in
      let both : Ok made.table ≡ Ok table = sym made.defined ∙ text.defines in
      let same : made.table ≡ table = same_value both in
      let schema_is : first.0.schema ≡ created schema table = made.is ∙ ap (created schema) same in
      let plain : lacks_sequence first.0.schema ≡ false = ap lacks_sequence schema_is ∙ text.uncounted in
      let now : new.now ≡ first.0 = ap (λ (p : Tally × Database). p.1) (same_value all.2) ∙ same_value (rw plain at first.2) in (
        record {
          schema_is = ap (λ (d : Database). d.schema) now ∙ schema_is;
          rows = subst (λ (d : Database). KeepsRows schema.tables old.now.trees d.trees) (sym now) made.others;
          shown = shown_inside old new None CreateTable sql [] ran.1.0 ran.0 w;
          marks = w.marks;
        },
        ap (λ (d : Database). d.trees (next_tree schema)) now ∙ made.empty,
      )

  -- CREATE INDEX, in a transaction
  pub creates_index : CreatesIndex sql old new
  creates_index table index text =
      let wrote = runs_as sql [] old new schema refl (CreateIndex text.at) (means_as schema sql (CreateIndex text.at) text.means) text.means.plain ran.1.0 ran.1.1 in
      let w = subst (λ t. Writes old new None (CreateIndex text.at) t [] ran.1.0) (same_text sql (understood schema sql) ∙ text.alone) wrote in
      let at_place = subst (λ o. AtPlace (λ t. Defines (mode_of old) (MakesIndex sql old.now t)) o (Ok (w.tally, new.now))) text.listed w.changed in
      let all = went at_place in
      let made = all.1 in
      let both : Ok made.index ≡ Ok index = sym made.defined ∙ text.defines in
      let same : made.index ≡ index = same_value both in
      let now : new.now ≡ all.0 = ap (λ (p : Tally × Database). p.1) (same_value all.2) in
      record {
        schema_is = ap (λ (d : Database). d.schema) now ∙ made.is ∙ ap (indexed schema table) same;
        rows = subst (λ (d : Database). KeepsRows schema.tables old.now.trees d.trees) (sym now) made.rows;
        shown = shown_inside old new None (CreateIndex text.at) sql [] ran.1.0 ran.0 w;
        marks = w.marks;
      }

pub defines_table_writes : (over : Schema) (sql : List ℕ) (table : Table) → DefinesTable over sql table → IsWriting over sql
defines_table_writes over sql table text = ap changes text.means.is

pub defines_index_writes : (over : Schema) (sql : List ℕ) (table : Table) (index : Index) → DefinesIndex over sql table index → IsWriting over sql
defines_index_writes over sql table index text = ap changes text.means.is
