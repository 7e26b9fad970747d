-- What a query for the format says of the rows of a table `office`, and what the rows of an office say of its format.
use Rattle.std.proofs.Common.{◌≡◌, ◌<◌, ◌≤◌, ◌⊎◌, inl, inr, ℕ, zero, suc, List, [], ◌∷◌, map, Ok, Err, Vec, IsPermutation, refl, sym, ap, subst, ◌∙◌, arith}
use Rattle.std.proofs.lemmas.List.Sorted.{IsPermutation-sym}
use Rattle.sqlite_trees.specs.declared.store.Store.{Ghosts}
use Rattle.sqlite.specs.Effect.{Database}
use Rattle.sqlite.specs.Held.{Held, state}
use Rattle.sqlite.specs.Order.{Row, column}
use Rattle.sqlite.specs.Query.{Output}
use Rattle.sqlite.specs.State.{FailsToQuery}
use Rattle.sqlite.specs.Term.{Term, eval_all}
use Rattle.sqlite.proofs.Callers.{one_permutation}
use Rattle.sqlite.proofs.StateLemmas.{survives_weaker}
use Rattle.wb_sql.specs.Queries.{TableQuery, Answers, outputs}
use Rattle.wb_sql.specs.Among.{rows_in}
use Rattle.wb_sql.specs.Format.{AsksFormat, HasFormatColumn, format_place, formats_in}
use Rattle.wb_sql.specs.OfficeStatements.{cell, no_limit, none_skipped}
use Rattle.wb_sql.specs.Tables as tables
use Rattle.wb_sql.proofs.AnswerLemmas.{whole_answer}
use Rattle.wb_sql.proofs.FormatLemmas.{format_in_office, format_of_office, same_format}
use Rattle.wb_states.specs.declared.store_fault.StoreFault.{StoreFault}
use Rattle.wb_states.specs.declared.store_fault.Table.TheVariants.{Office}
use Rattle.wb_rows.specs.Cells.{number}
use Rattle.wb_store.specs.Checks.{AreOfFormat}
use Rattle.wb_store.specs.Formats.{IsFaultOfFormat, IsFaultOfFormats, ShowsFormat, TellsOther}
use Rattle.wb_store.specs.Lookups.{ReadsTable}
use Rattle.wb_store.specs.Queries as ask
use Rattle.wb_store.specs.Queries.{AnswersTo, HasAsked}

-- ---- a query for all rows of a table

-- a query for these columns of all rows
abbrev all_of : ℕ → List Term → TableQuery
all_of tree shown = record { tree = tree; filter = []; project = shown; order = []; collations = []; limit = no_limit; offset = none_skipped }

-- what it shows of a row
abbrev shown_of : List Term → Row → Row
shown_of terms row = eval_all terms ([] ∷ row ∷ [])

module _ (tree : ℕ) (terms : List Term) (rows answer : List Row) (a : Answers (all_of tree terms) [] rows answer) where
  -- of a table with one row the answer is what is shown of it
  one_answer : (row : Row) → rows ≡ row ∷ [] → answer ≡ shown_of terms row ∷ []
  one_answer row is =
      let one : Output = ([], shown_of terms row) in
      let all : outputs (all_of tree terms) [] rows ≡ one ∷ [] = ap (outputs (all_of tree terms) []) is in
      let ordered : a.ordered ≡ one ∷ [] = one_permutation one a.ordered (subst (λ l. IsPermutation l a.ordered) all a.same) in
      whole_answer (all_of tree terms) [] rows answer a refl refl ∙ ap (map (λ (o : Output). o.1)) ordered

  -- the rows are one, of which this is shown
  abbrev IsOneRow : Row → Type 0
  IsOneRow shown = (row : Row) × (rows ≡ row ∷ []) × (shown ≡ shown_of terms row)

  -- and an answer of one row is of a table with one
  one_row : (shown : Row) → answer ≡ shown ∷ [] → IsOneRow shown
  one_row shown is = by_order a.ordered (sym (whole_answer (all_of tree terms) [] rows answer a refl refl) ∙ is) a.same
    where
      of_rows : (all : List Row) (o : Output) → outputs (all_of tree terms) [] all ≡ o ∷ [] → (row : Row) × (all ≡ row ∷ []) × (o.1 ≡ shown_of terms row)
      of_rows [] o e = absurd (cc)
      of_rows (row ∷ []) o e =
          let one : Output = ([], shown_of terms row) in
          let same : one ≡ o = cc in
          (row, refl, ap (λ (p : Output). p.1) (sym same))
      of_rows (row ∷ next ∷ more) o e = absurd (cc)

      by_order : (ordered : List Output) → map (λ (o : Output). o.1) ordered ≡ shown ∷ [] → IsPermutation (outputs (all_of tree terms) [] rows) ordered → IsOneRow shown
      by_order [] e same = absurd (cc)
      by_order (o ∷ []) e same =
          let it = of_rows rows o (one_permutation o _ (IsPermutation-sym _ _ same)) in
          let first : shown ≡ o.1 = cc in
          (it.0, it.1, first ∙ it.2)
      by_order (o ∷ p ∷ more) e same = absurd (cc)

-- ---- the query for the format

module _ (db : Database) (has : HasFormatColumn db.schema) (rows : List Row) (a : Answers (formats_in has) [] (db.trees has.table.tree) rows) where
  -- a database that shows a format answers it
  answers_format : (format : ℕ) → ShowsFormat db format → rows ≡ (number format ∷ []) ∷ []
  answers_format format shows =
      let same = same_format db.schema has shows.has in
      let alone : db.trees has.table.tree ≡ shows.row ∷ [] = ap (λ t. db.trees t.tree) same.0 ∙ shows.alone in
      let there : column shows.row (format_place has) ≡ number format = ap (column shows.row) same.1 ∙ shows.is in
      one_answer has.table.tree (cell (format_place has) ∷ []) (db.trees has.table.tree) rows a shows.row alone ∙ ap (λ v. (v ∷ []) ∷ []) there

  -- and shows the one that it answers
  shows_format : (format : ℕ) → rows ≡ (number format ∷ []) ∷ [] → ShowsFormat db format
  shows_format format is =
      let one = one_row has.table.tree (cell (format_place has) ∷ []) (db.trees has.table.tree) rows a (number format ∷ []) is in
      record { has = has; row = one.0; alone = one.1; is = ap (λ r. column r 0) (sym one.2) }

  -- the fault of the formats that are answered is that of the database
  fault_told : (fault : StoreFault) → IsFaultOfFormats rows fault → IsFaultOfFormat db fault
  fault_told fault (inl newer) = inl (newer.0, (newer.1.0, newer.1.1, shows_format newer.1.0 newer.1.2))
  fault_told fault (inr none) = inr (none.0, λ format shows. none.1 format (answers_format format shows))

module _ {S : Type 0} {g : Ghosts S} {text : List ℕ} {params : Row} (asks : AsksFormat text) (given : params ≡ []) {old new : Held S} (has : HasFormatColumn old.schema) where
  -- the formats were read
  pub told_by_rows : {X : Type 0} {rows : Vec Row X} (fault : StoreFault) → ReadsTable g Office text params old new (Ok rows) → IsFaultOfFormats rows.items fault → TellsOther g old new fault
  told_by_rows {rows = rows} fault read of =
      let asked = asks old.schema has in
      record {
        why = λ clean.
            let answers : Answers (formats_in has) [] ((state g old).now.trees has.table.tree) rows.items =
            subst (λ p. Answers (formats_in has) p ((state g old).now.trees has.table.tree) rows.items) given (read.value clean (formats_in has) 0 asked) in
            inl (has, inr (read.same clean asked.means.plain, fault_told (state g old).now has rows.items answers fault of));
        unread = λ none. absurd (none has);
        survives = survives_weaker (state g old) (state g new) _ _ (λ clean db unplain. unplain asked.means.plain) read.survives;
      }

  -- they were not
  pub told_by_failure : {X : Type 0} (fault : StoreFault) → ReadsTable {X = X} g Office text params old new (Err fault) → TellsOther g old new fault
  told_by_failure fault read =
      let asked = asks old.schema has in
      record {
        why = λ clean.
            let failed = read.err clean in
            inl (
              has,
              inl (record {
                error = failed.0;
                sql = text;
                text = asks;
                failed = subst (λ p. FailsToQuery text p (state g old) (state g new) failed.0) given failed.1;
                fault_is = failed.3;
                left = failed.2;
              }),
            );
        unread = λ none. absurd (none has);
        survives = survives_weaker (state g old) (state g new) _ _ (λ clean db unplain. unplain asked.means.plain) read.survives;
      }

-- ---- the row of an office

module _ (db : Database) (office : HasAsked ask.Office db.schema) (rows : List Row) (a : AnswersTo ask.Office db rows) where
  abbrev cells : List Term
  cells = cell 2 ∷ cell 3 ∷ cell 4 ∷ []

  -- an office's row has the format that the database shows
  pub counts_of_format : (format : ℕ) → ShowsFormat db format → AreOfFormat format rows
  counts_of_format format shows =
      let same = format_in_office db.schema office shows.has in
      let alone : rows_in db tables.office ≡ shows.row ∷ [] = ap (λ t. db.trees t.tree) (sym same.0) ∙ shows.alone in
      let there : column shows.row 2 ≡ number format = ap (column shows.row) (sym same.1) ∙ shows.is in
      (shown_of cells shows.row, (column shows.row 3, column shows.row 4, ap (λ v. v ∷ column shows.row 3 ∷ column shows.row 4 ∷ []) there), one_answer 0 cells (rows_in db tables.office) rows a shows.row alone)

  -- and the database shows that of the office's row
  pub format_of_counts : (format : ℕ) → AreOfFormat format rows → ShowsFormat db format
  format_of_counts format of =
      let one = one_row 0 cells (rows_in db tables.office) rows a of.0 of.2 in
      let has : HasFormatColumn db.schema = format_of_office db.schema office in
      let same = format_in_office db.schema office has in
      record {
        has = has;
        row = one.0;
        alone = ap (λ t. db.trees t.tree) same.0 ∙ one.1;
        is = ap (column one.0) same.1 ∙ ap (λ r. column r 0) (sym one.2) ∙ ap (λ r. column r 0) of.1.2;
      }

-- ---- numbers

-- a number up to 2 is below 2, or 2
pub up_to_two : (n : ℕ) → n ≤ 2 → (n < 2) ⊎ (n ≡ 2)
up_to_two zero most = inl (omega arith)
up_to_two (suc zero) most = inl (omega arith)
up_to_two (suc (suc zero)) most = inr (omega arith)
up_to_two (suc (suc (suc n))) most = absurd (omega arith)
