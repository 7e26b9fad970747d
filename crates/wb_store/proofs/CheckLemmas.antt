-- The rows that an opening reads, one after another, and what the rows of a consistent office are.
use Rattle.std.proofs.Common.{◌≡◌, inl, inr, ℕ, suc, List, [], ◌∷◌, ◌++◌, length, map, Result, Ok, Err, IfOk, IfErr, IsErrAnd, Vec, refl, sym, ap, subst, ◌∙◌}
use Rattle.std.specs.List.{AllByRecursion}
use Rattle.std.specs.FinMap as finite
use Rattle.sqlite.specs.Effect.{Database}
use Rattle.sqlite.specs.Held.{Held, state}
use Rattle.sqlite.specs.Order.{Row}
use Rattle.sqlite_trees.specs.declared.store.Store.{Ghosts}
use Rattle.wb_states.specs.declared.arch.OsCpu.{OsCpu}
use Rattle.wb_states.specs.declared.store_fault.StoreFault.{StoreFault}
use Rattle.wb_states.specs.declared.store_fault.StoreFault.TheVariants.{Memory}
use Rattle.wb_states.specs.declared.store_fault.Table.{Table}
use Rattle.wb_states.specs.declared.store_fault.Table.TheVariants.{Arch}
use Rattle.wb_states.specs.Machine.{Machine, IsConsistent}
use Rattle.wb_rows.specs.Cells.{arch_cells}
use Rattle.wb_rows.specs.Reading.{IsNoArch}
use Rattle.wb_store.specs.Faults.{IsBadRow}
use Rattle.wb_store.specs.Lookups.{AreRowsOf, ReadsTable}
use Rattle.wb_store.specs.Checks.{AreBadRows, HoldsArchs, IsFirstBad, IsFormedArch, IsRowOf, Passes, PassesWith, Tests}
use Rattle.wb_store.specs.Stands.{HasArchsOf}
use Rattle.wb_store.specs.Queries as ask
use Rattle.wb_store.specs.Queries.{AnswersTo, OfficeQuery, table_asked}
use Rattle.wb_store.proofs.ArchLemmas.{archs_found, archs_formed}
use Rattle.wb_store.proofs.FormLemmas.{formed_arch_readable}
use Rattle.wb_store.proofs.ReadLemmas.{AsksIn, answered_in, crash_in, fails_in, one_of_rows, plain_in, row_read}

-- a call that hands on the fault of another one
pub faulted : {T E : Type 0} {e : E} (r : Result T E) → IsErrAnd r (λ d. d ≡ e) → r ≡ Err e
faulted (Ok x) is = absurd is
faulted (Err d) is = ap Err is

module _ {X : Type 0} (columns : X → Row) (Fits : X → Type 0) where
  fit_append : (xs : List X) (x : X) → AllByRecursion Fits xs → Fits x → AllByRecursion Fits (xs ++ x ∷ [])
  fit_append [] x all fit = (fit, tt)
  fit_append (y ∷ ys) x all fit = (all.0, fit_append ys x all.1 fit)

  length_of : (xs : List X) → length (map columns xs) ≡ length xs
  length_of [] = refl
  length_of (x ∷ xs) = ap suc (length_of xs)

  -- one more row fits
  pub row_holds : (made after : List X) (new : X) (row : Row) (rest left all : List Row) → (map columns made ++ left ≡ all) × AllByRecursion Fits made → left ≡ row ∷ rest → after ≡ made ++ new ∷ []
      → Fits new × (row ≡ columns new) → (map columns after ++ rest ≡ all) × AllByRecursion Fits after
  row_holds made after new row rest left all kept next pushed is =
      (row_read columns made after new row rest left all kept.0 next pushed is.1, subst (AllByRecursion Fits) (sym pushed) (fit_append made new kept.1 is.0))

  -- the next row is the first that does not fit
  pub row_is_bad : (table : Table) (made : List X) (row : Row) (rest left all : List Row) (place : ℕ) (fault : StoreFault) → (map columns made ++ left ≡ all) × AllByRecursion Fits made → left ≡ row ∷ rest
      → place ≡ suc (length made) → IsBadRow table place (IsRowOf columns Fits row) fault → AreBadRows table columns Fits all fault
  row_is_bad table made row rest left all place fault kept next counted (inl memory) = inl memory
  row_is_bad table made row rest left all place fault kept next counted (inr damaged) = inr (
    place,
    damaged.0,
    record {
      before = map columns made;
      row = row;
      rest = rest;
      all = sym kept.0 ∙ ap (λ l. map columns made ++ l) next;
      good = (made, kept.1, refl);
      bad = damaged.1;
      counted = counted ∙ ap suc (sym (length_of made));
    },
  )

  -- where all rows fit none is bad
  pub none_is_bad : (rows : List Row) (place : ℕ) → AreRowsOf columns Fits rows → ¬ IsFirstBad columns Fits rows place
  none_is_bad rows place fits bad = bad.bad (one_of_rows columns Fits bad.before bad.row bad.rest (subst (AreRowsOf columns Fits) bad.all fits))

  -- where all rows fit only memory can run out
  pub only_memory : (table : Table) (rows : List Row) (fault : StoreFault) → AreRowsOf columns Fits rows → AreBadRows table columns Fits rows fault → fault ≡ Memory
  only_memory table rows fault fits (inl memory) = memory
  only_memory table rows fault fits (inr (place, is, bad)) = absurd (none_is_bad rows place fits bad)

-- ---- the test of a table

module _ {S : Type 0} {g : Ghosts S} {text : List ℕ} {query : OfficeQuery} (asks : AsksIn text [] query) {old new : Held S} where
  -- a test whose rows are had
  pub tests_rows : {A X : Type 0} {rows : Vec Row X} {Good : List Row → A → Type 0} {Bad : List Row → StoreFault → Type 0} (r : Result A StoreFault) → ReadsTable g (table_asked query) text [] old new (Ok rows)
      → IfOk r (Good rows.items) → IfErr r (Bad rows.items) → Tests g query Good Bad old new r
  tests_rows {rows} (Ok x) read good bad = record {
    value = λ clean there. (rows.items, answered_in asks (state g old) there (read.value clean), good);
    same = λ clean there. read.same clean (plain_in asks there);
    err = λ clean there. tt;
    survives = crash_in asks g old new read.survives;
  }
  tests_rows {rows} (Err fault) read good bad = record {
    value = λ clean there. tt;
    same = λ clean there. tt;
    err = λ clean there. inr (read.same clean (plain_in asks there), (rows.items, answered_in asks (state g old) there (read.value clean), bad));
    survives = crash_in asks g old new read.survives;
  }

  -- a test whose rows are not had
  pub tests_nothing : {A X : Type 0} {fault : StoreFault} {Good : List Row → A → Type 0} {Bad : List Row → StoreFault → Type 0} {r : Result A StoreFault} → ReadsTable {X = X} g (table_asked query) text [] old new (Err fault)
      → r ≡ Err fault → Tests g query Good Bad old new r
  tests_nothing {A} {Good = Good} {Bad = Bad} read is = subst (λ (r : Result A StoreFault). Tests g query Good Bad old new r) (sym is) (record {
    value = λ clean there. tt;
    same = λ clean there. tt;
    err = λ clean there. inl (fails_in asks (read.err clean));
    survives = crash_in asks g old new read.survives;
  })

-- what a test says of an office
pub passes_from : {S A : Type 0} {g : Ghosts S} {query : OfficeQuery} {old new : Held S} {Good : List Row → A → Type 0} {Bad : List Row → StoreFault → Type 0} {Has : Machine → Database → Type 0} {Given : Machine → Type 0}
    {Outcome : Machine → A → Type 0} (r : Result A StoreFault) → Tests g query Good Bad old new r
    → ((machine : Machine) → Has machine (state g old).now → (rows : List Row) → AnswersTo query (state g old).now rows → (x : A) → Good rows x → Outcome machine x)
    → ((machine : Machine) → IsConsistent machine → Has machine (state g old).now → Given machine → (rows : List Row) → AnswersTo query (state g old).now rows
    → (fault : StoreFault) → Bad rows fault → fault ≡ Memory)
    → PassesWith g query Has Given Outcome old new r
passes_from (Ok x) tests finds fits = record {
  value = λ clean there machine has. let found = tests.value clean there in finds machine has found.0 found.1 x found.2;
  err = λ clean there. tt;
}
passes_from (Err fault) tests finds fits = record {
  value = λ clean there. tt;
  err = λ clean there machine sound has given. elim (tests.err clean there) [
    | inl failed ↦ inr failed
    | inr (kept, (rows, answers, bad)) ↦ inl (fits machine sound has given rows answers fault bad)
  ];
}

-- ---- architectures

-- what the test of the architectures says of an office
pub archs_pass : {S : Type 0} {g : Ghosts S} {old new : Held S} {X : Type 0} (r : Result (Vec (List ℕ × OsCpu) X) StoreFault)
    → Tests g ask.Archs (λ rows archs. HoldsArchs rows archs.items) (AreBadRows Arch arch_cells IsFormedArch) old new r
    → Passes g ask.Archs HasArchsOf (λ machine archs. archs.items ≡ finite.entries machine.archs) old new r
archs_pass {g} {old} r tests =
    passes_from r tests (λ machine has rows a made holds. archs_found machine (state g old).now has rows a made.items holds.same)
    (λ machine sound has given rows a fault bad. only_memory arch_cells IsFormedArch Arch rows fault (archs_formed machine (state g old).now has rows a sound) bad)

-- a row that is that of no architecture is that of none with its forms
pub no_formed_arch : (row : Row) → IsNoArch row → ¬ IsRowOf arch_cells IsFormedArch row
no_formed_arch row none (arch, fit, is) = let reads = formed_arch_readable arch fit in none arch reads.name reads.os reads.cpu is
