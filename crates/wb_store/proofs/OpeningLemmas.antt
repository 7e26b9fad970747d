-- What tests of the office's tables, one after another, promise together, and what they leave of a settled connection.
use Rattle.std.proofs.Common.{◌≡◌, inl, inr, true, false, ℕ, List, [], ◌∷◌, Result, Ok, Err, Vec, refl, sym, ap, subst}
use Rattle.std.specs.Bool.{⊤}
use Rattle.std.specs.FinMap as finite
use Rattle.std.proofs.lemmas.Bool.{both_ways}
use Rattle.sqlite_trees.specs.declared.store.Store.{Ghosts}
use Rattle.sqlite.specs.Effect.{Database}
use Rattle.sqlite.specs.Held.{Held, state}
use Rattle.sqlite.specs.Order.{Row}
use Rattle.sqlite.specs.Schema.{Schema}
use Rattle.sqlite.specs.State.{State, HasCleanDisk, Survives}
use Rattle.sqlite.proofs.StateLemmas.{survives_then, survives_weaker}
use Rattle.wb_sql.specs.Transactions.{IsKeptOrUndone}
use Rattle.wb_sql.specs.Among.{HasOffice, HasStates, rows_in}
use Rattle.wb_sql.specs.Tables.{scratch_binary, scratch_source}
use Rattle.wb_states.specs.declared.arch.OsCpu.{OsCpu}
use Rattle.wb_states.specs.declared.counts.Counts.{Counts}
use Rattle.wb_states.specs.declared.store_fault.StoreFault.{StoreFault}
use Rattle.wb_states.specs.declared.store_fault.StoreFault.TheVariants.{Damaged}
use Rattle.wb_states.specs.declared.store_fault.Table.TheVariants.{Builder}
use Rattle.wb_states.specs.Machine.{Key, Machine, builder_pairs}
use Rattle.wb_rows.specs.Cells.{builder_cells}
use Rattle.wb_store.specs.Checks.{AreBadRecords, AreBadRows, AreKept, FailsToTest, HasGoodRecords, HoldsBuilders, HoldsRecords, IsFormedBuilder, PassesWith, ShowsGood, Tests}
use Rattle.deb_text.specs.Lists.{is_nonempty}
use Rattle.wb_store.specs.Scratch.{TestsForRows, has_rows}
use Rattle.wb_store.specs.Stands.{HasArchsOf, HasBuildersOf, HasCountsOf, HasIn, HasRecordsOf, StandsFor, StandsIn}
use Rattle.wb_store.specs.declared.format.Format.{Format}
use Rattle.wb_store.specs.declared.format.Format.TheVariants.{One, Two}
use Rattle.wb_store.specs.Schemas.{AreKeptIn, query_of_records}
use Rattle.wb_store.specs.Queries as ask
use Rattle.wb_store.specs.Queries.{HasAsked, OfficeQuery, table_asked, table_of}
use Rattle.wb_store.proofs.SettledLemmas.{office_stands}
use Rattle.wb_store.specs.Finds.{StaysAs}
use Rattle.wb_store.specs.MergeLaws.{survives_itself}
use Rattle.wb_store.specs.Opening.{AreCountsOf, Checks, ChecksNoRowsOf, ChecksScratch, ChecksStates, ChecksOver, ChecksWith, FailsOnOffice, HasGoodRowsWith, HasNoRowsLeft, ShowsBuilders}
use Rattle.wb_store.proofs.FindsLemmas.{stays_then, stays-now}
use Rattle.wb_store.proofs.OpeningRecordLemmas.{all_kept}
use Rattle.wb_store.proofs.StaysLemmas.{back_by, no_more, stays_settled_as, undone_after, was_clean}

-- ---- what one test promises

test_undone : (query : OfficeQuery) (Bad : List Row → StoreFault → Type 0) (old new : State) (fault : StoreFault)
    → FailsToTest query Bad old new fault → IsKeptOrUndone old new
test_undone query Bad old new fault (inl failed) = failed.left
test_undone query Bad old new fault (inr bad) = inl bad.0

module _ {S : Type 0} {g : Ghosts S} {Has : Schema → Type 0} {Stands : Machine → Database → Type 0} {old new : Held S} where
  -- one test of a table, which such a schema has, and whose rows are those of the state so
  pub tested : {A : Type 0} {query : OfficeQuery} {Shows : Machine → Database → Type 0} {Given : Machine → Type 0} {Good : List Row → A → Type 0}
      {Bad : List Row → StoreFault → Type 0} {Outcome : Machine → A → Type 0} → (Has old.schema → HasAsked query old.schema) → ((machine : Machine) → Stands machine (state g old).now → Shows machine (state g old).now)
      → (r : Result A StoreFault) → Tests g query Good Bad old new r → PassesWith g query Shows Given Outcome old new r
      → ChecksOver g Has Stands Given (λ db x. ShowsGood query db (λ rows. Good rows x)) Outcome (FailsToTest query Bad) old new r
  tested there shows (Ok x) tests passes = record {
    good = λ clean has. tests.value clean (there has);
    same = λ clean has. inr (tests.same clean (there has), tests.survives.limit);
    err = λ clean has. tt;
    kept = λ clean has. tt;
    told = λ clean has machine stands. passes.value clean (there has) machine (shows machine stands);
    fails = λ clean has. tt;
    survives = survives_weaker (state g old) (state g new) _ _ (λ clean db lacks has. lacks (there has)) tests.survives;
  }
  tested {query = query} {Bad = Bad} there shows (Err fault) tests passes = record {
    good = λ clean has. tt;
    same = λ clean has. tt;
    err = λ clean has. (old, inl refl, tests.err clean (there has));
    kept = λ clean has. test_undone query Bad (state g old) (state g new) fault (tests.err clean (there has));
    told = λ clean has. tt;
    fails = λ clean has machine consistent stands given. elim (passes.err clean (there has) machine consistent (shows machine stands) given) [
      | inl memory ↦ inl memory
      | inr failed ↦ inr (old, inl refl, (query, failed))
    ];
    survives = survives_weaker (state g old) (state g new) _ _ (λ clean db lacks has. lacks (there has)) tests.survives;
  }

-- ---- the tests of the counts and the architectures, and beside what they hold those of the builders and of the records

-- what each form of an office's tables has
office_there : (format : Format) {schema : Schema} → HasIn format schema → HasAsked ask.Office schema
office_there One has = has.tables.office_is.has
office_there Two has = has.office_is

archs_there : (format : Format) {schema : Schema} → HasIn format schema → HasAsked ask.Archs schema
archs_there One has = has.tables.archs_are.has
archs_there Two has = has.arch_is

builders_there : (format : Format) {schema : Schema} → HasIn format schema → HasAsked ask.Builders schema
builders_there One has = has.tables.builders_are.has
builders_there Two has = has.builder_is

records_there : (format : Format) {schema : Schema} → HasIn format schema → HasAsked (query_of_records format) schema
records_there One has = has.tables.states_are.has
records_there Two has = has.record_is

counts_kept : (format : Format) (machine : Machine) (db : Database) → StandsIn format machine db → HasCountsOf format machine db
counts_kept One machine db stands = stands.counts
counts_kept Two machine db stands = stands.counts

archs_kept : (format : Format) (machine : Machine) (db : Database) → StandsIn format machine db → HasArchsOf machine db
archs_kept One machine db stands = stands.archs
archs_kept Two machine db stands = stands.archs

builders_of : (format : Format) (machine : Machine) (db : Database) → StandsIn format machine db → HasBuildersOf machine db
builders_of One machine db stands = stands.builders
builders_of Two machine db stands = stands.builders

records_of : (format : Format) (machine : Machine) (db : Database) → StandsIn format machine db → HasRecordsOf format machine db × AreKeptIn format machine
records_of One machine db stands = (stands.records, stands.kept)
records_of Two machine db stands = (stands.records, all_kept machine)

pub sources_there : (format : Format) {schema : Schema} → HasIn format schema → HasAsked ask.OneSource schema
sources_there One has = has.tables.sources_are.has
sources_there Two has = has.source_is

pub binaries_there : (format : Format) {schema : Schema} → HasIn format schema → HasAsked ask.OneBinary schema
binaries_there One has = has.tables.binaries_are.has
binaries_there Two has = has.binary_is

pub no_sources : (format : Format) (machine : Machine) (db : Database) → StandsIn format machine db → rows_in db scratch_source ≡ []
no_sources One machine db stands = stands.sources
no_sources Two machine db stands = stands.sources

pub no_binaries : (format : Format) (machine : Machine) (db : Database) → StandsIn format machine db → rows_in db scratch_binary ≡ []
no_binaries One machine db stands = stands.binaries
no_binaries Two machine db stands = stands.binaries

-- the test of the builders, beside these architectures
abbrev pub ChecksBuilders : {S X : Type 0} → Ghosts S → Format → List (List ℕ × OsCpu) → Held S → Held S → Result (Vec Key X) StoreFault → Type 0
ChecksBuilders g format archs = ChecksOver g (HasIn format) (StandsIn format) (λ machine. archs ≡ finite.entries machine.archs) (λ db pairs. ShowsBuilders db archs pairs.items)
    (λ machine pairs. pairs.items ≡ builder_pairs machine) (FailsToTest ask.Builders (AreBadRows Builder builder_cells (IsFormedBuilder archs)))

-- the test of the records, beside these architectures, builders and greatest take number
abbrev pub ChecksRecords : {S A : Type 0} → Ghosts S → Format → List (List ℕ × OsCpu) → List Key → ℕ → Held S → Held S → Result A StoreFault → Type 0
ChecksRecords g format archs builders handed = ChecksOver g (HasIn format) (StandsIn format) (AreKept archs builders handed)
    (λ db done. ShowsGood (query_of_records format) db (HoldsRecords format archs builders handed))
    (λ machine done. AreKept archs builders handed machine → HasGoodRecords machine) (FailsToTest (query_of_records format) (AreBadRecords format archs builders handed))

module _ {S : Type 0} {g : Ghosts S} (format : Format) {old new : Held S} where
  -- the test of the counts
  pub counts_tested : {A : Type 0} {Given : Machine → Type 0} {Good : List Row → A → Type 0} {Bad : List Row → StoreFault → Type 0} {Outcome : Machine → A → Type 0} (r : Result A StoreFault)
      → Tests g ask.Office Good Bad old new r → PassesWith g ask.Office (HasCountsOf format) Given Outcome old new r
      → ChecksOver g (HasIn format) (StandsIn format) Given (λ db x. ShowsGood ask.Office db (λ rows. Good rows x)) Outcome (FailsToTest ask.Office Bad) old new r
  counts_tested = tested (office_there format) (λ machine stands. counts_kept format machine _ stands)

  -- and of the architectures
  pub archs_tested : {A : Type 0} {Given : Machine → Type 0} {Good : List Row → A → Type 0} {Bad : List Row → StoreFault → Type 0} {Outcome : Machine → A → Type 0} (r : Result A StoreFault)
      → Tests g ask.Archs Good Bad old new r → PassesWith g ask.Archs HasArchsOf Given Outcome old new r
      → ChecksOver g (HasIn format) (StandsIn format) Given (λ db x. ShowsGood ask.Archs db (λ rows. Good rows x)) Outcome (FailsToTest ask.Archs Bad) old new r
  archs_tested = tested (archs_there format) (λ machine stands. archs_kept format machine _ stands)

  -- with other words for the architectures
  pub builders_tested : {X : Type 0} {given archs : List (List ℕ × OsCpu)} → given ≡ archs → (r : Result (Vec Key X) StoreFault)
      → Tests g ask.Builders (λ rows pairs. HoldsBuilders given rows pairs.items) (AreBadRows Builder builder_cells (IsFormedBuilder given)) old new r
      → PassesWith g ask.Builders HasBuildersOf (λ machine. given ≡ finite.entries machine.archs) (λ machine pairs. pairs.items ≡ builder_pairs machine) old new r
      → ChecksBuilders g format archs old new r
  builders_tested is r tests passes =
      subst (λ archs. ChecksBuilders g format archs old new r) is (tested (builders_there format) (λ machine stands. builders_of format machine _ stands) r tests passes)

  -- with other words for the architectures and the builders
  pub records_tested : {A : Type 0} {given archs : List (List ℕ × OsCpu)} {known builders : List Key} {handed : ℕ} → given ≡ archs → known ≡ builders → (r : Result A StoreFault)
      → Tests g (query_of_records format) (λ rows done. HoldsRecords format given known handed rows) (AreBadRecords format given known handed) old new r
      → PassesWith g (query_of_records format) (λ machine db. HasRecordsOf format machine db × AreKeptIn format machine) (AreKept given known handed)
      (λ machine done. AreKept given known handed machine → HasGoodRecords machine) old new r
      → ChecksRecords g format archs builders handed old new r
  records_tested {archs = archs} {known = known} {handed = handed} is are r tests passes =
      subst (λ builders. ChecksRecords g format archs builders handed old new r) are
      (subst (λ archs. ChecksRecords g format archs known handed old new r) is (tested (records_there format) (λ machine stands. records_of format machine _ stands) r tests passes))

-- ---- the test of a table that has no row in an office at rest

no_row : {X : Type 0} (xs : List X) → is_nonempty xs ≡ false → xs ≡ []
no_row [] none = refl
no_row (x ∷ xs) none = absurd (both_ways true none refl)

module _ {S : Type 0} {g : Ghosts S} (query : OfficeQuery) {Has : Schema → Type 0} {Stands : Machine → Database → Type 0} {old new : Held S} (there : Has old.schema → HasAsked query old.schema) where
  -- the table has no row
  pub rows_empty : {A : Type 0} {x : A} → TestsForRows g query old new (Ok false) → ChecksNoRowsOf g Has Stands query old new (Ok x)
  rows_empty tests = record {
    good = λ clean office. no_row (rows_in (state g old).now (table_of (table_asked query))) (sym (tests.value clean (there office)));
    same = λ clean office. inr (tests.same clean (there office), tests.survives.limit);
    err = λ clean office. tt;
    kept = λ clean office. tt;
    told = λ clean office machine stands. tt;
    fails = λ clean office. tt;
    survives = survives_weaker (state g old) (state g new) _ _ (λ clean db lacks office. lacks (there office)) tests.survives;
  }

  -- it has one
  pub rows_left : {A : Type 0} → ((machine : Machine) → Stands machine (state g old).now → rows_in (state g old).now (table_of (table_asked query)) ≡ []) → TestsForRows g query old new (Ok true)
      → ChecksNoRowsOf {A = A} g Has Stands query old new (Err (Damaged (table_asked query) 1))
  rows_left empty tests = record {
    good = λ clean office. tt;
    same = λ clean office. tt;
    err = λ clean office. (old, inl refl, inr (refl, sym (tests.value clean (there office)), tests.same clean (there office)));
    kept = λ clean office. inl (tests.same clean (there office));
    told = λ clean office. tt;
    fails = λ clean office machine consistent stands given.
        absurd (both_ways (has_rows (table_asked query) (state g old).now) (ap is_nonempty (empty machine stands)) (sym (tests.value clean (there office))));
    survives = survives_weaker (state g old) (state g new) _ _ (λ clean db lacks office. lacks (there office)) tests.survives;
  }

  -- its query failed
  pub rows_unread : {A : Type 0} {fault : StoreFault} → TestsForRows g query old new (Err fault) → ChecksNoRowsOf {A = A} g Has Stands query old new (Err fault)
  rows_unread tests = record {
    good = λ clean office. tt;
    same = λ clean office. tt;
    err = λ clean office. (old, inl refl, inl (tests.err clean (there office)));
    kept = λ clean office. (tests.err clean (there office)).left;
    told = λ clean office. tt;
    fails = λ clean office machine consistent stands given. inr (old, inl refl, (query, tests.err clean (there office)));
    survives = survives_weaker (state g old) (state g new) _ _ (λ clean db lacks office. lacks (there office)) tests.survives;
  }

-- ---- tests, one after another

-- a schema that is as it was has what it had
stays_has : {S : Type 0} (Has : Schema → Type 0) (g : Ghosts S) (old mid : Held S) → StaysAs g old mid → Has old.schema → Has mid.schema
stays_has Has g old mid stays = subst (λ (db : Database). Has db.schema) (sym (stays-now g old mid stays))

-- what is known where the tests so far have passed
pub record HasPassed {S : Type 0} (g : Ghosts S) (Has : Schema → Type 0) (Stands : Machine → Database → Type 0) (Good : Database → Type 0) (Outcome : Machine → Type 0) (old mid : Held S) : Type 0 where
  pub good : HasCleanDisk (state g mid) → Has old.schema → Good (state g old).now
  pub same : HasCleanDisk (state g mid) → Has old.schema → StaysAs g old mid
  pub told : HasCleanDisk (state g mid) → Has old.schema → (machine : Machine) → Stands machine (state g old).now → Outcome machine
  pub survives : Survives (state g old) (state g mid) (λ _. ¬ Has old.schema)

-- no test was made yet
pub none_yet : {S : Type 0} (g : Ghosts S) {Has : Schema → Type 0} {Stands : Machine → Database → Type 0} (old : Held S) → HasPassed g Has Stands (λ _. ⊤) (λ _. ⊤) old old
none_yet g old = record {
  good = λ clean office. tt;
  same = λ clean office. inl refl;
  told = λ clean has machine stands. tt;
  survives = survives_itself (state g old);
}

module _ {S : Type 0} {g : Ghosts S} {Has : Schema → Type 0} {Stands : Machine → Database → Type 0} {old mid : Held S} {Good : Database → Type 0} {Outcome : Machine → Type 0} (one : HasPassed g Has Stands Good Outcome old mid) where
  both_survive : (new : Held S) → (HasCleanDisk (state g new) → HasCleanDisk (state g mid)) → Survives (state g mid) (state g new) (λ _. ¬ Has mid.schema)
      → Survives (state g old) (state g new) (λ _. ¬ Has old.schema)
  both_survive new before later =
      survives_then (state g old) (state g mid) (state g new) _ _ _ (λ clean db other. other)
      (λ clean db other office. other (stays_has Has g old mid (one.same (before clean) office) office)) one.survives later

  -- the next one passes too
  pub then_passed : {A : Type 0} {new : Held S} {Given : Machine → Type 0} {Second : Database → A → Type 0} {Next : Machine → A → Type 0}
      {Why : State → State → StoreFault → Type 0} {y : A} → ChecksOver g Has Stands Given Second Next Why mid new (Ok y)
      → HasPassed g Has Stands (λ db. Good db × Second db y) (λ machine. Outcome machine × Next machine y) old new
  then_passed {new = new} {Second = Second} {y = y} two =
      let before : HasCleanDisk (state g new) → HasCleanDisk (state g mid) = λ clean. was_clean (state g mid) (state g new) two.survives clean in
      record {
        good = λ clean office.
            let stays = one.same (before clean) office in
            (one.good (before clean) office, subst (λ db. Second db y) (stays-now g old mid stays) (two.good clean (stays_has Has g old mid stays office)));
        same = λ clean office.
            let stays = one.same (before clean) office in
            stays_then g old mid new stays (two.same clean (stays_has Has g old mid stays office));
        told = λ clean office machine stands.
            let stays = one.same (before clean) office in
            (one.told (before clean) office machine stands, two.told clean (stays_has Has g old mid stays office) machine (subst (Stands machine) (sym (stays-now g old mid stays)) stands));
        survives = both_survive new before two.survives;
      }

  -- the next one fails
  pub then_failed : {A B : Type 0} {new : Held S} {Given : Machine → Type 0} {Second : Database → A → Type 0} {Next : Machine → A → Type 0}
      {Why : State → State → StoreFault → Type 0} {Whole : Database → B → Type 0} {Last : Machine → B → Type 0} {All : State → State → StoreFault → Type 0}
      {fault : StoreFault} {r : Result B StoreFault} → ChecksOver g Has Stands Given Second Next Why mid new (Err fault)
      → ((machine : Machine) → Outcome machine → Given machine)
      → ((at after : State) → Good at.now → Why at after fault → All at after fault) → r ≡ Err fault → ChecksOver g Has Stands (λ _. ⊤) Whole Last All old new r
  then_failed {B = B} {new = new} {Whole = Whole} {Last = Last} {All = All} {fault = fault} two given why is =
      let before : HasCleanDisk (state g new) → HasCleanDisk (state g mid) = λ clean. was_clean (state g mid) (state g new) two.survives clean in
      subst (λ (r : Result B StoreFault). ChecksOver g Has Stands (λ _. ⊤) Whole Last All old new r) (sym is) (record {
        good = λ clean office. tt;
        same = λ clean office. tt;
        err = λ clean office.
            let stays = one.same (before clean) office in
            let later = two.err clean (stays_has Has g old mid stays office) in
            let whole = stays_then g old mid later.0 stays later.1 in
            (later.0, whole, why (state g later.0) (state g new) (subst Good (sym (stays-now g old later.0 whole)) (one.good (before clean) office)) later.2);
        kept = λ clean office.
            let stays = one.same (before clean) office in
            undone_after g old mid new stays (two.kept clean (stays_has Has g old mid stays office));
        told = λ clean office. tt;
        fails = λ clean office machine consistent stands none.
            let stays = one.same (before clean) office in
            elim (two.fails clean (stays_has Has g old mid stays office) machine consistent (subst (Stands machine) (sym (stays-now g old mid stays)) stands) (given machine (one.told (before clean) office machine stands))) [
              | inl memory ↦ inl memory
              | inr later ↦ inr (later.0, stays_then g old mid later.0 stays later.1, later.2)
            ];
        survives = both_survive new before two.survives;
      })

  -- all have passed
  pub all_passed : {B : Type 0} {Whole : Database → B → Type 0} {Last : Machine → B → Type 0} {All : State → State → StoreFault → Type 0} {x : B}
      → ((db : Database) → Good db → Whole db x) → ((machine : Machine) → Outcome machine → Last machine x) → ChecksOver g Has Stands (λ _. ⊤) Whole Last All old mid (Ok x)
  all_passed good last = record {
    good = λ clean office. good (state g old).now (one.good clean office);
    same = one.same;
    err = λ clean office. tt;
    kept = λ clean office. tt;
    told = λ clean office machine stands. last machine (one.told clean office machine stands);
    fails = λ clean office. tt;
    survives = one.survives;
  }

module _ {S : Type 0} {g : Ghosts S} {Has : Schema → Type 0} {Stands : Machine → Database → Type 0} {old mid : Held S} {Good : Database → Type 0} {Outcome : Machine → Type 0} (one : HasPassed g Has Stands Good Outcome old mid) where
  -- the next one is the last, and its answer that of all
  pub then_told : {A : Type 0} {new : Held S} {Given : Machine → Type 0} {Second : Database → A → Type 0} {Next : Machine → A → Type 0}
      {Why : State → State → StoreFault → Type 0} {Whole : Database → A → Type 0} {Last : Machine → A → Type 0} {All : State → State → StoreFault → Type 0}
      (r : Result A StoreFault) → ChecksOver g Has Stands Given Second Next Why mid new r
      → ((machine : Machine) → Outcome machine → Given machine)
      → ((at after : State) (fault : StoreFault) → Good at.now → Why at after fault → All at after fault)
      → ((db : Database) (x : A) → Good db × Second db x → Whole db x) → ((machine : Machine) (x : A) → Outcome machine × Next machine x → Last machine x)
      → ChecksOver g Has Stands (λ _. ⊤) Whole Last All old new r
  then_told (Ok x) two given why good last = all_passed (then_passed one two) (λ db all. good db x all) (λ machine all. last machine x all)
  then_told (Err fault) two given why good last = then_failed one two given (λ at after known failed. why at after fault known failed) refl

-- both scratch tables have no row
pub scratch_both : {S A B C : Type 0} {g : Ghosts S} (format : Format) {old mid new : Held S} {x : A} {y : B} {z : C} → ChecksNoRowsOf g (HasIn format) (StandsIn format) ask.OneSource old mid (Ok x)
    → ChecksNoRowsOf g (HasIn format) (StandsIn format) ask.OneBinary mid new (Ok y) → ChecksScratch g format old new (Ok z)
scratch_both {g = g} format {old = old} one two = all_passed (then_passed (then_passed (none_yet g old) one) two) (λ db good. (good.0.1, good.1)) (λ machine told. tt)

-- the table of the records of the first schema is there
pub states_there : {S : Type 0} (g : Ghosts S) (old : Held S) → (HasOffice old.schema → HasStates old.schema) → HasPassed g HasOffice StandsFor (λ db. HasStates db.schema) (λ _. ⊤) old old
states_there g old there = record {
  good = λ clean office. there office;
  same = λ clean office. inl refl;
  told = λ clean office machine stands. tt;
  survives = survives_itself (state g old);
}

-- it is not
pub states_missing : {S A : Type 0} {g : Ghosts S} {old : Held S} {x : A} → ¬ HasStates old.schema → ChecksStates g old old (Ok x)
states_missing {g = g} {old = old} none = record {
  good = λ clean office states. absurd (none states);
  same = λ clean office. inl refl;
  err = λ clean office. tt;
  kept = λ clean office. tt;
  told = λ clean office machine stands. tt;
  fails = λ clean office. tt;
  survives = survives_itself (state g old);
}

-- ---- the tests of a whole office

-- what the tests make of a settled connection
module _ {S : Type 0} {g : Ghosts S} {old new : Held S} where
  pub checked : (r : Result Counts StoreFault) → ChecksWith g (λ _. ⊤) (λ db counts. HasGoodRowsWith Two db counts × HasNoRowsLeft db) AreCountsOf FailsOnOffice old new r → Checks g old new r
  checked (Ok counts) h = record {
    was_clean = was_clean (state g old) (state g new) h.survives;
    good = λ clean office. let good = h.good clean office in (good.0, good.1, h.same clean office);
    passes = λ clean machine consistent settled.
        let schema = settled.holds.stands.has in
        (h.told clean schema machine (office_stands (state g old).now settled.holds), stays_settled_as g old new (h.same clean schema) (no_more g old new h.survives schema clean) settled);
    fails = λ clean machine consistent settled. tt;
    refuses = λ clean office. tt;
    kept = λ clean office. tt;
    survives = h.survives;
  }
  checked (Err fault) h = record {
    was_clean = was_clean (state g old) (state g new) h.survives;
    good = λ clean office. tt;
    passes = λ clean machine consistent settled. tt;
    fails = λ clean machine consistent settled.
        let schema = settled.holds.stands.has in
        (back_by g old new (h.kept clean schema) (no_more g old new h.survives schema clean) settled, h.fails clean schema machine consistent (office_stands (state g old).now settled.holds) tt);
    refuses = h.err;
    kept = h.kept;
    survives = h.survives;
  }
