-- How an empty office is made in a database that lacks its tables, in one transaction.
use Rattle.std.proofs.Common.{◌≡◌, inl, inr, true, List, [], ◌∷◌, Result, Ok, Err, OnErr, OnOk, ◌||◌, false, length, map, Ordering, refl, sym, ap, subst, ◌∙◌, arith, IsTrue}
use Rattle.sqlite_trees.specs.declared.store.Store.{Ghosts}
use Rattle.sqlite.specs.declared.error.Error.{Error}
use Rattle.sqlite.specs.Order.{Row}
use Rattle.sqlite.specs.Change.{KeepsRows}
use Rattle.sqlite.specs.Schema.{Schema}
use Rattle.sqlite.specs.Tree.{Trees}
use Rattle.sqlite.specs.Effect.{Database}
use Rattle.sqlite.specs.Held.{Held, state}
use Rattle.sqlite.specs.State.{State, HasCleanDisk, IsLive, IsRolledBack, Survives}
use Rattle.wb_sql.specs.Transactions.{Commits, IsTakenBack, LeavesAlone, FailsToCommit}
use Rattle.wb_sql.specs.Among.{HasOffice, HasStates, LacksOffice, IsNumbered, rows_in}
use Rattle.wb_sql.specs.Making.{HasEmptyTables, MakesOffice, Makes, FailsAt}
use Rattle.wb_sql.specs.Tables.{arch, builder, source_record}
use Rattle.wb_sql.proofs.GrowthLemmas.{office_made, made_lacks_states, empty_lacks}
use Rattle.wb_states.specs.Machine.{Key, Machine, empty_office}
use Rattle.std.specs.List.{list_any}
use Rattle.std.specs.Ordering.{eq_by_cmp}
use Rattle.std.specs.Cmp.{IsTotalOrder, eq_by_cmp_equiv}
use Rattle.std.specs.FinMap as finite
use Rattle.std.specs.FinSet as set
use Rattle.std.proofs.lemmas.Bool.{both_ways}
use Rattle.std.proofs.lemmas.List.Sorted.{IsPermutation-refl}
use Rattle.deb_text.specs.Text.{text_cmp, pair_cmp}
use Rattle.deb_text.proofs.KeyLemmas.{pair_cmp_total}
use Rattle.wb_rows.specs.Cells.{arch_cells, builder_cells, record_cells}
use Rattle.wb_store.specs.Stands.{HoldsRows, StandsFor, arch_rows, builder_rows, record_rows}
use Rattle.wb_store.specs.Settled.{StandsForTrees, IsOffice}
use Rattle.wb_store.proofs.SettledLemmas.{office_of, office_trees}
use Rattle.wb_store.specs.Preparing.{AreBlank, HasRoom, IsBlank, IsMadeFrom, LeavesFound, LeavesOrMakes, MakesEmptyOffice}
use Rattle.wb_store.proofs.NumberedLemmas.{empty_schema, empty_numbered, numbered_of}

-- ---- an empty office has no rows

no_entries : {K X : Type 0} (R : K → K → Ordering) (es : List (K × X)) → es ≡ finite.entries (finite.empty {R = R}) → es ≡ []
no_entries {X = X} R [] is = refl
no_entries {X = X} R (e ∷ es) is = absurd (omega (arith, ap length is ∙ sym (finite.len-entries finite.empty) ∙ finite.len-empty R X))

no_items : {K : Type 0} {R : K → K → Ordering} → IsTotalOrder R → (xs : List K) → ((q : K) → list_any (eq_by_cmp R q) xs ≡ false) → xs ≡ []
no_items o [] none = refl
no_items {R = R} o (x ∷ xs) none =
    absurd (both_ways (eq_by_cmp R x x || list_any (eq_by_cmp R x) xs) (none x) (ap (λ b. b || list_any (eq_by_cmp R x) xs) ((eq_by_cmp_equiv o).refl x)))

-- a table without a row holds no rows
no_rows : (columns rows : List Row) → columns ≡ [] → rows ≡ [] → HoldsRows columns rows
no_rows columns rows none nothing = subst (λ c. HoldsRows c rows) (sym none) (subst (HoldsRows []) (sym nothing) (record { stored = record { whole = refl; rising = tt }; same = IsPermutation-refl [] }))

no_builders : builder_rows empty_office ≡ []
unfolding empty_office
no_builders =
    let none = no_items pair_cmp_total (set.items set.empty) (λ q. sym (set.contains-items set.empty q) ∙ set.contains-empty pair_cmp q) in
    ap (λ (pairs : List Key). map builder_cells (finite.keys (finite.from_entries {R = pair_cmp} (map (λ pair. (pair, tt {0})) pairs)))) none
    ∙ ap (λ (es : List (Key × Unit {0})). map builder_cells (map (λ e. e.0) es)) (no_entries pair_cmp _ refl)

-- a table without a row holds the records of a state that has none
pub no_records_held : (machine : Machine) (rows : List Row) → machine.records ≡ finite.empty → rows ≡ [] → HoldsRows (record_rows machine) rows
no_records_held machine rows none nothing =
    no_rows (record_rows machine) rows (ap (λ records. map record_cells (finite.entries records)) none ∙ ap (map record_cells) (no_entries pair_cmp _ refl)) nothing

-- the tables that are made hold the rows of an empty office
stands_empty : (base : Schema) → LacksOffice base → IsNumbered base → (old new : State) → MakesOffice base old new → StandsFor empty_office new.now
unfolding empty_office
stands_empty base lacks numbered old new made = record {
  has = subst HasOffice (sym made.made.schema_is) (office_made base lacks numbered);
  counts = made.office_row;
  archs = no_rows (arch_rows empty_office) (rows_in new.now arch) (ap (map arch_cells) (no_entries text_cmp _ refl)) made.made.empty.0;
  builders = no_rows (builder_rows empty_office) (rows_in new.now builder) no_builders made.made.empty.1.0;
  records = no_rows (record_rows empty_office) (rows_in new.now source_record) (ap (map record_cells) (no_entries pair_cmp _ refl)) made.made.empty.1.1.0;
  sources = made.made.empty.1.1.1.0;
  binaries = made.made.empty.1.1.1.1.0;
  order = record { sources = tt; binaries = tt };
  emptied = λ states. absurd (made_lacks_states base lacks numbered (subst HasStates made.made.schema_is states));
}

-- ---- what a transaction makes of a database that lacks the office

-- a call that makes the office in whatever schema lacks it
abbrev pub MakesAnywhere : {S A : Type 0} → Ghosts S → Held S → Held S → Result A Error → Type 0
MakesAnywhere g old new r = (base : Schema) → LacksOffice base → IsNumbered base → Makes g base [] (MakesOffice base) old new r

-- a clean disk was clean before
was_clean : {P : Trees → Type 0} (old new : State) → Survives old new P → HasCleanDisk new → HasCleanDisk old
was_clean old new survives clean = omega (arith, survives.clean, clean)

-- a connection whose database lacks the office's tables has room for them
pub room_of : (s : State) → IsBlank s → HasRoom s
room_of s blank = record { is_open = blank.is_open; lacks = blank.lacks; sound = blank.sound }

-- what a crash leaves of a database that lacked the office's tables is found to be an empty office
found_of : (old new : State) → IsBlank old → LeavesOrMakes old new → LeavesFound empty_office new
found_of old new blank leaves db may = elim (leaves db may) [
  | inl was ↦ inr (inl (refl, subst AreBlank (sym (blank.alone db was)) (record { schema = old.now.schema; sound = blank.sound; lacks = blank.lacks })))
  | inr made ↦ inl made.1
]

module _ {S : Type 0} (g : Ghosts S) (old begun written : Held S) {A : Type 0} (r : Result A Error)
    (begins : begun ≡ record old { in_transaction = true }) (makes : MakesAnywhere g begun written r) where
  -- what is true of the call whatever the schema
  anywhere : Makes g empty_schema [] (MakesOffice empty_schema) begun written r
  anywhere = makes empty_schema empty_lacks empty_numbered

  -- what it makes of the schema that lacks the office
  makes_there : HasRoom (state g old) → Makes g old.schema [] (MakesOffice old.schema) begun written r
  makes_there room = makes old.schema room.lacks (numbered_of old.schema (state g old).now.trees room.sound)

  -- none of the office's tables was there when the transaction began
  empty_then : HasEmptyTables old.schema [] (state g begun)
  empty_then = subst (λ h. HasEmptyTables old.schema [] (state g h)) (sym begins) (record { schema_is = refl; empty = tt })

  -- before the end of the transaction a crash leaves none of them
  no_more_then : HasCleanDisk (state g written) → HasRoom (state g old) → (db : Trees) → (state g written).may_leave db → (state g old).may_leave db
  no_more_then clean room db may = elim ((makes_there room).survives.crash clean db may) [
    | inl was ↦ subst (λ h. (state g h).may_leave db) begins was
    | inr other ↦ absurd (other empty_then)
  ]

  -- a clean disk was clean before it
  clean_then : HasCleanDisk (state g written) → HasCleanDisk (state g old)
  clean_then clean = subst (λ h. HasCleanDisk (state g h)) begins (was_clean (state g begun) (state g written) anywhere.survives clean)

  -- the limit of steps stays
  limit_then : (state g written).step_limit ≡ (state g old).step_limit
  limit_then = anywhere.survives.limit ∙ ap (λ h. (state g h).step_limit) begins

-- a transaction that is taken back is over
pub over_of : (old new : State) → IsTakenBack old new → new.in_transaction ≡ false
over_of old new (inl undone) = undone.autocommit
over_of old new (inr over) = over.1.0.mode ∙ over.0

-- whatever ROLLBACK answers, the transaction is taken back, or was over before
pub taken_of : {A : Type 0} (old new : State) (r : Result A Error) → OnOk r (IsRolledBack old new) → OnErr r (IsTakenBack old new) → IsTakenBack old new
taken_of old new (Ok x) ok err = inl ok
taken_of old new (Err e) ok err = err

module _ {S : Type 0} (g : Ghosts S) (old begun written new : Held S) (begins : begun ≡ record old { in_transaction = true }) where
  -- what failed is taken back
  pub not_made : {A B : Type 0} (e : Error) → MakesAnywhere {A = A} g begun written (Err e) → (r : Result B Error)
      → (HasCleanDisk (state g new) → OnOk r (IsRolledBack (state g written) (state g new)))
      → (HasCleanDisk (state g new) → OnErr r (IsTakenBack (state g written) (state g new)))
      → Survives (state g written) (state g new) (λ _. ⊥) → MakesEmptyOffice {A = A} g old new (Err e)
  not_made e makes r ok err survives =
      let before : HasCleanDisk (state g new) → HasCleanDisk (state g written) = λ clean. was_clean (state g written) (state g new) survives clean in
      let leaves : HasCleanDisk (state g new) → HasRoom (state g old) → LeavesOrMakes (state g old) (state g new) = λ clean room db may. elim (survives.crash clean db may) [
        | inl was ↦ inl (no_more_then g old begun written (Err e) begins makes (before clean) room db was)
        | inr none ↦ absurd none
      ] in
      record {
        was_clean = λ clean. clean_then g old begun written (Err e) begins makes (before clean);
        limit = survives.limit ∙ limit_then g old begun written (Err e) begins makes;
        idle = λ clean. over_of (state g written) (state g new) (taken_of (state g written) (state g new) r (ok clean) (err clean));
        made = λ clean room. tt;
        crash = leaves;
        left = λ clean blank. found_of (state g old) (state g new) blank (leaves clean (room_of (state g old) blank));
        err = λ clean blank. (
          written,
          inl (subst (λ h. FailsAt g h written e) begins
              ((makes_there g old begun written (Err e) begins makes (room_of (state g old) blank)).err (before clean) (subst (λ h. IsTrue h.in_transaction) (sym begins) refl)
              (empty_then g old begun written (Err e) begins makes))),
        );
      }

-- what a commit makes of the tables that were made
module _ {S : Type 0} (g : Ghosts S) (old begun written at : Held S) (begins : begun ≡ record old { in_transaction = true }) {A : Type 0} {x : A} (makes : MakesAnywhere g begun written (Ok x))
    (live : IsLive (state g written)) (survives : Survives (state g written) (state g at) (λ db. db ≡ (state g written).now.trees)) where
  before_it : HasCleanDisk (state g at) → HasCleanDisk (state g written)
  before_it clean = was_clean (state g written) (state g at) survives clean

  office_written : HasCleanDisk (state g at) → HasRoom (state g old) → MakesOffice old.schema (state g begun) (state g written)
  office_written clean room = (makes_there g old begun written (Ok x) begins makes room).made (before_it clean) (empty_then g old begun written (Ok x) begins makes)

  is_office : HasCleanDisk (state g at) → HasRoom (state g old) → IsOffice empty_office (state g written).now
  is_office clean room =
      let made = office_written clean room in
      let numbered = numbered_of old.schema (state g old).now.trees room.sound in
      office_of (state g written).now (stands_empty old.schema room.lacks numbered (state g begun) (state g written) made) (live made.shown.is_open).0

  -- a crash leaves none of them or all
  leaves_then : HasCleanDisk (state g at) → HasRoom (state g old) → LeavesOrMakes (state g old) (state g at)
  leaves_then clean room db may = elim (survives.crash clean db may) [
    | inl was ↦ inl (no_more_then g old begun written (Ok x) begins makes (before_it clean) room db was)
    | inr kept ↦ inr (room.lacks, subst (StandsForTrees empty_office) (sym kept) (office_trees (state g written).now (is_office clean room)))
  ]

  -- a commit that succeeds settles them
  pub made_by : {B : Type 0} {y : B} → (HasCleanDisk (state g at) → Commits (state g written) (state g at)) → (HasCleanDisk (state g at) → LeavesAlone (state g at) (state g written).now.trees)
      → MakesEmptyOffice g old at (Ok y)
  made_by commits alone = record {
    was_clean = λ clean. clean_then g old begun written (Ok x) begins makes (before_it clean);
    limit = survives.limit ∙ limit_then g old begun written (Ok x) begins makes;
    idle = λ clean. (commits clean).shown.mode;
    made = λ clean room. settled clean room;
    crash = leaves_then;
    left = λ clean blank. found_of (state g old) (state g at) blank (leaves_then clean (room_of (state g old) blank));
    err = λ clean blank. tt;
  }
    where
      settled : HasCleanDisk (state g at) → HasRoom (state g old) → IsMadeFrom (state g old) (state g at)
      settled clean room =
          let made = commits clean in
          let written_is = office_written clean room in (
            record {
              is_open = made.shown.is_open;
              idle = made.shown.mode;
              committed = made.shown.now_is ∙ sym made.shown.committed_is;
              holds = subst (IsOffice empty_office) (sym made.shown.now_is) (is_office clean room);
              alone = λ db may. alone clean db may ∙ ap (λ (d : Database). d.trees) (sym made.shown.now_is);
            },
            subst (λ (d : Database). KeepsRows old.schema.tables (state g old).now.trees d.trees) (sym made.shown.now_is)
                (subst (λ h. KeepsRows old.schema.tables (state g h).now.trees (state g written).now.trees) begins written_is.kept),
          )

  -- one that fails is taken back
  pub made_not : {B : Type 0} (new : Held S) (e : Error) → (HasCleanDisk (state g at) → FailsToCommit g written e)
      → (HasCleanDisk (state g new) → IsTakenBack (state g at) (state g new)) → Survives (state g at) (state g new) (λ _. ⊥) → MakesEmptyOffice {A = B} g old new (Err e)
  made_not new e cause back later =
      let then : HasCleanDisk (state g new) → HasCleanDisk (state g at) = λ clean. was_clean (state g at) (state g new) later clean in
      let leaves : HasCleanDisk (state g new) → HasRoom (state g old) → LeavesOrMakes (state g old) (state g new) = λ clean room db may. elim (later.crash clean db may) [
        | inl was ↦ leaves_then (then clean) room db was
        | inr none ↦ absurd none
      ] in
      record {
        was_clean = λ clean. clean_then g old begun written (Ok x) begins makes (before_it (then clean));
        limit = later.limit ∙ survives.limit ∙ limit_then g old begun written (Ok x) begins makes;
        idle = λ clean. over_of (state g at) (state g new) (back clean);
        made = λ clean room. tt;
        crash = leaves;
        left = λ clean blank. found_of (state g old) (state g new) blank (leaves clean (room_of (state g old) blank));
        err = λ clean blank. (
          written,
          inr (subst (λ h. MakesOffice old.schema (state g h) (state g written)) begins (office_written (then clean) (room_of (state g old) blank)), cause (then clean)),
        );
      }
