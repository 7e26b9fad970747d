-- A list that is read into a table, paragraph by paragraph.
use Rattle.std.proofs.Common.{◌≡◌, ℕ, ◌+◌, ◌<◌, Bool, true, false, cond, List, [], ◌∷◌, ◌++◌, length, filter, Option}
use Rattle.std.proofs.Common.{None, Some, Result, Ok, Err, refl, sym, ap, subst, ◌∙◌, inl, inr, append-nil}
use Rattle.std.proofs.Common.{append_assoc, length-append, arith}
use Rattle.std.specs.List.{AllByRecursion, dedup, dedup_from}
use Rattle.std.specs.Result.{result_map_both}
use Rattle.std.proofs.lemmas.List.Concat.{flat_map-append}
use Rattle.std.proofs.lemmas.List.Elements.{filter-append}
use Rattle.deb_control.specs.declared.fault.ControlFault.{ControlFault}
use Rattle.deb_control.specs.Fields.{FieldText}
use Rattle.deb_control.specs.Paragraphs.{ReaderState}
use Rattle.deb_relations.specs.declared.arch.ArchWords.{ArchWords}
use Rattle.wb_states.specs.declared.refusal.Refusal.{Refusal}
use Rattle.wb_states.specs.declared.refusal.ListKind.{ListKind}
use Rattle.wb_states.specs.declared.scratch.SourceRow.{SourceRow}
use Rattle.wb_states.specs.declared.scratch.BinaryRow.{BinaryRow}
use Rattle.wb_merge.specs.Rows.{onto_rows}
use Rattle.wb_merge.specs.Scratch.{is_binary_wanted, joined_rows}
use Rattle.wb_archive.specs.declared.fault.BadList.{BadList}
use Rattle.wb_archive.specs.Fills.{WithRows, binaries_behind, binaries_wanted, binary_kept, is_repeat, is_source_wanted}
use Rattle.wb_archive.specs.Fills.{last_behind, last_kept, numbered, repeats, rows_wanted, sources_wanted}
use Rattle.wb_archive.specs.Reads.{GivesRow, IsRefused, MayStandWhere, ReadsTo, kept_at}
use Rattle.wb_archive.specs.Tables.{IsAfterBinaries, IsAfterSources}
use Rattle.wb_archive.proofs.ReadLemmas.{kept-fields}

-- ---- facts of each row

pub all-append : {X : Type 0} (P : X → Type 0) (xs ys : List X) → AllByRecursion P xs → AllByRecursion P ys → AllByRecursion P (xs ++ ys)
all-append P [] ys hx hy = hy
all-append P (x ∷ xs) ys hx hy = (hx.0, all-append P xs ys hx.1 hy)

pub all-weaken : {X : Type 0} (P Q : X → Type 0) → ((x : X) → P x → Q x) → (xs : List X) → AllByRecursion P xs → AllByRecursion Q xs
all-weaken P Q step [] h = tt
all-weaken P Q step (x ∷ xs) h = (step x h.0, all-weaken P Q step xs h.1)

-- ---- half of a list

-- rows before those of a list, if it is not refused
abbrev pub onto_all : {X : Type 0} → List X → Result (List X) Refusal → Result (List X) Refusal
onto_all done rows = result_map_both (λ rows. done ++ rows) (λ refusal. refusal) rows

onto-row : {X : Type 0} (done : List X) (x : X) (later : Result (List X) Refusal) → onto_rows (Ok x) (onto_all done later) ≡ onto_all (x ∷ done) later
onto-row done x (Ok rows) = refl
onto-row done x (Err refusal) = refl

onto-none : {X : Type 0} (rows : Result (List X) Refusal) → rows ≡ onto_all [] rows
onto-none (Ok rows) = refl
onto-none (Err refusal) = refl

-- what is kept from a place on is what was read from there, and then what is kept of the rest
reads-kept : {X : Type 0} (which : ListKind) (row_at : ℕ → List FieldText → Result X Refusal) (rows : List X) (place after : ReaderState) → ReadsTo row_at rows place after
    → kept_at which row_at place ≡ onto_all rows (kept_at which row_at after)
reads-kept which row_at [] place after reads = ap (kept_at which row_at) (sym reads) ∙ onto-none (kept_at which row_at after)
reads-kept which row_at (row ∷ rows) place after (fields, (next, (steps, (is, reads)))) =
    kept-fields which row_at place next place.passed fields row steps refl is
    ∙ ap (onto_rows (Ok row)) (reads-kept which row_at rows next after reads)
    ∙ onto-row rows row (kept_at which row_at after)

-- paragraphs that were read, and then others
pub reads-then : {X : Type 0} (row_at : ℕ → List FieldText → Result X Refusal) (rows later : List X) (place middle after : ReaderState) → ReadsTo row_at rows place middle
    → ReadsTo row_at later middle after → ReadsTo row_at (rows ++ later) place after
reads-then row_at [] later place middle after one two = subst (λ (p : ReaderState). ReadsTo row_at later p after) one two
reads-then row_at (row ∷ rows) later place middle after (fields, (next, (steps, (is, reads)))) two =
    (fields, (next, (steps, (is, reads-then row_at rows later next middle after reads two))))

-- so many paragraphs of a list were read, and the table has of their rows those that can matter: wherever the reader may stand now, it may have begun at a place from which these were read
pub record IsHalfFilled {R X Y : Type 0} (MayStand : R → ReaderState → Type 0) (row_at : ℕ → List FieldText → Result X Refusal) (wanted : List X → List Y)
    (Holds : List Y → Type 0) (start : R) (list : R) (counted : ℕ) (passed : ℕ) : Type 0 where
  pub count : passed ≡ counted
  pub done : List X
  pub reads : (after : ReaderState) → MayStand list after → MayStandWhere MayStand start (λ place. ReadsTo row_at done place after)
  pub holds : Holds (wanted done)

module _ {R X Y : Type 0} (MayStand : R → ReaderState → Type 0) (row_at : ℕ → List FieldText → Result X Refusal)
    (wanted : List X → List Y) where
  -- before the first paragraph
  abbrev pub half-start : (Holds : List Y → Type 0) (start : R) (counted : ℕ) → counted ≡ 0 → wanted [] ≡ [] → Holds []
      → IsHalfFilled MayStand row_at wanted Holds start start counted 0
  half-start Holds start counted first none holds = record {
    count = sym first;
    done = [];
    reads = λ after here. (after, (here, refl));
    holds = subst Holds (sym none) holds;
  }

  -- one paragraph more
  abbrev pub half-step : {Holds More : List Y → Type 0} (start list next : R) (counted more_counted passed : ℕ)
      → (half : IsHalfFilled MayStand row_at wanted Holds start list counted passed) (x : X) (added : List Y)
      → GivesRow MayStand row_at list x next → more_counted ≡ counted + 1 → wanted (half.done ++ x ∷ []) ≡ wanted half.done ++ added
      → More (wanted half.done ++ added)
      → IsHalfFilled MayStand row_at wanted More start next more_counted (passed + 1)
  half-step {More = More} start list next counted more_counted passed half x added gives one split more = record {
    count = ap (λ n. n + 1) half.count ∙ sym one;
    done = half.done ++ x ∷ [];
    reads = λ after here.
        let middle = gives after here in
        let before = half.reads middle.0 middle.1.0 in
        (before.0, (before.1.0, reads-then row_at half.done (x ∷ []) before.0 middle.0 after before.1.1 middle.1.1));
    holds = subst More (sym split) more;
  }

  -- after the last paragraph
  pub half-ended : {Holds : List Y → Type 0} (which : ListKind) (start list : R) (counted passed : ℕ)
      → (half : IsHalfFilled MayStand row_at wanted Holds start list counted passed)
      → MayStandWhere MayStand list (λ place. kept_at which row_at place ≡ Ok [])
      → MayStandWhere MayStand start (λ place. WithRows (kept_at which row_at place) (λ rows. Holds (wanted rows)))
  half-ended {Holds = Holds} which start list counted passed half ended =
      let before = half.reads ended.0 ended.1.0 in
      let is : kept_at which row_at before.0 ≡ Ok half.done = reads-kept which row_at half.done before.0 ended.0 before.1.1 ∙ ap (onto_all half.done) ended.1.1 ∙ ap (λ (l : List X). Ok l) (append-nil half.done) in
      (before.0, (before.1.0, subst (λ k. WithRows k (λ rows. Holds (wanted rows))) (sym is) half.holds))

  -- a refusal of the paragraphs ahead is one of the list, of which the table has some rows
  pub half-refused : {Holds : List Y → Type 0} (which : ListKind) (Breaks : R → ControlFault → Type 0) (start list : R) (counted passed : ℕ) (bad : BadList)
      → ((fault : ControlFault) → Breaks list fault → Breaks start fault)
      → (half : IsHalfFilled MayStand row_at wanted Holds start list counted passed)
      → MayStandWhere MayStand list (λ place. IsRefused (Breaks list) which row_at place bad)
      → MayStandWhere MayStand start (λ place. IsRefused (Breaks start) which row_at place bad × ((left : List Y) × Holds left))
  half-refused which Breaks start list counted passed bad earlier half refused =
      let before = half.reads refused.0 refused.1.0 in
      (before.0, (before.1.0, (at before.0 before.1.1 refused.1.1, (wanted half.done, half.holds)))) where
        at : (place : ReaderState) → ReadsTo row_at half.done place refused.0 → IsRefused (Breaks list) which row_at refused.0 bad → IsRefused (Breaks start) which row_at place bad
        at place reads (inl broken) = inl (record {
          broke = record { broke = broken.broke.broke; breaks = earlier broken.broke.broke broken.broke.breaks; is = broken.broke.is };
          list = broken.list;
          read = record {
            rows = half.done ++ broken.read.rows;
            last = broken.read.last;
            reads = reads-then row_at half.done broken.read.rows place refused.0 broken.read.last reads broken.read.reads;
            next = broken.read.next;
          };
        })
        at place reads (inr is) = inr (reads-kept which row_at half.done place refused.0 reads ∙ ap (onto_all half.done) is)

-- ---- rows that can matter

pub sources-split : (archs : List ArchWords) (xs ys : List SourceRow) → sources_wanted archs (xs ++ ys) ≡ sources_wanted archs xs ++ sources_wanted archs ys
sources-split archs xs ys = filter-append (is_source_wanted archs) xs ys

filter-one : {X : Type 0} (P : X → Type 0) (test : X → Bool) (x : X) → P x → AllByRecursion P (filter test (x ∷ []))
filter-one P test x h = elim (test x) as (λ b. AllByRecursion P (cond b (x ∷ []) [])) [ true ↦ (h, tt) | false ↦ tt ]

-- the number of a row that can matter comes after those before it
pub sources-below : (archs : List ArchWords) (n : ℕ) (done : List SourceRow) (row : SourceRow) → row.seq ≡ n + 1
    → IsAfterSources (n + 1) (sources_wanted archs done)
    → IsAfterSources (n + 1 + 1) (sources_wanted archs (done ++ row ∷ []))
sources-below archs n done row number below =
    subst (IsAfterSources (n + 1 + 1)) (sym (sources-split archs done (row ∷ [])))
    (all-append (λ (r : SourceRow). r.seq < n + 1 + 1) (sources_wanted archs done) (sources_wanted archs (row ∷ []))
    (all-weaken (λ (r : SourceRow). r.seq < n + 1) (λ r. r.seq < n + 1 + 1) (λ r lt. omega arith)
    (sources_wanted archs done) below)
    (filter-one (λ (r : SourceRow). r.seq < n + 1 + 1) (is_source_wanted archs) row (omega arith)))

behind-some : (waited : List ℕ → Bool) (last : BinaryRow) (rows : List BinaryRow)
    → last ∷ binaries_behind waited (Some last) rows ≡ dedup_from (is_repeat waited) last rows
behind-some waited last [] = refl
behind-some waited last (row ∷ rows) = go (behind-some waited row rows) (behind-some waited last rows)
    (is_repeat waited row last) where
      go : row ∷ binaries_behind waited (Some row) rows ≡ dedup_from (is_repeat waited) row rows
          → last ∷ binaries_behind waited (Some last) rows ≡ dedup_from (is_repeat waited) last rows
          → (again : Bool) → last ∷ (cond again [] (row ∷ []) ++ binaries_behind waited (cond again (Some last) (Some row))
          rows)
          ≡ cond again (dedup_from (is_repeat waited) last rows) (last ∷ dedup_from (is_repeat waited) row rows)
      go one other true = other
      go one other false = ap (λ (l : List BinaryRow). last ∷ l) one

-- row by row as of the whole list
pub behind-none : (waited : List ℕ → Bool) (rows : List BinaryRow)
    → binaries_behind waited None rows ≡ dedup (is_repeat waited) rows
behind-none waited [] = refl
behind-none waited (row ∷ rows) = behind-some waited row rows

behind-append : (waited : List ℕ → Bool) (last : Option BinaryRow) (xs ys : List BinaryRow)
    → binaries_behind waited last (xs ++ ys) ≡ binaries_behind waited last xs ++ binaries_behind waited
    (last_behind waited last xs) ys
behind-append waited last [] ys = refl
behind-append waited last (x ∷ xs) ys =
    ap (λ (l : List BinaryRow). binary_kept waited last x ++ l) (behind-append waited (last_kept waited last x) xs ys)
    ∙ sym (append_assoc (binary_kept waited last x) _ _)

last-append : (waited : List ℕ → Bool) (last : Option BinaryRow) (xs ys : List BinaryRow)
    → last_behind waited last (xs ++ ys) ≡ last_behind waited (last_behind waited last xs) ys
last-append waited last [] ys = refl
last-append waited last (x ∷ xs) ys = last-append waited (last_kept waited last x) xs ys

-- what is so of rows is so of those that are kept
behind-all : (P : BinaryRow → Type 0) (waited : List ℕ → Bool) (last : Option BinaryRow) (rows : List BinaryRow)
    → AllByRecursion P rows → AllByRecursion P (binaries_behind waited last rows)
behind-all P waited last [] all = tt
behind-all P waited last (row ∷ rows) all =
    all-append P (binary_kept waited last row) (binaries_behind waited (last_kept waited last row) rows)
    (one (repeats waited last row)) (behind-all P waited (last_kept waited last row) rows all.1)
  where
    one : (again : Bool) → AllByRecursion P (cond again [] (row ∷ []))
    one true = tt
    one false = (all.0, tt)

-- ---- rows with their numbers

numbered-append : (n : ℕ) (xs ys : List BinaryRow) → numbered n (xs ++ ys) ≡ numbered n xs ++ numbered (n + length xs)
    ys
numbered-append n [] ys = let e : n ≡ n + length {A = BinaryRow} [] = omega arith in ap (λ m. numbered m ys) e
numbered-append n (x ∷ xs) ys =
    let e : n + 1 + length xs ≡ n + length (x ∷ xs) = omega arith in
    ap (λ (l : List BinaryRow). record x { seq = n + 1 } ∷ l)
    (numbered-append (n + 1) xs ys ∙ ap (λ m. numbered (n + 1) xs ++ numbered m ys) e)

numbered-below : (n : ℕ) (rows : List BinaryRow) → AllByRecursion (λ (r : BinaryRow). r.seq < n + length rows + 1)
    (numbered n rows)
numbered-below n [] = tt
numbered-below n (row ∷ rows) = (
  omega arith,
  all-weaken (λ (r : BinaryRow). r.seq < n + 1 + length rows + 1) (λ r. r.seq < n + length (row ∷ rows) + 1)
      (λ r lt. omega arith)
      (numbered (n + 1) rows) (numbered-below (n + 1) rows),
)

-- so many rows of paragraphs were numbered, and this one was kept last
pub record IsPlaced (waited : List ℕ → Bool) (done : List (List BinaryRow)) (last : Option BinaryRow) (placed : ℕ) :
    Type 0 where
  pub count : placed ≡ length (rows_wanted waited done)
  pub is_last : last ≡ last_behind waited None (numbered 0 (rows_wanted waited done))

pub none-placed : (waited : List ℕ → Bool) → IsPlaced waited [] None 0
none-placed waited = record { count = refl; is_last = refl }

-- the next number comes after all that are kept
pub placed-below : (waited : List ℕ → Bool) (done : List (List BinaryRow)) (last : Option BinaryRow) (placed : ℕ)
    → IsPlaced waited done last placed
    → IsAfterBinaries (placed + 1) (binaries_wanted waited done)
placed-below waited done last placed is =
    let rows = rows_wanted waited done in
    subst (IsAfterBinaries (placed + 1)) (behind-none waited (numbered 0 rows))
    (behind-all (λ (r : BinaryRow). r.seq < placed + 1) waited None (numbered 0 rows)
    (all-weaken (λ (r : BinaryRow). r.seq < 0 + length rows + 1) (λ r. r.seq < placed + 1)
    (λ r lt. omega (arith, is.count)) (numbered 0 rows)
    (numbered-below 0 rows)))

module _ (waited : List ℕ → Bool) (done : List (List BinaryRow)) (kept rows : List BinaryRow)
    (is : rows ≡ filter (is_binary_wanted waited) kept) where
  wanted-more : rows_wanted waited (done ++ kept ∷ []) ≡ rows_wanted waited done ++ rows
  wanted-more =
      ap (filter (is_binary_wanted waited)) (flat_map-append (λ (l : List BinaryRow). l) done (kept ∷ [])
      ∙ ap (λ (l : List BinaryRow). joined_rows done ++ l) (append-nil kept))
      ∙ filter-append (is_binary_wanted waited) (joined_rows done) kept
      ∙ ap (λ (l : List BinaryRow). rows_wanted waited done ++ l) (sym is)

  module _ (last : Option BinaryRow) (placed : ℕ) (stands : IsPlaced waited done last placed) where
    numbers-more : numbered 0 (rows_wanted waited (done ++ kept ∷ [])) ≡ numbered 0 (rows_wanted waited done) ++
        numbered placed rows
    numbers-more =
        let e : 0 + length (rows_wanted waited done) ≡ placed = omega (arith, stands.count) in
        ap (numbered 0) wanted-more ∙ numbered-append 0 (rows_wanted waited done) rows
        ∙ ap (λ m. numbered 0 (rows_wanted waited done) ++ numbered m rows) e

    -- the rows of one paragraph more
    pub binaries-more : binaries_wanted waited (done ++ kept ∷ []) ≡ binaries_wanted waited done ++ binaries_behind
        waited last (numbered placed rows)
    binaries-more =
        sym (behind-none waited (numbered 0 (rows_wanted waited (done ++ kept ∷ []))))
        ∙ ap (binaries_behind waited None) numbers-more
        ∙ behind-append waited None (numbered 0 (rows_wanted waited done)) (numbered placed rows)
        ∙ (λ i. behind-none waited (numbered 0 (rows_wanted waited done)) i ++ binaries_behind waited
        (sym stands.is_last i) (numbered placed rows))

    pub placed-more : (new_last : Option BinaryRow) (new_placed : ℕ)
        → new_last ≡ last_behind waited last (numbered placed rows)
        → new_placed ≡ placed + length rows → IsPlaced waited (done ++ kept ∷ []) new_last new_placed
    placed-more new_last new_placed kept_last counted = record {
      count = counted ∙ ap (λ n. n + length rows) stands.count ∙ sym (length-append (rows_wanted waited done) rows)
          ∙ ap length (sym wanted-more);
      is_last = kept_last ∙ ap (λ (o : Option BinaryRow). last_behind waited o (numbered placed rows)) stands.is_last
          ∙ sym (last-append waited None (numbered 0 (rows_wanted waited done)) (numbered placed rows))
          ∙ ap (last_behind waited None) (sym numbers-more);
    }

-- ---- the rows of a paragraph, one after another

-- of the rows of a paragraph some are still to be kept, after those that are there, and are the rest of what there will
-- be
pub record IsHalfKept (waited : List ℕ → Bool) (whole : List BinaryRow) (last : Option BinaryRow) (placed : ℕ)
    (rest kept : List BinaryRow) : Type 0 where
  pub below : IsAfterBinaries (placed + 1) kept
  pub makes : kept ++ binaries_behind waited last (numbered placed rest) ≡ whole

-- a row more is kept
pub half-kept : (waited : List ℕ → Bool) (whole : List BinaryRow) (last : Option BinaryRow) (placed : ℕ)
    (row : BinaryRow) (rest kept : List BinaryRow)
    → IsHalfKept waited whole last placed (row ∷ rest) kept
    → IsHalfKept waited whole (last_kept waited last (record row { seq = placed + 1 })) (placed + 1) rest
    (kept ++ binary_kept waited last (record row { seq = placed + 1 }))
half-kept waited whole last placed row rest kept half =
    let next : BinaryRow = record row { seq = placed + 1 } in
    record {
      below = all-append (λ (r : BinaryRow). r.seq < placed + 1 + 1) kept (binary_kept waited last next)
          (all-weaken (λ (r : BinaryRow). r.seq < placed + 1) (λ r. r.seq < placed + 1 + 1) (λ r lt. omega arith) kept
          half.below)
          (one (repeats waited last next));
      makes = append_assoc kept (binary_kept waited last next)
          (binaries_behind waited (last_kept waited last next) (numbered (placed + 1) rest)) ∙ half.makes;
    } where
      one : (again : Bool) → AllByRecursion (λ (r : BinaryRow). r.seq < placed + 1 + 1)
          (cond again [] (record row { seq = placed + 1 } ∷ []))
      one true = tt
      one false = (omega arith, tt)
