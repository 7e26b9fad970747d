-- The cells of a row tell what it stands for.
use Rattle.std.proofs.Common.{◌≡◌, ℕ, ℤ, Bool, true, false, List, [], ◌∷◌, ◌++◌, Option, Some, None, refl, sym, ap, subst, suc, arith, ◌∙◌}
use Rattle.sqlite.specs.declared.types.Value.{Value}
use Rattle.sqlite.specs.declared.types.Value.TheVariants.{Int}
use Rattle.sqlite.specs.Order.{Row, column}
use Rattle.wb_states.specs.declared.arch.OsCpu.{OsCpu}
use Rattle.wb_states.specs.declared.state.State.{State}
use Rattle.wb_states.specs.Machine.{Key}
use Rattle.wb_states.specs.Queue.{Entry, rank_of}
use Rattle.wb_states.specs.State.{code_of}
use Rattle.wb_states.proofs.CodeLemmas.{code_of-differ}
use Rattle.wb_rows.specs.Cells.{record_cells, arch_cells, builder_cells, number, number_or_null, flag, text_or_null}
use Rattle.wb_rows.specs.FirstSchema.{IsOfFirst, first_cells, first_rank_of, shared_cells}
use Rattle.wb_rows.specs.Reading.{HasColumns, field_cells, state_cell, text_cell}

-- ---- one cell

pub text-same : (a b : List ℕ) → text_cell a ≡ text_cell b → a ≡ b
text-same a b e = cc

pub int-same : (a b : ℤ) → Int a ≡ Int b → a ≡ b
int-same a b e = cc

pub number-same : (a b : ℕ) → number a ≡ number b → a ≡ b
number-same a b e = cc

text_or_null-same : (a b : Option (List ℕ)) → text_or_null a ≡ text_or_null b → a ≡ b
text_or_null-same None None e = refl
text_or_null-same None (Some b) e = cc
text_or_null-same (Some a) None e = cc
text_or_null-same (Some a) (Some b) e = ap Some (text-same a b e)

number_or_null-same : (a b : Option ℕ) → number_or_null a ≡ number_or_null b → a ≡ b
number_or_null-same None None e = refl
number_or_null-same None (Some b) e = cc
number_or_null-same (Some a) None e = cc
number_or_null-same (Some a) (Some b) e = ap Some (number-same a b e)

flag-same : (a b : Bool) → flag a ≡ flag b → a ≡ b
flag-same true true e = refl
flag-same true false e = let same = number-same 1 0 e in absurd (omega arith)
flag-same false true e = let same = number-same 0 1 e in absurd (omega arith)
flag-same false false e = refl

pub state-same : (a b : State) → state_cell a ≡ state_cell b → a ≡ b
state-same a b e = code_of-differ a b (number-same (code_of a) (code_of b) e)

-- ---- columns, one after another

-- a row with one more value in front has each column one place later
pub later : (x : Value) (row : Row) (at : ℕ) (cells : Row) → HasColumns row at cells → HasColumns (x ∷ row) (suc at) cells
later x row at [] h = tt
later x row at (cell ∷ more) h = (h.0, later x row (suc at) more h.1)

pub earlier : (x : Value) (row : Row) (at : ℕ) (cells : Row) → HasColumns (x ∷ row) (suc at) cells → HasColumns row at cells
earlier x row at [] h = tt
earlier x row at (cell ∷ more) h = (h.0, earlier x row (suc at) more h.1)

-- a row has its own columns
pub begins : (cells more : Row) → HasColumns (cells ++ more) 0 cells
begins [] more = tt
begins (cell ∷ cells) more = (refl, later cell (cells ++ more) 0 cells (begins cells more))

-- ---- a whole row

-- an entry whose row begins with the cells of another one that both schemas have, and which has its build priority, is that one
shared-same : (more : Row) (a b : Entry) → HasColumns (shared_cells a ++ more) 0 (shared_cells b) → a.1.build_priority ≡ b.1.build_priority → a ≡ b
shared-same more a b (arch, (source, (state, (version, (priority, (section, (built, (rebuild, (holder, (take, (waits, (depends, (note, (message, end)))))))))))))) urgency =
    λ i. (
      (text-same a.0.0 b.0.0 arch i, text-same a.0.1 b.0.1 source i),
      record {
        state = state-same a.1.state b.1.state state i;
        version = text-same a.1.version b.1.version version i;
        priority = text-same a.1.priority b.1.priority priority i;
        section = text-same a.1.section b.1.section section i;
        earlier = flag-same a.1.earlier b.1.earlier built i;
        number = number-same a.1.number b.1.number rebuild i;
        holder = text_or_null-same a.1.holder b.1.holder holder i;
        take = number_or_null-same a.1.take b.1.take take i;
        waits = text-same a.1.waits b.1.waits waits i;
        depends = text_or_null-same a.1.depends b.1.depends depends i;
        note = text-same a.1.note b.1.note note i;
        message = text-same a.1.message b.1.message message i;
        build_priority = urgency i;
      },
    )

-- the first of the columns that a row has
front : (row : Row) (at : ℕ) (cells more : Row) → HasColumns row at (cells ++ more) → HasColumns row at cells
front row at [] more h = tt
front row at (cell ∷ cells) more h = (h.0, front row (suc at) cells more h.1)

-- an entry whose row begins with these columns is the other one
pub entry-same : (a b : Entry) → HasColumns (record_cells a) 0 (text_cell b.0.0 ∷ text_cell b.0.1 ∷ field_cells b.1) → a ≡ b
entry-same a b h =
    shared-same (Int a.1.build_priority ∷ number (rank_of a.1) ∷ []) a b (front (record_cells a) 0 (shared_cells b) (Int b.1.build_priority ∷ []) h)
    (int-same a.1.build_priority b.1.build_priority h.1.1.1.1.1.1.1.1.1.1.1.1.1.1.0)

-- so it is with those of the first schema
pub first-same : (a b : Entry) → IsOfFirst a.1 → IsOfFirst b.1 → HasColumns (first_cells a) 0 (shared_cells b) → a ≡ b
first-same a b one other h = shared-same (number (first_rank_of a.1) ∷ []) a b h (one.build_priority ∙ sym other.build_priority)

-- no two entries of the first schema have one row
pub first_cells-same : (a b : Entry) → IsOfFirst a.1 → IsOfFirst b.1 → first_cells a ≡ first_cells b → a ≡ b
first_cells-same a b one other e =
    first-same a b one other (subst (λ (row : Row). HasColumns row 0 (shared_cells b)) (sym e) (begins (shared_cells b) (number (first_rank_of b.1) ∷ [])))

-- no two entries have one row
pub record_cells-same : (a b : Entry) → record_cells a ≡ record_cells b → a ≡ b
record_cells-same a b e =
    entry-same a b (subst (λ (row : Row). HasColumns row 0 (text_cell b.0.0 ∷ text_cell b.0.1 ∷ field_cells b.1)) (sym e)
    (begins (text_cell b.0.0 ∷ text_cell b.0.1 ∷ field_cells b.1) (number (rank_of b.1) ∷ [])))

-- no two architectures have one row
pub arch_cells-same : (a b : List ℕ × OsCpu) → arch_cells a ≡ arch_cells b → a ≡ b
arch_cells-same a b e =
    λ i. (
      text-same a.0 b.0 (ap (λ row. column row 0) e) i,
      record {
        os = text-same a.1.os b.1.os (ap (λ row. column row 1) e) i;
        cpu = text-same a.1.cpu b.1.cpu (ap (λ row. column row 2) e) i;
      },
    )

-- no two pairs of a builder and an architecture have one row
pub builder_cells-same : (a b : Key) → builder_cells a ≡ builder_cells b → a ≡ b
builder_cells-same a b e = λ i. (text-same a.0 b.0 (ap (λ row. column row 0) e) i, text-same a.1 b.1 (ap (λ row. column row 1) e) i)
