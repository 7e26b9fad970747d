-- The row of the format and the counts that an opening reads, and what that of a consistent office is.
use Rattle.std.proofs.Common.{◌≡◌, ◌≤◌, inl, inr, ℕ, List, [], ◌∷◌, length, get_or, refl, sym, ap, subst, ◌∙◌, Result, arith}
use Rattle.sqlite.specs.Held.{Held, state}
use Rattle.sqlite.specs.Order.{Row, column}
use Rattle.sqlite_trees.specs.declared.store.Store.{Ghosts}
use Rattle.wb_states.specs.declared.counts.Counts.{Counts}
use Rattle.wb_states.specs.declared.store_fault.StoreFault.{StoreFault}
use Rattle.wb_states.specs.declared.store_fault.StoreFault.TheVariants.{Memory, NotOffice}
use Rattle.wb_states.specs.Limits.{count_limit}
use Rattle.wb_states.specs.Machine.{Machine, IsConsistent}
use Rattle.wb_rows.specs.Cells.{number}
use Rattle.wb_rows.proofs.CellsLemmas.{number-same}
use Rattle.wb_store.specs.declared.format.Format.{Format}
use Rattle.wb_store.specs.declared.format.Format.TheVariants.{One, Two}
use Rattle.wb_store.specs.Checks.{AreBadCounts, HasFormat, HoldsCounts, Passes, Tests}
use Rattle.wb_store.specs.Queries as ask
use Rattle.wb_store.specs.Stands.{HasCountsOf}
use Rattle.wb_store.specs.Schemas.{number_of, row_in}
use Rattle.wb_store.proofs.FoundLemmas.{counts_in_format}
use Rattle.wb_store.proofs.CheckLemmas.{passes_from}

-- a row of three columns has the format that is in its first
pub format_row : (row : Row) (format : ℕ) → length row ≡ 3 → column row 0 ≡ number format → HasFormat format row
format_row [] format size is = absurd (omega arith)
format_row (a ∷ []) format size is = absurd (omega arith)
format_row (a ∷ b ∷ []) format size is = absurd (omega arith)
format_row (a ∷ b ∷ d ∷ []) format size is = (b, d, ap (λ v. v ∷ b ∷ d ∷ []) is)
format_row (a ∷ b ∷ d ∷ e ∷ row) format size is = absurd (omega arith)

-- a row without a format is not that of an office
pub no_format : (wanted : Format) (rows : List Row) (row : Row) → row ≡ get_or rows 0 row → ((format : ℕ) → ¬ HasFormat format row) → AreBadCounts wanted rows NotOffice
no_format wanted rows row is none = inl (
  refl,
  λ format of.
      let same : of.0 ≡ row = sym (is ∙ ap (λ l. get_or l 0 row) of.2) in absurd (none format (subst (HasFormat format) same of.1)),
)

-- ---- what the test says of an office

first_of_one : (rows : List Row) (one other : Row) → rows ≡ one ∷ [] → rows ≡ other ∷ [] → one ≡ other
first_of_one rows one other is also = cc

same_counts : (format : Format) (one other more another : ℕ) → row_in format one other ≡ row_in format more another → (one ≡ more) × (other ≡ another)
same_counts format one other more another is = (number-same one more (ap (λ r. column r 1) is), number-same other another (ap (λ r. column r 2) is))

module _ (format : Format) (rows : List Row) (handed accepted : ℕ) (counts : Counts) (is : rows ≡ row_in format handed accepted ∷ []) (holds : HoldsCounts format rows counts) where
  -- the counts are those of the row
  pub counts_are : (counts.handed ≡ handed) × (counts.accepted ≡ accepted)
  counts_are = same_counts format counts.handed counts.accepted handed accepted (sym holds.1.same ∙ first_of_one rows holds.0 (row_in format handed accepted) holds.2 is)

  -- and within their limits
  pub counts_within : (handed ≤ count_limit) × (accepted ≤ count_limit)
  counts_within = (subst (λ n. n ≤ count_limit) counts_are.0 holds.1.handed, subst (λ n. n ≤ count_limit) counts_are.1 holds.1.accepted)

up_to_newest : (format : Format) → number_of format ≤ 2
up_to_newest One = omega arith
up_to_newest Two = omega arith

never_bad : (format : Format) (machine : Machine) → IsConsistent machine → (rows : List Row) → rows ≡ row_in format machine.handed machine.accepted ∷ [] → (fault : StoreFault)
    → AreBadCounts format rows fault → fault ≡ Memory
never_bad format machine sound rows is fault (inl (not_office, other)) =
    absurd ((other (number_of format) (row_in format machine.handed machine.accepted, (number machine.handed, number machine.accepted, refl), is)).1 refl)
never_bad format machine sound rows is fault (inr (inl (newer, (found, over, (row, has, alone))))) =
    let same : number found ≡ number (number_of format) = ap (λ r. column r 0) (sym has.2 ∙ first_of_one rows row (row_in format machine.handed machine.accepted) alone is) in
    let own = number-same found (number_of format) same in
    let most = up_to_newest format in
    absurd (omega (arith, over, own, most))
never_bad format machine sound rows is fault (inr (inr (own, damaged))) =
    absurd ((damaged (row_in format machine.handed machine.accepted) is).1 (record { handed = machine.handed; accepted = machine.accepted }) (record { same = refl; handed = sound.handed; accepted = sound.accepted }))

-- what the test of the counts says of an office
pub counts_pass : {S : Type 0} {g : Ghosts S} {old new : Held S} (format : Format) (r : Result Counts StoreFault) → Tests g ask.Office (HoldsCounts format) (AreBadCounts format) old new r
    → Passes g ask.Office (HasCountsOf format) (λ machine counts. (counts.handed ≡ machine.handed) × (counts.accepted ≡ machine.accepted)) old new r
counts_pass {g} {old} format r tests =
    passes_from r tests (λ machine has rows a counts holds. counts_are format rows machine.handed machine.accepted counts (counts_in_format format machine (state g old).now has rows a) holds)
    (λ machine sound has given rows a fault bad. never_bad format machine sound rows (counts_in_format format machine (state g old).now has rows a) fault bad)
