-- What is read of a row is what was written in it.
use Rattle.std.proofs.Common.{◌≡◌, List, Option, Some, None, option_map, sym, ap, ◌∙◌}
use Rattle.std.specs.Prelude.{ℕ, IfNone, IfSome, IsUtf8}
use Rattle.sqlite.specs.Order.{Row}
use Rattle.wb_states.specs.declared.arch.OsCpu.{OsCpu}
use Rattle.wb_states.specs.Machine.{Key}
use Rattle.wb_states.specs.Queue.{Entry}
use Rattle.wb_states.specs.declared.keyed.KeyedRecord.{KeyedRecord}
use Rattle.wb_states.specs.Lookups.{entry_of}
use Rattle.wb_rows.specs.Cells.{arch_cells, builder_cells, record_cells}
use Rattle.wb_rows.specs.Reading.{IsNoArch, IsNoBuilder, IsNoRecord, IsReadable}
use Rattle.wb_rows.proofs.CellsLemmas.{arch_cells-same, builder_cells-same, record_cells-same}

module _ (row : Row) where
  -- of the row of a record that record is read
  pub record-back : (found : Option KeyedRecord) (entry : Entry) → IfSome found (λ made. row ≡ record_cells (entry_of made)) → IfNone found (IsNoRecord row)
      → IsReadable entry → row ≡ record_cells entry → option_map entry_of found ≡ Some entry
  record-back None entry is none readable same = absurd (none entry readable same)
  record-back (Some made) entry is none readable same = ap Some (record_cells-same (entry_of made) entry (sym is ∙ same))

  -- of the row of an architecture that architecture is read
  pub arch-back : (found : Option (List ℕ × OsCpu)) (arch : List ℕ × OsCpu) → IfSome found (λ made. row ≡ arch_cells made) → IfNone found (IsNoArch row)
      → IsUtf8 arch.0 → IsUtf8 arch.1.os → IsUtf8 arch.1.cpu → row ≡ arch_cells arch → found ≡ Some arch
  arch-back None arch is none name os cpu same = absurd (none arch name os cpu same)
  arch-back (Some made) arch is none name os cpu same = ap Some (arch_cells-same made arch (sym is ∙ same))

  -- of the row of a builder that builder is read
  pub builder-back : (found : Option Key) (pair : Key) → IfSome found (λ made. row ≡ builder_cells made) → IfNone found (IsNoBuilder row)
      → IsUtf8 pair.0 → IsUtf8 pair.1 → row ≡ builder_cells pair → found ≡ Some pair
  builder-back None pair is none name arch same = absurd (none pair name arch same)
  builder-back (Some made) pair is none name arch same = ap Some (builder_cells-same made pair (sym is ∙ same))
