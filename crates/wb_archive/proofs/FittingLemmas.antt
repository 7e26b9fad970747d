-- A merge gives a record the take number that it had, or none, so one that is at most the limit stays so.
use Rattle.std.proofs.Common.{ℕ, ◌≤◌, Bool, List, [], Option, None, Some, IfSome}
use Rattle.std.specs.declared.cmp.Ordering.{Ordering}
use Rattle.std.specs.declared.cmp.Ordering.TheVariants.{Less, Equal, Greater}
use Rattle.std.specs.Ordering.{match_ordering}
use Rattle.deb_version.specs.Order.{version_cmp}
use Rattle.deb_relations.specs.declared.arch.ArchWords.{ArchWords}
use Rattle.wb_states.specs.declared.record.Record.{Record}
use Rattle.wb_states.specs.declared.scratch.BinaryRow.{BinaryRow}
use Rattle.wb_states.specs.declared.scratch.SourceRow.{SourceRow}
use Rattle.wb_states.specs.declared.state.State.{State}
use Rattle.wb_states.specs.Limits.{count_limit}
use Rattle.wb_states.specs.State.{is_held}
use Rattle.wb_states.proofs.InStateLemmas.{if-kept}
use Rattle.wb_merge.specs.declared.listing.Built.{Built}
use Rattle.wb_merge.specs.declared.listing.Listed.{Listed}
use Rattle.wb_merge.specs.Merge.{listed_record_given, new_record, newer_number, newer_record, newer_state, record_given}
use Rattle.wb_merge.specs.Merge.{relisted, same_number, same_record_given, same_state_given}
use Rattle.wb_merge.specs.Scratch.{built_in, listed_in, record_found}
use Rattle.wb_merge.proofs.RelistedLemmas.{new-left}
use Rattle.wb_archive.specs.Tables.{HasFittingTake}

relisted-fits : (state : State) (number : ℕ) (listed : Listed) (built : Option Built) (current : Record)
    → HasFittingTake current → HasFittingTake (relisted state number listed built current)
unfolding relisted
relisted-fits state number listed built current =
    if-kept (λ take_number. take_number ≤ count_limit) (is_held state) current.take

new-fits : (listed : Listed) (built : Option Built) → HasFittingTake (new_record listed built)
new-fits listed built = (new-left listed built).take (λ take_number. take_number ≤ count_limit) tt

-- a record at a later version has no take number
newer-fits : (listed : Listed) (built : Option Built) (current : Record)
    → HasFittingTake (newer_record listed built current)
unfolding newer_record
newer-fits listed built current =
    relisted-fits (newer_state listed built current) (newer_number listed built current) listed built
    (record current { version = listed.version; message = []; holder = None; take = None }) tt

same-fits : (listed : Listed) (built : Option Built) (is_met : Bool) (current : Record)
    → HasFittingTake current → HasFittingTake (same_record_given listed built is_met current)
same-fits listed built is_met current =
    relisted-fits (same_state_given listed built is_met current) (same_number listed built current) listed built current

-- a record whose source package is listed, if the one before it fits
listed-fits : (listed : Listed) (built : Option Built) (is_met : Bool) (current : Record)
    → HasFittingTake current → HasFittingTake (listed_record_given listed built is_met current)
listed-fits listed built is_met current fits = at (version_cmp current.version listed.version) where
  at : (order : Ordering) → HasFittingTake (match_ordering order (newer_record listed built current)
      (same_record_given listed built is_met current) current)
  at Less = newer-fits listed built current
  at Equal = same-fits listed built is_met current fits
  at Greater = fits

given-fits : (current : Option Record) (listed : Option Listed) (built : Option Built) (is_met : Bool)
    → IfSome current HasFittingTake → IfSome (record_given current listed built is_met) HasFittingTake
given-fits current None built is_met fits = tt
given-fits None (Some listed) built is_met fits = new-fits listed built
given-fits (Some current) (Some listed) built is_met fits = listed-fits listed built is_met current fits

-- the record that is found by rows has a take number that fits, if the one before it has
pub found-fits : (arch : ArchWords) (current : Option Record) (name : List ℕ) (sources : List SourceRow)
    (binaries : List BinaryRow) (is_met : Bool) → IfSome current HasFittingTake
    → IfSome (record_found arch current name sources binaries is_met) HasFittingTake
unfolding record_found
found-fits arch current name sources binaries is_met =
    given-fits current (listed_in arch sources name) (built_in binaries name) is_met
