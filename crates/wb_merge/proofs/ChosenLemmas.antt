-- The states that a merge may choose for a record.
use Rattle.std.proofs.Common.{Bool, true, false, cond, Option}
use Rattle.deb_relations.specs.Satisfaction.{Pairs}
use Rattle.wb_states.specs.declared.record.Record.{Record}
use Rattle.wb_states.specs.declared.state.State.{State}
use Rattle.wb_states.specs.declared.state.State.TheVariants.{NeedsBuild, Installed, NotForUs}
use Rattle.wb_states.specs.State.{is_not_for_us, is_installed, is_dep_wait}
use Rattle.wb_merge.specs.declared.listing.Listed.{Listed}
use Rattle.wb_merge.specs.declared.listing.Built.{Built}
use Rattle.wb_merge.specs.Merge.{covers, are_waits_met, new_state, newer_state, same_state}

module _ (P : State → Type 0) where
  -- the state that a test chooses
  chosen : (test : Bool) (one other : State) → P one → P other → P (cond test one other)
  chosen true one other first second = first
  chosen false one other first second = second

  pub new-chosen : (listed : Listed) (built : Option Built) → P Installed → P NeedsBuild → P (new_state listed built)
  new-chosen listed built installed waits = chosen (covers built listed.version 0) Installed NeedsBuild installed waits

  pub newer-chosen : (listed : Listed) (built : Option Built) (current : Record) → P NotForUs → P Installed → P NeedsBuild → P (newer_state listed built current)
  newer-chosen listed built current not_for_us installed waits =
      chosen (is_not_for_us current.state) NotForUs (new_state listed built) not_for_us (new-chosen listed built installed waits)

  pub same-chosen : (listed : Listed) (built : Option Built) (available : Pairs) (current : Record)
      → P NotForUs → P Installed → P NeedsBuild → P current.state → P (same_state listed built available current)
  same-chosen listed built available current not_for_us installed waits stays =
      let met = cond (are_waits_met available current.waits) NeedsBuild current.state in
      let waiting = cond (is_dep_wait current.state) met current.state in
      let left = cond (is_installed current.state) NeedsBuild waiting in
      let covered = cond (covers built listed.version current.number) Installed left in
      chosen (is_not_for_us current.state) NotForUs covered not_for_us
      (chosen (covers built listed.version current.number) Installed left installed
      (chosen (is_installed current.state) NeedsBuild waiting waits
      (chosen (is_dep_wait current.state) met current.state
      (chosen (are_waits_met available current.waits) NeedsBuild current.state waits stays) stays)))
