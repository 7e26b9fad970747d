-- The records so far were put, and the others are left.
use Rattle.std.proofs.Common.{drop}
use Rattle.std.proofs.Common.{map as each}
use Rattle.wb_states.specs.Lookups.{entry_of}
use Rattle.wb_states.specs.Machine.{Machine}
use Rattle.wb_store.proofs.UpgradeLemmas.{IsOnWay}
use Rattle.wb_store.proofs.upgrading.put_all.Given as goal

abbrev pub invariant-loop-read : goal.invariant-loop-read
invariant-loop-read g l = (machine : Machine) → IsOnWay g.S.Store machine (each entry_of l.fn.records) (each entry_of (drop l.read-index l.records)) l.fn.conn l.conn
