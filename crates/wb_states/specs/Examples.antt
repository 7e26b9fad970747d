-- Records by what the queue goes by.
use Rattle.std.specs.Prelude.{ℕ, ℤ, Bool, List}
use Rattle.wb_states.specs.declared.record.Record.{Record}

-- a record as another one, but for its build priority, whether it was built earlier, its priority and its section
abbrev pub with_place : Record → ℤ → Bool → List ℕ → List ℕ → Record
with_place one build_priority earlier priority section =
    record one { build_priority = build_priority; earlier = earlier; priority = priority; section = section }
