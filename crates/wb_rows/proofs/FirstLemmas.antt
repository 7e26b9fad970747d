-- The rank of a record by both schemas.
use Rattle.std.proofs.Common.{◌≡◌, pos, ◌+◌, ap, arith}
use Rattle.std.specs.Prelude.{◌-ℤ◌, nat_abs}
use Rattle.wb_states.specs.declared.record.Record.{Record}
use Rattle.wb_states.specs.Queue.{below_greatest, rank_of}
use Rattle.wb_rows.specs.FirstSchema.{first_rank_of, rank_step}

-- how far build priority 0 is from the greatest
far : (current : Record) → current.build_priority ≡ pos 0 → below_greatest current ≡ 1000
far current is = ap (λ p. nat_abs (pos 1000 -ℤ p)) is

pub rank_of-first : (current : Record) → current.build_priority ≡ pos 0 → rank_of current ≡ first_rank_of current + rank_step
rank_of-first current is =
    let below : below_greatest current ≡ 1000 = far current is in
    omega arith
