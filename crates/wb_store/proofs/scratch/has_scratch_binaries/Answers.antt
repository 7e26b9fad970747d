use Rattle.std.proofs.Common.{inl, inr, refl}
use Rattle.wb_store.specs.Queries as ask
use Rattle.wb_store.proofs.scratch.has_scratch_binaries.Goals as goal

pub returns : goal.returns
returns g c = record { tests = c.has_row.ensures.tests ask.OneBinary (inr (inl refl)) refl c.first_scratch_binary.ensures }
