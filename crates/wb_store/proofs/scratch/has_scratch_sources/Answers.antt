use Rattle.std.proofs.Common.{inl, refl}
use Rattle.wb_store.specs.Queries as ask
use Rattle.wb_store.proofs.scratch.has_scratch_sources.Goals as goal

pub returns : goal.returns
returns g c = record { tests = c.has_row.ensures.tests ask.OneSource (inl refl) refl c.first_scratch_source.ensures }
