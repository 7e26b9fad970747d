use Rattle.std.proofs.Common.{Some, None}
use Rattle.std.proofs.lemmas.Bool.Decides.{Decides-eqb}
use Rattle.std.proofs.lemmas.Slice.Eq.{strip_prefix_is, slice_eq-Decides}
use Rattle.deb_relations.proofs.ArchLemmas.{joined-some, joined-none}
use Rattle.deb_relations.proofs.arch.is_joined.Goals as goal

pub returns-in-Some : goal.returns-in-Some
returns-in-Some c =
    joined-some _ _ _ _ _ _ c.in-Some.rest.now c.eq.result c.as_bytes.ensures.value c.as_bytes-2.ensures.value c.as_bytes-in-Some.ensures.value
    (strip_prefix_is Decides-eqb c.as_bytes.result.now c.as_bytes-2.result.now (Some c.in-Some.rest) c.in-Some.ensures.cases)
    (slice_eq-Decides Decides-eqb _ _ _ c.eq.ensures)

pub returns-in-None : goal.returns-in-None
returns-in-None c =
    joined-none _ _ _ _ _ c.as_bytes.ensures.value c.as_bytes-2.ensures.value
    (strip_prefix_is Decides-eqb c.as_bytes.result.now c.as_bytes-2.result.now None c.in-None.ensures.cases)
