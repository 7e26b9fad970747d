use Rattle.std.proofs.Common.{ℕ, List, ap, ◌∙◌, sym, subst, arith}
use Rattle.std.specs.Str.{IsCharBoundary}
use Rattle.std.specs.List.{slice_range}
use Rattle.deb_version.specs.Syntax.{parts_of, upstream_start, upstream_end, upstream_text}
use Rattle.deb_version.proofs.ReadingLemmas.{upstream_place, start_boundary, end_boundary}
use Rattle.deb_version.proofs.version.Version.upstream.Goals as goal

pub range-requires-clause-start_le_end : goal.range-requires-clause-start_le_end
range-requires-clause-start_le_end c =
    let t : List ℕ = c.as_str.result.now in
    let from = c.self.invariant.from ∙ ap upstream_start (sym c.as_str.ensures.value) in
    let to = c.self.invariant.to ∙ ap upstream_end (sym c.as_str.ensures.value) in
    omega (arith, from, to, (upstream_place t).order)

pub range-requires-clause-start_boundary : goal.range-requires-clause-start_boundary
range-requires-clause-start_boundary c =
    let t : List ℕ = c.as_str.result.now in
    let from = c.self.invariant.from ∙ ap upstream_start (sym c.as_str.ensures.value) in
    λ h. subst (IsCharBoundary t) (sym from) (start_boundary t c.as_str.utf8 (omega (arith, h, from)))

pub range-requires-clause-end_boundary : goal.range-requires-clause-end_boundary
range-requires-clause-end_boundary c =
    let t : List ℕ = c.as_str.result.now in
    let to = c.self.invariant.to ∙ ap upstream_end (sym c.as_str.ensures.value) in
    subst (IsCharBoundary t) (sym to) (end_boundary t)

pub returns : goal.returns
unfolding parts_of
returns c =
    let t : List ℕ = c.as_str.result.now in
    let from = c.self.invariant.from ∙ ap upstream_start (sym c.as_str.ensures.value) in
    let to = c.self.invariant.to ∙ ap upstream_end (sym c.as_str.ensures.value) in
    c.range.ensures.value
    ∙ ap (λ n. slice_range t n c.self.inside.upstream_end) from
    ∙ ap (slice_range t (upstream_start t)) to
    ∙ (upstream_place t).part
    ∙ ap upstream_text (c.as_str.ensures.value ∙ c.self.view_is)
