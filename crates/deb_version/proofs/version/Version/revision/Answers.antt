use Rattle.std.proofs.Common.{◌≡◌, refl, ◌+◌, cond, ℕ, List, drop, Some, None, ap, ◌∙◌, sym, subst, arith}
use Rattle.std.specs.Str.{IsCharBoundary}
use Rattle.deb_version.specs.Syntax.{parts_of, has_revision, upstream_end, revision_text}
use Rattle.deb_version.proofs.ReadingLemmas.{revision_place, revision_boundary, has_revision-end, has_revision-whole}
use Rattle.deb_version.proofs.version.Version.revision.Goals as goal

pub range_from-requires : goal.range_from-requires
range_from-requires c =
    let t : List ℕ = c.as_str-text.result.now in
    let to = c.self.invariant.to ∙ ap upstream_end (sym c.as_str-text.ensures.value) in
    λ _. subst (λ n. IsCharBoundary t (n + 1)) (sym to)
    (revision_boundary t c.as_str-text.utf8 (has_revision-end t (omega (arith, to))))

pub returns-then-self-text : goal.returns-then-self-text
unfolding parts_of
returns-then-self-text c =
    let t : List ℕ = c.as_str-text.result.now in
    let same = c.as_str-text.ensures.value ∙ c.self.view_is in
    let to = c.self.invariant.to ∙ ap upstream_end (sym c.as_str-text.ensures.value) in
    let written = has_revision-end t (omega (arith, to)) in
    let part = c.range_from.ensures.value ∙ ap (λ n. drop (n + 1) t) to ∙ (revision_place t written).after in
    subst (λ s. Some c.range_from.result.now ≡ cond (has_revision s) (Some (revision_text s)) None) same (rw written (ap Some part))

pub returns-else-self-text : goal.returns-else-self-text
unfolding parts_of
returns-else-self-text c =
    let t : List ℕ = c.as_str-text.result.now in
    let same = c.as_str-text.ensures.value ∙ c.self.view_is in
    let to = c.self.invariant.to ∙ ap upstream_end (sym c.as_str-text.ensures.value) in
    let absent = has_revision-whole t (omega (arith, to)) in
    subst (λ s. None ≡ cond (has_revision s) (Some (revision_text s)) None) same (rw absent refl)
