use Rattle.std.proofs.Common.{◌≡◌, ◌∙◌, ℕ, List, sym, ap}
use Rattle.std.specs.declared.cmp.Ordering.{Ordering}
use Rattle.std.specs.Ordering.{nat_cmp, ordering_then}
use Rattle.std.specs.Cmp.Lexicographic.{slice_cmp}
use Rattle.deb_version.specs.Syntax.{value_of}
use Rattle.deb_version.proofs.NumberLemmas.{value_of-cmp, then-decided}
use Rattle.deb_version.proofs.order.compare_numbers.Goals as goal

same-values : (a b l r : List ℕ) → value_of a ≡ value_of l → value_of b ≡ value_of r → nat_cmp (value_of a) (value_of b) ≡ nat_cmp (value_of l) (value_of r)
same-values a b l r d e = ap (λ n. nat_cmp n (value_of b)) d ∙ ap (nat_cmp (value_of l)) e

pub returns-in-Equal : goal.returns-in-Equal
returns-in-Equal c =
    let a = c.without_zeros-a in
    let b = c.without_zeros-b in
    let digits : Ordering = slice_cmp nat_cmp a.result.now b.result.now in
    let law = value_of-cmp a.result.now b.result.now (a.ensures.kept c.requires.left_digits) (b.ensures.kept c.requires.right_digits) a.ensures.first b.ensures.first in
    c.cmp-in-Equal.ensures
    ∙ ap (λ o. ordering_then o digits) c.in-Equal.ensures
    ∙ sym law
    ∙ same-values a.result.now b.result.now c.args.left.now c.args.right.now a.ensures.value b.ensures.value

pub returns-in_default : goal.returns-in_default
returns-in_default c =
    let a = c.without_zeros-a in
    let b = c.without_zeros-b in
    let digits : Ordering = slice_cmp nat_cmp a.result.now b.result.now in
    let law = value_of-cmp a.result.now b.result.now (a.ensures.kept c.requires.left_digits) (b.ensures.kept c.requires.right_digits) a.ensures.first b.ensures.first in
    then-decided c.cmp.result digits c.in_default.not-Equal
    ∙ ap (λ o. ordering_then o digits) c.cmp.ensures
    ∙ sym law
    ∙ same-values a.result.now b.result.now c.args.left.now c.args.right.now a.ensures.value b.ensures.value
