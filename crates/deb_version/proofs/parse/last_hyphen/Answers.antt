use Rattle.std.proofs.Common.{◌≡◌, ℕ, true, not, List, get_or, ap, ◌∙◌, ◌-◌, arith}
use Rattle.std.proofs.lemmas.List.{get_or_default}
use Rattle.std.proofs.lemmas.List.Folds.{list_any_at, list_any_none}
use Rattle.std.proofs.lemmas.List.Sums.{suffix_len_is}
use Rattle.std.proofs.lemmas.Bool.Decides.{nat_tests}
use Rattle.deb_version.specs.Syntax.{is_hyphen}
use Rattle.deb_version.proofs.parse.last_hyphen.Goals as goal

pub returns-then-rest-end-eq45 : goal.returns-then-rest-end-eq45
returns-then-rest-end-eq45 c =
    let r : List ℕ = c.args.rest.now in
    let n : ℕ = c.loop-end.end in
    let at : is_hyphen (get_or r (n - 1) 0) ≡ true = grind (arith, nat_tests) in
    let len = suffix_len_is (λ c. not (is_hyphen c)) r n 0 c.loop-end.invariant.0 (λ k a b. ap not (c.loop-end.invariant.1 k a b)) (λ _. ap not at) in
    (list_any_at is_hyphen r (n - 1) 0 (omega arith) at, omega (arith, len))

pub returns : goal.returns
returns c =
    let r : List ℕ = c.args.rest.now in
    list_any_none is_hyphen r (λ k d h. ap is_hyphen (get_or_default r k d 0 h) ∙ c.loop-end.invariant.1 k (omega arith) h)
