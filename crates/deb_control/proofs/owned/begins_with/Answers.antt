use Rattle.std.proofs.Common.{◌≡◌, ◌∙◌, sym, ap, length, map, take, List, ℕ, arith}
use Rattle.std.specs.Char.{to_ascii_lowercase}
use Rattle.std.proofs.lemmas.Bool.Decides.{nat_tests}
use Rattle.deb_control.proofs.IndexLemmas.{begins-named}
use Rattle.deb_control.proofs.owned.begins_with.Goals as goal

pub returns-then-name-bytes : goal.returns-then-name-bytes
returns-then-name-bytes c = λ same.
    c.eq_ignore_ascii_case.ensures.test.1
    (ap (λ (bytes : List ℕ). map to_ascii_lowercase (take (length c.args.name.now) bytes)) c.as_bytes-bytes.ensures.value
    ∙ (begins-named c.args.name.now c.args.text.now same).1
    ∙ ap (map to_ascii_lowercase) (sym c.as_bytes.ensures.value))

pub returns-else-name-bytes : goal.returns-else-name-bytes
returns-else-name-bytes c = λ same.
    let fits = (begins-named c.args.name.now c.args.text.now same).0 in
    let long : length c.as_bytes-bytes.result.now ≡ length c.args.text.now = ap length c.as_bytes-bytes.ensures.value in
    grind (arith, nat_tests)
