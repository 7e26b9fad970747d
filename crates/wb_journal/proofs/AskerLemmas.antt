-- The name that lies in who gives commands.
use Rattle.std.proofs.Common.{◌≡◌, ◌≤◌, ℕ, true, List, ◌++◌, length, take, Option, Some, Result, Ok, Err, Bor, arith}
use Rattle.std.proofs.Common.{ap, sym, subst, ◌∙◌}
use Rattle.std.specs.Prelude.{IfSome, MatchResult}
use Rattle.std.specs.Option.{option_map}
use Rattle.std.specs.Result.{result_ok}
use Rattle.std.specs.Str.{IsUtf8, is_utf8}
use Rattle.std.proofs.lemmas.List.{take-append-le, take_all}
use Rattle.std.proofs.lemmas.Str.{IsUtf8-from_is_utf8}

-- what was copied over the front of a room is read back
pub front-kept : (name front rest : List ℕ) → front ≡ name → take (length name) (front ++ rest) ≡ name
front-kept name front rest is =
    ap (λ f. take (length name) (f ++ rest)) is ∙ take-append-le (length name) name rest (omega arith)
    ∙ take_all (length name) name (omega arith)

-- the name is read as the text that it is, since it is UTF-8
pub name-read : {E : Type 0} (Fault : E → Type 0) (bytes : List ℕ) (long : ℕ) (kept : Option ℕ)
    (read : Result (Bor (List ℕ)) E) → kept ≡ Some long
    → IfSome kept (λ (n : ℕ). (n ≤ 64) × (is_utf8 (take n bytes) ≡ true))
    → MatchResult read (λ name. (name.now ≡ take long bytes) × IsUtf8 (take long bytes))
    (λ fault. ¬ IsUtf8 (take long bytes) × Fault fault)
    → option_map (λ (name : Bor (List ℕ)). name.now) (result_ok read) ≡ option_map (λ (n : ℕ). take n bytes) kept
name-read Fault bytes long kept (Ok name) is whole told =
    ap Some told.0 ∙ ap (option_map (λ (n : ℕ). take n bytes)) (sym is)
name-read Fault bytes long kept (Err fault) is whole told =
    let held = subst (λ k. IfSome k (λ (n : ℕ). (n ≤ 64) × (is_utf8 (take n bytes) ≡ true))) is whole in
    absurd (told.0 (IsUtf8-from_is_utf8 (take long bytes) held.1))
