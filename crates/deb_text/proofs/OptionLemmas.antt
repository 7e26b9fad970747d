-- Checks of which none fails, and values that come where none does.
use Rattle.std.proofs.Common.{◌≡◌, List, [], ◌∷◌, Option, Some, None, Ok, Err, refl}
use Rattle.std.specs.Prelude.{IsOk}
use Rattle.std.specs.List.{AllByRecursion}
use Rattle.std.specs.Option.{option_or}
use Rattle.deb_text.specs.Options.{first_some, ok_unless}

-- a value is given where there is no fault, and a fault is told where there is one
pub ok_unless-Ok : {X E : Type 0} (fault : Option E) (value found : X) → ok_unless fault value ≡ Ok found → (fault ≡ None) × (value ≡ found)
ok_unless-Ok None value found e = (refl, cc)
ok_unless-Ok (Some told) value found e = cc

pub ok_unless-IsOk : {X E : Type 0} (fault : Option E) (value : X) → IsOk (ok_unless fault value) → fault ≡ None
ok_unless-IsOk None value h = refl
ok_unless-IsOk (Some told) value h = cc

pub ok_unless-Err : {X E : Type 0} (fault : Option E) (value : X) (told : E) → ok_unless fault value ≡ Err told → fault ≡ Some told
ok_unless-Err None value told e = cc
ok_unless-Err (Some other) value told e = cc

-- where neither is there, neither is there alone
pub option_or-None : {X : Type 0} (one other : Option X) → option_or one other ≡ None → (one ≡ None) × (other ≡ None)
option_or-None None other is = (refl, is)
option_or-None (Some x) other is = cc

-- where none is the first, none is there
pub first_some-None : {X : Type 0} (checks : List (Option X)) → first_some checks ≡ None → AllByRecursion (λ check. check ≡ None) checks
first_some-None [] is = tt
first_some-None (check ∷ checks) is =
    let both = option_or-None check (first_some checks) is in (both.0, first_some-None checks both.1)
