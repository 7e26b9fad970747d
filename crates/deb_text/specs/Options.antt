-- Values that may be missing, and the faults of checks.
use Rattle.std.specs.Prelude.{Bool, false, List, [], ◌∷◌, Option, None, Some, Result, Ok, Err}
use Rattle.std.specs.Option.{option_or, option_map_or}

-- whether a value is there and passes the test
abbrev pub has_value : {X : Type 0} → (X → Bool) → Option X → Bool
has_value test value = option_map_or test value false

-- the first of some values that is there
abbrev pub first_some : {X : Type 0} → List (Option X) → Option X
first_some [] = None
first_some (one ∷ later) = option_or one (first_some later)

-- the value, unless there is a fault
abbrev pub ok_unless : {X E : Type 0} → Option E → X → Result X E
ok_unless None value = Ok value
ok_unless (Some fault) value = Err fault

-- a value and more values after it, if both are there
abbrev pub both : {X : Type 0} → Option X → Option (List X) → Option (List X)
both None more = None
both (Some x) None = None
both (Some x) (Some xs) = Some (x ∷ xs)

-- the readings of all items, if each has one
abbrev pub all_some : {X Y : Type 0} → (X → Option Y) → List X → Option (List Y)
all_some f [] = Some []
all_some f (x ∷ xs) = both (f x) (all_some f xs)
