-- What reading a part of a request gave.
use Rattle.std.specs.Prelude.{◌≡◌, Result, Ok, Err, ⊤}
use Rattle.wb_streams.specs.declared.fault.Fault.{Fault}
use Rattle.wb_api.specs.declared.failure.RequestError.{RequestError}
use Rattle.wb_api.specs.declared.failure.RequestError.TheVariants as error

-- what is read, or the fault, unless memory ran out
abbrev pub GivesOr : {X : Type 0} → Result X RequestError → Result X Fault → Type 0
GivesOr (Ok x) what = what ≡ Ok x
GivesOr (Err (error.Fault fault)) what = what ≡ Err fault
GivesOr (Err error.Memory) what = ⊤
