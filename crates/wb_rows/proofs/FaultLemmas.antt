-- What is said of a row that a `?` gives up on.
use Rattle.std.proofs.Common.{◌≡◌, sym, ◌∙◌}
use Rattle.std.specs.Prelude.{Result, Ok, Err, IfErr}
use Rattle.std.specs.Result.{IsErrAnd}
use Rattle.wb_rows.specs.declared.fault.RowFault.{RowFault}
use Rattle.wb_rows.specs.declared.fault.RowFault.TheVariants.{Malformed}

-- the fault is passed on as it is
pub passed : {T P : Type 0} (fault : RowFault) (result : Result T RowFault) → IsErrAnd result (λ e. e ≡ fault) → (fault ≡ Malformed → P) → IfErr result (λ e. e ≡ Malformed → P)
passed fault (Ok value) same why = absurd same
passed fault (Err e) same why = λ is. why (sym same ∙ is)

-- a fault of the database, or of a version, is passed on as another one, and tells what it is not
pub turned : {T P Q : Type 0} (result : Result T RowFault) → IsErrAnd result (λ fault. fault ≡ Malformed → Q) → (Q → P) → IfErr result (λ fault. fault ≡ Malformed → P)
turned (Ok value) given why = absurd given
turned (Err fault) given why = λ is. why (given is)
