-- Why a value is not read.
use Rattle.std.proofs.Common.{◌≡◌, ◌≢◌, ◌⊎◌, inl, inr, ℕ, ℤ, ◌≤◌, Bool, true, false, List, Option, Some, None, sym, ap, subst, ◌∙◌, arith}
use Rattle.std.specs.Prelude.{◌^◌, ◌<◌, pos, IsUtf8, IfSome, FitsSigned, MatchOption, Err, is_ok}
use Rattle.std.specs.Int.{w16}
use Rattle.deb_version.specs.declared.fault.VersionFault.{VersionFault}
use Rattle.deb_version.specs.Syntax.{reading_of}
use Rattle.sqlite.specs.declared.types.Value.{Value}
use Rattle.sqlite.specs.declared.types.Value.TheVariants.{Int, Null, Text}
use Rattle.wb_states.specs.declared.state.State.{State}
use Rattle.wb_states.specs.declared.state.State.TheVariants.{NeedsBuild, Building, Built, Uploaded, Installed, DepWait, BdUninstallable, Failed, NotForUs, BuildAttempted}
use Rattle.wb_states.specs.State.{code_of}
use Rattle.wb_rows.specs.Cells.{number, number_or_null, flag, text_or_null}
use Rattle.wb_rows.specs.Reading.{HoldsNone, IsVersion, state_cell, text_cell}
use Rattle.wb_rows.proofs.CellsLemmas.{int-same, number-same, text-same}
use Rattle.wb_rows.proofs.TextLemmas.{version-utf8}

module _ (value : Value) where
  -- what `sqlite` reads as a text
  abbrev pub IsText : Type 0
  IsText = (text : List ℕ) × (value ≡ Text text) × IsUtf8 text

  pub no_text : ¬ IsText → HoldsNone text_cell IsUtf8 value
  no_text none text utf8 same = none (text, same, utf8)

  pub no_version_text : ¬ IsText → HoldsNone text_cell IsVersion value
  no_version_text none text version same = none (text, same, version-utf8 text version)

  pub no_optional_text : ¬ ((value ≡ Null) ⊎ IsText) → HoldsNone text_or_null (λ text. IfSome text IsUtf8) value
  no_optional_text none None fits same = none (inl same)
  no_optional_text none (Some text) fits same = none (inr (text, same, fits))

  pub no_version : (text : List ℕ) (fault : VersionFault) → value ≡ text_cell text → reading_of text ≡ Err fault → HoldsNone text_cell IsVersion value
  no_version text fault is refused other version same =
      let one : other ≡ text = text-same other text (sym same ∙ is) in
      let ok : true ≡ false = sym version ∙ ap (λ t. is_ok (reading_of t)) one ∙ ap is_ok refused in
      cc

  -- what `sqlite` reads as a number from 0
  abbrev pub IsNumber : Type 0
  IsNumber = (n : ℕ) × (value ≡ Int (pos n))

  pub no_number : ¬ IsNumber → (n : ℕ) → value ≢ number n
  no_number none n same = none (n, same)

  pub no_optional_number : ¬ ((value ≡ Null) ⊎ IsNumber) → (n : Option ℕ) → value ≢ number_or_null n
  no_optional_number none None same = none (inl same)
  no_optional_number none (Some n) same = none (inr (n, same))

  pub optional_number-is : (n : Option ℕ) → MatchOption n (value ≡ Null) (λ n. (value ≢ Null) × (value ≡ Int (pos n))) → value ≡ number_or_null n
  optional_number-is None h = h
  optional_number-is (Some n) h = h.1

  pub no_rebuild : (n : ℕ) → value ≡ number n → ¬ (n < 2 ^ 16) → HoldsNone number (λ n. n < 2 ^ 16) value
  no_rebuild n is large other small same =
      let one : other ≡ n = number-same other n (sym same ∙ is) in
      large (subst (λ (m : ℕ). m < 2 ^ 16) one small)

  pub no_build_priority : (n : ℤ) → value ≡ Int n → ¬ (FitsSigned w16 n) → HoldsNone Int (FitsSigned w16) value
  no_build_priority n is large other small same = large (subst (λ (m : ℤ). FitsSigned w16 m) (int-same other n (sym same ∙ is)) small)

  pub no_flag : (n : ℕ) → value ≡ number n → n ≢ 0 → n ≢ 1 → (is : Bool) → value ≢ flag is
  no_flag n is not_0 not_1 true same = not_1 (number-same n 1 (sym is ∙ same))
  no_flag n is not_0 not_1 false same = not_0 (number-same n 0 (sym is ∙ same))

  pub no_state : (n : ℕ) → value ≡ number n → ((state : State) → code_of state ≢ n) → (state : State) → value ≢ state_cell state
  no_state n is none state same = none state (number-same (code_of state) n (sym same ∙ is))

-- the greatest number of a state
pub code_of-most : (state : State) → code_of state ≤ 9
code_of-most NeedsBuild = omega arith
code_of-most Building = omega arith
code_of-most Built = omega arith
code_of-most Uploaded = omega arith
code_of-most Installed = omega arith
code_of-most DepWait = omega arith
code_of-most BdUninstallable = omega arith
code_of-most Failed = omega arith
code_of-most NotForUs = omega arith
code_of-most BuildAttempted = omega arith

pub no_code : (n : ℕ) → 9 < n → (state : State) → code_of state ≢ n
no_code n large state same = let most = code_of-most state in absurd (omega arith)
