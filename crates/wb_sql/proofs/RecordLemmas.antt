-- Rows of the office's tables are taken as they are given.
use Rattle.std.proofs.Common.{◌≡◌, inl, ℕ, ℤ, List, [], ◌∷◌, refl, ap₂}
use Rattle.sqlite.specs.declared.types.Value.{Value}
use Rattle.sqlite.specs.declared.types.Value.TheVariants.{Null, Int, Text as Words}
use Rattle.sqlite.specs.Kind.TheVariants.{Integer, Text}
use Rattle.sqlite.specs.Cast.{cast}
use Rattle.wb_sql.specs.Rows.{IsTyped}
use Rattle.wb_sql.proofs.WriteLemmas.{cast_int}
use Rattle.wb_sql.specs.Tables.{arch, builder, source_record}

-- a record's row, whose holder, take number and relations may be NULL
pub record_typed : (a s v p c w n m : List ℕ) (state earlier number priority rank : ℤ) (holder take depends : Value) → cast Text holder ≡ holder → cast Integer take ≡ take → cast Text depends ≡ depends
    → IsTyped source_record
    (Null ∷ Words a ∷ Words s ∷ Int state ∷ Words v ∷ Words p ∷ Words c ∷ Int earlier ∷ Int number ∷ holder ∷ take ∷ Words w ∷ depends ∷ Words n ∷ Words m ∷ Int priority ∷ Int rank ∷ [])
record_typed a s v p c w n m state earlier number priority rank holder take depends h t d = record {
  row = refl;
  id = inl refl;
  cast =
      ap₂ ◌∷◌ refl (ap₂ ◌∷◌ refl (ap₂ ◌∷◌ (cast_int state) (ap₂ ◌∷◌ refl (ap₂ ◌∷◌ refl (ap₂ ◌∷◌ refl (ap₂ ◌∷◌ (cast_int earlier) (ap₂ ◌∷◌ (cast_int number) (ap₂ ◌∷◌ h (ap₂ ◌∷◌ t (ap₂ ◌∷◌ refl
      (ap₂ ◌∷◌ d (ap₂ ◌∷◌ refl (ap₂ ◌∷◌ refl (ap₂ ◌∷◌ (cast_int priority) (ap₂ ◌∷◌ (cast_int rank) refl)))))))))))))));
  present = refl;
}

pub arch_typed : (name os cpu : List ℕ) → IsTyped arch (Null ∷ Words name ∷ Words os ∷ Words cpu ∷ [])
arch_typed name os cpu = record { row = refl; id = inl refl; cast = refl; present = refl }

pub builder_typed : (name of : List ℕ) → IsTyped builder (Null ∷ Words name ∷ Words of ∷ [])
builder_typed name of = record { row = refl; id = inl refl; cast = refl; present = refl }
