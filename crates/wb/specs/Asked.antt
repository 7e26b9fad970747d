-- What is known of a file of an office that is only asked: of the file, or of the copy that stands for it.
use Rattle.std.specs.Prelude.{ℕ, Bool, IsTrue, List}
use Rattle.sqlite_disk.specs.Memory.{memory_bytes, memory_is_usable}
use Rattle.sqlite_disk.specs.declared.memory.Memory.{Memory}
use Rattle.wb.specs.declared.asked.AskedFile.{AskedFile}
use Rattle.wb.specs.declared.asked.ReadOnly.{ReadOnly}
use Rattle.wb.specs.declared.asked.AskedFile.TheVariants.{Kept, Copied}

-- of the file, or of the copy
abbrev pub either : {F C X : Type 0} → (F → X) → (C → X) → AskedFile F C → X
either f g (Kept file) = f file
either f g (Copied copy) = g copy

-- what a crash may leave of either
abbrev pub either_leaves : {F C : Type 0} → (F → List ℕ → Type 0) → (C → List ℕ → Type 0) → AskedFile F C → List ℕ → Type 0
either_leaves f g (Kept file) = f file
either_leaves f g (Copied copy) = g copy

-- what is read of either may stay
pub either_stays : {F C : Type 0} (f : F → List ℕ → Type 0) (seen : F → List ℕ) (g : C → List ℕ → Type 0) (seen_copy : C → List ℕ)
    → ((file : F) → f file (seen file)) → ((copy : C) → g copy (seen_copy copy))
    → (either_file : AskedFile F C) → either_leaves f g either_file (either seen seen_copy either_file)
either_stays f seen g seen_copy h k (Kept file) = h file
either_stays f seen g seen_copy h k (Copied copy) = k copy

-- either is fair if it is clean
pub either_fair : {F C : Type 0} (clean : F → Bool) (fair : F → ℕ → Bool) (clean_copy : C → Bool) (fair_copy : C → ℕ → Bool)
    → ((file : F) (key : ℕ) → IsTrue (clean file) → IsTrue (fair file key)) → ((copy : C) (key : ℕ) → IsTrue (clean_copy copy) → IsTrue (fair_copy copy key))
    → (either_file : AskedFile F C) (key : ℕ) → IsTrue (either clean clean_copy either_file) → IsTrue (either fair fair_copy either_file key)
either_fair clean fair clean_copy fair_copy h k (Kept file) = h file
either_fair clean fair clean_copy fair_copy h k (Copied copy) = k copy

-- ---- a file that is read alone, or a copy in memory

-- what is read of either
abbrev pub asked_bytes : {D : Type 0} → (D → List ℕ) → AskedFile (ReadOnly D) Memory → List ℕ
asked_bytes seen = either (λ kept. seen kept.file) memory_bytes

-- no sync of either has failed
abbrev pub asked_is_usable : {D : Type 0} → (D → Bool) → AskedFile (ReadOnly D) Memory → Bool
asked_is_usable is_usable = either (λ kept. is_usable kept.file) memory_is_usable
