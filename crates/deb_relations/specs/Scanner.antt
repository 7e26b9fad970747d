-- Which characters a class has, and the bytes of borrowed texts.
use Rattle.std.specs.Prelude.{ℕ, Bool, List}
use denote.Ref.{Bor}
use Rattle.deb_relations.specs.declared.scanner.Class.{Class}
use Rattle.deb_relations.specs.declared.scanner.Class.TheVariants.{White, Solid, Package, Arch, Profile, Op}
use Rattle.deb_relations.specs.Grammar.{is_white, is_profile_char, is_op_char}
use Rattle.deb_relations.specs.Names.{is_package_char, is_arch_char}
use Rattle.deb_relations.specs.Reader.{is_solid}

-- whether a character is of the class
abbrev pub test_of : Class → ℕ → Bool
test_of White = is_white
test_of Solid = is_solid
test_of Package = is_package_char
test_of Arch = is_arch_char
test_of Profile = is_profile_char
test_of Op = is_op_char

-- the bytes of a borrowed text
abbrev pub text_of : Bor (List ℕ) → List ℕ
text_of text = text.now

-- the bytes of two borrowed texts
abbrev pub halves_of : Bor (List ℕ) × Bor (List ℕ) → List ℕ × List ℕ
halves_of halves = (halves.0.now, halves.1.now)
