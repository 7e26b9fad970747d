-- The forms of the words of relations: the names of packages (Debian Policy 5.6.1), and what architectures are made of (11.1.1).
use Rattle.std.specs.Prelude.{ℕ, ◌==◌, Bool, ◌&&◌, ◌||◌, List, length, nat_lt}
use Prim.Native.Char.{code}
use Rattle.std.specs.Char.{is_ascii_lowercase, is_ascii_digit}
use Rattle.std.specs.List.{list_all}
use Rattle.deb_text.specs.Lists.{begins}

-- a lower-case letter or a digit (Policy 5.6.1)
unfoldable pub is_lower_or_digit : ℕ → Bool
is_lower_or_digit c = is_ascii_lowercase c || is_ascii_digit c

-- a character of which the name of a package is made (Policy 5.6.1)
unfoldable pub is_package_char : ℕ → Bool
is_package_char c = is_lower_or_digit c || (c == code "+" || (c == code "-" || c == code "."))

-- a character of which a qualifier and an architecture word are made (Policy 11.1.1)
unfoldable pub is_arch_char : ℕ → Bool
is_arch_char c = is_lower_or_digit c || c == code "-"

-- whether a text begins with a lower-case letter or a digit (Policy 5.6.1)
abbrev pub begins_with_lower_or_digit : List ℕ → Bool
begins_with_lower_or_digit text = begins is_lower_or_digit text

-- an architecture word, also one that matches several architectures (Policy 11.1.1, the form this project's own)
unfoldable pub is_arch_word : List ℕ → Bool
is_arch_word word = begins_with_lower_or_digit word && list_all is_arch_char word

-- the name of a package, of 2 to 200 bytes (Policy 5.6.1, the upper limit this project's own)
unfoldable pub is_package_name : List ℕ → Bool
is_package_name name =
    begins_with_lower_or_digit name
    && (list_all is_package_char name && (nat_lt 1 (length name) && nat_lt (length name) 201))
