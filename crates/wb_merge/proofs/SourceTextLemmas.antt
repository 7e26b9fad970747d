-- A text that names a source package is its name, or its name and a version in brackets.
use Rattle.std.proofs.Common.{◌≡◌, ℕ, ◌+◌, suc, Bool, true, false, cond, not, ◌&&◌, ◌||◌, List, [], ◌∷◌, ◌++◌, length, reverse, take, drop, bytes_eq, Option, Some, None, ◌⊎◌, inl, inr, refl, sym, ap, ◌∙◌, append_assoc, arith}
use Rattle.std.specs.Prelude.{codes}
use Rattle.std.specs.List.{list_any, list_all, position_or_len, before_first, after_first}
use Rattle.std.proofs.lemmas.Bool.{and_parts, eqb-true, or_parts}
use Rattle.std.proofs.lemmas.List.{take_all}
use Rattle.std.proofs.lemmas.List.Folds.{list_any-append}
use Rattle.std.proofs.Math.Seq.{take-append_seam, drop-append-add}
use Rattle.std.proofs.lemmas.Option.{cond_some}
use Rattle.deb_version.specs.Syntax.{is_version_text}
use Rattle.deb_text.specs.Options.{has_value}
use Rattle.deb_relations.specs.Names.{is_package_name, is_package_char, is_lower_or_digit}
use Rattle.wb_merge.specs.Rows.{is_space, in_brackets, source_name, has_source_version, source_version, is_source_text, with_version, NamesSource}
use Rattle.wb_merge.proofs.NameLemmas.{bytes_eq-is}
use Rattle.wb_merge.proofs.SourceLemmas.{closed, last_is}

-- ---- the first space

no_space-char : (c : ℕ) → is_package_char c ≡ true → is_space c ≡ false
unfolding is_package_char is_lower_or_digit
no_space-char c h =
    elim (is_space c) as (λ b. is_space c ≡ b → b ≡ false) [
      | true ↦ λ e. absurd (never (sym (ap is_package_char (eqb-true c 32 e)) ∙ h))
      | false ↦ λ _. refl
    ] refl
  where
    never : false ≡ true → ⊥
    never e = cc

no_space-all : (name : List ℕ) → list_all is_package_char name ≡ true → list_any is_space name ≡ false
no_space-all [] h = refl
no_space-all (c ∷ cs) h =
    let parts = and_parts (is_package_char c) (list_all is_package_char cs) h in
    λ i. no_space-char c parts.0 i || no_space-all cs parts.1 i

no_space-name : (name : List ℕ) → is_package_name name ≡ true → list_any is_space name ≡ false
unfolding is_package_name
no_space-name name h = no_space-all name (and_parts _ _ (and_parts _ _ h).1).0

place-none : (name : List ℕ) → list_any is_space name ≡ false → position_or_len is_space name ≡ length name
place-none [] h = refl
place-none (c ∷ cs) h =
    let parts = or_parts (is_space c) (list_any is_space cs) h in
    ap (λ (b : Bool). cond (not b) (1 + position_or_len is_space cs) 0) parts.0 ∙ omega (arith, place-none cs parts.1)

place-behind : (name rest : List ℕ) → list_any is_space name ≡ false → position_or_len is_space (name ++ 32 ∷ rest) ≡ length name
place-behind [] rest h = refl
place-behind (c ∷ cs) rest h =
    let parts = or_parts (is_space c) (list_any is_space cs) h in
    ap (λ (b : Bool). cond (not b) (1 + position_or_len is_space (cs ++ 32 ∷ rest)) 0) parts.0 ∙ omega (arith, place-behind cs rest parts.1)

-- ---- a name alone

pub name-alone : (name : List ℕ) → is_package_name name ≡ true → NamesSource name name None
unfolding is_source_text source_name has_source_version
name-alone name h =
    let none = no_space-name name h in
    let named : source_name name ≡ name = ap (λ (n : ℕ). take n name) (place-none name none) ∙ take_all (length name) name (omega arith) in
    record {
      good = λ i. (ap is_package_name named ∙ h) i && (not (none i) || has_value is_version_text (source_version name));
      named = named;
      written = ap (λ (b : Bool). cond b (source_version name) None) none;
    }

-- ---- a name and a version

-- what stands behind the space
in_text : (name version : List ℕ) → with_version name version ≡ name ++ 32 ∷ 40 ∷ (version ++ 41 ∷ [])
in_text name version = append_assoc (name ++ codes " (") version (codes ")") ∙ append_assoc name (codes " (") (version ++ codes ")")

pub name-with_version : (name version : List ℕ) → is_package_name name ≡ true → is_version_text version ≡ true → NamesSource (with_version name version) name (Some version)
unfolding is_source_text source_name has_source_version source_version
name-with_version name version h v =
    let none = no_space-name name h in
    let rest : List ℕ = 40 ∷ (version ++ 41 ∷ []) in
    let named : source_name (with_version name version) ≡ name =
    ap source_name (in_text name version) ∙ ap (λ (n : ℕ). take n (name ++ 32 ∷ rest)) (place-behind name rest none) ∙ take-append_seam name (32 ∷ rest) in
    let spaced : has_source_version (with_version name version) ≡ true =
    ap has_source_version (in_text name version) ∙ list_any-append is_space name (32 ∷ rest) ∙ ap (λ (b : Bool). b || true) none in
    let inner : source_version (with_version name version) ≡ Some version =
    ap source_version (in_text name version)
    ∙ ap (λ (n : ℕ). in_brackets (drop (n + 1) (name ++ 32 ∷ rest))) (place-behind name rest none)
    ∙ ap in_brackets (drop-append-add name (32 ∷ rest) 1)
    ∙ closed (version ++ 41 ∷ []) version refl in
    record {
      good = λ i. (ap is_package_name named ∙ h) i && (not (spaced i) || (ap (has_value is_version_text) inner ∙ v) i);
      named = named;
      written = (λ i. cond (spaced i) (inner i) None);
    }

-- ---- no other text

bracket-is : (c d : ℕ) → bytes_eq (c ∷ []) (d ∷ []) ≡ true → c ≡ d
bracket-is c d e = let same : c ∷ [] ≡ d ∷ [] = bytes_eq-is (c ∷ []) (d ∷ []) e in cc

chosen-first : {X : Type 0} (b : Bool) (o : Option X) (y : X) → cond b o None ≡ Some y → (b ≡ true) × (o ≡ Some y)
chosen-first true o y e = (refl, e)
chosen-first false o y e = absurd cc

-- what ends in a bracket, read backwards
unbracketed : (inner backwards version : List ℕ) → reverse inner ≡ backwards → in_brackets (40 ∷ inner) ≡ Some version → inner ≡ version ++ 41 ∷ []
unbracketed inner [] version e is = let none = rw e at is in absurd cc
unbracketed inner (c ∷ cs) version e is =
    let parts = cond_some (bytes_eq (c ∷ []) (codes ")")) (reverse cs) version (rw e at is) in
    last_is inner c cs e ∙ (λ i. parts.1 i ++ bracket-is c 41 parts.0 i ∷ [])

in_brackets-is : (text version : List ℕ) → in_brackets text ≡ Some version → text ≡ 40 ∷ (version ++ 41 ∷ [])
in_brackets-is [] version is = absurd cc
in_brackets-is (c ∷ cs) version is =
    let parts = chosen-first (bytes_eq (c ∷ []) (codes "(")) (in_brackets (40 ∷ cs)) version is in
    λ i. bracket-is c 40 parts.0 i ∷ unbracketed cs (reverse cs) version refl parts.1 i

space-split : (text : List ℕ) → list_any is_space text ≡ true → text ≡ before_first is_space text ++ 32 ∷ after_first is_space text
space-split [] h = absurd cc
space-split (c ∷ cs) h =
    let n = position_or_len is_space cs in
    let rest = space-split cs in
    (elim (is_space c) as (λ b. is_space c ≡ b → (b || list_any is_space cs) ≡ true
    → c ∷ cs ≡ take (cond (not b) (1 + n) 0) (c ∷ cs) ++ 32 ∷ drop (cond (not b) (1 + n) 0 + 1) (c ∷ cs)) [
      | true ↦ λ e _. λ i. eqb-true c 32 e i ∷ cs
      | false ↦ λ _ later.
          let one : suc n ≡ 1 + n = omega arith in
          let two : suc (n + 1) ≡ 1 + n + 1 = omega arith in
          ap (λ (xs : List ℕ). c ∷ xs) (rest later) ∙ (λ i. take (one i) (c ∷ cs) ++ 32 ∷ drop (two i) (c ∷ cs))
    ]) refl h

has_value-some : (test : List ℕ → Bool) (o : Option (List ℕ)) → has_value test o ≡ true → (text : List ℕ) × (o ≡ Some text)
has_value-some test None h = absurd cc
has_value-some test (Some text) h = (text, refl)

pub source_text-is : (text : List ℕ) → is_source_text text ≡ true
    → (text ≡ source_name text) ⊎ ((version : List ℕ) × (text ≡ with_version (source_name text) version))
unfolding is_source_text source_name has_source_version source_version
source_text-is text h =
    (elim (list_any is_space text) as (λ b. list_any is_space text ≡ b → (not b || has_value is_version_text (source_version text)) ≡ true
    → (text ≡ source_name text) ⊎ ((version : List ℕ) × (text ≡ with_version (source_name text) version))) [
      | true ↦ λ spaced good.
          let there = has_value-some is_version_text (source_version text) good in
          inr (
            there.0,
            space-split text spaced
                ∙ ap (λ (rest : List ℕ). source_name text ++ 32 ∷ rest) (in_brackets-is (after_first is_space text) there.0 there.1)
                ∙ sym (in_text (source_name text) there.0),
          )
      | false ↦ λ none _.
          inl (sym (ap (λ (n : ℕ). take n text) (place-none text none) ∙ take_all (length text) text (omega arith)))
    ]) refl (and_parts _ _ h).1
