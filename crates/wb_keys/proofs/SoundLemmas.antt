-- Key files that are read: each name and each hash stands once, each line has a right, and there are not too many.
use Rattle.std.proofs.Common.{◌≡◌, ℕ, ◌+◌, ◌≤◌, Bool, true, false, ◌⊎◌, inl, inr, List, [], ◌∷◌, ◌++◌, length, Option}
use Rattle.std.proofs.Common.{Some, None, Result, Ok, Err, is_some, refl, sym, ap, ◌∙◌, not, subst, arith, rules}
use Rattle.std.specs.Prelude.{bytes_eq, codes, find, IfSome, if◌then◌else◌, nat_le}
use Rattle.std.specs.List.{list_any}
use Rattle.std.specs.Option.{option_or}
use Rattle.std.proofs.lemmas.Bool.Decides.{nat_tests}
use Rattle.std.proofs.lemmas.List.{length-append}
use Rattle.std.proofs.lemmas.List.Folds.{find-append}
use Rattle.std.proofs.lemmas.Slice.Eq.{bytes_eq-Decides}
use Rattle.deb_text.specs.Lines.{words_in}
use Rattle.std.specs.Str.{is_utf8}
use Rattle.deb_text.specs.Lists.{IsIn, begins, is_nonempty}
use Rattle.wb_states.specs.Names.{is_builder_name}
use Rattle.wb_keys.specs.declared.fault.LineFault.{LineFault}
use Rattle.wb_keys.specs.declared.fault.LineFault.TheVariants as fault
use Rattle.wb_keys.specs.declared.key_file.Line.{Line}
use Rattle.wb_keys.specs.declared.key_file.Line.TheVariants.{Skipped, Anyone, Keyed}
use Rattle.wb_keys.specs.declared.keys.KeyLine.{KeyLine}
use Rattle.wb_keys.specs.declared.keys.Keys.{Keys}
use Rattle.wb_keys.specs.declared.right.Right.{Right}
use Rattle.wb_keys.specs.KeyFile.{all_rights, anyone_line, front_of, go_on, has_hash, has_name, is_number_sign}
use Rattle.wb_keys.specs.KeyFile.{key_limit, keyed_line, keys_after, keys_of, last_hash, line_by, line_of}
use Rattle.wb_keys.specs.KeyFile.{line_of_words, no_keys, right_before, right_of, rights_in, said, with_anyone}
use Rattle.wb_keys.specs.KeyFile.{with_key, with_line}
use Rattle.wb_keys.proofs.LineLemmas.{find-none}
use Rattle.wb_keys.proofs.RightLemmas.{list_any-IsIn}

-- the lines of a key file that is read
pub record IsSound (keys : Keys) : Type 0 where
  pub found : (line : KeyLine) → IsIn line keys.lines → find (has_hash line.hash) keys.lines ≡ Some line
  pub names : (one other : KeyLine) → IsIn one keys.lines → IsIn other keys.lines → one.name ≡ other.name → one ≡ other
  pub rights : (line : KeyLine) → IsIn line keys.lines → is_nonempty line.rights ≡ true
  pub anyone : IfSome keys.anyone (λ rights. is_nonempty rights ≡ true)
  pub limit : length keys.lines ≤ key_limit

-- ---- lists

-- an item of a list with one more is one of the list, or that one
last-or : {X : Type 0} (x y : X) (xs : List X) → IsIn x (xs ++ y ∷ []) → IsIn x xs ⊎ (x ≡ y)
last-or x y [] (inl same) = inr same
last-or x y [] (inr none) = absurd none
last-or x y (z ∷ zs) (inl same) = inl (inl same)
last-or x y (z ∷ zs) (inr later) = elim (last-or x y zs later) [ inl here ↦ inl (inr here) | inr same ↦ inr same ]

same_bytes : (text : List ℕ) → bytes_eq text text ≡ true
same_bytes text = (bytes_eq-Decides text text).1 refl

-- ---- rights of lines

-- there is a right where rights were read
abbrev AnyRight : Result (List Right) LineFault → Type 0
AnyRight (Err wrong) = Unit {0}
AnyRight (Ok rights) = is_nonempty rights ≡ true

-- there is a right where a line has rights
abbrev HasRight : Result Line LineFault → Type 0
HasRight (Err wrong) = Unit {0}
HasRight (Ok Skipped) = Unit {0}
HasRight (Ok (Anyone rights)) = is_nonempty rights ≡ true
HasRight (Ok (Keyed line)) = is_nonempty line.rights ≡ true

right_before-any : (one : Result Right LineFault) (later : Result (List Right) LineFault)
    → AnyRight (right_before one later)
right_before-any (Err wrong) later = tt
right_before-any (Ok right) (Err wrong) = tt
right_before-any (Ok right) (Ok later) = refl

rights_in-any : (words : List (List ℕ)) → AnyRight (rights_in words)
rights_in-any [] = tt
rights_in-any (word ∷ words) = right_before-any (right_of word) (all_rights words)

choose : (b : Bool) (one other : Result Line LineFault) → HasRight one → HasRight other
    → HasRight (if b then one else other)
choose true one other h k = h
choose false one other h k = k

said-anyone : (rights : Result (List Right) LineFault) → AnyRight rights → HasRight (said Anyone rights)
said-anyone (Err wrong) h = tt
said-anyone (Ok rights) h = h

said-keyed : (name : List ℕ) (hash : Option (List ℕ)) (rights : Result (List Right) LineFault) → AnyRight rights
    → HasRight (line_by name hash rights)
said-keyed name None rights h = tt
said-keyed name (Some hash) (Err wrong) h = tt
said-keyed name (Some hash) (Ok rights) h = h

anyone-right : (words : List (List ℕ)) → HasRight (anyone_line words)
anyone-right words =
    choose (is_some (last_hash words)) (Err fault.AnyoneWithHash) (said Anyone (rights_in words)) tt
    (said-anyone (rights_in words) (rights_in-any words))

keyed-right : (name : List ℕ) (words : List (List ℕ)) → HasRight (keyed_line name words)
keyed-right name words = said-keyed name (last_hash words) (rights_in (front_of words)) (rights_in-any (front_of words))

words-right : (words : List (List ℕ)) → HasRight (line_of_words words)
words-right [] = tt
words-right (name ∷ words) =
    choose (bytes_eq name (codes "*")) (anyone_line words)
    (if is_builder_name name then keyed_line name words else Err fault.BadName)
    (anyone-right words)
    (choose (is_builder_name name) (keyed_line name words) (Err fault.BadName) (keyed-right name words) tt)

line_of-right : (line : List ℕ) → HasRight (line_of line)
unfolding line_of
line_of-right line =
    choose (not (is_utf8 line)) (Err fault.NotText)
    (if begins is_number_sign line then Ok Skipped else line_of_words (words_in line)) tt
    (choose (begins is_number_sign line) (Ok Skipped) (line_of_words (words_in line)) tt (words-right (words_in line)))

-- ---- one line more

none-sound : IsSound no_keys
none-sound = record {
  found = λ line h. absurd h;
  names = λ one other h k e. absurd h;
  rights = λ line h. absurd h;
  anyone = search rules;
  limit = omega arith;
}

-- three tests of which none may pass
three : {X E : Type 0} (a b c : Bool) (p q r : E) (v w : X)
    → (if a then Err p else if b then Err q else if c then Err r else Ok v) ≡ Ok w
    → (a ≡ false) × (b ≡ false) × (c ≡ false) × (v ≡ w)
three true b c p q r v w h = cc
three false true c p q r v w h = cc
three false false true p q r v w h = cc
three false false false p q r v w h = (refl, refl, refl, cc)

module _ (keys : Keys) (line : KeyLine) (sound : IsSound keys)
    (no_name : list_any (has_name line.name) keys.lines ≡ false)
    (no_hash : list_any (has_hash line.hash) keys.lines ≡ false) where
  found-more : (other : KeyLine) → IsIn other (keys.lines ++ line ∷ [])
      → find (has_hash other.hash) (keys.lines ++ line ∷ []) ≡ Some other
  found-more other h = find-append (has_hash other.hash) keys.lines (line ∷ [])
      ∙ elim (last-or other line keys.lines h) [
        | inl old ↦ ap (λ o. option_or o (find (has_hash other.hash) (line ∷ []))) (sound.found other old)
        | inr same ↦
            let P : KeyLine → Type 0 = λ one. option_or (find (has_hash one.hash) keys.lines)
            (find (has_hash one.hash) (line ∷ [])) ≡ Some one in
            subst P (sym same)
            (ap (λ o. option_or o (find (has_hash line.hash) (line ∷ [])))
            (find-none (has_hash line.hash) keys.lines no_hash)
            ∙ ap (λ b. if b then Some line else None) (same_bytes line.hash))
      ]

  -- the new line has the name of no old one
  apart : (other : KeyLine) → IsIn other keys.lines → other.name ≡ line.name → ⊥
  apart other old same =
      let has = list_any-IsIn (has_name line.name) other keys.lines old
      ((bytes_eq-Decides other.name line.name).1 same) in
      let clash : true ≡ false = sym has ∙ no_name in
      cc

  names-more : (one other : KeyLine) → IsIn one (keys.lines ++ line ∷ []) → IsIn other (keys.lines ++ line ∷ [])
      → one.name ≡ other.name → one ≡ other
  names-more one other h k e = elim (last-or one line keys.lines h) [
    | inl old ↦ elim (last-or other line keys.lines k) [
      | inl also ↦ sound.names one other old also e
      | inr new ↦ absurd (apart one old (e ∙ ap (λ (l : KeyLine). l.name) new))
    ]
    | inr new ↦ elim (last-or other line keys.lines k) [
      | inl old ↦ absurd (apart other old (sym e ∙ ap (λ (l : KeyLine). l.name) new))
      | inr also ↦ new ∙ sym also
    ]
  ]

  rights-more : is_nonempty line.rights ≡ true → (other : KeyLine) → IsIn other (keys.lines ++ line ∷ [])
      → is_nonempty other.rights ≡ true
  rights-more has other h = elim (last-or other line keys.lines h) [
    | inl old ↦ sound.rights other old
    | inr new ↦ ap (λ (l : KeyLine). is_nonempty l.rights) new ∙ has
  ]

with_key-sound : (keys more : Keys) (line : KeyLine) → IsSound keys → is_nonempty line.rights ≡ true
    → with_key keys line ≡ Ok more → IsSound more
with_key-sound keys more line sound has is =
    let parts = three (nat_le key_limit (length keys.lines)) (list_any (has_name line.name) keys.lines)
    (list_any (has_hash line.hash) keys.lines) _ _ _ _ more is in
    let P : Keys → Type 0 = λ k. IsSound k in
    let room : nat_le key_limit (length keys.lines) ≡ false = parts.0 in
    subst P parts.3 (record {
      found = found-more keys line sound parts.1 parts.2;
      names = names-more keys line sound parts.1 parts.2;
      rights = rights-more keys line sound parts.1 parts.2 has;
      anyone = sound.anyone;
      limit = grind (arith, nat_tests, length-append);
    })

with_anyone-sound : (keys more : Keys) (rights : List Right) → IsSound keys → is_nonempty rights ≡ true
    → with_anyone keys rights ≡ Ok more → IsSound more
with_anyone-sound keys more rights sound has is = first (is_some keys.anyone) _ is
  where
    first : (b : Bool) (wrong : LineFault) → (if b then Err wrong else Ok (record keys { anyone = Some rights }))
        ≡ Ok more → IsSound more
    first true wrong h = cc
    first false wrong h =
        let e : record keys { anyone = Some rights } ≡ more = cc in
        let P : Keys → Type 0 = λ k. IsSound k in
        subst P e (record {
          found = sound.found;
          names = sound.names;
          rights = sound.rights;
          anyone = has;
          limit = sound.limit;
        })

with_line-sound : (keys more : Keys) (line : Result Line LineFault) → IsSound keys → HasRight line
    → with_line keys line ≡ Ok more → IsSound more
with_line-sound keys more (Err wrong) sound has is = cc
with_line-sound keys more (Ok Skipped) sound has is =
    let e : keys ≡ more = cc in
    let P : Keys → Type 0 = λ k. IsSound k in
    subst P e sound
with_line-sound keys more (Ok (Anyone rights)) sound has is = with_anyone-sound keys more rights sound has is
with_line-sound keys more (Ok (Keyed line)) sound has is = with_key-sound keys more line sound has is

-- ---- all lines

keys_after-sound : (lines : List (List ℕ)) (keys final : Keys) (number : ℕ) → IsSound keys
    → keys_after keys number lines ≡ Ok final → IsSound final
keys_after-sound [] keys final number sound is =
    let e : keys ≡ final = cc in
    let P : Keys → Type 0 = λ k. IsSound k in
    subst P e sound
keys_after-sound (line ∷ lines) keys final number sound is =
    (elim (with_line keys (line_of line)) as (λ r. with_line keys (line_of line) ≡ r
    → go_on number r (λ more. keys_after more (number + 1) lines) ≡ Ok final → IsSound final) [
      | Err wrong ↦ λ same h. cc
      | Ok more ↦ λ same h. keys_after-sound lines more final (number + 1)
          (with_line-sound keys more (line_of line) sound (line_of-right line) same) h
    ]) refl is

pub keys_of-sound : (file : List ℕ) (keys : Keys) → keys_of file ≡ Ok keys → IsSound keys
unfolding keys_of
keys_of-sound file keys is = keys_after-sound _ no_keys keys 1 none-sound is
