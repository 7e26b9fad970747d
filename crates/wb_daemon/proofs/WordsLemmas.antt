-- How long words are together, with a space between each two; and what the words of a single command are read as.
use Rattle.std.proofs.Common.{◌≡◌, ◌∙◌, ℕ, ◌+◌, ◌<◌, ◌≤◌, true, false, not, ◌&&◌, cond, List, [], ◌∷◌, ◌++◌, length, map, take, take_all, drop, get_or, codes, Some, None, Result, Ok, Err, IfOk, IfErr, refl, sym, ap, arith, add-one, length-append, take-append-drop}
use Rattle.std.proofs.Math.Bool.{and-false}
use Rattle.std.proofs.Math.Seq.{take-suc}
use Rattle.std.proofs.lemmas.Bool.{false≢true}
use Rattle.std.proofs.lemmas.Bool.Decides.{nat_tests}
use Rattle.std.proofs.lemmas.List.{map-append}
use Rattle.std.specs.Bool.{◌==◌}
use Rattle.std.specs.Borrow.{Bor}
use Rattle.std.specs.List.{flat_map}
use Rattle.wb_words.specs.Arguments.{joined}
use Rattle.wb_words.specs.Words.{invocation_in}
use Rattle.wb_words.specs.declared.fault.WordsFault.{WordsFault}
use Rattle.wb_words.specs.declared.fault.WordsFault.TheVariants.{NoCommand, Memory}
use Rattle.wb_words.specs.declared.words.Invocation.{Invocation}
use Rattle.wb_streams.specs.Line.{is_long, line_limit}
use Rattle.wb_daemon.specs.Run.{Fault, kind_of_invocation}
use Rattle.wb_daemon.specs.Single.{are_read, asked_in, has_word, kind_of_words}
use Rattle.wb_daemon.specs.Turn.{IsReadAs}

-- how long words are, each with a space after it
abbrev pub spaced : List (List ℕ) → ℕ
spaced [] = 0
spaced (word ∷ words) = length word + 1 + spaced words

spaced-append : (words others : List (List ℕ)) → spaced (words ++ others) ≡ spaced words + spaced others
spaced-append [] others = omega arith
spaced-append (word ∷ words) others = omega (arith, spaced-append words others)

length-later : (words : List (List ℕ)) → length (flat_map (λ word. codes " " ++ word) words) ≡ spaced words
length-later [] = refl
length-later (word ∷ words) =
    omega (arith, length-append (codes " " ++ word) (flat_map (λ more. codes " " ++ more) words), length-later words)

-- words that are joined have a space less
length-joined : (word : List ℕ) (words : List (List ℕ)) → length (joined (word ∷ words)) + 1 ≡ spaced (word ∷ words)
length-joined word words =
    omega (arith, length-append word (flat_map (λ more. codes " " ++ more) words), length-later words)

after-one : (n k : ℕ) → n + (k + 1 + 0) ≡ n + (k + 1)
after-one n k = omega arith

-- one word more
pub spaced-next : (words : List (Bor (List ℕ))) (i : ℕ) (d : Bor (List ℕ)) → i < length words
    → spaced (map (λ word. word.now) (take (i + 1) words)) ≡ spaced (map (λ word. word.now) (take i words)) + (length (get_or words i d).now + 1)
spaced-next words i d h =
    ap (λ (front : List (Bor (List ℕ))). spaced (map (λ word. word.now) front)) (ap (λ (n : ℕ). take n words) (add-one i) ∙ take-suc words i d h)
    ∙ ap spaced (map-append (λ word. word.now) (take i words) (get_or words i d ∷ []))
    ∙ spaced-append (map (λ word. word.now) (take i words)) ((get_or words i d).now ∷ [])
    ∙ after-one (spaced (map (λ word. word.now) (take i words))) (length (get_or words i d).now)

-- words for the next of which there is no room are too long
pub long-words : (words : List (Bor (List ℕ))) (i room : ℕ) (d : Bor (List ℕ)) → i < length words
    → room + spaced (map (λ word. word.now) (take i words)) ≡ line_limit + 1 → room ≤ length (get_or words i d).now
    → is_long (joined (map (λ word. word.now) words)) ≡ true
long-words [] i room d h e k = absurd (omega arith)
long-words (first ∷ words) i room d h e k =
    let all = first ∷ words in
    let texts : List (List ℕ) = map (λ word. word.now) words in
    let next = spaced-next all i d h in
    let parts : spaced (map (λ word. word.now) all)
    ≡ spaced (map (λ word. word.now) (take (i + 1) all)) + spaced (map (λ word. word.now) (drop (i + 1) all)) =
    ap (λ (front : List (Bor (List ℕ))). spaced (map (λ word. word.now) front)) (sym (take-append-drop (i + 1) all))
    ∙ ap spaced (map-append (λ word. word.now) (take (i + 1) all) (drop (i + 1) all))
    ∙ spaced-append (map (λ word. word.now) (take (i + 1) all)) (map (λ word. word.now) (drop (i + 1) all)) in
    let whole = length-joined first.now texts in
    let long : line_limit < length (joined (first.now ∷ texts)) = omega (arith, next, parts, whole, e, k) in
    grind (arith, nat_tests, long)

-- words for all of which there is room are not
pub short-words : (words : List (Bor (List ℕ))) (i room : ℕ) → length words ≤ i
    → room + spaced (map (λ word. word.now) (take i words)) ≡ line_limit + 1 → is_long (joined (map (λ word. word.now) words)) ≡ false
short-words words i room h e = short words room (ap (λ (front : List (Bor (List ℕ))). room + spaced (map (λ word. word.now) front)) (sym (take_all i words h)) ∙ e)
  where
    short : (words : List (Bor (List ℕ))) (room : ℕ) → room + spaced (map (λ word. word.now) words) ≡ line_limit + 1
        → is_long (joined (map (λ word. word.now) words)) ≡ false
    short [] room e = refl
    short (word ∷ words) room e =
        let texts : List (List ℕ) = map (λ word. word.now) words in
        let whole = length-joined word.now texts in
        let short : length (joined (word.now ∷ texts)) ≤ line_limit = omega (arith, whole, e) in
        grind (arith, nat_tests, short)

-- ---- what the words of a single command are read as

-- no words, or words that are too long, are at fault
pub kind_of_words-unread : (words : List (List ℕ)) → are_read words ≡ false → kind_of_words words ≡ Fault
unfolding kind_of_words
kind_of_words-unread words h = ap (λ b. cond b (kind_of_invocation (invocation_in words)) Fault) h

pub are_read-long : (words : List (List ℕ)) → is_long (joined words) ≡ true → are_read words ≡ false
are_read-long words h = ap (λ b. has_word words && not b) h ∙ and-false (has_word words)

pub are_read-some : (words : List (List ℕ)) → has_word words ≡ true → is_long (joined words) ≡ false → are_read words ≡ true
are_read-some words h k = ap (λ b. b && not (is_long (joined words))) h ∙ ap (λ b. true && not b) k

-- others are what they ask for
pub IsReadAs-words : (words : List (List ℕ)) (read : Result Invocation WordsFault) → are_read words ≡ true
    → IfOk read (λ invocation. invocation_in words ≡ Some invocation)
    → IfErr read (λ fault. (fault ≡ Memory → ⊥) → invocation_in words ≡ None) → IsReadAs (asked_in words) read
unfolding kind_of_words
IsReadAs-words words (Ok invocation) h e none =
    (ap (λ b. cond b (kind_of_invocation (invocation_in words)) Fault) h ∙ ap kind_of_invocation e, h)
IsReadAs-words words (Err NoCommand) h e none =
    ap (λ b. cond b (kind_of_invocation (invocation_in words)) Fault) h ∙ ap kind_of_invocation (none (λ (same : NoCommand ≡ Memory). cc))
IsReadAs-words words (Err Memory) h e none = h

has_length : {X : Type 0} (x : X) (xs : List X) → (length (x ∷ xs) == 0) ≡ false
has_length x xs = grind arith

pub has_word-none : (words : List (Bor (List ℕ))) → (length words == 0) ≡ true → are_read (map (λ word. word.now) words) ≡ false
has_word-none [] e = refl
has_word-none (word ∷ words) e = absurd (false≢true (sym (has_length word words) ∙ e))

pub has_word-some : (words : List (Bor (List ℕ))) → (length words == 0) ≡ false → has_word (map (λ word. word.now) words) ≡ true
has_word-some [] e = absurd (false≢true (sym e))
has_word-some (word ∷ words) e = refl
