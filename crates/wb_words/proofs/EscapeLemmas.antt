-- A word that is put among words is put among their texts.
use Rattle.std.proofs.Common.{◌≡◌, ◌∙◌, ◌-◌, ℕ, sym, ap, ap₂, codes, map, take, drop, ◌++◌, ◌∷◌, List, length}
use Rattle.std.specs.Borrow.{Bor}
use Rattle.std.specs.List.{insert}
use Rattle.std.proofs.lemmas.List.{map-append, take-map, drop-map, length-map}
use Rattle.clap.specs.Words.{Text}
use Rattle.wb_words.specs.Escapes.{escaped}

map-insert : {X Y : Type 0} (f : X → Y) (xs : List X) (i : ℕ) (x : X) → map f (insert xs i x) ≡ insert (map f xs) i (f x)
map-insert {X} {Y} f xs i x = map-append f (take i xs) (x ∷ drop i xs)
    ∙ ap₂ (λ (front back : List Y). front ++ f x ∷ back) (sym (take-map f i xs)) (sym (drop-map f i xs))

-- `--` before the last of references is `--` before the last of the texts
pub escaped-put : (words items read : List (Bor Text)) (at : ℕ) (word : Bor Text) → read ≡ insert items at word → items ≡ words
    → at ≡ length words - 1 → word.now ≡ codes "--" → map (λ word. word.now) read ≡ escaped (map (λ word. word.now) words)
escaped-put words items read at word put same place is =
    let texts : List Text = map (λ word. word.now) words in
    ap (map (λ word. word.now)) put ∙ map-insert (λ word. word.now) items at word
    ∙ ap (λ (all : List (Bor Text)). insert (map (λ word. word.now) all) at word.now) same
    ∙ ap₂ (λ (i : ℕ) (t : Text). insert texts i t) (place ∙ ap (λ (n : ℕ). n - 1) (sym (length-map words (λ word. word.now)))) is
