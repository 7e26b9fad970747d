-- The words of a text, which spaces and tabs part.
use Rattle.std.proofs.Common.{◌≡◌, ℕ, Bool, not, ◌&&◌, ◌||◌, List, [], ◌∷◌, filter, refl, ap, ◌∙◌}
use Rattle.std.specs.List.{slice_split, flat_map, list_any}
use Rattle.deb_text.specs.Lists.{is_nonempty}
use Rattle.deb_text.specs.Lines.{is_blank, words_in}
use Rattle.deb_text.proofs.WordLemmas.{spaces, tabs, tabs-spaces}
use Rattle.deb_text.specs.Text.{is_empty_text}

-- a part that is no word passes no test
abbrev pub passes_as_word : (List ℕ → Bool) → List ℕ → Bool
passes_as_word test part = not (is_empty_text part) && test part

any-filter : (test : List ℕ → Bool) (parts : List (List ℕ))
    → list_any (passes_as_word test) parts ≡ list_any test (filter is_nonempty parts)
any-filter test [] = refl
any-filter test ([] ∷ parts) = any-filter test parts
any-filter test ((c ∷ cs) ∷ parts) = ap (λ (b : Bool). test (c ∷ cs) || b) (any-filter test parts)

pub any-word : (test : List ℕ → Bool) (text : List ℕ) → list_any (passes_as_word test) (flat_map tabs (spaces text)) ≡ list_any test (words_in text)
unfolding words_in
any-word test text = ap (list_any (passes_as_word test)) (tabs-spaces text) ∙ any-filter test (slice_split is_blank text)
