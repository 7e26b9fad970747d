-- The entries of std's ordered map, as a finite map.
use Rattle.std.proofs.Common.{◌≡◌, ℕ, cond, List, [], ◌∷◌, ◌++◌, sym, ap, ◌∙◌, Option, Some, unwrap_or, Result, Ok, Err, OnOk, OnErr}
use Rattle.std.specs.Map.{lookup}
use Rattle.std.specs.BTreeMap.{is_at}
use Rattle.std.specs.FinMap as finite
use Rattle.std.specs.Cmp.Lexicographic.{nat_list_cmp_total}
use Rattle.std.proofs.lemmas.Map.Lookups.{exact_bytes}
use Rattle.deb_text.specs.Text.{text_cmp}
use Rattle.deb_relations.specs.Satisfaction.{Offer, Pairs, versions_of, with_pair}
use Rattle.deb_text.proofs.MapLemmas.{get-lookup, one-inserted}

-- what is available, by its entries
abbrev pub Rows : Type 0
Rows = List (List ℕ × List Offer)

pub versions-found : (pairs : Pairs) (es : Rows) (name : List ℕ) (found : Option (List Offer)) → finite.from_entries {R = text_cmp} es ≡ pairs → lookup (is_at (text_cmp name)) es ≡ found → versions_of pairs name ≡ unwrap_or found []
unfolding versions_of
versions-found pairs es name found e h =
    ap (λ m. unwrap_or (finite.get m name) []) (sym e) ∙ ap (λ o. unwrap_or o []) (get-lookup nat_list_cmp_total es name ∙ h)

pub pair-added : (pairs : Pairs) (es fs : Rows) (name : List ℕ) (version : Offer) (found : Option (List Offer)) (made : List Offer)
    → finite.from_entries {R = text_cmp} es ≡ pairs → lookup (is_at (text_cmp name)) es ≡ found
    → ((q : List ℕ) → lookup (is_at (text_cmp q)) fs ≡ cond (is_at (text_cmp name) q) (Some made) (lookup (is_at (text_cmp q)) es))
    → made ≡ unwrap_or found [] ++ version ∷ []
    → finite.from_entries {R = text_cmp} fs ≡ with_pair pairs name version
unfolding with_pair
pair-added pairs es fs name version found made e h u m =
    one-inserted nat_list_cmp_total exact_bytes es fs name made u
    ∙ ap (λ x. finite.insert x name made) e
    ∙ ap (finite.insert pairs name) (m ∙ ap (λ x. x ++ version ∷ []) (sym (versions-found pairs es name found e h)))

pub on-ok : {T E : Type 0} {P Q : Type 0} (r : Result T E) → (P → Q) → OnOk r P → OnOk r Q
on-ok (Ok x) f h = f h
on-ok (Err e) f h = h

pub on-err : {T E : Type 0} {P Q : Type 0} (r : Result T E) → (P → Q) → OnErr r P → OnErr r Q
on-err (Ok x) f h = h
on-err (Err e) f h = f h
