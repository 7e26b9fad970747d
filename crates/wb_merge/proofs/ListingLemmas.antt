-- Maps that a function gives at some keys.
use Rattle.std.proofs.Common.{◌≡◌, Bool, true, false, cond, List, [], ◌∷◌, refl, sym, ap, ◌∙◌, Option, Some, None, ◌||◌}
use Rattle.std.specs.List.{cons_option, filter_map, list_any}
use Rattle.std.specs.Option.{option_map}
use Rattle.std.specs.declared.cmp.Ordering.{Ordering}
use Rattle.std.specs.Ordering.{eq_by_cmp}
use Rattle.std.specs.Cmp.{IsTotalOrder}
use Rattle.std.specs.FinMap as finite
use Rattle.deb_text.proofs.KeyLemmas.{eq_by_cmp-same}
use Rattle.wb_merge.specs.Listing.{map_at, with_value}

-- an entry before others, where there is a value
nothing : {X : Type 0} (b : Bool) → cond {A = Option X} b None None ≡ None
nothing true = refl
nothing false = refl

module _ {K X : Type 0} {R : K → K → Ordering} (total : IsTotalOrder R) (same : finite.IsAntisymmetric R) (f : K → Option X) where
  -- the keys at which the function gives a value, with their values
  abbrev values : List K → List (K × X)
  values keys = filter_map (with_value f) keys

  -- a key more at which the function gives nothing
  no_entry : (b : Bool) (q key : K) (keys : List K) → eq_by_cmp R q key ≡ b → f key ≡ None
      → finite.find R q (values keys) ≡ cond (list_any (eq_by_cmp R q) keys) (f q) None
      → finite.find R q (values keys) ≡ cond (b || list_any (eq_by_cmp R q) keys) (f q) None
  no_entry false q key keys e none h = h
  no_entry true q key keys e none h =
      let at : f q ≡ None = ap f (eq_by_cmp-same same q key e) ∙ none in
      h ∙ ap (λ (o : Option X). cond (list_any (eq_by_cmp R q) keys) o None) at ∙ nothing (list_any (eq_by_cmp R q) keys) ∙ sym at

  -- a key more at which it gives a value
  one_entry : (b : Bool) (q key : K) (value : X) (keys : List K) → eq_by_cmp R q key ≡ b → f key ≡ Some value
      → finite.find R q (values keys) ≡ cond (list_any (eq_by_cmp R q) keys) (f q) None
      → cond (eq_by_cmp R q key) (Some value) (finite.find R q (values keys)) ≡ cond (b || list_any (eq_by_cmp R q) keys) (f q) None
  one_entry false q key value keys e some h =
      ap (λ b. cond b (Some value) (finite.find R q (values keys))) e ∙ h
  one_entry true q key value keys e some h =
      ap (λ b. cond b (Some value) (finite.find R q (values keys))) e ∙ sym (ap f (eq_by_cmp-same same q key e) ∙ some)

  found : (keys : List K) (q : K) → finite.find R q (values keys) ≡ cond (list_any (eq_by_cmp R q) keys) (f q) None
  found [] q = refl
  found (key ∷ keys) q =
      elim (f key) as (λ o. f key ≡ o → finite.find R q (cons_option (option_map (λ value. (key, value)) o) (values keys)) ≡ cond (list_any (eq_by_cmp R q) (key ∷ keys)) (f q) None) [
        | None ↦ λ e. no_entry (eq_by_cmp R q key) q key keys refl e (found keys q)
        | Some value ↦ λ e. one_entry (eq_by_cmp R q key) q key value keys refl e (found keys q)
      ] refl

  -- what the map has at a key: what the function gives there, where the key is among the keys
  pub map_at-get : (keys : List K) (q : K) → finite.get (map_at {R = R} f keys) q ≡ cond (list_any (eq_by_cmp R q) keys) (f q) None
  unfolding map_at
  map_at-get keys q = finite.get-from_entries total (values keys) q ∙ found keys q
