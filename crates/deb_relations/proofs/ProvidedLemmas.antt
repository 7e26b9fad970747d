-- The wanted names that a text gives: those of the groups whose name is wanted, and of all that it gives the wanted ones.
use Rattle.std.proofs.Common.{◌≡◌, ◌∙◌, refl, sym, ap, ℕ, Bool, true, false, cond, arith, List, [], ◌∷◌, filter}
use Rattle.std.proofs.Common.{◌≢◌, Option, Some, None, IfSome, IfOk, Result, Ok, Err, Vec, length}
use Rattle.std.specs.List.{cons_option, filter_map}
use Rattle.std.specs.BTreeSet.{BTreeSet, btree_set_len, contains}
use Rattle.deb_version.specs.declared.operator.Op.{Op}
use Rattle.deb_version.specs.declared.operator.Op.TheVariants.{Equal, Earlier, EarlierOrEqual, LaterOrEqual, Later}
use Rattle.deb_text.specs.Text.{text_cmp}
use Rattle.deb_relations.specs.declared.provided.Provided.{Provided}
use Rattle.deb_relations.specs.declared.relations.Alternative.{Alternative}
use Rattle.deb_relations.specs.declared.relations.Restriction.{Restriction}
use Rattle.deb_relations.specs.Provided.{given_as, given_by, given_by_group, given_in, given_with, provided_in, wanted_by}
use Rattle.deb_relations.specs.Reader.{read_groups}
use Rattle.deb_relations.specs.Reduction.{has_no_lists}

-- what an alternative gives has its name
as-named : (name : List ℕ) (op : Op) (version : List ℕ) → IfSome (given_as name op version) (λ given. given.name ≡ name)
as-named name Equal version = refl
as-named name Earlier version = tt
as-named name EarlierOrEqual version = tt
as-named name LaterOrEqual version = tt
as-named name Later version = tt

with-named : (name : List ℕ) (asked : Option Restriction) → IfSome (given_with name asked) (λ given. given.name ≡ name)
with-named name None = refl
with-named name (Some asked) = as-named name asked.op asked.version

given-named : (a : Alternative) → IfSome (given_by a) (λ given. given.name ≡ a.name)
unfolding given_by
given-named a = by (has_no_lists a) where
  by : (b : Bool) → IfSome (cond b (given_with a.name a.restriction) None) (λ (given : Provided). given.name ≡ a.name)
  by true = with-named a.name a.restriction
  by false = tt

-- one that is given stands among those that are wanted exactly if its name is
one-wanted : (is_wanted : List ℕ → Bool) (name : List ℕ) (given : Option Provided) (rest : List Provided)
    → IfSome given (λ found. found.name ≡ name)
    → cons_option (cond (is_wanted name) given None) (filter (λ found. is_wanted found.name) rest)
    ≡ filter (λ found. is_wanted found.name) (cons_option given rest)
one-wanted is_wanted name None rest named = by (is_wanted name) where
  by : (b : Bool) → cons_option (cond b None None) (filter (λ (found : Provided). is_wanted found.name) rest)
      ≡ filter (λ (found : Provided). is_wanted found.name) rest
  by true = refl
  by false = refl
one-wanted is_wanted name (Some given) rest named =
    let wanted = filter (λ (found : Provided). is_wanted found.name) rest in
    by (is_wanted name) ∙ ap (λ b. cond b (given ∷ wanted) wanted) (ap is_wanted (sym named))
  where
    by : (b : Bool) → cons_option (cond b (Some given) None) (filter (λ (found : Provided). is_wanted found.name) rest)
        ≡ cond b (given ∷ filter (λ (found : Provided). is_wanted found.name) rest) (filter (λ (found : Provided). is_wanted found.name) rest)
    by true = refl
    by false = refl

wanted-groups : (is_wanted : List ℕ → Bool) (groups : List (List Alternative))
    → filter_map (wanted_by is_wanted) groups ≡ filter (λ given. is_wanted given.name) (filter_map given_by_group groups)
wanted-groups is_wanted [] = refl
wanted-groups is_wanted ([] ∷ groups) = wanted-groups is_wanted groups
wanted-groups is_wanted ((a ∷ []) ∷ groups) =
    ap (cons_option (cond (is_wanted a.name) (given_by a) None)) (wanted-groups is_wanted groups)
    ∙ one-wanted is_wanted a.name (given_by a) (filter_map given_by_group groups) (given-named a)
wanted-groups is_wanted ((a ∷ b ∷ more) ∷ groups) = wanted-groups is_wanted groups

-- what a text that has a reading gives
read-given : (text : List ℕ) (groups : List (List Alternative)) → read_groups text ≡ Some groups
    → filter_map given_by_group groups ≡ provided_in text
unfolding provided_in given_in
read-given text groups is = rw is refl

-- all that a text gives that has a reading
pub all-read : {X E : Type 0} (text : List ℕ) (slice groups : List (List Alternative)) (result : Result (Vec Provided X) E)
    → slice ≡ groups → read_groups text ≡ Some groups → IfOk result (λ found. found.items ≡ given_in slice)
    → IfOk result (λ found. found.items ≡ provided_in text)
unfolding given_in
all-read text slice groups (Ok found) same is made = made ∙ ap (filter_map given_by_group) same ∙ read-given text groups is
all-read text slice groups (Err fault) same is made = tt

-- all that a text gives that has none
pub all-none : {X E F : Type 0} (text : List ℕ) (memory fault : F) (result : Result (Vec Provided X) E)
    → (fault ≢ memory → read_groups text ≡ None)
    → IfOk result (λ found. found.items ≡ []) → IfOk result (λ _. fault ≢ memory)
    → IfOk result (λ found. found.items ≡ provided_in text)
unfolding provided_in
all-none text memory fault (Ok found) unread nothing other = rw (unread other) nothing
all-none text memory fault (Err error) unread nothing other = tt

-- what is wanted of a text that has a reading
pub wanted-read : {X E : Type 0} (is_wanted : List ℕ → Bool) (text : List ℕ) (slice groups : List (List Alternative))
    (result : Result (Vec Provided X) E) → slice ≡ groups → read_groups text ≡ Some groups
    → IfOk result (λ found. found.items ≡ filter_map (wanted_by is_wanted) slice)
    → IfOk result (λ found. found.items ≡ filter (λ given. is_wanted given.name) (provided_in text))
wanted-read is_wanted text slice groups (Ok found) same is made =
    made ∙ ap (filter_map (wanted_by is_wanted)) same ∙ wanted-groups is_wanted groups
    ∙ ap (filter (λ (given : Provided). is_wanted given.name)) (read-given text groups is)
wanted-read is_wanted text slice groups (Err fault) same is made = tt

-- a text that has none gives nothing
pub none-read : {X E F : Type 0} (is_wanted : List ℕ → Bool) (text : List ℕ) (memory fault : F) (result : Result (Vec Provided X) E)
    → (fault ≢ memory → read_groups text ≡ None)
    → IfOk result (λ found. found.items ≡ []) → IfOk result (λ _. fault ≢ memory)
    → IfOk result (λ found. found.items ≡ filter (λ given. is_wanted given.name) (provided_in text))
unfolding provided_in
none-read is_wanted text memory fault (Ok found) unread nothing other = rw (unread other) nothing
none-read is_wanted text memory fault (Err error) unread nothing other = tt

-- if no name is wanted, nothing is
no-keys : {K : Type 0} (keys : List K) → length keys ≡ 0 → keys ≡ []
no-keys [] is = refl
no-keys (key ∷ keys) is = absurd (omega (arith, is))

none-passes : {X : Type 0} (test : X → Bool) → ((x : X) → test x ≡ false) → (items : List X) → [] ≡ filter test items
none-passes test none [] = refl
none-passes test none (x ∷ items) = none-passes test none items ∙ ap (λ b. cond b (x ∷ filter test items) (filter test items)) (sym (none x))

pub none-wanted : (wanted : BTreeSet (List ℕ)) (text : List ℕ) → btree_set_len wanted ≡ 0
    → [] ≡ filter (λ given. contains text_cmp wanted given.name) (provided_in text)
none-wanted wanted text is =
    none-passes (λ (given : Provided). contains text_cmp wanted given.name)
    (λ given. ap (λ (keys : List (List ℕ)). contains text_cmp (record { keys = keys }) given.name) (no-keys wanted.keys is))
    (provided_in text)
