-- What is reduced has no lists left, and stays as it is when it is reduced again.
use Rattle.std.proofs.Common.{◌≡◌, Bool, true, false, cond, List, [], ◌∷◌, map, filter, refl, ap, ◌∙◌}
use Rattle.std.specs.List.{list_all}
use Rattle.deb_relations.specs.declared.arch.ArchWords.{ArchWords}
use Rattle.deb_relations.specs.declared.relations.Alternative.{Alternative}
use Rattle.deb_relations.specs.Reduction.{is_kept, without_lists, has_no_lists, reduced_group, reduced}
use Rattle.deb_text.specs.Lists.{is_nonempty}

all-bare : (group : List Alternative) → list_all has_no_lists (map without_lists group) ≡ true
all-bare [] = refl
all-bare (a ∷ group) = all-bare group

kept-by : (b : Bool) (group : List Alternative) (groups : List (List Alternative)) → is_nonempty group ≡ b → list_all has_no_lists group ≡ true
    → list_all (λ g. list_all has_no_lists g) groups ≡ true
    → list_all (λ g. list_all has_no_lists g) (cond b (group ∷ groups) groups) ≡ true
kept-by true group groups e h k = rw h k
kept-by false group groups e h k = k

pub reduced-bare : (arch : ArchWords) (groups : List (List Alternative)) → list_all (λ group. list_all has_no_lists group) (reduced arch groups) ≡ true
unfolding reduced reduced_group
reduced-bare arch [] = refl
reduced-bare arch (group ∷ groups) =
    kept-by (is_nonempty (reduced_group arch group)) (reduced_group arch group) (reduced arch groups) refl
    (all-bare (filter (is_kept arch) group)) (reduced-bare arch groups)

group-again : (other : ArchWords) (group : List Alternative) → reduced_group other (map without_lists group) ≡ map without_lists group
unfolding reduced_group is_kept
group-again other [] = refl
group-again other (a ∷ group) = ap (λ more. without_lists a ∷ more) (group-again other group)

again-by : (b : Bool) (other : ArchWords) (group : List Alternative) (groups : List (List Alternative)) → is_nonempty group ≡ b
    → reduced_group other group ≡ group → reduced other groups ≡ groups → reduced other (cond b (group ∷ groups) groups) ≡ cond b (group ∷ groups) groups
unfolding reduced
again-by true other group groups e h k =
    ap (λ g. cond (is_nonempty g) (g ∷ reduced other groups) (reduced other groups)) h
    ∙ ap (λ b. cond b (group ∷ reduced other groups) (reduced other groups)) e
    ∙ ap (λ more. group ∷ more) k
again-by false other group groups e h k = k

pub reduced-again : (arch other : ArchWords) (groups : List (List Alternative)) → reduced other (reduced arch groups) ≡ reduced arch groups
unfolding reduced reduced_group
reduced-again arch other [] = refl
reduced-again arch other (group ∷ groups) =
    again-by (is_nonempty (reduced_group arch group)) other (reduced_group arch group) (reduced arch groups) refl
    (group-again other (filter (is_kept arch) group)) (reduced-again arch other groups)
