-- The part of an office that a command names is a part of it, and has all that the command names.
use Rattle.std.proofs.Common.{◌≡◌, ◌≢◌, ◌∙◌, refl, sym, ap, subst, inl, inr, ◌⊎◌, ℕ, Bool, true, false, IsTrue, List}
use Rattle.std.proofs.Common.{[], ◌∷◌, ◌++◌, map as each, Option, Some, None, IfSome, cond, bytes_eq}
use Rattle.std.specs.Prelude.{if◌then◌else◌, option_and_then, ◌||◌, ◌↔◌, is_some}
use Rattle.std.specs.List.{list_any}
use Rattle.std.specs.Option.{option_map}
use Rattle.std.specs.FinMap as map
use Rattle.std.specs.FinSet as set
use Rattle.std.specs.declared.cmp.Ordering.{Ordering}
use Rattle.std.specs.declared.cmp.Ordering.TheVariants.{Less, Equal, Greater}
use Rattle.std.specs.Ordering.{eq_by_cmp, is_eq}
use Rattle.std.specs.Cmp.{IsTotalOrder, tied_itself}
use Rattle.std.specs.Cmp.Lexicographic.{nat_list_cmp_total}
use Rattle.std.specs.FinMap.{IsAntisymmetric, nat_cmp-IsAntisymmetric, slice_cmp-IsAntisymmetric}
use Rattle.deb_text.specs.Lists.{IsIn}
use Rattle.deb_text.specs.Options.{has_value}
use Rattle.deb_text.specs.Text.{text_cmp, pair_cmp}
use Rattle.deb_text.proofs.KeyLemmas.{pair_cmp_total, pair_cmp-same}
use Rattle.deb_text.proofs.SortedLemmas.{IsIn-filter, IsIn-find}
use Rattle.std.proofs.lemmas.Bool.{and_parts}
use Rattle.std.proofs.lemmas.Slice.Eq.{bytes_eq-Decides}
use Rattle.wb_states.specs.declared.command.Command.{Command}
use Rattle.wb_states.specs.declared.command.Command.TheVariants as of
use Rattle.wb_states.specs.declared.command.Next.{Next}
use Rattle.wb_states.specs.declared.record.Record.{Record}
use Rattle.wb_states.specs.Holds.{taken_as, building_after}
use Rattle.wb_states.specs.Machine.{Machine, Key, IsRecord, IsConsistent, archs_of}
use Rattle.wb_states.specs.Queue.{Entry, head_of}
use Rattle.wb_states.specs.Subject.{Subject, Nothing, Source, Taken, Head, Held, subject_of}
use Rattle.wb_states.proofs.HoldLemmas.{held_of-in, building_after-is}
use Rattle.wb_step.specs.Arguments.{Addition, Arch, Builder, Package, Removal, OfArch, OfBuilder, OfPackage}
use Rattle.wb_step.specs.Arguments.{arguments_of}
use Rattle.wb_step.specs.Checks.{builder_named, has_holder, is_held_on, is_on, is_still_held, source_in, source_named}
use Rattle.wb_step.specs.Checks.{take_in, take_named, is_there_already}
use Rattle.wb_step.specs.Targets.{again_of, first_named, next_in, next_named, record_named}
use Rattle.wb_step.specs.Locality.{IsKept, IsPartOf, IsSingle, HasAllNamed}
use Rattle.wb_step.specs.Named.{listed, held_again, others_named, entries_named, pairs_sought, pairs_named, holder_pairs, part_named}
use Rattle.wb_step.proofs.PartOfLemmas.{at_some, same_value, same_test, one_at, same_source_named}
use Rattle.wb_step.proofs.TransitionLemmas.{first_named-stands}

-- ---- membership

in_listed : {X : Type 0} (x : X) (found : Option X) → IsIn x (listed found) → found ≡ Some x
in_listed x None h = absurd h
in_listed x (Some y) (inl same) = ap (λ z. Some z) (sym same)
in_listed x (Some y) (inr later) = absurd later

listed_in : {X : Type 0} (x : X) (found : Option X) → found ≡ Some x → IsIn x (listed found)
listed_in x found is = subst (λ o. IsIn x (listed o)) (sym is) (inl refl)

in_joined : {X : Type 0} (x : X) (xs ys : List X) → IsIn x (xs ++ ys) → IsIn x xs ⊎ IsIn x ys
in_joined x [] ys h = inr h
in_joined x (y ∷ xs) ys (inl same) = inl (inl same)
in_joined x (y ∷ xs) ys (inr later) = elim (in_joined x xs ys later) [ inl here ↦ inl (inr here) | inr there ↦ inr there ]

joined_first : {X : Type 0} (x : X) (xs ys : List X) → IsIn x xs → IsIn x (xs ++ ys)
joined_first x [] ys h = absurd h
joined_first x (y ∷ xs) ys (inl same) = inl same
joined_first x (y ∷ xs) ys (inr later) = inr (joined_first x xs ys later)

joined_later : {X : Type 0} (x : X) (xs ys : List X) → IsIn x ys → IsIn x (xs ++ ys)
joined_later x [] ys h = h
joined_later x (y ∷ xs) ys h = inr (joined_later x xs ys h)

in_each : {X Y : Type 0} (f : X → Y) (y : Y) (xs : List X) → IsIn y (each f xs) → (x : X) × IsIn x xs × (y ≡ f x)
in_each f y [] h = absurd h
in_each f y (x ∷ xs) (inl same) = (x, inl refl, same)
in_each f y (x ∷ xs) (inr later) = let found = in_each f y xs later in (found.0, inr found.1, found.2)

each_in : {X Y : Type 0} (f : X → Y) (x : X) (xs : List X) → IsIn x xs → IsIn (f x) (each f xs)
each_in f x [] h = absurd h
each_in f x (y ∷ xs) (inl same) = inl (ap f same)
each_in f x (y ∷ xs) (inr later) = inr (each_in f x xs later)

equal_of : (r : Ordering) → is_eq r ≡ true → r ≡ Equal
equal_of Less e = absurd (cc)
equal_of Equal e = refl
equal_of Greater e = absurd (cc)

text_same : IsAntisymmetric text_cmp
text_same = slice_cmp-IsAntisymmetric nat_cmp-IsAntisymmetric

module _ {K : Type 0} {R : K → K → Ordering} (total : IsTotalOrder R) (same : IsAntisymmetric R) where
  any_in : (q : K) (ks : List K) → list_any (eq_by_cmp R q) ks ≡ true → IsIn q ks
  any_in q [] e = absurd (cc)
  any_in q (k ∷ ks) e =
      elim (eq_by_cmp R q k) as (λ b. eq_by_cmp R q k ≡ b → IsIn q (k ∷ ks)) [
        | true ↦ λ tie. inl (same q k (equal_of (R q k) tie))
        | false ↦ λ apart. inr (any_in q ks (subst (λ b. (b || list_any (eq_by_cmp R q) ks) ≡ true) apart e))
      ] refl

  in_any : (q : K) (ks : List K) → IsIn q ks → list_any (eq_by_cmp R q) ks ≡ true
  in_any q [] h = absurd h
  in_any q (k ∷ ks) (inl is) = ap (λ b. b || list_any (eq_by_cmp R q) ks) (ap (λ x. eq_by_cmp R q x) (sym is) ∙ ap is_eq (tied_itself total q))
  in_any q (k ∷ ks) (inr later) = ap (λ b. eq_by_cmp R q k || b) (in_any q ks later) ∙ or_true (eq_by_cmp R q k)
    where
      or_true : (b : Bool) → (b || true) ≡ true
      or_true true = refl
      or_true false = refl

pub set_in : (pair : Key) (pairs : List Key) → IsTrue (set.contains (set.from_list {R = pair_cmp} pairs) pair) → IsIn pair pairs
set_in pair pairs h = any_in pair_cmp_total pair_cmp-same pair pairs (sym (set.contains-from_list pair_cmp_total pairs pair) ∙ h)

pub in_set : (pair : Key) (pairs : List Key) → IsIn pair pairs → IsTrue (set.contains (set.from_list {R = pair_cmp} pairs) pair)
in_set pair pairs h = set.contains-from_list pair_cmp_total pairs pair ∙ in_any pair_cmp_total pair_cmp-same pair pairs h

-- ---- records of a list, of which each is kept

pub find_in : (key : Key) (current : Record) (entries : List Entry) → map.find pair_cmp key entries ≡ Some current → IsIn (key, current) entries
find_in key current [] is = absurd (cc)
find_in key current (e ∷ entries) is =
    elim (eq_by_cmp pair_cmp key e.0) as (λ b. eq_by_cmp pair_cmp key e.0 ≡ b → IsIn (key, current) (e ∷ entries)) [
      | true ↦ λ tie.
          let key_is : key ≡ e.0 = pair_cmp-same key e.0 (equal_of (pair_cmp key e.0) tie) in
          let current_is : current ≡ e.1 = same_value current e.1 (sym is ∙ ap (λ b. cond b (Some e.1) (map.find pair_cmp key entries)) tie) in
          inl (λ i. (key_is i, current_is i))
      | false ↦ λ apart. inr (find_in key current entries (sym (ap (λ b. cond b (Some e.1) (map.find pair_cmp key entries)) apart) ∙ is))
    ] refl

find_there : (machine : Machine) (entries : List Entry) → ((e : Entry) → IsIn e entries → IsKept machine e) → (entry : Entry) → IsIn entry entries
    → map.find pair_cmp entry.0 entries ≡ Some entry.1
find_there machine [] all entry h = absurd h
find_there machine (e ∷ entries) all entry h =
    elim (eq_by_cmp pair_cmp entry.0 e.0) as (λ b. eq_by_cmp pair_cmp entry.0 e.0 ≡ b → map.find pair_cmp entry.0 (e ∷ entries) ≡ Some entry.1) [
      | true ↦ λ tie.
          let key_is : entry.0 ≡ e.0 = pair_cmp-same entry.0 e.0 (equal_of (pair_cmp entry.0 e.0) tie) in
          let one : entry ≡ e = one_at machine entry e (all entry h) (all e (inl refl)) key_is in
          ap (λ b. cond b (Some e.1) (map.find pair_cmp entry.0 entries)) tie ∙ ap (λ (x : Entry). Some x.1) (sym one)
      | false ↦ λ apart. ap (λ b. cond b (Some e.1) (map.find pair_cmp entry.0 entries)) apart ∙ elim h [
        | inl is ↦ absurd (clash (sym apart ∙ ap (λ (x : Entry). eq_by_cmp pair_cmp entry.0 x.0) (sym is) ∙ ap is_eq (tied_itself pair_cmp_total entry.0)))
        | inr later ↦ find_there machine entries (λ x there. all x (inr there)) entry later
      ]
    ] refl
  where
    clash : false ≡ true → ⊥
    clash e = cc

-- ---- what a command names is kept

named_kept : (machine : Machine) (arch source : List ℕ) (current : Record) → map.get machine.records (arch, source) ≡ Some current → record_named machine arch source ≡ Some ((arch, source), current)
unfolding record_named
named_kept machine arch source current is = ap (option_map (λ (c : Record). ((arch, source), c))) is

kept_again : (machine : Machine) (builder : List ℕ) (after : Option ℕ) (entry : Entry) → IsIn entry (held_again machine builder after) → IsKept machine entry
kept_again machine builder None entry h = absurd h
kept_again machine builder (Some after) entry h = ((held_of-in machine builder entry).0 h).0

kept_others : (machine : Machine) (subject : Subject) (entry : Entry) → IsIn entry (others_named machine subject) → IsKept machine entry
kept_others machine Nothing entry h = absurd h
kept_others machine (Source arch source) entry h = absurd h
kept_others machine (Taken take_number) entry h = absurd h
kept_others machine (Head next) entry h = kept_again machine next.builder next.after entry h
kept_others machine (Held builder) entry h = ((held_of-in machine builder entry).0 h).0

all_kept : (machine : Machine) (command : Command) (entry : Entry) → IsIn entry (entries_named machine command) → IsKept machine entry
all_kept machine command entry h =
    let subject = subject_of command in
    elim (in_joined entry (listed (first_named machine subject)) (others_named machine subject) h) [
      | inl first ↦ first_named-stands machine subject entry (in_listed entry (first_named machine subject) first)
      | inr later ↦ kept_others machine subject entry later
    ]

-- the record is kept by the part
kept_by_part : (machine : Machine) (command : Command) (entry : Entry) → IsIn entry (entries_named machine command) → IsKept (part_named machine command) entry
unfolding part_named
kept_by_part machine command entry h = map.get-from_entries pair_cmp_total (entries_named machine command) entry.0 ∙ find_there machine (entries_named machine command) (all_kept machine command) entry h

part_keeps : (machine : Machine) (command : Command) (entry : Entry) → IsKept (part_named machine command) entry → IsIn entry (entries_named machine command)
unfolding part_named
part_keeps machine command entry kept = find_in entry.0 entry.1 (entries_named machine command) (sym (map.get-from_entries pair_cmp_total (entries_named machine command) entry.0) ∙ kept)

-- ---- the pairs

pub in_holders : (pair : Key) (entries : List Entry) → IsIn pair (holder_pairs entries) → (entry : Entry) × IsIn entry entries × (entry.1.holder ≡ Some pair.0) × (pair.1 ≡ entry.0.0)
in_holders pair [] h = absurd h
in_holders pair (e ∷ entries) h = elim (in_joined pair (each (λ name. (name, e.0.0)) (listed e.1.holder)) (holder_pairs entries) h) [
  | inl here ↦
      let found = in_each (λ (name : List ℕ). (name, e.0.0)) pair (listed e.1.holder) here in
      (e, inl refl, in_listed found.0 e.1.holder found.1 ∙ ap (λ (p : Key). Some p.0) (sym found.2), ap (λ (p : Key). p.1) found.2)
  | inr later ↦ let found = in_holders pair entries later in (found.0, inr found.1, found.2, found.3)
]

pub holders_in : (name : List ℕ) (entry : Entry) (entries : List Entry) → IsIn entry entries → entry.1.holder ≡ Some name → IsIn {X = Key} (name, entry.0.0) (holder_pairs entries)
holders_in name entry [] h is = absurd h
holders_in name entry (e ∷ entries) (inl same) is =
    joined_first _ (each (λ n. (n, e.0.0)) (listed e.1.holder)) (holder_pairs entries)
    (subst (λ (x : Entry). IsIn {X = Key} (name, entry.0.0) (each (λ n. (n, x.0.0)) (listed x.1.holder))) same (each_in (λ (n : List ℕ). (n, entry.0.0)) name (listed entry.1.holder) (listed_in name entry.1.holder is)))
holders_in name entry (e ∷ entries) (inr later) is = joined_later _ (each (λ n. (n, e.0.0)) (listed e.1.holder)) (holder_pairs entries) (holders_in name entry entries later is)

pair_of : (machine : Machine) (builder : List ℕ) (pair : Key) → IsIn pair (each (λ arch. (builder, arch)) (archs_of machine builder)) → IsTrue (set.contains machine.builders pair)
pair_of machine builder pair h =
    let found = in_each (λ (arch : List ℕ). (builder, arch)) pair (archs_of machine builder) h in
    subst (λ (p : Key). IsTrue (set.contains machine.builders p)) (sym found.2)
    ((IsIn-filter (λ arch. set.contains machine.builders (builder, arch)) found.0 (map.keys machine.archs)).0 found.1).1

of_pair : (machine : Machine) → IsConsistent machine → (builder arch : List ℕ) → IsTrue (set.contains machine.builders (builder, arch))
    → IsIn {X = Key} (builder, arch) (each (λ a. (builder, a)) (archs_of machine builder))
of_pair machine is builder arch h =
    let known = (is.builders builder arch h).known in
    let key : IsIn arch (map.keys machine.archs) = any_in nat_list_cmp_total text_same arch (map.keys machine.archs) (sym (map.contains_key-keys machine.archs arch) ∙ known) in
    each_in (λ (a : List ℕ). (builder, a)) arch (archs_of machine builder) ((IsIn-filter (λ a. set.contains machine.builders (builder, a)) arch (map.keys machine.archs)).1 (key, h))

pair_there : (P : Key → Bool) {pair one : Key} (b : Bool) → P one ≡ b → IsIn pair (if b then one ∷ [] else []) → IsTrue (P pair)
pair_there P true is (inl same) = ap P same ∙ is
pair_there P true is (inr later) = absurd later
pair_there P false is h = absurd h

there_pair : (P : Key → Bool) {one : Key} (b : Bool) → P one ≡ b → IsTrue (P one) → IsIn one (if b then one ∷ [] else [])
there_pair P true is h = inl refl
there_pair P false is h = absurd (clash (sym is ∙ h))
  where
    clash : false ≡ true → ⊥
    clash e = cc

pairs_kept_by : (machine : Machine) (added : Option Addition) (builder : Option (List ℕ)) (pair : Key) → IsIn pair (pairs_sought machine added builder)
    → IsTrue (set.contains machine.builders pair)
pairs_kept_by machine added (Some builder) pair h = pair_of machine builder pair h
pairs_kept_by machine (Some (Builder fields)) None pair h =
    pair_there (set.contains machine.builders) (set.contains machine.builders (fields.name, fields.arch)) refl h
pairs_kept_by machine (Some (Arch fields)) None pair h = absurd h
pairs_kept_by machine (Some (Package fields)) None pair h = absurd h
pairs_kept_by machine None None pair h = absurd h

pairs_kept : (machine : Machine) (command : Command) (pair : Key) → IsIn pair (pairs_named machine command) → IsTrue (set.contains machine.builders pair)
pairs_kept machine command pair h = pairs_kept_by machine (arguments_of command).adds (builder_named command) pair h

pub part_of_named : (machine : Machine) (command : Command) → IsConsistent machine → IsPartOf (part_named machine command) machine
unfolding part_named
part_of_named machine command is = record {
  handed = refl;
  accepted = refl;
  archs = refl;
  builders = λ name arch h. elim (in_joined (name, arch) (holder_pairs (entries_named machine command)) (pairs_named machine command) (set_in (name, arch) _ h)) [
    | inl held ↦
        let found = in_holders (name, arch) (entries_named machine command) held in
        let kept = all_kept machine command found.0 found.1 in
        let it = at_some (IsRecord machine found.0.0.0 found.0.0.1) _ found.0.1 kept (is.records found.0.0.0 found.0.0.1) in
        subst (λ a. IsTrue (set.contains machine.builders (name, a))) (sym found.3) (at_some (λ builder. IsTrue (set.contains machine.builders (builder, found.0.0.0))) _ name found.2 it.holder)
    | inr named ↦ pairs_kept machine command (name, arch) named
  ];
  records = λ entry kept. all_kept machine command entry (part_keeps machine command entry kept);
  holders = λ entry kept. by_cases entry (part_keeps machine command entry kept) entry.1.holder refl;
}
  where
    by_cases : (entry : Entry) → IsIn entry (entries_named machine command) → (holder : Option (List ℕ)) → entry.1.holder ≡ holder
        → IfSome entry.1.holder (λ name. IsTrue (set.contains (set.from_list {R = pair_cmp} (holder_pairs (entries_named machine command) ++ pairs_named machine command)) (name, entry.0.0)))
    by_cases entry h None none = subst (λ o. IfSome o (λ n. IsTrue (set.contains (set.from_list {R = pair_cmp} (holder_pairs (entries_named machine command) ++ pairs_named machine command)) (n, entry.0.0)))) (sym none) tt
    by_cases entry h (Some name) some =
        subst (λ o. IfSome o (λ n. IsTrue (set.contains (set.from_list {R = pair_cmp} (holder_pairs (entries_named machine command) ++ pairs_named machine command)) (n, entry.0.0)))) (sym some)
        (in_set (name, entry.0.0) _ (joined_first _ (holder_pairs (entries_named machine command)) (pairs_named machine command) (holders_in name entry (entries_named machine command) h some)))

not_some : {X : Type 0} {x : X} → None ≢ Some x
not_some e = cc

pub if_found : {X : Type 0} (P : X → Type 0) (found : Option X) → ((x : X) → found ≡ Some x → P x) → IfSome found P
if_found P None all = tt
if_found P (Some x) all = all x refl

builder_among : (machine : Machine) (added : Option Addition) (builder : Option (List ℕ)) → IsConsistent machine → (name arch : List ℕ) → builder ≡ Some name
    → IsTrue (set.contains machine.builders (name, arch)) → IsIn {X = Key} (name, arch) (pairs_sought machine added builder)
builder_among machine added (Some builder) is name arch named h =
    subst (λ b. IsIn {X = Key} (name, arch) (each (λ a. (b, a)) (archs_of machine b))) (sym (same_value builder name named)) (of_pair machine is name arch h)
builder_among machine added None is name arch named h = absurd (not_some named)

named_builder : (machine : Machine) (command : Command) → IsConsistent machine → (name arch : List ℕ)
    → builder_named command ≡ Some name
    → IsTrue (set.contains machine.builders (name, arch)) → IsIn {X = Key} (name, arch) (pairs_named machine command)
named_builder machine command is name arch named h = builder_among machine (arguments_of command).adds
    (builder_named command) is name arch named h

source_kept : (machine : Machine) (arch source : List ℕ) (key : Key) → Some (arch, source) ≡ Some key
    → IfSome (map.get machine.records key) (λ current. IsIn (key, current) (listed (record_named machine arch source) ++ []))
source_kept machine arch source key is =
    if_found (λ current. IsIn (key, current) (listed (record_named machine arch source) ++ [])) (map.get machine.records key) (λ current there.
    subst (λ (k : Key). map.get machine.records k ≡ Some current → IsIn (k, current) (listed (record_named machine arch source) ++ [])) (same_value (arch, source) key is)
    (λ here. joined_first _ (listed (record_named machine arch source)) [] (listed_in _ _ (named_kept machine arch source current here))) there)

source_among : (machine : Machine) (subject : Subject) (added : Option Addition) (key : Key) → source_in subject added ≡ Some key
    → IfSome (map.get machine.records key) (λ current. IsIn (key, current) (listed (first_named machine subject) ++ others_named machine subject))
source_among machine Nothing added key is = absurd (not_some is)
source_among machine (Source arch source) None key is = source_kept machine arch source key is
source_among machine (Source arch source) (Some added) key is = absurd (not_some is)
source_among machine (Taken take_number) added key is = absurd (not_some is)
source_among machine (Head next) added key is = absurd (not_some is)
source_among machine (Held builder) added key is = absurd (not_some is)

named_source : (machine : Machine) (command : Command) (key : Key) → source_named command ≡ Some key → IfSome (map.get machine.records key) (λ current. IsIn (key, current) (entries_named machine command))
named_source machine command key is = source_among machine (subject_of command) (arguments_of command).adds key is

-- what is found first is among what is named
first_among : (machine : Machine) (subject : Subject) → IfSome (first_named machine subject) (λ entry. IsIn entry (listed (first_named machine subject) ++ others_named machine subject))
first_among machine subject =
    if_found _ (first_named machine subject) (λ entry found. joined_first entry (listed (first_named machine subject)) (others_named machine subject) (listed_in entry _ found))

taken_among : (machine : Machine) (subject : Subject) (take_number : ℕ) → take_in subject ≡ Some take_number
    → IfSome (taken_as machine take_number) (λ entry. IsIn entry (listed (first_named machine subject) ++ others_named machine subject))
taken_among machine Nothing take_number is = absurd (not_some is)
taken_among machine (Source arch source) take_number is = absurd (not_some is)
taken_among machine (Taken number) take_number is =
    subst (λ t. IfSome (taken_as machine t) (λ entry. IsIn entry (listed (taken_as machine number) ++ []))) (same_value number take_number is) (first_among machine (Taken number))
taken_among machine (Head next) take_number is = absurd (not_some is)
taken_among machine (Held builder) take_number is = absurd (not_some is)

named_taken : (machine : Machine) (command : Command) (take_number : ℕ) → take_named command ≡ Some take_number → IfSome (taken_as machine take_number) (λ entry. IsIn entry (entries_named machine command))
named_taken machine command take_number is = taken_among machine (subject_of command) take_number is

head_among : (machine : Machine) (subject : Subject) (next : Next) → next_in subject ≡ Some next
    → IfSome (head_of machine next.arch) (λ entry. IsIn entry (listed (first_named machine subject) ++ others_named machine subject))
head_among machine Nothing next is = absurd (not_some is)
head_among machine (Source arch source) next is = absurd (not_some is)
head_among machine (Taken take_number) next is = absurd (not_some is)
head_among machine (Held builder) next is = absurd (not_some is)
head_among machine (Head asked) next is =
    subst (λ (n : Next). IfSome (head_of machine n.arch) (λ entry. IsIn entry (listed (head_of machine asked.arch) ++ held_again machine asked.builder asked.after))) (same_value asked next is)
    (first_among machine (Head asked))

named_head : (machine : Machine) (command : Command) (next : Next) → next_named command ≡ Some next → IfSome (head_of machine next.arch) (λ entry. IsIn entry (entries_named machine command))
named_head machine command next is = head_among machine (subject_of command) next is

again_held : (machine : Machine) (arch builder : List ℕ) (after : Option ℕ) → IfSome (option_and_then (building_after machine arch builder) after) (λ entry. IsIn entry (held_again machine builder after))
again_held machine arch builder None = tt
again_held machine arch builder (Some after) =
    if_found _ (building_after machine arch builder after) (λ entry found. let h = building_after-is machine arch builder after entry found in (held_of-in machine builder entry).1 (h.kept, h.holder))

weaker : {X : Type 0} {P Q : X → Type 0} (found : Option X) → ((x : X) → P x → Q x) → IfSome found P → IfSome found Q
weaker None all h = tt
weaker (Some x) all h = all x h

again_among : (machine : Machine) (subject : Subject)
    → IfSome (option_and_then (λ (next : Next). option_and_then (building_after machine next.arch next.builder) next.after) (next_in subject))
    (λ entry. IsIn entry (listed (first_named machine subject) ++ others_named machine subject))
again_among machine Nothing = tt
again_among machine (Source arch source) = tt
again_among machine (Taken take_number) = tt
again_among machine (Held builder) = tt
again_among machine (Head next) =
    weaker (option_and_then (building_after machine next.arch next.builder) next.after) (λ entry. joined_later entry (listed (head_of machine next.arch)) (held_again machine next.builder next.after))
    (again_held machine next.arch next.builder next.after)

named_again : (machine : Machine) (command : Command) → IfSome (again_of machine command) (λ entry. IsIn entry (entries_named machine command))
named_again machine command = again_among machine (subject_of command)

named_there : (machine : Machine) (command : Command) → IsConsistent machine → is_there_already (part_named machine command) command ≡ is_there_already machine command
unfolding part_named
named_there machine (of.AddArch fields) is = refl
named_there machine (of.AddBuilder fields) is =
    same_test _ _ ((part_of_named machine (of.AddBuilder fields) is).builders fields.name fields.arch)
    (λ h. in_set (fields.name, fields.arch) _ (there_pair (set.contains machine.builders) (set.contains machine.builders (fields.name, fields.arch)) refl h))
named_there machine (of.Enter fields) is =
    ap is_some (same_source_named (part_named machine (of.Enter fields)) machine (part_of_named machine (of.Enter fields) is) (fields.arch, fields.source)
    (weaker (map.get machine.records (fields.arch, fields.source)) (λ current. kept_by_part machine (of.Enter fields) ((fields.arch, fields.source), current)) (source_kept machine fields.arch fields.source (fields.arch, fields.source) refl)))
named_there machine _ is = refl

builder_in_part : (machine : Machine) (command : Command) → IsConsistent machine → (name arch : List ℕ)
    → builder_named command ≡ Some name → IsTrue (set.contains machine.builders (name, arch))
    → IsTrue (set.contains (part_named machine command).builders (name, arch))
unfolding part_named
builder_in_part machine command is name arch named h =
    in_set (name, arch) _ (joined_later _ (holder_pairs (entries_named machine command)) (pairs_named machine command) (named_builder machine command is name arch named h))

-- one of a list that passes a test
some_of : {X : Type 0} (p : X → Bool) (list : List X) → IsTrue (list_any p list) → (x : X) × IsIn x list × IsTrue (p x)
some_of p [] one = absurd (no one) where
  no : false ≡ true → ⊥
  no e = cc
some_of {X} p (x ∷ list) one =
    elim (p x) as (λ b. p x ≡ b → (y : X) × IsIn y (x ∷ list) × IsTrue (p y)) [
      | true ↦ λ passes. (x, inl refl, passes)
      | false ↦ λ fails. let later = some_of p list (ap (λ b. b || list_any p list) (sym fails) ∙ one) in
          (later.0, inr later.1, later.2)
    ] refl

passes_in : {X : Type 0} (p : X → Bool) (list : List X) (x : X) → IsIn x list → IsTrue (p x) → IsTrue (list_any p list)
passes_in p [] x within passes = absurd within
passes_in p (y ∷ list) x (inl same) passes = ap (λ b. b || list_any p list) (ap p (sym same) ∙ passes)
passes_in p (y ∷ list) x (inr later) passes = ap (λ b. p y || b) (passes_in p list x later passes) ∙ or_last (p y) where
  or_last : (b : Bool) → (b || true) ≡ true
  or_last true = refl
  or_last false = refl

-- the records of a state are those that it keeps
entries_kept : (machine : Machine) (entry : Entry) → IsIn entry (map.entries machine.records) ↔ IsKept machine entry
entries_kept machine entry =
    let found = IsIn-find pair_cmp_total pair_cmp-same entry (map.entries machine.records)
    (map.entries_sorted machine.records) in (
      λ within. map.get-entries machine.records entry.0 ∙ found.0 within,
      λ kept.
          found.1 (sym (map.get-entries machine.records entry.0) ∙ kept),
    )

held_by_is : (name : List ℕ) (holder : Option (List ℕ)) → has_value (bytes_eq name) holder ≡ true → holder ≡ Some name
held_by_is name None h = cc
held_by_is name (Some other) h = ap (λ n. Some n) (sym ((bytes_eq-Decides name other).0 h))

no_arch : {A : Type 0} (name : List ℕ) → Some name ≡ None → A
no_arch name e = cc

-- what a command takes away is held in the part where it is held in the whole
named_held : (machine : Machine) (command : Command) → IsConsistent machine → IsSingle command
    → is_still_held (part_named machine command) command ≡ is_still_held machine command
named_held machine (of.RemoveArch fields) is single = no_arch fields.name single.keeps
named_held machine (of.RemoveBuilder fields) is single =
    same_test (list_any test (map.entries part.records)) (list_any test (map.entries machine.records))
    (λ one. let found = some_of test (map.entries part.records) one in
    passes_in test (map.entries machine.records) found.0
    ((entries_kept machine found.0).1 ((part_of_named machine asked is).records found.0
    ((entries_kept part found.0).0 found.1))) found.2)
    (λ one. let found = some_of test (map.entries machine.records) one in
    let holder = held_by_is fields.name found.0.1.holder
    (and_parts (is_on fields.arch found.0) (has_value (bytes_eq fields.name) found.0.1.holder) found.2).1 in
    passes_in test (map.entries part.records) found.0
    ((entries_kept part found.0).1 (kept_by_part machine asked found.0
    ((held_of-in machine fields.name found.0).1 ((entries_kept machine found.0).0 found.1, holder)))) found.2)
  where
    asked : Command
    asked = of.RemoveBuilder fields

    part : Machine
    part = part_named machine asked

    test : Entry → Bool
    test = is_held_on fields.arch fields.name
named_held machine (of.Forget fields) is single =
    ap (has_value has_holder) (same_source_named (part_named machine (of.Forget fields)) machine
    (part_of_named machine (of.Forget fields) is) (fields.arch, fields.source)
    (weaker (map.get machine.records (fields.arch, fields.source))
    (λ current. kept_by_part machine (of.Forget fields) ((fields.arch, fields.source), current))
    (source_kept machine fields.arch fields.source (fields.arch, fields.source) refl)))
named_held machine _ is single = refl

pub part_has_all_named : (machine : Machine) (command : Command) → IsConsistent machine → IsSingle command
    → HasAllNamed command (part_named machine command) machine
part_has_all_named machine command is single = record {
  builder = λ name arch named h. builder_in_part machine command is name arch named h;
  source = λ key named. weaker _ (λ current. kept_by_part machine command (key, current)) (named_source machine command key named);
  taken = λ take_number named. weaker _ (kept_by_part machine command) (named_taken machine command take_number named);
  head = λ next named. weaker _ (kept_by_part machine command) (named_head machine command next named);
  again = weaker _ (kept_by_part machine command) (named_again machine command);
  there = named_there machine command is;
  held = named_held machine command is single;
  single = single;
}
