-- What a query for a record shows is what lists show of it.
use Rattle.std.proofs.Common.{◌≡◌, ◌↔◌, inl, inr, ℕ, Bool, true, false, not, ◌&&◌, ◌||◌, cond, List, [], ◌∷◌}
use Rattle.std.proofs.Common.{map as each, Option, None, Some, IfSome, IsTrue, Result, Ok, Err, refl, sym, ap}
use Rattle.std.proofs.Common.{subst, ◌∙◌}
use Rattle.std.specs.Prelude.{is_none, is_some}
use Rattle.std.specs.List.{list_any}
use Rattle.std.specs.FinMap as map
use Rattle.std.specs.FinSet as set
use Rattle.std.specs.Ordering.{eq_by_cmp}
use Rattle.std.proofs.lemmas.Slice.Eq.{bytes_eq-Decides}
use Rattle.deb_relations.specs.Names.{is_package_name}
use Rattle.deb_text.specs.Lists.{IsIn, is_nonempty}
use Rattle.deb_text.specs.Text.{text_cmp}
use Rattle.deb_text.proofs.KeyLemmas.{text_cmp-same, eq_by_cmp-same}
use Rattle.deb_text.proofs.SortedLemmas.{IsIn-filter}
use Rattle.wb_states.specs.declared.arch.OsCpu.{OsCpu}
use Rattle.wb_states.specs.declared.keyed.KeyedRecord.{KeyedRecord}
use Rattle.wb_states.specs.declared.query.Answer.{Answer}
use Rattle.wb_states.specs.declared.query.Answer.TheVariants.{Queue, ByState, Item, Mine, Depends, Summary, Office}
use Rattle.wb_states.specs.declared.query.Answer.TheVariants.{Archs, Builders}
use Rattle.wb_states.specs.declared.query.Query.{Query}
use Rattle.wb_states.specs.declared.query.Query.TheVariants as asked
use Rattle.wb_states.specs.declared.record.Record.{Record}
use Rattle.wb_states.specs.declared.refusal.Refusal.{Refusal}
use Rattle.wb_states.specs.declared.refusal.Refusal.TheVariants.{BadName, UnknownArch, UnknownBuilder}
use Rattle.wb_states.specs.declared.state.State.{State}
use Rattle.wb_states.specs.declared.state.State.TheVariants.{NeedsBuild, Building, Built, Uploaded, Installed, DepWait}
use Rattle.wb_states.specs.declared.state.State.TheVariants.{BdUninstallable, Failed, NotForUs, BuildAttempted}
use Rattle.wb_states.specs.Holds.{held_of}
use Rattle.wb_states.specs.Lookups.{counts_of, is_of, keyed, rows_in, rows_of}
use Rattle.wb_states.specs.Machine.{Machine, IsArch, IsConsistent, IsRecord, archs_of, builder_pairs, is_unknown_arch}
use Rattle.wb_states.specs.Machine.{is_unknown_builder}
use Rattle.wb_states.specs.Names.{has_bad_key, is_arch_name, is_builder_name}
use Rattle.wb_states.specs.Queries.{answer_of, depends_at, found_at, listed_in, records_in}
use Rattle.wb_states.specs.Queue.{Entry, queue_of}
use Rattle.wb_states.specs.State.{name_of, state_named}
use Rattle.wb_states.proofs.HoldLemmas.{held_of-in}
use Rattle.wb_states.proofs.QueueLemmas.{IsIn-entries, IsIn-queue_of}
use Rattle.wb_states.proofs.ShareLemmas.{IsIn-rows_in}

-- ---- records with their keys

in_keyed : (entry : Entry) (entries : List Entry) → IsIn entry entries → IsIn (keyed entry) (each keyed entries)
in_keyed entry [] within = absurd within
in_keyed entry (x ∷ xs) (inl same) = inl (ap keyed same)
in_keyed entry (x ∷ xs) (inr later) = inr (in_keyed entry xs later)

from_keyed : (row : KeyedRecord) (entries : List Entry) → IsIn row (each keyed entries)
    → (entry : Entry) × IsIn entry entries × (row ≡ keyed entry)
from_keyed row [] within = absurd within
from_keyed row (x ∷ xs) (inl same) = (x, inl refl, same)
from_keyed row (x ∷ xs) (inr later) = let found = from_keyed row xs later in (found.0, inr found.1, found.2)

IsIn-rows_of : (machine : Machine) (arch : List ℕ) (entry : Entry)
    → IsIn entry (rows_of machine arch) ↔ ((map.get machine.records entry.0 ≡ Some entry.1) × (entry.0.0 ≡ arch))
unfolding rows_of
IsIn-rows_of machine arch entry =
    let kept = IsIn-filter (is_of arch) entry (map.entries machine.records) in
    let there = IsIn-entries machine entry in
    let same = bytes_eq-Decides entry.0.0 arch in
    (λ h. let here = kept.0 h in (there.0 here.0, same.0 here.1), λ h. kept.1 (there.1 h.0, same.1 h.1))

-- ---- the record that a query for it shows

-- it is kept, under names in their forms
record IsShown (machine : Machine) (arch source : List ℕ) (row : KeyedRecord) : Type 0 where
  pub formed : has_bad_key arch source ≡ false
  pub known : is_unknown_arch machine arch ≡ false
  pub kept : map.get machine.records (arch, source) ≡ Some row.current
  pub is : row ≡ keyed ((arch, source), row.current)

read_item : (arch source : List ℕ) (row : KeyedRecord) (bad unknown : Bool) (found : Option Record)
    → cond bad (Err BadName) (cond unknown (Err UnknownArch) (found_at arch source found)) ≡ Ok (Item row)
    → (bad ≡ false) × ((unknown ≡ false) × ((found ≡ Some row.current) × (row ≡ keyed ((arch, source), row.current))))
read_item arch source row true unknown found is = absurd cc
read_item arch source row false true found is = absurd cc
read_item arch source row false false None is = absurd cc
read_item arch source row false false (Some current) is =
    let same : keyed ((arch, source), current) ≡ row = cc in (
      refl,
      (
        refl,
        (
          ap (λ (r : KeyedRecord). Some r.current) same,
          sym same
              ∙ ap (λ (r : KeyedRecord). keyed ((arch, source), r.current)) same,
        ),
      ),
    )

is_shown : (machine : Machine) (arch source : List ℕ) (row : KeyedRecord)
    → answer_of machine (asked.Item arch source) ≡ Ok (Item row) → IsShown machine arch source row
unfolding answer_of
is_shown machine arch source row is =
    let parts = read_item arch source row (has_bad_key arch source) (is_unknown_arch machine arch)
    (map.get machine.records (arch, source)) is in
    record { formed = parts.0; known = parts.1.0; kept = parts.1.1.0; is = parts.1.1.1 }

shown_is : (machine : Machine) (arch source : List ℕ) (current : Record) → has_bad_key arch source ≡ false
    → is_unknown_arch machine arch ≡ false → map.get machine.records (arch, source) ≡ Some current
    → answer_of machine (asked.Item arch source) ≡ Ok (Item (keyed ((arch, source), current)))
unfolding answer_of
shown_is machine arch source current formed known kept = λ i. cond (formed i) (Err BadName)
    (cond (known i) (Err UnknownArch) (found_at arch source (kept i)))

-- ---- the records in its state

named : (state : State) → state_named (name_of state) ≡ Some state
named NeedsBuild = refl
named Building = refl
named Built = refl
named Uploaded = refl
named Installed = refl
named DepWait = refl
named BdUninstallable = refl
named Failed = refl
named NotForUs = refl
named BuildAttempted = refl

first_is : (a b : Bool) → not (a && b) ≡ false → a ≡ true
first_is true b is = refl
first_is false b is = absurd cc

by_state_is : (machine : Machine) (arch : List ℕ) (state : State) → is_arch_name arch ≡ true
    → is_unknown_arch machine arch ≡ false
    → answer_of machine (asked.ByState arch (name_of state)) ≡ Ok
    (ByState arch state (each keyed (rows_in machine arch state)))
unfolding answer_of
by_state_is machine arch state formed known =
    (λ i. cond (not (formed i) || is_none (named state i)) (Err BadName) (records_in machine arch (named state i)))
    ∙ ap (λ b. cond b (Err UnknownArch) (Ok (ByState arch state (each keyed (rows_in machine arch state))))) known

-- a record that is shown is listed in its state
pub listed_by_state : (machine : Machine) (arch source : List ℕ) (row : KeyedRecord)
    → answer_of machine (asked.Item arch source) ≡ Ok (Item row)
    → (answer : Answer) × (answer_of machine (asked.ByState arch (name_of row.current.state)) ≡ Ok answer)
    × IsIn row (listed_in answer)
listed_by_state machine arch source row shown =
    let is = is_shown machine arch source row shown in
    let state = row.current.state in
    let entry : Entry = ((arch, source), row.current) in
    let within : IsIn entry (rows_in machine arch state) = (IsIn-rows_in machine arch state entry).1
    ((IsIn-rows_of machine arch entry).1 (is.kept, refl), refl) in (
      ByState arch state (each keyed (rows_in machine arch state)),
      by_state_is machine arch state (first_is (is_arch_name arch) (is_package_name source) is.formed) is.known,
      subst (λ r. IsIn r (each keyed (rows_in machine arch state))) (sym is.is)
          (in_keyed entry (rows_in machine arch state) within),
    )

-- ---- what its holder holds

text_in : (name : List ℕ) (names : List (List ℕ)) → list_any (eq_by_cmp text_cmp name) names ≡ true → IsIn name names
text_in name [] e = absurd cc
text_in name (x ∷ names) e =
    elim (eq_by_cmp text_cmp name x) as (λ b. eq_by_cmp text_cmp name x ≡ b → IsIn name (x ∷ names)) [
      | true ↦ λ tie. inl (eq_by_cmp-same text_cmp-same name x tie)
      | false ↦ λ apart. inr (text_in name names (subst (λ b. (b || list_any (eq_by_cmp text_cmp name) names) ≡ true)
          apart e))
    ] refl

nonempty : {X : Type 0} (x : X) (xs : List X) → IsIn x xs → not (is_nonempty xs) ≡ false
nonempty x [] within = absurd within
nonempty x (y ∷ ys) within = refl

-- a builder that was added for an architecture is known
known_builder : (machine : Machine) → IsConsistent machine → (builder arch : List ℕ)
    → IsTrue (set.contains machine.builders (builder, arch)) → is_unknown_builder machine builder ≡ false
known_builder machine sound builder arch added =
    let known = (sound.builders builder arch added).known in
    let key : IsIn arch (map.keys machine.archs) = text_in arch (map.keys machine.archs)
    (sym (map.contains_key-keys machine.archs arch) ∙ known) in
    nonempty arch (archs_of machine builder) ((IsIn-filter (λ a. set.contains machine.builders (builder, a)) arch
    (map.keys machine.archs)).1 (key, added))

mine_is : (machine : Machine) (builder : List ℕ) → is_builder_name builder ≡ true
    → is_unknown_builder machine builder ≡ false
    → answer_of machine (asked.Mine builder) ≡ Ok (Mine builder (each keyed (held_of machine builder)))
unfolding answer_of
mine_is machine builder formed known = λ i. cond (not (formed i)) (Err BadName)
    (cond (known i) (Err UnknownBuilder) (Ok (Mine builder (each keyed (held_of machine builder)))))

kept_record : (machine : Machine) → IsConsistent machine → (entry : Entry)
    → map.get machine.records entry.0 ≡ Some entry.1 → IsRecord machine entry.0.0 entry.0.1 entry.1
kept_record machine sound entry kept = subst (λ found. IfSome found (IsRecord machine entry.0.0 entry.0.1)) kept
    (sound.records entry.0.0 entry.0.1)

-- a record that is shown is listed among what its holder holds
pub listed_by_holder : (machine : Machine) (arch source builder : List ℕ) (row : KeyedRecord) → IsConsistent machine
    → answer_of machine (asked.Item arch source) ≡ Ok (Item row) → row.current.holder ≡ Some builder
    → (answer : Answer) × (answer_of machine (asked.Mine builder) ≡ Ok answer) × IsIn row (listed_in answer)
listed_by_holder machine arch source builder row sound shown held =
    let is = is_shown machine arch source row shown in
    let entry : Entry = ((arch, source), row.current) in
    let good = kept_record machine sound entry is.kept in
    let added : IsTrue (set.contains machine.builders (builder, arch)) = subst
    (λ o. IfSome o (λ b. IsTrue (set.contains machine.builders (b, arch)))) held good.holder in
    let within : IsIn entry (held_of machine builder) = (held_of-in machine builder entry).1 (is.kept, held) in (
      Mine builder (each keyed (held_of machine builder)),
      mine_is machine builder (sound.builders builder arch added).name (known_builder machine sound builder arch added),
      subst (λ r. IsIn r (each keyed (held_of machine builder))) (sym is.is)
          (in_keyed entry (held_of machine builder) within),
    )

-- ---- what is listed is shown

not_known : (b : Bool) → b ≡ true → not b ≡ false
not_known b is = ap not is

both_formed : (a b : Bool) → a ≡ true → b ≡ true → not (a && b) ≡ false
both_formed a b p q = λ i. not (p i && q i)

arch_formed : (machine : Machine) → IsConsistent machine → (arch : List ℕ) (words : Option OsCpu)
    → map.get machine.archs arch ≡ words → is_some words ≡ true → is_arch_name arch ≡ true
arch_formed machine sound arch None is there = absurd cc
arch_formed machine sound arch (Some words) is there =
    let formed : IsArch arch words = subst (λ found. IfSome found (IsArch arch)) is (sound.archs arch) in formed.name

-- a record that is kept is shown
kept_shown : (machine : Machine) → IsConsistent machine → (entry : Entry)
    → map.get machine.records entry.0 ≡ Some entry.1
    → answer_of machine (asked.Item entry.0.0 entry.0.1) ≡ Ok (Item (keyed entry))
kept_shown machine sound entry kept =
    let is = kept_record machine sound entry kept in
    shown_is machine entry.0.0 entry.0.1 entry.1
    (both_formed (is_arch_name entry.0.0) (is_package_name entry.0.1)
    (arch_formed machine sound entry.0.0 (map.get machine.archs entry.0.0) refl is.known) is.name)
    (not_known (map.contains_key machine.archs entry.0.0) is.known) kept

-- the records of a list are kept
abbrev AreKept : Machine → List Entry → Type 0
AreKept machine entries = (entry : Entry) → IsIn entry entries → map.get machine.records entry.0 ≡ Some entry.1

-- the answer lists records that are kept, if it lists any
abbrev ListsKept : Machine → Answer → Type 0
ListsKept machine answer = (row : KeyedRecord) → IsIn row (listed_in answer) → (entry : Entry)
    × (map.get machine.records entry.0 ≡ Some entry.1) × (row ≡ keyed entry)

lists_kept : (machine : Machine) (entries : List Entry) → AreKept machine entries → (row : KeyedRecord)
    → IsIn row (each keyed entries)
    → (entry : Entry) × (map.get machine.records entry.0 ≡ Some entry.1) × (row ≡ keyed entry)
lists_kept machine entries kept row within = let found = from_keyed row entries within in
    (found.0, kept found.0 found.1, found.2)

-- after a test that refuses
past : (machine : Machine) (refusal : Refusal) (bad : Bool) (answered : Result Answer Refusal) (answer : Answer)
    → cond bad (Err refusal) answered ≡ Ok answer → answered ≡ Ok answer
past machine refusal true answered answer is = absurd cc
past machine refusal false answered answer is = is

same_answer : (machine : Machine) (one answer : Answer) → ListsKept machine one
    → ◌≡◌ {A = Result Answer Refusal} (Ok one) (Ok answer) → ListsKept machine answer
same_answer machine one answer kept is = let same : one ≡ answer = cc in subst (ListsKept machine) same kept

queue_kept : (machine : Machine) (arch : List ℕ) → AreKept machine (queue_of machine arch)
queue_kept machine arch entry within = ((IsIn-queue_of machine arch entry).0 within).0

in_state_kept : (machine : Machine) (arch : List ℕ) (state : State) → AreKept machine (rows_in machine arch state)
in_state_kept machine arch state entry within = ((IsIn-rows_of machine arch entry).0
    ((IsIn-rows_in machine arch state entry).0 within).0).0

held_kept : (machine : Machine) (builder : List ℕ) → AreKept machine (held_of machine builder)
held_kept machine builder entry within = ((held_of-in machine builder entry).0 within).0

none_listed : (machine : Machine) (answer : Answer) → listed_in answer ≡ [] → ListsKept machine answer
none_listed machine answer none row within = absurd (subst (IsIn row) none within)

item_lists : (machine : Machine) (arch source : List ℕ) (found : Option Record) (answer : Answer)
    → found_at arch source found ≡ Ok answer → ListsKept machine answer
item_lists machine arch source None answer is = absurd cc
item_lists machine arch source (Some current) answer is = same_answer machine (Item (keyed ((arch, source), current)))
    answer (λ row within. absurd within) is

depends_lists : (machine : Machine) (arch source : List ℕ) (found : Option Record) (answer : Answer)
    → depends_at arch source found ≡ Ok answer → ListsKept machine answer
depends_lists machine arch source None answer is = absurd cc
depends_lists machine arch source (Some current) answer is = same_answer machine (Depends arch source current.depends)
    answer (λ row within. absurd within) is

by_state_lists : (machine : Machine) (arch : List ℕ) (state : Option State) (answer : Answer)
    → records_in machine arch state ≡ Ok answer → ListsKept machine answer
by_state_lists machine arch None answer is = absurd cc
by_state_lists machine arch (Some state) answer is =
    same_answer machine (ByState arch state (each keyed (rows_in machine arch state))) answer
    (lists_kept machine (rows_in machine arch state) (in_state_kept machine arch state))
    (past machine UnknownArch (is_unknown_arch machine arch) _ answer is)

-- whatever is asked, the records that are listed are kept
answer_lists : (machine : Machine) (query : Query) (answer : Answer) → answer_of machine query ≡ Ok answer
    → ListsKept machine answer
unfolding answer_of
answer_lists machine (asked.Queue arch) answer is =
    same_answer machine (Queue arch (each keyed (queue_of machine arch))) answer
    (lists_kept machine (queue_of machine arch) (queue_kept machine arch))
    (past machine UnknownArch (is_unknown_arch machine arch) _ answer (past machine BadName _ _ answer is))
answer_lists machine (asked.ByState arch state) answer is = by_state_lists machine arch (state_named state) answer
    (past machine BadName _ _ answer is)
answer_lists machine (asked.Item arch source) answer is =
    item_lists machine arch source (map.get machine.records (arch, source)) answer
    (past machine UnknownArch (is_unknown_arch machine arch) _ answer (past machine BadName _ _ answer is))
answer_lists machine (asked.Mine builder) answer is =
    same_answer machine (Mine builder (each keyed (held_of machine builder))) answer
    (lists_kept machine (held_of machine builder) (held_kept machine builder))
    (past machine UnknownBuilder (is_unknown_builder machine builder) _ answer (past machine BadName _ _ answer is))
answer_lists machine (asked.Depends arch source) answer is =
    depends_lists machine arch source (map.get machine.records (arch, source)) answer
    (past machine UnknownArch (is_unknown_arch machine arch) _ answer (past machine BadName _ _ answer is))
answer_lists machine (asked.Summary arch) answer is =
    same_answer machine (Summary machine.accepted arch (counts_of machine arch)) answer (λ row within. absurd within)
    (past machine UnknownArch (is_unknown_arch machine arch) _ answer (past machine BadName _ _ answer is))
answer_lists machine asked.Office answer is = same_answer machine (Office machine.accepted machine.handed) answer
    (λ row within. absurd within) is
answer_lists machine asked.Archs answer is =
    same_answer machine (Archs machine.accepted (map.entries machine.archs)) answer (λ row within. absurd within) is
answer_lists machine asked.Builders answer is =
    same_answer machine (Builders machine.accepted (builder_pairs machine)) answer (λ row within. absurd within) is

-- a record that is listed is what a query for it shows
pub listed_is_shown : (machine : Machine) (query : Query) (answer : Answer) (row : KeyedRecord) → IsConsistent machine
    → answer_of machine query ≡ Ok answer → IsIn row (listed_in answer)
    → answer_of machine (asked.Item row.arch row.source) ≡ Ok (Item row)
listed_is_shown machine query answer row sound is within =
    let found = answer_lists machine query answer is row within in
    subst (λ (r : KeyedRecord). answer_of machine (asked.Item r.arch r.source) ≡ Ok (Item r)) (sym found.2)
    (kept_shown machine sound found.0 found.1)
