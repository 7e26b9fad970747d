-- Rows that cannot matter to a merge change nothing of it.
use Rattle.std.proofs.Common.{◌≡◌, ℕ, ◌+◌, Bool, true, false, cond, not, ◌||◌, ◌&&◌, List, [], ◌∷◌, ◌++◌, length}
use Rattle.std.proofs.Common.{filter, map, bytes_eq, Option, Some, None, Result, Ok, Err, refl, sym, ap, ap₂, subst}
use Rattle.std.proofs.Common.{◌∙◌, inl, inr, arith}
use Rattle.std.specs.Prelude.{◌==◌, IfSome}
use Rattle.std.specs.List.{AllByRecursion, list_any}
use Rattle.std.specs.Option.{option_map_or}
use Rattle.std.specs.FinMap as finite
use Rattle.std.proofs.lemmas.Bool.Decides.{nat_tests}
use Rattle.std.proofs.lemmas.Cmp.{nat_list_eq_equiv}
use Rattle.deb_relations.specs.declared.arch.ArchWords.{ArchWords}
use Rattle.deb_relations.specs.declared.fault.RelationFault.{RelationFault}
use Rattle.deb_relations.specs.declared.relations.Alternative.{Alternative}
use Rattle.deb_relations.specs.Reading.{reading_of}
use Rattle.deb_relations.specs.Satisfaction.{Offer, Pairs, is_among, names_of, versions_of}
use Rattle.deb_relations.proofs.NamedLemmas.{satisfied-same}
use Rattle.deb_text.specs.Lists.{IsIn}
use Rattle.deb_text.proofs.KeyLemmas.{pair_cmp_total, pair_cmp-same, text_cmp_total, text_cmp-same}
use Rattle.wb_states.specs.declared.record.Record.{Record}
use Rattle.wb_states.specs.declared.scratch.SourceRow.{SourceRow}
use Rattle.wb_states.specs.declared.scratch.BinaryRow.{BinaryRow}
use Rattle.wb_states.specs.State.{is_dep_wait}
use Rattle.wb_merge.specs.declared.listing.Listed.{Listed}
use Rattle.wb_merge.specs.declared.listing.Built.{Built}
use Rattle.wb_merge.specs.declared.merge.Change.{Change}
use Rattle.std.specs.Ordering.{is_gt}
use Rattle.wb_merge.specs.Listing.{ArchiveListing, best_from, better, built_cmp, is_candidate, is_listed}
use Rattle.wb_merge.specs.Merge.{are_waits_met, is_reading_met, record_after}
use Rattle.wb_merge.specs.Merged.{Records, change_of, counts_over, is_added, is_changed, is_kept, is_removed, merge_counts, merged, names_of as names_merged, number_where, record_after_at, record_after_named, recorded_names}
use Rattle.wb_merge.specs.Scratch.{build_of, built_in, is_build_of, is_binary_wanted, joined_rows, listing_of_kept}
use Rattle.wb_merge.specs.Scratch.{row_of_kept, versions_in}
use Rattle.wb_merge.specs.Steps.{Key}
use Rattle.wb_merge.proofs.FoundLemmas.{record-given}
use Rattle.wb_merge.proofs.MergeLemmas.{merged-get}
use Rattle.wb_merge.proofs.NameLemmas.{bytes_eq-is}
use Rattle.wb_merge.proofs.ScratchLemmas.{built-kept, filter-weaker, listed-kept, listed_in-filter, versions-kept}
use Rattle.wb_archive.specs.Fills.{binaries_behind, binaries_wanted, is_repeat, is_same_build, is_source_wanted}
use Rattle.wb_archive.specs.Fills.{numbered, repeats, rows_wanted}
use Rattle.wb_archive.specs.Waited.{AreAllWaitedFor, AreWaitedFor}
use Rattle.wb_archive.proofs.FillLemmas.{behind-none}

-- ---- what is wanted

or-right : (a b : Bool) → b ≡ true → (a || b) ≡ true
or-right true b e = refl
or-right false b e = e

and-right : (a b : Bool) → (a && b) ≡ true → b ≡ true
and-right true b e = e
and-right false b e = absurd cc

any-in : {X : Type 0} (test : X → Bool) (x : X) (xs : List X) → IsIn x xs → test x ≡ true → list_any test xs ≡ true
any-in test x [] there e = absurd there
any-in test x (y ∷ xs) (inl is) e = ap (λ b. b || list_any test xs) (ap test (sym is) ∙ e)
any-in test x (y ∷ xs) (inr there) e = or-right (test y) (list_any test xs) (any-in test x xs there e)

candidate-wanted : (arch : ArchWords) (archs : List ArchWords) → IsIn arch archs → (name : List ℕ) (row : SourceRow)
    → is_candidate arch name (row_of_kept row) ≡ true → is_source_wanted archs row ≡ true
unfolding is_candidate
candidate-wanted arch archs there name row e = any-in (λ a. is_listed a (row_of_kept row)) arch archs there (and-right (bytes_eq name row.name) _ e)

-- ---- listings that differ in what is available alone

each-among : {P : List ℕ → Type 0} (names : List (List ℕ)) → ((name : List ℕ) → is_among name names ≡ true → P name) → AllByRecursion P names
each-among [] h = tt
each-among (name ∷ names) h = (
  h name (ap (λ b. b || is_among name names) (nat_list_eq_equiv.refl name)),
  each-among names (λ other among. h other (or-right (bytes_eq name other) (is_among other names) among)),
)

-- waits are met alike where the versions of their names are the same
waits-same : (one other : Pairs) (waited : List ℕ → Bool) → ((name : List ℕ) → waited name ≡ true → versions_of one name ≡ versions_of other name)
    → (waits : List ℕ) → AreWaitedFor waited waits → are_waits_met one waits ≡ are_waits_met other waits
unfolding are_waits_met
waits-same one other waited same waits covered = at (reading_of waits) refl where
  at : (reading : Result (List (List Alternative)) RelationFault) → reading_of waits ≡ reading → is_reading_met one reading ≡ is_reading_met other reading
  at (Err fault) e = refl
  at (Ok groups) e = satisfied-same one other groups (each-among
      {P = λ name. (version : Offer) → (IsIn version (versions_of one name) → IsIn version (versions_of other name)) ×
      (IsIn version (versions_of other name) → IsIn version (versions_of one name))}
      (names_of groups) (λ name among version.
      let is = same name (covered groups name e among) in
      (subst (λ l. IsIn version l) is, subst (λ l. IsIn version l) (sym is))))

record-same : (current : Option Record) (listed : Option Listed) (built : Option Built) (one other : Pairs)
    → IfSome current (λ c. is_dep_wait c.state ≡ true → are_waits_met one c.waits ≡ are_waits_met other c.waits)
    → record_after current listed built one ≡ record_after current listed built other
record-same None None built one other same = refl
record-same None (Some listed) built one other same = refl
record-same (Some current) listed built one other same =
    sym (record-given (Some current) listed built one (are_waits_met one current.waits) (λ _. refl))
    ∙ record-given (Some current) listed built other (are_waits_met one current.waits) same

-- two listings with the same source packages and builds, whose waits are met alike
pub record AreAlike (records : Records) (arch : List ℕ) (one other : ArchiveListing) : Type 0 where
  pub listed : one.listed ≡ other.listed
  pub built : one.built ≡ other.built
  pub waits : (name : List ℕ) → IfSome (finite.get records (arch, name)) (λ c. is_dep_wait c.state ≡ true → are_waits_met one.available c.waits ≡ are_waits_met other.available c.waits)

module _ (records : Records) (arch : List ℕ) (one other : ArchiveListing) (alike : AreAlike records arch one other) where
  named-same : (name : List ℕ) → record_after_named one name (finite.get records (arch, name)) ≡ record_after_named other name (finite.get records (arch, name))
  named-same name =
      record-same (finite.get records (arch, name)) (finite.get one.listed name) (finite.get one.built name) one.available other.available (alike.waits name)
      ∙ (λ i. record_after (finite.get records (arch, name)) (finite.get (alike.listed i) name) (finite.get (alike.built i) name) other.available)

  at-same : (key : Key) → record_after_at records arch one key ≡ record_after_at records arch other key
  unfolding record_after_at
  at-same key = go (bytes_eq key.0 arch) refl where
    go : (b : Bool) → bytes_eq key.0 arch ≡ b
        → cond b (record_after_named one key.1 (finite.get records key)) (finite.get records key) ≡ cond b (record_after_named other key.1 (finite.get records key)) (finite.get records key)
    go true e = subst (λ (a : List ℕ). record_after_named one key.1 (finite.get records (a, key.1)) ≡ record_after_named other key.1 (finite.get records (a, key.1)))
        (sym (bytes_eq-is key.0 arch e)) (named-same key.1)
    go false e = refl

  pub merged-same : merged records arch one ≡ merged records arch other
  merged-same = finite.same_map pair_cmp_total pair_cmp-same _ _ (λ key. merged-get records arch one key ∙ at-same key ∙ sym (merged-get records arch other key))

  names-same : names_merged records arch one ≡ names_merged records arch other
  unfolding names_merged
  names-same = λ i. recorded_names records arch ++ filter (λ name. not (finite.contains_key records (arch, name))) (finite.keys (alike.listed i))

  number-same : (test : Change → Bool) → number_where test records arch one (names_merged records arch one) ≡ number_where test records arch other (names_merged records arch other)
  number-same test = λ i. length (filter (λ name. test (change_of (finite.get records (arch, name)) (at-same (arch, name) i))) (names-same i))

  pub counts-same : merge_counts records arch one ≡ merge_counts records arch other
  unfolding merge_counts counts_over
  counts-same = λ i. record {
    added = number-same is_added i;
    changed = number-same is_changed i;
    kept = number-same is_kept i;
    removed = number-same is_removed i;
  }

-- ---- rows that only repeat others

and-left : (a b : Bool) → (a && b) ≡ true → a ≡ true
and-left true b e = refl
and-left false b e = absurd cc

apart : false ≡ true → ⊥
apart e = cc

cond-same : {X : Type 0} (b : Bool) (x : X) → cond b x x ≡ x
cond-same true x = refl
cond-same false x = refl

-- a build that is offered twice is taken once
better-again : (best : Option Built) (build : Built) → better built_cmp (Some (better built_cmp best build)) build ≡ better built_cmp best build
better-again None build = cond-same (is_gt (built_cmp build build)) build
better-again (Some best) build = go (is_gt (built_cmp build best)) refl where
  go : (g : Bool) → is_gt (built_cmp build best) ≡ g → better built_cmp (Some (cond g build best)) build ≡ cond g build best
  go true e = cond-same (is_gt (built_cmp build build)) build
  go false e = ap (λ t. cond t build best) e

-- the best so far is no less than a row, if that is a build of the source package
abbrev IsCovered : List ℕ → Option Built → Option BinaryRow → Type 0
IsCovered name best last = IfSome last (λ row. is_build_of name row ≡ true → Some (better built_cmp best (build_of row)) ≡ best)

same-number : (m n : ℕ) → (m == n) ≡ true → m ≡ n
same-number m n e = grind (arith, nat_tests)

repeat-covered : (waited : List ℕ → Bool) (name : List ℕ) (best : Option Built) (last : Option BinaryRow) (row : BinaryRow) → IsCovered name best last
    → option_map_or (is_repeat waited row) last false ≡ true → is_build_of name row ≡ true → Some (better built_cmp best (build_of row)) ≡ best
repeat-covered waited name best None row covered repeats build = absurd cc
repeat-covered waited name best (Some last) row covered repeats build =
    let same = and-left (is_same_build last row) (not (waited row.name)) repeats in
    let owned = and-left last.own row.own (and-left (last.own && row.own) _ same) in
    let later = and-right (last.own && row.own) _ same in
    let source = bytes_eq-is last.source row.source (and-left (bytes_eq last.source row.source) _ later) in
    let numbered = and-right (bytes_eq last.source row.source) _ later in
    let version = bytes_eq-is last.source_version row.source_version (and-left (bytes_eq last.source_version row.source_version) _ numbered) in
    let number = same-number last.number row.number (and-right (bytes_eq last.source_version row.source_version) _ numbered) in
    let is : is_build_of name last ≡ true = (λ i. bytes_eq name (source i) && owned i) ∙ ap (λ b. b && true) (and-left (bytes_eq name row.source) row.own build) in
    ap (λ (b : Built). Some (better built_cmp best b)) (λ i. record { version = sym version i; number = sym number i }) ∙ covered is

-- the latest build of a source package is the same without them
repeats-built : (waited : List ℕ → Bool) (name : List ℕ) (rows : List BinaryRow) (best : Option Built)
    (last : Option BinaryRow) → IsCovered name best last
    → best_from built_cmp best (map build_of (filter (is_build_of name) (binaries_behind waited last rows)))
    ≡ best_from built_cmp best (map build_of (filter (is_build_of name) rows))
repeats-built waited name [] best last covered = refl
repeats-built waited name (row ∷ rows) best last covered = go (repeats-built waited name rows) (repeats waited last row)
    (is_build_of name row) refl refl where
      of_kept : Option BinaryRow → List BinaryRow
      of_kept row = filter (is_build_of name) (binaries_behind waited row rows)

      of_all : List BinaryRow
      of_all = filter (is_build_of name) rows

      go : ((best : Option Built) (last : Option BinaryRow) → IsCovered name best last
          → best_from built_cmp best (map build_of (of_kept last)) ≡ best_from built_cmp best (map build_of of_all))
          → (r b : Bool) → repeats waited last row ≡ r → is_build_of name row ≡ b
          → best_from built_cmp best (map build_of (filter (is_build_of name)
          (cond r [] (row ∷ []) ++ binaries_behind waited (cond r last (Some row)) rows)))
          ≡ best_from built_cmp best (map build_of (cond (is_build_of name row) (row ∷ of_all) of_all))
      go again false true r build =
          ap (λ t. best_from built_cmp best (map build_of (cond t (row ∷ of_kept (Some row)) (of_kept (Some row))))) build
          ∙ again (Some (better built_cmp best (build_of row))) (Some row) (λ _. ap (λ (b : Built). Some b) (better-again best (build_of row)))
          ∙ ap (λ t. best_from built_cmp best (map build_of (cond t (row ∷ of_all) of_all))) (sym build)
      go again false false r build =
          ap (λ t. best_from built_cmp best (map build_of (cond t (row ∷ of_kept (Some row)) (of_kept (Some row))))) build
          ∙ again best (Some row) (λ is. absurd (apart (sym build ∙ is)))
          ∙ ap (λ t. best_from built_cmp best (map build_of (cond t (row ∷ of_all) of_all))) (sym build)
      go again true true r build =
          again best last covered
          ∙ ap (λ (o : Option Built). best_from built_cmp o (map build_of of_all))
          (sym (repeat-covered waited name best last row covered r build))
          ∙ ap (λ t. best_from built_cmp best (map build_of (cond t (row ∷ of_all) of_all))) (sym build)
      go again true false r build =
          again best last covered
          ∙ ap (λ t. best_from built_cmp best (map build_of (cond t (row ∷ of_all) of_all))) (sym build)

-- a row whose name is waited for does not only repeat another
waited-new : (waited : List ℕ → Bool) (last : Option BinaryRow) (row : BinaryRow) → waited row.name ≡ true
    → repeats waited last row ≡ false
waited-new waited None row e = refl
waited-new waited (Some last) row e = ap (λ b. is_same_build last row && not b) e ∙ at (is_same_build last row) where
  at : (same : Bool) → (same && not true) ≡ false
  at true = refl
  at false = refl

-- those of a name that is waited for are the same
repeats-named : (waited : List ℕ → Bool) (name : List ℕ) → waited name ≡ true
    → (rows : List BinaryRow) (last : Option BinaryRow)
    → filter (λ row. bytes_eq name row.name) (binaries_behind waited last rows) ≡ filter (λ row. bytes_eq name row.name)
    rows
repeats-named waited name e [] last = refl
repeats-named waited name e (row ∷ rows) last = go (repeats-named waited name e rows) (repeats waited last row)
    (bytes_eq name row.name) refl refl where
      of_all : List BinaryRow
      of_all = filter (λ row. bytes_eq name row.name) rows

      go : ((last : Option BinaryRow) → filter (λ row. bytes_eq name row.name) (binaries_behind waited last rows) ≡ of_all)
          → (r b : Bool) → repeats waited last row ≡ r → bytes_eq name row.name ≡ b
          → filter (λ row. bytes_eq name row.name) (cond r [] (row ∷ []) ++ binaries_behind waited (cond r last (Some row))
          rows)
          ≡ cond (bytes_eq name row.name) (row ∷ of_all) of_all
      go again false b r is = ap (λ (l : List BinaryRow). cond (bytes_eq name row.name) (row ∷ l) l) (again (Some row))
      go again true true r is = absurd (apart (sym (waited-new waited last row
          (ap waited (sym (bytes_eq-is name row.name is)) ∙ e)) ∙ r))
      go again true false r is = again last ∙ ap (λ t. cond t (row ∷ of_all) of_all) (sym is)

-- ---- rows with other numbers, and rows that are not wanted

-- the numbers of rows play no part
numbered-same : {Y : Type 0} (test : BinaryRow → Bool) (f : BinaryRow → Y)
    → ((row : BinaryRow) (n : ℕ) → test (record row { seq = n }) ≡ test row)
    → ((row : BinaryRow) (n : ℕ) → f (record row { seq = n }) ≡ f row)
    → (n : ℕ) (rows : List BinaryRow) → map f (filter test (numbered n rows)) ≡ map f (filter test rows)
numbered-same test f same_test same_f n [] = refl
numbered-same {Y} test f same_test same_f n (row ∷ rows) =
    ap (λ b. map f (cond b (record row { seq = n + 1 } ∷ later) later)) (same_test row (n + 1))
    ∙ go (numbered-same test f same_test same_f (n + 1) rows) (test row)
  where
    later : List BinaryRow
    later = filter test (numbered (n + 1) rows)

    go : map f later ≡ map f (filter test rows) → (b : Bool)
        → map f (cond b (record row { seq = n + 1 } ∷ later) later) ≡ map f
        (cond b (row ∷ filter test rows) (filter test rows))
    go again true = ap₂ (λ (y : Y) (l : List Y). y ∷ l) (same_f row (n + 1)) again
    go again false = again

build-wanted : (waited : List ℕ → Bool) (name : List ℕ) (row : BinaryRow) → is_build_of name row ≡ true
    → is_binary_wanted waited row ≡ true
build-wanted waited name row build = ap (λ b. b || waited row.name) (and-right (bytes_eq name row.source) row.own build)

named-wanted : (waited : List ℕ → Bool) (name : List ℕ) → waited name ≡ true → (row : BinaryRow)
    → bytes_eq name row.name ≡ true
    → is_binary_wanted waited row ≡ true
named-wanted waited name e row is = or-right row.own (waited row.name)
    (ap waited (sym (bytes_eq-is name row.name is)) ∙ e)

-- ---- the listing of the rows that can matter

module _ (arch : ArchWords) (archs : List ArchWords) (there : IsIn arch archs) (waited : List ℕ → Bool)
    (sources : List SourceRow) (rows : List (List BinaryRow)) where
  abbrev cut : ArchiveListing
  cut = listing_of_kept arch (filter (is_source_wanted archs) sources) (binaries_wanted waited rows)

  abbrev whole : ArchiveListing
  whole = listing_of_kept arch sources (joined_rows rows)

  cut-listed : cut.listed ≡ whole.listed
  cut-listed = finite.same_map text_cmp_total text_cmp-same _ _ (λ name.
      listed-kept arch (filter (is_source_wanted archs) sources) (binaries_wanted waited rows) name
      ∙ listed_in-filter arch (is_source_wanted archs) sources name (candidate-wanted arch archs there name)
      ∙ sym (listed-kept arch sources (joined_rows rows) name))

  built-same : (name : List ℕ) → built_in (binaries_wanted waited rows) name ≡ built_in (joined_rows rows) name
  unfolding built_in
  built-same name =
      let kept = numbered 0 (rows_wanted waited rows) in
      ap (λ (l : List BinaryRow). best_from built_cmp None (map build_of (filter (is_build_of name) l)))
      (sym (behind-none waited kept))
      ∙ repeats-built waited name kept None None tt
      ∙ ap (best_from built_cmp None) (numbered-same (is_build_of name) build_of (λ _ _. refl) (λ _ _. refl) 0
      (rows_wanted waited rows))
      ∙ ap (λ (l : List BinaryRow). best_from built_cmp None (map build_of l))
      (filter-weaker (is_build_of name) (is_binary_wanted waited) (build-wanted waited name) (joined_rows rows))

  cut-built : cut.built ≡ whole.built
  cut-built = finite.same_map text_cmp_total text_cmp-same _ _ (λ name.
      built-kept arch (filter (is_source_wanted archs) sources) (binaries_wanted waited rows) name
      ∙ built-same name
      ∙ sym (built-kept arch sources (joined_rows rows) name))

  versions-same : (name : List ℕ) → waited name ≡ true
      → versions_in (binaries_wanted waited rows) name ≡ versions_in (joined_rows rows) name
  unfolding versions_in
  versions-same name e =
      let kept = numbered 0 (rows_wanted waited rows) in
      ap (λ (l : List BinaryRow). map (λ (row : BinaryRow). row.version) (filter (λ row. bytes_eq name row.name) l))
      (sym (behind-none waited kept))
      ∙ ap (map (λ (row : BinaryRow). row.version)) (repeats-named waited name e kept None)
      ∙ numbered-same (λ row. bytes_eq name row.name) (λ row. row.version) (λ _ _. refl) (λ _ _. refl) 0
      (rows_wanted waited rows)
      ∙ ap (map (λ (row : BinaryRow). row.version))
      (filter-weaker (λ row. bytes_eq name row.name) (is_binary_wanted waited) (named-wanted waited name e)
      (joined_rows rows))

  cut-versions : (name : List ℕ) → waited name ≡ true → versions_of cut.available name ≡ versions_of whole.available name
  cut-versions name e =
      versions-kept arch (filter (is_source_wanted archs) sources) (binaries_wanted waited rows) name
      ∙ versions-same name e
      ∙ sym (versions-kept arch sources (joined_rows rows) name)

  pub cut-alike : (records : Records) → AreAllWaitedFor records arch.name waited → AreAlike records arch.name cut whole
  cut-alike records all = record {
    listed = cut-listed;
    built = cut-built;
    waits = λ name. at name (finite.get records (arch.name, name)) refl;
  } where
    at : (name : List ℕ) (found : Option Record) → finite.get records (arch.name, name) ≡ found
        → IfSome found (λ c. is_dep_wait c.state ≡ true → are_waits_met cut.available c.waits ≡ are_waits_met whole.available c.waits)
    at name None e = tt
    at name (Some current) e = λ waits. waits-same cut.available whole.available waited cut-versions current.waits (all name current e waits)
