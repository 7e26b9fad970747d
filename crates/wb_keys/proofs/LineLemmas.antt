-- Lines that are kept by their hashes, and their names besides.
use Rattle.std.proofs.Common.{◌≡◌, ℕ, Bool, true, false, cond, ◌||◌, List, [], ◌∷◌, ◌++◌, map, Option, Some, None, refl}
use Rattle.std.proofs.Common.{sym, ap, ◌∙◌}
use Rattle.std.specs.Prelude.{bytes_eq, find, if◌then◌else◌, is_some}
use Rattle.std.specs.Cmp.Lexicographic.{nat_list_eq_equiv}
use Rattle.std.specs.List.{list_any}
use Rattle.std.specs.Map.{keys_of, lookup, values_of}
use Rattle.std.specs.String.{string_bytes}
use Rattle.std.specs.declared.string.String.{String}
use Rattle.std.proofs.lemmas.List.{map-append}
use Rattle.indexmap.specs.IndexMap.{IndexMap, insert_entry}
use Rattle.indexmap.specs.IndexSet.{insert_key}
use Rattle.indexmap.proofs.CallerLemmas.{insert_entry-new}
use Rattle.wb_keys.specs.declared.keys.KeyLine.{KeyLine}
use Rattle.wb_keys.specs.KeyFile.{has_hash, has_name}
use Rattle.wb_keys.proofs.RightLemmas.{list_any-same}

-- ---- lists

-- texts are compared alike from either side
bytes_eq-swap : (one other : List ℕ) → bytes_eq one other ≡ bytes_eq other one
bytes_eq-swap one other = nat_list_eq_equiv.symm one other

list_any-map : {X Y : Type 0} (p : Y → Bool) (f : X → Y) (xs : List X)
    → list_any p (map f xs) ≡ list_any (λ x. p (f x)) xs
list_any-map p f [] = refl
list_any-map p f (x ∷ xs) = ap (λ b. p (f x) || b) (list_any-map p f xs)

-- what no item passes finds nothing
pub find-none : {X : Type 0} (p : X → Bool) (xs : List X) → list_any p xs ≡ false → find p xs ≡ None
find-none p [] h = refl
find-none p (x ∷ xs) h = head (p x) x (list_any p xs) (find p xs) h (find-none p xs)
  where
    head : {X : Type 0} (b : Bool) (x : X) (later : Bool) (found : Option X) → (b || later) ≡ false
        → (later ≡ false → found ≡ None) → cond b (Some x) found ≡ None
    head true x later found h rest = cc
    head false x later found h rest = rest h

is_some-find : {X : Type 0} (p : X → Bool) (xs : List X) → is_some (find p xs) ≡ list_any p xs
is_some-find p [] = refl
is_some-find p (x ∷ xs) = head (p x) x (list_any p xs) (find p xs) (is_some-find p xs)
  where
    head : {X : Type 0} (b : Bool) (x : X) (later : Bool) (found : Option X) → is_some found ≡ later
        → is_some (cond b (Some x) found) ≡ (b || later)
    head true x later found h = refl
    head false x later found h = h

-- ---- lines by their hashes

-- what is found by a hash among lines that are kept by their hashes is the first line with it
pub lookup-kept : (hash : List ℕ) (entries : List (List ℕ × KeyLine))
    → keys_of entries ≡ map (λ (line : KeyLine). line.hash) (values_of entries)
    → lookup (bytes_eq hash) entries ≡ find (has_hash hash) (values_of entries)
lookup-kept hash [] h = refl
lookup-kept hash (entry ∷ entries) h =
    let head : entry.0 ≡ entry.1.hash = cc in
    let tail : keys_of entries ≡ map (λ (line : KeyLine). line.hash) (values_of entries) = cc in
    ap (λ b. cond b (Some entry.1) (lookup (bytes_eq hash) entries))
    (ap (bytes_eq hash) head ∙ bytes_eq-swap hash entry.1.hash)
    ∙ ap (λ rest. cond (bytes_eq entry.1.hash hash) (Some entry.1) rest) (lookup-kept hash entries tail)

-- a hash is found if a line has it
pub is_some-kept : (hash : List ℕ) (entries : List (List ℕ × KeyLine))
    → keys_of entries ≡ map (λ (line : KeyLine). line.hash) (values_of entries)
    → is_some (lookup (bytes_eq hash) entries) ≡ list_any (has_hash hash) (values_of entries)
is_some-kept hash entries h =
    ap is_some (lookup-kept hash entries h) ∙ is_some-find (has_hash hash) (values_of entries)

hashes-append : (entries : List (List ℕ × KeyLine)) (line : KeyLine)
    → keys_of entries ≡ map (λ (one : KeyLine). one.hash) (values_of entries)
    → keys_of (entries ++ (line.hash, line) ∷ [])
    ≡ map (λ (one : KeyLine). one.hash) (values_of (entries ++ (line.hash, line) ∷ []))
hashes-append [] line h = refl
hashes-append (entry ∷ entries) line h =
    let head : entry.0 ≡ entry.1.hash = cc in
    let tail : keys_of entries ≡ map (λ (one : KeyLine). one.hash) (values_of entries) = cc in
    ap (λ hash. hash ∷ keys_of (entries ++ (line.hash, line) ∷ [])) head
    ∙ ap (λ hashes. entry.1.hash ∷ hashes) (hashes-append entries line tail)

-- one line more, whose hash no line has
module _ {S : Type 0} (kept : IndexMap (List ℕ) KeyLine S) (line : KeyLine)
    (hashes : keys_of kept.entries ≡ map (λ (one : KeyLine). one.hash) (values_of kept.entries))
    (new : list_any (has_hash line.hash) (values_of kept.entries) ≡ false) where
  goes-last : insert_entry bytes_eq kept.entries line.hash line ≡ kept.entries ++ (line.hash, line) ∷ []
  goes-last = insert_entry-new bytes_eq kept line.hash line
      (lookup-kept line.hash kept.entries hashes ∙ find-none (has_hash line.hash) (values_of kept.entries) new)

  -- it goes last
  pub lines-more : values_of (insert_entry bytes_eq kept.entries line.hash line) ≡ values_of kept.entries ++ line ∷ []
  lines-more = ap values_of goes-last ∙ map-append _ kept.entries ((line.hash, line) ∷ [])

  -- and it is kept by its hash
  pub hashes-more : keys_of (insert_entry bytes_eq kept.entries line.hash line)
      ≡ map (λ (one : KeyLine). one.hash) (values_of (insert_entry bytes_eq kept.entries line.hash line))
  hashes-more = ap keys_of goes-last
      ∙ (hashes-append kept.entries line hashes
      ∙ ap (λ entries. map (λ (one : KeyLine). one.hash) (values_of entries)) (sym goes-last))

-- ---- names

-- a name is among those of lines if a line has it
pub name-kept : {A : Type 0} (name : List ℕ) (names : List (String A)) (lines : List KeyLine)
    → map string_bytes names ≡ map (λ (line : KeyLine). line.name) lines
    → list_any (λ kept. bytes_eq name (string_bytes kept)) names ≡ list_any (has_name name) lines
name-kept name names lines same = sym (list_any-map (bytes_eq name) string_bytes names)
    ∙ (ap (list_any (bytes_eq name)) same
    ∙ (list_any-map (bytes_eq name) (λ (line : KeyLine). line.name) lines
    ∙ list_any-same _ (has_name name) (λ line. bytes_eq-swap name line.name) lines))

-- the name of one line more, which no line has, goes last
pub names-more : {A : Type 0} (name : String A) (names : List (String A)) (lines : List KeyLine) (line : KeyLine)
    → map string_bytes names ≡ map (λ (one : KeyLine). one.name) lines → string_bytes name ≡ line.name
    → list_any (has_name line.name) lines ≡ false
    → map string_bytes (insert_key (λ one other. bytes_eq (string_bytes one) (string_bytes other)) names name)
    ≡ map (λ (one : KeyLine). one.name) (lines ++ line ∷ [])
names-more name names lines line same is new =
    let absent : list_any (λ kept. bytes_eq (string_bytes name) (string_bytes kept)) names ≡ false
    = ap (λ bytes. list_any (λ kept. bytes_eq bytes (string_bytes kept)) names) is
    ∙ (name-kept line.name names lines same ∙ new) in
    ap (λ b. map string_bytes (if b then names else names ++ name ∷ [])) absent
    ∙ (map-append string_bytes names (name ∷ [])
    ∙ (ap (λ bytes. map string_bytes names ++ bytes ∷ []) is
    ∙ (ap (λ front. front ++ line.name ∷ []) same
    ∙ sym (map-append (λ (one : KeyLine). one.name) lines (line ∷ [])))))
