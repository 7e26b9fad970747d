-- A router whose routes differ in a byte before their first parameter finds the one route that a target has.
use Rattle.std.proofs.Common.{◌≡◌, ◌∙◌, refl, sym, ap, ℕ, zero, suc, ◌-◌, ◌<◌, ◌≤◌, Bool, true, false, cond, ◌&&◌, ◌==◌, ltb, nat_eq, List, [], ◌∷◌, ◌++◌, length, drop, get_or, Option, Some, None, arith}
use Rattle.std.proofs.lemmas.Bool.Decides.{nat_tests}
use Rattle.std.proofs.lemmas.List.{length-append}
use Rattle.std.proofs.Math.Seq.{drop-append_seam, drop-length}
use Rattle.std.specs.List.{list_all, slice_split, onto_first, ends_with}
use Rattle.std.specs.Cmp.Lexicographic.{pointwise}
use Rattle.matchit.specs.Rows.{RowsOf, param_token, catch_all_token}
use Rattle.matchit.specs.Seek.{own, step, or_else, seek, param_step, has_slash, segment, better}
use Rattle.std.proofs.lemmas.List.Splits.{length-slice_split}
use Rattle.matchit.specs.Router.{rename}
use Rattle.matchit.proofs.RenameLemmas.{first-rename}
use Rattle.matchit.proofs.OnLiterals.{matchit_on_literals}
use Rattle.wb_api.specs.declared.route.Route.{Route}
use Rattle.wb_api.specs.Routes.{Path, after_front, are_parts, follows, has_parts, has_path, is_slash, paths, route_among, route_at, routed, routes, value_of}

both : (a b : Bool) → (a && b) ≡ true → (a ≡ true) × (b ≡ true)
both true b e = (refl, e)
both false b e = absurd (cc)

-- two patterns differ in a byte, before any parameter of them
abbrev pub are_apart : List ℕ → List ℕ → Bool
are_apart [] s = false
are_apart (x ∷ t) [] = false
are_apart (x ∷ t) (y ∷ s) = ltb x 256 && (ltb y 256 && cond (x == y) (are_apart t s) true)

apart-byte : (x : ℕ) (t s : List ℕ) → are_apart (x ∷ t) s ≡ true → ltb x 256 ≡ true
apart-byte x t [] e = absurd (cc)
apart-byte x t (y ∷ s) e = (both (ltb x 256) (ltb y 256 && cond (x == y) (are_apart t s) true) e).0

-- ---- the first part of a text

-- a text is its first part, a slash and the rest
pub record IsCut (text before after : List ℕ) : Type 0 where
  pub is : text ≡ before ++ 47 ∷ after
  pub segment : segment text ≡ before ++ 47 ∷ []
  pub parts : slice_split is_slash text ≡ before ∷ slice_split is_slash after

pub cut-none : (text : List ℕ) → has_slash text ≡ false → (segment text ≡ text) × (slice_split is_slash text ≡ text ∷ [])
cut-none [] e = (refl, refl)
cut-none (b ∷ text) e = by (b == 47) refl e (λ h. cut-none text h)
  where
    by : (v : Bool) → (b == 47) ≡ v → cond v true (has_slash text) ≡ false → (has_slash text ≡ false → (segment text ≡ text) × (slice_split is_slash text ≡ text ∷ []))
        → (cond v (b ∷ []) (b ∷ segment text) ≡ b ∷ text) × (cond v ([] ∷ slice_split is_slash text) (onto_first b (slice_split is_slash text)) ≡ (b ∷ text) ∷ [])
    by true v h ih = absurd (cc)
    by false v h ih = (ap (λ z. b ∷ z) (ih h).0, ap (onto_first b) (ih h).1)

cut-here : (b : ℕ) (text : List ℕ) → (b == 47) ≡ true → IsCut (b ∷ text) [] text
cut-here b text e =
    let slash : b ≡ 47 = grind (arith, nat_tests) in
    record { is = ap (λ z. z ∷ text) slash; segment = rw e (ap (λ z. z ∷ []) slash); parts = rw e refl }

cut-later : (b : ℕ) (text before after : List ℕ) → (b == 47) ≡ false → IsCut text before after → IsCut (b ∷ text) (b ∷ before) after
cut-later b text before after e cut = record {
  is = ap (λ z. b ∷ z) cut.is;
  segment = rw e (ap (λ z. b ∷ z) cut.segment);
  parts = rw e (ap (onto_first b) cut.parts);
}

pub cut-some : (text : List ℕ) → has_slash text ≡ true → (before : List ℕ) × (after : List ℕ) × IsCut text before after
cut-some [] e = absurd (cc)
cut-some (b ∷ text) e = by (b == 47) refl e (λ h. cut-some text h)
  where
    by : (v : Bool) → (b == 47) ≡ v → cond v true (has_slash text) ≡ true → (has_slash text ≡ true → (before : List ℕ) × (after : List ℕ) × IsCut text before after)
        → (before : List ℕ) × (after : List ℕ) × IsCut (b ∷ text) before after
    by true v h ih = ([], text, cut-here b text v)
    by false v h ih = let rest = ih h in (b ∷ rest.0, rest.1, cut-later b text rest.0 rest.1 v rest.2)

ends-slash : (before : List ℕ) → ends_with nat_eq (before ++ 47 ∷ []) (47 ∷ []) ≡ true
ends-slash before =
    let len : length (before ++ 47 ∷ []) - 1 ≡ length before = omega (arith, length-append before (47 ∷ [])) in
    rw (len, drop-append_seam before (47 ∷ [])) refl

ends-none : (b : ℕ) (text : List ℕ) → has_slash (b ∷ text) ≡ false → pointwise nat_eq (47 ∷ []) (drop (length text) (b ∷ text)) ≡ false
ends-none b [] e = by (b == 47) refl e
  where
    by : (v : Bool) → (b == 47) ≡ v → cond v true false ≡ false → pointwise nat_eq (47 ∷ []) (b ∷ []) ≡ false
    by true v h = absurd (cc)
    by false v h = let other : nat_eq 47 b ≡ false = grind (arith, nat_tests) in rw other refl
ends-none b (d ∷ text) e = ends-none d text (by (b == 47) e)
  where
    by : (v : Bool) → cond v true (has_slash (d ∷ text)) ≡ false → has_slash (d ∷ text) ≡ false
    by true h = absurd (cc)
    by false h = h

and-false : (a : Bool) → (a && false) ≡ false
and-false true = refl
and-false false = refl

-- the tokens of so many parts with slashes between them
abbrev pub tokens : ℕ → List ℕ
tokens zero = []
tokens (suc zero) = 256 ∷ []
tokens (suc (suc n)) = 256 ∷ 47 ∷ tokens (suc n)

abbrev pub are_bytes : List ℕ → Bool
are_bytes text = list_all (λ b. ltb b 256) text

after-bytes : (front text : List ℕ) → are_bytes text ≡ true → (rest : List ℕ) → after_front front text ≡ Some rest → are_bytes rest ≡ true
after-bytes [] text e rest is = rw (← some-is is) e
  where
    some-is : {a b : List ℕ} → Some a ≡ Some b → a ≡ b
    some-is h = cc
after-bytes (x ∷ front) [] e rest is = absurd (cc)
after-bytes (x ∷ front) (y ∷ text) e rest is = by (x == y) is (λ h. after-bytes front text (both (ltb y 256) (are_bytes text) e).1 rest h)
  where
    by : (v : Bool) → cond v (after_front front text) None ≡ Some rest → (after_front front text ≡ Some rest → are_bytes rest ≡ true) → are_bytes rest ≡ true
    by true h ih = ih h
    by false h ih = absurd (cc)

bytes-after : (before after : List ℕ) → are_bytes (before ++ 47 ∷ after) ≡ true → are_bytes after ≡ true
bytes-after [] after e = e
bytes-after (b ∷ before) after e = bytes-after before after (both (ltb b 256) (are_bytes (before ++ 47 ∷ after)) e).1

-- the last slash of a segment is the longest suffix of one row that goes on with a slash
suffix-some : (c : ℕ) (before : List ℕ) → better ((c ∷ before) ++ 47 ∷ []) [] (47 ∷ []) ≡ 47 ∷ []
suffix-some c before =
    let long : ltb 1 (length ((c ∷ before) ++ 47 ∷ [])) ≡ true = grind (arith, nat_tests, length-append before (47 ∷ [])) in
    rw (long, ends-slash (c ∷ before)) refl

ends-false : (b : ℕ) (text : List ℕ) → has_slash (b ∷ text) ≡ false → ends_with nat_eq (b ∷ text) (47 ∷ []) ≡ false
ends-false b text e =
    let len : length (b ∷ text) - 1 ≡ length text = omega arith in
    rw len (ends-none b text e)

suffix-none : (b : ℕ) (text : List ℕ) → has_slash (b ∷ text) ≡ false → better (b ∷ text) [] (47 ∷ []) ≡ []
suffix-none b text e = rw (ends-false b text e, and-false (ltb 1 (length (b ∷ text)))) refl

cut-parts : (text : List ℕ) → 0 < length (slice_split is_slash text)
cut-parts text = rw (length-slice_split is_slash text) (omega arith)

module _ {K : Type 0} where
  -- what a row finds after a first part that is not empty
  abbrev pub after_part : List ℕ → Option K → Option K
  after_part [] found = None
  after_part (c ∷ before) found = found

  after_part-parts : (n : ℕ) (k : K) (before : List ℕ) (parts : List (List ℕ)) → after_part before (cond (are_parts n parts) (Some k) None) ≡ cond (are_parts (suc n) (before ∷ parts)) (Some k) None
  after_part-parts n k [] parts = refl
  after_part-parts n k (c ∷ before) parts = refl

  -- ---- no rows

  pub or-none : (a : Option K) → or_else a None ≡ a
  or-none None = refl
  or-none (Some k) = refl

  param_step-nil : (path : List ℕ) → (param_step {K = K} [] path).1 ≡ []
  unfolding param_step
  param_step-nil path =
      elim (has_slash path) as (λ v. (cond {A = ℕ × RowsOf K} v (0, []) (length path, [])).1 ≡ []) [
        | true ↦ refl
        | false ↦ refl
      ]

  pub seek-nil : (n : ℕ) (path : List ℕ) → seek {K = K} n [] path ≡ None
  unfolding seek
  seek-nil n [] = refl
  seek-nil (suc n) (b ∷ path) = seek-nil n path
  seek-nil zero (b ∷ path) = simp (seek-nil 0 path, param_step-nil (b ∷ path), seek-nil (((param_step {K = K} [] (b ∷ path)).0) - 1) path)

  pub seek-drop : (n : ℕ) (rows : RowsOf K) (path : List ℕ) → seek n rows path ≡ seek 0 rows (drop n path)
  unfolding seek
  seek-drop zero rows path = refl
  seek-drop (suc n) rows [] = refl
  seek-drop (suc n) rows (b ∷ path) = seek-drop n rows path

  -- ---- rows that begin with bytes

  abbrev pub begin_with_bytes : RowsOf K → Bool
  begin_with_bytes [] = true
  begin_with_bytes (([], k) ∷ rest) = false
  begin_with_bytes ((x ∷ t, k) ∷ rest) = ltb x 256 && begin_with_bytes rest

  step-token : (token : ℕ) (rows : RowsOf K) → 256 ≤ token → begin_with_bytes rows ≡ true → step token rows ≡ []
  step-token token [] h e = refl
  step-token token (([], k) ∷ rest) h e = absurd (cc)
  step-token token ((x ∷ t, k) ∷ rest) h e =
      let parts = both (ltb x 256) (begin_with_bytes rest) e in
      let other : (x == token) ≡ false = grind (arith, nat_tests) in
      rw other (step-token token rest h parts.1)

  pub seek-bytes : (rows : RowsOf K) (b : ℕ) (path : List ℕ) → begin_with_bytes rows ≡ true → seek 0 rows (b ∷ path) ≡ seek 0 (step b rows) path
  unfolding seek
  seek-bytes rows b path e =
      simp (
        step-token param_token rows (omega arith) e,
        step-token catch_all_token rows (omega arith) e,
        param_step-nil (b ∷ path),
        seek-nil ((param_step {K = K} [] (b ∷ path)).0 - 1) path,
        or-none,
      )

  -- ---- rows of which each differs from the others in a byte before its first parameter

  abbrev pub is_apart : List ℕ → RowsOf K → Bool
  is_apart t [] = true
  is_apart t ((s, k) ∷ rest) = are_apart t s && is_apart t rest

  apart-begin : (x : ℕ) (t : List ℕ) (rest : RowsOf K) → is_apart (x ∷ t) rest ≡ true → begin_with_bytes rest ≡ true
  apart-begin x t [] e = refl
  apart-begin x t (([], k) ∷ rest) e = absurd (cc)
  apart-begin x t ((y ∷ s, k) ∷ rest) e =
      let parts = both (are_apart (x ∷ t) (y ∷ s)) (is_apart (x ∷ t) rest) e in
      let first = both (ltb x 256) (ltb y 256 && cond (x == y) (are_apart t s) true) parts.0 in
      let second = both (ltb y 256) (cond (x == y) (are_apart t s) true) first.1 in
      rw second.0 (apart-begin x t rest parts.1)

  apart-step : (x : ℕ) (t : List ℕ) (rest : RowsOf K) → is_apart (x ∷ t) rest ≡ true → is_apart t (step x rest) ≡ true
  apart-step x t [] e = refl
  apart-step x t (([], k) ∷ rest) e = absurd (cc)
  apart-step x t ((y ∷ s, k) ∷ rest) e = by (y == x) refl (apart-step x t rest (both (are_apart (x ∷ t) (y ∷ s)) (is_apart (x ∷ t) rest) e).1)
    where
      by : (v : Bool) → (y == x) ≡ v → is_apart t (step x rest) ≡ true → is_apart t (cond v ((s, k) ∷ step x rest) (step x rest)) ≡ true
      by true v ih =
          let parts = both (are_apart (x ∷ t) (y ∷ s)) (is_apart (x ∷ t) rest) e in
          let first = both (ltb x 256) (ltb y 256 && cond (x == y) (are_apart t s) true) parts.0 in
          let second = both (ltb y 256) (cond (x == y) (are_apart t s) true) first.1 in
          let same : (x == y) ≡ true = grind (arith, nat_tests) in
          let tails : are_apart t s ≡ true = sym (ap (λ c. cond c (are_apart t s) true) same) ∙ second.1 in
          rw tails ih
      by false v ih = ih

  pub seek-apart : (t : List ℕ) (k : K) (rest : RowsOf K) (path : List ℕ) → is_apart t rest ≡ true
      → seek 0 ((t, k) ∷ rest) path ≡ or_else (seek 0 ((t, k) ∷ []) path) (seek 0 rest path)
  unfolding seek
  seek-apart t k [] path e = sym (ap (or_else (seek 0 ((t, k) ∷ []) path)) (seek-nil 0 path) ∙ or-none (seek 0 ((t, k) ∷ []) path))
  seek-apart [] k ((s, l) ∷ rest) path e = absurd (cc)
  seek-apart (x ∷ t) k ((s, l) ∷ rest) [] e = refl
  seek-apart (x ∷ t) k ((s, l) ∷ rest) (b ∷ path) e =
      let others : RowsOf K = (s, l) ∷ rest in
      let is_byte : ltb x 256 ≡ true = apart-byte x t s (both (are_apart (x ∷ t) s) (is_apart (x ∷ t) rest) e).0 in
      let begin : begin_with_bytes others ≡ true = apart-begin x t others e in
      let all : begin_with_bytes ((x ∷ t, k) ∷ others) ≡ true = rw (is_byte, begin) refl in
      let one : begin_with_bytes ((x ∷ t, k) ∷ []) ≡ true = rw is_byte refl in
      seek-bytes ((x ∷ t, k) ∷ others) b path all
      ∙ by (x == b) refl others e (λ h. seek-apart t k (step b others) path h)
      ∙ sym (ap (λ z. or_else z (seek 0 others (b ∷ path))) (seek-bytes ((x ∷ t, k) ∷ []) b path one)
      ∙ ap (or_else (seek 0 (step b ((x ∷ t, k) ∷ [])) path)) (seek-bytes others b path begin))
    where
      by : (v : Bool) → (x == b) ≡ v → (others : RowsOf K) → is_apart (x ∷ t) others ≡ true
          → (is_apart t (step b others) ≡ true → seek 0 ((t, k) ∷ step b others) path ≡ or_else (seek 0 ((t, k) ∷ []) path) (seek 0 (step b others) path))
          → seek 0 (cond v ((t, k) ∷ step b others) (step b others)) path ≡ or_else (seek 0 (cond v ((t, k) ∷ []) []) path) (seek 0 (step b others) path)
      by true v others h ih =
          let same : x ≡ b = grind (arith, nat_tests) in
          ih (rw (← same) (apart-step x t others h))
      by false v others h ih = sym (ap (λ z. or_else z (seek 0 (step b others) path)) (seek-nil 0 path))

  -- ---- one row

  -- what the row after a front of a path finds, if the path begins with it
  abbrev pub on_rest : RowsOf K → Option (List ℕ) → Option K
  on_rest rows None = None
  on_rest rows (Some rest) = seek 0 rows rest

  pub seek-front : (w t : List ℕ) (k : K) (path : List ℕ) → list_all (λ b. ltb b 256) w ≡ true
      → seek 0 ((w ++ t, k) ∷ []) path ≡ on_rest ((t, k) ∷ []) (after_front w path)
  unfolding seek
  seek-front [] t k path e = refl
  seek-front (x ∷ w) t k [] e = refl
  seek-front (x ∷ w) t k (b ∷ path) e =
      let parts = both (ltb x 256) (list_all (λ b. ltb b 256) w) e in
      let begin : begin_with_bytes ((x ∷ (w ++ t), k) ∷ []) ≡ true = rw parts.0 refl in
      seek-bytes ((x ∷ (w ++ t), k) ∷ []) b path begin ∙ by (x == b) (seek-front w t k path parts.1)
    where
      by : (v : Bool) → seek 0 ((w ++ t, k) ∷ []) path ≡ on_rest ((t, k) ∷ []) (after_front w path)
          → seek 0 (cond v ((w ++ t, k) ∷ []) []) path ≡ on_rest ((t, k) ∷ []) (cond v (after_front w path) None)
      by true ih = ih
      by false ih = seek-nil 0 path

  -- ---- a parameter

  abbrev pub after_step : ℕ × RowsOf K → List ℕ → Option K
  after_step taken path = seek (taken.0 - 1) taken.1 path

  seek-step : (t : List ℕ) (k : K) (b : ℕ) (path : List ℕ) → ltb b 256 ≡ true
      → seek 0 ((256 ∷ t, k) ∷ []) (b ∷ path) ≡ after_step (param_step ((t, k) ∷ []) (b ∷ path)) path
  unfolding seek
  seek-step t k b path e =
      let other : (256 == b) ≡ false = grind (arith, nat_tests) in
      rw (other, seek-nil 0 path) (or-none (after_step (param_step ((t, k) ∷ []) (b ∷ path)) path))

  param-last : (k : K) (b : ℕ) (path : List ℕ) → param_step (([], k) ∷ []) (b ∷ path) ≡ cond (has_slash (b ∷ path)) (0, []) (length (b ∷ path), ([], k) ∷ [])
  unfolding param_step
  param-last k b path = refl

  param-none : (t : List ℕ) (k : K) (b : ℕ) (path : List ℕ) → has_slash (b ∷ path) ≡ false
      → param_step ((47 ∷ t, k) ∷ []) (b ∷ path) ≡ (length (b ∷ path), (47 ∷ t, k) ∷ [])
  unfolding param_step
  param-none t k b path e = rw ((cut-none (b ∷ path) e).0, suffix-none b path e, e) refl

  param-empty : (t : List ℕ) (k : K) (path : List ℕ) → has_slash path ≡ true → segment path ≡ 47 ∷ []
      → param_step ((47 ∷ t, k) ∷ []) path ≡ (0, [])
  unfolding param_step
  param-empty t k path e is = rw (is, e) refl

  param-some : (t : List ℕ) (k : K) (path : List ℕ) (c : ℕ) (before : List ℕ) → segment path ≡ (c ∷ before) ++ 47 ∷ []
      → param_step ((47 ∷ t, k) ∷ []) path ≡ (length ((c ∷ before) ++ 47 ∷ []) - 1, (47 ∷ t, k) ∷ [])
  unfolding param_step
  param-some t k path c before is = rw (is, suffix-some c before) refl

  -- ---- the parts

  -- parts after a slash
  seek-slash : (t : List ℕ) (k : K) (after : List ℕ) → seek 0 ((47 ∷ t, k) ∷ []) (47 ∷ after) ≡ seek 0 ((t, k) ∷ []) after
  seek-slash t k after = seek-bytes ((47 ∷ t, k) ∷ []) 47 after refl

  seek-cut : (t : List ℕ) (k : K) (b : ℕ) (path before after : List ℕ) → ltb b 256 ≡ true → IsCut (b ∷ path) before after → has_slash (b ∷ path) ≡ true
      → seek 0 ((256 ∷ 47 ∷ t, k) ∷ []) (b ∷ path) ≡ after_part before (seek 0 ((t, k) ∷ []) after)
  seek-cut t k b path [] after is_byte cut slash =
      seek-step (47 ∷ t) k b path is_byte ∙ ap (λ taken. after_step taken path) (param-empty t k (b ∷ path) slash cut.segment) ∙ seek-nil 0 path
  seek-cut t k b path (c ∷ before) after is_byte cut slash =
      let len : length ((c ∷ before) ++ 47 ∷ []) - 1 - 1 ≡ length before = omega (arith, length-append before (47 ∷ [])) in
      let rest : path ≡ before ++ 47 ∷ after = ap (λ z. drop 1 z) cut.is in
      seek-step (47 ∷ t) k b path is_byte
      ∙ ap (λ taken. after_step taken path) (param-some t k (b ∷ path) c before cut.segment)
      ∙ ap (λ n. seek n ((47 ∷ t, k) ∷ []) path) len
      ∙ seek-drop (length before) ((47 ∷ t, k) ∷ []) path
      ∙ ap (λ z. seek 0 ((47 ∷ t, k) ∷ []) (drop (length before) z)) rest
      ∙ ap (λ z. seek 0 ((47 ∷ t, k) ∷ []) z) (drop-append_seam before (47 ∷ after))
      ∙ seek-slash t k after

  -- a parameter that takes all of a path
  seek-all : (rows : RowsOf K) (b : ℕ) (path : List ℕ) → seek (length (b ∷ path) - 1) rows path ≡ own rows
  unfolding seek
  seek-all rows b path =
      let len : length (b ∷ path) - 1 ≡ length path = omega arith in
      ap (λ n. seek n rows path) len ∙ seek-drop (length path) rows path ∙ ap (λ z. seek 0 rows z) (drop-length path)

  pub seek-parts : (n : ℕ) (k : K) (path : List ℕ) → are_bytes path ≡ true → seek 0 ((tokens n, k) ∷ []) path ≡ cond (follows n path) (Some k) None
  unfolding seek
  seek-parts zero k [] e = refl
  seek-parts zero k (b ∷ path) e = rw (seek-nil 0 path, param_step-nil (b ∷ path), seek-nil ((param_step {K = K} [] (b ∷ path)).0 - 1) path) refl
  seek-parts (suc zero) k [] e = refl
  seek-parts (suc zero) k (b ∷ path) e =
      seek-step [] k b path (both (ltb b 256) (are_bytes path) e).0
      ∙ ap (λ taken. after_step taken path) (param-last k b path)
      ∙ by (has_slash (b ∷ path)) refl
    where
      by : (v : Bool) → has_slash (b ∷ path) ≡ v → after_step (cond v (0, []) (length (b ∷ path), ([], k) ∷ [])) path ≡ cond (follows 1 (b ∷ path)) (Some k) None
      by true v =
          let cut = cut-some (b ∷ path) v in
          rw (seek-nil 0 path, cut.2.parts) (two cut.0 (slice_split is_slash cut.1) (cut-parts cut.1))
        where
          two : (before : List ℕ) (parts : List (List ℕ)) → (0 < length parts) → None ≡ cond (are_parts 1 (before ∷ parts)) (Some k) None
          two before [] h = absurd (omega arith)
          two [] (part ∷ parts) h = refl
          two (c ∷ before) (part ∷ parts) h = refl
      by false v =
          rw ((cut-none (b ∷ path) v).1) (seek-all (([], k) ∷ []) b path)
  seek-parts (suc (suc n)) k [] e = refl
  seek-parts (suc (suc n)) k (b ∷ path) e =
      by (has_slash (b ∷ path)) refl (λ after h. seek-parts (suc n) k after h)
    where
      by : (v : Bool) → has_slash (b ∷ path) ≡ v → ((after : List ℕ) → are_bytes after ≡ true → seek 0 ((tokens (suc n), k) ∷ []) after ≡ cond (follows (suc n) after) (Some k) None)
          → seek 0 ((tokens (suc (suc n)), k) ∷ []) (b ∷ path) ≡ cond (follows (suc (suc n)) (b ∷ path)) (Some k) None
      by true v ih =
          let cut = cut-some (b ∷ path) v in
          let rest : are_bytes cut.1 ≡ true = bytes-after cut.0 cut.1 (rw (← cut.2.is) e) in
          seek-cut (tokens (suc n)) k b path cut.0 cut.1 (both (ltb b 256) (are_bytes path) e).0 cut.2 v
          ∙ rw (cut.2.parts) (ap (after_part cut.0) (ih cut.1 rest) ∙ after_part-parts (suc n) k cut.0 (slice_split is_slash cut.1))
      by false v ih =
          seek-step (47 ∷ tokens (suc n)) k b path (both (ltb b 256) (are_bytes path) e).0
          ∙ ap (λ taken. after_step taken path) (param-none (tokens (suc n)) k b path v)
          ∙ seek-all ((47 ∷ tokens (suc n), k) ∷ []) b path
          ∙ rw ((cut-none (b ∷ path) v).1) refl

-- ---- all paths

-- the row of a path
abbrev pub row : Path → List ℕ × Route
row path = (path.front ++ tokens path.parts, path.route)

abbrev pub rows : List Path → RowsOf Route
rows [] = []
rows (path ∷ rest) = row path ∷ rows rest

-- each path differs from those after it in a byte before its first part
abbrev pub are_separate : List Path → Bool
are_separate [] = true
are_separate (path ∷ rest) = are_bytes path.front && (is_apart (path.front ++ tokens path.parts) (rows rest) && are_separate rest)

seek-path : (path : Path) (target : List ℕ) → are_bytes path.front ≡ true → are_bytes target ≡ true
    → seek 0 (row path ∷ []) target ≡ cond (has_path path target) (Some path.route) None
seek-path path target front e =
    seek-front path.front (tokens path.parts) path.route target front ∙ by (after_front path.front target) (after-bytes path.front target e)
  where
    by : (found : Option (List ℕ)) → ((rest : List ℕ) → found ≡ Some rest → are_bytes rest ≡ true)
        → on_rest ((tokens path.parts, path.route) ∷ []) found ≡ cond (has_parts path.parts found) (Some path.route) None
    by None h = refl
    by (Some rest) h = seek-parts path.parts path.route rest (h rest refl)

or_else-cond : (b : Bool) (route : Route) (other : Option Route) → or_else (cond b (Some route) None) other ≡ cond b (Some route) other
or_else-cond true route other = refl
or_else-cond false route other = refl

pub seek-rows : (paths : List Path) (target : List ℕ) → are_separate paths ≡ true → are_bytes target ≡ true
    → seek 0 (rows paths) target ≡ route_among paths target
seek-rows [] target separate e = seek-nil 0 target
seek-rows (path ∷ rest) target separate e =
    let front = both (are_bytes path.front) (is_apart (path.front ++ tokens path.parts) (rows rest) && are_separate rest) separate in
    let others = both (is_apart (path.front ++ tokens path.parts) (rows rest)) (are_separate rest) front.1 in
    seek-apart (path.front ++ tokens path.parts) path.route (rows rest) target others.0
    ∙ ap (λ z. or_else z (seek 0 (rows rest) target)) (seek-path path target front.0 e)
    ∙ ap (or_else (cond (has_path path target) (Some path.route) None)) (seek-rows rest target others.1 e)
    ∙ or_else-cond (has_path path target) path.route (route_among rest target)

-- ---- the routes of the table

rows-routes : rename value_of routes ≡ rows paths
unfolding routes matchit_on_literals
rows-routes = refl

bytes-all : (text : List ℕ) → ((i : ℕ) → get_or text i 0 < 256) → are_bytes text ≡ true
bytes-all [] h = refl
bytes-all (b ∷ text) h =
    let one : ltb b 256 ≡ true = let small = h 0 in grind (arith, nat_tests) in
    rw one (bytes-all text (λ i. h (suc i)))

-- the router of the table finds what a target is for
pub finds_route : (target : List ℕ) → ((i : ℕ) → get_or target i 0 < 256) → routed target ≡ route_at target
unfolding route_at
finds_route target h =
    sym (first-rename value_of routes target)
    ∙ ap (λ (z : RowsOf Route). seek 0 z target) rows-routes
    ∙ seek-rows paths target refl (bytes-all target h)
