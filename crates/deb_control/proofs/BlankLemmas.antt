-- Trimming: what is left when one space or tab goes, and when none is there.
use Rattle.std.proofs.Common.{◌≡◌, ◌≢◌, ◌∙◌, sym, ap, refl, ℕ, suc, ◌+◌, ◌<◌, true, false, ◌&&◌, length, get_or, drop, drop-cons, reverse, List, [], ◌∷◌, ◌++◌, Bor, MatchOption, Option, None, Some, arith}
use Rattle.std.specs.Prelude.{IfNone, IfSome, OnSome}
use Rattle.std.specs.List.{before_first, list_all, prefix_len}
use Rattle.std.proofs.lemmas.Bool.Decides.{nat_tests}
use Rattle.std.proofs.lemmas.List.{reverse-append, reverse-reverse, length-append}
use Rattle.deb_control.specs.Lines.{is_blank, is_continuation, is_line_feed, trim_start, trim_end}
use Rattle.deb_control.proofs.LineLemmas.{before-other}

-- a character other than a space and a tab is no blank
is_blank-other : (c : ℕ) → c ≢ 32 → c ≢ 9 → is_blank c ≡ false
is_blank-other c not_space not_tab = grind (arith, nat_tests)

-- a text that begins with neither a space nor a tab continues nothing
is_continuation-other : (text : List ℕ) → ((rest : List ℕ) → text ≢ 32 ∷ rest) → ((rest : List ℕ) → text ≢ 9 ∷ rest) → is_continuation text ≡ false
is_continuation-other [] no_space no_tab = refl
is_continuation-other (c ∷ cs) no_space no_tab =
    is_blank-other c (λ e. no_space cs (ap (λ (x : ℕ). x ∷ cs) e)) (λ e. no_tab cs (ap (λ (x : ℕ). x ∷ cs) e))

-- what `strip_prefix` of a space or a tab tells
pub record AfterBlank (text : List ℕ) (r : Option (Bor (List ℕ))) : Type 0 where
  pub none : IfNone r (is_continuation text ≡ false)
  pub some : OnSome r (is_continuation text ≡ true)
  pub rest : IfSome r (λ rest. rest.now ≡ drop 1 text)

pub after_space : (text : List ℕ) (x : Bor (List ℕ)) → text ≡ 32 ∷ x.now → AfterBlank text (Some x)
after_space text x is = record { none = tt; some = ap is_continuation is; rest = sym (ap (drop 1) is) }

pub after_tab : (text : List ℕ) (r : Option (Bor (List ℕ))) → ((rest : List ℕ) → text ≢ 32 ∷ rest)
    → MatchOption r ((rest : List ℕ) → text ≢ 9 ∷ rest) (λ x. text ≡ 9 ∷ x.now) → AfterBlank text r
after_tab text None no_space no_tab = record { none = is_continuation-other text no_space no_tab; some = tt; rest = tt }
after_tab text (Some x) no_space tab = record { none = tt; some = ap is_continuation tab; rest = sym (ap (drop 1) tab) }

-- a text that begins with no blank stays as it is
pub trim_start-kept : (text : List ℕ) → is_continuation text ≡ false → trim_start text ≡ text
trim_start-kept [] other = refl
trim_start-kept (c ∷ cs) other = rw other refl

-- a space or tab at the start goes
pub trim_start-blank : (text : List ℕ) → is_continuation text ≡ true → trim_start (drop 1 text) ≡ trim_start text
trim_start-blank [] blank = refl
trim_start-blank (c ∷ cs) blank =
    let one : 1 + prefix_len is_blank cs ≡ suc (prefix_len is_blank cs) = omega arith in
    rw blank (sym (ap (λ (k : ℕ). drop k (c ∷ cs)) one))

pub length-after_blank : (text : List ℕ) → is_continuation text ≡ true → length (drop 1 text) < length text
length-after_blank [] blank = cc
length-after_blank (c ∷ cs) blank = omega arith

-- a space or tab at the end goes
pub trim_end-blank : (text : List ℕ) (c : ℕ) (front : List ℕ) → is_blank c ≡ true → text ≡ front ++ c ∷ [] → trim_end front ≡ trim_end text
unfolding trim_end
trim_end-blank text c front blank is =
    ap reverse (trim_start-blank (c ∷ reverse front) blank)
    ∙ ap (λ (x : List ℕ). reverse (trim_start x)) (sym (ap reverse is ∙ reverse-append front (c ∷ [])))

pub length-before_blank : (text : List ℕ) (c : ℕ) (front : List ℕ) → text ≡ front ++ c ∷ [] → length front < length text
length-before_blank text c front is = rw is (omega (arith, length-append front (c ∷ [])))

-- a text that ends with this character, read backwards
last_is : (text : List ℕ) (c : ℕ) (rest : List ℕ) → reverse text ≡ c ∷ rest → text ≡ reverse rest ++ c ∷ []
last_is text c rest is = sym (reverse-reverse text) ∙ (ap reverse is ∙ reverse-append (c ∷ []) rest)

-- a text that ends with no blank stays as it is
trim_end-kept : (text : List ℕ) → ((front : List ℕ) → text ≢ front ++ 32 ∷ []) → ((front : List ℕ) → text ≢ front ++ 9 ∷ []) → trim_end text ≡ text
unfolding trim_end
trim_end-kept text no_space no_tab =
    ap reverse (trim_start-kept (reverse text)
    (is_continuation-other (reverse text) (λ rest e. no_space (reverse rest) (last_is text 32 rest e)) (λ rest e. no_tab (reverse rest) (last_is text 9 rest e))))
    ∙ reverse-reverse text

-- what `strip_suffix` of a space or a tab tells
pub record BeforeBlank (text : List ℕ) (r : Option (Bor (List ℕ))) : Type 0 where
  pub none : IfNone r (trim_end text ≡ text)
  pub same : IfSome r (λ rest. trim_end rest.now ≡ trim_end text)
  pub shorter : IfSome r (λ rest. length rest.now < length text)

pub before_space : (text : List ℕ) (x : Bor (List ℕ)) → text ≡ x.now ++ 32 ∷ [] → BeforeBlank text (Some x)
before_space text x is = record { none = tt; same = trim_end-blank text 32 x.now refl is; shorter = length-before_blank text 32 x.now is }

pub before_tab : (text : List ℕ) (r : Option (Bor (List ℕ))) → ((front : List ℕ) → text ≢ front ++ 32 ∷ [])
    → MatchOption r ((front : List ℕ) → text ≢ front ++ 9 ∷ []) (λ x. text ≡ x.now ++ 9 ∷ []) → BeforeBlank text r
before_tab text None no_space no_tab = record { none = trim_end-kept text no_space no_tab; same = tt; shorter = tt }
before_tab text (Some x) no_space tab =
    record { none = tt; same = trim_end-blank text 9 x.now refl tab; shorter = length-before_blank text 9 x.now tab }

-- ---- the first line, byte by byte

blank-after : (n : ℕ) → suc n ≡ n + 1
blank-after n = omega arith

blank-goes-on : (c : ℕ) (cs : List ℕ) → is_line_feed c ≡ false → is_blank c ≡ true
    → list_all is_blank (before_first is_line_feed cs) ≡ list_all is_blank (before_first is_line_feed (c ∷ cs))
blank-goes-on c cs other blank = sym (ap (list_all is_blank) (before-other c cs other) ∙ ap (λ b. b && list_all is_blank (before_first is_line_feed cs)) blank)

blank-stops-at : (c : ℕ) (cs : List ℕ) → is_line_feed c ≡ false → is_blank c ≡ false → false ≡ list_all is_blank (before_first is_line_feed (c ∷ cs))
blank-stops-at c cs other not_blank = sym (ap (list_all is_blank) (before-other c cs other) ∙ ap (λ b. b && list_all is_blank (before_first is_line_feed cs)) not_blank)

pub blank-goes : (text : List ℕ) (at : ℕ) → at < length text → is_line_feed (get_or text at 0) ≡ false → is_blank (get_or text at 0) ≡ true
    → list_all is_blank (before_first is_line_feed (drop (at + 1) text)) ≡ list_all is_blank (before_first is_line_feed (drop at text))
blank-goes text at lt other blank =
    ap (λ n. list_all is_blank (before_first is_line_feed (drop n text))) (sym (blank-after at))
    ∙ blank-goes-on (get_or text at 0) (drop (suc at) text) other blank
    ∙ ap (λ (l : List ℕ). list_all is_blank (before_first is_line_feed l)) (sym (drop-cons text at 0 lt))

pub blank-stops : (text : List ℕ) (at : ℕ) → at < length text → is_line_feed (get_or text at 0) ≡ false → is_blank (get_or text at 0) ≡ false
    → false ≡ list_all is_blank (before_first is_line_feed (drop at text))
blank-stops text at lt other not_blank =
    blank-stops-at (get_or text at 0) (drop (suc at) text) other not_blank
    ∙ ap (λ (l : List ℕ). list_all is_blank (before_first is_line_feed l)) (sym (drop-cons text at 0 lt))

pub no_feed : (c : ℕ) → c ≢ 10 → is_line_feed c ≡ false
no_feed c other = grind (arith, nat_tests)
