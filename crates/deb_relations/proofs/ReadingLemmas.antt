-- What the reading of a text is, by its length and by what its groups are read as.
use Rattle.std.proofs.Common.{◌≡◌, ◌≢◌, subst, ℕ, ◌<◌, ◌≤◌, Bool, true, false, cond, ltb, List, length, Option, None, Some, Result, Ok, Err, sym, ap, ◌∙◌, arith, refl}
use Rattle.std.specs.Option.{ok_or}
use Rattle.std.proofs.lemmas.Bool.Decides.{nat_tests}
use Rattle.deb_relations.specs.declared.fault.RelationFault.{RelationFault}
use Rattle.deb_relations.specs.declared.fault.RelationFault.TheVariants.{TooLong}
use Rattle.deb_relations.specs.declared.relations.Alternative.{Alternative}
use Rattle.deb_relations.specs.Grammar.{Reads, relations_limit}
use Rattle.deb_relations.specs.Reader.{read_groups}
use Rattle.deb_relations.specs.Reading.{groups_fault, reading_of}
use Rattle.deb_relations.proofs.CompleteLemmas.{reads-complete}
use Rattle.deb_relations.proofs.FaultLemmas.{Tells, groups-tell}
use Rattle.deb_relations.proofs.SoundLemmas.{reads-sound}

abbrev Groups : Type 0
Groups = List (List Alternative)

abbrev Answer : Type 0
Answer = Result Groups RelationFault

is-long : (n : ℕ) → relations_limit < n → ltb relations_limit n ≡ true
is-long n h = grind (arith, nat_tests)

is-short : (n : ℕ) → n ≤ relations_limit → ltb relations_limit n ≡ false
is-short n h = grind (arith, nat_tests)

long-is : (n : ℕ) → ltb relations_limit n ≡ true → relations_limit < n
long-is n h = grind (arith, nat_tests)

short-is : (n : ℕ) → ltb relations_limit n ≡ false → n ≤ relations_limit
short-is n h = grind (arith, nat_tests)

pub reading-long : (t : List ℕ) → relations_limit < length t → reading_of t ≡ Err TooLong
unfolding reading_of
reading-long t l = ap (λ b. cond b (Err TooLong) (ok_or (read_groups t) (groups_fault t))) (is-long (length t) l)

reading-short : (t : List ℕ) → length t ≤ relations_limit → reading_of t ≡ ok_or (read_groups t) (groups_fault t)
unfolding reading_of
reading-short t l = ap (λ b. cond b (Err TooLong) (ok_or (read_groups t) (groups_fault t))) (is-short (length t) l)

pub reading-groups : (t : List ℕ) (groups : Groups) → length t ≤ relations_limit → read_groups t ≡ Some groups → reading_of t ≡ Ok groups
reading-groups t groups l h = reading-short t l ∙ ap (λ o. ok_or o (groups_fault t)) h

pub reading-fault : (t : List ℕ) (fault : RelationFault) → length t ≤ relations_limit → read_groups t ≡ None → fault ≡ groups_fault t → reading_of t ≡ Err fault
reading-fault t fault l h e = reading-short t l ∙ ap (λ o. ok_or o (groups_fault t)) h ∙ ap Err (sym e)

-- the three readings of a text: too long, its groups, or the fault of a text without a reading
pub data Read (t : List ℕ) (answer : Answer) : Type 0 where
  long : relations_limit < length t → answer ≡ Err TooLong → Read t answer
  whole : (made : Groups) → length t ≤ relations_limit → read_groups t ≡ Some made → answer ≡ Ok made → Read t answer
  faulty : length t ≤ relations_limit → answer ≡ Err (groups_fault t) → Read t answer

read-by : (t : List ℕ) → length t ≤ relations_limit → (o : Option Groups) → read_groups t ≡ o → Read t (ok_or o (groups_fault t))
read-by t l None e = faulty l refl
read-by t l (Some made) e = whole made l e refl

read-at : (t : List ℕ) (b : Bool) → ltb relations_limit (length t) ≡ b → Read t (cond b (Err TooLong) (ok_or (read_groups t) (groups_fault t)))
read-at t true e = long (long-is (length t) e) refl
read-at t false e = read-by t (short-is (length t) e) (read_groups t) refl

pub read-of : (t : List ℕ) → Read t (reading_of t)
unfolding reading_of
read-of t = read-at t (ltb relations_limit (length t)) refl

ok-same : (a b : Groups) (answer : Answer) → answer ≡ Ok a → answer ≡ Ok b → a ≡ b
ok-same a b answer h k = let same : ◌≡◌ {A = Answer} (Ok a) (Ok b) = sym h ∙ k in cc

reads-by : (t : List ℕ) (groups : Groups) (answer : Answer) → Read t answer → answer ≡ Ok groups → Reads t groups
reads-by t gs answer (long l e) h = absurd (cc)
reads-by t gs answer (whole made l r e) h = reads-sound t gs l (r ∙ ap Some (ok-same made gs answer e h))
reads-by t gs answer (faulty l e) h = absurd (cc)

pub reading-reads : (t : List ℕ) (groups : Groups) → reading_of t ≡ Ok groups → Reads t groups
reading-reads t groups h = reads-by t groups (reading_of t) (read-of t) h

short-enough : (t : List ℕ) (groups : Groups) → Reads t groups → length t ≤ relations_limit
unfolding Reads
short-enough t groups h = h.0

pub reads-reading : (t : List ℕ) (groups : Groups) → Reads t groups → reading_of t ≡ Ok groups
reads-reading t groups h = reading-groups t groups (short-enough t groups h) (reads-complete t groups h)

pub one-reading : (t : List ℕ) (a b : Groups) → Reads t a → Reads t b → a ≡ b
one-reading t a b p q = ok-same a b (reading_of t) (reads-reading t a p) (reads-reading t b q)

not-both : (fault : RelationFault) (made : Groups) (answer : Answer) → answer ≡ Ok made → answer ≡ Err fault → ⊥
not-both fault made answer h k = let same : ◌≡◌ {A = Answer} (Ok made) (Err fault) = sym h ∙ k in cc

err-same : (a b : RelationFault) (answer : Answer) → answer ≡ Err a → answer ≡ Err b → a ≡ b
err-same a b answer h k = let same : ◌≡◌ {A = Answer} (Err a) (Err b) = sym h ∙ k in cc

tells-by : (t : List ℕ) (fault : RelationFault) (answer : Answer) → Read t answer → answer ≡ Err fault → fault ≢ TooLong → Tells t fault
tells-by t fault answer (long l e) h n = absurd (n (err-same fault TooLong answer h e))
tells-by t fault answer (whole made l r e) h n = absurd (not-both fault made answer e h)
tells-by t fault answer (faulty l e) h n = subst (Tells t) (err-same (groups_fault t) fault answer e h) (groups-tell t)

pub reading-tells : (t : List ℕ) (fault : RelationFault) → reading_of t ≡ Err fault → fault ≢ TooLong → Tells t fault
reading-tells t fault h n = tells-by t fault (reading_of t) (read-of t) h n

long-by : (t : List ℕ) (answer : Answer) → Read t answer → answer ≡ Err TooLong → relations_limit < length t
long-by t answer (long l e) h = l
long-by t answer (whole made l r e) h = absurd (not-both TooLong made answer e h)
long-by t answer (faulty l e) h = absurd (subst (Tells t) (err-same (groups_fault t) TooLong answer e h) (groups-tell t))

pub reading-is_long : (t : List ℕ) → reading_of t ≡ Err TooLong → relations_limit < length t
reading-is_long t h = long-by t (reading_of t) (read-of t) h
