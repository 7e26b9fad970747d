-- Lemmas on how much of the input was taken from the reader.
use Rattle.std.proofs.Common.{◌≡◌, ◌⊎◌, inl, inr, sym, subst, ℕ, ◌+◌, ◌-◌, ◌≤◌, List, ◌++◌, length, drop}
use Rattle.std.proofs.Common.{Option, arith, length-append}
use Rattle.std.specs.Io.KnownBytes.{Consumes}
use Rattle.std.proofs.lemmas.Bool.{cases_lt}
use Rattle.httparse.specs.Grammar.{RequestHead}
use Rattle.wb_streams.specs.Bodies.{TookLess, TookNoMore}
use Rattle.wb_streams.specs.Heads.{IsHeadAt, head_limit}
use Rattle.wb_api.specs.Requests.{IsRequestFrontWith, IsWithinRequestWith, LacksMemoryWith, LacksRest, body_length}
use Rattle.wb_api.specs.Requests.{wanted_of_with}
use Rattle.wb_api.specs.declared.service.Service.{Service}
use Rattle.wb_api.proofs.RequestLemmas.{IsHead-from}
use Rattle.wb_streams.proofs.StreamLemmas.{Consumes-then}

-- no more than was missing: all together is no more than was wanted, or nothing was taken
missing_cases : (already taken wanted : ℕ) → taken ≤ wanted - already → (already + taken ≤ wanted) ⊎ (taken ≡ 0)
missing_cases already taken wanted less = elim (cases_lt already wanted) [
  | inl some ↦ inl (omega arith)
  | inr none ↦ inr (omega arith)
]

-- a head came, and then less than its body
pub front_from : (service : Service) (old mid new : Option (List ℕ)) (seen : List ℕ) (count : ℕ) (head : RequestHead)
    → Consumes old mid seen → length seen ≤ head_limit → IsHeadAt seen count head
    → TookLess (drop count seen) (body_length (wanted_of_with service head)) mid new
    → (all : List ℕ) × Consumes old new all × IsRequestFrontWith service all
front_from service old mid new seen count head p within at (taken, q, less) = (
  seen ++ taken,
  Consumes-then old mid new seen taken p q,
  inr (head, drop count seen ++ taken, IsHead-from seen taken count head at within, less),
)

-- a head came, and then no more than its body
pub within_from : (service : Service) (old mid new : Option (List ℕ)) (seen : List ℕ) (count : ℕ) (head : RequestHead)
    → Consumes old mid seen → length seen ≤ head_limit → IsHeadAt seen count head
    → TookNoMore (drop count seen) (body_length (wanted_of_with service head)) mid new
    → (all : List ℕ) × Consumes old new all × IsWithinRequestWith service all
within_from service old mid new seen count head p within at (taken, q, less) =
    let rest : length (drop count seen ++ taken) ≡ length (drop count seen) + length taken = length-append (drop count seen) taken in
    let all : length (seen ++ taken) ≡ length seen + length taken = length-append seen taken in (
      seen ++ taken,
      Consumes-then old mid new seen taken p q,
      elim (missing_cases (length (drop count seen)) (length taken) (body_length (wanted_of_with service head)) less)
          as (λ _. IsWithinRequestWith service (seen ++ taken)) [
            | inl fits ↦ inr (
              head,
              drop count seen ++ taken,
              IsHead-from seen taken count head at within,
              subst (λ n. n ≤ body_length (wanted_of_with service head)) (sym rest) fits,
            )
            | inr none ↦ inl (omega arith)
          ],
    )

-- a head came, and then memory ran out for the rest of the request
pub lacks_from : (service : Service) (old mid new : Option (List ℕ)) (seen : List ℕ) (count : ℕ) (head : RequestHead)
    → Consumes old mid seen → length seen ≤ head_limit → IsHeadAt seen count head
    → ((taken : List ℕ) × Consumes mid new taken × LacksRest (wanted_of_with service head) (drop count seen) taken)
    → LacksMemoryWith service old new
lacks_from service old mid new seen count head p within at (taken, q, lacks) = record {
  head = head;
  came = seen;
  already = drop count seen;
  taken = taken;
  reads = Consumes-then old mid new seen taken p q;
  within = within;
  is = record { reads = at.reads; within = omega (arith, at.count_is, at.count_fits, within); fields = at.fields };
  lacks = lacks;
}
