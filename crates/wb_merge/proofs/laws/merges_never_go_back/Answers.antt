use Rattle.std.proofs.Common.{◌≡◌, ◌≢◌, ◌≤◌, Some, true, refl, sym, ap, ◌∙◌, arith, false}
use Rattle.std.specs.declared.cmp.Ordering.TheVariants.{Less, Equal}
use Rattle.std.specs.FinMap as finite
use Rattle.deb_version.specs.Order.{version_cmp}
use Rattle.wb_states.specs.declared.record.Record.{Record}
use Rattle.wb_states.specs.declared.state.State.TheVariants.{NotForUs}
use Rattle.wb_states.specs.State.{is_held}
use Rattle.wb_merge.specs.declared.listing.Listed.{Listed}
use Rattle.wb_merge.specs.Merge.{HasSameHold, ends_hold}
use Rattle.wb_merge.proofs.ForwardLemmas.{at-becomes, at-listed, not_back, version_itself, version-forward, number-forward, earlier-forward, not_for_us-forward, hold-forward, hold-ended}
use Rattle.wb_merge.proofs.laws.merges_never_go_back.Goals as goal

pub returns-clause-version : goal.returns-clause-version
returns-clause-version c old arch listing key current new becomes =
    at-becomes old arch listing key current new becomes (λ (r : Record). version_cmp r.version current.version ≢ Less)
    (λ is. not_back (sym (version_itself current.version) ∙ is))
    (λ listed _. version-forward listed (finite.get listing.built key.1) listing.available current)

pub returns-clause-number : goal.returns-clause-number
returns-clause-number c old arch listing key current new becomes =
    at-becomes old arch listing key current new becomes (λ (r : Record). version_cmp r.version current.version ≡ Equal → current.number ≤ r.number)
    (λ _. omega arith)
    (λ listed _. number-forward listed (finite.get listing.built key.1) listing.available current)

pub returns-clause-earlier : goal.returns-clause-earlier
returns-clause-earlier c old arch listing key current new becomes =
    at-becomes old arch listing key current new becomes (λ (r : Record). current.earlier ≡ true → r.earlier ≡ true)
    (λ is. is)
    (λ listed _. earlier-forward listed (finite.get listing.built key.1) listing.available current)

pub returns-clause-not_for_us : goal.returns-clause-not_for_us
returns-clause-not_for_us c old arch listing key current new becomes =
    at-becomes old arch listing key current new becomes (λ (r : Record). current.state ≡ NotForUs → r.state ≡ NotForUs)
    (λ is. is)
    (λ listed _. not_for_us-forward listed (finite.get listing.built key.1) listing.available current)

some-is : (one other : Listed) → Some one ≡ Some other → one ≡ other
some-is one other e = cc

pub returns-clause-hold : goal.returns-clause-hold
returns-clause-hold c old arch listing key current new listed becomes held there lasts =
    at-becomes old arch listing key current new becomes (λ (r : Record). HasSameHold current r)
    (record { state = refl; holder = refl; take = refl })
    (λ other found.
    hold-forward other (finite.get listing.built key.1) listing.available current held
    (ap (λ l. ends_hold l (finite.get listing.built key.1) current) (some-is other listed (sym found ∙ there)) ∙ lasts))

pub returns-clause-ended : goal.returns-clause-ended
returns-clause-ended c old arch listing key current new listed becomes here there ends =
    at-listed old arch listing key current new becomes (λ (r : Record). is_held r.state ≡ false) here
    (λ other found.
    hold-ended other (finite.get listing.built key.1) listing.available current
    (ap (λ l. ends_hold l (finite.get listing.built key.1) current) (some-is other listed (sym found ∙ there)) ∙ ends))
